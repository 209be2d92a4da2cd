use Rattle.std.proofs.Common.{List, ℕ, ◌+◌, take, drop, ap, ◌∙◌}
use Rattle.session_book.proofs.Blocks.{cut_behind}
use Rattle.session_book.proofs.buffer.Buffer.take_part.Goals as goal

pub returns-clause-part : goal.returns-clause-part
returns-clause-part c =
    c.behind.ensures ∙ ap (λ (b : List ℕ). drop (c.bytes.inside.start + c.args.from) b) c.truncate.ensures.items
    ∙ cut_behind c.bytes.inside.bytes.items c.bytes.inside.start c.args.from c.args.to
    ∙ ap (λ (b : List ℕ). drop c.args.from (take c.args.to b)) (c.bytes.view_is ∙ c.replace.ensures.value)
