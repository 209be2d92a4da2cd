use Rattle.std.proofs.Common.{◌≡◌, ap, ◌∙◌}
use Rattle.std.specs.Prelude.{MatchOption}
use Rattle.std.proofs.lemmas.Result.{IfOk-weaker}
use Rattle.script.proofs.LineLemmas.{line_meaning}
use Rattle.script.specs.Lines.{LineSays, SaysNothing}
use Rattle.script.specs.PlainLine.{line_in}
use Rattle.script.proofs.line.script_line.Goals as goal

pub returns : goal.returns
returns c =
    let line = c.args.line.now in
    IfOk-weaker c.line_of.result (λ found. found ≡ line_in c.new.result)
    (λ found. MatchOption found (SaysNothing line) (LineSays line))
    (λ found is. line_meaning line found (is ∙ ap line_in c.new.ensures)) c.line_of.ensures
