use Rattle.std.proofs.Common.{◌≡◌, ap, ◌∙◌}
use Rattle.index.specs.Layouts.{tag_of}
use Rattle.index.proofs.PackedSlots.{can_hold}
use Rattle.index.proofs.index.start_of.Goals as goal

pub returns-clause-fits : goal.returns-clause-fits
returns-clause-fits c =
    let l = c.args.slots.now.layout in
    let tag_is : c.tag_of.result ≡ tag_of l c.hash_of-hash.result =
    c.tag_of.ensures.value ∙ ap (λ y. tag_of y c.hash_of-hash.result) c.layout.ensures.value in
    λ place inside. rw tag_is (can_hold l c.hash_of-hash.result place (rw c.layout.ensures.value at c.layout.ensures.layout)
    c.hash_of-hash.type_inv inside)
