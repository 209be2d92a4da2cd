use Rattle.std.proofs.Common.{take, get_or, None, sym, ap, subst, ◌∙◌}
use Rattle.std.specs.Prelude.{IfSome}
use Rattle.segments.specs.declared.place.Move.{Move}
use Rattle.segments.specs.Marks.{IsWithin, unmarked_sources}
use Rattle.segments.proofs.MarkedPlaces.{unmarked_sizes, marked_sizes}
use Rattle.segments.proofs.live_marks.LiveMarks.carry.Goals as goal

pub unmark-requires : goal.unmark-requires
unmark-requires c =
    let i = c.loop-step.step-index in
    let moves = c.args.moves.now in
    let sizes = ap (λ t. t.sizes) c.loop-step.invariant ∙ unmarked_sizes c.args.self.now (take i moves) in
    let d : Move = record { source = record { segment = 0; offset = 0 }; target = None } in
    subst (λ s. IsWithin s (get_or moves i d).source) (sym sizes) (c.requires.sources i d c.loop-step-test.true)

pub mark-requires : goal.mark-requires
mark-requires c =
    let i = c.loop-step-2.step-index in
    let moves = c.args.moves.now in
    let sizes = ap (λ t. t.sizes) c.loop-step-2.invariant
    ∙ marked_sizes (unmarked_sources c.args.self.now moves) (take i moves)
    ∙ unmarked_sizes c.args.self.now moves in
    let d : Move = record { source = record { segment = 0; offset = 0 }; target = None } in
    let h = c.requires.targets i d c.loop-step-2-test.true in
    subst (λ s. IsWithin s c.in-Some.target) (sym sizes)
    (subst (λ o. IfSome o (IsWithin c.args.self.now.sizes)) c.in-Some.is h)
