use Rattle.std.proofs.Common.{◌≡◌, refl, ◌∙◌, arith}
use Rattle.reference.proofs.Serving.{behind, fed_going}
use Rattle.reference.proofs.sequential_session.SequentialSession.feed.Goals as goal

pub returns-else-taken-gt0 : goal.returns-else-taken-gt0
returns-else-taken-gt0 g c =
    let items = c.as_slice.ensures.value ∙ c.in_ok-extend_from_slice.ensures.items in
    let none : c.in_ok-taken.taken ≡ 0 = omega arith in
    fed_going _ _ _ _ c.args.piece.now c.in_ok-taken.taken c.if-self.false
    refl (rw items at c.in_ok-taken.ensures.answered)
    (rw items at c.in_ok-taken.ensures.more)
    (rw none c.in_ok-extend_from_slice.ensures.items)

pub returns-in_ok-self : goal.returns-in_ok-self
returns-in_ok-self g c =
    let items = c.as_slice.ensures.value ∙ c.in_ok-extend_from_slice.ensures.items in
    let whole = c.deref.ensures.value ∙ c.in_ok-extend_from_slice.ensures.items in
    let left = c.in_ok-self.ensures.items ∙ behind c.in_ok-taken.taken c.deref.result.now in
    fed_going _ _ _ _ c.args.piece.now c.in_ok-taken.taken c.if-self.false
    refl (rw items at c.in_ok-taken.ensures.answered)
    (rw items at c.in_ok-taken.ensures.more)
    (rw whole at left)
