use Rattle.std.proofs.Common.{rules, ℕ, ◌+◌, ◌^◌, ◌<◌, [], ◌∷◌, sym, ap, ◌∙◌, subst, None}
use Rattle.std.specs.Prelude.{slice_index}
use Rattle.proto.specs.declared.history.Posted.{Posted}
use Rattle.exchange.specs.declared.messages.LaneMessage.TheVariants.{Ask}
use Rattle.exchange.specs.declared.rule.StorageState.{StorageState}
use Rattle.exchange.specs.declared.rule.LaneView.TheVariants.{Storage}
use Rattle.exchange.specs.Beginnings.{posted_of}
use Rattle.exchange.specs.Ends.{StorageLanesView, StorageView}
use Rattle.exchange.specs.Lanes.{SeatState, lane_slot}
use Rattle.exchange.specs.Seats.{storage_state_in, carried_by}
use Rattle.exchange.proofs.Fields.{held_is}
use Rattle.exchange.proofs.storage.StorageLanes.answer_later.Goals as goal

pub put_answer-requires-clause-held : goal.put_answer-requires-clause-held
put_answer-requires-clause-held c = let d : StorageState = storage_state_in c.self.inside.seat.me.0 in
    let w : ℕ = c.args.answered.worker in
    let p : Posted = posted_of c.args.answered in let inv = c.self.invariant.3 in
    let held = held_is d.holding w p (ap (λ (z : StorageLanesView). z.end.open_request) c.self.view_is
    ∙ (ap (λ (z : StorageView). z.open_request) c.flush_others-told.ensures.end ∙ c.requires.open_request)) in
    let h = inv.holds w (Ask p) held in let n_is = inv.counts_are w h.0 in (
      inv.seated ∙ ((λ j. let z : SeatState = (Storage d, carried_by d (held j)) in z)
          ∙ (λ j. let z : SeatState = (Storage d, (lane_slot w (sym n_is j), None) ∷ []) in z)),
      sym n_is,
      held,
      subst (λ (z : ℕ). z + 1 < 2 ^ 64) (sym n_is) h.1,
    )

pub overflow_add-self : goal.overflow_add-self
overflow_add-self c = let d : StorageState = storage_state_in c.self.inside.seat.me.0 in
    let w : ℕ = c.args.answered.worker in
    let p : Posted = posted_of c.args.answered in let inv = c.self.invariant.3 in
    let held = held_is d.holding w p (ap (λ (z : StorageLanesView). z.end.open_request) c.self.view_is
    ∙ (ap (λ (z : StorageView). z.open_request) c.flush_others-told.ensures.end ∙ c.requires.open_request)) in
    let h = inv.holds w (Ask p) held in let n_is = inv.counts_are w h.0 in
    let small : slice_index c.self.inside.counts w + 1 < 2 ^ 64 = subst (λ (z : ℕ). z + 1 < 2 ^ 64) (sym n_is) h.1 in
    search rules
