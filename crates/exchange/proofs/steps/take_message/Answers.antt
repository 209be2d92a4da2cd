use Rattle.std.proofs.Common.{rules, ℕ, sym, ap, ◌∙◌, Some, refl}
use Rattle.exchange.specs.declared.rule.StorageState.{StorageState}
use Rattle.exchange.specs.Lanes.{SeatState, lane_slot}
use Rattle.exchange.specs.Seats.{storage_state_in}
use Rattle.exchange.proofs.StorageSteps.{opens_seen}
use Rattle.exchange.proofs.Known.{in_front, same_content}
use Rattle.exchange.proofs.steps.take_message.Goals as goal

pub load-requires : goal.load-requires
load-requires c = let h = c.requires.seen in let d : StorageState = storage_state_in c.args.seat.now.me.0 in (
  search rules,
  search rules,
  opens_seen _ _ _ _ d c.args.lane h.3.0 h.3.1
      (ap (λ (m : SeatState). m.0) h.0) h.2 c.requires.table.2 h.3.2 h.3.3,
)

pub exchange-requires : goal.exchange-requires
exchange-requires c = let h = c.requires.seen in
    let d : StorageState = storage_state_in c.args.seat.now.me.0 in let w : ℕ = c.args.lane in
    let told = c.load.ensures.2 d w h.3.0 h.3.1 (ap (λ (m : SeatState). m.0) h.0) refl h.3.2 h.3.3 in (
      search rules,
      (Some told.0, in_front _ _ _ _ _ _ told.2 (c.slot_at-slot.ensures ∙ (λ j. lane_slot w (sym h.1 j)))),
    )

pub unwrap-requires : goal.unwrap-requires
unwrap-requires c = let h = c.requires.seen in
    let d : StorageState = storage_state_in c.args.seat.now.me.0 in let w : ℕ = c.args.lane in
    let told = c.load.ensures.2 d w h.3.0 h.3.1 (ap (λ (m : SeatState). m.0) h.0) refl h.3.2 h.3.3 in
    rw (sym (same_content _ _ _ _ _
    (in_front _ _ _ _ _ _ told.2 (c.slot_at-slot.ensures ∙ (λ j. lane_slot w (sym h.1 j)))) c.exchange.ensures.2)) refl
