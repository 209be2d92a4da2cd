use Rattle.std.proofs.Common.{rules, arith, ◌≡◌, ℕ, ◌+◌, ◌∷◌, [], refl, sym, ap, ◌∙◌, None}
use Rattle.std.specs.Prelude.{slice_index}
use Rattle.exchange.specs.declared.messages.LaneMessage.TheVariants.{Bye}
use Rattle.exchange.specs.declared.rule.StorageState.{StorageState}
use Rattle.exchange.specs.declared.rule.LaneView.TheVariants.{Storage}
use Rattle.exchange.specs.Ends.{StorageLanesView}
use Rattle.exchange.specs.Lanes.{SeatState, lane_slot}
use Rattle.exchange.specs.Steps.{bye_settled}
use Rattle.exchange.specs.Seats.{storage_state_in, storage_at, carried_by, HoldsTaken}
use Rattle.exchange.proofs.Known.{settles_bye_as}
use Rattle.exchange.proofs.Fields.{idle_is, named_look}
use Rattle.exchange.proofs.storage.StorageLanes.take_named.Goals as goal

pub take_message-requires-clause-seen : goal.take_message-requires-clause-seen
take_message-requires-clause-seen c = let d : StorageState = storage_state_in c.self.inside.seat.me.0 in
    let inv = c.self.invariant.3 in
    let named = c.self.invariant.5 in let lane : ℕ = c.self.inside.looked_lane in
    let idle = idle_is d.holding (λ w x e. (inv.holds w x e).2)
    (ap (λ (z : StorageLanesView). z.end.open_request) c.self.view_is ∙ c.requires) in
    let count_is = inv.counts_are lane named.1 in (
      inv.seated ∙ (λ j. let z : SeatState = (Storage d, carried_by d (idle j)) in z),
      sym count_is,
      idle,
      named_look d lane c.self.inside.named c.self.inside.workers _ named count_is (search rules),
    )

pub store-requires : goal.store-requires
store-requires c = let me : SeatState = c.take_message.new.seat.me in
    let d : StorageState = storage_state_in me.0 in let lane : ℕ = c.self.inside.looked_lane in
    let h : HoldsTaken me lane (slice_index c.self.inside.counts lane) Bye =
    (search rules, search rules, search rules, search rules) in (
      search rules,
      search rules,
      settles_bye_as _ _ _ _ d lane _ _ (h.0 ∙ (λ j. (Storage d, (lane_slot lane (sym h.1 j), None) ∷ []))) refl
          (ap (λ (z : ℕ). z + 1) (sym h.1) ∙ (omega arith)) h.2 (search rules),
    )

pub returns-in-Ask-clause-next : goal.returns-in-Ask-clause-next
returns-in-Ask-clause-next c = (
  c.self.inside.looked_lane,
  c.self.inside.named,
  search rules,
  search rules,
  search rules,
  search rules,
  search rules,
)

pub invariant_of-self-in-Bye : goal.invariant_of-self-in-Bye
invariant_of-self-in-Bye c = let me : SeatState = c.take_message.new.seat.me in
    let lane : ℕ = c.self.inside.looked_lane in
    let h : HoldsTaken me lane (slice_index c.self.inside.counts lane) Bye =
    (search rules, search rules, search rules, search rules) in
    let settled : c.store.new.seat.me ≡ (Storage (bye_settled (storage_at me) lane), []) =
    c.store.ensures.2 (storage_at me) lane _ h.0 h.2 in
    search rules

pub returns-in-Bye-clause-next : goal.returns-in-Bye-clause-next
returns-in-Bye-clause-next c = let me : SeatState = c.take_message.new.seat.me in
    let lane : ℕ = c.self.inside.looked_lane in
    let h : HoldsTaken me lane (slice_index c.self.inside.counts lane) Bye =
    (search rules, search rules, search rules, search rules) in
    let settled : c.store.new.seat.me ≡ (Storage (bye_settled (storage_at me) lane), []) =
    c.store.ensures.2 (storage_at me) lane _ h.0 h.2 in
    (lane, c.self.inside.named, search rules, search rules, search rules, search rules, search rules)

pub returns-in-Bye-clause-told : goal.returns-in-Bye-clause-told
returns-in-Bye-clause-told c = let me : SeatState = c.take_message.new.seat.me in
    let lane : ℕ = c.self.inside.looked_lane in
    let h : HoldsTaken me lane (slice_index c.self.inside.counts lane) Bye =
    (search rules, search rules, search rules, search rules) in
    let settled : c.store.new.seat.me ≡ (Storage (bye_settled (storage_at me) lane), []) =
    c.store.ensures.2 (storage_at me) lane _ h.0 h.2 in
    search rules
