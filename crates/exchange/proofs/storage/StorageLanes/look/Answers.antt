use Rattle.std.proofs.Common.{rules, inr, refl, sym, ap, ◌∙◌, subst}
use Rattle.atomic_table.specs.Seated.{TableId}
use Rattle.exchange.specs.declared.rule.StorageState.{StorageState}
use Rattle.exchange.specs.declared.rule.LaneView.TheVariants.{Storage}
use Rattle.exchange.specs.Ends.{StorageLanesView, LooksAt, SeesNext}
use Rattle.exchange.specs.Lanes.{SeatState}
use Rattle.exchange.specs.Steps.{looked_at}
use Rattle.exchange.specs.Seats.{storage_state_in, storage_view, carried_by, StorageAgrees, HasUntold, IsNamed}
use Rattle.exchange.proofs.StorageSteps.{loads_posted}
use Rattle.exchange.proofs.Fields.{idle_is, by_look}
use Rattle.exchange.proofs.storage.StorageLanes.look.Goals as goal

pub load-self-inside-requires : goal.load-self-inside-requires
load-self-inside-requires c = (
  search rules,
  search rules,
  loads_posted _ _ _ _ (storage_state_in c.self.inside.seat.me.0) c.args.lane
      (ap (λ (m : SeatState). m.0) c.self.invariant.3.seated) (search rules),
)

pub invariant_of-self : goal.invariant_of-self
invariant_of-self c = let a = c.self.inside in let d : StorageState = storage_state_in a.seat.me.0 in
    let inv = c.self.invariant.3 in let untold = c.self.invariant.4 in
    let new : StorageState = looked_at d c.args.lane c.load-self-inside.result in
    let idle = idle_is d.holding (λ w x e. (inv.holds w x e).2)
    (ap (λ (z : StorageLanesView). z.end.open_request) c.self.view_is ∙ c.requires.0) in
    let seated = inv.seated ∙ (λ j. let z : SeatState = (Storage d, carried_by d (idle j)) in z) in
    let looked = c.load-self-inside.ensures.2 d c.args.lane (ap (λ (m : SeatState). m.0) seated) refl
    ∙ (λ j. let z : SeatState = (Storage new, (seated j).1) in z) in (
      search rules,
      search rules,
      search rules,
      subst (λ (m : SeatState). StorageAgrees m a.workers a.last a.counts a.open_now) (sym looked) record {
        seated = λ j. let z : SeatState = (Storage new, carried_by new (sym idle j)) in z;
        few = inv.few;
        room = inv.room;
        counts_are = inv.counts_are;
        open_is = inv.open_is;
        holds = inv.holds;
      },
      subst (λ (m : SeatState). HasUntold (storage_state_in m.0) a.untold a.untold_lane a.workers) (sym looked) record {
        none_untold = untold.none_untold;
        some_untold = untold.some_untold;
        others = untold.others;
        inside = untold.inside;
      },
      subst (λ (m : SeatState). IsNamed (storage_state_in m.0) c.args.lane c.load-self-inside.result a.workers) (sym looked)
          (inr (d.looks, refl), search rules),
    )

pub take_named-requires : goal.take_named-requires
take_named-requires c = let a = c.self.inside in let d : StorageState = storage_state_in a.seat.me.0 in
    let inv = c.self.invariant.3 in
    let idle = idle_is d.holding (λ w x e. (inv.holds w x e).2)
    (ap (λ (z : StorageLanesView). z.end.open_request) c.self.view_is ∙ c.requires.0) in
    let seated = inv.seated ∙ (λ j. let z : SeatState = (Storage d, carried_by d (idle j)) in z) in
    let looked = c.load-self-inside.ensures.2 d c.args.lane (ap (λ (m : SeatState). m.0) seated) refl
    ∙ (λ j. let z : SeatState = (Storage (looked_at d c.args.lane c.load-self-inside.result), (seated j).1) in z) in
    ap (λ (m : SeatState). (storage_view a.seat.table_id a.workers a.last (storage_state_in m.0)).open_request) looked
    ∙ (ap (λ (z : StorageLanesView). z.end.open_request) c.self.view_is ∙ c.requires.0)

pub returns-clause-told : goal.returns-clause-told
returns-clause-told c = let a = c.self.inside in let d : StorageState = storage_state_in a.seat.me.0 in
    let inv = c.self.invariant.3 in
    let idle = idle_is d.holding (λ w x e. (inv.holds w x e).2)
    (ap (λ (z : StorageLanesView). z.end.open_request) c.self.view_is ∙ c.requires.0) in
    let seated = inv.seated ∙ (λ j. let z : SeatState = (Storage d, carried_by d (idle j)) in z) in
    let looked = c.load-self-inside.ensures.2 d c.args.lane (ap (λ (m : SeatState). m.0) seated) refl
    ∙ (λ j. let z : SeatState = (Storage (looked_at d c.args.lane c.load-self-inside.result), (seated j).1) in z) in
    c.take_named.ensures.told ∙ (ap (λ (m : SeatState). (storage_state_in m.0).told) looked
    ∙ ap (λ (z : StorageLanesView). z.told) c.self.view_is)

pub returns-clause-looks : goal.returns-clause-looks
returns-clause-looks c = let a = c.self.inside in let d : StorageState = storage_state_in a.seat.me.0 in
    let inv = c.self.invariant.3 in
    let idle = idle_is d.holding (λ w x e. (inv.holds w x e).2)
    (ap (λ (z : StorageLanesView). z.end.open_request) c.self.view_is ∙ c.requires.0) in
    let seated = inv.seated ∙ (λ j. let z : SeatState = (Storage d, carried_by d (idle j)) in z) in
    let looked = c.load-self-inside.ensures.2 d c.args.lane (ap (λ (m : SeatState). m.0) seated) refl
    ∙ (λ j. let z : SeatState = (Storage (looked_at d c.args.lane c.load-self-inside.result), (seated j).1) in z) in
    let new = c.take_named.new.self.end in
    subst (λ (z : StorageLanesView). LooksAt z.end c.args.lane c.take_named.result new) c.self.view_is
    (by_look (storage_view a.seat.table_id a.workers a.last d) new c.args.lane
    c.load-self-inside.result c.take_named.result
    (subst (λ (z : TableId × SeatState). SeesNext (storage_view z.0 a.workers a.last (storage_state_in z.1.0))
    c.take_named.result new) (λ j. (c.load-self-inside.ensures.0 j, looked j)) c.take_named.ensures.next))
