use Rattle.std.proofs.Common.{◌≡◌, ◌∙◌, sym, ap, Some, None, Option, true, false}
use Rattle.std.specs.Prelude.{option_map}
use Rattle.std.specs.FinMap as finite
use Rattle.proto.specs.Cache.{has_arrived}
use Rattle.proto.proofs.CacheLemmas.{if_live}
use Rattle.segments.specs.declared.place.Place.{Place}
use Rattle.segments.specs.Pools.{place_deadline}
use Rattle.segcache.specs.Shown.{current, entry_at, shown_entries}
use Rattle.segcache.proofs.ShownItems.{get-live_in, not_live, entry_live}
use Rattle.engine.specs.Shown.{entry_of}
use Rattle.segcache.proofs.TiedParts.{current_item}
use Rattle.segcache.proofs.LeftEntries.{value_small}
use Rattle.segcache.proofs.segment_map.SegmentMapLiveMap.entry_found.Goals as goal

pub returns-in_err-place-clause-found : goal.returns-in_err-place-clause-found
returns-in_err-place-clause-found c =
    let a = c.self.inside in
    let p = a.pool in
    let m = current p a.index in
    let none : None ≡ finite.get m c.args.key.now = sym c.in_err-place.was ∙ c.place_found.ensures.place in
    let is : finite.get (shown_entries p a.index a.moment) c.args.key.now ≡ None =
    get-live_in p m a.moment c.args.key.now
    ∙ ap (λ (o : Option Place). if_live a.moment (option_map (entry_at p) o)) (sym none) in
    rw (c.from_residual.ensures, ← c.self.view_is) (sym is)

pub returns-then-has_arrived-clause-found : goal.returns-then-has_arrived-clause-found
returns-then-has_arrived-clause-found c =
    let a = c.self.inside in
    let p = a.pool in
    let m = current p a.index in
    let there : Some c.in_ok-place.place ≡ finite.get m c.args.key.now = c.in_ok-place.ensures.place in
    let arrived : has_arrived (place_deadline p c.in_ok-place.place) a.moment ≡ true =
    ap (λ d. has_arrived d a.moment)
    (sym c.entry_at-entry.ensures.deadline) ∙ sym c.has_arrived.ensures ∙ c.if-has_arrived.true in
    rw (← c.self.view_is) (sym (get-live_in p m a.moment c.args.key.now
    ∙ ap (λ (o : Option Place). if_live a.moment (option_map (entry_at p) o)) (sym there)
    ∙ not_live p c.in_ok-place.place a.moment arrived))

pub returns-clause-found : goal.returns-clause-found
returns-clause-found c =
    let a = c.self.inside in
    let p = a.pool in
    let m = current p a.index in
    let there : Some c.in_ok-place.place ≡ finite.get m c.args.key.now = c.in_ok-place.ensures.place in
    let waits : has_arrived (place_deadline p c.in_ok-place.place) a.moment ≡ false =
    ap (λ d. has_arrived d a.moment)
    (sym c.entry_at-entry.ensures.deadline) ∙ sym c.has_arrived.ensures ∙ c.if-has_arrived.false in
    let x = current_item p a.index c.args.key.now c.in_ok-place.place (sym there) in
    rw (← c.self.view_is) (ap Some c.entry_at-entry.ensures.entry
    ∙ sym (get-live_in p m a.moment c.args.key.now
    ∙ ap (λ (o : Option Place). if_live a.moment (option_map (entry_at p) o)) (sym there)
    ∙ entry_live p c.in_ok-place.place a.moment x.0 x.1 waits))

pub returns-clause-small : goal.returns-clause-small
returns-clause-small c =
    let a = c.self.inside in
    let p = a.pool in
    let m = current p a.index in
    let there : Some c.in_ok-place.place ≡ finite.get m c.args.key.now = c.in_ok-place.ensures.place in
    let x = current_item p a.index c.args.key.now c.in_ok-place.place (sym there) in
    value_small p c.in_ok-place.place x.0 (entry_of c.entry_at-entry.result) c.self.invariant.tied.known.pool x.1
    c.entry_at-entry.ensures.entry
