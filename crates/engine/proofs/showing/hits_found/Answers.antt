use Rattle.std.proofs.Common.{◌≡◌, ◌+◌, ◌-◌, ◌≤◌, ◌++◌, ◌∷◌, [], List, Some, get_or, drop, sum_by, sym, ap, subst, ◌∙◌}
use Rattle.std.specs.Prelude.{IsSome}
use Rattle.std.specs.FinMap as map
use Rattle.std.proofs.lemmas.List.{get_or_default}
use Rattle.proto.specs.Cache.{Entries}
use Rattle.proto.specs.Commands.{hits_of}
use Rattle.proto.specs.Hits.{Writing, hit_room}
use Rattle.proto.specs.declared.hits.Hit.{Hit}
use Rattle.engine.specs.Shown.{entry_of}
use Rattle.engine.specs.Counting.{CountsEach, keys_of}
use Rattle.engine.specs.Finding.{keys_found}
use Rattle.engine.proofs.HitLemmas.{hit_of, found_there, hits_more, room_less, room_first}
use Rattle.engine.proofs.CountLemmas.{counts_hit}
use Rattle.engine.proofs.showing.hits_found.Goals as goal

pub entry_at-entry-requires-clause-stands : goal.entry_at-entry-requires-clause-stands
entry_at-entry-requires-clause-stands g c =
    let i = c.loop-i.i in
    let first = c.index-found-i.result in
    subst (λ f. g.M.LiveMap.stands c.loop-i.map (get_or c.args.found.now i first).key.now f.place)
    (get_or_default c.args.found.now i first c.index-found-i-in-loop-i.result c.loop-i-test.true)
    (c.loop-i.invariant.are_found i first c.loop-i-test.true).stands

pub entry_at-entry-requires-clause-there : goal.entry_at-entry-requires-clause-there
entry_at-entry-requires-clause-there g c =
    (c.loop-i.invariant.are_found c.loop-i.i c.index-found-i.result c.loop-i-test.true).there

pub push-requires : goal.push-requires
push-requires g c =
    let entries = g.M.LiveMap.entries c.args.map.now in
    let found = c.args.found.now in
    let i = c.loop-i.i in
    let f = get_or found i c.index-found-i.result in
    let e = entry_of c.entry_at-entry.result in
    let there : Some e ≡ map.get entries f.key.now =
    c.entry_at-entry.ensures ∙ ap (λ (es : Entries). map.get es f.key.now) c.loop-i.invariant.entries in
    let hits = found_there c.args.with_cas entries found i c.index-found-i.result e c.loop-i-test.true there in
    let rest = hits_of c.args.with_cas entries (keys_found (drop (i + 1) found)) in
    let room = c.loop-i.invariant.room ∙ ap (sum_by hit_room) hits in
    subst (λ (h : Hit). hit_room h ≤ c.loop-i.hits.room) (sym c.hit_with.ensures.hit)
    (room_first c.loop-i.hits.room (hit_of c.args.with_cas f.key.now e) rest room)

pub count_read-requires : goal.count_read-requires
count_read-requires g c =
    let i = c.loop-i.i in
    let first = c.index-found-i.result in
    subst (λ f. g.M.LiveMap.stands c.loop-i.map (get_or c.args.found.now i first).key.now f.place)
    (get_or_default c.args.found.now i first c.index-found-i-in-loop-i.result c.loop-i-test.true)
    (c.loop-i.invariant.are_found i first c.loop-i-test.true).stands

pub loop-i-preserved : goal.loop-i-preserved
loop-i-preserved g c =
    let m = g.M.LiveMap in
    let inv = c.loop-i.invariant in
    let entries = m.entries c.args.map.now in
    let found = c.args.found.now in
    let i = c.loop-i.i in
    let f = get_or found i c.index-found-i.result in
    let e = entry_of c.entry_at-entry.result in
    let hit : Hit = hit_of c.args.with_cas f.key.now e in
    let there : Some e ≡ map.get entries f.key.now =
    c.entry_at-entry.ensures ∙ ap (λ (es : Entries). map.get es f.key.now) inv.entries in
    let hits = found_there c.args.with_cas entries found i c.index-found-i.result e c.loop-i-test.true there in
    let rest = hits_of c.args.with_cas entries (keys_found (drop (i + 1) found)) in
    let all = hits_of c.args.with_cas entries (keys_found found) in
    let whole = ap (λ (hs : List Hit). c.loop-i.hits.hits ++ hs) (sym hits) ∙ inv.found in
    let room = inv.room ∙ ap (sum_by hit_room) hits in
    let pushed : c.push.new.self ≡ record {
      hits = c.loop-i.hits.hits ++ hit ∷ [];
      room = c.loop-i.hits.room - hit_room hit;
    } =
    c.push.ensures
    ∙ ap (λ (h : Hit). let w : Writing = record {
      hits = c.loop-i.hits.hits ++ h ∷ [];
      room = c.loop-i.hits.room - hit_room h;
    } in w) c.hit_with.ensures.hit in
    let counted = counts_hit m.reads c.args.map.now c.loop-i.hits.hits c.loop-i.map hit c.count_read.new.self
    inv.counted c.count_read.ensures.counted in
    record {
      are_found = λ k d lt. record {
        there = subst (λ (es : Entries). IsSome (map.get es (get_or found k d).key.now))
            (sym c.count_read.ensures.entries) (inv.are_found k d lt).there;
        stands = c.count_read.ensures.stands _ _ (inv.are_found k d lt).stands;
      };
      found = ap (λ (w : Writing). w.hits ++ rest) pushed ∙ hits_more c.loop-i.hits.hits hit rest all whole;
      room = ap (λ (w : Writing). w.room) pushed ∙ room_less c.loop-i.hits.room hit rest room;
      counted = subst (λ (w : Writing). CountsEach m.reads c.args.map.now (keys_of w.hits) c.count_read.new.self)
          (sym pushed) counted;
      entries = c.count_read.ensures.entries ∙ inv.entries;
      sizes = c.count_read.ensures.sizes ∙ inv.sizes;
      moment = c.count_read.ensures.moment ∙ inv.moment;
      kept = λ items h. c.count_read.ensures.kept items (inv.kept items h);
    }
