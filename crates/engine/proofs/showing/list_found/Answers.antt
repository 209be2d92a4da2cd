use Rattle.std.proofs.Common.{rules, ◌≡◌, ℕ, ◌+◌, ◌++◌, ◌∷◌, [], List, Some, length, length-append, sum_by, ◌≤◌}
use Rattle.std.proofs.Common.{arith, sym, ap, subst, ◌∙◌}
use Rattle.std.specs.FinMap as map
use Rattle.std.proofs.lemmas.List.Sums.{sum_by-cons}
use Rattle.proto.specs.Commands.{hits_of}
use Rattle.proto.specs.Hits.{hit_bytes, hit_room}
use Rattle.std.specs.Prelude.{flat_map}
use Rattle.engine.specs.AnswerSizes.{shown_size}
use Rattle.proto.specs.declared.hits.Hit.{Hit}
use Rattle.engine.specs.Shown.{entry_of}
use Rattle.engine.specs.Finding.{AreFound, keys_found}
use Rattle.engine.proofs.HitLemmas.{hit_of, hits_there, found_more, hits_found_more}
use Rattle.engine.proofs.showing.list_found.Goals as goal

-- one key more was found
pub loop-key-preserved-in-Continue-branch-3 : goal.loop-key-preserved-in-Continue-branch-3
loop-key-preserved-in-Continue-branch-3 g c =
    let m = g.M.LiveMap in
    let inv = c.loop-key.invariant in
    let entries = m.entries c.args.map.now in
    let key = c.in-Some.key.now in
    let e = entry_of c.in-Some-entry_found.entry in
    let hit : Hit = hit_of c.args.with_cas key e in
    let rest = c.next.new.self in
    let there : Some e ≡ map.get entries key = c.in-Some-entry_found.ensures.found in
    let added = c.in_ok-add_found.ensures in
    let f = added.0 in
    let same : f.key.now ≡ key = added.1 in
    let pushed : c.add_found.new.found.items ≡ c.loop-key.found.items ++ f ∷ [] = added.3 in
    let at_key : Some e ≡ map.get entries f.key.now = there ∙ ap (λ (k : List ℕ). map.get entries k) (sym same) in
    let stands : m.stands c.args.map.now f.key.now f.place =
    subst (λ (k : List ℕ). m.stands c.args.map.now k f.place) (sym same)
    (subst (m.stands c.args.map.now key) (sym added.2) (search rules)) in
    let words : c.loop-key.words ≡ f.key.now ∷ rest =
    c.in-Some.ensures ∙ ap (λ (k : List ℕ). k ∷ rest) (sym same) in
    let hits : hits_of c.args.with_cas entries c.loop-key.words ≡ hit ∷ hits_of c.args.with_cas entries rest =
    hits_there c.args.with_cas entries c.loop-key.words rest key e c.in-Some.ensures there in
    let one : c.in_ok-more.more ≡ hit_room hit =
    (rw c.in_ok-more.ensures.ok_part at c.room.ensures) ∙ ap hit_room c.hit_with-hit.ensures.hit in
    let sum = rw c.in_ok-room.ensures.ok_part at c.checked_add.ensures in
    let more : c.in_ok-room.room ≡ c.loop-key.room + hit_room hit = sum.1 ∙ ap (λ n. c.loop-key.room + n) one in
    let sum = sum_by-cons hit_room hit (hits_of c.args.with_cas entries rest) in
    let shown : shown_size (hits_of c.args.with_cas entries c.loop-key.words)
    ≡ length (hit_bytes hit) + shown_size (hits_of c.args.with_cas entries rest) =
    ap shown_size hits ∙ length-append (hit_bytes hit) (flat_map hit_bytes (hits_of c.args.with_cas entries rest)) in
    let fits : length (hit_bytes hit) ≤ hit_room hit =
    subst (λ (h : Hit). length (hit_bytes h) ≤ hit_room h) c.hit_with-hit.ensures.hit c.hit_with-hit.ensures.room in
    record {
      are_found = subst (AreFound m c.args.map.now) (sym pushed)
          (found_more m c.args.map.now c.loop-key.found.items f e inv.are_found at_key stands);
      hits = ap (λ fs. hits_of c.args.with_cas entries (keys_found fs) ++ hits_of c.args.with_cas entries rest) pushed
          ∙ hits_found_more c.args.with_cas entries c.loop-key.found.items f c.loop-key.words rest e words at_key ∙ inv.hits;
      within = omega (arith, inv.within, ap length hits);
      counted = omega (arith, more, sum, ap (sum_by hit_room) hits, inv.counted);
      enough = omega (arith, more, shown, fits, inv.enough);
    }
