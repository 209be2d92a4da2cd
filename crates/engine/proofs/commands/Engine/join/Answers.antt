use Rattle.std.proofs.Common.{◌≡◌, ℕ, ◌+◌, length, List, Some, true, false, sym, ap, subst, ◌∙◌, inl, arith}
use Rattle.std.specs.FinMap as map
use Rattle.proto.specs.Cache.{Entry}
use Rattle.proto.specs.declared.message.Put.{Put}
use Rattle.proto.specs.declared.message.Reply.TheVariants.{Stored}
use Rattle.proto.specs.Commands.{is_too_large, write}
use Rattle.proto.specs.Sizes.{item_limit}
use Rattle.engine.specs.Shown.{entry_of}
use Rattle.engine.specs.Change.{joined_by}
use Rattle.engine.specs.Written.{IsFitting}
use Rattle.engine.specs.Engines.{cache_in, change_way}
use Rattle.engine.proofs.JoinLemmas.{joined_length, joined_put, join_large, join_fits, fits_put, leaves_large, leaves_with}
use Rattle.engine.proofs.commands.Engine.join.Goals as goal

pub returns-then-is_joined_too_large : goal.returns-then-is_joined_too_large
returns-then-is_joined_too_large g c =
    let m = g.M.LiveMap in
    let old = c.args.self.now in
    let p : Put = c.args.item.now in
    let behind = c.args.behind in
    let e : Entry = entry_of c.in-Some.here in
    let limit = item_limit (m.sizes old.map) in
    let key : c.as_slice-key.result.now ≡ p.key = c.as_slice-key.ensures in
    let more : c.as_slice-more.result.now ≡ p.value = c.as_slice-more.ensures in
    let there : map.get (m.entries old.map) p.key ≡ Some e =
    ap (map.get (m.entries old.map)) (sym key) ∙ sym c.in-Some.ensures.found in
    let more_length = ap (λ (v : List ℕ). length v) more in
    let len : length (joined_by behind p.value e.value) ≡ length c.in-Some.here.value.now + length c.as_slice-more.result.now =
    omega (arith, joined_length behind p.value e.value, more_length) in
    let large : is_too_large limit (joined_put behind p e) ≡ true =
    ap (λ (n : ℕ). is_too_large n (joined_put behind p e)) (sym c.item_limit-limit.ensures.value)
    ∙ sym (c.is_joined_too_large.ensures.too_large (joined_put behind p e) (sym key) len)
    ∙ c.if-is_joined_too_large.true in
    leaves_large m (change_way old.in_place) old _
    (join_large behind (map.get (m.entries old.map) p.key) e limit (cache_in m.entries old) p there large)

pub store_scratch-requires-clause-fits : goal.store_scratch-requires-clause-fits
store_scratch-requires-clause-fits g c =
    let m = g.M.LiveMap in
    let old = c.args.self.now in
    let p : Put = c.args.item.now in
    let behind = c.args.behind in
    let e : Entry = entry_of c.in-Some.here in
    let limit = item_limit (m.sizes old.map) in
    let key : c.as_slice-key.result.now ≡ p.key = c.as_slice-key.ensures in
    let more : c.as_slice-more.result.now ≡ p.value = c.as_slice-more.ensures in
    let more_length = ap (λ (v : List ℕ). length v) more in
    let len : length (joined_by behind p.value e.value) ≡ length c.in-Some.here.value.now + length c.as_slice-more.result.now =
    omega (arith, joined_length behind p.value e.value, more_length) in
    let small : is_too_large limit (joined_put behind p e) ≡ false =
    ap (λ (n : ℕ). is_too_large n (joined_put behind p e)) (sym c.item_limit-limit.ensures.value)
    ∙ sym (c.is_joined_too_large.ensures.too_large (joined_put behind p e) (sym key) len)
    ∙ c.if-is_joined_too_large.false in
    let is : c.put.new.self ≡ joined_by behind p.value e.value =
    c.put.ensures ∙ ap (λ (v : List ℕ). joined_by behind v e.value) more in
    inl (subst (λ (k : List ℕ). IsFitting limit k c.put.new.self) (sym key)
    (subst (λ (v : List ℕ). IsFitting limit p.key v) (sym is) (fits_put limit (joined_put behind p e) small)))

pub returns : goal.returns
returns g c =
    let m = g.M.LiveMap in
    let old = c.args.self.now in
    let p : Put = c.args.item.now in
    let behind = c.args.behind in
    let e : Entry = entry_of c.in-Some.here in
    let limit = item_limit (m.sizes old.map) in
    let key : c.as_slice-key.result.now ≡ p.key = c.as_slice-key.ensures in
    let more : c.as_slice-more.result.now ≡ p.value = c.as_slice-more.ensures in
    let there : map.get (m.entries old.map) p.key ≡ Some e =
    ap (map.get (m.entries old.map)) (sym key) ∙ sym c.in-Some.ensures.found in
    let more_length = ap (λ (v : List ℕ). length v) more in
    let len : length (joined_by behind p.value e.value) ≡ length c.in-Some.here.value.now + length c.as_slice-more.result.now =
    omega (arith, joined_length behind p.value e.value, more_length) in
    let small : is_too_large limit (joined_put behind p e) ≡ false =
    ap (λ (n : ℕ). is_too_large n (joined_put behind p e)) (sym c.item_limit-limit.ensures.value)
    ∙ sym (c.is_joined_too_large.ensures.too_large (joined_put behind p e) (sym key) len)
    ∙ c.if-is_joined_too_large.false in
    let is : c.put.new.self ≡ joined_by behind p.value e.value =
    c.put.ensures ∙ ap (λ (v : List ℕ). joined_by behind v e.value) more in
    leaves_with m (change_way old.in_place) old c.store_scratch.new.self c.put.new.self _ _ c.store_scratch.result
    ((λ i. write (cache_in m.entries old) (key i)
    (λ cas. record { value = is i; flags = e.flags; deadline = e.deadline; cas = cas }) Stored)
    ∙ join_fits behind (map.get (m.entries old.map) p.key) e limit (cache_in m.entries old) p there small)
    c.store_scratch.ensures
