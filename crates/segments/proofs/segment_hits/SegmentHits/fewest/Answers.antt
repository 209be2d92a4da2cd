use Rattle.std.proofs.Common.{◌≡◌, ◌+◌, ◌<◌, ◌∷◌, ◌++◌, [], ℕ, length, take, get_or, sym, ap, subst, ◌∙◌, arith, rules}
use Rattle.std.specs.Prelude.{All}
use Rattle.std.proofs.lemmas.List.{get_or_default, take_more}
use Rattle.std.proofs.lemmas.List.Elements.{All-head, All-tail, All-cons, All-take}
use Rattle.segments.specs.Hits.{HitCounts, segment_hits, IsFewest}
use Rattle.segments.proofs.HitLemmas.{fewest_one, fewest_less, fewest_more, fewest_among}
use Rattle.segments.proofs.segment_hits.SegmentHits.fewest.Goals as goal
use Rattle.segments.proofs.segment_hits.SegmentHits.fewest.Goals.{then-index, else-index}

pub loop-number-init : goal.loop-number-init
loop-number-init c = fewest_one c.args.self.now c.in_ok-first.first.now

pub index-requires : goal.index-requires
index-requires c =
    let P : ℕ → Type 0 = λ n. n < length c.args.self.now.counts in
    let whole : c.args.numbers.now ≡ c.in_ok-first.first.now ∷ c.in_ok-first.others.now = search rules in
    let all = subst (All P) whole c.requires in
    let lt = All-tail P c.in_ok-first.first.now c.in_ok-first.others.now all c.loop-number.number-index 0
    c.loop-number-test.true in
    let same = ap (λ (h : HitCounts). length h.counts) c.self.view_is in
    let l = c.self.inside.counts.ok.0 in
    omega (arith, lt, same, l)

pub index-requires-in-loop-number : goal.index-requires-in-loop-number
index-requires-in-loop-number c =
    let P : ℕ → Type 0 = λ n. n < length c.args.self.now.counts in
    let first = c.in_ok-first.first.now in
    let others = c.in_ok-first.others.now in
    let whole : c.args.numbers.now ≡ first ∷ others = search rules in
    let all = subst (All P) whole c.requires in
    let some = take c.loop-number.number-index others in
    let lt = fewest_among P c.args.self.now (first ∷ some) c.loop-number.found c.loop-number.invariant
    (All-cons P first some (All-head P first others all)
    (All-take P c.loop-number.number-index others (All-tail P first others all))) in
    let same = ap (λ (h : HitCounts). length h.counts) c.self.view_is in
    let l = c.self.inside.counts.ok.0 in
    omega (arith, lt, same, l)

pub loop-number-preserved : goal.loop-number-preserved
loop-number-preserved c =
    let P : ℕ → Type 0 = λ n. n < length c.args.self.now.counts in
    let h = c.args.self.now in
    let xs = c.self.inside.counts.items in
    let k = c.loop-number.number-index in
    let first = c.in_ok-first.first.now in
    let others = c.in_ok-first.others.now in
    let n = c.loop-number.found in
    let m = get_or others k 0 in
    let whole : c.args.numbers.now ≡ first ∷ others = search rules in
    let all = subst (All P) whole c.requires in
    let some = take k others in
    let old = fewest_among P h (first ∷ some) n c.loop-number.invariant
    (All-cons P first some (All-head P first others all) (All-take P k others (All-tail P first others all))) in
    let new = All-tail P first others all k 0 c.loop-number-test.true in
    let same = ap (λ (g : HitCounts). length g.counts) c.self.view_is in
    let counts : xs ≡ h.counts = ap (λ (g : HitCounts). g.counts) c.self.view_is in
    let at_new : c.index.result.now ≡ segment_hits h m = c.index.ensures
    ∙ get_or_default xs m _ 0 (omega (arith, new, same)) ∙ ap (λ ys. get_or ys m 0) counts in
    let at_old : c.index-in-loop-number.result.now ≡ segment_hits h n = c.index-in-loop-number.ensures
    ∙ get_or_default xs n _ 0 (omega (arith, old, same)) ∙ ap (λ ys. get_or ys n 0) counts in
    let more : (first ∷ some) ++ m ∷ [] ≡ first ∷ take (k + 1) others =
    ap (λ ys. first ∷ ys) (sym (take_more others k 0 c.loop-number-test.true)) in
    elim c.if-index.branch [
      | then-index w ↦
          let lt = w.if-index.true in
          subst (λ (f : ℕ). IsFewest h (first ∷ take (k + 1) others) f) (sym w.found-is)
          (subst (λ ys. IsFewest h ys m) more
          (fewest_less h (first ∷ some) n m c.loop-number.invariant (omega (arith, lt, at_new, at_old))))
      | else-index w ↦
          let le = w.if-index.false in
          subst (λ (f : ℕ). IsFewest h (first ∷ take (k + 1) others) f) (sym w.found-is)
          (subst (λ ys. IsFewest h ys n) more
          (fewest_more h (first ∷ some) n m c.loop-number.invariant (omega (arith, le, at_new, at_old))))
    ]
