use Rattle.std.proofs.Common.{◌≡◌, ◌-◌, ◌<◌, suc, get_or, drop, length, sym, ap, subst, ◌∙◌, arith, rules, add-one}
use Rattle.std.specs.Prelude.{vec_len}
use Rattle.std.proofs.Math.ListN.{set}
use Rattle.std.proofs.Math.Seq.{drop-length}
use Rattle.std.proofs.lemmas.List.{get_or_default, get_or-replicate}
use Rattle.segments.specs.declared.rules.least_read.Rest.TheVariants.{Nothing}
use Rattle.segments.specs.Inside.{shown_segments}
use Rattle.segments.specs.LeastReadRule.{AreRests, with_front}
use Rattle.segments.proofs.MateLemmas.{IsFirstMate, rests_more, rests_same, found_same, found_here, free_mate, no_mate}
use Rattle.segments.proofs.rules.least_read.find_mates.Goals as goal
use Rattle.segments.proofs.rules.least_read.find_mates.Goals.{else-place-looked-via-then-place-looked+else-has_mate, else-place-looked-via-else-place-looked}

pub loop-place-init : goal.loop-place-init
loop-place-init c =
    let us = shown_segments c.args.segments.now in
    let order = c.args.order.now in
    let most = c.requires.looked in
    let count = c.requires.count in
    let filled = c.fill.ensures.items (λ y h. search rules) in
    record {
      count = c.fill.ensures.len ∙ count;
      rests = subst (λ xs. AreRests us xs c.fill.new.self.items) (sym (drop-length order))
          (λ b lt. ap (λ xs. get_or xs b Nothing) filled
          ∙ get_or-replicate (vec_len c.args.rests.now) b Nothing Nothing (omega (arith, lt, count)));
      found = λ k le lt. absurd (omega (arith, le, lt, most));
    }

pub loop-place-preserved-then-has_mate : goal.loop-place-preserved-then-has_mate
loop-place-preserved-then-has_mate c =
    let us = shown_segments c.args.segments.now in
    let order = c.args.order.now in
    let k = c.loop-place.place - 1 in
    let some = c.loop-place-test.true in
    let most = c.loop-place.auto.place in
    let up : c.loop-place.place ≡ suc k = omega (arith, some, add-one k) in
    let lt : k < length order = omega (arith, some, most) in
    let known = c.requires.in_range k 0 lt in
    let T = c.loop-place.rests in
    let long = T.ok.0 in
    let count = c.loop-place.invariant.count in
    let o = c.in-Some.opening in
    let small = (c.requires.dated (get_or order k 0) _ known o c.in-Some.is).0 in
    let read : c.index-rest.result.now ≡ get_or T.items o.bucket Nothing = c.index-rest.ensures
    ∙ get_or_default T.items o.bucket c.index-rest.result.now Nothing (omega (arith, long, count, small)) in
    let next : c.with_front.result ≡ with_front (get_or T.items o.bucket Nothing) o.moment =
    c.with_front.ensures ∙ ap (λ r. with_front r o.moment) read in
    let a = subst (λ n. AreRests us (drop n order) T.items) up c.loop-place.invariant.rests in
    let mate = sym c.has_mate.ensures ∙ c.if-has_mate.true in
    let near = c.if-place-looked.true in
    record {
      count = count;
      rests = subst (λ r. AreRests us (drop k order) (set T.items o.bucket r)) (sym next)
          (rests_more c.args.segments.now order T.items k _ o lt known c.in-Some.is (omega (arith, long, count)) small a);
      found = found_here c.args.segments.now order T.items k c.args.looked _ o c.index-rest.result.now lt known c.in-Some.is
          small a read mate (omega (arith, near));
    }

pub loop-place-preserved-else-place-looked : goal.loop-place-preserved-else-place-looked
loop-place-preserved-else-place-looked c =
    let us = shown_segments c.args.segments.now in
    let order = c.args.order.now in
    let k = c.loop-place.place - 1 in
    let some = c.loop-place-test.true in
    let most = c.loop-place.auto.place in
    let up : c.loop-place.place ≡ suc k = omega (arith, some, add-one k) in
    let lt : k < length order = omega (arith, some, most) in
    let known = c.requires.in_range k 0 lt in
    let T = c.loop-place.rests in
    let long = T.ok.0 in
    let count = c.loop-place.invariant.count in
    let o = c.in-Some.opening in
    let small = (c.requires.dated (get_or order k 0) _ known o c.in-Some.is).0 in
    let read : c.index-rest.result.now ≡ get_or T.items o.bucket Nothing = c.index-rest.ensures
    ∙ get_or_default T.items o.bucket c.index-rest.result.now Nothing (omega (arith, long, count, small)) in
    let next : c.with_front.result ≡ with_front (get_or T.items o.bucket Nothing) o.moment =
    c.with_front.ensures ∙ ap (λ r. with_front r o.moment) read in
    let a = subst (λ n. AreRests us (drop n order) T.items) up c.loop-place.invariant.rests in
    let f = subst (λ n. IsFirstMate us order n c.args.looked c.loop-place.found) up c.loop-place.invariant.found in
    record {
      count = count;
      rests = subst (λ r. AreRests us (drop k order) (set T.items o.bucket r)) (sym next)
          (rests_more c.args.segments.now order T.items k _ o lt known c.in-Some.is (omega (arith, long, count)) small a);
      found = elim c.else-place-looked.branch [
        | else-place-looked-via-then-place-looked+else-has_mate w ↦
            found_same us order k c.args.looked c.loop-place.found
            (λ _. no_mate c.args.segments.now order T.items k _ o c.index-rest.result.now lt known c.in-Some.is small a read
            (sym w.has_mate.ensures ∙ w.if-has_mate.false)) f
        | else-place-looked-via-else-place-looked w ↦
            (let far = w.if-place-looked.false in
            found_same us order k c.args.looked c.loop-place.found (λ less. absurd (omega (arith, far, less))) f)
      ];
    }

pub loop-place-preserved : goal.loop-place-preserved
loop-place-preserved c =
    let us = shown_segments c.args.segments.now in
    let order = c.args.order.now in
    let k = c.loop-place.place - 1 in
    let some = c.loop-place-test.true in
    let most = c.loop-place.auto.place in
    let up : c.loop-place.place ≡ suc k = omega (arith, some, add-one k) in
    let lt : k < length order = omega (arith, some, most) in
    let known = c.requires.in_range k 0 lt in
    let a = subst (λ n. AreRests us (drop n order) c.loop-place.rests.items) up c.loop-place.invariant.rests in
    let f = subst (λ n. IsFirstMate us order n c.args.looked c.loop-place.found) up c.loop-place.invariant.found in
    record {
      count = c.loop-place.invariant.count;
      rests = rests_same c.args.segments.now order c.loop-place.rests.items k _ lt known c.in_default.is a;
      found = found_same us order k c.args.looked c.loop-place.found
          (λ _. free_mate c.args.segments.now order k _ known c.in_default.is) f;
    }

pub returns-clause-next : goal.returns-clause-next
returns-clause-next c =
    let us = shown_segments c.args.segments.now in
    let past = c.loop-place-test.false in
    let done : c.loop-place.place ≡ 0 = omega (arith, past) in
    subst (λ n. IsFirstMate us c.args.order.now n c.args.looked c.loop-place.found) done c.loop-place.invariant.found
