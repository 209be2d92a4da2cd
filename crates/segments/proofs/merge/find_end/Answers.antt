use Rattle.std.proofs.Common.{◌≡◌, suc, true, false, get_or, drop, refl, sym, ap, subst, ◌∙◌, add-one}
use Rattle.std.specs.Prelude.{◌==◌, ◌||◌}
use Rattle.std.proofs.lemmas.Bool.{eq-eqb, ne_eqb, or_left, or_right}
use Rattle.std.proofs.lemmas.List.{drop_all}
use Rattle.segments.specs.Pools.{lasting}
use Rattle.segments.specs.Inside.{shown_segments}
use Rattle.segments.specs.Chains.{opened_in, go_together}
use Rattle.segments.proofs.BehindLemmas.{IsWalking, walks_past, walks_first, walks_on, walk_ends, walk_over}
use Rattle.segments.proofs.merge.find_end.Goals as goal
use Rattle.segments.proofs.merge.find_end.Goals.{then-is_in+in-Some+else-bucket-ne-LASTING, then-is_in+in_default, else-is_in}
use Rattle.segments.proofs.merge.find_end.Goals.{else-bucket-ne-LASTING-via-then-bucket-ne-LASTING+else-opened_at-moment}
use Rattle.segments.proofs.merge.find_end.Goals.{else-bucket-ne-LASTING-via-else-bucket-ne-LASTING}

pub loop-number-init : goal.loop-number-init
loop-number-init c = refl

pub returns-then-opened_at-moment : goal.returns-then-opened_at-moment
returns-then-opened_at-moment c =
    let us = shown_segments c.args.segments.now in
    let b = c.args.bucket in
    let order = c.args.order.now in
    let k = c.loop-number.number-index in
    let n = c.in-Some.before in
    let m = get_or order k 0 in
    let apart : go_together us b n m ≡ false =
    ap (λ l. l || (opened_in us m == opened_in us n)) (ne_eqb b lasting c.if-bucket-ne-LASTING.true)
    ∙ ne_eqb (opened_in us m) (opened_in us n)
    (λ e. c.if-opened_at-moment.true (c.opened_at.ensures ∙ e ∙ sym c.opened_at-moment.ensures)) in
    walk_ends us b order k n c.loop-number-test.true (sym c.is_in.ensures ∙ c.if-is_in.true) apart
    (subst (IsWalking us b order (drop k order)) c.in-Some.is c.loop-number.invariant)

pub loop-number-preserved : goal.loop-number-preserved
loop-number-preserved c =
    let us = shown_segments c.args.segments.now in
    let b = c.args.bucket in
    let order = c.args.order.now in
    let k = c.loop-number.number-index in
    let m = get_or order k 0 in
    let lt = c.loop-number-test.true in
    subst (λ j. IsWalking us b order (drop j order) c.if-is_in.last) (sym (add-one k))
    (elim c.if-is_in.branch [
      | then-is_in+in-Some+else-bucket-ne-LASTING w ↦
          let n = w.in-Some.before in
          let together : go_together us b n m ≡ true = elim w.else-bucket-ne-LASTING.branch [
            | else-bucket-ne-LASTING-via-then-bucket-ne-LASTING+else-opened_at-moment v ↦
                or_right (b == lasting) (opened_in us m == opened_in us n) (eq-eqb (opened_in us m) (opened_in us n)
                (sym v.opened_at.ensures ∙ v.if-opened_at-moment.false ∙ w.opened_at-moment.ensures))
            | else-bucket-ne-LASTING-via-else-bucket-ne-LASTING v ↦
                or_left (b == lasting) (opened_in us m == opened_in us n)
                (eq-eqb b lasting v.if-bucket-ne-LASTING.false)
          ] in
          subst (IsWalking us b order (drop (suc k) order)) (sym w.last-is)
          (walks_on us b order k n lt (sym c.is_in.ensures ∙ w.if-is_in.true) together
          (subst (IsWalking us b order (drop k order)) w.in-Some.is c.loop-number.invariant))
      | then-is_in+in_default w ↦
          subst (IsWalking us b order (drop (suc k) order)) (sym w.last-is)
          (walks_first us b order k lt (sym c.is_in.ensures ∙ w.if-is_in.true)
          (subst (IsWalking us b order (drop k order)) w.in_default.is c.loop-number.invariant))
      | else-is_in w ↦
          subst (IsWalking us b order (drop (suc k) order)) (sym w.last-is)
          (walks_past us b order k c.loop-number.last lt (sym c.is_in.ensures ∙ w.if-is_in.false)
          c.loop-number.invariant)
    ])

pub returns : goal.returns
returns c =
    let us = shown_segments c.args.segments.now in
    let b = c.args.bucket in
    let order = c.args.order.now in
    c.unwrap_or.ensures ∙ walk_over us b order c.loop-number.last
    (subst (λ xs. IsWalking us b order xs c.loop-number.last)
    (drop_all c.loop-number.number-index order c.loop-number-test.false) c.loop-number.invariant)
