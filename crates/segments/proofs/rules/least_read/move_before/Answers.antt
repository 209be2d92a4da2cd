use Rattle.std.proofs.Common.{◌<◌, [], refl, length, sym, ap, subst, ◌∙◌, arith}
use Rattle.std.proofs.lemmas.List.{get_or_default}
use Rattle.segments.proofs.MovedNumbers.{IsSoFar, moved_end, moved_here, moving_low, moves_on, starts_here, starts_later}
use Rattle.segments.proofs.rules.least_read.move_before.Goals as goal
use Rattle.segments.proofs.rules.least_read.move_before.Goals.{then-is_behind+else-index-next, else-is_behind+then-index-number, else-is_behind+else-index-number}

pub loop-place-init : goal.loop-place-init
loop-place-init c =
    record {
      so_far = record { before = []; later = c.args.order.now.items; now_is = refl; long = refl; whole = refl };
      long = refl;
      capacity = refl;
    }

pub returns-then-index-next-clause-items : goal.returns-then-index-next-clause-items
returns-then-index-next-clause-items c =
    let xs = c.loop-place.order.items in
    let place = c.loop-place.place in
    let i = c.loop-place.invariant in
    let t = c.loop-place-test.true in
    let n = c.len-place-end.ensures in
    let l = c.args.order.now.ok.0 in
    let long = i.long in
    let lt : place < length xs = omega (arith, t, n, l, long) in
    moved_here c.args.next c.args.number c.args.order.now.items xs place
    (subst (IsSoFar c.args.next c.args.number c.args.order.now.items xs place) c.if-is_behind.true i.so_far) lt
    (sym (get_or_default xs place c.index.result.now 0 lt) ∙ sym c.index.ensures ∙ c.if-index-next.true)

pub overflow_sub-place : goal.overflow_sub-place
overflow_sub-place c =
    let xs = c.loop-place.order.items in
    let place = c.loop-place.place in
    moving_low c.args.next c.args.number c.args.order.now.items xs place
    (subst (IsSoFar c.args.next c.args.number c.args.order.now.items xs place) c.if-is_behind.true
    c.loop-place.invariant.so_far)

pub loop-place-preserved : goal.loop-place-preserved
loop-place-preserved c =
    let xs = c.loop-place.order.items in
    let place = c.loop-place.place in
    let old = c.args.order.now.items in
    let i = c.loop-place.invariant in
    let t = c.loop-place-test.true in
    let n = c.len-place-end.ensures in
    let l = c.args.order.now.ok.0 in
    let long = i.long in
    let lt : place < length xs = omega (arith, t, n, l, long) in
    elim c.if-is_behind.branch [
      | then-is_behind+else-index-next w ↦
          let read = w.index.ensures ∙ get_or_default xs place w.index.result.now 0 lt in
          let is = ap (λ v. v.items) w.order-is ∙ w.swap.ensures.items in
          let count = w.swap.ensures.len in
          let now = ap (λ v. v.len) w.order-is in
          let a = c.if-is_behind.order.ok.0 in
          let b = c.loop-place.order.ok.0 in
          let room = ap (λ v. v.cap) w.order-is in
          let stays = w.swap.ensures.capacity in
          let capacity = i.capacity in
          record {
            so_far = moves_on c.args.next c.args.number old xs c.if-is_behind.order.items place c.loop-place.is_behind
                c.if-is_behind.is_behind i.so_far w.if-is_behind.true lt (λ e. w.if-index-next.false (read ∙ e)) is
                (w.is_behind-is ∙ w.if-is_behind.true);
            long = omega (arith, count, now, a, b, long);
            capacity = omega (arith, room, stays, capacity);
          }
      | else-is_behind+then-index-number w ↦
          let read = w.index-else-is_behind.ensures ∙ get_or_default xs place w.index-else-is_behind.result.now 0 lt in
          rw w.order-is (record {
            so_far = starts_here c.args.next c.args.number old xs place c.loop-place.is_behind c.if-is_behind.is_behind
                i.so_far w.if-is_behind.false lt (sym read ∙ w.if-index-number.true) w.is_behind-is;
            long = i.long;
            capacity = i.capacity;
          })
      | else-is_behind+else-index-number w ↦
          let read = w.index-else-is_behind.ensures ∙ get_or_default xs place w.index-else-is_behind.result.now 0 lt in
          rw w.order-is (record {
            so_far = starts_later c.args.next c.args.number old xs place c.loop-place.is_behind c.if-is_behind.is_behind
                i.so_far w.if-is_behind.false lt (λ e. w.if-index-number.false (read ∙ e))
                (w.is_behind-is ∙ w.if-is_behind.false);
            long = i.long;
            capacity = i.capacity;
          })
    ]

pub returns-clause-items : goal.returns-clause-items
returns-clause-items c =
    let i = c.loop-place.invariant in
    let t = c.loop-place-test.false in
    let n = c.len-place-end.ensures in
    let l = c.args.order.now.ok.0 in
    let long = i.long in
    moved_end c.args.next c.args.number c.args.order.now.items c.loop-place.order.items c.loop-place.place
    c.loop-place.is_behind i.so_far (omega (arith, t, n, l, long))
