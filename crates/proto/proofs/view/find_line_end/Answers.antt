use Rattle.std.proofs.Common.{arith}
use Rattle.proto.proofs.LineSearch.{search_begins, search_finds, search_goes_on, search_ends}
use Rattle.proto.proofs.view.find_line_end.Goals as goal
use Rattle.proto.proofs.view.find_line_end.Goals.{else-at-bytes-via-then-at-bytes+else-bytes-at-eq10, else-at-bytes-via-else-at-bytes}

pub loop-i-init : goal.loop-i-init
loop-i-init c = record {
  within = let within = c.requires.within in omega (arith, within, c.saturating_sub-from.ensures);
  before = rw c.saturating_sub-from.ensures (search_begins c.args.bytes.now c.args.searched c.requires);
}

pub returns-then-bytes-at-eq10 : goal.returns-then-bytes-at-eq10
returns-then-bytes-at-eq10 c =
    search_finds c.args.bytes.now c.split_at.result.1.now c.loop-i.from c.in-Some.i c.split_at.ensures.back
    c.in-Some.ensures c.loop-i.invariant.before c.if-at-bytes.true c.if-bytes-at-eq10.true

pub loop-i-preserved : goal.loop-i-preserved
loop-i-preserved c = record {
  within = let high = c.in-Some.ensures.0.high in let len = c.split_at.ensures.back_len in omega (arith, high, len);
  before = search_goes_on c.args.bytes.now c.split_at.result.1.now c.loop-i.from c.in-Some.i c.split_at.ensures.back
      c.in-Some.ensures c.loop-i.invariant.before (λ fits ahead.
      elim c.else-at-bytes.branch [
        | else-at-bytes-via-then-at-bytes+else-bytes-at-eq10 w ↦ w.if-bytes-at-eq10.false ahead
        | else-at-bytes-via-else-at-bytes w ↦ omega (arith, fits, w.if-at-bytes.false)
      ]);
}

pub returns : goal.returns
returns c = search_ends c.args.bytes.now c.split_at.result.1.now c.loop-i.from c.split_at.ensures.back
    c.in_default.ensures c.loop-i.invariant.before
