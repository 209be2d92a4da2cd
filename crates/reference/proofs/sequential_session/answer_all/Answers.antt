use Rattle.std.proofs.Common.{arith}
use Rattle.reference.proofs.Serving.{answers_more, behind, found_some, found_within}
use Rattle.reference.proofs.sequential_session.answer_all.Goals as goal

pub loop-length-preserved : goal.loop-length-preserved
loop-length-preserved g c =
    let unread = c.args.unread.now in
    let next = rw (behind c.loop-length.taken unread, c.in-Some.is, c.if-ended.false) at c.in_ok-length.ensures in
    record {
      within = found_within _ _ unread _ _ c.loop-length.taken c.in-Some.length _ next c.loop-length.invariant.within;
      answered = answers_more _ _ _ unread _ _ _ c.loop-length.taken c.in-Some.length _
          c.loop-length.invariant.answered next;
    }

pub returns-then-ended-clause-answered : goal.returns-then-ended-clause-answered
returns-then-ended-clause-answered g c =
    let unread = c.args.unread.now in
    let next = rw (behind c.loop-length.taken unread, c.in-Some.is, c.if-ended.true) at c.in_ok-length.ensures in
    answers_more _ _ _ unread _ _ _ c.loop-length.taken c.in-Some.length _ c.loop-length.invariant.answered next

pub loop-length-smaller : goal.loop-length-smaller
loop-length-smaller g c =
    let unread = c.args.unread.now in
    let next = rw (behind c.loop-length.taken unread, c.in-Some.is) at c.in_ok-length.ensures in
    let some = found_some _ _ _ _ _ c.in-Some.length _ next in
    let within = found_within _ _ unread _ _ c.loop-length.taken c.in-Some.length _ next
    c.loop-length.invariant.within in
    omega (arith, some, within)
