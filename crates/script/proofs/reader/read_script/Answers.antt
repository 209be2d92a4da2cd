use Rattle.std.proofs.Common.{sym, subst}
use Rattle.script.specs.Lines.{lines_of}
use Rattle.script.specs.Scripts.{Workers}
use Rattle.script.proofs.ReadingLemmas.{IsAt, at_first, at_next}
use Rattle.script.proofs.reader.read_script.Goals as goal

pub loop-reader-init : goal.loop-reader-init
loop-reader-init c =
    let text = c.args.script.now in
    subst (λ (events : Workers). IsAt c.args.workers text (record { left = lines_of text; workers = events; read = 0 }))
    (sym c.in_ok-no_workers.ensures) (at_first c.args.workers text)

pub loop-reader-preserved : goal.loop-reader-preserved
loop-reader-preserved c =
    at_next c.args.workers c.args.script.now c.loop-reader.reader c.next_line.new.self c.loop-reader.invariant
    (rw c.if-branch.true at c.in_ok-next_line.ensures.read)
