use Rattle.std.proofs.Common.{◌≡◌, ℕ, ◌<◌, map, take}
use mathlib.Core.Option.{some}
use lib.ListN.{get_elem?}
use Rattle.std.specs.Io.KnownBytes.{Appends}
use Rattle.replaying.specs.Printed.{lines_from, events_of, IsPlayedAt}
use Rattle.script.specs.States.{PortState}
use Rattle.group.specs.declared.report.GroupWorker.{GroupWorker}
use Rattle.replaying.proofs.run.write_lines.Given as goal

abbrev pub invariant-loop-worker : goal.invariant-loop-worker
invariant-loop-worker g l = record {
  written : Appends (g.W.Write.contents l.initial.out) (g.W.Write.contents l.out)
      (lines_from 0 (map events_of (take l.worker l.workers)));
  played : (k : ℕ) (x : GroupWorker PortState) → k < l.worker → get_elem? l.workers k ≡ some x → IsPlayedAt x.port;
}
