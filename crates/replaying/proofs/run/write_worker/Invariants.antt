use Rattle.std.proofs.Common.{◌≡◌, take}
use Rattle.std.specs.Prelude.{flat_map}
use Rattle.std.specs.Io.KnownBytes.{Appends}
use Rattle.worker_port.specs.Ports.{given}
use Rattle.script.specs.Records.{opened_sessions}
use Rattle.script.specs.PortSessions.{ScriptSessionState, numbers}
use Rattle.replaying.specs.Printed.{printed_line}
use Rattle.replaying.proofs.run.write_worker.Given as goal

abbrev pub invariant-loop-session : goal.invariant-loop-session
invariant-loop-session g l = record {
  opened_are : numbers l.session-items ≡ opened_sessions l.fn.port.player.records;
  written : Appends (g.W.Write.contents l.initial.out) (g.W.Write.contents l.out)
      (flat_map (λ (x : ScriptSessionState). printed_line l.fn.worker x.number (given x.number l.fn.port.player.records))
      (take l.session-index l.session-items));
}
