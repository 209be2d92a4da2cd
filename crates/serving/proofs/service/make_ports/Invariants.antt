use Rattle.std.proofs.Common.{◌≡◌, ◌≤◌, length, vec_len, vec_capacity}
use Rattle.serving.specs.Runs.{AreNewPorts}
use Rattle.serving.proofs.service.make_ports.Given as goal

-- the ports so far are those of the first workers, and have told nothing
abbrev pub invariant-loop-worker : goal.invariant-loop-worker
invariant-loop-worker g l = record {
  new : AreNewPorts l.fn.geometry l.fn.options.dialect l.fn.exchange.id l.ports.items;
  count : length l.ports.items ≡ l.worker;
  hands : vec_len l.hands ≡ l.worker;
  room : l.fn.options.workers ≤ vec_capacity l.ports;
  room_for_hands : l.fn.options.workers ≤ vec_capacity l.hands;
}
