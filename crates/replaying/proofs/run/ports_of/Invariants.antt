use Rattle.std.proofs.Common.{◌≡◌, ◌++◌, ◌+◌, ◌≤◌, vec_len, vec_capacity}
use Rattle.replaying.specs.Printed.{ArePorts}
use Rattle.replaying.proofs.run.ports_of.Given as goal

abbrev pub invariant-loop-script : goal.invariant-loop-script
invariant-loop-script l = record {
  left : l.yielded ++ l.script-iterator.rest.items ≡ l.fn.scripts.items;
  ported : ArePorts l.fn.geometry l.fn.options.dialect l.fn.exchange.id l.fn.options.accept l.fn.options.fail_give l.yielded l.ports.items;
  room : vec_len l.ports + l.script-iterator.rest.len ≤ vec_capacity l.ports;
}
