use Rattle.std.proofs.Common.{◌≡◌, ◌++◌, ◌+◌, ◌≤◌, vec_len, vec_capacity}
use Rattle.group.specs.Threads.{AreEach, KeepsWorker}
use Rattle.group.proofs.threads.join_workers.Given as goal

abbrev pub invariant-loop-handle : goal.invariant-loop-handle
invariant-loop-handle g l = record {
  left : l.yielded ++ l.handle-iterator.rest.items ≡ l.fn.handles.items;
  joined : AreEach (λ h r. KeepsWorker g.P.Port.told g.P.Port.leads_to h.promise.port.value h.promise.end.value r)
      l.yielded l.reports.items;
  room : vec_len l.reports + l.handle-iterator.rest.len ≤ vec_capacity l.reports;
}
