use Rattle.std.proofs.Common.{◌≡◌, ◌++◌, All, map, ◌+◌, ◌≤◌, vec_len, vec_capacity}
use Rattle.worker.specs.Starts.{IsPortAt, HasSentNothing}
use Rattle.group.specs.Threads.{AreEach}
use Rattle.group.proofs.threads.start_workers.Given as goal

abbrev pub invariant-loop-end : goal.invariant-loop-end
invariant-loop-end g l = record {
  ended : l.yielded ++ l.end-iterator.rest.items ≡ l.fn.ends.items;
  ported : map (λ h. h.promise.port.value) l.handles.items ++ l.ports.rest.items ≡ l.fn.ports.items;
  lengths : l.ports.rest.len ≡ l.end-iterator.rest.len;
  placed : AreEach (IsPortAt g.P.Port.told l.fn.context.config.dialect) l.ports.rest.items l.end-iterator.rest.items;
  fresh : All HasSentNothing l.end-iterator.rest.items;
  started : All (λ h. h.promise.start.now.id ≡ l.fn.context.start.now.id) l.handles.items;
  ends : map (λ h. h.promise.end.value) l.handles.items ≡ l.yielded;
  room : vec_len l.handles + l.end-iterator.rest.len ≤ vec_capacity l.handles;
}
