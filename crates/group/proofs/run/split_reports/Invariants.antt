use Rattle.std.proofs.Common.{◌≡◌, ◌++◌, ◌+◌, ◌≤◌, vec_len, vec_capacity}
use Rattle.group.specs.Threads.{ends_of, workers_of}
use Rattle.group.proofs.run.split_reports.Given as goal

abbrev pub invariant-loop-report : goal.invariant-loop-report
invariant-loop-report g l = record {
  left : l.yielded ++ l.report-iterator.rest.items ≡ l.fn.reports.items;
  workers : l.workers.items ≡ workers_of l.yielded;
  ends : l.ends.items ≡ ends_of l.yielded;
  room : vec_len l.workers + l.report-iterator.rest.len ≤ vec_capacity l.workers;
  ends_room : vec_len l.ends + l.report-iterator.rest.len ≤ vec_capacity l.ends;
}
