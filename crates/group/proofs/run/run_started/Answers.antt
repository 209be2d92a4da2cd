use Rattle.std.proofs.Common.{refl, sym}
use Rattle.group.proofs.Runs.{fresh_ends, joined, ports_at}
use Rattle.group.proofs.run.run_started.Goals as goal

pub start_threads-started-requires-clause-ends : goal.start_threads-started-requires-clause-ends
start_threads-started-requires-clause-ends g c κs within =
    fresh_ends _ _ c.args.ends.items c.args.end.value c.requires.made

pub start_threads-started-requires-clause-ports : goal.start_threads-started-requires-clause-ports
start_threads-started-requires-clause-ports g c κs within =
    ports_at g.P.Port.told _ c.args.end.value.terms c.args.context.now.config.dialect c.args.ports.items
    c.args.ends.items c.args.end.value c.requires.made (sym c.args.ports.ok.0) c.requires.ports

pub returns-in-Some-clause-joined : goal.returns-in-Some-clause-joined
returns-in-Some-clause-joined g c =
    let end = c.args.end.value in
    joined g.P.Port.told g.P.Port.leads_to (λ h. h.promise.port.value) (λ h. h.promise.end.value) _ end.terms _ end
    end c.requires.made refl c.args.ports.items c.in-Some.handles.items
    c.join_workers.result.items (rw c.in-Some.is at c.start_threads-started.ensures.ports)
    (rw c.in-Some.is at c.start_threads-started.ensures.ends) c.join_workers.ensures
