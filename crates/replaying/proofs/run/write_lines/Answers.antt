use Rattle.std.proofs.Common.{rules, arith, ◌≡◌, ◌<◌, ℕ, List, map, take, length, subst}
use Rattle.std.proofs.lemmas.List.{take_all}
use Rattle.exchange.proofs.Lists.{at_below}
use Rattle.std.specs.Prelude.{slice_index_or}
use Rattle.script.specs.States.{PortState}
use Rattle.group.specs.declared.report.GroupWorker.{GroupWorker}
use Rattle.std.specs.Io.KnownBytes.{Appends}
use Rattle.replaying.specs.Printed.{IsPlayedAt, lines_from, printed_lines, events_of}
use Rattle.replaying.proofs.Lines.{one_worker_more, one_played_more, kept_after}
use Rattle.replaying.proofs.run.write_lines.Goals as goal

pub loop-worker-preserved : goal.loop-worker-preserved
loop-worker-preserved g c =
    let k : ℕ = c.loop-worker.worker in let ws : List (GroupWorker PortState) = c.args.workers.now in
    let x : GroupWorker PortState = c.index-workers-worker.result in
    let low : k < length ws = search rules in
    let is : slice_index_or ws k x ≡ x = search rules in
    let wrote : Appends (g.W.Write.contents c.loop-worker.out) (g.W.Write.contents c.write_worker.new.out)
    (printed_lines k (events_of x)) = search rules in
    let here : IsPlayedAt x.port = subst
    (λ (z : GroupWorker PortState). IsPlayedAt z.port) is c.write_worker.ensures.played in record {
      written = one_worker_more ws k x (g.W.Write.contents c.args.out.now) (g.W.Write.contents c.loop-worker.out)
          (g.W.Write.contents c.write_worker.new.out) low is c.loop-worker.invariant.written wrote;
      played = one_played_more ws k x low is c.loop-worker.invariant.played here;
    }

pub returns : goal.returns
returns g c =
    let i = c.loop-worker.invariant in let ws : List (GroupWorker PortState) = c.args.workers.now in
    let all : take c.loop-worker.worker ws ≡ ws = take_all c.loop-worker.worker ws c.loop-worker-test.false in
    let written : Appends (g.W.Write.contents c.args.out.now) (g.W.Write.contents c.loop-worker.out)
    (lines_from 0 (map events_of ws)) =
    subst (λ (l : List (GroupWorker PortState)). Appends (g.W.Write.contents c.args.out.now)
    (g.W.Write.contents c.loop-worker.out)
    (lines_from 0 (map events_of l))) all i.written in (
      kept_after (g.W.Write.contents c.args.out.now) (g.W.Write.contents c.loop-worker.out)
          (g.W.Write.contents c.flush.new.self)
          (lines_from 0 (map events_of ws)) written c.flush.ensures.bytes,
      λ k x at. let low = at_below ws k x at in let past = c.loop-worker-test.false in
          i.played k x (omega (arith, low, past)) at,
    )
