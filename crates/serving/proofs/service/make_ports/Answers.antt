use Rattle.std.proofs.Common.{ℕ, [], ◌∷◌, ◌+◌, length, length-append, sym, ap, subst, ◌∙◌, arith}
use Rattle.net.specs.Traces.{trace_of, IsNew}
use Rattle.serving.specs.Runs.{AreNewPorts}
use Rattle.serving.proofs.Ports.{new_more}
use Rattle.serving.proofs.service.make_ports.Goals as goal

pub loop-worker-preserved : goal.loop-worker-preserved
loop-worker-preserved g c =
    let ports = c.loop-worker.ports.items in let port = c.in_ok-hand.port in let i = c.loop-worker.invariant in
    let pushed = c.push_reserved-in-loop-worker.ensures in let handed = c.push_reserved.ensures in record {
      new = subst (AreNewPorts c.args.geometry c.args.options.now.dialect c.args.exchange.now.id) (sym pushed.items)
          (new_more c.args.geometry c.args.options.now.dialect c.args.exchange.now.id ports port i.new
          (subst (λ (n : ℕ). IsNew c.args.geometry c.args.options.now.dialect n c.args.exchange.now.id (trace_of port.served))
          (sym i.count) c.in_ok-hand.ensures));
      count = ap length pushed.items ∙ length-append ports (port ∷ []) ∙ ap (λ n. n + 1) i.count;
      hands = omega (arith, handed.len, i.hands);
      room = omega (arith, pushed.capacity, i.room);
      room_for_hands = omega (arith, handed.capacity, i.room_for_hands);
    }
