use Rattle.std.proofs.Common.{arith, ◌≡◌, [], ◌∷◌, ◌++◌, All, map, sym, ap, subst, ◌∙◌, append_assoc}
use Rattle.std.proofs.lemmas.List.{map-append}
use Rattle.worker.specs.Starts.{IsPortAt, HasSentNothing}
use Rattle.group.proofs.Places.{first_of_all, first_of_each, all_more}
use Rattle.group.proofs.threads.start_workers.Goals as goal

pub start_worker-requires-clause-port : goal.start_worker-requires-clause-port
start_worker-requires-clause-port g c κs within = (first_of_each
    (IsPortAt g.P.Port.told c.args.context.now.config.dialect) c.loop-end.ports.rest.items c.loop-end.end-iterator.rest.items c.next_port-port.result
    c.in-Some.end c.next_port-port.new.ports.rest.items c.next.new.self.rest.items
    c.next_port-port.ensures.items c.in-Some.ensures.steps.0 c.loop-end.invariant.placed).0

pub loop-end-preserved : goal.loop-end-preserved
loop-end-preserved g c =
    let i = c.loop-end.invariant in let y = c.loop-end.yielded in let h = c.in_ok-handle.handle in
    let pushed = c.push_reserved.ensures.items in
    let more = ap (map (λ h. h.promise.end.value)) pushed
    ∙ map-append (λ h. h.promise.end.value) c.loop-end.handles.items (h ∷ []) in
    let ported = ap (map (λ h. h.promise.port.value)) pushed
    ∙ map-append (λ h. h.promise.port.value) c.loop-end.handles.items (h ∷ []) in record {
      ended = append_assoc y (c.in-Some.end ∷ []) c.next.new.self.rest.items
          ∙ ap (λ l. y ++ l) (sym c.in-Some.ensures.steps.0) ∙ i.ended;
      ported = ap (λ l. l ++ c.next_port-port.new.ports.rest.items)
          (ported ∙ ap (λ p. map (λ h. h.promise.port.value) c.loop-end.handles.items ++ p ∷ [])
          c.in_ok-handle.ensures.given.0)
          ∙ append_assoc (map (λ h. h.promise.port.value) c.loop-end.handles.items)
          (c.next_port-port.result ∷ []) c.next_port-port.new.ports.rest.items
          ∙ ap (λ l. map (λ h. h.promise.port.value) c.loop-end.handles.items ++ l) (sym c.next_port-port.ensures.items)
          ∙ i.ported;
      lengths = omega (arith, c.in-Some.ensures.steps.1, c.next_port-port.ensures.len, i.lengths);
      placed = (first_of_each
          (IsPortAt g.P.Port.told c.args.context.now.config.dialect) c.loop-end.ports.rest.items c.loop-end.end-iterator.rest.items c.next_port-port.result
          c.in-Some.end c.next_port-port.new.ports.rest.items c.next.new.self.rest.items
          c.next_port-port.ensures.items c.in-Some.ensures.steps.0 i.placed).1;
      fresh = (first_of_all HasSentNothing c.loop-end.end-iterator.rest.items c.in-Some.end c.next.new.self.rest.items
          c.in-Some.ensures.steps.0 i.fresh).1;
      started = subst (All (λ h. h.promise.start.now.id ≡ c.args.context.now.start.now.id)) (sym pushed)
          (all_more (λ h. h.promise.start.now.id ≡ c.args.context.now.start.now.id) c.loop-end.handles.items h i.started
          c.in_ok-handle.ensures.start);
      ends = more ∙ ap (λ l. l ++ h.promise.end.value ∷ []) i.ends
          ∙ ap (λ e. y ++ e ∷ []) c.in_ok-handle.ensures.given.1;
      room = omega (
        arith,
        c.in-Some.ensures.steps.1,
        c.push_reserved.ensures.len,
        c.push_reserved.ensures.capacity,
        i.room,
      );
    }
