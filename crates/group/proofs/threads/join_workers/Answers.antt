use Rattle.std.proofs.Common.{arith, ◌≡◌, [], ◌∷◌, ◌++◌, sym, ap, subst, ◌∙◌, append_assoc, append-nil}
use Rattle.std.proofs.lemmas.List.{nil_from_length}
use Rattle.std.specs.Prelude.{IfSome}
use Rattle.group.specs.Threads.{AreEach, KeepsWorker}
use Rattle.group.proofs.Places.{each_more}
use Rattle.group.proofs.threads.join_workers.Goals as goal

pub loop-handle-preserved : goal.loop-handle-preserved
loop-handle-preserved g c = let i = c.loop-handle.invariant in let h = c.in-Some.handle in
    let pushed = c.push_reserved.ensures.items in record {
      left = append_assoc c.loop-handle.yielded (h ∷ []) c.next.new.self.rest.items
          ∙ ap (λ l. c.loop-handle.yielded ++ l) (sym c.in-Some.ensures.steps.0) ∙ i.left;
      joined = subst
          (AreEach (λ h r. KeepsWorker g.P.Port.told g.P.Port.leads_to h.promise.port.value h.promise.end.value r)
          (c.loop-handle.yielded ++ h ∷ [])) (sym pushed)
          (each_more (λ h r. KeepsWorker g.P.Port.told g.P.Port.leads_to h.promise.port.value h.promise.end.value r)
          c.loop-handle.yielded c.loop-handle.reports.items h c.unwrap.result i.joined
          (subst (λ o. IfSome o (KeepsWorker g.P.Port.told g.P.Port.leads_to h.promise.port.value h.promise.end.value))
          c.unwrap.ensures c.join-finished.ensures.kept));
      room = omega (
        arith,
        c.in-Some.ensures.steps.1,
        c.push_reserved.ensures.len,
        c.push_reserved.ensures.capacity,
        i.room,
      );
    }

pub returns : goal.returns
returns g c =
    let none_left : c.loop-handle.handle-iterator.rest.items ≡ [] =
    nil_from_length c.loop-handle.handle-iterator.rest.items
    (sym c.loop-handle.handle-iterator.rest.ok.0 ∙ c.in-None.ensures.steps.0) in
    let all : c.loop-handle.yielded ≡ c.args.handles.items = sym (append-nil c.loop-handle.yielded)
    ∙ ap (λ l. c.loop-handle.yielded ++ l) (sym none_left) ∙ c.loop-handle.invariant.left in
    subst (λ hs. AreEach
    (λ h r. KeepsWorker g.P.Port.told g.P.Port.leads_to h.promise.port.value h.promise.end.value r) hs
    c.loop-handle.reports.items)
    all c.loop-handle.invariant.joined
