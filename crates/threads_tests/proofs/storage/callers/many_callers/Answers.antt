use Rattle.std.proofs.Common.{rules, List, length, drop, get_or, sym, ap, ◌∙◌, subst}
use Rattle.exchange.specs.Ends.{WorkerView, AreTogether}
use Rattle.worker_port.specs.Giving.{by_any_clock}
use Rattle.storage_thread.specs.Serving.{IsSameExchange}
use Rattle.storage_thread.proofs.Callers.{AreSame, together, whole}
use Rattle.threads_tests.proofs.storage.callers.many_callers.Goals as goal

pub gather-gathered-requires : goal.gather-gathered-requires
gather-gathered-requires g c = let each = c.for_each_mut.ensures in let made = c.in_ok-ends.ensures in
    let was = c.as_mut_slice.ensures.value in let now : List WorkerView = c.for_each_mut.new.s in
    let ends : List WorkerView = c.in_ok-ends.ends.items in
    let same : AreSame ends now = (
      search rules,
      λ i d l. let one = (each i d (search rules)).1 in let k = one.call in (
        ap (λ (z : WorkerView). z.exchange) (sym one.left)
            ∙ (k.0 ∙ (ap (λ (z : WorkerView). z.exchange) one.argument_is
            ∙ ap (λ (x : List WorkerView). (get_or x i d).exchange) was)),
        ap (λ (z : WorkerView). z.worker) (sym one.left)
            ∙ (k.1 ∙ (ap (λ (z : WorkerView). z.worker) one.argument_is
            ∙ ap (λ (x : List WorkerView). (get_or x i d).worker) was)),
      ),
    ) in
    let stays : IsSameExchange c.in_ok-ends.storage c.join-report.result.storage_end = search rules in
    subst (λ (x : List WorkerView). AreTogether x c.join-report.result.storage_end)
    (sym (whole c.in_ok-ends.ends.len now (drop (length now) ends) (search rules)))
    (together _ (by_any_clock made.0) ends now c.in_ok-ends.storage c.join-report.result.storage_end made.1 stays same)
