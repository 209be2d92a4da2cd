use Rattle.std.proofs.Common.{◌≡◌, sym, ap, ◌∙◌, subst}
use Rattle.exchange.specs.Ends.{StorageView, StorageLanesView}
use Rattle.storage_thread.specs.Serving.{GetsMessage}
use Rattle.storage_thread.proofs.Looks.{seen_got}
use Rattle.storage_thread.proofs.serving.take_next.Goals.{then-tells_before, else-tells_before}
use Rattle.storage_thread.proofs.serving.take_next.Goals as goal

pub returns-clause-taken : goal.returns-clause-taken
returns-clause-taken g c =
    let same : c.if-tells_before.end.end ≡ c.next_seen.new.self.end = elim c.if-tells_before.branch [
      | then-tells_before w ↦ ap (λ (v : StorageLanesView). v.end) w.end-is ∙ w.tell_workers-then-tells_before.ensures.end
      | else-tells_before w ↦ ap (λ (v : StorageLanesView). v.end) w.end-is
    ] in
    subst (λ (v : StorageView). GetsMessage c.args.end.now.end v c.in-Some.taken) (sym same)
    (seen_got _ _ _ c.in-Some.ensures.next)
