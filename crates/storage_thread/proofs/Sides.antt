-- What a storage side leaves, at whatever moment between two requests.
use Rattle.std.proofs.Common.{◌≡◌, ℕ, ◌<◌, Bool, List, [], All, Option, sym, subst, arith}
use Rattle.proto.specs.declared.logged_clock.ClockStart.{ClockStart}
use Rattle.proto.specs.declared.terms.Terms.{Terms}
use Rattle.proto.specs.Cache.{Cache}
use Rattle.proto.specs.Sizes.{Sizes}
use Rattle.proto.specs.Stored.{StoredItem}
use Rattle.proto.specs.History.{Legal}
use Rattle.proto.specs.declared.history.Answered.{Answered}
use Rattle.exchange.specs.Ends.{StorageView, StorageLanesView}
use Rattle.engine.proofs.ReachingLemmas.{legal_of}
use Rattle.storage_thread.specs.declared.side.SideState.{SideState}
use Rattle.storage_thread.specs.declared.serving.StorageReport.{StorageReport}
use Rattle.storage_thread.specs.Serving.{SaidBye}
use Rattle.storage_thread.specs.Keeping.{MayAlwaysForgetNothing, MayLeave}
use Rattle.engine.specs.Deadlines.{IsAsAsked}
use Rattle.storage_thread.specs.Sides.{IsSideServing, IsLeftBySide}
use Rattle.storage_thread.proofs.Turns.{all_said}

module _ {S C : Type 0} (cache : S → Cache) (moment : S → ℕ) (sizes : S → Sizes) (keeps : S → List StoredItem → Type 0)
    (exact : S → Bool) (may_refuse : Bool) (told : C → Option (List ℕ)) (start : C → Option ClockStart) (leads_to : C → C → Type 0)
    (s : SideState S C) (i : IsSideServing cache moment sizes keeps exact may_refuse told start leads_to s) where
  told_now : (told_first : List Answered) → IsSideServing cache moment sizes keeps exact may_refuse told start leads_to
      (record s { end = record { end = s.end.end; told = told_first } })
  told_now told_first = record {
    serving = i.serving;
    sized = i.sized;
    refuses = i.refuses;
    left_are = i.left_are;
    leads = i.leads;
    timed = i.timed;
    counted = i.counted;
    kept = i.kept;
    dated = i.dated;
    answered = i.answered;
    read = i.read;
    refused = i.refused;
    counts_are = i.counts_are;
  }

  -- once the workers were told of more answers
  pub told_more : (b : StorageLanesView) → b.end ≡ s.end.end
      → IsSideServing cache moment sizes keeps exact may_refuse told start leads_to (record s { end = b })
  told_more b same = subst (λ (v : StorageView). IsSideServing cache moment sizes keeps exact may_refuse told start leads_to
      (record s { end = record { end = v; told = b.told } })) (sym same) (told_now b.told)

  left_now : (report : StorageReport C) → IsLeftBySide told leads_to (keeps s.origin.store.value []) (exact s.origin.store.value)
      may_refuse s.origin.clock.value s.origin.end.value
      (record report { clock = s.clock.clock; storage_end = s.end.end; executed = s.executed })
  left_now report = record {
    same = i.serving.same;
    legal = subst (λ (t : Terms). Legal t.geometry s.end.end.history) i.serving.same.2 (legal_of _ _ _ _ i.serving.reaches);
    refused = i.refused;
    once_in_order = (i.serving.taken, i.serving.shut);
    inside = subst (λ n. All (λ e. e.worker < n) s.end.end.history) i.serving.same.1 i.serving.known;
    leads = i.leads;
    moments = i.timed;
    bounded = λ began. subst (λ (t : Terms). MayAlwaysForgetNothing t.geometry s.end.end.history) i.serving.same.2
        (i.kept began).always;
    dated = λ on. let l = i.dated on in
        subst (λ (t : Terms). MayLeave IsAsAsked t.geometry s.end.end.history) i.serving.same.2 (l.caches, l.chain);
    executed = i.counted;
  }

  -- what a side leaves whose parts stand in this report
  pub left_by : (report : StorageReport C) → report.clock ≡ s.clock.clock → report.storage_end ≡ s.end.end → report.executed ≡ s.executed
      → IsLeftBySide told leads_to (keeps s.origin.store.value []) (exact s.origin.store.value) may_refuse s.origin.clock.value s.origin.end.value report
  left_by report clock_is end_is executed_is =
      subst (λ (z : C × StorageView × ℕ). IsLeftBySide told leads_to (keeps s.origin.store.value []) (exact s.origin.store.value) may_refuse
      s.origin.clock.value s.origin.end.value (record report { clock = z.0; storage_end = z.1; executed = z.2 }))
      (λ j. (sym clock_is j, sym end_is j, sym executed_is j)) (left_now report)

  -- where no worker is left, all have said bye
  pub bye_by : (report : StorageReport C) → report.storage_end ≡ s.end.end → s.left ≡ 0 → SaidBye report.storage_end
  bye_by report end_is none = let left = i.left_are in
      subst SaidBye (sym end_is) (all_said s.origin.end.value s.end.end (cache s.store) (moment s.store) i.serving (omega (arith, left, none)))
