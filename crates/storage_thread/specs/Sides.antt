-- What holds of a storage side, whichever thread holds it.
use Rattle.std.specs.Prelude.{◌≡◌, ℕ, ◌+◌, ◌-◌, ◌^◌, ◌<◌, Bool, true, false, min, List, [], length, map, All, Option, None}
use Rattle.proto.specs.declared.logged_clock.ClockStart.{ClockStart}
use Rattle.proto.specs.declared.history.Answered.{Answered}
use Rattle.proto.specs.Cache.{Cache}
use Rattle.proto.specs.Sizes.{Sizes}
use Rattle.proto.specs.Stored.{StoredItem}
use Rattle.proto.specs.History.{Legal, RefusesBy, answers_by}
use Rattle.proto.specs.Tallies.{no_counts, counts_after}
use Rattle.exchange.specs.Ends.{StorageView}
use Rattle.storage_thread.specs.declared.side.Origin.{Origin}
use Rattle.storage_thread.specs.declared.side.SideState.{SideState}
use Rattle.storage_thread.specs.declared.serving.StorageReport.{StorageReport}
use Rattle.storage_thread.specs.Serving.{IsReadSince, IsTimed, IsStorageServing, IsSameExchange, taken_as}
use Rattle.storage_thread.specs.Keeping.{LeadsKeeping, MayAlwaysForgetNothing, MayLeave}
use Rattle.engine.specs.Deadlines.{IsAsAsked}
use Rattle.storage_thread.specs.Deadlines.{LeadsAsAsked}

-- two notes of what a side began with say the same
abbrev pub IsSameOrigin : {S C : Type 0} → Origin S C → Origin S C → Type 0
IsSameOrigin a b = (a.store.value ≡ b.store.value) × (a.clock.value ≡ b.clock.value) × (a.end.value ≡ b.end.value)

-- What holds of a side between two requests, over a store and a clock with these properties: of the
-- exchange that it began with, all that was taken was executed, and the store and the counts are
-- where the history leads; the clock was asked once for each entry.
pub record IsSideServing {S C : Type 0} (cache : S → Cache) (moment : S → ℕ) (sizes : S → Sizes)
    (keeps : S → List StoredItem → Type 0) (exact : S → Bool) (may_refuse : Bool) (told : C → Option (List ℕ))
    (start : C → Option ClockStart) (leads_to : C → C → Type 0) (s : SideState S C) : Type 0 where
  pub serving : IsStorageServing s.origin.end.value s.end.end (cache s.store) (moment s.store)
  pub sized : sizes s.store ≡ s.end.end.terms.geometry
  pub refuses : s.end.end.terms.may_refuse ≡ false → may_refuse ≡ false
  pub left_are : s.left + length s.end.end.byes ≡ s.end.end.workers
  pub leads : leads_to s.origin.clock.value s.clock.clock
  pub timed : IsTimed (told s.origin.clock.value) (told s.clock.clock) s.end.end.history
  pub counted : s.executed ≡ min (length s.end.end.history) (2 ^ 64 - 1)
  pub kept : keeps s.origin.store.value [] → LeadsKeeping s.end.end.terms.geometry s.end.end.history (cache s.store) (keeps s.store)
  pub dated : exact s.origin.store.value ≡ true
      → LeadsAsAsked s.end.end.terms.geometry s.end.end.history (cache s.store) (exact s.store)
  pub answered : s.clock.answers ≡ answers_by [] s.end.end.history
  pub read : IsReadSince s.end.end.terms.system_clock (start s.clock.clock) s.end.end.history
  pub refused : RefusesBy may_refuse s.end.end.history
  pub counts_are : s.counts ≡ counts_after no_counts s.end.end.history

-- What a side leaves that began with this clock and this end, over a store that keeps what it
-- stores where `keeps` says so, and deadlines to the second where `exact` does.
pub record IsLeftBySide {C : Type 0} (told : C → Option (List ℕ)) (leads_to : C → C → Type 0) (keeps : Type 0)
    (exact may_refuse : Bool) (clock : C) (end : StorageView) (report : StorageReport C) : Type 0 where
  pub same : IsSameExchange end report.storage_end
  pub legal : Legal end.terms.geometry report.storage_end.history
  pub refused : RefusesBy may_refuse report.storage_end.history
  pub once_in_order : (report.storage_end.taken ≡ map taken_as report.storage_end.history) × (report.storage_end.open_request ≡ None)
  pub inside : All (λ (e : Answered). e.worker < end.workers) report.storage_end.history
  pub leads : leads_to clock report.clock
  pub moments : IsTimed (told clock) (told report.clock) report.storage_end.history
  pub bounded : keeps → MayAlwaysForgetNothing end.terms.geometry report.storage_end.history
  pub dated : exact ≡ true → MayLeave IsAsAsked end.terms.geometry report.storage_end.history
  pub executed : report.executed ≡ min (length report.storage_end.history) (2 ^ 64 - 1)
