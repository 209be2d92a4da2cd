-- What the threads left makes the run of a group.
use Rattle.std.proofs.Common.{◌≡◌, ℕ, ◌<◌, ◌≤◌, true≢false, List, [], length, map, Option, Some, None, refl, sym, ap, subst, ◌∙◌, append-nil, Bool}
use Rattle.std.specs.Prelude.{All, IfErr, is_some, option_map, false, Result, Ok, Err, slice_index, slice_index_or}
use Rattle.std.proofs.lemmas.List.{length-map}
use mathlib.Core.Option.{some}
use lib.ListN.{get_elem?}
use Rattle.proto.specs.declared.dialect.Dialect.{Dialect}
use Rattle.proto.specs.declared.terms.Terms.{Terms}
use Rattle.proto.specs.declared.history.Posted.{Posted}
use Rattle.proto.specs.declared.history.Answered.{Answered}
use Rattle.proto.specs.History.{worker_share, asked_posted}
use Rattle.exchange.specs.declared.opening.Gathered.{Gathered}
use Rattle.exchange.specs.Ends.{TableId, WorkerView, StorageView, AreMade, AreTogether, AreCounted, new_worker_view, new_storage_view}
use Rattle.exchange.proofs.Lists.{at_below, at_some, starts_trans}
use Rattle.storage_thread.specs.declared.serving.StorageReport.{StorageReport}
use Rattle.storage_thread.specs.Serving.{IsTimed}
use Rattle.storage_thread.specs.Sides.{IsLeftBySide}
use Rattle.worker_port.specs.Ports.{PortTrace}
use Rattle.worker.specs.declared.run.WorkerReport.{WorkerReport}
use Rattle.worker.specs.Reports.{IsSessionAnswered}
use Rattle.group.specs.declared.report.GroupReport.{GroupReport}
use Rattle.worker.specs.Starts.{IsPortAt, HasSentNothing}
use Rattle.group.specs.declared.fault.GroupFault.{GroupFault}
use Rattle.group.specs.declared.fault.GroupFault.TheVariants.{NoMemory, NoThread, NotNew}
use Rattle.group.specs.Threads.{AreJoined, AreEach, ArePortsOf, IsCalledOff, IsLeftByStorage, KeepsWorker, KeepsStorage}
use Rattle.group.specs.Threads.{ends_of, worker_of, workers_of}
use Rattle.group.specs.Headline.{IsWorkerOf, IsRun, NoneBegan}
use Rattle.group.proofs.Places.{at_map, at_mapped}
use Rattle.storage_thread.proofs.Callers.{or_at}

-- where the start said not to begin, none began
none_began : (id : ℕ) (fault : GroupFault) → IsCalledOff id fault → NoneBegan fault
none_began id NoMemory off = absurd off
none_began id (NoThread shown) off = off.1
none_began id NotNew off = tt

pub none_began_in : {A : Type 0} (id : ℕ) (result : Result A GroupFault) → IfErr result (IsCalledOff id)
    → IfErr result NoneBegan
none_began_in id (Ok x) off = tt
none_began_in id (Err fault) off = none_began id fault off

-- what tells if and only if the other does, in the same dialect if both do, tells the same dialect
same_dialect : (now first : Option PortTrace) → is_some now ≡ is_some first
    → ((old new : PortTrace) → first ≡ Some old → now ≡ Some new → new.dialect ≡ old.dialect)
    → option_map (λ (trace : PortTrace). trace.dialect) now ≡ option_map (λ (trace : PortTrace). trace.dialect) first
same_dialect None None tells same = refl
same_dialect None (Some old) tells same = absurd (true≢false (sym tells))
same_dialect (Some new) None tells same = absurd (true≢false tells)
same_dialect (Some new) (Some old) tells same = ap Some (same old new refl refl)

module _ {P : Type 0} (told : P → Option PortTrace) (leads_to : P → P → Type 0) where
  module _ (terms : Terms) (storage : StorageView) (ports : List P) (reports : List (WorkerReport P))
      (joined : AreJoined told leads_to terms storage ports reports) where
    -- the report at a place, and the port there
    kept_at : (w : ℕ) (r : WorkerReport P) → get_elem? reports w ≡ some r → (port : P)
        × KeepsWorker told leads_to port (new_worker_view storage.exchange terms w) r
    kept_at w r at =
        let low : w < length reports = at_below reports w r at in
        let there = at_some ports w (subst (λ n. w < n) joined.one_each low) in
        (there.0, joined.each w there.0 r there.1 at)

    pub together : AreTogether (ends_of reports) storage
    together = record {
      exchange = λ i v at. let r = at_mapped (λ (r : WorkerReport P). r.worker_end) reports i v at in
          ap (λ (e : WorkerView). e.exchange) (sym r.2) ∙ (kept_at i r.0 r.1).1.bye.exchange;
      apart = λ i j v u at there same. let r = at_mapped (λ (r : WorkerReport P). r.worker_end) reports i v at in
          let q = at_mapped (λ (r : WorkerReport P). r.worker_end) reports j u there in
          sym (kept_at i r.0 r.1).1.bye.worker ∙ ap (λ (e : WorkerView). e.worker) r.2 ∙ same
          ∙ ap (λ (e : WorkerView). e.worker) (sym q.2) ∙ (kept_at j q.0 q.1).1.bye.worker;
    }

  -- the reports of threads that were given the ports and the ends as they were made
  pub joined : {H : Type 0} (port_of : H → P) (end_of : H → WorkerView) (n : ℕ) (g : Terms) (ends : List WorkerView)
      (s t : StorageView) → AreMade n g ends s → t.exchange ≡ s.exchange
      → (ports : List P) (handles : List H) (reports : List (WorkerReport P)) → map port_of handles ≡ ports
      → map end_of handles ≡ ends
      → AreEach (λ h r. KeepsWorker told leads_to (port_of h) (end_of h) r) handles reports
      → AreJoined told leads_to g t ports reports
  joined {H} port_of end_of n g ends s t made same ports handles reports ports_are ends_are kept = record {
    one_each = sym kept.0 ∙ sym (length-map handles port_of) ∙ ap length ports_are;
    each = λ w port report there at.
        let h = at_mapped port_of handles w port (subst (λ l. get_elem? l w ≡ some port) (sym ports_are) there) in
        let is : end_of h.0 ≡ new_worker_view s.exchange g w = made.1 w (end_of h.0)
        (subst (λ l. get_elem? l w ≡ some (end_of h.0)) ends_are (at_map end_of handles w h.0 h.1)) in
        subst (λ (z : P × WorkerView). KeepsWorker told leads_to z.0 z.1 report)
        (λ i. (h.2 i, (is ∙ (λ j. new_worker_view (sym same j) g w)) i)) (kept.1 w h.0 report h.1 at);
  }

  pub worker_holds : (terms : Terms) (s : StorageView) (g : Gathered) (port : P) (w : ℕ) (r : WorkerReport P)
      → KeepsWorker told leads_to port (new_worker_view s.exchange terms w) r
      → AreCounted s r.worker_end (slice_index g.sent r.worker_end.worker) (slice_index g.back r.worker_end.worker)
      → IsWorkerOf told leads_to s.history g port w (worker_of r)
  worker_holds terms s g port w r kept counted =
      let is : r.worker_end.worker ≡ w = kept.bye.worker in
      let all = counted.compared.all kept.bye.said_bye in
      let sent : asked_posted (worker_share s.history r.worker_end.worker) ≡ r.worker_end.sent = all.1 in record {
        leads = kept.leads;
        tells = same_dialect (told r.port) (told port) kept.tells kept.spelled;
        exactly = subst (λ n. asked_posted (worker_share s.history n) ≡ r.worker_end.sent) is sent;
        sent = subst (λ n. slice_index g.sent n ≡ length r.worker_end.sent) is counted.sent_is;
        back = subst (λ n. slice_index g.back n ≡ length r.worker_end.sent) is
            (counted.back_is
            ∙ sym (length-map r.worker_end.back
            (λ (a : Answered). let p : Posted = record {
              session = a.session;
              number = a.number;
              request = a.request;
            } in p))
            ∙ ap length kept.bye.all_back);
        strangers = kept.strangers;
        listed = λ trace tells. (kept.reported trace tells).listed;
        answered = λ trace tells t cause messages rest listed reads.
            subst (λ n. IsSessionAnswered trace.dialect trace.events s.history n t cause messages) is
            ((kept.reported trace tells).answered s.history (sym all.0) sent t cause messages rest listed reads);
        given_by = λ trace tells. starts_trans s.history r.worker_end.seen trace.history counted.compared.seen
            (kept.whose trace tells).later;
      }

  -- the same of an end of the same exchange
  pub rejoined : (terms : Terms) (s t : StorageView) → t.exchange ≡ s.exchange → (ports : List P)
      (reports : List (WorkerReport P))
      → AreJoined told leads_to terms s ports reports → AreJoined told leads_to terms t ports reports
  rejoined terms s t same ports reports j = record {
    one_each = j.one_each;
    each = λ w port report there at. subst (λ (x : TableId). KeepsWorker told leads_to port (new_worker_view x terms w) report)
        (sym same) (j.each w port report there at);
  }

  -- the report of a storage thread that was given the clock and the end as it was made
  pub stored : {C : Type 0} (clock_told : C → Option (List ℕ)) (clock_leads : C → C → Type 0) (keeps : Type 0) (exact may_refuse : Bool)
      (n : ℕ)
      (g : Terms)
      (ends : List WorkerView) (s : StorageView) → AreMade n g ends s → (ports : List P) → n ≡ length ports
      → (clock c₀ : C) (e₀ : StorageView) (report : StorageReport C) → c₀ ≡ clock → e₀ ≡ s
      → KeepsStorage clock_told clock_leads keeps exact may_refuse c₀ e₀ report
      → IsLeftByStorage clock_told clock_leads keeps exact may_refuse g ports clock report
  stored {C} clock_told clock_leads keeps exact may_refuse n g ends s made ports count clock c₀ e₀ report clock_is end_is kept =
      let k : KeepsStorage clock_told clock_leads keeps exact may_refuse clock s report = subst
      (λ (z : C × StorageView). KeepsStorage clock_told clock_leads keeps exact may_refuse z.0 z.1 report)
      (λ i. (clock_is i, end_is i)) kept in
      subst (λ (z : StorageView). KeepsStorage clock_told clock_leads keeps exact may_refuse clock z report)
      (made.2 ∙ (λ i. new_storage_view (sym k.same.0 i) g (count i))) k

  pub run : {C : Type 0} (clock_told : C → Option (List ℕ)) (clock_leads : C → C → Type 0) (keeps : Type 0)
      (exact may_refuse : Bool) (terms : Terms)
      (ports : List P) (clock : C) (reports : List (WorkerReport P)) (storage : StorageReport C)
      (report : GroupReport P C)
      → IsLeftByStorage clock_told clock_leads keeps exact may_refuse terms ports clock storage
      → AreJoined told leads_to terms storage.storage_end ports reports
      → report.workers.items ≡ workers_of reports → report.clock ≡ storage.clock → report.executed ≡ storage.executed
      → ((i : ℕ) (v : WorkerView) → get_elem? (ends_of reports) i ≡ some v
      → AreCounted storage.storage_end v (slice_index report.gathered.sent v.worker)
      (slice_index report.gathered.back v.worker))
      → ((w : ℕ) → storage.storage_end.workers ≤ w
      → (slice_index report.gathered.sent w ≡ 0) × (slice_index report.gathered.back w ≡ 0))
      → IsRun told leads_to clock_told clock_leads keeps exact may_refuse terms.geometry ports clock report
  run {C} clock_told clock_leads keeps exact may_refuse terms ports clock reports storage report stored joined workers_are clock_is
      executed_is counted beyond = record {
        history = storage.storage_end.history;
        legal = stored.legal;
        inside = stored.inside;
        counted = executed_is ∙ stored.counted;
        moments = subst (λ (y : C). IsTimed (clock_told clock) (clock_told y) storage.storage_end.history) (sym clock_is)
            stored.moments;
        leads = subst (λ (y : C). clock_leads clock y) (sym clock_is) stored.leads;
        one_each = ap length workers_are ∙ length-map reports worker_of ∙ joined.one_each;
        each = λ w port worker there at.
            let q = at_mapped worker_of reports w worker (subst (λ l. get_elem? l w ≡ some worker) workers_are at) in
            subst (IsWorkerOf told leads_to storage.storage_end.history report.gathered port w) q.2
            (worker_holds terms storage.storage_end report.gathered port w q.0 (joined.each w port q.0 there q.1)
            (counted w q.0.worker_end (at_map (λ (r : WorkerReport P). r.worker_end) reports w q.0 q.1)));
        none_beyond = λ w le. beyond w (subst (λ n. n ≤ w) (sym stored.same.1) le);
        refused = stored.refused;
        bounded = stored.bounded;
        dated = stored.dated;
      }

-- what a storage side leaves that began with this clock and this end
pub kept_by_side : {C : Type 0} (told : C → Option (List ℕ)) (leads_to : C → C → Type 0) (keeps : Type 0) (exact may_refuse : Bool)
    (clock : C) (end : StorageView) (report : StorageReport C) → IsLeftBySide told leads_to keeps exact may_refuse clock end report
    → KeepsStorage told leads_to keeps exact may_refuse clock end report
kept_by_side told leads_to keeps exact may_refuse clock end report l = record {
  same = l.same;
  none_open = l.once_in_order.1;
  legal = l.legal;
  inside = l.inside;
  counted = l.executed;
  moments = l.moments;
  leads = l.leads;
  refused = l.refused;
  bounded = l.bounded;
  dated = l.dated;
}

-- the ports are those of the ends, as they were made
pub ports_at : {P : Type 0} (told : P → Option PortTrace) (n : ℕ) (g : Terms) (d : Dialect) (ports : List P) (ends : List WorkerView)
    (s : StorageView) → AreMade n g ends s → length ports ≡ n → ArePortsOf told s.exchange g d ports
    → AreEach (IsPortAt told d) ports ends
ports_at told n g d ports ends s made long h = (
  long ∙ sym made.0,
  λ w port end at there. subst (IsPortAt told d port) (sym (made.1 w end there)) (record {
    silent = λ trace e. (h w port at trace e).3;
    whose = λ trace e. let k = h w port at trace e in record {
      exchange_is = k.5;
      worker_is = k.0;
      terms_are = k.1;
      later = ([], sym k.4 ∙ sym (append-nil trace.history));
    };
    spelled = λ trace e. (h w port at trace e).2;
  }),
)

-- ends as they are made have sent nothing
pub fresh_ends : (n : ℕ) (g : Terms) (ends : List WorkerView) (s : StorageView) → AreMade n g ends s
    → All HasSentNothing ends
fresh_ends n g ends s made k d low = subst HasSentNothing
    (sym (made.1 k (slice_index_or ends k d) (or_at ends k d low))) (refl, refl, refl, refl)

-- the ends that were made for as many workers, by these terms
pub made_for : (n m : ℕ) (g h : Terms) (ends : List WorkerView) (s : StorageView) → (n ≡ m) × (g ≡ h)
    → AreMade n g ends s → AreMade m h ends s
made_for n m g h ends s same made = subst (λ (z : ℕ × Terms). AreMade z.0 z.1 ends s) (λ i. (same.0 i, same.1 i)) made

-- the same by the terms of storage's own end, which is this one
pub made_of : (n m : ℕ) (g : Terms) (ends : List WorkerView) (s e : StorageView) → n ≡ m → AreMade n g ends s → e ≡ s
    → AreMade m e.terms ends e
made_of n m g ends s e same made is = subst (λ (z : StorageView). AreMade m z.terms ends z) (sym is)
    (made_for n m g s.terms ends s (same, sym (ap (λ (z : StorageView). z.terms) made.2)) made)
