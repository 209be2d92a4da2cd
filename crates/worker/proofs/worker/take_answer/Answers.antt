use Rattle.std.proofs.Common.{◌≡◌, length, List, ◌++◌, ap, sym, subst, Option, Some, None}
use Rattle.std.specs.Prelude.{MatchOption, IfSome}
use mathlib.Core.Option.{some}
use lib.ListN.{get_elem?}
use Rattle.proto.specs.declared.history.Answered.{Answered}
use Rattle.exchange.specs.Beginnings.{StartsWith, posted_of}
use Rattle.exchange.specs.Ends.{WorkerView, WorkerLaneView, TakesAnswer, TakesSeen, WasTold, with_put_sent}
use Rattle.exchange.proofs.Fields.{told_by_load, told_longer, told_taken}
use Rattle.worker.specs.Workers.{TakesNone, TakesBack, IsLaterEnd}
use Rattle.worker.proofs.WorkerSteps.{later_view}
use Rattle.worker.proofs.SettleSteps.{at_append}
use Rattle.worker.proofs.worker.take_answer.Goals as goal

-- what is told of an answer, or of none
abbrev Takes : WorkerLaneView → Option Answered → WorkerLaneView → Type 0
Takes old result new = MatchOption result (TakesNone (with_put_sent old).end (with_put_sent new).end)
    (λ a. TakesBack (with_put_sent old).end (with_put_sent new).end a)

-- the answer is that of the first request that was sent and hadn't come back
abbrev IsFirst : WorkerLaneView → Answered → Type 0
IsFirst old a = (a.worker ≡ old.end.worker) × (get_elem? old.end.sent (length old.end.back) ≡ some (posted_of a))

-- what is known of the history that the end was told of, once what was put is sent
told_once_sent : (new : WorkerLaneView) (end : WorkerView) → new.end ≡ end → WasTold end
    → WasTold (with_put_sent new).end
told_once_sent new end e told = told_longer new.put (subst WasTold (sym e) told)

-- the end after a look, which told of this history
later_looked : (old new : WorkerView) (told : List Answered) → new.exchange ≡ old.exchange → new.worker ≡ old.worker → new.terms ≡ old.terms
    → new.seen ≡ told → StartsWith told old.seen → IsLaterEnd old new
later_looked old new told exchange worker terms seen later =
    record { exchange = exchange; worker = worker; terms = terms; later = subst (λ l. StartsWith l old.seen) (sym seen) later }

by_look : (old new : WorkerLaneView) (result : Option Answered) → TakesAnswer old.end result new.end
    → new.put ≡ old.put
    → IfSome result (IsFirst old) → Takes old result new
by_look old new None k put own = let e = k.3.1 in record {
  later = later_looked (with_put_sent old).end (with_put_sent new).end k.1 (ap (λ (w : WorkerView). w.exchange) e)
      (ap (λ (w : WorkerView). w.worker) e)
      (ap (λ (w : WorkerView). w.terms) e) (ap (λ (w : WorkerView). w.seen) e) k.2.later;
  sent = λ i. (e i).sent ++ put i;
  back = ap (λ (w : WorkerView). w.back) e;
  running = ap (λ (w : WorkerView). w.said_bye) e;
  same = record { exchange = ap (λ (w : WorkerView). w.exchange) e; worker = ap (λ (w : WorkerView). w.worker) e };
  told = λ _. told_once_sent new _ e (told_by_load k.2);
}
by_look old new (Some a) k put own = let e = k.3.1 in record {
  later = later_looked (with_put_sent old).end (with_put_sent new).end k.1 (ap (λ (w : WorkerView). w.exchange) e)
      (ap (λ (w : WorkerView). w.worker) e)
      (ap (λ (w : WorkerView). w.terms) e) (ap (λ (w : WorkerView). w.seen) e) k.2.later;
  own = at_append old.end.sent old.put (length old.end.back) (posted_of a) own.1;
  sent = λ i. (e i).sent ++ put i;
  back = ap (λ (w : WorkerView). w.back) e;
  running = ap (λ (w : WorkerView). w.said_bye) e;
  same = record { exchange = ap (λ (w : WorkerView). w.exchange) e; worker = ap (λ (w : WorkerView). w.worker) e };
  told = λ _. told_once_sent new _ e (told_taken a (told_by_load k.2) k.3.0);
}

seen_before : (old new : WorkerLaneView) (a : Answered) → TakesSeen old.end (Some a) new.end → new.put ≡ old.put
    → IsFirst old a → Takes old (Some a) new
seen_before old new a k put own = let e = k.1.1 in record {
  later = later_view (with_put_sent old).end (with_put_sent new).end (ap (λ (w : WorkerView). w.exchange) e)
      (ap (λ (w : WorkerView). w.worker) e)
      (ap (λ (w : WorkerView). w.terms) e) (ap (λ (w : WorkerView). w.seen) e);
  own = at_append old.end.sent old.put (length old.end.back) (posted_of a) own.1;
  sent = λ i. (e i).sent ++ put i;
  back = ap (λ (w : WorkerView). w.back) e;
  running = ap (λ (w : WorkerView). w.said_bye) e;
  same = record { exchange = ap (λ (w : WorkerView). w.exchange) e; worker = ap (λ (w : WorkerView). w.worker) e };
  told = λ _. told_once_sent new _ e (told_taken a k.0 k.1.0);
}

none_seen : (old new : WorkerLaneView) → TakesSeen old.end None new.end → new.put ≡ old.put
    → (with_put_sent new).end ≡ (with_put_sent old).end
none_seen old new k put = λ i. (with_put_sent (record { end = k.1.1 i; put = put i })).end

pub returns-in-Some : goal.returns-in-Some
returns-in-Some c =
    let k = c.in-Some.ensures in
    seen_before c.args.batch.now c.take_seen.new.self c.in-Some.answered k.taken k.put k.own

pub returns-in-None : goal.returns-in-None
returns-in-None c =
    let old = c.args.batch.now in let mid = c.take_seen.new.self in let new = c.take.new.self in
    let k = c.take.ensures in
    let none = c.in-None.ensures in
    subst (λ (w : WorkerView). MatchOption c.take.result (TakesNone w (with_put_sent new).end)
    (λ (a : Answered). TakesBack w (with_put_sent new).end a))
    (none_seen old mid none.taken none.put) (by_look mid new c.take.result k.taken k.put k.own)
