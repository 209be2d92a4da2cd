-- What one turn of the storage thread keeps.
use Rattle.std.proofs.Common.{◌≡◌, ◌≢◌, ℕ, zero, suc, ◌+◌, ◌<◌, ◌≤◌, List, [], ◌∷◌, ◌++◌}
use Rattle.std.proofs.Common.{map, length, Option, Some, None, Bool, true, cond, refl, sym, ap, ◌∙◌}
use Rattle.std.proofs.Common.{subst, true≢false, arith, length-append, append_assoc, append-nil, eq-eqb, ne_eqb}
use Rattle.std.specs.List.{All}
use Rattle.std.specs.Option.{option_map, IfSome, IsSome}
use Rattle.std.proofs.lemmas.List.Elements.{All-nil, All-cons, All-head, All-tail, All-append}
use mathlib.Core.Logic.{dite}
use mathlib.Core.List.{map-append}
use native.Mathlib.Decide.{ℕ_discrete}
use Rattle.proto.specs.declared.history.Posted.{Posted}
use Rattle.proto.specs.declared.history.Answered.{Answered}
use Rattle.proto.specs.Cache.{Cache, empty_cache}
use Rattle.proto.specs.ClockAnswers.{GivenAnswer, IsRead}
use Rattle.proto.specs.declared.logged_clock.ClockStart.{ClockStart}
use Rattle.proto.specs.declared.clock.AskedClock.{AskedClock}
use Rattle.proto.specs.History.{worker_share, answers_by}
use Rattle.exchange.specs.declared.messages.Taken.TheVariants.{Asked, Bye}
use Rattle.proto.specs.Counts.{times}
use Rattle.exchange.specs.Ends.{StorageView}
use Rattle.engine.specs.Reaching.{Reaches}
use Rattle.engine.proofs.ReachingLemmas.{answers_more}
use Rattle.storage_thread.specs.Serving.{AsksClock, IsReadSince, IsTimed, taken_as, SaidBye, IsUnused, GetsNone, GetsMessage, AnswersOpenRequest}
use Rattle.storage_thread.specs.Serving.{IsStorageServing}
use Rattle.proto.proofs.CountLemmas.{one_more_time, no_more_time}

-- before the first request
pub serving_first : (v : StorageView) (c : Cache) (m : ℕ) → IsUnused v → c ≡ empty_cache 0 → m ≡ 0
    → IsStorageServing v v c m
serving_first v c m u c_is m_is = record {
  same = (refl, refl, refl);
  shut = u.1;
  taken = u.0 ∙ sym (ap (map taken_as) u.2);
  reaches = subst (λ (z : List Answered × Cache × ℕ). Reaches v.terms.geometry z.0 z.1 z.2)
      (λ i. (sym u.2 i, sym c_is i, sym m_is i))
      record {
        caches = [];
        chain = tt;
        cache_is = refl;
        moments_are = tt;
        moment_is = refl;
        small = omega arith;
        numbers = λ w. tt;
        counts = tt;
      };
  known = subst (All (λ (e : Answered). e.worker < v.workers)) (sym u.2)
      (All-nil (λ (e : Answered). e.worker < v.workers));
  inside = subst (All (λ w. w < v.workers)) (sym u.3) (All-nil (λ w. w < v.workers));
  once = λ w. subst (λ (l : List ℕ). times w l ≤ 1) (sym u.3) (omega arith);
}

-- no answer, and one more answer
no_answers : (told : Option (List ℕ)) → told ≡ option_map (λ (told : List ℕ). told ++ []) told
no_answers None = refl
no_answers (Some told) = ap Some (sym (append-nil told))

-- some answers were given, and one more
one_answer_more : (before mid after : Option (List ℕ)) (answers : List ℕ) (n : ℕ)
    → mid ≡ option_map (λ (told : List ℕ). told ++ answers) before
    → after ≡ option_map (λ (told : List ℕ). told ++ n ∷ []) mid
    → after ≡ option_map (λ (told : List ℕ). told ++ (answers ++ n ∷ [])) before
one_answer_more None mid after answers n first then = then ∙ ap (option_map (λ (told : List ℕ). told ++ n ∷ [])) first
one_answer_more (Some told) mid after answers n first then =
    then ∙ (ap (option_map (λ (told : List ℕ). told ++ n ∷ [])) first ∙ ap Some (append_assoc told answers (n ∷ [])))

-- before the first request the clock has given no answer
pub timed_first : (told : Option (List ℕ)) (h : List Answered) → h ≡ [] → IsTimed told told h
timed_first told h none = subst (IsTimed told told) (sym none) (no_answers told)

-- answers that were read off the system's clock, and one more
pub read_more : (b : Bool) (old new : Option ClockStart) (h : List Answered) (e : Answered) (a : GivenAnswer)
    → e.clock ≡ answers_by [] h ++ a ∷ [] → IsReadSince b old h → IfSome old (λ from. IsRead from a) → new ≡ old
    → IsReadSince b new (h ++ e ∷ [])
read_more b old new h e a is all one same by = let f = all by in let from = f.0 in (
  from,
  same ∙ f.1,
  subst (All (IsRead from)) (sym (answers_more [] h e ∙ is))
      (All-append (IsRead from) (answers_by [] h) (a ∷ []) f.2
      (All-cons (IsRead from) a [] (subst (λ s. IfSome s (λ from. IsRead from a)) f.1 one) (All-nil (IsRead from)))),
)

-- before the first request
pub read_first : {a b : Bool} {h : List Answered} (start : Option ClockStart) → b ≡ a → (a ≡ true → IsSome start) → h ≡ []
    → IsReadSince b start h
read_first None same counts none by = absurd (true≢false (sym (counts (sym same ∙ by))))
read_first (Some from) same counts none by = (
  from,
  refl,
  subst (λ (l : List Answered). All (IsRead from) (answers_by [] l)) (sym none) (All-nil (IsRead from)),
)

-- a turn in which no request came
module _ (old now new : StorageView) (c : Cache) (m : ℕ) (r : IsStorageServing old now c m) where
  serving_byes : (byes : List ℕ) (looks : List (ℕ × ℕ)) (last : ℕ) → new ≡ record now { byes = byes; looks = looks; last = last }
      → All (λ w. w < now.workers) byes → ((v : ℕ) → times v byes ≤ 1) → IsStorageServing old new c m
  serving_byes byes looks last whole inside once = record {
    same = (
      ap (λ (z : StorageView). z.exchange) whole ∙ r.same.0,
      ap (λ (z : StorageView). z.workers) whole
          ∙ r.same.1,
      ap (λ (z : StorageView). z.terms) whole ∙ r.same.2,
    );
    shut = ap (λ (z : StorageView). z.open_request) whole ∙ r.shut;
    taken = subst (λ (z : StorageView). z.taken ≡ map taken_as z.history) (sym whole) r.taken;
    reaches = subst (λ (z : StorageView). Reaches z.terms.geometry z.history c m) (sym whole) r.reaches;
    known = subst (λ (z : StorageView). All (λ (e : Answered). e.worker < z.workers) z.history) (sym whole) r.known;
    inside = subst (λ (z : StorageView). All (λ w. w < z.workers) z.byes) (sym whole) inside;
    once = λ v. subst (λ (z : StorageView). times v z.byes ≤ 1) (sym whole) (once v);
  }

  -- nothing came
  pub serving_none : GetsNone now new → IsStorageServing old new c m
  serving_none f = serving_byes now.byes f.0 now.last f.1 r.inside r.once

  -- a bye was taken
  pub serving_bye : (w : ℕ) → GetsMessage now new (Bye w) → IsStorageServing old new c m
  serving_bye w f =
      serving_byes (f.lane ∷ now.byes) f.looks f.lane f.after (All-cons (λ w. w < now.workers) f.lane now.byes f.inside r.inside)
      (λ v. one_more f.lane v now.byes f.is_next.1 (r.once v))
    where
      one_more : (w v : ℕ) (byes : List ℕ) → times w byes ≡ 0 → times v byes ≤ 1 → times v (w ∷ byes) ≤ 1
      one_more w v byes none few = dite (ℕ_discrete w v)
          (λ same. let e = ap (λ (b : Bool). cond b 1 0 + times v byes) (eq-eqb w v same) in
          let n : times v byes ≡ 0 = ap (λ (z : ℕ). times z byes) (sym same) ∙ none in omega (arith, e, n))
          (λ other. let e = ap (λ (b : Bool). cond b 1 0 + times v byes) (ne_eqb w v other) in omega (arith, e, few))

  pub one_bye : (w : ℕ) → GetsMessage now new (Bye w) → length new.byes ≡ length now.byes + 1
  one_bye w f = ap (λ (z : StorageView). length z.byes) f.after ∙ (omega arith)

-- a request was taken
module _ (now mid : StorageView) (w : ℕ) (p : Posted) (f : GetsMessage now mid (Asked w p)) where
  pub asked_reaches : (c : Cache) (m : ℕ) → Reaches now.terms.geometry now.history c m → Reaches mid.terms.geometry mid.history c m
  asked_reaches c m r = subst (λ (z : StorageView). Reaches z.terms.geometry z.history c m) (sym f.after) r

  pub asked_sizes : now.terms.geometry ≡ mid.terms.geometry
  asked_sizes = ap (λ (z : StorageView). z.terms.geometry) (sym f.after)

  pub asked_open : mid.open_request ≡ Some (w, p)
  asked_open = ap (λ (z : StorageView). z.open_request) f.after ∙ ap (λ (z : ℕ). Some (z, p)) (sym f.is_next.0)

  pub asked_next : p.number ≡ length (worker_share mid.history w) + 1
  asked_next = f.is_next.2 ∙ ap (λ (z : ℕ × StorageView). length (worker_share z.1.history z.0) + 1)
      (λ i. (sym f.is_next.0 i, sym f.after i))

  pub asked_read : (start : Option ClockStart) → IsReadSince now.terms.system_clock start now.history
      → IsReadSince mid.terms.system_clock start mid.history
  asked_read start r = subst (λ (z : StorageView). IsReadSince z.terms.system_clock start z.history) (sym f.after) r

  -- and answered
  module _ (new : StorageView) (m : ℕ) (told : List GivenAnswer) (a : AnswersOpenRequest mid new w p m told) where
    pub whole : new ≡ record now {
      taken = now.taken ++ (f.lane, p) ∷ [];
      open_request = None;
      history = now.history ++ a.0 ∷ [];
      looks = f.looks;
      last = f.lane;
    }
    whole = a.5 ∙ (λ i. let z : StorageView = f.after i in
        record z { history = z.history ++ a.0 ∷ []; open_request = None })

    pub serving_asked : (old : StorageView) (c₀ c : Cache) (m₀ : ℕ) → IsStorageServing old now c₀ m₀
        → Reaches new.terms.geometry new.history c m → IsStorageServing old new c m
    serving_asked old c₀ c m₀ r reaches = record {
      same = (
        ap (λ (z : StorageView). z.exchange) whole ∙ r.same.0,
        ap (λ (z : StorageView). z.workers) whole
            ∙ r.same.1,
        ap (λ (z : StorageView). z.terms) whole ∙ r.same.2,
      );
      shut = ap (λ (z : StorageView). z.open_request) whole;
      taken = ap (λ (z : StorageView). z.taken) whole ∙ (ap (λ (l : List (ℕ × Posted)). l ++ (f.lane, p) ∷ []) r.taken
          ∙ ((λ i. map taken_as now.history ++ (sym (a.1 ∙ f.is_next.0) i, sym a.2 i) ∷ [])
          ∙ (sym (map-append taken_as now.history (a.0 ∷ []))
          ∙ ap (λ (z : StorageView). map taken_as z.history) (sym whole))));
      reaches = reaches;
      known = subst (λ (z : StorageView). All (λ (e : Answered). e.worker < z.workers) z.history) (sym whole)
          (All-append (λ (e : Answered). e.worker < now.workers) now.history (a.0 ∷ []) r.known
          (All-cons (λ (e : Answered). e.worker < now.workers) a.0 []
          (subst (λ (k : ℕ). k < now.workers) (sym (a.1 ∙ f.is_next.0)) f.inside)
          (All-nil (λ (e : Answered). e.worker < now.workers))));
      inside = subst (λ (z : StorageView). All (λ w. w < z.workers) z.byes) (sym whole) r.inside;
      once = λ v. subst (λ (z : StorageView). times v z.byes ≤ 1) (sym whole) (r.once v);
    }

    pub one_entry : new.history ≡ now.history ++ a.0 ∷ []
    one_entry = ap (λ (z : StorageView). z.history) whole

    pub longer : length new.history ≡ length now.history + 1
    longer = ap length one_entry ∙ (length-append now.history (a.0 ∷ []) ∙ (omega arith))

    pub same_sizes : now.terms.geometry ≡ new.terms.geometry
    same_sizes = ap (λ (z : StorageView). z.terms.geometry) (sym whole)

    pub same_byes : length new.byes ≡ length now.byes
    same_byes = ap (λ (z : StorageView). length z.byes) whole

    pub same_workers : new.workers ≡ now.workers
    same_workers = ap (λ (z : StorageView). z.workers) whole

    -- the clock's answers are those by which the history has its moments
    pub answers_asked : told ≡ answers_by [] new.history
    answers_asked = sym a.4 ∙ sym (answers_more [] now.history a.0) ∙ ap (answers_by []) (sym one_entry)

    pub timed_asked : {C : Type 0} (tells : C → Option (List ℕ)) (start : C → Option ClockStart) (before : Option (List ℕ))
        (then after : AskedClock C) (m₀ : ℕ) → then.answers ≡ answers_by [] now.history → after.answers ≡ told
        → IsTimed before (tells then.clock) now.history → AsksClock tells start then m₀ after m
        → IsTimed before (tells after.clock) new.history
    timed_asked tells start before then after m₀ then_is after_is t asked =
        let seconds : List GivenAnswer → List ℕ = map (λ (x : GivenAnswer). x.seconds) in
        one_answer_more before (tells then.clock) (tells after.clock) (seconds (answers_by [] now.history)) asked.0.seconds t asked.1
        ∙ ap (λ (l : List ℕ). option_map (λ (told : List ℕ). told ++ l) before)
        (sym (ap seconds (sym answers_asked ∙ sym after_is ∙ asked.2)
        ∙ map-append (λ (x : GivenAnswer). x.seconds) then.answers (asked.0 ∷ [])
        ∙ ap (λ (l : List GivenAnswer). seconds l ++ asked.0.seconds ∷ []) then_is))

-- one bye of each worker

-- how many of the first n numbers, counted as often as they stand there, are in the list
abbrev among : ℕ → List ℕ → ℕ
among zero xs = 0
among (suc n) xs = among n xs + times n xs

-- a number that isn't one of the first n changes nothing
among_else : (n x : ℕ) (xs : List ℕ) → n ≤ x → among n (x ∷ xs) ≡ among n xs
among_else zero x xs le = refl
among_else (suc n) x xs le = let le' : suc n ≤ x = le in let a = among_else n x xs (omega arith) in
    let b = no_more_time n x xs (λ e. omega arith) in omega (arith, a, b)

-- one of the first n counts once more
among_more : (n x : ℕ) (xs : List ℕ) → x < n → among n (x ∷ xs) ≡ suc (among n xs)
among_more zero x xs lt = absurd (omega arith)
among_more (suc n) x xs lt = let lt' : x < suc n = lt in dite (ℕ_discrete x n)
    (λ e. let a = among_else n x xs (let e' : x ≡ n = e in omega arith) in let b = one_more_time n x xs e in
    omega (arith, a, b))
    (λ ne. let ne' : x ≢ n = ne in let a = among_more n x xs (omega arith) in let b = no_more_time n x xs ne in
    omega (arith, a, b))

-- where all are of the first n, each is counted
among_all : (n : ℕ) (xs : List ℕ) → All (λ w. w < n) xs → among n xs ≡ length xs
among_all n [] all = none n
  where
    none : (n : ℕ) → among n [] ≡ 0
    none zero = refl
    none (suc n) = let a = none n in omega (arith, a)
among_all n (x ∷ xs) all = among_more n x xs (All-head (λ w. w < n) x xs all)
    ∙ ap suc (among_all n xs (All-tail (λ w. w < n) x xs all))

-- where none stands there twice, there are at most n
among_few : (n : ℕ) (xs : List ℕ) → ((w : ℕ) → times w xs ≤ 1) → among n xs ≤ n
among_few zero xs few = omega arith
among_few (suc n) xs few = let a = among_few n xs few in let b = few n in omega (arith, a, b)

-- and fewer where one of them isn't there
among_fewer : (n w : ℕ) (xs : List ℕ) → ((w : ℕ) → times w xs ≤ 1) → w < n → times w xs ≡ 0 → among n xs < n
among_fewer zero w xs few lt none = absurd (omega arith)
among_fewer (suc n) w xs few lt none = let lt' : w < suc n = lt in dite (ℕ_discrete w n)
    (λ e. let a = among_few n xs few in let b : times n xs ≡ 0 = ap (λ (z : ℕ). times z xs) (sym e) ∙ none in
    omega (arith, a, b))
    (λ ne. let ne' : w ≢ n = ne in let a = among_fewer n w xs few (omega arith) none in let b = few n in
    omega (arith, a, b))

-- where as many byes were taken as there are workers, each worker said one
pub all_said : (old new : StorageView) (c : Cache) (m : ℕ) → IsStorageServing old new c m
    → length new.byes ≡ new.workers → SaidBye new
all_said old new c m r all w lt = let few : times w new.byes ≤ 1 = r.once w in dite (ℕ_discrete (times w new.byes) 0)
    (λ none. let a = among_fewer new.workers w new.byes r.once lt none in
    let b = among_all new.workers new.byes r.inside in omega (arith, a, b, all))
    (λ some. let some' : times w new.byes ≢ 0 = some in omega arith)
