-- A history that goes on.
use Rattle.std.proofs.Common.{◌≡◌, ℕ, ◌+◌, ◌≤◌, max, min, map, List, [], ◌∷◌, ◌++◌, length, refl, sym, ap, ◌∙◌, subst, arith}
use mathlib.Core.Logic.{dite}
use mathlib.Core.List.{map-append}
use native.Mathlib.Decide.{ℕ_discrete}
use Rattle.std.specs.Prelude.{◌⊎◌}
use Rattle.proto.specs.declared.message.Reply.{Reply}
use Rattle.proto.specs.declared.message.Reply.TheVariants.{NoMemory}
use Rattle.proto.specs.declared.message.Reply.TheVariants as replies
use Rattle.proto.specs.declared.message.Request.{Request}
use Rattle.proto.specs.declared.message.Request.TheVariants.{Stats}
use Rattle.proto.specs.declared.counts.Counts.{Counts}
use Rattle.proto.specs.StatTexts.{IsStats}
use Rattle.proto.specs.Tallies.{no_counts, counted, CountsFrom, counts_after}
use Rattle.proto.specs.declared.history.Answered.{Answered}
use Rattle.proto.specs.ClockAnswers.{GivenAnswer}
use Rattle.proto.specs.Sizes.{Sizes}
use Rattle.proto.specs.Cache.{Cache, empty_cache}
use Rattle.proto.specs.Steps.{Step, IsCarriedOut}
use Rattle.proto.specs.History.{max_moment, MomentsFrom, answers_by, Chain, NumbersFrom, worker_share, Legal}
use Rattle.engine.specs.Reaching.{last_or, last_cache, Reaches}
use Rattle.proto.proofs.CountLemmas.{share_mine, share_other}
use Rattle.proto.proofs.HistoryLemmas.{numbered}

-- what a step at a moment may be
abbrev pub StepAt : Type 1
StepAt = ℕ → Cache → Request → Reply → Cache → Type 0

-- the steps of an entry, whatever a `stats` was answered
abbrev pub IsDoneBy : StepAt → Cache → Answered → Cache → Type 0
IsDoneBy IsStep before e after =
    (reply : Reply) × ((reply ≡ e.reply) ⊎ (e.request ≡ Stats)) × IsCarriedOut (IsStep e.moment) before e.request reply after

abbrev pub IsStepOf : Sizes → Cache → Answered → Cache → Type 0
IsStepOf sizes before e after = IsDoneBy (Step sizes) before e after

-- a chain with the steps of one entry more
pub chain_more : (IsStep : StepAt) (before : Cache) (h : List Answered) (caches : List Cache) (e : Answered)
    (after : Cache)
    → Chain IsStep before h caches → IsDoneBy IsStep (last_cache before caches) e after
    → Chain IsStep before (h ++ e ∷ []) (caches ++ after ∷ [])
chain_more IsStep before [] [] e after c s = (s.0, s.1, s.2, tt)
chain_more IsStep before [] (x ∷ caches) e after c s = absurd c
chain_more IsStep before (b ∷ h) [] e after c s = absurd c
chain_more IsStep before (b ∷ h) (x ∷ caches) e after c s = (c.0, c.1, c.2, chain_more IsStep x h caches e after c.3 s)

-- what a request is told, where these counts stand before it
abbrev pub TellsCounts : Counts → Request → Reply → Type 0
TellsCounts c q reply = q ≡ Stats → (reply ≡ NoMemory) ⊎ ((lines : List ℕ) × (reply ≡ replies.Stats lines) × IsStats c lines)

-- the cache after that step is the last one
pub last_more : (before : Cache) (caches : List Cache) (after : Cache)
    → last_cache before (caches ++ after ∷ []) ≡ after
last_more before [] after = refl
last_more before (x ∷ caches) after = last_more x caches after

-- a number at the end of a list is its last one
last_number : (n : ℕ) (xs : List ℕ) (m : ℕ) → last_or n (xs ++ m ∷ []) ≡ m
last_number n [] m = refl
last_number n (x ∷ xs) m = last_number x xs m

-- the moments of a history
abbrev pub moments : List Answered → List ℕ
moments history = map (λ e. e.moment) history

-- the moment of a request, by the last one and the clock's answer
abbrev pub moment_after : ℕ → ℕ → ℕ
moment_after last answer = max last (min answer max_moment)

-- the moment of the last request comes last
pub moments_more : (h : List Answered) (e : Answered) → moments (h ++ e ∷ []) ≡ moments h ++ e.moment ∷ []
moments_more h e = map-append (λ (x : Answered). x.moment) h (e ∷ [])

-- the moments of a clock's answers, and one more
timed_on : (told : List GivenAnswer) (t : ℕ) (h : List Answered) (e : Answered) (answer : GivenAnswer) → MomentsFrom told t h
    → e.clock ≡ answers_by told h ++ answer ∷ [] → e.moment ≡ moment_after (last_or t (moments h)) answer.seconds
    → MomentsFrom told t (h ++ e ∷ [])
timed_on told t [] e answer r by at = (answer, by, at, tt)
timed_on told t (b ∷ h) e answer r by at = (r.0, r.1, r.2, timed_on b.clock b.moment h e answer r.3 by at)

-- the answers by which a history with one request more was timed
pub answers_more : (told : List GivenAnswer) (h : List Answered) (e : Answered) → answers_by told (h ++ e ∷ []) ≡ e.clock
answers_more told [] e = refl
answers_more told (b ∷ h) e = answers_more b.clock h e

-- counts that each `stats` tells, and one request more
counts_more : (c : Counts) (h : List Answered) (e : Answered) → CountsFrom c h
    → TellsCounts (counts_after c h) e.request e.reply → CountsFrom c (h ++ e ∷ [])
counts_more c [] e r tells = (tells, tt)
counts_more c (b ∷ h) e r tells = (r.0, counts_more (counted c b.request b.reply) h e r.1 tells)

-- the counts after one request more
pub counted_more : (c : Counts) (h : List Answered) (e : Answered)
    → counts_after c (h ++ e ∷ []) ≡ counted (counts_after c h) e.request e.reply
counted_more c [] e = refl
counted_more c (b ∷ h) e = counted_more (counted c b.request b.reply) h e

-- numbers that count on by one, and the next one
numbers_more : (n : ℕ) (h : List Answered) (e : Answered) → NumbersFrom n h → e.number ≡ n + length h
    → NumbersFrom n (h ++ e ∷ [])
numbers_more n [] e r is = (is ∙ (omega arith), tt)
numbers_more n (b ∷ h) e r is = (r.0, numbers_more (n + 1) h e r.1 (is ∙ (omega arith)))

-- a history with one request more leads to the cache and the moment of that request
pub reaches_more : (sizes : Sizes) (h : List Answered) (c after : Cache) (m : ℕ) (e : Answered) → Reaches sizes h c m
    → IsStepOf sizes c e after → TellsCounts (counts_after no_counts h) e.request e.reply → e.moment ≤ max_moment
    → (answer : GivenAnswer) → e.clock ≡ answers_by [] h ++ answer ∷ [] → e.moment ≡ moment_after m answer.seconds
    → e.number ≡ length (worker_share h e.worker) + 1 → Reaches sizes (h ++ e ∷ []) after e.moment
reaches_more sizes h c after m e r s tells high answer by at next = record {
  caches = r.caches ++ after ∷ [];
  chain = chain_more (Step sizes) (empty_cache 0) h r.caches e after r.chain
      (subst (λ (z : Cache). IsStepOf sizes z e after) (sym r.cache_is) s);
  cache_is = last_more (empty_cache 0) r.caches after;
  moments_are = timed_on [] 0 h e answer r.moments_are by
      (at ∙ ap (λ (z : ℕ). moment_after z answer.seconds) (sym r.moment_is));
  moment_is = ap (last_or 0) (moments_more h e) ∙ last_number 0 (moments h) e.moment;
  small = high;
  numbers = λ w. dite (ℕ_discrete e.worker w)
      (λ mine.
      let next_is = next ∙ (ap (λ (z : ℕ). length (worker_share h z) + 1) mine ∙ (omega arith)) in
      subst (NumbersFrom 1) (sym (share_mine h e w mine)) (numbers_more 1 (worker_share h w) e (r.numbers w) next_is))
      (λ other. subst (NumbersFrom 1) (sym (share_other h e w other)) (r.numbers w));
  counts = counts_more no_counts h e r.counts tells;
}

-- a history that leads somewhere is legal
pub legal_of : (sizes : Sizes) (h : List Answered) (c : Cache) (m : ℕ) → Reaches sizes h c m → Legal sizes h
legal_of sizes h c m r = record {
  moments = r.moments_are;
  caches = r.caches;
  chain = r.chain;
  numbers = λ worker. numbered (worker_share h worker) (r.numbers worker);
  counts = r.counts;
}
