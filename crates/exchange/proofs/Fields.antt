-- The fields of the two ends, after a step.
use Rattle.std.proofs.Common.{take}
use Rattle.proto.specs.declared.limits.TheConstants.{WINDOW}
use Rattle.proto.specs.declared.history.Posted.{Posted}
use Rattle.std.proofs.Common.{cond, eq-eqb, ne_eqb}
use mathlib.Core.Option.{some-injective, some-ne-none}
use mathlib.Core.Logic.{dite}
use native.Mathlib.Decide.{ℕ_discrete}
use Rattle.std.specs.Prelude.{IfSome}
use Rattle.atomic_table.proofs.Lists.{at_map}
use Rattle.proto.specs.History.{asked_posted}
use Rattle.std.proofs.Common.{◌≡◌, ◌≢◌, ◌⊎◌, ℕ, zero, suc, ◌+◌, ◌<◌, ◌≤◌, List, [], ◌∷◌, ◌++◌, length}
use Rattle.std.proofs.Common.{get_or, replicate, Option, Some, None, Bool, true, false}
use Rattle.std.proofs.Common.{true≢false}
use Rattle.std.proofs.Common.{refl, sym, ap, ◌∙◌, subst, inr, ⊎_elim, arith, length-append}
use Rattle.std.specs.Prelude.{is_some}
use mathlib.Core.Option.{some}
use lib.ListN.{get_elem?, length-map}
use Rattle.std.proofs.lemmas.List.{length-take, append-nil}
use Rattle.proto.specs.declared.history.Answered.{Answered}
use Rattle.exchange.specs.declared.rule.WorkerState.{WorkerState}
use Rattle.exchange.specs.declared.rule.StorageState.{StorageState}
use Rattle.exchange.specs.declared.rule.LaneView.TheVariants.{Worker, Storage}
use Rattle.exchange.specs.Beginnings.{StartsWith, posted_of}
use Rattle.proto.proofs.HistoryLemmas.{legal_none}
use Rattle.proto.specs.History.{worker_share}
use Rattle.exchange.specs.Lanes.{SeatState, first_worker_state}
use Rattle.exchange.specs.Steps.{holding_slot, with_seen_slot_taken, put_on, all_sent, with_bye, with_held_answered}
use Rattle.exchange.specs.Steps.{all_told, lane_request}
use Rattle.exchange.specs.declared.messages.LaneMessage.{LaneMessage}
use Rattle.exchange.specs.declared.messages.LaneMessage.TheVariants.{Ask, Bye, Answer}
use Rattle.std.specs.Prelude.{option_map}
use Rattle.exchange.specs.Seats.{open_in, worker_state_in, StateWasTold, WorkerAgrees, StateTakes, worker_view, storage_state_in, StorageAgrees}
use Rattle.exchange.specs.Seats.{HasUntold, IsNamed}
use Rattle.exchange.specs.Ends.{WorkerView, WorkerLaneView, max_posts, with_put_sent, IsToldHistory, IsDoneHistory, WasTold, TakesAnswer}
use Rattle.exchange.specs.Ends.{new_worker_view, new_storage_view, AreNew}
use Rattle.exchange.specs.Ends.{AreMade}
use Rattle.exchange.specs.Ends.{StorageView}
use Rattle.exchange.proofs.Known.{last_look_at}
use Rattle.exchange.specs.Ends.{settled_count, LastLook, IsNextMessage, with_taken, LooksAt, SeesNext}
use Rattle.exchange.specs.declared.messages.Taken.{Taken}
use Rattle.exchange.specs.declared.messages.Taken.TheVariants.{Asked, Bye as ByeTaken}
use Rattle.exchange.proofs.Lists.{at_below, at_end, starts_more, starts_below, take_whole, take_front}
use Rattle.atomic_table.specs.Seated.{TableId}
use Rattle.proto.specs.declared.terms.Terms.{Terms}
use Rattle.proto.proofs.CountLemmas.{either_way, share_mine, share_other}

-- known is the lesser of d and n
abbrev pub Least : ℕ → ℕ → ℕ → Type 0
Least known d n = ((d < n) × (known ≡ d)) ⊎ ((n ≤ d) × (known ≡ n))

-- the answers that a worker is told of are no more than its requests
pub few_answers : {terms : Terms} {w : ℕ} {sent : List Posted} {taken g : List Answered} {d : ℕ}
    → IsToldHistory terms w sent taken g d → length (worker_share g w) ≤ length sent
few_answers {terms} {w} {sent} {taken} {g} {d} h = let e = ap length h.asked in
    omega (arith, e, length-map (worker_share g w) posted_of, length-take d sent)

-- after a load of done that found d, d answers are known, or all n if those are fewer
known_by_load : {terms : Terms} {w : ℕ} {sent : List Posted} {taken g : List Answered} {d : ℕ} (n known : ℕ)
    → IsToldHistory terms w sent taken g d → length sent ≡ n → Least known d n → length (worker_share g w) ≡ known
known_by_load {terms} {w} {sent} {taken} {g} {d} n known h n_is least = let e = ap length h.asked in
    let m = length-map (worker_share g w) posted_of in let t = length-take d sent in
    ⊎_elim (λ (k : (d < n) × (known ≡ d)). let q : length (worker_share g w) ≡ known = omega (arith, e, m, t) in q)
    (λ (k : (n ≤ d) × (known ≡ n)). let q : length (worker_share g w) ≡ known = omega (arith, e, m, t) in q) least

-- what a load of done tells is what is known of the history then
pub told_by_load : {terms : Terms} {w : ℕ} {sent : List Posted} {bye : Bool} {taken seen g : List Answered} {d : ℕ}
    → IsDoneHistory terms w sent bye taken seen g d → IsToldHistory terms w sent taken g (length (worker_share g w))
told_by_load {terms} {w} {sent} {bye} {taken} {seen} {g} {d} h = let l : ℕ = length (worker_share g w) in
    let e = ap length h.history.asked in let m = length-map (worker_share g w) posted_of in
    let t = length-take d sent in record {
      legal = h.history.legal;
      asked = h.history.asked ∙ ⊎_elim (λ (k : d ≡ l). ap (λ (z : ℕ). take z sent) k)
          (λ (k : (bye ≡ true) × (d ≡ length sent + 1)). let all : d ≡ length sent + 1 = k.1 in
          take_whole sent d (omega arith) ∙ sym (take_whole sent l (omega (arith, e, m, t)))) h.counted;
      back = h.history.back;
    }

-- the same with more requests sent
pub told_longer : {terms : Terms} {w : ℕ} {sent : List Posted} {taken g : List Answered} (more : List Posted)
    → IsToldHistory terms w sent taken g (length (worker_share g w))
    → IsToldHistory terms w (sent ++ more) taken g (length (worker_share g w))
told_longer {terms} {w} {sent} {taken} {g} more h = record {
  legal = h.legal;
  asked = h.asked ∙ sym (take_front sent more (length (worker_share g w)) (few_answers h));
  back = h.back;
}

-- the same with the next answer taken back
pub told_taken : {terms : Terms} {w : ℕ} {sent : List Posted} {taken g : List Answered} {d : ℕ} (a : Answered)
    → IsToldHistory terms w sent taken g d → get_elem? (worker_share g w) (length taken) ≡ some a
    → IsToldHistory terms w sent (taken ++ a ∷ []) g d
told_taken {terms} {w} {sent} {taken} {g} {d} a h at =
    record { legal = h.legal; asked = h.asked; back = starts_more (worker_share g w) taken a h.back at }

-- the fields agree once an answer was counted
pub taken_more : (me me' : SeatState) (w sent put back known known' d : ℕ) (bye : Bool) (result : Option Answered)
    → WorkerAgrees me w sent put back known bye
    → is_some result ≡ true → StateTakes (worker_state_in me.0) d result (worker_state_in me'.0)
    → me' ≡ (Worker (worker_state_in me'.0), [])
    → Least known' d sent → WorkerAgrees me' w sent put (back + 1) known' bye
taken_more me me' w sent put back known known' d bye None r e t seat least = absurd (true≢false (sym e))
taken_more me me' w sent put back known known' d bye (Some a) r _ t seat least = let c : WorkerState =
    worker_state_in me.0 in
    let few : length (worker_share t.0 c.worker) ≤ length c.sent = few_answers t.1.history in
    let at = t.2.0 in
    let below : length c.back < length (worker_share t.0 c.worker) =
    at_below (worker_share t.0 c.worker) (length c.back) a at in
    let is = t.2.1 in let sent_is : length c.sent ≡ sent = r.sent_is in
    let back_is : length c.back ≡ back = r.back_is in let order = r.order in
    let o0 : sent + put ≤ back + WINDOW = order.2 in
    let known_is : length (worker_share t.0 c.worker) ≡ known' = known_by_load sent known' t.1.history sent_is least in record {
      seated = seat;
      worker_is = ap (λ (z : WorkerState). z.worker) is ∙ r.worker_is;
      sent_is = ap (λ (z : WorkerState). length z.sent) is ∙ r.sent_is;
      put_is = ap (λ (z : WorkerState). length z.put) is ∙ r.put_is;
      back_is = ap (λ (z : WorkerState). length z.back) is ∙ (length-append c.back (a ∷ []) ∙ (omega arith));
      bye_is = ap (λ (z : WorkerState). z.said_bye) is ∙ r.bye_is;
      idle = ap (λ (z : WorkerState). z.slot_held) is ∙ r.idle;
      order = (
        let g : back + 1 ≤ known' = omega arith in g,
        let g : known' ≤ sent = omega arith in
            g,
        let g : sent + put ≤ back + 1 + WINDOW = omega arith in g,
        order.3,
      );
      all_back = λ y. let q : back ≡ sent = (r.all_back y).0 in absurd (omega arith);
      known_is = ap (λ (z : WorkerState). length (worker_share z.seen z.worker)) is ∙ known_is;
      told = subst StateWasTold (sym is) (told_taken a (told_by_load t.1) at);
    }

-- the fields agree where no answer came, too
pub taken_none : (me me' : SeatState) (w sent put back known known' d : ℕ) (bye : Bool) (result : Option Answered)
    → WorkerAgrees me w sent put back known bye
    → is_some result ≡ false → StateTakes (worker_state_in me.0) d result (worker_state_in me'.0)
    → me' ≡ (Worker (worker_state_in me'.0), [])
    → Least known' d sent → WorkerAgrees me' w sent put back known' bye
taken_none me me' w sent put back known known' d bye (Some a) r e t seat least = absurd (true≢false e)
taken_none me me' w sent put back known known' d bye None r _ t seat least = let c : WorkerState =
    worker_state_in me.0 in
    let few : length (worker_share t.0 c.worker) ≤ length c.sent = few_answers t.1.history in
    let is = t.2.1 in let sent_is : length c.sent ≡ sent = r.sent_is in
    let back_is : length c.back ≡ back = r.back_is in let order = r.order in
    let known_is : length (worker_share t.0 c.worker) ≡ known' = known_by_load sent known' t.1.history sent_is least in
    let low : length c.back ≤ length (worker_share t.0 c.worker) =
    starts_below (worker_share t.0 c.worker) c.back t.1.history.back in record {
      seated = seat;
      worker_is = ap (λ (z : WorkerState). z.worker) is ∙ r.worker_is;
      sent_is = ap (λ (z : WorkerState). length z.sent) is ∙ r.sent_is;
      put_is = ap (λ (z : WorkerState). length z.put) is ∙ r.put_is;
      back_is = ap (λ (z : WorkerState). length z.back) is ∙ r.back_is;
      bye_is = ap (λ (z : WorkerState). z.said_bye) is ∙ r.bye_is;
      idle = ap (λ (z : WorkerState). z.slot_held) is ∙ r.idle;
      order = (let g : back ≤ known' = omega arith in g, let g : known' ≤ sent = omega arith in g, order.2, order.3);
      all_back = r.all_back;
      known_is = ap (λ (z : WorkerState). length (worker_share z.seen z.worker)) is ∙ known_is;
      told = subst StateWasTold (sym is) (told_by_load t.1);
    }

-- after an answer that was seen
pub taken_seen : (me me' : SeatState) (w sent put back known : ℕ) (bye : Bool) (a : Answered)
    → WorkerAgrees me w sent put back known bye → back < known
    → get_elem? (worker_share (worker_state_in me.0).seen (worker_state_in me.0).worker)
    (length (worker_state_in me.0).back) ≡ some a
    → me' ≡ (Worker (holding_slot (with_seen_slot_taken (worker_state_in me.0) a) 0), [])
    → WorkerAgrees me' w sent put (back + 1) known bye
taken_seen me me' w sent put back known bye a r more at is = let c : WorkerState = worker_state_in me.0 in
    let back_is : length c.back ≡ back = r.back_is in
    let order = r.order in let o0 : known ≤ sent = order.1 in let o1 : sent + put ≤ back + WINDOW = order.2 in
    subst (λ (z : SeatState). WorkerAgrees z w sent put (back + 1) known bye) (sym is) record {
      seated = refl;
      worker_is = r.worker_is;
      sent_is = r.sent_is;
      put_is = r.put_is;
      back_is = length-append c.back (a ∷ []) ∙ (omega arith);
      bye_is = r.bye_is;
      idle = refl;
      order = (
        let g : back + 1 ≤ known = omega arith in g,
        order.1,
        let g : sent + put ≤ back + 1 + WINDOW = omega arith in
            g,
        order.3,
      );
      all_back = λ y. let q : back ≡ sent = (r.all_back y).0 in absurd (omega arith);
      known_is = r.known_is;
      told = told_taken a r.told at;
    }

-- with one more request put
pub put_more : (me me' : SeatState) (w sent put back known : ℕ) (p : Posted)
    → WorkerAgrees me w sent put back known false → sent + put < back + WINDOW
    → sent + put < max_posts → me' ≡ (Worker (put_on (worker_state_in me.0) p), [])
    → WorkerAgrees me' w sent (put + 1) back known false
put_more me me' w sent put back known p r room room' is = let c : WorkerState = worker_state_in me.0 in
    let put_is : length c.put ≡ put = r.put_is in let order = r.order in
    subst (λ (z : SeatState). WorkerAgrees z w sent (put + 1) back known false) (sym is) record {
      seated = refl;
      worker_is = r.worker_is;
      sent_is = r.sent_is;
      put_is = length-append c.put (p ∷ []) ∙ (omega arith);
      back_is = r.back_is;
      bye_is = r.bye_is;
      idle = refl;
      order = (
        order.0,
        order.1,
        let g : sent + (put + 1) ≤ back + WINDOW = omega arith in
            g,
        let g : sent + (put + 1) ≤ max_posts = omega arith in g,
      );
      all_back = λ y. absurd (true≢false (sym y));
      known_is = r.known_is;
      told = r.told;
    }

-- with all that was put sent
pub sent_all : (me me' : SeatState) (w sent put back known number : ℕ) (bye : Bool)
    → WorkerAgrees me w sent put back known bye → 0 < put → number ≡ sent + put
    → me' ≡ (Worker (all_sent (worker_state_in me.0)), []) → WorkerAgrees me' w number 0 back known bye
sent_all me me' w sent put back known number bye r some_put number_is is = let c : WorkerState = worker_state_in me.0 in
    let put_is : length c.put ≡ put = r.put_is in let sent_is : length c.sent ≡ sent = r.sent_is in
    let order = r.order in let o : known ≤ sent = order.1 in
    let o1 : sent + put ≤ back + WINDOW = order.2 in let o2 : sent + put ≤ max_posts = order.3 in
    subst (λ (z : SeatState). WorkerAgrees z w number 0 back known bye) (sym is) record {
      seated = refl;
      worker_is = r.worker_is;
      sent_is = length-append c.sent c.put ∙ (omega arith);
      put_is = refl;
      back_is = r.back_is;
      bye_is = r.bye_is;
      idle = r.idle;
      order = (
        order.0,
        let g : known ≤ number = omega arith in g,
        let g : number + 0 ≤ back + WINDOW = omega arith in
            g,
        let g : number + 0 ≤ max_posts = omega arith in g,
      );
      all_back = λ y. let q : put ≡ 0 = (r.all_back y).1 in absurd (omega arith);
      known_is = r.known_is;
      told = told_longer c.put r.told;
    }

-- with a bye
pub bye_said : (me me' : SeatState) (w sent put back known : ℕ) → WorkerAgrees me w sent put back known false → put ≡ 0
    → back ≡ sent
    → me' ≡ (Worker (with_bye (worker_state_in me.0)), []) → WorkerAgrees me' w sent put back known true
bye_said me me' w sent put back known r none_put all is =
    subst (λ (z : SeatState). WorkerAgrees z w sent put back known true) (sym is) record {
      seated = refl;
      worker_is = r.worker_is;
      sent_is = r.sent_is;
      put_is = r.put_is;
      back_is = r.back_is;
      bye_is = refl;
      idle = refl;
      order = r.order;
      all_back = λ _. (all, none_put);
      known_is = r.known_is;
      told = r.told;
    }

-- a worker's end as it is made
pub new_agrees : (me : SeatState) (g : Terms) (w : ℕ) → me ≡ (Worker (first_worker_state g w), [])
    → WorkerAgrees me w 0 0 0 0 false
new_agrees me g w is = subst (λ (z : SeatState). WorkerAgrees z w 0 0 0 0 false) (sym is) record {
  seated = refl;
  worker_is = refl;
  sent_is = refl;
  put_is = refl;
  back_is = refl;
  bye_is = refl;
  idle = refl;
  order = (
    let g : 0 ≤ 0 = omega arith in g,
    let g : 0 ≤ 0 = omega arith in g,
    let g : 0 + 0 ≤ 0 + WINDOW = omega arith in
        g,
    let g : 0 + 0 ≤ max_posts = omega arith in g,
  );
  all_back = λ _. (refl, refl);
  known_is = refl;
  told = record { legal = legal_none _; asked = refl; back = ([], refl) };
}

-- nothing put, nothing sent
pub none_flushed : (v : WorkerLaneView) → length v.put ≡ 0 → v ≡ with_put_sent v
none_flushed v none_put = let e = none_of v.put none_put in
    let s : v.end.sent ≡ v.end.sent ++ v.put = sym (append-nil v.end.sent)
    ∙ ap (λ (l : List Posted). v.end.sent ++ l) (sym e) in
    λ i. record { end = record v.end { sent = s i }; put = e i }
  where
    none_of : (l : List Posted) → length l ≡ 0 → l ≡ []
    none_of [] e = refl
    none_of (x ∷ l) e = absurd (omega arith)

-- what a take tells, in the words of contracts
pub takes_outside : (z : TableId) (c c' : WorkerState) (d : ℕ) (result : Option Answered) → StateTakes c d result c'
    → TakesAnswer (worker_view z c) result (worker_view z c')
takes_outside z c c' d None t = (d, t.0, t.1, (t.2.0, ap (worker_view z) t.2.1))
takes_outside z c c' d (Some a) t = (d, t.0, t.1, (t.2.0, ap (worker_view z) t.2.1))

-- a take leaves what was put
pub takes_put : (c c' : WorkerState) (d : ℕ) (result : Option Answered) → StateTakes c d result c' → c'.put ≡ c.put
takes_put c c' d None t = ap (λ (z : WorkerState). z.put) t.2.1
takes_put c c' d (Some a) t = ap (λ (z : WorkerState). z.put) t.2.1

-- what came back is a beginning of the worker's share
pub taken_back : (v v' : WorkerView) (result : Option Answered) → TakesAnswer v result v'
    → StartsWith (worker_share v'.seen v.worker) v'.back
taken_back v v' None t = subst (λ (z : WorkerView). StartsWith (worker_share z.seen v.worker) z.back)
    (sym t.3.1) t.2.history.back
taken_back v v' (Some a) t = subst (λ (z : WorkerView). StartsWith (worker_share z.seen v.worker) z.back) (sym t.3.1)
    (starts_more (worker_share t.1 v.worker) v.back a t.2.history.back t.3.0)

-- a list of zeros has 0 everywhere
pub blank_words : (n i : ℕ) → let z : ℕ = 0 in get_or (replicate n z) i z ≡ z
blank_words zero i = refl
blank_words (suc n) zero = refl
blank_words (suc n) (suc i) = blank_words n i

-- one more end leaves all of them new
pub one_more_end : (g : Terms) (table : TableId) (ends : List WorkerView) (n : ℕ) (e : WorkerView) → length ends ≡ n
    → AreNew table g ends
    → e ≡ new_worker_view table g n → AreNew table g (ends ++ e ∷ [])
one_more_end g table ends n e long all is w u at = ⊎_elim (λ (h : get_elem? ends w ≡ some u). all w u h)
    (λ (h : (w ≡ length ends) × (e ≡ u)). sym h.1 ∙ (is ∙ ap (new_worker_view table g) (sym (h.0 ∙ long))))
    (at_end ends e w u at)

-- an entry of a worker's worker_share is that worker's
pub share_at : (h : List Answered) (w k : ℕ) (a : Answered) → get_elem? (worker_share h w) k ≡ some a → a.worker ≡ w
share_at [] w k a e = absurd (some-ne-none a (sym e))
share_at (b ∷ h) w k a e = dite (ℕ_discrete b.worker w)
    (λ mine. at_front b h w k a mine
    (subst (λ (x : Bool). get_elem? (let l : List Answered = cond x (b ∷ worker_share h w) (worker_share h w) in l) k
    ≡ some a)
    (eq-eqb b.worker w mine) e) (share_at h w))
    (λ other. share_at h w k a
    (subst (λ (x : Bool). get_elem? (let l : List Answered = cond x (b ∷ worker_share h w) (worker_share h w) in l) k
    ≡ some a)
    (ne_eqb b.worker w other) e))
  where
    at_front : (b : Answered) (h : List Answered) (w k : ℕ) (a : Answered) → b.worker ≡ w
        → get_elem? (b ∷ worker_share h w) k ≡ some a
        → ((k : ℕ) (a : Answered) → get_elem? (worker_share h w) k ≡ some a → a.worker ≡ w) → a.worker ≡ w
    at_front b h w zero a mine e later = ap (λ (x : Answered). x.worker) (sym (some-injective b a e)) ∙ mine
    at_front b h w (suc k) a mine e later = later k a e

-- the request of an entry stands where the entry does
asked_at : (l : List Answered) (k : ℕ) (a : Answered) → get_elem? l k ≡ some a
    → get_elem? (asked_posted l) k ≡ some (posted_of a)
asked_at l k a e = at_map posted_of l k a e

-- the answer taken is to the request at its place
taken_at : (l : List Posted) (d k : ℕ) (p : Posted) → get_elem? (take d l) k ≡ some p → get_elem? l k ≡ some p
taken_at l zero k p e = absurd (none_there l k p e)
  where
    none_there : (l : List Posted) (k : ℕ) (p : Posted) → get_elem? (take 0 l) k ≡ some p → ⊥
    none_there [] k p e = some-ne-none p (sym e)
    none_there (q ∷ l) k p e = some-ne-none p (sym e)
taken_at [] (suc d) k p e = e
taken_at (q ∷ l) (suc d) zero p e = e
taken_at (q ∷ l) (suc d) (suc k) p e = taken_at l d k p e

-- an answer that was taken is the worker's, to its next request
pub taken_own : (v v' : WorkerView) (result : Option Answered) → TakesAnswer v result v'
    → IfSome result (λ a. (a.worker ≡ v.worker) × (get_elem? v.sent (length v.back) ≡ some (posted_of a)))
taken_own v v' None t = tt
taken_own v v' (Some a) t = let at = t.3.0 in (
  share_at t.1 v.worker (length v.back) a at,
  taken_at v.sent t.0 (length v.back) (posted_of a)
      (subst (λ (l : List Posted). get_elem? l (length v.back) ≡ some (posted_of a)) t.2.history.asked
      (asked_at (worker_share t.1 v.worker) (length v.back) a at)),
)

-- the same of an answer that was seen
pub seen_own : (v : WorkerView) (a : Answered) → WasTold v
    → get_elem? (worker_share v.seen v.worker) (length v.back) ≡ some a
    → (a.worker ≡ v.worker) × (get_elem? v.sent (length v.back) ≡ some (posted_of a))
seen_own v a h at = (
  share_at v.seen v.worker (length v.back) a at,
  taken_at v.sent (length (worker_share v.seen v.worker)) (length v.back) (posted_of a)
      (subst (λ (l : List Posted). get_elem? l (length v.back) ≡ some (posted_of a)) h.asked
      (asked_at (worker_share v.seen v.worker) (length v.back) a at)),
)

-- the answers come in the order of their numbers
pub taken_next : (v v' : WorkerView) (result : Option Answered) → TakesAnswer v result v'
    → IfSome result (λ a. a.number ≡ length v.back + 1)
taken_next v v' None t = tt
taken_next v v' (Some a) t = t.2.history.legal.legal.numbers v.worker (length v.back) a t.3.0

-- an answer that was seen is the next one by its number
pub seen_next : (v : WorkerView) (a : Answered) → WasTold v
    → get_elem? (worker_share v.seen v.worker) (length v.back) ≡ some a → a.number ≡ length v.back + 1
seen_next v a h at = h.legal.legal.numbers v.worker (length v.back) a at

-- what storage holds is its open request

-- one message is held by one worker
abbrev HeldIs : ℕ → LaneMessage → ℕ → Posted → Type 0
HeldIs v m w p = let a : Option (ℕ × LaneMessage) = Some (v, m) in
    let b : Option (ℕ × LaneMessage) = Some (w, Ask p) in a ≡ b

-- a message that shows a request is that request
held_in : (v : ℕ) (m : LaneMessage) (w : ℕ) (p : Posted) → lane_request v m ≡ Some (w, p) → HeldIs v m w p
held_in v (Ask q) w p e = ap (λ (z : Option (ℕ × Posted)). option_map
    (λ (y : ℕ × Posted). let r : ℕ × LaneMessage = (y.0, Ask y.1) in r) z) e
held_in v Bye w p e = absurd (true≢false (sym (ap is_some e)))
held_in v (Answer a) w p e = absurd (true≢false (sym (ap is_some e)))

-- the open request is the message that is held
pub held_is : (h : Option (ℕ × LaneMessage)) (w : ℕ) (p : Posted) → open_in h ≡ Some (w, p) → h ≡ Some (w, Ask p)
held_is None w p e = absurd (true≢false (sym (ap is_some e)))
held_is (Some x) w p e = held_in x.0 x.1 w p e

-- where no request is open, nothing is held
pub idle_is : (h : Option (ℕ × LaneMessage))
    → ((w : ℕ) (x : LaneMessage) → h ≡ Some (w, x) → (p : Posted) × (x ≡ Ask p)) → open_in h ≡ None → h ≡ None
idle_is None ask e = refl
idle_is (Some x) ask e = let p = ask x.0 x.1 refl in
    absurd (true≢false (ap is_some (sym (ap (lane_request x.0) p.1) ∙ e)))

-- the ends of one call of make
pub made_all : (ends : List WorkerView) (storage : StorageView) (n : ℕ) (z y : TableId) (g f : Terms) → length ends ≡ n
    → AreNew z g ends
    → storage ≡ new_storage_view y g n → y ≡ z → g ≡ f → AreMade n f ends storage
made_all ends storage n z y g f long new is table sizes = (
  long,
  subst (λ (a : TableId × Terms). AreNew a.0 a.1 ends)
      (λ i. ((sym table ∙ ap (λ (s : StorageView). s.exchange) (sym is)) i, sizes i)) new,
  is ∙ (λ i. new_storage_view (sym (ap (λ (s : StorageView). s.exchange) is) i) (sizes i) n),
)

-- after the store of done
pub agrees_told : (me me' : SeatState) (workers last : ℕ) (counts : List ℕ) (open_now : Bool)
    → StorageAgrees me workers last counts open_now
    → me' ≡ (Storage (all_told (storage_state_in me.0)), me.1) → StorageAgrees me' workers last counts open_now
agrees_told me me' workers last counts open_now r is = let d : StorageState = storage_state_in me.0 in
    subst (λ (z : SeatState). StorageAgrees z workers last counts open_now) (sym is) record {
      seated = λ j. (Storage (all_told d), (r.seated j).1);
      few = r.few;
      room = r.room;
      counts_are = r.counts_are;
      open_is = r.open_is;
      holds = r.holds;
    }

-- once all is told of nothing is untold
pub all_told_of : (d : StorageState) (lane workers : ℕ) → lane < workers → HasUntold (all_told d) false lane workers
all_told_of d lane workers inside = record {
  none_untold = λ _. refl;
  some_untold = λ y. absurd (true≢false (sym y));
  others = λ j _. refl;
  inside = inside;
}

-- no worker was told of more answers than there are
few_told : (d : StorageState) (untold : Bool) (lane workers : ℕ) → HasUntold d untold lane workers → (w : ℕ)
    → length (worker_share d.told w) ≤ length (worker_share d.history w)
few_told d false lane workers was w =
    let e = ap (λ (h : List Answered). length (worker_share h w)) (was.none_untold refl) in omega (arith, e)
few_told d true lane workers was w = either_way w lane
    (λ same. let few = subst (λ (l : ℕ). length (worker_share d.told l) < length (worker_share d.history l)) (sym same)
    (was.some_untold refl) in omega (arith, few))
    (λ other. let e = ap length (was.others w other) in omega (arith, e))

-- with one more answer to the lane
pub untold_more : (d : StorageState) (a : Answered) (untold : Bool) (lane workers : ℕ)
    → HasUntold d untold lane workers → a.worker < workers
    → ((j : ℕ) → j ≢ a.worker → worker_share d.history j ≡ worker_share d.told j)
    → HasUntold (with_held_answered d a) true a.worker workers
untold_more d a untold lane workers was inside others = record {
  none_untold = λ y. absurd (true≢false y);
  some_untold = λ _. let few = few_told d untold lane workers was a.worker in
      let long = ap length (share_mine d.history a a.worker refl)
      ∙ length-append (worker_share d.history a.worker) (a ∷ []) in
      omega (arith, few, long);
  others = λ j other. share_other d.history a j (λ e. other (sym e))
      ∙ others j other;
  inside = inside;
}

-- the look that named a message that isn't settled
pub named_look : (d : StorageState) (lane named workers count : ℕ) → IsNamed d lane named workers
    → count ≡ settled_count d.history d.byes lane → count < named
    → (k p : ℕ) × (get_elem? d.looks k ≡ some (lane, p)) × (settled_count d.history d.byes lane < p)
named_look d lane named workers count is count_is more =
    ⊎_elim (λ (h : (d.looks ≡ []) × (named ≡ 0)). let z : named ≡ 0 = h.1 in absurd (omega arith))
    (λ (l : LastLook d.looks lane named). (
      length l.0,
      named,
      last_look_at d.looks lane named l,
      subst (λ (z : ℕ). z < named) count_is more,
    )) is.0

-- none comes where the look that came last named none
pub named_none : (looks : List (ℕ × ℕ)) (lane named w n : ℕ) → ((looks ≡ []) × (named ≡ 0)) ⊎ LastLook looks lane named
    → LastLook looks w n
    → ◌≡◌ {A = ℕ × ℕ} (lane, named) (w, n)
named_none looks lane named w n is l = ⊎_elim
    (λ (h : (looks ≡ []) × (named ≡ 0)). absurd (some-ne-none (w, n)
    (sym (subst (λ (z : List (ℕ × ℕ)). get_elem? z (length l.0) ≡ some (w, n)) h.0 (last_look_at looks w n l)))))
    (λ (h : LastLook looks lane named). let a = ap length h.1 ∙ length-append h.0 ((lane, named) ∷ []) in
    let b = ap length l.1 ∙ length-append l.0 ((w, n) ∷ []) in let same : length h.0 ≡ length l.0 = omega arith in
    some-injective (lane, named) (w, n)
    (sym (last_look_at looks lane named h) ∙ (ap (get_elem? looks) same ∙ last_look_at looks w n l))) is

-- a look, and then the next message that it named
pub by_look : (old new : StorageView) (w n : ℕ) (result : Option Taken)
    → SeesNext (record old { looks = old.looks ++ (w, n) ∷ [] }) result new → LooksAt old w result new
by_look old new w n None t = (n, (t.0 w n (old.looks, refl), t.1))
by_look old new w n (Some (Asked v p)) t = (
  n,
  subst (λ (z : ℕ × ℕ). (settled_count old.history old.byes z.0 < z.1)
      × IsNextMessage old z.0 (Asked v p)
      × (new ≡ record (with_taken old z.0 (Asked v p)) { looks = old.looks ++ (w, n) ∷ [] }))
      (sym (named_none (old.looks ++ (w, n) ∷ []) w n t.0 t.1 (inr (old.looks, refl)) t.2)) (t.4, t.5, t.6),
)
by_look old new w n (Some (ByeTaken v)) t = (
  n,
  subst (λ (z : ℕ × ℕ). (settled_count old.history old.byes z.0 < z.1)
      × IsNextMessage old z.0 (ByeTaken v)
      × (new ≡ record (with_taken old z.0 (ByeTaken v)) { looks = old.looks ++ (w, n) ∷ [] }))
      (sym (named_none (old.looks ++ (w, n) ∷ []) w n t.0 t.1 (inr (old.looks, refl)) t.2)) (t.4, t.5, t.6),
)
