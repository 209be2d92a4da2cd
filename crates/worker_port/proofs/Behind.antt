-- A request that a worker hadn't sent when a history was told stands behind that history.
use Rattle.std.proofs.Common.{◌≡◌, ⊎_elim, ℕ, zero, suc, ◌+◌, ◌≤◌, ◌==◌, ◌&&◌, Bool, true, false, cond, List, [], ◌∷◌, ◌++◌}
use Rattle.std.proofs.Common.{map, length, refl, sym, ap, ◌∙◌, subst, arith}
use Rattle.std.specs.List.{filter}
use Rattle.std.proofs.lemmas.List.{map-append, length-map}
use Rattle.std.proofs.lemmas.List.Elements.{filter-append}
use mathlib.Core.Option.{some, some-ne-none}
use lib.ListN.{get_elem?}
use Rattle.proto.specs.declared.message.Request.{Request}
use Rattle.proto.specs.declared.history.Posted.{Posted}
use Rattle.proto.specs.declared.history.Answered.{Answered}
use Rattle.proto.specs.History.{worker_share, session_share, asked, asked_posted}
use Rattle.exchange.specs.Beginnings.{StartsWith, AreOfOne, posted_of}
use Rattle.exchange.proofs.Lists.{at_below, at_either, starts_below, starts_trans}
use Rattle.worker_port.specs.Giving.{sent_for}

-- what stands among the elements that pass stands among all
module _ {A : Type 0} where
  kept_if : (c : Bool) (x : A) (l m : List A) (k : ℕ) (e : A) → get_elem? (cond c (x ∷ m) m) k ≡ some e
      → ((i : ℕ) → get_elem? m i ≡ some e → (j : ℕ) × (get_elem? l j ≡ some e))
      → (j : ℕ) × (get_elem? (x ∷ l) j ≡ some e)
  kept_if true x l m zero e h r = (0, h)
  kept_if true x l m (suc k) e h r = let j = r k h in (suc j.0, j.1)
  kept_if false x l m k e h r = let j = r k h in (suc j.0, j.1)

  kept : (p : A → Bool) (l : List A) (k : ℕ) (e : A) → get_elem? (filter p l) k ≡ some e
      → (j : ℕ) × (get_elem? l j ≡ some e)
  kept p [] k e h = absurd (some-ne-none e (sym h))
  kept p (x ∷ l) k e h = kept_if (p x) x l (filter p l) k e h (λ i at. kept p l i e at)

-- a session's entries ask what was posted for it
one_more : (b : Bool) (e : Answered) (l : List Answered) (m : List Posted) → asked l ≡ map (λ (p : Posted). p.request) m
    → asked (cond b (e ∷ l) l) ≡ map (λ (p : Posted). p.request) (cond b (posted_of e ∷ m) m)
one_more true e l m h = ap (λ (r : List Request). e.request ∷ r) h
one_more false e l m h = h

of_worker : (a : Bool) (e : Answered) (l m : List Answered) (s : ℕ) → asked l ≡ sent_for (asked_posted m) s
    → asked (cond (a && e.session == s) (e ∷ l) l) ≡ sent_for (asked_posted (cond a (e ∷ m) m)) s
of_worker true e l m s h = one_more (e.session == s) e l (filter (λ (p : Posted). p.session == s) (asked_posted m)) h
of_worker false e l m s h = h

asks_posted : (history : List Answered) (w s : ℕ)
    → asked (session_share history w s) ≡ sent_for (asked_posted (worker_share history w)) s
asks_posted [] w s = refl
asks_posted (e ∷ history) w s =
    of_worker (e.worker == w) e (session_share history w s) (worker_share history w) s (asks_posted history w s)

as_many : (history : List Answered) (w s : ℕ)
    → length (session_share history w s) ≡ length (sent_for (asked_posted (worker_share history w)) s)
as_many history w s =
    sym (length-map (session_share history w s) (λ (e : Answered). e.request)) ∙ ap length (asks_posted history w s)

-- the requests of a session among the first ones that were sent are the first of its requests
sent_first : (sent first : List Posted) (s : ℕ) → StartsWith sent first → StartsWith (sent_for sent s) (sent_for first s)
sent_first sent first s h = (
  sent_for h.0 s,
  ap (λ l. sent_for l s) h.1
      ∙ ap (map (λ (p : Posted). p.request)) (filter-append (λ (p : Posted). p.session == s) first h.0)
      ∙ map-append (λ (p : Posted). p.request) (filter (λ (p : Posted). p.session == s) first)
      (filter (λ (p : Posted). p.session == s) h.0),
)

-- the entries of a session in a history with more
share_both : (first more : List Answered) (w s : ℕ)
    → session_share (first ++ more) w s ≡ session_share first w s ++ session_share more w s
share_both first more w s = filter-append (λ (e : Answered). e.worker == w && e.session == s) first more

pub stands_behind : (sent : List Posted) (earlier later : List Answered) (w s place : ℕ) (spelled : List Request) (e : Answered)
    → StartsWith sent (asked_posted (worker_share earlier w)) → StartsWith spelled (sent_for sent s) → AreOfOne earlier later
    → get_elem? (session_share later w s) place ≡ some e → length spelled ≤ place
    → (more : List Answered) × (k : ℕ) × (later ≡ earlier ++ more) × (get_elem? more k ≡ some e)
stands_behind sent earlier later w s place spelled e of_sent of_spelled one at behind =
    let old : List Answered = session_share earlier w s in
    let count = as_many earlier w s in
    let low = starts_below (sent_for sent s) (sent_for (asked_posted (worker_share earlier w)) s)
    (sent_first sent (asked_posted (worker_share earlier w)) s of_sent) in
    let lower = starts_below spelled (sent_for sent s) of_spelled in
    let few : length old ≤ place = omega (arith, count, low, lower, behind) in
    ⊎_elim
    (λ (h : StartsWith earlier later).
    let short = starts_below old (session_share later w s)
    (session_share h.0 w s, ap (λ (z : List Answered). session_share z w s) h.1 ∙ share_both later h.0 w s) in
    let within = at_below (session_share later w s) place e at in absurd (omega (arith, few, short, within)))
    (λ (h : StartsWith later earlier).
    let split : session_share later w s ≡ old ++ session_share h.0 w s =
    ap (λ (z : List Answered). session_share z w s) h.1 ∙ share_both earlier h.0 w s in
    ⊎_elim
    (λ (here : get_elem? old place ≡ some e). let within = at_below old place e here in absurd (omega (arith, few, within)))
    (λ (here : (j : ℕ) × (place ≡ length old + j) × (get_elem? (session_share h.0 w s) j ≡ some e)).
    let there = kept (λ (x : Answered). x.worker == w && x.session == s) h.0 here.0 e here.2 in
    (h.0, there.0, h.1, there.1))
    (at_either old (session_share h.0 w s) place e (subst (λ (z : List Answered). get_elem? z place ≡ some e) split at)))
    one

-- a history that was told has of a session the first requests that were spelled for it
pub spelled_first : (sent : List Posted) (earlier : List Answered) (w s : ℕ) (spelled : List Request)
    → StartsWith sent (asked_posted (worker_share earlier w)) → StartsWith spelled (sent_for sent s)
    → StartsWith spelled (asked (session_share earlier w s))
spelled_first sent earlier w s spelled of_sent of_spelled =
    let posted : List Posted = asked_posted (worker_share earlier w) in
    subst (λ (l : List Request). StartsWith spelled l) (sym (asks_posted earlier w s))
    (starts_trans spelled (sent_for sent s) (sent_for posted s) of_spelled (sent_first sent posted s of_sent))
