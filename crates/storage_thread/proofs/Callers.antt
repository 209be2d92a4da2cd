-- Ends that were used by other threads still belong together.
use Rattle.std.proofs.Common.{◌≡◌, ℕ, zero, suc, ◌<◌, List, [], ◌∷◌, ◌++◌, length, take, get_or, refl, sym, ap, ◌∙◌, subst, arith}
use mathlib.Core.Option.{some, some-injective, some-ne-none}
use lib.ListN.{get_elem?}
use Rattle.proto.specs.declared.terms.Terms.{Terms}
use Rattle.exchange.specs.Ends.{WorkerView, StorageView, AreMade, AreTogether, new_worker_view}
use Rattle.storage_thread.specs.Serving.{IsSameExchange}

-- where something stands, the place is inside
at_below : {A : Type 0} (l : List A) (k : ℕ) (a : A) → get_elem? l k ≡ some a → k < length l
at_below [] k a e = absurd (some-ne-none a (sym e))
at_below (x ∷ l) zero a e = omega arith
at_below (x ∷ l) (suc k) a e = let h = at_below l k a e in omega arith

-- what stands at a place, with a default
at_or : {A : Type 0} (l : List A) (k : ℕ) (a d : A) → get_elem? l k ≡ some a → get_or l k d ≡ a
at_or [] k a d e = absurd (some-ne-none a (sym e))
at_or (x ∷ l) zero a d e = some-injective x a e
at_or (x ∷ l) (suc k) a d e = at_or l k a d e

-- with a default, what stands at a place that is inside
pub or_at : {A : Type 0} (l : List A) (k : ℕ) (d : A) → k < length l → get_elem? l k ≡ some (get_or l k d)
or_at [] k d h = absurd (omega arith)
or_at (x ∷ l) zero d h = refl
or_at (x ∷ l) (suc k) d h = or_at l k d (omega arith)

-- each end is of the same exchange and worker as before
abbrev pub AreSame : List WorkerView → List WorkerView → Type 0
AreSame old new = (length new ≡ length old)
    × ((i : ℕ) (d : WorkerView) → i < length old → ((get_or new i d).exchange ≡ (get_or old i d).exchange)
    × ((get_or new i d).worker ≡ (get_or old i d).worker))

-- the ends that were made together still go together once they were used
pub together : (n : ℕ) (g : Terms) (ends now : List WorkerView) (s t : StorageView) → AreMade n g ends s
    → IsSameExchange s t
    → AreSame ends now → AreTogether now t
together n g ends now s t made same r = record {
  exchange = λ i v at. ap (λ (z : WorkerView). z.exchange) (sym (at_or now i v v at))
      ∙ ((r.1 i v (below i v at)).0 ∙ (ap (λ (z : WorkerView). z.exchange) (was i v at) ∙ sym same.0));
  apart = λ i j v u at there e. sym (mine i v at) ∙ (e ∙ mine j u there);
}
  where
    below : (i : ℕ) (v : WorkerView) → get_elem? now i ≡ some v → i < length ends
    below i v at = subst (λ (k : ℕ). i < k) r.0 (at_below now i v at)

    was : (i : ℕ) (v : WorkerView) (at : get_elem? now i ≡ some v) → get_or ends i v ≡ new_worker_view s.exchange g i
    was i v at = made.1 i (get_or ends i v) (or_at ends i v (below i v at))

    mine : (i : ℕ) (v : WorkerView) → get_elem? now i ≡ some v → v.worker ≡ i
    mine i v at = ap (λ (z : WorkerView). z.worker) (sym (at_or now i v v at))
        ∙ ((r.1 i v (below i v at)).1 ∙ ap (λ (z : WorkerView). z.worker) (was i v at))

-- the first none
pub take_zero : {A : Type 0} (m : List A) → take 0 m ≡ []
take_zero [] = refl
take_zero (x ∷ m) = refl

-- the first part of two lists that were joined
take_front : {A : Type 0} (l m : List A) → take (length l) (l ++ m) ≡ l
take_front [] m = take_zero m
take_front (x ∷ l) m = ap (λ k. x ∷ k) (take_front l m)

-- the same, where the length is said by a number
pub whole : {A : Type 0} (n : ℕ) (l m : List A) → n ≡ length l → take n (l ++ m) ≡ l
whole n l m e = ap (λ k. take k (l ++ m)) e ∙ take_front l m
