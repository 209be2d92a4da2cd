-- Lists read by `get_elem?`, and beginnings.
use Rattle.std.proofs.Common.{◌≡◌, ◌⊎◌, ℕ, zero, suc, ◌+◌, ◌<◌, ◌≤◌, List, [], ◌∷◌, ◌++◌, length, take, refl}
use Rattle.std.proofs.Common.{sym, ap, ◌∙◌, subst, inl, inr, ⊎_elim, arith}
use Rattle.std.proofs.Common.{length-append, append_assoc}
use mathlib.Core.Option.{some, some-injective, some-ne-none}
use lib.ListN.{get_elem?}
use Rattle.atomic_table.proofs.Lists.{at_longer}
use Rattle.exchange.specs.Beginnings.{StartsWith, AreOfOne}

module _ {A : Type 0} where
  -- what is there stands below the length
  pub at_below : (l : List A) (k : ℕ) (a : A) → get_elem? l k ≡ some a → k < length l
  at_below [] k a e = absurd (some-ne-none a (sym e))
  at_below (x ∷ l) zero a e = omega arith
  at_below (x ∷ l) (suc k) a e = let h = at_below l k a e in omega arith

  -- of a list with one more, each is one of the old or the last
  pub at_end : (l : List A) (x : A) (k : ℕ) (a : A) → get_elem? (l ++ x ∷ []) k ≡ some a
      → (get_elem? l k ≡ some a) ⊎ ((k ≡ length l) × (x ≡ a))
  at_end [] x zero a e = inr (refl, some-injective x a e)
  at_end [] x (suc k) a e = absurd (some-ne-none a (sym e))
  at_end (y ∷ l) x zero a e = inl e
  at_end (y ∷ l) x (suc k) a e = ⊎_elim (λ h. inl h) (λ (h : (k ≡ length l) × (x ≡ a)). inr (ap suc h.0, h.1))
      (at_end l x k a e)

  -- what stands in two lists one after the other stands in one of them
  pub at_either : (l m : List A) (k : ℕ) (a : A) → get_elem? (l ++ m) k ≡ some a → (get_elem? l k ≡ some a)
      ⊎ ((j : ℕ) × (k ≡ length l + j) × (get_elem? m j ≡ some a))
  at_either [] m k a e = inr (k, omega arith, e)
  at_either (y ∷ l) m zero a e = inl e
  at_either (y ∷ l) m (suc k) a e = ⊎_elim (λ h. inl h)
      (λ (h : (j : ℕ) × (k ≡ length l + j) × (get_elem? m j ≡ some a)). let at : k ≡ length l + h.0 = h.1 in
      inr (h.0, omega arith, h.2)) (at_either l m k a e)

  -- below the length something is there
  pub at_some : (l : List A) (k : ℕ) → k < length l → (a : A) × (get_elem? l k ≡ some a)
  at_some [] k h = absurd (omega arith)
  at_some (x ∷ l) zero h = (x, refl)
  at_some (x ∷ l) (suc k) h = at_some l k (omega arith)

  -- what stands after a list at its length is the next element
  pub next_of : (l m : List A) (a : A) → get_elem? (l ++ m) (length l) ≡ some a → StartsWith (l ++ m) (l ++ a ∷ [])
  next_of [] [] a e = absurd (some-ne-none a (sym e))
  next_of [] (x ∷ m) a e = (m, λ i. some-injective x a e i ∷ m)
  next_of (y ∷ l) m a e = let h = next_of l m a e in (h.0, λ i. y ∷ h.1 i)

  -- a beginning with the next element is one
  pub starts_more : (l m : List A) (a : A) → StartsWith l m → get_elem? l (length m) ≡ some a
      → StartsWith l (m ++ a ∷ [])
  starts_more l m a h e = let t = next_of m h.0 a (subst (λ z. get_elem? z (length m) ≡ some a) h.1 e) in
      (t.0, h.1 ∙ t.1)

  -- a beginning of a list is one of a longer list
  pub starts_longer : (l m n : List A) → StartsWith l m → StartsWith (l ++ n) m
  starts_longer l m n h = (h.0 ++ n, ap (λ (z : List A). z ++ n) h.1 ∙ append_assoc m h.0 n)

  -- what stands in a beginning stands there in the whole
  pub starts_at : (l m : List A) (k : ℕ) (a : A) → StartsWith l m → get_elem? m k ≡ some a → get_elem? l k ≡ some a
  starts_at l m k a h e = subst (λ (z : List A). get_elem? z k ≡ some a) (sym h.1) (at_longer m h.0 k a e)

  -- a beginning is no longer
  pub starts_below : (l m : List A) → StartsWith l m → length m ≤ length l
  starts_below l m h = let e = ap length h.1 in omega (arith, e, length-append m h.0)

  -- a list of length 0 is empty
  empty : (l : List A) → length l ≡ 0 → l ≡ []
  empty [] e = refl
  empty (x ∷ l) e = absurd (omega arith)

  -- nothing after a list changes nothing
  append_empty : (l : List A) → l ++ [] ≡ l
  append_empty [] = refl
  append_empty (x ∷ l) = λ i. x ∷ append_empty l i

  -- a beginning as long as the list is the list
  pub starts_whole : (l m : List A) → StartsWith l m → length l ≤ length m → m ≡ l
  starts_whole l m h le = let e = ap length h.1 in let none : length h.0 ≡ 0 = omega (arith, e, length-append m h.0) in
      sym (h.1 ∙ (ap (λ (z : List A). m ++ z) (empty h.0 none) ∙ append_empty m))

  -- a list begins with itself
  pub starts_self : (l : List A) → StartsWith l l
  starts_self l = ([], sym (append_empty l))

  -- one more is taken
  pub take_more : (l : List A) (k : ℕ) (a : A) → get_elem? l k ≡ some a → take (suc k) l ≡ take k l ++ a ∷ []
  take_more [] k a e = absurd (some-ne-none a (sym e))
  take_more (x ∷ l) zero a e = λ i. some-injective x a e i ∷ []
  take_more (x ∷ l) (suc k) a e = λ i. x ∷ take_more l k a e i

  -- all of a list is taken
  pub take_whole : (l : List A) (k : ℕ) → length l ≤ k → take k l ≡ l
  take_whole [] zero h = refl
  take_whole [] (suc k) h = refl
  take_whole (x ∷ l) zero h = absurd (omega arith)
  take_whole (x ∷ l) (suc k) h = λ i. x ∷ take_whole l k (omega arith) i

  -- what is taken from the front of a longer list
  pub take_front : (l m : List A) (k : ℕ) → k ≤ length l → take k (l ++ m) ≡ take k l
  take_front [] m zero h = take_zero m
    where
      take_zero : (m : List A) → take 0 m ≡ []
      take_zero [] = refl
      take_zero (x ∷ m) = refl
  take_front [] m (suc k) h = absurd (omega arith)
  take_front (x ∷ l) m zero h = refl
  take_front (x ∷ l) m (suc k) h = λ i. x ∷ take_front l m k (omega arith) i

  -- a beginning of a beginning is one
  pub starts_trans : (l m n : List A) → StartsWith l m → StartsWith m n → StartsWith l n
  starts_trans l m n a b = (b.0 ++ a.0, a.1 ∙ (ap (λ (z : List A). z ++ a.0) b.1 ∙ append_assoc n b.0 a.0))

  -- what is taken is a beginning
  pub starts_take : (l : List A) (k : ℕ) → StartsWith l (take k l)
  starts_take [] zero = ([], refl)
  starts_take [] (suc k) = ([], refl)
  starts_take (x ∷ l) zero = (x ∷ l, refl)
  starts_take (x ∷ l) (suc k) = let h = starts_take l k in (h.0, λ i. x ∷ h.1 i)

-- the first element, or else, and the others
abbrev pub first_or : {A : Type 0} → A → List A → A
first_or a [] = a
first_or a (x ∷ l) = x

abbrev pub others_of : {A : Type 0} → List A → List A
others_of [] = []
others_of (x ∷ l) = l

-- of two beginnings of one list one begins with the other
pub begin_one : {A : Type 0} (a b p q : List A) → a ++ p ≡ b ++ q → AreOfOne a b
begin_one [] b p q e = inr (b, refl)
begin_one (x ∷ a) [] p q e = inl (x ∷ a, refl)
begin_one (x ∷ a) (y ∷ b) p q e = let here : x ≡ y = ap (first_or x) e in
    ⊎_elim (λ (h : StartsWith a b). inl (h.0, λ i. here i ∷ h.1 i))
    (λ (h : StartsWith b a). inr (h.0, λ i. sym here i ∷ h.1 i)) (begin_one a b p q (ap others_of e))

pub of_one : {A : Type 0} (l a b : List A) → StartsWith l a → StartsWith l b → AreOfOne a b
of_one l a b h g = begin_one a b h.0 g.0 (sym h.1 ∙ g.1)
