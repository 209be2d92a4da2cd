-- Lists of ends, ports, handles and reports, place by place.
use Rattle.std.proofs.Common.{◌≡◌, ℕ, zero, suc, ◌+◌, ◌<◌, All, List, [], ◌∷◌, ◌++◌, length, map, refl, sym, ap, subst, ◌∙◌, ⊎_elim, arith}
use Rattle.std.proofs.Common.{length-append}
use mathlib.Core.Option.{some, some-injective, some-ne-none}
use lib.ListN.{get_elem?}
use Rattle.exchange.proofs.Lists.{at_below, at_end}
use Rattle.group.specs.Threads.{AreEach}

module _ {A : Type 0} (P : A → Type 0) where
  cut : (x : A) (xs : List A) → All P (x ∷ xs) → P x × All P xs
  cut x xs h = (h 0 x (omega arith), λ k d lt. h (suc k) d (omega arith))

  -- what holds of all holds of the first, and of the rest
  pub first_of_all : (ys : List A) (x : A) (xs : List A) → ys ≡ x ∷ xs → All P ys → P x × All P xs
  first_of_all ys x xs is h = cut x xs (subst (All P) is h)

-- of lists that go together the first elements do, and the rest
cut_each : {A B : Type 0} (P : A → B → Type 0) (x : A) (y : B) (xs : List A) (ys : List B) → AreEach P (x ∷ xs) (y ∷ ys)
    → P x y × AreEach P xs ys
cut_each P x y xs ys h =
    let long = h.0 in (h.1 0 x y refl refl, (omega (arith, long), λ w a b at there. h.1 (suc w) a b at there))

pub first_of_each : {A B : Type 0} (P : A → B → Type 0) (all : List A) (each : List B) (x : A) (y : B) (xs : List A)
    (ys : List B) → all ≡ x ∷ xs → each ≡ y ∷ ys → AreEach P all each → P x y × AreEach P xs ys
first_of_each {A} {B} P all each x y xs ys left right h =
    cut_each P x y xs ys (subst (λ (p : List A × List B). AreEach P p.0 p.1) (λ i. (left i, right i)) h)

-- lists that go together still do with one more in each
pub each_more : {A B : Type 0} (P : A → B → Type 0) → (xs : List A) (ys : List B) (x : A) (y : B)
    → AreEach P xs ys → P x y
    → AreEach P (xs ++ x ∷ []) (ys ++ y ∷ [])
each_more {A} {B} P xs ys x y old new = (
  length-append xs (x ∷ []) ∙ ap (λ n. n + 1) old.0 ∙ sym (length-append ys (y ∷ [])),
  λ w a b left right.
      ⊎_elim
      (λ (l : get_elem? xs w ≡ some a). ⊎_elim (λ (r : get_elem? ys w ≡ some b). old.1 w a b l r)
      (λ (r : (w ≡ length ys) × (y ≡ b)). let low : w < length xs = at_below xs w a l in
      let high : length ys ≡ w = sym r.0 in
      absurd (omega (arith, low, high, old.0))) (at_end ys y w b right))
      (λ (l : (w ≡ length xs) × (x ≡ a)). ⊎_elim
      (λ (r : get_elem? ys w ≡ some b). let low : w < length ys = at_below ys w b r in
      let high : length xs ≡ w = sym l.0 in
      absurd (omega (arith, low, high, old.0)))
      (λ (r : (w ≡ length ys) × (y ≡ b)). subst (λ (p : A × B). P p.0 p.1) (λ i. (l.1 i, r.1 i)) new)
      (at_end ys y w b right))
      (at_end xs x w a left),
)

-- an element of the images is the image of the one at its place
pub at_map : {A B : Type 0} (f : A → B) → (xs : List A) (w : ℕ) (a : A) → get_elem? xs w ≡ some a
    → get_elem? (map f xs) w ≡ some (f a)
at_map f [] w a e = absurd (some-ne-none a (sym e))
at_map f (x ∷ xs) zero a e = λ i. some (f (some-injective x a e i))
at_map f (x ∷ xs) (suc w) a e = at_map f xs w a e

-- what stands in a mapped list came of what stands in the list
pub at_mapped : {A B : Type 0} (f : A → B) → (xs : List A) (w : ℕ) (b : B) → get_elem? (map f xs) w ≡ some b
    → (a : A) × (get_elem? xs w ≡ some a) × (f a ≡ b)
at_mapped f [] w b e = absurd (some-ne-none b (sym e))
at_mapped f (x ∷ xs) zero b e = (x, refl, some-injective (f x) b e)
at_mapped f (x ∷ xs) (suc w) b e = at_mapped f xs w b e

-- what holds of all still does with one more of which it holds
pub all_more : {A : Type 0} (P : A → Type 0) → (xs : List A) (x : A) → All P xs → P x → All P (xs ++ x ∷ [])
all_more P [] x all one zero d lt = one
all_more P [] x all one (suc k) d lt = absurd (omega arith)
all_more P (y ∷ xs) x all one zero d lt = all 0 d (omega arith)
all_more P (y ∷ xs) x all one (suc k) d lt =
    all_more P xs x (λ j e below. all (suc j) e (omega arith)) one k d (omega arith)
