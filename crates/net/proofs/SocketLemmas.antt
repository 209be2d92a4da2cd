-- How the sessions of a port keep their sockets.
use Rattle.std.proofs.Common.{◌≡◌, ℕ, zero, suc, ◌+◌, ◌-◌, Bool, true, false, cond, List, [], ◌∷◌, ◌++◌, length, length-append, refl, sym, ap, ◌∙◌, arith}
use Rattle.std.specs.Prelude.{ℤ, Option, None, Some, is_some, slice_get}
use Rattle.std.specs.Bool.{nat_eq}
use Rattle.std.proofs.lemmas.Bool.{both_ways, eqb-true}
use Rattle.exchange.specs.Ends.{TableId}
use Rattle.net.specs.Seen.{Seen, IsSet, fresh, open_socket}
use Rattle.net.specs.Ties.{SocketsAgree, SocketTies, AreOfExchange}

found_more : (l : List ℤ) (k : ℕ) (x y : ℤ) → slice_get l k ≡ Some x → slice_get (l ++ y ∷ []) k ≡ Some x
found_more [] k x y h = absurd (both_ways false refl (ap is_some h))
found_more (z ∷ l) zero x y h = h
found_more (z ∷ l) (suc k) x y h = found_more l k x y h

found_last : (l : List ℤ) (y : ℤ) → slice_get (l ++ y ∷ []) (length l) ≡ Some y
found_last [] y = refl
found_last (z ∷ l) y = found_last l y

-- a socket after the others changes no other session's
more_at : (l : List ℤ) (k : ℕ) (y : ℤ) (n : Option Seen) → is_some n ≡ true → slice_get l k ≡ open_socket n
    → slice_get (l ++ y ∷ []) k ≡ open_socket n
more_at l k y None some h = absurd (both_ways false refl some)
more_at l k y (Some x) some h = found_more l k x.socket y h

-- one stream is set
module _ (streams next : ℕ → Option Seen) (s : ℕ) (now : Option Seen) (sockets : List ℤ) where
  set_case : (o : ℕ) → next o ≡ cond (nat_eq s o) now (streams o) → (is_some now ≡ true → slice_get sockets (s - 1) ≡ open_socket now)
      → (is_some (streams o) ≡ true → slice_get sockets (o - 1) ≡ open_socket (streams o)) → (b : Bool) → nat_eq s o ≡ b
      → is_some (next o) ≡ true → slice_get sockets (o - 1) ≡ open_socket (next o)
  set_case o set here old true is some =
      let now_it_is : next o ≡ now = set ∙ ap (λ c. cond c now (streams o)) is in
      ap (λ (k : ℕ). slice_get sockets (k - 1)) (sym (eqb-true s o is)) ∙ here (sym (ap is_some now_it_is) ∙ some) ∙ sym (ap open_socket now_it_is)
  set_case o set here old false is some =
      let as_before : next o ≡ streams o = set ∙ ap (λ c. cond c now (streams o)) is in
      old (sym (ap is_some as_before) ∙ some) ∙ sym (ap open_socket as_before)

  sockets_set : IsSet s now streams next → (is_some now ≡ true → slice_get sockets (s - 1) ≡ open_socket now)
      → SocketsAgree streams sockets → SocketsAgree next sockets
  sockets_set set here old o = set_case o (set o) here (old o) (nat_eq s o) refl

module _ (streams next : ℕ → Option Seen) (last : ℕ) (sockets : List ℤ) (s : ℕ) (t : SocketTies streams last sockets) where
  pub kept_opened : (y : ℤ) (e : TableId) → s ≡ last + 1 → IsSet s (Some (fresh y e)) streams next
      → SocketTies next s (sockets ++ y ∷ [])
  kept_opened y e n set =
      let place : s - 1 ≡ length sockets = omega (arith, t.1) in (
        sockets_set streams next s (Some (fresh y e)) (sockets ++ y ∷ []) set
            (λ _. ap (slice_get (sockets ++ y ∷ [])) place ∙ found_last sockets y)
            (λ o h. more_at sockets (o - 1) y (streams o) h (t.0 o h)),
        omega (arith, length-append sockets (y ∷ []), t.1),
      )

-- ---- how they keep their exchange

-- one stream is set that is of the exchange, or none
module _ (e : TableId) (streams next : ℕ → Option Seen) (s : ℕ) (now : Option Seen) where
  named_case : (o : ℕ) (x : Seen) (b : Bool) → (now ≡ Some x → x.exchange ≡ e) → (streams o ≡ Some x → x.exchange ≡ e)
      → cond b now (streams o) ≡ Some x → x.exchange ≡ e
  named_case o x true here old is = here is
  named_case o x false here old is = old is

  pub named_set : ((x : Seen) → now ≡ Some x → x.exchange ≡ e) → IsSet s now streams next → AreOfExchange e streams
      → AreOfExchange e next
  named_set here set old o x is = named_case o x (nat_eq s o) (here x) (old o x) (sym (set o) ∙ is)

abbrev exchange_or : TableId → Option Seen → TableId
exchange_or e None = e
exchange_or e (Some x) = x.exchange

-- a stream that is set, or none, is of the exchange
pub named_now : (e : TableId) (y : Seen) → y.exchange ≡ e → (x : Seen) → Some y ≡ Some x → x.exchange ≡ e
named_now e y of x is = sym (ap (exchange_or e) is) ∙ of

pub named_none : (e : TableId) (x : Seen) → None ≡ Some x → x.exchange ≡ e
named_none e x is = absurd (both_ways false refl (ap is_some is))
