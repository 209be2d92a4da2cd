use Rattle.std.proofs.Common.{◌≡◌, ◌∷◌, ◌^◌, ◌≢◌, ℕ, List, Option, Some, ◌∙◌, ap, sym, refl, lit≤, arith}
use Rattle.std.specs.Borrow.{Bor}
use Rattle.std.proofs.lemmas.Bool.{ne_eqb}
use Rattle.std.proofs.lemmas.Int.{ints}
use Rattle.proto.specs.Words.{words_of, words_behind}
use Rattle.proto.specs.PlainReader.{◌>>=◌, taken, number_in, signed_in}
use Rattle.proto.proofs.FirstWord.{with_words, negative_pair, plain_pair, signed_minus, signed_no_minus, signed_nothing}
use Rattle.proto.proofs.words.Words.next_signed.Goals as goal

-- what is left of the line begins with `-`
minus : (rest : Option (Bor (List ℕ))) (line : Bor (List ℕ)) (words : List (List ℕ)) (c : ℕ) (digits : List ℕ) → rest ≡ Some line
    → words_behind rest ≡ words → line.now ≡ c ∷ digits → c ≡ 45
    → taken (signed_in (10 ^ 10)) words ≡ (taken (number_in (10 ^ 10)) (words_of digits) >>= negative_pair)
minus rest line words c digits is left begins here =
    rw (ap words_behind (sym is) ∙ left) at (signed_minus (10 ^ 10) c digits line.now begins here)

-- or with another byte
no_minus : (rest : Option (Bor (List ℕ))) (line : Bor (List ℕ)) (words : List (List ℕ)) (c : ℕ) (others : List ℕ) → rest ≡ Some line
    → words_behind rest ≡ words → line.now ≡ c ∷ others → c ≢ 45
    → taken (signed_in (10 ^ 10)) words ≡ (taken (number_in (10 ^ 10)) words >>= plain_pair)
no_minus rest line words c others is left begins other =
    rw (ap words_behind (sym is) ∙ left) at (signed_no_minus (10 ^ 10) c others line.now (lit≤ tt) begins other)

pub returns-in_err-first : goal.returns-in_err-first
returns-in_err-first c =
    let words : words_of c.in_ok-self.field-0.now ≡ c.args.self.now = ap words_behind (sym c.in_ok-self.was) ∙ c.self.view_is in
    rw (c.from_residual-in_err-first.ensures, ← words) (signed_nothing (10 ^ 10) c.in_ok-self.field-0.now c.in_err-first.ensures.cases)

pub returns-in_err-next_number : goal.returns-in_err-next_number
returns-in_err-next_number c =
    let read = no_minus _ _ _ _ _ c.in_ok-self.was c.self.view_is c.in_ok-first.ensures.cases.0 c.if-first-ne45.true in
    rw (c.from_residual-in_err-next_number.ensures, read, ← c.in_err-next_number.ensures.read) refl

pub returns-then-first-ne45 : goal.returns-then-first-ne45
returns-then-first-ne45 c =
    let read = no_minus _ _ _ _ _ c.in_ok-self.was c.self.view_is c.in_ok-first.ensures.cases.0 c.if-first-ne45.true in
    let small = c.in_ok-next_number.ensures.at_most in
    rw (read, ← c.in_ok-next_number.ensures.read) (ap (with_words c.next_number.new.self) (omega (arith, ints)))

pub returns-in_err-n : goal.returns-in_err-n
returns-in_err-n c =
    let read = minus _ _ _ _ _ c.in_ok-self.was c.self.view_is c.in_ok-first.ensures.cases.0 c.if-first-ne45.false in
    rw (c.from_residual-in_err-n.ensures, read, ← c.new-words.ensures, ← c.in_err-n.ensures.read) refl

pub returns-then-n-eq0 : goal.returns-then-n-eq0
returns-then-n-eq0 c =
    let read = minus _ _ _ _ _ c.in_ok-self.was c.self.view_is c.in_ok-first.ensures.cases.0 c.if-first-ne45.false in
    rw (read, ← c.new-words.ensures, ← c.in_ok-n.ensures.read, c.if-n-eq0.true) refl

pub returns : goal.returns
returns c =
    let read = minus _ _ _ _ _ c.in_ok-self.was c.self.view_is c.in_ok-first.ensures.cases.0 c.if-first-ne45.false in
    let small = c.in_ok-n.ensures.at_most in
    let other = c.if-n-eq0.false in
    rw (c.self-2.view_is, read, ← c.new-words.ensures, ← c.in_ok-n.ensures.read, ne_eqb c.in_ok-n.n 0 other)
    (ap (with_words c.next_number-2.new.self) (omega (arith, ints)))
