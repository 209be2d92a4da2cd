use Rattle.std.proofs.Common.{◌≡◌, ◌+◌, ◌<◌, ℕ, List, length, take, not, sym, ap, ◌∙◌, arith, eq-eqb, ne_eqb}
use Rattle.std.specs.Prelude.{slice_index}
use Rattle.std.proofs.lemmas.Bool.{eqb-true, false≢true}
use Rattle.std.specs.Char.{is_ascii_digit}
use Rattle.std.specs.List.{take_while}
use Rattle.proto.proofs.FirstWord.{read_plain, digits_front, decimal_plain}
use Rattle.proto.proofs.Numbers.{number_in_none}
use Rattle.proto.proofs.words.plain_number.Goals as goal
use Rattle.proto.proofs.words.plain_number.Goals.{in-None, in-Some+then-first-ne48, in-Some+else-first-ne48}
use Rattle.proto.proofs.words.plain_number.Goals.{else-n-most-via-then-n-most+else-is_plain, else-n-most-via-else-n-most}

pub returns-in_err-n-clause-number : goal.returns-in_err-n-clause-number
returns-in_err-n-clause-number c =
    rw c.from_residual.ensures (number_in_none (c.args.most + 1) (take_while is_ascii_digit c.args.bytes.now) (λ n lt e.
    let value = (decimal_plain (take_while is_ascii_digit c.args.bytes.now) n (omega (arith, c.ranges.most)) e).value in
    let large = c.in_err-n.ensures in
    omega (arith, value, large, lt, c.ranges.most)))

-- digits that begin with no 0, or are one digit
abbrev IsPlain : List ℕ → Type 0
IsPlain digits = (0 < length digits) × (slice_index digits 0 ≡ 48 → length digits ≡ 1)

pub returns-then-is_plain-clause-number : goal.returns-then-is_plain-clause-number
returns-then-is_plain-clause-number c =
    let digits : c.split_at.result.0.now ≡ take_while is_ascii_digit c.args.bytes.now =
    c.split_at.ensures.front ∙ ap (λ k. take k c.args.bytes.now) c.in_ok-n.ensures.1 in
    let plain : IsPlain c.split_at.result.0.now =
    elim c.match-split_first.branch [
      | in-None w ↦ absurd (false≢true (sym w.is_plain-is ∙ c.if-is_plain.true))
      | in-Some+then-first-ne48 w ↦
          rw w.in-Some.ensures.cases.0 (omega arith, λ e. absurd (w.if-first-ne48.true e))
      | in-Some+else-first-ne48 w ↦
          let alone = eqb-true _ _ (sym w.is_empty.ensures ∙ sym w.is_plain-is ∙ c.if-is_plain.true) in
          rw w.in-Some.ensures.cases.0 (omega arith, λ e. omega (arith, alone))
    ] in
    let small = c.ranges.most in
    read_plain c.args.most c.in_ok-n.n (take_while is_ascii_digit c.args.bytes.now) (omega (arith, small))
    (digits_front c.args.bytes.now) c.in_ok-n.ensures.0 c.if-n-most.true (rw digits at plain)

pub returns-else-n-most-clause-number : goal.returns-else-n-most-clause-number
returns-else-n-most-clause-number c =
    number_in_none (c.args.most + 1) (take_while is_ascii_digit c.args.bytes.now) (λ n lt e.
    let plain = decimal_plain (take_while is_ascii_digit c.args.bytes.now) n (omega (arith, c.ranges.most)) e in
    let value = plain.value in
    let read = c.in_ok-n.ensures in
    elim c.else-n-most.branch [
      | else-n-most-via-then-n-most+else-is_plain w ↦
          let digits : c.split_at.result.0.now ≡ take_while is_ascii_digit c.args.bytes.now =
          c.split_at.ensures.front ∙ ap (λ k. take k c.args.bytes.now) read.1 in
          let is : IsPlain c.split_at.result.0.now = rw digits (plain.some, plain.plain) in
          elim c.match-split_first.branch [
            | in-None v ↦ omega (arith, is.0, v.in-None.ensures.cases)
            | in-Some+then-first-ne48 v ↦
                let other = ne_eqb v.in-Some.first.now 48 v.if-first-ne48.true in
                false≢true (sym w.if-is_plain.false ∙ v.is_plain-is ∙ ap not other)
            | in-Some+else-first-ne48 v ↦
                let one : length c.split_at.result.0.now ≡ 1 =
                is.1 (rw v.in-Some.ensures.cases.0 v.if-first-ne48.false) in
                let alone = eq-eqb (length v.in-Some.others.now) 0 (omega (arith, one, v.in-Some.ensures.cases.1)) in
                false≢true (sym w.if-is_plain.false ∙ v.is_plain-is ∙ v.is_empty.ensures ∙ alone)
          ]
      | else-n-most-via-else-n-most w ↦ omega (arith, value, read, lt, w.if-n-most.false)
    ])
