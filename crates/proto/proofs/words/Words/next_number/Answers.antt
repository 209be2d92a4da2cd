use Rattle.std.proofs.Common.{◌≡◌, ◌+◌, sym, ap, ◌∙◌, arith, take}
use Rattle.std.proofs.lemmas.List.Sums.{prefix_len-le-length}
use Rattle.std.specs.Char.{is_ascii_digit}
use Rattle.std.specs.List.{take_while}
use Rattle.proto.specs.PlainReader.{number_in}
use Rattle.proto.specs.Words.{words_of, words_behind}
use Rattle.proto.proofs.FirstWord.{digits_front_word, first_plain, no_number, taken_some}
use Rattle.proto.proofs.Numbers.{number_in_some}
use Rattle.proto.proofs.words.Words.next_number.Goals as goal

pub returns-in_err-n-clause-read : goal.returns-in_err-n-clause-read
returns-in_err-n-clause-read c =
    let words : words_of c.in_ok-line.line.now ≡ c.args.self.now = ap words_behind (sym c.in_ok-line.was) ∙ c.self.view_is in
    rw (c.from_residual-in_err-n.ensures, ← words) (no_number (c.args.most + 1) c.in_ok-line.line.now (λ n lt e.
    let front = (first_plain c.in_ok-line.line.now n (omega (arith, c.ranges.most)) e).1 in
    let read = number_in_some (c.args.most + 1) n (take_while is_ascii_digit c.in_ok-line.line.now) (omega (arith, c.ranges.most)) lt front in
    let none = c.in_err-n.ensures.number in
    cc))

pub split_after-requires-clause-within : goal.split_after-requires-clause-within
split_after-requires-clause-within c =
    rw c.in_ok-n.ensures.length (prefix_len-le-length is_ascii_digit c.in_ok-line.line.now)

pub split_after-requires-clause-no_space : goal.split_after-requires-clause-no_space
split_after-requires-clause-no_space c = rw c.in_ok-n.ensures.length (digits_front_word c.in_ok-line.line.now)

pub returns-in_err-behind-clause-read : goal.returns-in_err-behind-clause-read
returns-in_err-behind-clause-read c =
    let words : words_of c.in_ok-line.line.now ≡ c.args.self.now = ap words_behind (sym c.in_ok-line.was) ∙ c.self.view_is in
    rw (c.from_residual-in_err-behind.ensures, ← words) (no_number (c.args.most + 1) c.in_ok-line.line.now (λ n lt e.
    let whole = (first_plain c.in_ok-line.line.now n (omega (arith, c.ranges.most)) e).0 in
    let length = c.in_ok-n.ensures.length in
    let longer = c.in_err-behind.ensures in
    omega (arith, whole, length, longer)))

pub returns-clause-read : goal.returns-clause-read
returns-clause-read c =
    let words : words_of c.in_ok-line.line.now ≡ c.args.self.now = ap words_behind (sym c.in_ok-line.was) ∙ c.self.view_is in
    let digits = c.in_ok-behind.ensures.0 ∙ ap (λ k. take k c.in_ok-line.line.now) c.in_ok-n.ensures.length in
    rw (c.self-2.view_is, ← words) (taken_some (number_in (c.args.most + 1)) c.in_ok-line.line.now _ c.in_ok-behind.behind
    c.in_ok-n.n c.in_ok-behind.ensures.1 (c.in_ok-n.ensures.number ∙ ap (number_in (c.args.most + 1)) (sym digits)))
