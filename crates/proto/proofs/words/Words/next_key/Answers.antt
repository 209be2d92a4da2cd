use Rattle.std.proofs.Common.{◌≡◌, true, take, sym, ap, ◌∙◌, arith, refl}
use Rattle.std.proofs.lemmas.Bool.{false≢true}
use Rattle.std.proofs.lemmas.List.Sums.{prefix_len-le-length}
use Rattle.std.specs.List.{prefix_len}
use Rattle.proto.specs.Lines.{is_key}
use Rattle.proto.specs.PlainReader.{key_in}
use Rattle.proto.specs.Words.{words_of, words_behind, is_key_byte, is_key_length}
use Rattle.proto.proofs.FirstWord.{no_key, key_is, is_key_front, key_front_word, taken_some}
use Rattle.proto.proofs.words.Words.next_key.Goals as goal

pub returns-then-not-is_key_length : goal.returns-then-not-is_key_length
returns-then-not-is_key_length c =
    let words : words_of c.in_ok-line.line.now ≡ c.args.self.now = ap words_behind (sym c.in_ok-line.was) ∙ c.self.view_is in
    rw (← words) (no_key c.in_ok-line.line.now (λ e.
    false≢true (c.if-not-is_key_length.ensures ∙ ap is_key_length c.key_length-length.ensures ∙ (key_is c.in_ok-line.line.now e).1)))

pub split_after-requires-clause-within : goal.split_after-requires-clause-within
split_after-requires-clause-within c =
    rw c.key_length-length.ensures (prefix_len-le-length is_key_byte c.in_ok-line.line.now)

pub split_after-requires-clause-no_space : goal.split_after-requires-clause-no_space
split_after-requires-clause-no_space c = rw c.key_length-length.ensures (key_front_word c.in_ok-line.line.now)

pub returns-in_err-key : goal.returns-in_err-key
returns-in_err-key c =
    let words : words_of c.in_ok-line.line.now ≡ c.args.self.now = ap words_behind (sym c.in_ok-line.was) ∙ c.self.view_is in
    rw (c.from_residual-in_err-key.ensures, ← words) (no_key c.in_ok-line.line.now (λ e.
    let whole = (key_is c.in_ok-line.line.now e).0 in
    let length = c.key_length-length.ensures in
    let longer = c.in_err-key.ensures in
    omega (arith, whole, length, longer)))

pub returns : goal.returns
returns c =
    let words : words_of c.in_ok-line.line.now ≡ c.args.self.now = ap words_behind (sym c.in_ok-line.was) ∙ c.self.view_is in
    let few : is_key_length (prefix_len is_key_byte c.in_ok-line.line.now) ≡ true =
    ap is_key_length (sym c.key_length-length.ensures) ∙ sym c.is_key_length.ensures ∙ c.if-not-is_key_length.false in
    let key : is_key c.in_ok-key.key.now ≡ true =
    ap is_key (c.in_ok-key.ensures.0 ∙ ap (λ n. take n c.in_ok-line.line.now) c.key_length-length.ensures)
    ∙ is_key_front c.in_ok-line.line.now few in
    rw (c.self-2.view_is, ← words) (taken_some key_in c.in_ok-line.line.now c.in_ok-key.key.now c.in_ok-key.behind
    c.in_ok-key.key.now c.in_ok-key.ensures.1 (rw key refl))
