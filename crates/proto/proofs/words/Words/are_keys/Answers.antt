use Rattle.std.proofs.Common.{◌≡◌, ◌≤◌, ◌+◌, ◌∷◌, ◌∙◌, ℕ, List, [], true, false, length, ap, sym, refl, arith}
use Rattle.std.specs.Prelude.{nat_le}
use Rattle.std.specs.List.{list_all}
use Rattle.std.proofs.lemmas.Bool.{ne_eqb, le-leb, and_right}
use Rattle.proto.specs.Lines.{is_key}
use Rattle.proto.specs.Words.{is_key_byte, is_key_length, words_of}
use Rattle.proto.proofs.KeyWords.{goes_on, are_keys, too_many, and_true}
use Rattle.proto.proofs.WordLists.{some_words}
use Rattle.proto.proofs.words.Words.are_keys.Goals as goal
use Rattle.proto.proofs.words.Words.are_keys.Goals.{else-is_key_byte-via-then-is_key_byte+else-length-lt-MAX_KEY}
use Rattle.proto.proofs.words.Words.are_keys.Goals.{else-is_key_byte-via-else-is_key_byte}
use Rattle.proto.proofs.words.Words.are_keys.Goals.{else-byte-eq32-via-then-byte-eq32+else-length-gt0, else-byte-eq32-via-else-byte-eq32}

pub returns-in_default : goal.returns-in_default
returns-in_default c = rw (← c.self.view_is, c.in_default.is) refl

pub loop-byte-preserved-then-length-lt-MAX_KEY : goal.loop-byte-preserved-then-length-lt-MAX_KEY
loop-byte-preserved-then-length-lt-MAX_KEY c =
    let key : is_key_byte c.in-Some-split_first.byte.now ≡ true = sym c.is_key_byte.ensures ∙ c.if-is_key_byte.true in
    let here : goes_on c.loop-byte.length (c.in-Some-split_first.byte.now ∷ c.in-Some-split_first.behind.now)
    ≡ goes_on 0 c.in-Some.line.now =
    ap (goes_on c.loop-byte.length) (sym c.in-Some-split_first.ensures.cases.0) ∙ c.loop-byte.invariant.same in
    record {
      same = rw key at here;
      within = omega (arith, c.if-length-lt-MAX_KEY.true);
    }

pub loop-byte-preserved : goal.loop-byte-preserved
loop-byte-preserved c =
    let n = c.loop-byte.length in
    let long : is_key_length n ≡ true =
    rw (le-leb 1 n c.if-length-gt0.true, le-leb n 250 c.loop-byte.invariant.within) refl in
    let here : goes_on n (c.in-Some-split_first.byte.now ∷ c.in-Some-split_first.behind.now) ≡ goes_on 0 c.in-Some.line.now =
    ap (goes_on n) (sym c.in-Some-split_first.ensures.cases.0) ∙ c.loop-byte.invariant.same in
    record {
      same = rw (c.if-byte-eq32.true, long) at here;
      within = omega arith;
    }

pub returns-else-byte-eq32 : goal.returns-else-byte-eq32
returns-else-byte-eq32 c =
    let n = c.loop-byte.length in
    let stops : false ≡ goes_on n (c.in-Some-split_first.byte.now ∷ c.in-Some-split_first.behind.now) =
    elim c.else-byte-eq32.branch [
      | else-byte-eq32-via-then-byte-eq32+else-length-gt0 w ↦
          let none : n ≡ 0 = omega (arith, w.if-length-gt0.false) in
          rw (w.if-byte-eq32.true, none) refl
      | else-byte-eq32-via-else-byte-eq32 w ↦ elim c.else-is_key_byte.branch [
        | else-is_key_byte-via-then-is_key_byte+else-length-lt-MAX_KEY v ↦
            let key : is_key_byte c.in-Some-split_first.byte.now ≡ true = sym c.is_key_byte.ensures ∙ v.if-is_key_byte.true in
            rw key (sym (too_many (n + 1) c.in-Some-split_first.behind.now (omega (arith, v.if-length-lt-MAX_KEY.false))))
        | else-is_key_byte-via-else-is_key_byte v ↦
            let other : is_key_byte c.in-Some-split_first.byte.now ≡ false = sym c.is_key_byte.ensures ∙ v.if-is_key_byte.false in
            rw (other, ne_eqb c.in-Some-split_first.byte.now 32 w.if-byte-eq32.false) refl
      ]
    ] in
    let fails : list_all is_key (words_of c.in-Some.line.now) ≡ false =
    sym (stops ∙ ap (goes_on n) (sym c.in-Some-split_first.ensures.cases.0) ∙ c.loop-byte.invariant.same ∙ are_keys c.in-Some.line.now) in
    rw (← c.self.view_is, c.in-Some.is, fails) (sym (and_right (nat_le 1 (length (words_of c.in-Some.line.now))) false refl))

-- at the end of the line
at_end : (n : ℕ) (rest : List ℕ) → length rest ≡ 0 → is_key_length n ≡ goes_on n rest
at_end n [] e = refl
at_end n (b ∷ rest) e = absurd (omega arith)

-- of at most 250 bytes
short : (n : ℕ) → n ≤ 250 → nat_le 1 n ≡ is_key_length n
short n few = rw (le-leb n 250 few) (and_true (nat_le 1 n))

pub returns : goal.returns
returns c =
    let n = c.loop-byte.length in
    let whole : nat_le 1 n ≡ list_all is_key (words_of c.in-Some.line.now) =
    short n c.loop-byte.invariant.within ∙ at_end n c.loop-byte.rest.now c.in_default-split_first.ensures.cases
    ∙ c.loop-byte.invariant.same ∙ are_keys c.in-Some.line.now in
    rw (← c.self.view_is, c.in-Some.is, le-leb 1 _ (some_words c.in-Some.line.now))
    whole
