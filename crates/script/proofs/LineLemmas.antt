-- The plain reader of a line finds what the line says, and nothing where it says nothing.
use Rattle.std.proofs.Common.{◌≡◌, ℕ, ◌^◌, ◌<◌, true, false, cond, eqb, not, List, [], ◌∷◌, length, Option, Some, None, Ok, Result, refl, sym, ap, subst, ◌∙◌}
use Rattle.std.proofs.Common.{arith, inl, inr, lt-ltb, lit≤}
use Rattle.std.specs.Prelude.{bytes_eq, codes, decimal, nat_lt, MatchOption}
use Rattle.std.specs.List.{AllPass}
use Rattle.std.specs.Result.{result_ok}
use Rattle.std.proofs.lemmas.Bool.{eqb-false, not-true, false≢true, ne_eqb, ltb-true as lt_from_test}
use Rattle.std.proofs.lemmas.List.Elements.{All-head, All-tail}
use Rattle.std.proofs.lemmas.Slice.Eq.{bytes_eq-Decides}
use Rattle.hex.specs.Hex.{decode_of, is_hex_digit}
use Rattle.hex.specs.declared.error.FromHexError.{FromHexError}
use Rattle.hex.proofs.HexLemmas.{decode_of-ok}
use Rattle.proto.specs.PlainReader.{◌>>=◌, only_if, number_in}
use Rattle.proto.specs.Words.{spaced, IsWord, is_space, words_of}
use Rattle.proto.proofs.Options.{bind_some, guarded_some, some_is, none_is_some}
use Rattle.proto.proofs.Numbers.{number_in_sound, number_in_decimal, decimal_word, chosen}
use Rattle.proto.proofs.WordLists.{AreWords, words_of-spaced, spaced-words_of}
use Rattle.script.specs.declared.event.ScriptEvent.{ScriptEvent}
use Rattle.script.specs.declared.event.ScriptEvent.TheVariants.{Open, Send, Gone}
use Rattle.script.specs.declared.event.ScriptLine.{ScriptLine}
use Rattle.script.specs.Lines.{FitsNumbers, IsHexOf, SaysAt, LineSays, SaysNothing}
use Rattle.script.specs.PlainLine.{session_in, bytes_in, event_in, line_in}

-- ---- what is found is said

-- a result whose value is there is Ok
ok_is : (r : Result (List ℕ) FromHexError) (bytes : List ℕ) → result_ok r ≡ Some bytes → r ≡ Ok bytes
ok_is (Ok found) bytes e = cc
ok_is (Result.Err fault) bytes e = absurd cc

-- a word that is read as bytes is their digits
bytes_in_sound : (hex bytes : List ℕ) → bytes_in hex ≡ Some bytes → IsHexOf bytes hex
bytes_in_sound hex bytes e =
    let found = guarded_some (nat_lt 0 (length hex)) (result_ok (decode_of hex)) bytes e in
    record { some = lt_from_test 0 (length hex) found.0; decoded = ok_is (decode_of hex) bytes found.1 }

-- a word that is read as a session is its number in decimal
session_in_sound : (word : List ℕ) (s : ℕ) → session_in word ≡ Some s → (word ≡ decimal s) × (0 < s) × (s < 2 ^ 64)
session_in_sound word s e =
    let found = bind_some (number_in (2 ^ 64) word) (λ n. only_if (not (eqb n 0)) (Some n)) s e in
    let n = found.0 in
    let tested = guarded_some (not (eqb n 0)) (Some n) s found.2 in
    let nonzero : n ≡ 0 → ⊥ = eqb-false n 0 (not-true (eqb n 0) tested.0) in
    let number = number_in_sound (2 ^ 64) word n found.1 in
    let same = some_is n s tested.1 in
    (number.0 ∙ ap decimal same, omega arith, omega (arith, number.1))

-- a line of these words says the event
abbrev SaysWith : List ℕ → ℕ → ℕ → List (List ℕ) → ScriptEvent → Type 0
SaysWith verb w s rest e = SaysAt (spaced (verb ∷ decimal w ∷ decimal s ∷ rest)) w e

-- a first word that compares equal is that word
same_verb : (verb word : List ℕ) → bytes_eq verb word ≡ true → verb ≡ word
same_verb verb word e = (bytes_eq-Decides verb word).0 e

-- an event that is read from words is said by them
event_sound : (verb : List ℕ) (w s : ℕ) (rest : List (List ℕ)) (e : ScriptEvent) → FitsNumbers w s
    → event_in verb s rest ≡ Some e → SaysWith verb w s rest e
event_sound verb w s [] e fits h =
    elim (chosen (bytes_eq verb (codes "open")) (Some (Open s))
    (cond (bytes_eq verb (codes "gone")) (Some (Gone s)) None) e h) [
      | inl p ↦
          let verb-is = same_verb verb (codes "open") p.0 in
          subst (λ (x : ScriptEvent). SaysWith verb w s [] x) (some_is (Open s) e p.1)
          (fits, ap (λ (v : List ℕ). spaced (v ∷ decimal w ∷ decimal s ∷ [])) verb-is)
      | inr q ↦
          elim (chosen (bytes_eq verb (codes "gone")) (Some (Gone s)) None e q.1) [
            | inl p ↦
                let verb-is = same_verb verb (codes "gone") p.0 in
                subst (λ (x : ScriptEvent). SaysWith verb w s [] x) (some_is (Gone s) e p.1)
                (fits, ap (λ (v : List ℕ). spaced (v ∷ decimal w ∷ decimal s ∷ [])) verb-is)
            | inr p ↦ absurd (none_is_some e p.1)
          ]
    ]
event_sound verb w s (hex ∷ []) e fits h =
    elim (chosen (bytes_eq verb (codes "send")) (bytes_in hex >>= λ bytes. Some (Send s bytes)) None e h) [
      | inl p ↦
          let verb-is = same_verb verb (codes "send") p.0 in
          let found = bind_some (bytes_in hex) (λ bytes. Some (Send s bytes)) e p.1 in
          subst (λ (x : ScriptEvent). SaysWith verb w s (hex ∷ []) x) (some_is (Send s found.0) e found.2) (
            hex,
            fits,
            bytes_in_sound hex found.0 found.1,
            ap (λ (v : List ℕ). spaced (v ∷ decimal w ∷ decimal s ∷ hex ∷ [])) verb-is,
          )
      | inr p ↦ absurd (none_is_some e p.1)
    ]
event_sound verb w s (hex ∷ more ∷ rest) e fits h = absurd cc

-- a line of a worker and an event
abbrev made : ℕ → ScriptEvent → Option ScriptLine
made w e = Some (record { worker = w; event = e })

-- a line that is read from words is said by them
words_sound : (words : List (List ℕ)) (l : ScriptLine) → line_in words ≡ Some l → LineSays (spaced words) l
words_sound [] l e = absurd (none_is_some l e)
words_sound (verb ∷ []) l e = absurd (none_is_some l e)
words_sound (verb ∷ worker ∷ []) l e = absurd (none_is_some l e)
words_sound (verb ∷ worker ∷ session ∷ rest) l e =
    let first = bind_some (number_in (10 ^ 10) worker)
    (λ w. session_in session >>= λ s. event_in verb s rest >>= made w) l e in
    let w = first.0 in
    let second = bind_some (session_in session) (λ s. event_in verb s rest >>= made w) l first.2 in
    let s = second.0 in
    let third = bind_some (event_in verb s rest) (made w) l second.2 in
    let number = number_in_sound (10 ^ 10) worker w first.1 in
    let found = session_in_sound session s second.1 in
    let fits : FitsNumbers w s = record { ten_digits = number.1; positive = found.1; fits = found.2 } in
    let said = event_sound verb w s rest third.0 fits third.1 in
    let line_is : spaced (verb ∷ decimal w ∷ decimal s ∷ rest) ≡ spaced (verb ∷ worker ∷ session ∷ rest) =
    ap (λ (ws : List (List ℕ)). spaced (verb ∷ ws))
    (ap (λ (v : List ℕ). v ∷ decimal s ∷ rest) (sym number.0) ∙ ap (λ (v : List ℕ). worker ∷ v ∷ rest) (sym found.0)) in
    subst (λ (x : ScriptLine). LineSays (spaced (verb ∷ worker ∷ session ∷ rest)) x)
    (some_is (record { worker = w; event = third.0 }) l third.2)
    (subst (λ (line : List ℕ). SaysAt line w third.0) line_is said)

-- what the plain reader finds, the line says
pub line_sound : (line : List ℕ) (l : ScriptLine) → line_in (words_of line) ≡ Some l → LineSays line l
line_sound line l e = subst (λ (x : List ℕ). LineSays x l) (spaced-words_of line) (words_sound (words_of line) l e)

-- ---- what is said is found

-- a hexadecimal digit is no space
digit_other : (c : ℕ) → is_hex_digit c ≡ true → is_space c ≡ false
digit_other c h = ne_eqb c 32 (λ e. false≢true (rw e at h))

-- hexadecimal digits are one word
hex_word : (hex : List ℕ) → AllPass is_hex_digit hex → IsWord hex
hex_word [] h = refl
hex_word (c ∷ hex) h =
    rw (
      digit_other c (All-head (λ x. is_hex_digit x ≡ true) c hex h),
      hex_word hex (All-tail (λ x. is_hex_digit x ≡ true) c hex h),
    ) refl

-- a session's number in decimal is read as it
session_found : (w s : ℕ) → FitsNumbers w s → session_in (decimal s) ≡ Some s
session_found w s fits =
    let other : eqb s 0 ≡ false = ne_eqb s 0 (let positive = fits.positive in omega arith) in
    rw (number_in_decimal (2 ^ 64) s fits.fits (lit≤ tt), other) refl

-- the digits of bytes are read as them
bytes_found : (hex bytes : List ℕ) → IsHexOf bytes hex → bytes_in hex ≡ Some bytes
bytes_found hex bytes h = rw (lt-ltb 0 (length hex) h.some, h.decoded) refl

-- a word compares equal with itself
verb_is : (word : List ℕ) → bytes_eq word word ≡ true
verb_is word = (bytes_eq-Decides word word).1 refl

-- a worker's number in decimal is read as it
worker_found : (w s : ℕ) → FitsNumbers w s → number_in (10 ^ 10) (decimal w) ≡ Some w
worker_found w s fits = number_in_decimal (10 ^ 10) w fits.ten_digits (lit≤ tt)

-- the words of a line that says something
words_found : (verb : List ℕ) (w s : ℕ) (rest : List (List ℕ)) → FitsNumbers w s → IsWord verb → AreWords rest
    → words_of (spaced (verb ∷ decimal w ∷ decimal s ∷ rest)) ≡ verb ∷ decimal w ∷ decimal s ∷ rest
words_found verb w s rest fits verb_word rest_words =
    let ten_digits = fits.ten_digits in
    let below = fits.fits in
    words_of-spaced verb (decimal w ∷ decimal s ∷ rest)
    (verb_word, (decimal_word w (omega arith), (decimal_word s (omega arith), rest_words)))

-- what the reader gives, where the words are these and the event is found in them
given_words : (line verb : List ℕ) (w s : ℕ) (rest : List (List ℕ)) (e : ScriptEvent) → FitsNumbers w s → IsWord verb
    → AreWords rest
    → line ≡ spaced (verb ∷ decimal w ∷ decimal s ∷ rest) → event_in verb s rest ≡ Some e
    → line_in (words_of line) ≡ made w e
given_words line verb w s rest e fits verb_word rest_words is found =
    let words-are : words_of line ≡ verb ∷ decimal w ∷ decimal s ∷ rest =
    ap words_of is ∙ words_found verb w s rest fits verb_word rest_words in
    rw (words-are, worker_found w s fits, session_found w s fits, found) refl

-- what a line says, the plain reader finds
line_complete : (line : List ℕ) (w : ℕ) (e : ScriptEvent) → SaysAt line w e → line_in (words_of line) ≡ made w e
line_complete line w (Open s) h = given_words line (codes "open") w s [] (Open s) h.0 refl tt h.1 refl
line_complete line w (Gone s) h = given_words line (codes "gone") w s [] (Gone s) h.0 refl tt h.1 refl
line_complete line w (Send s bytes) (hex, fits, is_hex, is) =
    let digits = (decode_of-ok hex bytes is_hex.decoded).1 in
    given_words line (codes "send") w s (hex ∷ []) (Send s bytes) fits refl (hex_word hex digits, tt) is
    (rw (bytes_found hex bytes is_hex) refl)

-- the plain reader finds exactly what a line says
pub line_meaning : (line : List ℕ) (found : Option ScriptLine) → found ≡ line_in (words_of line)
    → MatchOption found (SaysNothing line) (LineSays line)
line_meaning line None is = λ l said. none_is_some l (is ∙ line_complete line l.worker l.event said)
line_meaning line (Some l) is = line_sound line l (sym is)
