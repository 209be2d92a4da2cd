-- Where the data of a request stands in its spelling: in front of the last two bytes.
use Rattle.std.proofs.Common.{◌≡◌, ℕ, ◌+◌, ◌-◌, ◌≤◌, Bool, true, false, List, [], ◌∷◌, ◌++◌, length}
use Rattle.std.proofs.Common.{take, drop, Option, Some, None}
use Rattle.std.proofs.Common.{refl, sym, ap, ◌∙◌, arith, inl, inr, append_assoc, take_at, drop_at, take-append-drop, length-take-le, length-append}
use Rattle.std.proofs.lemmas.Bool.{both_ways}
use Rattle.std.proofs.lemmas.List.{drop-drop, drop-take}
use Rattle.std.specs.Prelude.{cond, not, ◌&&◌, ◌||◌, ◌==◌, codes, bytes_eq}
use Rattle.std.specs.List.{list_any, slice_split}
use Rattle.proto.specs.declared.dialect.Dialect.{Dialect}
use Rattle.proto.specs.declared.message.Put.{Put}
use Rattle.proto.specs.declared.message.Request.{Request}
use Rattle.proto.specs.declared.message.Request.TheVariants.{Set, SetTooLarge, Add, Replace, Cas, Append, Prepend}
use Rattle.proto.specs.declared.message.Message.{Message}
use Rattle.proto.specs.declared.message.Message.TheVariants.{Ask, Local, Fatal}
use Rattle.proto.specs.declared.message.LocalKind.TheVariants as local
use Rattle.proto.specs.declared.message.FatalKind.TheVariants as fatal
use Rattle.proto.specs.declared.line.StorageWord.{StorageWord}
use Rattle.proto.specs.declared.line.StorageWord.TheVariants as storing
use Rattle.proto.specs.Answers.{is_ask}
use Rattle.proto.specs.Grammar.{most_kept, Spells, fault_of, lenient_words, begins_with}
use Rattle.proto.specs.Lines.{IsSearched, line_text}
use Rattle.proto.specs.Needs.{NeedsMore}
use Rattle.proto.specs.PlainReader.{message_by}
use Rattle.proto.proofs.Options.{some_is, none_is_some, data_of}
use Rattle.session_book.specs.Input.{InputState, MayDrop, Takes, HoldsMessage}
use Rattle.session_book.proofs.Inputs.{none_gone, holds_none}
use Rattle.session_book.proofs.Needing.{needs_one}
use Rattle.std.proofs.Common.{subst}

-- one of two messages that are no requests is none
neither : (b : Bool) (m n : Message) → is_ask m ≡ false → is_ask n ≡ false → is_ask (cond b m n) ≡ false
neither true m n e f = e
neither false m n e f = f

-- a line at fault asks for nothing
asks_nothing : (d : Dialect) (words : List (List ℕ)) → is_ask (fault_of d words) ≡ false
asks_nothing d [] = refl
asks_nothing d (word ∷ words) =
    let is = λ (names : List (List ℕ)). list_any (bytes_eq word) names in
    neither (is (codes "set" ∷ codes "add" ∷ codes "replace" ∷ codes "cas" ∷ lenient_words d (codes "append" ∷ codes "prepend" ∷ [])))
    (Fatal fatal.BadLine) _ refl
    (neither ((is (lenient_words d (codes "stats" ∷ [])) && not (begins_with (codes "reset") words))
    || (is (lenient_words d (codes "lru_crawler" ∷ [])) && begins_with (codes "metadump") words)) (Local local.End) _ refl
    (neither (is (codes "get" ∷ codes "gets" ∷ codes "delete" ∷ codes "incr" ∷ codes "decr" ∷ codes "flush_all" ∷ codes "quit"
    ∷ lenient_words d (codes "touch" ∷ codes "gat" ∷ codes "gats" ∷ codes "stats" ∷ []))) (Local local.BadLine) _ refl
    (neither (is (lenient_words d (codes "version" ∷ []))) (Local local.Version) _ refl
    (neither (is (lenient_words d (codes "verbosity" ∷ codes "cache_memlimit" ∷ [])) && list_any (bytes_eq (codes "noreply")) words)
    (Local local.Silent) _ refl
    (neither (is (lenient_words d (codes "verbosity" ∷ [])) && length words == 1) (Local local.Verbosity) (Local local.Unknown)
    refl refl)))))

not_at_fault : (d : Dialect) (words : List (List ℕ)) (q : Request) (quiet : Bool) → fault_of d words ≡ Ask q quiet → ⊥
not_at_fault d words q quiet e =
    both_ways (is_ask (fault_of d words)) (asks_nothing d words) (ap (λ (m : Message). is_ask m) e)

-- behind the line stand the data and a line end
data_last : (d : Dialect) (b : List ℕ) (q : Request) (quiet : Bool) (v : List ℕ) → data_of q ≡ Some v → Spells d b (Ask q quiet)
    → (front : List ℕ) × (b ≡ front ++ (v ++ codes "\r\n"))
data_last d b (SetTooLarge key) quiet v has h = absurd (none_is_some v has)
data_last d b q quiet v has (inl h) =
    elim h.has [
      | inl said ↦ absurd (none_is_some v (sym said.0 ∙ has))
      | inr fault ↦ absurd (not_at_fault d (slice_split (λ (c : ℕ). c == 32) (line_text d h.line)) q quiet fault.0)
    ]
data_last d b q quiet v has (inr h) =
    let line = h.2.line in
    let block : h.0 ≡ v = some_is h.0 v (sym h.2.has.0 ∙ has) in (
      line ++ codes "\r\n",
      h.2.whole ∙ ap (λ (x : List ℕ). line ++ codes "\r\n" ++ (x ++ codes "\r\n")) block,
    )

-- the same by how the request stores
pub put_last : (d : Dialect) (b : List ℕ) (how : StorageWord) (unique : ℕ) (p : Put) (quiet : Bool) → Spells d b (message_by how unique p quiet)
    → (front : List ℕ) × (b ≡ front ++ (p.value ++ codes "\r\n"))
put_last d b storing.Set unique p quiet h = data_last d b (Set p) quiet p.value refl h
put_last d b storing.Add unique p quiet h = data_last d b (Add p) quiet p.value refl h
put_last d b storing.Replace unique p quiet h = data_last d b (Replace p) quiet p.value refl h
put_last d b storing.Cas unique p quiet h = data_last d b (Cas p unique) quiet p.value refl h
put_last d b storing.Append unique p quiet h = data_last d b (Append p) quiet p.value refl h
put_last d b storing.Prepend unique p quiet h = data_last d b (Prepend p) quiet p.value refl h

-- the first bytes are the line, the data and a line end: so the data is cut out of them
pub cut_out : (b front v : List ℕ) (n : ℕ) → n ≤ length b → take n b ≡ front ++ (v ++ codes "\r\n")
    → (length v + 2 ≤ n) × (drop (n - 2 - length v) (take (n - 2) b) ≡ v)
cut_out b front v n within e =
    let len : n ≡ length front + (length v + 2) =
    sym (length-take-le n b within) ∙ ap (λ (x : List ℕ). length x) e ∙ length-append front (v ++ codes "\r\n")
    ∙ ap (λ (k : ℕ). length front + k) (length-append v (codes "\r\n")) in
    let whole : b ≡ (front ++ v) ++ (codes "\r\n" ++ drop n b) =
    sym (take-append-drop n b) ∙ ap (λ (x : List ℕ). x ++ drop n b) e
    ∙ append_assoc front (v ++ codes "\r\n") (drop n b)
    ∙ ap (λ (x : List ℕ). front ++ x) (append_assoc v (codes "\r\n") (drop n b))
    ∙ sym (append_assoc front v (codes "\r\n" ++ drop n b)) in
    let taken : take (n - 2) b ≡ front ++ v =
    ap (λ (x : List ℕ). take (n - 2) x) whole
    ∙ take_at (front ++ v) (codes "\r\n" ++ drop n b) (n - 2) (omega (arith, len, length-append front v)) in (
      omega (arith, len),
      ap (λ (x : List ℕ). drop (n - 2 - length v) x) taken ∙ drop_at front v (n - 2 - length v) (omega (arith, len)),
    )

-- what the parser found has this data: it stands before the last two of its bytes
pub data_within : (d : Dialect) (b : List ℕ) (how : StorageWord) (unique : ℕ) (p : Put) (quiet : Bool) (n : ℕ) → n ≤ length b
    → Spells d (take n b) (message_by how unique p quiet)
    → (length p.value + 2 ≤ n) × (drop (n - 2 - length p.value) (take (n - 2) b) ≡ p.value)
data_within d b how unique p quiet n within spells =
    let h = put_last d (take n b) how unique p quiet spells in
    cut_out b h.0 p.value n within h.1

-- nothing was dropped, and the message is taken out
pub taken_out : (i : InputState) (d : Dialect) (gone kept left : List ℕ) (need n : ℕ) (m : Message)
    → record { dialect = d; unread = gone ++ kept; need = need } ≡ i → gone ≡ [] → n ≤ length kept → Spells d (take n kept) m
    → left ≡ drop n kept → Takes i m n (record { dialect = d; unread = gone ++ left; need = 1 })
taken_out i d gone kept left need n m same none within spells left_is =
    subst (λ (j : InputState). Takes j m n (record { dialect = d; unread = gone ++ left; need = 1 })) same
    (subst (λ (g : List ℕ). Takes (record { dialect = d; unread = g ++ kept; need = need }) m n
    (record { dialect = d; unread = g ++ left; need = 1 })) (sym none)
    (record {
      begins = record { within = within; spells = spells };
      taken = ap (λ (x : List ℕ). record { dialect = d; unread = x; need = 1 }) left_is;
    }))

-- the same, where the request stores what the parser found
pub taken_put : (i : InputState) (d : Dialect) (gone kept left : List ℕ) (need n : ℕ) (how : StorageWord) (unique : ℕ) (found made : Put) (quiet : Bool)
    (q : Request) → record { dialect = d; unread = gone ++ kept; need = need } ≡ i → gone ≡ [] → n ≤ length kept
    → Spells d (take n kept) (message_by how unique found quiet) → Ask q quiet ≡ message_by how unique made quiet → made ≡ found
    → left ≡ drop n kept → Takes i (Ask q quiet) n (record { dialect = d; unread = gone ++ left; need = 1 })
taken_put i d gone kept left need n how unique found made quiet q same none within spells q_is made_is left_is =
    let message : Ask q quiet ≡ message_by how unique found quiet = q_is ∙ ap (λ (p : Put). message_by how unique p quiet) made_is in
    taken_out i d gone kept left need n (Ask q quiet) same none within
    (subst (λ (m : Message). Spells d (take n kept) m) (sym message) spells) left_is

-- what is left is read anew
pub taken_anew : (d : Dialect) (gone kept left : List ℕ) (old count : ℕ) (lost_then lost : Message) (held : Option (Message × ℕ))
    → MayDrop d gone kept old lost_then → old ≤ most_kept d → length gone ≡ count → held ≡ None
    → (length gone ≡ count) × NeedsMore d (gone ++ left) 1 × (IsSearched left 0 × HoldsMessage d (gone ++ left) held)
    × MayDrop d gone left 1 lost
taken_anew d gone kept left old count lost_then lost held may few same none = (
  same,
  needs_one d (gone ++ left),
  (record { within = omega arith; no_end = refl }, holds_none d (gone ++ left) held none),
  inr (omega arith, none_gone d gone kept old lost_then may few),
)

-- a part behind the first bytes
pub cut_behind : (b : List ℕ) (start from to : ℕ) → drop (start + from) (take (start + to) b) ≡ drop from (take to (drop start b))
cut_behind b start from to =
    sym (drop-drop from start (take (start + to) b)) ∙ ap (λ (x : List ℕ). drop from x) (drop-take start to b)
