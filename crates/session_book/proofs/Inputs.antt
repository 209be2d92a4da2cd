-- What becomes of unread bytes, of which some may have been dropped.
use Rattle.std.proofs.Common.{◌≡◌, ℕ, ◌-◌, ◌<◌, ◌≤◌, List, [], ◌++◌, length, take, drop, Option, Some, None}
use Rattle.std.proofs.Common.{refl, sym, ap, subst, ◌∙◌, length-append}
use Rattle.std.proofs.Common.{arith, inl, inr, append_assoc, take_at, drop_at, take-append-drop, length-take-le}
use Rattle.std.specs.Prelude.{◌⊎◌, min}
use Rattle.std.proofs.lemmas.Bool.{cases_lt}
use Rattle.std.proofs.lemmas.List.{append-nil, nil_from_length, length-take, length-drop, take-append-le}
use Rattle.proto.specs.declared.dialect.Dialect.{Dialect}
use Rattle.proto.specs.declared.message.Message.{Message}
use Rattle.proto.specs.Grammar.{most_kept, Spells}
use Rattle.proto.specs.Lines.{IsSearched}
use Rattle.proto.specs.Needs.{NeedsMore, IsDropped}
use Rattle.proto.specs.PlainReader.{Found, next}
use Rattle.proto.proofs.MessageReader.{next_complete}
use Rattle.proto.proofs.Options.{some_is}
use Rattle.session_book.specs.Input.{InputState, IsDropping, MayDrop, Begins, HoldsMessage}
use Rattle.session_book.proofs.Needing.{spells_none, unfinished_short}

-- ---- which bytes were dropped

-- bytes are dropped where many are needed
pub dropping : (d : Dialect) (gone kept : List ℕ) (need : ℕ) (lost : Message) → MayDrop d gone kept need lost → most_kept d < need
    → IsDropping d gone kept need lost
dropping d gone kept need lost (inl h) large = h
dropping d gone kept need lost (inr h) large = absurd (omega (arith, h.0, large))

-- none are where few are
pub none_gone : (d : Dialect) (gone kept : List ℕ) (need : ℕ) (lost : Message) → MayDrop d gone kept need lost → need ≤ most_kept d
    → gone ≡ []
none_gone d gone kept need lost (inl h) few = absurd (let l = h.large in omega (arith, l, few))
none_gone d gone kept need lost (inr h) few = h.1

-- then all are kept that there are
pub all_kept : (d : Dialect) (gone kept seen : List ℕ) (need : ℕ) (lost : Message) → MayDrop d gone kept need lost → need ≤ most_kept d
    → seen ≡ kept → seen ≡ gone ++ kept
all_kept d gone kept seen need lost may few seen_is =
    seen_is ∙ ap (λ (x : List ℕ). x ++ kept) (sym (none_gone d gone kept need lost may few))

-- either all of the message has gone, or nothing is kept
all_or_none : (d : Dialect) (gone kept : List ℕ) (need : ℕ) (lost : Message) → IsDropping d gone kept need lost
    → (length gone ≡ need) ⊎ ((length gone < need) × (kept ≡ []))
all_or_none d gone kept need lost h =
    elim (cases_lt (length gone) need) [
      | inl fewer ↦ inr (fewer, h.nothing_kept fewer)
      | inr enough ↦ let within = h.within in inl (omega (arith, enough, within))
    ]

-- once as many bytes are there as are needed, all of the message has gone
pub all_gone : (d : Dialect) (gone kept : List ℕ) (need : ℕ) (lost : Message) → IsDropping d gone kept need lost
    → need ≤ length (gone ++ kept) → length gone ≡ need
all_gone d gone kept need lost h enough =
    elim (all_or_none d gone kept need lost h) [
      | inl all ↦ all
      | inr none ↦
          let same : gone ++ kept ≡ gone = ap (λ (x : List ℕ). gone ++ x) none.1 ∙ append-nil gone in
          let fewer = none.0 in
          absurd (omega (arith, fewer, enough, ap (λ (x : List ℕ). length x) same))
    ]

-- ---- the calls

-- A piece is split: as much of it is dropped as is left of the message, and the rest is kept.
pub appended : (d : Dialect) (gone kept front behind piece : List ℕ) (need n : ℕ) (lost : Message) → IsDropping d gone kept need lost
    → n ≤ need - length gone → front ≡ take n piece → behind ≡ drop n piece
    → (gone ++ front) ++ (kept ++ behind) ≡ (gone ++ kept) ++ piece
appended d gone kept front behind piece need n lost h few front_is behind_is =
    let whole : front ++ behind ≡ piece =
    ap (λ (x : List ℕ). x ++ behind) front_is ∙ ap (λ (x : List ℕ). take n piece ++ x) behind_is ∙ take-append-drop n piece in
    elim (all_or_none d gone kept need lost h) [
      | inl all ↦
          let nothing : front ≡ [] = nil_from_length front (rw front_is (omega (arith, all, few, length-take n piece))) in
          let piece_is : behind ≡ piece = ap (λ (x : List ℕ). x ++ behind) (sym nothing) ∙ whole in
          ap (λ (x : List ℕ). (gone ++ x) ++ (kept ++ behind)) nothing
          ∙ ap (λ (x : List ℕ). x ++ (kept ++ behind)) (append-nil gone)
          ∙ sym (append_assoc gone kept behind) ∙ ap (λ (x : List ℕ). (gone ++ kept) ++ x) piece_is
      | inr none ↦
          ap (λ (x : List ℕ). (gone ++ front) ++ (x ++ behind)) none.1 ∙ append_assoc gone front behind
          ∙ ap (λ (x : List ℕ). gone ++ x) whole
          ∙ ap (λ (x : List ℕ). x ++ piece) (sym (ap (λ (x : List ℕ). gone ++ x) none.1 ∙ append-nil gone))
    ]

-- as long as less than all of the message has gone, nothing is kept
pub drops_more : (d : Dialect) (gone kept front behind piece : List ℕ) (need n : ℕ) (lost : Message) → IsDropping d gone kept need lost
    → n ≡ min (need - length gone) (length piece) → front ≡ take n piece → behind ≡ drop n piece
    → IsDropping d (gone ++ front) (kept ++ behind) need lost
drops_more d gone kept front behind piece need n lost h n_is front_is behind_is =
    let taken : length front ≡ length (take n piece) = ap (λ (x : List ℕ). length x) front_is in
    let left : length behind ≡ length (drop n piece) = ap (λ (x : List ℕ). length x) behind_is in
    let within = h.within in record {
      large = h.large;
      within = omega (arith, n_is, within, taken, length-take n piece, length-append gone front);
      nothing_kept = λ fewer.
          let short : length gone < need = omega (arith, fewer, length-append gone front) in
          let whole : length behind ≡ 0 =
          omega (arith, n_is, fewer, taken, left, length-take n piece, length-drop n piece, length-append gone front) in
          ap (λ (x : List ℕ). x ++ behind) (h.nothing_kept short) ∙ nil_from_length behind whole;
      spells = λ more all. rw append_assoc (h.spells (front ++ more) (rw append_assoc at all));
    }

-- the bytes of the input alone have changed
pub with_unread : (i : InputState) (d : Dialect) (b after : List ℕ) (need : ℕ) (f : List ℕ → List ℕ)
    → record { dialect = d; unread = b; need = need } ≡ i → after ≡ f b
    → record { dialect = d; unread = after; need = need } ≡ record i { unread = f i.unread }
with_unread i d b after need f same after_is =
    subst (λ (j : InputState). record { dialect = d; unread = after; need = need } ≡ record j { unread = f j.unread }) same
    (ap (λ (x : List ℕ). record { dialect = d; unread = x; need = need }) after_is)

-- all of a message that is dropped has come
pub whole_dropped : (i : InputState) (d : Dialect) (gone kept : List ℕ) (need : ℕ) (lost : Message)
    → record { dialect = d; unread = gone ++ kept; need = need } ≡ i → IsDropping d gone kept need lost
    → i.need ≤ length i.unread → Begins i lost need
whole_dropped i d gone kept need lost same h enough =
    subst (λ (j : InputState). j.need ≤ length j.unread → Begins j lost need) same
    (λ there.
    let all = all_gone d gone kept need lost h there in
    let spelled : Spells d (gone ++ []) lost =
    h.spells [] (ap (λ (x : List ℕ). length x) (append-nil gone) ∙ all) in
    record {
      within = there;
      spells = rw (take_at gone kept need all) (rw append-nil at spelled);
    }) enough

-- no message is held
pub holds_none : (d : Dialect) (b : List ℕ) (held : Option (Message × ℕ)) → held ≡ None → HoldsMessage d b held
holds_none d b held none = record { spells = rw none tt }

-- the one is that was found
pub holds_one : (i : InputState) (d : Dialect) (b : List ℕ) (need : ℕ) (m : Message) (n : ℕ)
    → record { dialect = d; unread = b; need = need } ≡ i → Begins i m n → HoldsMessage d b (Some (m, n))
holds_one i d b need m n same begins =
    subst (λ (j : InputState). Begins j m n → HoldsMessage d b (Some (m, n))) same
    (λ (found : Begins (record { dialect = d; unread = b; need = need }) m n).
    record { spells = (found.within, found.spells) }) begins

-- it is what the bytes begin with
pub held_begins : (i : InputState) (d : Dialect) (b : List ℕ) (need : ℕ) (held : Option (Message × ℕ)) (m : Message) (n : ℕ)
    → record { dialect = d; unread = b; need = need } ≡ i → HoldsMessage d b held → held ≡ Some (m, n) → Begins i m n
held_begins i d b need held m n same h is =
    let found : HoldsMessage d b (Some (m, n)) = subst (HoldsMessage d b) is h in
    let s = found.spells in
    subst (λ (j : InputState). Begins j m n) same (record { within = s.0; spells = s.1 })

-- bytes that come behind leave it
pub holds_behind : (d : Dialect) (b piece : List ℕ) (held : Option (Message × ℕ)) → HoldsMessage d b held
    → HoldsMessage d (b ++ piece) held
holds_behind d b piece None h = record { spells = tt }
holds_behind d b piece (Some (m, n)) h = let s = h.spells in
    let within : n ≤ length b = s.0 in record {
      spells = (omega (arith, within, length-append b piece), rw (take-append-le n b piece within) s.1);
    }

-- the parser said that the message is to be dropped
pub starts_dropping : (d : Dialect) (gone kept seen gone_now kept_now : List ℕ) (old need count : ℕ) (lost_then lost : Message)
    → MayDrop d gone kept old lost_then → old ≤ most_kept d → seen ≡ kept → IsDropped d seen need lost
    → gone_now ≡ gone ++ seen → count ≡ length kept → kept_now ≡ drop count kept
    → (length gone_now ≡ count) × NeedsMore d (gone_now ++ kept_now) need
    × (IsSearched kept_now 0 × HoldsMessage d (gone_now ++ kept_now) None) × MayDrop d gone_now kept_now need lost
starts_dropping d gone kept seen gone_now kept_now old need count lost_then lost may few seen_is h gone_is count_is kept_is =
    let none = none_gone d gone kept old lost_then may few in
    let first : gone_now ≡ seen = gone_is ∙ ap (λ (x : List ℕ). x ++ seen) none in
    let len : length seen ≡ length kept = ap (λ (x : List ℕ). length x) seen_is in
    let left : kept_now ≡ [] = kept_is ∙ ap (λ (x : List ℕ). drop count x) (sym (append-nil kept)) ∙ drop_at kept [] count (sym count_is) in
    let unread : gone_now ++ kept_now ≡ seen =
    ap (λ (x : List ℕ). gone_now ++ x) left ∙ append-nil gone_now ∙ first in
    let unfinished = h.unfinished in
    let fewer : length seen < need = unfinished_short d seen need unfinished in
    let total : length gone_now ≡ length seen = ap (λ (x : List ℕ). length x) first in (
      total ∙ len ∙ sym count_is,
      rw unread unfinished.needs_more,
      (record { within = omega arith; no_end = refl }, record { spells = tt }),
      inl (record {
        large = h.large;
        within = omega (arith, total, fewer);
        nothing_kept = λ short. left;
        spells = rw first h.spells;
      }),
    )

-- two messages that the same bytes begin with take as many
one_length : (d : Dialect) (b : List ℕ) (m o : Message) (n k : ℕ) → n ≤ length b → k ≤ length b → Spells d (take n b) m
    → Spells d (take k b) o → n ≡ k
one_length d b m o n k n_within k_within h g =
    let first : next d b ≡ Some (m, n) =
    rw (take-append-drop n b, length-take-le n b n_within) at (next_complete d (take n b) (drop n b) m h) in
    let second : next d b ≡ Some (o, k) =
    rw (take-append-drop k b, length-take-le k b k_within) at (next_complete d (take k b) (drop k b) o g) in
    ap (λ (f : Found). f.1) (some_is (m, n) (o, k) (sym first ∙ second))

-- What is left of the kept bytes once those of a message are taken away that weren't dropped.
pub record Took (gone kept : List ℕ) (n : ℕ) : Type 0 where
  pub enough : length gone ≤ n
  pub within : n - length gone ≤ length kept
  pub left : drop (n - length gone) kept ≡ drop n (gone ++ kept)

-- all of a message that was dropped has gone
took_dropped : (i : InputState) (d : Dialect) (gone kept : List ℕ) (need n : ℕ) (lost : Message) (m : Message)
    → record { dialect = d; unread = gone ++ kept; need = need } ≡ i → IsDropping d gone kept need lost → NeedsMore d (gone ++ kept) need
    → Begins i m n → Took gone kept n
took_dropped i d gone kept need n lost m same h needs begins =
    subst (λ (j : InputState). Begins j m n → Took gone kept n) same
    (λ (found : Begins (record { dialect = d; unread = gone ++ kept; need = need }) m n).
    let within = found.within in
    let spells = found.spells in
    let enough : need ≤ length (gone ++ kept) =
    elim (cases_lt (length (gone ++ kept)) need) [
      | inl fewer ↦ absurd (spells_none d (gone ++ kept) need needs fewer n m spells)
      | inr there ↦ there
    ] in
    let all = all_gone d gone kept need lost h enough in
    let dropped = whole_dropped (record { dialect = d; unread = gone ++ kept; need = need }) d gone kept need lost refl h enough in
    let same_length : need ≡ n =
    one_length d (gone ++ kept) lost m need n enough within dropped.spells spells in
    let none : n - length gone ≡ 0 = omega (arith, all, same_length) in
    record {
      enough = omega (arith, all, same_length);
      within = omega (arith, none);
      left = ap (λ (k : ℕ). drop k kept) none ∙ sym (drop_at gone kept n (all ∙ same_length));
    }) begins

-- none of another one has
took_kept : (i : InputState) (d : Dialect) (gone kept : List ℕ) (need n : ℕ) (m : Message)
    → record { dialect = d; unread = gone ++ kept; need = need } ≡ i → gone ≡ [] → Begins i m n → Took gone kept n
took_kept i d gone kept need n m same none begins =
    subst (λ (j : InputState). Begins j m n → Took gone kept n) same
    (λ (found : Begins (record { dialect = d; unread = gone ++ kept; need = need }) m n).
    let within = found.within in
    let len : length gone ≡ 0 = ap (λ (x : List ℕ). length x) none in
    let all : n - length gone ≡ n = omega (arith, len) in
    let whole : gone ++ kept ≡ kept = ap (λ (x : List ℕ). x ++ kept) none in
    record {
      enough = omega (arith, len);
      within = omega (arith, within, all, ap (λ (x : List ℕ). length x) whole);
      left = ap (λ (k : ℕ). drop k kept) all ∙ ap (λ (x : List ℕ). drop n x) (sym whole);
    }) begins

-- the bytes of the message are taken away
pub took : (i : InputState) (d : Dialect) (gone kept : List ℕ) (need n : ℕ) (lost : Message) (m : Message)
    → record { dialect = d; unread = gone ++ kept; need = need } ≡ i → MayDrop d gone kept need lost → NeedsMore d (gone ++ kept) need
    → Begins i m n → Took gone kept n
took i d gone kept need n lost m same (inl h) needs begins = took_dropped i d gone kept need n lost m same h needs begins
took i d gone kept need n lost m same (inr h) needs begins = took_kept i d gone kept need n m same h.1 begins

-- what is left is read anew
pub read_anew : (i : InputState) (d : Dialect) (gone kept none left : List ℕ) (need n : ℕ)
    → record { dialect = d; unread = gone ++ kept; need = need } ≡ i → Took gone kept n → none ≡ []
    → left ≡ drop (n - length gone) kept
    → record { dialect = d; unread = none ++ left; need = 1 } ≡ record i { unread = drop n i.unread; need = 1 }
read_anew i d gone kept none left need n same t nothing left_is =
    subst (λ (j : InputState). record { dialect = d; unread = none ++ left; need = 1 } ≡ record j { unread = drop n j.unread; need = 1 })
    same (ap (λ (x : List ℕ). record { dialect = d; unread = x; need = 1 })
    (ap (λ (x : List ℕ). x ++ left) nothing ∙ left_is ∙ t.left))
