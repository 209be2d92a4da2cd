-- What was read is the beginning of each reading.
use Rattle.std.proofs.Common.{◌≡◌, ℕ, false, List, ◌++◌, [], sym, ◌∙◌, append-nil, inl, inr}
use Rattle.std.specs.List.{list_any}
use Rattle.std.proofs.lemmas.Bool.{cases_Bool, both_ways}
use Rattle.proto.specs.declared.dialect.Dialect.{Dialect}
use Rattle.proto.specs.declared.message.Message.{Message}
use Rattle.proto.specs.Grammar.{SpellsNone}
use Rattle.proto.specs.Reading.{ends_session, Reads}
use Rattle.proto.proofs.GrammarLaws.{has_reading, has_one_reading}
use Rattle.proto.proofs.ReadingLemmas.{reads_on, reads_before}
use Rattle.worker.specs.Sessions.{BeginsWith}

-- what was read is all of it, where a message of it ends the session, or no beginning of the rest
-- spells a message
pub same_reading : (d : Dialect) (b rest left : List ℕ) (ms ns : List Message) → BeginsWith d b ms rest
    → (list_any ends_session ms ≡ false → SpellsNone d rest) → Reads d b ns left → ns ≡ ms
same_reading d b rest left ms ns h none r =
    (has_one_reading d b left rest ns ms r (reads_before d b h.read rest ms h.whole h.reads none)).0

-- what was read is the beginning of it
pub first_of_reading : (d : Dialect) (b rest left : List ℕ) (ms ns : List Message) → BeginsWith d b ms rest → Reads d b ns left
    → (more : List Message) × (ns ≡ ms ++ more)
first_of_reading d b rest left ms ns h r =
    elim (cases_Bool (list_any ends_session ms)) [
      | inl ended ↦ (
        [],
        same_reading d b rest left ms ns h (λ e. absurd (both_ways (list_any ends_session ms) e ended)) r
            ∙ sym (append-nil ms),
      )
      | inr goes_on ↦
          let on = has_reading d rest in
          let joined = reads_on d b h.read rest on.1 ms on.0 h.whole goes_on h.reads on.2 in
          (on.0, (has_one_reading d b left on.1 ns (ms ++ on.0) r joined).0)
    ]
