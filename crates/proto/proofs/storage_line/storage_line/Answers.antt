use Rattle.std.proofs.Common.{◌≡◌, ◌∙◌, ℕ, Bool, Option, Some, w64, rules}
use Rattle.std.proofs.lemmas.Int.{to_z-of_z}
use mir.Val.{SFits}
use Rattle.proto.specs.PlainReader.{tail_of}
use Rattle.proto.proofs.TakenWords.{storage_taken, plain_taken, plain_verb, unique_taken}
use Rattle.proto.proofs.storage_line.storage_line.Goals as goal
use Rattle.proto.proofs.storage_line.storage_line.Goals.{in_default, in-Cas+in_ok-unique-in-Cas}

pub returns : goal.returns
returns c =
    let fits : SFits w64 c.meant.result = search rules in
    let written : SFits w64 c.in_ok-written.written = search rules in
    let quiet = c.in_ok-noreply.noreply in
    let behind = c.next_number-2.new.self in
    let rest = c.match-word.words in
    let read = c.in_ok-noreply.ensures in
    let tail : ◌≡◌ {A = Option (ℕ × Bool)} (Some (c.match-word.unique, quiet)) (tail_of c.args.word behind) =
    elim c.match-word.branch [
      | in_default w ↦ rw w.unique-is (plain_taken quiet behind rest read w.words-is
          ∙ plain_verb c.args.word w.in_default.not-Cas behind)
      | in-Cas+in_ok-unique-in-Cas w ↦ rw (w.in-Cas.is, w.unique-is)
          (unique_taken _ quiet behind _ rest w.in_ok-unique-in-Cas.ensures.read read w.words-is)
    ] in
    rw (to_z-of_z w64 c.meant.result fits, c.meant.ensures, to_z-of_z w64 c.in_ok-written.written written)
    (storage_taken c.args.dialect c.args.word c.args.words c.next_key.new.self c.next_number.new.self
    c.next_signed.new.self c.next_number-2.new.self c.in_ok-key.key.now c.in_ok-flags.flags
    c.in_ok-written.written c.in_ok-size.size
    (c.match-word.unique, quiet) c.in_ok-key.ensures c.in_ok-flags.ensures.read
    c.in_ok-written.ensures c.in_ok-size.ensures.read tail)
