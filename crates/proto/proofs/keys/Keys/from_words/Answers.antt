use Rattle.std.proofs.Common.{◌≡◌, ◌+◌, ℕ, List, sym, ap, ◌∙◌}
use Rattle.std.specs.List.{count_by}
use Rattle.std.proofs.lemmas.List.{take_all}
use Rattle.proto.specs.Words.{is_space}
use Rattle.proto.proofs.WordLists.{length-words_of}
use Rattle.proto.proofs.keys.Keys.from_words.Goals as goal

pub invariant_of-result : goal.invariant_of-result
invariant_of-result c =
    let whole : c.loop-byte.count ≡ count_by is_space c.in-Some.line.now + 1 =
    c.loop-byte.invariant.counted
    ∙ ap (λ (xs : List ℕ). count_by is_space xs + 1) (take_all c.loop-byte.byte-index c.in-Some.line.now c.loop-byte-test.false) in
    rw (
      c.extend_from_slice.ensures.items,
      c.unwrap.ensures,
      c.push_reserved.ensures.items,
      c.in_ok-bytes.ensures.items,
    )
    (whole ∙ sym (length-words_of c.in-Some.line.now))
