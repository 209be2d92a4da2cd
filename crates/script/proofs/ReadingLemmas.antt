-- The first line of a script, and one more line that is read.
use Rattle.std.proofs.Common.{◌≡◌, ℕ, zero, suc, ◌<◌, ◌≤◌, true, false, eqb, List, [], ◌∷◌, ◌++◌, length, take, drop, get_or, refl, sym, ap, subst, ◌∙◌}
use Rattle.std.proofs.Common.{arith, append_assoc, length-append}
use Rattle.std.proofs.Math.ListN.{length-set}
use Rattle.std.proofs.lemmas.List.{append-nil}
use Rattle.script.specs.Lines.{lines_of}
use Rattle.script.specs.declared.fault.ScriptFault.{ScriptFault}
use Rattle.script.specs.declared.fault.ScriptFault.TheVariants as script
use Rattle.script.specs.Scripts.{Workers, AddsLine, AreRead, no_events, Position, first_position, ReadsLine, IsNextFault, AreEventsOf, IsFaultOf, max_script}

-- a text with a line feed is the line before it, and the lines behind
pub lines_at : (text : List ℕ) (i : ℕ) → i < length text → eqb (get_or text i 0) 10 ≡ true
    → ((k : ℕ) → k < i → eqb (get_or text k 0) 10 ≡ false)
    → lines_of text ≡ take i text ∷ lines_of (drop 1 (drop i text))
lines_at [] i lt here before = absurd (omega arith)
lines_at (c ∷ text) zero lt here before = rw here refl
lines_at (c ∷ text) (suc i) lt here before =
    let below = lines_at text i (omega arith) here (λ k h. before (suc k) (omega arith)) in
    rw (before 0 (omega arith), below) refl

-- a text without a line feed is one line
pub lines_last : (c : ℕ) (text : List ℕ) → ((k : ℕ) → k < length (c ∷ text) → eqb (get_or (c ∷ text) k 0) 10 ≡ false)
    → lines_of (c ∷ text) ≡ (c ∷ text) ∷ []
lines_last c [] h = rw (h 0 (omega arith)) refl
lines_last c (d ∷ text) h =
    let below = lines_last d text (λ k lt. h (suc k) (omega arith)) in
    rw (h 0 (omega arith), below) refl

-- lines that were read, and one more
pub are_read_more : (before mid after : Workers) (lines : List (List ℕ)) (line : List ℕ) → AreRead before lines mid
    → AddsLine mid line after → AreRead before (lines ++ line ∷ []) after
are_read_more before mid after [] line is adds = (after, subst (λ (w : Workers). AddsLine w line after) is adds, refl)
are_read_more before mid after (first ∷ lines) line (next, adds_first, read) adds =
    (next, adds_first, are_read_more next mid after lines line read adds)

-- a text that isn't empty and has no line feed is one line
pub lines_whole : (text : List ℕ) → 0 < length text → ((k : ℕ) → k < length text → eqb (get_or text k 0) 10 ≡ false)
    → lines_of text ≡ text ∷ []
lines_whole [] some h = absurd (omega arith)
lines_whole (c ∷ text) some h = lines_last c text h

-- the reader of a script for these workers has come to this position
pub record IsAt (workers : ℕ) (text : List ℕ) (position : Position) : Type 0 where
  pub before : List (List ℕ)
  pub lines_are : lines_of text ≡ before ++ position.left
  pub read_is : position.read ≡ length before
  pub read : AreRead (no_events workers) before position.workers

-- a reader begins at the first line
pub at_first : (workers : ℕ) (text : List ℕ) → IsAt workers text (first_position workers text)
at_first workers text = record { before = []; lines_are = refl; read_is = refl; read = refl }

-- one line further
pub at_next : (workers : ℕ) (text : List ℕ) (old new : Position) → IsAt workers text old → ReadsLine old new
    → IsAt workers text new
at_next workers text old new at reads = record {
  before = at.before ++ reads.line ∷ [];
  lines_are = at.lines_are ∙ ap (λ (left : List (List ℕ)). at.before ++ left) reads.first
      ∙ sym (append_assoc at.before (reads.line ∷ []) new.left);
  read_is = let counted = reads.counted in let was = at.read_is in
      omega (arith, length-append at.before (reads.line ∷ []));
  read = are_read_more (no_events workers) old.workers new.workers at.before reads.line at.read reads.adds;
}

-- where no line is left, all were read
pub at_end : (workers : ℕ) (text : List ℕ) (position : Position) → IsAt workers text position → position.left ≡ []
    → length text ≤ max_script → AreEventsOf workers text position.workers
at_end workers text position at none small = record {
  small = small;
  read = subst (λ (lines : List (List ℕ)). AreRead (no_events workers) lines position.workers)
      (sym (at.lines_are ∙ ap (λ (left : List (List ℕ)). at.before ++ left) none ∙ append-nil at.before)) at.read;
}

-- the fault of the next line is that of the text
pub at_fault : (workers : ℕ) (text : List ℕ) (position : Position) (fault : ScriptFault) → IsAt workers text position
    → IsNextFault position fault → length text ≤ max_script → IsFaultOf workers text fault
at_fault workers text position script.TooLarge at next small = absurd next
at_fault workers text position (script.Line number fault) at next small = (
  small,
  record {
    before = at.before;
    line = next.line;
    rest = next.rest;
    lines_are = at.lines_are ∙ ap (λ (left : List (List ℕ)). at.before ++ left) next.first;
    number_is = let was = at.read_is in let is = next.number_is in omega arith;
    events = position.workers;
    read = at.read;
    faulty = next.faulty;
  },
)
at_fault workers text position script.NoMemory at next small = tt

-- lines add no worker
pub length-are_read : (before after : Workers) (lines : List (List ℕ)) → AreRead before lines after
    → length after ≡ length before
length-are_read before after [] is = ap length is
length-are_read before after (line ∷ lines) (mid, adds, read) =
    length-are_read mid after lines read ∙ ap length adds.2 ∙ length-set before adds.0.worker _
