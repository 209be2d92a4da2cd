use Rattle.std.proofs.Common.{◌≡◌, ◌⊎◌, inl, inr, ℕ, ◌+◌, ◌<◌, Bool, true, false, ◌||◌, List, length, take, get_or}
use Rattle.std.proofs.Common.{refl, sym, ap, ◌∙◌, arith}
use Rattle.std.proofs.lemmas.List.{take_all}
use Rattle.std.proofs.lemmas.List.Folds.{list_any_more}
use Rattle.worker_port.specs.declared.events.PortRecord.{PortRecord}
use Rattle.worker_port.specs.declared.events.PortRecord.TheVariants as was
use Rattle.worker_port.specs.Ports.{is_entry, is_in}
use Rattle.threads_tests.proofs.workers.records.newest_in.Goals as goal
use Rattle.threads_tests.proofs.workers.records.newest_in.Goals.{in-Opened, in_default}

either : (a b : Bool) → (a || b) ≡ true → (a ≡ true) ⊎ (b ≡ true)
either true b e = inl refl
either false b e = inr e

-- one more record opened the session, or one of those before
one_more : (t : ℕ) (records : List PortRecord) (i : ℕ) (x : PortRecord) → i < length records → x ≡ get_or records i x
    → is_in (was.Opened t) (take (i + 1) records) ≡ true
    → (is_in (was.Opened t) (take i records) ≡ true) ⊎ (is_entry (was.Opened t) x ≡ true)
one_more t records i x within at opened =
    elim (either (is_in (was.Opened t) (take i records)) (is_entry (was.Opened t) (get_or records i x))
    (sym (list_any_more (is_entry (was.Opened t)) records i x within) ∙ opened))
    [ inl h ↦ inl h | inr h ↦ inr (ap (is_entry (was.Opened t)) at ∙ h) ]

opening_is : (t : ℕ) (x : PortRecord) → is_entry (was.Opened t) x ≡ true → x ≡ was.Opened t
opening_is t (was.Opened s) e = grind (arith, e)
opening_is t (was.Data s bytes) e = grind (arith, e)
opening_is t (was.EndOfInput s) e = grind (arith, e)
opening_is t (was.Gone s) e = grind (arith, e)
opening_is t was.Ended e = grind (arith, e)
opening_is t (was.Accepted s bytes) e = grind (arith, e)
opening_is t (was.Shut s) e = grind (arith, e)

pub loop-entry-preserved : goal.loop-entry-preserved
loop-entry-preserved c t opened =
    let before = c.loop-entry.invariant t in
    elim (one_more t c.args.records.now c.loop-entry.entry-index c.entry-item.result c.loop-entry-test.true
    c.entry-item.is opened) [
      | inl h ↦ let low = before h in elim c.match-entry.branch
          [ in-Opened w ↦ grind (arith, low) | in_default w ↦ grind (arith, low) ]
      | inr h ↦ let is = opening_is t c.entry-item.result h in
          elim c.match-entry.branch [
            | in-Opened w ↦ grind
                (arith, is, w.in-Opened.is, w.newest-is, w.max-newest.ensures)
            | in_default w ↦ absurd (w.in_default.not-Opened t is)
          ]
    ]

pub returns : goal.returns
returns c t opened =
    c.loop-entry.invariant t (ap (is_in (was.Opened t))
    (take_all c.loop-entry.entry-index c.args.records.now c.loop-entry-test.false) ∙ opened)
