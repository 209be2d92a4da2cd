-- What storage's calls tell of a message that was taken.
use Rattle.std.proofs.Common.{◌≡◌, ℕ, Some, refl, ◌∙◌}
use Rattle.exchange.specs.declared.messages.Taken.{Taken}
use Rattle.exchange.specs.declared.messages.Taken.TheVariants.{Asked, Bye}
use Rattle.exchange.specs.Ends.{StorageView, with_taken, SeesNext}
use Rattle.storage_thread.specs.Serving.{GetsMessage}

-- taking a message changes no look
same_looks : (v : StorageView) (w : ℕ) (t : Taken) → with_taken v w t ≡ record (with_taken v w t) { looks = v.looks }
same_looks v w (Asked u p) = refl
same_looks v w (Bye u) = refl

-- a message that the last look named was taken
pub seen_got : (old new : StorageView) (t : Taken) → SeesNext old (Some t) new → GetsMessage old new t
seen_got old new t s = record {
  lane = s.0;
  inside = s.3;
  is_next = s.5;
  looks = old.looks;
  after = s.6 ∙ same_looks old s.0 t;
}
