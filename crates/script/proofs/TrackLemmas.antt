-- One more event of a worker.
use Rattle.std.proofs.Common.{◌≡◌, ℕ, Bool, List, [], ◌∷◌, ◌++◌, length, take, get_or, sym, ap}
use Rattle.std.proofs.Common.{◌∙◌, arith, inl, inr, length-append, take_at}
use Rattle.std.specs.Ordering.{nat_cmp}
use Rattle.std.specs.BTreeSet.{BTreeSet, contains}
use Rattle.std.proofs.Math.Seq.{get_or-append_seam}
use Rattle.std.proofs.lemmas.List.{get_or_append_left, take-append-le}
use Rattle.std.proofs.lemmas.List.Sums.{fold_push}
use Rattle.std.proofs.lemmas.Bool.{cases_lt}
use Rattle.script.specs.declared.event.ScriptEvent.{ScriptEvent}
use Rattle.script.specs.Events.{newest_after, newest_of, open_after, is_open_in_script, MayFollow, IsPlayable}
use Rattle.script.specs.Tracking.{IsTracked}

-- one event more that may come
pub playable_more : (events : List ScriptEvent) (e : ScriptEvent) → IsPlayable events → MayFollow events e
    → IsPlayable (events ++ e ∷ [])
playable_more events e playable may k d lt =
    elim (cases_lt k (length events)) [
      | inl before ↦
          let front : take k (events ++ e ∷ []) ≡ take k events = take-append-le k events (e ∷ []) (omega arith) in
          let here : get_or (events ++ e ∷ []) k d ≡ get_or events k d =
          get_or_append_left events (e ∷ []) d k before in
          rw (front, here) (playable k d before)
      | inr after ↦
          let last : k ≡ length events = omega (arith, length-append events (e ∷ [])) in
          let front : take k (events ++ e ∷ []) ≡ events = take_at events (e ∷ []) k (sym last) in
          let here : get_or (events ++ e ∷ []) k d ≡ e =
          ap (λ (n : ℕ). get_or (events ++ e ∷ []) n d) last ∙ get_or-append_seam events e [] d in
          rw (front, here) may
    ]

-- the newest session, with one event more
pub newest_more : (events : List ScriptEvent) (e : ScriptEvent)
    → newest_of (events ++ e ∷ []) ≡ newest_after (newest_of events) e
newest_more events e = fold_push newest_after 0 events e

-- whether a session is open, with one event more
pub open_more : (events : List ScriptEvent) (e : ScriptEvent) (s : ℕ)
    → is_open_in_script (events ++ e ∷ []) s ≡ open_after s (is_open_in_script events s) e
open_more events e s = fold_push (open_after s) _ events e

-- what is kept beside the events, with one event more
pub tracked_more : (events : List ScriptEvent) (e : ScriptEvent) (n m : ℕ) (old new : BTreeSet ℕ)
    → IsTracked events n old → MayFollow events e
    → m ≡ newest_after n e → ((s : ℕ) → contains nat_cmp new s ≡ open_after s (contains nat_cmp old s) e)
    → IsTracked (events ++ e ∷ []) m new
tracked_more events e n m old new was may newest sessions = record {
  newest_is = newest ∙ ap (λ (k : ℕ). newest_after k e) was.newest_is ∙ sym (newest_more events e);
  open_are = λ s. sessions s ∙ ap (λ (b : Bool). open_after s b e) (was.open_are s) ∙ sym (open_more events e s);
  playable = playable_more events e was.playable may;
}
