-- A history that a worker was told of: how its seat is made, and what it finds where it meets a
-- worker or another one.
use Rattle.std.proofs.Common.{◌≡◌, ⊎_elim, ℕ, ◌<◌, List, ◌++◌, length, take, set, refl, sym, ap, ◌∙◌, subst, arith}
use mathlib.Core.Option.{none, some, some-ne-none}
use lib.ListN.{get_elem?}
use lib.Seq.{set-get_or}
use Rattle.std.proofs.lemmas.List.{map-append}
use Rattle.std.proofs.lemmas.List.Elements.{filter-append}
use Rattle.atomic_table.specs.Table.{step, keeps, Allows, Splits, Joins}
use Rattle.atomic_table.proofs.Lists.{set_here, set_else}
use Rattle.proto.specs.declared.history.Posted.{Posted}
use Rattle.proto.specs.declared.history.Answered.{Answered}
use Rattle.proto.specs.History.{worker_share, asked_posted}
use Rattle.exchange.specs.declared.messages.LaneKey.{LaneKey}
use Rattle.exchange.specs.declared.rule.WorkerState.{WorkerState}
use Rattle.exchange.specs.declared.rule.LaneView.{LaneView}
use Rattle.exchange.specs.declared.rule.LaneView.TheVariants.{Nobody, Worker, Storage, Comparing, Told, TwoTold, Checking}
use Rattle.exchange.specs.Beginnings.{StartsWith, AreOfOne, posted_of, is_of_worker}
use Rattle.exchange.specs.Lanes.{SeatState, LanesHold}
use Rattle.exchange.specs.Steps.{unchanged, noting, meeting, IsOfOneWith, tells_check, tells_two}
use Rattle.exchange.proofs.Lists.{at_below, starts_below, starts_take, starts_trans, of_one}
use Rattle.exchange.proofs.Shares.{share_starts}
use Rattle.exchange.proofs.Table.{St, lane_of, view_moves, view_comes}
use Rattle.exchange.proofs.WorkerSteps.{worker_state_or, seen_of}

-- what a view has, or else
abbrev pub told_or : List Answered → LaneView → List Answered
told_or t (Told u) = u
told_or t (TwoTold u v) = u
told_or t (Checking c u) = u
told_or t Nobody = t
told_or t (Worker c) = t
told_or t (Storage d) = t
told_or t (Comparing d c) = t

abbrev pub second_or : List Answered → LaneView → List Answered
second_or t (TwoTold u v) = v
second_or t (Told u) = t
second_or t (Checking c u) = t
second_or t Nobody = t
second_or t (Worker c) = t
second_or t (Storage d) = t
second_or t (Comparing d c) = t

-- requests of a beginning
asked_starts : (h g : List Answered) → StartsWith h g → StartsWith (asked_posted h) (asked_posted g)
asked_starts h g s = (asked_posted s.0, ap asked_posted s.1 ∙ map-append posted_of g s.0)

module _ (key : LaneKey) where
  -- a worker's seat gives one of what it was told
  pub notes : (id : ℕ) (v : LaneView) (c : WorkerState) → v ≡ Worker c
      → Splits (LanesHold key) id v (unchanged v) (noting v)
  notes id v c is = subst (λ (z : LaneView). Splits (LanesHold key) id z (unchanged z) (noting z)) (sym is)
      (λ s r at. let f = r.each_view id (Worker c) at in
      let s' : St = record { words = s.words; homes = s.homes; views = set s.views id (Worker c) } in
      let r' : LanesHold key s' = view_moves key s r id (Worker c) (Worker c) at (λ n e. e) f in
      let f' = r'.each_view id (Worker c) (set_here s.views id (Worker c) (at_below s.views id (Worker c) at)) in
      view_comes key s' r' (Told c.seen) refl (λ j. seen_of key s' r' c f'.1 f'.2))

  -- a history's seat gives another one of the same history
  pub notes_again : (id : ℕ) (v : LaneView) (t : List Answered) → v ≡ Told t
      → Splits (LanesHold key) id v (unchanged v) (noting v)
  notes_again id v t is = subst (λ (z : LaneView). Splits (LanesHold key) id z (unchanged z) (noting z)) (sym is)
      (λ s r at. let f = r.each_view id (Told t) at in
      let s' : St = record { words = s.words; homes = s.homes; views = set s.views id (Told t) } in
      let r' : LanesHold key s' = view_moves key s r id (Told t) (Told t) at (λ n e. e) f in
      let f' = r'.each_view id (Told t) (set_here s.views id (Told t) (at_below s.views id (Told t) at)) in
      view_comes key s' r' (Told t) refl (λ j. f'))

  -- a worker's seat takes in a history
  pub meets : (id other : ℕ) (v u : LaneView) (c : WorkerState) (t : List Answered) → v ≡ Worker c → u ≡ Told t
      → Joins (LanesHold key) id v other u (meeting v u) Nobody
  meets id other v u c t is is' = subst
      (λ (z : LaneView × LaneView). Joins (LanesHold key) id z.0 other z.1 (meeting z.0 z.1) Nobody)
      (λ i. (sym is i, sym is' i)) (λ s r at apart there.
      let both : LaneView = Checking c t in
      let s' : St = record { words = s.words; homes = s.homes; views = set s.views id both } in
      let g = r.each_view other (Told t) (sym (set_else s.views id other both apart) ∙ there) in
      let r' : LanesHold key s' = view_moves key s r id (Worker c) both at (λ n e. e)
      (r.each_view id (Worker c) at, g) in
      view_moves key s' r' other (Told t) Nobody there (λ n e. absurd (some-ne-none n (sym e))) tt)

  -- a history's seat takes in another one
  pub meets_told : (id other : ℕ) (v u : LaneView) (t w : List Answered) → v ≡ Told t → u ≡ Told w
      → Joins (LanesHold key) id v other u (meeting v u) Nobody
  meets_told id other v u t w is is' = subst
      (λ (z : LaneView × LaneView). Joins (LanesHold key) id z.0 other z.1 (meeting z.0 z.1) Nobody)
      (λ i. (sym is i, sym is' i)) (λ s r at apart there.
      let both : LaneView = TwoTold t w in
      let s' : St = record { words = s.words; homes = s.homes; views = set s.views id both } in
      let g = r.each_view other (Told w) (sym (set_else s.views id other both apart) ∙ there) in
      let r' : LanesHold key s' = view_moves key s r id (Told t) both at (λ n e. absurd (some-ne-none n (sym e)))
      (r.each_view id (Told t) at, g) in
      view_moves key s' r' other (Told w) Nobody there (λ n e. absurd (some-ne-none n (sym e))) tt)

  -- what a worker and a history find
  of_one_with : (s : St) (r : LanesHold key s) (id : ℕ) (c : WorkerState) (t : List Answered)
      → get_elem? s.views id ≡ some (Checking c t) → IsOfOneWith c t
  of_one_with s r id c t at = let f = r.each_view id (Checking c t) at in let w : ℕ = c.worker in
      let told : List Answered = r.storage_state.told in let history : List Answered = r.storage_state.history in
      let lane = lane_of key s r c f.0.1 f.0.2 in
      let mine : List Answered = worker_share history w in record {
        asked = starts_trans c.sent (take (length mine) c.sent) (asked_posted (worker_share t w))
            (starts_take c.sent (length mine))
            (subst (λ (z : List Posted). StartsWith z (asked_posted (worker_share t w))) lane.asked_is
            (asked_starts mine (worker_share t w)
            (share_starts history t w (starts_trans history told t r.told_first f.1))));
        one = of_one told c.seen t (seen_of key s r c f.0.1 f.0.2) f.1;
      }

  pub checks : (n id : ℕ) (me : SeatState) (c : WorkerState) (t : List Answered) (i : ℕ) → me.0 ≡ Checking c t
      → Allows (LanesHold key) n id me i (λ x. x) (tells_check (step n i 0 0 none) me)
  checks n id me c t i is s r _ at _ = let at' : get_elem? s.views id ≡ some (Checking c t) =
      at ∙ ap (λ (z : LaneView). some z) is in (
        Worker c,
        keeps,
        tt,
        subst (λ (ws : List ℕ). LanesHold key record { words = ws; homes = s.homes; views = set s.views id (Worker c) })
            (sym (set-get_or s.words i 0))
            (view_moves key s r id (Checking c t) (Worker c) at' (λ n e. e) (r.each_view id (Checking c t) at').0),
        λ c₂ t₂ is₂. let e : Checking c t ≡ Checking c₂ t₂ = sym is ∙ is₂ in (
          subst (λ (z : WorkerState × List Answered). IsOfOneWith z.0 z.1)
              (λ j. (worker_state_or c (e j), told_or t (e j))) (of_one_with s r id c t at'),
          λ j. (Worker (worker_state_or c (e j)), me.1),
        ),
      )

  -- what two histories find
  pub compares_told : (n id : ℕ) (me : SeatState) (t w : List Answered) (i : ℕ) → me.0 ≡ TwoTold t w
      → Allows (LanesHold key) n id me i (λ x. x) (tells_two (step n i 0 0 none) me)
  compares_told n id me t w i is s r _ at _ = let at' : get_elem? s.views id ≡ some (TwoTold t w) =
      at ∙ ap (λ (z : LaneView). some z) is in
      let f = r.each_view id (TwoTold t w) at' in (
        Told t,
        keeps,
        tt,
        subst (λ (ws : List ℕ). LanesHold key record { words = ws; homes = s.homes; views = set s.views id (Told t) })
            (sym (set-get_or s.words i 0))
            (view_moves key s r id (TwoTold t w) (Told t) at' (λ n e. absurd (some-ne-none n (sym e))) f.0),
        λ t₂ w₂ is₂. let e : TwoTold t w ≡ TwoTold t₂ w₂ = sym is ∙ is₂ in (
          subst (λ (z : List Answered × List Answered). AreOfOne z.0 z.1)
              (λ j. (told_or t (e j), second_or w (e j))) (of_one r.storage_state.told t w f.0 f.1),
          λ j. (Told (told_or t (e j)), me.1),
        ),
      )

-- A history in which a worker has more requests than in another one of the same exchange begins
-- with that one, and the further requests stand behind it.
pub behind : (earlier later : List Answered) (w : ℕ) → AreOfOne earlier later
    → length (worker_share earlier w) < length (worker_share later w)
    → (rest : List Answered) × (later ≡ earlier ++ rest)
    × (worker_share later w ≡ worker_share earlier w ++ worker_share rest w)
behind earlier later w one more = ⊎_elim
    (λ (h : StartsWith earlier later). let few = starts_below (worker_share earlier w) (worker_share later w)
    (share_starts earlier later w h) in absurd (omega arith))
    (λ (h : StartsWith later earlier). (
      h.0,
      h.1,
      ap (λ (z : List Answered). worker_share z w) h.1 ∙ filter-append (is_of_worker w) earlier h.0,
    )) one
