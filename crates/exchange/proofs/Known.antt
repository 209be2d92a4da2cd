-- The steps, at a seat and at numbers that are known by equations.
use Rattle.std.proofs.Common.{◌≡◌, ◌≢◌, ℕ, suc, ◌+◌, ◌*◌, ◌<◌, List, [], ◌∷◌, ◌++◌, length, Option, Some, None, false, refl, sym, ap, ◌∙◌, subst}
use mathlib.Core.Option.{none, some}
use lib.ListN.{get_elem?}
use Rattle.atomic_table.proofs.Lists.{at_last}
use Rattle.exchange.specs.Ends.{LastLook}
use native.Mathlib.Nat.{add-mod_right}
use Rattle.atomic_table.specs.Table.{step, rest, Allows}
use Rattle.proto.specs.declared.limits.TheConstants.{WINDOW}
use Rattle.proto.specs.declared.history.Posted.{Posted}
use Rattle.proto.specs.declared.history.Answered.{Answered}
use Rattle.exchange.specs.declared.messages.LaneMessage.{LaneMessage}
use Rattle.exchange.specs.declared.messages.LaneMessage.TheVariants.{Ask, Bye, Answer}
use Rattle.exchange.specs.declared.messages.LaneKey.{LaneKey}
use Rattle.exchange.specs.declared.rule.WorkerState.{WorkerState}
use Rattle.exchange.specs.declared.rule.StorageState.{StorageState}
use Rattle.exchange.specs.declared.rule.LaneView.{LaneView}
use Rattle.exchange.specs.declared.rule.LaneView.TheVariants.{Worker, Storage}
use Rattle.exchange.specs.Beginnings.{posted_of}
use Rattle.proto.specs.History.{LegalBy, worker_share}
use Rattle.exchange.specs.Lanes.{SeatState, lane_slot, LanesHold}
use Rattle.exchange.specs.Steps.{holding_slot, placed_count, request_put, tells_post, bye_posted, done_loaded, slot_returned}
use Rattle.exchange.specs.Ends.{settled_count}
use Rattle.exchange.specs.Steps.{tells_answer, told_done, settle_bye}
use Rattle.exchange.proofs.WorkerSteps.{item_or, answer_or, puts_it, posts_it, posts_bye, loads_done, returns_it}
use Rattle.exchange.proofs.StorageSteps.{answers_it, tells_it, settles_bye_it}

-- a seat after an exchange of the slot in front
pub exchanged : (now was : SeatState) (v : LaneView) (q q' : ℕ) (x y : Option LaneMessage)
    → now ≡ (was.0, (q, y) ∷ rest was.1) → was ≡ (v, (q', x) ∷ [])
    → q ≡ q' → now ≡ (v, (q', y) ∷ [])
exchanged now was v q q' x y e was_is q_is = e ∙ (λ j. ((was_is j).0, (q_is j, y) ∷ rest (was_is j).1))

-- a seat that took its next slot and put a message there
pub stands_put : (was loaded now : SeatState) (c : WorkerState) (w k q : ℕ) (m : LaneMessage) → was ≡ (Worker c, [])
    → ((d : WorkerState) → was.0 ≡ Worker d → loaded ≡ (
      Worker (holding_slot d (suc (placed_count d))),
      (lane_slot d.worker (placed_count d), None) ∷ was.1,
    ))
    → now ≡ (loaded.0, (q, Some m) ∷ rest loaded.1) → q ≡ lane_slot w k → c.worker ≡ w → placed_count c ≡ k
    → now ≡ (Worker (holding_slot c (suc (placed_count c))), (lane_slot c.worker (placed_count c), Some m) ∷ [])
stands_put was loaded now c w k q m is begun put slot worker_is many = exchanged now loaded _ _ _ None (Some m) put
    (begun c (ap (λ (s : SeatState). s.0) is)
    ∙ (λ j. (Worker (holding_slot c (suc (placed_count c))), (lane_slot c.worker (placed_count c), None) ∷ (is j).1)))
    (slot ∙ (λ j. lane_slot (sym worker_is j) (sym many j)))

module _ (key : LaneKey) (n id : ℕ) (me : SeatState) where
  -- a request is put into its slot
  pub puts_as : (c : WorkerState) (p : Posted) (i : ℕ)
      → me ≡ (Worker c, (lane_slot c.worker (placed_count c), Some (Ask p)) ∷ []) → p.number ≡ suc (placed_count c)
      → c.slot_held ≡ suc (placed_count c) → c.said_bye ≡ false
      → Allows (LanesHold key) n id me i (λ x. x) (request_put (step n i 0 0 none) me)
  puts_as c p i is next slot_held open_ =
      subst (λ (z : SeatState). Allows (LanesHold key) n id z i (λ x. x) (request_put (step n i 0 0 none) z)) (sym is)
      (puts_it key n id c p i next slot_held open_)

  -- the store of posted
  pub posts_as : (c : WorkerState) (i new : ℕ) → me ≡ (Worker c, []) → i ≡ 16 * c.worker + 8 → new ≡ placed_count c
      → c.slot_held ≡ 0 → c.said_bye ≡ false
      → Allows (LanesHold key) n id me i (λ _. new) (λ _. tells_post (step n i new 0 none) me new)
  posts_as c i new is i_is new_is idle open_ =
      subst (λ (z : SeatState × ℕ × ℕ). Allows (LanesHold key) n id z.0 z.1 (λ _. z.2)
      (λ _. tells_post (step n z.1 z.2 0 none) z.0 z.2)) (λ j. (sym is j, sym i_is j, sym new_is j))
      (posts_it key n id c idle open_)

  -- the store of posted, with a bye
  pub posts_bye_as : (c : WorkerState) (i new : ℕ)
      → me ≡ (Worker c, (lane_slot c.worker (placed_count c), Some Bye) ∷ [])
      → i ≡ 16 * c.worker + 8 → new ≡ suc (placed_count c)
      → c.put ≡ [] → c.slot_held ≡ suc (placed_count c) → c.said_bye ≡ false → length c.back ≡ length c.sent
      → Allows (LanesHold key) n id me i (λ _. new) (λ _. bye_posted (step n i new 0 none) me new)
  posts_bye_as c i new is i_is new_is none_put slot_held open_ all = subst (λ (z : SeatState × ℕ
      × ℕ). Allows (LanesHold key) n id z.0 z.1 (λ _. z.2) (λ _. bye_posted (step n z.1 z.2 0 none) z.0 z.2))
      (λ j. (sym is j, sym i_is j, sym new_is j)) (posts_bye key n id c none_put slot_held open_ all)

  -- giving a slot back
  pub returns_as : (c : WorkerState) (i k q : ℕ) → me ≡ (Worker c, (q, None) ∷ []) → c.slot_held ≡ suc k
      → q ≡ lane_slot c.worker k
      → Allows (LanesHold key) n id me i (λ x. x) (slot_returned (step n i 0 0 none) me)
  returns_as c i k q is slot_held slot =
      subst (λ (z : SeatState). Allows (LanesHold key) n id z i (λ x. x) (slot_returned (step n i 0 0 none) z)) (sym is)
      (returns_it key n id c i k q slot_held slot)

  -- the store of done, with an answer
  pub answers_as : (d : StorageState) (w : ℕ) (p : Posted) (a : Answered) (i : ℕ)
      → me ≡ (Storage d, (lane_slot w (settled_count d.history d.byes w), Some (Answer a)) ∷ [])
      → d.holding ≡ Some (w, Ask p) → a.worker ≡ w → posted_of a ≡ p → w < key.workers
      → LegalBy d.terms (d.history ++ a ∷ [])
      → Allows (LanesHold key) n id me i (λ x. x) (tells_answer (step n i 0 0 none) me)
  answers_as d w p a i is held mine for inside legal = subst (λ (z : SeatState). Allows (LanesHold key) n id z i
      (λ x. x) (tells_answer (step n i 0 0 none) z)) (sym is)
      (answers_it key n id d w p a i held mine for inside legal)

  -- the answers to lane w are told of
  pub tells_as : (d : StorageState) (w i new : ℕ) → me.0 ≡ Storage d → i ≡ 16 * w + 16 → new ≡ settled_count d.history d.byes w
      → w < key.workers
      → ((j : ℕ) → j ≢ w → worker_share d.history j ≡ worker_share d.told j)
      → Allows (LanesHold key) n id me i (λ _. new) (λ _. told_done (step n i new 0 none) me new)
  tells_as d w i new is i_is new_is inside others = subst (λ (z : ℕ × ℕ). Allows (LanesHold key) n id me z.0 (λ _. z.1)
      (λ _. told_done (step n z.0 z.1 0 none) me z.1)) (λ j. (sym i_is j, sym new_is j))
      (tells_it key n id me d w is inside others)

  -- the store of done, after a bye
  pub settles_bye_as : (d : StorageState) (w : ℕ) (i new : ℕ)
      → me ≡ (Storage d, (lane_slot w (settled_count d.history d.byes w), None) ∷ [])
      → i ≡ 16 * w + 16
      → new ≡ suc (settled_count d.history d.byes w) → d.holding ≡ Some (w, Bye) → w < key.workers
      → Allows (LanesHold key) n id me i (λ _. new) (λ _. settle_bye (step n i new 0 none) me new)
  settles_bye_as d w i new is i_is new_is held inside = subst
      (λ (z : SeatState × ℕ × ℕ). Allows (LanesHold key) n id z.0 z.1 (λ _. z.2)
      (λ _. settle_bye (step n z.1 z.2 0 none) z.0 z.2))
      (λ j. (sym is j, sym i_is j, sym new_is j)) (settles_bye_it key n id d w held inside)

  -- the load of done
  pub loads_done_as : (c : WorkerState) (i : ℕ) → me.0 ≡ Worker c → i ≡ 16 * c.worker + 16 → c.slot_held ≡ 0
      → Allows (LanesHold key) n id me i (λ x. x) (done_loaded (step n i 0 0 none) me)
  loads_done_as c i is i_is idle = subst
      (λ (z : ℕ). Allows (LanesHold key) n id me z (λ x. x) (done_loaded (step n z 0 0 none) me)) (sym i_is)
      (loads_done key n id me c is idle)

-- the last of some looks stands among them
pub last_look_at : (looks : List (ℕ × ℕ)) (w n : ℕ) (l : LastLook looks w n)
    → get_elem? looks (length l.0) ≡ some (w, n)
last_look_at looks w n l = subst (λ (z : List (ℕ × ℕ)). get_elem? z (length l.0) ≡ some (w, n)) (sym l.1)
    (at_last l.0 (w, n) (length l.0) refl)

-- the slot in front of a seat that took it
pub in_front : (now : SeatState) (v : LaneView) (q q' : ℕ) (x : Option LaneMessage) (cs : List (ℕ × Option LaneMessage))
    → now ≡ (v, (q', x) ∷ cs) → q ≡ q'
    → now.1 ≡ (q, x) ∷ rest now.1
in_front now v q q' x cs e q_is = let f = ap (λ (m : SeatState). m.1) e in f ∙ (λ j. (sym q_is j, x) ∷ rest (sym f j))

-- a slot has one content
pub same_content : (cs : List (ℕ × Option LaneMessage)) (q : ℕ) (x y : Option LaneMessage)
    (ds : List (ℕ × Option LaneMessage)) → cs ≡ (q, x) ∷ ds → cs ≡ (q, y) ∷ rest cs → x ≡ y
same_content cs q x y ds e f = ap (λ (l : List (ℕ × Option LaneMessage)). item_or None l) (sym e ∙ f)

-- a slot has one answer
pub same_answer : (cs : List (ℕ × Option LaneMessage)) (q : ℕ) (a b : Answered) (ds : List (ℕ × Option LaneMessage))
    → cs ≡ (q, Some (Answer a)) ∷ ds
    → cs ≡ (q, Some (Answer b)) ∷ rest cs → a ≡ b
same_answer cs q a b ds e f = ap (λ (l : List (ℕ × Option LaneMessage)). answer_or a (item_or None l)) (sym e ∙ f)

-- with no other slot
pub alone : (now : SeatState) (v : LaneView) (q : ℕ) (x : Option LaneMessage) (cs : List (ℕ × Option LaneMessage))
    → now ≡ (v, (q, x) ∷ cs) → cs ≡ []
    → now ≡ (v, (q, x) ∷ [])
alone now v q x cs e none_ = e ∙ (λ j. (v, (q, x) ∷ none_ j))

-- a slot serves again a window of messages later
pub next_round : (w b : ℕ) → lane_slot w b ≡ lane_slot w (b + WINDOW)
next_round w b = ap (λ (z : ℕ). WINDOW * w + z) (sym (add-mod_right b WINDOW))
