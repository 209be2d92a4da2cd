-- Each step of storage keeps the rule, and so do the makings and the meetings.
use Rattle.std.proofs.Common.{◌≡◌, ◌≢◌, ◌⊎◌, ℕ, zero, suc, ◌+◌, ◌*◌, ◌<◌, ◌≤◌, List, [], ◌∷◌, ◌++◌, map, length}
use Rattle.std.proofs.Common.{get_or, set, replicate, Option, Some, None}
use Rattle.std.proofs.Common.{Bool, true, refl, sym, ap, ◌∙◌, subst, inl, inr, ⊎_elim, arith, length-set}
use Rattle.std.proofs.Common.{get_or-set_other, get_or-set_same}
use Rattle.std.proofs.Common.{le_refl, eq-eqb, ne_eqb}
use mathlib.Core.Logic.{dite}
use mathlib.Core.Option.{none, some, some-injective, some-ne-none}
use mathlib.Core.Option as maybe
use native.Mathlib.Decide.{ℕ_discrete}
use lib.ListN.{get_elem?, length-map, length-replicate}
use lib.Seq.{set-get_or}
use Rattle.atomic_table.specs.Table.{step, keeps, takes, gives, Allows, Splits, Joins, opening}
use Rattle.atomic_table.proofs.Lists.{at_set, set_else, at_longer}
use Rattle.proto.specs.declared.limits.TheConstants.{WINDOW}
use Rattle.proto.specs.declared.history.Posted.{Posted}
use Rattle.proto.specs.declared.history.Answered.{Answered}
use Rattle.exchange.specs.declared.messages.LaneMessage.{LaneMessage}
use Rattle.exchange.specs.declared.messages.LaneMessage.TheVariants.{Ask, Bye, Answer}
use Rattle.exchange.specs.declared.messages.LaneKey.{LaneKey}
use Rattle.exchange.specs.declared.rule.WorkerState.{WorkerState}
use Rattle.exchange.specs.declared.rule.StorageState.{StorageState}
use Rattle.exchange.specs.declared.rule.LaneView.{LaneView}
use Rattle.exchange.specs.declared.rule.LaneView.TheVariants.{Nobody, Worker, Storage, Comparing}
use Rattle.exchange.specs.Beginnings.{StartsWith, posted_of}
use Rattle.proto.proofs.HistoryLemmas.{legal_none}
use Rattle.proto.specs.History.{worker_share, LegalBy}
use Rattle.exchange.specs.Lanes.{UnheldSlots, SeatState, messages, open_at, count_of, lane_slot, at_home, IsLaneOfTable, EndsAgree}
use Rattle.exchange.specs.Lanes.{IsViewOf, first_worker_state}
use Rattle.exchange.specs.Lanes.{storage_state_with, LanesHold, opening_view, worker_seated}
use Rattle.proto.specs.Counts.{times}
use Rattle.exchange.specs.Ends.{settled_count}
use Rattle.exchange.specs.Steps.{looked_at, with_message_held, SeenTells}
use Rattle.exchange.specs.Steps.{with_held_answered}
use Rattle.exchange.specs.Steps.{all_told, bye_settled, posted_loaded, tells_answer}
use Rattle.exchange.specs.Steps.{seen_opened, told_done, settle_bye, with_one_more}
use Rattle.exchange.specs.Steps.{new_worker, comparing, tells_comparison}
use Rattle.exchange.proofs.Lists.{at_below, at_end, at_some, starts_below, starts_longer, starts_self, starts_trans}
use Rattle.exchange.proofs.Lane.{SentAt, opens, replies, tells, settles_bye, sent_at, ask_at}
use Rattle.exchange.proofs.Table.{slot_below, slot_else, slot_here, slot_other, lane_same, St, storage_moves}
use Rattle.exchange.proofs.Table.{apart_set, apart_more, apart_one, fits_later, made_before}
use Rattle.exchange.proofs.WorkerSteps.{worker_state_or, storage_state_or, item_or, answer_or, lane_or, loaded}
use Rattle.std.proofs.Common.{cond}
use Rattle.proto.proofs.CountLemmas.{share_mine, share_other}

-- one more bye of this worker
pub times_mine : (w : ℕ) (xs : List ℕ) → times w (w ∷ xs) ≡ suc (times w xs)
times_mine w xs = ap (λ (b : Bool). cond b 1 0 + times w xs) (eq-eqb w w refl) ∙ (omega arith)

-- the byes of another worker stay
pub times_other : (w j : ℕ) (xs : List ℕ) → w ≢ j → times j (w ∷ xs) ≡ times j xs
times_other w j xs e = ap (λ (b : Bool). cond b 1 0 + times j xs) (ne_eqb w j e) ∙ (omega arith)

-- what is held is this worker's
pub open_mine : (w : ℕ) (x : LaneMessage) → open_at (Some (w, x)) w ≡ some x
open_mine w x = ap (λ (b : Bool). let o : maybe.Option LaneMessage = cond b (some x) none in o) (eq-eqb w w refl)

-- nothing is held of another worker
pub open_other : (w j : ℕ) (x : LaneMessage) → w ≢ j → open_at (Some (w, x)) j ≡ none
open_other w j x e = ap (λ (b : Bool). let o : maybe.Option LaneMessage = cond b (some x) none in o) (ne_eqb w j e)

module _ (key : LaneKey) where
  -- the view of storage's seat is what storage knows
  storage_state_of : (s : St) (r : LanesHold key s) (id : ℕ) (v : LaneView) (d : StorageState)
      → get_elem? s.views id ≡ some v → v ≡ Storage d
      → (id ≡ 0) × (r.storage_state ≡ d)
  storage_state_of s r id v d at is = r.each_view id (Storage d) (at ∙ ap (λ (z : LaneView). some z) is)

  -- the lane of a worker, by what storage knows
  lane_at : (s : St) (r : LanesHold key s) (d : StorageState) (w : ℕ) → r.storage_state ≡ d → w < key.workers
      → IsLaneOfTable s.words s.homes d (r.states w) w
  lane_at s r d w is inside = subst (λ (z : StorageState). IsLaneOfTable s.words s.homes z (r.states w) w) is
      (r.each_lane w inside)

  -- the history is legal
  legal_of : (s : St) (r : LanesHold key s) (d : StorageState) → r.storage_state ≡ d → LegalBy key.terms d.history
  legal_of s r d is = subst (λ (z : StorageState). LegalBy key.terms z.history) is r.legal

  -- what storage told of is legal
  legal_told_of : (s : St) (r : LanesHold key s) (d : StorageState) → r.storage_state ≡ d → LegalBy key.terms d.told
  legal_told_of s r d is = subst (λ (z : StorageState). LegalBy key.terms z.told) is r.legal_told

  -- what storage told of is a beginning of its history
  first_of : (s : St) (r : LanesHold key s) (d : StorageState) → r.storage_state ≡ d → StartsWith d.history d.told
  first_of s r d is = subst (λ (z : StorageState). StartsWith z.history z.told) is r.told_first

  -- what the worker took back is no more than what was answered
  back_low : (words : List ℕ) (homes : UnheldSlots) (c : WorkerState) (d : StorageState) (w : ℕ) → IsLaneOfTable words homes d c w
      → length c.back ≤ length (worker_share d.history w)
  back_low words homes c d w lane = starts_below (worker_share d.history w) c.back
      (starts_trans (worker_share d.history w) (worker_share d.told w) c.back lane.told_is lane.known)

  -- no Bye was taken of a lane whose next message is a request
  next_number : (words : List ℕ) (homes : UnheldSlots) (c : WorkerState) (d : StorageState) (w : ℕ) → IsLaneOfTable words homes d c w
      → (p : Posted)
      → get_elem? c.sent (settled_count d.history d.byes w) ≡ some p → p.number ≡ suc (length (worker_share d.history w))
  next_number words homes c d w lane p at = let byes : ℕ = times w d.byes in
      let n : ℕ = length (worker_share d.history w) in
      let below : n + byes < length c.sent = at_below c.sent (settled_count d.history d.byes w) p at in
      let low : length c.back ≤ n = back_low words homes c d w lane in
      let none_gone : byes ≡ 0 = dite (ℕ_discrete byes 0) (λ z. z)
      (λ nz. let q : length c.back ≡ length c.sent = lane.all_back (lane.leaves (omega arith)) in
      absurd (omega arith)) in
      lane.numbered (settled_count d.history d.byes w) p (at_longer c.sent c.put (settled_count d.history d.byes w) p at)
      ∙ (let g : suc (n + byes) ≡ suc n = omega arith in g)

  -- no Bye was taken of a lane that has a further message
  no_bye : (words : List ℕ) (homes : UnheldSlots) (c : WorkerState) (d : StorageState) (w : ℕ) → IsLaneOfTable words homes d c w
      → (m : LaneMessage)
      → SentAt c.sent c.said_bye (settled_count d.history d.byes w) m → times w d.byes ≡ 0
  no_bye words homes c d w lane m at = let byes : ℕ = times w d.byes in let n : ℕ = length (worker_share d.history w) in
      let low : length c.back ≤ n = back_low words homes c d w lane in let high : n ≤ length c.sent = lane.answered in
      dite (ℕ_discrete byes 0) (λ z. z)
      (λ nz. let q : length c.back ≡ length c.sent = lane.all_back (lane.leaves (omega arith)) in
      ⊎_elim (λ (h : (p : Posted) × (m ≡ Ask p) × (get_elem? c.sent (settled_count d.history d.byes w) ≡ some p)).
      let below : n + byes < length c.sent = at_below c.sent (settled_count d.history d.byes w) h.0 h.2 in absurd (omega arith))
      (λ (h : (m ≡ Bye) × (c.said_bye ≡ true) × (settled_count d.history d.byes w ≡ length c.sent)). let e : n + byes
      ≡ length c.sent = h.2 in absurd (omega arith)) at)

  -- a look that named no more than the lane's messages may be one more of the looks
  one_more_look : (d : StorageState) (w x : ℕ) (states : ℕ → WorkerState)
      → (w < key.workers → x ≤ length (messages (states w)))
      → (k j n : ℕ) → get_elem? (d.looks ++ (w, x) ∷ []) k ≡ some (j, n) → (get_elem? d.looks k ≡ some (j, n))
      ⊎ (j < key.workers → n ≤ length (messages (states j)))
  one_more_look d w x states few k j n e = ⊎_elim (λ h. inl h) (λ (h : (k ≡ length d.looks)
      × (◌≡◌ {A = ℕ × ℕ} (w, x) (j, n))). inr
      (subst (λ (z : ℕ × ℕ). z.0 < key.workers → z.1 ≤ length (messages (states z.0))) h.1 few))
      (at_end d.looks (w, x) k (j, n) e)

  -- the load of posted
  pub loads_posted : (n id : ℕ) (me : SeatState) (d : StorageState) (w : ℕ) → me.0 ≡ Storage d → w < key.workers
      → Allows (LanesHold key) n id me (16 * w + 8) (λ x. x) (posted_loaded (step n (16 * w + 8) 0 0 none) me)
  loads_posted n id me d w is inside s r _ at _ = let i : ℕ = 16 * w + 8 in let x : ℕ = get_or s.words i 0 in
      let f = storage_state_of s r id me.0 d at is in let lane = lane_at s r d w f.1 inside in
      let c : WorkerState = r.states w in let x_is : x ≡ length (messages c) = lane.posted_is in (
        Storage (looked_at d w x),
        keeps,
        tt,
        storage_moves key s r id d (looked_at d w x) w (set s.words i x) s.homes (at ∙ ap (λ (z : LaneView). some z) is)
            refl refl (legal_of s r d f.1) (legal_told_of s r d f.1) (first_of s r d f.1) (starts_self d.told)
            (length-set s.words i x) refl
            (λ j _. (loaded key s.words i (16 * j + 8), loaded key s.words i (16 * j + 16), λ _. refl))
            (λ _ _. (refl, refl, refl, refl))
            (λ _. lane_same c _ _ _ _ _ _ _ _ _ _ _ _ (at_home s.homes w)
            (at_home s.homes w) refl refl refl refl (loaded key s.words i (16 * w + 8))
            (loaded key s.words i (16 * w + 16)) (λ _. refl) lane)
            (one_more_look d w x r.states (λ _. let h : x ≤ length (messages c) = omega arith in h)),
        λ d₂ w₂ is₂ word. let same : 16 * w + 8 ≡ 16 * w₂ + 8 = word in let e : w ≡ w₂ = omega arith in
            λ j. (Storage (looked_at (storage_state_or d ((sym is ∙ is₂) j)) (e j) x), me.1),
      )

  -- storage takes a message that a look named
  pub opens_seen : (n id : ℕ) (me : SeatState) (d : StorageState) (w k p : ℕ) → me.0 ≡ Storage d → d.holding ≡ None
      → w < key.workers
      → get_elem? d.looks k ≡ some (w, p) → settled_count d.history d.byes w < p
      → Allows (LanesHold key) n id me (16 * w + 16) (λ x. x) (seen_opened (step n (16 * w + 16) 0 0 none) me)
  opens_seen n id me d w k p is idle inside look more s r _ at _ = let i : ℕ = 16 * w + 16 in
      let x : ℕ = get_or s.words i 0 in
      let f = storage_state_of s r id me.0 d at is in let lane = lane_at s r d w f.1 inside in
      let t : ℕ = settled_count d.history d.byes w in let c : WorkerState = r.states w in
      let named : p ≤ length (messages c) =
      r.looked k w p (subst (λ (z : StorageState). get_elem? z.looks k ≡ some (w, p)) (sym f.1) look) inside in
      let more' : t < p = more in
      let none_open : open_at d.holding w ≡ none = ap (λ z. open_at z w) idle in
      let none_held : count_of (open_at d.holding w) ≡ 0 = ap count_of none_open in
      let next = at_some (messages c) t (let h : t < length (messages c) = omega arith in h) in
      let y : LaneMessage = next.0 in let sent = sent_at c.sent c.said_bye t y next.1 in
      let d' : StorageState = with_message_held d w y in
      let homes' : UnheldSlots = set s.homes (lane_slot w t) none in (
        Storage d',
        takes (lane_slot w t) (Some y),
        lane.requests t y (let h : length (worker_share d.history w) + times w d.byes + count_of (open_at d.holding w)
            ≤ t = omega arith in h) next.1,
        storage_moves key s r id d d' w (set s.words i x) homes' (at ∙ ap (λ (z : LaneView). some z) is) refl refl
            (legal_of s r d f.1) (legal_told_of s r d f.1) (first_of s r d f.1) (starts_self d.told)
            (length-set s.words i x) (length-set s.homes (lane_slot w t) none)
            (λ j other. (
              loaded key s.words i (16 * j + 8),
              loaded key s.words i (16 * j + 16),
              λ k. slot_other s.homes w t none j k other,
            ))
            (λ j other. (refl, refl, refl, open_other w j y (λ e. other (sym e)) ∙ sym (ap (λ z. open_at z j) idle)))
            (λ _. lane_same c _ _ _ _ _ _ _ _ _ _ _ _ (at_home homes' w)
            (at_home homes' w) refl refl refl (open_mine w y) (loaded key s.words i (16 * w + 8))
            (loaded key s.words i (16 * w + 16)) (λ _. refl)
            (opens c _ _ _ _ _ _ (at_home s.homes w) lane (at_home homes' w) y none_open next.1
            (slot_else s.homes w t none))) (λ _ _ _ e. inl e),
        λ d₂ w₂ k₂ p₂ is₂ word look₂ more₂. let same : 16 * w + 16 ≡ 16 * w₂ + 16 = word in let e : w ≡ w₂ = omega arith in
            subst (λ (z : StorageState × ℕ). SeenTells z.0 z.1 me.1 (Storage d', (lane_slot w t, Some y) ∷ me.1))
            (λ j. (storage_state_or d ((sym is ∙ is₂) j), e j)) (
              y,
              (
                no_bye s.words s.homes c d w lane y sent,
                ⊎_elim (λ (h : (p : Posted) × (y ≡ Ask p) × (get_elem? c.sent t ≡ some p)). inl
                    (h.0, h.1, next_number s.words s.homes c d w lane h.0 h.2))
                    (λ (h : (y ≡ Bye) × (c.said_bye ≡ true) × (t ≡ length c.sent)). inr h.0) sent,
              ),
              refl,
            ),
      )

  -- the store of done, with an answer
  pub answers_it : (n id : ℕ) (d : StorageState) (w : ℕ) (p : Posted) (a : Answered) (i : ℕ)
      → d.holding ≡ Some (w, Ask p) → a.worker ≡ w → posted_of a ≡ p
      → w < key.workers → LegalBy d.terms (d.history ++ a ∷ [])
      → Allows (LanesHold key) n id (Storage d, (lane_slot w (settled_count d.history d.byes w), Some (Answer a)) ∷ []) i (λ x. x)
      (tells_answer (step n i 0 0 none) (Storage d, (lane_slot w (settled_count d.history d.byes w), Some (Answer a)) ∷ []))
  answers_it n id d w p a i held mine for inside legal s r _ at _ = let t : ℕ = settled_count d.history d.byes w in
      let x : ℕ = get_or s.words i 0 in
      let f = r.each_view id (Storage d) at in let lane = lane_at s r d w f.1 inside in let deep = r.deep in
      let c : WorkerState = r.states w in
      let d' : StorageState = with_held_answered d a in let v : Option LaneMessage = Some (Answer a) in
      let near : lane_slot w t < length s.homes =
      subst (λ (z : ℕ). lane_slot w t < z) (sym deep) (slot_below key.workers w t inside) in
      let homes' : UnheldSlots = set s.homes (lane_slot w t) (some v) in let words' : List ℕ = set s.words i x in
      let same_terms : d.terms ≡ key.terms = ap (λ (z : StorageState). z.terms) (sym f.1) ∙ r.same_terms in
      let open_is : open_at d.holding w ≡ some (Ask p) = ap (λ z. open_at z w) held ∙ open_mine w (Ask p) in (
        Storage d',
        gives,
        tt,
        storage_moves key s r id d d' w words' homes' at
            refl refl (subst (λ z. LegalBy z (d.history ++ a ∷ [])) same_terms legal) (legal_told_of s r d f.1)
            (starts_longer d.history d.told (a ∷ []) (first_of s r d f.1)) (starts_self d.told)
            (length-set s.words i x) (length-set s.homes (lane_slot w t) (some v))
            (λ j other. (
              loaded key s.words i (16 * j + 8),
              loaded key s.words i (16 * j + 16),
              λ k. slot_other s.homes w t (some v) j k other,
            ))
            (λ j other. (
              share_other d.history a j (λ e. other (sym e ∙ mine)),
              refl,
              refl,
              sym
                  (ap (λ z. open_at z j) held ∙ open_other w j (Ask p) (λ e. other (sym e))),
            ))
            (λ _. lane_same c _ _ _ _ _ _ _ _ _ _ _ _ (at_home homes' w) (at_home homes' w)
            (share_mine d.history a w mine) refl refl refl
            (loaded key s.words i (16 * w + 8))
            (loaded key s.words i (16 * w + 16)) (λ _. refl)
            (replies c _ _ _ _ _ _ (at_home s.homes w) lane (at_home homes' w) p a open_is for
            (slot_here s.homes w t (some v) near)
            (slot_else s.homes w t (some v)))) (λ _ _ _ e. inl e),
        λ d₂ a₂ k₂ e. λ j. (
          Storage (with_held_answered (storage_state_or d (e j).0)
              (answer_or a (item_or v (e j).1))),
          [],
        ),
      )

  -- the store of done, for all answers of the lane
  pub tells_it : (n id : ℕ) (me : SeatState) (d : StorageState) (w : ℕ) → me.0 ≡ Storage d → w < key.workers
      → ((j : ℕ) → j ≢ w → worker_share d.history j ≡ worker_share d.told j)
      → Allows (LanesHold key) n id me (16 * w + 16) (λ _. settled_count d.history d.byes w)
      (λ _. told_done (step n (16 * w + 16) (settled_count d.history d.byes w) 0 none) me (settled_count d.history d.byes w))
  tells_it n id me d w is inside others s r _ at _ = let t : ℕ = settled_count d.history d.byes w in let i : ℕ = 16 * w + 16 in
      let at' : get_elem? s.views id ≡ some (Storage d) = at ∙ ap (λ (z : LaneView). some z) is in
      let f = r.each_view id (Storage d) at' in
      let lane = lane_at s r d w f.1 inside in let wide = r.wide in let c : WorkerState = r.states w in
      let d' : StorageState = all_told d in let words' : List ℕ = set s.words i t in (
        Storage d',
        keeps,
        tt,
        storage_moves key s r id d d' w words' s.homes at' refl refl (legal_of s r d f.1) (legal_of s r d f.1)
            (starts_self d.history)
            (first_of s r d f.1) (length-set s.words i t) refl
            (λ j other. (
              get_or-set_other s.words i (16 * j + 8) t 0 (λ e. omega arith),
              get_or-set_other s.words i (16 * j + 16) t 0
                  (λ e. other (omega arith)),
              λ k. refl,
            ))
            (λ j other. (refl, others j other, refl, refl))
            (λ _. lane_same c _ _ _ _ _ _ _ _ _ _ _ _ (at_home s.homes w) (at_home s.homes w) refl refl refl refl
            (get_or-set_other s.words i (16 * w + 8) t 0 (λ e. omega arith))
            (get_or-set_same s.words i t 0 (omega arith)) (λ _. refl)
            (tells c _ _ _ _ _ _ (at_home s.homes w) lane)) (λ _ _ _ e. inl e),
        λ d₂ is₂. λ j. (Storage (all_told (storage_state_or d ((sym is ∙ is₂) j))), me.1),
      )

  -- the store of done, after a Bye
  pub settles_bye_it : (n id : ℕ) (d : StorageState) (w : ℕ) → d.holding ≡ Some (w, Bye) → w < key.workers
      → Allows (LanesHold key) n id (Storage d, (lane_slot w (settled_count d.history d.byes w), None) ∷ []) (16 * w + 16)
      (λ _. suc (settled_count d.history d.byes w))
      (λ _. settle_bye (step n (16 * w + 16) (suc (settled_count d.history d.byes w)) 0 none)
      (Storage d, (lane_slot w (settled_count d.history d.byes w), None) ∷ []) (suc (settled_count d.history d.byes w)))
  settles_bye_it n id d w held inside s r _ at _ = let t : ℕ = settled_count d.history d.byes w in let i : ℕ = 16 * w + 16 in
      let f = r.each_view id (Storage d) at in
      let lane = lane_at s r d w f.1 inside in let wide = r.wide in let deep = r.deep in
      let c : WorkerState = r.states w in
      let d' : StorageState = bye_settled d w in let v : Option LaneMessage = None in
      let homes' : UnheldSlots = set s.homes (lane_slot w t) (some v) in let words' : List ℕ = set s.words i (suc t) in
      let open_is : open_at d.holding w ≡ some Bye = ap (λ z. open_at z w) held ∙ open_mine w Bye in (
        Storage d',
        gives,
        tt,
        storage_moves key s r id d d' w words' homes' at refl refl (legal_of s r d f.1) (legal_told_of s r d f.1)
            (first_of s r d f.1)
            (starts_self d.told) (length-set s.words i (suc t))
            (length-set s.homes (lane_slot w t) (some v))
            (λ j other. (
              get_or-set_other s.words i (16 * j + 8) (suc t) 0 (λ e. omega arith),
              get_or-set_other s.words i (16 * j + 16) (suc t) 0
                  (λ e. other (omega arith)),
              λ k. slot_other s.homes w t (some v) j k other,
            ))
            (λ j other. (
              refl,
              refl,
              times_other w j d.byes (λ e. other (sym e)),
              sym (ap (λ z. open_at z j) held ∙ open_other w j Bye (λ e. other (sym e))),
            ))
            (λ _. lane_same c _ _ _ _ _ _ _ _ _ _ _ _ (at_home homes' w)
            (at_home homes' w) refl refl (times_mine w d.byes) refl
            (get_or-set_other s.words i (16 * w + 8) (suc t) 0 (λ e. omega arith))
            (get_or-set_same s.words i (suc t) 0 (omega arith)) (λ _. refl)
            (settles_bye c _ _ _ _ _ _ (at_home s.homes w) lane (at_home homes' w) open_is
            (slot_else s.homes w t (some v)))) (λ _ _ _ e. inl e),
        λ d₂ w₂ k₂ e held₂. λ j. (
          Storage (bye_settled (storage_state_or d (e j).0)
              (lane_or w ((sym held ∙ (ap (λ (m : SeatState). (storage_state_or d m.0).holding) e ∙ held₂)) j))),
          [],
        ),
      )

  -- storage makes a worker
  pub makes : (id : ℕ) (v : LaneView) (d : StorageState) → v ≡ Storage d → d.made < key.workers
      → Splits (LanesHold key) id v (with_one_more v) (new_worker v)
  makes id v d is room = subst (λ (z : LaneView). Splits (LanesHold key) id z (with_one_more z) (new_worker z)) (sym is)
      (λ s r at.
      let f = r.each_view id (Storage d) at in let d' : StorageState = record d { made = suc d.made } in
      let c : WorkerState = first_worker_state d.terms d.made in let w : LaneView = Storage d' in
      let is' : r.storage_state ≡ d = f.1 in
      let same_terms : d.terms ≡ key.terms = ap (λ (z : StorageState). z.terms) (sym is') ∙ r.same_terms in
      record {
        states = r.states;
        storage_state = d';
        legal = legal_of s r d is';
        legal_told = legal_told_of s r d is';
        told_first = first_of s r d is';
        same_terms = same_terms;
        wide = r.wide;
        deep = r.deep;
        each_lane = λ j l. lane_at s r d j is' l;
        each_seen = λ j l. let was = r.each_seen j l in
            (subst (λ (z : StorageState). StartsWith z.told (r.states j).seen) is' was.0, was.1, was.2);
        each_view = λ j u e. ⊎_elim
            (λ (h : get_elem? (set s.views id w) j ≡ some u). ⊎_elim
            (λ (x : (j ≡ id) × (w ≡ u)). subst (λ (z : ℕ × LaneView). IsViewOf key r.states d' z.0 z.1)
            (λ i. (sym x.0 i, x.1 i)) (f.0, refl))
            (λ (x : (j ≢ id) × (get_elem? s.views j ≡ some u)). fits_later key r.states d d' j u
            (λ e. x.0 (e ∙ sym f.0)) (let g : d.made ≤ suc d.made = omega arith in g) (starts_self d.told)
            (subst (λ (z : StorageState). IsViewOf key r.states z j u) is' (r.each_view j u x.1)))
            (at_set s.views id j w u h))
            (λ (h : (j ≡ length (set s.views id w)) × (Worker c ≡ u)).
            subst (λ (z : LaneView). IsViewOf key r.states d' j z) h.1 (
              (let g : d.made < suc d.made = omega arith in g),
              r.later d.made (subst (λ (z : StorageState). z.made ≤ d.made) (sym is') (le_refl d.made))
                  ∙ ap (λ z. first_worker_state z d.made) (sym same_terms),
              room,
            ))
            (at_end (set s.views id w) (Worker c) j u e);
        apart = apart_more (set s.views id w) (Worker c)
            (λ j n u at_j is_u is_c. ⊎_elim
            (λ (x : (j ≡ id) × (w ≡ u)). some-ne-none n (sym (ap worker_seated x.1 ∙ is_u)))
            (λ (x : (j ≢ id) × (get_elem? s.views j ≡ some u)).
            let low : n < d.made = subst (λ (z : StorageState). n < z.made) is'
            (made_before key r.states r.storage_state j n u is_u (r.each_view j u x.1)) in
            let same : d.made ≡ n = some-injective d.made n is_c in absurd (omega arith))
            (at_set s.views id j w u at_j))
            (apart_set s.views id (Storage d) w at (λ n e. absurd (some-ne-none n (sym e))) r.apart);
        looked = λ k j n e l. r.looked k j n
            (subst (λ (z : StorageState). get_elem? z.looks k ≡ some (j, n)) (sym is') e) l;
        later = λ j l. r.later j (subst (λ (z : StorageState). z.made ≤ j) (sym is')
            (let l' : suc d.made ≤ j = l in let g : d.made ≤ j = omega arith in g));
      })

  -- storage joins a worker
  pub joins : (id other : ℕ) (v u : LaneView) (d : StorageState) (c : WorkerState) → v ≡ Storage d → u ≡ Worker c
      → Joins (LanesHold key) id v other u (comparing v u) Nobody
  joins id other v u d c is is' = subst
      (λ (z : LaneView × LaneView). Joins (LanesHold key) id z.0 other z.1 (comparing z.0 z.1) Nobody)
      (λ i. (sym is i, sym is' i)) (λ s r at apart there.
      let f = r.each_view id (Storage d) at in let both : LaneView = Comparing d c in
      let vs : List LaneView = set s.views id both in
      let same : r.storage_state ≡ d = f.1 in
      let there' : get_elem? s.views other ≡ some (Worker c) = sym (set_else s.views id other both apart) ∙ there in
      let g = r.each_view other (Worker c) there' in
      let lane = subst (λ (z : WorkerState). IsLaneOfTable s.words s.homes d z c.worker) g.1
      (lane_at s r d c.worker same g.2) in
      let seen = subst (λ (z : WorkerState). StartsWith d.history z.seen) g.1
      (starts_trans d.history d.told (r.states c.worker).seen (first_of s r d same)
      (subst (λ (z : StorageState). StartsWith z.told (r.states c.worker).seen) same (r.each_seen c.worker g.2).0)) in
      let known = subst (λ (z : WorkerState). z.terms ≡ key.terms) g.1 (r.each_seen c.worker g.2).1 in
      let same_terms : d.terms ≡ key.terms = ap (λ (z : StorageState). z.terms) (sym same) ∙ r.same_terms in
      let agree : EndsAgree d c = record {
        legal = subst (λ z. LegalBy z d.history) (sym same_terms) (legal_of s r d same);
        same_terms = known ∙ sym same_terms;
        told = seen;
        back = starts_trans (worker_share d.history c.worker)
            (worker_share d.told c.worker) c.back lane.told_is lane.known;
        sent = lane.asked_is;
        answered = lane.answered;
        held = λ p e. held_is s.words s.homes c d p lane e;
        all_back = lane.all_back;
        leaves = lane.leaves;
      } in
      let at_w : (j : ℕ) (x : LaneView) → get_elem? vs j ≡ some x → IsViewOf key r.states r.storage_state j x =
      λ j x e. ⊎_elim
      (λ (h : (j ≡ id) × (both ≡ x)). subst (λ (z : ℕ × LaneView). IsViewOf key r.states r.storage_state z.0 z.1)
      (λ i. (sym h.0 i, h.1 i)) (f.0, same, agree))
      (λ (h : (j ≢ id) × (get_elem? s.views j ≡ some x)). r.each_view j x h.1) (at_set s.views id j both x e) in
      record {
        states = r.states;
        storage_state = r.storage_state;
        legal = r.legal;
        legal_told = r.legal_told;
        told_first = r.told_first;
        same_terms = r.same_terms;
        wide = r.wide;
        deep = r.deep;
        each_lane = r.each_lane;
        each_seen = r.each_seen;
        each_view = λ j x e. ⊎_elim
            (λ (h : (j ≡ other) × (Nobody ≡ x)). subst (λ (z : LaneView). IsViewOf key r.states r.storage_state j z) h.1 tt)
            (λ (h : (j ≢ other) × (get_elem? vs j ≡ some x)). at_w j x h.1) (at_set vs other j Nobody x e);
        apart = apart_set vs other (Worker c) Nobody there (λ n e. absurd (some-ne-none n (sym e)))
            (apart_set s.views id (Storage d) both at (λ n e. absurd (some-ne-none n (sym e))) r.apart);
        looked = r.looked;
        later = r.later;
      })
    where
      held_is : (words : List ℕ) (homes : UnheldSlots) (c : WorkerState) (d : StorageState) (p : Posted)
          → IsLaneOfTable words homes d c c.worker
          → d.holding ≡ Some (c.worker, Ask p) → get_elem? c.sent (length (worker_share d.history c.worker)) ≡ some p
      held_is words homes c d p lane e = let open_is : open_at d.holding c.worker ≡ some (Ask p) =
          ap (λ z. open_at z c.worker) e
          ∙ open_mine c.worker (Ask p) in let byes : ℕ = times c.worker d.byes in
          let n : ℕ = length (worker_share d.history c.worker) in
          let item = ask_at c.sent c.said_bye (n + byes) p (lane.open_is (Ask p) open_is) in
          let below : n + byes < length c.sent = at_below c.sent (n + byes) p item in
          let low : length c.back ≤ n = back_low words homes c d c.worker lane in
          let none_gone : byes ≡ 0 = dite (ℕ_discrete byes 0) (λ z. z)
          (λ nz. let q : length c.back ≡ length c.sent = lane.all_back (lane.leaves (omega arith)) in
          absurd (omega arith)) in
          subst (λ (z : ℕ). get_elem? c.sent z ≡ some p) (let g : n + byes ≡ n = omega arith in g) item

  -- what they found
  pub compares : (n id : ℕ) (me : SeatState) (d : StorageState) (c : WorkerState) (i : ℕ) → me.0 ≡ Comparing d c
      → Allows (LanesHold key) n id me i (λ x. x) (tells_comparison (step n i 0 0 none) me)
  compares n id me d c i is s r _ at _ = let at' : get_elem? s.views id ≡ some (Comparing d c) =
      at ∙ ap (λ (z : LaneView). some z) is in
      let f = r.each_view id (Comparing d c) at' in let w : LaneView = Storage d in (
        w,
        keeps,
        tt,
        subst (λ (ws : List ℕ). LanesHold key record { words = ws; homes = s.homes; views = set s.views id w })
            (sym (set-get_or s.words i 0)) record {
              states = r.states;
              storage_state = r.storage_state;
              legal = r.legal;
              legal_told = r.legal_told;
              told_first = r.told_first;
              same_terms = r.same_terms;
              wide = r.wide;
              deep = r.deep;
              each_lane = r.each_lane;
              each_seen = r.each_seen;
              each_view = λ j u e. ⊎_elim
                  (λ (x : (j ≡ id) × (w ≡ u)). subst (λ (z : ℕ × LaneView). IsViewOf key r.states r.storage_state z.0 z.1)
                  (λ i. (sym x.0 i, x.1 i)) (f.0, f.1))
                  (λ (x : (j ≢ id) × (get_elem? s.views j ≡ some u)). r.each_view j u x.1) (at_set s.views id j w u e);
              apart = apart_set s.views id (Comparing d c) w at' (λ n e. absurd (some-ne-none n (sym e))) r.apart;
              looked = r.looked;
              later = r.later;
            },
        λ d₂ c₂ is₂. let e : Comparing d c ≡ Comparing d₂ c₂ = sym is
            ∙ is₂ in (
              subst (λ (z : StorageState × WorkerState). EndsAgree z.0 z.1)
                  (λ j. (storage_state_or d (e j), worker_state_or c (e j))) f.2,
              λ j.
                  (Storage (storage_state_or d (e j)), me.1),
            ),
      )

  -- all slots are empty at first
  all_vacant : (n i : ℕ) (a : Option LaneMessage) → i < n → get_elem? (map some (replicate n a)) i ≡ some (some a)
  all_vacant zero i a h = absurd (omega arith)
  all_vacant (suc n) zero a h = refl
  all_vacant (suc n) (suc i) a h = all_vacant n i a (omega arith)

  -- the table at the start
  pub starts : (words : List ℕ) (slots : ℕ) → length words ≡ 16 * key.workers + 8 → slots ≡ WINDOW * key.workers
      → ((i : ℕ) → get_or words i 0 ≡ 0)
      → LanesHold key (opening words (replicate slots None) (opening_view key))
  starts words slots wide deep blank = record {
    states = first_worker_state key.terms;
    storage_state = storage_state_with key.terms 0;
    legal = legal_none _;
    legal_told = legal_none _;
    told_first = ([], refl);
    same_terms = refl;
    wide = wide;
    deep = length-map (replicate slots None) (λ (x : Option LaneMessage). some x)
        ∙ (length-replicate slots None ∙ deep);
    each_lane = λ w l. record {
      posted_is = blank (16 * w + 8);
      done_is = blank (16 * w + 16);
      order = (
        let a = blank (16 * w + 8) in let b = blank (16 * w + 16) in
            let g : get_or words (16 * w + 16) 0 ≤ get_or words (16 * w + 8) 0 = omega (arith, a, b) in g,
        let a = blank (16 * w + 8) in let b = blank (16 * w + 16) in
            let g : get_or words (16 * w + 8) 0 ≤ get_or words (16 * w + 16) 0 + WINDOW = omega (arith, a, b) in g,
      );
      asked_is = refl;
      answered = omega arith;
      told_is = ([], refl);
      known = ([], refl);
      numbered = λ k p y. absurd (some-ne-none p (sym y));
      leaves = λ (y : 0 < 0). absurd (omega arith);
      all_back = λ _. refl;
      behind = omega arith;
      open_is = λ m y. absurd (some-ne-none m (sym y));
      slot_held_is = λ (y : 0 < 0). absurd (omega arith);
      unsent = λ k p y. absurd (some-ne-none p (sym y));
      within = omega arith;
      answers = λ k a _ y. absurd (some-ne-none a (sym y));
      requests = λ k m _ y. absurd (some-ne-none m (sym y));
      frees = λ k _ near _. all_vacant slots (lane_slot w k) None (let h = slot_below key.workers w k l in omega arith);
    };
    each_seen = λ w l. (([], refl), refl, refl);
    each_view = λ j v e. first j v e;
    apart = apart_one (opening_view key) refl;
    looked = λ k w n e _. absurd (some-ne-none (w, n) (sym e));
    later = λ w l. refl;
  }
    where
      first : (j : ℕ) (v : LaneView) → get_elem? (opening_view key ∷ []) j ≡ some v
          → IsViewOf key (first_worker_state key.terms) (storage_state_with key.terms 0) j v
      first zero v e = subst (λ (z : LaneView). IsViewOf key (first_worker_state key.terms)
          (storage_state_with key.terms 0) 0 z)
          (some-injective (opening_view key) v e) (refl, refl)
      first (suc j) v e = absurd (some-ne-none v (sym e))
