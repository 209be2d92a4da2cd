-- Each step keeps the rule.
use Rattle.std.proofs.Common.{◌≡◌, ◌≢◌, ◌⊎◌, ℕ, suc, ◌+◌, ◌*◌, ◌<◌, ◌≤◌, List, [], ◌∷◌, map, length, take, get_or, set, Option, Some, None, false, refl}
use Rattle.std.proofs.Common.{sym, ap}
use Rattle.std.proofs.Common.{◌∙◌, subst, inl, inr, ⊎_elim, arith, length-append, length-set, get_or-set_other, get_or-set_same, le_refl}
use mathlib.Core.Logic.{dite}
use mathlib.Core.Option.{none, some, some-injective}
use native.Mathlib.Decide.{ℕ_discrete, dec_le}
use lib.ListN.{get_elem?}
use lib.Seq.{set-get_or}
use Rattle.atomic_table.specs.Table.{step, Act, keeps, takes, gives, stepped, Allows}
use Rattle.proto.specs.declared.limits.TheConstants.{WINDOW}
use Rattle.proto.specs.declared.history.Posted.{Posted}
use Rattle.proto.specs.declared.history.Answered.{Answered}
use Rattle.exchange.specs.declared.messages.LaneMessage.{LaneMessage}
use Rattle.exchange.specs.declared.messages.LaneMessage.TheVariants.{Ask, Bye, Answer}
use Rattle.exchange.specs.declared.messages.LaneKey.{LaneKey}
use Rattle.exchange.specs.declared.rule.WorkerState.{WorkerState}
use Rattle.exchange.specs.declared.rule.StorageState.{StorageState}
use Rattle.exchange.specs.declared.rule.LaneView.{LaneView}
use Rattle.exchange.specs.declared.rule.LaneView.TheVariants.{Nobody, Worker, Storage, Comparing, Told, TwoTold, Checking}
use Rattle.exchange.specs.Beginnings.{StartsWith}
use Rattle.proto.specs.History.{worker_share, LegalBy}
use Rattle.exchange.specs.Lanes.{UnheldSlots, SeatState, messages, open_at, count_of, lane_slot, at_home, IsLaneOfTable, LanesHold}
use Rattle.proto.specs.Counts.{times}
use Rattle.exchange.specs.Steps.{holding_slot, placed_count, put_on, all_sent, with_bye, with_history, with_seen_slot_taken, with_slot_taken}
use Rattle.exchange.specs.Steps.{tells_begin, request_put, tells_post, bye_posted}
use Rattle.exchange.specs.Steps.{seen_taken, Learnt, DoneTells, done_loaded, slot_returned}
use Rattle.exchange.proofs.Lists.{at_some, starts_at, starts_below, starts_whole, starts_self, take_whole}
use Rattle.exchange.proofs.Lane.{all_more, one_bye, begins, puts, sends, posts_last, takes_back, is_told, returns_slot}
use Rattle.exchange.proofs.Lane.{count}
use Rattle.exchange.proofs.Lane.{at_most_one, asked_told}
use Rattle.exchange.proofs.Shares.{share_starts}
use Rattle.exchange.proofs.Table.{slot_below, slot_else, slot_here, slot_other, lane_same, St, worker_of, lane_of, worker_moves}

-- what a view, or what a seat carries, has
abbrev pub worker_state_or : WorkerState → LaneView → WorkerState
worker_state_or c (Worker d) = d
worker_state_or c Nobody = c
worker_state_or c (Storage d) = c
worker_state_or c (Comparing d e) = e
worker_state_or c (Told t) = c
worker_state_or c (TwoTold t u) = c
worker_state_or c (Checking d t) = d

-- what storage knows, or else
abbrev pub storage_state_or : StorageState → LaneView → StorageState
storage_state_or d (Storage e) = e
storage_state_or d Nobody = d
storage_state_or d (Worker c) = d
storage_state_or d (Comparing e c) = e
storage_state_or d (Told t) = d
storage_state_or d (TwoTold t u) = d
storage_state_or d (Checking c t) = d

-- what stands in a slot, or else
abbrev pub item_or : Option LaneMessage → List (ℕ × Option LaneMessage) → Option LaneMessage
item_or x [] = x
item_or x (y ∷ ys) = y.1

-- the request of a message, or else
abbrev asked_or : Posted → Option LaneMessage → Posted
asked_or p (Some (Ask q)) = q
asked_or p (Some Bye) = p
asked_or p (Some (Answer a)) = p
asked_or p None = p

-- the answer of a message, or else
abbrev pub answer_or : Answered → Option LaneMessage → Answered
answer_or a (Some (Answer b)) = b
answer_or a (Some Bye) = a
answer_or a (Some (Ask p)) = a
answer_or a None = a

-- what stands in a slot at home, or else
abbrev pub lane_or : ℕ → Option (ℕ × LaneMessage) → ℕ
lane_or w (Some x) = x.0
lane_or w None = w

module _ (key : LaneKey) where
  -- a load leaves the words as they were
  pub loaded : (ws : List ℕ) (i j : ℕ) → get_or (set ws i (get_or ws i 0)) j 0 ≡ get_or ws j 0
  loaded ws i j = ap (λ (z : List ℕ). get_or z j 0) (set-get_or ws i 0)

  -- a load of the word i by a worker, at which its lane's slots change
  worker_load : (s : St) (r : LanesHold key s) (i id : ℕ) (c c' : WorkerState) (homes' : UnheldSlots)
      → get_elem? s.views id ≡ some (Worker c) → c'.worker ≡ c.worker
      → c'.terms ≡ c.terms → length (messages c) ≤ length (messages c') → length homes' ≡ length s.homes
      → ((j k : ℕ) → j ≢ c.worker → at_home homes' j k ≡ at_home s.homes j k)
      → IsLaneOfTable s.words homes' r.storage_state c' c.worker
      → StartsWith r.storage_state.told c'.seen
      → LanesHold key record {
        words = set s.words i (get_or s.words i 0);
        homes = homes';
        views = set s.views id (Worker c');
      }
  worker_load s r i id c c' homes' at same terms more deep others lane seen =
      worker_moves key s r id c c' (set s.words i (get_or s.words i 0)) homes' at same terms more
      (length-set s.words i (get_or s.words i 0)) deep
      (λ j other. (loaded s.words i (16 * j + 8), loaded s.words i (16 * j + 16), λ k. others j k other))
      (lane_same c' _ _ _ _ _ _ _ _ _ _ _ _ (at_home homes' c.worker)
      (at_home homes' c.worker) refl refl refl refl (loaded s.words i (16 * c.worker + 8))
      (loaded s.words i (16 * c.worker + 16)) (λ _. refl) lane) seen

  -- what the worker has seen begins the history
  pub seen_of : (s : St) (r : LanesHold key s) (c : WorkerState) → r.states c.worker ≡ c → c.worker < key.workers
      → StartsWith r.storage_state.told c.seen
  seen_of s r c is inside = subst (λ (z : WorkerState). StartsWith r.storage_state.told z.seen) is
      (r.each_seen c.worker inside).0

  -- the worker takes the slot of its next message
  pub begins_post : (n id : ℕ) (me : SeatState) (c : WorkerState) (i : ℕ) → me.0 ≡ Worker c → c.slot_held ≡ 0
      → c.said_bye ≡ false → placed_count c < length c.back + WINDOW
      → Allows (LanesHold key) n id me i (λ x. x) (tells_begin (step n i 0 0 none) me)
  begins_post n id me c i is idle open_ room s r _ at _ = let w : ℕ = c.worker in let k : ℕ = placed_count c in
      let k_is : k ≡ length c.sent + length c.put = refl in
      let f = worker_of key s r id me.0 c at is in let lane = lane_of key s r c f.1 f.2 in
      let c' : WorkerState = holding_slot c (suc k) in let long : length (messages c) ≡ length c.sent = count c
      ∙ (omega (arith, ap Rattle.exchange.proofs.Lane.bye_count open_)) in (
        Worker c',
        takes (lane_slot w k) None,
        lane.frees k (omega arith) room (λ e. let e' : suc k ≡ 0 = e ∙ idle in omega arith),
        worker_load s r i id c c' (set s.homes (lane_slot w k) none)
            (at ∙ ap (λ (z : LaneView). some z) is) refl refl (le_refl (length (messages c)))
            (length-set s.homes (lane_slot w k) none) (λ j q other. slot_other s.homes w k none j q other)
            (begins c _ _ _ _ _ _ (at_home s.homes w) lane _ idle open_ room (slot_else s.homes w k none))
            (seen_of s r c f.1 f.2),
        λ c₂ is₂. let e : c ≡ c₂ = ap (worker_state_or c) (sym is ∙ is₂) in
            ap (λ (z : WorkerState). let m : SeatState = (
              Worker (holding_slot z (suc (placed_count z))),
              (lane_slot z.worker (placed_count z), None) ∷ me.1,
            ) in m) e,
      )

  -- the worker gives the slot back, with a request in it
  pub puts_it : (n id : ℕ) (c : WorkerState) (p : Posted) (i : ℕ) → p.number ≡ suc (placed_count c)
      → c.slot_held ≡ suc (placed_count c) → c.said_bye ≡ false
      → Allows (LanesHold key) n id (Worker c, (lane_slot c.worker (placed_count c), Some (Ask p)) ∷ []) i
      (λ x. x) (request_put (step n i 0 0 none) (Worker c, (lane_slot c.worker (placed_count c), Some (Ask p)) ∷ []))
  puts_it n id c p i next slot_held open_ s r _ at _ = let w : ℕ = c.worker in let k : ℕ = placed_count c in
      let f = r.each_view id (Worker c) at in
      let lane = lane_of key s r c f.1 f.2 in let deep = r.deep in
      let c' : WorkerState = put_on c p in let v : Option LaneMessage = Some (Ask p) in
      let near : lane_slot w k < length s.homes =
      subst (λ (z : ℕ). lane_slot w k < z) (sym deep) (slot_below key.workers w k f.2) in (
        Worker c',
        gives,
        tt,
        worker_load s r i id c c' (set s.homes (lane_slot w k) (some v)) at refl refl (le_refl (length (messages c)))
            (length-set s.homes (lane_slot w k) (some v))
            (λ j q other. slot_other s.homes w k (some v) j q other)
            (puts c _ _ _ _ _ _ (at_home s.homes w) lane _ p next slot_held open_ (slot_here s.homes w k (some v) near)
            (slot_else s.homes w k (some v)))
            (seen_of s r c f.1 f.2),
        λ c₂ p₂ k₂ e. λ i. (Worker (put_on (worker_state_or c (e i).0) (asked_or p (item_or v (e i).1))), []),
      )

  -- the store of posted
  pub posts_it : (n id : ℕ) (c : WorkerState) → c.slot_held ≡ 0 → c.said_bye ≡ false
      → Allows (LanesHold key) n id (Worker c, []) (16 * c.worker + 8) (λ _. placed_count c)
      (λ _. tells_post (step n (16 * c.worker + 8) (placed_count c) 0 none) (Worker c, [])
      (placed_count c))
  posts_it n id c idle open_ s r _ at _ = let w : ℕ = c.worker in let k : ℕ = placed_count c in
      let f = r.each_view id (Worker c) at in
      let lane = lane_of key s r c f.1 f.2 in let wide = r.wide in let inside : w < key.workers = f.2 in
      let c' : WorkerState = all_sent c in
      let words' : List ℕ = set s.words (16 * w + 8) k in (
        Worker c',
        keeps,
        tt,
        worker_moves key s r id c c' words' s.homes at refl refl (let is = all_more c open_ in
            let long : length (messages c') ≡ length (messages c) + length (map Ask c.put) =
            ap length is ∙ length-append (messages c) (map Ask c.put) in
            let g : length (messages c) ≤ length (messages c') = omega arith in g) (length-set s.words (16 * w + 8) k) refl
            (λ j other. (
              get_or-set_other s.words (16 * w + 8) (16 * j + 8) k 0 (λ e. other (omega arith)),
              get_or-set_other s.words (16 * w + 8) (16 * j + 16) k 0 (λ e. omega arith),
              λ q. refl,
            ))
            (lane_same c' _ _ _ _ _ _ _ _ _ _ _ _ (at_home s.homes w) (at_home s.homes w) refl refl refl refl
            (get_or-set_same s.words (16 * w + 8) k 0 (omega arith))
            (get_or-set_other s.words (16 * w + 8) (16 * w + 16) k 0 (λ e. omega arith)) (λ _. refl)
            (sends c _ _ _ _ _ _ (at_home s.homes w) lane idle open_))
            (seen_of s r c f.1 f.2),
        λ c₂ e. λ i. (Worker (all_sent (worker_state_or c (e i).0)), []),
      )

  -- the same with the Bye
  pub posts_bye : (n id : ℕ) (c : WorkerState) → c.put ≡ [] → c.slot_held ≡ suc (placed_count c) → c.said_bye ≡ false
      → length c.back ≡ length c.sent
      → Allows (LanesHold key) n id (Worker c, (lane_slot c.worker (placed_count c), Some Bye) ∷ []) (16 * c.worker + 8)
      (λ _. suc (placed_count c))
      (λ _. bye_posted (step n (16 * c.worker + 8) (suc (placed_count c)) 0 none)
      (Worker c, (lane_slot c.worker (placed_count c), Some Bye) ∷ [])
      (suc (placed_count c)))
  posts_bye n id c none_put slot_held open_ all s r _ at _ = let w : ℕ = c.worker in let k : ℕ = placed_count c in
      let k_is : k ≡ length c.sent + length c.put = refl in let f = r.each_view id (Worker c) at in
      let lane = lane_of key s r c f.1 f.2 in let wide = r.wide in let deep = r.deep in
      let inside : w < key.workers = f.2 in let c' : WorkerState = with_bye c in
      let v : Option LaneMessage = Some Bye in
      let near : lane_slot w k < length s.homes =
      subst (λ (z : ℕ). lane_slot w k < z) (sym deep) (slot_below key.workers w k inside) in
      let homes' : UnheldSlots = set s.homes (lane_slot w k) (some v) in let words' : List ℕ = set s.words (16 * w + 8) (suc k) in
      let was : get_or s.words (16 * w + 8) 0 ≡ k = lane.posted_is
      ∙ (count c ∙ (omega (arith, ap Rattle.exchange.proofs.Lane.bye_count open_, ap length none_put))) in (
        Worker c',
        gives,
        tt,
        worker_moves key s r id c c' words' homes' at refl refl (let is = one_bye c open_ in
            let long : length (messages c') ≡ length (messages c) + 1 =
            ap length is ∙ length-append (messages c) (Bye ∷ []) in
            let g : length (messages c) ≤ length (messages c') = omega arith in
            g) (length-set s.words (16 * w + 8) (suc k)) (length-set s.homes (lane_slot w k) (some v))
            (λ j other. (
              get_or-set_other s.words (16 * w + 8) (16 * j + 8) (suc k) 0 (λ e. other (omega arith)),
              get_or-set_other s.words (16 * w + 8) (16 * j + 16)
                  (suc k) 0 (λ e. omega arith),
              λ q. slot_other s.homes w k (some v) j q other,
            ))
            (lane_same c' _ _ _ _ _ _ _ _ _ _ _ _ (at_home homes' w) (at_home homes' w) refl refl refl refl
            (get_or-set_same s.words (16 * w + 8) (suc k) 0 (omega arith) ∙ ap suc (sym was))
            (get_or-set_other s.words (16 * w + 8) (16 * w + 16) (suc k) 0 (λ e. omega arith)) (λ _. refl)
            (posts_last c _ _ _ _ _ _ (at_home s.homes w) lane _ none_put slot_held open_ all
            (slot_here s.homes w k (some v) near) (slot_else s.homes w k (some v))))
            (seen_of s r c f.1 f.2),
        λ c₂ k₂ e. λ i. (Worker (with_bye (worker_state_or c (e i).0)), []),
      )

  -- the load of done
  pub loads_done : (n id : ℕ) (me : SeatState) (c : WorkerState) → me.0 ≡ Worker c → c.slot_held ≡ 0
      → Allows (LanesHold key) n id me (16 * c.worker + 16) (λ x. x)
      (done_loaded (step n (16 * c.worker + 16) 0 0 none) me)
  loads_done n id me c is idle s r _ at _ = let w : ℕ = c.worker in let i : ℕ = 16 * w + 16 in
      let x : ℕ = get_or s.words i 0 in let b : ℕ = length c.back in
      let g : List Answered = r.storage_state.told in let mine : List Answered = worker_share g w in
      let all_mine : List Answered = worker_share r.storage_state.history w in
      let f = worker_of key s r id me.0 c at is in let lane = lane_of key s r c f.1 f.2 in
      let byes : ℕ = times w r.storage_state.byes in
      let x_is : x ≡ length mine + byes = lane.done_is in let first = lane.told_is in
      let low_told : length mine ≤ length all_mine = starts_below all_mine mine first in
      let high : length all_mine ≤ length c.sent = lane.answered in
      let within : length mine ≤ length c.sent = omega arith in
      let at' : get_elem? s.views id ≡ some (Worker c) = at ∙ ap (λ (z : LaneView). some z) is in
      let low : b ≤ length mine = starts_below mine c.back lane.known in
      let known = subst (λ (z : WorkerState). StartsWith g z.seen × (z.terms ≡ key.terms) × (z.worker ≡ w)) f.1
      (r.each_seen w f.2) in
      let learnt : Learnt c x g = record {
        history = record {
          legal = subst (λ z. LegalBy z g) (sym known.1) r.legal_told;
          asked = asked_told c.sent all_mine mine lane.asked_is first ∙ dite (ℕ_discrete byes 0)
              (λ e. ap (λ (z : ℕ). take z c.sent) (let h : length mine ≡ x = omega arith in h))
              (λ e. let q : b ≡ length c.sent = lane.all_back (lane.leaves (omega arith)) in
              take_whole c.sent (length mine) (omega arith)
              ∙ sym (take_whole c.sent x (omega arith)));
          back = lane.known;
        };
        later = known.0;
        counted = dite (ℕ_discrete byes 0) (λ e. inl (let h : x ≡ length mine = omega arith in h))
            (λ e. let bye = lane.leaves (omega arith) in let q : b ≡ length c.sent = lane.all_back bye in
            let few = at_most_one c.said_bye in
            let behind : length all_mine + byes + count_of (open_at r.storage_state.holding w) ≤ length (messages c) =
            lane.behind in let all = count c in
            inr (bye, let h : x ≡ length c.sent + 1 = omega arith in h));
      } in
      let tell : (m' : SeatState) → DoneTells c x me.1 m' g
      → done_loaded (step n i 0 0 none) me x m' = λ m' h c₂ is₂.
      (g, subst (λ (z : WorkerState). DoneTells z x me.1 m' g) (ap (worker_state_or c) (sym is ∙ is₂)) h) in
      let stays : (x ≤ b) ⊎ (length c.sent ≤ b)
      → (v : LaneView) × (a : Act (Option LaneMessage)) × Rattle.atomic_table.specs.Table.Valid s.homes me.1 a
      × LanesHold key (stepped s i x id me.1 v a)
      × done_loaded (step n i 0 0 none) me x (v, Rattle.atomic_table.specs.Table.carried_after me.1 a)
      = λ less. let short : length mine ≤ b =
      ⊎_elim (λ (h : x ≤ b). omega arith) (λ (h : length c.sent ≤ b). omega arith) less in (
        Worker (with_history c x g),
        keeps,
        tt,
        worker_load s r i id c (with_history c x g) s.homes at' refl refl (le_refl (length (messages c))) refl
            (λ _ _ _. refl) (is_told c _ _ _ _ _ _ _ lane g x) (starts_self g),
        tell (Worker (with_history c x g), me.1) (
          learnt,
          (λ y z. absurd (⊎_elim (λ (h : x ≤ b). omega arith) (λ (h : length c.sent ≤ b). omega arith) less)),
          λ _.
              (starts_whole mine c.back lane.known short, refl),
        ),
      ) in
      dite (dec_le x b) (λ le. stays (inl le)) (λ gt. dite (dec_le (length c.sent) b) (λ le. stays (inr le)) (λ gt'.
      let more : b < length c.sent = omega arith in
      let none_gone : byes ≡ 0 = dite (ℕ_discrete byes 0) (λ z. z)
      (λ e. let q : b ≡ length c.sent = lane.all_back (lane.leaves (omega arith)) in absurd (omega arith)) in
      let next = at_some mine b (let h : b < length mine = omega arith in h) in let a : Answered = next.0 in
      let c' : WorkerState = with_slot_taken c x g a in (
        Worker c',
        takes (lane_slot w b) (Some (Answer a)),
        lane.answers b a (le_refl b) (starts_at all_mine mine b a first next.1),
        worker_load s r i id c c' (set s.homes (lane_slot w b) none) at' refl refl (le_refl (length (messages c)))
            (length-set s.homes (lane_slot w b) none)
            (λ j q other. slot_other s.homes w b none j q other)
            (is_told (with_seen_slot_taken c a) _ _ _ _ _ _ (at_home (set s.homes (lane_slot w b) none) w)
            (takes_back c _ _ _ _ _ _ (at_home s.homes w) lane _ a idle next.1 (slot_else s.homes w b none)) g x)
            (starts_self g),
        tell (Worker c', (lane_slot w b, Some (Answer a)) ∷ me.1) (
          learnt,
          (λ _ _. (a, next.1, refl)),
          λ less. absurd (⊎_elim (λ (h : x ≤ b). gt h) (λ (h : length c.sent ≤ b). gt' h) less),
        ),
      )))

  -- the worker takes the slot of the next answer of the history that it saw
  pub takes_seen : (n id : ℕ) (me : SeatState) (c : WorkerState) (a : Answered) (i : ℕ) → me.0 ≡ Worker c
      → c.slot_held ≡ 0
      → get_elem? (worker_share c.seen c.worker) (length c.back) ≡ some a
      → Allows (LanesHold key) n id me i (λ x. x) (seen_taken (step n i 0 0 none) me)
  takes_seen n id me c a i is idle next s r _ at _ = let w : ℕ = c.worker in let b : ℕ = length c.back in
      let f = worker_of key s r id me.0 c at is in
      let lane = lane_of key s r c f.1 f.2 in let c' : WorkerState = with_seen_slot_taken c a in
      let seen = seen_of s r c f.1 f.2 in
      let next' : get_elem? (worker_share r.storage_state.told w) b ≡ some a =
      starts_at _ _ b a (share_starts r.storage_state.told c.seen w seen) next in (
        Worker c',
        takes (lane_slot w b) (Some (Answer a)),
        lane.answers b a (le_refl b) (starts_at _ _ b a lane.told_is next'),
        worker_load s r i id c c' (set s.homes (lane_slot w b) none)
            (at ∙ ap (λ (z : LaneView). some z) is) refl refl (le_refl (length (messages c)))
            (length-set s.homes (lane_slot w b) none) (λ j q other. slot_other s.homes w b none j q other)
            (takes_back c _ _ _ _ _ _ (at_home s.homes w) lane _ a idle next' (slot_else s.homes w b none)) seen,
        λ c₂ a₂ is₂ next₂. let e : c ≡ c₂ = ap (worker_state_or c) (sym is ∙ is₂) in
            let e' : a ≡ a₂ = some-injective a a₂
            (sym next ∙ (ap (λ (z : WorkerState). get_elem? (worker_share z.seen z.worker) (length z.back)) e
            ∙ next₂)) in
            λ j. (
              Worker (with_seen_slot_taken (e j) (e' j)),
              (lane_slot (e j).worker (length (e j).back), Some (Answer (e' j))) ∷ me.1,
            ),
      )

  -- the worker gives the slot of k back, empty
  pub returns_it : (n id : ℕ) (c : WorkerState) (i k q : ℕ) → c.slot_held ≡ suc k → q ≡ lane_slot c.worker k
      → Allows (LanesHold key) n id (Worker c, (q, None) ∷ []) i (λ x. x)
      (slot_returned (step n i 0 0 none) (Worker c, (q, None) ∷ []))
  returns_it n id c i k q slot_held slot s r _ at _ = let w : ℕ = c.worker in let f = r.each_view id (Worker c) at in
      let lane = lane_of key s r c f.1 f.2 in
      let deep = r.deep in let c' : WorkerState = holding_slot c 0 in let v : Option LaneMessage = None in
      let near : lane_slot w k < length s.homes =
      subst (λ (z : ℕ). lane_slot w k < z) (sym deep) (slot_below key.workers w k f.2) in (
        Worker c',
        gives,
        tt,
        subst (λ (z : ℕ). LanesHold key (stepped s i (get_or s.words i 0) id ((z, None) ∷ []) (Worker c') gives))
            (sym slot)
            (worker_load s r i id c c' (set s.homes (lane_slot w k) (some v)) at
            refl refl (le_refl (length (messages c)))
            (length-set s.homes (lane_slot w k) (some v)) (λ j y other. slot_other s.homes w k (some v) j y other)
            (returns_slot c _ _ _ _ _ _ (at_home s.homes w) lane _ k slot_held (slot_here s.homes w k (some v) near)
            (slot_else s.homes w k (some v)))
            (seen_of s r c f.1 f.2)),
        λ c₂ is₂. λ j. (Worker (holding_slot (worker_state_or c (is₂ j)) 0), []),
      )
