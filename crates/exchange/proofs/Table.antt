-- What stays true of the table when one lane moves.
use Rattle.std.proofs.Common.{◌≡◌, ◌≢◌, ◌⊎◌, ℕ, zero, suc, ◌+◌, ◌*◌, ◌%◌, ◌<◌, ◌≤◌, List, [], ◌∷◌, ◌++◌, length, get_or, set, le_refl}
use Rattle.std.proofs.Common.{Option, refl, sym, ap, ◌∙◌, subst, ⊎_elim, arith}
use Rattle.std.proofs.Common.{mod-lt}
use mathlib.Core.Logic.{dite}
use mathlib.Core.Option.{none, some, some-injective, some-ne-none}
use mathlib.Core.Option as maybe
use native.Mathlib.Decide.{ℕ_discrete}
use lib.ListN.{get_elem?}
use Rattle.atomic_table.specs.Table.{State}
use Rattle.atomic_table.proofs.Lists.{at_set, set_here, set_else}
use Rattle.proto.specs.declared.limits.TheConstants.{WINDOW}
use Rattle.proto.specs.declared.history.Answered.{Answered}
use Rattle.exchange.specs.declared.messages.LaneMessage.{LaneMessage}
use Rattle.exchange.specs.declared.messages.LaneKey.{LaneKey}
use Rattle.exchange.specs.declared.rule.WorkerState.{WorkerState}
use Rattle.exchange.specs.declared.rule.StorageState.{StorageState}
use Rattle.exchange.specs.declared.rule.LaneView.{LaneView}
use Rattle.exchange.specs.declared.rule.LaneView.TheVariants.{Nobody, Worker, Storage, Comparing, Told, TwoTold, Checking}
use Rattle.exchange.specs.Beginnings.{StartsWith}
use Rattle.proto.specs.History.{worker_share, LegalBy}
use Rattle.exchange.specs.Lanes.{UnheldSlots, messages, open_at, lane_slot, SlotContents, at_home, IsLaneConsistent, IsLaneOfTable, IsViewOf, LanesHold}
use Rattle.exchange.specs.Lanes.{worker_seated, AreApart}
use Rattle.proto.specs.Counts.{times}
use Rattle.exchange.proofs.Lists.{at_end, starts_trans}
use Rattle.exchange.proofs.Lane.{Else}

-- one of two values, by a decision
abbrev pick : {P A : Type 0} → Dec P → A → A → A
pick (yes _) a b = a
pick (no _) a b = b

-- f, with c at i
pub put : {A : Type 0} → (ℕ → A) → ℕ → A → ℕ → A
put f i c j = pick (ℕ_discrete j i) c (f j)

module _ {A : Type 0} (f : ℕ → A) (i : ℕ) (c : A) where
  -- at i it is c
  pub put_here : put f i c i ≡ c
  unfolding put
  put_here = go (ℕ_discrete i i)
    where
      go : (d : Dec (i ≡ i)) → pick d c (f i) ≡ c
      go (yes _) = refl
      go (no n) = absurd (n refl)

  -- elsewhere it is f
  pub put_else : (j : ℕ) → j ≢ i → put f i c j ≡ f j
  unfolding put
  put_else j other = go (ℕ_discrete j i)
    where
      go : (d : Dec (j ≡ i)) → pick d c (f j) ≡ f j
      go (yes e) = absurd (other e)
      go (no _) = refl

-- slots

-- a remainder is below the window
pub below_window : (k : ℕ) → k % WINDOW < WINDOW
below_window k = mod-lt k (omega arith)

-- the slots of a lane are in the table
pub slot_below : (n w k : ℕ) → w < n → lane_slot w k < WINDOW * n
slot_below n w k h = let b = below_window k in omega arith

-- two lanes have no slot in common
pub slots_apart : (w j k i : ℕ) → j ≢ w → lane_slot j k ≢ lane_slot w i
slots_apart w j k i other e = let a = below_window k in let b = below_window i in
    let e' : WINDOW * j + k % WINDOW ≡ WINDOW * w + i % WINDOW = e in other (omega arith)

-- two messages of one window have different slots
pub slots_of_one : (w k i : ℕ) → k % WINDOW ≢ i % WINDOW → lane_slot w k ≢ lane_slot w i
slots_of_one w k i other e = let e' : WINDOW * w + k % WINDOW ≡ WINDOW * w + i % WINDOW = e in other (omega arith)

module _ (homes : UnheldSlots) (w i : ℕ) (v : maybe.Option (Option LaneMessage)) where
  -- another message's slot stays
  pub slot_else : Else (at_home homes w) (at_home (set homes (lane_slot w i) v) w) i
  slot_else k other = set_else homes (lane_slot w i) (lane_slot w k) v (slots_of_one w k i other)

  -- the message's slot has the value
  pub slot_here : lane_slot w i < length homes → at_home (set homes (lane_slot w i) v) w i ≡ some v
  slot_here h = set_here homes (lane_slot w i) v h

  -- the slots of other lanes stay
  pub slot_other : (j k : ℕ) → j ≢ w → at_home (set homes (lane_slot w i) v) j k ≡ at_home homes j k
  slot_other j k other = set_else homes (lane_slot w i) (lane_slot j k) v (slots_apart w j k i other)

-- a lane over equal posts_last
pub lane_same : (c : WorkerState) (mine mine' told told' : List Answered) (byes gone' : ℕ)
    (held held' : maybe.Option LaneMessage) (p p' d d' : ℕ) (at at' : SlotContents)
    → mine' ≡ mine → told' ≡ told → gone' ≡ byes → held' ≡ held → p' ≡ p → d' ≡ d → ((k : ℕ) → at' k ≡ at k)
    → IsLaneConsistent c mine told byes held p d at → IsLaneConsistent c mine' told' gone' held' p' d' at'
lane_same c mine mine' told told' byes gone' held held' p p' d d' at at' e₀ f₀ e₁ e₂ e₃ e₄ e₅ ok =
    let Seven : Type 0 = List Answered × List Answered × ℕ × maybe.Option LaneMessage × ℕ × ℕ × SlotContents in
    subst (λ (z : Seven). IsLaneConsistent c z.0 z.1 z.2 z.3 z.4 z.5 z.6)
    (λ i. (sym e₀ i, sym f₀ i, sym e₁ i, sym e₂ i, sym e₃ i, sym e₄ i, λ k. sym (e₅ k) i)) ok

-- a seat of no further worker leaves the seats apart
pub apart_set : (views : List LaneView) (id : ℕ) (was now : LaneView) → get_elem? views id ≡ some was
    → ((n : ℕ) → worker_seated now ≡ some n → worker_seated was ≡ some n) → AreApart views → AreApart (set views id now)
apart_set views id was now at same apart i j u v n at_i at_j is_u is_v = ⊎_elim
    (λ (x : (i ≡ id) × (now ≡ u)). ⊎_elim (λ (y : (j ≡ id) × (now ≡ v)). x.0 ∙ sym y.0)
    (λ (y : (j ≢ id) × (get_elem? views j ≡ some v)). x.0
    ∙ apart id j was v n at y.1 (same n (ap worker_seated x.1 ∙ is_u)) is_v)
    (at_set views id j now v at_j))
    (λ (x : (i ≢ id) × (get_elem? views i ≡ some u)). ⊎_elim
    (λ (y : (j ≡ id) × (now ≡ v)). apart i id u was n x.1 at is_u (same n (ap worker_seated y.1 ∙ is_v)) ∙ sym y.0)
    (λ (y : (j ≢ id) × (get_elem? views j ≡ some v)). apart i j u v n x.1 y.1 is_u is_v)
    (at_set views id j now v at_j))
    (at_set views id i now u at_i)

-- and so does a further seat, of no worker that has one
pub apart_more : (views : List LaneView) (now : LaneView)
    → ((j n : ℕ) (v : LaneView) → get_elem? views j ≡ some v → worker_seated v ≡ some n → worker_seated now ≢ some n)
    → AreApart views → AreApart (views ++ now ∷ [])
apart_more views now other apart i j u v n at_i at_j is_u is_v = ⊎_elim
    (λ (x : get_elem? views i ≡ some u). ⊎_elim
    (λ (y : get_elem? views j ≡ some v). apart i j u v n x y is_u is_v)
    (λ (y : (j ≡ length views) × (now ≡ v)). absurd (other i n u x is_u (ap worker_seated y.1 ∙ is_v)))
    (at_end views now j v at_j))
    (λ (x : (i ≡ length views) × (now ≡ u)). ⊎_elim
    (λ (y : get_elem? views j ≡ some v). absurd (other j n v y is_v (ap worker_seated x.1 ∙ is_u)))
    (λ (y : (j ≡ length views) × (now ≡ v)). x.0 ∙ sym y.0)
    (at_end views now j v at_j))
    (at_end views now i u at_i)

-- one seat of no worker
pub apart_one : (v : LaneView) → worker_seated v ≡ none → AreApart (v ∷ [])
apart_one v none_ zero zero u w n at_i at_j is_u is_w = refl
apart_one v none_ zero (suc j) u w n at_i at_j is_u is_w = absurd (some-ne-none w (sym at_j))
apart_one v none_ (suc i) j u w n at_i at_j is_u is_w = absurd (some-ne-none u (sym at_i))

-- what fits goes on to fit while storage goes on
pub fits_later : (key : LaneKey) (states : ℕ → WorkerState) (old new : StorageState) (j : ℕ) (v : LaneView) → j ≢ 0
    → old.made ≤ new.made → StartsWith new.told old.told → IsViewOf key states old j v → IsViewOf key states new j v
fits_later key states old new j Nobody other made told f = tt
fits_later key states old new j (Worker u) other made told f =
    let low : u.worker < old.made = f.0 in (let g : u.worker < new.made = omega arith in g, f.1, f.2)
fits_later key states old new j (Storage e) other made told f = absurd (other f.0)
fits_later key states old new j (Comparing e u) other made told f = absurd (other f.0)
fits_later key states old new j (Told t) other made told f = starts_trans new.told old.told t told f
fits_later key states old new j (TwoTold t u) other made told f =
    (starts_trans new.told old.told t told f.0, starts_trans new.told old.told u told f.1)
fits_later key states old new j (Checking u t) other made told f =
    let low : u.worker < old.made = f.0.0 in (
      (let g : u.worker < new.made = omega arith in g, f.0.1, f.0.2),
      starts_trans new.told old.told t told f.1,
    )

-- the worker of a seat was made
pub made_before : (key : LaneKey) (states : ℕ → WorkerState) (storage : StorageState) (j n : ℕ) (v : LaneView)
    → worker_seated v ≡ some n → IsViewOf key states storage j v → n < storage.made
made_before key states storage j n Nobody e f = absurd (some-ne-none n (sym e))
made_before key states storage j n (Worker u) e f =
    subst (λ (z : ℕ). z < storage.made) (some-injective u.worker n e) f.0
made_before key states storage j n (Storage d) e f = absurd (some-ne-none n (sym e))
made_before key states storage j n (Comparing d u) e f = absurd (some-ne-none n (sym e))
made_before key states storage j n (Told t) e f = absurd (some-ne-none n (sym e))
made_before key states storage j n (TwoTold t u) e f = absurd (some-ne-none n (sym e))
made_before key states storage j n (Checking u t) e f =
    subst (λ (z : ℕ). z < storage.made) (some-injective u.worker n e) f.0.0

-- the state of the table
abbrev pub St : Type 0
St = State (Option LaneMessage) LaneView

-- the lane j stands as it was
abbrev pub Stands : St → List ℕ → UnheldSlots → ℕ → Type 0
Stands s words' homes' j = (get_or words' (16 * j + 8) 0 ≡ get_or s.words (16 * j + 8) 0)
    × (get_or words' (16 * j + 16) 0 ≡ get_or s.words (16 * j + 16) 0)
    × ((k : ℕ) → at_home homes' j k ≡ at_home s.homes j k)

module _ (key : LaneKey) (s : St) (r : LanesHold key s) where
  -- a worker's view is its state
  pub worker_of : (id : ℕ) (v : LaneView) (c : WorkerState) → get_elem? s.views id ≡ some v → v ≡ Worker c
      → (c.worker < r.storage_state.made) × (r.states c.worker ≡ c) × (c.worker < key.workers)
  worker_of id v c at is = r.each_view id (Worker c) (at ∙ ap (λ (z : LaneView). some z) is)

  -- its lane is in order
  pub lane_of : (c : WorkerState) → r.states c.worker ≡ c → c.worker < key.workers
      → IsLaneOfTable s.words s.homes r.storage_state c c.worker
  lane_of c is inside = subst (λ (z : WorkerState). IsLaneOfTable s.words s.homes r.storage_state z c.worker) is
      (r.each_lane c.worker inside)

  -- a step of a worker
  pub worker_moves : (id : ℕ) (c c' : WorkerState) (words' : List ℕ) (homes' : UnheldSlots)
      → get_elem? s.views id ≡ some (Worker c) → c'.worker ≡ c.worker
      → c'.terms ≡ c.terms → length (messages c) ≤ length (messages c') → length words' ≡ length s.words
      → length homes' ≡ length s.homes
      → ((j : ℕ) → j ≢ c.worker → Stands s words' homes' j) → IsLaneOfTable words' homes' r.storage_state c' c.worker
      → StartsWith r.storage_state.told c'.seen
      → LanesHold key record { words = words'; homes = homes'; views = set s.views id (Worker c') }
  worker_moves id c c' words' homes' at same terms more wide deep others lane seen =
      let f = r.each_view id (Worker c) at in let w : ℕ = c.worker in
      let states' : ℕ → WorkerState = put r.states w c' in let was = r.each_seen w f.2 in
      let made : w < r.storage_state.made = f.0 in record {
        states = states';
        storage_state = r.storage_state;
        legal = r.legal;
        legal_told = r.legal_told;
        told_first = r.told_first;
        same_terms = r.same_terms;
        wide = wide ∙ r.wide;
        deep = deep ∙ r.deep;
        each_lane = λ j l. dite (ℕ_discrete j w)
            (λ e. subst (λ (z : ℕ × WorkerState). IsLaneOfTable words' homes' r.storage_state z.1 z.0)
            (λ i. (sym e i, (sym (put_here r.states w c') ∙ ap states' (sym e)) i)) lane)
            (λ other. let st = others j other in subst (λ (z : WorkerState). IsLaneOfTable words' homes' r.storage_state z j)
            (sym (put_else r.states w c' j other))
            (lane_same (r.states j) _ _ _ _ _ _ _ _ _ _ _ _ (at_home s.homes j)
            (at_home homes' j) refl refl refl refl st.0 st.1 st.2 (r.each_lane j l)));
        each_seen = λ j l. dite (ℕ_discrete j w)
            (λ e. subst (λ (z : ℕ × WorkerState). StartsWith r.storage_state.told z.1.seen
            × (z.1.terms ≡ key.terms)
            × (z.1.worker ≡ z.0)) (λ i. (sym e i, (sym (put_here r.states w c') ∙ ap states' (sym e)) i))
            (seen, terms ∙ (ap (λ (z : WorkerState). z.terms) (sym f.1) ∙ was.1), same))
            (λ other. subst (λ (z : WorkerState). StartsWith r.storage_state.told z.seen × (z.terms ≡ key.terms)
            × (z.worker ≡ j)) (sym (put_else r.states w c' j other)) (r.each_seen j l));
        each_view = λ j v e. ⊎_elim
            (λ (x : (j ≡ id) × (Worker c' ≡ v)). subst (λ (z : ℕ × LaneView). IsViewOf key states' r.storage_state z.0 z.1)
            (λ i. (sym x.0 i, x.1 i)) (
              subst (λ (z : ℕ). z < r.storage_state.made) (sym same) made,
              ap states' same ∙ put_here r.states w c',
              subst (λ (z : ℕ). z < key.workers) (sym same) f.2,
            ))
            (λ (x : (j ≢ id) × (get_elem? s.views j ≡ some v)). stay j v (λ z. x.0 (r.apart j id v (Worker c) w x.1 at z refl))
            (r.each_view j v x.1))
            (at_set s.views id j (Worker c') v e);
        apart = apart_set s.views id (Worker c) (Worker c') at (λ n e. ap (λ (z : ℕ). some z) (sym same) ∙ e) r.apart;
        looked = λ k j n e l. let was_ = r.looked k j n e l in dite (ℕ_discrete j w)
            (λ (same : j ≡ w). let low : n ≤ length (messages c) = subst (λ (z : WorkerState). n ≤ length (messages z))
            (ap r.states same ∙ f.1) was_ in
            let more' : length (messages c) ≤ length (messages c') = more in
            subst (λ (z : WorkerState). n ≤ length (messages z)) (sym (ap states' same ∙ put_here r.states w c'))
            (let g : n ≤ length (messages c') = omega arith in g))
            (λ other. subst (λ (z : WorkerState). n ≤ length (messages z)) (sym (put_else r.states w c' j other)) was_);
        later = λ j l. let l' : r.storage_state.made ≤ j = l in
            put_else r.states w c' j (λ e. let e' : j ≡ w = e in absurd (omega arith)) ∙ r.later j l;
      }
    where
      stay : (j : ℕ) (v : LaneView) → worker_seated v ≢ some c.worker
          → IsViewOf key r.states r.storage_state j v
          → IsViewOf key (put r.states c.worker c') r.storage_state j v
      stay j Nobody other f = tt
      stay j (Worker u) other f =
          (f.0, put_else r.states c.worker c' u.worker (λ e. other (ap (λ (z : ℕ). some z) e)) ∙ f.1, f.2)
      stay j (Storage d) other f = f
      stay j (Comparing d u) other f = f
      stay j (Told t) other f = f
      stay j (TwoTold t u) other f = f
      stay j (Checking u t) other f = (
        (f.0.0, put_else r.states c.worker c' u.worker (λ e. other (ap (λ (z : ℕ). some z) e)) ∙ f.0.1, f.0.2),
        f.1,
      )

  -- a step of storage on the lane w
  pub storage_moves : (id : ℕ) (d d' : StorageState) (w : ℕ) (words' : List ℕ) (homes' : UnheldSlots)
      → get_elem? s.views id ≡ some (Storage d)
      → d'.terms ≡ d.terms → d'.made ≡ d.made → LegalBy key.terms d'.history → LegalBy key.terms d'.told
      → StartsWith d'.history d'.told → StartsWith d'.told d.told
      → length words' ≡ length s.words → length homes' ≡ length s.homes
      → ((j : ℕ) → j ≢ w → Stands s words' homes' j)
      → ((j : ℕ) → j ≢ w → (worker_share d'.history j ≡ worker_share d.history j)
      × (worker_share d'.told j ≡ worker_share d.told j)
      × (times j d'.byes ≡ times j d.byes)
      × (open_at d'.holding j ≡ open_at d.holding j))
      → (w < key.workers → IsLaneOfTable words' homes' d' (r.states w) w)
      → ((k j n : ℕ) → get_elem? d'.looks k ≡ some (j, n)
      → (get_elem? d.looks k ≡ some (j, n)) ⊎ (j < key.workers → n ≤ length (messages (r.states j))))
      → LanesHold key record { words = words'; homes = homes'; views = set s.views id (Storage d') }
  storage_moves id d d' w words' homes' at terms made legal legal_told first longer wide deep others apart
      lane looks =
      let f = r.each_view id (Storage d) at in let is : r.storage_state ≡ d = f.1 in record {
        states = r.states;
        storage_state = d';
        legal = legal;
        legal_told = legal_told;
        told_first = first;
        same_terms = terms ∙ (ap (λ (z : StorageState). z.terms) (sym is) ∙ r.same_terms);
        wide = wide ∙ r.wide;
        deep = deep ∙ r.deep;
        each_lane = λ j l. dite (ℕ_discrete j w)
            (λ e. subst (λ (z : ℕ). IsLaneOfTable words' homes' d' (r.states z) z) (sym e)
            (lane (subst (λ (z : ℕ). z < key.workers) e l)))
            (λ other. let st = others j other in let ap' = apart j other in
            lane_same (r.states j) _ _ _ _ _ _ _ _ _ _ _ _ (at_home s.homes j)
            (at_home homes' j) ap'.0 ap'.1 ap'.2 ap'.3 st.0 st.1 st.2
            (subst (λ (z : StorageState). IsLaneOfTable s.words s.homes z (r.states j) j) is (r.each_lane j l)));
        each_seen = λ j l. let was = r.each_seen j l in (
          starts_trans d'.told d.told (r.states j).seen longer
              (subst (λ (z : StorageState). StartsWith z.told (r.states j).seen) is was.0),
          was.1,
          was.2,
        );
        each_view = λ j v e. ⊎_elim
            (λ (x : (j ≡ id) × (Storage d' ≡ v)). subst (λ (z : ℕ × LaneView). IsViewOf key r.states d' z.0 z.1)
            (λ i. (sym x.0 i, x.1 i)) (f.0, refl))
            (λ (x : (j ≢ id) × (get_elem? s.views j ≡ some v)). fits_later key r.states d d' j v
            (λ e. x.0 (e ∙ sym f.0)) (subst (λ (z : ℕ). d.made ≤ z) (sym made) (le_refl d.made)) longer
            (subst (λ (z : StorageState). IsViewOf key r.states z j v) is (r.each_view j v x.1)))
            (at_set s.views id j (Storage d') v e);
        looked = λ k j n e l. ⊎_elim (λ (h : get_elem? d.looks k ≡ some (j, n)).
            r.looked k j n (subst (λ (z : StorageState). get_elem? z.looks k ≡ some (j, n)) (sym is) h) l)
            (λ (h : j < key.workers
            → n ≤ length (messages (r.states j))). h l) (looks k j n e);
        apart = apart_set s.views id (Storage d) (Storage d') at (λ n e. absurd (some-ne-none n (sym e))) r.apart;
        later = λ j l. r.later j (subst (λ (z : ℕ). z ≤ j) (made ∙ ap (λ (z : StorageState). z.made) (sym is)) l);
      }

  -- a step at which a seat's view changes and nothing else
  pub view_moves : (id : ℕ) (v v' : LaneView) → get_elem? s.views id ≡ some v
      → ((n : ℕ) → worker_seated v' ≡ some n → worker_seated v ≡ some n) → IsViewOf key r.states r.storage_state id v'
      → LanesHold key record { words = s.words; homes = s.homes; views = set s.views id v' }
  view_moves id v v' at same fits = record {
    states = r.states;
    storage_state = r.storage_state;
    legal = r.legal;
    legal_told = r.legal_told;
    told_first = r.told_first;
    same_terms = r.same_terms;
    wide = r.wide;
    deep = r.deep;
    each_lane = r.each_lane;
    each_seen = r.each_seen;
    each_view = λ j u e. ⊎_elim
        (λ (x : (j ≡ id) × (v' ≡ u)). subst (λ (z : ℕ × LaneView). IsViewOf key r.states r.storage_state z.0 z.1)
        (λ i. (sym x.0 i, x.1 i)) fits)
        (λ (x : (j ≢ id) × (get_elem? s.views j ≡ some u)). r.each_view j u x.1) (at_set s.views id j v' u e);
    apart = apart_set s.views id v v' at same r.apart;
    looked = r.looked;
    later = r.later;
  }

  -- a further seat of no worker
  pub view_comes : (v : LaneView) → worker_seated v ≡ none → ((j : ℕ) → IsViewOf key r.states r.storage_state j v)
      → LanesHold key record { words = s.words; homes = s.homes; views = s.views ++ v ∷ [] }
  view_comes v none_ fits = record {
    states = r.states;
    storage_state = r.storage_state;
    legal = r.legal;
    legal_told = r.legal_told;
    told_first = r.told_first;
    same_terms = r.same_terms;
    wide = r.wide;
    deep = r.deep;
    each_lane = r.each_lane;
    each_seen = r.each_seen;
    each_view = λ j u e. ⊎_elim (λ (x : get_elem? s.views j ≡ some u). r.each_view j u x)
        (λ (x : (j ≡ length s.views) × (v ≡ u)). subst (IsViewOf key r.states r.storage_state j) x.1 (fits j))
        (at_end s.views v j u e);
    apart = apart_more s.views v (λ j n u _ _ e. some-ne-none n (sym e ∙ none_)) r.apart;
    looked = r.looked;
    later = r.later;
  }
