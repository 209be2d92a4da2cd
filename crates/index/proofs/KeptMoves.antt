-- Tables that are relocated by the moves that keep their items, one after the other.
use Rattle.std.proofs.Common.{◌≡◌, ◌≢◌, ◌⊎◌, ℕ, ◌<◌, false, cond, List, [], ◌∷◌, length, get_or, Option, Some, None, refl, sym}
use Rattle.std.proofs.Common.{ap, subst, ◌∙◌, inl, inr}
use Rattle.std.specs.Prelude.{bytes_eq, if◌then◌else◌, option_and_then, All, IfSome, IsSome}
use Rattle.std.specs.List.{list_any}
use Rattle.std.specs.FinMap as map
use Rattle.std.proofs.lemmas.Bool.{cases_Bool, false≢true}
use Rattle.std.proofs.lemmas.Slice.Eq.{bytes_eq-Decides}
use Rattle.std.proofs.lemmas.List.Elements.{All-head, All-tail}
use Rattle.std.proofs.lemmas.List.Folds.{list_any_none}
use Rattle.segments.specs.declared.place.Place.{Place}
use Rattle.segments.specs.declared.place.Move.{Move}
use Rattle.segments.specs.Places.{same_place, moved_by}
use Rattle.segments.proofs.MovedPlaces.{same_place_is, same_place_itself}
use Rattle.index.specs.Keys.{KeysOf}
use Rattle.index.specs.declared.layout.Layout.{Layout}
use Rattle.index.specs.Layouts.{IsInLayout}
use Rattle.index.specs.Table.{Table, IsIndex, HasPlace, IsMap, IsSameSize, places, place_at}
use Rattle.index.specs.Relocating.{IsRelocated, CanRelocate}
use Rattle.index.proofs.SlotsAsMap.{stands_from_get, get-insert}
use Rattle.index.proofs.KeptKeys.{held_key}
use Rattle.index.proofs.RelocatedTables.{held_at, at_held, same_size, retargeted}
use Rattle.proto.proofs.Options.{value_there}
use Rattle.segments.proofs.MovedPlaces.{if_some_map}

-- the keys, with one at a place
abbrev pub rekeyed : KeysOf → Place → List ℕ → KeysOf
rekeyed keys target key p = if same_place target p then Some key else keys p

-- what is kept while a table is relocated: it can be by the rest of the moves, which leads where
-- all of them do
pub record IsRelocating (before after : KeysOf) (moves rest : List Move) (start t : Table) : Type 0 where
  pub keys : KeysOf
  pub index : IsIndex keys t
  pub can : CanRelocate keys after t rest
  pub lost : All (λ m. m.target ≡ None → HasPlace t m.source → ⊥) rest
  pub same : All (λ m. IsSome m.target → keys m.source ≡ before m.source) rest
  pub size : IsSameSize start t
  pub ends : (end : Table) → IsRelocated keys after (moved_by rest) t end
      → IsRelocated before after (moved_by moves) start end

-- places that differ aren't the same
apart : (a b : Place) → a ≢ b → same_place a b ≡ false
apart a b differ =
    elim (cases_Bool (same_place a b)) [
      | inl t ↦ absurd (differ (same_place_is a b t))
      | inr f ↦ f
    ]

-- a move that forgets its item is passed
pub skips : (before after : KeysOf) (moves : List Move) (m : Move) (rest : List Move) (start t : Table)
    → IsRelocating before after moves (m ∷ rest) start t → m.target ≡ None
    → IsRelocating before after moves rest start t
skips before after moves m rest start t h none =
    let lost = All-head (λ (l : Move). l.target ≡ None → HasPlace t l.source → ⊥) m rest h.lost none in
    let other : (p : Place) → HasPlace t p → same_place m.source p ≡ false =
    λ p held. apart m.source p (λ e. lost (subst (HasPlace t) (sym e) held)) in
    record {
      keys = h.keys;
      index = h.index;
      can = record {
        held = All-tail (λ (l : Move). IsSome l.target → HasPlace t l.source) m rest h.can.held;
        in_turn = h.can.in_turn.1;
        moved = All-tail (λ (l : Move). IfSome l.target (λ place. after place ≡ h.keys l.source)) m rest h.can.moved;
        inside = All-tail (λ (l : Move). IfSome l.target (IsInLayout t.layout)) m rest h.can.inside;
        others = λ p held none_of. h.can.others p held (let f = other p held in rw f none_of);
      };
      lost = All-tail (λ (l : Move). l.target ≡ None → HasPlace t l.source → ⊥) m rest h.lost;
      same = All-tail (λ (l : Move). IsSome l.target → h.keys l.source ≡ before l.source) m rest h.same;
      size = h.size;
      ends = λ end k. h.ends end (retargeted h.keys after (moved_by rest) (moved_by (m ∷ rest)) t end k
          (λ p held. let f = other p held in rw f refl));
    }

module _ (before after : KeysOf) (moves : List Move) (m : Move) (rest : List Move) (start t : Table)
    (h : IsRelocating before after moves (m ∷ rest) start t)
    (target : Place) (is : m.target ≡ Some target) (key : List ℕ) (own : h.keys m.source ≡ Some key) where
  held_source : HasPlace t m.source
  held_source = All-head (λ (l : Move). IsSome l.target → HasPlace t l.source) m rest h.can.held (rw is refl)

  -- where the key is before the move
  pub key_held : place_at h.keys t key ≡ Some m.source
  key_held = at_held h.keys t key m.source h.index held_source own

  -- the target has the key after the moves
  target_key : after target ≡ Some key
  target_key =
      subst (λ (o : Option Place). IfSome o (λ place. after place ≡ h.keys m.source)) is
      (All-head (λ (l : Move). IfSome l.target (λ place. after place ≡ h.keys l.source)) m rest h.can.moved)
      ∙ own

  -- no later move starts at the target or the source
  later_source : All (λ l. m.source ≢ l.source) rest
  later_source k d lt = (h.can.in_turn.0 k d lt).0

  later_target : All (λ l. target ≢ l.source) rest
  later_target k d lt = λ e. (h.can.in_turn.0 k d lt).1 (is ∙ ap Some e)

  -- the keys stay at the places that are held, other than the source
  pub others_keep : (p : Place) → HasPlace t p → p ≢ m.source → rekeyed h.keys target key p ≡ h.keys p
  others_keep p held differ =
      elim (cases_Bool (same_place target p)) [
        | inl y ↦
            let p_is : target ≡ p = same_place_is target p y in
            let f = apart m.source p (λ e. differ (sym e)) in
            let rest_none : list_any (λ l. same_place l.source p) rest ≡ false =
            list_any_none (λ (l : Move). same_place l.source p) rest
            (λ k d lt. apart (get_or rest k d).source p (λ e. later_target k d lt (p_is ∙ sym e))) in
            let none : list_any (λ l. same_place l.source p) (m ∷ rest) ≡ false = rw f rest_none in
            let kept : h.keys p ≡ Some key = sym (h.can.others p held none) ∙ ap after (sym p_is) ∙ target_key in
            rw y (sym kept)
        | inr n ↦ rw n refl
      ]

  pub target_rekeyed : rekeyed h.keys target key target ≡ Some key
  target_rekeyed = let y = same_place_itself target in rw y refl

  pub target_inside : IsInLayout t.layout target
  target_inside =
      subst (λ (o : Option Place). IfSome o (IsInLayout t.layout)) is
      (All-head (λ (l : Move). IfSome l.target (IsInLayout t.layout)) m rest h.can.inside)

  module _ (u : Table) (put : IsMap (rekeyed h.keys target key) u (map.insert (places h.keys t) key target)) where
    -- where a key is after the move
    place_put : (q : List ℕ) → place_at (rekeyed h.keys target key) u q
        ≡ cond (bytes_eq q key) (Some target) (place_at h.keys t q)
    place_put q = ap (λ ps. map.get ps q) put.places_are ∙ get-insert (places h.keys t) key target q

    -- a place that is held after the move is the target, or was held by another key
    put_cases : (p : Place) → HasPlace u p → (p ≡ target)
        ⊎ ((q : List ℕ) × (q ≢ key) × (place_at h.keys t q ≡ Some p) × (rekeyed h.keys target key p ≡ Some q))
    put_cases p held =
        let k = value_there (rekeyed h.keys target key p) (held_key (rekeyed h.keys target key) u put.index p held) in
        let at : place_at (rekeyed h.keys target key) u k.0 ≡ Some p =
        at_held (rekeyed h.keys target key) u k.0 p put.index held k.1 in
        elim (cases_Bool (bytes_eq k.0 key)) [
          | inl same ↦ (let e : Some target ≡ Some p = rw same at (sym (place_put k.0) ∙ at) in inl cc)
          | inr other ↦
              let e : place_at h.keys t k.0 ≡ Some p = rw other at (sym (place_put k.0) ∙ at) in
              inr (k.0, λ q_is. false≢true (sym other ∙ (bytes_eq-Decides k.0 key).1 q_is), e, k.1)
        ]

    -- other places are held still
    still_held : (p : Place) → HasPlace t p → m.source ≢ p → HasPlace u p
    still_held p held differ =
        let k = value_there (h.keys p) (held_key h.keys t h.index p held) in
        let at : place_at h.keys t k.0 ≡ Some p = at_held h.keys t k.0 p h.index held k.1 in
        let other : k.0 ≢ key = λ e. (let both : Some m.source ≡ Some p = sym key_held ∙ ap (place_at h.keys t) (sym e)
        ∙ at in differ cc) in
        elim (cases_Bool (bytes_eq k.0 key)) [
          | inl same ↦ absurd (other ((bytes_eq-Decides k.0 key).0 same))
          | inr f ↦ held_at (rekeyed h.keys target key) u k.0 p (place_put k.0 ∙ rw f at)
        ]

    later_key : (k : ℕ) (d : Move) → k < length rest
        → rekeyed h.keys target key (get_or rest k d).source ≡ h.keys (get_or rest k d).source
    later_key k d lt = let f = apart target (get_or rest k d).source (later_target k d lt) in rw f refl

    -- places at which no later move starts have their keys
    others_put : (p : Place) → HasPlace u p → list_any (λ l. same_place l.source p) rest ≡ false
        → after p ≡ rekeyed h.keys target key p
    others_put p held none =
        elim (put_cases p held) [
          | inl e ↦ ap after e ∙ target_key ∙ sym (ap (rekeyed h.keys target key) e ∙ target_rekeyed)
          | inr other ↦
              let was = stands_from_get h.keys t.slots other.0 p other.2 in
              let f = apart m.source p (λ e. other.1
              (let both : Some other.0 ≡ Some key = sym was.key_is ∙ ap h.keys (sym e) ∙ own in cc)) in
              let all_none : list_any (λ l. same_place l.source p) (m ∷ rest) ≡ false = rw f none in
              h.can.others p (held_at h.keys t other.0 p other.2) all_none ∙ was.key_is ∙ sym other.3
        ]

    -- nothing moves on from the target
    stays : (ms : List Move) → All (λ l. target ≢ l.source) ms → moved_by ms target ≡ Some target
    stays [] all = refl
    stays (l ∷ ms) all =
        let f = apart l.source target (λ e. All-head (λ (x : Move). target ≢ x.source) l ms all (sym e)) in
        rw f (stays ms (All-tail (λ (x : Move). target ≢ x.source) l ms all))

    leads_on : (q : List ℕ) → option_and_then (moved_by rest) (place_at (rekeyed h.keys target key) u q)
        ≡ option_and_then (moved_by (m ∷ rest))
        (place_at h.keys t q)
    leads_on q =
        elim (cases_Bool (bytes_eq q key)) [
          | inl same ↦
              let q_is : q ≡ key = (bytes_eq-Decides q key).0 same in
              let here : place_at h.keys t q ≡ Some m.source = ap (place_at h.keys t) q_is ∙ key_held in
              let there : place_at (rekeyed h.keys target key) u q ≡ Some target = place_put q ∙ rw same refl in
              let y = same_place_itself m.source in
              let goes : moved_by (m ∷ rest) m.source ≡ Some target = rw y is in
              ap (option_and_then (moved_by rest)) there ∙ stays rest later_target
              ∙ sym (ap (option_and_then (moved_by (m ∷ rest))) here ∙ goes)
          | inr other ↦
              let there : place_at (rekeyed h.keys target key) u q ≡ place_at h.keys t q =
              place_put q ∙ rw other refl in
              ap (option_and_then (moved_by rest)) there
              ∙ by (place_at h.keys t q) refl (λ e. false≢true (sym other ∙ (bytes_eq-Decides q key).1 e))
        ]
      where
        by : (o : Option Place) → place_at h.keys t q ≡ o → q ≢ key
            → option_and_then (moved_by rest) o ≡ option_and_then (moved_by (m ∷ rest)) o
        by None e differ = refl
        by (Some p) e differ =
            let was = stands_from_get h.keys t.slots q p e in
            let f = apart m.source p (λ s. differ
            (let both : Some q ≡ Some key = sym was.key_is ∙ ap h.keys (sym s) ∙ own in cc)) in
            rw f refl

    -- it is relocated by one move
    pub moves_on : IsSameSize t u → IsRelocating before after moves rest start u
    moves_on size =
        record {
          keys = rekeyed h.keys target key;
          index = put.index;
          can = record {
            held = λ k d lt some. still_held (get_or rest k d).source (All-tail
                (λ (l : Move). IsSome l.target → HasPlace t l.source) m rest h.can.held k d lt some)
                (later_source k d lt);
            in_turn = h.can.in_turn.1;
            moved = λ k d lt.
                if_some_map {A = λ place. after place ≡ h.keys (get_or rest k d).source}
                {B = λ place. after place ≡ rekeyed h.keys target key
                (get_or rest k d).source} (get_or rest k d).target
                (All-tail (λ (l : Move). IfSome l.target (λ place. after place ≡ h.keys l.source)) m rest
                h.can.moved k d lt)
                (λ place e. e ∙ sym (later_key k d lt));
            inside = subst (λ (y : Layout). All (λ (l : Move). IfSome l.target (IsInLayout y)) rest) (sym size.layout)
                (All-tail (λ (l : Move). IfSome l.target (IsInLayout t.layout)) m rest h.can.inside);
            others = others_put;
          };
          lost = λ k d lt none held.
              elim (put_cases (get_or rest k d).source held) [
                | inl e ↦ later_target k d lt (sym e)
                | inr other ↦ All-tail (λ (l : Move). l.target ≡ None → HasPlace t l.source → ⊥) m rest h.lost k
                    d lt none
                    (held_at h.keys t other.0 (get_or rest k d).source other.2)
              ];
          same = λ k d lt some. later_key k d lt
              ∙ All-tail (λ (l : Move). IsSome l.target → h.keys l.source ≡ before l.source) m rest h.same k d lt some;
          size = same_size start t u h.size size;
          ends = λ end k. h.ends end record { index = k.index; places = λ q. k.places q ∙ leads_on q };
        }
