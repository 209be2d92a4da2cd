-- Moves that forget their items, and moves that keep them.
use Rattle.std.proofs.Common.{◌≡◌, ◌≢◌, ℕ, Bool, true, false, List, [], ◌∷◌, get_or, Option, Some, None, refl, sym, ap, subst, ◌∙◌}
use Rattle.std.proofs.Common.{inl, inr, arith}
use Rattle.std.specs.Prelude.{◌&&◌, not, option_and_then, All, IfSome, IsSome, is_some}
use Rattle.std.specs.List.{list_any}
use Rattle.std.proofs.lemmas.Bool.{cases_Bool, false≢true}
use Rattle.std.proofs.lemmas.List.Elements.{All-cons}
use Rattle.std.proofs.lemmas.List.Folds.{list_any_at, list_any_none}
use Rattle.segments.specs.declared.place.Place.{Place}
use Rattle.segments.specs.declared.place.Move.{Move}
use Rattle.segments.specs.Places.{same_place, moved_by}
use Rattle.segments.proofs.MovedPlaces.{same_place_is, same_place_itself}
use Rattle.index.specs.Keys.{KeysOf}
use Rattle.index.specs.declared.layout.Layout.{Layout}
use Rattle.index.specs.Layouts.{IsInLayout}
use Rattle.index.specs.Table.{Table, IsIndex, HasPlace, place_at}
use Rattle.index.specs.Relocating.{IsRelocated, AreInTurn, CanRelocate, forget_lost}
use Rattle.index.proofs.KeptKeys.{held_key}
use Rattle.index.proofs.RelocatedTables.{held_at, at_held}
use Rattle.proto.proofs.Options.{value_there}

-- whether a move that forgets its item starts at a place
abbrev pub is_lost : List Move → Place → Bool
is_lost moves p = list_any (λ m. not (is_some m.target) && same_place m.source p) moves

-- a comparison tells two different places apart
differs : (a b : Place) → a ≢ b → same_place a b ≡ false
differs a b differ =
    elim (cases_Bool (same_place a b)) [
      | inl t ↦ absurd (differ (same_place_is a b t))
      | inr f ↦ f
    ]

-- what must hold together with something false is false
and_false : (b : Bool) → (b && false) ≡ false
and_false true = refl
and_false false = refl

-- no move of those starts at a place at which none does
not_lost : (moves : List Move) (p : Place) → All (λ l. p ≢ l.source) moves → is_lost moves p ≡ false
not_lost moves p all =
    list_any_none (λ (l : Move). not (is_some l.target) && same_place l.source p) moves
    (λ k d lt. ap (λ (b : Bool). not (is_some (get_or moves k d).target) && b)
    (differs (get_or moves k d).source p (λ e. all k d lt (sym e)))
    ∙ and_false (not (is_some (get_or moves k d).target)))

-- where a move keeps its item, no other forgets it
pub source_kept : (moves : List Move) → AreInTurn moves
    → All (λ l. IsSome l.target → is_lost moves l.source ≡ false) moves
source_kept [] turn = λ k d lt. absurd (omega (arith, lt))
source_kept (m ∷ moves) turn =
    All-cons (λ l. IsSome l.target → is_lost (m ∷ moves) l.source ≡ false) m moves
    (λ some. rw some (not_lost moves m.source (λ k d lt. (turn.0 k d lt).0)))
    (λ k d lt some.
    let f = differs m.source (get_or moves k d).source (turn.0 k d lt).0 in
    let first : (not (is_some m.target) && same_place m.source (get_or moves k d).source) ≡ false =
    rw f (and_false (not (is_some m.target))) in
    rw first (source_kept moves turn.1 k d lt some))

-- where a move forgets its item, the moves put it nowhere
pub lost_moved : (moves : List Move) (p : Place) → AreInTurn moves → is_lost moves p ≡ true → moved_by moves p ≡ None
lost_moved [] p turn h = absurd (false≢true h)
lost_moved (m ∷ moves) p turn h =
    elim (cases_Bool (same_place m.source p)) [
      | inl t ↦ rw t (by m.target refl t)
      | inr f ↦
          let first : (not (is_some m.target) && same_place m.source p) ≡ false =
          rw f (and_false (not (is_some m.target))) in
          rw f (lost_moved moves p turn.1 (rw first at h))
    ]
  where
    by : (o : Option Place) → m.target ≡ o → same_place m.source p ≡ true → m.target ≡ None
    by None e t = e
    by (Some r) e t =
        let p_is = same_place_is m.source p t in
        let rest : is_lost moves p ≡ false = not_lost moves p (λ k d lt same. (turn.0 k d lt).0 (p_is ∙ same)) in
        let whole : is_lost (m ∷ moves) p ≡ false = rw (e, rest) refl in
        absurd (false≢true (sym whole ∙ h))

module _ (keys after : KeysOf) (moves : List Move) (t u : Table) (can : CanRelocate keys after t moves)
    (index : IsIndex keys t)
    (taken : IsRelocated keys keys (forget_lost moves) t u) (same : u.layout ≡ t.layout) where
  -- a place that is held once lost items are out was held, and isn't lost
  pub held_before : (p : Place) → HasPlace u p → HasPlace t p × (is_lost moves p ≡ false)
  held_before p h =
      let k = value_there (keys p) (held_key keys u taken.index p h) in
      let at : place_at keys u k.0 ≡ Some p = at_held keys u k.0 p taken.index h k.1 in
      by k.0 (place_at keys t k.0) refl (sym (taken.places k.0) ∙ at)
    where
      by : (q : List ℕ) (o : Option Place) → place_at keys t q ≡ o
          → option_and_then (forget_lost moves) (place_at keys t q) ≡ Some p
          → HasPlace t p × (is_lost moves p ≡ false)
      by q None e went = (let no : None ≡ Some p = rw e at went in cc)
      by q (Some r) e went =
          let there : forget_lost moves r ≡ Some p = rw e at went in
          elim (cases_Bool (is_lost moves r)) [
            | inl y ↦ (let no : None ≡ Some p = rw y at there in cc)
            | inr n ↦
                let yes : Some r ≡ Some p = rw n at there in
                let same : r ≡ p = cc in
                (held_at keys t q p (e ∙ yes), subst (λ (x : Place). is_lost moves x ≡ false) same n)
          ]

  held_still : (p : Place) → HasPlace t p → is_lost moves p ≡ false → HasPlace u p
  held_still p h n =
      let k = value_there (keys p) (held_key keys t index p h) in
      held_at keys u k.0 p (taken.places k.0
      ∙ ap (option_and_then (forget_lost moves)) (at_held keys t k.0 p index h k.1) ∙ rw n refl)

  -- a table can be relocated by the moves once lost items are out
  pub can_still : CanRelocate keys after u moves
  can_still =
      record {
        held = λ k d lt some. held_still (get_or moves k d).source (can.held k d lt some)
            (source_kept moves can.in_turn k d lt some);
        in_turn = can.in_turn;
        moved = can.moved;
        inside = subst (λ (y : Layout). All (λ (l : Move). IfSome l.target (IsInLayout y)) moves) (sym same) can.inside;
        others = λ p h none. can.others p (held_before p h).0 none;
      }

  pub lost_out : All (λ m. m.target ≡ None → HasPlace u m.source → ⊥) moves
  lost_out k d lt none h =
      let m = get_or moves k d in
      let y = same_place_itself m.source in
      let here : (not (is_some m.target) && same_place m.source m.source) ≡ true = rw (none, y) refl in
      false≢true (sym (held_before m.source h).1
      ∙ list_any_at (λ (l : Move). not (is_some l.target) && same_place l.source m.source) moves k d lt here)

-- lost items out, and then the others moved
pub lost_and_moved : (moves : List Move) (p : Place) → AreInTurn moves
    → option_and_then (moved_by moves) (forget_lost moves p) ≡ moved_by moves p
lost_and_moved moves p turn =
    elim (cases_Bool (is_lost moves p)) [
      | inl y ↦ rw y (sym (lost_moved moves p turn y))
      | inr n ↦ rw n refl
    ]
