-- Tables that are relocated by changes of many places.
use Rattle.std.proofs.Common.{◌≡◌, ◌≢◌, ℕ, true, false, List, ◌∷◌, Option, Some, None, refl, sym, ap, subst, ◌∙◌, inl, inr}
use Rattle.std.specs.Prelude.{bytes_eq, option_and_then, is_some}
use Rattle.std.specs.FinMap as map
use Rattle.std.proofs.lemmas.Bool.{cases_Bool, false≢true}
use Rattle.std.proofs.lemmas.Slice.Eq.{bytes_eq-Decides}
use Rattle.segments.specs.declared.place.Place.{Place}
use Rattle.segments.specs.declared.place.Move.{Move}
use Rattle.segments.specs.Places.{same_place}
use Rattle.segments.proofs.MovedPlaces.{same_place_is, same_place_itself}
use Rattle.index.specs.declared.slots.Slot.{Slot}
use Rattle.index.specs.Keys.{KeysOf}
use Rattle.index.specs.Table.{Table, IsIndex, HasPlace, IsSameSize, places_in, place_at}
use Rattle.index.specs.Relocating.{IsRelocated, forget_place, forget_lost}
use Rattle.index.proofs.SlotsAsMap.{Stands, stands_from_get, get_from_stands, stands_once, get-remove}
use Rattle.index.proofs.KeptKeys.{keys_agree}

-- ---- one key taken out

-- where one key is taken out, its place is forgotten
pub forgotten : (keys : KeysOf) (slots : List Slot) (key : List ℕ) (place : Place) → keys place ≡ Some key
    → map.get (places_in keys slots) key ≡ Some place
    → (q : List ℕ) → map.get (map.remove (places_in keys slots) key) q
    ≡ option_and_then (forget_place place) (map.get (places_in keys slots) q)
forgotten keys slots key place is held q =
    elim (cases_Bool (bytes_eq q key)) [
      | inl same ↦
          let q_is : q ≡ key = (bytes_eq-Decides q key).0 same in
          let here : map.get (places_in keys slots) q ≡ Some place = ap (map.get (places_in keys slots)) q_is ∙ held in
          let itself = same_place_itself place in
          let gone : forget_place place place ≡ None = rw itself refl in
          get-remove (places_in keys slots) key q
          ∙ rw same (sym (ap (option_and_then (forget_place place)) here ∙ gone))
      | inr apart ↦
          let differ : q ≢ key = λ e. false≢true (sym apart ∙ (bytes_eq-Decides q key).1 e) in
          get-remove (places_in keys slots) key q ∙ rw apart (other (map.get (places_in keys slots) q) refl differ)
    ]
  where
    other : (o : Option Place) → map.get (places_in keys slots) q ≡ o → q ≢ key
        → o ≡ option_and_then (forget_place place) o
    other None e differ = refl
    other (Some p) e differ =
        elim (cases_Bool (same_place place p)) [
          | inl t ↦
              let has = (stands_from_get keys slots q p e).key_is in
              let both : Some q ≡ Some key = sym has ∙ ap keys (sym (same_place_is place p t)) ∙ is in
              absurd (differ cc)
          | inr f ↦ rw f refl
        ]

-- where a key doesn't have the place, none does
pub unforgotten : (keys : KeysOf) (slots : List Slot) (key : List ℕ) (place : Place) → keys place ≡ Some key
    → (Stands keys slots key place → ⊥)
    → (q : List ℕ) → map.get (places_in keys slots) q
    ≡ option_and_then (forget_place place) (map.get (places_in keys slots) q)
unforgotten keys slots key place is none q = by (map.get (places_in keys slots) q) refl
  where
    by : (o : Option Place) → map.get (places_in keys slots) q ≡ o → o ≡ option_and_then (forget_place place) o
    by None e = refl
    by (Some p) e =
        elim (cases_Bool (same_place place p)) [
          | inl t ↦
              let st = stands_from_get keys slots q p e in
              let p_is = sym (same_place_is place p t) in
              let both : Some q ≡ Some key = sym st.key_is ∙ ap keys p_is ∙ is in
              let q_is : q ≡ key = cc in
              absurd (none (subst (λ (k : List ℕ). Stands keys slots k place) q_is
              (subst (λ (r : Place). Stands keys slots q r) p_is st)))
          | inr f ↦ rw f refl
        ]

-- ---- relocated in steps

-- a key's place is held
pub held_at : (keys : KeysOf) (t : Table) (key : List ℕ) (p : Place) → place_at keys t key ≡ Some p → HasPlace t p
held_at keys t key p e = let st = stands_from_get keys t.slots key p e in
    record { at = st.at; in_range = st.in_range; used = st.used; place_is = st.place_is }

-- a held place is that of its key
pub at_held : (keys : KeysOf) (t : Table) (key : List ℕ) (p : Place) → IsIndex keys t → HasPlace t p → keys p ≡ Some key
    → place_at keys t key ≡ Some p
at_held keys t key p index h e =
    let st : Stands keys t.slots key p =
    record { at = h.at; in_range = h.in_range; used = h.used; place_is = h.place_is; key_is = e } in
    get_from_stands keys t.slots key p st (λ r. stands_once _ keys t.slots index key p r st)

-- a table that has the sizes of a second one, which has those of a first, has the sizes of the
-- first
pub same_size : (a b c : Table) → IsSameSize a b → IsSameSize b c → IsSameSize a c
same_size a b c h k = record { count = k.count ∙ h.count; hasher = k.hasher ∙ h.hasher; layout = k.layout ∙ h.layout }

-- it is enough to say where held places go
pub retargeted : (before after : KeysOf) (f g : Place → Option Place) (old new : Table)
    → IsRelocated before after f old new
    → ((p : Place) → HasPlace old p → f p ≡ g p) → IsRelocated before after g old new
retargeted before after f g old new h same =
    record { index = h.index; places = λ key. h.places key ∙ by key (place_at before old key) refl }
  where
    by : (key : List ℕ) (o : Option Place) → place_at before old key ≡ o → option_and_then f o ≡ option_and_then g o
    by key None e = refl
    by key (Some p) e = same p (held_at before old key p e)

-- two changes are one
pub composed : (a b c : KeysOf) (f g h : Place → Option Place) (t u v : Table) → IsRelocated a b f t u
    → IsRelocated b c g u v
    → ((p : Place) → HasPlace t p → option_and_then g (f p) ≡ h p) → IsRelocated a c h t v
composed a b c f g h t u v first second same =
    record {
      index = second.index;
      places = λ key. second.places key ∙ ap (option_and_then g) (first.places key)
          ∙ by key (place_at a t key) refl;
    }
  where
    by : (key : List ℕ) (o : Option Place) → place_at a t key ≡ o
        → option_and_then g (option_and_then f o) ≡ option_and_then h o
    by key None e = refl
    by key (Some p) e = same p (held_at a t key p e)

-- where held places keep their keys, nothing moves
pub relocated_itself : (before after : KeysOf) (f : Place → Option Place) (t : Table) → IsIndex before t
    → ((p : Place) → HasPlace t p → after p ≡ before p)
    → ((p : Place) → HasPlace t p → f p ≡ Some p) → IsRelocated before after f t t
relocated_itself before after f t index agree same =
    let m = keys_agree before after t index agree in
    record {
      index = m.index;
      places = λ key. ap (λ (ps : _). map.get ps key) m.places_are
          ∙ by key (place_at before t key) refl;
    }
  where
    by : (key : List ℕ) (o : Option Place) → place_at before t key ≡ o → o ≡ option_and_then f o
    by key None e = refl
    by key (Some p) e = sym (same p (held_at before t key p e))

-- ---- moves that forget their items

-- to forget where a move without a target starts, and then where the later ones without a target
-- do, is to forget the places of all of them
pub lost_step : (m : Move) (moves : List Move) (p : Place) → is_some m.target ≡ false
    → option_and_then (forget_lost moves) (forget_place m.source p) ≡ forget_lost (m ∷ moves) p
lost_step m moves p e =
    elim (cases_Bool (same_place m.source p)) [
      | inl t ↦ rw (e, t) refl
      | inr f ↦ rw (e, f) refl
    ]

-- a move that has a target adds no place to those that are forgotten
pub kept_step : (m : Move) (moves : List Move) (p : Place) → is_some m.target ≡ true
    → forget_lost moves p ≡ forget_lost (m ∷ moves) p
kept_step m moves p some = rw some refl

-- what is kept while the places are taken out at which moves start that forget their items
pub record IsLosing (keys : KeysOf) (moves rest : List Move) (start t : Table) : Type 0 where
  pub index : IsIndex keys t
  pub size : IsSameSize start t
  pub ends : (end : Table) → IsRelocated keys keys (forget_lost rest) t end
      → IsRelocated keys keys (forget_lost moves) start end

-- one of these places is taken out
pub loses : (keys : KeysOf) (moves : List Move) (m : Move) (rest : List Move) (start t u : Table)
    → IsLosing keys moves (m ∷ rest) start t
    → is_some m.target ≡ false
    → IsRelocated keys keys (forget_place m.source) t u → IsSameSize t u → IsLosing keys moves rest start u
loses keys moves m rest start t u h none taken size =
    record {
      index = taken.index;
      size = same_size start t u h.size size;
      ends = λ end k. h.ends end (composed keys keys keys (forget_place m.source) (forget_lost rest)
          (forget_lost (m ∷ rest)) t u end taken k
          (λ p held. lost_step m rest p none));
    }

-- a move that keeps its item is passed
pub passes : (keys : KeysOf) (moves : List Move) (m : Move) (rest : List Move) (start t : Table)
    → IsLosing keys moves (m ∷ rest) start t
    → is_some m.target ≡ true
    → IsLosing keys moves rest start t
passes keys moves m rest start t h some =
    record {
      index = h.index;
      size = h.size;
      ends = λ end k. h.ends end (retargeted keys keys (forget_lost rest) (forget_lost (m ∷ rest)) t end k
          (λ p held. kept_step m rest p some));
    }
