-- What a touch leaves of an entry that is there, and whose new deadline hasn't come.
use Rattle.std.proofs.Common.{◌≡◌, ℕ, ℤ, Bool, false, true, List, ◌++◌, Option, Some, refl, sym, ap, subst, ◌∙◌, inl, inr}
use Rattle.std.specs.FinMap as map
use Rattle.proto.specs.declared.message.Reply.TheVariants.{Touched}
use Rattle.proto.specs.Cache.{Entry, Cache, has_arrived, deadline_of}
use Rattle.proto.specs.Commands.{Outcome, touch}
use Rattle.proto.specs.Steps.{MayBeDated}
use Rattle.engine.specs.declared.commands.Engine.{Engine}
use Rattle.engine.specs.Members.{MapOf}
use Rattle.engine.specs.Written.{IsWritten}
use Rattle.proto.specs.Stored.{stored_item_of}
use Rattle.engine.specs.Keeping.{StaysKept, KeepsEntry}
use Rattle.engine.specs.Engines.{cache_in, as_touched, IsLeftAs, IsStored, Leaves}

-- the entry with the deadline asked for
abbrev pub asking : Entry → Option ℕ → Entry
asking e asked = record e { deadline = asked }

-- the outcome
abbrev pub dated_outcome : Cache → List ℕ → Entry → Option ℕ → Outcome
dated_outcome cache key e asked = record {
  entries = map.insert cache.entries key (asking e asked);
  last_cas = cache.last_cas;
  pending = cache.pending;
  reply = Touched;
  stored = Some key;
}

-- it is that of a touch
touch_is : (cache : Cache) (t : ℕ) (key : List ℕ) (exptime : ℤ) (o : Option Entry) (e : Entry) (asked : Option ℕ)
    → o ≡ Some e → asked ≡ deadline_of exptime t → has_arrived asked t ≡ false
    → dated_outcome cache key e asked ≡ touch o cache t key exptime
touch_is cache t key exptime o e asked there is waits =
    let later : has_arrived (deadline_of exptime t) t ≡ false =
    ap (λ (d : Option ℕ). has_arrived d t) (sym is) ∙ waits in
    rw (there, later, is) refl

-- an engine whose map has stored the entry so leaves what the touch says
leaves_touched : {M P S : Type 0} (m : MapOf M P S) (old new : Engine M) (key : List ℕ) (exptime : ℤ) (e : Entry)
    (asked : Option ℕ)
    → map.get (m.entries old.map) key ≡ Some e → asked ≡ deadline_of exptime (m.moment old.map)
    → has_arrived asked (m.moment old.map) ≡ false
    → m.sizes new.map ≡ m.sizes old.map → m.moment new.map ≡ m.moment old.map → new.in_place ≡ old.in_place
    → new.dialect ≡ old.dialect
    → new.last_cas ≡ old.last_cas → new.pending ≡ old.pending
    → IsStored m as_touched old.map key (map.insert (m.entries old.map) key (asking e asked)) Touched new.map
    → Leaves m as_touched old new (touch (map.get (m.entries old.map) key) (cache_in m.entries old) (m.moment old.map) key exptime) Touched
leaves_touched m old new key exptime e asked there is waits sizes moment option dialect cas pending stored =
    subst (λ (done : Outcome). Leaves m as_touched old new done Touched)
    (touch_is (cache_in m.entries old) (m.moment old.map) key exptime (map.get (m.entries old.map) key) e asked there is waits)
    (record {
      sizes_same = sizes;
      moment_same = moment;
      in_place_same = option;
      dialect_same = dialect;
      gives = inl (record { reply_is = refl; last_cas = cas; pending = pending; changes = stored });
    })

-- a map that counted a touch and keeps the entries that it had keeps what it kept
touched_keeps : {M P S : Type 0} (m : MapOf M P S) (old new : M) (key : List ℕ) (e : Entry)
    → KeepsEntry m.sizes m.entries m.moment m.keeps old key e old → m.entries new ≡ m.entries old
    → StaysKept m.keeps old new → KeepsEntry m.sizes m.entries m.moment m.keeps old key e new
touched_keeps m old new key e kept entries stays items k adds bound =
    let r = kept items k adds bound in
    (entries ∙ r.0, stays (items ++ stored_item_of (m.moment old) key (Some e)) r.1)

-- where the entry is left as it is
pub leaves_there : {M P S : Type 0} (m : MapOf M P S) (old new : Engine M) (key : List ℕ) (exptime : ℤ) (e : Entry)
    (asked : Option ℕ) (b : Bool)
    → map.get (m.entries old.map) key ≡ Some e → asked ≡ deadline_of exptime (m.moment old.map)
    → has_arrived asked (m.moment old.map) ≡ false
    → b ≡ true → b ≡ m.stays old.map (m.moment old.map) asked e.deadline → MayBeDated (m.moment old.map) asked e.deadline Touched
    → KeepsEntry m.sizes m.entries m.moment m.keeps old.map key (asking e asked) old.map
    → new.in_place ≡ old.in_place → new.dialect ≡ old.dialect → new.last_cas ≡ old.last_cas → new.pending ≡ old.pending
    → m.sizes new.map ≡ m.sizes old.map → m.moment new.map ≡ m.moment old.map → m.entries new.map ≡ m.entries old.map
    → m.touches old.map key new.map → StaysKept m.keeps old.map new.map
    → Leaves m as_touched old new (touch (map.get (m.entries old.map) key) (cache_in m.entries old) (m.moment old.map) key exptime) Touched
leaves_there m old new key exptime e asked b there is waits holds decides may kept option dialect cas pending sizes moment entries touched stays =
    let left : IsLeftAs m old.map key (asking e asked) Touched new.map = record {
      deadline = e.deadline;
      there = there;
      stays = sym decides ∙ holds;
      may_stay = may;
      touched = touched;
      entries = entries;
    } in
    leaves_touched m old new key exptime e asked there is waits sizes moment option dialect cas pending
    (record {
      entry = asking e asked;
      asked_is = refl;
      waits = waits;
      written = inr left;
      exactly = inl left;
      kept = touched_keeps m old.map new.map key (asking e asked) kept entries stays;
    })

-- where it is written anew
pub leaves_anew : {M P S : Type 0} (m : MapOf M P S) (old new : Engine M) (key : List ℕ) (exptime : ℤ) (e w : Entry)
    (asked : Option ℕ) (b : Bool)
    → map.get (m.entries old.map) key ≡ Some e → asked ≡ deadline_of exptime (m.moment old.map)
    → has_arrived asked (m.moment old.map) ≡ false
    → b ≡ false → b ≡ m.stays old.map (m.moment old.map) asked e.deadline
    → m.sizes new.map ≡ m.sizes old.map → m.moment new.map ≡ m.moment old.map → new.in_place ≡ old.in_place
    → new.dialect ≡ old.dialect
    → new.last_cas ≡ old.last_cas → new.pending ≡ old.pending
    → w ≡ asking e asked
    → IsWritten (m.sizes old.map) (m.moment old.map) (m.entries old.map) key w (m.entries new.map)
    → m.writes old.map key w new.map
    → KeepsEntry m.sizes m.entries m.moment m.keeps old.map key w new.map
    → Leaves m as_touched old new (touch (map.get (m.entries old.map) key) (cache_in m.entries old) (m.moment old.map) key exptime) Touched
leaves_anew m old new key exptime e w asked b there is waits fails decides sizes moment option dialect cas pending same written writes kept =
    leaves_touched m old new key exptime e asked there is waits sizes moment option dialect cas pending
    (record {
      entry = asking e asked;
      asked_is = refl;
      waits = waits;
      written = inl (subst
          (λ (x : Entry). IsWritten (m.sizes old.map) (m.moment old.map) (m.entries old.map) key x (m.entries new.map))
          same written);
      exactly = inr (record {
        deadline = e.deadline;
        there = there;
        stays_not = sym decides ∙ fails;
        writes = subst (λ (x : Entry). m.writes old.map key x new.map) same writes;
      });
      kept = subst (λ (x : Entry). KeepsEntry m.sizes m.entries m.moment m.keeps old.map key x new.map) same kept;
    })
