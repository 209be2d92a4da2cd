-- What an engine makes of requests, over any map of live entries.
use Rattle.std.specs.Prelude.{◌≡◌, ℕ, ◌⊎◌, Bool, true, false, IsTrue, List, [], Option, Some, None}
use Rattle.std.specs.FinMap as map
use Rattle.proto.specs.declared.dialect.Dialect.{Dialect}
use Rattle.proto.specs.declared.message.Request.{Request}
use Rattle.proto.specs.declared.message.Request.TheVariants.{Append, Prepend, Incr, Decr, Touch}
use Rattle.proto.specs.declared.message.Reply.{Reply}
use Rattle.proto.specs.declared.message.Reply.TheVariants.{NoMemory}
use Rattle.proto.specs.Cache.{Entry, Entries, Cache, empty_cache, has_arrived, found_at}
use Rattle.proto.specs.Commands.{Outcome, act}
use Rattle.proto.specs.Steps.{MayBeDated}
use Rattle.proto.specs.Sizes.{Sizes, item_limit}
use Rattle.engine.specs.declared.commands.Engine.{Engine}
use Rattle.engine.specs.Members.{MapOf}
use Rattle.engine.specs.Written.{IsWritten}
use Rattle.engine.specs.Keeping.{StaysKept, KeepsEntry}
use Rattle.engine.specs.Counting.{StaysAlike, CountsShown}
use Rattle.engine.specs.Outcomes.{outcome_at, needs_memory}

-- the cache of an engine, where these are its map's entries
abbrev pub cache_in : {M : Type 0} → (M → Entries) → Engine M → Cache
cache_in entries engine = record { entries = entries engine.map; last_cas = engine.last_cas; pending = engine.pending }

-- an engine of these sizes at the moment 0, which has no entry and gave out this cas number last
pub record IsNewEngine {M P S : Type 0} (m : MapOf M P S) (geometry : Sizes) (last_cas : ℕ) (dialect : Dialect)
    (engine : Engine M) : Type 0 where
  pub sizes : m.sizes engine.map ≡ geometry
  pub cache : cache_in m.entries engine ≡ empty_cache last_cas
  pub moment : m.moment engine.map ≡ 0
  pub keeps : m.keeps engine.map []
  pub dialect_is : engine.dialect ≡ dialect

-- how an entry is stored: written anew, changed where it stands, or left there if only its deadline
-- is to change
pub data Way : Type 0 where
  as_written : Way
  as_changed : Way
  as_touched : Way

-- a value that comes of the one before, by whether entries are changed in place
abbrev pub change_way : Bool → Way
change_way true = as_changed
change_way false = as_written

-- by the request
abbrev pub way_of : Request → Bool → Way
way_of (Append p) in_place = change_way in_place
way_of (Prepend p) in_place = change_way in_place
way_of (Incr key amount) in_place = change_way in_place
way_of (Decr key amount) in_place = change_way in_place
way_of (Touch asked) in_place = as_touched
way_of _ _ = as_written

-- the map left the entry of the key as it is, whose deadline may stand for that of the entry asked
-- for, and counted the touch
pub record IsLeftAs {M P S : Type 0} (m : MapOf M P S) (old : M) (key : List ℕ) (entry : Entry) (reply : Reply)
    (new : M) : Type 0 where
  pub deadline : Option ℕ
  pub there : map.get (m.entries old) key ≡ Some (record entry { deadline = deadline })
  pub stays : IsTrue (m.stays old (m.moment old) entry.deadline deadline)
  pub may_stay : MayBeDated (m.moment old) entry.deadline deadline reply
  pub touched : m.touches old key new
  pub entries : m.entries new ≡ m.entries old

-- the map wrote the entry anew, whose deadline may not stay
pub record IsDatedAnew {M P S : Type 0} (m : MapOf M P S) (old : M) (key : List ℕ) (entry : Entry) (new : M) : Type 0 where
  pub deadline : Option ℕ
  pub there : map.get (m.entries old) key ≡ Some (record entry { deadline = deadline })
  pub stays_not : m.stays old (m.moment old) entry.deadline deadline ≡ false
  pub writes : m.writes old key entry new

-- the map wrote an entry, changed the one of the key, or left it
abbrev pub Stores : {M P S : Type 0} → MapOf M P S → Way → M → List ℕ → Entry → Reply → M → Type 0
Stores m as_written old key entry reply new = m.writes old key entry new
Stores m as_changed old key entry reply new = m.changes old key entry new
Stores m as_touched old key entry reply new = IsLeftAs m old key entry reply new ⊎ IsDatedAnew m old key entry new

-- the map has the entry that was asked for, up to what a write may change, or has left the key's
pub record IsStored {M P S : Type 0} (m : MapOf M P S) (way : Way) (old : M) (key : List ℕ) (asked : Entries) (reply : Reply)
    (new : M) : Type 0 where
  pub entry : Entry
  pub asked_is : asked ≡ map.insert (m.entries old) key entry
  pub waits : has_arrived entry.deadline (m.moment old) ≡ false
  pub written : IsWritten (m.sizes old) (m.moment old) (m.entries old) key entry (m.entries new)
      ⊎ IsLeftAs m old key entry reply new
  pub exactly : Stores m way old key entry reply new
  pub kept : KeepsEntry m.sizes m.entries m.moment m.keeps old key entry new

-- the map has the entries asked for, and counted a read of each hit that is shown
pub record IsLeft {M P S : Type 0} (m : MapOf M P S) (old : M) (done : Outcome) (new : M) : Type 0 where
  pub entries : m.entries new ≡ done.entries
  pub shown : CountsShown m.reads m.alike old done.reply new
  pub kept : StaysKept m.keeps old new

-- the entries of the map are those asked for, up to what a write may change
abbrev pub Changes : {M P S : Type 0} → MapOf M P S → Way → M → Outcome → Option (List ℕ) → M → Type 0
Changes m way old done None new = IsLeft m old done new
Changes m way old done (Some key) new = IsStored m way old key done.entries done.reply new

-- the engine did what the outcome says, and stored its entry so
pub record IsDone {M P S : Type 0} (m : MapOf M P S) (way : Way) (old new : Engine M) (done : Outcome) (reply : Reply) : Type 0 where
  pub reply_is : reply ≡ done.reply
  pub last_cas : new.last_cas ≡ done.last_cas
  pub pending : new.pending ≡ done.pending
  pub changes : Changes m way old.map done done.stored new.map

-- memory was refused, and the cache stays
pub record IsDenied {M P S : Type 0} (m : MapOf M P S) (old new : Engine M) (done : Outcome) (reply : Reply) : Type 0 where
  pub reply_is : reply ≡ NoMemory
  pub entries_same : m.entries new.map ≡ m.entries old.map
  pub last_cas : new.last_cas ≡ old.last_cas
  pub pending : new.pending ≡ old.pending
  pub alike : StaysAlike m.alike old.map new.map
  pub kept : StaysKept m.keeps old.map new.map
  pub cause : needs_memory m.may_refuse done ≡ true

-- this outcome came of the cache that an engine had, or memory was refused
pub record Leaves {M P S : Type 0} (m : MapOf M P S) (way : Way) (old new : Engine M) (done : Outcome) (reply : Reply) : Type 0 where
  pub sizes_same : m.sizes new.map ≡ m.sizes old.map
  pub moment_same : m.moment new.map ≡ m.moment old.map
  pub in_place_same : new.in_place ≡ old.in_place
  pub dialect_same : new.dialect ≡ old.dialect
  pub gives : IsDone m way old new done reply ⊎ IsDenied m old new done reply

-- the request was executed at the map's last moment
abbrev pub LeavesExecuted : {M P S : Type 0} → MapOf M P S → Engine M → Request → Reply → Engine M → Type 0
LeavesExecuted m old q reply new =
    Leaves m (way_of q old.in_place) old new
    (act (item_limit (m.sizes old.map)) (cache_in m.entries old) (m.moment old.map) q) reply

-- the engine went on to the moment, and the request was executed on what was found there
pub record IsHandled {M P S : Type 0} (m : MapOf M P S) (old : Engine M) (t : ℕ) (q : Request) (reply : Reply)
    (new : Engine M) : Type 0 where
  pub found : Engine M
  pub found_is : cache_in m.entries found ≡ found_at (cache_in m.entries old) t
  pub sizes_same : m.sizes found.map ≡ m.sizes old.map
  pub moment_is : m.moment found.map ≡ t
  pub in_place_same : found.in_place ≡ old.in_place
  pub dialect_same : found.dialect ≡ old.dialect
  pub alike : m.alike old.map found.map
  pub kept : StaysKept m.keeps old.map found.map
  pub leaves : Leaves m (way_of q found.in_place) found new (outcome_at (m.sizes old.map) (cache_in m.entries old) t q) reply
