-- Where the entries of a segmented map stand, how it writes, how it counts reads, and what stays.
use Rattle.std.specs.Prelude.{◌≡◌, ℕ, ◌+◌, ◌-◌, ◌*◌, ◌/◌, ◌⊎◌, min, nat_le, nat_lt, ◌==◌, if◌then◌else◌, Bool, ◌&&◌, ◌||◌, IsTrue, true, false, List, Option, Some, None}
use Rattle.std.specs.FinMap as finite
use Rattle.proto.specs.declared.message.Reply.{Reply}
use Rattle.proto.specs.Cache.{Entry, has_arrived}
use Rattle.proto.specs.Steps.{MayBeDated}
use Rattle.proto.specs.Sizes.{item_limit}
use Rattle.proto.specs.Buckets.{life_width, MayLive}
use Rattle.segments.specs.declared.place.Place.{Place}
use Rattle.segments.specs.Items.{Item, IsStorable, fits_over, item_deadline}
use Rattle.segments.specs.Pools.{PoolState, key_at, item_in, place_deadline, shared_at}
use Rattle.index.specs.declared.index.Entry.{Entry as Found}
use Rattle.index.specs.Searches.{IsEntryOf}
use Rattle.segments.specs.Changes.{with_read, with_item_at, with_segment_hit}
use Rattle.segments.specs.Rules.{goes_over_by, shares_one_chain}
use Rattle.segcache.specs.State.{MapState, IsSegmentedMap}
use Rattle.segcache.specs.Shown.{current, entry_at, kept_entry, shown_entries}
use Rattle.segcache.specs.LiveItems.{live_others}
use Rattle.segcache.specs.ForgottenKeys.{PlacesItem}
use Rattle.segcache.specs.OwnDeadlines.{own_deadline_by}
use Rattle.segcache.specs.ItemBuckets.{bucket_for}
use Rattle.engine.specs.Deadlines.{is_storable_deadline}

-- the place is the current one of the key
abbrev pub StandsAt : MapState → List ℕ → Place → Type 0
StandsAt m key place = finite.get (current m.pool m.index) key ≡ Some place

-- a search of the index for the key finds this
abbrev pub FindsKey : MapState → List ℕ → Found → Type 0
FindsKey m key found = IsEntryOf (key_at m.pool) m.index key found

-- the item of an entry, which nobody has read yet
abbrev pub unread_by : Bool → List ℕ → Entry → Item
unread_by exact key e =
    record { cas = e.cas; flags = e.flags; key = key; value = e.value; reads = 0; own_deadline = own_deadline_by exact e.deadline }

abbrev pub unread : MapState → List ℕ → Entry → Item
unread m key e = unread_by m.pool.exact key e

-- an item with the value and the cas number of an entry
abbrev pub with_value : Entry → Item → Item
with_value e i = record i { value = e.value; cas = e.cas }

-- whether a life, of which what is above 8,388,608 seconds doesn't count, loses less than two
-- widths of its bucket
abbrev pub loses_little : ℕ → ℕ → ℕ → Bool
loses_little t asked given = nat_lt (min asked (t + 8388608)) (given + 2 * life_width (asked - t))

-- whether a write at the moment t that asks for the first deadline may give the second one
abbrev pub may_give : ℕ → Option ℕ → Option ℕ → Bool
may_give t None None = true
may_give t (Some asked) (Some given) = nat_lt t given && nat_le given asked && loses_little t asked given
may_give t _ _ = false

-- whether a touch at the moment t that asks for the first deadline leaves an entry that has the
-- second one, which it may
abbrev pub stays_as : ℕ → Option ℕ → Option ℕ → Bool
stays_as t None None = true
stays_as t (Some asked) (Some given) =
    nat_lt t given && nat_le given asked
    && (loses_little t asked given || nat_le (asked - given) ((asked - t) / 8))
stays_as t _ _ = false

-- whether an item with the first deadline of its own, which hasn't come at the moment t, goes into
-- a segment with the second one: that is the same or little earlier, and may have come; or there is
-- none, where all stand in one chain
abbrev pub suits_segment : Bool → ℕ → Option ℕ → Option ℕ → Bool
suits_segment one_chain t None None = true
suits_segment one_chain t None (Some shared) = false
suits_segment one_chain t (Some own) None = one_chain && nat_lt t own
suits_segment one_chain t (Some own) (Some shared) =
    nat_lt t own && nat_le shared own && (loses_little t own shared || nat_le (own - shared) ((own - t) / 8))

-- whether an item that asks for the one deadline may stand in a segment with the other one: a write
-- may give that, or the item has its own, which goes in there
abbrev pub may_share_segment : Bool → Bool → ℕ → Option ℕ → Option ℕ → Bool
may_share_segment exact one_chain t asked shared =
    may_give t asked shared || (exact && is_storable_deadline asked && suits_segment one_chain t asked shared)

-- whether it may in one of a pool
abbrev pub may_share_in : PoolState → ℕ → Option ℕ → Option ℕ → Bool
may_share_in p t asked shared = may_share_segment p.exact (shares_one_chain p.eviction p.exact) t asked shared

-- Whether an item goes over the one of its key at a place: by the rule of the least read, or where
-- items have their own deadlines, if it takes as many bytes and may stand in that segment.
abbrev pub goes_over : MapState → Option ℕ → Item → Place → Bool
goes_over m asked i place =
    goes_over_by m.pool.eviction m.pool.exact && may_share_in m.pool m.moment asked (shared_at m.pool place)
    && fits_over i (item_in m.pool place)

-- The item went over the one of its key, of which the read count stays. It has its own deadline,
-- the one asked for, or that of the segment. Nothing else changed, and of what was shown nothing
-- was forgotten.
pub record GoesOver (old : MapState) (i : Item) (asked : Option ℕ) (new : MapState) : Type 0 where
  pub place : Place
  pub stands : StandsAt old i.key place
  pub goes : IsTrue (goes_over old asked i place)
  pub found : Item
  pub is_at : item_in old.pool place ≡ Some found
  pub may_live : MayLive old.moment asked (item_deadline i (shared_at old.pool place))
  pub exact : old.pool.exact ≡ true → is_storable_deadline asked ≡ true → item_deadline i (shared_at old.pool place) ≡ asked
  pub new_is : new ≡ record old { pool = with_item_at old.pool place (record i { reads = found.reads }) }
  pub entries : shown_entries new.pool new.index old.moment
      ≡ finite.insert (shown_entries old.pool old.index old.moment) i.key
      (kept_entry (item_deadline i (shared_at old.pool place)) i)

-- The entry's item, which a segment can hold and which doesn't go over another, was placed in its
-- bucket, at the map's moment, where the key's old item is no longer live; the entry stands there
-- with a deadline that it may get.
pub record WritesAnew (old : MapState) (key : List ℕ) (entry : Entry) (new : MapState) : Type 0 where
  pub anew : (place : Place) → StandsAt old key place → goes_over old entry.deadline (unread old key entry) place ≡ false
  pub storable : IsStorable (item_limit old.pool.sizes) (unread old key entry)
  pub placed : PlacesItem (live_others key old.marks old.moment) old.pool old.index
      (bucket_for old.pool old.moment entry.deadline) old.moment
      (unread old key entry) new.pool new.index
  pub deadline : Option ℕ
  pub may_live : MayLive old.moment entry.deadline deadline
  pub stands : entry_at new.pool placed.place ≡ record entry { deadline = deadline }
  pub exact : old.pool.exact ≡ true → is_storable_deadline entry.deadline ≡ true → deadline ≡ entry.deadline

-- the entry's item went over the one of its key, or is written anew
abbrev pub WritesToSegments : MapState → List ℕ → Entry → MapState → Type 0
WritesToSegments old key entry new = GoesOver old (unread old key entry) entry.deadline new ⊎ WritesAnew old key entry new

-- The key's item stands where it stood, with its flags and its deadline, and has the entry's value
-- and cas number: it takes as many bytes. Nothing else changed, and of what was shown nothing was
-- forgotten.
pub record ChangesInPlace (old : MapState) (key : List ℕ) (entry : Entry) (new : MapState) : Type 0 where
  pub place : Place
  pub stands : StandsAt old key place
  pub item : Item
  pub is_at : item_in old.pool place ≡ Some item
  pub flags : item.flags ≡ entry.flags
  pub deadline : place_deadline old.pool place ≡ entry.deadline
  pub waits : has_arrived entry.deadline old.moment ≡ false
  pub fits : IsTrue (fits_over (with_value entry item) (Some item))
  pub new_is : new ≡ record old { pool = with_item_at old.pool place (with_value entry item) }
  pub entries : shown_entries new.pool new.index old.moment
      ≡ finite.insert (shown_entries old.pool old.index old.moment) key entry

-- the entry's item takes more bytes or fewer than the key's
pub record FitsNot (old : MapState) (key : List ℕ) (entry : Entry) : Type 0 where
  pub place : Place
  pub stands : StandsAt old key place
  pub fits_not : fits_over (unread old key entry) (item_in old.pool place) ≡ false

-- the entry of the key is changed where it stands, and written anew where it doesn't fit there
abbrev pub ChangesSegments : MapState → List ℕ → Entry → MapState → Type 0
ChangesSegments old key entry new =
    ChangesInPlace old key entry new ⊎ (FitsNot old key entry × WritesToSegments old key entry new)

-- whether two deadlines are the same
abbrev pub is_same : Option ℕ → Option ℕ → Bool
is_same None None = true
is_same (Some one) (Some other) = one == other
is_same _ _ = false

-- whether a touch that asks for the first deadline leaves an entry that has the second one: if it
-- may; and where items have their own deadlines, if it is that one, as far as an item can have it
abbrev pub touch_leaves_by : Bool → ℕ → Option ℕ → Option ℕ → Bool
touch_leaves_by exact t asked given = if exact && is_storable_deadline asked then is_same asked given else stays_as t asked given

abbrev pub touch_leaves : MapState → ℕ → Option ℕ → Option ℕ → Bool
touch_leaves m t asked given = touch_leaves_by m.pool.exact t asked given

-- a hit of the segment of the key's item was counted, and nothing else changed
pub record IsTouched (old : MapState) (key : List ℕ) (new : MapState) : Type 0 where
  pub place : Place
  pub stands : StandsAt old key place
  pub new_is : new ≡ record old { pool = with_segment_hit old.pool place.segment }

-- the key's entry was left as it is, whose deadline may stand for the one asked for, and the touch
-- was counted
pub record StaysDated (old : MapState) (key : List ℕ) (entry : Entry) (reply : Reply) (new : MapState) : Type 0 where
  pub deadline : Option ℕ
  pub there : finite.get (shown_entries old.pool old.index old.moment) key ≡ Some (record entry { deadline = deadline })
  pub stays : IsTrue (touch_leaves old old.moment entry.deadline deadline)
  pub may_stay : MayBeDated old.moment entry.deadline deadline reply
  pub touched : IsTouched old key new
  pub entries : shown_entries new.pool new.index old.moment ≡ shown_entries old.pool old.index old.moment

-- it was written anew, since it may not
pub record IsWrittenAnew (old : MapState) (key : List ℕ) (entry : Entry) (new : MapState) : Type 0 where
  pub deadline : Option ℕ
  pub there : finite.get (shown_entries old.pool old.index old.moment) key ≡ Some (record entry { deadline = deadline })
  pub stays_not : touch_leaves old old.moment entry.deadline deadline ≡ false
  pub writes : WritesToSegments old key entry new

abbrev pub DatesSegments : MapState → List ℕ → Entry → Reply → MapState → Type 0
DatesSegments old key entry reply new = StaysDated old key entry reply new ⊎ IsWrittenAnew old key entry new

-- the key's item was read once more, and nothing else changed
pub record IsReadAgain (old : MapState) (key : List ℕ) (new : MapState) : Type 0 where
  pub place : Place
  pub stands : StandsAt old key place
  pub new_is : new ≡ record old { pool = with_read old.pool place }

-- no item came or went, nor was one read: the pool is the same, and index and marks are those of it
pub record HasSamePool (old new : MapState) : Type 0 where
  pub pool : new.pool ≡ old.pool
  pub kept : IsSegmentedMap new
