-- What an engine's request leaves, read as what it does to the segments.
use Rattle.std.proofs.Common.{◌≡◌, ℕ, Bool, false, List, Option, Some, None, refl, sym, ap, subst, ◌∙◌, inl, inr}
use Rattle.proto.specs.declared.message.Request.{Request}
use Rattle.proto.specs.declared.message.Reply.{Reply}
use Rattle.proto.specs.declared.message.Reply.TheVariants.{Values}
use Rattle.proto.specs.Cache.{Entry, Cache}
use Rattle.std.specs.FinMap as finite
use Rattle.proto.specs.Commands.{Outcome}
use Rattle.proto.specs.Steps.{has_hits}
use Rattle.segments.specs.declared.place.Place.{Place}
use Rattle.index.specs.declared.index.Entry.{Entry as Found}
use Rattle.engine.specs.declared.commands.Engine.{Engine}
use Rattle.engine.specs.declared.live_map.LiveMap.{Ghosts as MapOf}
use Rattle.engine.specs.Outcomes.{outcome_at}
use Rattle.engine.specs.Counting.{CountsShown, StaysAlike}
use Rattle.engine.specs.Engines.{Way, as_written, as_changed, as_touched, way_of, Changes, Stores, IsHandled}
use Rattle.segcache.specs.declared.segment_map.SegmentMap.{SegmentMap}
use Rattle.segcache.specs.Shown.{shown_entries}
use Rattle.segcache.specs.State.{MapState, IsSegmentedMap}
use Rattle.segcache.specs.StoreState.{sizes_in, segmented_cache}
use Rattle.segcache.specs.Writes.{StandsAt, FindsKey, WritesToSegments, ChangesSegments, touch_leaves, IsReadAgain, IsTouched, HasSamePool}
use Rattle.segcache.specs.Keeping.{KeepsStored}
use Rattle.segcache.specs.Requests.{LeavesSegments, HandlesSegments}
use Rattle.segcache.specs.Requests.LeavesSegments.{writes, changes, dates, reads, stays, refuses}

-- the members of a segmented map
abbrev pub members : MapOf SegmentMap Place Found
members =
    record {
      sizes = λ m. m.pool.sizes;
      entries = λ m. shown_entries m.pool m.index m.moment;
      moment = λ m. m.moment;
      may_refuse = false;
      stands = StandsAt;
      finds = FindsKey;
      writes = WritesToSegments;
      changes = ChangesSegments;
      reads = IsReadAgain;
      touches = IsTouched;
      stays = touch_leaves;
      alike = HasSamePool;
      keeps = KeepsStored;
    }

-- a reply without hits leaves the pool
stays_by : (way : Way) (found : MapState) (done : Outcome) (after : MapState) → IsSegmentedMap found → done.stored ≡ None
    → has_hits done.reply ≡ false → StaysAlike HasSamePool found after → LeavesSegments way found done after done.reply
stays_by way found done after kept none e alike = stays none e (alike found (record { pool = refl; kept = kept })).pool

-- and one with hits counts their reads
shown_by : (way : Way) (found : MapState) (done : Outcome) (after : MapState) (r : Reply) → IsSegmentedMap found
    → done.stored ≡ None → done.reply ≡ r
    → CountsShown IsReadAgain HasSamePool found r after → LeavesSegments way found done after done.reply
shown_by way found done after (Values hits) kept none e counts = reads hits none e counts
shown_by way found done after _ kept none e alike = stays_by way found done after kept none (ap has_hits e) alike

-- an item is changed or written
stored_by : (way : Way) (found : MapState) (done : Outcome) (after : MapState) (key : List ℕ) (e : Entry)
    → done.stored ≡ Some key
    → done.entries ≡ finite.insert (shown_entries found.pool found.index found.moment) key e
    → Stores members way found key e done.reply after → LeavesSegments way found done after done.reply
stored_by as_written found done after key e stored asked s = writes key e stored refl asked s
stored_by as_changed found done after key e stored asked s = changes key e stored refl asked s
stored_by as_touched found done after key e stored asked (inl s) =
    dates key e stored refl asked
    (inl (record {
      deadline = s.deadline;
      there = s.there;
      stays = s.stays;
      may_stay = s.may_stay;
      touched = s.touched;
      entries = ap (shown_entries after.pool after.index) (sym (ap (λ (m : MapState). m.moment) s.touched.new_is)) ∙ s.entries;
    }))
stored_by as_touched found done after key e stored asked (inr s) =
    dates key e stored refl asked (inr (record { deadline = s.deadline; there = s.there; stays_not = s.stays_not; writes = s.writes }))

-- what was asked for is written, or nothing is
changed_by : (way : Way) (found : MapState) (done : Outcome) (after : MapState) (stored : Option (List ℕ)) → IsSegmentedMap found
    → done.stored ≡ stored
    → Changes members way found done stored after → LeavesSegments way found done after done.reply
changed_by way found done after None kept e is = shown_by way found done after done.reply kept e refl is.shown
changed_by way found done after (Some key) kept e s =
    stored_by way found done after key s.entry e s.asked_is s.exactly

-- what an engine over segments handles
pub handles_segments : (before : Engine SegmentMap) (t : ℕ) (q : Request) (reply : Reply) (after : Engine SegmentMap)
    → IsHandled members before t q reply after
    → HandlesSegments before t q reply after
handles_segments before t q reply after h =
    let found = h.found.map in
    let done = outcome_at (sizes_in before) (segmented_cache before) t q in
    let kept = h.alike.kept in
    record {
      found = found;
      is_found = record {
        pool = h.alike.pool;
        kept = kept;
        moment = h.moment_is;
        entries = ap (shown_entries found.pool found.index) (sym h.moment_is)
            ∙ ap (λ (c : Cache). c.entries) h.found_is;
      };
      in_place = h.leaves.in_place_same ∙ h.in_place_same;
      leaves = elim h.leaves.gives [
        | inl d ↦ subst (LeavesSegments (way_of q before.in_place) found done after.map) (sym d.reply_is)
            (changed_by (way_of q before.in_place) found done after.map done.stored kept refl
            (subst (λ (b : Bool). Changes members (way_of q b) found done done.stored after.map) h.in_place_same d.changes))
        | inr d ↦ subst (LeavesSegments (way_of q before.in_place) found done after.map) (sym d.reply_is)
            (refuses (d.alike found (record { pool = refl; kept = kept })).pool)
      ];
    }
