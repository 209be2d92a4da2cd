use Rattle.std.proofs.Common.{ℕ, subst}
use Rattle.std.specs.Prelude.{◌⊎◌}
use Rattle.segments.specs.Shown.{item_of}
use Rattle.segments.specs.Changes.{IsAddedToTail, IsAddedToFree}
use Rattle.segments.proofs.Places.{has_room}
use Rattle.segcache.specs.LiveItems.{live_marks}
use Rattle.segcache.proofs.AppendedItems.{put_made, put_placed, never_refused, same_bucket}
use Rattle.segcache.proofs.segment_map.SegmentMap.append_to_freed.Goals as goal
use Rattle.std.proofs.Common.{Bool, false, ap, sym, ◌∙◌, ◌≡◌}
use Rattle.proto.specs.Cache.{has_arrived}
use Rattle.segcache.specs.OwnDeadlines.{own_deadline_by}
use Rattle.segcache.specs.ItemBuckets.{bucket_for}

pub free_segment-requires : goal.free_segment-requires
free_segment-requires c = record { full = c.requires.no_room.none_free }

pub append-requires-clause-own : goal.append-requires-clause-own
append-requires-clause-own c =
    c.requires.own ∙ ap (λ (b : Bool). own_deadline_by b c.args.item.deadline) (sym c.free_segment.ensures.made.exact)

pub append-requires-clause-waits : goal.append-requires-clause-waits
append-requires-clause-waits c =
    subst (λ (t : ℕ). has_arrived c.args.item.deadline t ≡ false) (sym c.free_segment.ensures.moment) c.requires.waits

pub append-requires-clause-of_bucket : goal.append-requires-clause-of_bucket
append-requires-clause-of_bucket c =
    let s = c.args.self.now in
    let m = c.free_segment.new.self in
    let made = c.free_segment.ensures.made in
    subst (λ (t : ℕ). c.args.bucket ≡ bucket_for m.pool t c.args.item.deadline) (sym c.free_segment.ensures.moment)
    (c.requires.of_bucket ∙ sym (same_bucket s.pool m.pool s.moment c.args.item.deadline made.rule made.exact))

pub returns-clause-put : goal.returns-clause-put
returns-clause-put c =
    let s = c.args.self.now in
    let i = item_of c.args.item in
    let bucket = c.args.bucket in
    let m = c.free_segment.new.self in
    let after = c.append.new.self in
    let made = c.free_segment.ensures.made in
    let done = never_refused c.append.result _ _ c.append.ensures.appended
    (λ h. has_room m.pool bucket m.moment i made.free h.0) in
    let added = subst
    (λ (t : ℕ). IsAddedToTail m.pool bucket t i after.pool done.0 ⊎ IsAddedToFree m.pool bucket t i after.pool done.0)
    c.free_segment.ensures.moment done.1.0 in
    put_made s.pool s.index m.pool m.index m.marks bucket s.moment i c.args.item.deadline after.pool after.index done.0
    made.sizes made.exact made.kept made.past c.append.ensures.kept.tied added done.1.1 c.requires.own c.requires.waits
    (c.requires.of_bucket ∙ sym (same_bucket s.pool m.pool s.moment c.args.item.deadline made.rule made.exact))

pub returns-clause-placed : goal.returns-clause-placed
returns-clause-placed c =
    let s = c.args.self.now in
    let i = item_of c.args.item in
    let bucket = c.args.bucket in
    let m = c.free_segment.new.self in
    let after = c.append.new.self in
    let made = c.free_segment.ensures.made in
    let done = never_refused c.append.result _ _ c.append.ensures.appended
    (λ h. has_room m.pool bucket m.moment i made.free h.0) in
    let added = subst
    (λ (t : ℕ). IsAddedToTail m.pool bucket t i after.pool done.0 ⊎ IsAddedToFree m.pool bucket t i after.pool done.0)
    c.free_segment.ensures.moment done.1.0 in
    put_placed (live_marks s.marks s.moment) s.pool s.index m.pool m.index m.marks bucket s.moment i
    c.args.item.deadline after.pool after.index done.0 (c.free_segment.ensures.room bucket i c.requires.no_room)
    made.past c.append.ensures.kept.tied added done.1.1 (c.requires.own
    ∙ ap (λ (b : Bool). own_deadline_by b c.args.item.deadline) (sym made.exact)) c.requires.waits
    (c.requires.of_bucket ∙ sym (same_bucket s.pool m.pool s.moment c.args.item.deadline made.rule made.exact))
