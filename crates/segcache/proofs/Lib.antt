-- what a map shows: `find`, `entry_at`, `advance`, `clear`, `count_read`, `seeded`
pub mod ShownItems
-- the invariant of `SegmentMap` and its change by each call
pub mod TiedParts
-- the invariant of `SegmentMap`: no segment was opened later than the last moment
pub mod OpeningMoments
-- the contracts of `unindex_segment`, `unindex_dead`, `unindex_merged`, `remove_all` and `remove`
pub mod LeftPlaces
-- the contracts of `write` and `may_stay`: deadlines of items' own
pub mod OwnDeadlines
-- the contract of `seeded`
pub mod NewMaps
-- for `append`: that the index has room for one more key
pub mod PlaceCounts
-- the contract of `append`, and what `Index::insert` requires there
pub mod AppendNeeds
-- the contract of `clear_victim`: which keys are forgotten, and how many
pub mod EvictedKeys
-- the contract of `free_segment` where something is given back
pub mod GivenBack
-- the contract of `free_segment`: steps that make room, one after the other
pub mod RoomMade
-- the contracts of `append_to_freed` and `write_item`: `put`
pub mod AppendedItems
-- the contract of `write`: `written`
pub mod WriteParts
-- the contract of `merge`: what ties pool, index and marks
pub mod MergedMarks
-- the contract of `merge`: `made`
pub mod MergedRoom
-- the contract of `forget_some`, whose plan is of no account
pub mod MergePlans
-- the contracts of `forget_some`, `free_segment` and `write_item`: `evicted`, `room`, `placed`
pub mod ForgottenKeys
-- the contracts of `merge` and `clear_victim`: `evicted`
pub mod MergedKeys
-- the contract of `unindex_dead`: which segments have a live item
pub mod LiveSegments
-- the contracts of `unindex_merged` and `merge`: the segments that are merged
pub mod PlannedSegments
-- for `write`: `kept`, where little is held
pub mod WritesWithRoom
-- the clauses `kept` of `write`, `remove` and `count_read`, and `keeps` of `seeded`
pub mod KeptEntries
-- the contract of `rewrite`: an item put over the one of its key
pub mod ChangedItems
-- the contracts of `put_over`, and of `write` where an item goes over another
pub mod ItemsPutOver
-- the contract of `may_stay`: an entry that is left as it is
pub mod LeftEntries
-- the promise `HandlesSegments` of `Store::handle`
pub mod HandledRequests
-- the promise `StaysFilled` of `Store::handle`
pub mod StayingFilled
-- that deadlines are kept to the second
pub mod KeptDeadlines
