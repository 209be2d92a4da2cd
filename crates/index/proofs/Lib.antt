-- the contract of `home_of`: homes where a row has one slot more
pub mod SplitHomes
-- the contracts of `Layout`, and what `Slots::set` requires
pub mod PackedSlots
-- what `Index::insert` requires of a place, and `relocate` of its targets
pub mod PlacesInLayout
-- the contracts of `Slots` that change a slot
pub mod SlotRows
-- distances between slots, for all searches
pub mod RowDistances
-- the contract of `home_in`
pub mod NearestHomes
-- the contracts of `search`
pub mod SearchesUpToGap
-- the map that slots stand for, in the contracts of `Index`
pub mod SlotsAsMap
-- the contracts of `Index` on one key: `insert`, `replace`, `remove`, `take_out`
pub mod KeySlots
-- the contracts of `Index` on what a search found, and for stores: that it stays found
pub mod FoundEntries
-- the contract of `backward_shift::delete`
pub mod ShiftedSlots
-- the contract of `reinsert`
pub mod ReinsertedKeys
-- the contract of `grow`
pub mod OneSlotMore
-- the law `keys_may_change_elsewhere`
pub mod KeptKeys
-- what the pool says of keys, where `Index` requires it
pub mod PoolKeys
-- for callers of `Index::insert`: that there is room for one more key
pub mod PoolPlaces
-- the law `each_place_once`
pub mod UsedSlots
-- the contracts of `take_out`, `drop_lost` and `relocate`: changes one after the other
pub mod RelocatedTables
-- the contract of `move_kept`
pub mod KeptMoves
-- the contract of `relocate`: `drop_lost`, and then `move_kept`
pub mod LostAndKeptMoves
-- for the law `plans_can_relocate`: the order of a plan's moves
pub mod MoveOrder
-- the law `plans_can_relocate`
pub mod RelocatablePlans
