-- The entry that a view of it stands for.
use Rattle.engine.specs.declared.live_map.EntryRef.{EntryRef}
use Rattle.proto.specs.Cache.{Entry}

abbrev pub entry_of : EntryRef → Entry
entry_of r = record { value = r.value.now; flags = r.flags; deadline = r.deadline; cas = r.cas }
