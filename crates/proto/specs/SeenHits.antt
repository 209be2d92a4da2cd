-- The hit that a view of it stands for.
use Rattle.proto.specs.declared.hits.HitRef.{HitRef}
use Rattle.proto.specs.declared.hits.Hit.{Hit}

abbrev pub seen_hit : HitRef → Hit
seen_hit r = record { key = r.key.now; flags = r.flags; value = r.value.now; cas = r.cas }
