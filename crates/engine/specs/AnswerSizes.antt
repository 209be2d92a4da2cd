-- How many bytes the hits of an answer take.
use Rattle.std.specs.Prelude.{ℕ, Bool, false, List, length, flat_map, nat_lt}
use Rattle.proto.specs.declared.dialect.Dialect.{Dialect}
use Rattle.proto.specs.declared.dialect.Dialect.TheVariants.{Strict, Lenient}
use Rattle.proto.specs.declared.hits.Hit.{Hit}
use Rattle.proto.specs.declared.message.Request.{Request}
use Rattle.proto.specs.declared.message.Request.TheVariants.{Get, GetAndTouch}
use Rattle.proto.specs.Hits.{hit_bytes}
use Rattle.proto.specs.Cache.{Entries}
use Rattle.proto.specs.Commands.{hits_of}

-- the bytes that show hits
abbrev pub shown_size : List Hit → ℕ
shown_size hits = length (flat_map hit_bytes hits)

-- the bytes that show the hits of a request, given these entries
abbrev pub answer_size : Entries → Request → ℕ
answer_size entries (Get keys with_cas) = shown_size (hits_of with_cas entries keys)
answer_size entries (GetAndTouch keys with_cas exptime) = shown_size (hits_of with_cas entries keys)
answer_size entries _ = 0

-- whether these bytes of hits are more than one answer may show: a strict answer may show all
abbrev pub is_too_long : Dialect → ℕ → Bool
is_too_long Strict size = false
is_too_long (Lenient limit) size = nat_lt 8388608 size
