-- By which of its keys a request is prefetched.
use Rattle.std.specs.Prelude.{ℕ, List, Option, Some, None, slice_get}
use Rattle.proto.specs.declared.message.Request.{Request}
use Rattle.proto.specs.declared.message.Request.TheVariants.{Get, GetAndTouch, Set, SetTooLarge, Add, Replace, Cas, Append, Prepend, Delete, Incr, Decr, Touch, FlushAll, Stats}

-- the key of a request, of several the first one
abbrev pub first_key : Request → Option (List ℕ)
first_key (Get keys with_cas) = slice_get keys 0
first_key (GetAndTouch keys with_cas exptime) = slice_get keys 0
first_key (Set p) = Some p.key
first_key (SetTooLarge key) = Some key
first_key (Add p) = Some p.key
first_key (Replace p) = Some p.key
first_key (Cas p unique) = Some p.key
first_key (Append p) = Some p.key
first_key (Prepend p) = Some p.key
first_key (Delete key) = Some key
first_key (Incr key amount) = Some key
first_key (Decr key amount) = Some key
first_key (Touch asked) = Some asked.key
first_key (FlushAll delay) = None
first_key Stats = None
