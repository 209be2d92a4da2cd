-- Worked examples, whose theorems stand in proofs/. Each is the contract of a function of the
-- module `examples`.
use Rattle.std.specs.Prelude.{◌≡◌, ℕ, ℤ, pos, negsuc, true, false, List, [], ◌∷◌, ◌++◌, codes, replicate, map, flat_map, Option, Some, None}
use Rattle.std.specs.List.{AllByRecursion}
use Rattle.std.specs.FinMap as finite
use Rattle.proto.specs.declared.dialect.Dialect.TheVariants.{Strict, Lenient}
use Rattle.proto.specs.declared.message.Put.{Put}
use Rattle.proto.specs.declared.hits.Hit.{Hit}
use Rattle.proto.specs.declared.message.Request.{Request}
use Rattle.proto.specs.declared.message.Request.TheVariants.{Get, GetAndTouch, Set, SetTooLarge, Add, Replace, Cas, Append, Prepend, Delete, Incr, Decr, Touch, FlushAll, Stats}
use Rattle.proto.specs.declared.message.Reply.{Reply}
use Rattle.proto.specs.declared.message.Reply.TheVariants as reply
use Rattle.proto.specs.declared.message.Message.{Message}
use Rattle.proto.specs.declared.message.Message.TheVariants.{Ask, Local, Quit, Fatal}
use Rattle.proto.specs.declared.message.LocalKind.TheVariants as local
use Rattle.proto.specs.declared.message.FatalKind.TheVariants as fatal
use Rattle.proto.specs.Sizes.{sizes_of}
use Rattle.proto.specs.Grammar.{Spells}
use Rattle.proto.specs.Reading.{Reads, asks}
use Rattle.proto.specs.Answers.{answer, said}
use Rattle.proto.specs.Needs.{IsUnfinished}
use Rattle.proto.specs.Cache.{Entry, Entries, no_entries, Cache, empty_cache, live, found_at, deadline_of, has_arrived}
use Rattle.proto.specs.Commands.{Outcome, act}
use Rattle.proto.specs.declared.history.Answered.{Answered}
use Rattle.proto.specs.ClockAnswers.{GivenAnswer}
use Rattle.proto.specs.declared.counts.Counts.{Counts}
use Rattle.proto.specs.StatTexts.{stat_bytes, count_lines}
use Rattle.proto.specs.Tallies.{no_counts, counted, CountsFrom}
use Rattle.proto.specs.History.{Legal, session_share, had, asked}
use Rattle.proto.specs.Buckets.{bucket_of, width_of, life_width, lower_end, shared_deadline, MayLive}
use Rattle.proto.specs.Steps.{MayBeDated, touched_by}

abbrev pub put_with : List ℕ → ℕ → ℤ → List ℕ → Put
put_with key flags exptime value = record { key = key; flags = flags; exptime = exptime; value = value }

abbrev pub a : List ℕ
a = codes "a"

abbrev pub b : List ℕ
b = codes "b"

-- a key of 251 letters, one too many
abbrev pub long_key : List ℕ
long_key = replicate 251 107

abbrev pub line_break : List ℕ
line_break = codes "\r\n"

-- ---- spellings

-- the bytes and the message that they spell
abbrev pub Example : Type 0
Example = List ℕ × Message

-- in the strict dialect
abbrev pub IsSpelled : Example → Type 0
IsSpelled e = Spells Strict e.0 e.1

abbrev pub IsSpelledLeniently : Example → Type 0
IsSpelledLeniently e = Spells (Lenient 131072) e.0 e.1

abbrev pub touch_of : List ℕ → ℤ → Request
touch_of key exptime = Touch (record { key = key; exptime = exptime })

abbrev pub requests : List Example
requests =
    (codes "set a 0 0 1\r\nx\r\n", Ask (Set (put_with a 0 (pos 0) (codes "x"))) false)
    ∷ (codes "set a 0 0 7\r\nget b\r\n\r\n", Ask (Set (put_with a 0 (pos 0) (codes "get b\r\n"))) false)
    ∷ (codes "set a 0 0 0\r\n\r\n", Ask (Set (put_with a 0 (pos 0) [])) false)
    ∷ (codes "set a 0 0 1 noreply\r\nx\r\n", Ask (Set (put_with a 0 (pos 0) (codes "x"))) true)
    ∷ (codes "set a 0 -1 1\r\nx\r\n", Ask (Set (put_with a 0 (negsuc 0) (codes "x"))) false)
    ∷ (codes "set a 0 4294967295 1\r\nx\r\n", Ask (Set (put_with a 0 (pos 4294967295) (codes "x"))) false)
    ∷ (
      codes "set a 4294967295 9999999999 1\r\nx\r\n",
      Ask (Set (put_with a 4294967295 (pos 9999999999) (codes "x"))) false,
    )
    ∷ (codes "cas a 0 0 1 1\r\ny\r\n", Ask (Cas (put_with a 0 (pos 0) (codes "y")) 1) false)
    ∷ (codes "get a\r\n", Ask (Get (a ∷ []) false) false)
    ∷ (codes "gets a b\r\n", Ask (Get (a ∷ b ∷ []) true) false)
    ∷ (codes "get a noreply\r\n", Ask (Get (a ∷ codes "noreply" ∷ []) false) false)
    ∷ (codes "delete a noreply\r\n", Ask (Delete a) true)
    ∷ (codes "incr a 18446744073709551615\r\n", Ask (Incr a 18446744073709551615) false)
    ∷ (codes "decr n 5\r\n", Ask (Decr (codes "n") 5) false)
    ∷ (codes "flush_all\r\n", Ask (FlushAll 0) false)
    ∷ (codes "flush_all noreply\r\n", Ask (FlushAll 0) true)
    ∷ (codes "flush_all 0 noreply\r\n", Ask (FlushAll 0) true)
    ∷ (codes "flush_all 10\r\n", Ask (FlushAll 10) false)
    ∷ (codes "flush_all 9999999999 noreply\r\n", Ask (FlushAll 9999999999) true)
    ∷ (codes "quit\r\n", Quit)
    ∷ []

abbrev pub faults : List Example
faults =
    (codes "foo\r\n", Local local.Unknown)
    ∷ (codes "\r\n", Local local.Unknown)
    ∷ (codes " get a\r\n", Local local.Unknown)
    ∷ (codes "GET a\r\n", Local local.Unknown)
    ∷ (codes "get\r\n", Local local.BadLine)
    ∷ (codes "get \r\n", Local local.BadLine)
    ∷ (codes "get  a\r\n", Local local.BadLine)
    ∷ (codes "get a\nget a\r\n", Local local.BadLine)
    ∷ (codes "get " ++ long_key ++ line_break, Local local.BadLine)
    ∷ (codes "get a \r\n", Local local.BadLine)
    ∷ (codes "quit \r\n", Local local.BadLine)
    ∷ (codes "flush_all 00\r\n", Local local.BadLine)
    ∷ (codes "flush_all -1\r\n", Local local.BadLine)
    ∷ (codes "flush_all 10000000000\r\n", Local local.BadLine)
    ∷ (codes "flush_all 10 20\r\n", Local local.BadLine)
    ∷ (codes "incr a 18446744073709551616\r\n", Local local.BadLine)
    ∷ (codes "set a 0 0 1 \r\n", Fatal fatal.BadLine)
    ∷ (codes "set a 00 0 1\r\n", Fatal fatal.BadLine)
    ∷ (codes "set " ++ long_key ++ codes " 0 0 1\r\n", Fatal fatal.BadLine)
    ∷ (codes "set a 4294967296 0 1\r\n", Fatal fatal.BadLine)
    ∷ (codes "set a 0 10000000000 1\r\n", Fatal fatal.BadLine)
    ∷ (codes "set a 0 -0 1\r\n", Fatal fatal.BadLine)
    ∷ (codes "set a 0 0 10000000000\r\n", Fatal fatal.BadLine)
    ∷ (codes "set a 0 0 131073\r\n", Fatal fatal.TooLarge)
    ∷ (codes "set a 0 0 9999999999\r\n", Fatal fatal.TooLarge)
    ∷ (codes "set a 0 0 2\r\nxyz\r", Fatal fatal.BadChunk)
    ∷ (codes "set a 0 0 1\r\nx\ry", Fatal fatal.BadChunk)
    ∷ (codes "append a 0 0 1\r\n", Local local.Unknown)
    ∷ (codes "prepend a 0 0 1 noreply\r\n", Local local.Unknown)
    ∷ (codes "delete a 0\r\n", Local local.BadLine)
    ∷ (codes "touch a 60 noreply\r\n", Local local.Unknown)
    ∷ (codes "gat 60 a\r\n", Local local.Unknown)
    ∷ (codes "version\r\n", Local local.Unknown)
    ∷ (codes "verbosity 1 noreply\r\n", Local local.Unknown)
    ∷ (codes "cache_memlimit 64 noreply\r\n", Local local.Unknown)
    ∷ (codes "stats\r\n", Local local.Unknown)
    ∷ (codes "stats reset\r\n", Local local.Unknown)
    ∷ (codes "lru_crawler metadump all\r\n", Local local.Unknown)
    ∷ (128 ∷ line_break, Local local.Unknown)
    ∷ []

-- lines at the limit: with its end one may have 2,048 bytes, and what is longer isn't read to its
-- end
abbrev pub long_lines : List Example
long_lines =
    (replicate 2046 97 ++ line_break, Local local.Unknown)
    ∷ (replicate 2048 97, Fatal fatal.LongLine)
    ∷ (replicate 2047 97 ++ codes "\r", Fatal fatal.LongLine)
    ∷ []

-- Leniently spaces before the line's end don't count. All else is as in the strict dialect, and a
-- data block may end in spaces.
abbrev pub lenient_lines : List Example
lenient_lines =
    (codes "get a \r\n", Ask (Get (a ∷ []) false) false)
    ∷ (codes "get a   \r\n", Ask (Get (a ∷ []) false) false)
    ∷ (codes "gets a b \r\n", Ask (Get (a ∷ b ∷ []) true) false)
    ∷ (codes "delete a \r\n", Ask (Delete a) false)
    ∷ (codes "flush_all \r\n", Ask (FlushAll 0) false)
    ∷ (codes "flush_all 0 noreply \r\n", Ask (FlushAll 0) true)
    ∷ (codes "quit \r\n", Quit)
    ∷ (codes "set a 0 0 1 \r\nx\r\n", Ask (Set (put_with a 0 (pos 0) (codes "x"))) false)
    ∷ (codes "set a 0 0 1 noreply \r\nx\r\n", Ask (Set (put_with a 0 (pos 0) (codes "x"))) true)
    ∷ (codes "set a 0 0 2\r\nx \r\n", Ask (Set (put_with a 0 (pos 0) (codes "x "))) false)
    ∷ (codes "get \r\n", Local local.BadLine)
    ∷ (codes "get  \r\n", Local local.BadLine)
    ∷ (codes " \r\n", Local local.Unknown)
    ∷ (codes "get  a\r\n", Local local.BadLine)
    ∷ (codes " get a\r\n", Local local.Unknown)
    ∷ (codes "get a\nget a\r\n", Local local.BadLine)
    ∷ (codes "set a 00 0 1 \r\n", Fatal fatal.BadLine)
    ∷ []

-- `append`, `prepend`, `touch`, `gat`, `gats`, `stats`, `version` and `verbosity` are known, a
-- `delete` may have a zero after its key, and the binary protocol is refused by its first byte. An
-- exptime from 2^31 to 2^32 - 1 is a negative one.
abbrev pub lenient_commands : List Example
lenient_commands =
    (codes "append a 0 0 1\r\nx\r\n", Ask (Append (put_with a 0 (pos 0) (codes "x"))) false)
    ∷ (codes "prepend a 0 0 7\r\nget b\r\n\r\n", Ask (Prepend (put_with a 0 (pos 0) (codes "get b\r\n"))) false)
    ∷ (codes "append a 0 0 0 \r\n\r\n", Ask (Append (put_with a 0 (pos 0) [])) false)
    ∷ (codes "append a 0 0 1 noreply\r\nx\r\n", Ask (Append (put_with a 0 (pos 0) (codes "x"))) true)
    ∷ (codes "touch a 60\r\n", Ask (touch_of a (pos 60)) false)
    ∷ (codes "touch a -1 noreply\r\n", Ask (touch_of a (negsuc 0)) true)
    ∷ (codes "touch a 4294967295\r\n", Ask (touch_of a (negsuc 0)) false)
    ∷ (codes "set a 0 2147483648 1\r\nx\r\n", Ask (Set (put_with a 0 (negsuc 0) (codes "x"))) false)
    ∷ (codes "set a 0 2147483647 1\r\nx\r\n", Ask (Set (put_with a 0 (pos 2147483647) (codes "x"))) false)
    ∷ (codes "set a 0 4294967296 1\r\nx\r\n", Ask (Set (put_with a 0 (pos 4294967296) (codes "x"))) false)
    ∷ (codes "gat 60 a\r\n", Ask (GetAndTouch (a ∷ []) false (pos 60)) false)
    ∷ (codes "gats -1 a noreply \r\n", Ask (GetAndTouch (a ∷ codes "noreply" ∷ []) true (negsuc 0)) false)
    ∷ (codes "gat 4294967295 a\r\n", Ask (GetAndTouch (a ∷ []) false (negsuc 0)) false)
    ∷ (codes "gat 60\r\n", Local local.BadLine)
    ∷ (codes "gat a 60\r\n", Local local.BadLine)
    ∷ (codes "gats\r\n", Local local.BadLine)
    ∷ (codes "touch a\r\n", Local local.BadLine)
    ∷ (codes "touch a 060\r\n", Local local.BadLine)
    ∷ (codes "version\r\n", Local local.Version)
    ∷ (codes "verbosity 1\r\n", Local local.Verbosity)
    ∷ (codes "verbosity\r\n", Local local.Unknown)
    ∷ (codes "verbosity 1 2 3\r\n", Local local.Unknown)
    ∷ (codes "verbosity noreply\r\n", Local local.Silent)
    ∷ (codes "verbosity 1 noreply\r\n", Local local.Silent)
    ∷ (codes "cache_memlimit 64\r\n", Local local.Unknown)
    ∷ (codes "cache_memlimit 64 noreply\r\n", Local local.Silent)
    ∷ (codes "stats\r\n", Ask Stats false)
    ∷ (codes "stats \r\n", Ask Stats false)
    ∷ (codes "stats settings\r\n", Ask Stats false)
    ∷ (codes "stats settings \r\n", Ask Stats false)
    ∷ (codes "stats settings all\r\n", Local local.End)
    ∷ (codes "stats items\r\n", Local local.End)
    ∷ (codes "stats noreply\r\n", Local local.End)
    ∷ (codes "stats reset\r\n", Local local.BadLine)
    ∷ (codes "stats_items\r\n", Local local.Unknown)
    ∷ (codes "lru_crawler metadump all\r\n", Local local.End)
    ∷ (codes "lru_crawler enable\r\n", Local local.Unknown)
    ∷ (codes "lru_crawler\r\n", Local local.Unknown)
    ∷ (codes "append\r\n", Fatal fatal.BadLine)
    ∷ (codes "append a 0 0\r\n", Fatal fatal.BadLine)
    ∷ (codes "prepend a 0 0 1 1\r\n", Fatal fatal.BadLine)
    ∷ (codes "append a 0 0 8388609\r\n", Fatal fatal.TooLarge)
    ∷ (codes "append a 0 0 1\r\nxyz", Fatal fatal.BadChunk)
    ∷ (codes "appendix a 0 0 1\r\n", Local local.Unknown)
    ∷ (codes "delete a 0\r\n", Ask (Delete a) false)
    ∷ (codes "delete a 0 noreply\r\n", Ask (Delete a) true)
    ∷ (codes "delete 0\r\n", Ask (Delete (codes "0")) false)
    ∷ (codes "delete 0 0 \r\n", Ask (Delete (codes "0")) false)
    ∷ (codes "delete a 0 0\r\n", Local local.BadLine)
    ∷ (codes "delete a 00\r\n", Local local.BadLine)
    ∷ (codes "delete a 1\r\n", Local local.BadLine)
    ∷ (codes "delete a  0\r\n", Local local.BadLine)
    ∷ (codes "delete a noreply 0\r\n", Local local.BadLine)
    ∷ (128 ∷ [], Fatal fatal.Binary)
    ∷ []

-- and with its end a line may have 32,768 bytes, its spaces counted
abbrev pub lenient_long_lines : List Example
lenient_long_lines =
    (replicate 32766 97 ++ line_break, Local local.Unknown)
    ∷ (replicate 32768 97, Fatal fatal.LongLine)
    ∷ (replicate 32767 97 ++ codes "\r", Fatal fatal.LongLine)
    ∷ (codes "get a" ++ replicate 32761 32 ++ line_break, Ask (Get (a ∷ []) false) false)
    ∷ (codes "get a" ++ replicate 32762 32 ++ codes "\r", Fatal fatal.LongLine)
    ∷ []

-- Leniently a block whose item is too large is read, and any two bytes end it. A `set` takes out
-- what its key has.
abbrev pub lenient_blocks : List Example
lenient_blocks =
    (codes "set a 0 0 131073\r\n" ++ replicate 131075 97, Ask (SetTooLarge a) false)
    ∷ (codes "set a 0 0 131048 noreply\r\n" ++ replicate 131050 97, Ask (SetTooLarge a) true)
    ∷ (codes "add a 0 0 131048\r\n" ++ replicate 131050 97, Local (local.TooLarge false))
    ∷ (
      codes "set a 0 0 131047\r\n" ++ replicate 131047 97 ++ line_break,
      Ask (Set (put_with a 0 (pos 0) (replicate 131047 97))) false,
    )
    ∷ (codes "append a 0 0 131073 noreply\r\n" ++ replicate 131073 97 ++ line_break, Local (local.TooLarge true))
    ∷ []

-- what isn't a whole message yet
abbrev pub unfinished_messages : List (List ℕ)
unfinished_messages =
    [] ∷ codes "get a" ∷ codes "get a\r" ∷ codes "set a 0 0 1\r\n" ∷ codes "set a 0 0 1\r\nx\r"
    ∷ codes "set a 0 0 7\r\nget b\r\n" ∷ replicate 2047 97 ∷ []

-- bytes, and how many there have to be before more can be found
abbrev pub HasNeed : List ℕ × ℕ → Type 0
HasNeed e = IsUnfinished Strict e.0 e.1

abbrev pub needs : List (List ℕ × ℕ)
needs =
    ([], 1) ∷ (codes "get a", 6) ∷ (codes "set a 0 0 1\r", 13) ∷ (codes "set a 0 0 1\r\n", 16)
    ∷ (codes "set a 0 0 1\r\nx\r", 16) ∷ (codes "set a 0 0 100000\r\n", 100020) ∷ []

-- ---- answers

abbrev pub hit_with : List ℕ → ℕ → List ℕ → Option ℕ → Hit
hit_with key flags value cas = record { key = key; flags = flags; value = value; cas = cas }

abbrev pub AnswersAre : Type 0
AnswersAre =
    (answer (Ask (Set (put_with a 0 (pos 0) (codes "x"))) false) (Some reply.Stored) ≡ codes "STORED\r\n")
    × (answer (Ask (Set (put_with a 0 (pos 0) (codes "x"))) true) (Some reply.NoMemory) ≡ [])
    × (answer (Ask (Get (a ∷ []) false) false) (Some (reply.Values (hit_with a 0 (codes "x") None ∷ [])))
    ≡ codes "VALUE a 0 1\r\nx\r\nEND\r\n")
    × (answer (Ask (Get (a ∷ []) true) false) (Some (reply.Values (hit_with a 0 [] (Some 1) ∷ [])))
    ≡ codes "VALUE a 0 0 1\r\n\r\nEND\r\n")
    × (answer (Ask (Get (b ∷ []) false) false) (Some (reply.Values [])) ≡ codes "END\r\n")
    × (answer (Ask (Incr a 1) false) (Some (reply.Number 0)) ≡ codes "0\r\n")
    × (answer (Ask (Incr a 1) false) (Some reply.NotNumber)
    ≡ codes "CLIENT_ERROR cannot increment or decrement non-numeric value\r\n")
    × (answer (Ask (touch_of a (pos 60)) false) (Some reply.Touched) ≡ codes "TOUCHED\r\n")
    × (answer (Ask (touch_of a (pos 60)) true) (Some reply.Touched) ≡ [])
    × (answer (Local local.Unknown) None ≡ codes "ERROR\r\n")
    × (answer (Local local.Verbosity) None ≡ codes "OK\r\n")
    × (answer (Local local.Silent) None ≡ [])
    × (answer (Local (local.TooLarge false)) None ≡ codes "SERVER_ERROR object too large for cache\r\n")
    × (answer (Local (local.TooLarge true)) None ≡ [])
    × (answer (Local local.End) None ≡ codes "END\r\n")
    × (answer (Ask Stats false) (Some (reply.Stats (codes "STAT uptime 5\r\n"))) ≡ codes "STAT uptime 5\r\nEND\r\n")
    × (answer (Fatal fatal.LongLine) None ≡ codes "CLIENT_ERROR line too long\r\n")
    × (answer Quit None ≡ [])

-- what a session's messages are answered together, where the requests had these replies
abbrev pub SaidAre : Type 0
SaidAre =
    -- local answers stand in their places, before and after a request's
    (said (Local local.Unknown ∷ Local local.Unknown ∷ Ask (Get (a ∷ []) false) false ∷ []) (reply.Values [] ∷ [])
    ≡ codes "ERROR\r\nERROR\r\nEND\r\n")
    × (said (Ask (Get (a ∷ []) false) false ∷ Local local.Unknown ∷ []) (reply.Values [] ∷ [])
    ≡ codes "END\r\nERROR\r\n")
    -- and none is given before an earlier request's
    × (said (Ask (Get (a ∷ []) false) false ∷ Local local.Unknown ∷ []) [] ≡ [])
    × (said (Fatal fatal.BadChunk ∷ []) [] ≡ codes "CLIENT_ERROR bad data chunk\r\n")

-- ---- commands, at the moment 1,000 with the limit 8,192

abbrev pub entry_with : List ℕ → Option ℕ → ℕ → Entry
entry_with value deadline cas = record { value = value; flags = 0; deadline = deadline; cas = cas }

-- the entries with one at the key `a`, which has the cas number 1
abbrev pub with_a : List ℕ → Entries
with_a value = finite.insert no_entries a (entry_with value None 1)

abbrev pub outcome_with : Entries → ℕ → Reply → Option (List ℕ) → Outcome
outcome_with entries c answered stored =
    record { entries = entries; last_cas = c; pending = None; reply = answered; stored = stored }

-- the cache that has `a` alone, and perhaps a flush pending
abbrev pub cache_with : List ℕ → Option ℕ → Cache
cache_with value pending = record { entries = with_a value; last_cas = 1; pending = pending }

abbrev pub set_a : ℤ → Request
set_a exptime = Set (put_with a 0 exptime (codes "x"))

-- a request to the cache that has `a` alone
abbrev pub after_a : List ℕ → Request → Outcome
after_a value q = act 8192 (cache_with value None) 1000 q

abbrev pub CommandsDo : Type 0
CommandsDo =
    -- `set` of a new key, with no deadline, with one from now on, and with one that has passed
    (act 8192 (empty_cache 0) 1000 (set_a (pos 0)) ≡ outcome_with (with_a (codes "x")) 1 reply.Stored (Some a))
    × (act 8192 (empty_cache 0) 1000 (set_a (pos 5))
    ≡ outcome_with (finite.insert no_entries a (entry_with (codes "x") (Some 1005) 1)) 1 reply.Stored (Some a))
    × (act 8192 (empty_cache 0) 1000 (set_a (negsuc 0)) ≡ outcome_with (finite.remove no_entries a) 0 reply.Stored None)
    × (act 8192 (empty_cache 0) 1000 (set_a (pos 2592001)) ≡ outcome_with
    (finite.insert no_entries a (entry_with (codes "x") (Some 2592001) 1)) 1 reply.Stored (Some a))
    × (act 8192 (empty_cache 0) 2592002 (set_a (pos 2592001))
    ≡ outcome_with (finite.remove no_entries a) 0 reply.Stored None)
    -- the last cas number is spent
    × (act 8192 (empty_cache 18446744073709551615) 1000 (set_a (pos 0))
    ≡ outcome_with no_entries 18446744073709551615 reply.NoCas None)
    × (act 8192 (empty_cache 18446744073709551615) 1000 (set_a (negsuc 0))
    ≡ outcome_with (finite.remove no_entries a) 18446744073709551615 reply.Stored None)
    -- an item of 512 bytes is the largest with segments of 4,096
    × ((act 512 (empty_cache 0) 1000 (Set (put_with a 0 (pos 0) (replicate 487 120)))).reply ≡ reply.Stored)
    × ((act 512 (empty_cache 0) 1000 (Set (put_with a 0 (pos 0) (replicate 488 120)))).reply ≡ reply.TooLarge)
    -- a `set` that is too large takes out what its key has
    × (after_a (codes "x") (SetTooLarge a) ≡ outcome_with (finite.remove (with_a (codes "x")) a) 1 reply.TooLarge None)
    -- a key that no bytes spell
    × ((act 8192 (empty_cache 0) 1000 (Set (put_with [] 0 (pos 0) []))).reply ≡ reply.TooLarge)
    × ((act 8192 (empty_cache 0) 1000 (Set (put_with long_key 0 (pos 0) []))).reply ≡ reply.TooLarge)

-- the replies to requests where `a` has a value
abbrev pub RepliesAre : Type 0
RepliesAre =
    ((after_a (codes "x") (Get (a ∷ b ∷ a ∷ []) false)).reply
    ≡ reply.Values (hit_with a 0 (codes "x") None ∷ hit_with a 0 (codes "x") None ∷ []))
    × ((after_a (codes "x") (Get (a ∷ []) true)).reply ≡ reply.Values (hit_with a 0 (codes "x") (Some 1) ∷ []))
    × ((after_a (codes "x") (Add (put_with a 0 (pos 0) []))).reply ≡ reply.NotStored)
    × ((after_a (codes "x") (Replace (put_with b 0 (pos 0) []))).reply ≡ reply.NotStored)
    × ((after_a (codes "x") (Cas (put_with a 0 (pos 0) []) 1)).reply ≡ reply.Stored)
    × ((after_a (codes "x") (Cas (put_with a 0 (pos 0) []) 2)).reply ≡ reply.Exists)
    × ((after_a (codes "x") (Cas (put_with b 0 (pos 0) []) 1)).reply ≡ reply.NotFound)
    × ((after_a (codes "x") (Delete a)).reply ≡ reply.Deleted)
    × ((after_a (codes "x") (Delete b)).reply ≡ reply.NotFound)
    × ((after_a (codes "x") (Incr a 1)).reply ≡ reply.NotNumber)
    × ((after_a (codes "18446744073709551615") (Incr a 1)).reply ≡ reply.Number 0)
    × ((after_a (codes "00000000000000000007") (Incr a 1)).reply ≡ reply.Number 8)
    × ((after_a (codes "3") (Decr a 5)).reply ≡ reply.Number 0)
    × ((after_a (codes "18446744073709551616") (Incr a 1)).reply ≡ reply.NotNumber)
    × ((after_a (codes "x") (Incr b 1)).reply ≡ reply.NotFound)
    × ((after_a (codes "x") (Append (put_with b 0 (pos 0) []))).reply ≡ reply.NotStored)
    × ((after_a (codes "x") (Append (put_with a 0 (pos 0) (replicate 8192 120)))).reply ≡ reply.TooLarge)
    × ((after_a (codes "x") (touch_of a (negsuc 0))).reply ≡ reply.Touched)
    × ((after_a (codes "x") (touch_of b (pos 60))).reply ≡ reply.NotFound)

-- what `append`, `prepend` and `touch` leave of `a`: its flags, its deadline but for a touch, and
-- its cas number after a touch
abbrev pub RewritesDo : Type 0
RewritesDo =
    (after_a (codes "x") (Append (put_with a 7 (pos 9) (codes "y"))) ≡ outcome_with
    (finite.insert (with_a (codes "x")) a (entry_with (codes "xy") None 2)) 2 reply.Stored (Some a))
    × (after_a (codes "x") (Prepend (put_with a 7 (pos 9) (codes "y"))) ≡ outcome_with
    (finite.insert (with_a (codes "x")) a (entry_with (codes "yx") None 2)) 2 reply.Stored (Some a))
    × (after_a (codes "x") (touch_of a (pos 60)) ≡ outcome_with
    (finite.insert (with_a (codes "x")) a (entry_with (codes "x") (Some 1060) 1)) 1 reply.Touched (Some a))
    × (after_a (codes "x") (touch_of a (negsuc 0)) ≡ outcome_with
    (finite.remove (with_a (codes "x")) a) 1 reply.Touched None)

-- what a `gat` shows, and what is touched behind it: nothing if it was refused memory, nor behind a
-- `get`
abbrev pub GatsDo : Type 0
GatsDo =
    (after_a (codes "x") (GetAndTouch (b ∷ a ∷ a ∷ []) true (pos 60)) ≡ after_a (codes "x") (Get (b ∷ a ∷ a ∷ []) true))
    × (touched_by (GetAndTouch (b ∷ a ∷ a ∷ []) true (pos 60)) (reply.Values [])
    ≡ record { key = b; exptime = pos 60 } ∷ record { key = a; exptime = pos 60 } ∷ record { key = a; exptime = pos 60 } ∷ [])
    × (touched_by (GetAndTouch (a ∷ []) false (negsuc 0)) reply.NoMemory ≡ [])
    × (touched_by (Get (a ∷ []) false) (reply.Values []) ≡ [])

-- `flush_all`, at once and with a delay, where a flush is pending already, and at the greatest
-- moment
abbrev pub FlushesDo : Type 0
FlushesDo =
    (after_a (codes "x") (FlushAll 0) ≡ outcome_with no_entries 1 reply.Flushed None)
    × (after_a (codes "x") (FlushAll 10)
    ≡ record {
      entries = with_a (codes "x");
      last_cas = 1;
      pending = Some 1010;
      reply = reply.Flushed;
      stored = None;
    })
    × ((act 8192 (cache_with (codes "x") (Some 1010)) 1005 (FlushAll 20)).pending ≡ Some 1025)
    × ((act 8192 (cache_with (codes "x") (Some 1010)) 1005 (FlushAll 0)).pending ≡ None)
    × ((act 8192 (cache_with (codes "x") (Some 1010)) 1005 (Delete b)).pending ≡ Some 1010)
    × ((act 8192 (cache_with (codes "x") None) 18446744073709551610 (FlushAll 10)).pending ≡ Some 18446744073709551615)
    -- before its moment, and at it
    × ((found_at (cache_with (codes "x") (Some 1010)) 1009).entries ≡ live (with_a (codes "x")) 1009)
    × ((found_at (cache_with (codes "x") (Some 1010)) 1009).pending ≡ Some 1010)
    × (found_at (cache_with (codes "x") (Some 1010)) 1010 ≡ empty_cache 1)

-- ---- a session of two requests

abbrev pub session_input : List ℕ
session_input = codes "set a 0 0 1\r\nx\r\nget a\r\n"

abbrev pub session_messages : List Message
session_messages = Ask (set_a (pos 0)) false ∷ Ask (Get (a ∷ []) false) false ∷ []

-- these answers of a clock other than the system's
abbrev pub answers_of : List ℕ → List GivenAnswer
answers_of seconds = map (λ (n : ℕ). record { seconds = n; read = [] }) seconds

abbrev pub session_history : List Answered
session_history =
    record { worker = 0; session = 1; number = 1; request = set_a (pos 0); moment = 1000; clock = answers_of (1000 ∷ []); reply = reply.Stored }
    ∷ record {
      worker = 0;
      session = 1;
      number = 2;
      request = Get (a ∷ []) false;
      moment = 1000;
      clock = answers_of (1000 ∷ 1000 ∷ []);
      reply = reply.Values (hit_with a 0 (codes "x") None ∷ []);
    }
    ∷ []

pub record SessionIs : Type 0 where
  pub reads : Reads Strict session_input session_messages []
  pub legal : Legal (sizes_of 65536 64) session_history
  pub asked_in_order : asked (session_share session_history 0 1) ≡ asks session_messages
  pub output : said session_messages (had (session_share session_history 0 1))
      ≡ codes "STORED\r\nVALUE a 0 1\r\nx\r\nEND\r\n"

-- ---- a session that ends

abbrev pub quit_input : List ℕ
quit_input = codes "set a 0 0 1 noreply\r\nx\r\nset a 0 0 1\r\ny\r\nquit\r\nget a\r\n"

abbrev pub quit_messages : List Message
quit_messages =
    Ask (Set (put_with a 0 (pos 0) (codes "x"))) true ∷ Ask (Set (put_with a 0 (pos 0) (codes "y"))) false ∷ Quit ∷ []

-- nothing is read after `quit`, and the quiet request is not answered
pub record QuitIs : Type 0 where
  pub reads : Reads Strict quit_input quit_messages (codes "get a\r\n")
  pub output : said quit_messages (reply.Stored ∷ reply.Stored ∷ []) ≡ codes "STORED\r\n"

-- ---- a flush that comes while a session goes on

abbrev pub get_a_again : ℕ → ℕ → List ℕ → List Hit → Answered
get_a_again number moment clock hits =
    record {
      worker = 0;
      session = 1;
      number = number;
      request = Get (a ∷ []) false;
      moment = moment;
      clock = answers_of clock;
      reply = reply.Values hits;
    }

-- `a` is set at 1000, a flush is to come at 1015, and `a` is read before it and then
abbrev pub flush_history : List Answered
flush_history =
    record { worker = 0; session = 1; number = 1; request = set_a (pos 0); moment = 1000; clock = answers_of (1000 ∷ []); reply = reply.Stored }
    ∷ record { worker = 0; session = 1; number = 2; request = FlushAll 10; moment = 1005; clock = answers_of (1000 ∷ 1005 ∷ []); reply = reply.Flushed }
    ∷ get_a_again 3 1010 (1000 ∷ 1005 ∷ 1010 ∷ []) (hit_with a 0 (codes "x") None ∷ [])
    ∷ get_a_again 4 1015 (1000 ∷ 1005 ∷ 1010 ∷ 1015 ∷ []) [] ∷ []

abbrev pub FlushIs : Type 0
FlushIs = Legal (sizes_of 65536 64) flush_history

-- ---- counts

abbrev pub count_one : Request → Reply → Counts
count_one q reply = counted no_counts q reply

-- what single requests count
abbrev pub CountsDo : Type 0
CountsDo =
    (count_one (Get (a ∷ b ∷ a ∷ []) false) (reply.Values (hit_with a 0 [] None ∷ hit_with a 0 [] None ∷ []))
    ≡ record no_counts { gets = record { hits = 2; misses = 1 } })
    × (count_one (Get (a ∷ b ∷ []) false) reply.NoMemory ≡ record no_counts { refused = 1 })
    × (count_one (set_a (pos 0)) reply.Stored ≡ record no_counts { sets = record { hits = 1; misses = 0 } })
    × (count_one (set_a (pos 0)) reply.NoMemory ≡ record no_counts { refused = 1 })
    × (count_one (Append (put_with a 0 (pos 0) [])) reply.NotStored
    ≡ record no_counts { sets = record { hits = 0; misses = 1 } })
    × (count_one (Cas (put_with a 0 (pos 0) []) 2) reply.Exists
    ≡ record no_counts { sets = record { hits = 0; misses = 1 }; badvals = 1 })
    × (count_one (Delete b) reply.NotFound ≡ record no_counts { deletes = record { hits = 0; misses = 1 } })
    × (count_one (Incr a 1) (reply.Number 8) ≡ record no_counts { incrs = record { hits = 1; misses = 0 } })
    × (count_one (Decr a 1) reply.NotNumber ≡ no_counts)
    × (count_one (touch_of a (pos 60)) reply.Touched ≡ record no_counts { touches = record { hits = 1; misses = 0 } })
    × (count_one (GetAndTouch (a ∷ b ∷ []) false (pos 60)) (reply.Values (hit_with a 0 [] None ∷ []))
    ≡ record no_counts { touches = record { hits = 1; misses = 1 } })
    × (counted (record no_counts { flushes = 18446744073709551615 }) (FlushAll 0) reply.Flushed ≡ no_counts)
    × (count_one Stats (reply.Stats []) ≡ no_counts)

-- the history, and then a `stats` of another worker that is told these lines
abbrev pub told_counts : List Answered → List ℕ → Type 0
told_counts history lines = CountsFrom no_counts (history ++ record {
  worker = 1;
  session = 1;
  number = 1;
  request = Stats;
  moment = 1000;
  clock = [];
  reply = reply.Stats lines;
} ∷ [])

-- the lines of counts of which some are 0
abbrev pub some_counts : List ℕ → List ℕ → List ℕ → List ℕ
some_counts gets hits misses =
    codes "STAT cmd_get " ++ gets ++ codes "\r\nSTAT cmd_set 1\r\nSTAT cmd_touch 0\r\nSTAT cmd_flush 0\r\nSTAT total_items 1\r\n"
    ++ codes "STAT cas_badval 0\r\nSTAT out_of_memory 0\r\nSTAT get_hits " ++ hits ++ codes "\r\nSTAT get_misses " ++ misses
    ++ codes "\r\nSTAT delete_hits 0\r\nSTAT delete_misses 0\r\nSTAT incr_hits 0\r\nSTAT incr_misses 0\r\nSTAT decr_hits 0\r\n"
    ++ codes "STAT decr_misses 0\r\nSTAT touch_hits 0\r\nSTAT touch_misses 0\r\nSTAT cas_hits 0\r\nSTAT cas_misses 0\r\n"

pub record StatsAre : Type 0 where
  pub told : told_counts session_history (some_counts (codes "1") (codes "1") (codes "0") ++ codes "STAT uptime 5\r\n")
  pub text : flat_map stat_bytes
      (count_lines (record no_counts { gets = record { hits = 2; misses = 1 }; sets = record { hits = 1; misses = 0 } }))
      ≡ some_counts (codes "3") (codes "2") (codes "1")

-- ---- buckets

abbrev pub HasBucket : ℕ × ℕ × ℕ → Type 0
HasBucket e = (bucket_of (Some e.0) ≡ e.1) × (life_width e.0 ≡ e.2)

-- the first and last time to live of each width
abbrev pub bucket_bounds : List (ℕ × ℕ × ℕ)
bucket_bounds =
    (1, 0, 8) ∷ (7, 0, 8) ∷ (8, 1, 8) ∷ (2047, 255, 8) ∷ (2048, 272, 128) ∷ (32767, 511, 128) ∷ (32768, 528, 2048)
    ∷ (524287, 767, 2048) ∷ (524288, 784, 32768) ∷ (8355839, 1022, 32768) ∷ (8355840, 1023, 32768)
    ∷ (8388607, 1023, 32768) ∷ (8388608, 1023, 32768) ∷ []

abbrev pub HasEnds : ℕ × ℕ × ℕ → Type 0
HasEnds e = (lower_end e.0 ≡ e.1) × (width_of e.0 ≡ e.2)

-- the first and last bucket of each width, with its lower end
abbrev pub bucket_ends : List (ℕ × ℕ × ℕ)
bucket_ends =
    (0, 0, 8) ∷ (1, 8, 8) ∷ (255, 2040, 8) ∷ (272, 2048, 128) ∷ (511, 32640, 128) ∷ (528, 32768, 2048)
    ∷ (767, 522240, 2048) ∷ (784, 524288, 32768) ∷ (1022, 8323072, 32768) ∷ (1023, 8355840, 32768) ∷ []

abbrev pub BucketsAre : Type 0
BucketsAre = AllByRecursion HasBucket bucket_bounds × (bucket_of None ≡ 1024) × AllByRecursion HasEnds bucket_ends

-- ---- deadlines asked for

-- 30 days count from the moment of the write, and more is a moment itself; a deadline has arrived
-- at its very moment
abbrev pub DeadlinesAre : Type 0
DeadlinesAre =
    (deadline_of (pos 0) 1000 ≡ None)
    × (deadline_of (pos 5) 1000 ≡ Some 1005)
    × (deadline_of (pos 2592000) 2592000 ≡ Some 5184000)
    × (deadline_of (pos 2592001) 2592000 ≡ Some 2592001)
    × (has_arrived (Some 1005) 1004 ≡ false)
    × (has_arrived (Some 1005) 1005 ≡ true)
    × (has_arrived (deadline_of (negsuc 0) 0) 0 ≡ true)
    × (has_arrived None 1000 ≡ false)

-- ---- deadlines that may stand for the one asked for

-- the moment of the write, the deadline asked for, and the one given
abbrev pub Life : Type 0
Life = ℕ × Option ℕ × Option ℕ

abbrev pub MayBe : Life → Type 0
MayBe e = MayLive e.0 e.1 e.2

abbrev pub MayNotBe : Life → Type 0
MayNotBe e = ¬ (MayLive e.0 e.1 e.2)

abbrev pub lives : List Life
lives =
    (1000, None, None) ∷ (1000, Some 1005, Some 1005) ∷ (1000, Some 1005, Some (shared_deadline 0 1000))
    ∷ (1007, Some 1023, Some (shared_deadline 2 1000)) ∷ (1003, Some 1016, Some (shared_deadline 1 1003))
    ∷ (1000, Some 9000000000, Some (shared_deadline 1023 1000)) ∷ []

abbrev pub no_lives : List Life
no_lives =
    (1000, None, Some 1005) ∷ (1000, Some 1005, None) ∷ (1000, Some 1005, Some 1000)
    ∷ (1000, Some 1005, Some 1006) ∷ (1000, Some 1040, Some 1024) ∷ (1000, Some 9000000000, Some 1001) ∷ []

-- what a touch may leave, and what it may not: an eighth of 1,440 seconds is 180
abbrev pub MayStay : Life → Type 0
MayStay e = MayBeDated e.0 e.1 e.2 reply.Touched

abbrev pub MayNotStay : Life → Type 0
MayNotStay e = ¬ (MayBeDated e.0 e.1 e.2 reply.Touched)

abbrev pub touched_lives : List Life
touched_lives = (1000, Some 2440, Some 2440) ∷ (1000, Some 2440, Some 2260) ∷ (1000, Some 1005, Some 1005) ∷ []

abbrev pub no_touched_lives : List Life
no_touched_lives =
    (1000, Some 2440, Some 2259) ∷ (1000, Some 2440, Some 2441) ∷ (1000, None, Some 2440) ∷ (1000, Some 2440, None) ∷ []
