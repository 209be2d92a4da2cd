-- What requests and their replies count.
use Rattle.std.specs.Prelude.{◌≡◌, ◌⊎◌, ⊤, ℕ, ◌-◌, List, [], ◌∷◌, length, if◌then◌else◌}
use Rattle.proto.specs.declared.counts.Tally.{Tally}
use Rattle.proto.specs.declared.counts.Counts.{Counts}
use Rattle.proto.specs.declared.message.Request.{Request}
use Rattle.proto.specs.declared.message.Request.TheVariants.{Get, GetAndTouch, SetTooLarge, Cas, Delete, Incr, Decr, Touch, FlushAll, Stats}
use Rattle.proto.specs.declared.message.Reply.{Reply}
use Rattle.proto.specs.declared.message.Reply.TheVariants.{Stored, Exists, NotFound, Values, Deleted, Number, Touched, NoMemory}
use Rattle.proto.specs.declared.message.Reply.TheVariants as replies
use Rattle.proto.specs.declared.history.Answered.{Answered}
use Rattle.proto.specs.Stored.{is_no_memory}
use Rattle.proto.specs.StatTexts.{more, IsStats}

abbrev pub no_counts : Counts
no_counts =
    let none : Tally = record { hits = 0; misses = 0 } in
    record { gets = none; sets = none; cas = none; badvals = 0; deletes = none; incrs = none; decrs = none; touches = none; flushes = 0; refused = 0 }

-- how many keys the reply says to be there, or to have been stored, changed or taken out, and how
-- many not to be there
abbrev pub tally_in : Reply → Tally
tally_in (Values hits) = record { hits = length hits; misses = 0 }
tally_in Stored = record { hits = 1; misses = 0 }
tally_in Deleted = record { hits = 1; misses = 0 }
tally_in (Number n) = record { hits = 1; misses = 0 }
tally_in Touched = record { hits = 1; misses = 0 }
tally_in NotFound = record { hits = 0; misses = 1 }
tally_in _ = record { hits = 0; misses = 0 }

abbrev pub conflicts_in : Reply → ℕ
conflicts_in Exists = 1
conflicts_in _ = 0

abbrev pub tallied : Tally → ℕ → ℕ → Tally
tallied t hits misses = record { hits = more t.hits hits; misses = more t.misses misses }

-- of a storage command a hit is what was stored
abbrev pub counted_by : Counts → Request → Reply → Counts
counted_by c (Get keys with_cas) reply =
    record c { gets = tallied c.gets (tally_in reply).hits (length keys - (tally_in reply).hits) }
counted_by c (GetAndTouch keys with_cas exptime) reply =
    record c { touches = tallied c.touches (tally_in reply).hits (length keys - (tally_in reply).hits) }
counted_by c (Cas p unique) reply = record c {
  sets = tallied c.sets (tally_in reply).hits (1 - (tally_in reply).hits);
  cas = tallied c.cas (tally_in reply).hits (tally_in reply).misses;
  badvals = more c.badvals (conflicts_in reply);
}
counted_by c (Delete key) reply = record c { deletes = tallied c.deletes (tally_in reply).hits (tally_in reply).misses }
counted_by c (Incr key amount) reply =
    record c { incrs = tallied c.incrs (tally_in reply).hits (tally_in reply).misses }
counted_by c (Decr key amount) reply =
    record c { decrs = tallied c.decrs (tally_in reply).hits (tally_in reply).misses }
counted_by c (Touch asked) reply =
    record c { touches = tallied c.touches (tally_in reply).hits (tally_in reply).misses }
counted_by c (FlushAll delay) reply = record c { flushes = more c.flushes 1 }
counted_by c (SetTooLarge key) reply = c
counted_by c Stats reply = c
counted_by c _ reply = record c { sets = tallied c.sets (tally_in reply).hits (1 - (tally_in reply).hits) }

-- the counts after a request and its reply; one that was refused memory counts as that alone
abbrev pub counted : Counts → Request → Reply → Counts
counted c q reply = if is_no_memory reply then record c { refused = more c.refused 1 } else counted_by c q reply

-- each `stats` of a history is told what these counts have become by the entries before it, or was
-- refused memory
abbrev pub CountsFrom : Counts → List Answered → Type 0
CountsFrom c [] = ⊤
CountsFrom c (e ∷ history) =
    (e.request ≡ Stats → (e.reply ≡ NoMemory) ⊎ ((lines : List ℕ) × (e.reply ≡ replies.Stats lines) × IsStats c lines))
    × CountsFrom (counted c e.request e.reply) history

-- the counts after a history
abbrev pub counts_after : Counts → List Answered → Counts
counts_after c [] = c
counts_after c (e ∷ history) = counts_after (counted c e.request e.reply) history
