-- The list of a port's events.
use Rattle.std.specs.Prelude.{ℕ, ◌==◌, if◌then◌else◌, List, [], ◌∷◌, take, filter_map, Option, Some, None}
use Rattle.std.specs.Prelude.{Result, Ok, Err}
use Rattle.worker_port.specs.declared.events.PortRecord.{PortRecord}
use Rattle.worker_port.specs.declared.events.PortRecord.TheVariants as was
use Rattle.worker_port.specs.declared.events.Gone.{Gone}

-- a `give` adds the bytes that it accepted, if any, or that the session has gone
abbrev pub give_records : ℕ → List ℕ → Result ℕ Gone → List PortRecord
give_records s bytes (Ok n) = if n == 0 then [] else was.Accepted s (take n bytes) ∷ []
give_records s bytes (Err e) = was.Gone s ∷ []

abbrev pub opened_by : PortRecord → Option ℕ
opened_by (was.Opened s) = Some s
opened_by (was.Data s bytes) = None
opened_by (was.EndOfInput s) = None
opened_by (was.Gone s) = None
opened_by was.Ended = None
opened_by (was.Accepted s bytes) = None
opened_by (was.Shut s) = None

-- the sessions that were opened, in order
abbrev pub opened_sessions : List PortRecord → List ℕ
opened_sessions records = filter_map opened_by records
