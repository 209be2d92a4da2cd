-- Which fault is named for which cause.
use Rattle.std.specs.Prelude.{◌≡◌, ◌≢◌, ⊤, ℕ, List, string_bytes}
use Rattle.std.specs.declared.io.ErrorKind.{ErrorKind}
use Rattle.std.specs.declared.io.ErrorKind.TheVariants.{OutOfMemory}
use Rattle.command_line.specs.OneLine.{one_line}
use Rattle.replaying.specs.declared.fault.Fault.{Fault}
use Rattle.replaying.specs.declared.fault.Fault.TheVariants as fault

-- a file can't be read for this cause: it is named, on one line, or memory is missing
abbrev pub IsReadFault : List ℕ → ErrorKind → Fault → Type 0
IsReadFault file kind (fault.CannotRead shown) = (kind ≢ OutOfMemory) × (string_bytes shown ≡ one_line file)
IsReadFault file kind fault.NoMemory = ⊤
IsReadFault file kind _ = ⊥
