-- What `segcached serve` prints once it listens.
use Rattle.std.specs.Prelude.{◌≡◌, ◌⊎◌, ℕ, List, ◌++◌, codes, decimal, Option, true}
use Rattle.net.specs.Listening.{is_path}
use Rattle.std.specs.Io.KnownBytes.{Appends}
use Rattle.std.specs.Str.Pattern.{SplitsAroundMatch, RFindsChar}

-- the line of a path
abbrev pub path_line : List ℕ → List ℕ
path_line path = codes "listening on " ++ path ++ codes "\n"

-- the line of an address, with the real port in place of what follows its last colon
abbrev pub IsAddressLine : List ℕ → ℕ → List ℕ → Type 0
IsAddressLine listen port line =
    (host : List ℕ) × (rest : List ℕ)
    × SplitsAroundMatch (RFindsChar 58) listen host rest
    × (line ≡ codes "listening on " ++ host ++ codes ":" ++ decimal port ++ codes "\n")

-- the line of what `--listen` says first: a path, or an address
abbrev pub IsListeningLine : List ℕ → ℕ → List ℕ → Type 0
IsListeningLine listen port line =
    ((is_path listen ≡ true) × (line ≡ path_line listen)) ⊎ IsAddressLine listen port line

-- what a writer was given, as far as it tells, grew by this line of an address, with some port
abbrev pub IsAnnounced : List ℕ → Option (List ℕ) → Option (List ℕ) → Type 0
IsAnnounced listen before after =
    (port : ℕ) × (line : List ℕ) × IsListeningLine listen port line × Appends before after line
