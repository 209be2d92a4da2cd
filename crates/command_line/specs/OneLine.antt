-- A text on one line, as a fault shows it.
use Rattle.std.specs.Prelude.{ℕ, List, codes, flat_map, encode_utf8, ◌==◌, if◌then◌else◌}
use Rattle.std.specs.Str.{chars}

-- a character, where a line feed and a carriage return are shown as in Rust's strings
abbrev pub shown_char : ℕ → List ℕ
shown_char c = if c == 10 then codes "\\n" else (if c == 13 then codes "\\r" else encode_utf8 c)

-- the text's characters, one after the other
abbrev pub one_line : List ℕ → List ℕ
one_line text = flat_map shown_char (chars text)
