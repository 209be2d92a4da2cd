use Rattle.std.proofs.Common.{◌≡◌, ◌++◌, length, drop}
use Rattle.std.specs.Prelude.{string_bytes, flat_map}
use Rattle.std.specs.Str.{chars}
use Rattle.command_line.specs.OneLine.{shown_char, one_line}
use Rattle.command_line.proofs.one_line.on_one_line.Given as goal

-- what stands in the line, and what is shown of the characters that are left
abbrev pub invariant-loop-character : goal.invariant-loop-character
invariant-loop-character l =
    string_bytes l.line ++ flat_map shown_char (drop (length l.yielded) (chars l.text)) ≡ one_line l.text
