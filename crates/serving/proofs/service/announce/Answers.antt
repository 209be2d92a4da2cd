use Rattle.std.proofs.Common.{rules}
use Rattle.std.specs.String.{string_bytes}
use Rattle.serving.proofs.service.announce.Goals as goal

-- the line that was made is the one that was printed
pub returns : goal.returns
returns g c = (string_bytes c.in_ok-line.line, c.in_ok-line.ensures, search rules)
