use Rattle.std.proofs.Common.{rules, subst}
use Rattle.net.specs.Seen.{Seen}
use Rattle.net.specs.Shown.{seen_of, Arrives}
use Rattle.net.proofs.open_stream.OpenStream.read_piece.Goals as goal

pub returns-after-matches-clause-arrives : goal.returns-after-matches-clause-arrives
returns-after-matches-clause-arrives c =
    let before = seen_of c.args.self.now in
    subst (λ (after : Seen). Arrives before c.piece_of.result after) (search rules)
    (c.piece_of.ensures before (search rules) (search rules))
