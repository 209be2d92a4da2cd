use Rattle.std.proofs.Common.{sym, subst}
use Rattle.std.proofs.KnownBytes.{Consumes-trans}
use Rattle.std.specs.Io.KnownBytes.{Consumes}
use Rattle.replaying.proofs.reading.script_bytes.Goals as goal

pub loop-preserved : goal.loop-preserved
loop-preserved g c =
    let start = g.R.Read.remaining c.args.script in let now = g.R.Read.remaining c.loop.script in
    let after = g.R.Read.remaining c.add_piece.new.script in
    let read = c.in_ok-add_piece.ensures.read in record {
      same = c.in_ok-add_piece.ensures.same;
      read = subst (Consumes start after) (sym read.grown)
          (Consumes-trans start now after c.loop.text.items read.piece c.loop.invariant.read read.consumed);
    }
