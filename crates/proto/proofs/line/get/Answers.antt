use Rattle.std.proofs.Common.{◌≡◌, ◌&&◌, true, length, sym, ◌∙◌, refl}
use Rattle.std.specs.Prelude.{nat_le}
use Rattle.std.specs.List.{list_all}
use Rattle.proto.specs.Lines.{is_key}
use Rattle.proto.proofs.line.get.Goals as goal

pub returns : goal.returns
returns c =
    let all : (nat_le 1 (length c.args.keys) && list_all is_key c.args.keys) ≡ true =
    sym c.are_keys.ensures ∙ c.if-not-are_keys.false in
    rw all refl
