use Rattle.std.proofs.Common.{ℕ, Some, ap, sym, ◌∙◌}
use Rattle.std.specs.Option.{option_map}
use Rattle.std.proofs.lemmas.Map.Made.{lookup_key_same}
use Rattle.std.proofs.lemmas.Bool.Decides.{Decides-eqb}
use Rattle.session_book.specs.Session.{SessionState}
use Rattle.session_book.proofs.book.find.Goals as goal

pub returns-clause-at : goal.returns-clause-at
returns-clause-at c =
    let f = c.in_ok-found.ensures in
    ap (option_map (λ (e : ℕ × SessionState). e.0)) f.entry
    ∙ ap Some (sym (lookup_key_same Decides-eqb c.args.session c.args.sessions.now.entries _ (sym f.key)))
