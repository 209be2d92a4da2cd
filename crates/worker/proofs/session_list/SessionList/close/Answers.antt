use Rattle.std.proofs.Common.{◌++◌, ap, ◌∙◌}
use Rattle.worker.specs.declared.session_list.SessionNote.TheVariants.{Closed}
use Rattle.worker.specs.EndCauses.{with_cause}
use Rattle.worker.specs.SessionLists.{listed_sessions}
use Rattle.worker.proofs.Listing.{listed_more}
use Rattle.worker.proofs.session_list.SessionList.close.Goals as goal

pub returns : goal.returns
returns c =
    let s = c.args.session in let cause = c.args.cause in
    ap listed_sessions (c.note.ensures ∙ ap (λ l. c.self.inside.notes.items ++ l) c.from_ref.ensures.value)
    ∙ listed_more c.self.inside.notes.items (Closed s cause)
    ∙ ap (λ v. with_cause v.items s cause) c.self.view_is
