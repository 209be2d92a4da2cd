use Rattle.std.proofs.Common.{[], ◌∷◌, ◌++◌, ap, ◌∙◌}
use Rattle.session_book.specs.declared.causes.EndCause.TheVariants.{Drained}
use Rattle.worker.specs.declared.session_list.SessionNote.TheVariants.{Opened}
use Rattle.worker.specs.SessionLists.{listed_sessions}
use Rattle.worker.proofs.Listing.{listed_more}
use Rattle.worker.proofs.session_list.SessionList.open.Goals as goal

pub returns : goal.returns
returns c =
    let s = c.args.session in
    ap listed_sessions (c.note.ensures ∙ ap (λ l. c.self.inside.notes.items ++ l) c.from_ref.ensures.value)
    ∙ listed_more c.self.inside.notes.items (Opened s) ∙ ap (λ v. v.items ++ (s, Drained) ∷ []) c.self.view_is
