use Rattle.std.proofs.Common.{◌≡◌, ◌+◌, [], ◌∷◌, ◌++◌, refl, ap, ◌∙◌, subst}
use Rattle.std.specs.Prelude.{slice_set}
use Rattle.std.proofs.lemmas.List.{get_or_default}
use Rattle.script.specs.Lines.{lines_of}
use Rattle.script.specs.Scripts.{Position, NextHasFault, events_at, with_line}
use Rattle.script.proofs.reader.ScriptReader.next_line.Goals as goal

pub returns-in-Err-clause-fault : goal.returns-in-Err-clause-fault
returns-in-Err-clause-fault c =
    let fault = rw c.in-Err.is at c.in_ok-said.ensures in
    subst (λ (p : Position). NextHasFault p (c.self.inside.read + 1) c.in-Err.fault) c.self.view_is
    (record {
      line = c.in-Some.text.now;
      rest = lines_of c.in-Some.rest.now;
      first = c.in-Some.ensures.lines;
      number_is = refl;
      faulty = rw c.as_slice.ensures.value at fault;
    })

pub returns-clause-read : goal.returns-clause-read
returns-clause-read c =
    let said = rw c.in-Ok.is at c.in_ok-said.ensures in
    let may = rw c.as_slice.ensures.value at said in
    let workers = c.self.inside.workers.items in
    let line = c.in-Ok.said in let old = c.index_mut.result.now in
    let was : old ≡ events_at workers line.worker = c.index_mut.ensures.value ∙ get_or_default workers line.worker old [] may.in_range in
    let added : slice_set workers line.worker c.push.new.self ≡ with_line workers line =
    ap (slice_set workers line.worker) (c.in_ok-push.ensures.ok ∙ ap (λ events. events ++ line.event ∷ []) was) in
    rw (← c.self.view_is)
    (record {
      line = c.in-Some.text.now;
      first = c.in-Some.ensures.lines;
      adds = (line, may, added);
      counted = refl;
    })
