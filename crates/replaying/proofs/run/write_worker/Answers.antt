use Rattle.std.proofs.Common.{rules, ◌≡◌, ◌<◌, ◌≤◌, ℕ, List, take, length, ap, subst, ◌∙◌}
use Rattle.std.proofs.lemmas.List.{take_all}
use Rattle.std.specs.Prelude.{flat_map, slice_index_or}
use Rattle.std.specs.Io.KnownBytes.{Appends}
use Rattle.worker_port.specs.Ports.{given}
use Rattle.script.specs.PortSessions.{ScriptSessionState}
use Rattle.replaying.specs.Printed.{printed_line}
use Rattle.replaying.proofs.Lines.{over_numbers, one_more}
use Rattle.replaying.proofs.run.write_worker.Goals as goal

pub loop-session-preserved : goal.loop-session-preserved
loop-session-preserved g c =
    let i = c.loop-session.invariant in let k : ℕ = c.loop-session.session-index in
    let xs : List ScriptSessionState = c.sessions-session-items.result.now in
    let x : ScriptSessionState = c.session-item.result in let bytes : List ℕ = c.as_bytes.result.now in
    let f = λ (x : ScriptSessionState). printed_line c.args.worker x.number (given x.number c.args.port.now.player.records) in
    let low : k < length xs = search rules in
    let is : slice_index_or xs k x ≡ x = search rules in
    let bytes_are : bytes ≡ f x = search rules in
    let wrote : Appends (g.W.Write.contents c.loop-session.out) (g.W.Write.contents c.write_all.new.self) bytes =
    search rules in record {
      opened_are = i.opened_are;
      written = one_more f xs k x bytes (g.W.Write.contents c.args.out.now) (g.W.Write.contents c.loop-session.out)
          (g.W.Write.contents c.write_all.new.self) low is bytes_are i.written wrote;
    }

pub returns-clause-lines : goal.returns-clause-lines
returns-clause-lines g c =
    let i = c.loop-session.invariant in let k : ℕ = c.loop-session.session-index in
    let xs : List ScriptSessionState = c.sessions-session-items.result.now in
    let f = λ (n : ℕ). printed_line c.args.worker n (given n c.args.port.now.player.records) in
    let past : length xs ≤ k = search rules in let all : take k xs ≡ xs = take_all k xs past in
    subst (Appends (g.W.Write.contents c.args.out.now) (g.W.Write.contents c.loop-session.out))
    (ap (flat_map (λ (x : ScriptSessionState). f x.number)) all ∙ over_numbers f xs ∙ ap (flat_map f) i.opened_are)
    i.written
