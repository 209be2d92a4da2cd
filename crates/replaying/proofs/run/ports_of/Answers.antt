use Rattle.std.proofs.Common.{◌≡◌, ℕ, [], ◌∷◌, ◌++◌, length, sym, ap, subst, ◌∙◌, append_assoc, append-nil, arith}
use Rattle.std.proofs.lemmas.List.{nil_from_length}
use Rattle.script.specs.States.{PortState}
use Rattle.replaying.specs.Printed.{IsPort, ArePorts}
use Rattle.replaying.proofs.Lines.{ports_more}
use Rattle.replaying.proofs.run.ports_of.Goals as goal

pub loop-script-preserved : goal.loop-script-preserved
loop-script-preserved c =
    let i = c.loop-script.invariant in let y = c.loop-script.yielded in let x = c.in-Some.script in
    let port : PortState = c.port_of-port.result in let ports = c.loop-script.ports in
    let accept : ℕ = c.args.options.now.accept in let fail_give : ℕ = c.args.options.now.fail_give in
    let number : c.len-worker.result ≡ length ports.items = c.len-worker.ensures ∙ ports.ok.0 in
    let is = subst (λ w. IsPort c.args.geometry c.args.options.now.dialect c.args.exchange.now.id accept fail_give w x port)
    number c.port_of-port.ensures in record {
      left = append_assoc y (x ∷ []) c.next.new.self.rest.items ∙ ap (λ l. y ++ l) (sym c.in-Some.ensures.steps.0)
          ∙ i.left;
      ported = subst (ArePorts c.args.geometry c.args.options.now.dialect c.args.exchange.now.id accept fail_give (y ++ x ∷ []))
          (sym c.push_reserved.ensures.items)
          (ports_more c.args.geometry c.args.options.now.dialect c.args.exchange.now.id accept fail_give y ports.items x port i.ported
          is);
      room = omega (
        arith,
        c.in-Some.ensures.steps.1,
        c.push_reserved.ensures.len,
        c.push_reserved.ensures.capacity,
        i.room,
      );
    }

pub returns : goal.returns
returns c =
    let i = c.loop-script.invariant in
    let none_left : c.loop-script.script-iterator.rest.items ≡ [] =
    nil_from_length c.loop-script.script-iterator.rest.items
    (sym c.loop-script.script-iterator.rest.ok.0 ∙ c.in-None.ensures.steps.0) in
    let all : c.loop-script.yielded ≡ c.args.scripts.items = sym (append-nil c.loop-script.yielded)
    ∙ ap (λ l. c.loop-script.yielded ++ l) (sym none_left) ∙ i.left in
    subst (λ l. ArePorts c.args.geometry c.args.options.now.dialect c.args.exchange.now.id c.args.options.now.accept c.args.options.now.fail_give l
    c.loop-script.ports.items) all i.ported
