use mir.Val.{SFits}
use Rattle.std.proofs.Common.{rules, w64, ◌≡◌, ◌≤◌, ◌+◌, ◌-◌, ℤ, ℕ, Option, List, length, take, drop, sym, ap, subst, ◌∙◌, arith}
use Rattle.std.proofs.lemmas.Int.{to_z-of_z}
use Rattle.proto.specs.declared.message.Put.{Put}
use Rattle.proto.specs.Grammar.{Spells, refused_by}
use Rattle.proto.specs.PlainReader.{message_by}
use Rattle.proto.specs.declared.message.Message.{Message}
use Rattle.session_book.specs.Input.{Begins}
use Rattle.session_book.proofs.Blocks.{data_within, taken_put, taken_anew}
use Rattle.session_book.proofs.Inputs.{none_gone, dropping, whole_dropped}
use Rattle.session_book.proofs.input.Input.next.Goals as goal

pub returns-then-self-most_kept : goal.returns-then-self-most_kept
returns-then-self-most_kept c =
    let i = c.self.inside in
    let h = dropping i.dialect i.gone.items i.kept i.need (refused_by i.key i.noreply) c.self.invariant.3
    (rw c.most_kept.ensures.value at c.if-self-most_kept.true) in
    let is = c.in_ok-message.ensures ∙ c.too_large-view.ensures ∙ ap (λ (key : Option (List ℕ)). refused_by key i.noreply) c.lent_key.ensures in (
      subst (λ (m : Message). Begins c.args.self.now m i.need) (sym is)
          (whole_dropped c.args.self.now i.dialect i.gone.items i.kept i.need (refused_by i.key i.noreply) c.self.view_is h c.requires),
      c.self.view_is,
    )

pub overflow_sub-end : goal.overflow_sub-end
overflow_sub-end c =
    let f = c.in-Found-Put-default in let d = c.self.inside.dialect in let seen = c.as_slice.result.now in
    let put : Put = record { key = f.head.key.now; flags = f.head.flags; exptime = f.head.exptime; value = f.data.now } in
    let spells : Spells d (take f.length seen) (message_by f.head.word f.head.unique put f.head.noreply) = search rules in
    let found = data_within d seen f.head.word f.head.unique put f.head.noreply f.length (search rules) spells in
    let fits : length f.data.now + 2 ≤ f.length = found.0 in
    omega (arith, fits)

pub overflow_sub-start : goal.overflow_sub-start
overflow_sub-start c =
    let f = c.in-Found-Put-default in let d = c.self.inside.dialect in let seen = c.as_slice.result.now in
    let put : Put = record { key = f.head.key.now; flags = f.head.flags; exptime = f.head.exptime; value = f.data.now } in
    let spells : Spells d (take f.length seen) (message_by f.head.word f.head.unique put f.head.noreply) = search rules in
    let found = data_within d seen f.head.word f.head.unique put f.head.noreply f.length (search rules) spells in
    let fits : length f.data.now + 2 ≤ f.length = found.0 in
    omega (arith, fits)

pub invariant_of-self-then-is_worth_taking : goal.invariant_of-self-then-is_worth_taking
invariant_of-self-then-is_worth_taking c =
    let i = c.self.inside in
    taken_anew i.dialect i.gone.items i.kept c.take_part.new.self i.need i.dropped (refused_by i.key i.noreply) (refused_by i.key i.noreply) _
    c.self.invariant.3
    (rw c.most_kept.ensures.value at c.if-self-most_kept.false) c.self.invariant.0 (search rules)

pub returns-in_ok-value-in-Found-Put-default : goal.returns-in_ok-value-in-Found-Put-default
returns-in_ok-value-in-Found-Put-default c =
    let i = c.self.inside in let f = c.in-Found-Put-default in let seen = c.as_slice.result.now in
    let key = c.in_ok-key-in-Found-Put-default.key in let value = c.in_ok-value-in-Found-Put-default.value in
    let none = none_gone i.dialect i.gone.items i.kept i.need (refused_by i.key i.noreply) c.self.invariant.3
    (rw c.most_kept.ensures.value at c.if-self-most_kept.false) in
    let put : Put = record { key = f.head.key.now; flags = f.head.flags; exptime = f.head.exptime; value = f.data.now } in
    let spells : Spells i.dialect (take f.length seen) (message_by f.head.word f.head.unique put f.head.noreply) = search rules in
    let within : f.length ≤ length seen = (search rules) in
    let found = data_within i.dialect seen f.head.word f.head.unique put f.head.noreply f.length within spells in
    let value_is : value ≡ f.data.now = c.in_ok-value-in-Found-Put-default.ensures.part
    ∙ ap (λ (b : List ℕ). drop (f.length - 2 - length f.data.now) (take (f.length - 2) b)) (sym c.as_slice.ensures) ∙ found.1 in
    let fits : SFits w64 f.head.exptime = search rules in
    let made = c.request_to_store.ensures f.head.noreply ∙ ap (λ (z : ℤ). message_by f.head.word f.head.unique
    (record { key = key; flags = f.head.flags; exptime = z; value = value }) f.head.noreply) (to_z-of_z w64 f.head.exptime fits) in
    taken_put c.args.self.now i.dialect i.gone.items i.kept c.take_part.new.self i.need f.length f.head.word f.head.unique put
    (record { key = key; flags = f.head.flags; exptime = f.head.exptime; value = value }) f.head.noreply c.request_to_store.result
    c.self.view_is none (subst (λ (b : List ℕ). f.length ≤ length b) c.as_slice.ensures within)
    (subst (λ (b : List ℕ). Spells i.dialect (take f.length b) (message_by f.head.word f.head.unique put f.head.noreply)) c.as_slice.ensures spells)
    made
    (ap (λ (k : List ℕ). record { key = k; flags = f.head.flags; exptime = f.head.exptime; value = value })
    c.in_ok-key-in-Found-Put-default.ensures
    ∙ ap (λ (x : List ℕ). record { key = f.head.key.now; flags = f.head.flags; exptime = f.head.exptime; value = x }) value_is)
    c.in_ok-value-in-Found-Put-default.ensures.ok
