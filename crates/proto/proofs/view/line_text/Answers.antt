use Rattle.std.proofs.Common.{◌≡◌, ◌∙◌, ap, sym, refl, [], ◌∷◌, ◌++◌, eqb, true, false}
use Rattle.std.proofs.lemmas.Bool.{false_from_ne_true, eqb-true, false≢true}
use Rattle.proto.specs.declared.dialect.Dialect.{Dialect}
use Rattle.proto.specs.declared.dialect.Dialect.TheVariants.{Strict, Lenient}
use Rattle.proto.specs.Lines.{IsLenient, is_lenient, line_text}
use Rattle.proto.specs.Words.{space}
use Rattle.proto.proofs.LastSpaces.{last_space, any_other}
use Rattle.proto.proofs.view.line_text.Goals as goal
use Rattle.proto.proofs.view.line_text.Goals.{then-last-ne32-via-then-last-ne32}
use Rattle.proto.proofs.view.line_text.Goals.{then-last-ne32-via-else-last-ne32+then-not-is_lenient}

-- the dialect is the strict one
strict_one : (d : Dialect) → is_lenient d ≡ false → d ≡ Strict
strict_one Strict e = refl
strict_one (Lenient limit) e = absurd (false≢true (sym e))

-- or the other one
lenient_one : (d : Dialect) → is_lenient d ≡ true → IsLenient d
lenient_one Strict e = absurd (false≢true e)
lenient_one (Lenient limit) e = (limit, refl)

pub returns-then-last-ne32 : goal.returns-then-last-ne32
returns-then-last-ne32 c =
    elim c.then-last-ne32.branch [
      | then-last-ne32-via-then-last-ne32 w ↦
          let other : eqb c.in-Some.last.now space ≡ false =
          false_from_ne_true _ (λ e. w.if-last-ne32.true (eqb-true _ _ e)) in
          c.in-Some.ensures.cases.0 ∙ sym (any_other c.args.dialect c.in-Some.front.now c.in-Some.last.now other)
          ∙ ap (line_text c.args.dialect) (sym c.in-Some.ensures.cases.0) ∙ c.loop-last.invariant
      | then-last-ne32-via-else-last-ne32+then-not-is_lenient w ↦
          let strict = strict_one c.args.dialect (sym w.is_lenient.ensures ∙ w.if-not-is_lenient.true) in
          ap (λ (d : Dialect). line_text d c.loop-last.rest.now) (sym strict) ∙ c.loop-last.invariant
    ]

pub loop-last-preserved : goal.loop-last-preserved
loop-last-preserved c =
    let lenient = lenient_one c.args.dialect (sym c.is_lenient.ensures ∙ c.if-not-is_lenient.false) in
    let ends : c.loop-last.rest.now ≡ c.in-Some.front.now ++ space ∷ [] =
    rw c.if-last-ne32.false at c.in-Some.ensures.cases.0 in
    let same : line_text (Lenient lenient.0) c.in-Some.front.now ≡ line_text (Lenient lenient.0) c.loop-last.rest.now =
    sym (last_space lenient.0 c.in-Some.front.now) ∙ ap (line_text (Lenient lenient.0)) (sym ends) in
    let here : line_text c.args.dialect c.in-Some.front.now ≡ line_text c.args.dialect c.loop-last.rest.now =
    rw lenient.1 same in
    here ∙ c.loop-last.invariant
