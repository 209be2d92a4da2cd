use mir.Val.{SFits}
use Rattle.std.proofs.Common.{rules, w64, ◌≡◌, ℕ, ℤ, ◌^◌, Bool, true, false, List, [], ◌∷◌, length, Some}
use Rattle.std.proofs.Common.{refl, sym, ap, ◌∙◌}
use Rattle.std.specs.Prelude.{nat_le}
use Rattle.std.specs.List.{list_all}
use Rattle.std.proofs.lemmas.Bool.{and_parts}
use Rattle.std.proofs.lemmas.Int.{to_z-of_z}
use Rattle.proto.specs.Lines.{is_key}
use Rattle.proto.specs.Grammar.{meant}
use Rattle.proto.specs.declared.dialect.Dialect.{Dialect}
use Rattle.proto.specs.declared.message.Request.TheVariants.{GetAndTouch}
use Rattle.proto.specs.PlainReader.{request, taken, signed_in, get_and_touch_in}
use Rattle.proto.proofs.Options.{bind_some, some_is, none_is_some}
use Rattle.proto.proofs.line.get_and_touch.Goals as goal

-- what is read of an exptime and of keys behind it
read : (d : Dialect) (with_cas : Bool) (words keys : List (List ℕ)) (e : ℤ) → Some (e, keys) ≡ taken (signed_in (10 ^ 10)) words
    → nat_le 1 (length keys) ≡ true → list_all is_key keys ≡ true
    → Some (request (GetAndTouch keys with_cas (meant d e)) false) ≡ get_and_touch_in d with_cas words
read d with_cas [] keys e is some all = absurd (none_is_some (e, keys) (sym is))
read d with_cas (word ∷ words) keys e is some all =
    let a = bind_some (signed_in (10 ^ 10) word) (λ a. Some (a, words)) (e, keys) (sym is) in
    let same = some_is (a.0, words) (e, keys) a.2 in
    let exptime : signed_in (10 ^ 10) word ≡ Some e = a.1 ∙ ap (λ (p : ℤ × List (List ℕ)). Some p.0) same in
    let behind : words ≡ keys = ap (λ (p : ℤ × List (List ℕ)). p.1) same in
    rw (exptime, behind, some, all) refl

pub returns : goal.returns
returns c =
    let fits : SFits w64 c.meant.result = search rules in
    let written : SFits w64 c.in_ok-written.written = search rules in
    let keys = c.next_signed.new.self in
    let both = and_parts (nat_le 1 (length keys)) (list_all is_key keys) (sym c.are_keys.ensures ∙ c.if-not-are_keys.false) in
    ap (λ (e : ℤ). Some (request (GetAndTouch c.next_signed.new.self c.args.with_cas e) false))
    (to_z-of_z w64 c.meant.result fits ∙ c.meant.ensures)
    ∙ read c.args.dialect c.args.with_cas c.args.words c.next_signed.new.self _
    (ap (λ (e : ℤ). Some (e, c.next_signed.new.self)) (to_z-of_z w64 c.in_ok-written.written written) ∙ c.in_ok-written.ensures) both.0 both.1
