-- How what a port told goes on agreeing with its open streams.
use Rattle.std.proofs.Common.{◌≡◌, ℕ, ◌+◌, ◌<◌, ◌≤◌, Bool, true, false, not, ◌&&◌, ◌||◌, cond}
use Rattle.std.proofs.Common.{List, [], ◌∷◌, ◌++◌, refl, sym, ap, ◌∙◌, subst, arith}
use Rattle.std.specs.Prelude.{ℤ, Option, None, Some, is_some}
use Rattle.std.specs.Option.{option_map}
use Rattle.std.specs.Bool.{nat_eq}
use Rattle.std.proofs.lemmas.Bool.{both_ways, eqb-true, and_parts}
use Rattle.worker_port.specs.declared.events.PortRecord.{PortRecord}
use Rattle.worker_port.specs.declared.events.PortRecord.TheVariants.{Opened, Data, EndOfInput, Gone, Ended, Accepted, Shut}
use Rattle.worker_port.specs.Ports.{is_in, is_open, opened_count}
use Rattle.worker_port.specs.PortFacts.{PortFacts, port_facts}
use Rattle.worker_port.proofs.Facts.{about, elsewhere, facts_are, opened_here, fed_here, input_ended_here, gone_here, shut_here, accepted_here}
use Rattle.worker_port.proofs.Lists.{ended_same, ended_now, count_same, count_more}
use Rattle.exchange.specs.Ends.{TableId}
use Rattle.net.specs.Seen.{Seen, IsSet, fresh, then_received, then_sent, then_input_ended, has_input_ended, received_of, sent_of}
use Rattle.net.specs.Ties.{Ties, NoneBehind}

-- what the list says of a session, against its stream
pub record At (now : Option Seen) (f : PortFacts) : Type 0 where
  pub opens : (f.opened && not (f.gone || f.shut)) ≡ is_some now
  pub fed : is_some now ≡ true → f.fed ≡ received_of now
  pub given : is_some now ≡ true → f.given ≡ sent_of now
  pub input_ended : is_some now ≡ true → f.input_ended ≡ has_input_ended now

abbrev no_facts : PortFacts
no_facts = record { opened = false; input_ended = false; gone = false; shut = false; fed = []; given = [] }

at_each : (streams : ℕ → Option Seen) (last : ℕ) (l : List PortRecord) (e : Bool) → Ties streams last l e
    → (s : ℕ) → At (streams s) (port_facts l s)
at_each streams last l e t s = record { opens = t.0 s; fed = λ h. (t.1 s h).0; given = λ h. (t.1 s h).1; input_ended = λ h. (t.1 s h).2 }

behind_facts : (last : ℕ) (l : List PortRecord) → NoneBehind last l → (s : ℕ) → last < s → port_facts l s ≡ no_facts
behind_facts last l n s h = let b = n s h in facts_are l s no_facts b.0 b.1 b.2 b.3 b.4 b.5

ties_from : (streams : ℕ → Option Seen) (last : ℕ) (l : List PortRecord) (e : Bool) → ((s : ℕ) → At (streams s) (port_facts l s))
    → ((s : ℕ) → last < s → port_facts l s ≡ no_facts) → is_in Ended l ≡ e → opened_count l ≡ last → Ties streams last l e
ties_from streams last l e a n h count = (
  (λ s. (a s).opens),
  (λ s o. ((a s).fed o, (a s).given o, (a s).input_ended o)),
  (λ s b. let f = n s b in (
    ap (λ (x : PortFacts). x.opened) f,
    ap (λ (x : PortFacts). x.input_ended) f,
    ap (λ (x : PortFacts). x.gone) f,
    ap (λ (x : PortFacts). x.shut) f,
    ap (λ (x : PortFacts). x.fed) f,
    ap (λ (x : PortFacts). x.given) f,
  )),
  h,
  count,
)

-- a number that is is_open_now isn't after the last
not_behind : (streams : ℕ → Option Seen) (last : ℕ) (l : List PortRecord) (e : Bool) → Ties streams last l e → (s : ℕ)
    → is_open s l ≡ true → last < s → ⊥
not_behind streams last l e t s o b =
    both_ways (is_in (Opened s) l) (t.2 s b).0 (and_parts (is_in (Opened s) l) (not (is_in (Gone s) l || is_in (Shut s) l)) o).0

-- one more entry, about one session whose stream is set
module _ (streams next : ℕ → Option Seen) (last : ℕ) (l : List PortRecord) (e : Bool) (s : ℕ) (now : Option Seen) (x : PortRecord) where
  at_case : (o : ℕ) → next o ≡ cond (nat_eq s o) now (streams o) → (nat_eq s o ≡ false → about o x ≡ false)
      → At now (port_facts (l ++ x ∷ []) s) → At (streams o) (port_facts l o)
      → (b : Bool) → nat_eq s o ≡ b → At (next o) (port_facts (l ++ x ∷ []) o)
  at_case o set apart here old true is =
      subst (λ (n : Option Seen). At n (port_facts (l ++ x ∷ []) o)) (sym (set ∙ ap (λ b. cond b now (streams o)) is))
      (subst (λ (k : ℕ). At now (port_facts (l ++ x ∷ []) k)) (eqb-true s o is) here)
  at_case o set apart here old false is =
      subst (λ (n : Option Seen). At n (port_facts (l ++ x ∷ []) o)) (sym (set ∙ ap (λ b. cond b now (streams o)) is))
      (subst (λ (f : PortFacts). At (streams o) f) (sym (elsewhere l x o (apart is))) old)

  behind_case : (after : ℕ) (o : ℕ) → after < o → (last < o → port_facts l o ≡ no_facts) → last ≤ after → (s ≡ o → ⊥)
      → (nat_eq s o ≡ false → about o x ≡ false) → (b : Bool) → nat_eq s o ≡ b → port_facts (l ++ x ∷ []) o ≡ no_facts
  behind_case after o h n le ne apart true is = absurd (ne (eqb-true s o is))
  behind_case after o h n le ne apart false is = elsewhere l x o (apart is) ∙ n (omega arith)

  pub ties_more : (after : ℕ) → IsSet s now streams next → ((o : ℕ) → nat_eq s o ≡ false → about o x ≡ false)
      → last ≤ after → (after < s → ⊥) → is_in Ended (l ++ x ∷ []) ≡ e → opened_count (l ++ x ∷ []) ≡ after
      → At now (port_facts (l ++ x ∷ []) s) → (f : Bool) → Ties streams last l f → Ties next after (l ++ x ∷ []) e
  ties_more after set apart le in_range ends count here f t =
      ties_from next after (l ++ x ∷ []) e (λ o. at_case o (set o) (apart o) here (at_each streams last l f t o) (nat_eq s o) refl)
      (λ o h. behind_case after o h (λ b. behind_facts last l t.2 o b) le (λ is. in_range (subst (λ (k : ℕ). after < k) (sym is) h)) (apart o)
      (nat_eq s o) refl)
      ends count

-- ---- what the entry says of its own session

at_opened : (socket : ℤ) (exchange : TableId) (f : PortFacts) → f ≡ no_facts
    → At (Some (fresh socket exchange)) (record f { opened = true })
at_opened socket exchange f n = record {
  opens = subst (λ (g : PortFacts). (true && not (g.gone || g.shut)) ≡ true) (sym n) refl;
  fed = λ _. ap (λ (g : PortFacts). g.fed) n;
  given = λ _. ap (λ (g : PortFacts). g.given) n;
  input_ended = λ _. ap (λ (g : PortFacts). g.input_ended) n;
}

at_fed : (now : Option Seen) (f : PortFacts) (b : List ℕ) → At now f → At (option_map (then_received b) now) (record f { fed = f.fed ++ b })
at_fed None f b a = record {
  opens = a.opens;
  fed = λ h. absurd (both_ways false refl h);
  given = λ h. absurd (both_ways false refl h);
  input_ended = λ h. absurd (both_ways false refl h);
}
at_fed (Some x) f b a = record { opens = a.opens; fed = λ h. ap (λ (y : List ℕ). y ++ b) (a.fed h); given = a.given; input_ended = a.input_ended }

at_given : (now : Option Seen) (f : PortFacts) (b : List ℕ) → At now f → At (option_map (then_sent b) now) (record f { given = f.given ++ b })
at_given None f b a = record {
  opens = a.opens;
  fed = λ h. absurd (both_ways false refl h);
  given = λ h. absurd (both_ways false refl h);
  input_ended = λ h. absurd (both_ways false refl h);
}
at_given (Some x) f b a = record { opens = a.opens; fed = a.fed; given = λ h. ap (λ (y : List ℕ). y ++ b) (a.given h); input_ended = a.input_ended }

at_input_ended : (now : Option Seen) (f : PortFacts) → At now f → At (option_map then_input_ended now) (record f { input_ended = true })
at_input_ended None f a = record {
  opens = a.opens;
  fed = λ h. absurd (both_ways false refl h);
  given = λ h. absurd (both_ways false refl h);
  input_ended = λ h. absurd (both_ways false refl h);
}
at_input_ended (Some x) f a = record { opens = a.opens; fed = a.fed; given = a.given; input_ended = λ h. refl }

and_none : (b : Bool) → (b && false) ≡ false
and_none true = refl
and_none false = refl

or_all : (b : Bool) → (b || true) ≡ true
or_all true = refl
or_all false = refl

at_gone : (f : PortFacts) → At None (record f { gone = true })
at_gone f = record {
  opens = and_none f.opened;
  fed = λ h. absurd (both_ways false refl h);
  given = λ h. absurd (both_ways false refl h);
  input_ended = λ h. absurd (both_ways false refl h);
}

at_shut : (f : PortFacts) → At None (record f { shut = true })
at_shut f = record {
  opens = ap (λ (b : Bool). f.opened && not b) (or_all f.gone) ∙ and_none f.opened;
  fed = λ h. absurd (both_ways false refl h);
  given = λ h. absurd (both_ways false refl h);
  input_ended = λ h. absurd (both_ways false refl h);
}

-- ---- each entry

module _ (streams next : ℕ → Option Seen) (last after : ℕ) (l : List PortRecord) (e : Bool) (s : ℕ) (t : Ties streams last l e) where
  pub ties_opened : (socket : ℤ) (exchange : TableId) → s ≡ last + 1 → after ≡ s
      → IsSet s (Some (fresh socket exchange)) streams next
      → Ties next after (l ++ Opened s ∷ []) e
  ties_opened socket exchange n a set =
      ties_more streams next last l e s (Some (fresh socket exchange)) (Opened s) after set (λ o h. h) (omega arith) (λ h. absurd (omega arith))
      (ended_same l (Opened s) refl ∙ t.3) (omega (arith, count_more l s))
      (subst (λ (f : PortFacts). At (Some (fresh socket exchange)) f) (sym (opened_here l s))
      (at_opened socket exchange (port_facts l s) (behind_facts last l t.2 s (omega arith)))) e t

  pub ties_fed : (b : List ℕ) → is_open s l ≡ true → after ≡ last → IsSet s (option_map (then_received b) (streams s)) streams next
      → Ties next after (l ++ Data s b ∷ []) e
  ties_fed b is_open_now a set =
      ties_more streams next last l e s (option_map (then_received b) (streams s)) (Data s b) after set (λ o h. h) (omega arith)
      (λ h. not_behind streams last l e t s is_open_now (omega arith))
      (ended_same l (Data s b) refl ∙ t.3) (count_same l (Data s b) refl ∙ t.4 ∙ sym a)
      (subst (λ (f : PortFacts). At (option_map (then_received b) (streams s)) f) (sym (fed_here l s b))
      (at_fed (streams s) (port_facts l s) b (at_each streams last l e t s))) e t

  pub ties_given : (b : List ℕ) → is_open s l ≡ true → after ≡ last → IsSet s (option_map (then_sent b) (streams s)) streams next
      → Ties next after (l ++ Accepted s b ∷ []) e
  ties_given b is_open_now a set =
      ties_more streams next last l e s (option_map (then_sent b) (streams s)) (Accepted s b) after set (λ o h. h) (omega arith)
      (λ h. not_behind streams last l e t s is_open_now (omega arith))
      (ended_same l (Accepted s b) refl ∙ t.3) (count_same l (Accepted s b) refl ∙ t.4 ∙ sym a)
      (subst (λ (f : PortFacts). At (option_map (then_sent b) (streams s)) f) (sym (accepted_here l s b))
      (at_given (streams s) (port_facts l s) b (at_each streams last l e t s))) e t

  pub ties_input_ended : is_open s l ≡ true → after ≡ last → IsSet s (option_map then_input_ended (streams s)) streams next
      → Ties next after (l ++ EndOfInput s ∷ []) e
  ties_input_ended is_open_now a set =
      ties_more streams next last l e s (option_map then_input_ended (streams s)) (EndOfInput s) after set (λ o h. h) (omega arith)
      (λ h. not_behind streams last l e t s is_open_now (omega arith))
      (ended_same l (EndOfInput s) refl ∙ t.3) (count_same l (EndOfInput s) refl ∙ t.4 ∙ sym a)
      (subst (λ (f : PortFacts). At (option_map then_input_ended (streams s)) f) (sym (input_ended_here l s))
      (at_input_ended (streams s) (port_facts l s) (at_each streams last l e t s))) e t

  pub ties_gone : is_open s l ≡ true → after ≡ last → IsSet s None streams next → Ties next after (l ++ Gone s ∷ []) e
  ties_gone is_open_now a set =
      ties_more streams next last l e s None (Gone s) after set (λ o h. h) (omega arith) (λ h. not_behind streams last l e t s is_open_now (omega arith))
      (ended_same l (Gone s) refl ∙ t.3) (count_same l (Gone s) refl ∙ t.4 ∙ sym a)
      (subst (λ (f : PortFacts). At None f) (sym (gone_here l s)) (at_gone (port_facts l s))) e t

  pub ties_shut : is_open s l ≡ true → after ≡ last → IsSet s None streams next → Ties next after (l ++ Shut s ∷ []) e
  ties_shut is_open_now a set =
      ties_more streams next last l e s None (Shut s) after set (λ o h. h) (omega arith) (λ h. not_behind streams last l e t s is_open_now (omega arith))
      (ended_same l (Shut s) refl ∙ t.3) (count_same l (Shut s) refl ∙ t.4 ∙ sym a)
      (subst (λ (f : PortFacts). At None f) (sym (shut_here l s)) (at_shut (port_facts l s))) e t

pub ties_ended : (streams : ℕ → Option Seen) (last : ℕ) (l : List PortRecord) (e : Bool) → Ties streams last l e
    → Ties streams last (l ++ Ended ∷ []) true
ties_ended streams last l e t =
    ties_from streams last (l ++ Ended ∷ []) true
    (λ s. subst (λ (f : PortFacts). At (streams s) f) (sym (elsewhere l Ended s refl)) (at_each streams last l e t s))
    (λ s b. elsewhere l Ended s refl ∙ behind_facts last l t.2 s b) (ended_now l) (count_same l Ended refl ∙ t.4)
