-- The history without an entry, numbers of entries, and what the clock answered.
use Rattle.std.proofs.Common.{◌≡◌, ℕ, zero, suc, ◌+◌, List, [], ◌∷◌, ◌++◌, ◌⊎◌, Bool, true, false, None, All, sym, ap, subst, ◌∙◌, append_assoc, arith}
use mathlib.Core.Option.{some, some-injective, some-ne-none}
use lib.ListN.{get_elem?}
use Rattle.proto.specs.declared.history.Answered.{Answered}
use Rattle.std.proofs.lemmas.List.{append-nil}
use Rattle.std.proofs.lemmas.List.Elements.{All-nil, All-cons, All-head, All-tail, All-append}
use Rattle.proto.specs.declared.logged_clock.ClockStart.{ClockStart}
use Rattle.proto.specs.declared.terms.Terms.{Terms}
use Rattle.proto.specs.declared.message.Request.TheVariants.{Stats}
use Rattle.proto.specs.declared.message.Reply.TheVariants.{NoMemory}
use Rattle.proto.specs.ClockAnswers.{GivenAnswer, IsRead}
use Rattle.proto.proofs.Outcomes.{IsGet}
use Rattle.proto.specs.History.{LegalBy, RefusesBy, MomentsFrom, NumbersFrom, answers_by}

-- an entry that was refused memory is a `get` or a `stats`
abbrev pub IsRefusedRead : Answered → Type 0
IsRefusedRead e = e.reply ≡ NoMemory → IsGet e.request ⊎ (e.request ≡ Stats)

abbrev any_start : ClockStart
any_start = record { unix = None; monotonic = None }

-- nothing was refused
pub refuses_none : (may_refuse : Bool) → RefusesBy may_refuse []
refuses_none may_refuse _ = All-nil IsRefusedRead

-- one more entry
pub refuses_more : (may_refuse : Bool) (h : List Answered) (e : Answered) → RefusesBy may_refuse h
    → (may_refuse ≡ false → IsRefusedRead e) → RefusesBy may_refuse (h ++ e ∷ [])
refuses_more may_refuse h e before one none =
    All-append IsRefusedRead h (e ∷ []) (before none) (All-cons IsRefusedRead e [] (one none) (All-nil IsRefusedRead))

pub legal_none : (terms : Terms) → LegalBy terms []
legal_none terms = record {
  legal = record { moments = tt; caches = []; chain = tt; counts = tt; numbers = λ w place e at. absurd (some-ne-none e (sym at)) };
  read = λ _. (any_start, All-nil (IsRead any_start));
  refused = refuses_none terms.may_refuse;
}

-- the entry at a place has the number that is as far from the first
number_at : (l : List Answered) (n place : ℕ) (e : Answered) → NumbersFrom n l → get_elem? l place ≡ some e → e.number ≡ n + place
number_at [] n place e h at = absurd (some-ne-none e (sym at))
number_at (b ∷ l) n zero e h at = ap (λ (x : Answered). x.number) (sym (some-injective b e at)) ∙ (h.0 ∙ (omega arith))
number_at (b ∷ l) n (suc place) e h at = number_at l (n + 1) place e h.1 at ∙ (omega arith)

-- numbers that count on from 1, place by place
pub numbered : (l : List Answered) → NumbersFrom 1 l → (place : ℕ) (e : Answered) → get_elem? l place ≡ some e → e.number ≡ place + 1
numbered l h place e at = number_at l 1 place e h at ∙ (omega arith)

-- the clock's answers go on from those of an entry
answers_on : (told : List GivenAnswer) (t : ℕ) (h : List Answered) → MomentsFrom told t h
    → (more : List GivenAnswer) × (answers_by told h ≡ told ++ more)
answers_on told t [] m = ([], sym (append-nil told))
answers_on told t (e ∷ h) m = let r = answers_on e.clock e.moment h m.3 in (
  m.0 ∷ r.0,
  r.1 ∙ ap (λ (l : List GivenAnswer). l ++ r.0) m.1 ∙ append_assoc told (m.0 ∷ []) r.0,
)

-- what holds of all items holds of those in front
all_front : {X : Type 0} (P : X → Type 0) (xs ys : List X) → All P (xs ++ ys) → All P xs
all_front P [] ys h = All-nil P
all_front P (x ∷ xs) ys h =
    All-cons P x xs (All-head P x (xs ++ ys) h) (all_front P xs ys (All-tail P x (xs ++ ys) h))

-- what holds of all answers of the clock holds of those of each entry
each_read : (P : GivenAnswer → Type 0) (told : List GivenAnswer) (t : ℕ) (h : List Answered) → MomentsFrom told t h
    → All P (answers_by told h) → All (λ (e : Answered). All P e.clock) h
each_read P told t [] m all = All-nil (λ (e : Answered). All P e.clock)
each_read P told t (e ∷ h) m all =
    let r = answers_on e.clock e.moment h m.3 in
    All-cons (λ (e : Answered). All P e.clock) e h (all_front P e.clock r.0 (subst (All P) r.1 all))
    (each_read P e.clock e.moment h m.3 all)

-- the answers in a history that is legal by the system's clock are its readings
pub all_read : (terms : Terms) (h : List Answered) → LegalBy terms h → terms.system_clock ≡ true
    → (start : ClockStart) × All (λ (e : Answered). All (IsRead start) e.clock) h
all_read terms h legal is_required =
    let r = legal.read is_required in (r.0, each_read (IsRead r.0) [] 0 h legal.legal.moments r.1)
