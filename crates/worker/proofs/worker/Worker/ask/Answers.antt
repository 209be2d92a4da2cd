use Rattle.std.proofs.Common.{◌≡◌, refl, sym, ap, subst, ◌∙◌, Option, Some, None, Result, Ok}
use Rattle.session_book.specs.Book.{session_of, NextAsk, given_in}
use Rattle.worker.proofs.WorkerSteps.{WorkerGoesOn, continues, no_memory_goes_on, open_at}
use Rattle.worker.proofs.OutputSteps.{some_known}
use Rattle.worker.proofs.RunViews.{at_same}
use Rattle.worker.proofs.AskSteps.{quiet_goes_on, none_goes_on, one_goes_on, goes_on_trans}
use Rattle.worker.proofs.worker.Worker.ask.Given.{Over}
use Rattle.worker.proofs.worker.Worker.ask.Goals as goal
use Rattle.worker.proofs.worker.Worker.ask.Goals.{In-Ok-Some, In-Ok-None, In-Err-Waits, After-shut}

one_is : {A E : Type 0} (r : Result (Option A) E) (x : A) → r ≡ Ok (Some x) → r ≡ Ok None → ⊥
one_is r x one none = let two : Ok (Some x) ≡ Ok None = sym one ∙ none in absurd (cc)

-- a request was read, and is held
read_one : (g : Over) (c : In-Ok-Some g) → WorkerGoesOn g.P.Port.told c.self.inside.state (record c.self.inside.state {
  book = c.next_ask.new.self;
  request = Some (record {
    session = c.args.session;
    number = c.in-Ok-Some.number;
    request = c.in-Ok-Some.request;
  });
})
read_one g c =
    let w = c.self.inside.state in let t = c.args.session in let b = c.next_ask.new.self in let a = c.in-Ok-Some in
    let new = record w { book = b; request = Some (record { session = t; number = a.number; request = a.request }) } in
    let is = a.is ∙ ap Ok a.field-0-is in
    let s = some_known (session_of w.book t) (λ none. one_is c.next_ask.result _ is (c.next_ask.ensures.closed none).0) in
    one_goes_on g.P.Port.told w new t s.0 a.request a.number refl refl (rw c.self.view_is c.requires)
    refl refl refl refl refl c.self.invariant s.1
    (subst (λ r. NextAsk w.book t s.0 r b) is (c.next_ask.ensures.open s.0 s.1))

pub invariant_of-self : goal.invariant_of-self
invariant_of-self g c = (read_one g (goal.at.invariant_of-self g c).In-Ok-Some).serving

pub returns-in-Ok-Some : goal.returns-in-Ok-Some
returns-in-Ok-Some g c =
    continues c.self.view_is (g.met.P.Port.leads_reflexive _) (read_one g (goal.at.returns-in-Ok-Some g c).In-Ok-Some)

-- none was
read_none : (g : Over) (c : In-Ok-None g)
    → WorkerGoesOn g.P.Port.told c.self.inside.state (record c.self.inside.state { book = c.next_ask.new.self })
read_none g c =
    let w = c.self.inside.state in let t = c.args.session in let b = c.next_ask.new.self in
    let is = c.in-Ok-None.is ∙ ap Ok c.in-Ok-None.field-0-is in
    quiet_goes_on g.P.Port.told w (record w { book = b }) t
    (session_of w.book t) refl refl refl refl refl refl refl refl c.self.invariant
    (λ none. (c.next_ask.ensures.closed none).1)
    (λ s e. subst (λ r. NextAsk w.book t s r b) is (c.next_ask.ensures.open s e))

pub invariant_of-self-in-Ok-None : goal.invariant_of-self-in-Ok-None
invariant_of-self-in-Ok-None g c = (read_none g (goal.at.invariant_of-self-in-Ok-None g c).In-Ok-None).serving

pub returns-in-Ok-None : goal.returns-in-Ok-None
returns-in-Ok-None g c =
    continues c.self.view_is (g.met.P.Port.leads_reflexive _) (read_none g (goal.at.returns-in-Ok-None g c).In-Ok-None)

-- it waits
read_waits : (g : Over) (c : In-Err-Waits g)
    → WorkerGoesOn g.P.Port.told c.self.inside.state (record c.self.inside.state { book = c.next_ask.new.self })
read_waits g c =
    let w = c.self.inside.state in let t = c.args.session in let mid = record w { book = c.next_ask.new.self } in
    let s = some_known (session_of w.book t)
    (λ none. let bad = (c.next_ask.ensures.closed none).0 in let is = c.in-Err-Waits.is in absurd (cc)) in
    none_goes_on g.P.Port.told w mid t s.0 c.next_ask.result
    refl refl refl refl refl refl refl c.self.invariant s.1 (c.next_ask.ensures.open s.0 s.1) (ap given_in c.in-Err-Waits.is)

pub invariant_of-self-in-Err-Waits : goal.invariant_of-self-in-Err-Waits
invariant_of-self-in-Err-Waits g c = (read_waits g (goal.at.invariant_of-self-in-Err-Waits g c).In-Err-Waits).serving

pub returns-in-Err-Waits : goal.returns-in-Err-Waits
returns-in-Err-Waits g c =
    continues c.self.view_is (g.met.P.Port.leads_reflexive _) (read_waits g (goal.at.returns-in-Err-Waits g c).In-Err-Waits)

-- memory ran out, and the session was shut
starved : (g : Over) (c : After-shut g) → WorkerGoesOn g.P.Port.told c.self.inside.state c.shut.new.self
starved g c =
    let w = c.self.inside.state in let t = c.args.session in let mid = record w { book = c.next_ask.new.self } in
    let s = some_known (session_of w.book t)
    (λ none. let bad = (c.next_ask.ensures.closed none).0 in let is = c.in-Err-NoMemory.is in absurd (cc)) in
    let a = c.next_ask.ensures.open s.0 s.1 in
    let first = none_goes_on g.P.Port.told w mid t s.0 c.next_ask.result
    refl refl refl refl refl refl refl c.self.invariant s.1 a (ap given_in c.in-Err-NoMemory.is) in
    goes_on_trans g.P.Port.told w mid c.shut.new.self first
    (no_memory_goes_on g.P.Port.told mid c.shut.new.self t a.read c.shut.ensures.shuts first.serving
    (a.only_at t ∙ at_same t (Some a.read) (session_of w.book t)))

pub invariant_of-self-in-Err-NoMemory : goal.invariant_of-self-in-Err-NoMemory
invariant_of-self-in-Err-NoMemory g c = (starved g (goal.at.invariant_of-self-in-Err-NoMemory g c).After-shut).serving

pub returns-in-Err-NoMemory : goal.returns-in-Err-NoMemory
returns-in-Err-NoMemory g c =
    continues c.self.view_is c.shut.ensures.leads (starved g (goal.at.returns-in-Err-NoMemory g c).After-shut)

pub shut-requires : goal.shut-requires
shut-requires g c =
    let w = c.self.inside.state in let t = c.args.session in
    let s = some_known (session_of w.book t)
    (λ none. let bad = (c.next_ask.ensures.closed none).0 in let is = c.in-Err-NoMemory.is in absurd (cc)) in
    open_at g.P.Port.told w t s.0 c.self.invariant s.1
