use Rattle.std.specs.Prelude.{ℕ, List, Result, Ok, Err, IfOk}
use Rattle.std.specs.String.{string_bytes}
use Rattle.std.proofs.Common.{inr, subst}
use Rattle.serving.specs.Listening.{IsAddressLine, IsListeningLine}
use Rattle.serving.proofs.service.listening_line.Goals as goal

-- the line of an address is one of what `--listen` says
of_address : {T E : Type 0} (bytes : T → List ℕ) (listen : List ℕ) (port : ℕ) (result : Result T E)
    → IfOk result (λ line. IsAddressLine listen port (bytes line)) → IfOk result (λ line. IsListeningLine listen port (bytes line))
of_address bytes listen port (Ok line) held = inr held
of_address bytes listen port (Err error) held = held

pub returns : goal.returns
returns c = let made = c.address_line.result in
    let held = subst (λ listen. IfOk made (λ line. IsAddressLine listen c.args.port (string_bytes line)))
    c.as_str-listen.ensures.value c.address_line.ensures in
    of_address string_bytes (string_bytes c.args.options.now.listen) c.args.port made held
