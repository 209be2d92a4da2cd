use Rattle.serving.proofs.service.serve.Goals as goal

-- the line was printed with the listener's port
pub returns-clause-announced : goal.returns-clause-announced
returns-clause-announced g c = let said = c.in_ok-announce.ensures in (c.port.result, said.0, said.1, said.2)
