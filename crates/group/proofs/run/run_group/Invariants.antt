use Rattle.group.proofs.run.run_group.Given as goal

-- the name of the lock under which stands what the storage side begins with
abbrev pub ghosts-run_named : goal.ghosts-run_named
ghosts-run_named g a = record { id = a.origin.now.of }
