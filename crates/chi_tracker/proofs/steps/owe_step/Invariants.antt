use Rattle.chi_tracker.proofs.steps.owe_step.Given as goal

abbrev pub ghosts-set_bits : goal.ghosts-set_bits
ghosts-set_bits a = record { step = a.step }
