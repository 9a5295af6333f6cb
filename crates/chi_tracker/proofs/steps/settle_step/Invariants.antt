use Rattle.chi_tracker.proofs.steps.settle_step.Given as goal

abbrev pub ghosts-clear_bits : goal.ghosts-clear_bits
ghosts-clear_bits a = record { step = a.step }
