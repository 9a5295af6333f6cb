use Rattle.chi_tracker.proofs.steps.see_step.Given as goal

abbrev pub ghosts-load_word : goal.ghosts-load_word
ghosts-load_word a = record { step = a.step }
