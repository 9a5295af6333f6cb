use Rattle.chi_tracker.proofs.witness.tell.Given as goal

abbrev pub ghosts-tell_past : goal.ghosts-tell_past
ghosts-tell_past a = record { history = a.own.me.0.history }
