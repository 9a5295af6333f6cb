use Rattle.chi_observer.proofs.Crossing.{behind_held, early_held, late_taken}
use Rattle.chi_observer.proofs.prompt.crossing_flits.Goals as goal

pub returns-clause-late : goal.returns-clause-late
returns-clause-late c = late_taken

pub returns-clause-early : goal.returns-clause-early
returns-clause-early c = early_held

pub returns-clause-behind : goal.returns-clause-behind
returns-clause-behind c = behind_held
