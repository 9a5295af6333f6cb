-- By the law of whole traces.
use Rattle.chi_watch.proofs.LegalLemmas.{judged_is_legal, legal_is_judged}
use Rattle.chi_watch.proofs.laws.judged_lines.Goals as goal

pub returns-clause-legal : goal.returns-clause-legal
returns-clause-legal c = judged_is_legal c.traces.ensures.legal

pub returns-clause-judged : goal.returns-clause-judged
returns-clause-judged c = legal_is_judged c.traces.ensures.accepted
