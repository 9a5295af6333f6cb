-- What is judged at once needn't wait.
use Rattle.std.proofs.Common.{sym, ◌∙◌}
use Rattle.chi_watch.specs.Lines.{line_state}
use Rattle.chi_watch.proofs.DrainLemmas.{once_done}
use Rattle.chi_watch.proofs.lines.LineSeen.arrive.Goals as goal

pub returns-then-is_next-clause-ok : goal.returns-then-is_next-clause-ok
returns-then-is_next-clause-ok g c =
    once_done c.args.strays.now (line_state c.args.self.now) (line_state c.judge_at_once.new.self) c.args.flit.now c.judge_at_once.result
    (sym c.is_next.ensures ∙ c.if-is_next.true) c.judge_at_once.ensures
