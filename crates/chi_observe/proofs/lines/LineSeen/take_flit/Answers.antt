-- The line behind the flit.
use Rattle.std.proofs.Common.{eq-eqb, rules, ◌≡◌, ◌==◌, true, false}
use Rattle.chi_observe.specs.Judges.{before_of, judged}
use Rattle.chi_observe.specs.Lines.{line_state}
use Rattle.chi_observe.proofs.LineLemmas.{told_is}
use Rattle.chi_observe.proofs.lines.LineSeen.take_flit.Goals as goal

pub returns-in_ok-mark-in-Ok : goal.returns-in_ok-mark-in-Ok
returns-in_ok-mark-in-Ok g c =
    let old = c.args.self.now in
    let is_judged : old.aside ≡ false = search rules in
    let one_home : old.home.0 ≡ c.args.home.0 = search rules in
    let same : (old.home.0 == c.args.home.0) ≡ true = eq-eqb old.home.0 c.args.home.0 one_home in
    told_is (before_of c.args.before.now) (line_state old) c.args.number c.args.home c.args.flit.now c.in-Some.flit (judged c.take.new.self) (line_state c.mark.new.self)
    c.in-Some.is is_judged same c.in-Ok.ensures.verdict c.in_ok-mark-in-Ok.ensures
