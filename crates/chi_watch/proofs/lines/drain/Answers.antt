-- Each flit that is taken out is judged and counted, and one fewer is left.
use Rattle.std.proofs.Common.{◌≡◌, ◌+◌, length, sym, ap, ◌∙◌, arith}
use Rattle.chi_watch.specs.Held.{held_in}
use Rattle.chi_watch.specs.Judges.{judged}
use Rattle.chi_watch.specs.Lines.{drained, nothing_done}
use Rattle.chi_watch.proofs.DrainLemmas.{moves_on, shorter}
use Rattle.chi_watch.proofs.lines.drain.Goals as goal

pub loop-flit-smaller : goal.loop-flit-smaller
loop-flit-smaller g c =
    let left : length (held_in c.next.new.self) + 1 ≡ length (held_in c.loop-flit.held) =
    ap (λ h. length h + 1) c.next.ensures.rest ∙ shorter (held_in c.loop-flit.held) c.in-Some.flit (sym c.next.ensures.front ∙ c.in-Some.is) in
    omega (arith, left)

pub loop-flit-preserved : goal.loop-flit-preserved
loop-flit-preserved g c =
    moves_on c.args.strays.now (drained c.args.strays.now (judged c.args.judge.now) (held_in c.args.held.now) nothing_done)
    (judged c.loop-flit.judge) (judged c.take-verdict.new.self) (held_in c.loop-flit.held) (held_in c.next.new.self) c.loop-flit.done c.count.new.self
    c.in-Some.flit c.take-verdict.result (sym c.next.ensures.front ∙ c.in-Some.is) c.take-verdict.ensures.after c.next.ensures.rest
    c.take-verdict.ensures.verdict c.count.ensures c.loop-flit.invariant
