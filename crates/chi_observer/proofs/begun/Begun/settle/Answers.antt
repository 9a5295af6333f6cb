-- What is set is what is kept then.
use Rattle.std.proofs.Common.{rules, arith, ◌<◌, ℕ, length, ap, ◌∙◌}
use Rattle.std.specs.Prelude.{Bool, ◌||◌}
use Rattle.chi_observer.specs.Lines.{agent_of}
use Rattle.chi_observer.specs.Begun.{mark_of, marks_beside}
use Rattle.chi_observer.proofs.Middle.{kept_is}
use Rattle.chi_observer.proofs.begun.Begun.settle.Goals as goal

pub returns : goal.returns
returns c =
    let old = c.args.self.now in
    let n = c.args.at in
    let w = c.args.next in
    let low : n < length w.agents = search (rules, arith) in
    let low_marks : n < length c.beside-self.result = search (rules, arith, c.beside-self.auto) in
    kept_is w n (mark_of old.agents n) c.args.flit (agent_of old.observer.agents n).due (agent_of old.observer.agents n).snooped old.observer.home c.words_behind-next.result old.agents c.beside-self.result c.settled.result c.behind-behind.result c.is_either.result low low_marks
    c.behind-behind.ensures
    c.settled.ensures
    c.words_behind-next.ensures
    (c.is_either.ensures ∙ ap (λ (b : Bool). w.current || b) c.blurs.ensures)
    (λ (j : ℕ). c.beside-self.ensures j ∙ ap (λ (b : Bool). marks_beside b (mark_of old.agents) j) c.leaves_alone.ensures)
