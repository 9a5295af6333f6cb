-- What is set is what is kept then.
use Rattle.std.proofs.Common.{rules, arith, ◌≡◌, ◌<◌, ℕ, length, sym, ap, subst, ◌∙◌}
use Rattle.std.specs.Prelude.{Bool, false, ◌||◌, not}
use Rattle.chi_observer.specs.declared.told.Told.{Told}
use Rattle.chi_observer.specs.Rules.{needs_alone}
use Rattle.chi_observer.specs.Tables.{told_by, shows_told, fills_told}
use Rattle.chi_observer.specs.Worlds.{home_may}
use Rattle.chi_observer.specs.Observed.{fits, goes}
use Rattle.chi_observer.specs.Lines.{agent_of, known_of, observed, stands_beside}
use Rattle.chi_observer.proofs.Lines.{given_by, apart}
use Rattle.chi_observer.proofs.observer.Observer.take_given.Goals as goal

pub returns-clause-after : goal.returns-clause-after
returns-clause-after c =
    let old = c.args.self.now in
    let low : c.from-at.result < length old.agents = search (rules, arith) in
    given_by old.stores old.agents old.home old.current old.duty old.thrown c.granted.result c.shown-self.result c.current_granted-self.result c.duty_granted-self.result c.thrown_granted-self.result
    c.args.flit c.from-at.result c.is_shown-shows.result
    c.from-at.ensures low c.granted.ensures c.is_shown-shows.ensures c.shown-self.ensures c.current_granted-self.ensures c.duty_granted-self.ensures c.thrown_granted-self.ensures

pub returns-then-not-stands_beside-clause-taken : goal.returns-then-not-stands_beside-clause-taken
returns-then-not-stands_beside-clause-taken c =
    let old = c.args.self.now in
    let g = c.args.flit in
    let n : ℕ = c.from-at.result in
    let none : c.stands_beside.result ≡ false = search (rules, arith, c.if-not-stands_beside) in
    let at_n : stands_beside old.agents g.agent.0 (told_by g.grant (agent_of old.agents n).due (agent_of old.agents n).told) (needs_alone g.grant (agent_of old.agents n).due) ≡ false =
    sym (c.stands_beside.ensures ∙ ap (λ (t : Told). stands_beside old.agents g.agent.0 t c.needs_alone-alone.result) c.granted-told.ensures
    ∙ ap (λ (z : Bool). stands_beside old.agents g.agent.0 (told_by g.grant (agent_of old.agents n).due (agent_of old.agents n).told) z) c.needs_alone-alone.ensures) ∙ none in
    let at : goes (observed old) g ≡ false = subst (λ (k : ℕ). stands_beside old.agents g.agent.0 (told_by g.grant (agent_of old.agents k).due (agent_of old.agents k).told) (needs_alone g.grant (agent_of old.agents k).due) ≡ false) c.from-at.ensures at_n in
    apart (home_may (observed old).public g) (not (shows_told g.grant (known_of (agent_of old.agents g.agent.0))) || fits old.home g.shown) (not (fills_told g.grant (known_of (agent_of old.agents g.agent.0))) || old.current) (goes (observed old) g) at
