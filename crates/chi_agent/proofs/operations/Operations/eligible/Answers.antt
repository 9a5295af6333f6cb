use Rattle.std.proofs.Common.{rules, ◌≡◌, ◌∙◌, ap, sym, subst}
use Rattle.std.specs.Prelude.{position, IfNone, None}
use Rattle.chi_agent.specs.Operations.{is_on, IsNoneEligible}
use Rattle.chi_agent.proofs.Places.{eligible_none, eligible_some, none_is, some_is}
use Rattle.chi_agent.proofs.operations.Operations.eligible.Goals as goal

pub returns-in_err-place-clause-is : goal.returns-in_err-place-clause-is
returns-in_err-place-clause-is g c =
    let found : c.first_on.result ≡ position (is_on c.args.line.0) c.self.inside.window.items = c.first_on.ensures ∙ ap (position (is_on c.args.line.0)) c.deref.ensures.0 in
    let none : c.from_residual.result ≡ None = search rules in
    none ∙ none_is c.args.line.0 c.self.inside.window.items c.args.self.now c.self.inside.script.items c.self.inside.next c.first_on.result c.self.invariant c.self.view_is found c.in_err-place.was

pub returns-in_err-place-clause-none : goal.returns-in_err-place-clause-none
returns-in_err-place-clause-none g c =
    let found : c.first_on.result ≡ position (is_on c.args.line.0) c.self.inside.window.items = c.first_on.ensures ∙ ap (position (is_on c.args.line.0)) c.deref.ensures.0 in
    let none : c.from_residual.result ≡ None = search rules in
    subst (λ o. IfNone o (IsNoneEligible c.args.self.now c.args.line.0)) (sym none)
    (eligible_none c.args.line.0 c.self.inside.window.items c.args.self.now c.self.inside.script.items c.self.inside.next c.first_on.result c.self.invariant c.self.view_is found c.in_err-place.was)

pub returns-clause-is : goal.returns-clause-is
returns-clause-is g c =
    let found : c.first_on.result ≡ position (is_on c.args.line.0) c.self.inside.window.items = c.first_on.ensures ∙ ap (position (is_on c.args.line.0)) c.deref.ensures.0 in
    some_is c.args.line.0 c.self.inside.window.items c.args.self.now c.self.inside.script.items c.self.inside.next c.first_on.result c.in_ok-place.place c.self.invariant c.self.view_is found c.in_ok-place.was

pub returns-clause-some : goal.returns-clause-some
returns-clause-some g c =
    let found : c.first_on.result ≡ position (is_on c.args.line.0) c.self.inside.window.items = c.first_on.ensures ∙ ap (position (is_on c.args.line.0)) c.deref.ensures.0 in
    eligible_some c.args.line.0 c.self.inside.window.items c.args.self.now c.self.inside.script.items c.self.inside.next c.first_on.result c.in_ok-place.place c.self.invariant c.self.view_is found c.in_ok-place.was
