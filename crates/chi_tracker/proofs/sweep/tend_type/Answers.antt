use Rattle.std.proofs.Common.{rules, ◌≡◌, sym, ap, ◌∙◌, subst, None}
use Rattle.chi_tracker.specs.declared.shape.Shape.{Shape}
use Rattle.chi_tracker.specs.Shape.{IsOf}
use Rattle.chi_tracker.specs.Views.{has}
use Rattle.chi_tracker.specs.Steps.{port_of}
use Rattle.chi_tracker.specs.History.{port_in}
use Rattle.chi_tracker.specs.Calls.{owner_in, stands_at}
use Rattle.chi_tracker.proofs.Conduct.{tend_some, tend_none}
use Rattle.chi_tracker.proofs.sweep.tend_type.Goals as goal

pub returns-in_err-entry-clause-acts : goal.returns-in_err-entry-clause-acts
returns-in_err-entry-clause-acts c =
    let looks = c.if-not-look_owed.ensures in let none : c.from_residual.result ≡ None = search rules in
    tend_none (owner_in c.args.port_seat.now) (owner_in c.look_owed.new.port_seat) (owner_in c.scan.new.port_seat) c.args.ty c.args.agents c.args.first c.args.count (port_in c.args.port_seat.now.me) c.from_residual.result
    (ap (λ s. (port_of s).who) looks.view.1 ∙ ap (λ p. p.who) looks.view.2.is) c.requires.agents.1 c.requires.range.0 c.requires.range.1 c.requires.range.2 looks.acts c.in_err-entry.ensures.taken none

pub returns-clause-acts : goal.returns-clause-acts
returns-clause-acts c =
    let looks = c.if-not-look_owed.ensures in let e = c.in_ok-entry.entry in let some = c.in_ok-entry.ensures.some in
    let now : port_in c.look_owed.new.port_seat.me ≡ stands_at c.args.ty looks.view.2.at looks.view.2.left (port_in c.args.port_seat.now.me) = ap port_of looks.view.1 ∙ looks.view.2.is in
    tend_some (owner_in c.args.port_seat.now) (owner_in c.look_owed.new.port_seat) (owner_in c.scan.new.port_seat) (owner_in c.release_entry.new.port_seat) c.args.ty c.args.agents c.args.first e (port_in c.args.port_seat.now.me) c.release_entry.result
    (ap (λ s. (port_of s).who) looks.view.1 ∙ ap (λ p. p.who) looks.view.2.is) (ap (λ s. (port_of s).who) some.2) c.requires.agents.1 c.requires.range.0
    (subst (λ (s : Shape). IsOf s c.args.ty e) (ap (λ p. p.shape) now) some.0) (ap (λ p. has e p) (sym now) ∙ some.1)
    looks.acts c.in_ok-entry.ensures.free c.release_entry.ensures.acts
