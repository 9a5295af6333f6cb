use Rattle.std.proofs.Common.{subst, rules, ◌≡◌, []}
use Rattle.chi_tracker.specs.Rule.{TrackerRule}
use Rattle.chi_tracker.specs.Totals.{closed_state}
use Rattle.chi_tracker.proofs.Seats.{reached_rule}
use Rattle.chi_tracker.proofs.Whole.{all_known}
use Rattle.chi_tracker.specs.History.{history_outcome, Legal, ArePortsOf}
use Rattle.chi_tracker.proofs.Balance.{one_seat}
use Rattle.chi_tracker.proofs.closing.last_words.Goals as goal

pub returns-clause-rule : goal.returns-clause-rule
returns-clause-rule g c =
    let last = c.close_with-closed.ensures.values.2 in let key = c.args.table.shared.key in let port_seat = c.args.port_seat in
    subst (λ ws. TrackerRule key (closed_state ws port_seat.me.0.ports)) (search (rules, last.2, c.read-words.ensures))
    (one_seat key last.0 port_seat.id port_seat.me.0 (reached_rule key last.0 last.1.0) last.1.1 c.requires.all)

pub returns-clause-history : goal.returns-clause-history
returns-clause-history g c =
    let last = c.close_with-closed.ensures.values.2 in let key = c.args.table.shared.key in let port_seat = c.args.port_seat in
    subst (λ ws. Legal key port_seat.me.0.history × (ws ≡ (history_outcome key port_seat.me.0.history).words) × ArePortsOf key port_seat.me.0.history [] port_seat.me.0.ports) (search (rules, last.2, c.read-words.ensures))
    (all_known key last.0 port_seat.id port_seat.me.0 last.1.0 last.1.1 c.requires.all)
