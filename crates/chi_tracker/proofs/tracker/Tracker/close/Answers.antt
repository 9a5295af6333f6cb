use Rattle.std.proofs.Common.{ap, ◌∙◌, sym, subst, length}
use Rattle.chi_tracker.specs.Totals.{views_of, longest, IsClosed}
use Rattle.chi_tracker.specs.Witness.{GoesOnFromEach}
use Rattle.chi_tracker.proofs.Balance.{views-length, closes, balances}
use Rattle.chi_tracker.proofs.tracker.Tracker.close.Goals as goal

pub last_words-words-requires-clause-all : goal.last_words-words-requires-clause-all
last_words-words-requires-clause-all g c =
    ap length c.gather-port_seat.ensures.port_seat.1 ∙ (views-length c.args.ports.items ∙ (c.requires.all ∙ sym (ap (λ s. s.agents) (c.self.invariant.2 ∙ ap (λ h. h.shape) c.self.view_is))))

pub returns-clause-closed : goal.returns-clause-closed
returns-clause-closed g c =
    let i = c.self.inside in
    subst (λ s. IsClosed s (views_of c.args.ports.items) (longest c.args.ports.items) c.counts-counts.result c.credits-requesters.result.items) (ap (λ h. h.shape) c.self.view_is)
    (closes i.table.shared.key i.shape c.last_words-words.result c.gather-port_seat.result.port_seat.me.0.ports (views_of c.args.ports.items) c.gather-port_seat.result.port_seat.me.0.history (longest c.args.ports.items) c.gather-port_seat.result.dues c.counts-counts.result c.credits-requesters.result.items
    c.self.invariant.2 c.gather-port_seat.ensures.port_seat.1 c.gather-port_seat.ensures.history c.last_words-words.ensures.rule c.last_words-words.ensures.history c.gather-port_seat.ensures.idle c.gather-port_seat.ensures.due c.counts-counts.ensures c.credits-requesters.ensures)

pub returns-clause-balanced : goal.returns-clause-balanced
returns-clause-balanced g c = balances c.args.self.shape (views_of c.args.ports.items) (longest c.args.ports.items) c.counts-counts.result c.credits-requesters.result.items (returns-clause-closed g c)

pub returns-clause-later : goal.returns-clause-later
returns-clause-later g c = subst (GoesOnFromEach c.args.ports.items) c.gather-port_seat.ensures.history c.gather-port_seat.ensures.later
