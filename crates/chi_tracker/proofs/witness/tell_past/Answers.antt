use Rattle.std.proofs.Common.{◌≡◌, List, [], ◌∷◌, sym, ap, ◌∙◌, subst, arith}
use Rattle.atomic_table.specs.Table.{Splits}
use Rattle.chi_tracker.specs.declared.view.SeatView.{SeatView}
use Rattle.chi_tracker.specs.Acts.{Act}
use Rattle.chi_tracker.specs.Views.{PortView}
use Rattle.chi_tracker.specs.Steps.{first_port}
use Rattle.chi_tracker.specs.History.{port_in, longer, Reached, IsAfter}
use Rattle.chi_tracker.specs.Calls.{rest_ports}
use Rattle.chi_tracker.specs.Witness.{Told, joined, IsKnown}
use Rattle.chi_tracker.proofs.Together.{meets, knows_port, goes_back, met_is, met_after, met_told}
use Rattle.chi_tracker.proofs.witness.tell_past.Goals as goal

pub join_seat-requires : goal.join_seat-requires
join_seat-requires g c =
    let w = c.args.witness.now in let own = c.args.own in
    (c.requires.witness.0, c.requires.own.0, ap (λ z. z.1) c.requires.own.2, omega arith, meets c.args.board.now.key w.id w.me.0 own.id own.me.0)

pub load-requires : goal.load-requires
load-requires g c =
    let seat = c.join_seat.new.seat in
    (c.join_seat.ensures.0 ∙ c.requires.witness.0, omega arith, knows_port c.args.board.now.key c.args.board.now.table_id.slots seat.id seat.me)

pub split_seat-requires : goal.split_seat-requires
split_seat-requires g c =
    let w = c.args.witness.now in let own = c.args.own in let key = c.args.board.now.key in let seat = c.load.new.seat in let p = port_in own.me in
    let known : IsKnown (joined w.me.0 own.me.0) = subst IsKnown (ap (λ m. m.0) c.join_seat.ensures.2) c.load.ensures.2.1 in
    let none = ap (λ m. m.0.ports) c.requires.witness.1 in let mine = ap (λ z. z.0) c.requires.own.2 in
    let view : seat.me.0 ≡ record { ports = p ∷ []; history = longer own.me.0.history w.me.0.history } = ap (λ m. m.0) (c.load.ensures.2.0 ∙ c.join_seat.ensures.2) ∙ met_is w.me.0 own.me.0 p none mine known in
    let told = met_told w.me.0 own.me.0 p none mine known in (
      c.load.ensures.0 ∙ c.join_seat.ensures.0 ∙ c.requires.witness.0,
      omega arith,
      subst (λ (past : List Act). Splits (Reached key) seat.id seat.me.0 (record { ports = rest_ports seat.me.0.ports; history = seat.me.0.history }) (record { ports = first_port seat.me.0.ports ∷ []; history = past })) (sym c.requires.past)
          (goes_back key seat.id seat.me.0 p own.me.0.history told.port.0 (ap (λ (v : SeatView). v.ports) view) (ap (λ (v : SeatView). v.history) view ∙ told.port.1) told.port.2),
    )

pub returns-clause-own : goal.returns-clause-own
returns-clause-own g c =
    let w = c.args.witness.now in let own = c.args.own in let seat = c.load.new.seat in let p = port_in own.me in
    let known : IsKnown (joined w.me.0 own.me.0) = subst IsKnown (ap (λ m. m.0) c.join_seat.ensures.2) c.load.ensures.2.1 in
    let none = ap (λ m. m.0.ports) c.requires.witness.1 in let mine = ap (λ z. z.0) c.requires.own.2 in
    let view : seat.me.0 ≡ record { ports = p ∷ []; history = longer own.me.0.history w.me.0.history } = ap (λ m. m.0) (c.load.ensures.2.0 ∙ c.join_seat.ensures.2) ∙ met_is w.me.0 own.me.0 p none mine known in
    let ports : seat.me.0.ports ≡ p ∷ [] = ap (λ (v : SeatView). v.ports) view in (
      c.split_seat.ensures.3 ∙ (c.load.ensures.0 ∙ (c.join_seat.ensures.0 ∙ (c.requires.witness.0 ∙ sym c.requires.own.0))),
      c.split_seat.ensures.4 ∙ (ap (λ (ps : List PortView). (record { ports = first_port ps ∷ []; history = g.T.Past.history }, [])) ports ∙ (ap (λ (past : List Act). (record { ports = p ∷ []; history = past }, [])) c.requires.past
          ∙ sym (ap (λ z. (record { ports = z.0; history = own.me.0.history }, z.1)) c.requires.own.2))),
    )

pub returns-clause-told : goal.returns-clause-told
returns-clause-told g c =
    let w = c.args.witness.now in let own = c.args.own in let seat = c.load.new.seat in let p = port_in own.me in
    let known : IsKnown (joined w.me.0 own.me.0) = subst IsKnown (ap (λ m. m.0) c.join_seat.ensures.2) c.load.ensures.2.1 in
    let none = ap (λ m. m.0.ports) c.requires.witness.1 in let mine = ap (λ z. z.0) c.requires.own.2 in
    let view : seat.me.0 ≡ record { ports = p ∷ []; history = longer own.me.0.history w.me.0.history } = ap (λ m. m.0) (c.load.ensures.2.0 ∙ c.join_seat.ensures.2) ∙ met_is w.me.0 own.me.0 p none mine known in
    subst (λ (h : List Act). Told p.who own.me.0.history w.me.0.history h) (sym (ap (λ m. m.0.history) c.split_seat.ensures.2 ∙ ap (λ (v : SeatView). v.history) view)) (met_told w.me.0 own.me.0 p none mine known)

pub returns-clause-after : goal.returns-clause-after
returns-clause-after g c =
    let w = c.args.witness.now in let own = c.args.own in let seat = c.load.new.seat in let p = port_in own.me in
    let known : IsKnown (joined w.me.0 own.me.0) = subst IsKnown (ap (λ m. m.0) c.join_seat.ensures.2) c.load.ensures.2.1 in
    let none = ap (λ m. m.0.ports) c.requires.witness.1 in let mine = ap (λ z. z.0) c.requires.own.2 in
    let view : seat.me.0 ≡ record { ports = p ∷ []; history = longer own.me.0.history w.me.0.history } = ap (λ m. m.0) (c.load.ensures.2.0 ∙ c.join_seat.ensures.2) ∙ met_is w.me.0 own.me.0 p none mine known in
    subst (λ (h : List Act). IsAfter h p) (sym (ap (λ m. m.0.history) c.split_seat.ensures.2 ∙ ap (λ (v : SeatView). v.history) view)) (met_after w.me.0 own.me.0 p none mine known)
