use Rattle.std.proofs.Common.{◌≡◌, ℕ, ◌+◌, ◌-◌, ◌*◌, sym, subst, ap, arith, rules, refl}
use Rattle.std.specs.Int.{bit_at}
use Rattle.atomic_table.specs.declared.shared.Seat.{Seat}
use Rattle.chi_tracker.specs.declared.view.SeatView.{SeatView}
use Rattle.chi_tracker.proofs.Sweeps.{IsSettling, settling_first, settling_unset, settling_clear, settling_all}
use Rattle.chi_tracker.specs.Steps.{shown, solo, port_of, settles}
use Rattle.chi_tracker.specs.History.{port_in}
use Rattle.chi_tracker.specs.Calls.{owner_in}
use Rattle.chi_tracker.specs.Conduct.{Does, Tried, FoundClear}
use Rattle.chi_tracker.proofs.Conduct.{does_none, clear_unset, clear_tried, clear_set}
use Rattle.chi_tracker.proofs.sweep.settle_places.Goals as goal
use Rattle.chi_tracker.proofs.sweep.settle_places.Goals.{else-is_set-via-then-is_set+else-settle_one, else-is_set-via-else-is_set}

pub loop-place-init : goal.loop-place-init
loop-place-init c = record {
  view = settling_first c.args.port_seat.now c.args.ty c.args.agent c.args.word c.requires.seat.2 c.requires.sweep;
  acts = does_none (owner_in c.args.port_seat.now) (λ j. Tried c.args.entry c.args.agent c.args.word (8 * c.args.ty + j)) (8 * c.args.ty - 8 * c.args.ty) (omega arith);
}

pub loop-place-preserved : goal.loop-place-preserved
loop-place-preserved c =
    let first = c.args.port_seat.now in let now = c.loop-place.port_seat in let t = c.args.ty in let e = c.args.entry in let m = c.args.agent in let word = c.args.word in let place = c.loop-place.place in
    let i = place - 8 * t in let same = ap (λ s. (port_of s).who) c.loop-place.invariant.view.view in
    elim c.else-is_set.branch [
      | else-is_set-via-then-is_set+else-settle_one w ↦
          let view : shown w.settle_one.new.port_seat.me ≡ solo (settles e m place 0 (port_in now.me)) = search rules in
          record {
            view = subst (λ ch. IsSettling first ch t word (place + 1)) (sym w.port_seat-is)
                (settling_clear first now w.settle_one.new.port_seat t m word place e 0 (omega arith) (omega arith) c.requires.sweep c.loop-place.invariant.view w.settle_one.ensures.table view refl);
            acts = subst (λ (ch : Seat ℕ SeatView). Does (owner_in first) (FoundClear t e m word (place + 1 - 8 * t)) (owner_in ch)) (sym w.port_seat-is)
                (clear_tried (owner_in first) (owner_in now) (owner_in w.settle_one.new.port_seat) t e m word i (place + 1 - 8 * t) place same c.loop-place.invariant.acts w.if-settle_one.ensures.acts (omega arith) (omega arith));
          }
      | else-is_set-via-else-is_set w ↦
          let unset : bit_at word place ≡ 0 = search rules in
          record {
            view = subst (λ ch. IsSettling first ch t word (place + 1)) (sym w.port_seat-is) (settling_unset first now t word place (omega arith) unset c.loop-place.invariant.view);
            acts = subst (λ (ch : Seat ℕ SeatView). Does (owner_in first) (FoundClear t e m word (place + 1 - 8 * t)) (owner_in ch)) (sym w.port_seat-is)
                (clear_unset (owner_in first) (owner_in now) t e m word i (place + 1 - 8 * t) place same c.loop-place.invariant.acts (omega arith) unset (omega arith));
          }
    ]

pub returns-clause-view : goal.returns-clause-view
returns-clause-view c = settling_all c.args.port_seat.now c.loop-place.port_seat c.args.ty c.args.word c.loop-place.place (omega arith) c.loop-place.invariant.view

pub returns-then-settle_one-clause-acts : goal.returns-then-settle_one-clause-acts
returns-then-settle_one-clause-acts c =
    let t = c.args.ty in let place = c.loop-place.place in
    clear_set (owner_in c.args.port_seat.now) (owner_in c.loop-place.port_seat) (owner_in c.settle_one.new.port_seat) t c.args.entry c.args.agent c.args.word (place - 8 * t) place
    (ap (λ s. (port_of s).who) c.loop-place.invariant.view.view) c.loop-place.invariant.acts c.if-settle_one.ensures.acts (omega arith) (omega arith)

pub returns-clause-acts : goal.returns-clause-acts
returns-clause-acts c =
    let z : c.loop-place.place - 8 * c.args.ty ≡ 8 = omega arith in
    subst (λ i. Does (owner_in c.args.port_seat.now) (FoundClear c.args.ty c.args.entry c.args.agent c.args.word i) (owner_in c.loop-place.port_seat)) z c.loop-place.invariant.acts
