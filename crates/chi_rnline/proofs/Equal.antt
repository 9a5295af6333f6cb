-- What a requester keeps of two lines is equal, as `==` finds it, exactly where it is the same.
use Rattle.std.proofs.Common.{rules, arith, ◌≡◌, Option, List, ℕ}
use Rattle.std.specs.Bool.{Decides}
use Rattle.std.specs.Prelude.{nat_eq}
use Rattle.std.specs.Cmp.Lexicographic.{pointwise, bytes_decides}
use Rattle.std.specs.Option.{option_eq}
use Rattle.chi_flit.specs.declared.numbers.Slot.{Slot}
use Rattle.chi_flit.specs.declared.kind.Kind.{Kind}
use Rattle.chi_flit.specs.declared.state.State.{State}
use Rattle.chi_flit.specs.contracts.numbers.SlotPartialEq.TheImpl as slots
use Rattle.chi_flit.specs.contracts.kind.KindPartialEq.TheImpl as kinds
use Rattle.chi_flit.specs.contracts.state.StatePartialEq.TheImpl as states
use Rattle.chi_rnline.specs.declared.pending.Pending.{Pending}
use Rattle.chi_rnline.specs.declared.pending.Phase.{Phase}
use Rattle.chi_rnline.specs.contracts.pending.PhasePartialEq.TheImpl as phases
use Rattle.chi_rnline.specs.contracts.pending.PendingPartialEq.TheImpl as requests
use Rattle.chi_rnline.specs.Rn.{Rn}
use Rattle.chi_rnline.specs.contracts.rn_line.RnLinePartialEq.TheImpl as lines

pub slot : (a b : Slot) → Decides (slots.eq-value.it a b) (a ≡ b)
slot a b = search (rules, arith)

pub kind : (a b : Kind) → Decides (kinds.eq-value.it a b) (a ≡ b)
kind a b = search (rules, arith)

pub state : (a b : State) → Decides (states.eq-value.it a b) (a ≡ b)
state a b = search (rules, arith)

phase : (a b : Phase) → Decides (phases.eq-value.it a b) (a ≡ b)
phase a b = search (rules, arith)

request : (a b : Pending) → Decides (requests.eq-value.it a b) (a ≡ b)
request a b = search (rules, arith, kind, slot, phase)

pending : (a b : Option Pending) → Decides (option_eq requests.eq-value.it a b) (a ≡ b)
pending a b = search (rules, arith, request)

pub words : (a b : List ℕ) → Decides (pointwise nat_eq a b) (a ≡ b)
words = bytes_decides

pub rn : (a b : Rn) → Decides (lines.eq-value.it a b) (a ≡ b)
rn a b = search (rules, arith, state, words, pending)
