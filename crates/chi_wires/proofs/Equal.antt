-- What is in flight at two lines is equal, as `==` finds it, exactly where it is the same.
use Rattle.std.proofs.Common.{rules, arith, ◌≡◌, Option, List, ℕ, Bool, ap}
use Rattle.std.specs.Bool.{Decides}
use Rattle.std.specs.Prelude.{nat_eq}
use Rattle.std.specs.Cmp.Lexicographic.{pointwise, pointwise_decides, bytes_decides}
use Rattle.std.specs.Option.{option_eq}
use Rattle.std.proofs.lemmas.Bool.Decides.{Decides-and, Decides-like}
use mathlib.Core.Bool.{beq}
use Rattle.chi_flit.specs.declared.numbers.Slot.{Slot}
use Rattle.chi_flit.specs.declared.kind.Kind.{Kind}
use Rattle.chi_flit.specs.declared.state.State.{State}
use Rattle.chi_flit.specs.declared.snoop.Snoop.{Snoop}
use Rattle.chi_flit.specs.declared.credit.CreditType.{CreditType}
use Rattle.chi_flit.specs.declared.message.Request.{Request}
use Rattle.chi_flit.specs.declared.message.RspDown.{RspDown}
use Rattle.chi_flit.specs.declared.message.CompData.{CompData}
use Rattle.chi_flit.specs.declared.message.RspUp.{RspUp}
use Rattle.chi_flit.specs.declared.message.DatUp.{DatUp}
use Rattle.chi_flit.specs.contracts.numbers.SlotPartialEq.TheImpl as slots
use Rattle.chi_flit.specs.contracts.kind.KindPartialEq.TheImpl as kinds
use Rattle.chi_flit.specs.contracts.state.StatePartialEq.TheImpl as states
use Rattle.chi_flit.specs.contracts.snoop.SnoopPartialEq.TheImpl as snoops
use Rattle.chi_flit.specs.contracts.credit.CreditTypePartialEq.TheImpl as credit_types
use Rattle.chi_flit.specs.contracts.message.RequestPartialEq.TheImpl as requests
use Rattle.chi_flit.specs.contracts.message.RspDownPartialEq.TheImpl as responses_down
use Rattle.chi_flit.specs.contracts.message.CompDataPartialEq.TheImpl as data_down
use Rattle.chi_flit.specs.contracts.message.RspUpPartialEq.TheImpl as responses_up
use Rattle.chi_flit.specs.contracts.message.DatUpPartialEq.TheImpl as data_up
use Rattle.chi_wires.specs.declared.cells.Cells.{Cells}
use Rattle.chi_wires.specs.contracts.cells.CellsPartialEq.TheImpl as cell_rows
use Rattle.chi_wires.specs.contracts.wires.WiresPartialEq.TheImpl as wires

slot : (a b : Slot) → Decides (slots.eq-value.it a b) (a ≡ b)
slot a b = search (rules, arith)

kind : (a b : Kind) → Decides (kinds.eq-value.it a b) (a ≡ b)
kind a b = search (rules, arith)

state : (a b : State) → Decides (states.eq-value.it a b) (a ≡ b)
state a b = search (rules, arith)

snoop : (a b : Snoop) → Decides (snoops.eq-value.it a b) (a ≡ b)
snoop a b = search (rules, arith)

credit_type : (a b : CreditType) → Decides (credit_types.eq-value.it a b) (a ≡ b)
credit_type a b = search (rules, arith)

mark : (a b : Bool) → Decides (beq a b) (a ≡ b)
mark a b = search (rules, arith)

words : (a b : List ℕ) → Decides (pointwise nat_eq a b) (a ≡ b)
words = bytes_decides

request : (a b : Request) → Decides (requests.eq-value.it a b) (a ≡ b)
request a b = search (rules, arith, kind, slot, mark)

response_down : (a b : RspDown) → Decides (responses_down.eq-value.it a b) (a ≡ b)
response_down a b = search (rules, arith, credit_type)

data_sent : (a b : CompData) → Decides (data_down.eq-value.it a b) (a ≡ b)
data_sent a b = search (rules, arith, words, mark)

response_up : (a b : RspUp) → Decides (responses_up.eq-value.it a b) (a ≡ b)
response_up a b = search (rules, arith)

data_answered : (a b : DatUp) → Decides (data_up.eq-value.it a b) (a ≡ b)
data_answered a b = search (rules, arith, words, state)

in_cell : {T : Type 0} (eq : T → T → Bool) → ((a b : T) → Decides (eq a b) (a ≡ b)) → (a b : Option T) → Decides (option_eq eq a b) (a ≡ b)
in_cell eq each a b = search (rules, arith, each)

-- six cells are the same where each is
together : (a b : Cells) → (a.req ≡ b.req) × ((a.snp ≡ b.snp) × ((a.rsp_down ≡ b.rsp_down) × ((a.dat_down ≡ b.dat_down) × ((a.rsp_up ≡ b.rsp_up) × (a.dat_up ≡ b.dat_up))))) → a ≡ b
together a b h = λ i. record { req = h.0 i; snp = h.1.0 i; rsp_down = h.1.1.0 i; dat_down = h.1.1.1.0 i; rsp_up = h.1.1.1.1.0 i; dat_up = h.1.1.1.1.1 i }

apart : (a b : Cells) → a ≡ b → (a.req ≡ b.req) × ((a.snp ≡ b.snp) × ((a.rsp_down ≡ b.rsp_down) × ((a.dat_down ≡ b.dat_down) × ((a.rsp_up ≡ b.rsp_up) × (a.dat_up ≡ b.dat_up)))))
apart a b e = (ap (λ c. c.req) e, (ap (λ c. c.snp) e, (ap (λ c. c.rsp_down) e, (ap (λ c. c.dat_down) e, (ap (λ c. c.rsp_up) e, ap (λ c. c.dat_up) e)))))

cells : (a b : Cells) → Decides (cell_rows.eq-value.it a b) (a ≡ b)
cells a b =
    Decides-like (cell_rows.eq-value.it a b) (together a b) (apart a b)
    (Decides-and _ _ (in_cell _ request a.req b.req)
    (Decides-and _ _ (in_cell _ snoop a.snp b.snp)
    (Decides-and _ _ (in_cell _ response_down a.rsp_down b.rsp_down)
    (Decides-and _ _ (in_cell _ data_sent a.dat_down b.dat_down)
    (Decides-and _ _ (in_cell _ response_up a.rsp_up b.rsp_up)
    (in_cell _ data_answered a.dat_up b.dat_up))))))

pub all_cells : (a b : List Cells) → Decides (wires.eq-value.it a b) (a ≡ b)
all_cells = pointwise_decides cells
