-- The completion that the last answer brings: to whom it goes, the cell that it finds empty, and that no flit
-- is lost or made.
use Rattle.std.proofs.Common.{◌≡◌, ◌++◌, ℕ, zero, suc, List, [], ◌∷◌, Bool, true, false, Option, Some, None, get_or, set, refl, sym, subst, ◌∙◌, if◌then◌else◌, arith}
use Rattle.std.specs.List.Sorted.{IsPermutation}
use Rattle.chi_flit.specs.declared.numbers.Agent.{Agent}
use Rattle.chi_flit.specs.declared.numbers.Slot.{Slot}
use Rattle.chi_flit.specs.declared.kind.Kind.{Kind}
use Rattle.chi_flit.specs.Message.{channel_of}
use Rattle.chi_filter.specs.Filter.{has_any}
use Rattle.chi_wires.specs.declared.cells.Cells.{Cells}
use Rattle.chi_wires.specs.Cell.{cell_of, without_message, no_flits}
use Rattle.chi_wires.specs.Flits.{cells_at}
use Rattle.chi_wires.specs.Flight.{in_flight}
use Rattle.chi_wires.proofs.Moved.{taken_sent}
use Rattle.chi_homeline.specs.declared.serving.Completion.{Completion}
use Rattle.chi_homeline.specs.declared.serving.Serving.{Serving}
use Rattle.chi_homeline.specs.declared.serving.Serving.TheVariants.{Snooping}
use Rattle.chi_homeline.specs.declared.serving.SnoopAnswer.{SnoopAnswer}
use Rattle.chi_homeline.specs.Home.{Home, completes_unique, completion_form, completion_of, finished_sends_as, snoop_answered_sends}
use Rattle.chi_line.specs.LineState.{LineState, cells_of}
use Rattle.chi_line.specs.Kept.{snoops_for}
use Rattle.chi_line.specs.Snooped.{answer_channel}
use Rattle.chi_line.specs.Traffic.{answer_flit, answered_flits, completion_flits, flit_on}
use Rattle.chi_line.proofs.Sends.{completion_down}

-- a completion goes to the agent that is snooped for, in one of the cells down
pub record Completes (serving : Serving) (c : Completion) : Type 0 where
  pub agent : snoops_for serving c.agent.0 ≡ true
  pub down : (cells : Cells) → cells.rsp_down ≡ None → cells.dat_down ≡ None → cell_of cells (channel_of c.message) ≡ None

is_itself : (agent : Agent) (kind : Kind) (slot : Slot) → snoops_for (Snooping agent kind slot) agent.0 ≡ true
is_itself agent kind slot = grind arith

pub sends_completes : (serving : Serving) (home : Home) (words : List ℕ) (c : Completion) → finished_sends_as serving home words ≡ Some c → Completes serving c
sends_completes (Snooping agent kind slot) home words c h = go (has_any home.awaited) h
  where
    one : Completion
    one = record { agent = agent; message = completion_of home kind agent words }

    go : (b : Bool) → (if b then None else Some one) ≡ Some c → Completes (Snooping agent kind slot) c
    go true h = absurd (cc (h))
    go false h =
        let same : one ≡ c = cc (h) in
        subst (Completes (Snooping agent kind slot)) same (record {
          agent = is_itself agent kind slot;
          down = λ cells r d. completion_down (completion_form kind (completes_unique kind home.filter agent.0)) words cells r d;
        })
sends_completes serving home words c h = absurd (cc (h))

pub answer_completes : (home : Home) (agent : Agent) (answer : SnoopAnswer) (c : Completion) → snoop_answered_sends home agent answer ≡ Some c → Completes home.serving c
answer_completes home agent answer c h = sends_completes home.serving _ _ c h

-- a list where one element is replaced by one that f cannot tell from it
pub same_at : {X : Type 0} (f : Cells → X) (l : List Cells) (n m : ℕ) (c : Cells) → f c ≡ f (get_or l n no_flits)
    → f (get_or (set l n c) m no_flits) ≡ f (get_or l m no_flits)
same_at f [] n m c same = refl
same_at f (x ∷ l) zero zero c same = same
same_at f (x ∷ l) zero (suc m) c same = refl
same_at f (x ∷ l) (suc n) zero c same = refl
same_at f (x ∷ l) (suc n) (suc m) c same = same_at f l n m c same

-- taking an answer leaves the cells down
pub response_stays : (answer : SnoopAnswer) (cells : Cells) → (without_message cells (answer_channel answer)).rsp_down ≡ cells.rsp_down
response_stays answer cells = search arith

pub data_stays : (answer : SnoopAnswer) (cells : Cells) → (without_message cells (answer_channel answer)).dat_down ≡ cells.dat_down
data_stays answer cells = search arith

-- the completion finds its cell empty, once the answer is taken
pub completion_finds_empty : (s : LineState) (agent : Agent) (answer : SnoopAnswer) (flits : List Cells) (completion : Completion)
    → flits ≡ set s.flits agent.0 (without_message (cells_of s agent.0) (answer_channel answer))
    → snoop_answered_sends s.home agent answer ≡ Some completion
    → ((other : ℕ) → snoops_for s.home.serving other ≡ true → ((cells_of s other).rsp_down ≡ None) × ((cells_of s other).dat_down ≡ None))
    → cell_of (cells_at flits completion.agent.0) (channel_of completion.message) ≡ None
completion_finds_empty s agent answer flits completion taken sends down =
    let to : Completes s.home.serving completion = answer_completes s.home agent answer completion sends in
    let n = completion.agent.0 in
    let empty = down n to.agent in
    let left = without_message (cells_of s agent.0) (answer_channel answer) in
    subst (λ (v : List Cells). cell_of (cells_at v n) (channel_of completion.message) ≡ None) (sym taken)
    (to.down (cells_at (set s.flits agent.0 left) n)
    (same_at (λ cells. cells.rsp_down) s.flits agent.0 n left (response_stays answer _) ∙ empty.0)
    (same_at (λ cells. cells.dat_down) s.flits agent.0 n left (data_stays answer _) ∙ empty.1))

-- an answer is taken, and then a completion, if it brings one, is sent
pub answer_balances : (s : LineState) (agent : Agent) (o : Option SnoopAnswer) (answer : SnoopAnswer) (between new : List Cells) → o ≡ Some answer
    → IsPermutation (flit_on s agent (answer_channel answer) ++ in_flight between) (in_flight s.flits)
    → IsPermutation (in_flight new) (completion_flits (snoop_answered_sends s.home agent answer) ++ in_flight between)
    → IsPermutation (answer_flit s agent o ++ in_flight new) (answered_flits s.home agent o ++ in_flight s.flits)
answer_balances s agent o answer between new is takes sends =
    subst (λ (v : Option SnoopAnswer). IsPermutation (answer_flit s agent v ++ in_flight new) (answered_flits s.home agent v ++ in_flight s.flits)) (sym is)
    (taken_sent _ _ _ _ _ takes sends)
