-- What the home keeps of two lines is equal, as `==` finds it, exactly where it is the same.
use Rattle.std.proofs.Common.{rules, arith, ◌≡◌, Option, List, ℕ, ap}
use Rattle.std.specs.Bool.{Decides}
use Rattle.std.specs.Cmp.Lexicographic.{pointwise, pointwise_decides, bytes_decides}
use Rattle.std.specs.Option.{option_eq}
use Rattle.std.specs.Prelude.{nat_eq}
use Rattle.std.proofs.lemmas.Bool.Decides.{Decides-and, Decides-like}
use Rattle.chi_flit.specs.declared.numbers.Slot.{Slot}
use Rattle.chi_flit.specs.declared.kind.Kind.{Kind}
use Rattle.chi_flit.specs.contracts.numbers.SlotPartialEq.TheImpl as slots
use Rattle.chi_flit.specs.contracts.kind.KindPartialEq.TheImpl as kinds
use Rattle.chi_filter.proofs.Equal.{agent, filter, marks}
use Rattle.chi_homeline.specs.declared.serving.Waiting.{Waiting}
use Rattle.chi_homeline.specs.declared.serving.Serving.{Serving}
use Rattle.chi_homeline.specs.contracts.serving.WaitingPartialEq.TheImpl as requests
use Rattle.chi_homeline.specs.contracts.serving.ServingPartialEq.TheImpl as servings
use Rattle.chi_homeline.specs.Home.{Home}
use Rattle.chi_homeline.specs.contracts.home_line.HomeLinePartialEq.TheImpl as homes

slot : (a b : Slot) → Decides (slots.eq-value.it a b) (a ≡ b)
slot a b = search (rules, arith)

kind : (a b : Kind) → Decides (kinds.eq-value.it a b) (a ≡ b)
kind a b = search (rules, arith)

words : (a b : List ℕ) → Decides (pointwise nat_eq a b) (a ≡ b)
words = bytes_decides

serving : (a b : Serving) → Decides (servings.eq-value.it a b) (a ≡ b)
serving a b = search (rules, arith, agent, kind, slot)

request : (a b : Waiting) → Decides (requests.eq-value.it a b) (a ≡ b)
request a b = search (rules, arith, kind, slot)

place : (a b : Option Waiting) → Decides (option_eq requests.eq-value.it a b) (a ≡ b)
place a b = search (rules, arith, request)

waiting : (a b : List (Option Waiting)) → Decides (pointwise (option_eq requests.eq-value.it) a b) (a ≡ b)
waiting = pointwise_decides place

-- what a home keeps is the same where each part is
together : (a b : Home) → (a.memory ≡ b.memory) × ((a.filter ≡ b.filter) × ((a.serving ≡ b.serving) × ((a.awaited ≡ b.awaited) × (a.waiting ≡ b.waiting)))) → a ≡ b
together a b h = λ i. record { memory = h.0 i; filter = h.1.0 i; serving = h.1.1.0 i; awaited = h.1.1.1.0 i; waiting = h.1.1.1.1 i }

apart : (a b : Home) → a ≡ b → (a.memory ≡ b.memory) × ((a.filter ≡ b.filter) × ((a.serving ≡ b.serving) × ((a.awaited ≡ b.awaited) × (a.waiting ≡ b.waiting))))
apart a b e = (ap (λ h. h.memory) e, (ap (λ h. h.filter) e, (ap (λ h. h.serving) e, (ap (λ h. h.awaited) e, ap (λ h. h.waiting) e))))

pub home : (a b : Home) → Decides (homes.eq-value.it a b) (a ≡ b)
home a b =
    Decides-like (homes.eq-value.it a b) (together a b) (apart a b)
    (Decides-and _ _ (words a.memory b.memory)
    (Decides-and _ _ (filter a.filter b.filter)
    (Decides-and _ _ (serving a.serving b.serving)
    (Decides-and _ _ (marks a.awaited b.awaited) (waiting a.waiting b.waiting)))))
