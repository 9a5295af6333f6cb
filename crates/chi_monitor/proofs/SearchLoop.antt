-- A search as far as its loop has come: whatever goes on from its turns can't be explained, nor can it behind what was seen.
use Rattle.std.proofs.Common.{◌≡◌, ℕ, ◌+◌, ◌<◌, true, List, [], ◌∷◌, ◌++◌, length, replicate, take, get_or, Ok, Some, sym, ap, subst, ◌∙◌, append_assoc}
use Rattle.std.proofs.lemmas.List.{take_more}
use Rattle.chi_flit.specs.declared.credit.Profile.{Profile}
use Rattle.chi_slice.specs.Words.{Sizes}
use Rattle.chi_explain.specs.declared.observed.Observed.{Observed}
use Rattle.chi_explain.specs.declared.observed.StoreListing.{StoreListing}
use Rattle.chi_monitor.specs.HomeTurns.{home_behind, is_out_of_turn, no_home}
use Rattle.chi_monitor.specs.Places.{IsToldFault, IsUnexplainable, is_settled, told_at}
use Rattle.chi_monitor.specs.Turns.{no_turn, turns_after}
use Rattle.chi_monitor.specs.declared.explained.NoExplanation.{NoExplanation}
use Rattle.chi_monitor.specs.declared.faults.LineFault.{LineFault}
use Rattle.chi_monitor.specs.declared.faults.LineFault.TheVariants.{NoMemory}
use Rattle.chi_monitor.specs.declared.faults.SeenAt.{SeenAt}
use Rattle.chi_monitor.specs.declared.turns.Turn.{Turn}
use Rattle.chi_monitor.specs.declared.home_turns.HomeTurn.{HomeTurn}
use Rattle.chi_monitor.proofs.HomeLaw.{NoRun, run_ends, run_on, unexplained_run}

-- whatever can't be explained from these turns can't be behind what was seen so far
abbrev pub Leads : Profile → StoreListing → List Turn → HomeTurn → List Observed → Type 0
Leads profile stores turns home before = (more : List Observed) → NoRun profile stores turns home more → NoRun profile stores (replicate 8 no_turn) no_home (before ++ more)

-- one more of what was seen
one_more : (before more : List Observed) (o : Observed) → (before ++ (o ∷ [])) ++ more ≡ before ++ (o ∷ more)
one_more before more o = append_assoc before (o ∷ []) more

pub leads_on : (config : Profile) (listed : StoreListing) (profile : Profile) (stores : StoreListing) (at : SeenAt) (turns turns' : List Turn) (home home' : HomeTurn) (seen : List Observed) (place : ℕ) (d : Observed) → profile ≡ config → stores ≡ listed → place < length seen → turns_after profile stores at turns (get_or seen place d) ≡ Ok turns'
    → home_behind turns at home (get_or seen place d) ≡ Some home' → Leads config listed turns home (take place seen) → Leads config listed turns' home' (take (place + 1) seen)
leads_on config listed profile stores at turns turns' home home' seen place d same listing low is own leads more none =
    subst (NoRun config listed (replicate 8 no_turn) no_home) (sym (ap (λ (l : List Observed). l ++ more) (take_more seen place d low) ∙ one_more (take place seen) more (get_or seen place d)))
    (leads (get_or seen place d ∷ more) (run_on config listed at turns turns' home home' (get_or seen place d) more
    (subst (λ (p : Profile). turns_after p listed at turns (get_or seen place d) ≡ Ok turns') same (subst (λ (l : StoreListing). turns_after profile l at turns (get_or seen place d) ≡ Ok turns') listing is)) own none))

-- it isn't in turn
leads_nowhere : (config : Sizes) (stores : StoreListing) (at : SeenAt) (turns : List Turn) (home : HomeTurn) (seen : List Observed) (place : ℕ) (d : Observed) → place < length seen
    → is_out_of_turn config.profile stores at turns home (get_or seen place d) ≡ true → Leads config.profile stores turns home (take place seen) → IsUnexplainable config stores (take (place + 1) seen)
leads_nowhere config stores at turns home seen place d low out leads =
    subst (IsUnexplainable config stores) (sym (take_more seen place d low))
    (unexplained_run config stores (take place seen ++ (get_or seen place d ∷ [])) (leads (get_or seen place d ∷ []) (run_ends config.profile stores at turns home (get_or seen place d) [] out)))

fault_told : (config : Sizes) (stores : StoreListing) (seen : List Observed) (place : ℕ) (fault : LineFault) → place < length seen → (is_settled fault ≡ true → IsUnexplainable config stores (take (place + 1) seen)) → IsToldFault config stores seen (told_at place fault)
fault_told config stores seen place NoMemory low none = tt
fault_told config stores seen place fault low none = (low, none)

pub told_fault : (config : Sizes) (listed : StoreListing) (profile : Profile) (stores : StoreListing) (at : SeenAt) (turns : List Turn) (home : HomeTurn) (seen : List Observed) (place : ℕ) (d : Observed) (fault : LineFault) (told : NoExplanation) → told ≡ told_at place fault → profile ≡ config.profile → stores ≡ listed → place < length seen
    → (is_settled fault ≡ true → is_out_of_turn profile stores at turns home (get_or seen place d) ≡ true) → Leads config.profile listed turns home (take place seen) → IsToldFault config listed seen told
told_fault config listed profile stores at turns home seen place d fault told is same listing low out leads =
    subst (IsToldFault config listed seen) (sym is)
    (fault_told config listed seen place fault low (λ settled. leads_nowhere config listed at turns home seen place d low
    (subst (λ (p : Profile). is_out_of_turn p listed at turns home (get_or seen place d) ≡ true) same (subst (λ (l : StoreListing). is_out_of_turn profile l at turns home (get_or seen place d) ≡ true) listing (out settled))) leads))
