-- What is told of what was seen of a line that isn't explained (docs/TRACES.md, "What is printed" and "Reasons").
use Rattle.std.specs.Prelude.{◌≡◌, ℕ, ◌+◌, ◌<◌, Bool, true, false, not, List, length, take}
use Rattle.chi_slice.specs.Words.{Sizes}
use Rattle.chi_explain.specs.declared.explanations.WitnessItem.{WitnessItem}
use Rattle.chi_explain.specs.declared.observed.Observed.{Observed}
use Rattle.chi_explain.specs.declared.observed.StoreListing.{StoreListing}
use Rattle.chi_explain.specs.Explained.{IsExplained}
use Rattle.chi_monitor.specs.declared.explained.NoExplanation.{NoExplanation}
use Rattle.chi_monitor.specs.declared.explained.NoExplanation.TheVariants as told
use Rattle.chi_monitor.specs.declared.faults.LineFault.{LineFault}
use Rattle.chi_monitor.specs.declared.faults.LineFault.TheVariants.{NoMemory, Pending, Needs, NotRetried, NothingToRetry, OtherCredit, ServedRetry, NobodyAsks, EarlySnoop, SnoopedTwice, NothingToAnswer, Answer, NoRead, NoCleanUnique, NoEvict, NoCopyBack, EarlyCompletion, EarlyEvict, EarlyCopyBack, Snoops, Form, NoAckAwaited, NoWriteDataAwaited, WriteForm, NoCopy, NoStore}

-- nothing explains what was seen, whatever memory had at first
abbrev pub IsUnexplainable : Sizes → StoreListing → List Observed → Type 0
IsUnexplainable config stores seen = (memory : List ℕ) (items : List WitnessItem) → IsExplained config stores memory items seen → ⊥

-- the reasons of which that is proved: it isn't in its agent's turn, or the home's, whatever words are; but where the value of
-- a load has told the state of the copy
abbrev pub is_settled : LineFault → Bool
is_settled (Pending since) = true
is_settled (Needs kind reach) = not reach.loaded
is_settled (NotRetried kind) = true
is_settled NothingToRetry = true
is_settled (OtherCredit named wanted) = true
is_settled NothingToAnswer = true
is_settled (Answer reach snoop basis) = not reach.loaded
is_settled NoRead = true
is_settled NoCleanUnique = true
is_settled NoEvict = true
is_settled NoCopyBack = true
is_settled NoAckAwaited = true
is_settled NoWriteDataAwaited = true
is_settled (SnoopedTwice since) = true
is_settled (NobodyAsks snoop) = true
is_settled (EarlySnoop awaited) = true
is_settled (ServedRetry since) = true
is_settled (EarlyCompletion awaited) = true
is_settled (EarlyEvict awaited) = true
is_settled (EarlyCopyBack awaited) = true
is_settled (Snoops kind wrong) = true
is_settled (Form form) = true
is_settled (WriteForm form reach) = not reach.loaded
is_settled (NoCopy reach) = not reach.loaded
is_settled (NoStore reach) = not reach.loaded
is_settled other = false

-- a fault is that of one of those that were seen
abbrev pub IsToldFault : Sizes → StoreListing → List Observed → NoExplanation → Type 0
IsToldFault config stores seen (told.Fault at fault) = (at < length seen) × (is_settled fault ≡ true → IsUnexplainable config stores (take (at + 1) seen))
IsToldFault config stores seen told.NoMemory = Unit {0}
IsToldFault config stores seen (told.Undone cause) = Unit {0}

-- of the representation: what is told of a fault at a place
abbrev pub told_at : ℕ → LineFault → NoExplanation
told_at at NoMemory = told.NoMemory
told_at at fault = told.Fault at fault
