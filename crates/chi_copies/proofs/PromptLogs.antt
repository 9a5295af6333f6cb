-- Whole logs that are taken at the home, of which nothing is on its way.
use Rattle.std.proofs.Common.{[], ◌∷◌}
use Rattle.std.specs.Prelude.{List}
use Rattle.chi_observer.specs.declared.flits.Stores.{Stores}
use Rattle.chi_observer.specs.declared.flits.Flit.{Flit}
use Rattle.chi_observer.specs.declared.flits.Flit.TheVariants.{Up, Down}
use Rattle.chi_copies.specs.Runs.{Accepted, seen}
use Rattle.chi_copies.specs.Prompt.{IsPrompt, arrived, IsPromptLog, PromptLogsAreTaken}
use Rattle.chi_copies.proofs.Runs.{accepted, exact}
use Rattle.chi_copies.proofs.Prompt.{begins, taken, stays}
use Rattle.chi_copies.proofs.PromptGiven.{given_stays}

stands : (z : Stores) (es : List Flit) → Accepted z es → IsPromptLog z es → IsPrompt (seen z es) (arrived es)
stands z [] a p = begins z
stands z (Up f ∷ es) a p = stays (seen z es) (arrived es) f (exact z es a.0).sound a.1 p.1 (stands z es a.0 p.0) a.2
stands z (Down g ∷ es) a p = given_stays (seen z es) (arrived es) g (exact z es a.0).sound a.1 (stands z es a.0 p.0) a.2 p.1

pub logs_taken : PromptLogsAreTaken
logs_taken z f es l p = let a = accepted z (Up f ∷ es) l in taken (seen z es) (arrived es) f (exact z es a.0).sound a.1 p.1 (stands z es a.0 p.0) a.2
