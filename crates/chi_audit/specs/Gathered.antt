-- What is kept of the reports that were received (docs/FORMATS.md, "Reports and tallies").
use Rattle.std.specs.Prelude.{◌≡◌, ℕ, ◌<◌, ◌≤◌, ◌↔◌, true, List, Option, Some, None, IsSome, slice_index_or}
use Rattle.chi_audit.specs.declared.reports.Report.{Report}
use Rattle.chi_audit.specs.declared.gathered.Gathered.{Gathered}
use Rattle.chi_audit.specs.Boxes.{first_report}

-- what stands in the agent's place
abbrev pub report_at : List (Option Report) → ℕ → Option Report
report_at places a = slice_index_or places a None

-- in the place of each agent below n its first report, if it came; the other places are empty
pub record AreKept (n : ℕ) (got : List Report) (places : List (Option Report)) : Type 0 where
  pub own : (a : ℕ) → a < n → report_at places a ≡ first_report a got
  pub others : (a : ℕ) → n ≤ a → report_at places a ≡ None

-- the place of each agent below n is full
abbrev pub AreAllThere : ℕ → List (Option Report) → Type 0
AreAllThere n places = (a : ℕ) → a < n → IsSome (report_at places a)

-- the place of some agent below n is empty
abbrev pub IsOneMissing : ℕ → List (Option Report) → Type 0
IsOneMissing n places = (a : ℕ) × (a < n) × (report_at places a ≡ None)

-- the reports are kept so, and it is complete exactly where one of each agent below n was received
pub record IsGathered (n : ℕ) (got : List Report) (g : Gathered) : Type 0 where
  pub kept : AreKept n got g.reports
  pub complete : (g.complete ≡ true) ↔ ((a : ℕ) → a < n → IsSome (first_report a got))

-- the report that an agent below n is told to have sent stands in its place
abbrev pub AreToldKept : ℕ → List Report → List (Option Report) → Type 0
AreToldKept n told places = (a : ℕ) (r : Report)
    → a < n → first_report a told ≡ Some r → report_at places a ≡ Some r

-- a report that was received of an agent is the one that it is told to have sent
abbrev pub AreAsTold : List Report → List Report → Type 0
AreAsTold told got = (a : ℕ) (t r : Report)
    → first_report a told ≡ Some t → first_report a got ≡ Some r → r ≡ t
