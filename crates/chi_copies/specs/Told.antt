-- A line of the code that has been told of a trace, call by call (docs/COPIES.md, "What is kept").
use Rattle.std.specs.Prelude.{◌≡◌, ℕ, List, [], ◌∷◌, Bool, true, false}
use Rattle.chi_observer.specs.declared.flits.Stores.{Stores}
use Rattle.chi_observer.specs.declared.flits.Flit.{Flit}
use Rattle.chi_observer.specs.declared.flits.Flit.TheVariants.{Up, Down}
use Rattle.chi_copies.specs.declared.line.Line.{Line}
use Rattle.chi_copies.specs.Observed.{Observed, next, next_home}
use Rattle.chi_copies.specs.Moments.{shown_after}
use Rattle.chi_copies.specs.Runs.{Accepted, seen, nothing_told, shown_by}
use Rattle.chi_copies.specs.Lines.{observed, shown_at, is_taken, is_taken_home}

-- it keeps what the observer keeps of the trace
pub record Told (z : Stores) (es : List Flit) (s : Line) : Type 0 where
  pub kept : observed s ≡ seen z es
  pub moments : (n : ℕ) → shown_at s.shown n ≡ shown_by z es n

-- what Line::take and Line::take_home say of a flit that they take
abbrev pub takes_flit : Line → Flit → Bool
takes_flit s (Up f) = is_taken (observed s) f
takes_flit s (Down g) = is_taken_home (observed s) (shown_at s.shown) g

abbrev pub next_by : Observed → Flit → Observed
next_by o (Up f) = next o f
next_by o (Down g) = next_home o g

pub record IsLedBy (e : Flit) (s s' : Line) : Type 0 where
  pub after : observed s' ≡ next_by (observed s) e
  pub moments : (n : ℕ) → shown_at s'.shown n ≡ shown_after (observed s) e (shown_at s.shown) n

-- a new line is told nothing
abbrev pub NewIsTold : Type 0
NewIsTold = (z : Stores) (s : Line) → observed s ≡ nothing_told z → ((n : ℕ) → shown_at s.shown n ≡ false) → Told z [] s

-- one that takes a flit is told it
abbrev pub TakenIsTold : Type 0
TakenIsTold = (z : Stores) (es : List Flit) (e : Flit) (s s' : Line) → Told z es s → IsLedBy e s s' → Told z (e ∷ es) s'

-- and takes it exactly where the trace is still accepted
abbrev pub TakenIsAccepted : Type 0
TakenIsAccepted = (z : Stores) (es : List Flit) (e : Flit) (s : Line) → Told z es s → Accepted z es → takes_flit s e ≡ true → Accepted z (e ∷ es)

abbrev pub AcceptedIsTaken : Type 0
AcceptedIsTaken = (z : Stores) (es : List Flit) (e : Flit) (s : Line) → Told z es s → Accepted z (e ∷ es) → takes_flit s e ≡ true
