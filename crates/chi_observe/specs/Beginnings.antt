-- What isn't known of the copies in a trace that begins in the middle (docs/OBSERVER.md, "A trace that begins in the middle").
use Rattle.std.specs.Prelude.{◌≡◌, ℕ, ◌∷◌, ◌++◌, ◌&&◌, Bool, true, false, not, List, [], Option, Some, None, codes, if◌then◌else◌, length, nat_eq}
use Rattle.std.specs.Fmt.{decimal}
use Rattle.std.specs.List.{IsDistinct, list_any}
use Rattle.chi_observer.specs.declared.begun.Certainty.{Certainty}
use Rattle.chi_observer.specs.declared.begun.Certainty.TheVariants.{Told}
use Rattle.chi_observer.specs.Worlds.{all_below}
use Rattle.chi_observe.specs.declared.steps.WatchOptions.{WatchOptions}
use Rattle.chi_observe.specs.Judges.{Judged, is_cut}
use Rattle.chi_observe.specs.Judges.Judged.{FromStart, FromMiddle, AtHome}
use Rattle.chi_observe.specs.Lines.{LineState}
use Rattle.chi_observe.specs.Watched.{Watched}

-- how much is known of an agent's copy
abbrev pub certainty_of : Judged → ℕ → Certainty
certainty_of (FromStart l) n = Told
certainty_of (FromMiddle b synced) n = (b.mark n).copy
certainty_of (AtHome a) n = Told

abbrev pub is_told : Certainty → Bool
is_told Told = true
is_told other = false

abbrev pub is_told_at : Judged → ℕ → Bool
is_told_at told n = is_told (certainty_of told n)

-- a cache line that is judged, and of which one of the trace's requesters has a copy that isn't known
abbrev pub is_unknown_in : ℕ → LineState → Bool
is_unknown_in agents s = not s.aside && not (all_below agents (is_told_at s.told))

abbrev pub is_unknown_by : ℕ → Option LineState → Bool
is_unknown_by agents None = false
is_unknown_by agents (Some s) = is_unknown_in agents s

abbrev pub is_unknown_at : Watched → ℕ → Bool
is_unknown_at w l = is_unknown_by (length w.requesters) (w.lines l)

-- that many numbers, and no others, are such
pub record IsCountOf (is_one : ℕ → Bool) (count : ℕ) : Type 0 where
  pub found : List ℕ
  pub once : IsDistinct nat_eq found
  pub all : (n : ℕ) → list_any (nat_eq n) found ≡ is_one n
  pub counted : length found ≡ count

-- the line on them, of a trace that is cut out of a longer one
abbrev pub unknown_line : WatchOptions → ℕ → List ℕ
unknown_line options count = if is_cut options then codes "begun in the middle: on " ++ (decimal count ++ (codes " lines a copy isn't known" ++ (10 ∷ []))) else []
