-- The flits of each line of memory that were taken last (docs/OBSERVER.md, "What is printed").
use Rattle.std.specs.Prelude.{ℕ, ◌++◌, List, [], ◌∷◌, if◌then◌else◌, drop, length, nat_eq, nat_lt, option_map, unwrap_or}
use Rattle.std.specs.Map.{lookup}
use Rattle.chi_trace.specs.declared.any_flits.AnySeen.{AnySeen}
use Rattle.chi_observer.specs.Worlds.{put}
use Rattle.chi_ids.specs.declared.keys.CacheLine.{CacheLine}
use Rattle.chi_observe.specs.declared.recent.LastFlits.{LastFlits}

-- of each line, oldest first
abbrev pub flits_in : {A : Type 0} → LastFlits A → List AnySeen
flits_in last = last.flits.items

abbrev pub recent_in : {A : Type 0} → List (ℕ × LastFlits A) → ℕ → List AnySeen
recent_in entries l = unwrap_or (option_map flits_in (lookup (nat_eq l) entries)) []

-- a flit more; the oldest one is dropped where there are so many already
abbrev pub pushed : ℕ → AnySeen → List AnySeen → List AnySeen
pushed most seen flits = (if nat_lt (length flits) most then flits else drop 1 flits) ++ seen ∷ []

abbrev pub recent_behind : ℕ → CacheLine → AnySeen → (ℕ → List AnySeen) → ℕ → List AnySeen
recent_behind most line seen recent = put line.0 (pushed most seen (recent line.0)) recent
