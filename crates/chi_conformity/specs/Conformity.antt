-- What is seen of one line of a slice in a run of actions, and that an observer takes all of it (docs/OBSERVER.md, "What
-- is proved").
use Rattle.std.specs.Prelude.{◌≡◌, ℕ, ◌<◌, ◌==◌, true, List, [], ◌∷◌, ◌++◌, Option, Some, None, ⊤, if◌then◌else◌}
use Rattle.chi_flit.specs.declared.action.Action.{Action}
use Rattle.chi_flit.specs.declared.refusal.Refusal.{Refusal}
use Rattle.chi_slice.specs.Words.{Sizes, are_in_limits}
use Rattle.chi_slice.specs.Slice.{SliceState, action_refusal, is_line_in_range, line, opening_slice, slice_after_try}
use Rattle.chi_observer.specs.declared.flits.Flit.{Flit}
use Rattle.chi_observer.specs.declared.flits.Stores.{Stores}
use Rattle.chi_observer.specs.WordedLines.{WatchedWords, nothing_worded, takes_by_word, watch_by_word}
use Rattle.chi_conformity.specs.Seen.{step_seen}

-- of an action on the line that is done; one that is refused sends nothing
abbrev pub done_seen : Option Refusal → SliceState → Action → List Flit
done_seen None s action = step_seen s.config.profile (line s action.line.0) action.agent action.step
done_seen (Some refusal) s action = []

abbrev pub action_seen : SliceState → Action → ℕ → List Flit
action_seen s action l = if action.line.0 == l then done_seen (action_refusal s action) s action else []

-- of the line l, while the actions are tried one after the other
abbrev pub run_seen : SliceState → List Action → ℕ → List Flit
run_seen s [] l = []
run_seen s (action ∷ actions) l = action_seen s action l ++ run_seen (slice_after_try s action) actions l

-- each flit is taken, in this order
abbrev pub AreTaken : WatchedWords → List Flit → Type 0
AreTaken w [] = ⊤
AreTaken w (flit ∷ flits) = (takes_by_word w flit ≡ true) × AreTaken (watch_by_word w flit) flits

-- of each slice as it opens, each run, and each of its lines; whether stores may be hidden or all are listed
abbrev pub SlicesConform : Type 0
SlicesConform = (z : Stores) (config : Sizes) (index : ℕ) (actions : List Action) (l : ℕ) → are_in_limits config ≡ true → index < config.slices
    → is_line_in_range (opening_slice config index) l ≡ true → AreTaken (nothing_worded z) (run_seen (opening_slice config index) actions l)
