-- What the calls on a slice refuse, leave and tell, by C's numbers (docs/LIBRARY.md, "A slice").
use Rattle.std.specs.Prelude.{◌≡◌, ℕ, List, [], map, Option, Some, None, nat_lt, slice_get, if◌then◌else◌}
use Rattle.chi_flit.specs.declared.action.Action.{Action}
use Rattle.chi_flit.specs.declared.refusal.Refusal.{Refusal}
use Rattle.chi_flit.specs.declared.refusal.Refusal.TheVariants.{OutOfRange}
use Rattle.chi_slice.specs.Words.{cells_of, effect_of, flit_taken, flits_sent, line_view, Record, Sizes}
use Rattle.chi_slice.specs.Slice.{SliceState, flits_refusal, last_of, line, opening_slice, action_refusal, slice_after_try, view_refusal}
use Rattle.chi_library.specs.declared.actions.ChiEffect.{ChiEffect}
use Rattle.chi_library.specs.declared.flits.ChiFlits.{ChiFlits}
use Rattle.chi_library.specs.declared.flits.ChiSent.{ChiSent}
use Rattle.chi_library.specs.declared.lines.ChiLine.{ChiLine}
use Rattle.chi_library.specs.declared.records.ChiRecord.{ChiRecord}
use Rattle.chi_library.specs.Actions.{effect_told, no_effect}
use Rattle.chi_library.specs.Calls.{told_unless}
use Rattle.chi_library.specs.Flits.{flits_told, no_flits_told, no_sent, sent_told, taken_told}
use Rattle.chi_library.specs.Lines.{line_told, no_line_told}
use Rattle.chi_library.specs.Records.{no_record, record_told}

-- the sizes of the node of a slice, where it has a slice of the index
abbrev pub sizes_at : Option Sizes → ℕ → Option Sizes
sizes_at None index = None
sizes_at (Some config) index = if nat_lt index config.slices then Some config else None

-- the slice of an index opens
abbrev pub Opens : ℕ → Sizes → SliceState → Type 0
Opens index config s = s ≡ opening_slice config index

-- an action of C's: 10 where its numbers name none, else as the slice does it
abbrev pub decoded_refusal : Option Action → SliceState → Option Refusal
decoded_refusal None s = Some OutOfRange
decoded_refusal (Some action) s = action_refusal s action

abbrev pub act_after : Option Action → SliceState → SliceState
act_after None s = s
act_after (Some action) s = slice_after_try s action

abbrev pub act_told : Option Action → SliceState → ChiEffect
act_told None s = no_effect
act_told (Some action) s = told_unless (action_refusal s action) no_effect (effect_told (effect_of (line s action.line.0) action))

-- a line, and the flits of an agent at one
abbrev pub show_told : ℕ → SliceState → ChiLine
show_told l s = told_unless (view_refusal s l) no_line_told (line_told (line_view (line s l) (last_of s l)))

abbrev pub flits_shown : ℕ → ℕ → SliceState → ChiFlits
flits_shown n l s = told_unless (flits_refusal s n l) no_flits_told (flits_told (cells_of (line s l) n))

-- the record of a place in the journal: 10 behind its end
abbrev pub entry_at : SliceState → ℕ → Option Record
entry_at s place = slice_get s.journal.entries place

abbrev pub entry_refusal : Option Record → Option Refusal
entry_refusal None = Some OutOfRange
entry_refusal (Some entry) = None

abbrev pub entry_told : Option Record → ChiRecord
entry_told None = no_record
entry_told (Some entry) = record_told entry

-- the flits that an action sent, and the one that it took
abbrev pub sent_shown : Option Action → SliceState → List ChiSent
sent_shown None s = []
sent_shown (Some action) s =
    told_unless (action_refusal s action) [] (map sent_told (flits_sent s.config.profile (line s action.line.0) action.agent action.step))

abbrev pub taken_shown : Option Action → SliceState → ChiSent
taken_shown None s = no_sent
taken_shown (Some action) s = told_unless (action_refusal s action) no_sent (taken_told (flit_taken (line s action.line.0) action.agent action.step))
