-- Words that no beat has had where a trace ends: they may be any (docs/TRACES.md, "Nodes, ids and credits").
use Rattle.std.specs.Prelude.{◌≡◌, ℕ, List, [], ◌∷◌, Option, Some, None, slice_set}
use Rattle.std.specs.List.{slice_get, slice_index_or}
use Rattle.std.specs.Option.{unwrap_or}
use Rattle.chi_flit.specs.declared.message.DatUp.{DatUp}
use Rattle.chi_flit.specs.declared.message.DatUp.TheVariants.{SnpRespDataIPD, SnpRespDataSCPD, SnpRespDataSD, CopyBackWrData}
use Rattle.chi_flit.specs.declared.message.Msg.{Msg}
use Rattle.chi_flit.specs.declared.message.Msg.TheVariants.{DatDown, DatUp as Written}
use Rattle.chi_trace.specs.Fields.{word_at}
use Rattle.chi_trace.specs.declared.fields.Beat.{Beat}
use Rattle.chi_explain.specs.declared.observed.Observed.{Observed}
use Rattle.chi_explain.specs.declared.observed.Observed.TheVariants.{Flit}
use Rattle.chi_resolution.specs.declared.beats.OpenData.{OpenData}
use Rattle.chi_resolution.specs.declared.lines.Resolved.{Resolved}

-- the words that the beats have had, and these in place of those that lack
abbrev pub filled_word : Beat → List ℕ → ℕ → ℕ
filled_word beats others n = unwrap_or (word_at beats n) (slice_index_or others n 0)

abbrev pub words_with : Beat → List ℕ → List ℕ
words_with beats others =
    filled_word beats others 0
    ∷ filled_word beats others 1
    ∷ filled_word beats others 2
    ∷ filled_word beats others 3
    ∷ filled_word beats others 4
    ∷ filled_word beats others 5
    ∷ filled_word beats others 6
    ∷ filled_word beats others 7
    ∷ []

-- data with these words
abbrev pub written_with : DatUp → List ℕ → DatUp
written_with (SnpRespDataIPD words) new = SnpRespDataIPD new
written_with (SnpRespDataSCPD words) new = SnpRespDataSCPD new
written_with (SnpRespDataSD words) new = SnpRespDataSD new
written_with (CopyBackWrData state words) new = CopyBackWrData state new

abbrev pub message_with : Msg → List ℕ → Msg
message_with (DatDown read) new = DatDown (record read { words = new })
message_with (Written written) new = Written (written_with written new)
message_with other new = other

abbrev pub seen_with : Observed → List ℕ → Observed
seen_with (Flit sent) new = Flit (record sent { message = message_with sent.message new })
seen_with other new = other

-- the items, where data that lacks words has these in place of them
abbrev pub filled_in : OpenData → List ℕ → List Resolved → Option Resolved → List Resolved
filled_in begun others items None = items
filled_in begun others items (Some item) = slice_set items begun.place (record item { flit = seen_with item.flit (words_with begun.beat others) })

abbrev pub filled_with : OpenData → List ℕ → List Resolved → List Resolved
filled_with begun others items = filled_in begun others items (slice_get items begun.place)

-- the same items, but that words that lack may be any
abbrev pub AreFilled : List OpenData → List Resolved → List Resolved → Type 0
AreFilled [] items filled = filled ≡ items
AreFilled (begun ∷ more) items filled = (others : List ℕ) × AreFilled more (filled_with begun others items) filled
