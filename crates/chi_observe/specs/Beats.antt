-- Data that come in beats (docs/OBSERVER.md, "A trace of many lines").
use Rattle.std.specs.Prelude.{ℕ, ◌&&◌, ◌||◌, Bool, true, not, List, Option, Some, None, Result, Ok, Err, if◌then◌else◌, replicate, unwrap_or}
use Rattle.std.specs.Option.{option_eq}
use Rattle.chi_trace.specs.declared.fields.DbId.{DbId}
use Rattle.chi_trace.specs.contracts.fields.DbIdPartialEq.TheImpl as dbids
use Rattle.chi_ids.specs.declared.keys.CacheLine.{CacheLine}
use Rattle.chi_ids.specs.declared.keys.IdKey.{IdKey}
use Rattle.chi_observe.specs.declared.ids.Later.{Later}
use Rattle.chi_observe.specs.declared.ids.Later.TheVariants as laters
use Rattle.chi_observe.specs.declared.ids.OpenId.{OpenId}
use Rattle.chi_observe.specs.declared.ids.Purpose.{Purpose}
use Rattle.chi_observe.specs.declared.reasons.IdReason.{IdReason}
use Rattle.chi_observe.specs.declared.reasons.IdReason.TheVariants.{OtherBeat, WordAgain}
use Rattle.chi_observe.specs.declared.events.Tells.{Tells}
use Rattle.chi_observe.specs.contracts.events.TellsPartialEq.TheImpl as forms
use Rattle.chi_observe.specs.declared.tables.Change.{Change}
use Rattle.chi_observe.specs.declared.tables.Part.TheVariants as parts
use Rattle.chi_observe.specs.Events.{with_words, words_of}
use Rattle.chi_observe.specs.Ids.{is_kept_for, is_unknown}
use Rattle.chi_observe.specs.Reasons.{◌>>=◌}
use Rattle.chi_observe.specs.Tables.{Table, plain_change, named}
use Rattle.chi_observe.specs.Words.{lacks_some, left_of, word_at, words_with}

-- Data comes in beats, each with words that lack yet; its id is open until no word lacks.
abbrev pub is_word_again : Bool → Bool → Bool
is_word_again lacks there = there && not lacks

abbrev pub again_at : List Bool → List Bool → ℕ → Bool
again_at lacks there n = is_word_again (word_at lacks n) (word_at there n)

abbrev pub is_again : List Bool → List Bool → Bool
is_again lacks there =
    again_at lacks there 0 || again_at lacks there 1 || again_at lacks there 2 || again_at lacks there 3
    || again_at lacks there 4 || again_at lacks there 5 || again_at lacks there 6 || again_at lacks there 7

-- what it tells has the form of its first beat
abbrev pub told_with : Tells → Tells → List Bool → Tells
told_with begun beat there = with_words begun (words_with (words_of begun) (words_of beat) there)

-- and so has each later one: also the DBID, of data that CompAck follows
abbrev pub first_dbid : Purpose → Option DbId → Option DbId
first_dbid purpose dbid = if is_kept_for purpose then dbid else None

abbrev pub is_form : Tells → Tells → Bool
is_form begun beat = forms.eq-value.it (with_words begun (words_of beat)) beat

abbrev pub is_same_beat : OpenId → Tells → Option DbId → Bool
is_same_beat found tells dbid = is_form (unwrap_or found.begun tells) tells && option_eq dbids.eq-value.it found.dbid dbid

abbrev pub kept_with : OpenId → List Bool → Tells → Option DbId → OpenId
kept_with found left tells dbid = record found { lacks = Some left; begun = Some tells; dbid = dbid }

abbrev pub first_beat : OpenId → List Bool → Tells → Option DbId → Change
first_beat found left tells dbid =
    if lacks_some left then record (plain_change found.line) { keeps = Some (kept_with found left tells dbid); part = parts.First left }
    else record (plain_change found.line) { frees = Some found.key }

abbrev pub later_beat : OpenId → List Bool → Tells → Change
later_beat found left tells =
    if lacks_some left then record (plain_change found.line) { keeps = Some (kept_with found left tells found.dbid); part = parts.Further }
    else record (plain_change found.line) { frees = Some found.key; part = parts.Last tells }

-- where its words were known at the first beat, whether it has them; and none that tell nothing are others
abbrev pub held_at : Later → Tells → Tells → Option Bool
held_at laters.Told begun told = None
held_at laters.Held begun told = Some (forms.eq-value.it told begun)
held_at laters.Free begun told = Some true

abbrev pub held_in : OpenId → Tells → Tells → Option Bool
held_in found begun told = held_at found.later begun told

abbrev pub held_by : Change → Option Bool → Change
held_by change None = change
held_by change (Some same) = record change { part = parts.Held same }

abbrev pub again_beat : OpenId → List Bool → Tells → Tells → Change
again_beat found left begun told = held_by (later_beat found left told) (held_in found begun told)

abbrev pub next_beat : IdKey → OpenId → List Bool → Tells → Option DbId → Option (List Bool) → Result Change IdReason
next_beat key found there tells dbid None = Ok (first_beat found (left_of (replicate 8 true) there) tells dbid)
next_beat key found there tells dbid (Some lacks) =
    if not (is_same_beat found tells dbid) then Err (OtherBeat key) else
    if is_again lacks there then Err (WordAgain key) else
    Ok (again_beat found (left_of lacks there) (unwrap_or found.begun tells) (told_with (unwrap_or found.begun tells) tells there))

abbrev pub beat_by : IdKey → OpenId → List Bool → Option DbId → Tells → Result Change IdReason
beat_by key found there dbid tells = if is_unknown found.purpose then Ok (plain_change found.line) else next_beat key found there tells (first_dbid found.purpose dbid) found.lacks

abbrev pub beat_of : Table → IdKey → List Bool → Option DbId → Option CacheLine → Tells → Result Change IdReason
beat_of table key there dbid at tells = named table key at >>= λ found. beat_by key found there dbid tells
