-- The rule of ids: what a flit may bring, and what is left behind it (docs/TRANSACTIONS.md, "The rule").
use Rattle.std.specs.Prelude.{ℕ, ◌==◌, ◌&&◌, ◌||◌, Bool, true, false, not, bit_and, bit_or, Option, Some, None, if◌then◌else◌}
use Rattle.std.specs.Option.{option_eq}
use Rattle.chi_issue_b.specs.Flit.{dbid_of, line_of}
use Rattle.chi_issue_b.specs.Ids.{line_at}
use Rattle.chi_issue_b.specs.Opcodes.{carries_data}
use Rattle.chi_issue_b.specs.contracts.opcodes.OpcodePartialEq.TheImpl as opcodes
use Rattle.chi_issue_b.specs.contracts.resp.RespPartialEq.TheImpl as resps
use Rattle.chi_issue_b.specs.contracts.ids.DbIdPartialEq.TheImpl as dbids
use Rattle.chi_issue_b.specs.declared.flit.Flit.{Flit}
use Rattle.chi_issue_b.specs.declared.ids.CacheLine.{CacheLine}
use Rattle.chi_issue_b.specs.declared.ids.DbId.{DbId}
use Rattle.chi_transactions.specs.declared.entries.Portion.{Portion}
use Rattle.chi_transactions.specs.declared.entries.Portion.TheVariants.{Whole, First, Further, Last}
use Rattle.chi_transactions.specs.declared.entries.Begun.{Begun}
use Rattle.chi_transactions.specs.declared.entries.OpenId.{OpenId}
use Rattle.chi_transactions.specs.declared.entries.Options.{Options}
use Rattle.chi_transactions.specs.declared.entries.Reason.{Reason}
use Rattle.chi_transactions.specs.declared.entries.Reason.TheVariants.{NotOpen, OtherHome, OtherLine, Unfinished, NotLeft, OtherBeat, WordAgain, NoDbid, InUse}
use Rattle.chi_transactions.specs.declared.parts.Parts.{Parts}
use Rattle.chi_transactions.specs.declared.parts.TheConstants.{BUFFER, IN_BEATS, EVERY}
use Rattle.chi_transactions.specs.Flits.{home_of}
use Rattle.chi_transactions.specs.Parts.{both, has, is_empty, meets, no_parts, parts_of, without}
use Rattle.chi_transactions.specs.Rows.{beside, brings, may_lack, names_buffer}

-- the first row that is so
abbrev pub refused_if : Bool → Reason → Option Reason → Option Reason
refused_if b reason rest = if b then Some reason else rest

-- AN ID is in use while something has to come by it; one from before the trace isn't
abbrev pub is_before : OpenId → Bool
is_before id = id.since == 0

abbrev pub has_to_come : OpenId → Parts
has_to_come id = without id.left (may_lack id.of)

unfoldable pub is_used : OpenId → Bool
is_used id = not (is_before id) && not (is_empty (has_to_come id))

abbrev pub is_in_use : Option OpenId → Bool
is_in_use None = false
is_in_use (Some id) = is_used id

-- an id from before the trace, of which anything may be left
unfoldable pub before : Flit → OpenId
before f = record {
  line = line_at 0;
  since = 0;
  home = home_of f;
  of = f.opcode;
  left = parts_of EVERY;
  follows = no_parts;
  retryable = true;
  begun = false;
}

-- what the trace has of the id that a flit names: where it begins in the middle, one that no flit has named is from before
abbrev pub found_by : Options → Flit → Option OpenId → Option OpenId
found_by options f (Some id) = Some id
found_by options f None = if options.begins_in_middle then Some (before f) else None

-- A FLIT THAT NAMES IT is of its home, and of its line where it has an address
abbrev pub is_of_home : Flit → OpenId → Bool
is_of_home f id = id.home.0 == (home_of f).0

abbrev pub is_at : OpenId → Option CacheLine → Bool
is_at id None = true
is_at id (Some line) = id.line.address == line.address

unfoldable pub is_of_line : Flit → OpenId → Bool
is_of_line f id = is_before id || is_at id (line_of f)

-- data that have begun to come end with data
unfoldable pub is_unfinished : Flit → OpenId → Bool
is_unfinished f id = id.begun && not (carries_data f.opcode) && meets (brings f.opcode) (parts_of IN_BEATS)

-- all that it brings is left
unfoldable pub is_left : Flit → OpenId → Bool
is_left f id = has id.left (brings f.opcode)

-- what is left behind it, once it has come whole: all else; of an id from before what may be left beside it
unfoldable pub left_behind : Flit → OpenId → Parts
left_behind f id = if is_before id then both id.left (beside (brings f.opcode)) else without id.left (brings f.opcode)

-- A DBID is opened by the first flit that names one, unless it is to come by itself; its home has to name it where something has
-- to follow by it, and it is one that isn't in use
unfoldable pub is_opening : Flit → OpenId → Bool
is_opening f id = names_buffer f.opcode f.resp && not (is_empty id.follows) && not (meets (left_behind f id) (parts_of BUFFER))

unfoldable pub has_to_follow : OpenId → Bool
has_to_follow id = not (is_empty (without id.follows (may_lack id.of)))

abbrev pub dbid_refusal : Option DbId → Option OpenId → Option Reason
dbid_refusal None buffer = Some NoDbid
dbid_refusal (Some dbid) buffer = refused_if (is_in_use buffer) InUse None

abbrev pub buffer_refusal : Flit → OpenId → Option OpenId → Option Reason
buffer_refusal f id buffer = if is_opening f id && has_to_follow id then dbid_refusal (dbid_of f) buffer else None

-- DATA IN BEATS: later beats have the form of the first, and no word that has come
abbrev pub is_dbid : Option DbId → Option DbId → Bool
is_dbid None dbid = true
is_dbid (Some first) dbid = option_eq dbids.eq-value.it (Some first) dbid

unfoldable pub is_form : Flit → Begun → Bool
is_form f begun =
    opcodes.eq-value.it begun.opcode f.opcode && (option_eq resps.eq-value.it begun.resp f.resp && is_dbid begun.dbid (dbid_of f))

abbrev pub is_again : ℕ → Begun → Bool
is_again there begun = not (bit_and begun.words there == 0)

abbrev pub form_refusal : Flit → ℕ → Option Begun → Option Reason
form_refusal f there None = None
form_refusal f there (Some begun) =
    refused_if (not (is_form f begun)) OtherBeat (
    refused_if (is_again there begun) WordAgain None)

abbrev pub beat_refusal : Flit → ℕ → Option Begun → Option Reason
beat_refusal f there begun = if carries_data f.opcode then form_refusal f there begun else None

abbrev pub words_behind : ℕ → Option Begun → ℕ
words_behind there None = there
words_behind there (Some begun) = bit_or begun.words there

-- all eight words, as a bit each
abbrev pub is_all : ℕ → Bool
is_all words = words == 255

abbrev pub beat_at : Bool → Option Begun → Portion
beat_at true None = Whole
beat_at false None = First
beat_at true (Some begun) = Last
beat_at false (Some begun) = Further

unfoldable pub beat_of : Flit → ℕ → Option Begun → Portion
beat_of f there begun = if carries_data f.opcode then beat_at (is_all (words_behind there begun)) begun else Whole

abbrev pub is_last : Portion → Bool
is_last Whole = true
is_last First = false
is_last Further = false
is_last Last = true

-- WHY A FLIT THAT NAMES AN ID ISN'T TAKEN: by the id, by the data that have begun, and by the DBID that it opens
abbrev pub id_refusal : Flit → OpenId → Option Reason
id_refusal f id =
    refused_if (is_empty id.left) NotOpen (
    refused_if (not (is_of_home f id)) OtherHome (
    refused_if (not (is_of_line f id)) OtherLine (
    refused_if (is_unfinished f id) Unfinished (
    refused_if (not (is_left f id)) NotLeft None))))

abbrev pub or_else : Option Reason → Option Reason → Option Reason
or_else (Some reason) rest = Some reason
or_else None rest = rest

unfoldable pub named_refusal : Flit → ℕ → OpenId → Option Begun → Option OpenId → Option Reason
named_refusal f there id begun buffer = or_else (id_refusal f id) (or_else (beat_refusal f there begun) (buffer_refusal f id buffer))

-- WHAT IS KEPT BEHIND IT: of the id, of its data, and of the DBID that it opens
abbrev pub follows_behind : Flit → OpenId → Parts
follows_behind f id = if is_opening f id then no_parts else id.follows

unfoldable pub brought : Flit → Portion → OpenId → OpenId
brought f beat id = record id {
  left = if is_last beat then left_behind f id else id.left;
  follows = follows_behind f id;
  retryable = false;
  begun = if carries_data f.opcode then not (is_last beat) else id.begun;
}

abbrev pub first_dbid : Flit → OpenId → Option DbId
first_dbid f id = if is_opening f id && has_to_follow id then dbid_of f else None

abbrev pub begun_behind : Flit → ℕ → OpenId → Option Begun → Begun
begun_behind f there id None = record { opcode = f.opcode; resp = f.resp; dbid = first_dbid f id; words = there }
begun_behind f there id (Some begun) = record begun { words = bit_or begun.words there }

unfoldable pub opened_buffer : ℕ → OpenId → OpenId
opened_buffer number id = record {
  line = id.line;
  since = number;
  home = id.home;
  of = id.of;
  left = id.follows;
  follows = no_parts;
  retryable = false;
  begun = false;
}
