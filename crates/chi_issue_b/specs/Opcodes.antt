-- The opcodes of Issue B, by the rows of their table (docs/TRACES.md, "Traces" and "Other opcodes").
use Rattle.std.specs.Prelude.{ℕ, ◌-◌, ◌&&◌, Bool, false, List, [], Option, bytes_eq, map, nat_le, nat_lt}
use Rattle.std.specs.List.{find, slice_index_or}
use Rattle.std.specs.Option.{option_map}
use denote.Enum.Declared.{tag_of}
use denote.Ref.{Bor}
use Rattle.chi_issue_b.specs.contracts.opcodes.RequestOpcode as requests
use Rattle.chi_issue_b.specs.contracts.opcodes.SnoopOpcode as snoops
use Rattle.chi_issue_b.specs.contracts.opcodes.ResponseOpcode as responses
use Rattle.chi_issue_b.specs.contracts.opcodes.DataOpcode as datas
use Rattle.chi_issue_b.specs.declared.channels.Channel.{Channel}
use Rattle.chi_issue_b.specs.declared.channels.Channel.TheVariants as channels
use Rattle.chi_issue_b.specs.declared.opcodes.Opcode.{Opcode}
use Rattle.chi_issue_b.specs.declared.opcodes.Opcode.TheVariants.{Req, Snp, Rsp, Dat}
use Rattle.chi_issue_b.specs.declared.opcodes.RequestOpcode.TheVariants.{ReqLCrdReturn}
use Rattle.chi_issue_b.specs.declared.roles.Role.{Role}
use Rattle.chi_issue_b.specs.declared.roles.Role.TheVariants.{NoTransaction}
use Rattle.chi_issue_b.specs.declared.table.TheConstants.{REQUESTS, SNOOPS, RESPONSES, DATA_FLITS}

-- a row of the table: an opcode, its word, the first of its numbers, how many it has, what it does to ids, and whether its flits
-- carry words of a cache line
pub record Row : Type 0 where
  pub opcode : Opcode
  pub word : List ℕ
  pub number : ℕ
  pub numbers : ℕ
  pub role : Role
  pub carries_data : Bool

-- the row that the code keeps as a tuple, with a reference to its word
abbrev pub lent_row : Opcode × Bor (List ℕ) × ℕ × ℕ × Role × Bool → Row
lent_row (opcode, word, number, numbers, role, carries) =
    record { opcode = opcode; word = word.now; number = number; numbers = numbers; role = role; carries_data = carries }

abbrev pub constant_row : Opcode × record { now : List ℕ } × ℕ × ℕ × Role × Bool → Row
constant_row (opcode, word, number, numbers, role, carries) =
    record { opcode = opcode; word = word.now; number = number; numbers = numbers; role = role; carries_data = carries }

-- THE TABLE, by channel
unfoldable pub rows_of : Channel → List Row
rows_of channels.Req = map constant_row REQUESTS
rows_of channels.Snp = map constant_row SNOOPS
rows_of channels.Rsp = map constant_row RESPONSES
rows_of channels.Dat = map constant_row DATA_FLITS

abbrev pub channel_of : Opcode → Channel
channel_of (Req kind) = channels.Req
channel_of (Snp kind) = channels.Snp
channel_of (Rsp kind) = channels.Rsp
channel_of (Dat kind) = channels.Dat

-- the place of an opcode among those of its channel, as the code declares them
abbrev pub place_of : Opcode → ℕ
place_of (Req kind) = tag_of requests.the_type kind
place_of (Snp kind) = tag_of snoops.the_type kind
place_of (Rsp kind) = tag_of responses.the_type kind
place_of (Dat kind) = tag_of datas.the_type kind

-- what is past the end of the table
abbrev pub no_row : Row
no_row = record { opcode = Req ReqLCrdReturn; word = []; number = 0; numbers = 0; role = NoTransaction; carries_data = false }

unfoldable pub row_of : Opcode → Row
row_of opcode = slice_index_or (rows_of (channel_of opcode)) (place_of opcode) no_row

abbrev pub word_of : Opcode → List ℕ
word_of opcode = (row_of opcode).word

abbrev pub number_of : Opcode → ℕ
number_of opcode = (row_of opcode).number

abbrev pub role_of : Opcode → Role
role_of opcode = (row_of opcode).role

abbrev pub carries_data : Opcode → Bool
carries_data opcode = (row_of opcode).carries_data

-- the opcode of the first row that passes a test
abbrev pub first_of : (Row → Bool) → List Row → Option Opcode
first_of test rows = option_map (λ row. row.opcode) (find test rows)

-- the opcode of a channel that a word names
abbrev pub is_named : List ℕ → Row → Bool
is_named word row = bytes_eq row.word word

abbrev pub opcode_named : Channel → List ℕ → Option Opcode
opcode_named channel word = first_of (is_named word) (rows_of channel)

-- the opcode of a channel that has a number
abbrev pub has_number : ℕ → Row → Bool
has_number number row = nat_le row.number number && nat_lt (number - row.number) row.numbers

abbrev pub opcode_numbered : Channel → ℕ → Option Opcode
opcode_numbered channel number = first_of (has_number number) (rows_of channel)
