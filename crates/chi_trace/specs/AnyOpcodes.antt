-- The opcodes of a trace of any home and any caches, by their names: the profile's, and others (docs/TRACES.md, "Other
-- opcodes").
use Rattle.std.specs.Prelude.{ℕ, ◌==◌, ◌&&◌, Bool, false, List, ◌∷◌, Option, Some, None, if◌then◌else◌, codes, option_map}
use Rattle.chi_script.specs.Words.{◌>>=◌, is_text}
use Rattle.chi_trace.specs.declared.any_opcodes.AnyOpcode.{AnyOpcode}
use Rattle.chi_trace.specs.declared.any_opcodes.AnyOpcode.TheVariants as any
use Rattle.chi_trace.specs.declared.any_opcodes.OtherKind.{OtherKind}
use Rattle.chi_trace.specs.declared.any_opcodes.OtherKind.TheVariants as kinds
use Rattle.chi_trace.specs.declared.any_opcodes.OtherSnoop.{OtherSnoop}
use Rattle.chi_trace.specs.declared.any_opcodes.OtherSnoop.TheVariants as snoops
use Rattle.chi_trace.specs.declared.forms.Opcodes.{Opcodes}
use Rattle.chi_trace.specs.declared.opcodes.Opcode.{Opcode}
use Rattle.chi_trace.specs.declared.opcodes.TraceChannel.{TraceChannel}
use Rattle.chi_trace.specs.declared.opcodes.TraceChannel.TheVariants as channels
use Rattle.chi_trace.specs.declared.other_opcodes.OtherOpcode.{OtherOpcode}
use Rattle.chi_trace.specs.Opcodes.{opcode_in}
use Rattle.chi_trace.specs.OtherOpcodes.{unjudged_in}

abbrev pub other_kind_text : OtherKind → List ℕ
other_kind_text kinds.ReadClean = codes "ReadClean"
other_kind_text kinds.ReadOnce = codes "ReadOnce"
other_kind_text kinds.MakeUnique = codes "MakeUnique"
other_kind_text kinds.CleanShared = codes "CleanShared"
other_kind_text kinds.CleanInvalid = codes "CleanInvalid"
other_kind_text kinds.MakeInvalid = codes "MakeInvalid"
other_kind_text kinds.WriteUniqueFull = codes "WriteUniqueFull"

abbrev pub other_snoop_text : OtherSnoop → List ℕ
other_snoop_text snoops.SnpOnce = codes "SnpOnce"
other_snoop_text snoops.SnpClean = codes "SnpClean"
other_snoop_text snoops.SnpCleanShared = codes "SnpCleanShared"
other_snoop_text snoops.SnpMakeInvalid = codes "SnpMakeInvalid"

-- the kind and the snoop that a word names
unfoldable pub other_kind : List ℕ → Option OtherKind
other_kind word =
    if is_text word (other_kind_text kinds.ReadClean) then Some kinds.ReadClean else (
    if is_text word (other_kind_text kinds.ReadOnce) then Some kinds.ReadOnce else (
    if is_text word (other_kind_text kinds.MakeUnique) then Some kinds.MakeUnique else (
    if is_text word (other_kind_text kinds.CleanShared) then Some kinds.CleanShared else (
    if is_text word (other_kind_text kinds.CleanInvalid) then Some kinds.CleanInvalid else (
    if is_text word (other_kind_text kinds.MakeInvalid) then Some kinds.MakeInvalid else (
    if is_text word (other_kind_text kinds.WriteUniqueFull) then Some kinds.WriteUniqueFull else None))))))

unfoldable pub other_snoop_in : List ℕ → Option OtherSnoop
other_snoop_in word =
    if is_text word (other_snoop_text snoops.SnpOnce) then Some snoops.SnpOnce else (
    if is_text word (other_snoop_text snoops.SnpClean) then Some snoops.SnpClean else (
    if is_text word (other_snoop_text snoops.SnpCleanShared) then Some snoops.SnpCleanShared else (
    if is_text word (other_snoop_text snoops.SnpMakeInvalid) then Some snoops.SnpMakeInvalid else None)))

-- the opcode of each channel that a word names
abbrev pub other_request : List ℕ → Option AnyOpcode
other_request word = option_map any.Request (other_kind word)

abbrev pub other_snoop : List ℕ → Option AnyOpcode
other_snoop word = option_map any.Snoop (other_snoop_in word)

abbrev pub other_data : List ℕ → Option AnyOpcode
other_data word = if is_text word (codes "NonCopyBackWrData") then Some any.NonCopyBackWrData else None

abbrev pub other_opcode : TraceChannel → List ℕ → Option AnyOpcode
other_opcode channels.Req word = other_request word
other_opcode channels.Snp word = other_snoop word
other_opcode channels.Dat word = other_data word
other_opcode channels.Rsp word = None
other_opcode channels.Cpu word = None

-- an answer to a snoop: its name begins with Snp
abbrev pub is_answer_name : List ℕ → Bool
is_answer_name (a ∷ b ∷ c ∷ rest) = a == 83 && (b == 110 && c == 112)
is_answer_name other = false

abbrev pub unknown_reply : List ℕ → OtherOpcode → AnyOpcode
unknown_reply word opcode = if is_answer_name word then any.UnknownAnswer opcode else any.UnknownReply opcode

abbrev pub unknown_on : TraceChannel → List ℕ → OtherOpcode → Option AnyOpcode
unknown_on channels.Req word opcode = Some (any.UnknownRequest opcode)
unknown_on channels.Snp word opcode = Some (any.UnknownSnoop opcode)
unknown_on channels.Rsp word opcode = Some (unknown_reply word opcode)
unknown_on channels.Dat word opcode = Some (unknown_reply word opcode)
unknown_on channels.Cpu word opcode = None

abbrev pub unknown_opcode : Opcodes → TraceChannel → List ℕ → Option AnyOpcode
unknown_opcode opcodes channel word = unjudged_in opcodes channel word >>= unknown_on channel word

abbrev pub first_of : Option AnyOpcode → Option AnyOpcode → Option AnyOpcode
first_of None other = other
first_of (Some opcode) other = Some opcode

abbrev pub other_or_unknown : Opcodes → TraceChannel → List ℕ → Option AnyOpcode
other_or_unknown opcodes channel word = first_of (other_opcode channel word) (unknown_opcode opcodes channel word)

-- an opcode of the profile, another one, or one that isn't judged
abbrev pub profile_or : Option Opcode → Option AnyOpcode → Option AnyOpcode
profile_or (Some opcode) other = Some (any.Profile opcode)
profile_or None other = other

abbrev pub any_opcode_in : Opcodes → TraceChannel → List ℕ → Option AnyOpcode
any_opcode_in opcodes channel word = profile_or (opcode_in channel word) (other_or_unknown opcodes channel word)
