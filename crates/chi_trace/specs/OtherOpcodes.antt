-- The opcodes of Issue B that aren't judged, by their names, and those of a design's own (docs/TRACES.md, "Other opcodes").
use Rattle.std.specs.Prelude.{ℕ, ◌&&◌, ◌||◌, Bool, true, false, List, [], ◌∷◌, nat_le, Option, Some, None, if◌then◌else◌, codes, map, slice_get}
use Rattle.std.specs.List.{list_all, position}
use Rattle.chi_script.specs.Words.{is_text}
use Rattle.chi_trace.specs.declared.forms.Opcodes.{Opcodes}
use Rattle.chi_trace.specs.declared.forms.Opcodes.TheVariants as forms
use Rattle.chi_trace.specs.declared.opcodes.TraceChannel.{TraceChannel}
use Rattle.chi_trace.specs.declared.opcodes.TraceChannel.TheVariants as channels
use Rattle.chi_trace.specs.declared.other_opcodes.OtherOpcode.{OtherOpcode}

-- all of Issue B that aren't judged: a row each
abbrev pub other_rows : List (TraceChannel × List ℕ)
other_rows =
    (channels.Req, codes "ReqLCrdReturn") ∷
    (channels.Req, codes "ReadNoSnp") ∷
    (channels.Req, codes "DVMOp") ∷
    (channels.Req, codes "WriteUniquePtl") ∷
    (channels.Req, codes "WriteBackPtl") ∷
    (channels.Req, codes "WriteNoSnpPtl") ∷
    (channels.Req, codes "WriteNoSnpFull") ∷
    (channels.Req, codes "WriteUniqueFullStash") ∷
    (channels.Req, codes "WriteUniquePtlStash") ∷
    (channels.Req, codes "StashOnceShared") ∷
    (channels.Req, codes "StashOnceUnique") ∷
    (channels.Req, codes "ReadOnceCleanInvalid") ∷
    (channels.Req, codes "ReadOnceMakeInvalid") ∷
    (channels.Req, codes "CleanSharedPersist") ∷
    (channels.Req, codes "AtomicStore") ∷
    (channels.Req, codes "AtomicLoad") ∷
    (channels.Req, codes "AtomicSwap") ∷
    (channels.Req, codes "AtomicCompare") ∷
    (channels.Req, codes "PrefetchTgt") ∷
    (channels.Snp, codes "SnpLCrdReturn") ∷
    (channels.Snp, codes "SnpUniqueStash") ∷
    (channels.Snp, codes "SnpMakeInvalidStash") ∷
    (channels.Snp, codes "SnpStashUnique") ∷
    (channels.Snp, codes "SnpStashShared") ∷
    (channels.Snp, codes "SnpDVMOp") ∷
    (channels.Snp, codes "SnpSharedFwd") ∷
    (channels.Snp, codes "SnpCleanFwd") ∷
    (channels.Snp, codes "SnpOnceFwd") ∷
    (channels.Snp, codes "SnpNotSharedDirtyFwd") ∷
    (channels.Snp, codes "SnpUniqueFwd") ∷
    (channels.Rsp, codes "RespLCrdReturn") ∷
    (channels.Rsp, codes "DBIDResp") ∷
    (channels.Rsp, codes "ReadReceipt") ∷
    (channels.Rsp, codes "SnpRespFwded") ∷
    (channels.Dat, codes "DataLCrdReturn") ∷
    (channels.Dat, codes "SnpRespDataPtl") ∷
    (channels.Dat, codes "SnpRespDataFwded") ∷
    (channels.Dat, codes "WriteDataCancel") ∷
    []

abbrev pub is_channel : TraceChannel → TraceChannel → Bool
is_channel channels.Req channels.Req = true
is_channel channels.Snp channels.Snp = true
is_channel channels.Rsp channels.Rsp = true
is_channel channels.Dat channels.Dat = true
is_channel channels.Cpu channels.Cpu = true
is_channel one other = false

abbrev pub is_row : TraceChannel → List ℕ → TraceChannel × List ℕ → Bool
is_row channel word row = is_channel row.0 channel && is_text word row.1

-- the row that a word names
unfoldable pub row_of : TraceChannel → List ℕ → Option ℕ
row_of channel word = position (is_row channel word) other_rows

-- the word of an opcode
abbrev pub other_words : List (List ℕ)
other_words = map (λ row. row.1) other_rows

abbrev pub word_or : Option (List ℕ) → List ℕ
word_or None = codes "an opcode that Issue B hasn't"
word_or (Some word) = word

unfoldable pub other_opcode_text : OtherOpcode → List ℕ
other_opcode_text opcode = word_or (slice_get other_words opcode.0)

-- letters and digits, a capital first: what may be the name of an opcode
abbrev pub is_between : ℕ → ℕ → ℕ → Bool
is_between low high byte = nat_le low byte && nat_le byte high

abbrev pub is_name_byte : ℕ → Bool
is_name_byte byte = (is_between 65 90 byte || is_between 97 122 byte) || is_between 48 57 byte

abbrev pub is_name : List ℕ → Bool
is_name [] = false
is_name (first ∷ rest) = is_between 65 90 first && list_all is_name_byte (first ∷ rest)

-- an opcode of a design's own, where a trace may have such
abbrev pub own : OtherOpcode
own = record { 0 = 255 }

abbrev pub own_in : Opcodes → List ℕ → Option OtherOpcode
own_in forms.IssueB word = None
own_in forms.Any word = if is_name word then Some own else None

-- the opcode that a word names, and that isn't judged
abbrev pub unjudged_by : Option ℕ → Option OtherOpcode → Option OtherOpcode
unjudged_by (Some row) other = Some (record { 0 = row })
unjudged_by None other = other

abbrev pub unjudged_in : Opcodes → TraceChannel → List ℕ → Option OtherOpcode
unjudged_in opcodes channel word = unjudged_by (row_of channel word) (own_in opcodes word)
