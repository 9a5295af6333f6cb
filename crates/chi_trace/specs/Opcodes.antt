-- Channels and opcodes, by their names (docs/TRACES.md, "Traces").
use Rattle.std.specs.Prelude.{ℕ, List, Option, Some, None, if◌then◌else◌, codes}
use Rattle.chi_flit.specs.Kind.{kind_text}
use Rattle.chi_flit.specs.Snoop.{snoop_text}
use Rattle.chi_flit.specs.declared.kind.Kind.TheVariants.{ReadNotSharedDirty, ReadShared, ReadUnique, CleanUnique, Evict, WriteBackFull, WriteCleanFull, WriteEvictFull}
use Rattle.chi_flit.specs.declared.snoop.Snoop.TheVariants.{SnpShared, SnpNotSharedDirty, SnpUnique, SnpCleanInvalid}
use Rattle.chi_script.specs.Words.{is_text}
use Rattle.chi_trace.specs.declared.opcodes.TraceChannel.{TraceChannel}
use Rattle.chi_trace.specs.declared.opcodes.TraceChannel.TheVariants as channels
use Rattle.chi_trace.specs.declared.opcodes.Opcode.{Opcode}
use Rattle.chi_trace.specs.declared.opcodes.Opcode.TheVariants as opcodes

abbrev pub channel_word : TraceChannel → List ℕ
channel_word channels.Req = codes "REQ"
channel_word channels.Snp = codes "SNP"
channel_word channels.Rsp = codes "RSP"
channel_word channels.Dat = codes "DAT"
channel_word channels.Cpu = codes "CPU"

-- the channel that a word names
abbrev pub channel_in : List ℕ → Option TraceChannel
channel_in word =
    if is_text word (codes "REQ") then Some channels.Req else (
    if is_text word (codes "SNP") then Some channels.Snp else (
    if is_text word (codes "RSP") then Some channels.Rsp else (
    if is_text word (codes "DAT") then Some channels.Dat else (
    if is_text word (codes "CPU") then Some channels.Cpu else None))))

abbrev pub opcode_channel : Opcode → TraceChannel
opcode_channel (opcodes.Request kind) = channels.Req
opcode_channel opcodes.PCrdReturn = channels.Req
opcode_channel (opcodes.Snoop snoop) = channels.Snp
opcode_channel opcodes.RetryAck = channels.Rsp
opcode_channel opcodes.Comp = channels.Rsp
opcode_channel opcodes.CompDBIDResp = channels.Rsp
opcode_channel opcodes.PCrdGrant = channels.Rsp
opcode_channel opcodes.SnpResp = channels.Rsp
opcode_channel opcodes.CompAck = channels.Rsp
opcode_channel opcodes.CompData = channels.Dat
opcode_channel opcodes.SnpRespData = channels.Dat
opcode_channel opcodes.CopyBackWrData = channels.Dat
opcode_channel opcodes.Load = channels.Cpu
opcode_channel opcodes.Store = channels.Cpu

abbrev pub opcode_text : Opcode → List ℕ
opcode_text (opcodes.Request kind) = kind_text kind
opcode_text opcodes.PCrdReturn = codes "PCrdReturn"
opcode_text (opcodes.Snoop snoop) = snoop_text snoop
opcode_text opcodes.RetryAck = codes "RetryAck"
opcode_text opcodes.Comp = codes "Comp"
opcode_text opcodes.CompDBIDResp = codes "CompDBIDResp"
opcode_text opcodes.PCrdGrant = codes "PCrdGrant"
opcode_text opcodes.SnpResp = codes "SnpResp"
opcode_text opcodes.CompAck = codes "CompAck"
opcode_text opcodes.CompData = codes "CompData"
opcode_text opcodes.SnpRespData = codes "SnpRespData"
opcode_text opcodes.CopyBackWrData = codes "CopyBackWrData"
opcode_text opcodes.Load = codes "Load"
opcode_text opcodes.Store = codes "Store"

-- the opcode of each channel that a word names
unfoldable pub request_opcode : List ℕ → Option Opcode
request_opcode word =
    if is_text word (kind_text ReadNotSharedDirty) then Some (opcodes.Request ReadNotSharedDirty) else (
    if is_text word (kind_text ReadShared) then Some (opcodes.Request ReadShared) else (
    if is_text word (kind_text ReadUnique) then Some (opcodes.Request ReadUnique) else (
    if is_text word (kind_text CleanUnique) then Some (opcodes.Request CleanUnique) else (
    if is_text word (kind_text Evict) then Some (opcodes.Request Evict) else (
    if is_text word (kind_text WriteBackFull) then Some (opcodes.Request WriteBackFull) else (
    if is_text word (kind_text WriteCleanFull) then Some (opcodes.Request WriteCleanFull) else (
    if is_text word (kind_text WriteEvictFull) then Some (opcodes.Request WriteEvictFull) else (
    if is_text word (codes "PCrdReturn") then Some opcodes.PCrdReturn else None))))))))

unfoldable pub snoop_opcode : List ℕ → Option Opcode
snoop_opcode word =
    if is_text word (snoop_text SnpShared) then Some (opcodes.Snoop SnpShared) else (
    if is_text word (snoop_text SnpNotSharedDirty) then Some (opcodes.Snoop SnpNotSharedDirty) else (
    if is_text word (snoop_text SnpUnique) then Some (opcodes.Snoop SnpUnique) else (
    if is_text word (snoop_text SnpCleanInvalid) then Some (opcodes.Snoop SnpCleanInvalid) else None)))

unfoldable pub response_opcode : List ℕ → Option Opcode
response_opcode word =
    if is_text word (codes "RetryAck") then Some opcodes.RetryAck else (
    if is_text word (codes "Comp") then Some opcodes.Comp else (
    if is_text word (codes "CompDBIDResp") then Some opcodes.CompDBIDResp else (
    if is_text word (codes "PCrdGrant") then Some opcodes.PCrdGrant else (
    if is_text word (codes "SnpResp") then Some opcodes.SnpResp else (
    if is_text word (codes "CompAck") then Some opcodes.CompAck else None)))))

unfoldable pub data_opcode : List ℕ → Option Opcode
data_opcode word =
    if is_text word (codes "CompData") then Some opcodes.CompData else (
    if is_text word (codes "SnpRespData") then Some opcodes.SnpRespData else (
    if is_text word (codes "CopyBackWrData") then Some opcodes.CopyBackWrData else None))

unfoldable pub cpu_opcode : List ℕ → Option Opcode
cpu_opcode word =
    if is_text word (codes "Load") then Some opcodes.Load else (
    if is_text word (codes "Store") then Some opcodes.Store else None)

abbrev pub opcode_in : TraceChannel → List ℕ → Option Opcode
opcode_in channels.Req word = request_opcode word
opcode_in channels.Snp word = snoop_opcode word
opcode_in channels.Rsp word = response_opcode word
opcode_in channels.Dat word = data_opcode word
opcode_in channels.Cpu word = cpu_opcode word
