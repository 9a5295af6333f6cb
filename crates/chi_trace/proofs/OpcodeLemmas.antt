-- Opcodes are read as they are named, and only so.
use Rattle.std.proofs.Common.{◌≡◌, ℕ, List, Some, None, Result, Ok, Err, refl, ap, ◌∙◌, codes}
use Rattle.std.specs.Prelude.{ok_or}
use Rattle.chi_flit.specs.Kind.{kind_text}
use Rattle.chi_flit.specs.Snoop.{snoop_text}
use Rattle.chi_flit.specs.declared.kind.Kind.TheVariants.{ReadNotSharedDirty, ReadShared, ReadUnique, CleanUnique, Evict, WriteBackFull, WriteCleanFull, WriteEvictFull}
use Rattle.chi_flit.specs.declared.snoop.Snoop.TheVariants.{SnpShared, SnpNotSharedDirty, SnpUnique, SnpCleanInvalid}
use Rattle.chi_script.specs.Words.{is_text}
use Rattle.chi_trace.specs.declared.columns.Column.{Column}
use Rattle.chi_trace.specs.declared.columns.Column.TheVariants as columns
use Rattle.chi_trace.specs.declared.opcodes.TraceChannel.{TraceChannel}
use Rattle.chi_trace.specs.declared.opcodes.TraceChannel.TheVariants as channels
use Rattle.chi_trace.specs.declared.opcodes.Opcode.{Opcode}
use Rattle.chi_trace.specs.declared.opcodes.Opcode.TheVariants as opcodes
use Rattle.chi_trace.specs.Columns.{Row}
use Rattle.chi_trace.specs.Flits.{◌>>=◌, opcode_of}
use Rattle.chi_trace.specs.Opcodes.{channel_in, opcode_channel, channel_word, cpu_opcode, data_opcode, opcode_in, opcode_text, request_opcode, response_opcode, snoop_opcode}
use Rattle.chi_trace.proofs.FieldLemmas.{none_left, pick, taken, text_is}

channel_read : (word : List ℕ) (channel : TraceChannel) → channel_in word ≡ Some channel → word ≡ channel_word channel
channel_read word channel e =
    let P : TraceChannel → Type 0 = λ c. word ≡ channel_word c in
    pick P (is_text word (codes "REQ")) channels.Req _ (text_is word _) (
    pick P (is_text word (codes "SNP")) channels.Snp _ (text_is word _) (
    pick P (is_text word (codes "RSP")) channels.Rsp _ (text_is word _) (
    pick P (is_text word (codes "DAT")) channels.Dat _ (text_is word _) (
    pick P (is_text word (codes "CPU")) channels.Cpu None (text_is word _) (none_left P))))) channel e

channel_named : (channel : TraceChannel) → channel_in (channel_word channel) ≡ Some channel
channel_named channels.Req = refl
channel_named channels.Snp = refl
channel_named channels.Rsp = refl
channel_named channels.Dat = refl
channel_named channels.Cpu = refl

-- what the opcode of a channel is named
abbrev IsNamed : TraceChannel → List ℕ → Opcode → Type 0
IsNamed channel word opcode = (channel ≡ opcode_channel opcode) × (word ≡ opcode_text opcode)

request_opcode_read : (word : List ℕ) (opcode : Opcode) → request_opcode word ≡ Some opcode → IsNamed channels.Req word opcode
unfolding request_opcode
request_opcode_read word opcode e =
    let P : Opcode → Type 0 = IsNamed channels.Req word in
    pick P (is_text word (kind_text ReadNotSharedDirty)) (opcodes.Request ReadNotSharedDirty) _ (λ is. (refl, text_is word _ is)) (
    pick P (is_text word (kind_text ReadShared)) (opcodes.Request ReadShared) _ (λ is. (refl, text_is word _ is)) (
    pick P (is_text word (kind_text ReadUnique)) (opcodes.Request ReadUnique) _ (λ is. (refl, text_is word _ is)) (
    pick P (is_text word (kind_text CleanUnique)) (opcodes.Request CleanUnique) _ (λ is. (refl, text_is word _ is)) (
    pick P (is_text word (kind_text Evict)) (opcodes.Request Evict) _ (λ is. (refl, text_is word _ is)) (
    pick P (is_text word (kind_text WriteBackFull)) (opcodes.Request WriteBackFull) _ (λ is. (refl, text_is word _ is)) (
    pick P (is_text word (kind_text WriteCleanFull)) (opcodes.Request WriteCleanFull) _ (λ is. (refl, text_is word _ is)) (
    pick P (is_text word (kind_text WriteEvictFull)) (opcodes.Request WriteEvictFull) _ (λ is. (refl, text_is word _ is)) (
    pick P (is_text word (codes "PCrdReturn")) opcodes.PCrdReturn None (λ is. (refl, text_is word _ is)) (none_left P))))))))) opcode e

snoop_opcode_read : (word : List ℕ) (opcode : Opcode) → snoop_opcode word ≡ Some opcode → IsNamed channels.Snp word opcode
unfolding snoop_opcode
snoop_opcode_read word opcode e =
    let P : Opcode → Type 0 = IsNamed channels.Snp word in
    pick P (is_text word (snoop_text SnpShared)) (opcodes.Snoop SnpShared) _ (λ is. (refl, text_is word _ is)) (
    pick P (is_text word (snoop_text SnpNotSharedDirty)) (opcodes.Snoop SnpNotSharedDirty) _ (λ is. (refl, text_is word _ is)) (
    pick P (is_text word (snoop_text SnpUnique)) (opcodes.Snoop SnpUnique) _ (λ is. (refl, text_is word _ is)) (
    pick P (is_text word (snoop_text SnpCleanInvalid)) (opcodes.Snoop SnpCleanInvalid) None (λ is. (refl, text_is word _ is)) (none_left P)))) opcode e

response_opcode_read : (word : List ℕ) (opcode : Opcode) → response_opcode word ≡ Some opcode → IsNamed channels.Rsp word opcode
unfolding response_opcode
response_opcode_read word opcode e =
    let P : Opcode → Type 0 = IsNamed channels.Rsp word in
    pick P (is_text word (codes "RetryAck")) opcodes.RetryAck _ (λ is. (refl, text_is word _ is)) (
    pick P (is_text word (codes "Comp")) opcodes.Comp _ (λ is. (refl, text_is word _ is)) (
    pick P (is_text word (codes "CompDBIDResp")) opcodes.CompDBIDResp _ (λ is. (refl, text_is word _ is)) (
    pick P (is_text word (codes "PCrdGrant")) opcodes.PCrdGrant _ (λ is. (refl, text_is word _ is)) (
    pick P (is_text word (codes "SnpResp")) opcodes.SnpResp _ (λ is. (refl, text_is word _ is)) (
    pick P (is_text word (codes "CompAck")) opcodes.CompAck None (λ is. (refl, text_is word _ is)) (none_left P)))))) opcode e

data_opcode_read : (word : List ℕ) (opcode : Opcode) → data_opcode word ≡ Some opcode → IsNamed channels.Dat word opcode
unfolding data_opcode
data_opcode_read word opcode e =
    let P : Opcode → Type 0 = IsNamed channels.Dat word in
    pick P (is_text word (codes "CompData")) opcodes.CompData _ (λ is. (refl, text_is word _ is)) (
    pick P (is_text word (codes "SnpRespData")) opcodes.SnpRespData _ (λ is. (refl, text_is word _ is)) (
    pick P (is_text word (codes "CopyBackWrData")) opcodes.CopyBackWrData None (λ is. (refl, text_is word _ is)) (none_left P))) opcode e

cpu_opcode_read : (word : List ℕ) (opcode : Opcode) → cpu_opcode word ≡ Some opcode → IsNamed channels.Cpu word opcode
unfolding cpu_opcode
cpu_opcode_read word opcode e =
    let P : Opcode → Type 0 = IsNamed channels.Cpu word in
    pick P (is_text word (codes "Load")) opcodes.Load _ (λ is. (refl, text_is word _ is)) (
    pick P (is_text word (codes "Store")) opcodes.Store None (λ is. (refl, text_is word _ is)) (none_left P)) opcode e

opcode_in_read : (channel : TraceChannel) (word : List ℕ) (opcode : Opcode) → opcode_in channel word ≡ Some opcode → IsNamed channel word opcode
opcode_in_read channels.Req word opcode e = request_opcode_read word opcode e
opcode_in_read channels.Snp word opcode e = snoop_opcode_read word opcode e
opcode_in_read channels.Rsp word opcode e = response_opcode_read word opcode e
opcode_in_read channels.Dat word opcode e = data_opcode_read word opcode e
opcode_in_read channels.Cpu word opcode e = cpu_opcode_read word opcode e

opcode_named : (opcode : Opcode) → opcode_in (opcode_channel opcode) (opcode_text opcode) ≡ Some opcode
unfolding request_opcode snoop_opcode response_opcode data_opcode cpu_opcode
opcode_named (opcodes.Request ReadNotSharedDirty) = refl
opcode_named (opcodes.Request ReadShared) = refl
opcode_named (opcodes.Request ReadUnique) = refl
opcode_named (opcodes.Request CleanUnique) = refl
opcode_named (opcodes.Request Evict) = refl
opcode_named (opcodes.Request WriteBackFull) = refl
opcode_named (opcodes.Request WriteCleanFull) = refl
opcode_named (opcodes.Request WriteEvictFull) = refl
opcode_named opcodes.PCrdReturn = refl
opcode_named (opcodes.Snoop SnpShared) = refl
opcode_named (opcodes.Snoop SnpNotSharedDirty) = refl
opcode_named (opcodes.Snoop SnpUnique) = refl
opcode_named (opcodes.Snoop SnpCleanInvalid) = refl
opcode_named opcodes.RetryAck = refl
opcode_named opcodes.Comp = refl
opcode_named opcodes.CompDBIDResp = refl
opcode_named opcodes.PCrdGrant = refl
opcode_named opcodes.SnpResp = refl
opcode_named opcodes.CompAck = refl
opcode_named opcodes.CompData = refl
opcode_named opcodes.SnpRespData = refl
opcode_named opcodes.CopyBackWrData = refl
opcode_named opcodes.Load = refl
opcode_named opcodes.Store = refl

pub bound : {A B : Type 0} (step : Result A Column) (next : A → Result B Column) (y : B) → (step >>= next) ≡ Ok y → (x : A) × (step ≡ Ok x) × (next x ≡ Ok y)
bound (Ok x) next y e = (x, refl, e)
bound (Err column) next y e = cc

-- the words of a row that name its opcode
pub record IsOpcode (row : Row) (opcode : Opcode) : Type 0 where
  pub channel : row.channel ≡ channel_word (opcode_channel opcode)
  pub word : row.opcode ≡ opcode_text opcode

pub opcode_read : (row : Row) (opcode : Opcode) → opcode_of row ≡ Ok opcode → IsOpcode row opcode
opcode_read row opcode e =
    let one = bound (ok_or (channel_in row.channel) columns.Channel) (λ channel. ok_or (opcode_in channel row.opcode) columns.Opcode) opcode e in
    let named = opcode_in_read one.0 row.opcode opcode (taken (opcode_in one.0 row.opcode) columns.Opcode opcode one.2) in
    record { channel = channel_read row.channel one.0 (taken (channel_in row.channel) columns.Channel one.0 one.1) ∙ ap channel_word named.0; word = named.1 }

pub opcode_again : (row : Row) (opcode : Opcode) → row.channel ≡ channel_word (opcode_channel opcode) → row.opcode ≡ opcode_text opcode → opcode_of row ≡ Ok opcode
opcode_again row opcode channel word = rw (channel, channel_named (opcode_channel opcode), word, opcode_named opcode) refl
