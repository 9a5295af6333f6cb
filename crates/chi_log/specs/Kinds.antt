-- What a line is, by the words of its channel and its opcode (docs/TRACES.md, "Traces" and "Other opcodes").
use Rattle.std.specs.Prelude.{ℕ, ◌==◌, ◌&&◌, ◌||◌, nat_le, Bool, false, List, [], ◌∷◌, Option, Some, None, if◌then◌else◌, bytes_eq, codes}
use Rattle.std.specs.List.{list_all}
use Rattle.std.specs.Option.{option_map}
use Rattle.chi_issue_b.specs.declared.channels.Channel.{Channel}
use Rattle.chi_issue_b.specs.declared.channels.Channel.TheVariants as channels
use Rattle.chi_issue_b.specs.Channels.{channel_named}
use Rattle.chi_issue_b.specs.Opcodes.{opcode_named}
use Rattle.chi_log.specs.declared.kinds.Kind.{Kind}
use Rattle.chi_log.specs.declared.kinds.Kind.TheVariants as kinds
use Rattle.chi_log.specs.declared.kinds.OwnOpcode.{OwnOpcode}
use Rattle.chi_log.specs.declared.kinds.Port.{Port}
use Rattle.chi_log.specs.declared.kinds.Port.TheVariants as ports
use Rattle.chi_log.specs.declared.options.Opcodes.{Opcodes}
use Rattle.chi_log.specs.declared.options.Opcodes.TheVariants as options

infixl 10 ◌>>=◌
abbrev pub ◌>>=◌ : {A B : Type 0} → Option A → (A → Option B) → Option B
None >>= next = None
(Some x) >>= next = next x

abbrev pub or_else : {A : Type 0} → Option A → Option A → Option A
or_else None other = other
or_else (Some x) other = Some x

-- where it was seen: on a channel, or at a processor
abbrev pub port_of : List ℕ → Option Port
port_of word = if bytes_eq word (codes "CPU") then Some ports.Processor else option_map ports.Link (channel_named word)

-- letters and digits, a capital first: what may be the name of an opcode of a design's own
abbrev pub is_between : ℕ → ℕ → ℕ → Bool
is_between low high byte = nat_le low byte && nat_le byte high

abbrev pub is_name_byte : ℕ → Bool
is_name_byte byte = (is_between 65 90 byte || is_between 97 122 byte) || is_between 48 57 byte

abbrev pub is_name : List ℕ → Bool
is_name [] = false
is_name (first ∷ rest) = is_between 65 90 first && list_all is_name_byte (first ∷ rest)

-- an answer to a snoop, as its name begins with Snp
abbrev pub begins_snp : List ℕ → Bool
begins_snp (a ∷ b ∷ c ∷ rest) = a == 83 && (b == 110 && c == 112)
begins_snp word = false

abbrev pub is_answer : Channel → List ℕ → Bool
is_answer channels.Req word = false
is_answer channels.Snp word = false
is_answer channels.Rsp word = begins_snp word
is_answer channels.Dat word = begins_snp word

abbrev pub own_opcode : Channel → List ℕ → OwnOpcode
own_opcode channel word = record { channel = channel; is_answer = is_answer channel word }

-- where a trace may have such
abbrev pub own_in : Opcodes → Channel → List ℕ → Option Kind
own_in options.IssueB channel word = None
own_in options.Any channel word = if is_name word then Some (kinds.Own (own_opcode channel word)) else None

-- a load or a store
abbrev pub access_of : List ℕ → Option Kind
access_of word =
    if bytes_eq word (codes "Load") then Some kinds.Load else (if bytes_eq word (codes "Store") then Some kinds.Store else None)

abbrev pub flit_kind : Opcodes → Channel → List ℕ → Option Kind
flit_kind opcodes channel word = or_else (option_map kinds.Flit (opcode_named channel word)) (own_in opcodes channel word)

abbrev pub kind_on : Opcodes → List ℕ → Port → Option Kind
kind_on opcodes word ports.Processor = access_of word
kind_on opcodes word (ports.Link channel) = flit_kind opcodes channel word

abbrev pub kind_of : Opcodes → List ℕ → List ℕ → Option Kind
kind_of opcodes channel word = port_of channel >>= kind_on opcodes word
