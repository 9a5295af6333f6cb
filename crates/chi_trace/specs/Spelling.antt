-- How traces are written (docs/TRACES.md, "Traces"): apart from how they are read.
use Rattle.std.specs.Prelude.{◌≡◌, ◌⊎◌, ◌==◌, ℕ, ◌+◌, ◌*◌, ◌≤◌, Bool, true, false, List, [], ◌∷◌, ◌++◌, Option, Some, None, codes, length, slice_range}
use Rattle.std.specs.List.{position}
use Rattle.chi_script.specs.Files.{lines_of}
use Rattle.chi_trace.specs.declared.fields.Address.{Address}
use Rattle.chi_trace.specs.declared.fields.Beat.{Beat}
use Rattle.chi_trace.specs.declared.fields.DbId.{DbId}
use Rattle.chi_trace.specs.declared.fields.NodeId.{NodeId}
use Rattle.chi_trace.specs.declared.fields.PcrdType.{PcrdType}
use Rattle.chi_trace.specs.declared.fields.Resp.{Resp}
use Rattle.chi_trace.specs.declared.fields.Resp.TheVariants.{I, UC}
use Rattle.chi_trace.specs.declared.fields.TxnId.{TxnId}
use Rattle.chi_trace.specs.declared.flits.Flit.{Flit}
use Rattle.chi_trace.specs.declared.flits.Flit.TheVariants as flits
use Rattle.chi_trace.specs.declared.flits.Seen.{Seen}
use Rattle.chi_trace.specs.declared.flits.Transaction.{Transaction}
use Rattle.chi_trace.specs.Columns.{Row}
use Rattle.chi_trace.specs.Fields.{beat_with, comma_parts, resp_text, zeros}
use Rattle.chi_trace.specs.Flits.{flit_opcode, is_comment_word}
use Rattle.chi_trace.specs.Numbers.{digit_of, unmarked}
use Rattle.chi_trace.specs.Opcodes.{opcode_channel, channel_word, opcode_text}
use Rattle.chi_trace.specs.Words.{blank_words}

-- digits that continue a number, in hexadecimal
abbrev pub Continue : ℕ → ℕ → List ℕ → Type 0
Continue n front [] = n ≡ front
Continue n front (d ∷ ds) = (v : ℕ) × (digit_of d ≡ Some v) × Continue n (front * 16 + v) ds

-- a number of one digit or more, within the most that there may be
abbrev pub IsPlain : ℕ → ℕ → List ℕ → Type 0
IsPlain most n [] = ⊥
IsPlain most n (d ∷ ds) = Continue n 0 (d ∷ ds) × (n ≤ most)

-- such a number, with 0x before it or without
abbrev pub IsHex : ℕ → ℕ → List ℕ → Type 0
IsHex most n word = IsPlain most n (unmarked word)

abbrev pub IsNode : NodeId → List ℕ → Type 0
IsNode node word = IsHex 0xffff node.0 word

abbrev pub IsTxn : TxnId → List ℕ → Type 0
IsTxn txn word = IsHex 0xffff txn.0 word

abbrev pub IsDbid : DbId → List ℕ → Type 0
IsDbid dbid word = IsHex 0xffff dbid.0 word

abbrev pub IsPcrd : PcrdType → List ℕ → Type 0
IsPcrd ty word = IsHex 0xf ty.0 word

abbrev pub IsAddress : Address → List ℕ → Type 0
IsAddress address word = IsHex 0xffff_ffff_ffff_ffff address.0 word

abbrev pub IsAllow : Bool → List ℕ → Type 0
IsAllow true word = word ≡ codes "1"
IsAllow false word = word ≡ codes "0"

abbrev pub IsResp : Resp → List ℕ → Type 0
IsResp resp word = word ≡ resp_text resp

-- a word of a line, or x where it is in another beat
abbrev pub IsWord : Option ℕ → List ℕ → Type 0
IsWord None text = text ≡ codes "x"
IsWord (Some n) text = IsHex 0xffff_ffff_ffff_ffff n text

abbrev pub AreWords : List (Option ℕ) → List (List ℕ) → Type 0
AreWords [] [] = Unit {0}
AreWords (w ∷ ws) (text ∷ texts) = IsWord w text × AreWords ws texts
AreWords ws texts = ⊥

-- the words of a list
abbrev pub AreListed : List (Option ℕ) → List ℕ → Type 0
AreListed words list = AreWords words (comma_parts list) × (length words ≡ 8)

-- sixteen digits each, the last first
abbrev pub sixteens : List ℕ → List (List ℕ)
sixteens digits =
    slice_range digits 112 128 ∷ slice_range digits 96 112 ∷ slice_range digits 80 96 ∷ slice_range digits 64 80 ∷
    slice_range digits 48 64 ∷ slice_range digits 32 48 ∷ slice_range digits 16 32 ∷ slice_range digits 0 16 ∷ []

abbrev pub AreNumbers : List (Option ℕ) → List (List ℕ) → Type 0
AreNumbers [] [] = Unit {0}
AreNumbers (Some n ∷ ws) (text ∷ texts) = IsPlain 0xffff_ffff_ffff_ffff n text × AreNumbers ws texts
AreNumbers ws texts = ⊥

-- the words of one number of 128 digits, with 0x before it or without
pub record IsVector (words : List (Option ℕ)) (word : List ℕ) : Type 0 where
  pub size : length (unmarked word) ≡ 128
  pub no_comma : None ≡ position (λ b. b == 44) word
  pub numbers : AreNumbers words (sixteens (unmarked word))

-- the beat with these words: a list, or one number
pub record IsBeat (beat : Beat) (word : List ℕ) : Type 0 where
  pub words : List (Option ℕ)
  pub is : beat ≡ beat_with words
  pub text : AreListed words word ⊎ IsVector words word

-- the data of a write back; of a copy that is lost it is 0, and may be left out
abbrev pub IsWritten : Resp → Beat → List ℕ → Type 0
IsWritten I beat word = ((word ≡ codes "-") × (beat ≡ zeros)) ⊎ IsBeat beat word
IsWritten resp beat word = IsBeat beat word

abbrev pub IsValue : ℕ → List ℕ → Type 0
IsValue n word = IsHex 0xffff_ffff_ffff_ffff n word

-- an address that may be left out
abbrev pub IsNamed : Option Address → List ℕ → Type 0
IsNamed None word = word ≡ codes "-"
IsNamed (Some address) word = IsAddress address word

-- AllowRetry, and without it the type of the credit that is spent
abbrev pub IsSpent : Option PcrdType → Row → Type 0
IsSpent None row = IsAllow true row.allow_retry
IsSpent (Some pcrd) row = IsAllow false row.allow_retry × IsPcrd pcrd row.pcrd

pub record IsTransaction (transaction : Transaction) (row : Row) : Type 0 where
  pub target : IsNode transaction.target row.target
  pub txn : IsTxn transaction.txn row.txn
  pub address : IsNamed transaction.address row.address

abbrev pub is_unique : Resp → Bool
is_unique UC = true
is_unique other = false

-- the columns of each flit behind its opcode and its source; a Comp with RESP UC is one that a CompAck follows
abbrev pub HasColumns : Flit → Row → Type 0
HasColumns (flits.Request kind spends target txn address) row = IsNode target row.target × IsTxn txn row.txn × IsAddress address row.address × IsSpent spends row
HasColumns (flits.PCrdReturn pcrd target) row = IsNode target row.target × IsPcrd pcrd row.pcrd
HasColumns (flits.Snoop snoop target txn address) row = IsNode target row.target × IsTxn txn row.txn × IsAddress address row.address
HasColumns (flits.RetryAck pcrd transaction) row = IsTransaction transaction row × IsPcrd pcrd row.pcrd
HasColumns (flits.CompUC dbid transaction) row = IsTransaction transaction row × IsResp UC row.resp × IsDbid dbid row.dbid
HasColumns (flits.Comp resp transaction) row = IsTransaction transaction row × IsResp resp row.resp × (is_unique resp ≡ false)
HasColumns (flits.CompDBIDResp dbid transaction) row = IsTransaction transaction row × IsDbid dbid row.dbid
HasColumns (flits.PCrdGrant pcrd target) row = IsNode target row.target × IsPcrd pcrd row.pcrd
HasColumns (flits.SnpResp resp transaction) row = IsTransaction transaction row × IsResp resp row.resp
HasColumns (flits.CompAck transaction) row = IsTransaction transaction row
HasColumns (flits.CompData resp dbid transaction beat) row = IsTransaction transaction row × IsResp resp row.resp × IsDbid dbid row.dbid × IsBeat beat row.payload
HasColumns (flits.SnpRespData resp transaction beat) row = IsTransaction transaction row × IsResp resp row.resp × IsBeat beat row.payload
HasColumns (flits.CopyBackWrData resp transaction beat) row = IsTransaction transaction row × IsResp resp row.resp × IsWritten resp beat row.payload
HasColumns (flits.Load address value) row = IsAddress address row.address × IsValue value row.payload
HasColumns (flits.Store address value) row = IsAddress address row.address × IsValue value row.payload

-- the columns of line n, which is this flit; the columns that a flit hasn't may hold anything
pub record IsFlit (n : ℕ) (seen : Seen) (row : Row) : Type 0 where
  pub line : seen.line ≡ n
  pub channel : row.channel ≡ channel_word (opcode_channel (flit_opcode seen.flit))
  pub opcode : row.opcode ≡ opcode_text (flit_opcode seen.flit)
  pub source : IsNode seen.source row.source
  pub columns : HasColumns seen.flit row

-- the words of a row, with whatever words behind them
abbrev pub row_words : Row → List (List ℕ) → List (List ℕ)
row_words row more =
    row.channel ∷ row.source ∷ row.target ∷ row.txn ∷ row.opcode ∷ row.address ∷
    row.resp ∷ row.dbid ∷ row.allow_retry ∷ row.pcrd ∷ row.payload ∷ more

-- line n, which is this flit: its columns, and whatever words behind them
pub record IsFlitLine (n : ℕ) (seen : Seen) (line : List ℕ) : Type 0 where
  pub row : Row
  pub more : List (List ℕ)
  pub words : blank_words line ≡ row_words row more
  pub flit : IsFlit n seen row

-- a line without words, or one whose first word begins with #
abbrev pub IsCommentLine : List (List ℕ) → Type 0
IsCommentLine [] = Unit {0}
IsCommentLine (first ∷ rest) = is_comment_word first ≡ true

-- the lines from line n on are comments and these flits, in their order
abbrev pub AreFlits : ℕ → List Seen → List (List ℕ) → Type 0
AreFlits n flits [] = flits ≡ []
AreFlits n flits (line ∷ lines) =
    (IsCommentLine (blank_words line) × AreFlits (n + 1) flits lines)
    ⊎ ((seen : Seen) × (later : List Seen) × (flits ≡ seen ∷ later) × IsFlitLine n seen line × AreFlits (n + 1) later lines)

-- a file that is a trace of these flits: lines with a line end behind each, and no more bytes than a trace may
-- have
pub record IsTrace (flits : List Seen) (file : List ℕ) : Type 0 where
  pub size : length file ≤ 67108864
  pub lines : List (List ℕ)
  pub closed : lines_of file ≡ lines ++ [] ∷ []
  pub text : AreFlits 1 flits lines
