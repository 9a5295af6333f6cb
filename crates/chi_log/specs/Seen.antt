-- What a line is (docs/TRACES.md, "Traces").
use Rattle.std.specs.Prelude.{ℕ, Bool, true, false, List, Option, Some, None}
use Rattle.std.specs.Option.{option_map, unwrap_or}
use Rattle.chi_issue_b.specs.declared.beat.Beat.{Beat}
use Rattle.chi_issue_b.specs.declared.flit.Flit.{Flit}
use Rattle.chi_issue_b.specs.declared.opcodes.Opcode.{Opcode}
use Rattle.chi_issue_b.specs.declared.resp.Resp.{Resp}
use Rattle.chi_issue_b.specs.Flit.{plain_flit}
use Rattle.chi_issue_b.specs.Ids.{line_at}
use Rattle.chi_log.specs.declared.fields.Fields.{Fields}
use Rattle.chi_log.specs.declared.kinds.Kind.{Kind}
use Rattle.chi_log.specs.declared.kinds.Kind.TheVariants as kinds
use Rattle.chi_log.specs.declared.kinds.OwnOpcode.{OwnOpcode}
use Rattle.chi_log.specs.declared.options.Listing.{Listing}
use Rattle.chi_log.specs.declared.options.Options.{Options}
use Rattle.chi_log.specs.declared.rows.Row.{Row}
use Rattle.chi_log.specs.declared.seen.Access.{Access}
use Rattle.chi_log.specs.declared.seen.OwnFlit.{OwnFlit}
use Rattle.chi_log.specs.declared.seen.Seen.{Seen}
use Rattle.chi_log.specs.declared.seen.Seen.TheVariants as seen
use Rattle.chi_log.specs.Fields.{fields_in, payload_in, value_in}
use Rattle.chi_log.specs.Forms.{flit_form, form_of}
use Rattle.chi_log.specs.Kinds.{◌>>=◌, kind_of}
use Rattle.chi_log.specs.Numbers.{id_of}

-- a flit with what it has
abbrev pub with_line : Flit → Option ℕ → Flit
with_line flit None = flit
with_line flit (Some address) = record flit { line = line_at address; has_line = true }

abbrev pub with_dbid : Flit → Option ℕ → Flit
with_dbid flit None = flit
with_dbid flit (Some dbid) = record flit { dbid = record { 0 = dbid }; has_dbid = true }

abbrev pub with_resp : Flit → Option Resp → Flit
with_resp flit None = flit
with_resp flit (Some resp) = record flit { resp = Some resp }

abbrev pub with_credit : Flit → Option ℕ → Flit
with_credit flit None = flit
with_credit flit (Some credit) = record flit { credit = Some (record { 0 = credit }) }

abbrev pub bare_flit : Opcode → ℕ → Fields → Flit
bare_flit opcode source fields =
    plain_flit opcode (record { 0 = source }) (record { 0 = unwrap_or fields.target 0 }) (record { 0 = unwrap_or fields.txn 0 })

abbrev pub flit_with : Opcode → ℕ → Fields → Flit
flit_with opcode source fields =
    with_credit (with_resp (with_dbid (with_line (bare_flit opcode source fields) fields.address) fields.dbid) fields.resp) fields.credit

abbrev pub own_with : OwnOpcode → ℕ → Fields → OwnFlit
own_with opcode source fields = record {
  opcode = opcode;
  source = record { 0 = source };
  target = record { 0 = unwrap_or fields.target 0 };
  txn = record { 0 = unwrap_or fields.txn 0 };
  dbid = option_map (λ dbid. record { 0 = dbid }) fields.dbid;
  credit = option_map (λ credit. record { 0 = credit }) fields.credit;
  line = option_map line_at fields.address;
}

abbrev pub access_with : Bool → ℕ → ℕ → ℕ → Access
access_with is_store source address word =
    record { source = record { 0 = source }; is_store = is_store; address = address; word = word }

-- what a line is, with the words of data that it has
pub record Read : Type 0 where
  pub seen : Seen
  pub words : Option Beat

abbrev pub flit_read : Listing → Opcode → ℕ → Fields → List ℕ → Option Read
flit_read listing opcode source fields word =
    payload_in listing (flit_form opcode).payload fields.resp word
    >>= λ words. Some (record { seen = seen.Flit (flit_with opcode source fields); words = words })

abbrev pub own_read : OwnOpcode → ℕ → Fields → Read
own_read opcode source fields = record { seen = seen.Own (own_with opcode source fields); words = None }

abbrev pub access_read : Listing → Bool → ℕ → Option ℕ → List ℕ → Option Read
access_read listing is_store source address word =
    address >>= λ place. value_in listing word
    >>= λ value. Some (record { seen = seen.Access (access_with is_store source place value); words = None })

abbrev pub read_with : Listing → Kind → ℕ → Fields → List ℕ → Option Read
read_with listing (kinds.Flit opcode) source fields word = flit_read listing opcode source fields word
read_with listing (kinds.Own opcode) source fields word = Some (own_read opcode source fields)
read_with listing kinds.Load source fields word = access_read listing false source fields.address word
read_with listing kinds.Store source fields word = access_read listing true source fields.address word

-- where no column is wrong
unfoldable pub read_of : Options → Row → Option Read
read_of options row = do
  kind ← kind_of options.opcodes row.channel row.opcode
  source ← id_of row.source
  fields ← fields_in (form_of kind) row
  read_with options.listing kind source fields row.payload

-- what it is, and the words of data that are lent behind it: its own, where it has some
abbrev pub seen_of : Option Read → Option Seen
seen_of read = option_map (λ r. r.seen) read

abbrev pub beat_after : Option Read → Beat → Beat
beat_after None before = before
beat_after (Some read) before = unwrap_or read.words before
