-- What the columns of a line hold (docs/TRACES.md, "Traces").
use Rattle.std.specs.Prelude.{ℕ, ◌&&◌, Bool, true, false, List, Option, Some, None, if◌then◌else◌, bytes_eq, codes}
use Rattle.std.specs.Option.{option_map}
use Rattle.chi_issue_b.specs.declared.beat.Beat.{Beat}
use Rattle.chi_issue_b.specs.declared.resp.Resp.{Resp}
use Rattle.chi_issue_b.specs.declared.resp.Resp.TheVariants.{I, UC}
use Rattle.chi_issue_b.specs.Resp.{resp_named}
use Rattle.chi_log.specs.declared.fields.Fields.{Fields}
use Rattle.chi_log.specs.declared.forms.Form.{Form}
use Rattle.chi_log.specs.declared.forms.Need.{Need}
use Rattle.chi_log.specs.declared.forms.Need.TheVariants.{Unread, Value, OrDash, OfUnique, OfResent, OfWritten}
use Rattle.chi_log.specs.declared.options.Listing.{Listing}
use Rattle.chi_log.specs.declared.options.Listing.TheVariants as listings
use Rattle.chi_log.specs.declared.rows.Row.{Row}
use Rattle.chi_log.specs.Beats.{beat_of, zeros}
use Rattle.chi_log.specs.Kinds.{◌>>=◌}
use Rattle.chi_log.specs.Numbers.{credit_of, id_of, word_of}

abbrev pub is_dash : List ℕ → Bool
is_dash word = bytes_eq word (codes "-")

-- whether a column says nothing: it isn't read, or may be left out, and is
abbrev pub is_left_out : Need → List ℕ → Bool
is_left_out Unread word = true
is_left_out OrDash word = is_dash word
is_left_out need word = false

-- what a column says whose word has this value; none where the word is wrong
abbrev pub said_as : {A : Type 0} → Need → List ℕ → Option A → Option (Option A)
said_as need word value = if is_left_out need word then Some None else option_map Some value

-- what it needs beside the columns before it
abbrev pub is_resp_unique : Option Resp → Bool
is_resp_unique (Some UC) = true
is_resp_unique other = false

abbrev pub is_resp_invalid : Option Resp → Bool
is_resp_invalid (Some I) = true
is_resp_invalid other = false

abbrev pub dbid_need : Need → Option Resp → Need
dbid_need OfUnique resp = if is_resp_unique resp then OrDash else Unread
dbid_need need resp = need

abbrev pub pcrd_need : Need → Option Bool → Need
pcrd_need OfResent (Some false) = Value
pcrd_need OfResent allow = Unread
pcrd_need need allow = need

-- the columns of numbers and of RESP
abbrev pub id_as : Need → List ℕ → Option (Option ℕ)
id_as need word = said_as need word (id_of word)

abbrev pub address_as : Need → List ℕ → Option (Option ℕ)
address_as need word = said_as need word (word_of word)

abbrev pub resp_as : Need → List ℕ → Option (Option Resp)
resp_as need word = said_as need word (resp_named word)

abbrev pub allow_of : List ℕ → Option Bool
allow_of word = if bytes_eq word (codes "1") then Some true else (if bytes_eq word (codes "0") then Some false else None)

abbrev pub allow_as : Need → List ℕ → Option (Option Bool)
allow_as need word = said_as need word (allow_of word)

abbrev pub credit_as : Need → List ℕ → Option (Option ℕ)
credit_as need word = said_as need word (credit_of word)

-- THE COLUMNS of a line that has them as its row of the table says, but DATA
unfoldable pub fields_in : Form → Row → Option Fields
fields_in form row = do
  target ← id_as form.target row.target
  txn ← id_as form.txn row.txn
  address ← address_as form.address row.address
  resp ← resp_as form.resp row.resp
  dbid ← id_as (dbid_need form.dbid resp) row.dbid
  allow ← allow_as form.allow_retry row.allow_retry
  credit ← credit_as (pcrd_need form.pcrd allow) row.pcrd
  Some (record { target = target; txn = txn; address = address; resp = resp; dbid = dbid; credit = credit })

-- DATA of a flit: a log lists them, or none
abbrev pub written_of : Option Resp → List ℕ → Option Beat
written_of resp word = if is_resp_invalid resp && is_dash word then Some zeros else beat_of word

abbrev pub listed_in : Need → Option Resp → List ℕ → Option Beat
listed_in OfWritten resp word = written_of resp word
listed_in need resp word = beat_of word

abbrev pub unlisted : {A : Type 0} → A → List ℕ → Option A
unlisted zero word = if is_dash word then Some zero else None

abbrev pub payload_by : Listing → Need → Option Resp → List ℕ → Option Beat
payload_by listings.Listed need resp word = listed_in need resp word
payload_by listings.None need resp word = unlisted zeros word

abbrev pub payload_in : Listing → Need → Option Resp → List ℕ → Option (Option Beat)
payload_in listing Unread resp word = Some None
payload_in listing need resp word = option_map Some (payload_by listing need resp word)

-- DATA of a load or a store
abbrev pub value_in : Listing → List ℕ → Option ℕ
value_in listings.Listed word = word_of word
value_in listings.None word = unlisted 0 word

-- the words of data that are lent behind such a column
abbrev pub lent_by : Option (Option Beat) → Beat → Beat
lent_by (Some (Some words)) before = words
lent_by other before = before
