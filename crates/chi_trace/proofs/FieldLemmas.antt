-- The fields of a flit are read as they are written, and only so.
use Rattle.std.proofs.Common.{◌≡◌, ℕ, Bool, true, false, cond, List, Option, Some, None, Result, Ok, refl, ap, subst, ◌∙◌, codes}
use Rattle.std.specs.Prelude.{ok_or}
use Rattle.std.proofs.lemmas.Slice.Eq.{bytes_eq-Decides}
use Rattle.chi_script.specs.Words.{is_text}
use Rattle.chi_script.proofs.NumberLemmas.{bound}
use Rattle.chi_trace.specs.declared.columns.Column.{Column}
use Rattle.chi_trace.specs.declared.columns.Column.TheVariants as columns
use Rattle.chi_trace.specs.declared.fields.Address.{Address}
use Rattle.chi_trace.specs.declared.fields.DbId.{DbId}
use Rattle.chi_trace.specs.declared.fields.NodeId.{NodeId}
use Rattle.chi_trace.specs.declared.fields.PcrdType.{PcrdType}
use Rattle.chi_trace.specs.declared.fields.TxnId.{TxnId}
use Rattle.chi_trace.specs.declared.fields.Resp.{Resp}
use Rattle.chi_trace.specs.declared.fields.Resp.TheVariants.{I, SC, UC, UD, SD, IPD, SCPD, UCPD, UDPD, SDPD}
use Rattle.chi_trace.specs.Columns.{Row}
use Rattle.chi_trace.specs.Fields.{address_of, allow_of, dbid_of, is_dash, node_of, pcrd_of, resp_of, resp_text, txn_of}
use Rattle.chi_trace.specs.Flits.{◌>>=◌, allow_in, named_in, spent_by}
use Rattle.chi_trace.specs.Numbers.{hex_of}
use Rattle.chi_trace.specs.Spelling.{IsAddress, IsAllow, IsDbid, IsHex, IsNamed, IsNode, IsPcrd, IsResp, IsSpent, IsTxn}
use Rattle.chi_trace.proofs.HexLemmas.{hex_again, hex_read}

pub text_is : (word text : List ℕ) → is_text word text ≡ true → word ≡ text
text_is word text e = (bytes_eq-Decides word text).0 e

pub is_same : (text : List ℕ) → is_text text text ≡ true
is_same text = (bytes_eq-Decides text text).1 refl

-- a line of a table: where the test holds this entry is taken, else a later one
pub pick : {A : Type 0} (P : A → Type 0) (b : Bool) (entry : A) (later : Option A) → (b ≡ true → P entry) → ((x : A) → later ≡ Some x → P x) → (x : A) → cond b (Some entry) later ≡ Some x → P x
pick P true entry later here there x e = let same : entry ≡ x = cc in subst P same (here refl)
pick P false entry later here there x e = there x e

-- the end of a table
pub none_left : {A : Type 0} (P : A → Type 0) (x : A) → None ≡ Some x → P x
none_left P x e = cc

-- numbers in newtypes
pub node_read : (word : List ℕ) (x : NodeId) → node_of word ≡ Some x → IsNode x word
node_read word x e = let one = bound (hex_of 0xffff word) (λ n. Some (record { 0 = n })) x e in subst (λ (y : NodeId). IsNode y word) (let last = one.2 in cc) (hex_read 0xffff one.0 word one.1)

pub txn_read : (word : List ℕ) (x : TxnId) → txn_of word ≡ Some x → IsTxn x word
txn_read word x e = let one = bound (hex_of 0xffff word) (λ n. Some (record { 0 = n })) x e in subst (λ (y : TxnId). IsTxn y word) (let last = one.2 in cc) (hex_read 0xffff one.0 word one.1)

pub dbid_read : (word : List ℕ) (x : DbId) → dbid_of word ≡ Some x → IsDbid x word
dbid_read word x e = let one = bound (hex_of 0xffff word) (λ n. Some (record { 0 = n })) x e in subst (λ (y : DbId). IsDbid y word) (let last = one.2 in cc) (hex_read 0xffff one.0 word one.1)

pub pcrd_read : (word : List ℕ) (x : PcrdType) → pcrd_of word ≡ Some x → IsPcrd x word
pcrd_read word x e = let one = bound (hex_of 0xf word) (λ n. Some (record { 0 = n })) x e in subst (λ (y : PcrdType). IsPcrd y word) (let last = one.2 in cc) (hex_read 0xf one.0 word one.1)

pub address_read : (word : List ℕ) (x : Address) → address_of word ≡ Some x → IsAddress x word
address_read word x e = let one = bound (hex_of 0xffff_ffff_ffff_ffff word) (λ n. Some (record { 0 = n })) x e in subst (λ (y : Address). IsAddress y word) (let last = one.2 in cc) (hex_read 0xffff_ffff_ffff_ffff one.0 word one.1)

pub node_again : (x : NodeId) (word : List ℕ) → IsNode x word → node_of word ≡ Some x
node_again x word is = rw (hex_again 0xffff x.0 word is) refl

pub txn_again : (x : TxnId) (word : List ℕ) → IsTxn x word → txn_of word ≡ Some x
txn_again x word is = rw (hex_again 0xffff x.0 word is) refl

pub dbid_again : (x : DbId) (word : List ℕ) → IsDbid x word → dbid_of word ≡ Some x
dbid_again x word is = rw (hex_again 0xffff x.0 word is) refl

pub pcrd_again : (x : PcrdType) (word : List ℕ) → IsPcrd x word → pcrd_of word ≡ Some x
pcrd_again x word is = rw (hex_again 0xf x.0 word is) refl

pub address_again : (x : Address) (word : List ℕ) → IsAddress x word → address_of word ≡ Some x
address_again x word is = rw (hex_again 0xffff_ffff_ffff_ffff x.0 word is) refl

pub allow_read : (word : List ℕ) (x : Bool) → allow_of word ≡ Some x → IsAllow x word
allow_read word x e =
    let P : Bool → Type 0 = λ b. IsAllow b word in
    pick P (is_text word (codes "1")) true _ (text_is word _) (
    pick P (is_text word (codes "0")) false None (text_is word _) (none_left P)) x e

pub allow_again : (x : Bool) (word : List ℕ) → IsAllow x word → allow_of word ≡ Some x
allow_again true word is = ap allow_of is
allow_again false word is = ap allow_of is

pub resp_read : (word : List ℕ) (x : Resp) → resp_of word ≡ Some x → IsResp x word
unfolding resp_of
resp_read word x e =
    let P : Resp → Type 0 = λ r. IsResp r word in
    pick P (is_text word (resp_text I)) I _ (text_is word _) (
    pick P (is_text word (resp_text SC)) SC _ (text_is word _) (
    pick P (is_text word (resp_text UC)) UC _ (text_is word _) (
    pick P (is_text word (resp_text UD)) UD _ (text_is word _) (
    pick P (is_text word (resp_text SD)) SD _ (text_is word _) (
    pick P (is_text word (resp_text IPD)) IPD _ (text_is word _) (
    pick P (is_text word (resp_text SCPD)) SCPD _ (text_is word _) (
    pick P (is_text word (resp_text UCPD)) UCPD _ (text_is word _) (
    pick P (is_text word (resp_text UDPD)) UDPD _ (text_is word _) (
    pick P (is_text word (resp_text SDPD)) SDPD None (text_is word _) (none_left P)))))))))) x e

resp_named : (x : Resp) → resp_of (resp_text x) ≡ Some x
unfolding resp_of
resp_named I = refl
resp_named SC = refl
resp_named UC = refl
resp_named UD = refl
resp_named SD = refl
resp_named IPD = refl
resp_named SCPD = refl
resp_named UCPD = refl
resp_named UDPD = refl
resp_named SDPD = refl

pub resp_again : (x : Resp) (word : List ℕ) → IsResp x word → resp_of word ≡ Some x
resp_again x word is = ap resp_of is ∙ resp_named x

-- a dash is no number
dash_no_hex : (most n : ℕ) (b : Bool) (word : List ℕ) → is_dash word ≡ b → IsHex most n word → b ≡ false
dash_no_hex most n false word at is = refl
dash_no_hex most n true word at is = absurd (no_dash most n (subst (λ (w : List ℕ). IsHex most n w) (text_is word (codes "-") at) is))
  where
    no_dash : (most n : ℕ) → IsHex most n (codes "-") → ⊥
    no_dash most n is = let digit = is.0.1 in cc

pub hex_no_dash : (most n : ℕ) (word : List ℕ) → IsHex most n word → is_dash word ≡ false
hex_no_dash most n word is = dash_no_hex most n (is_dash word) word refl is

-- an address that may be left out
abbrev named_or : Bool → List ℕ → Result (Option Address) Column
named_or b word = cond b (Ok None) (ok_or (address_of word) columns.Address >>= λ address. Ok (Some address))

named_case : (word : List ℕ) (address : Option Address) (b : Bool) → is_dash word ≡ b → named_or b word ≡ Ok address → IsNamed address word
named_case word address true at e = let same : None ≡ address = cc in subst (λ (a : Option Address). IsNamed a word) same (text_is word (codes "-") at)
named_case word address false at e = found (address_of word) refl e
  where
    found : (read : Option Address) → address_of word ≡ read → (ok_or read columns.Address >>= λ a. Ok (Some a)) ≡ Ok address → IsNamed address word
    found None is f = cc
    found (Some x) is f = let same : Some x ≡ address = cc in subst (λ (a : Option Address). IsNamed a word) same (address_read word x is)

pub named_read : (row : Row) (address : Option Address) → named_in row ≡ Ok address → IsNamed address row.address
named_read row address e = named_case row.address address (is_dash row.address) refl e

pub named_again : (address : Option Address) (row : Row) → IsNamed address row.address → named_in row ≡ Ok address
named_again None row is = let dash : is_dash row.address ≡ true = ap is_dash is ∙ is_same (codes "-") in rw dash refl
named_again (Some x) row is = rw (hex_no_dash 0xffff_ffff_ffff_ffff x.0 row.address is, address_again x row.address is) refl

-- a column that each flit has that has it
pub taken : {A : Type 0} (o : Option A) (column : Column) (x : A) → ok_or o column ≡ Ok x → o ≡ Some x
taken None column x e = cc
taken (Some y) column x e = let same : y ≡ x = cc in ap Some same

pub given : {A : Type 0} (o : Option A) (column : Column) (x : A) → o ≡ Some x → ok_or o column ≡ Ok x
given o column x e = ap (λ r. ok_or r column) e

-- AllowRetry, and the credit that is spent without it
pub spent_read : (allow : Bool) (row : Row) (spends : Option PcrdType) → allow_in row ≡ Ok allow → spent_by allow row ≡ Ok spends → IsSpent spends row
spent_read true row spends at e =
    let same : None ≡ spends = cc in
    subst (λ (s : Option PcrdType). IsSpent s row) same (allow_read row.allow_retry true (taken (allow_of row.allow_retry) columns.AllowRetry true at))
spent_read false row spends at e = found (pcrd_of row.pcrd) refl e
  where
    found : (read : Option PcrdType) → pcrd_of row.pcrd ≡ read → (ok_or read columns.Pcrd >>= λ p. Ok (Some p)) ≡ Ok spends → IsSpent spends row
    found None is f = cc
    found (Some x) is f =
        let same : Some x ≡ spends = cc in
        subst (λ (s : Option PcrdType). IsSpent s row) same (allow_read row.allow_retry false (taken (allow_of row.allow_retry) columns.AllowRetry false at), pcrd_read row.pcrd x is)

pub spent_again : {A : Type 0} (spends : Option PcrdType) (row : Row) (next : Option PcrdType → Result A Column) → IsSpent spends row → (allow_in row >>= λ allow. spent_by allow row >>= next) ≡ next spends
spent_again None row next is = rw (allow_again true row.allow_retry is) refl
spent_again (Some pcrd) row next is = rw (allow_again false row.allow_retry is.0, pcrd_again pcrd row.pcrd is.1) refl
