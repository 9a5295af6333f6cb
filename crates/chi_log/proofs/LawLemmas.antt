-- No column is wrong of a line that is read.
use Rattle.std.proofs.Common.{◌≡◌, Bool, false, Option, Some, None, refl, ap, ◌∙◌}
use Rattle.std.specs.Prelude.{is_none}
use Rattle.std.specs.List.{find}
use Rattle.std.specs.Option.{unwrap_or}
use Rattle.chi_log.specs.declared.columns.LineColumn.{LineColumn}
use Rattle.chi_log.specs.declared.columns.LineColumn.TheVariants.{Channel, Source, Target, Txn, Opcode, Address, Resp, Dbid, AllowRetry, Pcrd}
use Rattle.chi_log.specs.declared.forms.Form.{Form}
use Rattle.chi_log.specs.declared.kinds.Kind.TheVariants.{Load}
use Rattle.chi_log.specs.declared.lines.TheConstants.{COLUMNS}
use Rattle.chi_log.specs.declared.options.Options.{Options}
use Rattle.chi_log.specs.declared.rows.Row.{Row}
use Rattle.chi_log.specs.Fields.{address_as, allow_as, credit_as, dbid_need, fields_in, id_as, pcrd_need, resp_as}
use Rattle.chi_log.specs.Forms.{form_of}
use Rattle.chi_log.specs.Kinds.{◌>>=◌, kind_of, port_of}
use Rattle.chi_log.specs.Lines.{is_credit_wrong, is_dbid_wrong, is_wrong, row_form, said}
use Rattle.chi_log.specs.Numbers.{id_of}
use Rattle.chi_log.specs.Seen.{Read, read_of}

bound : {A B : Type 0} (step : Option A) (next : A → Option B) (y : B) → (step >>= next) ≡ Some y → (x : A) × (step ≡ Some x) × (next x ≡ Some y)
bound None next y e = absurd (cc (e))
bound (Some x) next y e = (x, refl, e)

none_found : (p : LineColumn → Bool) → p Channel ≡ false → p Opcode ≡ false → p Source ≡ false → p Target ≡ false → p Txn ≡ false
    → p Address ≡ false → p Resp ≡ false → p Dbid ≡ false → p AllowRetry ≡ false → p Pcrd ≡ false → find p COLUMNS ≡ None
none_found p a b c d e f g h i j = rw (a, b, c, d, e, f, g, h, i, j) refl

pub none_wrong : (options : Options) (row : Row) (read : Read) → read_of options row ≡ Some read → find (is_wrong options row) COLUMNS ≡ None
unfolding read_of fields_in
none_wrong options row read e =
    let k = bound (kind_of options.opcodes row.channel row.opcode) _ read e in
    let p = bound (port_of row.channel) _ k.0 k.1 in
    let s = bound (id_of row.source) _ read k.2 in
    let f = bound (fields_in (form_of k.0) row) _ read s.2 in
    let t = bound (id_as (form_of k.0).target row.target) _ f.0 f.1 in
    let x = bound (id_as (form_of k.0).txn row.txn) _ f.0 t.2 in
    let a = bound (address_as (form_of k.0).address row.address) _ f.0 x.2 in
    let r = bound (resp_as (form_of k.0).resp row.resp) _ f.0 a.2 in
    let d = bound (id_as (dbid_need (form_of k.0).dbid r.0) row.dbid) _ f.0 r.2 in
    let w = bound (allow_as (form_of k.0).allow_retry row.allow_retry) _ f.0 d.2 in
    let c = bound (credit_as (pcrd_need (form_of k.0).pcrd w.0) row.pcrd) _ f.0 w.2 in
    let form : row_form options row ≡ form_of k.0 = ap (λ o. form_of (unwrap_or o Load)) k.1 in
    none_found (is_wrong options row)
    (ap is_none p.1)
    (ap is_none k.1)
    (ap is_none s.1)
    (ap (λ (g : Form). is_none (id_as g.target row.target)) form ∙ ap is_none t.1)
    (ap (λ (g : Form). is_none (id_as g.txn row.txn)) form ∙ ap is_none x.1)
    (ap (λ (g : Form). is_none (address_as g.address row.address)) form ∙ ap is_none a.1)
    (ap (λ (g : Form). is_none (resp_as g.resp row.resp)) form ∙ ap is_none r.1)
    (ap (λ (g : Form). is_dbid_wrong g row) form
    ∙ (ap (λ o. is_none (id_as (dbid_need (form_of k.0).dbid (said o)) row.dbid)) r.1 ∙ ap is_none d.1))
    (ap (λ (g : Form). is_none (allow_as g.allow_retry row.allow_retry)) form ∙ ap is_none w.1)
    (ap (λ (g : Form). is_credit_wrong g row) form
    ∙ (ap (λ o. is_none (credit_as (pcrd_need (form_of k.0).pcrd (said o)) row.pcrd)) w.1 ∙ ap is_none c.1))
