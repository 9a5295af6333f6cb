-- An agent to whom no snoop is out: nothing of its own is on its way that answers one, and no write data.
use Rattle.std.proofs.Common.{arith, ◌≡◌, ℕ, ◌+◌, List, refl, sym, ap, ◌∙◌}
use Rattle.std.specs.Prelude.{Bool, true, false, ◌||◌, Option, Some, None, is_some}
use Rattle.chi_flit.specs.declared.numbers.Agent.{Agent}
use Rattle.chi_flit.specs.declared.message.RspUp.{RspUp}
use Rattle.chi_flit.specs.declared.message.RspUp.TheVariants.{SnpRespI, SnpRespSC}
use Rattle.chi_flit.specs.declared.message.DatUp.{DatUp}
use Rattle.chi_flit.specs.declared.message.DatUp.TheVariants.{CopyBackWrData}
use Rattle.chi_homeline.specs.declared.serving.Serving.{Serving}
use Rattle.chi_homeline.specs.Home.{writes_for}
use Rattle.chi_line.specs.Kept.{Lane, LaneKept, bit, is_answer, is_dbid, is_snoop_data, is_write_data}
use Rattle.chi_conformity.proofs.Held.{is_shared, says_none, says_shared, writes_none, writes_shared}
use Rattle.chi_conformity.proofs.Told.{no}

three_none : (a b c : Bool) → bit a + bit b + bit c ≡ 0 → (a ≡ false) × (b ≡ false) × (c ≡ false)
three_none false false false h = (refl, refl, refl)
three_none true b c h = absurd (omega (arith, h))
three_none false true c h = absurd (omega (arith, h))
three_none false false true h = absurd (omega (arith, h))

two_none : (a b : Bool) → bit a + bit b ≡ 0 → (a ≡ false) × (b ≡ false)
two_none false false h = (refl, refl)
two_none true b h = absurd (omega (arith, h))
two_none false true h = absurd (omega (arith, h))

none_there : {A : Type 0} (there : Option A) → is_some there ≡ false → there ≡ None
none_there None h = refl
none_there (Some a) h = no (sym h)

pub record Calm (x : Lane) : Type 0 where
  pub snp : x.flits.snp ≡ None
  pub reply : is_answer x.flits.rsp_up ≡ false
  pub sent : is_snoop_data x.flits.dat_up ≡ false
  pub dbid : is_dbid x.flits.rsp_down ≡ false
  pub write : is_write_data x.flits.dat_up ≡ false

pub calm : (serving : Serving) (unique : Bool) (owner : Option Agent) (last : List ℕ) (n : ℕ) (x : Lane) → LaneKept serving unique owner last n x
    → x.awaited ≡ false → writes_for serving n ≡ false → Calm x
calm serving unique owner last n x k unawaited unwritten =
    let answers = three_none (is_some x.flits.snp) (is_answer x.flits.rsp_up) (is_snoop_data x.flits.dat_up) (k.one_answer ∙ ap bit unawaited) in
    let writes = two_none (is_dbid x.flits.rsp_down) (is_write_data x.flits.dat_up) (k.one_write ∙ ap bit unwritten) in
    record { snp = none_there x.flits.snp answers.0; reply = answers.1; sent = answers.2; dbid = writes.0; write = writes.1 }

reply_calm : (reply : Option RspUp) → is_answer reply ≡ false → (says_none reply ≡ false) × (says_shared reply ≡ false)
reply_calm (Some SnpRespI) h = no (sym h)
reply_calm (Some SnpRespSC) h = no (sym h)
reply_calm other h = (refl, refl)

sent_calm : (sent : Option DatUp) → is_snoop_data sent ≡ false → is_write_data sent ≡ false → (writes_none false sent ≡ false) × (writes_shared sent ≡ false)
sent_calm None h w = (refl, refl)
sent_calm (Some (CopyBackWrData form words)) h w = no (sym w)
sent_calm (Some other) h w = no (sym h)

pub or_none : (a b : Bool) → a ≡ false → b ≡ false → (a || b) ≡ false
or_none true b h e = no (sym h)
or_none false b h e = e

-- it has told nothing of late
pub calm_none : (x : Lane) → Calm x → (says_none x.flits.rsp_up || writes_none false x.flits.dat_up) ≡ false
calm_none x c = or_none _ _ (reply_calm x.flits.rsp_up c.reply).0 (sent_calm x.flits.dat_up c.sent c.write).0

pub calm_shared : (x : Lane) → Calm x → is_shared x.flits.rsp_up x.flits.dat_up ≡ false
calm_shared x c = or_none _ _ (reply_calm x.flits.rsp_up c.reply).1 (sent_calm x.flits.dat_up c.sent c.write).1
