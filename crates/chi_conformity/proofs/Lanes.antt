-- What is told of an agent beside its lane, once a flit of its own was sent.
use Rattle.std.proofs.Common.{arith, rules, ◌≡◌, ◌⊎◌, ⊎_elim, inl, inr, ℕ, List, refl, sym, ap, ◌∙◌}
use Rattle.std.specs.Prelude.{Bool, true, false, ◌||◌, not, Option, Some, None, option_map}
use Rattle.chi_flit.specs.declared.numbers.Agent.{Agent}
use Rattle.chi_flit.specs.declared.state.State.{State}
use Rattle.chi_flit.specs.declared.state.State.TheVariants.{I, SC, UC, UD, SD}
use Rattle.chi_flit.specs.declared.kind.Kind.{Kind}
use Rattle.chi_flit.specs.declared.kind.Kind.TheVariants as kinds
use Rattle.chi_flit.specs.declared.message.RspUp.{RspUp}
use Rattle.chi_flit.specs.declared.message.RspUp.TheVariants.{SnpRespI, SnpRespSC}
use Rattle.chi_flit.specs.declared.message.DatUp.{DatUp}
use Rattle.chi_flit.specs.declared.message.DatUp.TheVariants.{SnpRespDataIPD, SnpRespDataSCPD, SnpRespDataSD, CopyBackWrData}
use Rattle.chi_flit.specs.Kind.{gives_up}
use Rattle.chi_flit.specs.State.{is_valid, is_unique as is_unique_state}
use Rattle.chi_wires.specs.declared.cells.Cells.{Cells}
use Rattle.chi_rnline.specs.Rn.{Rn}
use Rattle.chi_rnline.specs.declared.pending.Pending.{Pending}
use Rattle.chi_homeline.specs.declared.serving.Serving.{Serving}
use Rattle.chi_homeline.specs.declared.serving.Serving.TheVariants.{AwaitingWriteData}
use Rattle.chi_homeline.specs.Home.{served_kind}
use Rattle.chi_line.specs.Kept.{Lane, LaneKept, allows, kind_if}
use Rattle.chi_observer.specs.declared.kinds.Snoop.{Snoop as SeenSnoop}
use Rattle.chi_observer.specs.declared.flits.Due.{Due}
use Rattle.chi_observer.specs.Copies.{is_unique, same}
use Rattle.chi_observer.specs.Copies.Copy.{Invalid}
use Rattle.chi_observer.specs.Tables.{Known, most}
use Rattle.chi_conformity.specs.Seen.{snoop_seen}
use Rattle.chi_conformity.proofs.Held.{Beside, DueIs, is_evict, is_evicting, is_given_up, is_gone, is_none_form, is_shared, is_within, says_none, says_shared, writes_none, writes_shared}
use Rattle.chi_conformity.proofs.Told.{either, left, no, right}

only_none : (state : State) → allows kinds.Evict state ≡ true → state ≡ I
only_none I h = refl
only_none SC h = no h
only_none UC h = no h
only_none UD h = no h
only_none SD h = no h

evict_is : (kind : Kind) → is_evict kind ≡ true → kind ≡ kinds.Evict
evict_is kinds.Evict h = refl
evict_is kinds.ReadNotSharedDirty h = no h
evict_is kinds.ReadShared h = no h
evict_is kinds.ReadUnique h = no h
evict_is kinds.CleanUnique h = no h
evict_is kinds.WriteBackFull h = no h
evict_is kinds.WriteCleanFull h = no h
evict_is kinds.WriteEvictFull h = no h

form_is : (form : State) → is_none_form form ≡ true → form ≡ I
form_is I h = refl
form_is SC h = no h
form_is UC h = no h
form_is UD h = no h
form_is SD h = no h

pub evicting_kind : (pending : Option Pending) → is_evicting pending ≡ true → kind_if pending ≡ Some kinds.Evict
evicting_kind None h = no h
evicting_kind (Some p) h = ap (λ (kind : Kind). Some kind) (evict_is p.kind h)

given_up_kind : (serving : Serving) → is_given_up serving ≡ true → (kind : Kind) × (served_kind serving ≡ Some kind) × (gives_up kind ≡ true)
given_up_kind (AwaitingWriteData agent kind slot) h = (kind, refl, h)
given_up_kind other h = no h

-- there is no copy then
evicted : (serving : Serving) (unique : Bool) (owner : Option Agent) (last : List ℕ) (n : ℕ) (x : Lane) → LaneKept serving unique owner last n x
    → is_evicting x.rn.pending ≡ true → x.rn.state ≡ I
evicted serving unique owner last n x k h = only_none x.rn.state (k.kind_fits kinds.Evict (evicting_kind x.rn.pending h))

replied : (serving : Serving) (unique : Bool) (owner : Option Agent) (last : List ℕ) (n : ℕ) (x : Lane) (reply : Option RspUp) → LaneKept serving unique owner last n x
    → x.flits.rsp_up ≡ reply → says_none reply ≡ true → x.rn.state ≡ I
replied serving unique owner last n x (Some SnpRespI) k is h = k.answer_none is
replied serving unique owner last n x other k is h = no h

given_up : (serving : Serving) (unique : Bool) (owner : Option Agent) (last : List ℕ) (n : ℕ) (x : Lane) (form : State) (words : List ℕ) → LaneKept serving unique owner last n x
    → x.flits.dat_up ≡ Some (CopyBackWrData form words) → is_given_up serving ≡ true → x.rn.state ≡ I
given_up serving unique owner last n x form words k is h =
    let served = given_up_kind serving h in
    k.write_gone served.0 (search (rules, arith, is)) served.1 served.2

sent_none : (serving : Serving) (unique : Bool) (owner : Option Agent) (last : List ℕ) (n : ℕ) (x : Lane) (sent : Option DatUp) → LaneKept serving unique owner last n x
    → x.flits.dat_up ≡ sent → writes_none (is_given_up serving) sent ≡ true → x.rn.state ≡ I
sent_none serving unique owner last n x (Some (SnpRespDataIPD words)) k is h = (k.invalid_data words is).0
sent_none serving unique owner last n x (Some (CopyBackWrData form words)) k is h = ⊎_elim
    (λ (up : is_given_up serving ≡ true). given_up serving unique owner last n x form words k is up)
    (λ (none : is_none_form form ≡ true). k.write_none words (is ∙ ap (λ (v : State). Some (CopyBackWrData v words)) (form_is form none)))
    (either (is_given_up serving) (is_none_form form) h)
sent_none serving unique owner last n x other k is h = no h

pub gone_state : (serving : Serving) (unique : Bool) (owner : Option Agent) (last : List ℕ) (n : ℕ) (x : Lane) → LaneKept serving unique owner last n x
    → is_gone (is_given_up serving) x.rn.pending x.flits.rsp_up x.flits.dat_up ≡ true → x.rn.state ≡ I
gone_state serving unique owner last n x k h = ⊎_elim
    (evicted serving unique owner last n x k)
    (λ (rest : (says_none x.flits.rsp_up || writes_none (is_given_up serving) x.flits.dat_up) ≡ true). ⊎_elim
    (replied serving unique owner last n x x.flits.rsp_up k refl)
    (sent_none serving unique owner last n x x.flits.dat_up k refl)
    (either (says_none x.flits.rsp_up) _ rest))
    (either (is_evicting x.rn.pending) _ h)

-- nor is it unique
shared_reply : (serving : Serving) (unique : Bool) (owner : Option Agent) (last : List ℕ) (n : ℕ) (x : Lane) (reply : Option RspUp) → LaneKept serving unique owner last n x
    → x.flits.rsp_up ≡ reply → says_shared reply ≡ true → is_unique_state x.rn.state ≡ false
shared_reply serving unique owner last n x (Some SnpRespSC) k is h = k.answer_not_unique is
shared_reply serving unique owner last n x other k is h = no h

shared_sent : (serving : Serving) (unique : Bool) (owner : Option Agent) (last : List ℕ) (n : ℕ) (x : Lane) (sent : Option DatUp) → LaneKept serving unique owner last n x
    → x.flits.dat_up ≡ sent → writes_shared sent ≡ true → is_unique_state x.rn.state ≡ false
shared_sent serving unique owner last n x (Some (SnpRespDataSCPD words)) k is h = (k.clean_data words is).0
shared_sent serving unique owner last n x (Some (SnpRespDataSD words)) k is h = ap is_unique_state (k.dirty_data words is).0
shared_sent serving unique owner last n x other k is h = no h

pub shared_state : (serving : Serving) (unique : Bool) (owner : Option Agent) (last : List ℕ) (n : ℕ) (x : Lane) → LaneKept serving unique owner last n x
    → is_shared x.flits.rsp_up x.flits.dat_up ≡ true → is_unique_state x.rn.state ≡ false
shared_state serving unique owner last n x k h = ⊎_elim
    (shared_reply serving unique owner last n x x.flits.rsp_up k refl)
    (shared_sent serving unique owner last n x x.flits.dat_up k refl)
    (either (says_shared x.flits.rsp_up) _ h)

-- what a flit that stays within says
held_more : (none' none valid : Bool) → (none' || (not none || valid)) ≡ true → none' ≡ false → (none ≡ false) ⊎ (valid ≡ true)
held_more true none valid h e = no (sym e)
held_more false true valid h e = inr h
held_more false false valid h e = inl refl

held_none : (none' none valid : Bool) → (none' || (not none || valid)) ≡ true → none ≡ true → valid ≡ false → none' ≡ true
held_none true none valid h e v = refl
held_none false true true h e v = no (sym v)
held_none false true false h e v = h
held_none false false valid h e v = no e

alone_more : (one' one state : Bool) → (not one' || (one || state)) ≡ true → one' ≡ true → (one ≡ true) ⊎ (state ≡ true)
alone_more true true state h e = inl refl
alone_more true false state h e = inr h
alone_more false one state h e = no e

alone_not : (one' one state : Bool) → (not one' || (one || state)) ≡ true → one ≡ false → state ≡ false → one' ≡ false
alone_not false one state h e v = refl
alone_not true true state h e v = no (sym e)
alone_not true false true h e v = no (sym v)
alone_not true false false h e v = no h

-- a flit of the agent was sent: its requester and its cells are r and c, and what is told of it k'
pub beside_sent : (serving : Serving) (unique : Bool) (owner : Option Agent) (last : List ℕ) (n : ℕ) (x : Lane) (r : Rn) (c : Cells) (d d' : Due) (q q' : Option SeenSnoop) (k k' : Known)
    → LaneKept serving unique owner last n x → Beside (is_given_up serving) unique x d q k
    → is_within k.told k'.told x.rn.state ≡ true
    → DueIs r.pending c.req c.rsp_down c.dat_down d' → q' ≡ option_map snoop_seen c.snp
    → (is_gone (is_given_up serving) r.pending c.rsp_up c.dat_up ≡ true → (is_gone (is_given_up serving) x.rn.pending x.flits.rsp_up x.flits.dat_up ≡ true) ⊎ (same (most k') Invalid ≡ true))
    → (is_shared c.rsp_up c.dat_up ≡ true → (is_shared x.flits.rsp_up x.flits.dat_up ≡ true) ⊎ (is_unique (most k') ≡ false))
    → Beside (is_given_up serving) unique (record x { rn = r; flits = c }) d' q' k'
beside_sent serving unique owner last n x r c d d' q q' k k' kept b within due snoop gone shared =
    let none_within : (same (most k') Invalid || (not (same (most k) Invalid) || is_valid x.rn.state)) ≡ true = left _ _ within in
    let one_within : (not (is_unique (most k')) || (is_unique (most k) || is_unique_state x.rn.state)) ≡ true = right _ _ within in
    record {
      due_is = due;
      snooped_is = snoop;
      named = λ some. ⊎_elim b.named kept.holder_named (held_more (same (most k') Invalid) (same (most k) Invalid) (is_valid x.rn.state) none_within some);
      flagged = λ one. ⊎_elim b.flagged kept.unique_flagged (alone_more (is_unique (most k')) (is_unique (most k)) (is_unique_state x.rn.state) one_within one);
      gone = λ g. ⊎_elim
          (λ was. held_none (same (most k') Invalid) (same (most k) Invalid) (is_valid x.rn.state) none_within (b.gone was) (ap is_valid (gone_state serving unique owner last n x kept was)))
          (λ (h : same (most k') Invalid ≡ true). h)
          (gone g);
      shared = λ s. ⊎_elim
          (λ was. alone_not (is_unique (most k')) (is_unique (most k)) (is_unique_state x.rn.state) one_within (b.shared was) (shared_state serving unique owner last n x kept was))
          (λ (h : is_unique (most k') ≡ false). h)
          (shared s);
    }
