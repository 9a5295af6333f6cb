-- A line as a world of the observer's, and what is told of an agent beside what the line has of it.
use Rattle.std.proofs.Common.{◌≡◌, ◌⊎◌, ℕ, List}
use Rattle.std.specs.Prelude.{Bool, true, false, ◌&&◌, ◌||◌, not, Option, Some, None, is_none, option_map, if◌then◌else◌}
use Rattle.chi_flit.specs.declared.state.State.{State}
use Rattle.chi_flit.specs.declared.state.State.TheVariants.{I}
use Rattle.chi_flit.specs.declared.kind.Kind.{Kind}
use Rattle.chi_flit.specs.declared.kind.Kind.TheVariants.{Evict}
use Rattle.chi_flit.specs.declared.message.Request.{Request}
use Rattle.chi_flit.specs.declared.message.CompData.{CompData}
use Rattle.chi_flit.specs.declared.message.RspDown.{RspDown}
use Rattle.chi_flit.specs.declared.message.RspDown.TheVariants.{RetryAck, CompUC, CompI, CompDBIDResp}
use Rattle.chi_flit.specs.declared.message.RspUp.{RspUp}
use Rattle.chi_flit.specs.declared.message.RspUp.TheVariants.{SnpRespI, SnpRespSC}
use Rattle.chi_flit.specs.declared.message.DatUp.{DatUp}
use Rattle.chi_flit.specs.declared.message.DatUp.TheVariants.{SnpRespDataIPD, SnpRespDataSCPD, SnpRespDataSD, CopyBackWrData}
use Rattle.chi_flit.specs.Kind.{gives_up}
use Rattle.chi_flit.specs.State.{is_valid, is_unique as is_unique_state}
use Rattle.chi_rnline.specs.declared.pending.Pending.{Pending}
use Rattle.chi_rnline.specs.declared.pending.Phase.{Phase}
use Rattle.chi_rnline.specs.declared.pending.Phase.TheVariants.{Sent, Retried}
use Rattle.chi_homeline.specs.declared.serving.Serving.{Serving}
use Rattle.chi_homeline.specs.declared.serving.Serving.TheVariants.{AwaitingWriteData}
use Rattle.chi_line.specs.LineState.{LineState}
use Rattle.chi_line.specs.Kept.{Lane, lane}
use Rattle.chi_observer.specs.declared.kinds.Kind.{Kind as SeenKind}
use Rattle.chi_observer.specs.declared.kinds.Snoop.{Snoop as SeenSnoop}
use Rattle.chi_observer.specs.declared.told.Told.{Told}
use Rattle.chi_observer.specs.declared.flits.Due.{Due}
use Rattle.chi_observer.specs.declared.flits.Due.TheVariants.{Nothing, Completion, Resending, SureCompletion, WriteData, Acknowledgement}
use Rattle.chi_observer.specs.Copies.{Copy, Held, copy_of, is_unique, same}
use Rattle.chi_observer.specs.Copies.Copy.{Invalid}
use Rattle.chi_observer.specs.Rules.{is_resending, may_be_free, upgraded}
use Rattle.chi_observer.specs.Tables.{Known, most, strongest}
use Rattle.chi_observer.specs.Worlds.{World}
use Rattle.chi_observer.specs.Observed.{Observed, Sound, Meaning}
use Rattle.chi_conformity.specs.Seen.{kind_seen, snoop_seen, form_seen}

-- THE WORLD OF A LINE
-- a copy, as a completion that is on its way will leave it
abbrev pub copy_held : State → Option CompData → Option RspDown → Copy
copy_held state (Some given) response = copy_of (form_seen given.unique)
copy_held state None (Some CompUC) = upgraded (copy_of state)
copy_held state None other = copy_of state

-- a request that was retried is cancelled where nothing is pending any more
abbrev pub held_of : State → Option Pending → Option CompData → Option RspDown → Due → Held
held_of state pending given response d = record { copy = copy_held state given response; cancelled = is_none pending && is_resending d }

abbrev pub held : Lane → Due → Held
held x d = held_of x.rn.state x.rn.pending x.flits.dat_down x.flits.rsp_down d

abbrev pub words_by : List ℕ → Option CompData → List ℕ
words_by words None = words
words_by words (Some given) = given.words

abbrev pub words_held : Lane → List ℕ
words_held x = words_by x.rn.words x.flits.dat_down

abbrev pub world_of : (ℕ → Due) → LineState → List ℕ → List ℕ → World
world_of due s last home = record {
  state = λ n. held (lane s n) (due n);
  words = λ n. words_held (lane s n);
  last = last;
  home = home;
}

-- WHAT IS DUE
abbrev pub due_answered : RspDown → SeenKind → Due
due_answered (RetryAck ty) k = Resending k
due_answered CompUC k = Acknowledgement
due_answered CompI k = Nothing
due_answered CompDBIDResp k = WriteData k

abbrev pub due_asked : Bool → SeenKind → Due
due_asked allow_retry k = if allow_retry then Completion k else SureCompletion k

abbrev pub DueWaiting : Phase → SeenKind → Due → Type 0
DueWaiting Retried k d = d ≡ Resending k
DueWaiting Sent k d = (d ≡ Completion k) ⊎ (d ≡ SureCompletion k)

abbrev pub DueBy : Option Request → Option RspDown → Option CompData → Phase → SeenKind → Due → Type 0
DueBy (Some request) response given phase k d = d ≡ due_asked request.allow_retry k
DueBy None (Some response) given phase k d = d ≡ due_answered response k
DueBy None None (Some given) phase k d = d ≡ Acknowledgement
DueBy None None None phase k d = DueWaiting phase k d

abbrev pub DueIs : Option Pending → Option Request → Option RspDown → Option CompData → Due → Type 0
DueIs None request response given d = may_be_free d ≡ true
DueIs (Some p) request response given d = DueBy request response given p.phase (kind_seen p.kind) d

-- WHAT IS TOLD
-- write data of a request that gives the copy up is awaited
abbrev pub is_given_up : Serving → Bool
is_given_up (AwaitingWriteData agent kind slot) = gives_up kind
is_given_up other = false

abbrev pub is_evict : Kind → Bool
is_evict Evict = true
is_evict other = false

abbrev pub is_evicting : Option Pending → Bool
is_evicting None = false
is_evicting (Some p) = is_evict p.kind

abbrev pub says_none : Option RspUp → Bool
says_none (Some SnpRespI) = true
says_none other = false

abbrev pub is_none_form : State → Bool
is_none_form I = true
is_none_form other = false

abbrev pub writes_none : Bool → Option DatUp → Bool
writes_none up (Some (SnpRespDataIPD words)) = true
writes_none up (Some (CopyBackWrData form words)) = up || is_none_form form
writes_none up other = false

-- a flit of its own, or an Evict, has told that there is no copy
abbrev pub is_gone : Bool → Option Pending → Option RspUp → Option DatUp → Bool
is_gone up pending reply sent = is_evicting pending || (says_none reply || writes_none up sent)

abbrev pub says_shared : Option RspUp → Bool
says_shared (Some SnpRespSC) = true
says_shared other = false

abbrev pub writes_shared : Option DatUp → Bool
writes_shared (Some (SnpRespDataSCPD words)) = true
writes_shared (Some (SnpRespDataSD words)) = true
writes_shared other = false

-- or that it isn't unique
abbrev pub is_shared : Option RspUp → Option DatUp → Bool
is_shared reply sent = says_shared reply || writes_shared sent

-- what is told of an agent is above its copy (in Meaning), and the filter's view above what is told: who may have a copy
-- is named, and who may have it alone is flagged
pub record Beside (up unique : Bool) (x : Lane) (due : Due) (snooped : Option SeenSnoop) (told : Known) : Type 0 where
  pub due_is : DueIs x.rn.pending x.flits.req x.flits.rsp_down x.flits.dat_down due
  pub snooped_is : snooped ≡ option_map snoop_seen x.flits.snp
  pub named : same (most told) Invalid ≡ false → x.named ≡ true
  pub flagged : is_unique (most told) ≡ true → unique ≡ true
  pub gone : is_gone up x.rn.pending x.flits.rsp_up x.flits.dat_up ≡ true → same (most told) Invalid ≡ true
  pub shared : is_shared x.flits.rsp_up x.flits.dat_up ≡ true → is_unique (most told) ≡ false

-- the relation that every action keeps; last are the values last stored, which the home has where it is told to
pub record Stands (last : List ℕ) (s : LineState) (o : Observed) : Type 0 where
  pub home : List ℕ
  pub sound : Sound o
  pub meant : Meaning o (world_of o.public.due s last home)
  pub value : o.current ≡ true → last ≡ home
  pub thrown : o.public.thrown ≡ false
  pub lanes : (n : ℕ) → Beside (is_given_up s.home.serving) s.home.filter.unique (lane s n) (o.public.due n) (o.public.snooped n) (o.told n)

-- a flit that leaves of a copy in this state no more than it was told, or than it is
abbrev pub is_within : Told → Told → State → Bool
is_within t t' state = (same (strongest t') Invalid || (not (same (strongest t) Invalid) || is_valid state))
    && (not (is_unique (strongest t')) || (is_unique (strongest t) || is_unique_state state))
