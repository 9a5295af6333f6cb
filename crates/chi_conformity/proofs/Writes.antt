-- The start of a copy-back: CompDBIDResp.
use Rattle.std.proofs.Common.{arith, ◌≡◌, ⊎_elim, ℕ, ◌<◌, ◌≤◌, List, refl, sym, ap, subst, ◌∙◌}
use Rattle.std.specs.Prelude.{Bool, true, false, Option, Some, None, option_map, slice_set}
use Rattle.std.proofs.lemmas.Bool.{cases_lt}
use Rattle.std.proofs.lemmas.List.{get_or_past}
use Rattle.chi_flit.specs.declared.numbers.Agent.{Agent}
use Rattle.chi_flit.specs.declared.state.State.{State}
use Rattle.chi_flit.specs.declared.kind.Kind.{Kind}
use Rattle.chi_flit.specs.declared.kind.Kind.TheVariants.{WriteBackFull, WriteCleanFull, WriteEvictFull}
use Rattle.chi_flit.specs.declared.message.CompData.{CompData}
use Rattle.chi_flit.specs.declared.message.Request.{Request}
use Rattle.chi_flit.specs.declared.message.RspDown.{RspDown}
use Rattle.chi_flit.specs.declared.message.RspDown.TheVariants.{CompDBIDResp as WriteAsked}
use Rattle.chi_flit.specs.declared.message.DatUp.{DatUp}
use Rattle.chi_flit.specs.declared.message.DatUp.TheVariants.{SnpRespDataIPD, CopyBackWrData}
use Rattle.chi_flit.specs.Kind.{gives_up, is_copy_back as is_copy_back_kind}
use Rattle.chi_flit.specs.Message.{no_words}
use Rattle.chi_filter.specs.Filter.{FilterState}
use Rattle.chi_wires.specs.declared.cells.Cells.{Cells}
use Rattle.chi_wires.specs.Cell.{no_flits}
use Rattle.chi_rnline.specs.declared.pending.Pending.{Pending}
use Rattle.chi_homeline.specs.declared.serving.Serving.TheVariants.{AwaitingWriteData, Idle}
use Rattle.chi_homeline.specs.declared.serving.Waiting.{Waiting}
use Rattle.chi_homeline.specs.Home.{taken_up, waiting_of}
use Rattle.chi_line.specs.LineState.{LineState, cells_of, rn_of}
use Rattle.chi_line.specs.Kept.{Kept, Lane, LaneKept, is_write_data, lane}
use Rattle.chi_line.proofs.Finds.{idle_awaits_nobody}
use Rattle.chi_line.proofs.Frame.{moves_home, nothing_waiting, puts_nothing, puts_set, within}
use Rattle.chi_observer.specs.declared.kinds.Kind.{Kind as SeenKind}
use Rattle.chi_observer.specs.declared.kinds.Snoop.{Snoop as SeenSnoop}
use Rattle.chi_observer.specs.declared.told.Told.{Told}
use Rattle.chi_observer.specs.declared.flits.Due.{Due}
use Rattle.chi_observer.specs.declared.flits.Due.TheVariants.{Completion, SureCompletion, WriteData}
use Rattle.chi_observer.specs.declared.flits.Grant.TheVariants.{CompDBIDResp}
use Rattle.chi_observer.specs.Rules.{due_granted, granted, is_due, is_written_whole}
use Rattle.chi_observer.specs.Tables.{Known, strongest, told_by}
use Rattle.chi_observer.specs.Observed.{Observed, takes_home}
use Rattle.chi_observer.specs.Copies.{is_unique, same}
use Rattle.chi_observer.specs.Copies.Copy.{Invalid}
use Rattle.chi_conformity.specs.Seen.{kind_seen, snoop_seen}
use Rattle.chi_conformity.proofs.Held.{Beside, DueIs, Stands, held_of, is_evicting, is_given_up, says_none, writes_none}
use Rattle.chi_conformity.proofs.Flits.{Laws}
use Rattle.chi_conformity.proofs.Acted.{low_agent}
use Rattle.chi_conformity.proofs.Grants.{Asked, Given, Waits, asked, by_waiting, flit_given, goes_still, home_flit}
use Rattle.chi_conformity.proofs.Unseen.{or_more}
use Rattle.chi_conformity.proofs.Calm.{calm}
use Rattle.chi_conformity.proofs.Told.{both, no}

-- AN IDLE LINE
pub idle_lane : (last : List ℕ) (s : LineState) (m : ℕ) → s.home.serving ≡ Idle → Kept last s → m < 8 → LaneKept Idle s.home.filter.unique s.home.filter.owner last m (lane s m)
idle_lane last s m idle kept low = subst (λ v. LaneKept v s.home.filter.unique s.home.filter.owner last m (lane s m)) idle (kept.lanes m low)

writes_nothing : (unique : Bool) (owner : Option Agent) (last : List ℕ) (m : ℕ) (x : Lane) → LaneKept Idle unique owner last m x → is_write_data x.flits.dat_up ≡ false
writes_nothing unique owner last m x k = search (arith, k.one_write)

-- no write data are on their way
idle_writes : (last : List ℕ) (s : LineState) (m : ℕ) → s.home.serving ≡ Idle → Kept last s → is_write_data (cells_of s m).dat_up ≡ false
idle_writes last s m idle kept = ⊎_elim
    (λ (low : m < 8). writes_nothing s.home.filter.unique s.home.filter.owner last m (lane s m) (idle_lane last s m idle kept low))
    (λ (high : 8 ≤ m). ap (λ (c : Cells). is_write_data c.dat_up) (get_or_past s.flits m no_flits (omega (arith, high, kept.flits))))
    (cases_lt m 8)

unwritten : (up up' : Bool) (sent : Option DatUp) → is_write_data sent ≡ false → writes_none up' sent ≡ true → writes_none up sent ≡ true
unwritten up up' (Some (SnpRespDataIPD words)) w h = refl
unwritten up up' (Some (CopyBackWrData form words)) w h = no (sym w)
unwritten up up' other w h = no h

-- where none are on their way it doesn't matter of what they are awaited
beside_asked : (up up' flag : Bool) (x : Lane) (d : Due) (q : Option SeenSnoop) (k : Known) → is_write_data x.flits.dat_up ≡ false → Beside up flag x d q k → Beside up' flag x d q k
beside_asked up up' flag x d q k none b = record {
  due_is = b.due_is;
  snooped_is = b.snooped_is;
  named = b.named;
  flagged = b.flagged;
  gone = λ g. b.gone (or_more (is_evicting x.rn.pending) (says_none x.flits.rsp_up) (writes_none up' x.flits.dat_up) (writes_none up x.flits.dat_up) (unwritten up up' x.flits.dat_up none) g);
  shared = b.shared;
}

record WriteFacts (k : SeenKind) (d : Due) : Type 0 where
  due : is_due CompDBIDResp d None ≡ true
  whole : is_written_whole d ≡ false
  next : due_granted CompDBIDResp d ≡ WriteData k

write_facts : (kind : Kind) (d : Due) → is_copy_back_kind kind ≡ true → Asked (kind_seen kind) d → WriteFacts (kind_seen kind) d
write_facts WriteBackFull d back is = ⊎_elim
    (λ (e : d ≡ Completion (kind_seen WriteBackFull)). subst (WriteFacts _) (sym e) (record { due = refl; whole = refl; next = refl }))
    (λ (e : d ≡ SureCompletion (kind_seen WriteBackFull)). subst (WriteFacts _) (sym e) (record { due = refl; whole = refl; next = refl })) is
write_facts WriteCleanFull d back is = ⊎_elim
    (λ (e : d ≡ Completion (kind_seen WriteCleanFull)). subst (WriteFacts _) (sym e) (record { due = refl; whole = refl; next = refl }))
    (λ (e : d ≡ SureCompletion (kind_seen WriteCleanFull)). subst (WriteFacts _) (sym e) (record { due = refl; whole = refl; next = refl })) is
write_facts WriteEvictFull d back is = ⊎_elim
    (λ (e : d ≡ Completion (kind_seen WriteEvictFull)). subst (WriteFacts _) (sym e) (record { due = refl; whole = refl; next = refl }))
    (λ (e : d ≡ SureCompletion (kind_seen WriteEvictFull)). subst (WriteFacts _) (sym e) (record { due = refl; whole = refl; next = refl })) is
write_facts other d back is = no back

write_held : (state : State) (pending : Option Pending) (given : Option CompData) (response : Option RspDown) (p : Pending) (d : Due)
    → pending ≡ Some p → given ≡ None → response ≡ None → is_written_whole d ≡ false
    → held_of state pending given (Some WriteAsked) (due_granted CompDBIDResp d) ≡ granted CompDBIDResp d (held_of state pending given response d)
write_held state pending given response p d is_p is_g is_r whole = rw (is_p, is_g, is_r, whole) refl

write_told : (d : Due) (t : Told) → is_written_whole d ≡ false → told_by CompDBIDResp d t ≡ t
write_told d t whole = rw whole refl

write_due : (pending : Option Pending) (req : Option Request) (given : Option CompData) (p : Pending) (kind : Kind) (d : Due) → pending ≡ Some p → req ≡ None → p.kind ≡ kind
    → due_granted CompDBIDResp d ≡ WriteData (kind_seen kind) → DueIs pending req (Some WriteAsked) given (due_granted CompDBIDResp d)
write_due pending req given p kind d is_p is_q is_k next = rw (is_p, is_q) (next ∙ ap (λ v. WriteData (kind_seen v)) (sym is_k))

abbrev pub asked_line : LineState → Agent → Waiting → LineState
asked_line s agent request = record s {
  home = record (taken_up s.home agent.0) { serving = AwaitingWriteData agent request.kind request.slot };
  flits = slice_set s.flits agent.0 (record (cells_of s agent.0) { rsp_down = Some WriteAsked });
}

pub write_started : Laws → (o : Observed) (s : LineState) (last : List ℕ) (agent : Agent) (request : Waiting) → agent.0 < 8 → Kept last s → Stands last s o
    → waiting_of s.home agent.0 ≡ Some request → s.home.serving ≡ Idle → is_copy_back_kind request.kind ≡ true
    → Given o (asked_line s agent request) last agent CompDBIDResp no_words
write_started laws o s last agent request low kept stands waits idle back =
    let n : ℕ = agent.0 in
    let rn = rn_of s n in
    let c = cells_of s n in
    let f : FilterState = s.home.filter in
    let d : Due = o.public.due n in
    let b = stands.lanes n in
    let t : Told = (o.told n).told in
    let up : Bool = gives_up request.kind in
    let k = idle_lane last s n idle kept low in
    let by : Waits (lane s n) request.kind = by_waiting Idle f.unique f.owner last n (lane s n) request k waits in
    let facts : WriteFacts (kind_seen request.kind) d = write_facts request.kind d back (asked (lane s n) request.kind d by b.due_is) in
    let told : told_by CompDBIDResp d t ≡ t = write_told d t facts.whole in
    let none : o.public.snooped n ≡ None = b.snooped_is ∙ ap (option_map snoop_seen) (calm Idle f.unique f.owner last n (lane s n) k (idle_awaits_nobody f.unique f.owner last n (lane s n) k) refl).snp in
    let takes : takes_home o (home_flit agent CompDBIDResp no_words) ≡ true = both _ _ (both _ _ (subst (λ q. is_due CompDBIDResp d q ≡ true) (sym none) facts.due) refl)
    (goes_still o agent CompDBIDResp no_words stands.sound (low_agent n low) refl told) in
    let own : Beside up f.unique (lane s n) d (o.public.snooped n) (o.told n) = beside_asked (is_given_up s.home.serving) up f.unique (lane s n) _ _ _ (idle_writes last s n idle kept) b in (
      takes,
      refl,
      flit_given laws o s (asked_line s agent request) last agent (record (lane s n) { flits = record c { rsp_down = Some WriteAsked }; waiting = None }) CompDBIDResp no_words (low_agent n low)
          (moves_home s n _ _ _ refl (puts_set no_flits s.flits n _ (within n _ low kept.flits)) (puts_nothing false f.named n) (puts_nothing false s.home.awaited n)
          (puts_set nothing_waiting s.home.waiting n None (within n _ low kept.waiting)))
          stands
          (record {
            state = write_held rn.state rn.pending c.dat_down c.rsp_down by.pending d by.is by.given by.response facts.whole;
            words = λ holds. refl;
            makes_none = refl;
            settles_none = refl;
            informed = λ e. no e;
          })
          takes
          (record {
            due_is = write_due rn.pending c.req c.dat_down by.pending request.kind d by.is by.req by.kind_is facts.next;
            snooped_is = b.snooped_is;
            named = λ some. own.named (subst (λ v. same (strongest v) Invalid ≡ false) told some);
            flagged = λ one. own.flagged (subst (λ v. is_unique (strongest v) ≡ true) told one);
            gone = λ g. subst (λ v. same (strongest v) Invalid ≡ true) (sym told) (own.gone g);
            shared = λ g. subst (λ v. is_unique (strongest v) ≡ false) (sym told) (own.shared g);
          })
          (λ m other. beside_asked (is_given_up s.home.serving) up f.unique (lane s m) _ _ _ (idle_writes last s m idle kept) (stands.lanes m)),
    )
