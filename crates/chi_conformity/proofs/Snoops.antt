-- The snoops of a start, one after the other.
use Rattle.std.proofs.Common.{arith, ◌≡◌, ◌≢◌, ⊎_elim, ℕ, zero, suc, ◌+◌, ◌<◌, ◌≤◌, List, [], ◌∷◌, ◌++◌, append_assoc, refl, sym, ap, subst, ◌∙◌, length, get_or}
use Rattle.std.specs.Prelude.{Bool, true, false, ◌||◌, ◌==◌, not, map, Option, Some, None, option_map, if◌then◌else◌}
use Rattle.std.proofs.lemmas.Bool.{cases_lt}
use Rattle.std.proofs.lemmas.List.{get_or_past}
use Rattle.chi_flit.specs.declared.numbers.Agent.{Agent}
use Rattle.chi_flit.specs.declared.snoop.Snoop.{Snoop}
use Rattle.chi_flit.specs.declared.snoop.Snoop.TheVariants as snoops
use Rattle.chi_flit.specs.declared.message.CompData.{CompData}
use Rattle.chi_flit.specs.declared.message.Request.{Request}
use Rattle.chi_flit.specs.declared.message.RspDown.{RspDown}
use Rattle.chi_flit.specs.declared.message.RspDown.TheVariants.{RetryAck, CompUC, CompI, CompDBIDResp}
use Rattle.chi_flit.specs.Message.{no_words}
use Rattle.chi_wires.specs.declared.cells.Cells.{Cells}
use Rattle.chi_wires.specs.Cell.{no_flits}
use Rattle.chi_wires.specs.Flight.{snoop_flits}
use Rattle.chi_wires.specs.Flits.{with_snoops}
use Rattle.chi_rnline.specs.Rn.{no_line}
use Rattle.chi_rnline.specs.declared.pending.Pending.{Pending}
use Rattle.chi_rnline.specs.declared.pending.Phase.{Phase}
use Rattle.chi_rnline.specs.declared.pending.Phase.TheVariants.{Sent, Retried}
use Rattle.chi_homeline.specs.declared.serving.Serving.TheVariants.{Idle, Snooping}
use Rattle.chi_homeline.specs.declared.serving.Waiting.{Waiting}
use Rattle.chi_homeline.specs.Home.{taken_up}
use Rattle.chi_line.specs.LineState.{LineState, cells_of, rn_of}
use Rattle.chi_line.specs.Kept.{Kept, is_comp_unique, is_dbid, lane}
use Rattle.chi_line.proofs.Finds.{idle_awaits_nobody}
use Rattle.chi_line.proofs.Frame.{Puts, moves_home, nothing_waiting, puts_nothing}
use Rattle.chi_observer.specs.declared.kinds.Kind.{Kind as SeenKind}
use Rattle.chi_observer.specs.declared.kinds.Snoop.{Snoop as SeenSnoop}
use Rattle.chi_observer.specs.declared.flits.Due.{Due}
use Rattle.chi_observer.specs.declared.flits.Due.TheVariants.{Nothing, Completion, Resending, SureCompletion}
use Rattle.chi_observer.specs.declared.flits.Grant.{Grant}
use Rattle.chi_observer.specs.declared.flits.Grant.TheVariants.{Snp}
use Rattle.chi_observer.specs.Rules.{is_busy, is_due, lets_go, may_be_free}
use Rattle.chi_observer.specs.Observed.{Observed, takes_home}
use Rattle.chi_observer.specs.Lines.{Watched, is_taken, watch}
use Rattle.chi_conformity.specs.Seen.{down, flit_seen, kind_seen, snoop_seen}
use Rattle.chi_conformity.proofs.Held.{DueIs, DueWaiting, Stands, due_asked, is_evicting, is_given_up, says_none, writes_none}
use Rattle.chi_conformity.proofs.Flits.{Laws}
use Rattle.chi_conformity.proofs.Acted.{low_agent}
use Rattle.chi_conformity.proofs.Calm.{calm}
use Rattle.chi_conformity.proofs.Grants.{below_all, flit_given, goes_still, home_flit}
use Rattle.chi_conformity.proofs.Replies.{unacked}
use Rattle.chi_conformity.proofs.Taken.{Follows, down_taken}
use Rattle.chi_conformity.proofs.Told.{both, no}
use Rattle.chi_conformity.proofs.Unseen.{gone_under, or_more}
use Rattle.chi_conformity.proofs.Writes.{idle_lane}

-- NOTHING IS DUE OF A COMPLETION
waiting_quiet : (phase : Phase) (k : SeenKind) (d : Due) → DueWaiting phase k d → is_busy d ≡ false
waiting_quiet Retried k d due = ap is_busy due
waiting_quiet Sent k d due = ⊎_elim (λ (e : d ≡ Completion k). ap is_busy e) (λ (e : d ≡ SureCompletion k). ap is_busy e) due

free_quiet : (d : Due) → may_be_free d ≡ true → is_busy d ≡ false
free_quiet Nothing h = refl
free_quiet (Resending k) h = refl
free_quiet other h = no h

asked_quiet : (allow_retry : Bool) (k : SeenKind) (d : Due) → d ≡ due_asked allow_retry k → is_busy d ≡ false
asked_quiet true k d due = ap is_busy due
asked_quiet false k d due = ap is_busy due

due_quiet : (pending : Option Pending) (req : Option Request) (response : Option RspDown) (given : Option CompData) (d : Due) → DueIs pending req response given d
    → given ≡ None → is_comp_unique response ≡ false → is_dbid response ≡ false → is_busy d ≡ false
due_quiet None req response given d due g u b = free_quiet d due
due_quiet (Some p) (Some q) response given d due g u b = asked_quiet q.allow_retry (kind_seen p.kind) d due
due_quiet (Some p) None (Some (RetryAck ty)) given d due g u b = ap is_busy due
due_quiet (Some p) None (Some CompUC) given d due g u b = no (sym u)
due_quiet (Some p) None (Some CompI) given d due g u b = ap is_busy due
due_quiet (Some p) None (Some CompDBIDResp) given d due g u b = no (sym b)
due_quiet (Some p) None None (Some sent) d due g u b = absurd (cc (g))
due_quiet (Some p) None None None d due g u b = waiting_quiet p.phase (kind_seen p.kind) d due

past_due : (s : LineState) (d : Due) (m : ℕ) → rn_of s m ≡ no_line → DueIs (rn_of s m).pending (cells_of s m).req (cells_of s m).rsp_down (cells_of s m).dat_down d → is_busy d ≡ false
past_due s d m none due = free_quiet d (subst (λ v. DueIs v.pending (cells_of s m).req (cells_of s m).rsp_down (cells_of s m).dat_down d) none due)

abbrev pub IsQuiet : Observed → Type 0
IsQuiet o = (m : ℕ) → is_busy (o.public.due m) ≡ false

pub idle_quiet : (last : List ℕ) (s : LineState) (o : Observed) → s.home.serving ≡ Idle → Kept last s → Stands last s o → IsQuiet o
idle_quiet last s o idle kept stands m = ⊎_elim
    (λ (low : m < 8).
    let k = idle_lane last s m idle kept low in
    let plain = unacked Idle s.home.filter.unique s.home.filter.owner last m (lane s m) k refl in
    let still = calm Idle s.home.filter.unique s.home.filter.owner last m (lane s m) k (idle_awaits_nobody s.home.filter.unique s.home.filter.owner last m (lane s m) k) refl in
    due_quiet (rn_of s m).pending (cells_of s m).req (cells_of s m).rsp_down (cells_of s m).dat_down (o.public.due m) (stands.lanes m).due_is plain.given plain.response still.dbid)
    (λ (high : 8 ≤ m). past_due s (o.public.due m) m (get_or_past s.requesters m no_line (omega (arith, high, kept.requesters))) (stands.lanes m).due_is)
    (cases_lt m 8)

pub idle_unsnooped : (last : List ℕ) (s : LineState) (m : ℕ) → s.home.serving ≡ Idle → Kept last s → (cells_of s m).snp ≡ None
idle_unsnooped last s m idle kept = ⊎_elim
    (λ (low : m < 8). let k = idle_lane last s m idle kept low in
    (calm Idle s.home.filter.unique s.home.filter.owner last m (lane s m) k (idle_awaits_nobody s.home.filter.unique s.home.filter.owner last m (lane s m) k) refl).snp)
    (λ (high : 8 ≤ m). ap (λ (c : Cells). c.snp) (get_or_past s.flits m no_flits (omega (arith, high, kept.flits))))
    (cases_lt m 8)

-- ONE SNOOP
goes_nowhere : (snoop : Snoop) → lets_go (Some (snoop_seen snoop)) ≡ false
goes_nowhere snoops.SnpShared = refl
goes_nowhere snoops.SnpNotSharedDirty = refl
goes_nowhere snoops.SnpUnique = refl
goes_nowhere snoops.SnpCleanInvalid = refl

or_left : (a b : Bool) → a ≡ true → (a || b) ≡ true
or_left true b h = refl
or_left false b h = no h

snoop_sent : Laws → (w : Watched) (s : LineState) (flits : List Cells) (last : List ℕ) (agent : Agent) (snoop : Snoop) → agent.0 < 8
    → Puts no_flits s.flits flits agent.0 (record (cells_of s agent.0) { snp = Some snoop }) → Stands last s w.seen → (cells_of s agent.0).snp ≡ None → IsQuiet w.seen
    → (is_taken w (down agent (Snp (snoop_seen snoop)) no_words) ≡ true) × Stands last (record s { flits = flits }) (watch w (down agent (Snp (snoop_seen snoop)) no_words)).seen
snoop_sent laws w s flits last agent snoop low puts stands none quiet =
    let n : ℕ = agent.0 in
    let o : Observed = w.seen in
    let grant : Grant = Snp (snoop_seen snoop) in
    let b = stands.lanes n in
    let due : is_due grant (o.public.due n) (o.public.snooped n) ≡ true =
    subst (λ q. is_due grant (o.public.due n) q ≡ true) (sym (b.snooped_is ∙ ap (option_map snoop_seen) none)) refl in
    let takes : takes_home o (home_flit agent grant no_words) ≡ true = both _ _
    (both _ _ due (both _ _ (below_all 32 _ (λ m here. ap not (quiet m))) (or_left _ _ (ap not (goes_nowhere snoop)))))
    (goes_still o agent grant no_words stands.sound (low_agent n low) refl refl) in
    down_taken w (record s { flits = flits }) last agent grant no_words low (
      takes,
      refl,
      flit_given laws o s (record s { flits = flits }) last agent (record (lane s n) { flits = record (cells_of s n) { snp = Some snoop } }) grant no_words (low_agent n low)
          (moves_home s n s.home flits _ refl puts (puts_nothing false s.home.filter.named n) (puts_nothing false s.home.awaited n) (puts_nothing nothing_waiting s.home.waiting n))
          stands
          (record { state = refl; words = λ holds. refl; makes_none = refl; settles_none = refl; informed = λ e. no e })
          takes
          (record { due_is = b.due_is; snooped_is = refl; named = b.named; flagged = b.flagged; gone = b.gone; shared = b.shared })
          (λ m other. stands.lanes m),
    )

still_quiet : (w : Watched) (agent : Agent) (snoop : SeenSnoop) → IsQuiet w.seen → IsQuiet (watch w (down agent (Snp snoop) no_words)).seen
still_quiet w agent snoop quiet m = go (m == agent.0)
  where
    go : (b : Bool) → is_busy (if b then w.seen.public.due agent.0 else w.seen.public.due m) ≡ false
    go true = quiet agent.0
    go false = quiet m

-- A ROW
middle_at : (pre : List Cells) (c : Cells) (row : List Cells) → get_or (pre ++ c ∷ row) (length pre) no_flits ≡ c
middle_at [] c row = refl
middle_at (x ∷ pre) c row = middle_at pre c row

middle_others : (pre : List Cells) (c c' : Cells) (row : List Cells) (m : ℕ) → m ≢ length pre → get_or (pre ++ c' ∷ row) m no_flits ≡ get_or (pre ++ c ∷ row) m no_flits
middle_others [] c c' row zero other = absurd (other refl)
middle_others [] c c' row (suc m) other = refl
middle_others (x ∷ pre) c c' row zero other = refl
middle_others (x ∷ pre) c c' row (suc m) other = middle_others pre c c' row m (λ (e : m ≡ length pre). other (ap suc e))

middle_long : (pre : List Cells) (c c' : Cells) (row : List Cells) → length (pre ++ c' ∷ row) ≡ length (pre ++ c ∷ row)
middle_long [] c c' row = refl
middle_long (x ∷ pre) c c' row = ap suc (middle_long pre c c' row)

one_longer : (pre : List Cells) (c : Cells) → length (pre ++ c ∷ []) ≡ length pre + 1
one_longer [] c = refl
one_longer (x ∷ pre) c = ap suc (one_longer pre c) ∙ omega arith

middle_puts : (pre : List Cells) (c : Cells) (row : List Cells) (snoop : Snoop) (i : ℕ) → length pre ≡ i
    → Puts no_flits (pre ++ c ∷ row) (pre ++ record c { snp = Some snoop } ∷ row) i (record (get_or (pre ++ c ∷ row) i no_flits) { snp = Some snoop })
middle_puts pre c row snoop i is = record {
  at = subst (λ j. get_or (pre ++ record c { snp = Some snoop } ∷ row) j no_flits ≡ record (get_or (pre ++ c ∷ row) j no_flits) { snp = Some snoop }) is
      (middle_at pre (record c { snp = Some snoop }) row ∙ ap (λ (v : Cells). record v { snp = Some snoop }) (sym (middle_at pre c row)));
  others = λ m other. middle_others pre c (record c { snp = Some snoop }) row m (λ e. other (e ∙ is));
  long = middle_long pre c (record c { snp = Some snoop }) row;
}

snoops_follow : Laws → (marks : List Bool) (row pre : List Cells) (i : ℕ) (w : Watched) (s : LineState) (last : List ℕ) (snoop : Snoop) → length pre ≡ i → length marks ≡ length row → i + length row ≡ 8
    → ((m : ℕ) → (get_or row m no_flits).snp ≡ None) → Stands last (record s { flits = pre ++ row }) w.seen → IsQuiet w.seen
    → Follows last (record s { flits = pre ++ with_snoops marks snoop row }) w (map flit_seen (snoop_flits i marks snoop))
snoops_follow laws [] row pre i w s last snoop is same eight none stands quiet = stands
snoops_follow laws (marked ∷ marks) [] pre i w s last snoop is same eight none stands quiet = absurd (omega (arith, same))
snoops_follow laws (true ∷ marks) (c ∷ row) pre i w s last snoop is same eight none stands quiet =
    let agent : Agent = record { 0 = i } in
    let c' : Cells = record c { snp = Some snoop } in
    let low : i < 8 = omega (arith, eight) in
    let unsnooped : (get_or (pre ++ c ∷ row) i no_flits).snp ≡ None = ap (λ (v : Cells). v.snp) (subst (λ j. get_or (pre ++ c ∷ row) j no_flits ≡ c) is (middle_at pre c row)) ∙ none 0 in
    let sent = snoop_sent laws w (record s { flits = pre ++ c ∷ row }) (pre ++ c' ∷ row) last agent snoop low (middle_puts pre c row snoop i is) stands unsnooped quiet in
    let w' : Watched = watch w (down agent (Snp (snoop_seen snoop)) no_words) in (
      sent.0,
      subst (λ v. Follows last (record s { flits = v }) w' (map flit_seen (snoop_flits (i + 1) marks snoop))) (append_assoc pre (c' ∷ []) (with_snoops marks snoop row))
          (snoops_follow laws marks row (pre ++ c' ∷ []) (i + 1) w' s last snoop (one_longer pre c' ∙ ap (λ v. v + 1) is) (omega (arith, same)) (omega (arith, eight)) (λ m. none (suc m))
          (subst (λ v. Stands last (record s { flits = v }) w'.seen) (sym (append_assoc pre (c' ∷ []) row)) sent.1)
          (still_quiet w agent (snoop_seen snoop) quiet)),
    )
snoops_follow laws (false ∷ marks) (c ∷ row) pre i w s last snoop is same eight none stands quiet =
    subst (λ v. Follows last (record s { flits = v }) w (map flit_seen (snoop_flits (i + 1) marks snoop))) (append_assoc pre (c ∷ []) (with_snoops marks snoop row))
    (snoops_follow laws marks row (pre ++ c ∷ []) (i + 1) w s last snoop (one_longer pre c ∙ ap (λ v. v + 1) is) (omega (arith, same)) (omega (arith, eight)) (λ m. none (suc m))
    (subst (λ v. Stands last (record s { flits = v }) w.seen) (sym (append_assoc pre (c ∷ []) row)) stands)
    quiet)

-- A START
abbrev pub serving_line : LineState → Agent → Waiting → List Bool → LineState
serving_line s agent request marks = record s { home = record (taken_up s.home agent.0) { serving = Snooping agent request.kind request.slot; awaited = marks } }

serving_stands : (o : Observed) (s : LineState) (last : List ℕ) (agent : Agent) (request : Waiting) (marks : List Bool) → Stands last s o → Stands last (serving_line s agent request marks) o
serving_stands o s last agent request marks stands = record {
  home = stands.home;
  sound = stands.sound;
  meant = stands.meant;
  value = stands.value;
  thrown = stands.thrown;
  lanes = λ m. let b = stands.lanes m in record {
    due_is = b.due_is;
    snooped_is = b.snooped_is;
    named = b.named;
    flagged = b.flagged;
    gone = λ g. b.gone (or_more (is_evicting (rn_of s m).pending) (says_none (cells_of s m).rsp_up) (writes_none false (cells_of s m).dat_up) (writes_none (is_given_up s.home.serving) (cells_of s m).dat_up)
        (gone_under (is_given_up s.home.serving) (cells_of s m).dat_up) g);
    shared = b.shared;
  };
}

pub snooping_follows : Laws → (w : Watched) (s : LineState) (last : List ℕ) (agent : Agent) (request : Waiting) (snoop : Snoop) (marks : List Bool) → Kept last s → Stands last s w.seen
    → s.home.serving ≡ Idle → length marks ≡ 8
    → Follows last (record (serving_line s agent request marks) { flits = with_snoops marks snoop s.flits }) w (map flit_seen (snoop_flits 0 marks snoop))
snooping_follows laws w s last agent request snoop marks kept stands idle eight =
    snoops_follow laws marks s.flits [] 0 w (serving_line s agent request marks) last snoop refl (eight ∙ sym kept.flits) (omega (arith, kept.flits))
    (λ m. idle_unsnooped last s m idle kept) (serving_stands w.seen s last agent request marks stands) (idle_quiet last s w.seen idle kept stands)
