-- Completions: CompData, and Comp_UC.
use Rattle.std.proofs.Common.{◌≡◌, ◌≢◌, ⊎_elim, ℕ, ◌<◌, List, refl, sym, ap, subst, ◌∙◌, length}
use Rattle.std.specs.Prelude.{Bool, true, false, ◌&&◌, ◌||◌, ◌==◌, not, Option, Some, None, option_map, slice_set, if◌then◌else◌}
use Rattle.std.proofs.lemmas.Bool.{eqb-true}
use Rattle.chi_flit.specs.declared.numbers.Agent.{Agent}
use Rattle.chi_flit.specs.declared.numbers.Slot.{Slot}
use Rattle.chi_flit.specs.declared.state.State.{State}
use Rattle.chi_flit.specs.declared.state.State.TheVariants.{I, SC, UC}
use Rattle.chi_flit.specs.declared.kind.Kind.{Kind}
use Rattle.chi_flit.specs.declared.kind.Kind.TheVariants.{CleanUnique}
use Rattle.chi_flit.specs.declared.message.CompData.{CompData as DataSent}
use Rattle.chi_flit.specs.declared.message.Request.{Request}
use Rattle.chi_flit.specs.declared.message.RspDown.{RspDown}
use Rattle.chi_flit.specs.declared.message.RspDown.TheVariants.{CompUC as Completed}
use Rattle.chi_flit.specs.Message.{no_words}
use Rattle.chi_filter.specs.Filter.{FilterState, is_named}
use Rattle.chi_wires.specs.Cell.{no_flits}
use Rattle.chi_rnline.specs.declared.pending.Pending.{Pending}
use Rattle.chi_homeline.specs.declared.serving.Serving.TheVariants.{AwaitingCompAck}
use Rattle.chi_homeline.specs.Home.{completed_filter}
use Rattle.chi_line.specs.LineState.{LineState, cells_of, rn_of}
use Rattle.chi_line.specs.Kept.{Lane, lane}
use Rattle.chi_line.proofs.Completes.{only_puts}
use Rattle.chi_line.proofs.Frame.{Puts, moves_home, nothing_waiting, puts_nothing, puts_set, within}
use Rattle.chi_observer.specs.declared.kinds.Kind.{Kind as SeenKind}
use Rattle.chi_observer.specs.declared.kinds.Snoop.{Snoop as SeenSnoop}
use Rattle.chi_observer.specs.declared.told.Told.{Told}
use Rattle.chi_observer.specs.declared.told.Told.TheVariants as tolds
use Rattle.chi_observer.specs.declared.flits.Due.{Due}
use Rattle.chi_observer.specs.declared.flits.Due.TheVariants.{Completion, Nothing, Resending, SureCompletion}
use Rattle.chi_observer.specs.declared.flits.Grant.TheVariants.{CompData, CompUC}
use Rattle.chi_observer.specs.declared.flits.Stores.{Stores}
use Rattle.chi_observer.specs.declared.flits.Stores.TheVariants.{Hidden}
use Rattle.chi_observer.specs.Copies.{Copy, Held, compatible, copy_of, is_dirty, is_unique, same}
use Rattle.chi_observer.specs.Copies.Copy.{Invalid, SharedClean, UniqueClean, UniqueEmpty, UniqueDirty, SharedDirty, Writing}
use Rattle.chi_observer.specs.Rules.{are_hidden, completes, due_granted, fills, form_passes, granted, is_due, is_free, is_upgraded, makes, needs_moment, upgraded}
use Rattle.chi_observer.specs.Tables.{Known, fresh, may, may_drift, most, reach, strongest, told_as, told_filled}
use Rattle.chi_observer.specs.Observed.{Observed, Unstored, fits, goes, takes_home}
use Rattle.chi_conformity.specs.Seen.{form_seen, kind_seen, snoop_seen}
use Rattle.chi_conformity.proofs.Held.{Beside, DueIs, Stands, copy_held, held, held_of, is_given_up, is_gone, is_shared, words_held, world_of}
use Rattle.chi_conformity.proofs.Flits.{Laws, or_in}
use Rattle.chi_conformity.proofs.Acted.{low_agent}
use Rattle.chi_conformity.proofs.Grants.{Asked, Given, Waits, asked, flit_given, goes_by, home_flit, same_words}
use Rattle.chi_conformity.proofs.Put.{differ}
use Rattle.chi_conformity.proofs.Starts.{none_unique}
use Rattle.chi_conformity.proofs.Unseen.{beside_under}
use Rattle.chi_conformity.proofs.Told.{both, no, not_dirty, right, drift_more}

-- what a completion finds: the agent's request is at the home, no snoop to it and no answer of its own is out; where it
-- leaves the line to the agent alone nobody else is named, and else nobody is flagged
pub record Completable (s : LineState) (n : ℕ) (kind : Kind) (unique : Bool) : Type 0 where
  pub waits : Waits (lane s n) kind
  pub unsnooped : (cells_of s n).snp ≡ None
  pub not_gone : is_gone false (rn_of s n).pending (cells_of s n).rsp_up (cells_of s n).dat_up ≡ false
  pub not_shared : is_shared (cells_of s n).rsp_up (cells_of s n).dat_up ≡ false
  pub alone : unique ≡ true → (m : ℕ) → m ≢ n → is_named s.home.filter m ≡ false
  pub clear : unique ≡ false → s.home.filter.unique ≡ false
  pub named : length s.home.filter.named ≡ 8
  pub flits : length s.flits ≡ 8

-- WHAT THE OTHERS ARE TOLD TO HAVE
untold : (up flag : Bool) (x : Lane) (d : Due) (q : Option SeenSnoop) (k : Known) → Beside up flag x d q k → x.named ≡ false → same (most k) Invalid ≡ true
untold up flag x d q k b none = go (same (most k) Invalid) refl
  where
    go : (v : Bool) → same (most k) Invalid ≡ v → same (most k) Invalid ≡ true
    go true e = e
    go false e = no (sym none ∙ b.named e)

unflagged : (up flag : Bool) (x : Lane) (d : Due) (q : Option SeenSnoop) (k : Known) → Beside up flag x d q k → flag ≡ false → is_unique (most k) ≡ false
unflagged up flag x d q k b none = go (is_unique (most k)) refl
  where
    go : (v : Bool) → is_unique (most k) ≡ v → is_unique (most k) ≡ false
    go true e = no (sym none ∙ b.flagged e)
    go false e = e

others_told : (unique : Bool) (s : LineState) (o : Observed) (last : List ℕ) (n : ℕ) (kind : Kind) → Stands last s o → Completable s n kind unique → unique ≡ true
    → (m : ℕ) → m ≢ n → same (most (o.told m)) Invalid ≡ true
others_told unique s o last n kind stands can is m other = untold _ _ (lane s m) _ _ (o.told m) (stands.lanes m) (can.alone is m other)

-- none of them is told to be unique
others_shared : (unique : Bool) (s : LineState) (o : Observed) (last : List ℕ) (n : ℕ) (kind : Kind) → Stands last s o → Completable s n kind unique
    → (m : ℕ) → m ≢ n → is_unique (most (o.told m)) ≡ false
others_shared true s o last n kind stands can m other = none_unique (most (o.told m)) (others_told true s o last n kind stands can refl m other)
others_shared false s o last n kind stands can m other = unflagged _ _ (lane s m) _ _ (o.told m) (stands.lanes m) (can.clear refl)

-- nobody writes a whole line
or_left : (a b : Bool) → a ≡ true → (a || b) ≡ true
or_left true b h = refl
or_left false b h = no h

drift_of : (z : Stores) (t : Told) (s : Copy) → may t s ≡ true → may_drift z t s ≡ true
drift_of z t s h = or_left (may t s) _ h

reach_drift : (z : Stores) (d : Due) (k : Known) (h : Held) → reach z d k h ≡ true → may_drift z k.told h.copy ≡ true
reach_drift z Nothing k h r = right (not h.cancelled) (may_drift z k.told h.copy) r
reach_drift z (Resending kind) k h r = go h.cancelled r
  where
    go : (b : Bool) → (if b then may_drift z k.told h.copy else (not k.cancelled && may k.told h.copy)) ≡ true → may_drift z k.told h.copy ≡ true
    go true r = r
    go false r = drift_of z k.told h.copy (right (not k.cancelled) (may k.told h.copy) r)
reach_drift z other k h r = drift_of z k.told h.copy (right (not h.cancelled) (may k.told h.copy) r)

writing_told : (t : Told) (s : Copy) → may_drift Hidden t s ≡ true → same (strongest t) Writing ≡ true → same s Writing ≡ true
writing_told tolds.Writing Writing h e = refl
writing_told tolds.Writing Invalid h e = no h
writing_told tolds.Writing SharedClean h e = no h
writing_told tolds.Writing UniqueClean h e = no h
writing_told tolds.Writing UniqueEmpty h e = no h
writing_told tolds.Writing UniqueDirty h e = no h
writing_told tolds.Writing SharedDirty h e = no h
writing_told other s h e = no e

copy_writes : (state : State) → same (copy_of state) Writing ≡ false
copy_writes I = refl
copy_writes SC = refl
copy_writes UC = refl
copy_writes other = refl

upgraded_writes : (state : State) → same (upgraded (copy_of state)) Writing ≡ false
upgraded_writes I = refl
upgraded_writes SC = refl
upgraded_writes UC = refl
upgraded_writes other = refl

held_writes : (state : State) (given : Option DataSent) (response : Option RspDown) → same (copy_held state given response) Writing ≡ false
held_writes state (Some sent) response = copy_writes (form_seen sent.unique)
held_writes state None (Some Completed) = upgraded_writes state
held_writes state None other = copy_writes state

not_writing : (s : LineState) (o : Observed) (last : List ℕ) → Stands last s o → (m : ℕ) → m < 32 → same (most (o.told m)) Writing ≡ false
not_writing s o last stands m low = go (same (most (o.told m)) Writing) refl
  where
    go : (v : Bool) → same (most (o.told m)) Writing ≡ v → same (most (o.told m)) Writing ≡ false
    go true e = no (sym (held_writes (rn_of s m).state (cells_of s m).dat_down (cells_of s m).rsp_down)
        ∙ writing_told (o.told m).told _ (drift_more o.public.stores (o.told m).told _ (reach_drift o.public.stores (o.public.due m) (o.told m) (held (lane s m) (o.public.due m)) (stands.meant.told m low))) e)
    go false e = e

-- what goes beside
beside_none : (a b : Copy) → same b Invalid ≡ true → compatible a b ≡ true
beside_none Invalid b h = refl
beside_none SharedClean Invalid h = refl
beside_none UniqueClean Invalid h = refl
beside_none UniqueEmpty Invalid h = refl
beside_none UniqueDirty Invalid h = refl
beside_none SharedDirty Invalid h = refl
beside_none Writing Invalid h = refl
beside_none a other h = no h

beside_shared : (b : Copy) → is_unique b ≡ false → same b Writing ≡ false → compatible SharedClean b ≡ true
beside_shared Invalid u w = refl
beside_shared SharedClean u w = refl
beside_shared SharedDirty u w = refl
beside_shared Writing u w = no (sym w)
beside_shared other u w = no (sym u)

-- THE COPY OF ITS AGENT
asked_may : (z : Stores) (k : SeenKind) (d : Due) (t : Known) (h : Held) → Asked k d → reach z d t h ≡ true → may t.told h.copy ≡ true
asked_may z k d t h is r = ⊎_elim
    (λ (e : d ≡ Completion k). right _ _ (subst (λ v. reach z v t h ≡ true) e r))
    (λ (e : d ≡ SureCompletion k). right _ _ (subst (λ v. reach z v t h ≡ true) e r))
    is

asked_free : (k : SeenKind) (d : Due) (h : Held) → Asked k d → is_free d h ≡ false
asked_free k d h is = ⊎_elim
    (λ (e : d ≡ Completion k). ap (λ v. is_free v h) e)
    (λ (e : d ≡ SureCompletion k). ap (λ v. is_free v h) e)
    is

none_held : (state : State) (pending : Option Pending) (given : Option DataSent) (response : Option RspDown) (d : Due) → state ≡ I → given ≡ None → response ≡ None
    → (held_of state pending given response d).copy ≡ Invalid
none_held state pending given response d is_s is_g is_r = rw (is_s, is_g, is_r) refl

not_dirty_is : (b : Bool) → not b ≡ true → b ≡ false
not_dirty_is true h = no h
not_dirty_is false h = refl

-- nothing dirty is told of an agent that reads
clean_told : (s : LineState) (o : Observed) (last : List ℕ) (n : ℕ) (kind : Kind) → n < 32 → Stands last s o → Waits (lane s n) kind → (rn_of s n).state ≡ I
    → is_dirty (strongest (o.told n).told) ≡ false
clean_told s o last n kind low stands w none = not_dirty_is _ (not_dirty (o.told n).told
    (subst (λ v. may (o.told n).told v ≡ true) (none_held (rn_of s n).state (rn_of s n).pending (cells_of s n).dat_down (cells_of s n).rsp_down (o.public.due n) none w.given w.response)
    (asked_may o.public.stores (kind_seen kind) (o.public.due n) (o.told n) (held (lane s n) (o.public.due n)) (asked (lane s n) kind (o.public.due n) w (stands.lanes n).due_is) (stands.meant.told n low))))

-- THE VALUE
same_dirty : (a : Copy) → same a UniqueDirty ≡ true → (is_unique a ≡ true) × (is_dirty a ≡ true)
same_dirty UniqueDirty h = (refl, refl)
same_dirty other h = no h

-- where no other is told to be unique, and the agent not to be dirty, the value is the home's
value_current : (s : LineState) (o : Observed) (last : List ℕ) (n : ℕ) → Stands last s o → is_dirty (strongest (o.told n).told) ≡ false
    → ((m : ℕ) → m ≢ n → is_unique (most (o.told m)) ≡ false) → o.current ≡ true
value_current s o last n stands clean shared = go o.current refl
  where
    owner : (m : ℕ) (b : Bool) → (m == n) ≡ b → same (most (o.told m)) UniqueDirty ≡ true → ⊥
    owner m true e h = no (sym clean ∙ subst (λ j. is_dirty (most (o.told j)) ≡ true) (eqb-true m n e) (same_dirty (most (o.told m)) h).1)
    owner m false e h = no (sym (shared m (differ m n e)) ∙ (same_dirty (most (o.told m)) h).0)

    go : (b : Bool) → o.current ≡ b → o.current ≡ true
    go true e = e
    go false e = let found = stands.sound.owner e stands.thrown in absurd (owner found.0 (found.0 == n) refl found.2)

and_second : (a b c : Bool) → b ≡ false → (a && (b && c)) ≡ false
and_second true true c h = no (sym h)
and_second true false c h = refl
and_second false b c h = refl

and_first : (a b : Bool) → a ≡ false → (a && b) ≡ false
and_first true b h = no (sym h)
and_first false b h = refl

and_none : (a b : Bool) → b ≡ false → (a && b) ≡ false
and_none true b h = h
and_none false b h = refl

unstored : (s : LineState) (o : Observed) (last home : List ℕ) (n : ℕ) → ((h : Held) → is_free (o.public.due n) h ≡ false)
    → ((m : ℕ) → m ≢ n → is_unique (most (o.told m)) ≡ false) → Unstored o (world_of o.public.due s last home)
unstored s o last home n busy shared m low = go (m == n) refl
  where
    go : (b : Bool) → (m == n) ≡ b → fresh o.public.stores (o.public.due m) (o.told m) (held (lane s m) (o.public.due m)) ≡ false
    go true e = subst (λ j. fresh o.public.stores (o.public.due j) (o.told j) (held (lane s j) (o.public.due j)) ≡ false) (sym (eqb-true m n e)) (and_none (are_hidden o.public.stores) _ (and_first _ _ (busy (held (lane s n) (o.public.due n)))))
    go false e = and_none (are_hidden o.public.stores) _ (and_second _ _ _ (shared m (differ m n e)))

fits_known : (home : Option (List ℕ)) (shown : List ℕ) → ((u : List ℕ) → home ≡ Some u → shown ≡ u) → fits home shown ≡ true
fits_known None shown is = refl
fits_known (Some u) shown is = subst (λ v. fits (Some u) v ≡ true) (sym (is u refl)) (same_words u)

-- COMPDATA
data_due : (k : SeenKind) (d : Due) (q : Option SeenSnoop) (form : State) → Asked k d → q ≡ None → completes k form ≡ true → is_due (CompData form) d q ≡ true
data_due k d q form is none fit = subst (λ v. is_due (CompData form) d v ≡ true) (sym none) (⊎_elim
    (λ (e : d ≡ Completion k). subst (λ v. is_due (CompData form) v None ≡ true) (sym e) fit)
    (λ (e : d ≡ SureCompletion k). subst (λ v. is_due (CompData form) v None ≡ true) (sym e) fit)
    is)

data_moment : (k : SeenKind) (d : Due) (form : State) → Asked k d → needs_moment (CompData form) (Completion k) ≡ false → needs_moment (CompData form) d ≡ false
data_moment k d form is none = ⊎_elim
    (λ (e : d ≡ Completion k). subst (λ v. needs_moment (CompData form) v ≡ false) (sym e) none)
    (λ (e : d ≡ SureCompletion k). subst (λ v. needs_moment (CompData form) v ≡ false) (sym e) none)
    is

abbrev pub data_line : Bool → LineState → Agent → Slot → List ℕ → LineState
data_line unique s agent slot sent = record s {
  home = record s.home { filter = completed_filter unique s.home.filter agent.0; serving = AwaitingCompAck agent slot };
  flits = slice_set s.flits agent.0 (record (cells_of s agent.0) { dat_down = Some (record { unique = unique; words = sent }) });
}

filled_is : (unique : Bool) (t : Told) → is_dirty (strongest t) ≡ false → told_filled (form_seen unique) t ≡ told_as (form_seen unique)
filled_is true t clean = rw clean refl
filled_is false t clean = rw clean refl

told_beside : (unique : Bool) (s : LineState) (o : Observed) (last : List ℕ) (n : ℕ) (kind : Kind) → Stands last s o → Completable s n kind unique
    → (m : ℕ) → m < 32 → m ≢ n → compatible (strongest (told_as (form_seen unique))) (most (o.told m)) ≡ true
told_beside true s o last n kind stands can m low other = beside_none UniqueClean (most (o.told m)) (others_told true s o last n kind stands can refl m other)
told_beside false s o last n kind stands can m low other =
    beside_shared (most (o.told m)) (others_shared false s o last n kind stands can m other) (not_writing s o last stands m low)

passes_none : (unique : Bool) → form_passes (form_seen unique) ≡ false
passes_none true = refl
passes_none false = refl

-- it is taken where it is due, its words are those that are known, the value is the home's, and it goes with what is told
data_takes : (o : Observed) (agent : Agent) (form : State) (shown : List ℕ) → is_due (CompData form) (o.public.due agent.0) (o.public.snooped agent.0) ≡ true → form_passes form ≡ false
    → fits o.home shown ≡ true → o.current ≡ true → goes o (home_flit agent (CompData form) shown) ≡ true → takes_home o (home_flit agent (CompData form) shown) ≡ true
data_takes o agent form shown due passes known current beside =
    both _ _ (both _ _ due (both _ _ (or_left _ _ (ap not passes)) refl)) (both _ _ (or_in _ _ known) (both _ _ (or_in _ _ current) beside))

data_held : (unique : Bool) (sent : List ℕ) (state : State) (pending : Option Pending) (given : Option DataSent) (response : Option RspDown) (p : Pending) (d : Due)
    → state ≡ I → pending ≡ Some p → given ≡ None → response ≡ None
    → held_of state pending (Some (record { unique = unique; words = sent })) response (due_granted (CompData (form_seen unique)) d)
    ≡ granted (CompData (form_seen unique)) d (held_of state pending given response d)
data_held true sent state pending given response p d is_s is_p is_g is_r = rw (is_s, is_p, is_g, is_r) refl
data_held false sent state pending given response p d is_s is_p is_g is_r = rw (is_s, is_p, is_g, is_r) refl

data_fills : (unique : Bool) (state : State) (pending : Option Pending) (given : Option DataSent) (response : Option RspDown) (d : Due) → state ≡ I → given ≡ None → response ≡ None
    → fills (CompData (form_seen unique)) (held_of state pending given response d) ≡ true
data_fills true state pending given response d is_s is_g is_r = rw (is_s, is_g, is_r) refl
data_fills false state pending given response d is_s is_g is_r = rw (is_s, is_g, is_r) refl

data_due_is : (unique : Bool) (sent : List ℕ) (pending : Option Pending) (req : Option Request) (response : Option RspDown) (p : Pending) (d : Due) → pending ≡ Some p → req ≡ None → response ≡ None
    → DueIs pending req response (Some (record { unique = unique; words = sent })) (due_granted (CompData (form_seen unique)) d)
data_due_is true sent pending req response p d is_p is_q is_r = rw (is_p, is_q, is_r) refl
data_due_is false sent pending req response p d is_p is_q is_r = rw (is_p, is_q, is_r) refl

data_flag : (unique : Bool) (f : FilterState) (n : ℕ) (t : Told) → is_dirty (strongest t) ≡ false → is_unique (strongest (told_filled (form_seen unique) t)) ≡ true
    → (completed_filter unique f n).unique ≡ true
data_flag true f n t clean one = refl
data_flag false f n t clean one = no (subst (λ v. is_unique (strongest v) ≡ true) (filled_is false t clean) one)

named_puts : (unique : Bool) (f : FilterState) (n : ℕ) → n < 8 → length f.named ≡ 8 → (unique ≡ true → (m : ℕ) → m ≢ n → is_named f m ≡ false)
    → Puts false f.named (completed_filter unique f n).named n true
named_puts true f n low eight alone = only_puts f.named n low eight (λ m below other. alone refl m other)
named_puts false f n low eight alone = puts_set false f.named n true (within n _ low eight)

pub data_given : Laws → (unique : Bool) (o : Observed) (s : LineState) (last : List ℕ) (agent : Agent) (kind : Kind) (slot : Slot) (sent : List ℕ) → agent.0 < 8 → Stands last s o
    → Completable s agent.0 kind unique → (rn_of s agent.0).state ≡ I → sent ≡ last
    → completes (kind_seen kind) (form_seen unique) ≡ true → needs_moment (CompData (form_seen unique)) (Completion (kind_seen kind)) ≡ false
    → Given o (data_line unique s agent slot sent) last agent (CompData (form_seen unique)) sent
data_given laws unique o s last agent kind slot sent low stands can none is_last fit untimed =
    let n : ℕ = agent.0 in
    let rn = rn_of s n in
    let c = cells_of s n in
    let f : FilterState = s.home.filter in
    let d : Due = o.public.due n in
    let t : Told = (o.told n).told in
    let b = stands.lanes n in
    let form : State = form_seen unique in
    let w = can.waits in
    let is_asked : Asked (kind_seen kind) d = asked (lane s n) kind d w b.due_is in
    let clean : is_dirty (strongest t) ≡ false = clean_told s o last n kind (low_agent n low) stands w none in
    let shared : (m : ℕ) → m ≢ n → is_unique (most (o.told m)) ≡ false = others_shared unique s o last n kind stands can in
    let current : o.current ≡ true = value_current s o last n stands clean shared in
    let home_last : last ≡ stands.home = stands.meant.current current (unstored s o last stands.home n (λ h. asked_free (kind_seen kind) d h is_asked) shared) in
    let known : fits o.home sent ≡ true = fits_known o.home sent (λ u e. is_last ∙ (home_last ∙ stands.meant.home u e)) in
    let beside : goes o (home_flit agent (CompData form) sent) ≡ true = goes_by o agent (CompData form) sent refl
    (λ m here other. subst (λ v. compatible (strongest v) (most (o.told m)) ≡ true) (sym (filled_is unique t clean)) (told_beside unique s o last n kind stands can m here other)) in
    let due : is_due (CompData form) d (o.public.snooped n) ≡ true = data_due (kind_seen kind) d (o.public.snooped n) form is_asked (b.snooped_is ∙ ap (option_map snoop_seen) can.unsnooped) fit in
    let takes : takes_home o (home_flit agent (CompData form) sent) ≡ true = data_takes o agent form sent due (passes_none unique) known current beside in (
      takes,
      data_moment (kind_seen kind) d form is_asked untimed,
      flit_given laws o s (data_line unique s agent slot sent) last agent (record (lane s n) { flits = record c { dat_down = Some (record { unique = unique; words = sent }) }; named = true }) (CompData form) sent (low_agent n low)
          (moves_home s n _ _ _ refl (puts_set no_flits s.flits n _ (within n _ low can.flits)) (named_puts unique f n low can.named can.alone) (puts_nothing false s.home.awaited n) (puts_nothing nothing_waiting s.home.waiting n))
          stands
          (record {
            state = data_held unique sent rn.state rn.pending c.dat_down c.rsp_down w.pending d none w.is w.given w.response;
            words = λ holds. sym (ap (λ v. if v then sent else words_held (lane s n)) (data_fills unique rn.state rn.pending c.dat_down c.rsp_down d none w.given w.response));
            makes_none = refl;
            settles_none = refl;
            informed = λ e. sym home_last ∙ sym is_last;
          })
          takes
          (record {
            due_is = data_due_is unique sent rn.pending c.req c.rsp_down w.pending d w.is w.req w.response;
            snooped_is = b.snooped_is;
            named = λ some. refl;
            flagged = data_flag unique f n t clean;
            gone = λ g. no (sym can.not_gone ∙ g);
            shared = λ g. no (sym can.not_shared ∙ g);
          })
          (λ m other. beside_under (is_given_up s.home.serving) f.unique (completed_filter unique f n).unique (lane s m) _ _ _ (λ one. no (sym (shared m other) ∙ one)) (stands.lanes m)),
    )

-- COMP_UC
record CleanAsked (d : Due) : Type 0 where
  due : is_due CompUC d None ≡ true
  makes_none : makes CompUC d ≡ false
  upgrades : is_upgraded d ≡ true
  moment : needs_moment CompUC d ≡ false

clean_asked : (d : Due) → Asked (kind_seen CleanUnique) d → CleanAsked d
clean_asked d is = ⊎_elim
    (λ (e : d ≡ Completion (kind_seen CleanUnique)). subst CleanAsked (sym e) (record { due = refl; makes_none = refl; upgrades = refl; moment = refl }))
    (λ (e : d ≡ SureCompletion (kind_seen CleanUnique)). subst CleanAsked (sym e) (record { due = refl; makes_none = refl; upgrades = refl; moment = refl }))
    is

abbrev pub clean_line : LineState → Agent → Slot → LineState
clean_line s agent slot = record s {
  home = record s.home { filter = completed_filter true s.home.filter agent.0; serving = AwaitingCompAck agent slot };
  flits = slice_set s.flits agent.0 (record (cells_of s agent.0) { rsp_down = Some Completed });
}

clean_held : (state : State) (pending : Option Pending) (given : Option DataSent) (response : Option RspDown) (p : Pending) (d : Due)
    → pending ≡ Some p → given ≡ None → response ≡ None → makes CompUC d ≡ false → is_upgraded d ≡ true
    → held_of state pending given (Some Completed) (due_granted CompUC d) ≡ granted CompUC d (held_of state pending given response d)
clean_held state pending given response p d is_p is_g is_r made up = rw (is_p, is_g, is_r, made, up) refl

clean_due_is : (pending : Option Pending) (req : Option Request) (given : Option DataSent) (p : Pending) (d : Due) → pending ≡ Some p → req ≡ None → makes CompUC d ≡ false → is_upgraded d ≡ true
    → DueIs pending req (Some Completed) given (due_granted CompUC d)
clean_due_is pending req given p d is_p is_q made up = rw (is_p, is_q, made, up) refl

pub clean_given : Laws → (o : Observed) (s : LineState) (last : List ℕ) (agent : Agent) (slot : Slot) → agent.0 < 8 → Stands last s o
    → Completable s agent.0 CleanUnique true → Given o (clean_line s agent slot) last agent CompUC no_words
clean_given laws o s last agent slot low stands can =
    let n : ℕ = agent.0 in
    let rn = rn_of s n in
    let c = cells_of s n in
    let f : FilterState = s.home.filter in
    let d : Due = o.public.due n in
    let b = stands.lanes n in
    let w = can.waits in
    let facts : CleanAsked d = clean_asked d (asked (lane s n) CleanUnique d w b.due_is) in
    let none : o.public.snooped n ≡ None = b.snooped_is ∙ ap (option_map snoop_seen) can.unsnooped in
    let beside : goes o (home_flit agent CompUC no_words) ≡ true = goes_by o agent CompUC no_words refl
    (λ m here other. beside_none _ (most (o.told m)) (others_told true s o last n CleanUnique stands can refl m other)) in
    let takes : takes_home o (home_flit agent CompUC no_words) ≡ true = both _ _ (both _ _ (subst (λ q. is_due CompUC d q ≡ true) (sym none) facts.due) refl) beside in (
      takes,
      facts.moment,
      flit_given laws o s (clean_line s agent slot) last agent (record (lane s n) { flits = record c { rsp_down = Some Completed }; named = true }) CompUC no_words (low_agent n low)
          (moves_home s n _ _ _ refl (puts_set no_flits s.flits n _ (within n _ low can.flits)) (named_puts true f n low can.named can.alone) (puts_nothing false s.home.awaited n) (puts_nothing nothing_waiting s.home.waiting n))
          stands
          (record {
            state = clean_held rn.state rn.pending c.dat_down c.rsp_down w.pending d w.is w.given w.response facts.makes_none facts.upgrades;
            words = λ holds. refl;
            makes_none = facts.makes_none;
            settles_none = refl;
            informed = λ e. no e;
          })
          takes
          (record {
            due_is = clean_due_is rn.pending c.req c.dat_down w.pending d w.is w.req facts.makes_none facts.upgrades;
            snooped_is = b.snooped_is;
            named = λ some. refl;
            flagged = λ one. refl;
            gone = λ g. no (sym can.not_gone ∙ g);
            shared = λ g. no (sym can.not_shared ∙ g);
          })
          (λ m other. beside_under (is_given_up s.home.serving) f.unique true (lane s m) _ _ _ (λ one. refl) (stands.lanes m)),
    )
