-- A flit of the home, to an agent whose lane is moved.
use Rattle.std.proofs.Common.{arith, rules, ◌≡◌, ◌≢◌, ◌⊎◌, ℕ, zero, suc, ◌<◌, List, [], ◌∷◌, refl, sym, subst, ◌∙◌}
use Rattle.std.specs.Prelude.{Bool, true, false, ◌&&◌, ◌||◌, ◌==◌, not, nat_eq, Option, Some, None, is_some, if◌then◌else◌}
use Rattle.std.specs.Cmp.Lexicographic.{pointwise}
use Rattle.chi_flit.specs.declared.numbers.Agent.{Agent}
use Rattle.chi_flit.specs.declared.kind.Kind.{Kind}
use Rattle.chi_rnline.specs.declared.pending.Pending.{Pending}
use Rattle.chi_rnline.specs.declared.pending.Phase.TheVariants.{Sent as SentPhase}
use Rattle.chi_homeline.specs.declared.serving.Serving.{Serving}
use Rattle.chi_homeline.specs.declared.serving.Waiting.{Waiting}
use Rattle.chi_homeline.specs.Home.{served_kind}
use Rattle.chi_line.specs.LineState.{LineState}
use Rattle.chi_line.specs.Kept.{Lane, LaneKept, is_retried, kind_if, lane, snoops_for}
use Rattle.chi_line.proofs.Frame.{Moves}
use Rattle.chi_observer.specs.declared.kinds.Kind.{Kind as SeenKind}
use Rattle.chi_observer.specs.declared.told.Told.{Told}
use Rattle.chi_observer.specs.declared.flits.Due.{Due}
use Rattle.chi_observer.specs.declared.flits.Due.TheVariants.{Completion, SureCompletion}
use Rattle.chi_observer.specs.declared.flits.Grant.{Grant}
use Rattle.chi_observer.specs.declared.flits.HomeFlit.{HomeFlit}
use Rattle.chi_observer.specs.Copies.{Held, compatible, holds_data, same}
use Rattle.chi_observer.specs.Copies.Copy.{Invalid}
use Rattle.chi_observer.specs.Rules.{due_granted, fills, granted, makes, needs_alone, needs_moment, settles, shows, snooped_granted}
use Rattle.chi_observer.specs.Tables.{most, strongest, told_by, told_granted}
use Rattle.chi_observer.specs.Worlds.{Gives, World, all_below, put}
use Rattle.chi_observer.specs.Observed.{Observed, Sound, goes, next_home, takes_home}
use Rattle.chi_conformity.specs.Seen.{kind_seen}
use Rattle.chi_conformity.proofs.Held.{Beside, DueIs, DueWaiting, Stands, held, is_given_up, words_held, world_of}
use Rattle.chi_conformity.proofs.Flits.{Laws, beside_put, held_here, held_there, words_here, words_there}
use Rattle.chi_conformity.proofs.Put.{differ}
use Rattle.chi_conformity.proofs.Told.{both, no}

abbrev pub home_flit : Agent → Grant → List ℕ → HomeFlit
home_flit agent grant shown = record { agent = agent; grant = grant; shown = shown }

-- the flit makes the agent's lane x
pub record Gift (d : Due) (old x : Lane) (home : List ℕ) (grant : Grant) (shown : List ℕ) : Type 0 where
  pub state : held x (due_granted grant d) ≡ granted grant d (held old d)
  pub words : holds_data (held x (due_granted grant d)).copy ≡ true → words_held x ≡ (if fills grant (held old d) then shown else words_held old)
  pub makes_none : makes grant d ≡ false
  pub settles_none : settles grant d ≡ false
  pub informed : shows grant (held old d) ≡ true → home ≡ shown

gives : (o : Observed) (s s' : LineState) (last home : List ℕ) (agent : Agent) (x : Lane) (grant : Grant) (shown : List ℕ)
    → Moves s s' agent.0 x → Gift (o.public.due agent.0) (lane s agent.0) x home grant shown
    → Gives o.public (home_flit agent grant shown) (world_of o.public.due s last home) (world_of (put agent.0 (due_granted grant (o.public.due agent.0)) o.public.due) s' last home)
gives o s s' last home agent x grant shown moves gift =
    let n : ℕ = agent.0 in
    let d : Due = due_granted grant (o.public.due n) in
    let now : held (lane s' n) (put n d o.public.due n) ≡ held x d = held_here s s' n x o.public.due d moves in
    record {
      state = now ∙ gift.state;
      home = refl;
      words = λ holds made. words_here s s' n x moves ∙ gift.words (subst (λ (h : Held). holds_data h.copy ≡ true) now holds);
      last = λ made. subst (λ (b : Bool). last ≡ (if b then home else last)) (sym gift.settles_none) refl;
      made = λ made. no (sym gift.makes_none ∙ made);
      others = record {
        state = λ m low other. held_there s s' n x o.public.due d m other moves;
        words = λ m low other. words_there s s' n x m other moves;
      };
    }

and_none : (a b : Bool) → a ≡ false → (a && b) ≡ false
and_none true b h = no (sym h)
and_none false b h = refl

still : (z c m : Bool) → z ≡ false → (z || (c && m)) ≡ true → c ≡ true
still true c m h e = no (sym h)
still false true m h e = refl
still false false m h e = no e

-- all stands behind a flit that is taken
pub flit_given : Laws → (o : Observed) (s s' : LineState) (last : List ℕ) (agent : Agent) (x : Lane) (grant : Grant) (shown : List ℕ) → agent.0 < 32
    → Moves s s' agent.0 x → (stands : Stands last s o) → Gift (o.public.due agent.0) (lane s agent.0) x stands.home grant shown
    → takes_home o (home_flit agent grant shown) ≡ true
    → Beside (is_given_up s'.home.serving) s'.home.filter.unique x (due_granted grant (o.public.due agent.0)) (snooped_granted grant (o.public.snooped agent.0)) (told_granted grant (o.public.due agent.0) (o.told agent.0))
    → ((m : ℕ) → m ≢ agent.0 → Beside (is_given_up s'.home.serving) s'.home.filter.unique (lane s m) (o.public.due m) (o.public.snooped m) (o.told m))
    → Stands last s' (next_home o (home_flit agent grant shown))
flit_given laws o s s' last agent x grant shown low moves stands gift takes own other =
    let g : HomeFlit = home_flit agent grant shown in
    let w : World = world_of o.public.due s last stands.home in
    let w' : World = world_of (next_home o g).public.due s' last stands.home in
    record {
      home = stands.home;
      sound = laws.home_kept o g stands.sound low takes;
      meant = laws.home_leads o g w w' stands.sound low takes stands.meant gift.informed (gives o s s' last stands.home agent x grant shown moves gift);
      value = λ c. stands.value (still (settles grant (o.public.due agent.0)) o.current _ gift.settles_none c);
      thrown = and_none o.public.thrown _ stands.thrown;
      lanes = beside_put (is_given_up s'.home.serving) s'.home.filter.unique s s' agent.0 x o.public.due o.public.snooped o.told _ _ _ moves own other;
    }

-- the flit is taken, it needs no moment, and all stands then
abbrev pub Given : Observed → LineState → List ℕ → Agent → Grant → List ℕ → Type 0
Given o s last agent grant shown =
    (takes_home o (home_flit agent grant shown) ≡ true) × (needs_moment grant (o.public.due agent.0) ≡ false) × Stands last s (next_home o (home_flit agent grant shown))

-- WHO IS TOLD TO HAVE A COPY BESIDE
pub below_all : (k : ℕ) (f : ℕ → Bool) → ((m : ℕ) → m < k → f m ≡ true) → all_below k f ≡ true
below_all zero f h = refl
below_all (suc k) f h = both (f k) (all_below k f) (h k (search (rules, arith))) (below_all k f (λ m l. h m (search (rules, arith))))

pub goes_by : (o : Observed) (agent : Agent) (grant : Grant) (shown : List ℕ) → needs_alone grant (o.public.due agent.0) ≡ false
    → ((m : ℕ) → m < 32 → m ≢ agent.0 → compatible (strongest (told_by grant (o.public.due agent.0) (o.told agent.0).told)) (most (o.told m)) ≡ true)
    → goes o (home_flit agent grant shown) ≡ true
goes_by o agent grant shown alone fits = below_all 32 _ (λ m low. go m low (m == agent.0) refl)
  where
    beside : (m : ℕ) (a : Bool) → a ≡ false → compatible (strongest (told_by grant (o.public.due agent.0) (o.told agent.0).told)) (most (o.told m)) ≡ true
        → (compatible (strongest (told_by grant (o.public.due agent.0) (o.told agent.0).told)) (most (o.told m)) && (not a || same (most (o.told m)) Invalid)) ≡ true
    beside m true e h = no (sym e)
    beside m false e h = both _ true h refl

    go : (m : ℕ) → m < 32 → (b : Bool) → (m == agent.0) ≡ b
        → (b || (compatible (strongest (told_by grant (o.public.due agent.0) (o.told agent.0).told)) (most (o.told m)) && (not (needs_alone grant (o.public.due agent.0)) || same (most (o.told m)) Invalid))) ≡ true
    go m low true e = refl
    go m low false e = beside m (needs_alone grant (o.public.due agent.0)) alone (fits m low (differ m agent.0 e))

-- where what is told stays
pub goes_still : (o : Observed) (agent : Agent) (grant : Grant) (shown : List ℕ) → Sound o → agent.0 < 32 → needs_alone grant (o.public.due agent.0) ≡ false
    → told_by grant (o.public.due agent.0) (o.told agent.0).told ≡ (o.told agent.0).told → goes o (home_flit agent grant shown) ≡ true
goes_still o agent grant shown sound low alone same_told = goes_by o agent grant shown alone
    (λ m here other. subst (λ (t : Told). compatible (strongest t) (most (o.told m)) ≡ true) (sym same_told) (sound.pairs agent.0 m low here (λ (e : agent.0 ≡ m). other (sym e))))

-- known words are themselves
pub same_words : (u : List ℕ) → pointwise nat_eq u u ≡ true
same_words [] = refl
same_words (x ∷ u) = both _ _ (search (rules, arith)) (same_words u)

-- A REQUEST AT THE HOME
pub record Waits (x : Lane) (kind : Kind) : Type 0 where
  pub pending : Pending
  pub is : x.rn.pending ≡ Some pending
  pub kind_is : pending.kind ≡ kind
  pub phase : pending.phase ≡ SentPhase
  pub req : x.flits.req ≡ None
  pub response : x.flits.rsp_down ≡ None
  pub given : x.flits.dat_down ≡ None

some_of : {A : Type 0} (there : Option A) → is_some there ≡ true → (a : A) × (there ≡ Some a)
some_of None h = no h
some_of (Some a) h = (a, refl)

phase_sent : (pending : Option Pending) (p : Pending) → pending ≡ Some p → is_retried pending ≡ false → p.phase ≡ SentPhase
phase_sent pending p is h = search (arith, is, h)

kind_of : (pending : Option Pending) (p : Pending) (kind : Kind) → pending ≡ Some p → kind_if pending ≡ Some kind → p.kind ≡ kind
kind_of pending p kind is h = search (arith, is, h)

pub by_waiting : (serving : Serving) (unique : Bool) (owner : Option Agent) (last : List ℕ) (n : ℕ) (x : Lane) (q : Waiting) → LaneKept serving unique owner last n x
    → x.waiting ≡ Some q → Waits x q.kind
by_waiting serving unique owner last n x q k here =
    let there : is_some x.rn.pending ≡ true = search (arith, k.one_place, here) in
    let p = some_of x.rn.pending there in
    record {
      pending = p.0;
      is = p.1;
      kind_is = kind_of x.rn.pending p.0 q.kind p.1 (k.waiting_kind q here);
      phase = phase_sent x.rn.pending p.0 p.1 (search (arith, k.one_place, here));
      req = search (arith, k.one_place, here);
      response = search (arith, k.one_place, here);
      given = search (arith, k.one_place, here);
    }

pub by_service : (serving : Serving) (unique : Bool) (owner : Option Agent) (last : List ℕ) (n : ℕ) (x : Lane) (kind : Kind) → LaneKept serving unique owner last n x
    → snoops_for serving n ≡ true → served_kind serving ≡ Some kind → Waits x kind
by_service serving unique owner last n x kind k here served =
    let there : is_some x.rn.pending ≡ true = search (arith, k.one_place, here) in
    let p = some_of x.rn.pending there in
    record {
      pending = p.0;
      is = p.1;
      kind_is = kind_of x.rn.pending p.0 kind p.1 (k.snooped_kind here ∙ served);
      phase = phase_sent x.rn.pending p.0 p.1 (search (arith, k.one_place, here));
      req = search (arith, k.one_place, here);
      response = search (arith, k.one_place, here);
      given = search (arith, k.one_place, here);
    }

abbrev pub Asked : SeenKind → Due → Type 0
Asked k d = (d ≡ Completion k) ⊎ (d ≡ SureCompletion k)

pub asked : (x : Lane) (kind : Kind) (d : Due) → Waits x kind → DueIs x.rn.pending x.flits.req x.flits.rsp_down x.flits.dat_down d → Asked (kind_seen kind) d
asked x kind d w due =
    subst (λ v. Asked (kind_seen v) d) w.kind_is
    (subst (λ v. DueWaiting v (kind_seen w.pending.kind) d) w.phase
    (subst (λ v. DueIs (Some w.pending) None None v d) w.given
    (subst (λ v. DueIs (Some w.pending) None v x.flits.dat_down d) w.response
    (subst (λ v. DueIs (Some w.pending) v x.flits.rsp_down x.flits.dat_down d) w.req
    (subst (λ v. DueIs v x.flits.req x.flits.rsp_down x.flits.dat_down d) w.is due)))))
