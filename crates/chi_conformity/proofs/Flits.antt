-- A flit of a cache that a change of its agent's lane sends, and a change that nobody sees.
use Rattle.std.proofs.Common.{◌≡◌, ◌≢◌, ℕ, ◌<◌, List, refl, sym, ap, subst, ◌∙◌}
use Rattle.std.specs.Prelude.{Bool, true, false, ◌==◌, ◌||◌, Option, Some, None, option_map, if◌then◌else◌}
use Rattle.std.proofs.lemmas.Bool.{eqb-true}
use Rattle.chi_flit.specs.declared.numbers.Agent.{Agent}
use Rattle.chi_flit.specs.declared.snoop.Snoop.{Snoop}
use Rattle.chi_flit.specs.declared.snoop.Snoop.TheVariants as snoops
use Rattle.chi_line.specs.LineState.{LineState}
use Rattle.chi_line.specs.Kept.{Lane, lane}
use Rattle.chi_line.proofs.Frame.{Moves}
use Rattle.chi_observer.specs.declared.kinds.Snoop.{Snoop as SeenSnoop}
use Rattle.chi_observer.specs.declared.flits.Due.{Due}
use Rattle.chi_observer.specs.declared.flits.Stores.{Stores}
use Rattle.chi_observer.specs.declared.flits.Act.{Act}
use Rattle.chi_observer.specs.declared.flits.Act.TheVariants.{SnpResp, Store}
use Rattle.chi_observer.specs.declared.flits.CacheFlit.{CacheFlit}
use Rattle.chi_observer.specs.Copies.{Held, holds_data}
use Rattle.chi_observer.specs.Rules.{acts, allows, due_after, has_data, has_word, lets_go, snooped_after, stores, tells_words, throws, writes}
use Rattle.chi_observer.specs.Tables.{Known, fresh, reach, renews, told_after}
use Rattle.chi_observer.specs.Worlds.{Sends, World, put}
use Rattle.chi_observer.specs.Observed.{Meaning, Observed, differs, next, takes}
use Rattle.chi_observer.specs.Counted.{CountedLoadsAreTaken, CountedLoadsLead}
use Rattle.chi_observer.specs.Laws.{MeaningIsClosed, CacheFlitsAreTaken, CacheFlitsLead, CacheFlitsTellTheValue, CacheFlitsKeepSound, HomeFlitsKeepSound, HomeFlitsLead}
use Rattle.chi_conformity.specs.Seen.{snoop_seen}
use Rattle.chi_conformity.proofs.Held.{Beside, Stands, held, is_given_up, words_held, world_of}
use Rattle.chi_conformity.proofs.Put.{differ, here, there}

-- the observer's laws that this rests on
pub record Laws : Type 0 where
  pub closed : MeaningIsClosed
  pub taken : CacheFlitsAreTaken
  pub leads : CacheFlitsLead
  pub tells : CacheFlitsTellTheValue
  pub kept : CacheFlitsKeepSound
  pub counted_taken : CountedLoadsAreTaken
  pub counted_lead : CountedLoadsLead
  pub home_kept : HomeFlitsKeepSound
  pub home_leads : HomeFlitsLead

-- the same world
pub meant_as : (o : Observed) (w w' : World) → ((n : ℕ) → n < 32 → w'.state n ≡ w.state n) → ((n : ℕ) → n < 32 → w'.words n ≡ w.words n)
    → w'.last ≡ w.last → w'.home ≡ w.home → Meaning o w → Meaning o w'
meant_as o w w' states words last home m = record {
  told = λ n low. subst (λ (h : Held). reach o.public.stores (o.public.due n) (o.told n) h ≡ true) (sym (states n low)) (m.told n low);
  words = λ n low holds. words n low ∙ (m.words n low (subst (λ (h : Held). holds_data h.copy ≡ true) (states n low) holds) ∙ sym last);
  home = λ v e. home ∙ m.home v e;
  current = λ c unstored. last ∙ (m.current c (λ n low. subst (λ (h : Held). fresh o.public.stores (o.public.due n) (o.told n) h ≡ false) (states n low) (unstored n low)) ∙ sym home);
}

-- a lane that was moved, and the others
pub held_here : (s s' : LineState) (n : ℕ) (x : Lane) (due : ℕ → Due) (d : Due) → Moves s s' n x → held (lane s' n) (put n d due n) ≡ held x d
held_here s s' n x due d moves = ap (λ (y : Lane). held y (put n d due n)) moves.at ∙ ap (held x) (here n d due)

pub held_there : (s s' : LineState) (n : ℕ) (x : Lane) (due : ℕ → Due) (d : Due) (m : ℕ) → m ≢ n → Moves s s' n x → held (lane s' m) (put n d due m) ≡ held (lane s m) (due m)
held_there s s' n x due d m other moves = ap (λ (y : Lane). held y (put n d due m)) (moves.others m other) ∙ ap (held (lane s m)) (there n d due m other)

pub words_here : (s s' : LineState) (n : ℕ) (x : Lane) → Moves s s' n x → words_held (lane s' n) ≡ words_held x
words_here s s' n x moves = ap words_held moves.at

pub words_there : (s s' : LineState) (n : ℕ) (x : Lane) (m : ℕ) → m ≢ n → Moves s s' n x → words_held (lane s' m) ≡ words_held (lane s m)
words_there s s' n x m other moves = ap words_held (moves.others m other)

-- what is told of each agent, where one lane was moved
pub beside_put : (up unique : Bool) (s s' : LineState) (n : ℕ) (x : Lane) (due : ℕ → Due) (snooped : ℕ → Option SeenSnoop) (told : ℕ → Known)
    (d : Due) (q : Option SeenSnoop) (k : Known) → Moves s s' n x → Beside up unique x d q k
    → ((m : ℕ) → m ≢ n → Beside up unique (lane s m) (due m) (snooped m) (told m))
    → (m : ℕ) → Beside up unique (lane s' m) (put n d due m) (put n q snooped m) (put n k told m)
beside_put up unique s s' n x due snooped told d q k moves own other m = go (m == n) refl
  where
    go : (b : Bool) → (m == n) ≡ b → Beside up unique (lane s' m) (if b then d else due m) (if b then q else snooped m) (if b then k else told m)
    go true e = subst (λ (y : Lane). Beside up unique y d q k) (sym (ap (lane s') (eqb-true m n e) ∙ moves.at)) own
    go false e = subst (λ (y : Lane). Beside up unique y (due m) (snooped m) (told m)) (sym (moves.others m (differ m n e))) (other m (differ m n e))

-- the flit
abbrev pub cache_flit : Agent → Act → List ℕ → CacheFlit
cache_flit agent act shown = record { agent = agent; act = act; shown = shown }

-- the agent's lane sends it, and is x then
pub record MaySend (q : Option SeenSnoop) (d : Due) (old x : Lane) (last last' : List ℕ) (act : Act) (shown : List ℕ) : Type 0 where
  pub allowed : allows act q ≡ true
  pub acts_so : acts act (lets_go q) d (held old d) ≡ Some (held x (due_after act d))
  pub shows : has_data act ≡ true → shown ≡ words_held old
  pub writes_none : writes act ≡ false
  pub lasts : stores act ≡ false → last' ≡ last
  pub words : holds_data (held x (due_after act d)).copy ≡ true → stores act ≡ false → words_held x ≡ words_held old
  pub stored : stores act ≡ true → words_held x ≡ last'
  pub word : has_word act (words_held old) ≡ true

pub or_in : (a b : Bool) → b ≡ true → (a || b) ≡ true
or_in true b h = refl
or_in false b h = h

or_right : (a b : Bool) → (a || b) ≡ false → b ≡ false
or_right true b h = absurd (cc (h))
or_right false b h = h

sends : (o : Observed) (s s' : LineState) (last last' home : List ℕ) (agent : Agent) (x : Lane) (act : Act) (shown : List ℕ)
    → Moves s s' agent.0 x → MaySend (o.public.snooped agent.0) (o.public.due agent.0) (lane s agent.0) x last last' act shown
    → Sends o.public (cache_flit agent act shown) (world_of o.public.due s last home) (world_of (put agent.0 (due_after act (o.public.due agent.0)) o.public.due) s' last' (if tells_words act then shown else home))
sends o s s' last last' home agent x act shown moves can =
    let n : ℕ = agent.0 in
    let d : Due = due_after act (o.public.due n) in
    let now : held (lane s' n) (put n d o.public.due n) ≡ held x d = held_here s s' n x o.public.due d moves in
    let words : words_held (lane s' n) ≡ words_held x = words_here s s' n x moves in
    record {
      allowed = can.allowed;
      act = can.acts_so ∙ ap (λ (h : Held). Some h) (sym now);
      shown = can.shows;
      last = λ any. subst (λ (b : Bool). last' ≡ (if b then shown else last)) (sym can.writes_none) (can.lasts (or_right _ (stores act) any));
      home = refl;
      words = λ holds quiet. words ∙ can.words (subst (λ (h : Held). holds_data h.copy ≡ true) now holds) quiet;
      stored = λ stored. words ∙ can.stored stored;
      others = record {
        state = λ m low other. held_there s s' n x o.public.due d m other moves;
        words = λ m low other. words_there s s' n x m other moves;
      };
    }

-- nothing is thrown away for the snoops that there are
lets_nothing : (snoop : Option Snoop) → lets_go (option_map snoop_seen snoop) ≡ false
lets_nothing None = refl
lets_nothing (Some snoops.SnpShared) = refl
lets_nothing (Some snoops.SnpNotSharedDirty) = refl
lets_nothing (Some snoops.SnpUnique) = refl
lets_nothing (Some snoops.SnpCleanInvalid) = refl

throws_nothing : (act : Act) → throws act false ≡ false
throws_nothing (SnpResp answer) = refl
throws_nothing other = refl

unthrown : (act : Act) (snoop : Option Snoop) (q : Option SeenSnoop) (thrown : Bool) → q ≡ option_map snoop_seen snoop → thrown ≡ false
    → (if tells_words act then false else (thrown || throws act (lets_go q))) ≡ false
unthrown act snoop q thrown is safe = go (tells_words act)
  where
    none : (thrown || throws act (lets_go q)) ≡ false
    none = subst (λ (b : Bool). (b || throws act (lets_go q)) ≡ false) (sym safe)
        (subst (λ (b : Bool). throws act b ≡ false) (sym (ap lets_go is ∙ lets_nothing snoop)) (throws_nothing act))

    go : (b : Bool) → (if b then false else (thrown || throws act (lets_go q))) ≡ false
    go true = refl
    go false = none

was_current : (t r c : Bool) → t ≡ false → (if t then true else (if r then false else c)) ≡ true → (r ≡ false) × (c ≡ true)
was_current true r c h e = absurd (cc (h))
was_current false true c h e = absurd (cc (e))
was_current false false c h e = (refl, e)

-- a store says that there was one
no_store : (z : Stores) (act : Act) (x : Bool) (d : Due) (k : Known) → renews z act x d k ≡ false → stores act ≡ false
no_store z (Store word) x d k h = absurd (cc (h))
no_store z other x d k h = refl

-- what is told of the sender then
abbrev pub told_next : Observed → Agent → Act → List ℕ → Known
told_next o agent act shown = told_after act (o.public.due agent.0) (o.told agent.0) (differs o (cache_flit agent act shown))

-- so the observer takes it
pub flit_sent : Laws → (o : Observed) (s s' : LineState) (last last' : List ℕ) (agent : Agent) (x : Lane) (act : Act) (shown : List ℕ) → agent.0 < 32
    → Moves s s' agent.0 x → s'.home ≡ s.home → Stands last s o
    → MaySend (o.public.snooped agent.0) (o.public.due agent.0) (lane s agent.0) x last last' act shown
    → Beside (is_given_up s.home.serving) s.home.filter.unique x (due_after act (o.public.due agent.0)) (snooped_after act (o.public.snooped agent.0)) (told_next o agent act shown)
    → (takes o (cache_flit agent act shown) ≡ true) × Stands last' s' (next o (cache_flit agent act shown))
flit_sent laws o s s' last last' agent x act shown low moves stays stands can own =
    let f : CacheFlit = cache_flit agent act shown in
    let w : World = world_of o.public.due s last stands.home in
    let w' : World = world_of (next o f).public.due s' last' (if tells_words act then shown else stands.home) in
    let sent : Sends o.public f w w' = sends o s s' last last' stands.home agent x act shown moves can in
    let taken : takes o f ≡ true = laws.taken o f w w' stands.sound low stands.meant sent (or_in _ _ can.word) in (
      taken,
      record {
        home = if tells_words act then shown else stands.home;
        sound = laws.kept o f stands.sound low taken;
        meant = laws.leads o f w w' stands.sound low stands.meant sent;
        value = value_by (tells_words act) refl;
        thrown = unthrown act (lane s agent.0).flits.snp (o.public.snooped agent.0) o.public.thrown (stands.lanes agent.0).snooped_is stands.thrown;
        lanes = subst (λ home. (m : ℕ) → Beside (is_given_up home.serving) home.filter.unique (lane s' m) ((next o f).public.due m) ((next o f).public.snooped m) ((next o f).told m)) (sym stays)
            (beside_put (is_given_up s.home.serving) s.home.filter.unique s s' agent.0 x o.public.due o.public.snooped o.told _ _ _ moves own (λ m other. stands.lanes m));
      },
    )
  where
    -- the words that are told are the value; and where none are it is as before, and no store was
    value_by : (b : Bool) → tells_words act ≡ b → (next o (cache_flit agent act shown)).current ≡ true → last' ≡ (if tells_words act then shown else stands.home)
    value_by true tells c = laws.tells o (cache_flit agent act shown) (world_of o.public.due s last stands.home) (world_of (next o (cache_flit agent act shown)).public.due s' last' (if tells_words act then shown else stands.home))
        stands.sound low stands.meant (sends o s s' last last' stands.home agent x act shown moves can) tells
    value_by false silent c =
        let was = was_current (tells_words act) (renews o.public.stores act (lets_go (o.public.snooped agent.0)) (o.public.due agent.0) (o.told agent.0)) o.current silent c in
        can.lasts (no_store o.public.stores act (lets_go (o.public.snooped agent.0)) (o.public.due agent.0) (o.told agent.0) was.0) ∙ (stands.value was.1 ∙ sym (ap (λ (b : Bool). if b then shown else stands.home) silent))
