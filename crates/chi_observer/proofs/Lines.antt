-- The code's observer after a flit is what is kept then.
use Rattle.std.proofs.Common.{rules, arith, ◌≡◌, ◌⊎◌, inl, inr, ℕ, zero, suc, ◌<◌, ◌≤◌, List, [], length, refl, sym, subst, ap, ◌∙◌, slice_set}
use Rattle.std.proofs.Math.Path.{fun_ext}
use Rattle.std.proofs.lemmas.List.{get_or-set_other, get_or_past}
use Rattle.std.proofs.lemmas.Grind.{get_or-set_at}
use Rattle.std.specs.Prelude.{replicate, nat_lt, Bool, true, false, ◌&&◌, ◌||◌, not, Option, Some, None, if◌then◌else◌}
use Rattle.chi_observer.specs.declared.kinds.Snoop.{Snoop}
use Rattle.chi_observer.specs.declared.flits.Due.{Due}
use Rattle.chi_observer.specs.declared.flits.Stores.{Stores}
use Rattle.chi_observer.specs.declared.flits.CacheFlit.{CacheFlit}
use Rattle.chi_observer.specs.declared.flits.HomeFlit.{HomeFlit}
use Rattle.chi_observer.specs.declared.flits.Flit.{Flit}
use Rattle.chi_observer.specs.declared.observer.AgentSeen.{AgentSeen}
use Rattle.chi_observer.specs.declared.observer.Observer.{Observer}
use Rattle.chi_observer.specs.Rules.{awaits_moment, makes, settles, lets_go, throws, tells_words, passes_duty, needs_duty}
use Rattle.chi_observer.specs.Moments.{is_issue, shown_after, waits_after}
use Rattle.chi_observer.specs.Tables.{Known, renews, shows_told}
use Rattle.chi_observer.specs.Worlds.{put}
use Rattle.chi_observer.specs.Observed.{Observed, next_as, next_home}
use Rattle.chi_observer.specs.Runs.{nothing_told}
use Rattle.chi_observer.specs.Lines.{nobody, agent_of, known_of, observed, agent_after, agent_granted, Watched, shown_of, shown_here, waits_here, moment_here, nothing_watched}
use Rattle.chi_observer.proofs.Finite.{no}
use Rattle.chi_observer.proofs.Put.{here, there, split}

-- what is read of each agent, where one is set
mapped : {B : Type 0} (f : AgentSeen → B) (xs : List AgentSeen) (n : ℕ) (x : AgentSeen) → n < length xs → (λ (m : ℕ). f (agent_of (slice_set xs n x) m)) ≡ put n (f x) (λ (m : ℕ). f (agent_of xs m))
mapped f xs n x low = fun_ext (split (λ m. f (agent_of (slice_set xs n x) m) ≡ put n (f x) (λ (k : ℕ). f (agent_of xs k)) m) n
    (ap f (get_or-set_at xs n n x nobody refl low) ∙ sym (here n (f x) (λ (k : ℕ). f (agent_of xs k))))
    (λ m h. ap f (get_or-set_other xs n m x nobody h) ∙ sym (there n (f x) (λ (k : ℕ). f (agent_of xs k)) m h)))

abbrev made : Stores → (ℕ → Due) → (ℕ → Option Snoop) → Bool → Bool → (ℕ → Known) → Option (List ℕ) → Bool → Observed
made z e q d h t v c = record { public = record { stores = z; due = e; snooped = q; duty = d; thrown = h }; told = t; home = v; current = c }

made_same : (z : Stores) (e e' : ℕ → Due) (q q' : ℕ → Option Snoop) (d d' h h' : Bool) (t t' : ℕ → Known) (v v' : Option (List ℕ)) (c c' : Bool) → e ≡ e' → q ≡ q' → d ≡ d' → h ≡ h' → t ≡ t' → v ≡ v' → c ≡ c' → made z e q d h t v c ≡ made z e' q' d' h' t' v' c'
made_same z e e' q q' d d' h h' t t' v v' c c' he hq hd hh ht hv hc = λ i. made z (he i) (hq i) (hd i) (hh i) (ht i) (hv i) (hc i)

-- what is told doesn't depend on the moments
abbrev pub whole : Stores → List AgentSeen → Option (List ℕ) → Bool → Bool → Bool → Observer
whole z agents home current duty thrown = record { stores = z; agents = agents; home = home; current = current; duty = duty; thrown = thrown; waits = false; shown = [] }

module _ (z : Stores) (agents : List AgentSeen) (home : Option (List ℕ)) (current duty thrown : Bool) (x : AgentSeen) (home' : Option (List ℕ)) (current' duty' thrown' : Bool) where
  pub sent_after : (f : CacheFlit) (b : Bool) → f.agent.0 < length agents → x ≡ agent_after f.act (agent_of agents f.agent.0) b → home' ≡ (if tells_words f.act then Some f.shown else home) → current' ≡ (if tells_words f.act then true else (if renews z f.act (lets_go (agent_of agents f.agent.0).snooped) (agent_of agents f.agent.0).due (known_of (agent_of agents f.agent.0)) then false else current)) → duty' ≡ (duty || passes_duty f.act) → thrown' ≡ (if tells_words f.act then false else thrown || throws f.act (lets_go (agent_of agents f.agent.0).snooped)) → observed (whole z (slice_set agents f.agent.0 x) home' current' duty' thrown') ≡ next_as (observed (whole z agents home current duty thrown)) f b
  sent_after f b low e hv hc hd hh =
      let n = f.agent.0 in
      made_same _ _ _ _ _ _ _ _ _ _ _ _ _ _ _
      (mapped (λ a. a.due) agents n x low ∙ ap (λ (y : AgentSeen). put n y.due (λ (m : ℕ). (agent_of agents m).due)) e)
      (mapped (λ a. a.snooped) agents n x low ∙ ap (λ (y : AgentSeen). put n y.snooped (λ (m : ℕ). (agent_of agents m).snooped)) e)
      hd
      hh
      (mapped known_of agents n x low ∙ ap (λ (y : AgentSeen). put n (known_of y) (λ (m : ℕ). known_of (agent_of agents m))) e)
      hv
      hc

  pub given_after : (g : HomeFlit) → g.agent.0 < length agents → x ≡ agent_granted g.grant (agent_of agents g.agent.0) → home' ≡ (if shows_told g.grant (known_of (agent_of agents g.agent.0)) then Some g.shown else home) → current' ≡ (settles g.grant (agent_of agents g.agent.0).due || (current && not (makes g.grant (agent_of agents g.agent.0).due))) → duty' ≡ (duty && not (needs_duty g.grant)) → thrown' ≡ (thrown && not (makes g.grant (agent_of agents g.agent.0).due || settles g.grant (agent_of agents g.agent.0).due)) → observed (whole z (slice_set agents g.agent.0 x) home' current' duty' thrown') ≡ next_home (observed (whole z agents home current duty thrown)) g
  given_after g low e hv hc hd hh =
      let n = g.agent.0 in
      made_same _ _ _ _ _ _ _ _ _ _ _ _ _ _ _
      (mapped (λ a. a.due) agents n x low ∙ ap (λ (y : AgentSeen). put n y.due (λ (m : ℕ). (agent_of agents m).due)) e)
      (mapped (λ a. a.snooped) agents n x low ∙ ap (λ (y : AgentSeen). put n y.snooped (λ (m : ℕ). (agent_of agents m).snooped)) e)
      hd
      hh
      (mapped known_of agents n x low ∙ ap (λ (y : AgentSeen). put n (known_of y) (λ (m : ℕ). known_of (agent_of agents m))) e)
      hv
      hc

  pub sent_by : (f : CacheFlit) (n : ℕ) (b shows r goes : Bool) → n ≡ f.agent.0 → n < length agents → x ≡ agent_after f.act (agent_of agents n) b → shows ≡ tells_words f.act → goes ≡ lets_go (agent_of agents n).snooped → r ≡ renews z f.act goes (agent_of agents n).due (known_of (agent_of agents n)) → home' ≡ (if shows then Some f.shown else home) → current' ≡ (if shows then true else (if r then false else current)) → duty' ≡ (duty || passes_duty f.act) → thrown' ≡ (if tells_words f.act then false else thrown || throws f.act goes) → observed (whole z (slice_set agents n x) home' current' duty' thrown') ≡ next_as (observed (whole z agents home current duty thrown)) f b
  sent_by f n b shows r goes hn low e hs hg hr hv hc hd hh =
      ap (λ (k : ℕ). observed (whole z (slice_set agents k x) home' current' duty' thrown')) hn
      ∙ sent_after f b (subst (λ (k : ℕ). k < length agents) hn low) (e ∙ ap (λ (k : ℕ). agent_after f.act (agent_of agents k) b) hn)
      (hv ∙ ap (λ (z : Bool). if z then Some f.shown else home) hs)
      (hc ∙ ap (λ (z : Bool). if z then true else (if r then false else current)) hs
      ∙ ap (λ (z : Bool). if tells_words f.act then true else (if z then false else current)) (hr ∙ ap (λ (y : Bool). renews z f.act y (agent_of agents n).due (known_of (agent_of agents n))) hg ∙ ap (λ (k : ℕ). renews z f.act (lets_go (agent_of agents k).snooped) (agent_of agents k).due (known_of (agent_of agents k))) hn))
      hd
      (hh ∙ ap (λ (z : Bool). if tells_words f.act then false else thrown || throws f.act z) hg ∙ ap (λ (k : ℕ). if tells_words f.act then false else thrown || throws f.act (lets_go (agent_of agents k).snooped)) hn)

  pub given_by : (g : HomeFlit) (n : ℕ) (full : Bool) → n ≡ g.agent.0 → n < length agents → x ≡ agent_granted g.grant (agent_of agents n) → full ≡ shows_told g.grant (known_of (agent_of agents n)) → home' ≡ (if full then Some g.shown else home) → current' ≡ (settles g.grant (agent_of agents n).due || (current && not (makes g.grant (agent_of agents n).due))) → duty' ≡ (duty && not (needs_duty g.grant)) → thrown' ≡ (thrown && not (makes g.grant (agent_of agents n).due || settles g.grant (agent_of agents n).due)) → observed (whole z (slice_set agents n x) home' current' duty' thrown') ≡ next_home (observed (whole z agents home current duty thrown)) g
  given_by g n full hn low e hf hv hc hd hh =
      ap (λ (k : ℕ). observed (whole z (slice_set agents k x) home' current' duty' thrown')) hn
      ∙ given_after g (subst (λ (k : ℕ). k < length agents) hn low) (e ∙ ap (λ (k : ℕ). agent_granted g.grant (agent_of agents k)) hn)
      (hv ∙ ap (λ (z : Bool). if z then Some g.shown else home) (hf ∙ ap (λ (k : ℕ). shows_told g.grant (known_of (agent_of agents k))) hn))
      (hc ∙ ap (λ (k : ℕ). settles g.grant (agent_of agents k).due || (current && not (makes g.grant (agent_of agents k).due))) hn)
      hd
      (hh ∙ ap (λ (k : ℕ). thrown && not (makes g.grant (agent_of agents k).due || settles g.grant (agent_of agents k).due)) hn)

-- at first nothing is told
agent_new : (k n : ℕ) → agent_of (replicate k nobody) n ≡ nobody
agent_new zero zero = refl
agent_new zero (suc n) = refl
agent_new (suc k) zero = refl
agent_new (suc k) (suc n) = agent_new k n

pub told_nothing : (z : Stores) → observed (whole z (replicate 32 nobody) None true false false) ≡ nothing_told z
told_nothing z = made_same _ _ _ _ _ _ _ _ _ _ _ _ _ _ _
    (fun_ext (λ n. ap (λ (a : AgentSeen). a.due) (agent_new 32 n)))
    (fun_ext (λ n. ap (λ (a : AgentSeen). a.snooped) (agent_new 32 n)))
    refl
    refl
    (fun_ext (λ n. ap known_of (agent_new 32 n)))
    refl
    refl

abbrev pub seen_with : Observed → Bool → (ℕ → Bool) → Watched
seen_with o b f = record { seen = o; waits = b; shown = f }

no_moments : (k n : ℕ) → shown_of (replicate k false) n ≡ false
no_moments zero zero = refl
no_moments zero (suc n) = refl
no_moments (suc k) zero = refl
no_moments (suc k) (suc n) = no_moments k n

pub watched_nothing : (z : Stores) → seen_with (observed (whole z (replicate 32 nobody) None true false false)) false (λ n. shown_of (replicate 32 false) n) ≡ nothing_watched z
watched_nothing z = λ i. seen_with (told_nothing z i) false (fun_ext (no_moments 32) i)

pub refused : (a b : Bool) → a ≡ false → false ≡ (a && b)
refused true b h = no (sym h)
refused false b h = refl

pub apart : (p q r s : Bool) → s ≡ false → false ≡ (p && (q && (r && s)))
apart true true true s h = sym h
apart true true false s h = refl
apart true false r s h = refl
apart false q r s h = refl

pub all_stand : (a f w : Bool) → (a && f) ≡ true → w ≡ true → true ≡ (a && (f && w))
all_stand true true w e h = sym h
all_stand true false w e h = no e
all_stand false f w e h = no e

pub stale : (a f w : Bool) → w ≡ false → false ≡ (a && (f && w))
stale true true w h = sym h
stale true false w h = refl
stale false f w h = refl

pub refuted : (w : Bool) → w ≡ false → not w ≡ true
refuted true h = no (sym h)
refuted false h = refl

-- MOMENTS
low_by : (n : ℕ) (b : Bool) → nat_lt n 32 ≡ b → (n < 32) ⊎ (32 ≤ n)
low_by n true h = inl (search (rules, arith))
low_by n false h = inr (search (rules, arith))

shown_past : (z : Stores) (agents : List AgentSeen) (current : Bool) (before shown : List Bool) (e : Flit) (n : ℕ) → length agents ≡ 32 → length shown ≡ 32 → 32 ≤ n → shown_of shown n ≡ shown_here z agents current e (shown_of before n) n
shown_past z agents current before shown e n la ls h = get_or_past shown n false (subst (λ (k : ℕ). k ≤ n) (sym ls) h)
    ∙ sym (ap (λ (a : AgentSeen). awaits_moment a.due && ((not (is_issue e n) && shown_of before n) || moment_here z agents current e n)) (get_or_past agents n nobody (subst (λ (k : ℕ). k ≤ n) (sym la) h)))

shown_each : (z : Stores) (agents : List AgentSeen) (current : Bool) (before shown : List Bool) (e : Flit) → length agents ≡ 32 → length shown ≡ 32 → ((n : ℕ) → n < 32 → shown_of shown n ≡ shown_here z agents current e (shown_of before n) n) → (n : ℕ) → (n < 32) ⊎ (32 ≤ n) → shown_of shown n ≡ shown_here z agents current e (shown_of before n) n
shown_each z agents current before shown e la ls each n (inl h) = each n h
shown_each z agents current before shown e la ls each n (inr h) = shown_past z agents current before shown e n la ls h

pub shown_all : (z : Stores) (agents : List AgentSeen) (current : Bool) (before shown : List Bool) (e : Flit) → length agents ≡ 32 → length shown ≡ 32 → ((n : ℕ) → n < 32 → shown_of shown n ≡ shown_here z agents current e (shown_of before n) n) → (n : ℕ) → shown_of shown n ≡ shown_here z agents current e (shown_of before n) n
shown_all z agents current before shown e la ls each n = shown_each z agents current before shown e la ls each n (low_by n (nat_lt n 32) refl)

-- none is open
pub none_shown : (z : Stores) (w : Bool) (agents : List AgentSeen) (current : Bool) (before : List Bool) (e : Flit) (n : ℕ) → w ≡ false → shown_of (replicate 32 false) n ≡ (w && shown_here z agents current e (shown_of before n) n)
none_shown z w agents current before e n h = no_moments 32 n ∙ sym (ap (λ (b : Bool). b && shown_here z agents current e (shown_of before n) n) h)

-- what is kept then
pub noted : (mid : Observer) (o : Observed) (was waits : Bool) (before shown : List Bool) (e : Flit) → observed mid ≡ o → waits ≡ waits_here mid.agents e was
    → ((n : ℕ) → shown_of shown n ≡ (waits && shown_here mid.stores mid.agents mid.current e (shown_of before n) n))
    → seen_with (observed mid) waits (λ n. shown_of shown n) ≡ seen_with o (waits_after o e was) (λ n. waits_after o e was && shown_after o e (λ k. shown_of before k) n)
noted mid o was waits before shown e eo ew each =
    ap (λ (f : ℕ → Bool). seen_with (observed mid) waits f) (fun_ext each)
    ∙ ap (λ (b : Bool). seen_with (observed mid) b (λ n. b && shown_after (observed mid) e (λ k. shown_of before k) n)) ew
    ∙ ap (λ (z : Observed). seen_with z (waits_after z e was) (λ n. waits_after z e was && shown_after z e (λ k. shown_of before k) n)) eo
