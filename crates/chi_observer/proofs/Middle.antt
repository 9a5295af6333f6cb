-- What is kept of a line whose trace begins in the middle, behind the code's changes of one agent.
use Rattle.std.proofs.Common.{rules, arith, ◌≡◌, ◌⊎◌, inl, inr, ℕ, ◌<◌, ◌≤◌, List, length, refl, sym, subst, ap, ◌∙◌, slice_set}
use Rattle.std.proofs.Math.Path.{fun_ext}
use Rattle.std.proofs.lemmas.List.{get_or-set_other, get_or_past}
use Rattle.std.proofs.lemmas.Grind.{get_or-set_at}
use Rattle.std.specs.Prelude.{Bool, true, false, ◌||◌, Option, None, nat_lt, replicate, if◌then◌else◌}
use Rattle.chi_observer.specs.declared.kinds.Snoop.{Snoop}
use Rattle.chi_observer.specs.declared.told.Told.TheVariants.{I}
use Rattle.chi_observer.specs.declared.flits.Due.{Due}
use Rattle.chi_observer.specs.declared.flits.Stores.{Stores}
use Rattle.chi_observer.specs.declared.flits.Flit.{Flit}
use Rattle.chi_observer.specs.declared.observer.AgentSeen.{AgentSeen}
use Rattle.chi_observer.specs.declared.observer.Observer.{Observer}
use Rattle.chi_observer.specs.declared.begun.AgentBegun.{AgentBegun}
use Rattle.chi_observer.specs.Tables.{Known}
use Rattle.chi_observer.specs.Worlds.{put}
use Rattle.chi_observer.specs.Observed.{Observed}
use Rattle.chi_observer.specs.Lines.{nobody, agent_of, known_of, observed, watched, shown_of}
use Rattle.chi_observer.specs.declared.begun.Begun.{Begun}
use Rattle.chi_observer.specs.Begun.{agent_kept, agent_supposed, all_shown, begun, blurs, due_kept, due_supposed, forgotten, kept, known_kept, leaves_alone, mark_behind, mark_forgotten, mark_of, mark_told, marks_beside, supposed_at, told_supposed, unmarked, words_behind, words_forgotten}
use Rattle.chi_observer.proofs.Put.{here, there, split}

-- what is read of each agent, where one is set
agents_set : {B : Type 0} (f : AgentSeen → B) (xs : List AgentSeen) (n : ℕ) (x : AgentSeen) → n < length xs → (λ (m : ℕ). f (agent_of (slice_set xs n x) m)) ≡ put n (f x) (λ (m : ℕ). f (agent_of xs m))
agents_set f xs n x low = fun_ext (split (λ (m : ℕ). f (agent_of (slice_set xs n x) m) ≡ put n (f x) (λ (k : ℕ). f (agent_of xs k)) m) n
    (ap f (get_or-set_at xs n n x nobody refl low) ∙ sym (here n (f x) (λ (k : ℕ). f (agent_of xs k))))
    (λ m h. ap f (get_or-set_other xs n m x nobody h) ∙ sym (there n (f x) (λ (k : ℕ). f (agent_of xs k)) m h)))

pub shown_set : (xs : List Bool) (n : ℕ) (x : Bool) → n < length xs → (λ (m : ℕ). shown_of (slice_set xs n x) m) ≡ put n x (λ (m : ℕ). shown_of xs m)
shown_set xs n x low = fun_ext (split (λ (m : ℕ). shown_of (slice_set xs n x) m ≡ put n x (λ (k : ℕ). shown_of xs k) m) n
    (get_or-set_at xs n n x false refl low ∙ sym (here n x (λ (k : ℕ). shown_of xs k)))
    (λ m h. get_or-set_other xs n m x false h ∙ sym (there n x (λ (k : ℕ). shown_of xs k) m h)))

pub marks_set : (xs : List AgentBegun) (n : ℕ) (x : AgentBegun) → n < length xs → (λ (m : ℕ). mark_of (slice_set xs n x) m) ≡ put n x (λ (m : ℕ). mark_of xs m)
marks_set xs n x low = fun_ext (split (λ (m : ℕ). mark_of (slice_set xs n x) m ≡ put n x (λ (k : ℕ). mark_of xs k) m) n
    (get_or-set_at xs n n x unmarked refl low ∙ sym (here n x (λ (k : ℕ). mark_of xs k)))
    (λ m h. get_or-set_other xs n m x unmarked h ∙ sym (there n x (λ (k : ℕ). mark_of xs k) m h)))

put_same : {A : Type 0} (n : ℕ) (f : ℕ → A) → put n (f n) f ≡ f
put_same n f = fun_ext (split (λ (m : ℕ). put n (f n) f m ≡ f m) n (here n (f n) f) (there n (f n) f))

abbrev made : Stores → (ℕ → Due) → (ℕ → Option Snoop) → Bool → Bool → (ℕ → Known) → Option (List ℕ) → Bool → Observed
made z e q d h t v c = record { public = record { stores = z; due = e; snooped = q; duty = d; thrown = h }; told = t; home = v; current = c }

abbrev whole : Stores → List AgentSeen → Option (List ℕ) → Bool → Bool → Bool → Bool → List Bool → Observer
whole z agents home current duty thrown waits shown = record { stores = z; agents = agents; home = home; current = current; duty = duty; thrown = thrown; waits = waits; shown = shown }

module _ (z : Stores) (agents : List AgentSeen) (n : ℕ) (x : AgentSeen) (home : Option (List ℕ)) (current duty thrown waits : Bool) (shown : List Bool) (d : Due) (k : Known) where
  -- one agent is set to what is due and told of it, with the snoop that it had
  pub agent_set : n < length agents → x.due ≡ d → x.snooped ≡ (agent_of agents n).snooped → known_of x ≡ k
      → observed (whole z (slice_set agents n x) home current duty thrown waits shown) ≡ made z (put n d (λ (m : ℕ). (agent_of agents m).due)) (λ (m : ℕ). (agent_of agents m).snooped) duty thrown (put n k (λ (m : ℕ). known_of (agent_of agents m))) home current
  agent_set low hd hq hk = λ i. made z (dues i) (snoops i) duty thrown (tolds i) home current
    where
      dues : (λ (m : ℕ). (agent_of (slice_set agents n x) m).due) ≡ put n d (λ (m : ℕ). (agent_of agents m).due)
      dues = agents_set (λ a. a.due) agents n x low ∙ ap (λ (y : Due). put n y (λ (m : ℕ). (agent_of agents m).due)) hd

      snoops : ◌≡◌ {A = ℕ → Option Snoop} (λ (m : ℕ). (agent_of (slice_set agents n x) m).snooped) (λ (m : ℕ). (agent_of agents m).snooped)
      snoops = agents_set (λ a. a.snooped) agents n x low ∙ ap (λ (y : Option Snoop). put n y (λ (m : ℕ). (agent_of agents m).snooped)) hq ∙ put_same n (λ (m : ℕ). (agent_of agents m).snooped)

      tolds : (λ (m : ℕ). known_of (agent_of (slice_set agents n x) m)) ≡ put n k (λ (m : ℕ). known_of (agent_of agents m))
      tolds = agents_set known_of agents n x low ∙ ap (λ (y : Known). put n y (λ (m : ℕ). known_of (agent_of agents m))) hk

-- what is supposed
pub supposed_is : (s : Observer) (n : ℕ) (k : AgentBegun) (e : Flit) (x : AgentSeen) (home : Option (List ℕ)) (shown : Bool) → n < length s.agents → n < length s.shown
    → x ≡ agent_supposed k e (agent_of s.agents n) → home ≡ (if blurs k e (agent_of s.agents n).snooped then None else s.home) → shown ≡ (shown_of s.shown n || k.asked)
    → watched (whole s.stores (slice_set s.agents n x) home s.current s.duty s.thrown s.waits (slice_set s.shown n shown)) ≡ supposed_at n k e (watched s)
supposed_is s n k e x home shown low low_shown hx hh hs = λ i. record { seen = seens i; waits = s.waits; shown = showns i }
  where
    seens : observed (whole s.stores (slice_set s.agents n x) home s.current s.duty s.thrown s.waits (slice_set s.shown n shown)) ≡ (supposed_at n k e (watched s)).seen
    seens = agent_set s.stores s.agents n x home s.current s.duty s.thrown s.waits (slice_set s.shown n shown) (due_supposed k e (agent_of s.agents n).due) (told_supposed k e (agent_of s.agents n).due (known_of (agent_of s.agents n)))
        low (ap (λ (y : AgentSeen). y.due) hx) (ap (λ (y : AgentSeen). y.snooped) hx) (ap known_of hx)
        ∙ ap (λ (v : Option (List ℕ)). made s.stores (put n (due_supposed k e (agent_of s.agents n).due) (λ (m : ℕ). (agent_of s.agents m).due)) (λ (m : ℕ). (agent_of s.agents m).snooped) s.duty s.thrown (put n (told_supposed k e (agent_of s.agents n).due (known_of (agent_of s.agents n))) (λ (m : ℕ). known_of (agent_of s.agents m))) v s.current) hh

    showns : (λ (m : ℕ). shown_of (slice_set s.shown n shown) m) ≡ put n (shown_of s.shown n || k.asked) (λ (m : ℕ). shown_of s.shown m)
    showns = shown_set s.shown n shown low_shown ∙ ap (λ (b : Bool). put n b (λ (m : ℕ). shown_of s.shown m)) hs

-- what is kept
pub kept_is : (w : Observer) (n : ℕ) (k : AgentBegun) (e : Flit) (d : Due) (q : Option Snoop) (v home : Option (List ℕ)) (old marks : List AgentBegun) (x : AgentSeen) (m : AgentBegun) (current : Bool) → n < length w.agents → n < length marks
    → m ≡ mark_behind k e d → x ≡ agent_kept m (agent_of w.agents n) → home ≡ words_behind e v w.home → current ≡ (w.current || blurs k e q)
    → ((j : ℕ) → mark_of marks j ≡ marks_beside (leaves_alone e d (agent_of w.agents n).told) (mark_of old) j)
    → begun (record { observer = whole w.stores (slice_set w.agents n x) home current w.duty w.thrown w.waits w.shown; agents = slice_set marks n m }) ≡ kept n k e d q v (watched w) (mark_of old)
kept_is w n k e d q v home old marks x m current low low_marks hm hx hh hc hmarks =
    λ i. record { seen = record { seen = seens i; waits = w.waits; shown = λ j. shown_of w.shown j }; mark = tolds i }
  where
    seens : observed (whole w.stores (slice_set w.agents n x) home current w.duty w.thrown w.waits w.shown) ≡ (kept n k e d q v (watched w) (mark_of old)).seen.seen
    seens = agent_set w.stores w.agents n x home current w.duty w.thrown w.waits w.shown (due_kept m (agent_of w.agents n).due) (known_kept m (known_of (agent_of w.agents n)))
        low (ap (λ (y : AgentSeen). y.due) hx) (ap (λ (y : AgentSeen). y.snooped) hx) (ap known_of hx)
        ∙ (λ i. made w.stores (put n (due_kept (hm i) (agent_of w.agents n).due) (λ (j : ℕ). (agent_of w.agents j).due)) (λ (j : ℕ). (agent_of w.agents j).snooped) w.duty w.thrown (put n (known_kept (hm i) (known_of (agent_of w.agents n))) (λ (j : ℕ). known_of (agent_of w.agents j))) (hh i) (hc i))

    tolds : (λ (j : ℕ). mark_of (slice_set marks n m) j) ≡ (kept n k e d q v (watched w) (mark_of old)).mark
    tolds = marks_set marks n m low_marks ∙ ap (λ (f : ℕ → AgentBegun). put n m f) (fun_ext hmarks) ∙ ap (λ (y : AgentBegun). put n y (marks_beside (leaves_alone e d (agent_of w.agents n).told) (mark_of old))) hm

-- what is forgotten
pub forgotten_is : (s : Begun) (n : ℕ) → n < length s.observer.agents → n < length s.agents
    → begun (record { observer = whole s.observer.stores (slice_set s.observer.agents n (record { told = I; cancelled = (agent_of s.observer.agents n).cancelled; due = (agent_of s.observer.agents n).due; snooped = (agent_of s.observer.agents n).snooped })) None true true s.observer.thrown true (replicate 32 true); agents = slice_set s.agents n (mark_forgotten (mark_of s.agents n)) }) ≡ forgotten n (begun s)
forgotten_is s n low low_marks = λ i. record { seen = record { seen = seens i; waits = true; shown = all_shown }; mark = marks_set s.agents n (mark_forgotten (mark_of s.agents n)) low_marks i }
  where
    x : AgentSeen
    x = record { told = I; cancelled = (agent_of s.observer.agents n).cancelled; due = (agent_of s.observer.agents n).due; snooped = (agent_of s.observer.agents n).snooped }

    seens : observed (whole s.observer.stores (slice_set s.observer.agents n x) None true true s.observer.thrown true (replicate 32 true)) ≡ words_forgotten n (observed s.observer)
    seens = agent_set s.observer.stores s.observer.agents n x None true true s.observer.thrown true (replicate 32 true) (agent_of s.observer.agents n).due (known_of x) low refl refl refl
        ∙ ap (λ (f : ℕ → Due). made s.observer.stores f (λ (m : ℕ). (agent_of s.observer.agents m).snooped) true s.observer.thrown (put n (known_of x) (λ (m : ℕ). known_of (agent_of s.observer.agents m))) None true) (put_same n (λ (m : ℕ). (agent_of s.observer.agents m).due))

-- each copy is known
low_by : (n : ℕ) (b : Bool) → nat_lt n 32 ≡ b → (n < 32) ⊎ (32 ≤ n)
low_by n true h = inl (search (rules, arith))
low_by n false h = inr (search (rules, arith))

told_past : (agents told : List AgentBegun) (n : ℕ) → length agents ≡ 32 → length told ≡ 32 → 32 ≤ n → mark_of told n ≡ mark_told (mark_of agents n)
told_past agents told n la lt h = get_or_past told n unmarked (subst (λ (k : ℕ). k ≤ n) (sym lt) h)
    ∙ sym (ap mark_told (get_or_past agents n unmarked (subst (λ (k : ℕ). k ≤ n) (sym la) h)))

told_each : (agents told : List AgentBegun) → length agents ≡ 32 → length told ≡ 32 → ((n : ℕ) → n < 32 → mark_of told n ≡ mark_told (mark_of agents n)) → (n : ℕ) → (n < 32) ⊎ (32 ≤ n) → mark_of told n ≡ mark_told (mark_of agents n)
told_each agents told la lt each n (inl h) = each n h
told_each agents told la lt each n (inr h) = told_past agents told n la lt h

pub told_all : (agents told : List AgentBegun) → length agents ≡ 32 → length told ≡ 32 → ((n : ℕ) → n < 32 → mark_of told n ≡ mark_told (mark_of agents n)) → (n : ℕ) → mark_of told n ≡ mark_told (mark_of agents n)
told_all agents told la lt each n = told_each agents told la lt each n (low_by n (nat_lt n 32) refl)
