-- Each agent counts as one whose request is sent; and what is doubtful then.
use Rattle.std.proofs.Common.{rules, arith, ◌≡◌, ◌⊎◌, inl, inr, ℕ, ◌<◌, ◌≤◌, List, length, refl, sym, subst, ap, ◌∙◌}
use Rattle.std.proofs.Math.Path.{fun_ext}
use Rattle.std.proofs.lemmas.List.{get_or_past}
use Rattle.std.specs.Prelude.{replicate, nat_lt, Bool, true, false, ◌&&◌, ◌||◌, not, Option, if◌then◌else◌}
use Rattle.chi_observer.specs.declared.kinds.Snoop.{Snoop}
use Rattle.chi_observer.specs.declared.flits.Due.{Due}
use Rattle.chi_observer.specs.declared.flits.HomeFlit.{HomeFlit}
use Rattle.chi_observer.specs.declared.flits.Flit.TheVariants.{Down}
use Rattle.chi_observer.specs.declared.observer.AgentSeen.{AgentSeen}
use Rattle.chi_observer.specs.declared.observer.Observer.{Observer}
use Rattle.chi_observer.specs.declared.observer.Reason.{Reason}
use Rattle.chi_observer.specs.declared.arriving.Arriving.{Arriving}
use Rattle.chi_observer.specs.Tables.{Known}
use Rattle.chi_observer.specs.Worlds.{all_below}
use Rattle.chi_observer.specs.Lines.{Watched, agent_of, is_reason, is_taken, known_of, nobody, shown_of, watched}
use Rattle.chi_observer.specs.Arriving.{nobody_arriving}
use Rattle.chi_observer.specs.Doubts.{may_tell_value, supposed, supposed_agent}
use Rattle.chi_observer.specs.Arrivals.{Arrived, arriving_of, is_doubtful, is_late_at, line_at_most}

-- past the agents there is nobody
low_by : (n : ℕ) (b : Bool) → nat_lt n 32 ≡ b → (n < 32) ⊎ (32 ≤ n)
low_by n true h = inl (search (rules, arith))
low_by n false h = inr (search (rules, arith))

past : (agents seen : List AgentSeen) (own : List Arriving) (n : ℕ) → length agents ≡ 32 → length seen ≡ 32 → length own ≡ 32 → 32 ≤ n → agent_of agents n ≡ supposed_agent (arriving_of own n) (agent_of seen n)
past agents seen own n la ls lo h = get_or_past agents n nobody (subst (λ (k : ℕ). k ≤ n) (sym la) h)
    ∙ sym (ap (λ (a : AgentSeen). supposed_agent (arriving_of own n) a) (get_or_past seen n nobody (subst (λ (k : ℕ). k ≤ n) (sym ls) h))
    ∙ ap (λ (o : Arriving). supposed_agent o nobody) (get_or_past own n nobody_arriving (subst (λ (k : ℕ). k ≤ n) (sym lo) h)))

each : (agents seen : List AgentSeen) (own : List Arriving) → length agents ≡ 32 → length seen ≡ 32 → length own ≡ 32 → ((m : ℕ) → m < 32 → agent_of agents m ≡ supposed_agent (arriving_of own m) (agent_of seen m)) → (n : ℕ) → (n < 32) ⊎ (32 ≤ n) → agent_of agents n ≡ supposed_agent (arriving_of own n) (agent_of seen n)
each agents seen own la ls lo here n (inl h) = here n h
each agents seen own la ls lo here n (inr h) = past agents seen own n la ls lo h

pub each_agent : (agents seen : List AgentSeen) (own : List Arriving) → length agents ≡ 32 → length seen ≡ 32 → length own ≡ 32 → ((m : ℕ) → m < 32 → agent_of agents m ≡ supposed_agent (arriving_of own m) (agent_of seen m)) → (n : ℕ) → agent_of agents n ≡ supposed_agent (arriving_of own n) (agent_of seen n)
each_agent agents seen own la ls lo here n = each agents seen own la ls lo here n (low_by n (nat_lt n 32) refl)

-- the line
abbrev line_as : (ℕ → Due) → (ℕ → Option Snoop) → (ℕ → Known) → Bool → (ℕ → Bool) → Observer → Watched
line_as due snooped told current shown s = record { seen = record { public = record { stores = s.stores; due = due; snooped = snooped; duty = s.duty; thrown = s.thrown }; told = told; home = s.home; current = current }; waits = s.waits; shown = shown }

pub supposed_as : (s : Observer) (agents : List AgentSeen) (own : List Arriving) (current : Bool) → ((n : ℕ) → agent_of agents n ≡ supposed_agent (arriving_of own n) (agent_of s.agents n))
    → current ≡ (s.current || not (all_below 32 (λ n. not (may_tell_value (arriving_of own n) (agent_of s.agents n).due))))
    → line_as (λ n. (agent_of agents n).due) (λ n. (agent_of agents n).snooped) (λ n. known_of (agent_of agents n)) current (λ n. shown_of (replicate 32 true) n) s ≡ supposed (watched s) (λ n. arriving_of own n)
supposed_as s agents own current here hc = λ i. line_as
    (fun_ext (λ (n : ℕ). ap (λ (a : AgentSeen). a.due) (here n)) i)
    (fun_ext (λ (n : ℕ). ap (λ (a : AgentSeen). a.snooped) (here n)) i)
    (fun_ext (λ (n : ℕ). ap known_of (here n)) i)
    (hc i)
    (λ n. shown_of (replicate 32 true) n)
    s

-- what is doubtful
pub doubt_is : (s : Arrived) (g : HomeFlit) (w : Watched) (taken : Bool) → true ≡ is_late_at s g → taken ≡ is_taken w (Down g) → w ≡ supposed s.line s.own → is_doubtful s g ≡ taken
doubt_is s g w taken hl ht hw =
    ap (λ (b : Bool). b && is_taken (supposed s.line s.own) (Down g)) (sym hl)
    ∙ ap (λ (z : Watched). is_taken z (Down g)) (sym hw)
    ∙ sym ht

pub reason_is : (s : Arrived) (g : HomeFlit) (w : Watched) (reason : Reason) → true ≡ is_late_at s g → w ≡ supposed s.line s.own → is_reason w (Down g) reason ≡ true → is_doubtful s g ≡ false → (is_reason (line_at_most s g) (Down g) reason && not (is_doubtful s g)) ≡ true
reason_is s g w reason hl hw hr hd =
    ap (λ (b : Bool). is_reason (line_at_most s g) (Down g) reason && not b) hd
    ∙ ap (λ (b : Bool). is_reason (if b then supposed s.line s.own else s.line) (Down g) reason && true) (sym hl)
    ∙ ap (λ (z : Watched). is_reason z (Down g) reason && true) (sym hw)
    ∙ ap (λ (b : Bool). b && true) hr
