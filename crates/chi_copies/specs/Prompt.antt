-- A log that is taken at the home, of which nothing is on its way: its observer beside that of a log as sent (docs/COPIES.md,
-- "Seen at the home").
use Rattle.std.specs.Prelude.{◌≡◌, ℕ, ◌<◌, Bool, true, false, ◌||◌, Option, Some, None, List, [], ◌∷◌, ⊤}
use Rattle.chi_observer.specs.declared.kinds.Snoop.{Snoop}
use Rattle.chi_observer.specs.declared.flits.Due.{Due}
use Rattle.chi_observer.specs.declared.flits.Due.TheVariants.{WriteData}
use Rattle.chi_observer.specs.declared.flits.Stores.{Stores}
use Rattle.chi_observer.specs.declared.flits.CacheFlit.{CacheFlit}
use Rattle.chi_observer.specs.declared.flits.HomeFlit.{HomeFlit}
use Rattle.chi_observer.specs.declared.flits.Flit.{Flit}
use Rattle.chi_observer.specs.declared.flits.Flit.TheVariants.{Up, Down}
use Rattle.chi_observer.specs.Rules.{looks, stores, is_acknowledging}
use Rattle.chi_copies.specs.Copies.{Held}
use Rattle.chi_copies.specs.Observed.{Observed, Sound, home_at, takes, next, any_of, fits_home, takes_home, next_home}
use Rattle.chi_copies.specs.Rules.{shows}
use Rattle.chi_copies.specs.Runs.{nothing_told, seen, Legal}
use Rattle.chi_copies.specs.declared.replies.Asked.{Asked}
use Rattle.chi_copies.specs.Arriving.{Member, snoop_of, steps, Received, nothing_received, due_then, count, takes_received, next_received, takes_given, next_given}
use Rattle.chi_copies.specs.Arriving.{any_of as any_member_of}
use Rattle.chi_copies.specs.declared.replies.Asked.TheVariants.{NoReply, AnswerTo, DataOf}

-- nothing of its agent is on its way
abbrev pub at_rest : Held → Member
at_rest h = record { held = h; request = None; reply = None }

-- the reply that the home awaits of an agent: the data that are due, or the answer to its snoop
abbrev pub answer_to : Option Snoop → Asked
answer_to None = NoReply
answer_to (Some snoop) = AnswerTo snoop

abbrev pub asked_by : Due → Option Snoop → Asked
asked_by (WriteData kind) q = DataOf kind
asked_by other q = answer_to q

-- the home knows the same of each agent, and no more of its own words; a CompAck that is due is on its way
pub record KnowsSame (o : Observed) (r : Received) : Type 0 where
  pub due : (n : ℕ) → r.due n ≡ due_then (o.public.due n)
  pub asked : (n : ℕ) → r.asked n ≡ asked_by (o.public.due n) (o.public.snooped n)
  pub snooped : (n : ℕ) → snoop_of (r.asked n) ≡ o.public.snooped n
  pub acks : (n : ℕ) → r.acks n ≡ count (is_acknowledging (o.public.due n))
  pub overtaken : (n : ℕ) → r.overtaken n ≡ 0
  pub duty : r.duty ≡ o.public.duty
  pub home : (p : ℕ) → p < 8 → (v : ℕ) → home_at r.home p ≡ Some v → home_at o.home p ≡ Some v

-- r thinks each copy possible that o thinks possible, with nothing on its way, and what an unseen step makes of it
pub record IsPrompt (o : Observed) (r : Received) : Type 0 where
  pub known : KnowsSame o r
  pub may : (n : ℕ) → n < 32 → (h : Held) (m : Member) → o.may n h ≡ true → steps (r.due n) (r.asked n) (at_rest h) m ≡ true → r.may n m ≡ true

-- a log at the home tells of no loads and stores
abbrev pub is_access : CacheFlit → Bool
is_access f = looks f.act || stores f.act

abbrev pub BeginsPrompt : Type 0
BeginsPrompt = (z : Stores) → IsPrompt (nothing_told z) nothing_received

-- what is taken of a log as sent is taken at the home at once
abbrev pub PromptFlitsAreTaken : Type 0
PromptFlitsAreTaken = (o : Observed) (r : Received) (f : CacheFlit) → Sound o → f.agent.0 < 32 → is_access f ≡ false → IsPrompt o r → takes o f ≡ true → takes_received r false f ≡ true

abbrev pub StaysPrompt : Type 0
StaysPrompt = (o : Observed) (r : Received) (f : CacheFlit) → Sound o → f.agent.0 < 32 → is_access f ≡ false → IsPrompt o r → takes o f ≡ true → IsPrompt (next o f) (next_received r false f)

-- where r thinks that the words of a flit of the home are the home's own, so does o
abbrev pub IsShown : Observed → Received → HomeFlit → Type 0
IsShown o r g = any_member_of (r.may g.agent.0) (λ m. shows g.grant m.held) ≡ true → any_of (o.may g.agent.0) (shows g.grant) ≡ true

abbrev pub StaysPromptGiven : Type 0
StaysPromptGiven = (o : Observed) (r : Received) (g : HomeFlit) → Sound o → g.agent.0 < 32 → IsPrompt o r → takes_home o g ≡ true → IsShown o r g → IsPrompt (next_home o g) (next_given r g)

-- what is taken of the home there is taken of a log as sent, but that its words may not be the home's where r doesn't know these
abbrev pub PromptGivenIsTaken : Type 0
PromptGivenIsTaken = (o : Observed) (r : Received) (g : HomeFlit) → Sound o → g.agent.0 < 32 → IsPrompt o r → takes_given r g ≡ true
    → (any_of (o.may g.agent.0) (shows g.grant) ≡ true → fits_home o.home g.shown ≡ true) → takes_home o g ≡ true

-- WHOLE LOGS, the newest flit first, each flit of which comes at once
abbrev pub arrived : List Flit → Received
arrived [] = nothing_received
arrived (Up f ∷ es) = next_received (arrived es) false f
arrived (Down g ∷ es) = next_given (arrived es) g

abbrev pub IsPromptLog : Stores → List Flit → Type 0
IsPromptLog z [] = ⊤
IsPromptLog z (Up f ∷ es) = IsPromptLog z es × (is_access f ≡ false)
IsPromptLog z (Down g ∷ es) = IsPromptLog z es × IsShown (seen z es) (arrived es) g

-- no flit of a cache is refused there behind a legal log, if it is legal
abbrev pub PromptLogsAreTaken : Type 0
PromptLogsAreTaken = (z : Stores) (f : CacheFlit) (es : List Flit) → Legal z (Up f ∷ es) → IsPromptLog z (Up f ∷ es) → takes_received (arrived es) false f ≡ true
