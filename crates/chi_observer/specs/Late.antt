-- Caches whose flits are on their way to the home, by their copies alone, and what a log that is taken at the home says of
-- them (docs/OBSERVER.md, "Seen at the home").
use Rattle.std.specs.Prelude.{◌≡◌, ◌≢◌, ◌⊎◌, ℕ, suc, ◌<◌, ◌-◌, ◌==◌, ◌||◌, ◌&&◌, Bool, true, false, not, Option, Some, None, List, [], ◌∷◌}
use Rattle.chi_observer.specs.declared.kinds.Kind.{Kind}
use Rattle.chi_observer.specs.declared.kinds.Snoop.{Snoop}
use Rattle.chi_observer.specs.declared.flits.Due.{Due}
use Rattle.chi_observer.specs.declared.flits.Due.TheVariants.{Nothing}
use Rattle.chi_observer.specs.declared.flits.Act.{Act}
use Rattle.chi_observer.specs.declared.flits.Act.TheVariants.{Request, Resend, SnpResp, CompAck, CopyBackWrData, NonCopyBackWrData}
use Rattle.chi_observer.specs.declared.flits.Grant.{Grant}
use Rattle.chi_observer.specs.declared.flits.Grant.TheVariants.{RetryAck}
use Rattle.chi_observer.specs.declared.flits.CacheFlit.{CacheFlit}
use Rattle.chi_observer.specs.declared.flits.Flit.{Flit}
use Rattle.chi_observer.specs.declared.flits.Flit.TheVariants.{Up, Down}
use Rattle.chi_observer.specs.Copies.{Copy, Held, compatible, is_clean, is_unique}
use Rattle.chi_observer.specs.Copies.Copy.{Invalid, UniqueDirty}
use Rattle.chi_observer.specs.Rules.{acts, allows, due_after, due_granted, granted, is_free, is_resending, lets_go, needs_quiet, plain, snooped_after, snooped_granted}
use Rattle.chi_observer.specs.Observed.{words_fit}
use Rattle.chi_observer.specs.Arriving.{holds_none}
use Rattle.chi_observer.specs.Arrivals.{Arrived, Outcome, nothing_arrived, outcome, settled}
use Rattle.chi_observer.specs.Arrivals.Outcome.{Taken, NotTaken, LeftOpen}

-- its copy, what is due of its request, and the snoop that it hasn't answered; and of what it has sent on its way: a request, one
-- that is sent again, an answer or write data, and so many CompAcks
pub record Cache : Type 0 where
  pub held : Held
  pub due : Due
  pub snooped : Option Snoop
  pub request : Option Kind
  pub again : Option Kind
  pub answer : Option Act
  pub acks : ℕ

abbrev pub new_cache : Cache
new_cache = record { held = plain Invalid; due = Nothing; snooped = None; request = None; again = None; answer = None; acks = 0 }

-- HIDDEN STEPS
abbrev pub with_held : Cache → Held → Cache
with_held c h = record { held = h; due = c.due; snooped = c.snooped; request = c.request; again = c.again; answer = c.answer; acks = c.acks }

abbrev pub with_copy : Cache → Copy → Cache
with_copy c s = record { held = record { copy = s; cancelled = c.held.cancelled }; due = c.due; snooped = c.snooped; request = c.request; again = c.again; answer = c.answer; acks = c.acks }

abbrev pub Stores : Cache → Cache → Type 0
Stores c c' = (is_free c.due c.held ≡ true) × (is_unique c.held.copy ≡ true) × (c' ≡ with_copy c UniqueDirty)

abbrev pub Drops : Cache → Cache → Type 0
Drops c c' = (is_free c.due c.held ≡ true) × (is_clean c.held.copy ≡ true) × (c' ≡ with_copy c Invalid)

-- a request that was retried is cancelled
abbrev pub Cancels : Cache → Cache → Type 0
Cancels c c' = (is_resending c.due ≡ true) × (c.held.cancelled ≡ false) × (c' ≡ with_held c (record { copy = c.held.copy; cancelled = true }))

-- a flit is sent: no second one of its sort while the first is on its way, for none is asked for before it is here
abbrev pub is_none : {A : Type 0} → Option A → Bool
is_none None = true
is_none (Some x) = false

abbrev pub is_room : Act → Cache → Bool
is_room (Request kind) c = is_none c.request
is_room (Resend kind) c = is_none c.again
is_room CompAck c = true
is_room (SnpResp answer) c = is_none c.answer
is_room (CopyBackWrData form) c = is_none c.answer
is_room NonCopyBackWrData c = is_none c.answer
is_room other c = false

abbrev pub sent : Act → Held → Cache → Cache
sent (Request kind) h c = record { held = h; due = due_after (Request kind) c.due; snooped = c.snooped; request = Some kind; again = c.again; answer = c.answer; acks = c.acks }
sent (Resend kind) h c = record { held = h; due = due_after (Resend kind) c.due; snooped = c.snooped; request = c.request; again = Some kind; answer = c.answer; acks = c.acks }
sent CompAck h c = record { held = h; due = due_after CompAck c.due; snooped = c.snooped; request = c.request; again = c.again; answer = c.answer; acks = suc c.acks }
sent a h c = record { held = h; due = due_after a c.due; snooped = snooped_after a c.snooped; request = c.request; again = c.again; answer = Some a; acks = c.acks }

pub record Sends (c c' : Cache) : Type 0 where
  pub act : Act
  pub left : Held
  pub room : is_room act c ≡ true
  pub allowed : allows act c.snooped ≡ true
  pub acted : acts act (lets_go c.snooped) c.due c.held ≡ Some left
  pub after : c' ≡ sent act left c

pub data Unseen : Cache → Cache → Type 0 where
  Stay : {c : Cache} → Unseen c c
  Step : {c d e : Cache} → Stores c d ⊎ (Drops c d ⊎ (Cancels c d ⊎ Sends c d)) → Unseen d e → Unseen c e

-- FLITS OF A LOG
abbrev pub IsOnWay : Act → Cache → Type 0
IsOnWay (Request kind) c = c.request ≡ Some kind
IsOnWay (Resend kind) c = c.again ≡ Some kind
IsOnWay CompAck c = 0 < c.acks
IsOnWay (SnpResp answer) c = c.answer ≡ Some (SnpResp answer)
IsOnWay (CopyBackWrData form) c = c.answer ≡ Some (CopyBackWrData form)
IsOnWay NonCopyBackWrData c = c.answer ≡ Some NonCopyBackWrData
IsOnWay other c = ⊥

abbrev pub came : Act → Cache → Cache
came (Request kind) c = record { held = c.held; due = c.due; snooped = c.snooped; request = None; again = c.again; answer = c.answer; acks = c.acks }
came (Resend kind) c = record { held = c.held; due = c.due; snooped = c.snooped; request = c.request; again = None; answer = c.answer; acks = c.acks }
came CompAck c = record { held = c.held; due = c.due; snooped = c.snooped; request = c.request; again = c.again; answer = c.answer; acks = c.acks - 1 }
came other c = record { held = c.held; due = c.due; snooped = c.snooped; request = c.request; again = c.again; answer = None; acks = c.acks }

-- those of the home act at once: what its agent does later it does unseen
abbrev pub given_to : Grant → Cache → Cache
given_to g c = record { held = granted g c.due c.held; due = due_granted g c.due; snooped = snooped_granted g c.snooped; request = c.request; again = c.again; answer = c.answer; acks = c.acks }

abbrev pub Receives : Bool → Act → Cache → Cache → Type 0
Receives true a c c' = IsOnWay a c × (c' ≡ came a c)
Receives false a c c' = c' ≡ c

abbrev pub given_if : Bool → Grant → Cache → Cache
given_if true g c = given_to g c
given_if false g c = c

-- the caches of agent n that a log, the newest flit first, and hidden steps leave
abbrev pub Leaves : ℕ → List Flit → Cache → Type 0
Leaves n [] c = Unseen new_cache c
Leaves n (Up f ∷ es) c = (before : Cache) × (got : Cache) × Leaves n es before × Receives (f.agent.0 == n) f.act before got × Unseen got c
Leaves n (Down g ∷ es) c = (before : Cache) × Leaves n es before × Unseen (given_if (g.agent.0 == n) g.grant before) c

-- a log that is taken: no request is retried or completed ahead of an answer or write data of its agent, or retried while the copy
-- is unsure; and none is sent again ahead of an answer
abbrev pub is_retry : Grant → Bool
is_retry RetryAck = true
is_retry other = false

abbrev pub is_again : Act → Bool
is_again (Resend kind) = true
is_again other = false

abbrev pub is_orderly : Arrived → Flit → Bool
is_orderly s (Up f) = not (is_again f.act) || is_none (s.line.seen.public.snooped f.agent.0)
is_orderly s (Down g) = needs_quiet g.grant || ((not (is_retry g.grant) || not (s.own g.agent.0).unsure) && (holds_none (s.own g.agent.0).held && is_none (s.line.seen.public.snooped g.agent.0)))

abbrev pub Comes : List Flit → Arrived → Type 0
Comes [] s = s ≡ nothing_arrived
Comes (e ∷ es) s = (before : Arrived) × Comes es before × (is_orderly before e ≡ true) × (outcome before e ≡ Taken s)

-- a flit of a cache that is on its way is a fault by its words alone, but for a request that is sent again, which words may tell
-- to be cancelled
abbrev pub is_fault : Outcome → Bool
is_fault (Taken s) = false
is_fault NotTaken = true
is_fault LeftOpen = false

abbrev pub FlitsOnTheirWayAreTaken : Type 0
FlitsOnTheirWayAreTaken = (es : List Flit) (s : Arrived) (f : CacheFlit) (c : Cache) → Comes es s → f.agent.0 < 32 → Leaves f.agent.0 es c → is_again f.act ≡ false → IsOnWay f.act c → words_fit (settled s f).seen f ≡ true → is_fault (outcome s (Up f)) ≡ false

-- and such caches' copies go together: none stands beside a unique one, and one is dirty
abbrev pub CopiesGoTogether : Type 0
CopiesGoTogether = (es : List Flit) (s : Arrived) (n m : ℕ) (c d : Cache) → Comes es s → n < 32 → m < 32 → n ≢ m → Leaves n es c → Leaves m es d → compatible c.held.copy d.held.copy ≡ true
