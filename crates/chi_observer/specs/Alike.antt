-- What nothing late bears on, and how it is judged then (docs/OBSERVER.md, "Seen at the home").
use Rattle.std.specs.Prelude.{◌≡◌, ◌<◌, ◌==◌, ◌&&◌, ℕ, Bool, true, false, not, Option, Some, None}
use Rattle.chi_observer.specs.declared.kinds.Snoop.{Snoop}
use Rattle.chi_observer.specs.declared.flits.Due.{Due}
use Rattle.chi_observer.specs.declared.flits.Due.TheVariants.{WriteData}
use Rattle.chi_observer.specs.declared.flits.Act.{Act}
use Rattle.chi_observer.specs.declared.flits.Act.TheVariants.{Request, CompAck, Load, Store}
use Rattle.chi_observer.specs.declared.flits.Flit.{Flit}
use Rattle.chi_observer.specs.declared.flits.Flit.TheVariants.{Up, Down}
use Rattle.chi_observer.specs.declared.arriving.Earlier.{Earlier}
use Rattle.chi_observer.specs.declared.arriving.Arriving.{Arriving}
use Rattle.chi_observer.specs.Worlds.{all_below}
use Rattle.chi_observer.specs.Lines.{is_taken}
use Rattle.chi_observer.specs.Arriving.{holds_none}
use Rattle.chi_observer.specs.Arrivals.{Arrived, Outcome, outcome}
use Rattle.chi_observer.specs.Arrivals.Outcome.{Taken, NotTaken, LeftOpen}

-- no request may have been sent before the last answers, no request is held, and it is known what the copy may be
abbrev pub is_none_earlier : Earlier → Bool
is_none_earlier e = not e.dirty && (not e.unique && not e.clean)

abbrev pub is_idle : Arriving → Bool
is_idle own = holds_none own.held && (not own.unsure && (not own.current && is_none_earlier own.earlier))

-- neither an answer nor write data are awaited of the agent of a request; a CompAck counted as sent before
abbrev pub is_writing : Due → Bool
is_writing (WriteData kind) = true
is_writing other = false

abbrev pub is_timely : Act → Due → Option Snoop → Bool
is_timely (Request kind) d None = not (is_writing d)
is_timely (Request kind) d (Some snoop) = false
is_timely CompAck d q = false
is_timely (Load word) d q = false
is_timely (Store word) d q = false
is_timely other d q = true

-- no CompAck is on its way, and no request is held
abbrev pub is_none_late : Arriving → Bool
is_none_late own = (own.acks == 0) && holds_none own.held

abbrev pub is_prompt : Arrived → Flit → Bool
is_prompt s (Up f) = is_idle (s.own f.agent.0) && is_timely f.act (s.line.seen.public.due f.agent.0) (s.line.seen.public.snooped f.agent.0)
is_prompt s (Down g) = not (s.own g.agent.0).delayed && all_below 32 (λ m. is_none_late (s.own m))

abbrev pub number_of : Flit → ℕ
number_of (Up f) = f.agent.0
number_of (Down g) = g.agent.0

abbrev pub verdict : Outcome → Option Bool
verdict (Taken s) = Some true
verdict NotTaken = Some false
verdict LeftOpen = None

-- such a flit is taken exactly where the observer of what is told takes it, and is a fault else
abbrev pub PromptIsJudgedAlike : Type 0
PromptIsJudgedAlike = (s : Arrived) (e : Flit) → (s.timed == 4294967295) ≡ false → number_of e < 32 → is_prompt s e ≡ true → verdict (outcome s e) ≡ Some (is_taken s.line e)
