-- Moments at which no other copy was dirty, or the home had the value last stored, as the observer keeps them
-- (docs/COPIES.md, "What is kept").
use Rattle.std.specs.Prelude.{ℕ, Bool, false, ◌&&◌, ◌||◌, ◌==◌, not, if◌then◌else◌}
use Rattle.chi_observer.specs.declared.flits.HomeFlit.{HomeFlit}
use Rattle.chi_observer.specs.declared.flits.Flit.{Flit}
use Rattle.chi_observer.specs.declared.flits.Flit.TheVariants.{Up, Down}
use Rattle.chi_observer.specs.Copies.{is_dirty}
use Rattle.chi_observer.specs.Rules.{is_request, awaits_moment, reads_once, needs_moment}
use Rattle.chi_copies.specs.Worlds.{all_below}
use Rattle.chi_copies.specs.Observed.{Observed, any_of, moved, given}

-- right behind a flit of either side, before hidden steps
abbrev pub behind : Observed → Flit → Observed
behind o (Up f) = moved o f
behind o (Down g) = given o g

-- an agent's request
abbrev pub is_issue : Flit → ℕ → Bool
is_issue (Up f) n = is_request f.act && n == f.agent.0
is_issue (Down g) n = false

-- no other copy can be dirty, and the value isn't lost
abbrev pub none_dirty : Observed → ℕ → Bool
none_dirty o n = all_below 32 (λ m. (m == n || not (any_of (o.may m) (λ h. is_dirty h.copy))) && not (any_of (o.may m) (λ h. h.stored && not (is_dirty h.copy))))

-- the home's own copy is surely the value last stored
abbrev pub home_is_last : Observed → Bool
home_is_last o = all_below 32 (λ m. not (any_of (o.may m) (λ h. h.stored)))

-- the moment of n's ReadOnce, or of its CleanShared
abbrev pub is_moment : Observed → ℕ → Bool
is_moment o n = if reads_once (o.public.due n) then home_is_last o else none_dirty o n

-- of each agent whose CleanShared or ReadOnce is open: there was its moment since its issue
abbrev pub shown_after : Observed → Flit → (ℕ → Bool) → ℕ → Bool
shown_after o e shown n = awaits_moment ((behind o e).public.due n) && ((not (is_issue e n) && shown n) || is_moment (behind o e) n)

abbrev pub has_moment : Observed → (ℕ → Bool) → HomeFlit → Bool
has_moment o shown g = not (needs_moment g.grant (o.public.due g.agent.0)) || shown g.agent.0
