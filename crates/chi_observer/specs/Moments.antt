-- Moments at which no other copy was dirty, or the home had the value last stored, as the observer keeps them
-- (docs/OBSERVER.md, "Flits of the home").
use Rattle.std.specs.Prelude.{ℕ, Bool, false, ◌&&◌, ◌||◌, ◌==◌, not, if◌then◌else◌}
use Rattle.chi_observer.specs.declared.flits.HomeFlit.{HomeFlit}
use Rattle.chi_observer.specs.declared.flits.Flit.{Flit}
use Rattle.chi_observer.specs.declared.flits.Flit.TheVariants.{Up, Down}
use Rattle.chi_observer.specs.declared.flits.Due.{Due}
use Rattle.chi_observer.specs.declared.flits.Stores.{Stores}
use Rattle.chi_observer.specs.Copies.{is_unique, is_dirty}
use Rattle.chi_observer.specs.Rules.{hides_stores, looks, is_request, needs_quiet, awaits_moment, reads_once, opens_moment as opens_by, needs_moment}
use Rattle.chi_observer.specs.Tables.{Known, most}
use Rattle.chi_observer.specs.Worlds.{all_below}
use Rattle.chi_observer.specs.Observed.{Observed, differs, next_as, next_home}

-- what is kept behind a flit of either side; d: its data are known to be others than the value
abbrev pub after_as : Observed → Flit → Bool → Observed
after_as o (Up f) d = next_as o f (d || differs o f)
after_as o (Down g) d = next_home o g

abbrev pub after : Observed → Flit → Observed
after o e = after_as o e false

-- an agent's request
abbrev pub is_issue : Flit → ℕ → Bool
is_issue (Up f) n = is_request f.act && n == f.agent.0
is_issue (Down g) n = false

-- right behind it the copy is as it is told: a load doesn't tell that nothing was stored, and a snoop tells of none
abbrev pub tells_of : Flit → ℕ → Bool
tells_of (Up f) n = n == f.agent.0 && not (looks f.act)
tells_of (Down g) n = n == g.agent.0 && not (needs_quiet g.grant)

-- there may have been a store that nobody saw; told: the last flit told of the copy
abbrev pub may_be_stored : Stores → Due → Known → Bool → Bool
may_be_stored z d k told = not told && (hides_stores z d && is_unique (most k))

abbrev pub may_be_dirty : Stores → Due → Known → Bool → Bool
may_be_dirty z d k told = is_dirty (most k) || may_be_stored z d k told

-- right behind the flit, behind which o is kept, no other copy can be dirty, and the value isn't lost
abbrev pub none_dirty : Observed → Flit → ℕ → Bool
none_dirty o e n = (is_dirty (most (o.told n)) || o.current) && all_below 32 (λ m. m == n || not (may_be_dirty o.public.stores (o.public.due m) (o.told m) (tells_of e m)))

-- and the home's own copy is surely the value last stored
abbrev pub home_is_last : Observed → Flit → Bool
home_is_last o e = o.current && all_below 32 (λ m. not (may_be_stored o.public.stores (o.public.due m) (o.told m) (tells_of e m)))

-- the moment of n's ReadOnce, or of its CleanShared
abbrev pub is_moment : Observed → Flit → ℕ → Bool
is_moment o e n = if reads_once (o.public.due n) then home_is_last o e else none_dirty o e n

-- of each agent whose CleanShared or ReadOnce is open: there was its moment since its issue
abbrev pub shown_after : Observed → Flit → (ℕ → Bool) → ℕ → Bool
shown_after o e shown n = awaits_moment (o.public.due n) && ((not (is_issue e n) && shown n) || is_moment o e n)

-- some such request may be open
abbrev pub opens_moment : Flit → Bool
opens_moment (Up f) = opens_by f.act
opens_moment (Down g) = false

abbrev pub waits_after : Observed → Flit → Bool → Bool
waits_after o e waits = opens_moment e || (waits && not (all_below 32 (λ m. not (awaits_moment (o.public.due m)))))

abbrev pub has_moment : Observed → (ℕ → Bool) → HomeFlit → Bool
has_moment o shown g = not (needs_moment g.grant (o.public.due g.agent.0)) || shown g.agent.0
