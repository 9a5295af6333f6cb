-- An action of an agent that sends a flit of its cache: by what changes of its requester and its cells.
use Rattle.std.proofs.Common.{arith, ◌≡◌, ◌⊎◌, ℕ, ◌<◌, List, refl}
use Rattle.std.specs.Prelude.{Bool, true, false, Option, None, option_map}
use Rattle.chi_flit.specs.declared.numbers.Agent.{Agent}
use Rattle.chi_wires.specs.declared.cells.Cells.{Cells}
use Rattle.chi_wires.specs.Cell.{no_flits}
use Rattle.chi_rnline.specs.Rn.{Rn, no_line}
use Rattle.chi_line.specs.LineState.{LineState}
use Rattle.chi_line.specs.Kept.{Kept, Lane, lane}
use Rattle.chi_line.proofs.Frame.{Moves, Puts, moves_by, nothing_waiting, puts_nothing}
use Rattle.chi_observer.specs.declared.kinds.Snoop.{Snoop as SeenSnoop}
use Rattle.chi_observer.specs.declared.told.Told.{Told}
use Rattle.chi_observer.specs.declared.flits.Due.{Due}
use Rattle.chi_observer.specs.declared.flits.Due.TheVariants.{Nothing, Resending}
use Rattle.chi_observer.specs.declared.flits.Act.{Act}
use Rattle.chi_observer.specs.declared.flits.Stores.{Stores}
use Rattle.chi_observer.specs.Copies.{Copy, is_unique, same}
use Rattle.chi_observer.specs.Copies.Copy.{Invalid}
use Rattle.chi_observer.specs.Rules.{due_after, is_free, is_resending, may_be_free, snooped_after}
use Rattle.chi_observer.specs.Tables.{Known, may_drift, reach, strongest, told_behind}
use Rattle.chi_observer.specs.Observed.{Observed, next, takes}
use Rattle.chi_conformity.specs.Seen.{snoop_seen}
use Rattle.chi_conformity.proofs.Held.{DueIs, Stands, is_given_up, is_gone, is_shared, is_within}
use Rattle.chi_conformity.proofs.Flits.{Laws, MaySend, cache_flit, flit_sent}
use Rattle.chi_conformity.proofs.Lanes.{beside_sent}
use Rattle.chi_conformity.proofs.Told.{no}

-- a requester and its cells are others
pub moves_parts : (s : LineState) (requesters : List Rn) (flits : List Cells) (n : ℕ) (r : Rn) (c : Cells)
    → Puts no_line s.requesters requesters n r → Puts no_flits s.flits flits n c
    → Moves s (record s { requesters = requesters; flits = flits }) n (record (lane s n) { rn = r; flits = c })
moves_parts s requesters flits n r c rs fs = moves_by s _ n _ rs fs
    (puts_nothing false s.home.filter.named n) (puts_nothing false s.home.awaited n) (puts_nothing nothing_waiting s.home.waiting n)

pub low_agent : (n : ℕ) → n < 8 → n < 32
low_agent n low = omega arith

-- what is told then is above what the lane is then
pub record Tells (up : Bool) (x : Lane) (r : Rn) (c : Cells) (d' : Due) (q' : Option SeenSnoop) (t t' : Told) : Type 0 where
  pub within : is_within t t' x.rn.state ≡ true
  pub due : DueIs r.pending c.req c.rsp_down c.dat_down d'
  pub snoop : q' ≡ option_map snoop_seen c.snp
  pub gone : is_gone up r.pending c.rsp_up c.dat_up ≡ true → (is_gone up x.rn.pending x.flits.rsp_up x.flits.dat_up ≡ true) ⊎ (same (strongest t') Invalid ≡ true)
  pub shared : is_shared c.rsp_up c.dat_up ≡ true → (is_shared x.flits.rsp_up x.flits.dat_up ≡ true) ⊎ (is_unique (strongest t') ≡ false)

-- the flit is taken, and all stands then
abbrev pub Sent : Observed → LineState → List ℕ → Agent → Act → List ℕ → Type 0
Sent o s last agent act shown = (takes o (cache_flit agent act shown) ≡ true) × Stands last s (next o (cache_flit agent act shown))

pub acted : Laws → (o : Observed) (s : LineState) (last last' : List ℕ) (agent : Agent) (requesters : List Rn) (flits : List Cells) (r : Rn) (c : Cells) (act : Act) (shown : List ℕ)
    → agent.0 < 8 → Kept last s → Stands last s o
    → Puts no_line s.requesters requesters agent.0 r → Puts no_flits s.flits flits agent.0 c
    → MaySend (o.public.snooped agent.0) (o.public.due agent.0) (lane s agent.0) (record (lane s agent.0) { rn = r; flits = c }) last last' act shown
    → Tells (is_given_up s.home.serving) (lane s agent.0) r c (due_after act (o.public.due agent.0)) (snooped_after act (o.public.snooped agent.0)) (o.told agent.0).told (told_behind act (o.public.due agent.0) (o.told agent.0).told)
    → Sent o (record s { requesters = requesters; flits = flits }) last' agent act shown
acted laws o s last last' agent requesters flits r c act shown low kept stands rs fs can tells =
    flit_sent laws o s (record s { requesters = requesters; flits = flits }) last last' agent (record (lane s agent.0) { rn = r; flits = c }) act shown
    (low_agent agent.0 low) (moves_parts s requesters flits agent.0 r c rs fs) refl stands can
    (beside_sent s.home.serving s.home.filter.unique s.home.filter.owner last agent.0 (lane s agent.0) r c _ _ _ _ _ _ (kept.lanes agent.0 low) (stands.lanes agent.0)
    tells.within tells.due tells.snoop tells.gone tells.shared)

-- WHERE A REQUEST IS: cells that are empty
pub record Empty (x : Lane) : Type 0 where
  pub req : x.flits.req ≡ None
  pub response : x.flits.rsp_down ≡ None
  pub given : x.flits.dat_down ≡ None

-- nothing is pending of a copy
pub free_held : (d : Due) (s : Copy) → may_be_free d ≡ true → is_free d (record { copy = s; cancelled = is_resending d }) ≡ true
free_held Nothing s h = refl
free_held (Resending k) s h = refl
free_held other s h = no h

pub free_reach : (z : Stores) (d : Due) (k : Known) (s : Copy) → may_be_free d ≡ true → reach z d k (record { copy = s; cancelled = is_resending d }) ≡ true → may_drift z k.told s ≡ true
free_reach z Nothing k s h r = r
free_reach z (Resending kind) k s h r = r
free_reach z other k s h r = no h
