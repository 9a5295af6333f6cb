-- A requester: its port and its account, and what its calls of the port did (docs/PROTOCOL.md, "A requester and its
-- calls").
use Rattle.std.specs.Prelude.{◌≡◌, ℕ, ◌<◌, ◌≤◌, List, [], length, replicate}
use Rattle.atomic_table.specs.Seated.{TableId}
use Rattle.chi_tracker.specs.declared.shape.Shape.{Shape}
use Rattle.chi_tracker.specs.Shape.{low}
use Rattle.chi_tracker.specs.Views.{PortView, has, new_port}
use Rattle.chi_tracker.specs.Steps.{no_shape}
use Rattle.chi_tracker.specs.Acts.{Act}
use Rattle.chi_tracker.specs.History.{IsAfter}
use Rattle.chi_tracker.specs.Conduct.{HasActed, Steps}
use Rattle.chi_tracker.specs.Calls.{nowhere, Owner}
use Rattle.chi_credit.specs.declared.slot.SlotRecord.{SlotRecord}
use Rattle.chi_credit.specs.Account.{all_idle, HasDue, HasEntries, IsWithinSeen}

-- a requester: its number, which tracker's its port is, the port's view, the tracker's history up to the
-- port's last step, its eight slots, and how many loads and stores each slice answered it
pub record RequesterState : Type 0 where
  pub number : ℕ
  pub table : TableId
  pub port : PortView
  pub history : List Act
  pub slots : List SlotRecord
  pub counts : List ℕ

-- what every requester keeps: the port is its own, of a tracker with so many entries of each type; the
-- Riding slots are no more than the seen credits, the credits due are those of its slots, and the entries
-- of its Admitted slots are those in the port's hand, each one of the tracker's
pub record RequesterKept (entries : List ℕ) (r : RequesterState) : Type 0 where
  pub near : r.number < 8
  pub who : r.port.who ≡ r.number
  pub sizes : r.port.shape.sizes ≡ entries
  pub shaped : low r.port.shape 4 ≤ 256
  pub slices : length r.counts ≡ 8
  pub eight : length r.slots ≡ 8
  pub within : IsWithinSeen r.slots r.port
  pub due : HasDue r.slots r.port
  pub hand : HasEntries r.slots r.port
  pub inside : (e : ℕ) → low r.port.shape 4 ≤ e → has e r.port ≡ 0

-- a requester that has done nothing yet
abbrev pub opening_requester : TableId → Shape → ℕ → RequesterState
opening_requester table shape n = record { number = n; table = table; port = new_port shape n; history = []; slots = all_idle; counts = replicate 8 0 }

-- a requester of no tracker
abbrev pub no_requester : RequesterState
no_requester = opening_requester nowhere no_shape 0

-- a requester's port, as the tracker sees it
abbrev pub owner : RequesterState → Owner
owner r = record { table = r.table; port = r.port; history = r.history }

-- what the requester knows of the tracker: a legal history leaves its port as it is
abbrev pub IsRunning : RequesterState → Type 0
IsRunning r = IsAfter r.history r.port

-- what the requester's port did
abbrev pub Acted : (Steps → Type 0) → RequesterState → RequesterState → Type 0
Acted A r r' = HasActed A (owner r) (owner r')

-- the port's view and the history that it knows become others, and all else stays
abbrev pub with_port : PortView → List Act → RequesterState → RequesterState
with_port port history r = record r { port = port; history = history }

-- port, history and slots become others, and all else stays
abbrev pub with_both : PortView → List Act → List SlotRecord → RequesterState → RequesterState
with_both port history slots r = record r { port = port; history = history; slots = slots }
