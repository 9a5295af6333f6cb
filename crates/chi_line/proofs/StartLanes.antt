-- What a start does to one lane: its agent's own, and every other.
use Rattle.std.specs.Prelude.{◌≡◌, ℕ, List, Bool, true, false, ◌==◌, Option, Some, None}
use Rattle.std.proofs.Common.{arith}
use Rattle.chi_flit.specs.declared.numbers.Agent.{Agent}
use Rattle.chi_flit.specs.declared.numbers.Slot.{Slot}
use Rattle.chi_flit.specs.declared.state.State.TheVariants.{I}
use Rattle.chi_flit.specs.declared.kind.Kind.{Kind}
use Rattle.chi_flit.specs.declared.kind.Kind.TheVariants.{Evict}
use Rattle.chi_flit.specs.declared.snoop.Snoop.{Snoop}
use Rattle.chi_flit.specs.declared.message.RspDown.TheVariants.{CompI, CompDBIDResp}
use Rattle.chi_flit.specs.Kind.{snoop_of}
use Rattle.chi_filter.specs.Filter.{owned_by}
use Rattle.chi_homeline.specs.declared.serving.Waiting.{Waiting}
use Rattle.chi_homeline.specs.declared.serving.Serving.TheVariants.{Idle, Snooping, AwaitingWriteData}
use Rattle.chi_line.specs.Clean.{IsCleanAgent}
use Rattle.chi_line.specs.Kept.{Lane, LaneKept, shares, invalidates}

-- the own lane where a snoop, or its want of anybody to ask, serves the request
pub snooping_own : (unique : Bool) (owner : Option Agent) (last : List ℕ) (agent : Agent) (request : Waiting) (x : Lane)
    → x.waiting ≡ Some request → (agent.0 == agent.0) ≡ true
    → LaneKept Idle unique owner last agent.0 x
    → LaneKept (Snooping agent request.kind request.slot) unique owner last agent.0 (record x { waiting = None; awaited = false })
snooping_own unique owner last agent request x is itself k = search (arith, k)

-- the lane of another that isn't asked
pub snooping_other : (unique : Bool) (owner : Option Agent) (last : List ℕ) (agent : Agent) (kind : Kind) (slot : Slot) (m : ℕ) (x : Lane)
    → (agent.0 == m) ≡ false → (invalidates (snoop_of kind) ≡ true → x.named ≡ false)
    → LaneKept Idle unique owner last m x
    → LaneKept (Snooping agent kind slot) unique owner last m (record x { awaited = false })
snooping_other unique owner last agent kind slot m x other unnamed k = search (arith, k)

-- the lane of another that is asked
pub snooping_asked : (unique : Bool) (owner : Option Agent) (last : List ℕ) (agent : Agent) (kind : Kind) (slot : Slot) (snoop : Snoop) (m : ℕ) (x : Lane)
    → (agent.0 == m) ≡ false → snoop_of kind ≡ Some snoop → x.named ≡ true
    → (shares (Some snoop) ≡ true → owned_by owner m ≡ false → unique ≡ true)
    → LaneKept Idle unique owner last m x
    → LaneKept (Snooping agent kind slot) unique owner last m (record x { awaited = true; flits = record x.flits { snp = Some snoop } })
snooping_asked unique owner last agent kind slot snoop m x other is named one k = search (arith, k)

-- the own lane of a copy-back, whose write data is asked for
pub writing_own : (unique : Bool) (owner : Option Agent) (last : List ℕ) (agent : Agent) (request : Waiting) (x : Lane)
    → x.waiting ≡ Some request → (agent.0 == agent.0) ≡ true
    → LaneKept Idle unique owner last agent.0 x
    → LaneKept (AwaitingWriteData agent request.kind request.slot) unique owner last agent.0 (record x { waiting = None; flits = record x.flits { rsp_down = Some CompDBIDResp } })
writing_own unique owner last agent request x is itself k = search (arith, k)

pub writing_other : (unique : Bool) (owner : Option Agent) (last : List ℕ) (agent : Agent) (kind : Kind) (slot : Slot) (m : ℕ) (x : Lane)
    → (agent.0 == m) ≡ false
    → LaneKept Idle unique owner last m x
    → LaneKept (AwaitingWriteData agent kind slot) unique owner last m x
writing_other unique owner last agent kind slot m x other k = search (arith, k)

-- the own lane of an Evict, whose agent leaves the filter: any flag, since the copy is I
pub evicting_own : (unique unique' : Bool) (owner owner' : Option Agent) (last : List ℕ) (n : ℕ) (request : Waiting) (x : Lane)
    → x.waiting ≡ Some request → request.kind ≡ Evict → x.rn.state ≡ I → owned_by owner' n ≡ false
    → LaneKept Idle unique owner last n x
    → LaneKept Idle unique' owner' last n (record x { waiting = None; named = false; flits = record x.flits { rsp_down = Some CompI } })
evicting_own unique unique' owner owner' last n request x is evicts none unowned k = search (arith, k)

-- the lane of another: the flag goes with its only member
pub evicting_other : (unique unique' : Bool) (owner owner' : Option Agent) (last : List ℕ) (m : ℕ) (x : Lane)
    → (unique ≡ true → x.named ≡ true → unique' ≡ true) → (unique' ≡ true → unique ≡ true)
    → owned_by owner' m ≡ owned_by owner m
    → LaneKept Idle unique owner last m x
    → LaneKept Idle unique' owner' last m x
evicting_other unique unique' owner owner' last m x stays was owners k = search (arith, k)

-- a request that snoops, had it nobody to ask
pub asking_own : (unique : Bool) (owner : Option Agent) (last : List ℕ) (agent : Agent) (request : Waiting) (x : Lane)
    → x.waiting ≡ Some request → (agent.0 == agent.0) ≡ true
    → LaneKept Idle unique owner last agent.0 x
    → LaneKept (Snooping agent request.kind request.slot) unique owner last agent.0 (record x { waiting = None })
asking_own unique owner last agent request x is itself k = search (arith, k)

pub asking_other : (unique : Bool) (owner : Option Agent) (last : List ℕ) (agent : Agent) (kind : Kind) (slot : Slot) (m : ℕ) (x : Lane)
    → (agent.0 == m) ≡ false → (invalidates (snoop_of kind) ≡ true → x.named ≡ false)
    → LaneKept Idle unique owner last m x
    → LaneKept (Snooping agent kind slot) unique owner last m x
asking_other unique owner last agent kind slot m x other unnamed k = search (arith, k)

-- on an idle line the owner's copy is SD, so the owner is named
pub idle_owner : (unique : Bool) (owner : Option Agent) (last : List ℕ) (n : ℕ) (x : Lane)
    → owned_by owner n ≡ true → LaneKept Idle unique owner last n x → x.named ≡ true
idle_owner unique owner last n x owns k = search (arith, k)

-- an agent that isn't named, where it would be flagged or the owner, has no dirty copy there, and no dirty
-- data is on its way
pub idle_clean : (unique : Bool) (owner : Option Agent) (last : List ℕ) (n : ℕ) (x : Lane)
    → (unique ≡ true → x.named ≡ false) → (owned_by owner n ≡ true → x.named ≡ false)
    → LaneKept Idle unique owner last n x → IsCleanAgent x.rn.state x.flits.dat_up
idle_clean unique owner last n x unflagged unowned k = search (arith, k)

-- nor has one whose copy is I
pub none_clean : (unique : Bool) (owner : Option Agent) (last : List ℕ) (n : ℕ) (x : Lane)
    → x.rn.state ≡ I → LaneKept Idle unique owner last n x → IsCleanAgent x.rn.state x.flits.dat_up
none_clean unique owner last n x none k = search (arith, k)
