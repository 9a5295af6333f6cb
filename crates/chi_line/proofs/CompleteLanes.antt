-- What a completion does to one lane: its agent's own, and every other.
use Rattle.std.specs.Prelude.{◌≡◌, ℕ, List, Bool, true, false, ◌==◌, Option, Some, None}
use Rattle.std.proofs.Common.{arith}
use Rattle.chi_flit.specs.declared.numbers.Agent.{Agent}
use Rattle.chi_flit.specs.declared.numbers.Slot.{Slot}
use Rattle.chi_flit.specs.declared.state.State.{State}
use Rattle.chi_flit.specs.declared.state.State.TheVariants.{I}
use Rattle.chi_flit.specs.declared.kind.Kind.{Kind}
use Rattle.chi_flit.specs.declared.kind.Kind.TheVariants.{CleanUnique}
use Rattle.chi_flit.specs.declared.message.RspDown.TheVariants.{CompUC}
use Rattle.chi_filter.specs.Filter.{owned_by}
use Rattle.chi_homeline.specs.declared.serving.Serving.TheVariants.{Snooping, AwaitingCompAck}
use Rattle.chi_flit.specs.Kind.{snoop_of}
use Rattle.chi_line.specs.Kept.{Lane, LaneKept, allows, invalidates, is_read}

-- the own lane of a read that completes: its data is sent
pub read_completes : (unique unique' : Bool) (owner owner' : Option Agent) (last : List ℕ) (agent : Agent) (kind : Kind) (slot : Slot) (sent : List ℕ) (x : Lane)
    → (agent.0 == agent.0) ≡ true → is_read kind ≡ true → sent ≡ last → x.rn.state ≡ I → owned_by owner' agent.0 ≡ false
    → LaneKept (Snooping agent kind slot) unique owner last agent.0 x
    → LaneKept (AwaitingCompAck agent slot) unique' owner' last agent.0 (record x { named = true; flits = record x.flits { dat_down = Some (record { unique = unique'; words = sent }) } })
read_completes unique unique' owner owner' last agent kind slot sent x itself reads is none unowned k = search (arith, k)

-- the own lane of a CleanUnique that completes
pub clean_completes : (unique : Bool) (owner : Option Agent) (last : List ℕ) (agent : Agent) (slot : Slot) (x : Lane)
    → (agent.0 == agent.0) ≡ true
    → LaneKept (Snooping agent CleanUnique slot) unique owner last agent.0 x
    → LaneKept (AwaitingCompAck agent slot) true None last agent.0 (record x { named = true; flits = record x.flits { rsp_down = Some CompUC } })
clean_completes unique owner last agent slot x itself k = search (arith, k)

-- an agent whose request is served by snoops, and who isn't asked, is no owner where its copy is I
pub no_owner : (unique : Bool) (owner : Option Agent) (last : List ℕ) (agent : Agent) (kind : Kind) (slot : Slot) (x : Lane)
    → (agent.0 == agent.0) ≡ true → x.rn.state ≡ I
    → LaneKept (Snooping agent kind slot) unique owner last agent.0 x → owned_by owner agent.0 ≡ false
no_owner unique owner last agent kind slot x itself none k = search (arith, k)

-- the lane of another where the line is its agent's alone now
pub alone_other : (unique : Bool) (owner : Option Agent) (last : List ℕ) (agent : Agent) (kind : Kind) (slot : Slot) (m : ℕ) (x : Lane)
    → (agent.0 == m) ≡ false → x.named ≡ false
    → LaneKept (Snooping agent kind slot) unique owner last m x
    → LaneKept (AwaitingCompAck agent slot) true None last m x
alone_other unique owner last agent kind slot m x other unnamed k = search (arith, k)

-- the lane of another where the line is shared
pub shared_other : (owner : Option Agent) (last : List ℕ) (agent : Agent) (kind : Kind) (slot : Slot) (m : ℕ) (x : Lane)
    → (agent.0 == m) ≡ false → x.awaited ≡ false
    → LaneKept (Snooping agent kind slot) false owner last m x
    → LaneKept (AwaitingCompAck agent slot) false owner last m x
shared_other owner last agent kind slot m x other done k = search (arith, k)

-- where an invalidating request awaits nobody, nobody else is named
pub none_left : (unique : Bool) (owner : Option Agent) (last : List ℕ) (agent : Agent) (kind : Kind) (slot : Slot) (m : ℕ) (x : Lane)
    → (agent.0 == m) ≡ false → invalidates (snoop_of kind) ≡ true → x.awaited ≡ false
    → LaneKept (Snooping agent kind slot) unique owner last m x → x.named ≡ false
none_left unique owner last agent kind slot m x other all done k = grind (arith, k.others_awaited)

-- the copy of a read's agent, whose request is served, is I
pub allows_read : (kind : Kind) (state : State) → is_read kind ≡ true → allows kind state ≡ true → state ≡ I
allows_read kind state reads fits = search arith

pub read_from_none : (unique : Bool) (owner : Option Agent) (last : List ℕ) (agent : Agent) (kind : Kind) (slot : Slot) (x : Lane)
    → (agent.0 == agent.0) ≡ true → is_read kind ≡ true
    → LaneKept (Snooping agent kind slot) unique owner last agent.0 x → x.rn.state ≡ I
read_from_none unique owner last agent kind slot x itself reads k = allows_read kind x.rn.state reads (k.kind_fits kind (k.snooped_kind itself))
