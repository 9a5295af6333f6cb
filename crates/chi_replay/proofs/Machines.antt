-- A node as the table of the commands sees it: of each requester what is outstanding, and its port.
use Rattle.std.proofs.Common.{◌≡◌, ℕ, zero, suc, ◌<◌, List, [], ◌∷◌, length, map, get_or, refl, sym, ◌∙◌, ap, arith}
use Rattle.std.proofs.lemmas.Option.{slice_get-get_or}
use Rattle.std.proofs.Math.ListN.{set}
use Rattle.std.specs.Prelude.{Some, slice_get}
use Rattle.chi_flit.specs.declared.numbers.Agent.{Agent}
use Rattle.chi_node.specs.Words.{PortView}
use Rattle.chi_node.specs.Outstanding.{Outstanding, outstanding_of, seen_counts}
use Rattle.chi_node.specs.Requester.{RequesterState, no_requester}
use Rattle.chi_node.specs.Home.{HomeState}
use Rattle.chi_node.specs.System.{IsSystem, OthersStay, SystemState, requester_of}
use Rattle.chi_replay.specs.Turns.{requester_in, with_requester}
use Rattle.chi_replay.specs.Texts.{AtPort}
use Rattle.chi_replay.specs.Session.{machine_of, ports_of}

mapped_at : {A B : Type 0} (f : A → B) (l : List A) (n : ℕ) (d : A) → get_or (map f l) n (f d) ≡ f (get_or l n d)
mapped_at f [] n d = refl
mapped_at f (x ∷ l) zero d = refl
mapped_at f (x ∷ l) (suc n) d = mapped_at f l n d

mapped_set : {A B : Type 0} (f : A → B) (l : List A) (n : ℕ) (x : A) → map f (set l n x) ≡ set (map f l) n (f x)
mapped_set f [] n x = refl
mapped_set f (y ∷ l) zero x = refl
mapped_set {A} {B} f (y ∷ l) (suc n) x = ap (λ (t : List B). f y ∷ t) (mapped_set f l n x)

mapped_length : {A B : Type 0} (f : A → B) (l : List A) → length (map f l) ≡ length l
mapped_length f [] = refl
mapped_length f (x ∷ l) = ap suc (mapped_length f l)

-- what stands at a place, written there once more
set_here : {A : Type 0} (l : List A) (n : ℕ) (d : A) → set l n (get_or l n d) ≡ l
set_here [] n d = refl
set_here (x ∷ l) zero d = refl
set_here {A} (x ∷ l) (suc n) d = ap (λ (t : List A). x ∷ t) (set_here l n d)

pub set_twice : {A : Type 0} (l : List A) (n : ℕ) (a b : A) → set (set l n a) n b ≡ set l n b
set_twice [] n a b = refl
set_twice (x ∷ l) zero a b = refl
set_twice {A} (x ∷ l) (suc n) a b = ap (λ (t : List A). x ∷ t) (set_twice l n a b)

pub requester_at : (y : SystemState) (agent : Agent) → requester_in (machine_of y) agent ≡ outstanding_of (requester_of y agent.0)
requester_at y agent = mapped_at outstanding_of y.requesters agent.0 no_requester

-- what is outstanding, by its parts
pub outstanding_is : (r : RequesterState) (o : Outstanding) → r.port.shape.sizes ≡ o.entries → r.slots ≡ o.slots → seen_counts r.port ≡ o.seen → outstanding_of r ≡ o
outstanding_is r o entries slots seen = λ i. record { entries = entries i; slots = slots i; seen = seen i }

-- the table's state after an agent's requester has changed
pub machine_after : (y y' : SystemState) (agent : Agent) (home : HomeState) (o : Outstanding) → y'.home ≡ home → OthersStay y y' agent → outstanding_of (requester_of y' agent.0) ≡ o → machine_of y' ≡ with_requester (record (machine_of y) { home = home }) agent o
machine_after y y' agent home o home_is others is =
    ap (λ (l : List RequesterState). record { home = y'.home; requesters = map outstanding_of l }) others
    ∙ (ap (λ (l : List Outstanding). record { home = y'.home; requesters = l }) (mapped_set outstanding_of y.requesters agent.0 (requester_of y' agent.0))
    ∙ (λ i. record { home = home_is i; requesters = set (machine_of y).requesters agent.0 (is i) }))

-- and with all of it the same
pub machine_same : (y y' : SystemState) (agent : Agent) → y'.home ≡ y.home → OthersStay y y' agent → outstanding_of (requester_of y' agent.0) ≡ outstanding_of (requester_of y agent.0) → machine_of y' ≡ machine_of y
machine_same y y' agent home others same =
    machine_after y y' agent y.home (requester_in (machine_of y) agent) home others (same ∙ sym (requester_at y agent))
    ∙ ap (λ (l : List Outstanding). record { home = y.home; requesters = l }) (set_here (machine_of y).requesters agent.0 (outstanding_of no_requester))

-- the ports after that
pub ports_after : (y y' : SystemState) (agent : Agent) → OthersStay y y' agent → ports_of y' ≡ set (ports_of y) agent.0 (requester_of y' agent.0).port
ports_after y y' agent others = ap (λ (l : List RequesterState). map (λ r. r.port) l) others ∙ mapped_set (λ (r : RequesterState). r.port) y.requesters agent.0 (requester_of y' agent.0)

pub ports_same : (y y' : SystemState) (agent : Agent) → OthersStay y y' agent → (requester_of y' agent.0).port ≡ (requester_of y agent.0).port → ports_of y' ≡ ports_of y
ports_same y y' agent others same =
    ports_after y y' agent others ∙ ap (λ (p : PortView). set (ports_of y) agent.0 p) (same ∙ sym (mapped_at (λ (r : RequesterState). r.port) y.requesters agent.0 no_requester)) ∙ set_here (ports_of y) agent.0 no_requester.port

-- an agent of the node has a port
pub port_there : (y : SystemState) (agent : Agent) → IsSystem y → agent.0 < y.home.config.agents → slice_get (ports_of y) agent.0 ≡ Some (requester_of y agent.0).port
port_there y agent k low =
    slice_get-get_or (ports_of y) agent.0 no_requester.port (omega (arith, low, k.count, mapped_length (λ (r : RequesterState). r.port) y.requesters))
    ∙ ap (λ (p : PortView). Some p) (mapped_at (λ (r : RequesterState). r.port) y.requesters agent.0 no_requester)

-- and goes on by itself
pub at_port : (y : SystemState) (agent : Agent) (new : List PortView) (after : PortView) (Goes : PortView → PortView → Type 0) → IsSystem y → agent.0 < y.home.config.agents → new ≡ set (ports_of y) agent.0 after → Goes (requester_of y agent.0).port after → AtPort agent (ports_of y) new Goes
at_port y agent new after Goes k low is goes = ((requester_of y agent.0).port, after, port_there y agent k low, goes, is)

-- a port that has gone on can go on once more
pub at_port_again : (y : SystemState) (agent : Agent) (new : List PortView) (mid after : PortView) (Goes : PortView → PortView → Type 0) → IsSystem y → agent.0 < y.home.config.agents → new ≡ set (ports_of y) agent.0 after → Goes mid after → AtPort agent (set (ports_of y) agent.0 mid) new Goes
at_port_again y agent new mid after Goes k low is goes =
    let there : slice_get (set (ports_of y) agent.0 mid) agent.0 ≡ Some mid = set_there (ports_of y) agent.0 mid (omega (arith, low, k.count, mapped_length (λ (r : RequesterState). r.port) y.requesters)) in
    (mid, after, there, goes, is ∙ sym (set_twice (ports_of y) agent.0 mid after))
  where
    set_there : {A : Type 0} (l : List A) (n : ℕ) (a : A) → n < length l → slice_get (set l n a) n ≡ Some a
    set_there [] n a low = absurd (omega (arith, low))
    set_there (x ∷ l) zero a low = refl
    set_there (x ∷ l) (suc n) a low = set_there l n a (omega (arith, low))
