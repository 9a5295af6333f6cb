-- Steps that touch one agent's lane: what every line keeps needs to be shown of that lane alone.
use Rattle.std.proofs.Common.{◌≡◌, ◌≢◌, ℕ, ◌<◌, List, Bool, true, false, ◌==◌, Option, Some, None, if◌then◌else◌, length, get_or, set, sym, subst, refl, ◌∙◌, ⊎_elim, arith}
use Rattle.std.proofs.lemmas.List.{get_or-set_same, get_or-set_other, length-set}
use Rattle.std.proofs.lemmas.Bool.{cases_eq}
use Rattle.chi_flit.specs.declared.numbers.Agent.{Agent}
use Rattle.chi_wires.specs.declared.cells.Cells.{Cells}
use Rattle.chi_wires.specs.Cell.{no_flits}
use Rattle.chi_rnline.specs.Rn.{Rn, no_line}
use Rattle.chi_homeline.specs.declared.serving.Waiting.{Waiting}
use Rattle.chi_homeline.specs.declared.serving.Serving.{Serving}
use Rattle.chi_homeline.specs.Home.{Home}
use Rattle.chi_filter.specs.Filter.{is_named, owner_without}
use Rattle.chi_line.specs.LineState.{LineState, rn_of}
use Rattle.chi_line.specs.Clean.{IsClean, IsCleanAgent}
use Rattle.chi_line.specs.Kept.{IsOwnerInRange, IsServedRight, Lane, LaneKept, Kept, lane}

-- a list whose entry n is a, whose other entries stay, and that is as long as before
pub record Puts {A : Type 0} (d : A) (l l' : List A) (n : ℕ) (a : A) : Type 0 where
  pub at : get_or l' n d ≡ a
  pub others : (m : ℕ) → m ≢ n → get_or l' m d ≡ get_or l m d
  pub long : length l' ≡ length l

pub puts_set : {A : Type 0} (d : A) (l : List A) (n : ℕ) (a : A) → n < length l → Puts d l (set l n a) n a
puts_set d l n a low = record { at = get_or-set_same l n a d low; others = λ m other. get_or-set_other l n m a d other; long = length-set l n a }

pub puts_nothing : {A : Type 0} (d : A) (l : List A) (n : ℕ) → Puts d l l n (get_or l n d)
puts_nothing d l n = record { at = refl; others = λ m other. refl; long = refl }

abbrev pub nothing_waiting : Option Waiting
nothing_waiting = None

-- a step after which the lane of n is x, and all other lanes are as before
pub record Moves (s s' : LineState) (n : ℕ) (x : Lane) : Type 0 where
  pub at : lane s' n ≡ x
  pub others : (m : ℕ) → m ≢ n → lane s' m ≡ lane s m
  pub requesters : length s'.requesters ≡ length s.requesters
  pub flits : length s'.flits ≡ length s.flits
  pub named : length s'.home.filter.named ≡ length s.home.filter.named
  pub awaited : length s'.home.awaited ≡ length s.home.awaited
  pub waiting : length s'.home.waiting ≡ length s.home.waiting

abbrev pub lane_of : Rn → Cells → Bool → Bool → Option Waiting → Lane
lane_of r f m a w = record { rn = r; flits = f; named = m; awaited = a; waiting = w }

pub same_lane : (r r' : Rn) (f f' : Cells) (m m' a a' : Bool) (w w' : Option Waiting) → r ≡ r' → f ≡ f' → m ≡ m' → a ≡ a' → w ≡ w'
    → lane_of r f m a w ≡ lane_of r' f' m' a' w'
same_lane r r' f f' m m' a a' w w' is_r is_f is_m is_a is_w = cc

pub moves_by : (s s' : LineState) (n : ℕ) (x : Lane)
    → Puts no_line s.requesters s'.requesters n x.rn
    → Puts no_flits s.flits s'.flits n x.flits
    → Puts false s.home.filter.named s'.home.filter.named n x.named
    → Puts false s.home.awaited s'.home.awaited n x.awaited
    → Puts nothing_waiting s.home.waiting s'.home.waiting n x.waiting
    → Moves s s' n x
moves_by s s' n x r f m a w = record {
  at = same_lane _ _ _ _ _ _ _ _ _ _ r.at f.at m.at a.at w.at;
  others = λ k other. same_lane _ _ _ _ _ _ _ _ _ _ (r.others k other) (f.others k other) (m.others k other) (a.others k other) (w.others k other);
  requesters = r.long;
  flits = f.long;
  named = m.long;
  awaited = a.long;
  waiting = w.long;
}

pub within : (n k : ℕ) → n < 8 → k ≡ 8 → n < k
within n k low is = omega arith

-- a step at the home: the requesters stay
pub moves_home : (s : LineState) (n : ℕ) (home : Home) (flits : List Cells) (x : Lane) → x.rn ≡ rn_of s n
    → Puts no_flits s.flits flits n x.flits
    → Puts false s.home.filter.named home.filter.named n x.named
    → Puts false s.home.awaited home.awaited n x.awaited
    → Puts nothing_waiting s.home.waiting home.waiting n x.waiting
    → Moves s (record s { home = home; flits = flits }) n x
moves_home s n home flits x same f m a w =
    moves_by s _ n x (record { at = sym same; others = λ m other. refl; long = refl }) f m a w

-- the lanes after a step, out of n's new lane and the old lanes of others beside what the home is now
pub lanes_by : (s s' : LineState) (serving : Serving) (unique : Bool) (owner : Option Agent) (last : List ℕ) (n : ℕ) (x : Lane)
    → Moves s s' n x
    → LaneKept serving unique owner last n x
    → ((m : ℕ) → m < 8 → m ≢ n → LaneKept serving unique owner last m (lane s m))
    → (m : ℕ) → m < 8 → LaneKept serving unique owner last m (lane s' m)
lanes_by s s' serving unique owner last n x moves own other m low =
    ⊎_elim
    (λ (same : m ≡ n). subst (λ k. LaneKept serving unique owner last k (lane s' k)) (sym same) (subst (LaneKept serving unique owner last n) (sym moves.at) own))
    (λ (apart : m ≢ n). subst (LaneKept serving unique owner last m) (sym (moves.others m apart)) (other m low apart))
    (cases_eq m n)

-- neither a dirty copy nor dirty data on its way
abbrev pub IsCleanLane : Lane → Type 0
IsCleanLane x = IsCleanAgent x.rn.state x.flits.dat_up

pub clean_by : (s s' : LineState) (n : ℕ) (x : Lane) → Moves s s' n x → n < 8
    → (IsCleanLane x → IsCleanLane (lane s n)) → IsClean s' → IsClean s
clean_by s s' n x moves here back clean m low =
    ⊎_elim
    (λ (same : m ≡ n). subst (λ k. IsCleanLane (lane s k)) (sym same) (back (subst IsCleanLane moves.at (clean n here))))
    (λ (apart : m ≢ n). subst IsCleanLane (moves.others m apart) (clean m low))
    (cases_eq m n)

-- an owner that may have ended
pub without_in_range : (owner : Option Agent) (n : ℕ) → IsOwnerInRange owner → IsOwnerInRange (owner_without owner n)
without_in_range None n inside = tt
without_in_range (Some agent) n inside = go (agent.0 == n)
  where
    go : (b : Bool) → IsOwnerInRange (if b then None else Some agent)
    go true = tt
    go false = inside

-- what is left to show of a step that touches one agent's lane
pub kept_moved : (before last : List ℕ) (s s' : LineState) (n : ℕ) (x : Lane) → Moves s s' n x → Kept before s → IsServedRight s'.home.serving → IsOwnerInRange s'.home.filter.owner
    → LaneKept s'.home.serving s'.home.filter.unique s'.home.filter.owner last n x
    → ((m : ℕ) → m < 8 → m ≢ n → LaneKept s'.home.serving s'.home.filter.unique s'.home.filter.owner last m (lane s m))
    → (s'.home.filter.unique ≡ true → (a b : ℕ) → a < 8 → b < 8 → is_named s'.home.filter a ≡ true → is_named s'.home.filter b ≡ true → a ≡ b)
    → (IsClean s' → s'.home.memory ≡ last)
    → Kept last s'
kept_moved before last s s' n x moves k in_range owner own other one memory = record {
  requesters = moves.requesters ∙ k.requesters;
  flits = moves.flits ∙ k.flits;
  named = moves.named ∙ k.named;
  awaited = moves.awaited ∙ k.awaited;
  waiting = moves.waiting ∙ k.waiting;
  in_range = in_range;
  owner = owner;
  lanes = lanes_by s s' s'.home.serving s'.home.filter.unique s'.home.filter.owner last n x moves own other;
  flag_means_one = one;
  memory_last = memory;
}

-- memory that stays is last still
pub memory_by : (last : List ℕ) (s s' : LineState) (n : ℕ) (x : Lane) → n < 8 → Moves s s' n x → Kept last s
    → (IsCleanLane x → IsCleanLane (lane s n)) → IsClean s' → s.home.memory ≡ last
memory_by last s s' n x low moves k back clean = k.memory_last (clean_by s s' n x moves low back clean)

-- a step that changes only a requester and its flits, or one of them
kept_parts : (last : List ℕ) (s : LineState) (requesters : List Rn) (flits : List Cells) (n : ℕ) (r : Rn) (c : Cells) → n < 8 → Kept last s
    → Puts no_line s.requesters requesters n r → Puts no_flits s.flits flits n c
    → LaneKept s.home.serving s.home.filter.unique s.home.filter.owner last n (record (lane s n) { rn = r; flits = c })
    → (IsCleanLane (record (lane s n) { rn = r; flits = c }) → IsCleanLane (lane s n))
    → Kept last (record s { requesters = requesters; flits = flits })
kept_parts last s requesters flits n r c low k rs fs own back =
    let moves : Moves s (record s { requesters = requesters; flits = flits }) n (record (lane s n) { rn = r; flits = c }) = moves_by s _ n _ rs fs
    (puts_nothing false s.home.filter.named n) (puts_nothing false s.home.awaited n) (puts_nothing nothing_waiting s.home.waiting n) in
    kept_moved last last s _ n _ moves k k.in_range k.owner own (λ m at apart. k.lanes m at) k.flag_means_one (memory_by last s _ n _ low moves k back)

pub kept_by : (last : List ℕ) (s : LineState) (n : ℕ) (r : Rn) (c : Cells) → n < 8 → Kept last s
    → LaneKept s.home.serving s.home.filter.unique s.home.filter.owner last n (record (lane s n) { rn = r; flits = c })
    → (IsCleanLane (record (lane s n) { rn = r; flits = c }) → IsCleanLane (lane s n))
    → Kept last (record s { requesters = set s.requesters n r; flits = set s.flits n c })
kept_by last s n r c low k own back =
    kept_parts last s _ _ n r c low k (puts_set no_line s.requesters n r (within n _ low k.requesters)) (puts_set no_flits s.flits n c (within n _ low k.flits)) own back

pub kept_by_requester : (last : List ℕ) (s : LineState) (n : ℕ) (r : Rn) → n < 8 → Kept last s
    → LaneKept s.home.serving s.home.filter.unique s.home.filter.owner last n (record (lane s n) { rn = r })
    → (IsCleanLane (record (lane s n) { rn = r }) → IsCleanLane (lane s n))
    → Kept last (record s { requesters = set s.requesters n r })
kept_by_requester last s n r low k own back =
    kept_parts last s _ s.flits n r _ low k (puts_set no_line s.requesters n r (within n _ low k.requesters)) (puts_nothing no_flits s.flits n) own back

pub kept_by_flits : (last : List ℕ) (s : LineState) (n : ℕ) (c : Cells) → n < 8 → Kept last s
    → LaneKept s.home.serving s.home.filter.unique s.home.filter.owner last n (record (lane s n) { flits = c })
    → (IsCleanLane (record (lane s n) { flits = c }) → IsCleanLane (lane s n))
    → Kept last (record s { flits = set s.flits n c })
kept_by_flits last s n c low k own back =
    kept_parts last s s.requesters _ n _ c low k (puts_nothing no_line s.requesters n) (puts_set no_flits s.flits n c (within n _ low k.flits)) own back
