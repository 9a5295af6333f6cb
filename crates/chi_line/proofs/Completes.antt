-- A completion keeps what the line keeps: at a start that has nobody to ask, and after the last answer.
use Rattle.std.specs.Prelude.{◌≡◌, ◌≢◌, ℕ, ◌<◌, ◌≤◌, List, length, Bool, true, false, not, Some, None, is_some, get_or, slice_set}
use Rattle.std.proofs.Common.{refl, sym, ◌∙◌, subst, ⊎_elim, arith}
use Rattle.std.proofs.lemmas.List.{get_or-set_same, get_or-set_other, get_or-replicate, get_or_past, length-set}
use Rattle.std.proofs.lemmas.Bool.{cases_lt, false≢true, true≢false, not-true, eqb-true}
use Rattle.chi_flit.specs.declared.numbers.Agent.{Agent}
use Rattle.chi_flit.specs.declared.numbers.Slot.{Slot}
use Rattle.chi_flit.specs.declared.kind.Kind.{Kind}
use Rattle.chi_flit.specs.declared.kind.Kind.TheVariants.{ReadNotSharedDirty, ReadShared, ReadUnique, CleanUnique}
use Rattle.chi_flit.specs.Kind.{snoop_of}
use Rattle.chi_filter.specs.Filter.{FilterState, nobody, only_named, only_set, is_in, has_any, others_than, is_named}
use Rattle.chi_wires.specs.declared.cells.Cells.{Cells}
use Rattle.chi_wires.specs.Cell.{no_flits, with_message}
use Rattle.chi_homeline.specs.declared.serving.Serving.TheVariants.{Snooping, AwaitingCompAck}
use Rattle.chi_homeline.specs.Home.{home_after_completion, completed_filter, completes_unique, completion_message, completion_of}
use Rattle.chi_line.specs.LineState.{LineState, cells_of}
use Rattle.chi_line.specs.Kept.{IsOwnerInRange, Kept, LaneKept, invalidates, is_read, lane}
use Rattle.chi_line.proofs.Frame.{IsCleanLane, Puts, kept_moved, memory_by, moves_home, puts_nothing, puts_set, nothing_waiting, within}
use Rattle.chi_line.proofs.Asks.{apart, same, in_only, none_in, left_in, length-others}
use Rattle.chi_line.proofs.CompleteLanes.{read_completes, clean_completes, no_owner, alone_other, shared_other, none_left, read_from_none}

-- the line after a completion, with the data that is sent
abbrev pub completed_line : LineState → Kind → Agent → Slot → List ℕ → LineState
completed_line s kind agent slot sent = record s { home = home_after_completion s.home kind agent slot; flits = slice_set s.flits agent.0 (with_message (cells_of s agent.0) (completion_of s.home kind agent sent)) }

-- what a completion needs
pub record MayComplete (last : List ℕ) (s : LineState) (agent : Agent) (kind : Kind) (slot : Slot) (sent : List ℕ) : Type 0 where
  pub here : agent.0 < 8
  pub serves : s.home.serving ≡ Snooping agent kind slot
  pub snoops : is_some (snoop_of kind) ≡ true
  -- nobody's answer is awaited
  pub all_in : (m : ℕ) → m < 8 → is_in s.home.awaited m ≡ false
  pub sent_is : is_read kind ≡ true → sent ≡ last
  -- where others stay named, none of them is flagged
  pub flag_clear : completes_unique kind s.home.filter agent.0 ≡ false → s.home.filter.unique ≡ false

nowhere : (m : ℕ) → get_or nobody m false ≡ false
nowhere m = ⊎_elim (λ (below : m < 8). get_or-replicate 8 m false false below) (λ (above : 8 ≤ m). get_or_past nobody m false above) (cases_lt m 8)

none_else : (marks : List Bool) (n : ℕ) → length marks ≡ 8
    → ((m : ℕ) → m < 8 → m ≢ n → is_in marks m ≡ false) → (m : ℕ) → m ≢ n → get_or marks m false ≡ false
none_else marks n eight nobody_else m other = ⊎_elim (λ (below : m < 8). nobody_else m below other) (λ (above : 8 ≤ m). get_or_past marks m false (omega (arith, eight, above))) (cases_lt m 8)

-- a set with nobody but agent n, in which n is put
pub only_puts : (marks : List Bool) (n : ℕ) → n < 8 → length marks ≡ 8
    → ((m : ℕ) → m < 8 → m ≢ n → is_in marks m ≡ false) → Puts false marks (only_set n) n true
only_puts marks n low eight nobody_else = record {
  at = get_or-set_same nobody n true false low;
  others = λ m other. get_or-set_other nobody n m true false other ∙ (nowhere m ∙ sym (none_else marks n eight nobody_else m other));
  long = length-set nobody n true ∙ sym eight;
}

-- a step after which the CompAck is awaited: n is named, its cells are c, and the filter is as given
pub kept_awaiting : (last : List ℕ) (s : LineState) (agent : Agent) (slot : Slot) (filter : FilterState) (c : Cells)
    → agent.0 < 8 → Kept last s → IsOwnerInRange filter.owner → Puts false s.home.filter.named filter.named agent.0 true
    → LaneKept (AwaitingCompAck agent slot) filter.unique filter.owner last agent.0 (record (lane s agent.0) { named = true; flits = c })
    → ((m : ℕ) → m < 8 → m ≢ agent.0 → LaneKept (AwaitingCompAck agent slot) filter.unique filter.owner last m (lane s m))
    → (filter.unique ≡ true → (n m : ℕ) → n < 8 → m < 8 → is_named filter n ≡ true → is_named filter m ≡ true → n ≡ m)
    → (cells_of s agent.0).dat_up ≡ c.dat_up
    → Kept last (record s { home = record s.home { filter = filter; serving = AwaitingCompAck agent slot }; flits = slice_set s.flits agent.0 c })
kept_awaiting last s agent slot filter c low k owner names own other one up =
    let moves = moves_home s agent.0 (record s.home { filter = filter; serving = AwaitingCompAck agent slot }) _ (record (lane s agent.0) { named = true; flits = c }) refl
    (puts_set no_flits s.flits agent.0 c (within agent.0 _ low k.flits)) names (puts_nothing false s.home.awaited agent.0) (puts_nothing nothing_waiting s.home.waiting agent.0) in
    kept_moved last last s _ agent.0 _ moves k low owner own other one
    (memory_by last s _ agent.0 _ low moves k (λ (clean : IsCleanLane (record (lane s agent.0) { named = true; flits = c })). record { copy = clean.copy; on_its_way = cc }))

snooped_lanes : (last : List ℕ) (s : LineState) (agent : Agent) (kind : Kind) (slot : Slot) (sent : List ℕ)
    → MayComplete last s agent kind slot sent → Kept last s → (m : ℕ) → m < 8
    → LaneKept (Snooping agent kind slot) s.home.filter.unique s.home.filter.owner last m (lane s m)
snooped_lanes last s agent kind slot sent may k m low =
    subst (λ serving. LaneKept serving s.home.filter.unique s.home.filter.owner last m (lane s m)) may.serves (k.lanes m low)

nobody_else : (f : FilterState) (n m : ℕ) → length f.named ≡ 8 → m < 8 → m ≢ n → not (has_any (others_than n f.named)) ≡ true → is_named f m ≡ false
nobody_else f n m eight low other none =
    sym (left_in n m f.named other) ∙ none_in (others_than n f.named) m (length-others n f.named eight) low (not-true (has_any (others_than n f.named)) none)

-- where the completion leaves the line to its agent alone, nobody else is named
abbrev IsAlone : FilterState → ℕ → Type 0
IsAlone f n = (m : ℕ) → m < 8 → m ≢ n → is_named f m ≡ false

alone_by : (kind : Kind) (f : FilterState) (n : ℕ) → length f.named ≡ 8
    → (invalidates (snoop_of kind) ≡ true → IsAlone f n) → completes_unique kind f n ≡ true → IsAlone f n
alone_by ReadNotSharedDirty f n eight others is m low other = nobody_else f n m eight low other is
alone_by ReadShared f n eight others is m low other = nobody_else f n m eight low other is
alone_by ReadUnique f n eight others is m low other = others refl m low other
alone_by CleanUnique f n eight others is m low other = others refl m low other
alone_by unserved f n eight others is m low other = absurd (false≢true is)

alone : (last : List ℕ) (s : LineState) (agent : Agent) (kind : Kind) (slot : Slot) (sent : List ℕ)
    → MayComplete last s agent kind slot sent → Kept last s
    → completes_unique kind s.home.filter agent.0 ≡ true → IsAlone s.home.filter agent.0
alone last s agent kind slot sent may k is =
    alone_by kind s.home.filter agent.0 k.named
    (λ (invalidating : invalidates (snoop_of kind) ≡ true) (m : ℕ) (low : m < 8) (other : m ≢ agent.0).
    none_left s.home.filter.unique s.home.filter.owner last agent kind slot m (lane s m) (apart agent.0 m other)
    invalidating (may.all_in m low) (snooped_lanes last s agent kind slot sent may k m low))
    is

-- the line where it is known whether its agent has it alone
abbrev completed_as : Bool → LineState → Kind → Agent → Slot → List ℕ → LineState
completed_as unique s kind agent slot sent = record s {
  home = record s.home { filter = completed_filter unique s.home.filter agent.0; serving = AwaitingCompAck agent slot };
  flits = slice_set s.flits agent.0 (with_message (cells_of s agent.0) (completion_message kind unique sent));
}

-- the only one named
only_one : (n a b : ℕ) → n < 8 → a < 8 → b < 8 → is_in (only_set n) a ≡ true → is_in (only_set n) b ≡ true → a ≡ b
only_one n a b low below_a below_b in_a in_b = sym (eqb-true n a (in_only n a below_a in_a)) ∙ eqb-true n b (in_only n b below_b in_b)

read_alone : (last : List ℕ) (s : LineState) (agent : Agent) (kind : Kind) (slot : Slot) (sent : List ℕ)
    → MayComplete last s agent kind slot sent → Kept last s → is_read kind ≡ true
    → completes_unique kind s.home.filter agent.0 ≡ true
    → Kept last (record s {
      home = record s.home { filter = only_named agent.0; serving = AwaitingCompAck agent slot };
      flits = slice_set s.flits agent.0 (record (cells_of s agent.0) { dat_down = Some (record { unique = true; words = sent }) });
    })
read_alone last s agent kind slot sent may k reads is =
    let lanes : (m : ℕ) → m < 8 → LaneKept (Snooping agent kind slot) s.home.filter.unique s.home.filter.owner last m (lane s m) = snooped_lanes last s agent kind slot sent may k in
    let lonely : IsAlone s.home.filter agent.0 = alone last s agent kind slot sent may k is in
    let f = s.home.filter in
    kept_awaiting last s agent slot (only_named agent.0) _ may.here k tt
    (only_puts f.named agent.0 may.here k.named lonely)
    (read_completes f.unique true f.owner None last agent kind slot sent (lane s agent.0) (same agent.0) reads (may.sent_is reads)
    (read_from_none f.unique f.owner last agent kind slot (lane s agent.0) (same agent.0) reads (lanes agent.0 may.here)) refl (lanes agent.0 may.here))
    (λ m low other. alone_other f.unique f.owner last agent kind slot m (lane s m) (apart agent.0 m other) (lonely m low other) (lanes m low))
    (λ flag a b below_a below_b in_a in_b. only_one agent.0 a b may.here below_a below_b in_a in_b)
    refl

clean_alone : (last : List ℕ) (s : LineState) (agent : Agent) (slot : Slot) (sent : List ℕ)
    → MayComplete last s agent CleanUnique slot sent → Kept last s
    → Kept last (completed_as true s CleanUnique agent slot sent)
clean_alone last s agent slot sent may k =
    let lanes : (m : ℕ) → m < 8 → LaneKept (Snooping agent CleanUnique slot) s.home.filter.unique s.home.filter.owner last m (lane s m) = snooped_lanes last s agent CleanUnique slot sent may k in
    let lonely : IsAlone s.home.filter agent.0 = alone last s agent CleanUnique slot sent may k refl in
    let f = s.home.filter in
    kept_awaiting last s agent slot (only_named agent.0) _ may.here k tt
    (only_puts f.named agent.0 may.here k.named lonely)
    (clean_completes f.unique f.owner last agent slot (lane s agent.0) (same agent.0) (lanes agent.0 may.here))
    (λ m low other. alone_other f.unique f.owner last agent CleanUnique slot m (lane s m) (apart agent.0 m other) (lonely m low other) (lanes m low))
    (λ flag a b below_a below_b in_a in_b. only_one agent.0 a b may.here below_a below_b in_a in_b)
    refl

read_shared : (last : List ℕ) (s : LineState) (agent : Agent) (kind : Kind) (slot : Slot) (sent : List ℕ)
    → MayComplete last s agent kind slot sent → Kept last s → is_read kind ≡ true
    → completes_unique kind s.home.filter agent.0 ≡ false
    → Kept last (record s {
      home = record s.home { filter = completed_filter false s.home.filter agent.0; serving = AwaitingCompAck agent slot };
      flits = slice_set s.flits agent.0 (record (cells_of s agent.0) { dat_down = Some (record { unique = false; words = sent }) });
    })
read_shared last s agent kind slot sent may k reads is =
    let f = s.home.filter in
    let lanes : (m : ℕ) → m < 8 → LaneKept (Snooping agent kind slot) s.home.filter.unique s.home.filter.owner last m (lane s m) = snooped_lanes last s agent kind slot sent may k in
    let clear_lanes : (m : ℕ) → m < 8 → LaneKept (Snooping agent kind slot) false s.home.filter.owner last m (lane s m) =
    λ m low. subst (λ unique. LaneKept (Snooping agent kind slot) unique s.home.filter.owner last m (lane s m)) (may.flag_clear is) (lanes m low) in
    let none = read_from_none f.unique f.owner last agent kind slot (lane s agent.0) (same agent.0) reads (lanes agent.0 may.here) in
    kept_awaiting last s agent slot (completed_filter false f agent.0) _ may.here k k.owner
    (puts_set false f.named agent.0 true (omega (arith, k.named, may.here)))
    (read_completes f.unique false f.owner f.owner last agent kind slot sent (lane s agent.0) (same agent.0) reads (may.sent_is reads)
    none (no_owner f.unique f.owner last agent kind slot (lane s agent.0) (same agent.0) none (lanes agent.0 may.here)) (lanes agent.0 may.here))
    (λ m low other. shared_other f.owner last agent kind slot m (lane s m) (apart agent.0 m other) (may.all_in m low) (clear_lanes m low))
    (λ (flag : false ≡ true). absurd (false≢true flag))
    refl

completed_by : (unique : Bool) (kind : Kind) (last : List ℕ) (s : LineState) (agent : Agent) (slot : Slot) (sent : List ℕ)
    → completes_unique kind s.home.filter agent.0 ≡ unique
    → MayComplete last s agent kind slot sent → Kept last s → Kept last (completed_as unique s kind agent slot sent)
completed_by true ReadNotSharedDirty last s agent slot sent is may k = read_alone last s agent ReadNotSharedDirty slot sent may k refl is
completed_by true ReadShared last s agent slot sent is may k = read_alone last s agent ReadShared slot sent may k refl is
completed_by true ReadUnique last s agent slot sent is may k = read_alone last s agent ReadUnique slot sent may k refl is
completed_by true CleanUnique last s agent slot sent is may k = clean_alone last s agent slot sent may k
completed_by false ReadNotSharedDirty last s agent slot sent is may k = read_shared last s agent ReadNotSharedDirty slot sent may k refl is
completed_by false ReadShared last s agent slot sent is may k = read_shared last s agent ReadShared slot sent may k refl is
completed_by false ReadUnique last s agent slot sent is may k = absurd (true≢false is)
completed_by false CleanUnique last s agent slot sent is may k = absurd (true≢false is)
completed_by unique unserved last s agent slot sent is may k = absurd (false≢true may.snoops)

-- a completion keeps what a line keeps
pub kept_completed : (last : List ℕ) (s : LineState) (agent : Agent) (kind : Kind) (slot : Slot) (sent : List ℕ)
    → MayComplete last s agent kind slot sent → Kept last s → Kept last (completed_line s kind agent slot sent)
kept_completed last s agent kind slot sent may k =
    completed_by (completes_unique kind s.home.filter agent.0) kind last s agent slot sent refl may k
