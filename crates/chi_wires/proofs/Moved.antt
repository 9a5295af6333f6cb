-- What a change of one agent's cells, or of all agents', does to the list of the flits in flight.
use Rattle.std.proofs.Common.{◌≡◌, ℕ, ◌+◌, ◌<◌, suc, zero, ◌≤◌, Bool, true, false, List, [], ◌∷◌, ◌++◌, Some, None, length, get_or, set, refl, sym, ap, subst, append_assoc, append-nil, arith}
use Rattle.std.specs.Prelude.{option_map}
use Rattle.std.specs.List.Sorted.{IsPermutation}
use Rattle.std.proofs.lemmas.List.{set-get_or}
use Rattle.std.proofs.lemmas.List.Sorted.{IsPermutation-refl, IsPermutation-sym, IsPermutation-trans, IsPermutation-append_left, IsPermutation-append_right, IsPermutation-append_comm}
use Rattle.chi_flit.specs.declared.numbers.Agent.{Agent}
use Rattle.chi_flit.specs.declared.snoop.Snoop.{Snoop}
use Rattle.chi_flit.specs.declared.message.Channel.{Channel}
use Rattle.chi_flit.specs.declared.message.Channel.TheVariants as channels
use Rattle.chi_flit.specs.declared.message.Msg.{Msg}
use Rattle.chi_flit.specs.declared.message.Msg.TheVariants as messages
use Rattle.chi_flit.specs.Message.{channel_of}
use Rattle.chi_wires.specs.declared.cells.Cells.{Cells}
use Rattle.chi_wires.specs.Cell.{no_flits, cell_of, with_message, without_message}
use Rattle.chi_wires.specs.Flits.{cells_at, with_snoops}
use Rattle.chi_wires.specs.Flight.{Flit, flit, flit_of, flits_of, flits_from, in_flight, snoop_flits}

-- a part in the middle comes to the front
pub to_front : (ps xs qs : List Flit) → IsPermutation (ps ++ (xs ++ qs)) (xs ++ (ps ++ qs))
to_front ps xs qs =
    subst (λ l. IsPermutation l (xs ++ (ps ++ qs))) (append_assoc ps xs qs)
    (subst (λ l. IsPermutation ((ps ++ xs) ++ qs) l) (append_assoc xs ps qs)
    (IsPermutation-append_left qs (ps ++ xs) (xs ++ ps) (IsPermutation-append_comm ps xs)))

-- behind other flits a part comes to the front too
pub behind : (ps cs xs es : List Flit) → IsPermutation cs (xs ++ es) → IsPermutation (ps ++ cs) (xs ++ (ps ++ es))
behind ps cs xs es h = IsPermutation-trans (ps ++ cs) (ps ++ (xs ++ es)) (xs ++ (ps ++ es)) (IsPermutation-append_right ps cs (xs ++ es) h) (to_front ps xs es)

-- and before other flits
pub before : (qs cs xs es : List Flit) → IsPermutation cs (xs ++ es) → IsPermutation (cs ++ qs) (xs ++ (es ++ qs))
before qs cs xs es h = subst (IsPermutation (cs ++ qs)) (append_assoc xs es qs) (IsPermutation-append_left qs cs (xs ++ es) h)

-- the flit of a channel, if its cell is full
abbrev pub part : Agent → Cells → Channel → List Flit
part agent cells channel = flit_of agent (cell_of cells channel)

-- an agent's flits are that of a channel, and those of the others
pub parted : (channel : Channel) (agent : Agent) (cells : Cells)
    → IsPermutation (flits_of agent cells) (flit_of agent (cell_of cells channel) ++ flits_of agent (without_message cells channel))
parted channels.Req agent cells = IsPermutation-refl _
parted channels.Snp agent cells =
    let p = part agent cells in
    to_front (p channels.Req) (p channels.Snp) (p channels.RspDown ++ (p channels.DatDown ++ (p channels.RspUp ++ p channels.DatUp)))
parted channels.RspDown agent cells =
    let p = part agent cells in
    behind (p channels.Req) _ (p channels.RspDown) _
    (to_front (p channels.Snp) (p channels.RspDown) (p channels.DatDown ++ (p channels.RspUp ++ p channels.DatUp)))
parted channels.DatDown agent cells =
    let p = part agent cells in
    behind (p channels.Req) _ (p channels.DatDown) _
    (behind (p channels.Snp) _ (p channels.DatDown) _
    (to_front (p channels.RspDown) (p channels.DatDown) (p channels.RspUp ++ p channels.DatUp)))
parted channels.RspUp agent cells =
    let p = part agent cells in
    behind (p channels.Req) _ (p channels.RspUp) _
    (behind (p channels.Snp) _ (p channels.RspUp) _
    (behind (p channels.RspDown) _ (p channels.RspUp) _
    (to_front (p channels.DatDown) (p channels.RspUp) (p channels.DatUp))))
parted channels.DatUp agent cells =
    let p = part agent cells in
    behind (p channels.Req) _ (p channels.DatUp) _
    (behind (p channels.Snp) _ (p channels.DatUp) _
    (behind (p channels.RspDown) _ (p channels.DatUp) _
    (behind (p channels.DatDown) _ (p channels.DatUp) _
    (behind (p channels.RspUp) _ (p channels.DatUp) []
    (subst (IsPermutation (p channels.DatUp)) (sym (append-nil (p channels.DatUp))) (IsPermutation-refl _))))))

-- an empty cell can be emptied
pub still_empty : (channel : Channel) (agent : Agent) (cells : Cells) → cell_of cells channel ≡ None
    → IsPermutation (flits_of agent (without_message cells channel)) (flits_of agent cells)
still_empty channel agent cells empty =
    IsPermutation-sym _ _ (subst (λ cell. IsPermutation (flits_of agent cells) (flit_of agent cell ++ flits_of agent (without_message cells channel))) empty (parted channel agent cells))

-- a message on its channel is that flit more than those of the other channels
pub put_parted : (agent : Agent) (cells : Cells) (message : Msg)
    → IsPermutation (flits_of agent (with_message cells message)) (flit_of agent (Some message) ++ flits_of agent (without_message cells (channel_of message)))
put_parted agent cells (messages.Req request) = parted channels.Req agent (with_message cells (messages.Req request))
put_parted agent cells (messages.Snp snoop) = parted channels.Snp agent (with_message cells (messages.Snp snoop))
put_parted agent cells (messages.RspDown response) = parted channels.RspDown agent (with_message cells (messages.RspDown response))
put_parted agent cells (messages.DatDown response) = parted channels.DatDown agent (with_message cells (messages.DatDown response))
put_parted agent cells (messages.RspUp response) = parted channels.RspUp agent (with_message cells (messages.RspUp response))
put_parted agent cells (messages.DatUp response) = parted channels.DatUp agent (with_message cells (messages.DatUp response))

-- into an empty cell it is that flit more
pub put_more : (agent : Agent) (cells : Cells) (message : Msg) → cell_of cells (channel_of message) ≡ None
    → IsPermutation (flits_of agent (with_message cells message)) (flit_of agent (Some message) ++ flits_of agent cells)
put_more agent cells message empty =
    IsPermutation-trans _ _ _ (put_parted agent cells message)
    (IsPermutation-append_right (flit_of agent (Some message)) _ _ (still_empty (channel_of message) agent cells empty))

-- a change of one agent's cells, in a list that begins with a number
row_moved : (n first agent : ℕ) (row : List Cells) (c e : Cells) (xs : List Flit) → n < length row → agent ≡ first + n
    → IsPermutation (flits_of (record { 0 = agent }) c) (xs ++ flits_of (record { 0 = agent }) e)
    → IsPermutation (flits_from first (set row n c)) (xs ++ flits_from first (set row n e))
row_moved n first agent [] c e xs lt is h = absurd (omega (arith, lt))
row_moved zero first agent (r ∷ row) c e xs lt is h =
    let same : agent ≡ first = omega (arith, is) in
    before (flits_from (first + 1) row) _ xs _
    (subst (λ k. IsPermutation (flits_of (record { 0 = k }) c) (xs ++ flits_of (record { 0 = k }) e)) same h)
row_moved (suc n) first agent (r ∷ row) c e xs lt is h =
    behind (flits_of (record { 0 = first }) r) _ xs _
    (row_moved n (first + 1) agent row c e xs (omega (arith, lt)) (omega (arith, is)) h)

-- a change of one agent's cells
pub moved : (flits : List Cells) (agent : Agent) (c e : Cells) (xs : List Flit) → agent.0 < length flits
    → IsPermutation (flits_of agent c) (xs ++ flits_of agent e)
    → IsPermutation (in_flight (set flits agent.0 c)) (xs ++ in_flight (set flits agent.0 e))
moved flits agent c e xs low h = row_moved agent.0 0 agent.0 flits c e xs low (omega arith) h

-- the same, from the cells that are there
pub moved_from : (flits next : List Cells) (agent : Agent) (c : Cells) (xs : List Flit) → agent.0 < length flits → next ≡ set flits agent.0 c
    → IsPermutation (flits_of agent c) (xs ++ flits_of agent (cells_at flits agent.0))
    → IsPermutation (in_flight next) (xs ++ in_flight flits)
moved_from flits next agent c xs low is h =
    subst (λ w. IsPermutation (in_flight w) (xs ++ in_flight flits)) (sym is)
    (subst (λ w. IsPermutation (in_flight (set flits agent.0 c)) (xs ++ in_flight w)) (set-get_or flits agent.0 no_flits)
    (moved flits agent c (cells_at flits agent.0) xs low h))

-- a put adds the flit
pub put_adds : (flits next : List Cells) (agent : Agent) (message : Msg) → agent.0 < length flits
    → cell_of (cells_at flits agent.0) (channel_of message) ≡ None
    → next ≡ set flits agent.0 (with_message (cells_at flits agent.0) message)
    → IsPermutation (in_flight next) (flit_of agent (Some message) ++ in_flight flits)
put_adds flits next agent message low empty is =
    moved_from flits next agent (with_message (cells_at flits agent.0) message) (flit_of agent (Some message)) low is (put_more agent (cells_at flits agent.0) message empty)

-- what is emptied is removed
pub clear_removes : (flits next : List Cells) (agent : Agent) (channel : Channel) → agent.0 < length flits
    → next ≡ set flits agent.0 (without_message (cells_at flits agent.0) channel)
    → IsPermutation (flit_of agent (cell_of (cells_at flits agent.0) channel) ++ in_flight next) (in_flight flits)
clear_removes flits next agent channel low is =
    let cells = cells_at flits agent.0 in
    let flit = flit_of agent (cell_of cells channel) in
    IsPermutation-sym _ _
    (subst (λ w. IsPermutation (in_flight flits) (flit ++ in_flight w)) (sym is)
    (subst (λ w. IsPermutation (in_flight w) (flit ++ in_flight (set flits agent.0 (without_message cells channel)))) (set-get_or flits agent.0 no_flits)
    (moved flits agent cells (without_message cells channel) flit low (parted channel agent cells))))

-- and what is taken
pub take_removes : (flits next : List Cells) (agent : Agent) (channel : Channel) (message : Msg) → agent.0 < length flits
    → cell_of (cells_at flits agent.0) channel ≡ Some message
    → next ≡ set flits agent.0 (without_message (cells_at flits agent.0) channel)
    → IsPermutation (flit agent message ∷ in_flight next) (in_flight flits)
take_removes flits next agent channel message low full is =
    subst (λ cell. IsPermutation (flit_of agent cell ++ in_flight next) (in_flight flits)) full (clear_removes flits next agent channel low is)

-- flits that are taken, and then others that are sent
pub taken_sent : (taken sent old between new : List Flit) → IsPermutation (taken ++ between) old → IsPermutation new (sent ++ between)
    → IsPermutation (taken ++ new) (sent ++ old)
taken_sent taken sent old between new takes sends =
    IsPermutation-trans _ _ _ (behind taken new sent between sends) (IsPermutation-append_right sent (taken ++ between) old takes)

-- an exchange removes what was on the one channel, and adds the other flit
pub exchange_swaps : (flits next : List Cells) (agent : Agent) (taken : Channel) (message : Msg) → agent.0 < length flits
    → cell_of (without_message (cells_at flits agent.0) taken) (channel_of message) ≡ None
    → next ≡ set flits agent.0 (with_message (without_message (cells_at flits agent.0) taken) message)
    → IsPermutation (flit_of agent (cell_of (cells_at flits agent.0) taken) ++ in_flight next) (flit_of agent (Some message) ++ in_flight flits)
exchange_swaps flits next agent taken message low empty is =
    let left = without_message (cells_at flits agent.0) taken in
    let new = flit_of agent (Some message) in
    subst (λ w. IsPermutation (flit_of agent (cell_of (cells_at flits agent.0) taken) ++ in_flight w) (new ++ in_flight flits)) (sym is)
    (taken_sent _ new (in_flight flits) (in_flight (set flits agent.0 left)) _ (clear_removes flits _ agent taken low refl)
    (moved flits agent (with_message left message) left new low (put_more agent left message empty)))

-- snoops to the marked agents of a list that begins with a number
row_snooped : (first : ℕ) (agents : List Bool) (snoop : Snoop) (row : List Cells) → length agents ≤ length row
    → ((n : ℕ) → get_or agents n false ≡ true → (get_or row n no_flits).snp ≡ None)
    → IsPermutation (flits_from first (with_snoops agents snoop row)) (snoop_flits first agents snoop ++ flits_from first row)
row_snooped first [] snoop row short empty = IsPermutation-refl _
row_snooped first (marked ∷ agents) snoop [] short empty = absurd (omega (arith, short))
row_snooped first (true ∷ agents) snoop (cells ∷ row) short empty =
    let agent : Agent = record { 0 = first } in
    let here = flits_of agent cells in
    let flit = flit_of agent (Some (messages.Snp snoop)) in
    let rest = flits_from (first + 1) row in
    let later = snoop_flits (first + 1) agents snoop in
    IsPermutation-trans _ _ _
    (behind _ _ later rest (row_snooped (first + 1) agents snoop row (omega (arith, short)) (λ n. empty (suc n))))
    (IsPermutation-trans _ _ _
    (IsPermutation-append_right later _ _ (before rest _ flit here (put_more agent cells (messages.Snp snoop) (ap (option_map messages.Snp) (empty 0 refl)))))
    (to_front later flit (here ++ rest)))
row_snooped first (false ∷ agents) snoop (cells ∷ row) short empty =
    behind (flits_of (record { 0 = first }) cells) _ (snoop_flits (first + 1) agents snoop) _
    (row_snooped (first + 1) agents snoop row (omega (arith, short)) (λ n. empty (suc n)))

-- snoops add their flits
pub snoops_add : (flits next : List Cells) (agents : List Bool) (snoop : Snoop) → length agents ≤ length flits
    → ((n : ℕ) → get_or agents n false ≡ true → (cells_at flits n).snp ≡ None)
    → next ≡ with_snoops agents snoop flits
    → IsPermutation (in_flight next) (snoop_flits 0 agents snoop ++ in_flight flits)
snoops_add flits next agents snoop short empty is =
    subst (λ w. IsPermutation (in_flight w) (snoop_flits 0 agents snoop ++ in_flight flits)) (sym is) (row_snooped 0 agents snoop flits short empty)
