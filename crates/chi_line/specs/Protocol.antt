-- One line by the protocol alone, and what each of the 17 actions does to it: docs/PROTOCOL.md, "One line", "The
-- actions", "Start", "Answers of snooped agents", "Completion", "The filter" and "Write data", row by row, each with
-- the row's text above it. What refuses an action is in RefusalRows.antt.
--
-- Of the code nothing occurs here but its words and six tables of docs/PROTOCOL.md. The words: agents, lines, slots,
-- states, kinds, snoops, messages and flits, credit types and profiles, pending and waiting requests, steps, effects
-- and records. The tables: the states that a kind needs (is_needed), its credit type (credit_type_of), which kinds are
-- copy-backs (is_copy_back), which states are valid and which unique (is_valid, is_unique), and the answers to snoops
-- (answer_of).
--
-- Signs:
--   (x : T) × P       there is an x for which P holds
--   (x : T) → P       for all x P holds
--   P × Q, P ⊎ Q      both hold; one of them holds
--   ⊥                 never
--   a ≡ b, a ≢ b      they are the same; they aren't
--   λ x. a            a, for each x
--   m.0               the number of an agent, a line, a slot or a word
--   record s { .. }   s with these parts; all else stays
--   n, m              the agent whose action it is, or whose request; another agent
--   flit n message    the message, in flight to n or from n
--
-- Messages have the names that docs/PROTOCOL.md prints. CopyBackWrData has its form as a state, UD and SD being the _PD
-- forms.
use Rattle.std.specs.Prelude.{◌≡◌, ◌≢◌, ◌⊎◌, List, [], ◌∷◌, ◌++◌, Bool, true, false, ◌==◌, ℕ, map, Option, Some, None, if◌then◌else◌, slice_set, replicate}
use Rattle.std.specs.List.{filter, slice_index_or}
use Rattle.std.specs.List.Sorted.{IsPermutation}
use Rattle.chi_flit.specs.Credit.{credit_type_of}
use Rattle.chi_flit.specs.Kind.{is_copy_back, is_needed}
use Rattle.chi_flit.specs.Snoop.{answer_of}
use Rattle.chi_flit.specs.State.{is_unique, is_valid}
use Rattle.chi_flit.specs.declared.action.Step.TheVariants as steps
use Rattle.chi_journal.specs.declared.record.Record.TheVariants as records
use Rattle.chi_line.specs.Words.{Agent, Line, Slot, State, I, SC, UC, UD, SD, Kind, ReadNotSharedDirty, ReadShared, ReadUnique, CleanUnique, Evict, WriteBackFull, WriteCleanFull, WriteEvictFull}
use Rattle.chi_line.specs.Words.{Snoop, SnpNotSharedDirty, SnpShared, SnpUnique, SnpCleanInvalid, Profile, CreditType, Step, Effect, Nothing, Value, Completed, Record, Flit, flit, Pending, Sent, Retried, Waiting}
use Rattle.chi_line.specs.Words.{Msg, Req, Snp, RspDown, DatDown, RspUp, DatUp, RetryAck, CompUC as Comp_UC, CompI as Comp_I, CompDBIDResp, SnpRespI as SnpResp_I, SnpRespSC as SnpResp_SC, CompAck, SnpRespDataIPD as SnpRespData_I_PD, SnpRespDataSCPD as SnpRespData_SC_PD, SnpRespDataSD as SnpRespData_SD, CopyBackWrData}

-- "ONE LINE"
pub record Copy : Type 0 where
  pub state : State
  pub words : List ℕ

-- what the home is doing: nothing; snooping for an agent's request, with the set of those still awaited; awaiting
-- an agent's CompAck; or awaiting an agent's write data
pub data Serving : Type 0 where
  Idle : Serving
  Snooping : (agent : Agent) (kind : Kind) (slot : Slot) (awaited : Agent → Bool) → Serving
  AwaitingCompAck : (agent : Agent) (slot : Slot) → Serving
  AwaitingWriteData : (agent : Agent) (kind : Kind) (slot : Slot) → Serving

-- the parts of a line
pub record Standing : Type 0 where
  pub copies : Agent → Copy
  pub pending : Agent → Option Pending
  pub memory : List ℕ
  pub named : Agent → Bool
  pub unique : Bool
  pub owner : Option Agent
  pub waiting : Agent → Option Waiting
  pub serving : Serving
  -- traffic: the messages in flight, in some order
  pub flits : List Flit

-- the opening state: memory and data are 0, copies are I, and all else is empty
abbrev pub opening : Standing
opening = record {
  copies = λ n. record { state = I; words = replicate 8 0 };
  pending = λ n. None;
  memory = replicate 8 0;
  named = λ n. false;
  unique = false;
  owner = None;
  waiting = λ n. None;
  serving = Idle;
  flits = [];
}

-- THE WORDS OF THE TABLES: what is kept for each agent, with x for n
abbrev pub with_for : {A : Type 0} → (Agent → A) → Agent → A → Agent → A
with_for f n x m = if m.0 == n.0 then x else f m

-- a set of agents: one agent, and everybody who is named but n
abbrev pub only : Agent → Agent → Bool
only n m = m.0 == n.0

abbrev pub others : Standing → Agent → Agent → Bool
others s n = with_for s.named n false

abbrev pub Somebody : (Agent → Bool) → Type 0
Somebody set = (m : Agent) × (set m ≡ true)

abbrev pub Nobody : (Agent → Bool) → Type 0
Nobody set = (m : Agent) → set m ≡ false

-- the agents that a node may have ("Limits"), and a message to each of them that is in a set
abbrev pub agents : List Agent
agents = map (λ n. record { 0 = n }) (0 ∷ 1 ∷ 2 ∷ 3 ∷ 4 ∷ 5 ∷ 6 ∷ 7 ∷ [])

abbrev pub to_each : (Agent → Bool) → Msg → List Flit
to_each set message = map (λ n. flit n message) (filter set agents)

-- the line is as said, but for the flits: those before, without the taken ones and with the sent ones
abbrev pub Becomes : List Flit → List Flit → Standing → Standing → Standing → Type 0
Becomes taken sent old said new =
    (new ≡ record said { flits = new.flits }) × IsPermutation (taken ++ new.flits) (sent ++ old.flits)

-- CHANGES OF ONE PART: the copy's state alone; its data stays
abbrev pub with_state : Agent → State → Standing → Standing
with_state n state s = record s { copies = with_for s.copies n (record { state = state; words = (s.copies n).words }) }

abbrev pub with_copy : Agent → State → List ℕ → Standing → Standing
with_copy n state words s = record s { copies = with_for s.copies n (record { state = state; words = words }) }

abbrev pub with_pending : Agent → Option Pending → Standing → Standing
with_pending n request s = record s { pending = with_for s.pending n request }

abbrev pub with_waiting : Agent → Option Waiting → Standing → Standing
with_waiting n request s = record s { waiting = with_for s.waiting n request }

abbrev pub serves : Serving → Standing → Standing
serves serving s = record s { serving = serving }

-- "THE FILTER": the owner where n may not be it any more
abbrev pub owner_but : Agent → Option Agent → Option Agent
owner_but n None = None
owner_but n (Some m) = if m.0 == n.0 then None else Some m

-- n is no owner
abbrev pub disowned : Agent → Standing → Standing
disowned n s = record s { owner = owner_but n s.owner }

-- n leaves: the flag ends where nobody is named any more
abbrev pub Leaves : Agent → Standing → Standing → Type 0
Leaves n s new =
    (Somebody (others s n) × (new ≡ record (disowned n s) { named = others s n }))
    ⊎ (Nobody (others s n) × (new ≡ record (disowned n s) { named = others s n; unique = false }))

-- n alone is named, and the flag is set
abbrev pub alone : Agent → Standing → Standing
alone n s = record s { named = only n; unique = true; owner = None }

-- n is named too, and the flag is clear
abbrev pub named_too : Agent → Standing → Standing
named_too n s = record s { named = with_for s.named n true; unique = false }

-- "COMPLETION", by the kind of n's request: the message to n, and the line then; with the data for a shared copy
abbrev pub comp_data : Bool → List ℕ → Msg
comp_data unique words = DatDown (record { unique = unique; words = words })

abbrev pub CompData_UC : List ℕ → Msg
CompData_UC words = comp_data true words

abbrev pub CompData_SC : List ℕ → Msg
CompData_SC words = comp_data false words

abbrev pub SharedReadRow : Agent → List ℕ → Standing → Msg → Standing → Type 0
SharedReadRow n given s message new =
    (Nobody (others s n) × (message ≡ CompData_UC s.memory) × (new ≡ alone n s))
    ⊎ (Somebody (others s n) × (message ≡ CompData_SC given) × (new ≡ named_too n s))

-- The line when n's request completes: the message to n, and the filter afterwards.
-- ReadNotSharedDirty, ReadShared, nobody in others: CompData_UC with the memory; n alone, unique.
-- ReadNotSharedDirty, somebody in others: CompData_SC with the memory; n is named too; not unique.
-- ReadShared, somebody in others: CompData_SC, with the data of SnpRespData_SD if that came and with the memory if
--   not; n is named too; not unique.
-- ReadUnique: CompData_UC with the memory; n alone, unique.
-- CleanUnique: Comp_UC; n alone, unique.
-- (An Evict and the copy-backs complete without such a message.)
abbrev pub CompletionRow : Kind → Agent → List ℕ → Standing → Msg → Standing → Type 0
CompletionRow ReadNotSharedDirty n given s message new = SharedReadRow n s.memory s message new
CompletionRow ReadShared n given s message new = SharedReadRow n given s message new
CompletionRow ReadUnique n given s message new = (message ≡ CompData_UC s.memory) × (new ≡ alone n s)
CompletionRow CleanUnique n given s message new = (message ≡ RspDown Comp_UC) × (new ≡ alone n s)
CompletionRow unserved n given s message new = ⊥

-- "START", by the kind of n's request: whom its snoop goes to. If unique is set and others isn't empty, it goes to the
-- one in others.
abbrev pub AsksHolder : Agent → Standing → (Agent → Bool) → Type 0
AsksHolder n s asked = (s.unique ≡ true) × (m : Agent) × (others s n m ≡ true) × (asked ≡ only m)

-- If not, it goes to the owner where that is another agent than n.
abbrev pub AsksOwner : Agent → Standing → (Agent → Bool) → Type 0
AsksOwner n s asked = (s.unique ≡ true → Nobody (others s n)) × (m : Agent) × (s.owner ≡ Some m) × (m ≢ n) × (asked ≡ only m)

-- If there is no such owner, nobody is asked.
abbrev pub AsksNobody : Agent → Standing → (Agent → Bool) → Type 0
AsksNobody n s asked = (s.unique ≡ true → Nobody (others s n)) × ((m : Agent) → s.owner ≡ Some m → m ≡ n) × (asked ≡ λ m. false)

abbrev pub SharedReadAsks : Agent → Standing → (Agent → Bool) → Type 0
SharedReadAsks n s asked = AsksHolder n s asked ⊎ (AsksOwner n s asked ⊎ AsksNobody n s asked)

-- ReadNotSharedDirty, ReadShared: as above. ReadUnique, CleanUnique: the snoop goes to each of others.
-- (An Evict and the copy-backs ask nobody.)
abbrev pub Asks : Kind → Agent → Standing → (Agent → Bool) → Type 0
Asks ReadNotSharedDirty n s asked = SharedReadAsks n s asked
Asks ReadShared n s asked = SharedReadAsks n s asked
Asks ReadUnique n s asked = asked ≡ others s n
Asks CleanUnique n s asked = asked ≡ others s n
Asks unserved n s asked = ⊥

-- the line snoops for the request, or completes it at once where there is nobody to ask
abbrev pub SnoopStart : Kind → Snoop → Agent → Slot → Standing → Effect → Standing → Type 0
SnoopStart kind snoop n slot s effect new =
    (effect ≡ Nothing) × (asked : Agent → Bool) × Asks kind n s asked
    × ((Somebody asked × Becomes [] (to_each asked (Snp snoop)) s (serves (Snooping n kind slot asked) s) new)
    ⊎ (Nobody asked × (message : Msg) × (done : Standing) × CompletionRow kind n s.memory s message done
    × Becomes [] (flit n message ∷ []) s (serves (AwaitingCompAck n slot) done) new))

-- CompDBIDResp is sent, and the line awaits the write data
abbrev pub CopyBackStart : Kind → Agent → Slot → Standing → Effect → Standing → Type 0
CopyBackStart kind n slot s effect new =
    (effect ≡ Nothing)
    × Becomes [] (flit n (RspDown CompDBIDResp) ∷ []) s (serves (AwaitingWriteData n kind slot) s) new

-- What Start does, by the kind of n's request; s is the line without n's waiting request.
-- Evict: n leaves the filter and Comp_I is sent. The line stays idle, and the effect is Completed(slot).
abbrev pub StartRow : Kind → Agent → Slot → Standing → Effect → Standing → Type 0
StartRow ReadNotSharedDirty n slot s effect new = SnoopStart ReadNotSharedDirty SnpNotSharedDirty n slot s effect new
StartRow ReadShared n slot s effect new = SnoopStart ReadShared SnpShared n slot s effect new
StartRow ReadUnique n slot s effect new = SnoopStart ReadUnique SnpUnique n slot s effect new
StartRow CleanUnique n slot s effect new = SnoopStart CleanUnique SnpCleanInvalid n slot s effect new
StartRow Evict n slot s effect new =
    (effect ≡ Completed slot) × (left : Standing) × Leaves n s left
    × Becomes [] (flit n (RspDown Comp_I) ∷ []) s left new
StartRow WriteBackFull n slot s effect new = CopyBackStart WriteBackFull n slot s effect new
StartRow WriteCleanFull n slot s effect new = CopyBackStart WriteCleanFull n slot s effect new
StartRow WriteEvictFull n slot s effect new = CopyBackStart WriteEvictFull n slot s effect new

-- "ANSWERS OF SNOOPED AGENTS": what m's answer does to memory and filter. Data in a _PD form becomes the memory. After
-- an _I or _I_PD form m leaves the filter; an _SC or _SC_PD form clears unique. SnpRespData_SD clears unique and makes m
-- the owner; memory stays, and the completion carries this data. After every other answer m is no owner.
abbrev pub AnswerRow : Agent → Msg → Standing → Standing → Type 0
AnswerRow m (RspUp SnpResp_I) s new = Leaves m s new
AnswerRow m (RspUp SnpResp_SC) s new = new ≡ record (disowned m s) { unique = false }
AnswerRow m (DatUp (SnpRespData_I_PD words)) s new = Leaves m (record s { memory = words }) new
AnswerRow m (DatUp (SnpRespData_SC_PD words)) s new = new ≡ record (disowned m s) { unique = false; memory = words }
AnswerRow m (DatUp (SnpRespData_SD words)) s new = new ≡ record s { unique = false; owner = Some m }
AnswerRow m other s new = ⊥

-- the data for a shared copy: that of SnpRespData_SD if it came, and the memory if not
abbrev pub given_by : Msg → List ℕ → List ℕ
given_by (DatUp (SnpRespData_SD words)) memory = words
given_by other memory = memory

-- What RecvSnpResp does once the answer of n is taken, so that only the agents of `rest` are awaited for the agent's
-- request. Where somebody is still awaited, the line goes on snooping.
abbrev pub StillAwaits : Agent → Agent → Kind → Slot → (Agent → Bool) → Msg → Standing → Standing → Standing → Type 0
StillAwaits n agent kind slot rest answer answered old new =
    Somebody rest × Becomes (flit n answer ∷ []) [] old (serves (Snooping agent kind slot rest) answered) new

-- When nobody is awaited any more the request completes, and the line awaits the CompAck.
abbrev pub CompletesThen : Agent → Agent → Kind → Slot → (Agent → Bool) → Msg → Standing → Standing → Standing → Type 0
CompletesThen n agent kind slot rest answer answered old new =
    Nobody rest × (message : Msg) × (done : Standing) × CompletionRow kind agent (given_by answer answered.memory) answered message done
    × Becomes (flit n answer ∷ []) (flit agent message ∷ []) old (serves (AwaitingCompAck agent slot) done) new

-- "WRITE DATA": what is sent, in the form of the copy's state; in the form _I all eight words are 0
abbrev pub write_data : State → List ℕ → Msg
write_data I words = DatUp (CopyBackWrData I (replicate 8 0))
write_data form words = DatUp (CopyBackWrData form words)

-- the copy after it was sent, by the kind of the request (a WriteCleanFull doesn't find a copy in UC)
abbrev pub IsLeftBy : Kind → State → State → Type 0
IsLeftBy WriteBackFull form left = left ≡ I
IsLeftBy WriteEvictFull form left = left ≡ I
IsLeftBy WriteCleanFull UD left = left ≡ UC
IsLeftBy WriteCleanFull SD left = left ≡ SC
IsLeftBy WriteCleanFull SC left = left ≡ SC
IsLeftBy WriteCleanFull I left = left ≡ I
IsLeftBy kind form left = ⊥

-- The memory after it has come: the data of _UD_PD and _SD_PD becomes the memory, and the other forms leave it. The
-- filter: after WriteBackFull and WriteEvictFull the sender leaves; after WriteCleanFull it does where the form was _I,
-- and otherwise the set and the flag stay. In every case the sender isn't the owner any more.
abbrev pub memory_with : State → List ℕ → List ℕ → List ℕ
memory_with UD words memory = words
memory_with SD words memory = words
memory_with other words memory = memory

abbrev pub WriteRow : Kind → State → Agent → Standing → Standing → Type 0
WriteRow WriteBackFull form n s new = Leaves n s new
WriteRow WriteEvictFull form n s new = Leaves n s new
WriteRow WriteCleanFull I n s new = Leaves n s new
WriteRow WriteCleanFull form n s new = new ≡ disowned n s
WriteRow kind form n s new = ⊥

-- "THE ACTIONS"
abbrev pub request : Kind → Slot → Bool → Msg
request kind slot allow_retry = Req (record { kind = kind; slot = slot; allow_retry = allow_retry })

-- Comp_UC: SC becomes UC, SD becomes UD, I stays
abbrev pub IsMadeUnique : State → State → Type 0
IsMadeUnique SC left = left ≡ UC
IsMadeUnique SD left = left ≡ UD
IsMadeUnique I left = left ≡ I
IsMadeUnique other left = ⊥

-- Issue: Evict gives the copy up at once
abbrev pub issued : Kind → Agent → Standing → Standing
issued Evict n s = with_state n I s
issued kind n s = s

-- no effect and no record
abbrev pub Quiet : Effect → Option Record → Type 0
Quiet effect entry = (effect ≡ Nothing) × (entry ≡ None)

-- The action takes the line from old to new, with this effect, and the record of a Load or a Store. A row begins with
-- what its refusals leave: a Store needs that nothing is pending, and that the copy is UC or UD.
abbrev pub LineStep : Profile → Line → Agent → Step → Standing → Effect → Option Record → Standing → Type 0
-- Load(n, l, w): adds the record Load(n, l, w, v) to the journal, v being the copy's word; effect Value(v)
LineStep profile line n (steps.Load word) old effect entry new =
    (value : ℕ) × (value ≡ slice_index_or (old.copies n).words word.0 0) × (is_valid (old.copies n).state ≡ true)
    × (effect ≡ Value value) × (entry ≡ Some (records.Load n line word value)) × Becomes [] [] old old new
-- Store(n, l, w, v): the word becomes v and the copy UD; adds the record Store(n, l, w, v)
LineStep profile line n (steps.Store word value) old effect entry new =
    (old.pending n ≡ None) × (is_unique (old.copies n).state ≡ true)
    × (effect ≡ Nothing) × (entry ≡ Some (records.Store n line word value))
    × Becomes [] [] old (with_copy n UD (slice_set (old.copies n).words word.0 value) old) new
-- Drop(n, l): the copy becomes I
LineStep profile line n steps.Drop old effect entry new =
    Quiet effect entry × (old.pending n ≡ None) × (((old.copies n).state ≡ SC) ⊎ ((old.copies n).state ≡ UC))
    × Becomes [] [] old (with_state n I old) new
-- Issue(n, l, k, s): (k, s, Sent) is pending; for Evict the copy becomes I; the request is sent with AllowRetry
LineStep profile line n (steps.Issue kind slot) old effect entry new =
    Quiet effect entry × (old.pending n ≡ None) × (is_needed kind (old.copies n).state ≡ true)
    × Becomes [] (flit n (request kind slot true) ∷ []) old
    (with_pending n (Some (record { kind = kind; slot = slot; phase = Sent })) (issued kind n old)) new
-- Admit(n, l): takes the request; n waits with its kind and slot
LineStep profile line n steps.Admit old effect entry new =
    Quiet effect entry × (kind : Kind) × (slot : Slot) × (allow_retry : Bool)
    × Becomes (flit n (request kind slot allow_retry) ∷ []) [] old
    (with_waiting n (Some (record { kind = kind; slot = slot })) old) new
-- Retry(n, l): takes a request that has AllowRetry; sends RetryAck of the request's credit type, by the profile
LineStep profile line n steps.Retry old effect entry new =
    Quiet effect entry × (kind : Kind) × (slot : Slot)
    × Becomes (flit n (request kind slot true) ∷ []) (flit n (RspDown (RetryAck (credit_type_of profile kind))) ∷ []) old old new
-- RecvRetry(n, l): takes the RetryAck; the phase is Retried
LineStep profile line n steps.RecvRetry old effect entry new =
    Quiet effect entry × (ty : CreditType) × (p : Pending) × (old.pending n ≡ Some p)
    × Becomes (flit n (RspDown (RetryAck ty)) ∷ []) [] old (with_pending n (Some (record p { phase = Retried })) old) new
-- Resend(n, l): the phase is Sent; the request is sent without AllowRetry
LineStep profile line n steps.Resend old effect entry new =
    Quiet effect entry × (p : Pending) × (old.pending n ≡ Some p) × (p.phase ≡ Retried)
    × (is_copy_back p.kind ≡ true → is_needed p.kind (old.copies n).state ≡ true)
    × Becomes [] (flit n (request p.kind p.slot false) ∷ []) old (with_pending n (Some (record p { phase = Sent })) old) new
-- Cancel(n, l): nothing is pending
LineStep profile line n steps.Cancel old effect entry new =
    Quiet effect entry × (p : Pending) × (old.pending n ≡ Some p) × (p.phase ≡ Retried)
    × (is_copy_back p.kind ≡ true) × (is_needed p.kind (old.copies n).state ≡ false)
    × Becomes [] [] old (with_pending n None old) new
-- Start(n, l): takes n's request out of those that wait; see "Start"
LineStep profile line n steps.Start old effect entry new =
    (entry ≡ None) × (r : Waiting) × (old.waiting n ≡ Some r) × (old.serving ≡ Idle)
    × StartRow r.kind n r.slot (with_waiting n None old) effect new
-- RecvSnp(n, l): takes the snoop; sends the answer, and the copy gets the state, of "Answers to snoops"
LineStep profile line n steps.RecvSnp old effect entry new =
    Quiet effect entry × (snoop : Snoop) × (left : State) × (message : Msg)
    × (answer_of (old.copies n).state snoop (old.copies n).words ≡ (left, message))
    × Becomes (flit n (Snp snoop) ∷ []) (flit n message ∷ []) old (with_state n left old) new
-- RecvSnpResp(n, l): takes n's answer, which was awaited, and does to memory and filter what its AnswerRow says. Then
-- somebody is still awaited, or the request completes in the same action
LineStep profile line n steps.RecvSnpResp old effect entry new =
    Quiet effect entry × (agent : Agent) × (kind : Kind) × (slot : Slot) × (awaited : Agent → Bool)
    × (old.serving ≡ Snooping agent kind slot awaited) × (awaited n ≡ true)
    × (answer : Msg) × (answered : Standing) × AnswerRow n answer old answered
    × (StillAwaits n agent kind slot (with_for awaited n false) answer answered old new
    ⊎ CompletesThen n agent kind slot (with_for awaited n false) answer answered old new)
-- RecvData(n, l): takes CompData, whose state and data the copy gets; nothing is pending; sends CompAck
LineStep profile line n steps.RecvData old effect entry new =
    Quiet effect entry × (unique : Bool) × (words : List ℕ)
    × Becomes (flit n (comp_data unique words) ∷ []) (flit n (RspUp CompAck) ∷ []) old
    (with_pending n None (with_copy n (if unique then UC else SC) words old)) new
-- RecvComp(n, l): takes Comp_UC: SC becomes UC, SD becomes UD, I stays, and CompAck is sent; or takes Comp_I, and sends
-- nothing. Nothing is pending
LineStep profile line n steps.RecvComp old effect entry new =
    Quiet effect entry
    × (((left : State) × IsMadeUnique (old.copies n).state left
    × Becomes (flit n (RspDown Comp_UC) ∷ []) (flit n (RspUp CompAck) ∷ []) old (with_pending n None (with_state n left old)) new)
    ⊎ Becomes (flit n (RspDown Comp_I) ∷ []) [] old (with_pending n None old) new)
-- RecvAck(n, l): takes CompAck; the line is idle; effect Completed(slot)
LineStep profile line n steps.RecvAck old effect entry new =
    (slot : Slot) × (effect ≡ Completed slot) × (entry ≡ None) × (old.serving ≡ AwaitingCompAck n slot)
    × Becomes (flit n (RspUp CompAck) ∷ []) [] old (serves Idle old) new
-- RecvDbid(n, l): takes CompDBIDResp; sends the write data, and the copy is left as "Write data" says; nothing is pending
LineStep profile line n steps.RecvDbid old effect entry new =
    Quiet effect entry × (p : Pending) × (left : State)
    × (old.pending n ≡ Some p) × IsLeftBy p.kind (old.copies n).state left
    × Becomes (flit n (RspDown CompDBIDResp) ∷ []) (flit n (write_data (old.copies n).state (old.copies n).words) ∷ []) old
    (with_pending n None (with_state n left old)) new
-- RecvWrData(n, l): takes CopyBackWrData; memory and filter become as "Write data" says; the line is idle; effect
-- Completed(slot)
LineStep profile line n steps.RecvWrData old effect entry new =
    (slot : Slot) × (effect ≡ Completed slot) × (entry ≡ None)
    × (kind : Kind) × (form : State) × (words : List ℕ) × (written : Standing)
    × (old.serving ≡ AwaitingWriteData n kind slot)
    × WriteRow kind form n (record old { memory = memory_with form words old.memory }) written
    × Becomes (flit n (DatUp (CopyBackWrData form words)) ∷ []) [] old (serves Idle written) new
