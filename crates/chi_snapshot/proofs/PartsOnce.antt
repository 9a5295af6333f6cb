-- The bytes of each part of a line can be read in one way only.
use Rattle.std.proofs.Common.{◌≡◌, ℕ, ◌==◌, List, ◌++◌, refl, ap}
use Rattle.std.specs.Prelude.{if◌then◌else◌}
use Rattle.chi_flit.specs.declared.numbers.Agent.{Agent}
use Rattle.chi_flit.specs.declared.numbers.Slot.{Slot}
use Rattle.chi_flit.specs.declared.state.State.{State}
use Rattle.chi_flit.specs.declared.state.State.TheVariants as states
use Rattle.chi_flit.specs.declared.kind.Kind.{Kind}
use Rattle.chi_flit.specs.declared.kind.Kind.TheVariants as kinds
use Rattle.chi_flit.specs.declared.snoop.Snoop.{Snoop}
use Rattle.chi_flit.specs.declared.snoop.Snoop.TheVariants as snoops
use Rattle.chi_flit.specs.declared.credit.CreditType.{CreditType}
use Rattle.chi_flit.specs.declared.credit.CreditType.TheVariants.{T0, T1, T2, T3}
use Rattle.chi_flit.specs.declared.message.RspDown.{RspDown}
use Rattle.chi_flit.specs.declared.message.RspDown.TheVariants.{RetryAck, CompUC, CompI, CompDBIDResp}
use Rattle.chi_flit.specs.declared.message.RspUp.{RspUp}
use Rattle.chi_flit.specs.declared.message.RspUp.TheVariants.{SnpRespI, SnpRespSC, CompAck}
use Rattle.chi_flit.specs.declared.message.DatUp.{DatUp}
use Rattle.chi_flit.specs.declared.message.DatUp.TheVariants.{SnpRespDataIPD, SnpRespDataSCPD, SnpRespDataSD, CopyBackWrData}
use Rattle.chi_flit.specs.Credit.{credit_number}
use Rattle.chi_rnline.specs.declared.pending.Phase.{Phase}
use Rattle.chi_rnline.specs.declared.pending.Phase.TheVariants.{Sent, Retried}
use Rattle.chi_homeline.specs.declared.serving.Serving.{Serving}
use Rattle.chi_homeline.specs.declared.serving.Serving.TheVariants.{Idle, Snooping, AwaitingCompAck, AwaitingWriteData}
use Rattle.chi_snapshot.specs.Bytes.{one_byte}
use Rattle.chi_flit.specs.Kind.{kind_number}
use Rattle.chi_flit.specs.Snoop.{snoop_number}
use Rattle.chi_flit.specs.State.{state_number}
use Rattle.chi_snapshot.specs.Parts.{cells_bytes, data_down_bytes, data_up_bytes, data_up_parts, filter_bytes, home_bytes, line_bytes, pending_bytes, phase_byte, request_bytes, rn_bytes, rsp_down_bytes, rsp_up_byte, served_bytes, serving_bytes, waiting_bytes, words_bytes}
use Rattle.chi_snapshot.proofs.Once.{IsOnce, both, eight, list, mark, named, one, option, through}

-- what each number names
abbrev pub state_at : ℕ → State
state_at n = if n == 0 then states.I else (if n == 1 then states.SC else (if n == 2 then states.UC else (if n == 3 then states.UD else states.SD)))

state_again : (state : State) → state_at (state_number state) ≡ state
state_again states.I = refl
state_again states.SC = refl
state_again states.UC = refl
state_again states.UD = refl
state_again states.SD = refl

abbrev pub kind_at : ℕ → Kind
kind_at n =
    if n == 0 then kinds.ReadNotSharedDirty else (if n == 1 then kinds.ReadShared else (if n == 2 then kinds.ReadUnique else (if n == 3 then kinds.CleanUnique
    else (if n == 4 then kinds.Evict else (if n == 5 then kinds.WriteBackFull else (if n == 6 then kinds.WriteCleanFull else kinds.WriteEvictFull))))))

kind_again : (kind : Kind) → kind_at (kind_number kind) ≡ kind
kind_again kinds.ReadNotSharedDirty = refl
kind_again kinds.ReadShared = refl
kind_again kinds.ReadUnique = refl
kind_again kinds.CleanUnique = refl
kind_again kinds.Evict = refl
kind_again kinds.WriteBackFull = refl
kind_again kinds.WriteCleanFull = refl
kind_again kinds.WriteEvictFull = refl

abbrev pub phase_at : ℕ → Phase
phase_at n = if n == 0 then Sent else Retried

phase_again : (phase : Phase) → phase_at (phase_byte phase) ≡ phase
phase_again Sent = refl
phase_again Retried = refl

abbrev pub snoop_at : ℕ → Snoop
snoop_at n = if n == 0 then snoops.SnpShared else (if n == 1 then snoops.SnpNotSharedDirty else (if n == 2 then snoops.SnpUnique else snoops.SnpCleanInvalid))

snoop_again : (snoop : Snoop) → snoop_at (snoop_number snoop) ≡ snoop
snoop_again snoops.SnpShared = refl
snoop_again snoops.SnpNotSharedDirty = refl
snoop_again snoops.SnpUnique = refl
snoop_again snoops.SnpCleanInvalid = refl

abbrev pub credit_at : ℕ → CreditType
credit_at n = if n == 0 then T0 else (if n == 1 then T1 else (if n == 2 then T2 else T3))

abbrev pub rsp_up_at : ℕ → RspUp
rsp_up_at n = if n == 0 then SnpRespI else (if n == 1 then SnpRespSC else CompAck)

rsp_up_again : (response : RspUp) → rsp_up_at (rsp_up_byte response) ≡ response
rsp_up_again SnpRespI = refl
rsp_up_again SnpRespSC = refl
rsp_up_again CompAck = refl

state : IsOnce (λ (s : State). one_byte (state_number s))
state = named state_number state_at state_again

kind : IsOnce (λ (k : Kind). one_byte (kind_number k))
kind = named kind_number kind_at kind_again

phase : IsOnce (λ (p : Phase). one_byte (phase_byte p))
phase = named phase_byte phase_at phase_again

snoop : IsOnce (λ (s : Snoop). one_byte (snoop_number s))
snoop = named snoop_number snoop_at snoop_again

rsp_up : IsOnce (λ (response : RspUp). one_byte (rsp_up_byte response))
rsp_up = named rsp_up_byte rsp_up_at rsp_up_again

agent : IsOnce (λ (a : Agent). one_byte a.0)
agent = named (λ (a : Agent). a.0) (λ n. record { 0 = n }) (λ a. refl)

slot : IsOnce (λ (s : Slot). one_byte s.0)
slot = named (λ (s : Slot). s.0) (λ n. record { 0 = n }) (λ s. refl)

pub words : IsOnce words_bytes
words = list eight

pending : IsOnce pending_bytes
unfolding pending_bytes
pending = through (λ p. ((p.kind, p.slot), p.phase)) (λ p. record { kind = p.0.0; slot = p.0.1; phase = p.1 }) (both (both kind slot) phase) (λ p. refl) (λ p. refl)

pub rn : IsOnce rn_bytes
unfolding rn_bytes
rn = through (λ r. ((r.state, r.words), r.pending)) (λ p. record { state = p.0.0; words = p.0.1; pending = p.1 }) (both (both state words) (option pending)) (λ r. refl) (λ r. refl)

filter : IsOnce filter_bytes
unfolding filter_bytes
filter = through (λ f. ((f.named, f.unique), f.owner)) (λ p. record { named = p.0.0; unique = p.0.1; owner = p.1 }) (both (both (list mark) mark) (option agent)) (λ f. refl) (λ f. refl)

waiting : IsOnce waiting_bytes
unfolding waiting_bytes
waiting = through (λ w. (w.kind, w.slot)) (λ p. record { kind = p.0; slot = p.1 }) (both kind slot) (λ w. refl) (λ w. refl)

-- what is served, as its form, agent, kind and slot
abbrev serving_parts : Serving → (((ℕ × ℕ) × ℕ) × ℕ)
serving_parts Idle = (((0, 0), 0), 0)
serving_parts (Snooping a k s) = (((1, a.0), kind_number k), s.0)
serving_parts (AwaitingCompAck a s) = (((2, a.0), 0), s.0)
serving_parts (AwaitingWriteData a k s) = (((3, a.0), kind_number k), s.0)

abbrev serving_from : (((ℕ × ℕ) × ℕ) × ℕ) → Serving
serving_from p =
    if p.0.0.0 == 0 then Idle
    else (if p.0.0.0 == 1 then Snooping (record { 0 = p.0.0.1 }) (kind_at p.0.1) (record { 0 = p.1 })
    else (if p.0.0.0 == 2 then AwaitingCompAck (record { 0 = p.0.0.1 }) (record { 0 = p.1 })
    else AwaitingWriteData (record { 0 = p.0.0.1 }) (kind_at p.0.1) (record { 0 = p.1 })))

serving_is : (s : Serving) → serving_bytes s ≡ ((one_byte (serving_parts s).0.0.0 ++ one_byte (serving_parts s).0.0.1) ++ one_byte (serving_parts s).0.1) ++ one_byte (serving_parts s).1
unfolding served_bytes
serving_is Idle = refl
serving_is (Snooping a k s) = refl
serving_is (AwaitingCompAck a s) = refl
serving_is (AwaitingWriteData a k s) = refl

serving_again : (s : Serving) → serving_from (serving_parts s) ≡ s
serving_again Idle = refl
serving_again (Snooping a k s) = ap (λ (x : Kind). Snooping a x s) (kind_again k)
serving_again (AwaitingCompAck a s) = refl
serving_again (AwaitingWriteData a k s) = ap (λ (x : Kind). AwaitingWriteData a x s) (kind_again k)

serving : IsOnce serving_bytes
serving = through serving_parts serving_from (both (both (both one one) one) one) serving_is serving_again

pub home : IsOnce home_bytes
unfolding home_bytes
home = through
    (λ h. ((((h.memory, h.filter), h.serving), h.awaited), h.waiting))
    (λ p. record { memory = p.0.0.0.0; filter = p.0.0.0.1; serving = p.0.0.1; awaited = p.0.1; waiting = p.1 })
    (both (both (both (both words filter) serving) (list mark)) (list (option waiting)))
    (λ h. refl)
    (λ h. refl)

request : IsOnce request_bytes
unfolding request_bytes
request = through (λ r. ((r.kind, r.slot), r.allow_retry)) (λ p. record { kind = p.0.0; slot = p.0.1; allow_retry = p.1 }) (both (both kind slot) mark) (λ r. refl) (λ r. refl)

abbrev rsp_down_parts : RspDown → (ℕ × ℕ)
rsp_down_parts (RetryAck credit) = (0, credit_number credit)
rsp_down_parts CompUC = (1, 0)
rsp_down_parts CompI = (2, 0)
rsp_down_parts CompDBIDResp = (3, 0)

abbrev rsp_down_from : (ℕ × ℕ) → RspDown
rsp_down_from p = if p.0 == 0 then RetryAck (credit_at p.1) else (if p.0 == 1 then CompUC else (if p.0 == 2 then CompI else CompDBIDResp))

rsp_down_is : (response : RspDown) → rsp_down_bytes response ≡ one_byte (rsp_down_parts response).0 ++ one_byte (rsp_down_parts response).1
rsp_down_is (RetryAck credit) = refl
rsp_down_is CompUC = refl
rsp_down_is CompI = refl
rsp_down_is CompDBIDResp = refl

rsp_down_again : (response : RspDown) → rsp_down_from (rsp_down_parts response) ≡ response
rsp_down_again (RetryAck T0) = refl
rsp_down_again (RetryAck T1) = refl
rsp_down_again (RetryAck T2) = refl
rsp_down_again (RetryAck T3) = refl
rsp_down_again CompUC = refl
rsp_down_again CompI = refl
rsp_down_again CompDBIDResp = refl

rsp_down : IsOnce rsp_down_bytes
rsp_down = through rsp_down_parts rsp_down_from (both one one) rsp_down_is rsp_down_again

data_down : IsOnce data_down_bytes
unfolding data_down_bytes
data_down = through (λ s. (s.words, s.unique)) (λ p. record { words = p.0; unique = p.1 }) (both words mark) (λ s. refl) (λ s. refl)

abbrev up_parts : DatUp → ((ℕ × ℕ) × List ℕ)
up_parts (SnpRespDataIPD ws) = ((0, 0), ws)
up_parts (SnpRespDataSCPD ws) = ((1, 0), ws)
up_parts (SnpRespDataSD ws) = ((2, 0), ws)
up_parts (CopyBackWrData s ws) = ((3, state_number s), ws)

abbrev up_from : ((ℕ × ℕ) × List ℕ) → DatUp
up_from p =
    if p.0.0 == 0 then SnpRespDataIPD p.1 else (if p.0.0 == 1 then SnpRespDataSCPD p.1 else (if p.0.0 == 2 then SnpRespDataSD p.1 else CopyBackWrData (state_at p.0.1) p.1))

up_is : (response : DatUp) → data_up_bytes response ≡ (one_byte (up_parts response).0.0 ++ one_byte (up_parts response).0.1) ++ words_bytes (up_parts response).1
unfolding data_up_parts
up_is (SnpRespDataIPD ws) = refl
up_is (SnpRespDataSCPD ws) = refl
up_is (SnpRespDataSD ws) = refl
up_is (CopyBackWrData s ws) = refl

up_again : (response : DatUp) → up_from (up_parts response) ≡ response
up_again (SnpRespDataIPD ws) = refl
up_again (SnpRespDataSCPD ws) = refl
up_again (SnpRespDataSD ws) = refl
up_again (CopyBackWrData s ws) = ap (λ (x : State). CopyBackWrData x ws) (state_again s)

data_up : IsOnce data_up_bytes
data_up = through up_parts up_from (both (both one one) words) up_is up_again

pub cells : IsOnce cells_bytes
unfolding cells_bytes
cells = through
    (λ c. (((((c.req, c.snp), c.rsp_down), c.dat_down), c.rsp_up), c.dat_up))
    (λ p. record { req = p.0.0.0.0.0; snp = p.0.0.0.0.1; rsp_down = p.0.0.0.1; dat_down = p.0.0.1; rsp_up = p.0.1; dat_up = p.1 })
    (both (both (both (both (both (option request) (option snoop)) (option rsp_down)) (option data_down)) (option rsp_up)) (option data_up))
    (λ c. refl)
    (λ c. refl)

pub line : IsOnce line_bytes
unfolding line_bytes
line = through (λ l. ((l.requesters, l.home), l.flits)) (λ p. record { requesters = p.0.0; home = p.0.1; flits = p.1 }) (both (both (list rn) home) (list cells)) (λ l. refl) (λ l. refl)
