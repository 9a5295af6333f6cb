-- Answers to snoops, a line a cell: the next state and the message, by state and snoop
-- (Arm IHI 0050 B, chapter 4; docs/PROTOCOL.md, "Answers to snoops").
use Rattle.std.specs.Prelude.{ℕ, List, codes, Option, Some, None, ◌==◌, if◌then◌else◌}
use Rattle.chi_flit.specs.declared.state.State.{State}
use Rattle.chi_flit.specs.declared.state.State.TheVariants.{I, SC, UC, UD, SD}
use Rattle.chi_flit.specs.declared.snoop.Snoop.{Snoop}
use Rattle.chi_flit.specs.declared.snoop.Snoop.TheVariants.{SnpShared, SnpNotSharedDirty, SnpUnique, SnpCleanInvalid}
use Rattle.chi_flit.specs.declared.message.RspUp.TheVariants.{SnpRespI, SnpRespSC}
use Rattle.chi_flit.specs.declared.message.DatUp.TheVariants.{SnpRespDataIPD, SnpRespDataSCPD, SnpRespDataSD}
use Rattle.chi_flit.specs.declared.message.Msg.{Msg}
use Rattle.chi_flit.specs.declared.message.Msg.TheVariants.{RspUp, DatUp}

abbrev pub answer_of : State → Snoop → List ℕ → State × Msg
answer_of I snoop words = (I, RspUp SnpRespI)
answer_of SC SnpShared words = (SC, RspUp SnpRespSC)
answer_of SC SnpNotSharedDirty words = (SC, RspUp SnpRespSC)
answer_of SC other words = (I, RspUp SnpRespI)
answer_of UC SnpShared words = (SC, RspUp SnpRespSC)
answer_of UC SnpNotSharedDirty words = (SC, RspUp SnpRespSC)
answer_of UC other words = (I, RspUp SnpRespI)
answer_of UD SnpShared words = (SD, DatUp (SnpRespDataSD words))
answer_of UD SnpNotSharedDirty words = (SC, DatUp (SnpRespDataSCPD words))
answer_of UD other words = (I, DatUp (SnpRespDataIPD words))
answer_of SD SnpShared words = (SD, DatUp (SnpRespDataSD words))
answer_of SD SnpNotSharedDirty words = (SC, DatUp (SnpRespDataSCPD words))
answer_of SD other words = (I, DatUp (SnpRespDataIPD words))

abbrev pub snoop_text : Snoop → List ℕ
snoop_text SnpShared = codes "SnpShared"
snoop_text SnpNotSharedDirty = codes "SnpNotSharedDirty"
snoop_text SnpUnique = codes "SnpUnique"
snoop_text SnpCleanInvalid = codes "SnpCleanInvalid"

-- numbered in this order, as files and interfaces for programs have it (docs/LIBRARY.md, "Numbers")
abbrev pub snoop_number : Snoop → ℕ
snoop_number SnpShared = 0
snoop_number SnpNotSharedDirty = 1
snoop_number SnpUnique = 2
snoop_number SnpCleanInvalid = 3

abbrev pub snoop_numbered : ℕ → Option Snoop
snoop_numbered n =
    if n == 0 then Some SnpShared else (
    if n == 1 then Some SnpNotSharedDirty else (
    if n == 2 then Some SnpUnique else (
    if n == 3 then Some SnpCleanInvalid else None)))
