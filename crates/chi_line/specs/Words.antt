-- The words of the protocol, passed on from one place. Declares nothing.
pub use Rattle.chi_flit.specs.declared.numbers.Agent.{Agent}
pub use Rattle.chi_flit.specs.declared.numbers.Line.{Line}
pub use Rattle.chi_flit.specs.declared.numbers.Slot.{Slot}
pub use Rattle.chi_flit.specs.declared.state.State.{State}
pub use Rattle.chi_flit.specs.declared.state.State.TheVariants.{I, SC, UC, UD, SD}
pub use Rattle.chi_flit.specs.declared.kind.Kind.{Kind}
pub use Rattle.chi_flit.specs.declared.kind.Kind.TheVariants.{ReadNotSharedDirty, ReadShared, ReadUnique, CleanUnique, Evict, WriteBackFull, WriteCleanFull, WriteEvictFull}
pub use Rattle.chi_flit.specs.declared.snoop.Snoop.{Snoop}
pub use Rattle.chi_flit.specs.declared.snoop.Snoop.TheVariants.{SnpNotSharedDirty, SnpShared, SnpUnique, SnpCleanInvalid}
pub use Rattle.chi_flit.specs.declared.credit.Profile.{Profile}
pub use Rattle.chi_flit.specs.declared.credit.CreditType.{CreditType}
pub use Rattle.chi_flit.specs.declared.action.Step.{Step}
pub use Rattle.chi_flit.specs.declared.action.Effect.{Effect}
pub use Rattle.chi_flit.specs.declared.action.Effect.TheVariants.{Nothing, Value, Completed}
pub use Rattle.chi_flit.specs.declared.message.Msg.{Msg}
pub use Rattle.chi_flit.specs.declared.message.Msg.TheVariants.{Req, Snp, RspDown, DatDown, RspUp, DatUp}
pub use Rattle.chi_flit.specs.declared.message.RspDown.TheVariants.{RetryAck, CompUC, CompI, CompDBIDResp}
pub use Rattle.chi_flit.specs.declared.message.RspUp.TheVariants.{SnpRespI, SnpRespSC, CompAck}
pub use Rattle.chi_flit.specs.declared.message.DatUp.TheVariants.{SnpRespDataIPD, SnpRespDataSCPD, SnpRespDataSD, CopyBackWrData}
pub use Rattle.chi_journal.specs.declared.record.Record.{Record}
pub use Rattle.chi_wires.specs.Flight.{Flit, flit}
pub use Rattle.chi_rnline.specs.declared.pending.Pending.{Pending}
pub use Rattle.chi_rnline.specs.declared.pending.Phase.{Phase}
pub use Rattle.chi_rnline.specs.declared.pending.Phase.TheVariants.{Sent, Retried}
pub use Rattle.chi_homeline.specs.declared.serving.Waiting.{Waiting}
