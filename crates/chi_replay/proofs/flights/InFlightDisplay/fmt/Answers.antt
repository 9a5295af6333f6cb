use Rattle.std.proofs.Common.{rules}
use Rattle.std.proofs.Output.{has_written_append, has_written_of_eq}
use Rattle.chi_flit.specs.declared.message.Channel.TheVariants as channels
use Rattle.chi_slice.specs.Words.{cell_of}
use Rattle.chi_replay.proofs.Messages.{spaced_more}
use Rattle.chi_replay.proofs.flights.InFlightDisplay.fmt.Goals as goal

-- the text so far, and the message of one channel more
pub loop-channel-preserved : goal.loop-channel-preserved
loop-channel-preserved g c plain =
    let cell = cell_of c.args.self.now.0.now in
    has_written_of_eq _ _ _ _ _ (spaced_more cell _ c.loop-channel.channel-index channels.Req c.loop-channel-test.true)
    (has_written_append _ _ _ _ _ _ (c.loop-channel.invariant plain) (search rules))
