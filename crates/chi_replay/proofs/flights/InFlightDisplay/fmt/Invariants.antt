use Rattle.std.proofs.Common.{take}
use Rattle.std.specs.Prelude.{option_to_list}
use Rattle.std.specs.List.{flat_map}
use Rattle.std.specs.Fmt.{HasWritten, IsPlainFormatter}
use Rattle.chi_flit.specs.Message.{message_text}
use Rattle.chi_slice.specs.Words.{cell_of}
use Rattle.chi_replay.specs.Replies.{spaced_texts}
use Rattle.chi_replay.proofs.flights.InFlightDisplay.fmt.Given as goal

-- the messages of the channels so far
abbrev pub invariant-loop-channel : goal.invariant-loop-channel
invariant-loop-channel g l =
    IsPlainFormatter l.initial.f → HasWritten g.W.Write.write_str_gives l.initial.f (spaced_texts message_text (flat_map (λ channel. option_to_list (cell_of l.self.0.now channel)) (take l.channel-index l.channel-items))) l.f
