-- Parts of RecvSnpResp: where an answer is in flight, and what a completion leaves (docs/PROTOCOL.md,
-- "Answers of snooped agents").
use Rattle.std.specs.Prelude.{List, Option, Some, None, slice_set}
use Rattle.std.specs.List.{slice_index_or}
use Rattle.chi_flit.specs.declared.message.Channel.{Channel}
use Rattle.chi_flit.specs.declared.message.Channel.TheVariants.{RspUp, DatUp}
use Rattle.chi_wires.specs.declared.cells.Cells.{Cells}
use Rattle.chi_wires.specs.Cell.{no_flits, with_message}
use Rattle.chi_homeline.specs.declared.serving.Completion.{Completion}
use Rattle.chi_homeline.specs.declared.serving.SnoopAnswer.{SnoopAnswer}
use Rattle.chi_homeline.specs.declared.serving.SnoopAnswer.TheVariants as answers

-- the channel of an answer: responses, and data
abbrev pub answer_channel : SnoopAnswer → Channel
answer_channel answers.I = RspUp
answer_channel answers.SC = RspUp
answer_channel other = DatUp

-- a row with a completion in flight, if there is one
abbrev pub completion_put : List Cells → Option Completion → List Cells
completion_put flits None = flits
completion_put flits (Some completion) = slice_set flits completion.agent.0 (with_message (slice_index_or flits completion.agent.0 no_flits) completion.message)
