-- What is answered to each call of a node (docs/FORMATS.md, "Replay files").
use Rattle.std.specs.Prelude.{Option, Some, None, Result, Ok, Err}
use Rattle.chi_flit.specs.declared.action.Effect.{Effect}
use Rattle.chi_flit.specs.declared.action.Effect.TheVariants as effects
use Rattle.chi_flit.specs.declared.refusal.Refusal.{Refusal}
use Rattle.chi_node.specs.Words.{Released}
use Rattle.chi_node.specs.declared.answers.Arrived.{Arrived}
use Rattle.chi_node.specs.declared.answers.Arrived.TheVariants as arrivals
use Rattle.chi_node.specs.declared.answers.Stepped.{Stepped}
use Rattle.chi_replay.specs.declared.replies.Reply.{Reply}
use Rattle.chi_replay.specs.declared.replies.Reply.TheVariants.{Admitted, Completed, Done, Idle, Paid, Refused, Retry, Value}

abbrev pub arrival_reply : Result Arrived Refusal → Reply
arrival_reply (Ok (arrivals.Admitted entry)) = Admitted entry
arrival_reply (Ok (arrivals.Retried ty)) = Retry ty
arrival_reply (Err refusal) = Refused refusal

-- a request is completed only with the release of its entry
abbrev pub done_reply : Effect → Option Released → Reply
done_reply effects.Nothing released = Done
done_reply (effects.Value word) released = Value word
done_reply (effects.Completed slot) (Some released) = Completed slot released
done_reply (effects.Completed slot) None = Done

abbrev pub step_reply : Result Stepped Refusal → Reply
step_reply (Ok stepped) = done_reply stepped.effect stepped.released
step_reply (Err refusal) = Refused refusal

abbrev pub give_back_reply : Result Released Refusal → Reply
give_back_reply (Ok released) = Paid released
give_back_reply (Err refusal) = Refused refusal

abbrev pub tend_reply : Result (Option Released) Refusal → Reply
tend_reply (Ok (Some released)) = Paid released
tend_reply (Ok None) = Idle
tend_reply (Err refusal) = Refused refusal
