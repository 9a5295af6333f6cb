-- Where nothing refuses a start, it completes an Evict alone.
use Rattle.std.proofs.Common.{◌∙◌, sym}
use Rattle.chi_line.proofs.Sends.{evicted_slot_is}
use Rattle.chi_line.proofs.position.evicted_slot.Goals as goal

pub returns-in_ok-waiting-in-None : goal.returns-in_ok-waiting-in-None
returns-in_ok-waiting-in-None c =
    c.slot_of_evict.ensures ∙ sym (evicted_slot_is c.args.home.now c.args.agent c.in_ok-waiting-in-None.field-0 (sym c.waiting.ensures ∙ c.in_ok-waiting-in-None.was) (sym c.why_no_start.ensures ∙ c.in-None.is))
