-- No copy sends it.
use Rattle.std.proofs.Common.{sym}
use Rattle.chi_copies.specs.BegunLines.{begun}
use Rattle.chi_copies.proofs.BegunTaken.{not_sent, not_sent_reason}
use Rattle.chi_copies.proofs.begun.Begun.take_sent.Goals as goal

pub returns-in-None-clause-taken : goal.returns-in-None-clause-taken
returns-in-None-clause-taken c = not_sent (begun c.args.self.now) c.args.flit (sym c.in-None.ensures.sent)

pub returns-in-None-clause-why : goal.returns-in-None-clause-why
returns-in-None-clause-why c = not_sent_reason (begun c.args.self.now) c.args.flit (sym c.in-None.ensures.sent)
