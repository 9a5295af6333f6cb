-- The copies with the home's words send it, and the others.
use Rattle.chi_copies.specs.Sets.{members}
use Rattle.chi_copies.specs.BegunLines.{begun}
use Rattle.chi_copies.proofs.BegunTaken.{sent_parts}
use Rattle.chi_copies.proofs.begun.Begun.sent.Goals as goal

pub returns : goal.returns
returns c = sent_parts (begun c.args.self.now) c.args.flit c.sent_with-known.result c.sent_with-unknown.result (members c.may_in-may.result) (members c.copies-home.result) (members c.others.result) (members c.and.result) (members c.and-2.result) (members c.image-with_home.result) (members c.image-with_others.result) (members c.or.result)
    c.sent_with-known.ensures c.sent_with-unknown.ensures c.may_in-may.ensures c.copies-home.ensures c.others.ensures c.and.ensures c.and-2.ensures c.image-with_home.ensures c.image-with_others.ensures c.or.ensures
