-- Refusals are the protocol's, and what a slice keeps is kept, from a new slice on.
use Rattle.chi_slice.proofs.Computed.{keeps_at_first, keeps_on}
use Rattle.chi_slice.proofs.Refused.{refused_is, with_credits_is}
use Rattle.chi_slice.proofs.laws.what_is_computed_is_by_the_protocol.Goals as goal

pub returns-clause-alone : goal.returns-clause-alone
returns-clause-alone c = refused_is

pub returns-clause-credits : goal.returns-clause-credits
returns-clause-credits c = with_credits_is

pub returns-clause-kept : goal.returns-clause-kept
returns-clause-kept c = keeps_on

pub returns-clause-new : goal.returns-clause-new
returns-clause-new c = keeps_at_first
