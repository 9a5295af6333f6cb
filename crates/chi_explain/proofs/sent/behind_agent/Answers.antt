use Rattle.chi_explain.specs.Sent.{sent_of_agent}
use Rattle.chi_explain.proofs.SentLemmas.{five}
use Rattle.chi_explain.proofs.sent.behind_agent.Goals as goal

pub returns : goal.returns
unfolding sent_of_agent
returns c = five _ _ _ _ _ _ _ _ _ _ _ c.in_ok-rest.ensures c.in_ok-rest-2.ensures c.in_ok-rest-3.ensures c.in_ok-rest-4.ensures c.in_ok-rest-5.ensures
