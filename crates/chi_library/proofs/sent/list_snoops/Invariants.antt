-- So far the snoops are listed, and those to the agents that are left are to come.
use Rattle.chi_library.proofs.Listings.{IsListing}
use Rattle.chi_library.proofs.SentLists.{told_from}
use Rattle.chi_library.proofs.sent.list_snoops.Given as goal

abbrev pub invariant-loop-agent : goal.invariant-loop-agent
invariant-loop-agent l = IsListing 8 (told_from l.snoop l.agents 0) (told_from l.snoop l.agents l.agent) l.fn.sent l.sent l.count
