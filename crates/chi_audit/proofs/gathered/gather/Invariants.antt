use Rattle.std.proofs.Common.{◌≡◌}
use Rattle.chi_audit.specs.Gathered.{AreKept, AreAsTold}
use Rattle.chi_audit.proofs.gathered.gather.Given as goal

abbrev pub invariant-loop : goal.invariant-loop
invariant-loop g l = AreKept l.n l.inbox.got l.reports × AreAsTold l.inbox.told l.inbox.got × (l.inbox.told ≡ l.fn.inbox.told) × (l.inbox.channel ≡ l.fn.inbox.channel)
