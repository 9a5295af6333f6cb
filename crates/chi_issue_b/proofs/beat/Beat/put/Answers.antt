use Rattle.std.proofs.Common.{arith}
use Rattle.chi_issue_b.proofs.Beats.{put_is}
use Rattle.chi_issue_b.proofs.beat.Beat.put.Goals as goal

pub returns : goal.returns
returns c = λ n l. put_is c.args.self.now c.args.number c.args.word n (omega arith) c.requires
