use Rattle.std.proofs.Common.{rules, take}
use Rattle.chi_lanes.specs.Columns.{columns_of}
use Rattle.chi_log.specs.Lines.{line_of}
use Rattle.chi_log.proofs.LineLemmas.{read_told}
use Rattle.chi_log.proofs.lines.read_line_among.Goals as goal

pub returns-in-Some-clause-line : goal.returns-in-Some-clause-line
unfolding line_of
returns-in-Some-clause-line c =
    let told = read_told c.args.options (columns_of (take c.args.size c.args.bytes.now)) c.in-Some.seen c.in-Some.ensures.seen in
    search (rules, told)
