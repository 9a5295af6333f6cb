-- The line is in the table as it is then.
use Rattle.std.proofs.Common.{rules, ◌≡◌, Some, nat_eq}
use Rattle.std.specs.Map.{lookup}
use Rattle.chi_observe.specs.Judges.{before_of}
use Rattle.chi_observe.proofs.TellLemmas.{told_found, written}
use Rattle.chi_observe.proofs.lines.tell.Goals as goal

pub returns-in-Some : goal.returns-in-Some
returns-in-Some g c =
    let old = c.in-Some.seen.now in
    let new = c.tell.new.self in
    let es = c.args.lines.now.entries in
    let fs = (c.get_mut.follows.lender new).entries in
    let found : lookup (nat_eq c.args.line.0) es ≡ Some old = search rules in
    told_found (before_of c.args.before.now) es fs c.args.number c.args.line c.args.home c.args.news.now old new c.tell.result found
    (written c.args.line new es fs ((c.get_mut.follows.holds new).3 (search rules)).0) c.tell.ensures.told c.tell.ensures.done
