-- A slot with a place in the slice, and one without.
use Rattle.std.proofs.Common.{◌↔◌, ◌&&◌, Bool, subst}
use Rattle.std.specs.Prelude.{IsTrue}
use Rattle.chi_node.specs.Agree.{MatchesRecord}
use Rattle.chi_node.proofs.Matches.{matches_elsewhere, matches_placed, matches_unplaced}
use Rattle.chi_node.proofs.agree.matches_record.Goals as goal

pub returns-then-is_said : goal.returns-then-is_said
returns-then-is_said g c =
    subst (λ (b : Bool). IsTrue (b && c.has_type.result) ↔ MatchesRecord c.args.slice.now c.args.agent.0 c.args.slot c.args.said) c.if-is_said.true
    (matches_placed c.args.slice.now c.args.agent.0 c.args.slot c.args.said c.in-Some.place c.is_said.result c.has_type.result c.has_type.ensures.kept c.requires.agent
    (c.in-Some.ensures.shows c.requires.agent c.requires.slot) (c.in-Some.ensures.line c.requires.agent c.requires.slot) c.is_said.ensures (c.has_type.ensures.typed c.requires.agent c.requires.slot))

pub returns-else-is_said : goal.returns-else-is_said
returns-else-is_said g c =
    matches_elsewhere c.args.slice.now c.args.agent.0 c.args.slot c.args.said c.in-Some.place c.is_said.result
    (c.in-Some.ensures.shows c.requires.agent c.requires.slot) (c.in-Some.ensures.line c.requires.agent c.requires.slot) c.is_said.ensures c.if-is_said.false

pub returns-in-None : goal.returns-in-None
returns-in-None g c = matches_unplaced c.args.slice.now c.args.agent.0 c.args.slot c.args.said c.is_said_in.result (c.in-None.ensures.shows c.requires.agent c.requires.slot) c.is_said_in.ensures
