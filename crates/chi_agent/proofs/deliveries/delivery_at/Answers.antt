-- The deliveries that are marked are those that are enabled, each the requester's own.
use Rattle.std.proofs.Common.{rules, ◌≡◌, ◌%◌, ◌∙◌, length, Some, slice_get}
use Rattle.std.specs.List.{filter}
use Rattle.chi_agent.specs.Choice.{deliveries, enabled_deliveries, is_enabled}
use Rattle.chi_agent.proofs.Enabled.{own_call}
use Rattle.chi_agent.proofs.deliveries.delivery_at.Goals as goal

pub returns-in_err-found-clause-is : goal.returns-in_err-found-clause-is
returns-in_err-found-clause-is g c =
    let f = is_enabled c.args.here.now.slice.now c.args.here.now.agent.0 c.args.here.now.line in
    let these : c.deref.result.now ≡ enabled_deliveries c.args.here.now.slice.now c.args.here.now.agent.0 c.args.here.now.line = c.deref.ensures.0 ∙ c.deliveries_of.ensures f c.delivery_marks-marks.ensures in
    search (rules, these)

pub returns-clause-is : goal.returns-clause-is
returns-clause-is g c =
    let f = is_enabled c.args.here.now.slice.now c.args.here.now.agent.0 c.args.here.now.line in
    let these : c.deref.result.now ≡ enabled_deliveries c.args.here.now.slice.now c.args.here.now.agent.0 c.args.here.now.line = c.deref.ensures.0 ∙ c.deliveries_of.ensures f c.delivery_marks-marks.ensures in
    search (rules, these)

pub returns-clause-own : goal.returns-clause-own
returns-clause-own g c =
    let f = is_enabled c.args.here.now.slice.now c.args.here.now.agent.0 c.args.here.now.line in
    let these : c.deref.result.now ≡ filter f deliveries = c.deref.ensures.0 ∙ c.deliveries_of.ensures f c.delivery_marks-marks.ensures in
    let found : slice_get (filter f deliveries) (c.args.number % length (filter f deliveries)) ≡ Some c.in_ok-found.found = search (rules, these) in
    own_call f (c.args.number % length (filter f deliveries)) c.in_ok-found.found found
