-- The completion that an answer brings finds its cell empty, and no flit is lost or made.
use Rattle.std.specs.Prelude.{true}
use Rattle.std.proofs.Common.{◌≡◌, ◌++◌, Some, set, rules}
use Rattle.std.specs.List.Sorted.{IsPermutation}
use Rattle.chi_filter.specs.Filter.{is_named}
use Rattle.chi_wires.specs.Cell.{without_message}
use Rattle.chi_wires.specs.Flight.{in_flight}
use Rattle.chi_homeline.specs.Home.{snoop_answered_sends}
use Rattle.chi_line.specs.LineState.{cells_of}
use Rattle.chi_line.specs.Snooped.{answer_channel}
use Rattle.chi_line.specs.Step.{answer_in}
use Rattle.chi_line.specs.Traffic.{completion_flits, flit_on}
use Rattle.chi_line.proofs.Answering.{answer_balances, completion_finds_empty}
use Rattle.chi_line.proofs.line.CoherentLine.receive_answer.Goals as goal

pub put_completion-requires-clause-empty : goal.put_completion-requires-clause-empty
put_completion-requires-clause-empty c = λ some is.
    let s = c.args.self.now in
    let answer = c.in-Some.found.answer in
    let found : answer_in (cells_of s c.args.agent.0) ≡ Some answer = search rules in
    let named : is_named s.home.filter c.args.agent.0 ≡ true = c.requires.named in
    let taken : c.clear.new.self ≡ set s.flits c.args.agent.0 (without_message (cells_of s c.args.agent.0) (answer_channel answer)) = search rules in
    let sends : snoop_answered_sends s.home c.args.agent answer ≡ Some some = search rules in
    completion_finds_empty s c.args.agent answer c.clear.new.self some taken sends c.requires.down

pub returns-clause-flits : goal.returns-clause-flits
returns-clause-flits c =
    let s = c.args.self.now in
    let answer = c.in-Some.found.answer in
    let found : answer_in (cells_of s c.args.agent.0) ≡ Some answer = search rules in
    let named : is_named s.home.filter c.args.agent.0 ≡ true = c.requires.named in
    let taken : IsPermutation (flit_on s c.args.agent (answer_channel answer) ++ in_flight c.clear.new.self) (in_flight s.flits) = search rules in
    let sends : IsPermutation (in_flight c.put_completion.new.flits) (completion_flits (snoop_answered_sends s.home c.args.agent answer) ++ in_flight c.clear.new.self) = search rules in
    answer_balances s c.args.agent (answer_in (cells_of s c.args.agent.0)) answer c.clear.new.self c.put_completion.new.flits found taken sends
