-- Each agent's snoop is listed, or there is none, as it has a mark.
use Rattle.std.proofs.Common.{rules, arith, ◌≡◌, ◌+◌, ◌<◌, ◌∷◌, ◌∙◌, ap, sym, true, false, get_or, length}
use Rattle.chi_library.specs.declared.flits.ChiSent.{ChiSent}
use Rattle.chi_library.proofs.Listings.{listing_ends, listing_more, listing_same, listing_starts}
use Rattle.chi_library.proofs.SentLists.{few_sent, next_marked, next_unmarked, none_from, told_from}
use Rattle.chi_library.proofs.sent.list_snoops.Goals as goal
use Rattle.chi_library.proofs.sent.list_snoops.Goals.{then-agents-from, else-agents-from}

pub loop-agent-init : goal.loop-agent-init
loop-agent-init c =
    let few = few_sent c.args.snoop c.args.agents.now in
    listing_starts 8 (told_from c.args.snoop c.args.agents.now 0) c.args.sent.now c.told-sent (omega (arith, few, c.told-agents))

pub loop-agent-preserved : goal.loop-agent-preserved
loop-agent-preserved c =
    let whole = told_from c.args.snoop c.args.agents.now 0 in
    let before = told_from c.args.snoop c.args.agents.now c.loop-agent.agent in
    let rest = told_from c.args.snoop c.args.agents.now (c.loop-agent.agent + 1) in
    let low : c.loop-agent.agent < length c.args.agents.now = omega (arith, c.loop-agent-test.true, c.told-agents) in
    elim c.if-agents-from.branch [
      | then-agents-from w ↦
          let marked : get_or c.args.agents.now c.loop-agent.agent false ≡ true = search (rules, w.if-agents-from.true, c.from.ensures) in
          let next = next_marked c.args.snoop c.args.agents.now c.loop-agent.agent false low marked in
          listing_more w.tell_snoop.new.told 8 whole before rest c.args.sent.now c.loop-agent.sent c.if-agents-from.sent c.loop-agent.count c.if-agents-from.count
          (next ∙ ap (λ (x : ChiSent). x ∷ rest) (sym w.tell_snoop.ensures)) (search (rules, w.sent-is, w.from-then-agents-from.ensures)) w.count-is c.loop-agent.invariant
      | else-agents-from w ↦
          let unmarked : get_or c.args.agents.now c.loop-agent.agent false ≡ false = search (rules, w.if-agents-from.false, c.from.ensures) in
          let next = next_unmarked c.args.snoop c.args.agents.now c.loop-agent.agent false low unmarked in
          listing_same 8 whole before rest c.args.sent.now c.loop-agent.sent c.if-agents-from.sent c.loop-agent.count c.if-agents-from.count next w.sent-is w.count-is c.loop-agent.invariant
    ]

pub returns : goal.returns
returns c =
    listing_ends 8 (told_from c.args.snoop c.args.agents.now 0) (told_from c.args.snoop c.args.agents.now c.loop-agent.agent) c.args.sent.now c.loop-agent.sent c.loop-agent.count
    (none_from c.args.snoop c.args.agents.now c.loop-agent.agent (omega (arith, c.loop-agent-test.false, c.told-agents))) c.loop-agent.invariant
