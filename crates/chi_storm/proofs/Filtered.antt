-- The operations of an agent among the first ones of a file.
use Rattle.std.proofs.Common.{◌≡◌, ℕ, ◌+◌, ◌<◌, ◌≤◌, ◌==◌, List, Bool, true, cond, get_or, take, drop, length, ◌∙◌, ap, arith, length-append}
use Rattle.std.proofs.lemmas.List.{length-map, take-append-drop}
use Rattle.std.proofs.lemmas.List.Elements.{filter-append}
use Rattle.std.proofs.lemmas.List.Filters.{length-filter_more}
use Rattle.chi_script.specs.declared.operations.AgentOperation.{AgentOperation}
use Rattle.chi_storm.specs.Scripts.{deeds_of, agent_script}

-- one more is the agent's, or not
next_count : (agent n : ℕ) (deeds : List AgentOperation) (d : AgentOperation) (own : Bool) → n < length deeds → ((get_or deeds n d).agent.0 == agent) ≡ own
    → length (deeds_of agent (take (n + 1) deeds)) ≡ length (deeds_of agent (take n deeds)) + cond own 1 0
next_count agent n deeds d own low test =
    length-filter_more (λ (o : AgentOperation). o.agent.0 == agent) deeds n d low ∙ ap (λ b. length (deeds_of agent (take n deeds)) + cond b 1 0) test

-- no more of the first ones are the agent's than of all
at_most : (agent n : ℕ) (deeds : List AgentOperation) → length (deeds_of agent (take n deeds)) ≤ length (deeds_of agent deeds)
at_most agent n deeds =
    let all = ap (λ (os : List AgentOperation). length (deeds_of agent os)) (take-append-drop n deeds) in
    let parts = ap length (filter-append (λ (o : AgentOperation). o.agent.0 == agent) (take n deeds) (drop n deeds)) in
    omega (arith, all, parts, length-append (deeds_of agent (take n deeds)) (deeds_of agent (drop n deeds)))

-- so there is room for one more
pub has_room : (agent n : ℕ) (deeds : List AgentOperation) (d : AgentOperation) → n < length deeds → ((get_or deeds n d).agent.0 == agent) ≡ true
    → length (agent_script agent (take n deeds)) < length (deeds_of agent deeds)
has_room agent n deeds d low test =
    let more = next_count agent n deeds d true low test in
    omega (arith, more, at_most agent (n + 1) deeds, length-map (deeds_of agent (take n deeds)) (λ (o : AgentOperation). o.operation))
