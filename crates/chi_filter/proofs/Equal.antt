-- Two filters are equal, as `==` finds it, exactly where they are the same.
use Rattle.std.proofs.Common.{rules, arith, ◌≡◌, Option, List, Bool}
use Rattle.std.specs.Bool.{Decides}
use Rattle.std.specs.Cmp.Lexicographic.{pointwise, pointwise_decides}
use Rattle.std.specs.Option.{option_eq}
use mathlib.Core.Bool.{beq}
use Rattle.chi_flit.specs.declared.numbers.Agent.{Agent}
use Rattle.chi_flit.specs.contracts.numbers.AgentPartialEq.TheImpl as agents
use Rattle.chi_filter.specs.Filter.{FilterState}
use Rattle.chi_filter.specs.contracts.filter.FilterPartialEq.TheImpl as filters

pub agent : (a b : Agent) → Decides (agents.eq-value.it a b) (a ≡ b)
agent a b = search (rules, arith)

owner : (a b : Option Agent) → Decides (option_eq agents.eq-value.it a b) (a ≡ b)
owner a b = search (rules, arith, agent)

pub mark : (a b : Bool) → Decides (beq a b) (a ≡ b)
mark a b = search (rules, arith)

pub marks : (a b : List Bool) → Decides (pointwise beq a b) (a ≡ b)
marks = pointwise_decides mark

pub filter : (a b : FilterState) → Decides (filters.eq-value.it a b) (a ≡ b)
filter a b = search (rules, arith, marks, mark, owner)
