-- What may stand in place of what was seen (docs/TRACES.md, "What is printed").
use Rattle.std.specs.Prelude.{◌≡◌, ◌==◌, ◌&&◌, ◌||◌, Bool, List, true, false}
use Rattle.std.specs.List.{All}
use Rattle.chi_flit.specs.declared.message.Msg.{Msg}
use Rattle.chi_flit.specs.declared.message.Msg.TheVariants.{Req, Snp, RspDown, DatDown, RspUp, DatUp}
use Rattle.chi_flit.specs.declared.numbers.Agent.{Agent}
use Rattle.chi_flit.specs.declared.numbers.WordNo.{WordNo}
use Rattle.chi_explain.specs.declared.observed.Observed.{Observed}
use Rattle.chi_explain.specs.declared.observed.Observed.TheVariants.{Flit, Load, Store}

abbrev pub is_request_flit : Msg → Bool
is_request_flit (Req request) = true
is_request_flit other = false

abbrev pub is_snoop_flit : Msg → Bool
is_snoop_flit (Snp snoop) = true
is_snoop_flit other = false

-- a response or data to a requester
abbrev pub is_to_requester : Msg → Bool
is_to_requester (RspDown response) = true
is_to_requester (DatDown read) = true
is_to_requester other = false

-- a response or data of one
abbrev pub is_up : Msg → Bool
is_up (RspUp response) = true
is_up (DatUp written) = true
is_up other = false

-- two messages of one direction: two requests, two snoops, or responses and data of the same way
abbrev pub is_same_way : Msg → Msg → Bool
is_same_way one other =
    (is_request_flit one && is_request_flit other) || ((is_snoop_flit one && is_snoop_flit other) || ((is_to_requester one && is_to_requester other) || (is_up one && is_up other)))

abbrev pub is_same_word : Agent → WordNo → Agent → WordNo → Bool
is_same_word agent word other that = agent.0 == other.0 && word.0 == that.0

-- a flit of the same requester and direction, or a load or a store of the same requester and word
unfoldable pub is_alike : Observed → Observed → Bool
is_alike (Flit one) (Flit other) = one.agent.0 == other.agent.0 && is_same_way one.message other.message
is_alike (Load agent word value) (Load other that read) = is_same_word agent word other that
is_alike (Load agent word value) (Store other that written) = is_same_word agent word other that
is_alike (Store agent word value) (Load other that read) = is_same_word agent word other that
is_alike (Store agent word value) (Store other that written) = is_same_word agent word other that
is_alike one other = false

-- and so is each of these
pub record AreInterchangeable (seen : Observed) (others : List Observed) : Type 0 where
  pub all : All (λ other. is_alike seen other ≡ true) others
