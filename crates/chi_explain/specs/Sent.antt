-- The flits that an action sends: those in flight after it that weren't before (docs/TRACES.md,
-- "Explanations").
use Rattle.std.specs.Prelude.{ℕ, zero, suc, Bool, true, false, List, [], ◌∷◌, ◌++◌, Option, Some, None, is_some, nat_lt, if◌then◌else◌}
use Rattle.chi_flit.specs.Numbers.{agent_at}
use Rattle.chi_flit.specs.declared.numbers.Agent.{Agent}
use Rattle.chi_flit.specs.declared.message.Channel.TheVariants.{Req, RspDown, DatDown, RspUp, DatUp}
use Rattle.chi_flit.specs.declared.message.Msg.{Msg}
use Rattle.chi_flit.specs.declared.action.Step.{Step}
use Rattle.chi_flit.specs.declared.action.Step.TheVariants as steps
use Rattle.chi_slice.specs.Servings.{Snooping}
use Rattle.chi_slice.specs.Words.{cell_of, cells_at, Cells, LineState, Serving}
use Rattle.chi_explain.specs.declared.observed.Observed.{Observed}
use Rattle.chi_explain.specs.declared.sent.Busy.{Busy}
use Rattle.chi_explain.specs.declared.observed.Observed.TheVariants.{Flit}

-- on which of an agent's channels, but the snoops', something is in flight
abbrev pub busy_in : Cells → Busy
busy_in cells = record {
  req = is_some cells.req;
  rsp_down = is_some cells.rsp_down;
  dat_down = is_some cells.dat_down;
  rsp_up = is_some cells.rsp_up;
  dat_up = is_some cells.dat_up;
}

-- the flit of an agent's channel on which nothing was in flight before
abbrev pub new_flit : Agent → Bool → Option Msg → List Observed
new_flit agent false (Some message) = Flit (record { agent = agent; message = message }) ∷ []
new_flit agent false None = []
new_flit agent true after = []

-- those of all its channels but the snoops'
unfoldable pub sent_of_agent : Agent → Busy → Cells → List Observed
sent_of_agent agent before after =
    new_flit agent before.req (cell_of after Req)
    ++ (new_flit agent before.rsp_down (cell_of after RspDown)
    ++ (new_flit agent before.dat_down (cell_of after DatDown)
    ++ (new_flit agent before.rsp_up (cell_of after RspUp)
    ++ new_flit agent before.dat_up (cell_of after DatUp))))

-- those of the first so many agents
unfoldable pub sent_below : List Cells → List Cells → ℕ → List Observed
sent_below before after zero = []
sent_below before after (suc n) = sent_below before after n ++ sent_of_agent (agent_at n) (busy_in (cells_at before n)) (cells_at after n)

-- those of all eight agents
abbrev pub sent_between : LineState → LineState → List Observed
sent_between before after = sent_below before.flits after.flits 8

-- the agent that is snooped for, or another one
abbrev pub served_or : Serving → Agent → Agent
served_or (Snooping served kind slot) agent = if nat_lt served.0 8 then served else agent
served_or other agent = agent

-- the agent on whose channels a step of an agent puts what it sends, snoops aside: the last answer to a snoop completes
-- the request that is served
abbrev pub flit_agent : LineState → Agent → Step → Agent
flit_agent s agent steps.RecvSnpResp = served_or s.home.serving agent
flit_agent s agent other = agent
