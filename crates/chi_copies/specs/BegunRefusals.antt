-- Why a flit isn't taken by a line whose trace begins in the middle: the first row that is so (docs/COPIES.md, "A trace that begins in
-- the middle").
use Rattle.std.specs.Prelude.{◌&&◌, not, nat_lt, Option, None, if◌then◌else◌}
use Rattle.chi_observer.specs.declared.flits.CacheFlit.{CacheFlit}
use Rattle.chi_observer.specs.declared.flits.HomeFlit.{HomeFlit}
use Rattle.chi_observer.specs.declared.flits.Flit.{Flit}
use Rattle.chi_observer.specs.declared.flits.Flit.TheVariants.{Up, Down}
use Rattle.chi_copies.specs.declared.line.Reason.{Reason}
use Rattle.chi_copies.specs.declared.line.Reason.TheVariants.{NoAgent, NotSent, OtherWords, NoMoment, Lost, OtherCopy}
use Rattle.chi_copies.specs.Rules.{fills}
use Rattle.chi_copies.specs.Observed.{fits_home}
use Rattle.chi_copies.specs.Refusals.{due_refusal, refused_if}
use Rattle.chi_copies.specs.Begun.{Begun, agent_in, apart_given, apart_sent, counts, has_its_moment, is_left_over, is_shown, others_begun, others_sent, stand_beside}
use Rattle.chi_copies.specs.BegunLines.{may_send}

-- a flit of a cache that isn't from before
abbrev pub sent_refusal : Begun → CacheFlit → Option Reason
sent_refusal b f =
    refused_if (not (may_send b f)) NotSent (
    refused_if (not (stand_beside f.agent.0 (apart_sent b f) b (others_sent b f))) OtherCopy None)

-- a flit of the home that isn't from before: by the copies
abbrev pub order_refusal : Begun → HomeFlit → Option Reason
order_refusal b g =
    refused_if (is_shown b g && not (fits_home b.seen.home g.shown)) OtherWords (
    refused_if (counts (b.sure g.agent.0) (b.seen.may g.agent.0) (λ h. fills g.grant h && h.stored)) Lost (
    refused_if (not (stand_beside g.agent.0 (apart_given b g) b (others_begun b g))) OtherCopy None))

-- by its moment, and by what the flits say of requests and answers
abbrev pub given_by : Begun → HomeFlit → Option Reason → Option Reason
given_by b g rest =
    refused_if (not (has_its_moment b g)) NoMoment (
    due_refusal b.seen g rest)

abbrev pub given_refusal : Begun → HomeFlit → Option Reason
given_refusal b g = given_by b g (order_refusal b g)

abbrev pub rule_refusal : Begun → Flit → Option Reason
rule_refusal b (Up f) = sent_refusal b f
rule_refusal b (Down g) = given_refusal b g

abbrev pub begun_refusal : Begun → Flit → Option Reason
begun_refusal b e =
    refused_if (not (nat_lt (agent_in e) 32)) NoAgent (
    if is_left_over b e then None else rule_refusal b e)
