-- What a node did for a call of credits plays the call's turn.
use Rattle.std.proofs.Common.{◌≡◌, ℕ, ◌<◌, List, [], ◌∷◌, length, Option, Some, None, Result, Ok, Err, IfOk, OnErr, refl, sym, ◌∙◌, ap}
use Rattle.chi_flit.specs.declared.numbers.Agent.{Agent}
use Rattle.chi_flit.specs.declared.credit.CreditType.{CreditType}
use Rattle.chi_flit.specs.declared.refusal.Refusal.{Refusal}
use Rattle.chi_flit.specs.declared.refusal.Refusal.TheVariants.{OutOfRange}
use Rattle.chi_flit.specs.Credit.{credit_number}
use Rattle.chi_flit.specs.Refusal.{refusal_of}
use Rattle.chi_node.specs.Words.{Released, Shape}
use Rattle.chi_node.specs.Requester.{RequesterState}
use Rattle.chi_node.specs.Outstanding.{Outstanding, outstanding_of, see_refusal, seen_counts}
use Rattle.chi_node.specs.Credits.{ForType, GivesBack, Sees, Tends}
use Rattle.chi_node.specs.System.{DoesAlone, IsSystem, SystemState, give_back_refusal_in, requester_of, tend_refusal_in}
use Rattle.chi_node.proofs.Acts.{return_same, return_view, see_view, tend_view}
use Rattle.chi_replay.specs.declared.replies.Reply.TheVariants as replies
use Rattle.chi_replay.specs.Ports.{PortGivesBack, PortSees, PortTends}
use Rattle.chi_replay.specs.Turns.{Machine, Saw, Tended, Went, after_return, give_back, requester_in, tend, tend_refusal_of, turn_after_tend, turn, with_requester}
use Rattle.chi_replay.specs.Texts.{Plays}
use Rattle.chi_replay.specs.NodeReplies.{give_back_reply, tend_reply}
use Rattle.chi_replay.specs.Session.{PlaysOn, machine_of, ports_of}
use Rattle.chi_replay.proofs.Machines.{at_port, machine_after, machine_same, outstanding_is, ports_after, requester_at}
use Rattle.chi_replay.proofs.Reasons.{agent_low, few_there, give_back_same, tend_same, typed_low}
use Rattle.chi_replay.proofs.Seen.{counts_are, counts_less, same_counts}
use Rattle.chi_replay.proofs.Turned.{allowed_plays, refused_plays}
use Rattle.chi_script.specs.declared.commands.Command.TheVariants as commands

-- a look at the promises
pub see_plays : (y y' : SystemState) (agent : Agent) (counts : List ℕ) → IsSystem y → None ≡ see_refusal y.home agent.0 → length counts ≡ 4 → DoesAlone y y' agent (Sees counts)
    → PlaysOn (turn (machine_of y) (commands.See agent)) y y' (replies.Credits (record { counts = counts; profile = y.home.config.profile }))
see_plays y y' agent counts k h four saw =
    let r : RequesterState = requester_of y agent.0 in
    let is : counts ≡ seen_counts (requester_of y' agent.0).port = counts_are (requester_of y' agent.0).port counts four saw.requester.counts in
    let seen : outstanding_of (requester_of y' agent.0) ≡ record (requester_in (machine_of y) agent) { seen = counts } =
    outstanding_is (requester_of y' agent.0) (record (outstanding_of r) { seen = counts }) (ap (λ (z : Shape). z.sizes) saw.requester.credits.1) (ap (λ (x : RequesterState). x.slots) saw.requester.others) (sym is)
    ∙ ap (λ (o : Outstanding). record o { seen = counts }) (sym (requester_at y agent)) in
    let state : machine_of y' ≡ with_requester (machine_of y) agent (record (requester_in (machine_of y) agent) { seen = counts }) = machine_after y y' agent _ _ saw.home saw.others seen in
    allowed_plays y y' (see_refusal y.home agent.0) _ (replies.Credits (record { counts = counts; profile = y.home.config.profile })) h (
      Saw counts ∷ [],
      (
        ports_of y',
        at_port y agent (ports_of y') (requester_of y' agent.0).port (λ before after. PortSees before counts after) k (agent_low y agent h) (ports_after y y' agent saw.others) (see_view r (requester_of y' agent.0) counts saw.requester, saw.requester.more, is),
        (refl, state, refl),
      ),
    )

-- a credit that is given back
returned : (y y' : SystemState) (agent : Agent) (ty : CreditType) (released : Released) → IsSystem y → None ≡ give_back_refusal_in y agent.0 (Some ty) → DoesAlone y y' agent (ForType (Some ty) (λ t. GivesBack t released))
    → PlaysOn (give_back (machine_of y) agent (Some ty)) y y' (replies.Paid released)
returned y y' agent ty released k h gave =
    let m : Machine = machine_of y in
    let r : RequesterState = requester_of y agent.0 in
    let t : ℕ = credit_number ty in
    let low : agent.0 < y.home.config.agents = typed_low y agent _ h in
    let back = return_view r (requester_of y' agent.0) t released gave.requester in
    let e = back.0 in
    let same = return_same r (requester_of y' agent.0) t released back in
    let freed : outstanding_of (requester_of y' agent.0) ≡ after_return (requester_in m agent) ty =
    outstanding_is (requester_of y' agent.0) (after_return (outstanding_of r) ty) (ap (λ (z : Shape). z.sizes) gave.requester.credits.1) (ap (λ (x : RequesterState). x.slots) gave.requester.others)
    (counts_less r.port (requester_of y' agent.0).port ty e (few_there y agent.0 k low) back.1 same.1 same.2)
    ∙ ap (λ (o : Outstanding). after_return o ty) (sym (requester_at y agent)) in
    let state : machine_of y' ≡ with_requester m agent (after_return (requester_in m agent) ty) = machine_after y y' agent _ _ gave.home gave.others freed in
    allowed_plays y y' _ _ (replies.Paid released) (h ∙ sym (give_back_same y agent (Some ty))) (
      Went released ∷ [],
      (
        ports_of y',
        at_port y agent (ports_of y') (requester_of y' agent.0).port (λ before after. PortGivesBack before ty released after) k low (ports_after y y' agent gave.others) back,
        (refl, state, refl),
      ),
    )

pub give_back_plays : (y y' : SystemState) (agent : Agent) (credit : Option CreditType) (result : Result Released Refusal) → IsSystem y → refusal_of result ≡ give_back_refusal_in y agent.0 credit → IfOk result (λ released. DoesAlone y y' agent (ForType credit (λ t. GivesBack t released))) → OnErr result (y' ≡ y)
    → PlaysOn (give_back (machine_of y) agent credit) y y' (give_back_reply result)
give_back_plays y y' agent None (Err refusal) k h ok err = refused_plays y y' (Some OutOfRange) refusal (give_back (machine_of y) agent None) h err
give_back_plays y y' agent None (Ok released) k h ok err = absurd ok.requester
give_back_plays y y' agent (Some ty) (Err refusal) k h ok err = refused_plays y y' _ refusal _ (h ∙ sym (give_back_same y agent (Some ty))) err
give_back_plays y y' agent (Some ty) (Ok released) k h ok err = returned y y' agent ty released k h ok

-- a type that is tended
went : (y y' : SystemState) (agent : Agent) (ty : CreditType) (released : Option Released) → IsSystem y → None ≡ tend_refusal_in y agent.0 (Some ty) → DoesAlone y y' agent (ForType (Some ty) (λ t. Tends t released))
    → PlaysOn (tend (machine_of y) agent (Some ty)) y y' (tend_reply (Ok released))
went y y' agent ty released k h tends =
    let same : outstanding_of (requester_of y' agent.0) ≡ outstanding_of (requester_of y agent.0) =
    outstanding_is (requester_of y' agent.0) (outstanding_of (requester_of y agent.0)) (ap (λ (z : Shape). z.sizes) tends.requester.credits.1) (ap (λ (x : RequesterState). x.slots) tends.requester.others)
    (same_counts (requester_of y agent.0).port (requester_of y' agent.0).port tends.requester.credits.1 tends.requester.credits.2) in
    let state : machine_of y' ≡ machine_of y = machine_same y y' agent tends.home tends.others same in
    allowed_plays y y' (tend_refusal_of (machine_of y) agent (Some ty)) _ (tend_reply (Ok released)) (h ∙ sym (tend_same y agent (Some ty))) (
      Tended released ∷ [],
      (
        ports_of y',
        at_port y agent (ports_of y') (requester_of y' agent.0).port (λ before after. PortTends before ty released after) k (typed_low y agent _ h) (ports_after y y' agent tends.others) (tend_view (requester_of y agent.0) (requester_of y' agent.0) (credit_number ty) released tends.requester),
        said released state,
      ),
    )
  where
    said : (o : Option Released) → machine_of y' ≡ machine_of y → Plays (turn_after_tend (machine_of y) (Tended o)) (ports_of y') [] (tend_reply (Ok o)) (machine_of y') (ports_of y')
    said None state = (refl, state, refl)
    said (Some to) state = (refl, state, refl)

pub tend_plays : (y y' : SystemState) (agent : Agent) (credit : Option CreditType) (result : Result (Option Released) Refusal) → IsSystem y → refusal_of result ≡ tend_refusal_in y agent.0 credit → IfOk result (λ released. DoesAlone y y' agent (ForType credit (λ t. Tends t released))) → OnErr result (y' ≡ y)
    → PlaysOn (tend (machine_of y) agent credit) y y' (tend_reply result)
tend_plays y y' agent None (Err refusal) k h ok err = refused_plays y y' (Some OutOfRange) refusal (tend (machine_of y) agent None) h err
tend_plays y y' agent None (Ok released) k h ok err = absurd ok.requester
tend_plays y y' agent (Some ty) (Err refusal) k h ok err = refused_plays y y' _ refusal _ (h ∙ sym (tend_same y agent (Some ty))) err
tend_plays y y' agent (Some ty) (Ok released) k h ok err = went y y' agent ty released k h ok
