-- The requester that was lent is the agent's.
use Rattle.std.proofs.Common.{◌≡◌, ℕ, get_or, ◌∙◌, ap, subst}
use Rattle.std.proofs.Math.ListN.{set}
use Rattle.std.proofs.lemmas.List.{get_or_default}
use Rattle.chi_flit.specs.Credit.{credit_number}
use Rattle.chi_node.specs.Credits.{GivesBack, Tried}
use Rattle.chi_node.specs.Outstanding.{give_back_refusal, outstanding_of}
use Rattle.chi_node.specs.Requester.{RequesterState, no_requester}
use Rattle.chi_node.proofs.system.give_back_at.Goals as goal

pub returns : goal.returns
returns g c =
    let rs = c.args.requesters.now in
    let d = c.index-requesters-from.result in
    let t = credit_number c.args.ty in
    let e = c.give_back.ensures in
    let here : get_or rs c.from.result d ≡ get_or rs c.args.agent.0 no_requester = ap (λ (i : ℕ). get_or rs i d) c.from.ensures ∙ get_or_default rs c.args.agent.0 d no_requester c.requires.agent in (
      c.give_back.new.self,
      ap (λ (i : ℕ). set rs i c.give_back.new.self) c.from.ensures,
      subst (λ (q : RequesterState). Tried (give_back_refusal (outstanding_of q) t) (GivesBack t) q c.give_back.new.self c.give_back.result) here (record { refusal = e.refusal; ok = e.ok; err = e.err }),
    )
