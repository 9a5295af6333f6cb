-- The number of seen credits is the type's.
use Rattle.std.proofs.Common.{◌≡◌, ◌∙◌, ap, subst, slice_index}
use Rattle.chi_flit.specs.Credit.{credit_number}
use Rattle.chi_tracker.specs.Calls.{seen_of}
use Rattle.chi_tracker.proofs.Entries.{credit_below}
use Rattle.chi_node.specs.Outstanding.{has_spare, outstanding_of}
use Rattle.chi_node.specs.Requester.{RequesterState}
use Rattle.chi_node.proofs.Keeps.{spare_is}
use Rattle.chi_node.proofs.requester.Requester.can_resend.Goals as goal

pub returns : goal.returns
returns c =
    let seen : slice_index c.seen-seen.result c.from.result ≡ seen_of c.self.inside.port.port (credit_number c.args.ty) =
    ap (slice_index c.seen-seen.result) (c.from.ensures ∙ c.number.ensures) ∙ c.seen-seen.ensures (credit_number c.args.ty) (credit_below c.args.ty) in
    subst (λ (r : RequesterState). c.can_resend.result ≡ has_spare (outstanding_of r) (credit_number c.args.ty)) c.self.view_is
    (spare_is c.self.inside.account c.self.inside.port.port c.args.ty c.can_resend.result _ seen c.can_resend.ensures)
