-- The Riding slots are within the seen credits still, since one was spare.
use Rattle.std.proofs.Common.{◌≡◌, true, refl, subst, sym}
use Rattle.chi_credit.specs.Account.{slot_record_at, type_at}
use Rattle.chi_node.specs.Outstanding.{has_spare, outstanding_of}
use Rattle.chi_node.specs.Requester.{RequesterState}
use Rattle.chi_node.proofs.Keeps.{spare_seen, still_due, still_eight, still_entries}
use Rattle.chi_node.proofs.requester.Requester.resend.Goals as goal

pub invariant_of-self : goal.invariant_of-self
invariant_of-self c =
    let slots = c.self.inside.account in
    let port = c.self.inside.port.port in
    let spare = subst (λ (r : RequesterState). has_spare (outstanding_of r) (type_at r.slots c.args.slot.0) ≡ true) (sym c.self.view_is) c.requires.credit in
    let kept = c.self.invariant in
    record {
      near = kept.near;
      who = kept.who;
      sizes = kept.sizes;
      shaped = kept.shaped;
      slices = kept.slices;
      eight = still_eight slots c.resend.new.self c.args.slot.0 _ c.resend.ensures.account kept.eight;
      within = c.resend.ensures.within port (spare_seen slots port (slot_record_at slots c.args.slot.0).credit spare) kept.within;
      due = still_due slots c.resend.new.self port port c.resend.ensures.counts.due refl refl refl kept.due;
      hand = still_entries slots c.resend.new.self port port c.resend.ensures.counts.entries refl kept.hand;
      inside = kept.inside;
    }
