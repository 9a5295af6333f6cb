-- The port's credits are as after the return, and the account keeps to them. A Cancelled slot became Idle, and
-- nothing else that agreement asks for changed.
use Rattle.std.proofs.Common.{◌≡◌, ◌≤◌, true, nat_lt, List, ◌∙◌, ap, sym, subst, slice_set, rules}
use Rattle.atomic_table.specs.Seated.{TableId}
use Rattle.chi_flit.specs.Credit.{credit_number}
use Rattle.chi_tracker.specs.declared.shape.Shape.{Shape}
use Rattle.chi_tracker.specs.Shape.{low}
use Rattle.chi_credit.specs.declared.slot.SlotRecord.{SlotRecord}
use Rattle.chi_credit.specs.Slot.{idle_slot}
use Rattle.chi_credit.specs.Account.{lowest_cancelled}
use Rattle.chi_node.specs.Agree.{Agree}
use Rattle.chi_node.specs.Requester.{RequesterState, with_both}
use Rattle.chi_node.proofs.CreditCalls.{freed_agrees}
use Rattle.chi_slice.proofs.Rows.{both}
use Rattle.chi_node.specs.Outstanding.{can_give_back, outstanding_of}
use Rattle.chi_node.proofs.Keeps.{spare_seen, still_eight}
use Rattle.chi_node.proofs.requester.Requester.give_back.Given as given
use Rattle.chi_node.proofs.requester.Requester.give_back.Goals as goal

pub give_back-requires-clause-credit : goal.give_back-requires-clause-credit
give_back-requires-clause-credit g c =
    let t = credit_number c.args.ty in
    let can : can_give_back (outstanding_of c.args.self.now) t ≡ true = search (rules, c.can_give_back.ensures, c.if-not-can_give_back.false) in
    let own = subst (λ (r : RequesterState). can_give_back (outstanding_of r) t ≡ true) (sym c.self.view_is) can in
    spare_seen c.self.inside.account c.self.inside.port.port c.args.ty (both (nat_lt (lowest_cancelled c.self.inside.account t) 8) _ own).1

pub invariant_of-self : goal.invariant_of-self
invariant_of-self g c =
    let kept = c.self.invariant in
    let same = c.give_back.ensures.returned.credits in
    record {
      near = kept.near;
      who = same.0 ∙ kept.who;
      sizes = ap (λ (z : Shape). z.sizes) same.1 ∙ kept.sizes;
      shaped = subst (λ (z : Shape). low z 4 ≤ 256) (sym same.1) kept.shaped;
      slices = kept.slices;
      eight = still_eight c.self.inside.account c.give_back.new.self _ idle_slot c.give_back.ensures.account kept.eight;
      within = c.give_back.ensures.kept.within kept.within;
      due = c.give_back.ensures.kept.credits kept.due;
      hand = c.give_back.ensures.kept.hand kept.hand;
      inside = λ e past. c.give_back.ensures.returned.hand e ∙ kept.inside e (subst (λ (z : Shape). low z 4 ≤ e) same.1 past);
    }

-- the requester before, and as the call leaves it
abbrev before : (g : given.Over) (c : goal.After-give_back g) → RequesterState
before g c = record { number = c.self.inside.number.0; table = c.self.inside.port.table; port = c.self.inside.port.port; history = c.self.inside.port.history; slots = c.self.inside.account; counts = c.self.inside.counts }

abbrev after : (g : given.Over) (c : goal.After-give_back g) → RequesterState
after g c = record (before g c) { table = c.give_back.new.port.table; port = c.give_back.new.port.port; history = c.give_back.new.port.history; slots = c.give_back.new.self }

freed : (g : given.Over) (c : goal.After-give_back g) → after g c ≡ with_both c.give_back.new.port.port c.give_back.new.port.history (slice_set (before g c).slots (lowest_cancelled (before g c).slots (credit_number c.args.ty)) idle_slot) (before g c)
freed g c =
    let port = c.give_back.new.port in
    ap (λ (t : TableId). record (before g c) { table = t; port = port.port; history = port.history; slots = c.give_back.new.self }) c.give_back.ensures.returned.acts.table
    ∙ ap (λ (xs : List SlotRecord). record (before g c) { port = port.port; history = port.history; slots = xs }) c.give_back.ensures.account

pub returns-clause-ok : goal.returns-clause-ok
returns-clause-ok g c = rw (← c.self.view_is) (record {
  cancelled = c.give_back.ensures.cancelled;
  hand = c.give_back.ensures.returned.hand;
  credits = c.give_back.ensures.returned.credits;
  fewer = c.give_back.ensures.returned.fewer;
  others = freed g c;
  acted = c.give_back.ensures.returned.acts;
})

pub returns-clause-agreement : goal.returns-clause-agreement
returns-clause-agreement g c = λ s a. freed_agrees s (before g c) (after g c) (lowest_cancelled (before g c).slots (credit_number c.args.ty)) c.give_back.ensures.cancelled (freed g c) (subst (Agree s) (sym c.self.view_is) a)
