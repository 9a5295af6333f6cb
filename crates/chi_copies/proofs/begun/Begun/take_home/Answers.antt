-- It is from before, or not.
use Rattle.std.proofs.Common.{refl, sym, ◌∙◌}
use Rattle.chi_observer.specs.declared.flits.Flit.TheVariants.{Down}
use Rattle.chi_copies.specs.Begun.{behind_flit, forgotten, is_left_over, kept_behind, shown_then}
use Rattle.chi_copies.specs.BegunLines.{begun}
use Rattle.chi_copies.specs.BegunRefusals.{begun_refusal, rule_refusal}
use Rattle.chi_copies.proofs.Refusals.{err_as}
use Rattle.chi_copies.proofs.BegunTaken.{before_after, before_taken, high_reason, high_refused, ok_after, since_after, since_reason, since_taken}
use Rattle.chi_copies.proofs.begun.Begun.take_home.Goals as goal

pub returns-then-flit-ge32-clause-taken : goal.returns-then-flit-ge32-clause-taken
returns-then-flit-ge32-clause-taken c = high_refused c.args.flit.agent.0 _ c.if-flit-ge32.true

pub returns-then-flit-ge32-clause-why : goal.returns-then-flit-ge32-clause-why
returns-then-flit-ge32-clause-why c = high_reason (begun c.args.self.now) (Down c.args.flit) c.if-flit-ge32.true

pub returns-then-is_given_before-clause-taken : goal.returns-then-is_given_before-clause-taken
returns-then-is_given_before-clause-taken c = before_taken c.args.flit.agent.0 (is_left_over (begun c.args.self.now) (Down c.args.flit)) _ c.if-flit-ge32.false (sym c.is_given_before.ensures ∙ c.if-is_given_before.true)

pub returns-then-is_given_before-clause-after : goal.returns-then-is_given_before-clause-after
returns-then-is_given_before-clause-after c =
    let b = begun c.args.self.now in
    before_after (is_left_over b (Down c.args.flit)) (begun c.forget_at.new.self) (forgotten c.args.flit.agent.0 b) (kept_behind (behind_flit b (Down c.args.flit)) (shown_then b (Down c.args.flit))) (sym c.is_given_before.ensures ∙ c.if-is_given_before.true) c.forget_at.ensures

pub returns-clause-taken : goal.returns-clause-taken
returns-clause-taken c = since_taken c.args.flit.agent.0 (is_left_over (begun c.args.self.now) (Down c.args.flit)) _ _ c.if-flit-ge32.false (sym c.is_given_before.ensures ∙ c.if-is_given_before.false) c.take_given.ensures.taken

pub returns-clause-after : goal.returns-clause-after
returns-clause-after c =
    let b = begun c.args.self.now in
    let e = Down c.args.flit in
    ok_after c.take_given.result (begun c.take_given.new.self) (kept_behind (behind_flit b e) (shown_then b e)) _
    (since_after (is_left_over b e) (kept_behind (behind_flit b e) (shown_then b e)) (forgotten c.args.flit.agent.0 b) (kept_behind (behind_flit b e) (shown_then b e)) (sym c.is_given_before.ensures ∙ c.if-is_given_before.false) refl)
    c.take_given.ensures.after

pub returns-clause-why : goal.returns-clause-why
returns-clause-why c =
    let b = begun c.args.self.now in
    err_as c.take_given.result (rule_refusal b (Down c.args.flit)) (begun_refusal b (Down c.args.flit)) (since_reason b (Down c.args.flit) c.if-flit-ge32.false (sym c.is_given_before.ensures ∙ c.if-is_given_before.false)) c.take_given.ensures.why
