-- It is from before, or not.
use Rattle.std.proofs.Common.{refl, sym, ◌∙◌}
use Rattle.chi_observer.specs.declared.flits.Flit.TheVariants.{Up}
use Rattle.chi_copies.specs.Begun.{behind_flit, forgotten, is_left_over, kept_behind, shown_then}
use Rattle.chi_copies.specs.BegunLines.{begun}
use Rattle.chi_copies.specs.BegunRefusals.{begun_refusal, rule_refusal}
use Rattle.chi_copies.proofs.Refusals.{err_as}
use Rattle.chi_copies.proofs.BegunTaken.{before_after, before_taken, high_reason, high_refused, ok_after, since_after, since_reason, since_taken}
use Rattle.chi_copies.proofs.begun.Begun.take_cache.Goals as goal

pub returns-then-flit-ge32-clause-taken : goal.returns-then-flit-ge32-clause-taken
returns-then-flit-ge32-clause-taken c = high_refused c.args.flit.agent.0 _ c.if-flit-ge32.true

pub returns-then-flit-ge32-clause-why : goal.returns-then-flit-ge32-clause-why
returns-then-flit-ge32-clause-why c = high_reason (begun c.args.self.now) (Up c.args.flit) c.if-flit-ge32.true

pub returns-then-is_sent_before-clause-taken : goal.returns-then-is_sent_before-clause-taken
returns-then-is_sent_before-clause-taken c = before_taken c.args.flit.agent.0 (is_left_over (begun c.args.self.now) (Up c.args.flit)) _ c.if-flit-ge32.false (sym c.is_sent_before.ensures ∙ c.if-is_sent_before.true)

pub returns-then-is_sent_before-clause-after : goal.returns-then-is_sent_before-clause-after
returns-then-is_sent_before-clause-after c =
    let b = begun c.args.self.now in
    before_after (is_left_over b (Up c.args.flit)) (begun c.forget_at.new.self) (forgotten c.args.flit.agent.0 b) (kept_behind (behind_flit b (Up c.args.flit)) (shown_then b (Up c.args.flit))) (sym c.is_sent_before.ensures ∙ c.if-is_sent_before.true) c.forget_at.ensures

pub returns-clause-taken : goal.returns-clause-taken
returns-clause-taken c = since_taken c.args.flit.agent.0 (is_left_over (begun c.args.self.now) (Up c.args.flit)) _ _ c.if-flit-ge32.false (sym c.is_sent_before.ensures ∙ c.if-is_sent_before.false) c.take_sent.ensures.taken

pub returns-clause-after : goal.returns-clause-after
returns-clause-after c =
    let b = begun c.args.self.now in
    let e = Up c.args.flit in
    ok_after c.take_sent.result (begun c.take_sent.new.self) (kept_behind (behind_flit b e) (shown_then b e)) _
    (since_after (is_left_over b e) (kept_behind (behind_flit b e) (shown_then b e)) (forgotten c.args.flit.agent.0 b) (kept_behind (behind_flit b e) (shown_then b e)) (sym c.is_sent_before.ensures ∙ c.if-is_sent_before.false) refl)
    c.take_sent.ensures.after

pub returns-clause-why : goal.returns-clause-why
returns-clause-why c =
    let b = begun c.args.self.now in
    err_as c.take_sent.result (rule_refusal b (Up c.args.flit)) (begun_refusal b (Up c.args.flit)) (since_reason b (Up c.args.flit) c.if-flit-ge32.false (sym c.is_sent_before.ensures ∙ c.if-is_sent_before.false)) c.take_sent.ensures.why
