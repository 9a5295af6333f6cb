-- Each step is listed, or left out, as it is refused.
use Rattle.std.proofs.Common.{rules, arith, ◌≡◌, ◌+◌, ◌∷◌, ◌∙◌, ap, refl, sym, true, false, drop}
use Rattle.std.specs.Option.{is_none}
use Rattle.chi_library.specs.declared.actions.ChiAction.{ChiAction}
use Rattle.chi_library.proofs.EnabledLists.{few_enabled, next_enabled, next_refused, none_left, told_of}
use Rattle.chi_library.proofs.Listings.{listing_ends, listing_more, listing_same, listing_starts}
use Rattle.chi_library.proofs.enabled.list_enabled.Goals as goal
use Rattle.chi_library.proofs.enabled.list_enabled.Goals.{then-is_none, else-is_none}

pub loop-step-init : goal.loop-step-init
loop-step-init c =
    let few = few_enabled c.args.slice.now c.args.agent c.args.line c.args.steps.now in
    listing_starts 24 (told_of c.args.slice.now c.args.agent c.args.line c.args.steps.now) c.args.actions.now c.told-actions (omega (arith, few, c.requires))

pub loop-step-preserved : goal.loop-step-preserved
loop-step-preserved c =
    let whole = told_of c.args.slice.now c.args.agent c.args.line c.args.steps.now in
    let before = told_of c.args.slice.now c.args.agent c.args.line (drop c.loop-step.step-index c.args.steps.now) in
    let rest = told_of c.args.slice.now c.args.agent c.args.line (drop (c.loop-step.step-index + 1) c.args.steps.now) in
    let alone = c.refusal.ensures.alone refl in
    elim c.if-is_none.branch [
      | then-is_none w ↦
          let is : is_none c.refusal.result ≡ true = search (rules, c.is_none.ensures, w.if-is_none.true) in
          let next = next_enabled c.args.slice.now c.args.agent c.args.line c.args.steps.now c.loop-step.step-index _ c.refusal.result c.loop-step-test.true alone is in
          listing_more w.action_told.result 24 whole before rest c.args.actions.now c.loop-step.actions c.if-is_none.actions c.loop-step.count c.if-is_none.count
          (next ∙ ap (λ (x : ChiAction). x ∷ rest) (sym w.action_told.ensures)) (search (rules, w.actions-is, w.from.ensures)) w.count-is c.loop-step.invariant
      | else-is_none w ↦
          let is : is_none c.refusal.result ≡ false = search (rules, c.is_none.ensures, w.if-is_none.false) in
          let next = next_refused c.args.slice.now c.args.agent c.args.line c.args.steps.now c.loop-step.step-index _ c.refusal.result c.loop-step-test.true alone is in
          listing_same 24 whole before rest c.args.actions.now c.loop-step.actions c.if-is_none.actions c.loop-step.count c.if-is_none.count next w.actions-is w.count-is c.loop-step.invariant
    ]

pub returns : goal.returns
returns c =
    listing_ends 24 (told_of c.args.slice.now c.args.agent c.args.line c.args.steps.now) (told_of c.args.slice.now c.args.agent c.args.line (drop c.loop-step.step-index c.args.steps.now)) c.args.actions.now c.loop-step.actions c.loop-step.count
    (none_left c.args.slice.now c.args.agent c.args.line c.args.steps.now c.loop-step.step-index (omega (arith, c.loop-step-test.false))) c.loop-step.invariant
