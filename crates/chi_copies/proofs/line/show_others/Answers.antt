-- The home has all their words already, or each is shown.
use Rattle.std.proofs.Common.{rules, arith, ◌≡◌, length, sym, ap, ◌∙◌}
use Rattle.std.specs.Prelude.{true}
use Rattle.chi_copies.specs.Lines.{others_may}
use Rattle.chi_copies.proofs.Plain.{all_shown}
use Rattle.chi_copies.proofs.line.show_others.Goals as goal

pub returns-then-is_none_stored : goal.returns-then-is_none_stored
returns-then-is_none_stored c =
    let tells : c.args.tells ≡ true = search (rules, arith, c.if-not-tells) in
    let copies : length c.args.may.now ≡ 32 = search (rules, arith) in
    λ n h. all_shown c.args.may.now copies (sym c.is_none_stored.ensures ∙ c.if-is_none_stored.true) n h ∙ ap (λ b. others_may b c.args.may.now n h) (sym tells)

pub returns : goal.returns
returns c =
    let tells : c.args.tells ≡ true = search (rules, arith, c.if-not-tells) in
    λ n h. c.each_shown.ensures n h ∙ ap (λ b. others_may b c.args.may.now n h) (sym tells)
