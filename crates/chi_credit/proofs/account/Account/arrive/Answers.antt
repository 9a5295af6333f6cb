use Rattle.std.proofs.Common.{ℕ, rules, ap, subst, arith}
use Rattle.std.proofs.lemmas.Grind.{common_steps}
use Rattle.chi_flit.specs.Credit.{credit_number}
use Rattle.chi_tracker.specs.Calls.{HasOneLess}
use Rattle.chi_credit.specs.Account.{type_at}
use Rattle.chi_credit.proofs.Keeps.{spent_entries, spent_within, spent_due}
use Rattle.chi_credit.proofs.account.Account.arrive.Goals as goal

pub returns-clause-spent : goal.returns-clause-spent
returns-clause-spent g c = record {
  lowest = search rules;
  held = search rules;
  port = search rules;
  fewer = grind (arith, common_steps);
  acts = search rules;
}

pub returns-clause-kept : goal.returns-clause-kept
returns-clause-kept g c =
    let t = type_at c.args.self.now c.args.slot.0 in record {
      within = λ keeps.
          let same = ap (λ s. credit_number s.credit) c.slot.ensures in
          spent_within _ _ _ _ t (search rules) (subst (λ (t : ℕ). HasOneLess t c.args.port.now.port c.spend-entry.new.self.port) same c.spend-entry.ensures.fewer) keeps;
      credits = λ keeps. spent_due _ _ _ _ t c.spend-entry.result.0 (search rules) (search rules) keeps;
      hand = λ keeps. spent_entries _ _ _ _ t c.spend-entry.result.0 (search rules) (search rules) (search rules) keeps;
    }
