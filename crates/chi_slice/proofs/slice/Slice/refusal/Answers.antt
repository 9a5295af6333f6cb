-- What the line says, with the credits, is what the slice says.
use Rattle.std.proofs.Common.{Bool, List, ◌≡◌, ◌∙◌, ap, sym}
use Rattle.chi_slice.specs.Slice.{each_credit, refused_under}
use Rattle.chi_slice.proofs.Acts.{out_refused, ready, refused_now}
use Rattle.chi_slice.proofs.Refused.{with_credits_is}
use Rattle.chi_slice.proofs.Refusing.{allowed_alone}
use Rattle.chi_slice.proofs.slice.Slice.refusal.Goals as goal

pub returns-in-Ok-clause-refusal : goal.returns-in-Ok-clause-refusal
returns-in-Ok-clause-refusal g c =
    c.refusal.ensures ∙ refused_now c.self.view_is (ready c.args.self.now c.args.credits c.args.action c.self.invariant.0 c.self.view_is c.in-Ok.ensures.refusal c.in-Ok.ensures.row c.in-Ok.ensures.conditions c.index.ensures)

pub returns-in-Ok-clause-refused : goal.returns-in-Ok-clause-refused
returns-in-Ok-clause-refused g c =
    c.refusal.ensures ∙ (refused_now c.self.view_is (ready c.args.self.now c.args.credits c.args.action c.self.invariant.0 c.self.view_is c.in-Ok.ensures.refusal c.in-Ok.ensures.row c.in-Ok.ensures.conditions c.index.ensures)
    ∙ with_credits_is c.args.credits c.args.self.now c.args.action)

pub returns-in-Ok-clause-alone : goal.returns-in-Ok-clause-alone
returns-in-Ok-clause-alone g c = λ alone.
    let told : c.refusal.result ≡ refused_under c.args.credits c.args.self.now c.args.action =
    c.refusal.ensures ∙ refused_now c.self.view_is (ready c.args.self.now c.args.credits c.args.action c.self.invariant.0 c.self.view_is c.in-Ok.ensures.refusal c.in-Ok.ensures.row c.in-Ok.ensures.conditions c.index.ensures) in
    told ∙ ap (λ (t : List Bool). refused_under t c.args.self.now c.args.action) alone

pub returns-in-Ok-clause-allowed : goal.returns-in-Ok-clause-allowed
returns-in-Ok-clause-allowed g c = λ none.
    let told : c.refusal.result ≡ refused_under c.args.credits c.args.self.now c.args.action =
    c.refusal.ensures ∙ refused_now c.self.view_is (ready c.args.self.now c.args.credits c.args.action c.self.invariant.0 c.self.view_is c.in-Ok.ensures.refusal c.in-Ok.ensures.row c.in-Ok.ensures.conditions c.index.ensures) in
    allowed_alone c.args.credits c.args.self.now c.args.action (sym told ∙ none)

pub returns-in-Err-clause-refusal : goal.returns-in-Err-clause-refusal
returns-in-Err-clause-refusal g c = out_refused c.args.credits c.args.self.now c.args.action c.in-Err.refusal c.in-Err.ensures.refusal

pub returns-in-Err-clause-refused : goal.returns-in-Err-clause-refused
returns-in-Err-clause-refused g c = out_refused c.args.credits c.args.self.now c.args.action c.in-Err.refusal c.in-Err.ensures.refusal ∙ with_credits_is c.args.credits c.args.self.now c.args.action

pub returns-in-Err-clause-alone : goal.returns-in-Err-clause-alone
returns-in-Err-clause-alone g c = λ alone. out_refused each_credit c.args.self.now c.args.action c.in-Err.refusal c.in-Err.ensures.refusal
