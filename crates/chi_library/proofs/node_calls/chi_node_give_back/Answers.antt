-- The node that was held is the handle's, and the type is that of the number.
use Rattle.std.proofs.Common.{◌≡◌, Option, Some, ◌∙◌, ap, subst, subst₂, sym, rules}
use Rattle.chi_flit.specs.declared.credit.CreditType.{CreditType}
use Rattle.chi_node.specs.System.{SystemState, give_back_refusal_in}
use Rattle.chi_library.specs.Numbers.{number_if}
use Rattle.chi_flit.specs.Numbers.{credit_of}
use Rattle.chi_library.specs.Calls.{answer_number}
use Rattle.chi_library.specs.NodeCalls.{CalledOn, ReturnCall}
use Rattle.chi_library.proofs.node_calls.chi_node_give_back.Goals as goal

pub returns-in-Some-clause-answer : goal.returns-in-Some-clause-answer
returns-in-Some-clause-answer c =
    let here : c.args.node.now.value ≡ Some c.deref_mut.result.now = search (rules, c.in-Some.ensures.node, c.deref_mut.ensures.value) in
    let told = c.give_back-answer.ensures.answer ∙ ap (λ (ty : Option CreditType). number_if (give_back_refusal_in c.deref_mut.result.now c.args.agent ty)) c.numbered.ensures in
    subst (λ (o : Option SystemState). c.give_back-answer.result ≡ answer_number o (λ y. give_back_refusal_in y c.args.agent (credit_of c.args.credit))) (sym here) told

pub returns-in-Some-clause-call : goal.returns-in-Some-clause-call
returns-in-Some-clause-call c =
    let here : c.args.node.now.value ≡ Some c.deref_mut.result.now = search (rules, c.in-Some.ensures.node, c.deref_mut.ensures.value) in
    let left : c.put.new.self.value ≡ Some c.give_back-answer.new.node = search (rules, c.put.ensures) in
    let did = subst (λ (ty : Option CreditType). ReturnCall (record { 0 = c.args.agent }) ty c.give_back-answer.new.release c.deref_mut.result.now c.give_back-answer.new.node) c.numbered.ensures c.give_back-answer.ensures.call in
    subst₂ (λ (o o' : Option SystemState). CalledOn o o' (ReturnCall (record { 0 = c.args.agent }) (credit_of c.args.credit) c.give_back-answer.new.release)) (sym here) (sym left) did
