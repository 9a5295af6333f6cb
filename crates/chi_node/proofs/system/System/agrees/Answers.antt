-- Each slice is asked, and each requester agrees.
use Rattle.std.proofs.Common.{◌↔◌, List, subst}
use Rattle.std.specs.Prelude.{IsTrue}
use Rattle.chi_slice.specs.Slice.{SliceState}
use Rattle.chi_node.specs.Requester.{RequesterState}
use Rattle.chi_node.specs.Agree.{AllAgree}
use Rattle.chi_node.proofs.system.System.agrees.Goals as goal

pub returns-clause-is : goal.returns-clause-is
returns-clause-is g c = rw (← c.self.view_is) (subst (λ (ss : List SliceState). IsTrue c.all_agree.result ↔ AllAgree ss c.self.inside.requesters.items) c.deref.ensures.value
    (subst (λ (rs : List RequesterState). IsTrue c.all_agree.result ↔ AllAgree c.deref.result.now rs) c.as_slice.ensures.value c.all_agree.ensures))

pub returns-clause-always : goal.returns-clause-always
returns-clause-always g c = (subst (λ (ss : List SliceState). IsTrue c.all_agree.result ↔ AllAgree ss c.self.inside.requesters.items) c.deref.ensures.value
    (subst (λ (rs : List RequesterState). IsTrue c.all_agree.result ↔ AllAgree c.deref.result.now rs) c.as_slice.ensures.value c.all_agree.ensures)).1 c.self.invariant.system.agree
