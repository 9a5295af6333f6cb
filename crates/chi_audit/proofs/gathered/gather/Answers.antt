use Rattle.std.proofs.Common.{rules, ◌≡◌, ◌∙◌, sym, ap, subst, List, [], ◌∷◌, ◌++◌}
use Rattle.chi_audit.specs.declared.reports.Report.{Report}
use Rattle.chi_audit.specs.Boxes.{InboxState}
use Rattle.chi_audit.specs.Gathered.{AreKept, AreAsTold}
use Rattle.chi_audit.proofs.Firsts.{more_as_told}
use Rattle.chi_audit.proofs.gathered.gather.Goals as goal

pub loop-preserved : goal.loop-preserved
loop-preserved g c =
    let state = c.in-Some-receive.ensures.state in
    let report = c.in-Some-receive.report in
    let grown : c.receive.new.self.got ≡ c.loop.inbox.got ++ report ∷ [] = ap (λ (i : InboxState). i.got) state in
    let told : c.receive.new.self.told ≡ c.loop.inbox.told = ap (λ (i : InboxState). i.told) state in
    let kept : AreKept c.args.n c.receive.new.self.got c.keep.new.places = subst (λ (got : List Report). AreKept c.args.n got c.keep.new.places) (sym grown) (c.keep.ensures c.loop.inbox.got c.loop.invariant.0) in (
      search (rules, kept),
      subst (λ (ts : List Report). AreAsTold ts c.receive.new.self.got) (sym told)
          (more_as_told c.loop.inbox.told c.loop.inbox.got c.receive.new.self.got report grown c.loop.invariant.1 c.in-Some-receive.ensures.as_told),
      told ∙ c.loop.invariant.2,
      ap (λ (i : InboxState). i.channel) state ∙ c.loop.invariant.3,
    )
