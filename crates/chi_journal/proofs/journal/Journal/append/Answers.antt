-- What is kept beside the records follows an append, and its counts fit.
use Rattle.std.proofs.Common.{◌≡◌, ◌<◌, subst, sym, ◌∙◌, false}
use Rattle.std.proofs.lemmas.Bool.{lt-ltb}
use Rattle.chi_journal.specs.Journal.{is_full}
use Rattle.chi_journal.specs.Record.{record_line}
use Rattle.chi_journal.proofs.Append.{tracked_new}
use Rattle.chi_journal.proofs.journal.Journal.append.Goals as goal

pub invariant_of-self : goal.invariant_of-self
invariant_of-self g c =
    let not_full = subst (λ log. is_full log ≡ false) (sym c.self.view_is) (sym c.is_full.ensures ∙ c.if-is_full.false) in
    let line = subst (λ log. (record_line c.args.entry).0 < log.lines) (sym c.self.view_is) c.requires.line in
    tracked_new c.self.inside.records.items _ c.self.inside.limit _ _ c.self.inside.last _ c.self.inside.totals _ c.args.entry c.line.result c.word.result c.value-last.result
    (record { was = c.self.invariant; not_full = not_full; agent = c.requires.agent; line = line }) (lt-ltb 0 c.self.inside.limit c.if-self-gt0.true)
    c.push_reserved.ensures.items c.push_reserved.ensures.capacity c.follow.ensures c.count.ensures c.value-last.ensures c.line.ensures c.word.ensures
