-- Whether the line takes the flit, where requests that are held count as sent.
use Rattle.std.proofs.Common.{rules, ◌≡◌, sym, ap}
use Rattle.std.specs.Prelude.{true, false}
use Rattle.chi_observer.specs.declared.flits.Flit.TheVariants.{Down}
use Rattle.chi_observer.specs.Lines.{is_reason, is_taken, watched}
use Rattle.chi_observer.specs.Arrivals.{arrived, is_doubtful, is_late_at, left_if}
use Rattle.chi_observer.proofs.Finite.{both}
use Rattle.chi_observer.proofs.HeldRequests.{doubt_is, reason_is}
use Rattle.chi_observer.proofs.arrivals.Arrivals.untaken.Goals as goal

pub returns-in-Ok-clause-outcome : goal.returns-in-Ok-clause-outcome
returns-in-Ok-clause-outcome c =
    let late : true ≡ is_late_at (arrived c.args.self.now) c.args.flit = search (rules, c.if-not-is_late_at) in
    let taken : true ≡ is_taken (watched c.supposed-told.result) (Down c.args.flit) = search (rules, c.in-Ok) in
    sym (ap left_if (doubt_is (arrived c.args.self.now) c.args.flit (watched c.supposed-told.result) true late taken c.supposed-told.ensures))

pub returns-in-Ok-clause-untaken : goal.returns-in-Ok-clause-untaken
returns-in-Ok-clause-untaken c =
    let late : true ≡ is_late_at (arrived c.args.self.now) c.args.flit = search (rules, c.if-not-is_late_at) in
    let taken : true ≡ is_taken (watched c.supposed-told.result) (Down c.args.flit) = search (rules, c.in-Ok) in
    both (is_reason (watched c.args.self.now.seen) (Down c.args.flit) c.args.reason) (is_doubtful (arrived c.args.self.now) c.args.flit) c.requires.reason
    (doubt_is (arrived c.args.self.now) c.args.flit (watched c.supposed-told.result) true late taken c.supposed-told.ensures)

pub returns-in-Err-clause-outcome : goal.returns-in-Err-clause-outcome
returns-in-Err-clause-outcome c =
    let late : true ≡ is_late_at (arrived c.args.self.now) c.args.flit = search (rules, c.if-not-is_late_at) in
    let refused : false ≡ is_taken (watched c.supposed-told.result) (Down c.args.flit) = search (rules, c.in-Err) in
    sym (ap left_if (doubt_is (arrived c.args.self.now) c.args.flit (watched c.supposed-told.result) false late refused c.supposed-told.ensures))

pub returns-in-Err-clause-untaken : goal.returns-in-Err-clause-untaken
returns-in-Err-clause-untaken c =
    let late : true ≡ is_late_at (arrived c.args.self.now) c.args.flit = search (rules, c.if-not-is_late_at) in
    let refused : false ≡ is_taken (watched c.supposed-told.result) (Down c.args.flit) = search (rules, c.in-Err) in
    reason_is (arrived c.args.self.now) c.args.flit (watched c.supposed-told.result) c.in-Err.certain late c.supposed-told.ensures c.in-Err.ensures.reason
    (doubt_is (arrived c.args.self.now) c.args.flit (watched c.supposed-told.result) false late refused c.supposed-told.ensures)
