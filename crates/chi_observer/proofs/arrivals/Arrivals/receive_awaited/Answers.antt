-- It is told, and then the request is judged that was held for it.
use Rattle.std.proofs.Common.{rules, ◌≡◌, ap, ◌∙◌}
use Rattle.std.specs.Prelude.{true, false}
use Rattle.chi_observer.specs.declared.flits.Flit.TheVariants.{Up}
use Rattle.chi_observer.specs.declared.arriving.Earlier.{Earlier}
use Rattle.chi_observer.specs.Lines.{is_taken, watched}
use Rattle.chi_observer.specs.Arrivals.{arrived, arriving_of}
use Rattle.chi_observer.proofs.Received.{awaited_as, awaited_fault, awaited_none, earlier_by, earlier_from, played_faults}
use Rattle.chi_observer.proofs.arrivals.Arrivals.receive_awaited.Goals as goal

pub returns-in-Err-clause-outcome : goal.returns-in-Err-clause-outcome
returns-in-Err-clause-outcome c =
    let refused : false ≡ is_taken (watched c.settled-before.result) (Up c.args.sent) = search (rules, c.in-Err) in
    awaited_none (arrived c.args.self.now) c.args.sent (watched c.settled-before.result) c.in-Err.why c.settled-before.ensures refused c.in-Err.ensures.untaken

pub returns-in-Err-clause-untaken : goal.returns-in-Err-clause-untaken
returns-in-Err-clause-untaken c =
    let refused : false ≡ is_taken (watched c.settled-before.result) (Up c.args.sent) = search (rules, c.in-Err) in
    awaited_fault (arrived c.args.self.now) c.args.sent (watched c.settled-before.result) c.in-Err.why c.settled-before.ensures refused c.in-Err.ensures.untaken

pub returns-in-Ok-clause-outcome : goal.returns-in-Ok-clause-outcome
returns-in-Ok-clause-outcome c =
    let old = c.args.self.now in
    let taken : true ≡ is_taken (watched c.settled-before.result) (Up c.args.sent) = search (rules, c.in-Ok) in
    let earlier : c.after-earlier.result ≡ earlier_from (arrived old) c.args.sent (watched c.settled-before.result) c.from-at.result =
    c.after-earlier.ensures ∙ ap (λ (e : Earlier). earlier_by c.args.sent (watched c.settled-before.result) c.from-at.result e) c.earlier_of.ensures in
    c.play.ensures.outcome
    ∙ awaited_as (arrived old) c.args.sent c.from-at.result (watched c.settled-before.result) (arriving_of old.agents c.from-at.result).held (watched c.in-Ok.seen) c.after-earlier.result
    c.from-at.ensures c.settled-before.ensures taken c.in-Ok.ensures.after (λ _. (arriving_of old.agents c.from-at.result).held) earlier

pub returns-in-Ok-clause-untaken : goal.returns-in-Ok-clause-untaken
returns-in-Ok-clause-untaken c =
    let old = c.args.self.now in
    let taken : true ≡ is_taken (watched c.settled-before.result) (Up c.args.sent) = search (rules, c.in-Ok) in
    let earlier : c.after-earlier.result ≡ earlier_from (arrived old) c.args.sent (watched c.settled-before.result) c.from-at.result =
    c.after-earlier.ensures ∙ ap (λ (e : Earlier). earlier_by c.args.sent (watched c.settled-before.result) c.from-at.result e) c.earlier_of.ensures in
    played_faults c.play.result (arrived old) c.args.sent c.from-at.result (watched c.settled-before.result) (arriving_of old.agents c.from-at.result).held (watched c.in-Ok.seen) c.after-earlier.result
    c.from-at.ensures c.settled-before.ensures taken c.in-Ok.ensures.after (λ _. (arriving_of old.agents c.from-at.result).held) earlier c.play.ensures.untaken
