-- What is set is what is kept then; and why it isn't.
use Rattle.std.proofs.Common.{rules, ◌≡◌, sym, ap, ◌∙◌}
use Rattle.std.specs.Prelude.{true, false}
use Rattle.chi_observer.specs.declared.flits.Flit.TheVariants.{Down}
use Rattle.chi_observer.specs.declared.observer.Observer.{Observer}
use Rattle.chi_observer.specs.Lines.{is_reason, is_taken, watched}
use Rattle.chi_observer.specs.Arrivals.{arrived, arriving_of, is_doubtful, is_full, is_untaken_line, left_if}
use Rattle.chi_observer.specs.Arrivals.Outcome.{Taken}
use Rattle.chi_observer.proofs.Received.{given_as, room, told_none, told_untaken, untaken_alike}
use Rattle.chi_observer.proofs.arrivals.Arrivals.give_told.Goals as goal

pub returns-in-Err-clause-outcome : goal.returns-in-Err-clause-outcome
returns-in-Err-clause-outcome c =
    let old = c.args.self.now in
    let room : c.is_full.result ≡ false = search (rules, c.if-is_full) in
    let counted : is_full (arriving_of old.agents c.from-at.result).acks ≡ false = sym c.is_full.ensures ∙ room in
    let quiet : c.is_early.result ≡ false = search (rules, c.if-is_early) in
    let refused : false ≡ is_taken (watched old.seen) (Down c.args.flit) = search (rules, c.in-Err) in
    let same = record old { seen = c.take.new.self } in
    told_none (arrived old) (arrived same) c.args.flit c.from-at.result c.untaken.result c.from-at.ensures counted (sym quiet ∙ c.is_early.ensures) refused
    (untaken_alike c.untaken.result (arrived same) (arrived same) ∙ c.untaken.ensures.outcome ∙ ap (λ (o : Observer). left_if (is_doubtful (arrived (record old { seen = o })) c.args.flit)) c.in-Err.ensures.kept)

pub returns-in-Err-clause-untaken : goal.returns-in-Err-clause-untaken
returns-in-Err-clause-untaken c =
    let old = c.args.self.now in
    let room : c.is_full.result ≡ false = search (rules, c.if-is_full) in
    let counted : is_full (arriving_of old.agents c.from-at.result).acks ≡ false = sym c.is_full.ensures ∙ room in
    let quiet : c.is_early.result ≡ false = search (rules, c.if-is_early) in
    let untaken : is_untaken_line (arrived old) c.args.flit c.untaken.result ≡ true =
    sym (ap (λ (o : Observer). is_untaken_line (arrived (record old { seen = o })) c.args.flit c.untaken.result) c.in-Err.ensures.kept) ∙ c.untaken.ensures.untaken in
    told_untaken (arrived old) c.args.flit c.from-at.result c.untaken.result c.from-at.ensures counted (sym quiet ∙ c.is_early.ensures) untaken

pub untaken-requires-clause-reason : goal.untaken-requires-clause-reason
untaken-requires-clause-reason c =
    ap (λ (o : Observer). is_reason (watched o) (Down c.args.flit) c.in-Err.reason) c.in-Err.ensures.kept ∙ c.in-Err.ensures.reason

pub returns-clause-outcome : goal.returns-clause-outcome
returns-clause-outcome c =
    let old = c.args.self.now in
    let room : c.is_full.result ≡ false = search (rules, c.if-is_full) in
    let counted : is_full (arriving_of old.agents c.from-at.result).acks ≡ false = sym c.is_full.ensures ∙ room in
    let quiet : c.is_early.result ≡ false = search (rules, c.if-is_early) in
    let taken : true ≡ is_taken (watched old.seen) (Down c.args.flit) = search (rules, c.in_default) in
    ap Taken c.put.ensures
    ∙ given_as (arrived old) c.args.flit c.from-at.result (watched c.take.new.self) (watched c.set_due.new.seen) c.stays_last-self.result c.due_acknowledged.result c.granted.result
    c.from-at.ensures counted (sym quiet ∙ c.is_early.ensures) taken c.in_default.ensures.after c.set_due.ensures c.stays_last-self.ensures c.due_acknowledged.ensures c.granted.ensures

pub granted-requires : goal.granted-requires
granted-requires c =
    let old = c.args.self.now in
    let free : c.is_full.result ≡ false = search (rules, c.if-is_full) in
    let counted : is_full (arriving_of old.agents c.from-at.result).acks ≡ false = sym c.is_full.ensures ∙ free in
    room (arriving_of old.agents c.from-at.result).acks counted
