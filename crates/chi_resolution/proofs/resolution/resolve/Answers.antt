-- One flit more, a flit that isn't allowed, and the end.
use Rattle.chi_resolution.specs.Resolution.{resolution_of}
use Rattle.chi_resolution.proofs.Balance.{balanced_where}
use Rattle.chi_resolution.proofs.GrantLemmas.{due_where, trace_due}
use Rattle.chi_resolution.proofs.Kept.{trace_kept}
use Rattle.chi_resolution.proofs.Refusals.{refused_where}
use Rattle.chi_resolution.proofs.Steps.{goes_on, is_done, stops}
use Rattle.chi_resolution.proofs.resolution.resolve.Goals as goal

pub loop-at-preserved : goal.loop-at-preserved
loop-at-preserved g c =
    goes_on c.args.options c.args.seen.now c.loop-at.at c.loop-at.state c.take.new.self _ (resolution_of c.args.options c.args.seen.now) c.loop-at-test.true (rw (c.in_default.is) at c.in_ok-reason.ensures) c.loop-at.invariant

pub returns-in-Some : goal.returns-in-Some
returns-in-Some g c =
    let e = stops c.args.options c.args.seen.now c.loop-at.at c.loop-at.state c.take.new.self c.in-Some.reason _ (resolution_of c.args.options c.args.seen.now) c.loop-at-test.true (rw (c.in-Some.is) at c.in_ok-reason.ensures) c.loop-at.invariant in
    record {
      flits = rw (← e) c.ended.ensures.flits;
      fault = rw (← e) c.ended.ensures.fault;
      home = rw (← e) c.ended.ensures.home;
      requesters = rw (← e) c.ended.ensures.requesters;
      ids = rw (← e) c.ended.ensures.ids;
      unfinished = rw (← e) c.ended.ensures.unfinished;
      accounts = rw (← e) c.ended.ensures.accounts;
      waiting = rw (← e) c.ended.ensures.waiting;
      ledger =
          balanced_where c.args.options.early_grants c.ended.result (λ r. r.accounts.items) (resolution_of c.args.options c.args.seen.now).progress.table.accounts (rw (← e) c.ended.ensures.accounts)
          (trace_kept c.args.options c.args.seen.now);
      grants = due_where c.args.options c.args.seen.now c.ended.result (λ r. r.fault) (resolution_of c.args.options c.args.seen.now).fault (rw (← e) c.ended.ensures.fault) (trace_due c.args.options c.args.seen.now);
      refused = refused_where c.args.options c.args.seen.now c.ended.result (λ r. r.fault) (rw (← e) c.ended.ensures.fault);
    }

pub returns : goal.returns
returns g c =
    let e = is_done c.args.options c.args.seen.now c.loop-at.at c.loop-at.state (resolution_of c.args.options c.args.seen.now) c.loop-at-test.false c.loop-at.invariant in
    record {
      flits = rw (← e) c.ended-2.ensures.flits;
      fault = rw (← e) c.ended-2.ensures.fault;
      home = rw (← e) c.ended-2.ensures.home;
      requesters = rw (← e) c.ended-2.ensures.requesters;
      ids = rw (← e) c.ended-2.ensures.ids;
      unfinished = rw (← e) c.ended-2.ensures.unfinished;
      accounts = rw (← e) c.ended-2.ensures.accounts;
      waiting = rw (← e) c.ended-2.ensures.waiting;
      ledger =
          balanced_where c.args.options.early_grants c.ended-2.result (λ r. r.accounts.items) (resolution_of c.args.options c.args.seen.now).progress.table.accounts (rw (← e) c.ended-2.ensures.accounts)
          (trace_kept c.args.options c.args.seen.now);
      grants = due_where c.args.options c.args.seen.now c.ended-2.result (λ r. r.fault) (resolution_of c.args.options c.args.seen.now).fault (rw (← e) c.ended-2.ensures.fault) (trace_due c.args.options c.args.seen.now);
      refused = refused_where c.args.options c.args.seen.now c.ended-2.result (λ r. r.fault) (rw (← e) c.ended-2.ensures.fault);
    }
