use Rattle.std.proofs.Common.{rules, ◌≡◌, ◌+◌, ◌-◌, ◌%◌, refl, ap, arith}
use Rattle.std.specs.Int.{bit_at}
use Rattle.chi_tracker.specs.declared.step.AtomicStep.TheVariants.{Claim}
use Rattle.chi_tracker.specs.Steps.{shown, port_of}
use Rattle.chi_tracker.specs.Calls.{owner_in}
use Rattle.chi_tracker.specs.Conduct.{Found}
use Rattle.chi_tracker.proofs.Conduct.{does_none, scan_more, scan_free, scan_next}
use Rattle.chi_tracker.proofs.scan.scan.Goals as goal

pub returns-then-not-is_set-clause-free : goal.returns-then-not-is_set-clause-free
returns-then-not-is_set-clause-free c =
    let p = owner_in c.args.port_seat.now in let t = c.args.ty in let first = c.args.first in let step = c.claim_step-word in
    let clear : bit_at step.result (first % 64) ≡ 0 = search rules in
    scan_free p p (owner_in step.new.port_seat) t first first 0 step.result refl (does_none p (λ j. Found (Claim t (first + j)) ((first + j) % 64) 1) 0 refl) step.ensures.is.acts (omega arith) clear

pub loop-entry-init : goal.loop-entry-init
loop-entry-init c = record {
  table = c.claim_step-word.ensures.is.table;
  view = search rules;
  acts = let p = owner_in c.args.port_seat.now in let t = c.args.ty in let first = c.args.first in let step = c.claim_step-word in
      let set : bit_at step.result (first % 64) ≡ 1 = search rules in
      scan_more p p (owner_in step.new.port_seat) t first first 0 step.result refl (does_none p (λ j. Found (Claim t (first + j)) ((first + j) % 64) 1) 0 refl) step.ensures.is.acts (first + 1 - first) (omega arith) (omega arith) set;
  after = c.claim_step-word.ensures.is.after;
}

pub returns-then-not-is_set-2-clause-free : goal.returns-then-not-is_set-2-clause-free
returns-then-not-is_set-2-clause-free c =
    let step = c.claim_step-word-in-loop-entry in let e = c.loop-entry.entry in
    let clear : bit_at step.result (e % 64) ≡ 0 = search rules in
    scan_free (owner_in c.args.port_seat.now) (owner_in c.loop-entry.port_seat) (owner_in step.new.port_seat) c.args.ty c.args.first e (e - c.args.first) step.result
    (ap (λ s. (port_of s).who) c.loop-entry.invariant.view) c.loop-entry.invariant.acts step.ensures.is.acts refl clear

pub loop-entry-preserved : goal.loop-entry-preserved
loop-entry-preserved c = record {
  table = search rules;
  view = let step = c.claim_step-word-in-loop-entry in let e = c.loop-entry.entry in
      let set : bit_at step.result (e % 64) ≡ 1 = search rules in
      scan_next (shown c.args.port_seat.now.me) (shown c.loop-entry.port_seat.me) (shown step.new.port_seat.me) c.args.ty c.args.first e (e - c.args.first) (e + 1 - c.args.first) (bit_at step.result (e % 64))
      c.requires.range.0 c.loop-entry.invariant.view step.ensures.is.view set (omega arith) (omega arith) (omega arith);
  acts = let step = c.claim_step-word-in-loop-entry in let e = c.loop-entry.entry in
      let set : bit_at step.result (e % 64) ≡ 1 = search rules in
      scan_more (owner_in c.args.port_seat.now) (owner_in c.loop-entry.port_seat) (owner_in step.new.port_seat) c.args.ty c.args.first e (e - c.args.first) step.result
      (ap (λ s. (port_of s).who) c.loop-entry.invariant.view) c.loop-entry.invariant.acts step.ensures.is.acts (e + 1 - c.args.first) (omega arith) (omega arith) set;
  after = c.claim_step-word-in-loop-entry.ensures.is.after;
}
