-- The witness is told of one port after the other.
use Rattle.std.proofs.Common.{rules, ◌≡◌, ◌+◌, ◌<◌, List, length, slice_index_or, refl, sym, ap, ◌∙◌, subst, arith}
use Rattle.std.proofs.Math.ListN.{set}
use Rattle.std.proofs.lemmas.List.{set-get_or}
use Rattle.chi_tracker.specs.Acts.{Act}
use Rattle.chi_tracker.specs.History.{IsAfter}
use Rattle.chi_tracker.specs.Calls.{Owner, no_owner}
use Rattle.chi_tracker.proofs.Telling.{at_same, telling_first, telling_more}
use Rattle.chi_tracker.proofs.witness.tell_each.Goals as goal

pub loop-index-init : goal.loop-index-init
loop-index-init g c = record { same = refl; table = c.requires.witness; told = telling_first (λ o. o) (λ o. Unit {0}) c.args.ports.now c.args.witness.now.history }

pub tell-requires-clause-table : goal.tell-requires-clause-table
tell-requires-clause-table g c = search rules

pub tell-requires-clause-witness : goal.tell-requires-clause-witness
tell-requires-clause-witness g c = c.loop-index.invariant.table

pub loop-index-preserved : goal.loop-index-preserved
loop-index-preserved g c =
    let l = c.loop-index in let i = l.index in let d = c.index-ports-index.result in let r : Owner = slice_index_or l.ports i d in
    let low : i < length c.args.ports.now = c.loop-index-test.true in
    let is : r ≡ slice_index_or c.args.ports.now i no_owner = ap (λ (rs : List Owner). slice_index_or rs i d) l.invariant.same ∙ at_same c.args.ports.now i d no_owner low in
    record {
      same = ap (λ (q : Owner). set l.ports i q) c.tell.ensures.same ∙ (set-get_or l.ports i d ∙ l.invariant.same);
      table = c.tell.ensures.witness ∙ l.invariant.table;
      told = telling_more (λ o. o) (λ o. Unit {0}) c.args.ports.now c.args.witness.now.history l.witness.history c.tell.new.witness.history i (i + 1) r no_owner l.invariant.told low (omega arith) is c.tell.ensures.told c.tell.ensures.running tt;
    }

pub returns-clause-same : goal.returns-clause-same
returns-clause-same g c = c.loop-index.invariant.same

pub returns-clause-witness : goal.returns-clause-witness
returns-clause-witness g c = c.loop-index.invariant.table

pub returns-clause-longest : goal.returns-clause-longest
returns-clause-longest g c = λ n d low. c.loop-index.invariant.told.longest n d (omega arith) low

pub returns-clause-after : goal.returns-clause-after
returns-clause-after g c = λ all n d low.
    let told = c.loop-index.invariant.told in
    subst (λ (h : List Act). IsAfter h (slice_index_or c.args.ports.now n d).port) (sym (told.stays all)) (told.after all n d (omega arith) low)
