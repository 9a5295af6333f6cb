-- The witness is told of one requester after the other.
use Rattle.std.proofs.Common.{rules, ◌≡◌, ◌+◌, ◌<◌, List, length, slice_index_or, refl, sym, ap, ◌∙◌, subst, arith}
use Rattle.std.proofs.Math.ListN.{set}
use Rattle.std.proofs.lemmas.List.{set-get_or}
use Rattle.chi_tracker.specs.Acts.{Act}
use Rattle.chi_tracker.specs.History.{IsAfter}
use Rattle.chi_node.specs.Requester.{RequesterState, no_requester, owner}
use Rattle.chi_tracker.proofs.Telling.{at_same, telling_first, telling_more}
use Rattle.chi_node.proofs.meeting.tell_each.Goals as goal

pub loop-index-init : goal.loop-index-init
loop-index-init g c = record { same = refl; table = c.requires.witness; told = telling_first owner (λ r. r.port.who ≡ r.number) c.args.requesters.now c.args.witness.now.history }

pub tell-requires-clause-table : goal.tell-requires-clause-table
tell-requires-clause-table g c = search rules

pub tell-requires-clause-witness : goal.tell-requires-clause-witness
tell-requires-clause-witness g c = c.loop-index.invariant.table

pub loop-index-preserved : goal.loop-index-preserved
loop-index-preserved g c =
    let l = c.loop-index in let i = l.index in let d = c.index-requesters-index.result in let r : RequesterState = slice_index_or l.requesters i d in
    let low : i < length c.args.requesters.now = c.loop-index-test.true in
    let is : r ≡ slice_index_or c.args.requesters.now i no_requester = ap (λ (rs : List RequesterState). slice_index_or rs i d) l.invariant.same ∙ at_same c.args.requesters.now i d no_requester low in
    record {
      same = ap (λ (q : RequesterState). set l.requesters i q) c.tell.ensures.same ∙ (set-get_or l.requesters i d ∙ l.invariant.same);
      table = c.tell.ensures.witness ∙ l.invariant.table;
      told = telling_more owner (λ r. r.port.who ≡ r.number) c.args.requesters.now c.args.witness.now.history l.witness.history c.tell.new.witness.history i (i + 1) r no_requester l.invariant.told low (omega arith) is c.tell.ensures.told c.tell.ensures.running c.tell.ensures.own;
    }

pub returns-clause-same : goal.returns-clause-same
returns-clause-same g c = c.loop-index.invariant.same

pub returns-clause-witness : goal.returns-clause-witness
returns-clause-witness g c = c.loop-index.invariant.table

pub returns-clause-longest : goal.returns-clause-longest
returns-clause-longest g c = λ n d low. c.loop-index.invariant.told.longest n d (omega arith) low

pub returns-clause-after : goal.returns-clause-after
returns-clause-after g c = λ all n d low.
    let told = c.loop-index.invariant.told in
    subst (λ (h : List Act). IsAfter h (slice_index_or c.args.requesters.now n d).port) (sym (told.stays all)) (told.after all n d (omega arith) low)

pub returns-clause-own : goal.returns-clause-own
returns-clause-own g c = λ n d low. c.loop-index.invariant.told.facts n d (omega arith) low
