-- The front of the queue is judged, and then what waits behind it.
use Rattle.std.proofs.Common.{◌≡◌, ℕ, ◌+◌, ◌<◌, ◌≤◌, ◌^◌, Bool, true, false, List, [], ◌∷◌, length, refl, sym, ap, subst, ◌∙◌, arith}
use Rattle.std.specs.Prelude.{◌&&◌, Some, None, if◌then◌else◌}
use Rattle.chi_watch.specs.declared.held.HeldFlit.{HeldFlit}
use Rattle.chi_watch.specs.declared.judge.Verdict.{Verdict}
use Rattle.chi_watch.specs.declared.judge.Verdict.TheVariants as verdicts
use Rattle.chi_watch.specs.declared.lines.Drained.{Drained}
use Rattle.chi_watch.specs.Held.{is_none_held, is_whole, next_in, rest_of}
use Rattle.chi_watch.specs.Judges.{Judged, judged_after, verdict}
use Rattle.chi_watch.specs.declared.lines.Tally.{Tally}
use Rattle.chi_watch.specs.Lines.{IsDone, LineState, Outcome, arrived, at_once, counted, drained, fault_by, nothing_done, passed, tallied, total}
use Rattle.chi_issue_b.specs.declared.ids.NodeId.{NodeId}

-- so far as it goes, what is left comes to the same as all did, and there are fewer than any count can hold
pub record Draining (strays : List ℕ) (whole : Outcome) (judge : Judged) (waiting : List HeldFlit) (done : Drained) : Type 0 where
  pub goes : drained strays judge waiting done ≡ whole
  pub fits : total done + length waiting < 2 ^ 63

-- the front that is taken out is whole
found : (b : Bool) (front flit : HeldFlit) → (if b then Some front else None) ≡ Some flit → b ≡ true
found true front flit h = refl
found false front flit h = absurd (cc h)

same : (b : Bool) (front flit : HeldFlit) → (if b then Some front else None) ≡ Some flit → front ≡ flit
same true front flit h = cc h
same false front flit h = absurd (cc h)

kept : (b : Bool) (front : HeldFlit) → (if b then Some front else None) ≡ None → b ≡ false
kept true front h = absurd (cc h)
kept false front h = refl

-- what is drained behind it
pub drains_on : (strays : List ℕ) (judge : Judged) (waiting : List HeldFlit) (done : Drained) (flit : HeldFlit) → next_in waiting ≡ Some flit
    → drained strays (judged_after strays flit.number judge flit.told) (rest_of waiting) (counted (verdict strays judge flit.told) flit done) ≡ drained strays judge waiting done
drains_on strays judge [] done flit h = absurd (cc h)
drains_on strays judge (front ∷ rest) done flit h = by (is_whole front) (found (is_whole front) front flit h) (same (is_whole front) front flit h)
  where
    by : (b : Bool) → b ≡ true → front ≡ flit
        → drained strays (judged_after strays flit.number judge flit.told) (if b then rest else front ∷ rest) (counted (verdict strays judge flit.told) flit done)
        ≡ (if b then drained strays (judged_after strays front.number judge front.told) rest (counted (verdict strays judge front.told) front done) else record { told = judge; held = front ∷ rest; done = done })
    by true w is = ap (λ (f : HeldFlit). drained strays (judged_after strays f.number judge f.told) rest (counted (verdict strays judge f.told) f done)) (sym is)
    by false w is = absurd (cc w)

-- where it isn't whole nothing is
pub drains_none : (strays : List ℕ) (judge : Judged) (waiting : List HeldFlit) (done : Drained) → next_in waiting ≡ None
    → record { told = judge; held = rest_of waiting; done = done } ≡ drained strays judge waiting done
drains_none strays judge [] done h = refl
drains_none strays judge (front ∷ rest) done h = by (is_whole front) (kept (is_whole front) front h)
  where
    by : (b : Bool) → b ≡ false
        → record { told = judge; held = (if b then rest else front ∷ rest); done = done }
        ≡ (if b then drained strays (judged_after strays front.number judge front.told) rest (counted (verdict strays judge front.told) front done) else record { told = judge; held = front ∷ rest; done = done })
    by true w = absurd (cc w)
    by false w = refl

-- one fewer waits
pub shorter : (waiting : List HeldFlit) (flit : HeldFlit) → next_in waiting ≡ Some flit → length (rest_of waiting) + 1 ≡ length waiting
shorter [] flit h = absurd (cc h)
shorter (front ∷ rest) flit h = by (is_whole front) (found (is_whole front) front flit h)
  where
    by : (b : Bool) → b ≡ true → length (if b then rest else front ∷ rest) + 1 ≡ length (front ∷ rest)
    by true w = omega arith
    by false w = absurd (cc w)

-- and one more is counted at most
tally_more : (v : Verdict) (t : Tally) → (tallied v t).judged + (tallied v t).unjudged ≤ t.judged + t.unjudged + 1
tally_more verdicts.Judged t = omega arith
tally_more verdicts.Unjudged t = omega arith
tally_more (verdicts.Fault reason) t = omega arith

pub more : (v : Verdict) (flit : HeldFlit) (done : Drained) → total (counted v flit done) ≤ total done + 1
more v flit done = by flit.is_access
  where
    by : (b : Bool) → total (if b then record done { accesses = tallied v done.accesses; fault = fault_by v flit.last done.fault } else record done { flits = tallied v done.flits; fault = fault_by v flit.last done.fault }) ≤ total done + 1
    by true = omega (arith, tally_more v done.accesses)
    by false = omega (arith, tally_more v done.flits)

pub goes_on : (strays : List ℕ) (whole : Outcome) (judge : Judged) (waiting : List HeldFlit) (done : Drained) (flit : HeldFlit) → next_in waiting ≡ Some flit
    → Draining strays whole judge waiting done
    → Draining strays whole (judged_after strays flit.number judge flit.told) (rest_of waiting) (counted (verdict strays judge flit.told) flit done)
goes_on strays whole judge waiting done flit h so_far = record {
  goes = drains_on strays judge waiting done flit h ∙ so_far.goes;
  fits = omega (arith, more (verdict strays judge flit.told) flit done, shorter waiting flit h, so_far.fits);
}

pub moves_on : (strays : List ℕ) (whole : Outcome) (judge next : Judged) (waiting rest : List HeldFlit) (done more : Drained) (flit : HeldFlit) (v : Verdict)
    → next_in waiting ≡ Some flit → next ≡ judged_after strays flit.number judge flit.told → rest ≡ rest_of waiting
    → v ≡ verdict strays judge flit.told → more ≡ counted v flit done → Draining strays whole judge waiting done → Draining strays whole next rest more
moves_on strays whole judge next waiting rest done more flit v front after left is count so_far =
    subst (λ (j : Judged). Draining strays whole j rest more) (sym after)
    (subst (λ (h : List HeldFlit). Draining strays whole (judged_after strays flit.number judge flit.told) h more) (sym left)
    (subst (λ (d : Drained). Draining strays whole (judged_after strays flit.number judge flit.told) (rest_of waiting) d) (sym (count ∙ ap (λ w. counted w flit done) is))
    (goes_on strays whole judge waiting done flit front so_far)))

-- a flit for which none waits, and that waits for no words, is judged as it comes
is_once : (strays : List ℕ) (home : NodeId) (judge : Judged) (held : List HeldFlit) (flit : HeldFlit) → (is_none_held held && is_whole flit) ≡ true
    → at_once strays (record { home = home; told = judge; held = held }) flit ≡ arrived strays (record { home = home; told = judge; held = held }) flit
is_once strays home judge [] flit h =
    let now : Outcome = record { told = judged_after strays flit.number judge flit.told; held = []; done = counted (verdict strays judge flit.told) flit nothing_done } in
    sym (ap (λ (b : Bool). if b then now else record { told = judge; held = flit ∷ []; done = nothing_done }) h)
is_once strays home judge (front ∷ rest) flit h = absurd (cc h)

pub once_done : (strays : List ℕ) (old new : LineState) (flit : HeldFlit) (done : Drained) → (is_none_held old.held && is_whole flit) ≡ true
    → IsDone old new (at_once strays old flit) done → IsDone old new (arrived strays old flit) done
once_done strays old new flit done h is = subst (λ (o : Outcome). IsDone old new o done) (is_once strays old.home old.told old.held flit h) is

-- PASSING all that wait
pub record Passing (whole : Drained) (waiting : List HeldFlit) (done : Drained) : Type 0 where
  pub goes : passed waiting done ≡ whole
  pub fits : total done + length waiting ≤ 2 ^ 63
