-- A queue that is drained as it grows leaves what one that is drained at the end does.
use Rattle.std.proofs.Common.{◌≡◌, ℕ, Bool, true, false, List, [], ◌∷◌, ◌++◌, refl, sym, ap, ◌∙◌}
use Rattle.std.specs.Prelude.{Option, Some, None, if◌then◌else◌}
use Rattle.chi_issue_b.specs.declared.beat.Beat.{Beat}
use Rattle.chi_watch.specs.declared.held.HeldFlit.{HeldFlit}
use Rattle.chi_watch.specs.declared.lines.Drained.{Drained}
use Rattle.chi_watch.specs.Held.{awaits_by, has_room, is_whole, is_whole_by, joined, joined_in}
use Rattle.chi_watch.specs.Judges.{Judged, judged_after, verdict}
use Rattle.chi_watch.specs.Lines.{LineState, Outcome, arrived, behind, counted, crowded, drained, joined_line, nothing_done}
use Rattle.chi_watch.specs.Logs.{ToldInOrder, log, told_all, waiting_rest, whole_front}
use Rattle.chi_watch.specs.Logs.Step.{Arrives, Joins}

-- what is told, and what waits then
pub record Split : Type 0 where
  pub told : Judged
  pub held : List HeldFlit

abbrev split : List ℕ → Judged → List HeldFlit → Split
split strays judge flits = record { told = told_all strays judge (whole_front flits); held = waiting_rest flits }

abbrev halves : Outcome → Split
halves outcome = record { told = outcome.told; held = outcome.held }

-- the judge behind a flit
abbrev next : List ℕ → Judged → HeldFlit → Judged
next strays judge flit = judged_after strays flit.number judge flit.told

drained_splits : (strays : List ℕ) (judge : Judged) (flits : List HeldFlit) (done : Drained) → halves (drained strays judge flits done) ≡ split strays judge flits
drained_splits strays judge [] done = refl
drained_splits strays judge (flit ∷ rest) done =
    by (is_whole flit) (drained_splits strays (next strays judge flit) rest (counted (verdict strays judge flit.told) flit done))
  where
    by : (b : Bool) → halves (drained strays (next strays judge flit) rest (counted (verdict strays judge flit.told) flit done)) ≡ split strays (next strays judge flit) rest
        → halves (if b then drained strays (next strays judge flit) rest (counted (verdict strays judge flit.told) flit done) else record { told = judge; held = flit ∷ rest; done = done })
        ≡ record { told = told_all strays judge (if b then flit ∷ whole_front rest else []); held = (if b then waiting_rest rest else flit ∷ rest) }
    by true behind = behind
    by false behind = refl

-- a flit comes behind all
module _ (strays : List ℕ) (judge : Judged) (flit : HeldFlit) (rest more : List HeldFlit) where
  abbrev appended_by : Bool → Split
  appended_by b = record { told = told_all strays judge (if b then flit ∷ whole_front (rest ++ more) else []); held = (if b then waiting_rest (rest ++ more) else flit ∷ (rest ++ more)) }

  append_by : (b : Bool) → is_whole flit ≡ b
      → split strays (told_all strays (next strays judge flit) (whole_front rest)) (waiting_rest rest ++ more) ≡ split strays (next strays judge flit) (rest ++ more)
      → split strays (told_all strays judge (if b then flit ∷ whole_front rest else [])) ((if b then waiting_rest rest else flit ∷ rest) ++ more) ≡ appended_by b
  append_by true e behind = behind
  append_by false e behind = ap appended_by e

appended : (strays : List ℕ) (judge : Judged) (flits more : List HeldFlit)
    → split strays (told_all strays judge (whole_front flits)) (waiting_rest flits ++ more) ≡ split strays judge (flits ++ more)
appended strays judge [] more = refl
appended strays judge (flit ∷ rest) more = append_by strays judge flit rest more (is_whole flit) refl (appended strays (next strays judge flit) rest more)

-- a beat joins one that waits
module _ (strays : List ℕ) (judge : Judged) (flit : HeldFlit) (rest : List HeldFlit) (id : ℕ) (beat : Beat) (number : ℕ) (is_last : Bool) where
  abbrev join : List HeldFlit → List HeldFlit
  join flits = joined_in id beat number is_last flits

  abbrev joined_by : Option ℕ → List HeldFlit
  joined_by a = if awaits_by id a then joined beat number is_last flit ∷ rest else flit ∷ join rest

  abbrev passed_by : Option ℕ → Split
  passed_by a = record { told = told_all strays judge (if is_whole_by a then flit ∷ whole_front (join rest) else []); held = (if is_whole_by a then waiting_rest (join rest) else flit ∷ join rest) }

  join_by : (a : Option ℕ) → flit.awaits ≡ a
      → split strays (told_all strays (next strays judge flit) (whole_front rest)) (join (waiting_rest rest)) ≡ split strays (next strays judge flit) (join rest)
      → split strays (told_all strays judge (if is_whole_by a then flit ∷ whole_front rest else [])) (join (if is_whole_by a then waiting_rest rest else flit ∷ rest)) ≡ split strays judge (joined_by a)
  join_by None e behind = behind ∙ sym (ap passed_by e)
  join_by (Some awaited) e behind = ap (λ a. split strays judge (joined_by a)) e

joined_splits : (strays : List ℕ) (judge : Judged) (flits : List HeldFlit) (id : ℕ) (beat : Beat) (number : ℕ) (is_last : Bool)
    → split strays (told_all strays judge (whole_front flits)) (joined_in id beat number is_last (waiting_rest flits)) ≡ split strays judge (joined_in id beat number is_last flits)
joined_splits strays judge [] id beat number is_last = refl
joined_splits strays judge (flit ∷ rest) id beat number is_last =
    join_by strays judge flit rest id beat number is_last flit.awaits refl (joined_splits strays (next strays judge flit) rest id beat number is_last)

-- the line behind each step
abbrev line_of : LineState → Split → LineState
line_of s half = record { home = s.home; told = half.told; held = half.held }

roomy : (b : Bool) (s : LineState) (one other : Outcome) → b ≡ true → behind s (if b then one else other) ≡ line_of s (halves one)
roomy true s one other h = refl
roomy false s one other h = absurd (cc h)

pub in_order : ToldInOrder
in_order strays s [] none room = λ i. record { home = s.home; told = s.told; held = none i }
in_order strays s (Arrives flit ∷ steps) none (fits, room) =
    let so_far = in_order strays s steps none room in
    let here = log steps in
    let told = told_all strays s.told (whole_front here) in
    let held = waiting_rest here in
    let line : LineState = record { home = s.home; told = told; held = held } in
    ap (λ (t : LineState). behind t (arrived strays t flit)) so_far
    ∙ (roomy (has_room held) line (drained strays told (held ++ flit ∷ []) nothing_done) (crowded line flit) fits
    ∙ (ap (line_of line) (drained_splits strays told (held ++ flit ∷ []) nothing_done)
    ∙ ap (line_of line) (appended strays s.told here (flit ∷ []))))
in_order strays s (Joins id beat number is_last ∷ steps) none room =
    let so_far = in_order strays s steps none room in
    let here = log steps in
    let told = told_all strays s.told (whole_front here) in
    let line : LineState = record { home = s.home; told = told; held = waiting_rest here } in
    ap (λ (t : LineState). behind t (joined_line strays t id beat number is_last)) so_far
    ∙ (ap (line_of line) (drained_splits strays told (joined_in id beat number is_last (waiting_rest here)) nothing_done)
    ∙ ap (line_of line) (joined_splits strays s.told here id beat number is_last))
