-- Runs of a slice, at one of its lines.
use Rattle.std.proofs.Common.{◌≡◌, ◌≢◌, ⊎_elim, ℕ, ◌<◌, ◌≤◌, List, [], ◌∷◌, ◌++◌, refl, sym, ap, subst, ◌∙◌, length, replicate}
use Rattle.std.specs.Prelude.{Bool, true, false, ◌==◌, Option, Some, None, option_map, nat_lt, if◌then◌else◌}
use Rattle.std.proofs.lemmas.Bool.{cases_lt, eqb-true}
use Rattle.std.proofs.lemmas.List.{get_or-replicate, get_or_past}
use Rattle.chi_flit.specs.declared.numbers.Agent.{Agent}
use Rattle.chi_flit.specs.declared.numbers.Line.{Line}
use Rattle.chi_flit.specs.declared.action.Action.{Action}
use Rattle.chi_flit.specs.declared.action.Step.{Step}
use Rattle.chi_flit.specs.declared.refusal.Refusal.{Refusal}
use Rattle.chi_wires.specs.declared.cells.Cells.{Cells}
use Rattle.chi_wires.specs.Cell.{no_flits}
use Rattle.chi_rnline.specs.Rn.{Rn, no_line}
use Rattle.chi_flit.specs.Message.{no_words}
use Rattle.chi_journal.specs.declared.record.Record.{Record}
use Rattle.chi_journal.specs.declared.record.Record.TheVariants.{Load, Store}
use Rattle.chi_journal.specs.Journal.{Log, opening_log, words_after}
use Rattle.chi_journal.specs.LastValues.{words_in_row}
use Rattle.chi_journal.specs.Record.{record_line}
use Rattle.chi_line.specs.LineState.{LineState, cells_of, opening_line, rn_of}
use Rattle.chi_line.specs.declared.act.Conditions.{Conditions}
use Rattle.chi_line.specs.Kept.{Kept, lane}
use Rattle.chi_line.specs.Refused.{step_refusal}
use Rattle.chi_line.specs.Step.{after, after_step, is_step_in_range, step_record}
use Rattle.chi_line.proofs.After.{last_with, names_used_slot}
use Rattle.chi_slice.specs.Words.{Sizes, are_in_limits}
use Rattle.chi_slice.specs.Recorded.{CanAppend}
use Rattle.chi_slice.specs.Slice.{SliceKept, SliceState, action_refusal, entry_of, is_line_in_range, last_of, line, opening_slice, row_count, row_of_line, slice_after, tried_as}
use Rattle.chi_slice.proofs.Acts.{Allowed, acted_others, allowed, entry_fits, kept_acted, names_unused}
use Rattle.chi_slice.proofs.Refusing.{conditions_of}
use Rattle.chi_slice.proofs.Rows.{InRange, in_range, inside}
use Rattle.chi_slice.proofs.Slices.{FitsJournal, FitsLine, last_recorded, line_in_row-with_line, opening_at, opening_slice_kept}
use Rattle.chi_observer.specs.declared.told.Told.TheVariants.{I}
use Rattle.chi_observer.specs.declared.flits.Due.TheVariants.{Nothing}
use Rattle.chi_observer.specs.Copies.{Held, holds_data}
use Rattle.chi_observer.specs.Copies.Copy.{Invalid}
use Rattle.chi_observer.specs.declared.flits.Flit.{Flit}
use Rattle.chi_observer.specs.declared.flits.Stores.{Stores}
use Rattle.chi_observer.specs.WordedLines.{WatchedWords, nothing_worded, watch_by_word}
use Rattle.chi_observer.specs.Rules.{plain}
use Rattle.chi_observer.specs.Runs.{nothing_told}
use Rattle.chi_observer.specs.Tables.{reach}
use Rattle.chi_conformity.specs.Conformity.{AreTaken, SlicesConform, done_seen, run_seen}
use Rattle.chi_conformity.specs.Seen.{snoop_seen, step_seen}
use Rattle.chi_conformity.proofs.Held.{DueIs, Stands, held, held_of}
use Rattle.chi_conformity.proofs.Flits.{Laws}
use Rattle.chi_conformity.proofs.Put.{differ}
use Rattle.chi_conformity.proofs.Counted.{IsCounted, step_follows_by_word}
use Rattle.chi_conformity.proofs.Words.{StandsByWord}
use Rattle.chi_conformity.proofs.Taken.{AllTaken, FollowsBy, taken_more}
use Rattle.chi_conformity.proofs.Told.{no}

-- THE VALUES LAST STORED
fits_journal : (log : Log) (entry : Option Record) → CanAppend log entry → length log.words ≡ log.lines → FitsJournal log entry
fits_journal log None may long = tt
fits_journal log (Some entry) may long = subst (λ (n : ℕ). (record_line entry).0 < n) (sym long) may.1

words_elsewhere : (l : ℕ) (words : List ℕ) (entry : Record) → ((record_line entry).0 == l) ≡ false → words_after l words entry ≡ words
words_elsewhere l words (Load agent at word value) apart = refl
words_elsewhere l words (Store agent at word value) apart = rw apart refl

last_elsewhere : (log : Log) (at l : ℕ) (words : List ℕ) (entry : Option Record) → FitsLine log at entry → (at == l) ≡ false → last_with l words entry ≡ words
last_elsewhere log at l words None fits apart = refl
last_elsewhere log at l words (Some entry) fits apart = words_elsewhere l words entry (subst (λ (n : ℕ). (n == l) ≡ false) (sym fits.0) apart)

last_after : (s : SliceState) (action : Action) (l : ℕ) → SliceKept s → Allowed s action → last_of (slice_after s action) l ≡ last_with l (last_of s l) (entry_of s action)
last_after s action l kept may =
    last_recorded s.journal (entry_of s action) l (fits_journal s.journal (entry_of s action) (entry_fits s action kept may).1 kept.journal.words)

-- AN ACTION: what stands between a line and what is kept of it leads from step to step
module _ {W : Type 0} (Takes : W → Flit → Type 0) (behind : W → Flit → W) (Stand : List ℕ → LineState → W → Type 0) where
  abbrev StepsFollow : Type 0
  StepsFollow = (c : Conditions) (last : List ℕ) (s : LineState) (agent : Agent) (line : Line) (step : Step) (w : W) → agent.0 < 8 → is_step_in_range step ≡ true
      → step_refusal c s agent step ≡ None → (c.slot_used ≡ false → names_used_slot s agent.0 step ≡ false) → Kept last s → Stand last s w
      → FollowsBy Takes behind (Stand (last_with line.0 last (step_record s agent line step)) (after_step c.profile s agent step)) w (step_seen c.profile s agent step)

  abbrev Goes : List Action → ℕ → Type 0
  Goes actions l = (s : SliceState) (w : W) → SliceKept s → is_line_in_range s l ≡ true → Stand (last_of s l) (line s l) w → AllTaken Takes behind w (run_seen s actions l)

  -- on the line
  here_taken : StepsFollow → (s : SliceState) (action : Action) (actions : List Action) (l : ℕ) (w : W) → SliceKept s → Allowed s action → is_line_in_range s l ≡ true
      → Stand (last_of s l) (line s l) w → Goes actions l → action.line.0 ≡ l → AllTaken Takes behind w (done_seen None s action ++ run_seen (slice_after s action) actions l)
  here_taken steps s action actions l w kept may here stands goes same =
      let at : ℕ = action.line.0 in
      let s' : SliceState = slice_after s action in
      let flits : List Flit = step_seen s.config.profile (line s at) action.agent action.step in
      let inside : InRange s action = in_range s action kept may.inside in
      let stood : Stand (last_of s at) (line s at) w = subst (λ j. Stand (last_of s j) (line s j) w) (sym same) stands in
      let last_is : last_of s' at ≡ last_with at (last_of s at) (entry_of s action) = last_after s action at kept may in
      let line_is : line s' at ≡ after s.config.profile (line s at) action = line_in_row-with_line s (row_of_line s at) (after s.config.profile (line s at) action) inside.row kept in
      let follows : FollowsBy Takes behind (Stand (last_of s' at) (line s' at)) w flits =
      subst (λ v. FollowsBy Takes behind (Stand v (line s' at)) w flits) (sym last_is)
      (subst (λ v. FollowsBy Takes behind (Stand (last_with at (last_of s at) (entry_of s action)) v) w flits) (sym line_is)
      (steps (conditions_of s action) (last_of s at) (line s at) action.agent action.line action.step w inside.agent inside.step may.by_line (λ free. names_unused s action kept may) (kept.lines at inside.line) stood)) in
      taken_more Takes behind (Stand (last_of s' at) (line s' at)) w flits (run_seen s' actions l) follows
      (λ w' after. goes s' w' (kept_acted s action kept may) here (subst (λ j. Stand (last_of s' j) (line s' j) w') same after))

  -- on another
  elsewhere_taken : (s : SliceState) (action : Action) (actions : List Action) (l : ℕ) (w : W) → SliceKept s → Allowed s action → is_line_in_range s l ≡ true
      → Stand (last_of s l) (line s l) w → Goes actions l → (action.line.0 == l) ≡ false → AllTaken Takes behind w (run_seen (slice_after s action) actions l)
  elsewhere_taken s action actions l w kept may here stands goes apart =
      let s' : SliceState = slice_after s action in
      let other : l ≢ action.line.0 = λ (e : l ≡ action.line.0). differ action.line.0 l apart (sym e) in
      let last_is : last_of s' l ≡ last_of s l = last_after s action l kept may ∙ last_elsewhere s.journal action.line.0 l (last_of s l) (entry_of s action) (entry_fits s action kept may).0 apart in
      let line_is : line s' l ≡ line s l = acted_others s action kept may l here other in
      goes s' w (kept_acted s action kept may) here
      (subst (λ v. Stand v (line s' l) w) (sym last_is) (subst (λ v. Stand (last_of s l) v w) (sym line_is) stands))

  action_taken : StepsFollow → (s : SliceState) (action : Action) (actions : List Action) (l : ℕ) (w : W) → SliceKept s → is_line_in_range s l ≡ true
      → Stand (last_of s l) (line s l) w → Goes actions l → (r : Option Refusal) → action_refusal s action ≡ r → (b : Bool) → (action.line.0 == l) ≡ b
      → AllTaken Takes behind w ((if b then done_seen r s action else []) ++ run_seen (tried_as r s action) actions l)
  action_taken steps s action actions l w kept here stands goes None may true same =
      here_taken steps s action actions l w kept (allowed s action may) here stands goes (eqb-true action.line.0 l same)
  action_taken steps s action actions l w kept here stands goes None may false apart =
      elsewhere_taken s action actions l w kept (allowed s action may) here stands goes apart
  action_taken steps s action actions l w kept here stands goes (Some refusal) may true same = goes s w kept here stands
  action_taken steps s action actions l w kept here stands goes (Some refusal) may false apart = goes s w kept here stands

  run_taken : StepsFollow → (actions : List Action) (l : ℕ) → Goes actions l
  run_taken steps [] l s w kept here stands = tt
  run_taken steps (action ∷ actions) l s w kept here stands =
      action_taken steps s action actions l w kept here stands (run_taken steps actions l) (action_refusal s action) refl (action.line.0 == l) refl

-- THE OPENING LINE
empty_rn : (n : ℕ) → rn_of opening_line n ≡ no_line
empty_rn n = ⊎_elim (λ (low : n < 8). get_or-replicate 8 n no_line no_line low) (λ (high : 8 ≤ n). get_or_past (replicate 8 no_line) n no_line high) (cases_lt n 8)

empty_cells : (n : ℕ) → cells_of opening_line n ≡ no_flits
empty_cells n = ⊎_elim (λ (low : n < 8). get_or-replicate 8 n no_flits no_flits low) (λ (high : 8 ≤ n). get_or_past (replicate 8 no_flits) n no_flits high) (cases_lt n 8)

empty_held : (n : ℕ) → held (lane opening_line n) Nothing ≡ plain Invalid
empty_held n = ap (λ (r : Rn). held_of r.state r.pending (cells_of opening_line n).dat_down (cells_of opening_line n).rsp_down Nothing) (empty_rn n)
    ∙ ap (λ (c : Cells). held_of no_line.state no_line.pending c.dat_down c.rsp_down Nothing) (empty_cells n)

opening_stands : (z : Stores) (last : List ℕ) → Stands last opening_line (nothing_told z)
opening_stands z last = record {
  home = last;
  sound = record { pairs = λ n m here there apart. refl; owner = λ e thrown. no (sym e) };
  meant = record {
    told = λ n low. subst (λ (h : Held). reach z Nothing (record { told = I; cancelled = false }) h ≡ true) (sym (empty_held n)) refl;
    words = λ n low holds. no (subst (λ (h : Held). holds_data h.copy ≡ true) (empty_held n) holds);
    home = λ v e. absurd (cc (e));
    current = λ c unstored. refl;
  };
  value = λ c. refl;
  thrown = refl;
  lanes = λ n. record {
    due_is = subst (λ (r : Rn). DueIs r.pending (cells_of opening_line n).req (cells_of opening_line n).rsp_down (cells_of opening_line n).dat_down Nothing) (sym (empty_rn n)) refl;
    snooped_is = sym (ap (λ (c : Cells). option_map snoop_seen c.snp) (empty_cells n));
    named = λ some. no (sym some);
    flagged = λ one. no one;
    gone = λ g. refl;
    shared = λ g. refl;
  };
}

opening_kept : (config : Sizes) (index : ℕ) → are_in_limits config ≡ true → index < config.slices → SliceKept (opening_slice config index)
opening_kept config index limits inside =
    opening_slice_kept config index (replicate (row_count config index) opening_line) (opening_log config.lines config.journal) limits inside refl refl

opening_line_stands : (z : Stores) (config : Sizes) (index l : ℕ) → are_in_limits config ≡ true → index < config.slices → is_line_in_range (opening_slice config index) l ≡ true
    → Stands (last_of (opening_slice config index) l) (line (opening_slice config index) l) (nothing_told z)
opening_line_stands z config index l limits inside here =
    let last : List ℕ = last_of (opening_slice config index) l in
    subst (λ (v : LineState). Stands last v (nothing_told z)) (sym (opening_at config index l limits inside here)) (opening_stands z last)

-- eight words, as memory has at first
words_long : (b : Bool) (lines l : ℕ) → l < lines → length (if b then no_words else words_in_row (replicate lines no_words) l) ≡ 8
words_long true lines l low = refl
words_long false lines l low = ap (λ (xs : List ℕ). length xs) (get_or-replicate lines l no_words [] low)

opening_long : (config : Sizes) (index l : ℕ) → is_line_in_range (opening_slice config index) l ≡ true → length (last_of (opening_slice config index) l) ≡ 8
opening_long config index l here = words_long (nat_lt 0 config.journal) config.lines l (inside (opening_slice config index) l here).low

-- EACH RUN
all_taken : (flits : List Flit) (w : WatchedWords) → AllTaken IsCounted watch_by_word w flits → AreTaken w flits
all_taken [] w taken = tt
all_taken (flit ∷ flits) w taken = (taken.0, all_taken flits (watch_by_word w flit) taken.1)

pub conform : Laws → SlicesConform
conform laws z config index actions l limits within here =
    all_taken (run_seen (opening_slice config index) actions l) (nothing_worded z)
    (run_taken IsCounted watch_by_word StandsByWord
    (step_follows_by_word laws)
    actions l (opening_slice config index) (nothing_worded z) (opening_kept config index limits within) here (
      opening_line_stands z config index l limits within here,
      record { long = opening_long config index l here; words = λ c. no (sym c) },
    ))
