-- A slice keeps what it keeps through an action on one of its lines.
use Rattle.std.proofs.Common.{◌≡◌, ℕ, ◌<◌, List, Bool, true, false, Option, Some, None, if◌then◌else◌, refl, sym, ◌∙◌, ap, subst, get_or, length, replicate, arith}
use Rattle.std.proofs.lemmas.List.{get_or_read}
use Rattle.std.proofs.lemmas.List.Folds.{list_any_at}
use Rattle.std.proofs.Math.ListN.{set}
use Rattle.chi_flit.specs.declared.numbers.Agent.{Agent}
use Rattle.chi_flit.specs.declared.numbers.Line.{Line}
use Rattle.chi_flit.specs.declared.numbers.Slot.{Slot}
use Rattle.chi_flit.specs.declared.numbers.WordNo.{WordNo}
use Rattle.chi_flit.specs.declared.action.Action.{Action}
use Rattle.chi_flit.specs.declared.action.Step.{Step}
use Rattle.chi_flit.specs.declared.action.Step.TheVariants as steps
use Rattle.chi_flit.specs.declared.action.Effect.{Effect}
use Rattle.chi_flit.specs.declared.action.Effect.TheVariants.{Value}
use Rattle.chi_flit.specs.declared.refusal.Refusal.{Refusal}
use Rattle.chi_flit.specs.declared.refusal.Refusal.TheVariants.{OutOfRange}
use Rattle.chi_flit.specs.State.{is_valid}
use Rattle.chi_flit.specs.declared.credit.Profile.{Profile}
use Rattle.chi_journal.specs.declared.record.Record.{Record}
use Rattle.chi_journal.specs.Journal.{Log, is_full, line_words}
use Rattle.chi_rnline.specs.Rn.{load_refusal, store_refusal, word_of}
use Rattle.chi_line.specs.declared.act.Conditions.{Conditions}
use Rattle.chi_line.specs.LineState.{LineState, opening_line, rn_of}
use Rattle.chi_line.specs.Step.{after, effect_of, is_step_in_range, line_uses, record_of, step_effect, step_record}
use Rattle.chi_line.specs.Refused.{full_if, line_refusal, step_refusal}
use Rattle.chi_line.specs.Kept.{Kept}
use Rattle.chi_line.specs.Traffic.{KeepsFlits}
use Rattle.chi_line.proofs.After.{issue_allowed, kept_after, names_used_slot, neither}
use Rattle.chi_line.specs.Meaning.{standing_of}
use Rattle.chi_line.specs.Protocol.{LineStep}
use Rattle.chi_line.proofs.Protocol.{line_step}
use Rattle.chi_slice.specs.Protocol.{SliceStep}
use Rattle.chi_slice.specs.Recorded.{CanAppend, done_record, record_by}
use Rattle.chi_slice.specs.Slice.{KeepsSliceFlits, OtherLinesStay, SliceKept, SliceState, slice_after, conditions_under, entry_of, is_in_range, is_slot_used, last_of, line, line_in_row, range_refusal, log_after, action_refusal, refused_under, row_count, row_of_line, uses}
use Rattle.chi_slice.proofs.Refusing.{allowed_alone, conditions_of}
use Rattle.chi_slice.proofs.Rows.{InRange, in_range, rows_apart}
use Rattle.chi_slice.proofs.Slices.{FitsLine, FitsRoom, kept_with_entry, line_in_row-with_line, line_in_row-with_other}

-- a slot that is in use nowhere in the slice isn't in use at the line in a row
pub unused_at : (s : SliceState) (n : ℕ) (slot : Slot) (row : ℕ) → uses s n slot ≡ false → row < length s.lines → line_uses (line_in_row s row) n slot ≡ false
unused_at s n slot row free low = go (line_uses (line_in_row s row) n slot) refl
  where
    go : (b : Bool) → line_uses (line_in_row s row) n slot ≡ b → line_uses (line_in_row s row) n slot ≡ false
    go true used = absurd (cc (list_any_at (λ l. line_uses l n slot) s.lines row opening_line low used, free))
    go false unused = unused

pub free_at : (s : SliceState) (row n : ℕ) (step : Step) → SliceKept s → row < row_count s.config s.index → is_slot_used s n step ≡ false → names_used_slot (line_in_row s row) n step ≡ false
free_at s row n (steps.Issue kind slot) k low free = unused_at s n slot row free (subst (λ (m : ℕ). row < m) (sym k.rows) low)
free_at s row n other k low free = refl

-- a valid copy has the last value
valid_word : (last : List ℕ) (s : LineState) (n word : ℕ) → n < 8 → Kept last s → load_refusal (rn_of s n) ≡ None → word_of (rn_of s n) word ≡ get_or last word 0
valid_word last s n word low k allowed =
    let valid : is_valid (rn_of s n).state ≡ true = grind (arith, allowed) in
    ap (λ (words : List ℕ). get_or words word 0) ((k.lanes n low).holder_last valid)

-- an action that isn't refused is in range, and not refused by its line
pub record Allowed (s : SliceState) (action : Action) : Type 0 where
  pub inside : is_in_range s action ≡ true
  pub by_line : line_refusal (conditions_of s action) (line s action.line.0) action ≡ None

pub allowed : (s : SliceState) (action : Action) → action_refusal s action ≡ None → Allowed s action
allowed s action h = go (is_in_range s action) refl h
  where
    go : (b : Bool) → is_in_range s action ≡ b → (if b then line_refusal (conditions_of s action) (line s action.line.0) action else Some OutOfRange) ≡ None → Allowed s action
    go true is h = record { inside = is; by_line = h }
    go false is h = absurd (cc (h))

-- the slot that it names, if it names one, is in use nowhere in the slice
idle_step : (s : SliceState) (full : Bool) (credits : List Bool) (profile : Profile) (l : LineState) (agent : Agent) (step : Step)
    → step_refusal (record { slot_used = is_slot_used s agent.0 step; journal_full = full; credits = credits; profile = profile }) l agent step ≡ None → is_slot_used s agent.0 step ≡ false
idle_step s full credits profile l agent (steps.Issue kind slot) may = (issue_allowed (uses s agent.0 slot) (rn_of l agent.0) kind may).idle_slot
idle_step s full credits profile l agent other may = refl

pub named_idle : (s : SliceState) (action : Action) → Allowed s action → is_slot_used s action.agent.0 action.step ≡ false
named_idle s action may = idle_step s (is_full s.journal) (replicate 4 true) s.config.profile (line s action.line.0) action.agent action.step may.by_line

-- so it isn't in use at the line
pub names_unused : (s : SliceState) (action : Action) → SliceKept s → Allowed s action → names_used_slot (line s action.line.0) action.agent.0 action.step ≡ false
names_unused s action k may = free_at s (row_of_line s action.line.0) action.agent.0 action.step k (in_range s action k may.inside).row (named_idle s action may)

-- the journal is full where a load or a store is refused for it
pub not_full : (full : Bool) → full_if full ≡ None → full ≡ false
not_full full h = grind (arith, h)

-- the record of a step is of its line, legal after those that are there, and the journal has room for it
abbrev Fits : Log → ℕ → Option Record → Type 0
Fits log l entry = FitsLine log l entry × CanAppend log entry

step_fits : (c : Conditions) (log : Log) (s : LineState) (agent : Agent) (l : Line) (step : Step) → agent.0 < 8 → l.0 < log.lines → is_step_in_range step ≡ true → c.journal_full ≡ is_full log
    → step_refusal c s agent step ≡ None → Kept (line_words log l.0) s → Fits log l.0 (step_record s agent l step)
step_fits c log s agent l (steps.Load word) low below inside full may k =
    let by = neither (load_refusal (rn_of s agent.0)) (full_if c.journal_full) may in
    ((refl, valid_word (line_words log l.0) s agent.0 word.0 low k by.0), (low, below, grind (arith, inside), sym full ∙ not_full c.journal_full by.1))
step_fits c log s agent l (steps.Store word value) low below inside full may k =
    let by = neither (store_refusal (rn_of s agent.0)) (full_if c.journal_full) may in
    ((refl, tt), (low, below, grind (arith, inside), sym full ∙ not_full c.journal_full by.1))
step_fits c log s agent l other low below inside full may k = (tt, tt)

pub entry_fits : (s : SliceState) (action : Action) → SliceKept s → Allowed s action → Fits s.journal action.line.0 (entry_of s action)
entry_fits s action k may =
    let inside : InRange s action = in_range s action k may.inside in
    step_fits (conditions_of s action) s.journal (line s action.line.0) action.agent action.line action.step inside.agent (subst (λ (n : ℕ). action.line.0 < n) (sym k.journal_lines) inside.low) inside.step refl
    may.by_line (k.lines action.line.0 inside.line)

abbrev word_in : WordNo → Step → WordNo
word_in other (steps.Load word) = word
word_in other step = other

-- a load that isn't refused has the value last stored to its word
pub load_effect : (log : Log) (s : LineState) (agent : Agent) (l : Line) (step : Step) → FitsLine log l.0 (step_record s agent l step) → (word : WordNo) → step ≡ steps.Load word → step_effect s agent step ≡ Value (get_or (line_words log l.0) word.0 0)
load_effect log s agent l (steps.Load own) fits word is = ap Value fits.1 ∙ ap (λ (w : WordNo). Value (get_or (line_words log l.0) w.0 0)) (ap (word_in own) is)
load_effect log s agent l other fits word is = absurd (cc (is))

room_fits : (log : Log) (entry : Option Record) → CanAppend log entry → FitsRoom log entry
room_fits log None may = tt
room_fits log (Some entry) may = may.3

-- an action that isn't refused keeps what a slice keeps
pub kept_acted : (s : SliceState) (action : Action) → SliceKept s → Allowed s action → SliceKept (slice_after s action)
kept_acted s action k may =
    let inside : InRange s action = in_range s action k may.inside in
    kept_with_entry s action.line.0 (after s.config.profile (line s action.line.0) action) (entry_of s action) inside.line k
    (kept_after (conditions_of s action) (last_of s action.line.0) (line s action.line.0) action inside.agent may.by_line (λ free. names_unused s action k may) (k.lines action.line.0 inside.line))
    (entry_fits s action k may).0 (room_fits s.journal (entry_of s action) (entry_fits s action k may).1)

-- the record of a step by its effect is the step's record
record_is : (s : LineState) (agent : Agent) (l : Line) (step : Step) → done_record agent l step (step_effect s agent step) ≡ step_record s agent l step
record_is s agent l (steps.Load word) = refl
record_is s agent l other = refl

recorded_as : (s : LineState) (action : Action) (effect : Effect) → effect ≡ effect_of s action → record_by action effect ≡ record_of s action
recorded_as s action effect is = ap (record_by action) is ∙ record_is s action.agent action.line action.step

-- an action that is done takes its line by its row of the protocol
pub acted_protocol : (s : SliceState) (action : Action) → SliceKept s → Allowed s action → KeepsSliceFlits s action (slice_after s action) → SliceStep s action (effect_of (line s action.line.0) action) (slice_after s action)
acted_protocol s action k may flits =
    let inside : InRange s action = in_range s action k may.inside in
    let old : LineState = line s action.line.0 in
    let is : line (slice_after s action) action.line.0 ≡ after s.config.profile old action = line_in_row-with_line s (row_of_line s action.line.0) (after s.config.profile old action) inside.row k in (
      entry_of s action,
      refl,
      subst (λ (l : LineState). LineStep s.config.profile action.line action.agent action.step (standing_of old) (effect_of old action) (entry_of s action) (standing_of l)) (sym is)
          (line_step (conditions_of s action) (last_of s action.line.0) old action.agent action.line action.step inside.agent may.by_line (k.lines action.line.0 inside.line)
          (subst (λ (l : LineState). KeepsFlits s.config.profile old action l) is flits)),
    )

-- and leaves the other lines as they were
pub acted_others : (s : SliceState) (action : Action) → SliceKept s → Allowed s action → OtherLinesStay s (slice_after s action) action.line.0
acted_others s action k may = λ other there apart.
    let inside : InRange s action = in_range s action k may.inside in
    line_in_row-with_other s (row_of_line s action.line.0) (row_of_line s other) (after s.config.profile (line s action.line.0) action) (rows_apart s action.line.0 other k inside.line there apart)

-- an action whose numbers aren't refused is in range
pub inside_of : (s : SliceState) (action : Action) → None ≡ range_refusal s action → is_in_range s action ≡ true
inside_of s action h = go (is_in_range s action) refl h
  where
    go : (b : Bool) → is_in_range s action ≡ b → None ≡ (if b then None else Some OutOfRange) → is_in_range s action ≡ true
    go true is h = is
    go false is h = absurd (cc (h))

pub not_out : (s : SliceState) (action : Action) → is_in_range s action ≡ true → None ≡ range_refusal s action
not_out s action inside = go (is_in_range s action) inside
  where
    go : (b : Bool) → b ≡ true → None ≡ (if b then None else Some OutOfRange)
    go true is = refl
    go false is = absurd (cc (is))

-- one whose numbers are refused is refused, whatever its line says
pub out_refused : (credits : List Bool) (s : SliceState) (action : Action) (refusal : Refusal) → Some refusal ≡ range_refusal s action → Some refusal ≡ refused_under credits s action
out_refused credits s action refusal h = go (is_in_range s action) h
  where
    go : (b : Bool) → Some refusal ≡ (if b then None else Some OutOfRange) → Some refusal ≡ (if b then line_refusal (conditions_under credits s action) (line s action.line.0) action else Some OutOfRange)
    go true h = absurd (cc (h))
    go false h = h

-- an action that is in range, with its line out of its row, and what it has to know of the slice beside it
pub record Ready (s : SliceState) (credits : List Bool) (action : Action) (row : ℕ) (conditions : Conditions) (at : LineState) : Type 0 where
  pub kept : SliceKept s
  pub inside : is_in_range s action ≡ true
  pub row_is : row ≡ row_of_line s action.line.0
  pub conditions_is : conditions ≡ conditions_under credits s action
  pub line_is : at ≡ line s action.line.0

-- what was looked up in the slice as it is now, and read out of its parts
pub ready : {s : SliceState} {row : ℕ} {conditions : Conditions} {at : LineState} (now : SliceState) (credits : List Bool) (action : Action) → SliceKept s → s ≡ now → None ≡ range_refusal now action → row ≡ row_of_line now action.line.0
    → conditions ≡ conditions_under credits now action → at ≡ get_or s.lines row at → Ready s credits action row conditions at
ready {s} {row} {conditions} {at} now credits action k same inside row_is conditions_is read =
    subst (λ (v : SliceState). None ≡ range_refusal v action → row ≡ row_of_line v action.line.0 → conditions ≡ conditions_under credits v action → Ready s credits action row conditions at) same
    (λ inside row_is conditions_is.
    let here : is_in_range s action ≡ true = inside_of s action inside in
    let low : row < length s.lines = omega (arith, (in_range s action k here).row, k.rows, row_is) in
    record { kept = k; inside = here; row_is = row_is; conditions_is = conditions_is; line_is = get_or_read _ _ _ low read opening_line ∙ ap (line_in_row s) row_is })
    inside row_is conditions_is

-- the line keeps what a line keeps
pub line_kept : {s : SliceState} {credits : List Bool} {action : Action} {row : ℕ} {conditions : Conditions} {at : LineState} → Ready s credits action row conditions at → (last : List ℕ) × Kept last at
line_kept {s} {credits} {action} r = (last_of s action.line.0, subst (Kept (last_of s action.line.0)) (sym r.line_is) (r.kept.lines action.line.0 (in_range s action r.kept r.inside).line))

-- what refuses the action on its line refuses it
pub refused_here : {s : SliceState} {credits : List Bool} {action : Action} {row : ℕ} {conditions : Conditions} {at : LineState} → Ready s credits action row conditions at → line_refusal conditions at action ≡ refused_under credits s action
refused_here {s} {credits} {action} {row} {conditions} {at} r =
    ap (λ (x : Conditions). line_refusal x at action) r.conditions_is
    ∙ (ap (λ (l : LineState). line_refusal (conditions_under credits s action) l action) r.line_is
    ∙ ap (λ (b : Bool). if b then line_refusal (conditions_under credits s action) (line s action.line.0) action else Some OutOfRange) (sym r.inside))

pub refused_now : {now s : SliceState} {credits : List Bool} {action : Action} {row : ℕ} {conditions : Conditions} {at : LineState} → s ≡ now → Ready s credits action row conditions at → line_refusal conditions at action ≡ refused_under credits now action
refused_now {now} {s} {credits} {action} same r = refused_here r ∙ ap (λ (v : SliceState). refused_under credits v action) same

-- an action that its line doesn't refuse is allowed by the slice alone
pub allowed_here : {s : SliceState} {credits : List Bool} {action : Action} {row : ℕ} {conditions : Conditions} {at : LineState} → Ready s credits action row conditions at → None ≡ line_refusal conditions at action → Allowed s action
allowed_here {s} {credits} {action} r may = allowed s action (allowed_alone credits s action (sym (may ∙ refused_here r)))

-- the record of its effect is that of the action
entry_here : {s : SliceState} {credits : List Bool} {action : Action} {row : ℕ} {conditions : Conditions} {at : LineState} (effect : Effect) → Ready s credits action row conditions at → effect ≡ effect_of at action → record_by action effect ≡ entry_of s action
entry_here {s} {credits} {action} {row} {conditions} {at} effect r is = recorded_as at action effect is ∙ ap (λ (l : LineState). record_of l action) r.line_is

-- the journal has room for it
pub room_for : {s : SliceState} {credits : List Bool} {action : Action} {row : ℕ} {conditions : Conditions} {at : LineState} {effect : Effect} → Ready s credits action row conditions at → None ≡ line_refusal conditions at action → effect ≡ effect_of at action
    → CanAppend s.journal (record_by action effect)
room_for {s} {credits} {action} {row} {conditions} {at} {effect} r may is = subst (CanAppend s.journal) (sym (entry_here effect r is)) (entry_fits s action r.kept (allowed_here r may)).1

-- what the call on the line gives and leaves, where it isn't refused
pub record Call (conditions : Conditions) (action : Action) (at at' : LineState) (effect : Effect) : Type 0 where
  pub refusal : None ≡ line_refusal conditions at action
  pub effect_is : effect ≡ effect_of at action
  pub after_is : at' ≡ after conditions.profile at action
  pub flits : KeepsFlits conditions.profile at action at'

line_left : {s : SliceState} {credits : List Bool} {action : Action} {row : ℕ} {conditions : Conditions} {at at' : LineState} → at' ≡ after conditions.profile at action → Ready s credits action row conditions at
    → at' ≡ after s.config.profile (line s action.line.0) action
line_left {s} {credits} {action} {row} {conditions} {at} is r = is ∙ (ap (λ (x : Conditions). after x.profile at action) r.conditions_is ∙ ap (λ (l : LineState). after s.config.profile l action) r.line_is)

-- the line that it leaves, with the journal and its record, are what the action leaves
pub changed : {s : SliceState} {credits : List Bool} {action : Action} {row : ℕ} {conditions : Conditions} {at at' : LineState} {effect : Effect} (journal' : Log) → Ready s credits action row conditions at
    → Call conditions action at at' effect → journal' ≡ log_after s.journal (record_by action effect) → record s { lines = set s.lines row at'; journal = journal' } ≡ slice_after s action
changed {s} {credits} {action} {row} {conditions} {at} {at'} {effect} journal' r call noted =
    ap (λ (n : ℕ). record s { lines = set s.lines n at'; journal = journal' }) r.row_is
    ∙ (ap (λ (l : LineState). record s { lines = set s.lines (row_of_line s action.line.0) l; journal = journal' }) (line_left call.after_is r)
    ∙ ap (λ (log : Log). record s { lines = set s.lines (row_of_line s action.line.0) (after s.config.profile (line s action.line.0) action); journal = log }) (noted ∙ ap (log_after s.journal) (entry_here effect r call.effect_is)))

-- no flit is lost or made
pub balanced : {s : SliceState} {credits : List Bool} {action : Action} {row : ℕ} {conditions : Conditions} {at at' : LineState} {effect : Effect} → Ready s credits action row conditions at → Call conditions action at at' effect → KeepsSliceFlits s action (slice_after s action)
balanced {s} {credits} {action} {row} {conditions} {at} {at'} r call =
    let left : LineState = after s.config.profile (line s action.line.0) action in
    let there : at' ≡ line (slice_after s action) action.line.0 =
    line_left call.after_is r ∙ sym (line_in_row-with_line s (row_of_line s action.line.0) left (in_range s action r.kept r.inside).row r.kept) in
    subst (λ (x : Conditions). KeepsFlits x.profile (line s action.line.0) action (line (slice_after s action) action.line.0)) r.conditions_is
    (subst (λ (l : LineState). KeepsFlits conditions.profile l action (line (slice_after s action) action.line.0)) r.line_is
    (subst (KeepsFlits conditions.profile at action) there call.flits))
