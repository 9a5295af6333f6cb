-- A requester agrees with a slice through an action on the slice and the account's part of it.
use Rattle.std.proofs.Common.{◌≡◌, ◌≢◌, ℕ, ◌<◌, ◌%◌, List, Bool, true, false, ◌==◌, nat_lt, Option, Some, None, is_some, length, slice_set, cond, refl, sym, ◌∙◌, ap, subst, subst₂, arith, ⊎_elim, get_or-set_same, get_or-set_other, ◌++◌, ◌∷◌, []}
use Rattle.std.proofs.lemmas.Bool.{cases_eq}
use Rattle.std.specs.Prelude.{slice_index}
use Rattle.chi_flit.specs.declared.numbers.Agent.{Agent}
use Rattle.chi_flit.specs.declared.numbers.Line.{Line}
use Rattle.chi_flit.specs.declared.numbers.Slot.{Slot}
use Rattle.chi_flit.specs.declared.action.Action.{Action}
use Rattle.chi_flit.specs.declared.action.Step.{Step}
use Rattle.chi_flit.specs.declared.action.Step.TheVariants as steps
use Rattle.chi_flit.specs.declared.credit.Profile.{Profile}
use Rattle.chi_slice.specs.Words.{after_step, counted, is_of_type, is_slot, issued_slot, keeps_records, most_counted, moved_slot, moved_to, part_count, part_of, record_agent, record_of, IsLegalLog, LineState, Log, Record, Position}
use Rattle.chi_slice.proofs.Passed.{Moved, part_count_with, part_with, with_record}
use Rattle.chi_slice.proofs.Rows.{in_limits}
use Rattle.chi_slice.specs.Slice.{SliceKept, SliceState, slice_after, is_line_in_range, line, log_after, row_of_line}
use Rattle.chi_slice.proofs.Rows.{both, row_in_slice, rows_apart}
use Rattle.chi_slice.proofs.Slices.{line_in_row-with_line, line_in_row-with_other}
use Rattle.chi_credit.specs.declared.slot.SlotRecord.{SlotRecord}
use Rattle.chi_credit.specs.Slot.{idle_slot}
use Rattle.chi_credit.specs.Account.{slot_record_at}
use Rattle.chi_node.specs.Requester.{RequesterState}
use Rattle.chi_node.specs.Calls.{CountsStep}
use Rattle.chi_node.specs.Agree.{Agree, KeepsAgreement, MatchesRecord, ShowsRecord, position_of_record}
use Rattle.chi_node.proofs.Matches.{apart}
use Rattle.chi_node.proofs.Records.{OnlyAt}

same : (a b : ℕ) → a ≡ b → (a == b) ≡ true
same a b h = grind arith

-- the line of an action, before it and after
abbrev pub action_of : Agent → Line → Step → Action
action_of agent l step = record { agent = agent; line = l; step = step }

abbrev pub left_line : SliceState → Agent → Line → Step → LineState
left_line s agent l step = after_step s.config.profile (line s l.0) agent step

left_here : (s : SliceState) (agent : Agent) (l : Line) (step : Step) → SliceKept s → is_line_in_range s l.0 ≡ true → line (slice_after s (action_of agent l step)) l.0 ≡ left_line s agent l step
left_here s agent l step k here = line_in_row-with_line s (row_of_line s l.0) (left_line s agent l step) (row_in_slice s l.0 k here) k

left_there : (s : SliceState) (agent : Agent) (l : Line) (step : Step) (other : ℕ) → SliceKept s → is_line_in_range s l.0 ≡ true → is_line_in_range s other ≡ true → other ≢ l.0 → line (slice_after s (action_of agent l step)) other ≡ line s other
left_there s agent l step other k here there away = line_in_row-with_other s (row_of_line s l.0) (row_of_line s other) (left_line s agent l step) (rows_apart s l.0 other k here there away)

-- what a change of an agent's slot has to meet: of the action's line the new record says what the line shows
-- then, and of other lines it says what the old one said
pub record Follows (profile : Profile) (left : LineState) (l n : ℕ) (slot : Slot) (x y : SlotRecord) : Type 0 where
  pub here : ShowsRecord profile left n slot y l
  pub there : (other : ℕ) → other ≢ l → position_of_record y other ≡ position_of_record x other
  pub credit : (other : ℕ) (at : Position) → other ≢ l → position_of_record x other ≡ Some at → y.credit ≡ x.credit

shows_still : (profile left_profile : Profile) (z left : LineState) (l n other : ℕ) (slot : Slot) (x y : SlotRecord) → other ≢ l → Follows left_profile left l n slot x y → ShowsRecord profile z n slot x other → ShowsRecord profile z n slot y other
shows_still profile left_profile z left l n other slot x y away f old = record {
  place = old.place ∙ sym (f.there other away);
  type = λ at is. subst (λ ty. is_of_type profile ty z n slot ≡ true) (sym (f.credit other at away (sym old.place ∙ is))) (old.type at is);
}

matches_acted : (s : SliceState) (agent : Agent) (l : Line) (step : Step) (n : ℕ) (slot : Slot) (x y : SlotRecord) → SliceKept s → is_line_in_range s l.0 ≡ true
    → MatchesRecord s n slot x → Follows s.config.profile (left_line s agent l step) l.0 n slot x y → MatchesRecord (slice_after s (action_of agent l step)) n slot y
matches_acted s agent l step n slot x y k here t f = record {
  lines = λ other inside. ⊎_elim
      (λ (e : other ≡ l.0). subst₂ (λ (z : LineState) (j : ℕ). ShowsRecord s.config.profile z n slot y j) (sym (ap (line (slice_after s (action_of agent l step))) e ∙ left_here s agent l step k here)) (sym e) f.here)
      (λ (away : other ≢ l.0). subst (λ (z : LineState). ShowsRecord s.config.profile z n slot y other) (sym (left_there s agent l step other k here inside away))
      (shows_still s.config.profile s.config.profile (line s other) (left_line s agent l step) l.0 n other slot x y away f (t.lines other inside)))
      (cases_eq other l.0);
}

line_index : (s : SliceState) (l : ℕ) → is_line_in_range s l ≡ true → l % s.config.slices ≡ s.index
line_index s l here = let h : (l % s.config.slices == s.index) ≡ true = (both (nat_lt l s.config.lines) (l % s.config.slices == s.index) here).1 in grind (arith, h)

other_lines : (s t : SliceState) (l other : ℕ) → t.config ≡ s.config → t.index ≢ s.index → is_line_in_range s l ≡ true → is_line_in_range t other ≡ true → other ≢ l
other_lines s t l other config apart here there e =
    let a : l % s.config.slices ≡ s.index = line_index s l here in
    let b : other % t.config.slices ≡ t.index = line_index t other there in
    apart (sym b ∙ (ap (λ c. other % c.slices) config ∙ (ap (λ (j : ℕ). j % s.config.slices) e ∙ a)))

-- a slot of the action's agent, and all eight
abbrev pub FollowsAt : SliceState → Agent → Line → Step → Slot → SlotRecord → SlotRecord → Type 0
FollowsAt s agent l step slot x y = Follows s.config.profile (left_line s agent l step) l.0 agent.0 slot x y

pub record AllFollow (s : SliceState) (agent : Agent) (l : Line) (step : Step) (slots slots' : List SlotRecord) : Type 0 where
  pub each : (slot : Slot) → slot.0 < 8 → FollowsAt s agent l step slot (slot_record_at slots slot.0) (slot_record_at slots' slot.0)

-- a slot that the step doesn't move
not_issued : (s : LineState) (agent : Agent) (step : Step) (slot : Slot) → is_slot (moved_slot s agent step) slot ≡ false → is_slot (issued_slot step) slot ≡ false
not_issued s agent (steps.Load word) slot h = refl
not_issued s agent (steps.Issue kind own) slot h = h
not_issued s agent other slot h = refl

stays : (s : SliceState) (agent : Agent) (l : Line) (step : Step) (slot : Slot) (x : SlotRecord) → is_line_in_range s l.0 ≡ true → Moved s.config.profile (line s l.0) agent step
    → is_slot (moved_slot (line s l.0) agent step) slot ≡ false → MatchesRecord s agent.0 slot x → Follows s.config.profile (left_line s agent l step) l.0 agent.0 slot x x
stays s agent l step slot x here m other t = let own = t.lines l.0 here in record {
  here = record { place = m.stay slot other ∙ own.place; type = λ at is. m.types slot x.credit (not_issued (line s l.0) agent step slot other) (own.type at (sym (m.stay slot other) ∙ is)) };
  there = λ other_line away. refl;
  credit = λ other_line at away is. refl;
}

-- one that it moves
pub moves_to : (s : SliceState) (agent : Agent) (l : Line) (step : Step) (slot : Slot) (x y : SlotRecord) → Moved s.config.profile (line s l.0) agent step
    → is_slot (moved_slot (line s l.0) agent step) slot ≡ true → OnlyAt l.0 x → OnlyAt l.0 y → position_of_record y l.0 ≡ moved_to (line s l.0) agent step
    → ((at : Position) → moved_to (line s l.0) agent step ≡ Some at → is_of_type s.config.profile y.credit (left_line s agent l step) agent.0 slot ≡ true)
    → Follows s.config.profile (left_line s agent l step) l.0 agent.0 slot x y
moves_to s agent l step slot x y m own before after to type = record {
  here = record { place = m.left slot own ∙ sym to; type = λ at is. type at (sym (m.left slot own) ∙ is) };
  there = λ other away. after.nothing other away ∙ sym (before.nothing other away);
  credit = λ other at away is. absurd (nothing_there other at away is);
}
  where
    nothing_there : (other : ℕ) (at : Position) → other ≢ l.0 → position_of_record x other ≡ Some at → ⊥
    nothing_there other at away is = let none : position_of_record x other ≡ None = before.nothing other away in cc (none, is)

-- all slots, where none moves
pub none_moves : (s : SliceState) (agent : Agent) (l : Line) (step : Step) (slots : List SlotRecord) → is_line_in_range s l.0 ≡ true → Moved s.config.profile (line s l.0) agent step
    → moved_slot (line s l.0) agent step ≡ None → ((slot : Slot) → slot.0 < 8 → MatchesRecord s agent.0 slot (slot_record_at slots slot.0)) → AllFollow s agent l step slots slots
none_moves s agent l step slots here m none matching = record {
  each = λ slot low. stays s agent l step slot (slot_record_at slots slot.0) here m (ap (λ (o : Option Slot). is_slot o slot) none) (matching slot low);
}

-- and where one does
pub one_moves : (s : SliceState) (agent : Agent) (l : Line) (step : Step) (slots : List SlotRecord) (own : Slot) (y : SlotRecord) → length slots ≡ 8 → is_line_in_range s l.0 ≡ true → Moved s.config.profile (line s l.0) agent step
    → moved_slot (line s l.0) agent step ≡ Some own → ((slot : Slot) → slot.0 < 8 → MatchesRecord s agent.0 slot (slot_record_at slots slot.0))
    → Follows s.config.profile (left_line s agent l step) l.0 agent.0 own (slot_record_at slots own.0) y → AllFollow s agent l step slots (slice_set slots own.0 y)
one_moves s agent l step slots own y eight here m is matching f = record {
  each = λ slot low. ⊎_elim
      (λ (e : slot.0 ≡ own.0). subst (λ (z : Slot). FollowsAt s agent l step z (slot_record_at slots z.0) (slot_record_at (slice_set slots own.0 y) z.0)) (sym (λ i. record { 0 = e i }))
      (subst (FollowsAt s agent l step own (slot_record_at slots own.0)) (sym (get_or-set_same slots own.0 y idle_slot (omega arith))) f))
      (λ away. subst (FollowsAt s agent l step slot (slot_record_at slots slot.0)) (sym (get_or-set_other slots own.0 slot.0 y idle_slot away))
      (stays s agent l step slot (slot_record_at slots slot.0) here m (ap (λ (o : Option Slot). is_slot o slot) is ∙ apart own.0 slot.0 (λ e. away (sym e))) (matching slot low)))
      (cases_eq slot.0 own.0);
}

-- the counts of a requester that did the step: one more where there is a record
pub record CountsFollow (s : SliceState) (entry : Option Record) (counts counts' : List ℕ) : Type 0 where
  pub here : slice_index counts' s.index ≡ cond (is_some entry) (counted (slice_index counts s.index)) (slice_index counts s.index)
  pub there : (other : ℕ) → other ≢ s.index → slice_index counts' other ≡ slice_index counts other

-- a record of the agent is one more of its part, and none of others'
few_records : (s : SliceState) → SliceKept s → s.journal.limit < most_counted
few_records s k = omega (arith, k.journal_limit, (in_limits s.config k.config).journal)

part_own : (s : SliceState) (n : ℕ) (entry : Option Record) → SliceKept s → n < 8 → ((e : Record) → entry ≡ Some e → (record_agent e).0 ≡ n)
    → part_count (log_after s.journal entry) n ≡ cond (is_some entry) (counted (part_count s.journal n)) (part_count s.journal n)
part_own s n None k low own = refl
part_own s n (Some e) k low own =
    part_count_with s.journal e n k.journal (few_records s k) (subst (λ (z : ℕ). z < 8) (sym (own e refl)) low)
    ∙ ap (λ (b : Bool). cond b (counted (part_count s.journal n)) (part_count s.journal n)) (same (record_agent e).0 n (own e refl))

part_other : (s : SliceState) (n : ℕ) (entry : Option Record) → SliceKept s → ((e : Record) → entry ≡ Some e → (record_agent e).0 < 8) → ((e : Record) → entry ≡ Some e → (record_agent e).0 ≢ n) → part_count (log_after s.journal entry) n ≡ part_count s.journal n
part_other s n None k low other = refl
part_other s n (Some e) k low other =
    part_count_with s.journal e n k.journal (few_records s k) (low e refl)
    ∙ ap (λ (b : Bool). cond b (counted (part_count s.journal n)) (part_count s.journal n)) (apart (record_agent e).0 n (other e refl))

abbrev agent_in : Agent → Option Record → Agent
agent_in agent None = agent
agent_in agent (Some x) = record_agent x

record_own : (s : LineState) (agent : Agent) (l : Line) (step : Step) (e : Record) → record_of s (action_of agent l step) ≡ Some e → record_agent e ≡ agent
record_own s agent l (steps.Load word) e is = ap (agent_in agent) (sym is)
record_own s agent l (steps.Store word value) e is = ap (agent_in agent) (sym is)
record_own s agent l other e is = absurd (cc (is))

-- what a step leaves of its requester
pub record OwnFollows (s : SliceState) (agent : Agent) (l : Line) (step : Step) (r r' : RequesterState) : Type 0 where
  pub number : r'.number ≡ r.number
  pub slots : AllFollow s agent l step r.slots r'.slots
  pub counts : CountsFollow s (record_of (line s l.0) (action_of agent l step)) r.counts r'.counts

own_after : (s : SliceState) (agent : Agent) (l : Line) (step : Step) (r r' : RequesterState) → SliceKept s → agent.0 < 8 → is_line_in_range s l.0 ≡ true → agent.0 ≡ r.number → OwnFollows s agent l step r r' → Agree s r → Agree (slice_after s (action_of agent l step)) r'
own_after s agent l step r r' k low_agent here own f a = record {
  slots = λ slot low. subst (λ (n : ℕ). MatchesRecord (slice_after s (action_of agent l step)) n slot (slot_record_at r'.slots slot.0)) (own ∙ sym f.number)
      (matches_acted s agent l step agent.0 slot (slot_record_at r.slots slot.0) (slot_record_at r'.slots slot.0) k here (subst (λ (n : ℕ). MatchesRecord s n slot (slot_record_at r.slots slot.0)) (sym own) (a.slots slot low)) (f.slots.each slot low));
  count = f.counts.here
      ∙ (ap (λ (c : ℕ). cond (is_some entry) (counted c) c) a.count
      ∙ (sym (part_own s r.number entry k (subst (λ (n : ℕ). n < 8) own low_agent) (λ e is. ap (λ (z : Agent). z.0) (record_own (line s l.0) agent l step e is) ∙ own))
      ∙ ap (λ (n : ℕ). part_count (log_after s.journal entry) n) (sym f.number)));
}
  where
    entry : Option Record
    entry = record_of (line s l.0) (action_of agent l step)

other_after : (s : SliceState) (agent : Agent) (l : Line) (step : Step) (m : RequesterState) → SliceKept s → agent.0 < 8 → is_line_in_range s l.0 ≡ true → Moved s.config.profile (line s l.0) agent step
    → m.number < 8 → m.number ≢ agent.0 → Agree s m → Agree (slice_after s (action_of agent l step)) m
other_after s agent l step m k low_agent here moves low other a = record {
  slots = λ slot inside.
      let own = (a.slots slot inside).lines l.0 here in
      matches_acted s agent l step m.number slot (slot_record_at m.slots slot.0) (slot_record_at m.slots slot.0) k here (a.slots slot inside) (record {
        here = record { place = moves.others m.number slot low other ∙ own.place; type = λ at is. moves.other_types m.number slot (slot_record_at m.slots slot.0).credit low other (own.type at (sym (moves.others m.number slot low other) ∙ is)) };
        there = λ elsewhere away. refl;
        credit = λ elsewhere at away is. refl;
      });
  count = a.count ∙ sym (part_other s m.number (record_of (line s l.0) (action_of agent l step)) k (λ e is. subst (λ (z : Agent). z.0 < 8) (sym (record_own (line s l.0) agent l step e is)) low_agent) (λ e is same. other (sym same ∙ ap (λ (z : Agent). z.0) (record_own (line s l.0) agent l step e is))));
}

elsewhere_after : (s t : SliceState) (agent : Agent) (l : Line) (step : Step) (r r' : RequesterState) → is_line_in_range s l.0 ≡ true → agent.0 ≡ r.number → t.config ≡ s.config → t.index ≢ s.index → OwnFollows s agent l step r r' → Agree t r → Agree t r'
elsewhere_after s t agent l step r r' here own config apart f a = record {
  slots = λ slot low. subst (λ (n : ℕ). MatchesRecord t n slot (slot_record_at r'.slots slot.0)) (own ∙ sym f.number)
      (record {
        lines = λ other there. shows_still t.config.profile s.config.profile (line t other) (left_line s agent l step) l.0 agent.0 other slot (slot_record_at r.slots slot.0) (slot_record_at r'.slots slot.0) (other_lines s t l.0 other config apart here there) (f.slots.each slot low)
            (subst (λ (n : ℕ). ShowsRecord t.config.profile (line t other) n slot (slot_record_at r.slots slot.0) other) (sym own) ((a.slots slot low).lines other there));
      });
  count = f.counts.there t.index apart ∙ (a.count ∙ ap (λ (n : ℕ). part_count t.journal n) (sym f.number));
}

-- agreement through a step that isn't refused
pub keeps : (s : SliceState) (agent : Agent) (l : Line) (step : Step) (r r' : RequesterState) → SliceKept s → agent.0 < 8 → is_line_in_range s l.0 ≡ true → Moved s.config.profile (line s l.0) agent step → agent.0 ≡ r.number
    → OwnFollows s agent l step r r' → KeepsAgreement s (slice_after s (action_of agent l step)) r r'
keeps s agent l step r r' k low_agent here moves own f = record {
  own = own_after s agent l step r r' k low_agent here own f;
  others = λ m low other a. other_after s agent l step m k low_agent here moves low (λ (e : m.number ≡ agent.0). other (e ∙ own)) a;
  elsewhere = λ t config apart a. elsewhere_after s t agent l step r r' here own config apart f a;
}

-- the history of a step
part_last : (s : SliceState) (n : ℕ) (entry : Record) → keeps_records s.journal ≡ true → (record_agent entry).0 ≡ n → part_of (log_after s.journal (Some entry)).entries n ≡ part_of s.journal.entries n ++ entry ∷ []
part_last s n entry keeping own =
    ap (λ (log : Log). part_of log.entries n) (with_record s.journal entry keeping)
    ∙ (part_with s.journal.entries entry n ∙ ap (λ (b : Bool). part_of s.journal.entries n ++ cond b (entry ∷ []) []) (same (record_agent entry).0 n own))

pub counts_step : (s : SliceState) (agent : Agent) (l : Line) (step : Step) (r r' : RequesterState) → SliceKept s → agent.0 < 8 → is_line_in_range s l.0 ≡ true → agent.0 ≡ r.number
    → OwnFollows s agent l step r r' → Agree s r → IsLegalLog (slice_after s (action_of agent l step)).journal → CountsStep s (slice_after s (action_of agent l step)) (action_of agent l step) r r'
counts_step s agent l step r r' k low_agent here own f a legal = record {
  part = λ keeping entry is. ap (λ (o : Option Record). part_of (log_after s.journal o).entries r.number) is ∙ part_last s r.number entry keeping (ap (λ (z : Agent). z.0) (record_own (line s l.0) agent l step entry is) ∙ own);
  counted = λ entry is. f.counts.here ∙ ap (λ (o : Option Record). cond (is_some o) (counted (slice_index r.counts s.index)) (slice_index r.counts s.index)) is;
  uncounted = λ is. f.counts.here ∙ ap (λ (o : Option Record). cond (is_some o) (counted (slice_index r.counts s.index)) (slice_index r.counts s.index)) is;
  place = (own_after s agent l step r r' k low_agent here own f a).count ∙ ap (λ (n : ℕ). part_count (slice_after s (action_of agent l step)).journal n) f.number;
  others = f.counts.there;
  legal = legal;
}
