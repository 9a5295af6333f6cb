-- What is known of each line of memory (docs/OBSERVER.md, "A trace of many lines").
use Rattle.std.specs.Prelude.{◌≡◌, ℕ, ◌==◌, ◌&&◌, ◌||◌, Bool, true, false, not, List, Option, Some, None, Result, Ok, Err, if◌then◌else◌, is_none, is_some, nat_eq, option_map, replicate, unwrap_or}
use Rattle.std.specs.List.{slice_index_or}
use Rattle.std.specs.Map.{lookup}
use Rattle.chi_flit.specs.declared.numbers.WordNo.{WordNo}
use Rattle.chi_trace.specs.declared.fields.NodeId.{NodeId}
use Rattle.chi_observer.specs.declared.flits.Act.{Act}
use Rattle.chi_observer.specs.declared.flits.Act.TheVariants.{Load}
use Rattle.chi_observer.specs.declared.flits.CacheFlit.{CacheFlit}
use Rattle.chi_observer.specs.declared.flits.Flit.{Flit}
use Rattle.chi_observer.specs.declared.flits.Flit.TheVariants.{Up, Down}
use Rattle.chi_observer.specs.declared.observer.Reason.TheVariants.{OtherWords}
use Rattle.chi_observer.specs.declared.wanted.Wanted.{Wanted}
use Rattle.chi_observer.specs.declared.wanted.Wanted.TheVariants as wants
use Rattle.chi_observer.specs.Counted.{may_tell}
use Rattle.chi_observer.specs.Wanted.{reads_home}
use Rattle.chi_ids.specs.declared.keys.CacheLine.{CacheLine}
use Rattle.chi_observe.specs.declared.ids.Later.{Later}
use Rattle.chi_observe.specs.declared.ids.Later.TheVariants as laters
use Rattle.chi_observe.specs.declared.lacking.Lacking.{Lacking}
use Rattle.chi_observe.specs.declared.lacking.Lacking.TheVariants as lacks
use Rattle.chi_observe.specs.declared.lines.LineSeen.{LineSeen}
use Rattle.chi_observe.specs.declared.lines.LineNews.{LineNews}
use Rattle.chi_observe.specs.declared.lines.LineNews.TheVariants as news
use Rattle.chi_observe.specs.declared.lines.LineStop.{LineStop}
use Rattle.chi_observe.specs.declared.lines.LineTold.{LineTold}
use Rattle.chi_observe.specs.declared.lines.LineStop.TheVariants.{Refused, NoMemory}
use Rattle.chi_observe.specs.declared.reasons.LineReason.{LineReason}
use Rattle.chi_observe.specs.declared.reasons.LineReason.TheVariants.{OtherHome, Rule}
use Rattle.chi_observe.specs.Judges.{Before, Judged, Verdict, holds, is_judge_reason, judged, keeps_store, opened_from, told_in, told_words, verdict, wanted_in, worded}
use Rattle.chi_observe.specs.Judges.Verdict.{Known, Faulty, LeftOpen}
use Rattle.chi_observe.specs.LateReasons.{LateReason, reason_in}
use Rattle.chi_observe.specs.Lacking.{is_known_lacking, is_data_lacking, is_none_lacking, lacking_shown, lacking_with, lacking_without, may_show, unknown_in}
use Rattle.chi_observe.specs.Words.{agrees, but_one, lacks_some, left_of, none_lack, with_known, words_with}
use Rattle.chi_observe.specs.Marks.{Marked, marked, marks_after, nothing_marked, shows_words, teller_of}

-- its home, whether it isn't judged any more, and why where a late flit set it aside, what data of it lack that come in beats,
-- and what its flits have told, and by which lines of the trace
pub record LineState : Type 0 where
  pub home : NodeId
  pub aside : Bool
  pub why : Option LateReason
  pub lacking : Lacking
  pub told : Judged
  pub marks : Marked

abbrev pub line_state : {A : Type 0} → LineSeen A → LineState
line_state seen = record { home = seen.home; aside = seen.aside; why = option_map reason_in seen.why; lacking = seen.lacking; told = judged seen.judge; marks = marked seen.marks }

-- a line that no flit has touched before the one with this number
abbrev pub opened_line : Before → ℕ → NodeId → LineState
opened_line before number home = record { home = home; aside = false; why = None; lacking = lacks.Nothing; told = opened_from before.log before.stores number; marks = nothing_marked number }

-- the lines that flits have touched
abbrev pub lines_in : {A : Type 0} → List (ℕ × LineSeen A) → ℕ → Option LineState
lines_in entries l = option_map line_state (lookup (nat_eq l) entries)

abbrev pub state_at : Before → (ℕ → Option LineState) → ℕ → CacheLine → NodeId → LineState
state_at before lines number line home = unwrap_or (lines line.0) (opened_line before number home)

abbrev pub put_line : CacheLine → LineState → (ℕ → Option LineState) → ℕ → Option LineState
put_line line state lines l = if line.0 == l then Some state else lines l

-- the home of its first flit
abbrev pub home_of : Option LineState → Option NodeId
home_of None = None
home_of (Some s) = Some s.home

-- it isn't judged any more
abbrev pub is_aside : Option LineState → Bool
is_aside None = false
is_aside (Some s) = s.aside

abbrev pub put_aside : LineState → LineState
put_aside s = record s { aside = true }

abbrev pub left_open : LateReason → LineState → LineState
left_open why s = record s { aside = true; why = Some why }

-- A line takes a flit of its home that is no fault, and any once it isn't judged; one that isn't judged, or leaves open what
-- it tells, sets it aside. A request that isn't told yet marks nothing.
abbrev pub is_passed : Verdict → Bool
is_passed Faulty = false
is_passed other = true

abbrev pub takes_flit : Before → LineState → NodeId → ℕ → Option Flit → Bool
takes_flit before s home number None = true
takes_flit before s home number (Some flit) = s.aside || (s.home.0 == home.0 && is_passed (verdict before number s.told flit))

abbrev pub marks_behind : Judged → ℕ → Flit → Marked → Marked
marks_behind told number flit marks = if holds told (teller_of flit).0 then marks else marks_after number flit (told_in told).seen.home marks

abbrev pub marked_next : LineState → ℕ → Flit → LineState
marked_next s number flit = record s { marks = marks_behind s.told number flit s.marks }

abbrev pub next_by : Verdict → LineState → ℕ → Flit → LineState
next_by (Known told) s number flit = marked_next (record s { told = told }) number flit
next_by (LeftOpen why) s number flit = left_open why s
next_by Faulty s number flit = s

abbrev pub flit_next : Before → LineState → ℕ → Option Flit → LineState
flit_next before s number None = put_aside s
flit_next before s number (Some flit) = if s.aside then s else next_by (verdict before number s.told flit) s number flit

-- Data that come in beats (docs/OBSERVER.md, "Data in beats") are told at their first one, where it is known what the words
-- that lack have to be, or where they may be any; else at their last one, and what comes between sets the line aside.
-- a flit's words, a load's in the place of each; the flit with other ones; and the words that a whole one lacks
abbrev pub shown_by : Act → List ℕ → List ℕ
shown_by (Load word) shown = replicate 8 word.value
shown_by act shown = shown

abbrev pub shown_words : Flit → List ℕ
shown_words (Up sent) = shown_by sent.act sent.shown
shown_words (Down given) = given.shown

abbrev pub word_in : List ℕ → WordNo → ℕ
word_in words place = slice_index_or words place.0 0

abbrev pub sent_with : CacheFlit → Act → List ℕ → Flit
sent_with sent (Load word) words = Up (record sent { act = Load (record word { value = word_in words word.place }) })
sent_with sent act words = Up (record sent { shown = words })

abbrev pub with_shown : Flit → List ℕ → Flit
with_shown (Up sent) words = sent_with sent sent.act words
with_shown (Down given) words = Down (record given { shown = words })

abbrev pub lacks_by : Act → List Bool
lacks_by (Load word) = but_one word.place.0
lacks_by act = none_lack

abbrev pub lacks_of : Flit → List Bool
lacks_of (Up sent) = lacks_by sent.act
lacks_of (Down given) = none_lack

-- the home sends it
abbrev pub is_given : Flit → Bool
is_given (Up sent) = false
is_given (Down given) = true

abbrev pub wanted_of : LineState → Flit → Wanted
wanted_of s flit = if s.aside then wants.Nothing else wanted_in s.told flit

abbrev pub is_wanted_known : Wanted → Bool
is_wanted_known wants.Known = true
is_wanted_known other = false

abbrev pub is_wanted_free : Wanted → Bool
is_wanted_free wants.Free = true
is_wanted_free other = false

-- A flit shows words that have to be the home's, and may; it shows some that lack so far; or it goes on by itself, whatever lacks.
abbrev pub shows_home : LineState → Flit → Bool
shows_home s flit = not s.aside && ((is_wanted_known (wanted_in s.told flit) || reads_home (told_in s.told) flit) && may_show s.lacking (is_given flit) (lacks_of flit))

abbrev pub showing_by : Lacking → LineState → Flit → Bool
showing_by (lacks.Words unknown others had) s flit = shows_home s flit
showing_by other s flit = false

abbrev pub is_showing : LineState → Option Flit → Bool
is_showing s None = false
is_showing s (Some flit) = showing_by s.lacking s flit

-- a load of a word that no flit has shown, which may tell of a store: the beat that lacks says what it may load
abbrev pub asks_lacking : LineState → Flit → List Bool → Bool
asks_lacking s flit unknown = may_tell (told_in s.told) flit && lacks_some (left_of unknown (lacks_of flit))

abbrev pub apart_of : Lacking → LineState → Flit → Bool
apart_of lacks.Nothing s flit = true
apart_of lacks.Data s flit = false
apart_of (lacks.Words unknown others had) s flit = (not (is_some (shows_words flit)) || is_wanted_free (wanted_of s flit)) && (not (keeps_store s.told flit) && not (asks_lacking s flit unknown))

abbrev pub is_apart : LineState → Option Flit → Bool
is_apart s None = true
is_apart s (Some flit) = apart_of s.lacking s flit

-- a flit as its line is told of it: with words that are known, or else the home's, in place of those that it lacks, and with
-- the home's in place of those that no flit has shown
abbrev pub home_or : LineState → Flit → List ℕ
home_or s flit = unwrap_or (told_in s.told).seen.home (shown_words flit)

abbrev pub presented : LineState → Flit → List Bool → Flit
presented s flit lacking = with_shown flit (words_with (words_with (shown_words flit) (with_known (told_words s.told flit) (home_or s flit)) lacking) (home_or s flit) (unknown_in s.lacking))

-- the home has the words that it is the first to show
abbrev pub refilled : Option (List ℕ) → LineState → Flit → List Bool → LineState
refilled None s flit lacking = s
refilled (Some home) s flit lacking = record s { told = worded (words_with home (shown_words flit) (left_of (unknown_in s.lacking) lacking)) s.told }

abbrev pub shown_more : LineState → Flit → List Bool → LineState
shown_more s flit lacking = refilled (told_in s.told).seen.home s flit lacking

abbrev pub marked_words : ℕ → LineState → LineState
marked_words number s = record s { marks = record s.marks { words = number } }

abbrev pub shown_next : Before → LineState → ℕ → Flit → List Bool → Lacking → LineState
shown_next before s number flit words lacking = marked_words number (record (shown_more (flit_next before s number (Some (presented s flit words))) flit words) { lacking = lacking })

-- what the words of data are known to be at their first beat, and what the later ones are then
abbrev pub early_by : Wanted → LineState → Flit → List Bool → Option (Later × List ℕ)
early_by wants.Free s flit lacking = Some (laters.Free, shown_words flit)
early_by wants.Known s flit lacking = if is_known_lacking s.lacking then option_map (λ home. (laters.Held, words_with (shown_words flit) home lacking)) (told_in s.told).seen.home else None
early_by other s flit lacking = None

abbrev pub early_of : LineState → Flit → List Bool → Option (Later × List ℕ)
early_of s flit lacking = early_by (wanted_of s flit) s flit lacking

-- what a line takes: a flit between beats or not, the first beat of data, and the last one
abbrev pub takes_between : Before → LineState → NodeId → ℕ → Option Flit → Bool
takes_between before s home number None = true
takes_between before s home number (Some flit) =
    if is_showing s (Some flit) then takes_flit before s home number (Some (presented s flit (lacks_of flit)))
    else not (is_apart s (Some flit)) || takes_flit before s home number (Some flit)

abbrev pub takes_begun : Option Lacking → Before → LineState → NodeId → ℕ → Flit → Bool
takes_begun None before s home number flit = true
takes_begun (Some lacking) before s home number flit = takes_flit before s home number (Some flit)

abbrev pub takes_last : LineState → Option Flit → Bool
takes_last s None = true
takes_last s (Some flit) = s.aside || agrees (unknown_in s.lacking) (told_in s.told).seen.home (shown_words flit)

abbrev pub takes_ended : Lacking → Before → LineState → NodeId → ℕ → Option Flit → Bool
takes_ended (lacks.Words unknown others had) before s home number flit = takes_last s flit
takes_ended other before s home number flit = takes_flit before s home number flit

unfoldable pub takes_line : Before → LineState → NodeId → ℕ → LineNews → Bool
takes_line before s home number (news.Flit flit) = takes_between before s home number flit
takes_line before s home number (news.Early flit) = takes_between before s home number (Some flit)
takes_line before s home number (news.Begun flit lacking) = takes_begun (lacking_with s.lacking (wanted_of s flit) (is_given flit) lacking (told_words s.told flit)) before s home number (presented s flit lacking)
takes_line before s home number (news.Ended flit) = takes_ended s.lacking before s home number flit
takes_line before s home number (news.Held same) = s.aside || same
takes_line before s home number news.Nothing = true

-- and what it is then
abbrev pub between_next : Before → LineState → ℕ → Option Flit → LineState
between_next before s number None = put_aside s
between_next before s number (Some flit) =
    if is_showing s (Some flit) then shown_next before s number flit (lacks_of flit) (lacking_shown s.lacking (lacks_of flit))
    else if is_apart s (Some flit) then flit_next before s number (Some flit) else put_aside s

abbrev pub early_next : Before → LineState → ℕ → Flit → LineState
early_next before s number flit = marked_words s.marks.words (between_next before s number (Some flit))

abbrev pub held_next : LineState → LineState
held_next s = record s { aside = s.aside || not (is_none_lacking s.lacking); lacking = lacks.Data }

abbrev pub begun_next : Option Lacking → Before → LineState → ℕ → Flit → List Bool → LineState
begun_next None before s number flit words = held_next s
begun_next (Some lacking) before s number flit words = shown_next before s number flit words lacking

abbrev pub told_next : Before → LineState → ℕ → Option Flit → LineState
told_next before s number flit = record (flit_next before s number flit) { lacking = lacks.Nothing }

abbrev pub last_next : LineState → ℕ → Option Flit → LineState
last_next s number None = record (put_aside s) { lacking = lacking_without s.lacking }
last_next s number (Some flit) =
    if s.aside then record s { lacking = lacking_without s.lacking }
    else record s { told = worded (shown_words flit) s.told; marks = record s.marks { words = number }; lacking = lacking_without s.lacking }

abbrev pub ended_next : Lacking → Before → LineState → ℕ → Option Flit → LineState
ended_next (lacks.Words unknown others had) before s number flit = last_next s number flit
ended_next other before s number flit = told_next before s number flit

unfoldable pub line_next : Before → LineState → ℕ → LineNews → LineState
line_next before s number (news.Flit flit) = between_next before s number flit
line_next before s number (news.Early flit) = early_next before s number flit
line_next before s number (news.Begun flit lacking) = begun_next (lacking_with s.lacking (wanted_of s flit) (is_given flit) lacking (told_words s.told flit)) before s number flit lacking
line_next before s number (news.Ended flit) = ended_next s.lacking before s number flit
line_next before s number (news.Held same) = s
line_next before s number news.Nothing = s

-- it was judged so far, and isn't any more
abbrev pub is_put_aside : LineState → LineState → Bool
is_put_aside old new = new.aside && not old.aside

-- what came of telling it: of its first flit, or of a further one
abbrev pub told_as : Bool → LineState → LineState → LineTold
told_as fresh old new = record { fresh = fresh; aside = is_put_aside old new; judged = not new.aside; lacked = old.lacking }

abbrev pub had_lacking : LineTold → Bool
had_lacking told = not (is_none_lacking told.lacked)

-- it set the line aside while data of it lacked words without which the line wasn't told of them
abbrev pub forgets_data : LineTold → Bool
forgets_data told = told.aside && is_data_lacking told.lacked

-- which reasons hold
abbrev pub is_flit_reason : Before → LineState → NodeId → Option Flit → LineReason → Bool
is_flit_reason before s home None reason = false
is_flit_reason before s home (Some flit) (OtherHome other) = not (s.home.0 == home.0)
is_flit_reason before s home (Some flit) (Rule reason) = is_judge_reason before s.told flit reason

abbrev pub is_between_reason : Before → LineState → NodeId → Option Flit → LineReason → Bool
is_between_reason before s home None reason = false
is_between_reason before s home (Some flit) reason = is_flit_reason before s home (if is_showing s (Some flit) then Some (presented s flit (lacks_of flit)) else Some flit) reason

abbrev pub is_begun_reason : Option Lacking → Before → LineState → NodeId → Flit → LineReason → Bool
is_begun_reason None before s home flit reason = false
is_begun_reason (Some lacking) before s home flit reason = is_flit_reason before s home (Some flit) reason

abbrev pub is_words_reason : LineReason → Bool
is_words_reason (Rule OtherWords) = true
is_words_reason other = false

abbrev pub is_ended_reason : Lacking → Before → LineState → NodeId → Option Flit → LineReason → Bool
is_ended_reason (lacks.Words unknown others had) before s home flit reason = is_words_reason reason
is_ended_reason other before s home flit reason = is_flit_reason before s home flit reason

unfoldable pub is_line_reason : Before → LineState → NodeId → LineNews → LineReason → Bool
is_line_reason before s home (news.Flit flit) reason = is_between_reason before s home flit reason
is_line_reason before s home (news.Early flit) reason = is_between_reason before s home (Some flit) reason
is_line_reason before s home (news.Begun flit lacking) reason = is_begun_reason (lacking_with s.lacking (wanted_of s flit) (is_given flit) lacking (told_words s.told flit)) before s home (presented s flit lacking) reason
is_line_reason before s home (news.Ended flit) reason = is_ended_reason s.lacking before s home flit reason
is_line_reason before s home (news.Held same) reason = is_words_reason reason
is_line_reason before s home news.Nothing reason = false

-- a line is told of something that it takes, and is the next one then; or it doesn't take it, for a reason that holds, and
-- nothing has changed
pub record IsNext (takes : Bool) (next new : LineState) : Type 0 where
  pub taken : takes ≡ true
  pub after : new ≡ next

pub record IsKept (takes : Bool) (reasons : LineReason → Bool) (old new : LineState) (reason : LineReason) : Type 0 where
  pub refused : takes ≡ false
  pub holds : reasons reason ≡ true
  pub kept : new ≡ old

abbrev pub IsNextOrKept : {A : Type 0} → Bool → (LineReason → Bool) → (old next new : LineState) → Result A LineStop → Type 0
IsNextOrKept takes reasons old next new (Ok done) = IsNext takes next new
IsNextOrKept takes reasons old next new (Err (Refused reason)) = IsKept takes reasons old new reason
IsNextOrKept takes reasons old next new (Err NoMemory) = Unit {0}

-- so of a flit with this number, of the beats of data, and of what a line is told
abbrev pub IsFlitTold : {A : Type 0} → Before → (old new : LineState) → ℕ → NodeId → Option Flit → Result A LineStop → Type 0
IsFlitTold before old new number home flit result = IsNextOrKept (takes_flit before old home number flit) (is_flit_reason before old home flit) old (flit_next before old number flit) new result

abbrev pub IsShownTold : {A : Type 0} → Before → (old new : LineState) → ℕ → NodeId → Flit → List Bool → Lacking → Result A LineStop → Type 0
IsShownTold before old new number home flit words lacking result =
    IsNextOrKept (takes_flit before old home number (Some (presented old flit words))) (is_flit_reason before old home (Some (presented old flit words))) old (shown_next before old number flit words lacking) new result

abbrev pub IsBetweenTold : {A : Type 0} → Before → (old new : LineState) → ℕ → NodeId → Option Flit → Result A LineStop → Type 0
IsBetweenTold before old new number home flit result = IsNextOrKept (takes_between before old home number flit) (is_between_reason before old home flit) old (between_next before old number flit) new result

abbrev pub IsEarlyTold : {A : Type 0} → Before → (old new : LineState) → ℕ → NodeId → Flit → Result A LineStop → Type 0
IsEarlyTold before old new number home flit result = IsNextOrKept (takes_between before old home number (Some flit)) (is_between_reason before old home (Some flit)) old (early_next before old number flit) new result

abbrev pub IsBegunTold : {A : Type 0} → Before → (old new : LineState) → ℕ → NodeId → Flit → List Bool → Result A LineStop → Type 0
IsBegunTold before old new number home flit words result =
    IsNextOrKept (takes_begun (lacking_with old.lacking (wanted_of old flit) (is_given flit) words (told_words old.told flit)) before old home number (presented old flit words)) (is_begun_reason (lacking_with old.lacking (wanted_of old flit) (is_given flit) words (told_words old.told flit)) before old home (presented old flit words)) old
    (begun_next (lacking_with old.lacking (wanted_of old flit) (is_given flit) words (told_words old.told flit)) before old number flit words) new result

abbrev pub IsHeldTold : {A : Type 0} → Before → (old new : LineState) → ℕ → NodeId → Option Flit → Result A LineStop → Type 0
IsHeldTold before old new number home flit result = IsNextOrKept (takes_flit before old home number flit) (is_flit_reason before old home flit) old (told_next before old number flit) new result

abbrev pub IsLastTold : {A : Type 0} → (old new : LineState) → ℕ → Option Flit → Result A LineStop → Type 0
IsLastTold old new number flit result = IsNextOrKept (takes_last old flit) is_words_reason old (last_next old number flit) new result

abbrev pub IsHoldTold : {A : Type 0} → LineState → Bool → Result A LineStop → Type 0
IsHoldTold s same result = IsNextOrKept (s.aside || same) is_words_reason s s s result

abbrev pub IsEndTold : {A : Type 0} → Before → (old new : LineState) → ℕ → NodeId → Option Flit → Result A LineStop → Type 0
IsEndTold before old new number home flit result = IsNextOrKept (takes_ended old.lacking before old home number flit) (is_ended_reason old.lacking before old home flit) old (ended_next old.lacking before old number flit) new result

abbrev pub IsLineTold : {A : Type 0} → Before → (old new : LineState) → ℕ → NodeId → LineNews → Result A LineStop → Type 0
IsLineTold before old new number home told result = IsNextOrKept (takes_line before old home number told) (is_line_reason before old home told) old (line_next before old number told) new result

-- so among all lines
pub record IsTaken (before : Before) (old new : ℕ → Option LineState) (number : ℕ) (line : CacheLine) (home : NodeId) (told : LineNews) (done : LineTold) : Type 0 where
  pub is : done ≡ told_as (is_none (old line.0)) (state_at before old number line home) (line_next before (state_at before old number line home) number told)
  pub taken : takes_line before (state_at before old number line home) home number told ≡ true
  pub after : new ≡ put_line line (line_next before (state_at before old number line home) number told) old

pub record IsRefused (before : Before) (old new : ℕ → Option LineState) (number : ℕ) (line : CacheLine) (home : NodeId) (told : LineNews) (reason : LineReason) : Type 0 where
  pub refused : takes_line before (state_at before old number line home) home number told ≡ false
  pub holds : is_line_reason before (state_at before old number line home) home told reason ≡ true
  pub kept : new ≡ old

abbrev pub IsTold : Before → (old new : ℕ → Option LineState) → ℕ → CacheLine → NodeId → LineNews → Result LineTold LineStop → Type 0
IsTold before old new number line home told (Ok done) = IsTaken before old new number line home told done
IsTold before old new number line home told (Err (Refused reason)) = IsRefused before old new number line home told reason
IsTold before old new number line home told (Err NoMemory) = Unit {0}
