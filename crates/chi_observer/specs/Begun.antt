-- A line whose trace begins in the middle (docs/OBSERVER.md, "A trace that begins in the middle").
use Rattle.std.specs.Prelude.{ℕ, Bool, true, false, ◌&&◌, ◌||◌, ◌==◌, not, nat_lt, List, Option, Some, None, replicate, if◌then◌else◌}
use Rattle.std.specs.List.{slice_index_or}
use Rattle.chi_flit.specs.declared.state.State.TheVariants as states
use Rattle.chi_observer.specs.declared.kinds.Kind.{Kind}
use Rattle.chi_observer.specs.declared.kinds.Kind.TheVariants.{ReadOnce, ReadUnique, CleanInvalid, MakeInvalid, Evict, WriteBackFull, WriteCleanFull, WriteEvictFull, WriteUniqueFull}
use Rattle.chi_observer.specs.declared.kinds.Snoop.{Snoop}
use Rattle.chi_observer.specs.declared.kinds.Snoop.TheVariants.{SnpOnce}
use Rattle.chi_observer.specs.declared.told.Told.{Told}
use Rattle.chi_observer.specs.declared.told.Told.TheVariants.{I, SC, UC, UCOrUCE, UD, SD, Writing}
use Rattle.chi_observer.specs.declared.flits.Stores.{Stores}
use Rattle.chi_observer.specs.declared.flits.Due.{Due}
use Rattle.chi_observer.specs.declared.flits.Due.TheVariants.{Nothing, Completion, Resending}
use Rattle.chi_observer.specs.declared.flits.Answer.{Answer}
use Rattle.chi_observer.specs.declared.flits.Answer.TheVariants.{SnpRespI, SnpRespUC, SnpRespDataUC, SnpRespDataUD, SnpRespDataSD, SnpRespDataIPD, SnpRespDataSCPD, SnpRespDataUCPD}
use Rattle.chi_observer.specs.declared.flits.Act.{Act}
use Rattle.chi_observer.specs.declared.flits.Act.TheVariants.{Request, Resend, SnpResp, CompAck, CopyBackWrData, NonCopyBackWrData, Load, Store}
use Rattle.chi_observer.specs.declared.flits.Grant.{Grant}
use Rattle.chi_observer.specs.declared.flits.Grant.TheVariants.{Snp, CompData, CompUC, CompI, CompDBIDResp}
use Rattle.chi_observer.specs.declared.flits.Flit.{Flit}
use Rattle.chi_observer.specs.declared.flits.Flit.TheVariants.{Up, Down}
use Rattle.chi_observer.specs.declared.observer.AgentSeen.{AgentSeen}
use Rattle.chi_observer.specs.declared.observer.Reason.{Reason}
use Rattle.chi_observer.specs.declared.observer.Reason.TheVariants.{NoAgent, OtherCopy}
use Rattle.chi_observer.specs.declared.begun.Certainty.{Certainty}
use Rattle.chi_observer.specs.declared.begun.Certainty.TheVariants.{Unknown, Unique, Told as ToldSo}
use Rattle.chi_observer.specs.declared.begun.AgentBegun.{AgentBegun}
use Rattle.chi_observer.specs.declared.begun.Begun.{Begun}
use Rattle.chi_observer.specs.Copies.{compatible, is_unique, same}
use Rattle.chi_observer.specs.Copies.Copy.{Invalid, Writing as WritingNow}
use Rattle.chi_observer.specs.Rules.{is_of, same_kind, is_due, lets_go, looks, throws, makes, settles, is_upgraded, is_written_whole, needs_alone}
use Rattle.chi_observer.specs.Tables.{Known, strongest, told_as, tells_dirty}
use Rattle.chi_observer.specs.Worlds.{all_below, put}
use Rattle.chi_observer.specs.Observed.{Observed}
use Rattle.chi_observer.specs.Lines.{Watched, watched, known_of, shown_of, is_taken, is_reason, watch}

-- what flits have told, and what of each agent isn't known
pub record Beginning : Type 0 where
  pub seen : Watched
  pub mark : ℕ → AgentBegun

abbrev pub unmarked : AgentBegun
unmarked = record { copy = ToldSo; asked = false; snooped = false }

abbrev pub mark_of : List AgentBegun → ℕ → AgentBegun
mark_of marks n = slice_index_or marks n unmarked

abbrev pub begun : Begun → Beginning
begun s = record { seen = watched s.observer; mark = λ n. mark_of s.agents n }

-- what stands for a flit that may be due of a request from before: it hinders nothing
abbrev pub left_over : Due
left_over = Completion MakeInvalid

-- the agent that a flit is of or to
abbrev pub agent_in : Flit → ℕ
agent_in (Up f) = f.agent.0
agent_in (Down g) = g.agent.0

-- A FLIT FROM BEFORE
-- it may be due of a request or a snoop from before
abbrev pub act_left_over : AgentBegun → Act → Bool
act_left_over k CompAck = k.asked
act_left_over k (CopyBackWrData form) = k.asked
act_left_over k NonCopyBackWrData = k.asked
act_left_over k (SnpResp answer) = k.snooped
act_left_over k other = false

abbrev pub grant_left_over : AgentBegun → Grant → Bool
grant_left_over k (Snp snoop) = false
grant_left_over k other = k.asked

abbrev pub is_left_over : AgentBegun → Flit → Bool
is_left_over k (Up f) = act_left_over k f.act
is_left_over k (Down g) = grant_left_over k g.grant

-- behind it the agent's copy, the words, the duty and the moments aren't known
abbrev pub all_shown : ℕ → Bool
all_shown n = shown_of (replicate 32 true) n

abbrev pub words_forgotten : ℕ → Observed → Observed
words_forgotten n o = record {
  public = record { stores = o.public.stores; due = o.public.due; snooped = o.public.snooped; duty = true; thrown = o.public.thrown };
  told = put n (record { told = I; cancelled = (o.told n).cancelled }) o.told;
  home = None;
  current = true;
}

abbrev pub mark_forgotten : AgentBegun → AgentBegun
mark_forgotten k = record { copy = Unknown; asked = k.asked; snooped = k.snooped }

abbrev pub forgotten : ℕ → Beginning → Beginning
forgotten n b = record {
  seen = record { seen = words_forgotten n b.seen.seen; waits = true; shown = all_shown };
  mark = put n (mark_forgotten (b.mark n)) b.mark;
}

-- flits that nobody saw may have been such
abbrev pub forgetting : ℕ → Beginning → Beginning
forgetting n b = if nat_lt n 32 && ((b.mark n).asked || (b.mark n).snooped) then forgotten n b else b

-- WHAT IS SUPPOSED
-- of a copy that isn't known, one that may send the flit, of those that go with the most; and to a copy that the home
-- sends to, a dirty one where it may be, which keeps its own words
abbrev pub issuer : Kind → Told
issuer WriteBackFull = SD
issuer WriteCleanFull = SD
issuer WriteEvictFull = UC
issuer Evict = SC
issuer other = I

abbrev pub answerer : Answer → Told
answerer SnpRespI = I
answerer SnpRespUC = UCOrUCE
answerer SnpRespDataUC = UC
answerer SnpRespDataUD = UD
answerer SnpRespDataUCPD = UD
answerer SnpRespDataSD = SD
answerer SnpRespDataIPD = SD
answerer SnpRespDataSCPD = SD
answerer other = SC

abbrev pub sender : Act → Told
sender (Request kind) = issuer kind
sender (SnpResp answer) = answerer answer
sender (CopyBackWrData form) = told_as form
sender NonCopyBackWrData = Writing
sender (Load word) = SC
sender (Store word) = UD
sender other = I

abbrev pub reads_unique : Due → Bool
reads_unique d = is_of (same_kind ReadUnique) d

abbrev pub receiver : Grant → Due → Told
receiver (CompData form) d = if reads_unique d then SD else I
receiver other d = I

abbrev pub supposed_told : Flit → Due → Told
supposed_told (Up f) d = sender f.act
supposed_told (Down g) d = receiver g.grant d

-- a clean answer tells of no store, whatever is due
abbrev pub answer_due : Act → Due
answer_due a = if tells_dirty a then Nothing else left_over

abbrev pub act_due : Act → Due
act_due (Resend kind) = Resending kind
act_due (SnpResp answer) = answer_due (SnpResp answer)
act_due other = Nothing

abbrev pub supposed_due : Flit → Due
supposed_due (Up f) = act_due f.act
supposed_due (Down g) = left_over

abbrev pub is_told : Certainty → Bool
is_told ToldSo = true
is_told other = false

-- the flit leaves open whether there was a store that nobody saw: no words are known then
abbrev pub may_tell_stored : Act → Bool → Bool
may_tell_stored a x = tells_dirty a || (throws a x || looks a)

abbrev pub blurs : AgentBegun → Flit → Option Snoop → Bool
blurs k (Up f) q = (k.asked || not (is_told k.copy)) && may_tell_stored f.act (lets_go q)
blurs k (Down g) q = false

-- a unique copy is no shared one
abbrev pub alone : Told → Told
alone SD = UD
alone other = other

abbrev pub supposed_of : Certainty → Told → Told → Told
supposed_of ToldSo t u = t
supposed_of Unique t u = alone u
supposed_of Unknown t u = u

abbrev pub told_supposed : AgentBegun → Flit → Due → Known → Known
told_supposed k e d t = record { told = supposed_of k.copy t.told (supposed_told e d); cancelled = t.cancelled }

abbrev pub due_supposed : AgentBegun → Flit → Due → Due
due_supposed k e d = if k.asked then supposed_due e else d

-- the same of the code's agent
abbrev pub agent_supposed : AgentBegun → Flit → AgentSeen → AgentSeen
agent_supposed k e a = record { told = (told_supposed k e a.due (known_of a)).told; cancelled = a.cancelled; due = due_supposed k e a.due; snooped = a.snooped }

abbrev pub observed_supposed : ℕ → AgentBegun → Flit → Observed → Observed
observed_supposed n k e o = record {
  public = record { stores = o.public.stores; due = put n (due_supposed k e (o.public.due n)) o.public.due; snooped = o.public.snooped; duty = o.public.duty; thrown = o.public.thrown };
  told = put n (told_supposed k e (o.public.due n) (o.told n)) o.told;
  home = if blurs k e (o.public.snooped n) then None else o.home;
  current = o.current;
}

abbrev pub supposed_at : ℕ → AgentBegun → Flit → Watched → Watched
supposed_at n k e s = record { seen = observed_supposed n k e s.seen; waits = s.waits; shown = put n (s.shown n || k.asked) s.shown }

abbrev pub supposed_in : ℕ → Beginning → Flit → Watched
supposed_in n b e = supposed_at n (b.mark n) e b.seen

abbrev pub supposed : Beginning → Flit → Watched
supposed b e = supposed_in (agent_in e) b e

-- the copy that it is sent from goes with what is told of the others
abbrev pub goes_beside : ℕ → Told → Observed → Bool
goes_beside n t o = all_below 32 (λ m. m == n || (compatible (strongest t) (strongest (o.told m).told) && (not false || same (strongest (o.told m).told) Invalid)))

abbrev pub stands : Beginning → Flit → Bool
stands b (Up f) = is_told (b.mark f.agent.0).copy || goes_beside f.agent.0 (sender f.act) b.seen.seen
stands b (Down g) = true

abbrev pub takes_begun : Beginning → Flit → Bool
takes_begun b e = nat_lt (agent_in e) 32 && (is_left_over (b.mark (agent_in e)) e || (stands b e && is_taken (supposed b e) e))

-- WHAT IS KNOWN THEN
-- the flit leaves one copy, whatever it was
abbrev pub kind_tells : Kind → Bool
kind_tells ReadOnce = true
kind_tells CleanInvalid = true
kind_tells MakeInvalid = true
kind_tells Evict = true
kind_tells WriteEvictFull = true
kind_tells WriteUniqueFull = true
kind_tells other = false

abbrev pub answer_tells : Answer → Bool
answer_tells SnpRespUC = false
answer_tells other = true

abbrev pub act_tells : Act → Bool
act_tells (Request kind) = kind_tells kind
act_tells (SnpResp answer) = answer_tells answer
act_tells (CopyBackWrData form) = true
act_tells NonCopyBackWrData = true
act_tells (Store word) = true
act_tells other = false

abbrev pub asks : Act → Bool
asks (Request kind) = true
asks (Resend kind) = true
asks other = false

abbrev pub is_request : Act → Bool
is_request (Request kind) = true
is_request other = false

abbrev pub unique_behind : Act → Certainty
unique_behind a = if act_tells a || tells_dirty a then ToldSo else (if is_request a then Unknown else Unique)

abbrev pub certain_of : Bool → Bool → Certainty
certain_of unique told = if unique then Unique else (if told then ToldSo else Unknown)

abbrev pub given : Grant → Due → Certainty
given (CompData states.I) d = Unknown
given (CompData form) d = certain_of (reads_unique d) true
given CompUC d = certain_of (is_upgraded d) (makes CompUC d)
given CompI d = certain_of false (settles CompI d)
given CompDBIDResp d = certain_of false (is_written_whole d)
given other d = Unknown

abbrev pub certainty_sent : Certainty → Act → Certainty
certainty_sent ToldSo a = ToldSo
certainty_sent Unique a = unique_behind a
certainty_sent Unknown a = if act_tells a then ToldSo else Unknown

abbrev pub certainty_given : Certainty → Grant → Due → Certainty
certainty_given Unknown g d = given g d
certainty_given other g d = other

abbrev pub mark_behind : AgentBegun → Flit → Due → AgentBegun
mark_behind k (Up f) d = record { copy = certainty_sent k.copy f.act; asked = k.asked && not (asks f.act); snooped = k.snooped }
mark_behind k (Down g) d = record { copy = certainty_given k.copy g.grant d; asked = k.asked; snooped = k.snooped && is_due g.grant d (Some SnpOnce) }

-- what is kept of an agent
abbrev pub told_kept : Certainty → Told → Told
told_kept ToldSo t = t
told_kept Unique t = UCOrUCE
told_kept Unknown t = I

abbrev pub known_kept : AgentBegun → Known → Known
known_kept k t = record { told = told_kept k.copy t.told; cancelled = t.cancelled }

abbrev pub due_kept : AgentBegun → Due → Due
due_kept k d = if k.asked then left_over else d

abbrev pub agent_kept : AgentBegun → AgentSeen → AgentSeen
agent_kept k a = record { told = told_kept k.copy a.told; cancelled = a.cancelled; due = due_kept k a.due; snooped = a.snooped }

-- the words that complete a ReadOnce may be older than the value: they tell nothing of it
abbrev pub grant_shows_older : Grant → Bool
grant_shows_older (CompData states.I) = true
grant_shows_older other = false

abbrev pub shows_older : Flit → Bool
shows_older (Up f) = false
shows_older (Down g) = grant_shows_older g.grant

abbrev pub words_behind : {A : Type 0} → Flit → A → A → A
words_behind e before after = if shows_older e then before else after

abbrev pub observed_kept : ℕ → AgentBegun → Bool → Option (List ℕ) → Observed → Observed
observed_kept n k blurred home o = record {
  public = record { stores = o.public.stores; due = put n (due_kept k (o.public.due n)) o.public.due; snooped = o.public.snooped; duty = o.public.duty; thrown = o.public.thrown };
  told = put n (known_kept k (o.told n)) o.told;
  home = home;
  current = o.current || blurred;
}

-- a copy beside which there is none
abbrev pub ends_others : Flit → Due → Bool
ends_others (Up f) d = false
ends_others (Down g) d = needs_alone g.grant d

abbrev pub leaves_alone : Flit → Due → Told → Bool
leaves_alone e d t = is_unique (strongest t) || (same (strongest t) WritingNow || ends_others e d)

abbrev pub mark_told : AgentBegun → AgentBegun
mark_told k = record { copy = ToldSo; asked = k.asked; snooped = k.snooped }

abbrev pub marks_beside : Bool → (ℕ → AgentBegun) → ℕ → AgentBegun
marks_beside alone marks n = if alone then mark_told (marks n) else marks n

-- d, home: what was due of the agent, and the words, as they were kept; w: what the rules leave
abbrev pub kept : ℕ → AgentBegun → Flit → Due → Option Snoop → Option (List ℕ) → Watched → (ℕ → AgentBegun) → Beginning
kept n k e d q home w marks = record {
  seen = record { seen = observed_kept n (mark_behind k e d) (blurs k e q) (words_behind e home w.seen.home) w.seen; waits = w.waits; shown = w.shown };
  mark = put n (mark_behind k e d) (marks_beside (leaves_alone e d (w.seen.told n).told) marks);
}

abbrev pub kept_by : ℕ → Beginning → Flit → Watched → Beginning
kept_by n b e w = kept n (b.mark n) e (b.seen.seen.public.due n) (b.seen.seen.public.snooped n) b.seen.seen.home w b.mark

abbrev pub kept_in : ℕ → Beginning → Flit → Beginning
kept_in n b e = kept_by n b e (watch (supposed_in n b e) e)

abbrev pub begun_after : Beginning → Flit → Beginning
begun_after b e = if is_left_over (b.mark (agent_in e)) e then forgotten (agent_in e) b else kept_in (agent_in e) b e

-- why it isn't taken
abbrev pub is_begun_reason : Beginning → Flit → Reason → Bool
is_begun_reason b e NoAgent = not (nat_lt (agent_in e) 32)
is_begun_reason b e OtherCopy = not (stands b e) || is_reason (supposed b e) e OtherCopy
is_begun_reason b e other = is_reason (supposed b e) e other

-- AT FIRST
abbrev pub nothing_begun : Stores → Beginning
nothing_begun z = record {
  seen = watched (record { stores = z; agents = replicate 32 (record { told = I; cancelled = false; due = left_over; snooped = None }); home = None; current = true; duty = true; thrown = false; waits = true; shown = replicate 32 true });
  mark = λ n. mark_of (replicate 32 (record { copy = Unknown; asked = true; snooped = true })) n;
}
