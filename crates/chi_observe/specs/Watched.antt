-- A watch over a trace: what its flits have told, and which flits it takes (docs/OBSERVER.md, "A trace of many lines").
use Rattle.std.specs.Prelude.{◌≡◌, ℕ, ◌+◌, Bool, true, false, not, List, [], Option, Some, None, Result, Ok, Err, if◌then◌else◌, is_none, option_map, replicate, unwrap_or}
use Rattle.chi_flit.specs.declared.numbers.Agent.{Agent}
use Rattle.chi_trace.specs.declared.fields.NodeId.{NodeId}
use Rattle.chi_observer.specs.declared.flits.Flit.{Flit}
use Rattle.chi_observer.specs.declared.observer.Reason.TheVariants.{NotSent}
use Rattle.chi_observe.specs.declared.lines.LineNews.{LineNews}
use Rattle.chi_observe.specs.declared.lines.LineNews.TheVariants as news
use Rattle.chi_observe.specs.declared.tables.Part.{Part}
use Rattle.chi_observe.specs.declared.tables.Part.TheVariants as parts
use Rattle.chi_observe.specs.declared.credits.Account.{Account}
use Rattle.chi_observe.specs.declared.credits.AccountNumbers.{AccountNumbers}
use Rattle.chi_observe.specs.declared.credits.Booking.{Booking}
use Rattle.chi_observe.specs.declared.events.AccessEvent.{AccessEvent}
use Rattle.chi_observe.specs.declared.events.Event.{Event}
use Rattle.chi_observe.specs.declared.events.Event.TheVariants as events
use Rattle.chi_observe.specs.declared.events.LineEvent.{LineEvent}
use Rattle.chi_observe.specs.declared.events.Tells.{Tells}
use Rattle.chi_observe.specs.declared.events.Tells.TheVariants.{NoForm, Unjudged}
use Rattle.chi_ids.specs.declared.keys.CacheLine.{CacheLine}
use Rattle.chi_ids.specs.declared.keys.IdKey.{IdKey}
use Rattle.chi_ids.specs.declared.keys.KeyNumbers.{KeyNumbers}
use Rattle.chi_observe.specs.declared.ids.Later.{Later}
use Rattle.chi_observe.specs.declared.ids.OpenId.{OpenId}
use Rattle.chi_ids.specs.declared.keys.Sides.{Sides}
use Rattle.chi_observe.specs.declared.reasons.IdReason.{IdReason}
use Rattle.chi_observe.specs.declared.reasons.IdReason.TheVariants.{Form, NotOpen}
use Rattle.chi_observe.specs.declared.reasons.LineReason.{LineReason}
use Rattle.chi_observe.specs.declared.reasons.LineReason.TheVariants.{Rule}
use Rattle.chi_observe.specs.declared.tables.Change.{Change}
use Rattle.chi_observe.specs.declared.steps.WatchOptions.{WatchOptions}
use Rattle.chi_observe.specs.declared.watch.Aside.{Aside}
use Rattle.chi_observe.specs.declared.watch.Counts.{Counts}
use Rattle.chi_observe.specs.declared.watch.Watch.{Watch}
use Rattle.chi_observe.specs.declared.watch.WatchFault.{WatchFault}
use Rattle.chi_observe.specs.declared.watch.WatchFault.TheVariants as faults
use Rattle.chi_observe.specs.declared.watch.WatchStop.{WatchStop}
use Rattle.chi_observe.specs.declared.watch.WatchStop.TheVariants as stops
use Rattle.chi_observe.specs.declared.causes.Cause.{Cause}
use Rattle.chi_observe.specs.declared.causes.CauseRow.{CauseRow}
use Rattle.chi_observe.specs.declared.lines.LineTold.{LineTold}
use Rattle.chi_observe.specs.Causes.{cause_of, caused}
use Rattle.chi_observe.specs.Credits.{booked, booked_all}
use Rattle.chi_observe.specs.Events.{flit_by, news_of, with_words}
use Rattle.chi_observe.specs.Judges.{Before, is_at_home, is_cut, last_of}
use Rattle.chi_observe.specs.LeftOver.{is_left_over, last_behind, named_after, named_behind}
use Rattle.chi_observe.specs.Lines.{LineState, early_of, home_of, is_aside, forgets_data, is_line_reason, line_next, lines_in, put_line, state_at, takes_line, told_as}
use Rattle.chi_observe.specs.Nodes.{agent_of, with_home, with_requester}
use Rattle.chi_observe.specs.Grants.{granted, returned}
use Rattle.chi_observe.specs.Steps.{change_of, ids_after}
use Rattle.chi_observe.specs.Tables.{Table}

-- its nodes, the ids that are open, the credits, what is known of each line, and counts; of a trace that is cut out of a
-- longer one of each agent the number of its last flit that names an id from before, and the ids that were named
pub record Watched : Type 0 where
  pub options : WatchOptions
  pub requesters : List NodeId
  pub homes : List NodeId
  pub ids : List (KeyNumbers × OpenId)
  pub accounts : List (AccountNumbers × Account)
  pub lines : ℕ → Option LineState
  pub counts : Counts
  pub causes : List CauseRow
  pub past : ℕ → ℕ
  pub named : List (KeyNumbers × OpenId)

abbrev pub watched : {A : Type 0} → Watch A → Watched
watched w = record {
  options = w.options;
  requesters = w.requesters.items;
  homes = w.homes.items;
  ids = w.ids.entries;
  accounts = w.accounts.entries;
  lines = lines_in w.lines.entries;
  counts = w.counts;
  causes = w.causes.items;
  past = last_of w.last;
  named = w.named.entries;
}

-- no flit was seen
abbrev pub nothing_counted : Counts
nothing_counted = record { flits = 0; unjudged = 0; left_over = 0; accesses = 0; unseen = 0; lines = 0; aside = 0; first_aside = None; cut = None }

abbrev pub nothing_watched : WatchOptions → Watched
nothing_watched options = record { options = options; requesters = []; homes = []; ids = []; accounts = []; lines = λ l. None; counts = nothing_counted; causes = []; past = last_of (replicate 32 0); named = [] }

abbrev pub before_in : Watched → Before
before_in w = record { log = w.options.log; stores = w.options.stores; last = w.past }

abbrev pub table_in : Watched → Table
table_in w = record { ids = w.ids; accounts = w.accounts; aside = λ l. is_aside (w.lines l) }

-- what a flit does to ids and credits; a RESP that no flit of the opcode has is a fault
abbrev pub formed : Tells → Result Change IdReason → Result Change IdReason
formed (NoForm resp) change = Err (Form resp)
formed tells change = change

-- what it tells its line's observer: by the agent that its requester is, if it is judged
abbrev pub agent_by : Watched → Sides → Tells → Option Agent
agent_by w sides (Unjudged opcode) = None
agent_by w sides tells = agent_of w.requesters w.homes sides

abbrev pub agent_in : Watched → LineEvent → Option Agent
agent_in w e = agent_by w e.sides e.tells

-- data that come in beats, whose words are known at the first one: the line is told of them there, and the id has the words
abbrev pub early_line : Option LineState → Flit → List Bool → Option (Later × List ℕ)
early_line None flit lacking = None
early_line (Some s) flit lacking = early_of s flit lacking

abbrev pub early_told : Option LineState → Option Flit → List Bool → Option (Later × List ℕ)
early_told s None lacking = None
early_told s (Some flit) lacking = early_line s flit lacking

abbrev pub early_in : Watched → LineEvent → CacheLine → List Bool → Option (Later × List ℕ)
early_in w e line lacking = early_told (w.lines line.0) (flit_by e.tells (agent_in w e)) lacking

abbrev pub early_id : Tells → Later → OpenId → OpenId
early_id told later id = record id { begun = Some told; later = later }

abbrev pub with_early : Tells → Later → Change → Change
with_early told later change = record change { keeps = option_map (early_id told later) change.keeps; part = parts.Known told }

abbrev pub early_change : Tells → Change → Option (Later × List ℕ) → Change
early_change tells change None = change
early_change tells change (Some early) = with_early (with_words tells early.1) early.0 change

abbrev pub ready_by : Watched → LineEvent → Change → Part → Change
ready_by w e change (parts.First lacking) = early_change e.tells change (early_in w e change.line lacking)
ready_by w e change part = change

abbrev pub ready : Watched → LineEvent → Change → Change
ready w e change = ready_by w e change change.part

abbrev pub all_ready : Watched → LineEvent → Result Change IdReason → Result Change IdReason
all_ready w e (Ok change) = Ok (ready w e change)
all_ready w e (Err reason) = Err reason

abbrev pub changed : Watched → LineEvent → Result Change IdReason
changed w e = formed e.tells (change_of w.options (table_in w) e.sides e.step e.at e.tells)

abbrev pub allowed : Watched → LineEvent → Result Change IdReason
allowed w e = all_ready w e (changed w e)

abbrev pub news_in : Watched → LineEvent → Change → LineNews
news_in w e change = news_of e.tells change.part (agent_in w e)

-- what its line was told
abbrev pub told_at : Before → (ℕ → Option LineState) → CacheLine → NodeId → LineNews → ℕ → LineTold
told_at before lines line home told number = told_as (is_none (lines line.0)) (state_at before lines number line home) (line_next before (state_at before lines number line home) number told)

-- what it sets aside: a line that was judged so far, for this cause
abbrev pub mark_if : Cause → LineTold → CacheLine → ℕ → Option Aside
mark_if cause told line number = if told.aside then Some (record { number = number; line = line; cause = cause }) else None

abbrev pub mark_in : Watched → Tells → Option Agent → LineTold → CacheLine → ℕ → Option Aside
mark_in w tells agent told line number = mark_if (cause_of w.options tells agent told) told line number

-- a flit more, which is the first of its line, or sets it aside
abbrev pub one_if : Bool → ℕ
one_if b = if b then 1 else 0

abbrev pub counts_first : Bool → Counts → Counts
counts_first fresh n = record n { flits = n.flits + 1; lines = if fresh then n.lines + 1 else n.lines }

abbrev pub counts_aside : Option Aside → Counts → Counts
counts_aside None n = n
counts_aside (Some mark) n = record n { aside = n.aside + 1; first_aside = Some (unwrap_or n.first_aside mark) }

-- Flits that no observer was told of: one whose line isn't judged behind it, and data that its line wasn't told of yet where
-- it sets the line aside.
abbrev pub counts_unjudged : ℕ → Counts → Counts
counts_unjudged flits n = record n { unjudged = n.unjudged + flits }

abbrev pub counts_whole : LineTold → Counts → Counts
counts_whole told n = counts_unjudged (one_if (forgets_data told)) (counts_unjudged (one_if (not told.judged)) (counts_first told.fresh n))

abbrev pub counts_after : Part → LineTold → Option Aside → Counts → Counts
counts_after parts.Whole told aside n = counts_aside aside (counts_whole told n)
counts_after (parts.First left) told aside n = counts_aside aside (counts_whole told n)
counts_after (parts.Known tells) told aside n = counts_aside aside (counts_whole told n)
counts_after parts.Further told aside n = counts_aside aside n
counts_after (parts.Held same) told aside n = counts_aside aside n
counts_after (parts.Last tells) told aside n = counts_aside aside (counts_unjudged (one_if told.aside) n)

-- a load or a store, of which an observer was told or wasn't; and one of which its line was told
abbrev pub counts_access : Bool → Counts → Counts
counts_access judged n = record n { accesses = n.accesses + 1; unseen = n.unseen + one_if (not judged) }

abbrev pub counts_told : LineTold → Option Aside → Counts → Counts
counts_told told aside n = counts_aside aside (counts_unjudged (one_if (forgets_data told)) (counts_access told.judged n))

-- a flit that names an id from before the trace
abbrev pub counts_left_over : Counts → Counts
counts_left_over n = record n { flits = n.flits + 1; unjudged = n.unjudged + 1; left_over = n.left_over + 1 }

abbrev pub flit_told : Watched → LineEvent → Change → LineTold
flit_told w e change = told_at (before_in w) w.lines change.line e.sides.home (news_in w e change) e.number

abbrev pub flit_mark : Watched → LineEvent → Change → Option Aside
flit_mark w e change = mark_in w e.tells (agent_in w e) (flit_told w e change) change.line e.number

-- a flit of a line that does this, and a beat that is neither its first nor its last
abbrev pub flit_after : Watched → LineEvent → Change → Watched
flit_after w e change = record {
  options = w.options;
  requesters = with_requester (agent_in w e) e.sides.requester w.requesters;
  homes = with_home (agent_in w e) e.sides.home w.homes;
  ids = ids_after e.number change w.ids;
  accounts = booked_all change.books w.accounts;
  lines = put_line change.line (line_next (before_in w) (state_at (before_in w) w.lines e.number change.line e.sides.home) e.number (news_in w e change)) w.lines;
  counts = counts_after change.part (flit_told w e change) (flit_mark w e change) w.counts;
  causes = caused (flit_mark w e change) w.causes;
  past = w.past;
  named = named_after w.options change.frees w.named;
}

abbrev pub beat_after : Watched → LineEvent → Change → Watched
beat_after w e change = record w { ids = ids_after e.number change w.ids }

-- what follows a flit of a line, if its line takes it
abbrev pub told_after : Watched → LineEvent → Change → Option Watched
told_after w e change = if takes_line (before_in w) (state_at (before_in w) w.lines e.number change.line e.sides.home) e.sides.home e.number (news_in w e change) then Some (flit_after w e change) else None

abbrev pub by_part : Watched → LineEvent → Change → Part → Option Watched
by_part w e change parts.Whole = told_after w e change
by_part w e change (parts.First left) = told_after w e change
by_part w e change (parts.Known tells) = told_after w e change
by_part w e change parts.Further = Some (beat_after w e change)
by_part w e change (parts.Held same) = told_after w e change
by_part w e change (parts.Last tells) = told_after w e change

-- a flit that names an id from before
abbrev pub left_over_after : Watched → LineEvent → IdKey → Watched
left_over_after w e key = record w {
  counts = counts_left_over w.counts;
  past = last_behind w.requesters e.sides.requester e.number w.past;
  named = named_behind e key w.named;
}

abbrev pub unopened_after : Watched → LineEvent → IdReason → Option Watched
unopened_after w e (NotOpen key) = if is_left_over w.options w.named e.step key then Some (left_over_after w e key) else None
unopened_after w e reason = None

abbrev pub line_after : Watched → LineEvent → Result Change IdReason → Option Watched
line_after w e (Ok change) = by_part w e change change.part
line_after w e (Err reason) = unopened_after w e reason

abbrev pub booking_after : Watched → Booking → Watched
booking_after w booking = record w { accounts = booked booking w.accounts; counts = record w.counts { flits = w.counts.flits + 1 } }

abbrev pub credit_after : Watched → Result Booking IdReason → Option Watched
credit_after w (Ok booking) = Some (booking_after w booking)
credit_after w (Err reason) = None

-- A load or a store is told to its line, as a flit of the line's home would be.
abbrev pub access_agent : Watched → AccessEvent → NodeId → Option Agent
access_agent w e home = agent_of w.requesters w.homes (record { requester = e.requester; home = home })

abbrev pub access_news : Watched → AccessEvent → NodeId → LineNews
access_news w e home = news.Flit (flit_by e.tells (access_agent w e home))

abbrev pub access_at : Watched → AccessEvent → NodeId → LineTold
access_at w e home = told_at (before_in w) w.lines e.line home (access_news w e home) e.number

abbrev pub access_mark : Watched → AccessEvent → NodeId → Option Aside
access_mark w e home = mark_in w e.tells (access_agent w e home) (access_at w e home) e.line e.number

abbrev pub access_next : Watched → AccessEvent → NodeId → Watched
access_next w e home = record w {
  requesters = with_requester (access_agent w e home) e.requester w.requesters;
  lines = put_line e.line (line_next (before_in w) (state_at (before_in w) w.lines e.number e.line home) e.number (access_news w e home)) w.lines;
  counts = counts_told (access_at w e home) (access_mark w e home) w.counts;
  causes = caused (access_mark w e home) w.causes;
}

abbrev pub access_told : Watched → AccessEvent → NodeId → Option Watched
access_told w e home = if takes_line (before_in w) (state_at (before_in w) w.lines e.number e.line home) home e.number (access_news w e home) then Some (access_next w e home) else None

-- of a line that no flit has touched no cache has a copy; where the trace is cut out of a longer one it may be any. A home
-- sees none
abbrev pub access_counted : Watched → Watched
access_counted w = record w { counts = counts_access false w.counts }

abbrev pub access_after : Watched → AccessEvent → Option NodeId → Option Watched
access_after w e None = if is_cut w.options then Some (access_counted w) else None
access_after w e (Some home) = access_told w e home

abbrev pub access_seen : Watched → AccessEvent → Option Watched
access_seen w e = if is_at_home w.options then Some (access_counted w) else access_after w e (home_of (w.lines e.line.0))

abbrev pub is_access_reason : Watched → AccessEvent → Option NodeId → LineReason → Bool
is_access_reason w e None (Rule NotSent) = not (is_cut w.options)
is_access_reason w e None reason = false
is_access_reason w e (Some home) reason = is_line_reason (before_in w) (state_at (before_in w) w.lines e.number e.line home) home (access_news w e home) reason

-- what follows the next line of a trace, if it is taken
abbrev pub step : Watched → Event → Option Watched
step w (events.Access e) = access_seen w e
step w (events.Granted sides pcrd) = credit_after w (granted w.options (table_in w) sides pcrd)
step w (events.Returned sides pcrd) = credit_after w (returned w.options (table_in w) sides pcrd)
step w (events.Line e) = line_after w e (allowed w e)

-- why it isn't
abbrev pub IsFault : Watched → Event → WatchFault → Type 0
IsFault w (events.Line e) (faults.Ids reason) = allowed w e ≡ Err reason
IsFault w (events.Line e) (faults.Line reason) = (change : Change) × (allowed w e ≡ Ok change) × (is_line_reason (before_in w) (state_at (before_in w) w.lines e.number change.line e.sides.home) e.sides.home (news_in w e change) reason ≡ true)
IsFault w (events.Access e) (faults.Line reason) = is_access_reason w e (home_of (w.lines e.line.0)) reason ≡ true
IsFault w (events.Granted sides pcrd) (faults.Ids reason) = granted w.options (table_in w) sides pcrd ≡ Err reason
IsFault w (events.Returned sides pcrd) (faults.Ids reason) = returned w.options (table_in w) sides pcrd ≡ Err reason
IsFault w e fault = ⊥

-- what a flit of an agent leaves, but of its line
abbrev pub settled : Watched → LineEvent → Change → Option Agent → LineTold → Watched
settled w e change agent told = record {
  options = w.options;
  requesters = with_requester agent e.sides.requester w.requesters;
  homes = with_home agent e.sides.home w.homes;
  ids = ids_after e.number change w.ids;
  accounts = booked_all change.books w.accounts;
  lines = w.lines;
  counts = counts_after change.part told (mark_in w e.tells agent told change.line e.number) w.counts;
  causes = caused (mark_in w e.tells agent told change.line e.number) w.causes;
  past = w.past;
  named = named_after w.options change.frees w.named;
}

-- a flit of a line that does this was taken, or its line refuses it and nothing has changed
pub record IsLineRefused (old new : Watched) (e : LineEvent) (change : Change) (reason : LineReason) : Type 0 where
  pub refused : line_after old e (Ok change) ≡ None
  pub holds : is_line_reason (before_in old) (state_at (before_in old) old.lines e.number change.line e.sides.home) e.sides.home (news_in old e change) reason ≡ true
  pub kept : new ≡ old

abbrev pub IsFlitWatched : {A : Type 0} → Watched → Watched → LineEvent → Change → Result A WatchStop → Type 0
IsFlitWatched old new e change (Ok done) = line_after old e (Ok change) ≡ Some new
IsFlitWatched old new e change (Err (stops.Fault (faults.Ids reason))) = ⊥
IsFlitWatched old new e change (Err (stops.Fault (faults.Line reason))) = IsLineRefused old new e change reason
IsFlitWatched old new e change (Err stops.NoMemory) = Unit {0}

-- so of a load or a store
abbrev pub access_settled : Watched → AccessEvent → Option Agent → LineTold → Watched
access_settled w e agent told = record w {
  requesters = with_requester agent e.requester w.requesters;
  counts = counts_told told (mark_in w e.tells agent told e.line e.number) w.counts;
  causes = caused (mark_in w e.tells agent told e.line e.number) w.causes;
}

pub record IsAccessRefused (old new : Watched) (e : AccessEvent) (home : NodeId) (reason : LineReason) : Type 0 where
  pub refused : access_told old e home ≡ None
  pub holds : is_line_reason (before_in old) (state_at (before_in old) old.lines e.number e.line home) home (access_news old e home) reason ≡ true
  pub kept : new ≡ old

abbrev pub IsAccessWatched : {A : Type 0} → Watched → Watched → AccessEvent → NodeId → Result A WatchStop → Type 0
IsAccessWatched old new e home (Ok done) = access_told old e home ≡ Some new
IsAccessWatched old new e home (Err (stops.Fault (faults.Ids reason))) = ⊥
IsAccessWatched old new e home (Err (stops.Fault (faults.Line reason))) = IsAccessRefused old new e home reason
IsAccessWatched old new e home (Err stops.NoMemory) = Unit {0}

-- so of a flit that ids and credits don't allow for this reason
pub record IsUnopened (old new : Watched) (e : LineEvent) (reason : IdReason) : Type 0 where
  pub untaken : unopened_after old e reason ≡ None
  pub kept : new ≡ old

abbrev pub IsUnopenedWatched : {A : Type 0} → Watched → Watched → LineEvent → IdReason → Result A WatchStop → Type 0
IsUnopenedWatched old new e reason (Ok done) = unopened_after old e reason ≡ Some new
IsUnopenedWatched old new e reason (Err (stops.Fault (faults.Ids other))) = (other ≡ reason) × IsUnopened old new e reason
IsUnopenedWatched old new e reason (Err (stops.Fault (faults.Line other))) = ⊥
IsUnopenedWatched old new e reason (Err stops.NoMemory) = Unit {0}

-- so of a credit
pub record IsCreditRefused (old new : Watched) (booking : Result Booking IdReason) (reason : IdReason) : Type 0 where
  pub refused : booking ≡ Err reason
  pub kept : new ≡ old

abbrev pub IsCreditWatched : {A : Type 0} → Watched → Watched → Result Booking IdReason → Result A WatchStop → Type 0
IsCreditWatched old new booking (Ok done) = credit_after old booking ≡ Some new
IsCreditWatched old new booking (Err (stops.Fault (faults.Ids reason))) = IsCreditRefused old new booking reason
IsCreditWatched old new booking (Err (stops.Fault (faults.Line reason))) = ⊥
IsCreditWatched old new booking (Err stops.NoMemory) = Unit {0}

-- the watch takes it; or it doesn't, for a reason that holds, and nothing has changed; or memory ran out
pub record IsUntaken (old new : Watched) (e : Event) (fault : WatchFault) : Type 0 where
  pub untaken : step old e ≡ None
  pub holds : IsFault old e fault
  pub kept : new ≡ old

abbrev pub IsWatched : {A : Type 0} → Watched → Watched → Event → Result A WatchStop → Type 0
IsWatched old new e (Ok done) = step old e ≡ Some new
IsWatched old new e (Err (stops.Fault fault)) = IsUntaken old new e fault
IsWatched old new e (Err stops.NoMemory) = Unit {0}
