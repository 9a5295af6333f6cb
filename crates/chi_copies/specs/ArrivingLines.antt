-- The code's sets of members, of an agent of a log that is taken at the home (docs/COPIES.md, "Seen at the home").
use Rattle.std.specs.Prelude.{◌≡◌, ℕ, ◌-◌, ◌+◌, ◌*◌, ◌/◌, ◌%◌, ◌==◌, nat_lt, List, [], Bool, true, false, not, ◌&&◌, ◌||◌, Option, Some, None, if◌then◌else◌}
use Rattle.std.specs.List.{slice_index_or}
use Rattle.chi_flit.specs.declared.state.State.TheVariants as forms
use Rattle.chi_observer.specs.declared.kinds.Kind.{Kind}
use Rattle.chi_observer.specs.declared.kinds.Kind.TheVariants.{ReadNotSharedDirty, ReadShared, ReadClean, ReadOnce, ReadUnique, CleanUnique, MakeUnique, CleanShared, CleanInvalid, MakeInvalid, Evict, WriteBackFull, WriteCleanFull, WriteEvictFull, WriteUniqueFull}
use Rattle.chi_observer.specs.declared.flits.Answer.{Answer}
use Rattle.chi_observer.specs.declared.flits.Answer.TheVariants.{SnpRespI, SnpRespSC, SnpRespUC, SnpRespDataI, SnpRespDataSC, SnpRespDataUC, SnpRespDataUD, SnpRespDataSD, SnpRespDataIPD, SnpRespDataSCPD, SnpRespDataUCPD}
use Rattle.chi_observer.specs.declared.flits.Act.{Act}
use Rattle.chi_observer.specs.declared.flits.Act.TheVariants.{Request, Resend, SnpResp, CopyBackWrData, NonCopyBackWrData}
use Rattle.chi_observer.specs.declared.flits.CacheFlit.{CacheFlit}
use Rattle.chi_observer.specs.declared.flits.Due.{Due}
use Rattle.chi_observer.specs.declared.flits.Grant.{Grant}
use Rattle.chi_observer.specs.declared.flits.Due.TheVariants.{Nothing, Completion, Resending, WriteData}
use Rattle.chi_observer.specs.declared.flits.Stores.TheVariants.{Hidden}
use Rattle.chi_observer.specs.Copies.{copy_of, is_clean, is_unique}
use Rattle.chi_observer.specs.Rules.{allows, due_after, is_resending, lets_go, tells_words}
use Rattle.chi_copies.specs.declared.copies.Copies.{Copies as CopiesCode}
use Rattle.chi_copies.specs.declared.replies.Age.{Age}
use Rattle.chi_copies.specs.declared.replies.Age.TheVariants.{Own, Last, Past, Older}
use Rattle.chi_copies.specs.declared.replies.Asked.{Asked}
use Rattle.chi_copies.specs.declared.replies.Asked.TheVariants.{NoReply, AnswerTo, DataOf}
use Rattle.chi_copies.specs.declared.replies.Reply.{Reply}
use Rattle.chi_copies.specs.declared.sides.Sides.{Sides as SidesCode}
use Rattle.chi_copies.specs.declared.members.Members.{Members as MembersCode}
use Rattle.chi_copies.specs.declared.arriving.Arriving.{Arriving}
use Rattle.chi_copies.specs.declared.line.Reason.{Reason}
use Rattle.chi_copies.specs.declared.line.Reason.TheVariants.{NoAgent, NotSent}
use Rattle.chi_copies.specs.declared.standing.Facts.{Facts}
use Rattle.chi_copies.specs.declared.standing.Standing.{Standing}
use Rattle.chi_copies.specs.declared.moves.Move.{Move}
use Rattle.chi_copies.specs.declared.moves.Move.TheVariants.{Unseen, Busy, Asks, Brings, Passes, Drops, ForgetsOwn, Forgets, Gains, Beholds}
use Rattle.chi_copies.specs.declared.received.Coming.{Coming}
use Rattle.chi_copies.specs.declared.received.Ages.{Ages}
use Rattle.chi_copies.specs.declared.side_tests.ReplyTest.{ReplyTest}
use Rattle.chi_copies.specs.declared.side_tests.ReplyTest.TheVariants.{Any, Comes, Stays, Words}
use Rattle.chi_observer.specs.Copies.Copy.{Invalid}
use Rattle.chi_copies.specs.Copies.{Held, Copies, plain, any_held, leaves, same_held}
use Rattle.chi_copies.specs.Rules.{acts, dropped, freed, is_free, is_resent, stored_to}
use Rattle.chi_copies.specs.Sets.{any_below, members, place_of_copy}
use Rattle.chi_copies.specs.Dues.{due_is}
use Rattle.chi_copies.specs.BegunLines.{copies_at}
use Rattle.chi_copies.specs.Observed.{any_of as held_any, fits_home}
use Rattle.chi_copies.specs.Arriving.{Member, Members, Received, age_sent, aged, any_of, any_or, any_sent, beheld, came, comes, due_then, has_words_so, led, loose, due_by, due_unsent, followed, gained, is_elsewhere, is_gone, takes_received, is_last, is_own, is_shown, kept, left_unseen, number_of, number_of_age, outrun, same_flit, same_member, same_option, snoop_of, with_mark}

-- A REPLY ON ITS WAY has a row of its own, by what the home awaits; none at all has the last one
abbrev pub fits_reply : Asked → Act → Bool
fits_reply (AnswerTo snoop) (SnpResp answer) = true
fits_reply (DataOf kind) (CopyBackWrData form) = true
fits_reply (DataOf kind) NonCopyBackWrData = true
fits_reply a act = false

abbrev pub fits : Asked → Option Reply → Bool
fits a None = true
fits a (Some r) = fits_reply a r.act

abbrev pub reply_number : Act → ℕ
reply_number NonCopyBackWrData = 0
reply_number (CopyBackWrData form) = 1 + place_of_copy (copy_of form)
reply_number other = number_of other

abbrev pub row_of : Asked → Option Reply → ℕ
row_of a None = 44
row_of a (Some r) = if fits_reply a r.act then 4 * reply_number r.act + number_of_age r.age else 45

-- and each row its reply
abbrev pub age_at : ℕ → Age
age_at n = if n == 0 then Own else (if n == 1 then Last else (if n == 2 then Past else Older))

abbrev pub answer_at : ℕ → Answer
answer_at n = if n == 0 then SnpRespI else (if n == 1 then SnpRespSC else (if n == 2 then SnpRespUC else (if n == 3 then SnpRespDataI else (if n == 4 then SnpRespDataSC else (if n == 5 then SnpRespDataUC else (
    if n == 6 then SnpRespDataUD else (if n == 7 then SnpRespDataSD else (if n == 8 then SnpRespDataIPD else (if n == 9 then SnpRespDataSCPD else SnpRespDataUCPD)))))))))

abbrev pub data_at : ℕ → Act
data_at n = if n == 0 then NonCopyBackWrData else (if n == 1 then CopyBackWrData forms.I else (if n == 2 then CopyBackWrData forms.SC else (if n == 3 then CopyBackWrData forms.UC else (if n == 5 then CopyBackWrData forms.UD else CopyBackWrData forms.SD))))

abbrev pub act_at : Asked → ℕ → Act
act_at (DataOf kind) n = data_at n
act_at a n = SnpResp (answer_at n)

abbrev pub reply_at : Asked → ℕ → Option Reply
reply_at a p = if p == 44 then None else Some (record { act = act_at a (p / 4); age = age_at (p % 4) })

abbrev pub same_sent : Option Reply → Option Reply → Bool
same_sent s t = same_option (λ r s. same_flit r.act s.act && number_of_age r.age == number_of_age s.age) s t

-- A SIDE: a copy, with the reply on its way
abbrev pub Sides : Type 0
Sides = Held → Option Reply → Bool

abbrev pub sides_of : Asked → SidesCode → Sides
sides_of a c h s = members (copies_at c.rows (row_of a s)) h

-- those that the sides of a set lead to
abbrev pub side_image : (Held → Option Reply → Sides) → Sides → Sides
side_image R S h' s' = any_held (λ h. any_or any_sent (λ s. S h s && R h s h' s'))

-- and of those with one reply
abbrev pub row_image : (Held → Option Reply → Sides) → (Held → Bool) → Option Reply → Sides
row_image R S s h' s' = any_held (λ h. S h && R h s h' s')

-- what is due as an agent with no request on its way knows it
abbrev pub free_due : Due → Asked → Option Reply → Due
free_due d a s = due_by None d (due_unsent a s)

abbrev pub is_side : Held → Option Reply → Sides
is_side h s h' s' = same_held h h' && same_sent s s'

-- one that has sent this
abbrev pub has_sent : Act → Held → Option Held → Sides
has_sent act h None h' s' = false
has_sent act h (Some left) h' s' = is_side (left_unseen act h left) (Some (record { act = act; age = age_sent act h })) h' s'

abbrev pub replies_by : Asked → Due → Act → Held → Sides
replies_by a d act h h' s' = allows act (snoop_of a) && has_sent act h (acts Hidden act true (lets_go (snoop_of a)) d h) h' s'

-- each that it may send
abbrev pub is_awaiting : Asked → Bool
is_awaiting NoReply = false
is_awaiting a = true

abbrev pub each_reply : Asked → Due → Held → Sides
each_reply a d h h' s' = any_below 11 (λ n. replies_by a d (act_at a n) h h' s')

abbrev pub replies : Asked → Due → Held → Option Reply → Sides
replies a d h (Some r) h' s' = false
replies a d h None h' s' = is_awaiting a && each_reply a d h h' s'

-- a store or a drop
abbrev pub free_of : Held → Option Reply → Sides
free_of h s h' s' = (is_unique h.copy && is_side (stored_to h) (aged followed s) h' s') || (is_clean h.copy && is_side (dropped h) s h' s')

-- of which this is due
abbrev pub slips_so : Due → Held → Option Reply → Sides
slips_so d h s h' s' = is_side h s h' s' || ((is_resending d && is_side (freed d h) s h' s') || (is_free d h && free_of h s h' s'))

abbrev pub unseen_of : Due → Asked → Held → Option Reply → Sides
unseen_of d a h s h' s' = slips_so d h s h' s' || replies a d h s h' s'

-- a request that it sends while this is due
abbrev pub asks_by : Act → Due → Held → Option Reply → Sides
asks_by act d h s h' s' = leaves (acts Hidden act true false d h) h' && same_sent s s'

-- what is due of a request on its way: nothing but a reply is sent meanwhile
abbrev pub underway : Due
underway = Completion MakeInvalid

-- A FLIT THAT COMES, or goes, of those with one request on their way, or none
abbrev pub side : Held → Option Reply → Member
side h s = record { held = h; request = None; reply = s }

-- a reply that comes with words of such an age
abbrev pub comes_so : Coming → Age → Bool
comes_so c e = not (tells_words c.act) || ((not (is_own e) || c.own) && (not (is_last e) || c.last))

abbrev pub brings_by : Coming → Option Reply → Bool
brings_by c None = false
brings_by c (Some r) = number_of r.act == number_of c.act && comes_so c r.age

abbrev pub behind : Bool → Held → Option Reply → Sides
behind stored h s h' s' = is_side (with_mark h stored) (aged outrun s) h' s'

-- another's words have come, which may be of these ages
abbrev pub passes_so : Ages → Held → Option Reply → Sides
passes_so e h s h' s' = ((e.own || e.older) && is_side h s h' s')
    || ((e.past && behind h.stored h s h' s') || (e.last && (not (comes (side h s)) && behind (h.stored && not (is_gone (side h s))) h s h' s')))

abbrev pub moves : Move → Asked → Held → Option Reply → Sides
moves (Unseen d) a h s h' s' = unseen_of (free_due d a s) a h s h' s'
moves Busy a h s h' s' = unseen_of underway a h s h' s'
moves (Asks act d) a h s h' s' = asks_by act (free_due d a s) h s h' s'
moves (Brings c) a h s h' s' = brings_by c s && is_side (with_mark h (h.stored && not (comes (side h s)))) None h' s'
moves (Passes e) a h s h' s' = passes_so e h s h' s'
moves Drops a h s h' s' = is_side h None h' s'
moves ForgetsOwn a h s h' s' = behind (kept (side h s)) h s h' s'
moves Forgets a h s h' s' = behind (h.stored && not (is_gone (side h s))) h s h' s'
moves (Gains g d) a h s h' s' = same_member (gained g d (side h s)) (side h' s')
moves (Beholds g d) a h s h' s' = beheld g d (side h s) (side h' s')

-- the rows that stand for a reply
abbrev pub is_row : Asked → ℕ → Bool
is_row a p = row_of a (reply_at a p) == p

abbrev pub of_row : (Held → Option Reply → Sides) → Asked → SidesCode → ℕ → Sides
of_row R a c p h' s' = is_row a p && row_image R (members (copies_at c.rows p)) (reply_at a p) h' s'

-- MEMBERS: requests that the same copies send, and leave alike, are of one class, named by one of them; a place for each class, one for
-- the request that is sent again, and one for none
abbrev pub class_of : Kind → ℕ
class_of ReadNotSharedDirty = 1
class_of ReadShared = 1
class_of ReadClean = 1
class_of ReadUnique = 2
class_of CleanUnique = 2
class_of MakeUnique = 2
class_of CleanShared = 3
class_of ReadOnce = 4
class_of CleanInvalid = 4
class_of MakeInvalid = 4
class_of WriteUniqueFull = 4
class_of Evict = 5
class_of WriteBackFull = 6
class_of WriteCleanFull = 6
class_of WriteEvictFull = 7

abbrev pub kind_of_class : ℕ → Kind
kind_of_class n = if n == 1 then ReadNotSharedDirty else (if n == 2 then ReadUnique else (if n == 3 then CleanShared else (if n == 4 then ReadOnce else (if n == 5 then Evict else (if n == 6 then WriteBackFull else WriteEvictFull)))))

abbrev pub place_of_request : Due → Option Act → ℕ
place_of_request d None = 0
place_of_request d (Some (Request kind)) = class_of kind
place_of_request d (Some (Resend kind)) = if is_resent kind d then 8 else 9
place_of_request d (Some other) = 9

-- and the request of each place
abbrev pub resent_of : Due → Kind
resent_of (Resending kind) = kind
resent_of d = MakeInvalid

abbrev pub request_at : Due → ℕ → Option Act
request_at d p = if p == 0 then None else (if p == 8 then Some (Resend (resent_of d)) else Some (Request (kind_of_class p)))

-- of which nothing is told
abbrev pub no_rows : SidesCode
no_rows = record { rows = [] }

abbrev pub sides_at : MembersCode → ℕ → SidesCode
sides_at c p = slice_index_or c.sides p no_rows

abbrev pub members_by : Due → (ℕ → Sides) → Members
members_by d T m = T (place_of_request d m.request) m.held m.reply

abbrev pub members_of : Due → Asked → MembersCode → Members
members_of d a c = members_by d (λ p. sides_of a (sides_at c p))

-- ONE UNSEEN STEP, or none, of those with such a request on its way: none is, or what is here, and a request of those with none
abbrev pub stepped : Due → Asked → Option Act → Sides → Sides → Sides
stepped d a None rest here h s = side_image (moves (Unseen d) a) rest h s
stepped d a (Some act) rest here h s = side_image (moves Busy a) here h s || side_image (moves (Asks act d) a) rest h s

-- the home never knows of write data that are due
abbrev pub is_data_due : Due → Bool
is_data_due (WriteData kind) = true
is_data_due other = false

-- what becomes of a side becomes of each member with it
abbrev pub member_moves : Move → Asked → Member → Members
member_moves step a m k = same_option same_flit m.request k.request && moves step a m.held m.reply k.held k.reply

-- those with nothing but a request on their way
abbrev pub rests : Sides → Sides
rests S h None = S h None
rests S h (Some r) = false

-- WHAT IS ASKED of a set
abbrev pub reply_passes : ReplyTest → Option Reply → Bool
reply_passes Any s = true
reply_passes Comes s = has_words_so is_last s
reply_passes Stays s = not (has_words_so is_last s)
reply_passes (Words c e) s = brings_by c s && has_words_so (λ x. number_of_age x == number_of_age e) s

abbrev pub any_side : (Held → Option Reply → Bool) → Sides → Bool
any_side F S = any_held (λ h. any_or any_sent (λ s. S h s && F h s))

abbrev pub side_passes : ReplyTest → CopiesCode → Held → Option Reply → Bool
side_passes test of h s = reply_passes test s && members of h

-- the places that stand for a request, or for none
abbrev pub is_place : Due → ℕ → Bool
is_place d p = place_of_request d (request_at d p) == p

-- the copies of a set's members
abbrev pub copies_of : Members → Copies
copies_of S h = any_of S (λ m. same_held m.held h)

abbrev pub passes_at_row : ReplyTest → CopiesCode → Asked → SidesCode → ℕ → Bool
passes_at_row test of a c p = is_row a p && (reply_passes test (reply_at a p) && held_any (members (copies_at c.rows p)) (members of))

abbrev pub copies_at_row : Asked → SidesCode → ℕ → Copies
copies_at_row a c p h = is_row a p && members (copies_at c.rows p) h

abbrev pub side_copies : Sides → Copies
side_copies S h = any_side (λ g s. same_held g h) S

abbrev pub is_asking : Act → Bool
is_asking (Request kind) = true
is_asking (Resend kind) = true
is_asking other = false

-- an answer, or write data
abbrev pub gives_away : Act → Bool
gives_away (SnpResp answer) = true
gives_away (CopyBackWrData form) = true
gives_away NonCopyBackWrData = true
gives_away other = false

abbrev pub is_none : Option Reply → Bool
is_none None = true
is_none (Some r) = false

abbrev pub rest_of : Members → Members
rest_of S m = is_none m.reply && S m

abbrev pub member_passes : ReplyTest → CopiesCode → Member → Bool
member_passes test of m = side_passes test of m.held m.reply

abbrev pub passes_at_place : ReplyTest → CopiesCode → Due → Asked → MembersCode → ℕ → Bool
passes_at_place test of d a c p = is_place d p && any_side (side_passes test of) (sides_of a (sides_at c p))

abbrev pub copies_at_place : Due → Asked → MembersCode → ℕ → Copies
copies_at_place d a c p h = is_place d p && side_copies (sides_of a (sides_at c p)) h

-- no copy, and nothing on its way
abbrev pub nothing_sent : Member
nothing_sent = record { held = plain Invalid; request = None; reply = None }

-- AN AGENT: what the home knows of it, and what it may be
abbrev pub due_of : Facts → Due
due_of f = due_then (due_is f.due)

abbrev pub may_of : Standing → Members
may_of x = members_of (due_of x.facts) x.facts.asked x.members

-- behind unseen steps
pub record Settles (x y : Standing) : Type 0 where
  pub facts : y.facts ≡ x.facts
  pub may : (m : Member) → may_of y m ≡ loose (due_of x.facts) x.facts.asked (may_of x) m

-- behind a flit of another agent, or to it
abbrev pub beheld_by : Bool → Move → Standing → Members
beheld_by own step x = if own then may_of x else led (member_moves step x.facts.asked) (may_of x)

pub record Beheld (own : Bool) (step : Move) (x y : Standing) : Type 0 where
  pub facts : y.facts ≡ x.facts
  pub may : (m : Member) → may_of y m ≡ beheld_by own step x m

-- behind a request that comes
pub record Requested (act : Act) (x y : Standing) : Type 0 where
  pub due : due_of y.facts ≡ due_after act (due_of x.facts)
  pub asked : y.facts.asked ≡ x.facts.asked
  pub acks : y.facts.acks ≡ x.facts.acks
  pub overtaken : y.facts.overtaken ≡ x.facts.overtaken
  pub may : (m : Member) → may_of y m ≡ led (came act) (may_of x) m

-- behind a reply that comes, and of which ages its words may be
abbrev pub brought : Coming → Standing → Members
brought c x = led (member_moves (Brings c) x.facts.asked) (may_of x)

pub record Answered (c : Coming) (x y : Standing) : Type 0 where
  pub due : y.facts.due ≡ x.facts.due
  pub asked : y.facts.asked ≡ NoReply
  pub acks : y.facts.acks ≡ x.facts.acks
  pub overtaken : y.facts.overtaken ≡ x.facts.overtaken
  pub may : (m : Member) → may_of y m ≡ brought c x m

abbrev pub words_at : Coming → Age → Members → Bool
words_at c e S = any_of S (λ m. brings_by c m.reply && has_words_so (λ x. number_of_age x == number_of_age e) m.reply)

abbrev pub ages_of : Coming → Members → Ages
ages_of c S = if tells_words c.act then record { own = words_at c Own S; last = words_at c Last S; past = words_at c Past S; older = words_at c Older S }
    else record { own = true; last = false; past = false; older = false }

-- behind a CompAck that comes
pub record Acknowledged (x y : Standing) : Type 0 where
  pub due : y.facts.due ≡ x.facts.due
  pub asked : y.facts.asked ≡ x.facts.asked
  pub acks : y.facts.acks ≡ x.facts.acks - 1
  pub overtaken : y.facts.overtaken ≡ x.facts.overtaken
  pub members : y.members ≡ x.members

-- behind write data that a later completion has overtaken
pub record Forgot (x y : Standing) : Type 0 where
  pub due : y.facts.due ≡ x.facts.due
  pub asked : y.facts.asked ≡ x.facts.asked
  pub acks : y.facts.acks ≡ x.facts.acks
  pub overtaken : y.facts.overtaken ≡ x.facts.overtaken - 1
  pub may : (m : Member) → may_of y m ≡ led (member_moves ForgetsOwn x.facts.asked) (may_of x) m

-- behind a flit of the home to it
pub record Gained (g : Grant) (x y : Standing) : Type 0 where
  pub facts : y.facts ≡ x.facts
  pub may : (m : Member) → may_of y m ≡ led (λ m k. same_member (gained g (due_of x.facts) m) k) (may_of x) m

-- the home's words behind words of such ages
abbrev pub home_by : Option (List ℕ) → CacheFlit → Ages → Option (List ℕ)
home_by home f e = if not (tells_words f.act && (e.last || e.past)) || is_shown home f then home else (if e.own || e.older then None else Some f.shown)

-- AN OBSERVER of a line
abbrev pub nobody : Standing
nobody = record { facts = record { due = record { 0 = 0 }; asked = NoReply; acks = 0; overtaken = 0 }; members = record { sides = [] } }

abbrev pub agent_at : List Standing → ℕ → Standing
agent_at agents n = slice_index_or agents n nobody

abbrev pub received_by : List Standing → Bool → Option (List ℕ) → Received
received_by agents duty home = record {
  due = λ n. due_of (agent_at agents n).facts;
  asked = λ n. (agent_at agents n).facts.asked;
  acks = λ n. (agent_at agents n).facts.acks;
  overtaken = λ n. (agent_at agents n).facts.overtaken;
  duty = duty;
  may = λ n. may_of (agent_at agents n);
  home = home;
}

abbrev pub received : Arriving → Received
received s = received_by s.agents s.duty s.home

-- the reply that a flit is, beside what is kept
abbrev pub coming_of : Received → CacheFlit → Coming
coming_of o f = record { act = f.act; own = fits_home o.home f.shown; last = not (is_elsewhere o f.agent.0) }

-- WHY A FLIT ISN'T TAKEN: the first row that holds
abbrev pub is_taken : Received → Bool → CacheFlit → Bool
is_taken o late f = nat_lt f.agent.0 32 && takes_received o late f

abbrev pub arriving_refusal : Received → Bool → CacheFlit → Option Reason
arriving_refusal o late f = if not (nat_lt f.agent.0 32) then Some NoAgent else (if not (takes_received o late f) then Some NotSent else None)

-- the home knows of nothing of an agent
pub record KnowsNothing (o : Received) (n : ℕ) : Type 0 where
  pub due : o.due n ≡ Nothing
  pub asked : o.asked n ≡ NoReply
  pub acks : o.acks n ≡ 0
  pub overtaken : o.overtaken n ≡ 0
