-- A log that is taken at the home: each agent as it may be, with the flits that it has sent and the home hasn't received, and the
-- observer of such a log, which keeps a set of these for each agent (docs/COPIES.md, "Seen at the home").
use Rattle.std.specs.Prelude.{ℕ, suc, zero, ◌-◌, ◌+◌, ◌==◌, List, Bool, true, false, ◌&&◌, ◌||◌, not, nat_lt, Option, Some, None, if◌then◌else◌}
use Rattle.chi_flit.specs.declared.state.State.{State}
use Rattle.chi_flit.specs.declared.state.State.TheVariants as forms
use Rattle.chi_observer.specs.declared.kinds.Snoop.{Snoop}
use Rattle.chi_observer.specs.declared.kinds.Kind.{Kind}
use Rattle.chi_observer.specs.declared.flits.Answer.{Answer}
use Rattle.chi_observer.specs.declared.flits.Answer.TheVariants.{SnpRespI, SnpRespSC, SnpRespUC, SnpRespDataI, SnpRespDataSC, SnpRespDataUC, SnpRespDataUD, SnpRespDataSD, SnpRespDataIPD, SnpRespDataSCPD, SnpRespDataUCPD}
use Rattle.chi_observer.specs.declared.flits.Due.{Due}
use Rattle.chi_observer.specs.declared.flits.Due.TheVariants.{Nothing, Resending, WriteData, Acknowledgement}
use Rattle.chi_observer.specs.declared.flits.Stores.TheVariants.{Hidden}
use Rattle.chi_observer.specs.declared.flits.Act.{Act}
use Rattle.chi_observer.specs.declared.flits.Act.TheVariants.{Request, Resend, SnpResp, CompAck, CopyBackWrData, NonCopyBackWrData}
use Rattle.chi_observer.specs.declared.flits.Grant.{Grant}
use Rattle.chi_observer.specs.declared.flits.Grant.TheVariants.{RetryAck, Snp, CompDBIDResp}
use Rattle.chi_observer.specs.declared.flits.CacheFlit.{CacheFlit}
use Rattle.chi_observer.specs.declared.flits.HomeFlit.{HomeFlit}
use Rattle.chi_observer.specs.declared.flits.Flit.{Flit}
use Rattle.chi_observer.specs.declared.flits.Flit.TheVariants.{Up, Down}
use Rattle.chi_observer.specs.Copies.{copy_of, holds_data, is_unique, is_dirty, is_clean, same, compatible}
use Rattle.chi_observer.specs.Copies.Copy.{Invalid}
use Rattle.chi_observer.specs.Rules.{same_kind, is_resending, is_upgraded, is_written_whole, awaits_moment, reads_once, needs_moment, needs_quiet, needs_duty, needs_alone, allows, lets_go, left_by, due_after, due_granted, tells_words, writes, passes_duty, makes, settles, copy_granted, is_acknowledging}
use Rattle.chi_copies.specs.declared.replies.Age.{Age}
use Rattle.chi_copies.specs.declared.replies.Age.TheVariants.{Own, Last, Past, Older}
use Rattle.chi_copies.specs.declared.replies.Reply.{Reply}
use Rattle.chi_copies.specs.declared.replies.Asked.{Asked}
use Rattle.chi_copies.specs.declared.replies.Asked.TheVariants.{NoReply, AnswerTo, DataOf}
use Rattle.chi_copies.specs.Copies.{Held, plain, same_held, is_fresh, any_held}
use Rattle.chi_copies.specs.Rules.{acts, is_free, freed, stored_to, dropped, fills, shows}
use Rattle.chi_copies.specs.Worlds.{Public, all_below, put, home_may}
use Rattle.chi_copies.specs.Observed.{fits_home}
use Rattle.chi_copies.specs.Sets.{place_of_copy, any_below}
use Rattle.chi_copies.specs.Dues.{kind_at}
use Rattle.chi_copies.specs.Moments.{is_issue}

-- ONE AGENT
-- its copy; and of what it has sent a request, or one that is sent again, and a reply on their way. A CompAck is sent with its
-- completion: until then its agent does nothing
pub record Member : Type 0 where
  pub held : Held
  pub request : Option Act
  pub reply : Option Reply

abbrev pub Members : Type 0
Members = Member → Bool

abbrev pub snoop_of : Asked → Option Snoop
snoop_of (AnswerTo snoop) = Some snoop
snoop_of other = None

abbrev pub awaits_data : Asked → Bool
awaits_data (DataOf kind) = true
awaits_data other = false

-- what is due of its request as the agent knows it, of which the home knows d
abbrev pub due_unsent : Asked → Option Reply → Due
due_unsent (DataOf kind) None = WriteData kind
due_unsent a sent = Nothing

abbrev pub due_by : Option Act → Due → Due → Due
due_by (Some a) d unsent = due_after a d
due_by None Nothing unsent = unsent
due_by None d unsent = d

abbrev pub own_due : Due → Asked → Member → Due
own_due d a m = due_by m.request d (due_unsent a m.reply)

-- the snoop that it hasn't answered
abbrev pub own_snoop : Asked → Option Reply → Option Snoop
own_snoop a None = snoop_of a
own_snoop a sent = None

-- WORDS ON THEIR WAY
abbrev pub is_last : Age → Bool
is_last Last = true
is_last other = false

abbrev pub is_own : Age → Bool
is_own Own = true
is_own other = false

-- the home has them then
abbrev pub is_new : Age → Bool
is_new Last = true
is_new Past = true
is_new other = false

-- behind a store
abbrev pub followed : Age → Age
followed Last = Past
followed other = other

-- behind newer ones that the home has received
abbrev pub outrun : Age → Age
outrun Last = Last
outrun other = Older

abbrev pub aged : (Age → Age) → Option Reply → Option Reply
aged f None = None
aged f (Some r) = Some (record { act = r.act; age = f r.age })

abbrev pub has_words_so : (Age → Bool) → Option Reply → Bool
has_words_so f None = false
has_words_so f (Some r) = tells_words r.act && f r.age

-- the value last stored is on its way
abbrev pub comes : Member → Bool
comes m = has_words_so is_last m.reply

-- and is lost otherwise
abbrev pub is_gone : Member → Bool
is_gone m = m.held.stored && (not (holds_data m.held.copy) && not (comes m))

abbrev pub with_held : Member → Held → Member
with_held m h = record { held = h; request = m.request; reply = m.reply }

abbrev pub with_mark : Held → Bool → Held
with_mark h b = record { copy = h.copy; cancelled = h.cancelled; stored = b }

-- the home has its words
abbrev pub cleared : Member → Member
cleared m = with_held m (with_mark m.held false)

-- another agent makes the value
abbrev pub replaced : Member → Member
replaced m = record { held = with_mark m.held false; request = m.request; reply = aged followed m.reply }

-- UNSEEN STEPS
-- the age of the words that it sends of such a copy
abbrev pub age_sent : Act → Held → Age
age_sent a h = if h.stored || writes a then Last else Own

-- the home hasn't what is sent: a copy that was stored to stays so
abbrev pub left_unseen : Act → Held → Held → Held
left_unseen a h left = with_mark left (if tells_words a then h.stored || writes a else left.stored)

abbrev pub sent : Act → Member → Held → Member
sent (Request kind) m left = record { held = left; request = Some (Request kind); reply = m.reply }
sent (Resend kind) m left = record { held = left; request = Some (Resend kind); reply = m.reply }
sent a m left = record { held = left_unseen a m.held left; request = m.request; reply = Some (record { act = a; age = age_sent a m.held }) }

abbrev pub sent_of : Act → Member → Option Held → Option Member
sent_of a m None = None
sent_of a m (Some left) = Some (sent a m left)

-- a flit that its copy lets it send goes on its way
abbrev pub sends : Due → Asked → Act → Member → Option Member
sends d a act m = if allows act (own_snoop a m.reply) then sent_of act m (acts Hidden act true (lets_go (own_snoop a m.reply)) (own_due d a m) m.held) else None

abbrev pub stores : Member → Member
stores m = record { held = stored_to m.held; request = m.request; reply = aged followed m.reply }

-- SETS
abbrev pub any_kind : (Kind → Bool) → Bool
any_kind f = any_below 16 (λ n. f (kind_at n))

abbrev pub any_request : (Act → Bool) → Bool
any_request f = any_kind (λ kind. f (Request kind) || f (Resend kind))

abbrev pub any_answer : (Answer → Bool) → Bool
any_answer f = f SnpRespI || (f SnpRespSC || (f SnpRespUC || (f SnpRespDataI || (f SnpRespDataSC || (f SnpRespDataUC || (f SnpRespDataUD || (f SnpRespDataSD || (f SnpRespDataIPD || (f SnpRespDataSCPD || f SnpRespDataUCPD)))))))))

abbrev pub any_form : (State → Bool) → Bool
any_form f = f forms.I || (f forms.SC || (f forms.UC || (f forms.UD || f forms.SD)))

abbrev pub any_reply : (Act → Bool) → Bool
any_reply f = any_answer (λ answer. f (SnpResp answer)) || (any_form (λ form. f (CopyBackWrData form)) || f NonCopyBackWrData)

abbrev pub any_age : (Age → Bool) → Bool
any_age f = f Own || (f Last || (f Past || f Older))

-- an age matters where there are words alone
abbrev pub any_sent : (Reply → Bool) → Bool
any_sent f = any_reply (λ a. any_age (λ e. f (record { act = a; age = e })))

-- none, or some
abbrev pub any_or : {A : Type 0} → ((A → Bool) → Bool) → (Option A → Bool) → Bool
any_or some f = f None || some (λ x. f (Some x))

abbrev pub any_member : (Member → Bool) → Bool
any_member f = any_held (λ h. any_or any_request (λ r. any_or any_sent (λ s. f (record { held = h; request = r; reply = s }))))

-- equal flits have equal numbers
abbrev pub number_of : Act → ℕ
number_of (SnpResp SnpRespI) = 0
number_of (SnpResp SnpRespSC) = 1
number_of (SnpResp SnpRespUC) = 2
number_of (SnpResp SnpRespDataI) = 3
number_of (SnpResp SnpRespDataSC) = 4
number_of (SnpResp SnpRespDataUC) = 5
number_of (SnpResp SnpRespDataUD) = 6
number_of (SnpResp SnpRespDataSD) = 7
number_of (SnpResp SnpRespDataIPD) = 8
number_of (SnpResp SnpRespDataSCPD) = 9
number_of (SnpResp SnpRespDataUCPD) = 10
number_of NonCopyBackWrData = 11
number_of (CopyBackWrData form) = 12 + place_of_copy (copy_of form)
number_of other = 20

abbrev pub same_flit : Act → Act → Bool
same_flit (Request kind) (Request other) = same_kind kind other
same_flit (Resend kind) (Resend other) = same_kind kind other
same_flit (Request kind) b = false
same_flit (Resend kind) b = false
same_flit a (Request kind) = false
same_flit a (Resend kind) = false
same_flit a b = number_of a == number_of b

abbrev pub number_of_age : Age → ℕ
number_of_age Own = 0
number_of_age Last = 1
number_of_age Past = 2
number_of_age Older = 3

abbrev pub same_option : {A : Type 0} → (A → A → Bool) → Option A → Option A → Bool
same_option f None None = true
same_option f (Some x) (Some y) = f x y
same_option f x y = false

abbrev pub same_member : Member → Member → Bool
same_member m k = same_held m.held k.held && (same_option same_flit m.request k.request && same_option (λ r s. same_flit r.act s.act && number_of_age r.age == number_of_age s.age) m.reply k.reply)

abbrev pub is_some : Option Member → Member → Bool
is_some None k = false
is_some (Some m) k = same_member m k

-- those that the members of a set lead to
abbrev pub led : (Member → Members) → Members → Members
led R S k = any_member (λ m. S m && R m k)

-- one unseen step: a retried request is cancelled; a store to a unique copy, a drop of a clean one; or a flit is sent
abbrev pub steps : Due → Asked → Member → Members
steps d a m k = same_member m k || ((is_resending (own_due d a m) && same_member (with_held m (freed (own_due d a m) m.held)) k)
    || ((is_free (own_due d a m) m.held && ((is_unique m.held.copy && same_member (stores m) k) || (is_clean m.held.copy && same_member (with_held m (dropped m.held)) k)))
    || (any_request (λ act. is_some (sends d a act m) k) || any_reply (λ act. is_some (sends d a act m) k))))

-- there are five at most: a cancel, a store or a drop, a reply, one more, and a request
abbrev pub times : ℕ → (Members → Members) → Members → Members
times zero f S = S
times (suc n) f S = times n f (f S)

abbrev pub loose : Due → Asked → Members → Members
loose d a S = times 5 (led (steps d a)) S

-- THE OBSERVER
-- what flits say by themselves: of each agent its request that the home has, the reply that the home awaits, CompAcks on their way, and
-- write data on their way that a later completion of the agent has overtaken; and whether the home has dirty data that it must write.
-- Then what each agent may be, behind unseen steps; and the home's words, where flits have shown them
pub record Received : Type 0 where
  pub due : ℕ → Due
  pub asked : ℕ → Asked
  pub acks : ℕ → ℕ
  pub overtaken : ℕ → ℕ
  pub duty : Bool
  pub may : ℕ → Members
  pub home : Option (List ℕ)

abbrev pub nothing_received : Received
nothing_received = record {
  due = λ _. Nothing;
  asked = λ _. NoReply;
  acks = λ _. 0;
  overtaken = λ _. 0;
  duty = false;
  home = None;
  may = λ _. loose Nothing NoReply (same_member (record { held = plain Invalid; request = None; reply = None }));
}

abbrev pub any_of : Members → (Member → Bool) → Bool
any_of S f = any_member (λ m. S m && f m)

-- each set takes unseen steps
abbrev pub settled : Received → Received
settled o = record { due = o.due; asked = o.asked; acks = o.acks; overtaken = o.overtaken; duty = o.duty; home = o.home; may = λ n. loose (o.due n) (o.asked n) (o.may n) }

-- A REQUEST that comes
abbrev pub came : Act → Member → Members
came a m k = same_option same_flit m.request (Some a) && same_member (record { held = m.held; request = None; reply = m.reply }) k

abbrev pub may_come : Act → Due → Bool
may_come (Resend kind) (Resending asked) = same_kind kind asked
may_come (Request kind) Nothing = true
may_come (Request kind) (Resending asked) = true
may_come a d = false

abbrev pub requested : Received → CacheFlit → Received
requested o f = record {
  due = put f.agent.0 (due_after f.act (o.due f.agent.0)) o.due;
  asked = o.asked;
  acks = o.acks;
  overtaken = o.overtaken;
  duty = o.duty;
  home = o.home;
  may = put f.agent.0 (led (came f.act) (o.may f.agent.0)) o.may;
}

-- A REPLY that comes: from a set elsewhere each member has the value last stored on its way, so this one hasn't; the home's own words
-- are those that it has shown
abbrev pub is_elsewhere : Received → ℕ → Bool
is_elsewhere o n = not (all_below 32 (λ m. m == n || any_of (o.may m) (λ k. not (comes k))))

abbrev pub may_be : Received → CacheFlit → Reply → Bool
may_be o f r = same_flit r.act f.act && (not (tells_words f.act) || ((not (is_own r.age) || fits_home o.home f.shown) && (not (is_last r.age) || not (is_elsewhere o f.agent.0))))

abbrev pub brings : Received → CacheFlit → Option Reply → Bool
brings o f None = false
brings o f (Some r) = may_be o f r

abbrev pub replied : Received → CacheFlit → Member → Members
replied o f m k = brings o f m.reply && same_member (record { held = with_mark m.held (m.held.stored && not (comes m)); request = m.request; reply = None }) k

-- whether it may bring words of such an age
abbrev pub may_bring : Received → CacheFlit → (Age → Bool) → Bool
may_bring o f g = any_of (o.may f.agent.0) (λ m. brings o f m.reply && has_words_so g m.reply)

-- f: whether the home hasn't its words still, behind others that the home has received
abbrev pub behind_words : (Member → Bool) → Member → Members
behind_words f m k = same_member (record { held = with_mark m.held (f m); request = m.request; reply = aged outrun m.reply }) k

-- another agent's member behind words of such an age: those sent before are older, and no value is lost
abbrev pub passed : Age → Member → Members
passed Last m k = not (comes m) && behind_words (λ j. j.held.stored && not (is_gone j)) m k
passed Past m k = behind_words (λ j. j.held.stored) m k
passed other m k = same_member m k

abbrev pub passed_by : Received → CacheFlit → Member → Members
passed_by o f m k = if tells_words f.act then any_age (λ e. may_bring o f (λ g. number_of_age g == number_of_age e) && passed e m k) else same_member m k

-- the home takes new words; it isn't known which it has where they may as well be old
abbrev pub is_shown : Option (List ℕ) → CacheFlit → Bool
is_shown None f = false
is_shown (Some words) f = fits_home (Some words) f.shown

abbrev pub home_then : Received → CacheFlit → Option (List ℕ)
home_then o f = if not (tells_words f.act && may_bring o f is_new) || is_shown o.home f then o.home
    else (if may_bring o f (λ e. not (is_new e)) then None else Some f.shown)

abbrev pub answered : Received → CacheFlit → Received
answered o f = record {
  due = o.due;
  acks = o.acks;
  overtaken = o.overtaken;
  asked = put f.agent.0 NoReply o.asked;
  duty = o.duty || passes_duty f.act;
  home = home_then o f;
  may = put f.agent.0 (led (replied o f) (o.may f.agent.0)) (λ m. led (passed_by o f) (o.may m));
}

-- WRITE DATA that a later completion has overtaken, of an unknown age: the home may have any words then, and the value if none was
-- stored since
abbrev pub kept : Member → Bool
kept m = m.held.stored && (is_dirty m.held.copy || comes m)

abbrev pub forgot : Received → CacheFlit → Received
forgot o f = record {
  due = o.due;
  asked = o.asked;
  acks = o.acks;
  overtaken = put f.agent.0 (o.overtaken f.agent.0 - 1) o.overtaken;
  duty = o.duty || passes_duty f.act;
  home = None;
  may = put f.agent.0 (led (behind_words kept) (o.may f.agent.0)) (λ m. led (behind_words (λ k. k.held.stored && not (is_gone k))) (o.may m));
}

abbrev pub acknowledged : Received → ℕ → Received
acknowledged o n = record { due = o.due; asked = o.asked; acks = put n (o.acks n - 1) o.acks; overtaken = o.overtaken; duty = o.duty; home = o.home; may = o.may }

-- A FLIT OF A CACHE that comes; late: it follows a completion that a later one of its agent has overtaken
abbrev pub request_comes : Received → CacheFlit → Bool
request_comes o f = may_come f.act (o.due f.agent.0) && any_member (led (came f.act) (o.may f.agent.0))

abbrev pub data_come : Received → Bool → CacheFlit → Bool
data_come o true f = nat_lt 0 (o.overtaken f.agent.0)
data_come o false f = any_member (led (replied o f) (o.may f.agent.0))

abbrev pub received_by : Act → Received → Bool → CacheFlit → Bool
received_by (Request kind) o late f = request_comes o f
received_by (Resend kind) o late f = request_comes o f
received_by CompAck o late f = nat_lt 0 (o.acks f.agent.0)
received_by (SnpResp answer) o late f = data_come o false f
received_by (CopyBackWrData form) o late f = data_come o late f
received_by NonCopyBackWrData o late f = data_come o late f
received_by other o late f = false

abbrev pub takes_received : Received → Bool → CacheFlit → Bool
takes_received o late f = received_by f.act o late f

abbrev pub received_then : Act → Received → Bool → CacheFlit → Received
received_then (Request kind) o late f = requested o f
received_then (Resend kind) o late f = requested o f
received_then CompAck o late f = acknowledged o f.agent.0
received_then (SnpResp answer) o late f = answered o f
received_then a o late f = if late then forgot o f else answered o f

abbrev pub next_received : Received → Bool → CacheFlit → Received
next_received o late f = settled (received_then f.act o late f)

-- A FLIT OF THE HOME
-- what flits say, as in a log that is as sent
abbrev pub heard : Received → Public
heard o = record { stores = Hidden; due = o.due; snooped = λ n. snoop_of (o.asked n); duty = o.duty }

-- no CompAck and no write data are on their way
abbrev pub is_quiet : Received → Bool
is_quiet o = all_below 32 (λ n. not (nat_lt 0 (o.acks n)) && (not (nat_lt 0 (o.overtaken n)) && not (awaits_data (o.asked n))))

-- its agent then: the value that is on its way stays the value, unless one is made
abbrev pub gained : Grant → Due → Member → Member
gained g d m = record {
  held = record { copy = copy_granted g d m.held.copy; cancelled = m.held.cancelled; stored = makes g d || (m.held.stored && not (settles g d && is_gone m)) };
  request = m.request;
  reply = if makes g d then aged followed m.reply else m.reply;
}

-- another agent then: one whose agent may write the line without its words may do it unseen
abbrev pub may_write : Due → Bool
may_write d = is_upgraded d || is_written_whole d

abbrev pub is_completion : Grant → Bool
is_completion RetryAck = false
is_completion (Snp snoop) = false
is_completion other = true

abbrev pub beheld : Grant → Due → Member → Members
beheld g d m k = if makes g d then same_member (replaced m) k
    else (if settles g d && is_gone m then same_member (cleared m) k
    else same_member m k || (is_completion g && (may_write d && (comes m && same_member (replaced m) k))))

-- two agents may be so together: by the standard, and no copy has the home's words where the home hasn't the value
abbrev pub goes_with : Member → Member → Bool
goes_with m k = compatible m.held.copy k.held.copy && (not (m.held.stored && is_fresh k.held) && not (is_fresh m.held && k.held.stored))

abbrev pub all_with : Members → Members → Bool
all_with S T = not (any_of S (λ m. any_of T (λ k. not (goes_with m k))))

abbrev pub got : Received → HomeFlit → Members
got o g = led (λ m k. same_member (gained g.grant (o.due g.agent.0) m) k) (o.may g.agent.0)

abbrev pub others : Received → HomeFlit → ℕ → Members
others o g n = led (beheld g.grant (o.due g.agent.0)) (o.may n)

abbrev pub is_left_alone : Received → HomeFlit → Bool
is_left_alone o g = not (needs_alone g.grant (o.due g.agent.0)) || (all_below 32 (λ n. n == g.agent.0 || not (any_of (o.may n) (λ k. not (same k.held.copy Invalid))))
    && (settles g.grant (o.due g.agent.0) || all_below 32 (λ n. not (any_of (o.may n) comes))))

-- it is due; its words are the home's; no copy is filled while the home hasn't the value; and it leaves all in order
abbrev pub takes_given : Received → HomeFlit → Bool
takes_given o g = home_may (heard o) g && ((not (needs_quiet g.grant) || is_quiet o)
    && ((not (any_of (o.may g.agent.0) (λ m. shows g.grant m.held)) || fits_home o.home g.shown)
    && (not (any_of (o.may g.agent.0) (λ m. fills g.grant m.held && m.held.stored))
    && (is_left_alone o g && all_below 32 (λ n. n == g.agent.0 || all_with (got o g) (others o g n))))))

abbrev pub due_then : Due → Due
due_then (WriteData kind) = Nothing
due_then Acknowledgement = Nothing
due_then d = d

abbrev pub asked_then : Grant → Due → Asked → Asked
asked_then (Snp snoop) d a = AnswerTo snoop
asked_then RetryAck d a = a
asked_then g (WriteData kind) a = DataOf kind
asked_then g d (DataOf kind) = NoReply
asked_then g d a = a

-- a completion overtakes write data of its agent
abbrev pub overtakes : Grant → Asked → Bool
overtakes g a = is_completion g && awaits_data a

abbrev pub given_reply : Bool → Member → Member
given_reply late m = record { held = m.held; request = m.request; reply = if late then None else m.reply }

abbrev pub count : Bool → ℕ
count true = 1
count false = 0

-- before unseen steps
abbrev pub behind_given : Received → HomeFlit → Received
behind_given o g = record {
  due = put g.agent.0 (due_then (due_granted g.grant (o.due g.agent.0))) o.due;
  asked = put g.agent.0 (asked_then g.grant (due_granted g.grant (o.due g.agent.0)) (o.asked g.agent.0)) o.asked;
  acks = put g.agent.0 (o.acks g.agent.0 + count (is_acknowledging (due_granted g.grant (o.due g.agent.0)))) o.acks;
  overtaken = put g.agent.0 (o.overtaken g.agent.0 + count (overtakes g.grant (o.asked g.agent.0))) o.overtaken;
  duty = o.duty && not (needs_duty g.grant);
  home = if any_of (o.may g.agent.0) (λ m. shows g.grant m.held) then Some g.shown else o.home;
  may = put g.agent.0 (led (λ m k. same_member (given_reply (overtakes g.grant (o.asked g.agent.0)) m) k) (got o g)) (others o g);
}

abbrev pub next_given : Received → HomeFlit → Received
next_given o g = settled (behind_given o g)

-- MOMENTS of a CleanShared or a ReadOnce. A reply that leaves no dirty copy was a moment as it was sent; that was behind another's
-- request if the home had this before it asked for the reply. Where the value is on its way there is one once words have come
pub data Moment : Type 0 where
  NotYet : Moment
  Coming : Moment
  Was : Moment

-- no other copy is dirty
abbrev pub none_dirty : (ℕ → Members) → ℕ → Bool
none_dirty may n = all_below 32 (λ m. m == n || not (any_of (may m) (λ k. is_dirty k.held.copy)))

-- the home hasn't the value: of a CleanShared, a dirty copy of its own agent has it
abbrev pub is_newer : Bool → Member → Bool
is_newer once k = k.held.stored && (once || not (is_dirty k.held.copy))

abbrev pub none_newer : (Member → Bool) → (ℕ → Members) → Bool
none_newer newer may = all_below 32 (λ m. not (any_of (may m) newer))

abbrev pub moment_of : Bool → (ℕ → Members) → ℕ → Moment
moment_of once may n = if not (once || none_dirty may n) then NotYet
    else (if none_newer (is_newer once) may then Was
    else (if none_newer (λ k. is_newer once k && not (comes k)) may then Coming else NotYet))

-- of the sender of a reply those of its members alone that have lost a value: what it did since it was sent doesn't count
abbrev pub as_sent : ℕ → (ℕ → Members) → ℕ → Members
as_sent n may = put n (λ k. may n k && is_gone k) may

-- the reply that a flit asks for
abbrev pub asks : Grant → Bool
asks (Snp snoop) = true
asks CompDBIDResp = true
asks other = false

-- a reply that leaves no dirty copy; of a ReadOnce any
abbrev pub may_clean : Act → Bool → Bool
may_clean (SnpResp answer) once = once || not (is_dirty (copy_of (left_by answer)))
may_clean (CopyBackWrData form) once = true
may_clean NonCopyBackWrData once = true
may_clean other once = false

-- before n m: the home had the CleanShared or the ReadOnce of m before it asked n for the reply that it awaits
abbrev pub before_after : Received → Flit → (ℕ → ℕ → Bool) → ℕ → ℕ → Bool
before_after o (Up f) before n m = before n m && not (is_issue (Up f) m)
before_after o (Down g) before n m = if n == g.agent.0 && asks g.grant then awaits_moment (o.due m) else before n m

-- the sets that the moment of m is asked of, behind a flit
abbrev pub seen_by : Bool → Flit → (ℕ → ℕ → Bool) → Received → ℕ → ℕ → Members
seen_by late (Up f) before o m = if not late && (may_clean f.act (reads_once (o.due m)) && before f.agent.0 m) then as_sent f.agent.0 o.may else o.may
seen_by late (Down g) before o m = o.may

abbrev pub next_by : Received → Bool → Flit → Received
next_by o late (Up f) = next_received o late f
next_by o late (Down g) = next_given o g

-- words of a cache come
abbrev pub brings_words : Flit → Bool
brings_words (Up f) = tells_words f.act
brings_words (Down g) = false

-- those of overtaken data are of an unknown age: there may have been a moment
abbrev pub is_any_overtaken : Received → Bool
is_any_overtaken o = not (all_below 32 (λ n. not (nat_lt 0 (o.overtaken n))))

abbrev pub come_then : Bool → Bool → Moment → Moment
come_then true overtaken Coming = Was
come_then true true m = Was
come_then words overtaken m = m

abbrev pub later : Moment → Moment → Moment
later Was m = Was
later m NotYet = m
later m other = other

abbrev pub moment_then : Received → Bool → Flit → (ℕ → ℕ → Bool) → (ℕ → Moment) → ℕ → Moment
moment_then o late e before moments n = if awaits_moment ((next_by o late e).due n)
    then later (if is_issue e n then NotYet else come_then (brings_words e) (is_any_overtaken o) (moments n)) (moment_of (reads_once ((next_by o late e).due n)) (seen_by late e before (next_by o late e) n) n)
    else NotYet

abbrev pub is_past : Moment → Bool
is_past Was = true
is_past m = false

abbrev pub takes_home_at : Received → (ℕ → Moment) → HomeFlit → Bool
takes_home_at o moments g = takes_given o g && (not (needs_moment g.grant (o.due g.agent.0)) || is_past (moments g.agent.0))
