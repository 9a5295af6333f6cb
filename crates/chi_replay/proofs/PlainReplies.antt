-- No text of an answer has a line end in it.
use Rattle.std.proofs.Common.{◌≡◌, ℕ, Bool, true, false, List, [], ◌∷◌, ◌++◌, Option, Some, None, codes, map, take, refl, is_some}
use Rattle.std.specs.Fmt.{decimal}
use Rattle.std.specs.List.{flat_map}
use Rattle.chi_flit.specs.declared.credit.CreditType.{CreditType}
use Rattle.chi_flit.specs.declared.credit.CreditType.TheVariants.{T0, T1, T2, T3}
use Rattle.chi_flit.specs.declared.credit.Profile.{Profile}
use Rattle.chi_flit.specs.declared.kind.Kind.{Kind}
use Rattle.chi_flit.specs.declared.kind.Kind.TheVariants.{ReadNotSharedDirty, ReadShared, ReadUnique, CleanUnique, Evict, WriteBackFull, WriteCleanFull, WriteEvictFull}
use Rattle.chi_flit.specs.declared.message.DatUp.{DatUp}
use Rattle.chi_flit.specs.declared.message.DatUp.TheVariants.{SnpRespDataIPD, SnpRespDataSCPD, SnpRespDataSD, CopyBackWrData}
use Rattle.chi_flit.specs.declared.message.Msg.{Msg}
use Rattle.chi_flit.specs.declared.message.Msg.TheVariants as messages
use Rattle.chi_flit.specs.declared.message.Request.{Request}
use Rattle.chi_flit.specs.declared.message.RspDown.{RspDown}
use Rattle.chi_flit.specs.declared.message.RspDown.TheVariants.{RetryAck, CompUC, CompI, CompDBIDResp}
use Rattle.chi_flit.specs.declared.message.RspUp.{RspUp}
use Rattle.chi_flit.specs.declared.message.RspUp.TheVariants.{SnpRespI, SnpRespSC, CompAck}
use Rattle.chi_flit.specs.declared.refusal.Refusal.{Refusal}
use Rattle.chi_flit.specs.declared.refusal.Refusal.TheVariants.{JournalFull, WrongState, Pending, NothingPending, LineBusy, NotWaiting, NoFlit, NoMemory, MustAccept, OutOfRange, NotOpen, NoCredit}
use Rattle.chi_flit.specs.declared.snoop.Snoop.{Snoop}
use Rattle.chi_flit.specs.declared.snoop.Snoop.TheVariants.{SnpShared, SnpNotSharedDirty, SnpUnique, SnpCleanInvalid}
use Rattle.chi_flit.specs.declared.state.State.{State}
use Rattle.chi_flit.specs.declared.state.State.TheVariants.{I, SC, UC, UD, SD}
use Rattle.chi_flit.specs.Credit.{credit_text}
use Rattle.chi_flit.specs.Kind.{kind_text}
use Rattle.chi_flit.specs.Message.{attempt_text, comp_data_text, data_up_text, message_text, request_text, rsp_down_text, rsp_up_text}
use Rattle.chi_flit.specs.Refusal.{refusal_number, refusal_text}
use Rattle.chi_flit.specs.Snoop.{snoop_text}
use Rattle.chi_flit.specs.State.{state_text}
use Rattle.chi_slice.specs.Words.{Cells, LineView, Serving, cells_of, line_view}
use Rattle.chi_slice.specs.Servings as servings
use Rattle.chi_node.specs.Home.{HomeState, node_flits_refusal, node_last, node_line, node_view_refusal}
use Rattle.chi_node.specs.Words.{Released}
use Rattle.chi_node.specs.Releases.{Granted, Freed}
use Rattle.chi_slice.specs.declared.audits.Audit.{Audit}
use Rattle.chi_replay.specs.declared.credits.SeenCredits.{SeenCredits}
use Rattle.chi_replay.specs.declared.replies.Reply.{Reply}
use Rattle.chi_replay.specs.declared.replies.Reply.TheVariants.{Done, Value, Admitted, Retry, Completed, Paid, Idle, Credits, Refused}
use Rattle.chi_replay.specs.declared.replies.Reply.TheVariants as replies
use Rattle.chi_replay.specs.declared.totals.NodeTotals.{NodeTotals}
use Rattle.chi_replay.specs.Replies.{agents_text, audit_text, copy_text, counts_text, flits_text, joined_texts, looked_text, members, messages_in, messages_text, refused_text, released_text, reply_text, serving_text, shown_text, spaced_texts, totals_text, type_count, verdict_text, yes_no}
use Rattle.chi_script.proofs.LackLemmas.{chained, decimal_lacks, lacks}

-- a text without a line end
pub record IsPlain (text : List ℕ) : Type 0 where
  pub plain : lacks 10 text ≡ true

word : {text : List ℕ} → lacks 10 text ≡ true → IsPlain text
word e = record { plain = e }

number : (n : ℕ) → IsPlain (decimal n)
number n = word (decimal_lacks 10 n refl)

-- one text behind another, or behind a word
both : {front back : List ℕ} → IsPlain front → IsPlain back → IsPlain (front ++ back)
both {front} {back} is more = word (chained 10 front back is.plain more.plain)

behind : (front : List ℕ) {back : List ℕ} → lacks 10 front ≡ true → IsPlain back → IsPlain (front ++ back)
behind front {back} is more = word (chained 10 front back is more.plain)

spaced_plain : {A : Type 0} (text : A → List ℕ) → ((x : A) → IsPlain (text x)) → (all : List A) → IsPlain (spaced_texts text all)
spaced_plain text each [] = word refl
spaced_plain text each (x ∷ xs) = both (behind (codes " ") refl (each x)) (spaced_plain text each xs)

others_plain : {A : Type 0} (text : A → List ℕ) → ((x : A) → IsPlain (text x)) → (all : List A) → IsPlain (flat_map (λ next. codes "," ++ text next) all)
others_plain text each [] = word refl
others_plain text each (x ∷ xs) = both (behind (codes ",") refl (each x)) (others_plain text each xs)

joined_plain : {A : Type 0} (text : A → List ℕ) → ((x : A) → IsPlain (text x)) → (all : List A) → IsPlain (joined_texts text all)
joined_plain text each [] = word refl
joined_plain text each (x ∷ xs) = both (each x) (others_plain text each xs)

-- the words of the protocol
credit : (ty : CreditType) → IsPlain (credit_text ty)
credit T0 = word refl
credit T1 = word refl
credit T2 = word refl
credit T3 = word refl

refusal : (r : Refusal) → IsPlain (refusal_text r)
refusal JournalFull = word refl
refusal WrongState = word refl
refusal Pending = word refl
refusal NothingPending = word refl
refusal LineBusy = word refl
refusal NotWaiting = word refl
refusal NoFlit = word refl
refusal NoMemory = word refl
refusal MustAccept = word refl
refusal OutOfRange = word refl
refusal NotOpen = word refl
refusal NoCredit = word refl

state : (s : State) → IsPlain (state_text s)
state I = word refl
state SC = word refl
state UC = word refl
state UD = word refl
state SD = word refl

kind : (k : Kind) → IsPlain (kind_text k)
kind ReadNotSharedDirty = word refl
kind ReadShared = word refl
kind ReadUnique = word refl
kind CleanUnique = word refl
kind Evict = word refl
kind WriteBackFull = word refl
kind WriteCleanFull = word refl
kind WriteEvictFull = word refl

snoop : (s : Snoop) → IsPlain (snoop_text s)
snoop SnpShared = word refl
snoop SnpNotSharedDirty = word refl
snoop SnpUnique = word refl
snoop SnpCleanInvalid = word refl

attempt : (b : Bool) → IsPlain (attempt_text b)
attempt true = word refl
attempt false = word refl

request : (r : Request) → IsPlain (request_text r)
request r = both (kind r.kind) (behind (codes "/") refl (both (number r.slot.0) (attempt r.allow_retry)))

rsp_down : (r : RspDown) → IsPlain (rsp_down_text r)
rsp_down (RetryAck ty) = behind (codes "RetryAck/") refl (credit ty)
rsp_down CompUC = word refl
rsp_down CompI = word refl
rsp_down CompDBIDResp = word refl

comp_data : (b : Bool) → IsPlain (comp_data_text b)
comp_data true = word refl
comp_data false = word refl

rsp_up : (r : RspUp) → IsPlain (rsp_up_text r)
rsp_up SnpRespI = word refl
rsp_up SnpRespSC = word refl
rsp_up CompAck = word refl

data_up : (r : DatUp) → IsPlain (data_up_text r)
data_up (SnpRespDataIPD words) = word refl
data_up (SnpRespDataSCPD words) = word refl
data_up (SnpRespDataSD words) = word refl
data_up (CopyBackWrData I words) = word refl
data_up (CopyBackWrData SC words) = word refl
data_up (CopyBackWrData UC words) = word refl
data_up (CopyBackWrData UD words) = word refl
data_up (CopyBackWrData SD words) = word refl

message : (m : Msg) → IsPlain (message_text m)
message (messages.Req r) = request r
message (messages.Snp s) = snoop s
message (messages.RspDown r) = rsp_down r
message (messages.DatDown r) = comp_data r.unique
message (messages.RspUp r) = rsp_up r
message (messages.DatUp r) = data_up r

released : (r : Released) → IsPlain (released_text r)
released (Granted agent) = behind (codes "granted ") refl (number agent.0)
released Freed = word refl

-- the answers
refused : (r : Refusal) → IsPlain (refused_text r)
refused r = behind (codes "refused ") refl (both (number (refusal_number r)) (behind (codes " ") refl (refusal r)))

yes_or_no : (b : Bool) → IsPlain (yes_no b)
yes_or_no true = word refl
yes_or_no false = word refl

serving : (s : Serving) → IsPlain (serving_text s)
serving servings.Idle = word refl
serving (servings.Snooping agent k slot) = behind (codes "snooping ") refl (number agent.0)
serving (servings.AwaitingCompAck agent slot) = behind (codes "compack ") refl (number agent.0)
serving (servings.AwaitingWriteData agent k slot) = behind (codes "wrdata ") refl (number agent.0)

agents : (set : List Bool) → IsPlain (agents_text set)
agents set = joined_plain decimal number (members set)

shown : (count : ℕ) (view : LineView) → IsPlain (shown_text count view)
shown count view =
    behind (codes "ok copies ") refl (both (joined_plain copy_text (λ copy. state copy.state) (take count view.copies))
    (behind (codes " named ") refl (both (agents view.named)
    (behind (codes " unique ") refl (both (yes_or_no view.unique)
    (behind (codes " serving ") refl (both (serving view.serving)
    (behind (codes " waiting ") refl (both (agents (map is_some view.waiting))
    (behind (codes " memory") refl (spaced_plain decimal number view.memory)))))))))))

in_flight : (all : List Msg) → IsPlain (messages_text all)
in_flight [] = word refl
in_flight (m ∷ all) = spaced_plain message_text message (m ∷ all)

flits : (cells : Cells) → IsPlain (flits_text cells)
flits cells = behind (codes "ok") refl (in_flight (messages_in cells))

counts : (profile : Profile) (all : List ℕ) → IsPlain (counts_text profile all)
counts profile all = spaced_plain decimal number (take (type_count profile) all)

credits : (c : SeenCredits) → IsPlain (codes "ok credits" ++ counts_text c.profile c.counts)
credits c = behind (codes "ok credits") refl (counts c.profile c.counts)

totals : (t : NodeTotals) → IsPlain (codes "ok " ++ totals_text t)
totals t =
    behind (codes "ok ") refl
    (behind (codes "free") refl (both (counts t.profile t.counts.free)
    (behind (codes " hand") refl (both (counts t.profile t.counts.hand)
    (behind (codes " promised") refl (both (counts t.profile t.counts.promised)
    (behind (codes " owed") refl (counts t.profile t.counts.owed))))))))

verdict : (b : Bool) → IsPlain (verdict_text b)
verdict true = word refl
verdict false = word refl

audit : (a : Audit) → IsPlain (audit_text a)
audit a = behind (codes "ok loads ") refl (both (number a.loads) (behind (codes " stores ") refl (both (number a.stores) (behind (codes " ") refl (verdict a.coherent)))))

looked : (o : Option Refusal) {text : List ℕ} → IsPlain text → IsPlain (looked_text o text)
looked None is = is
looked (Some r) is = refused r

pub reply : (home : HomeState) (r : Reply) → IsPlain (reply_text home r)
reply home Done = word refl
reply home (Value value) = behind (codes "ok value ") refl (number value)
reply home (Admitted entry) = behind (codes "ok admitted ") refl (number entry.0)
reply home (Retry ty) = behind (codes "ok retry ") refl (credit ty)
reply home (Completed slot r) = behind (codes "ok completed ") refl (both (number slot.0) (behind (codes " ") refl (released r)))
reply home (Paid r) = behind (codes "ok ") refl (released r)
reply home Idle = word refl
reply home (Credits c) = credits c
reply home (replies.Totals t) = totals t
reply home (replies.Audit a) = audit a
reply home (replies.Line l) = looked (node_view_refusal home l.0) (shown home.config.agents (line_view (node_line home l.0) (node_last home l.0)))
reply home (replies.Flits agent l) = looked (node_flits_refusal home agent.0 l.0) (flits (cells_of (node_line home l.0) agent.0))
reply home (Refused r) = refused r
