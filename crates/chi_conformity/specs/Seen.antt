-- What an observer sees of a step on a line: the flits that it sends, and a load or a store as a flit of its cache
-- (docs/PROTOCOL.md, "Messages"; docs/OBSERVER.md, "Flits of a cache", "Flits of the home").
use Rattle.std.specs.Prelude.{List, [], ◌∷◌, ◌++◌, ℕ, Bool, map, if◌then◌else◌}
use Rattle.chi_flit.specs.declared.numbers.Agent.{Agent}
use Rattle.chi_flit.specs.declared.kind.Kind.{Kind}
use Rattle.chi_flit.specs.declared.kind.Kind.TheVariants as kinds
use Rattle.chi_flit.specs.declared.snoop.Snoop.{Snoop}
use Rattle.chi_flit.specs.declared.snoop.Snoop.TheVariants as snoops
use Rattle.chi_flit.specs.declared.state.State.{State}
use Rattle.chi_flit.specs.declared.state.State.TheVariants.{SC, UC}
use Rattle.chi_flit.specs.declared.credit.Profile.{Profile}
use Rattle.chi_flit.specs.declared.action.Step.{Step}
use Rattle.chi_flit.specs.declared.action.Step.TheVariants as steps
use Rattle.chi_flit.specs.declared.message.Msg.{Msg}
use Rattle.chi_flit.specs.declared.message.Msg.TheVariants.{Req, Snp, RspDown, DatDown, RspUp, DatUp}
use Rattle.chi_flit.specs.declared.message.RspDown.{RspDown as Response}
use Rattle.chi_flit.specs.declared.message.RspDown.TheVariants.{RetryAck, CompUC, CompI, CompDBIDResp}
use Rattle.chi_flit.specs.declared.message.RspUp.{RspUp as Reply}
use Rattle.chi_flit.specs.declared.message.RspUp.TheVariants.{SnpRespI, SnpRespSC, CompAck}
use Rattle.chi_flit.specs.declared.message.DatUp.{DatUp as Sent}
use Rattle.chi_flit.specs.declared.message.DatUp.TheVariants.{SnpRespDataIPD, SnpRespDataSCPD, SnpRespDataSD, CopyBackWrData}
use Rattle.chi_flit.specs.Message.{no_words}
use Rattle.chi_rnline.specs.Rn.{word_of}
use Rattle.chi_slice.specs.Words.{Flit, LineState, Rn, flits_sent, rn_of}
use Rattle.chi_observer.specs.declared.kinds.Kind.{Kind as SeenKind}
use Rattle.chi_observer.specs.declared.kinds.Kind.TheVariants as seen_kinds
use Rattle.chi_observer.specs.declared.kinds.Snoop.{Snoop as SeenSnoop}
use Rattle.chi_observer.specs.declared.kinds.Snoop.TheVariants as seen_snoops
use Rattle.chi_observer.specs.declared.flits.Act.{Act}
use Rattle.chi_observer.specs.declared.flits.Act.TheVariants as acts
use Rattle.chi_observer.specs.declared.flits.Answer.TheVariants as answers
use Rattle.chi_observer.specs.declared.flits.Grant.{Grant}
use Rattle.chi_observer.specs.declared.flits.Grant.TheVariants as grants
use Rattle.chi_observer.specs.declared.flits.Flit.{Flit as SeenFlit}
use Rattle.chi_observer.specs.declared.flits.Flit.TheVariants.{Up, Down}

-- kinds and snoops by their names
abbrev pub kind_seen : Kind → SeenKind
kind_seen kinds.ReadNotSharedDirty = seen_kinds.ReadNotSharedDirty
kind_seen kinds.ReadShared = seen_kinds.ReadShared
kind_seen kinds.ReadUnique = seen_kinds.ReadUnique
kind_seen kinds.CleanUnique = seen_kinds.CleanUnique
kind_seen kinds.Evict = seen_kinds.Evict
kind_seen kinds.WriteBackFull = seen_kinds.WriteBackFull
kind_seen kinds.WriteCleanFull = seen_kinds.WriteCleanFull
kind_seen kinds.WriteEvictFull = seen_kinds.WriteEvictFull

abbrev pub snoop_seen : Snoop → SeenSnoop
snoop_seen snoops.SnpShared = seen_snoops.SnpShared
snoop_seen snoops.SnpNotSharedDirty = seen_snoops.SnpNotSharedDirty
snoop_seen snoops.SnpUnique = seen_snoops.SnpUnique
snoop_seen snoops.SnpCleanInvalid = seen_snoops.SnpCleanInvalid

-- messages by their names
abbrev pub request_seen : Bool → SeenKind → Act
request_seen allow_retry kind = if allow_retry then acts.Request kind else acts.Resend kind

abbrev pub response_seen : Response → Grant
response_seen (RetryAck ty) = grants.RetryAck
response_seen CompUC = grants.CompUC
response_seen CompI = grants.CompI
response_seen CompDBIDResp = grants.CompDBIDResp

abbrev pub form_seen : Bool → State
form_seen unique = if unique then UC else SC

abbrev pub reply_seen : Reply → Act
reply_seen SnpRespI = acts.SnpResp answers.SnpRespI
reply_seen SnpRespSC = acts.SnpResp answers.SnpRespSC
reply_seen CompAck = acts.CompAck

abbrev pub sent_seen : Sent → Act
sent_seen (SnpRespDataIPD words) = acts.SnpResp answers.SnpRespDataIPD
sent_seen (SnpRespDataSCPD words) = acts.SnpResp answers.SnpRespDataSCPD
sent_seen (SnpRespDataSD words) = acts.SnpResp answers.SnpRespDataSD
sent_seen (CopyBackWrData form words) = acts.CopyBackWrData form

abbrev pub sent_words : Sent → List ℕ
sent_words (SnpRespDataIPD words) = words
sent_words (SnpRespDataSCPD words) = words
sent_words (SnpRespDataSD words) = words
sent_words (CopyBackWrData form words) = words

abbrev pub up : Agent → Act → List ℕ → SeenFlit
up n act shown = Up (record { agent = n; act = act; shown = shown })

abbrev pub down : Agent → Grant → List ℕ → SeenFlit
down n grant shown = Down (record { agent = n; grant = grant; shown = shown })

-- a flit in flight; words of no meaning are 0
abbrev pub message_seen : Agent → Msg → SeenFlit
message_seen n (Req request) = up n (request_seen request.allow_retry (kind_seen request.kind)) no_words
message_seen n (Snp snoop) = down n (grants.Snp (snoop_seen snoop)) no_words
message_seen n (RspDown response) = down n (response_seen response) no_words
message_seen n (DatDown sent) = down n (grants.CompData (form_seen sent.unique)) sent.words
message_seen n (RspUp reply) = up n (reply_seen reply) no_words
message_seen n (DatUp sent) = up n (sent_seen sent) (sent_words sent)

abbrev pub flit_seen : Flit → SeenFlit
flit_seen flit = message_seen flit.agent flit.message

-- a load, of the copy's word, or a store
abbrev pub access_seen : Rn → Agent → Step → List SeenFlit
access_seen rn n (steps.Load word) = up n (acts.Load (record { place = word; value = word_of rn word.0 })) no_words ∷ []
access_seen rn n (steps.Store word value) = up n (acts.Store (record { place = word; value = value })) no_words ∷ []
access_seen rn n other = []

-- all that is seen of a step that is done, in the order of sending
abbrev pub step_seen : Profile → LineState → Agent → Step → List SeenFlit
step_seen profile s n step = access_seen (rn_of s n.0) n step ++ map flit_seen (flits_sent profile s n step)
