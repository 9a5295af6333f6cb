-- What the tables of answers, of Comp_UC and of write data tell.
use Rattle.std.proofs.Common.{◌≡◌, ℕ, List, Bool, true, false, Option, Some, None, arith, refl, if◌then◌else◌}
use Rattle.chi_flit.specs.declared.state.State.{State}
use Rattle.chi_flit.specs.declared.state.State.TheVariants.{I, SC, UC, UD, SD}
use Rattle.chi_flit.specs.declared.kind.Kind.{Kind}
use Rattle.chi_flit.specs.declared.snoop.Snoop.{Snoop}
use Rattle.chi_flit.specs.declared.snoop.Snoop.TheVariants.{SnpShared, SnpNotSharedDirty, SnpUnique, SnpCleanInvalid}
use Rattle.chi_flit.specs.declared.message.RspUp.{RspUp}
use Rattle.chi_flit.specs.declared.message.DatUp.{DatUp}
use Rattle.chi_flit.specs.declared.message.DatUp.TheVariants.{CopyBackWrData}
use Rattle.chi_flit.specs.declared.message.Msg.{Msg}
use Rattle.chi_flit.specs.declared.message.Msg.TheVariants as messages
use Rattle.chi_flit.specs.Kind.{gives_up}
use Rattle.chi_flit.specs.Message.{no_words, write_data_of}
use Rattle.chi_flit.specs.Snoop.{answer_of}
use Rattle.chi_wires.specs.declared.cells.Cells.{Cells}
use Rattle.chi_wires.specs.Cell.{with_message}
use Rattle.chi_rnline.specs.Rn.{state_after_comp, state_after_clean, state_after_write}
use Rattle.chi_line.proofs.CopyLanes.{AnswerIs, CompIs, WriteIs}

-- a message up, by its channel
abbrev pub rsp_of : Msg → Option RspUp
rsp_of (messages.Req request) = None
rsp_of (messages.Snp snoop) = None
rsp_of (messages.RspDown response) = None
rsp_of (messages.DatDown response) = None
rsp_of (messages.RspUp response) = Some response
rsp_of (messages.DatUp response) = None

abbrev pub dat_of : Msg → Option DatUp
dat_of (messages.Req request) = None
dat_of (messages.Snp snoop) = None
dat_of (messages.RspDown response) = None
dat_of (messages.DatDown response) = None
dat_of (messages.RspUp response) = None
dat_of (messages.DatUp response) = Some response

abbrev pub is_up : Msg → Bool
is_up (messages.Req request) = false
is_up (messages.Snp snoop) = false
is_up (messages.RspDown response) = false
is_up (messages.DatDown response) = false
is_up (messages.RspUp response) = true
is_up (messages.DatUp response) = true

same_rsp : (c : Cells) (response : RspUp) → c.rsp_up ≡ None → c.dat_up ≡ None
    → with_message c (messages.RspUp response) ≡ record c { rsp_up = Some response; dat_up = None }
same_rsp c response no_rsp no_dat = cc

same_dat : (c : Cells) (response : DatUp) → c.rsp_up ≡ None → c.dat_up ≡ None
    → with_message c (messages.DatUp response) ≡ record c { rsp_up = None; dat_up = Some response }
same_dat c response no_rsp no_dat = cc

pub with_up : (c : Cells) (message : Msg) → is_up message ≡ true → c.rsp_up ≡ None → c.dat_up ≡ None
    → with_message c message ≡ record c { rsp_up = rsp_of message; dat_up = dat_of message }
with_up c (messages.Req request) up no_rsp no_dat = absurd cc
with_up c (messages.Snp snoop) up no_rsp no_dat = absurd cc
with_up c (messages.RspDown response) up no_rsp no_dat = absurd cc
with_up c (messages.DatDown response) up no_rsp no_dat = absurd cc
with_up c (messages.RspUp response) up no_rsp no_dat = same_rsp c response no_rsp no_dat
with_up c (messages.DatUp response) up no_rsp no_dat = same_dat c response no_rsp no_dat

abbrev pub AnswerRow : State → Snoop → List ℕ → State × Msg → Type 0
AnswerRow state snoop words answer = AnswerIs state snoop words answer.0 (rsp_of answer.1) (dat_of answer.1) × (is_up answer.1 ≡ true)

-- a row of the table of answers
pub answer_row : (state : State) (snoop : Snoop) (words : List ℕ) → AnswerRow state snoop words (answer_of state snoop words)
answer_row I SnpShared words = (search arith, refl)
answer_row I SnpNotSharedDirty words = (search arith, refl)
answer_row I SnpUnique words = (search arith, refl)
answer_row I SnpCleanInvalid words = (search arith, refl)
answer_row SC SnpShared words = (search arith, refl)
answer_row SC SnpNotSharedDirty words = (search arith, refl)
answer_row SC SnpUnique words = (search arith, refl)
answer_row SC SnpCleanInvalid words = (search arith, refl)
answer_row UC SnpShared words = (search arith, refl)
answer_row UC SnpNotSharedDirty words = (search arith, refl)
answer_row UC SnpUnique words = (search arith, refl)
answer_row UC SnpCleanInvalid words = (search arith, refl)
answer_row UD SnpShared words = (search arith, refl)
answer_row UD SnpNotSharedDirty words = (search arith, refl)
answer_row UD SnpUnique words = (search arith, refl)
answer_row UD SnpCleanInvalid words = (search arith, refl)
answer_row SD SnpShared words = (search arith, refl)
answer_row SD SnpNotSharedDirty words = (search arith, refl)
answer_row SD SnpUnique words = (search arith, refl)
answer_row SD SnpCleanInvalid words = (search arith, refl)

pub comp_is : (state : State) → CompIs state (state_after_comp state)
comp_is state = search arith

-- the data that write data of a copy carries
abbrev pub words_sent : State → List ℕ → List ℕ
words_sent I words = no_words
words_sent SC words = words
words_sent UC words = words
words_sent UD words = words
words_sent SD words = words

pub write_data_is : (state : State) (words : List ℕ) → write_data_of state words ≡ CopyBackWrData state (words_sent state words)
write_data_is state words = search arith

write_clean_is : (kind : Kind) (state : State) (words : List ℕ) → gives_up kind ≡ false → WriteIs kind state words (state_after_clean state) state (words_sent state words)
write_clean_is kind I words is = search arith
write_clean_is kind other words is = search arith

write_gone_is : (kind : Kind) (state : State) (words : List ℕ) → WriteIs kind state words I state (words_sent state words)
write_gone_is kind I words = search arith
write_gone_is kind other words = search arith

pub write_is : (kind : Kind) (state : State) (words : List ℕ) → WriteIs kind state words (state_after_write kind state) state (words_sent state words)
write_is kind state words = go (gives_up kind) refl
  where
    go : (b : Bool) → gives_up kind ≡ b → WriteIs kind state words (if b then I else state_after_clean state) state (words_sent state words)
    go true is = write_gone_is kind state words
    go false is = write_clean_is kind state words is
