-- What an agent's channels have sent, where one message was put on them, or none.
use Rattle.std.proofs.Common.{◌≡◌, inl, inr, ℕ, true, List, [], ◌∷◌, ◌++◌, Option, Some, None, is_some, option_map, refl}
use Rattle.chi_flit.specs.Snoop.{answer_of}
use Rattle.chi_flit.specs.declared.message.CompData.{CompData}
use Rattle.chi_flit.specs.declared.message.DatUp.{DatUp}
use Rattle.chi_flit.specs.declared.message.Msg.{Msg}
use Rattle.chi_flit.specs.declared.message.Msg.TheVariants as messages
use Rattle.chi_flit.specs.declared.message.Request.{Request}
use Rattle.chi_flit.specs.declared.message.RspDown.{RspDown}
use Rattle.chi_flit.specs.declared.message.RspUp.{RspUp}
use Rattle.chi_flit.specs.declared.numbers.Agent.{Agent}
use Rattle.chi_flit.specs.declared.snoop.Snoop.{Snoop}
use Rattle.chi_flit.specs.declared.state.State.{State}
use Rattle.chi_homeline.specs.declared.serving.CompletionForm.{CompletionForm}
use Rattle.chi_homeline.specs.declared.serving.CompletionForm.TheVariants as forms
use Rattle.chi_homeline.specs.Home.{form_message}
use Rattle.chi_wires.specs.Cell.{with_message}
use Rattle.chi_wires.specs.declared.cells.Cells.{Cells}
use Rattle.chi_line.proofs.CopyTables.{answer_row, is_up}
use Rattle.chi_explain.specs.declared.observed.Observed.{Observed}
use Rattle.chi_explain.specs.declared.observed.Observed.TheVariants.{Flit}
use Rattle.chi_explain.specs.Sent.{busy_in, new_flit, sent_of_agent}
use Rattle.chi_explain.proofs.Elsewhere.{IsNoneNew, nothing_sent}

abbrev pub flits_of : Agent → Option Msg → List Observed
flits_of agent None = []
flits_of agent (Some message) = Flit (record { agent = agent; message = message }) ∷ []

-- of a channel: nothing was put on it, or a message was
stays_as : {A : Type 0} (n : Agent) (f : A → Msg) (before after : Option A) → IsNoneNew before after → new_flit n (is_some before) (option_map f after) ≡ []
stays_as n f None None h = refl
stays_as n f (Some x) after h = refl
stays_as n f None (Some y) (inl e) = absurd (cc (e))
stays_as n f None (Some y) (inr e) = absurd (cc (e))

comes_on : {A : Type 0} (n : Agent) (f : A → Msg) (before after : Option A) (a : A) → before ≡ None → after ≡ Some a → new_flit n (is_some before) (option_map f after) ≡ flits_of n (Some (f a))
comes_on n f before after a none some = λ i. new_flit n (is_some (none i)) (option_map f (some i))

-- the other channels, by the channel of the message
pub record OthersOfReq (c c' : Cells) : Type 0 where
  pub rsp_down : IsNoneNew c.rsp_down c'.rsp_down
  pub dat_down : IsNoneNew c.dat_down c'.dat_down
  pub rsp_up : IsNoneNew c.rsp_up c'.rsp_up
  pub dat_up : IsNoneNew c.dat_up c'.dat_up

pub sends_request : (n : Agent) (c c' : Cells) (m : Request) → c.req ≡ None → c'.req ≡ Some m → OthersOfReq c c' → sent_of_agent n (busy_in c) c' ≡ flits_of n (Some (messages.Req m))
unfolding sent_of_agent
sends_request n c c' m none some o =
    let a = comes_on n messages.Req c.req c'.req m none some in
    let b = stays_as n messages.RspDown c.rsp_down c'.rsp_down o.rsp_down in
    let d = stays_as n messages.DatDown c.dat_down c'.dat_down o.dat_down in
    let e = stays_as n messages.RspUp c.rsp_up c'.rsp_up o.rsp_up in
    let g = stays_as n messages.DatUp c.dat_up c'.dat_up o.dat_up in
    λ i. a i ++ (b i ++ (d i ++ (e i ++ g i)))

pub record OthersOfRsp (c c' : Cells) : Type 0 where
  pub req : IsNoneNew c.req c'.req
  pub dat_down : IsNoneNew c.dat_down c'.dat_down
  pub rsp_up : IsNoneNew c.rsp_up c'.rsp_up
  pub dat_up : IsNoneNew c.dat_up c'.dat_up

pub sends_response : (n : Agent) (c c' : Cells) (m : RspDown) → c.rsp_down ≡ None → c'.rsp_down ≡ Some m → OthersOfRsp c c' → sent_of_agent n (busy_in c) c' ≡ flits_of n (Some (messages.RspDown m))
unfolding sent_of_agent
sends_response n c c' m none some o =
    let a = stays_as n messages.Req c.req c'.req o.req in
    let b = comes_on n messages.RspDown c.rsp_down c'.rsp_down m none some in
    let d = stays_as n messages.DatDown c.dat_down c'.dat_down o.dat_down in
    let e = stays_as n messages.RspUp c.rsp_up c'.rsp_up o.rsp_up in
    let g = stays_as n messages.DatUp c.dat_up c'.dat_up o.dat_up in
    λ i. a i ++ (b i ++ (d i ++ (e i ++ g i)))

pub record OthersOfDat (c c' : Cells) : Type 0 where
  pub req : IsNoneNew c.req c'.req
  pub rsp_down : IsNoneNew c.rsp_down c'.rsp_down
  pub rsp_up : IsNoneNew c.rsp_up c'.rsp_up
  pub dat_up : IsNoneNew c.dat_up c'.dat_up

pub sends_read : (n : Agent) (c c' : Cells) (m : CompData) → c.dat_down ≡ None → c'.dat_down ≡ Some m → OthersOfDat c c' → sent_of_agent n (busy_in c) c' ≡ flits_of n (Some (messages.DatDown m))
unfolding sent_of_agent
sends_read n c c' m none some o =
    let a = stays_as n messages.Req c.req c'.req o.req in
    let b = stays_as n messages.RspDown c.rsp_down c'.rsp_down o.rsp_down in
    let d = comes_on n messages.DatDown c.dat_down c'.dat_down m none some in
    let e = stays_as n messages.RspUp c.rsp_up c'.rsp_up o.rsp_up in
    let g = stays_as n messages.DatUp c.dat_up c'.dat_up o.dat_up in
    λ i. a i ++ (b i ++ (d i ++ (e i ++ g i)))

pub record OthersOfUp (c c' : Cells) : Type 0 where
  pub req : IsNoneNew c.req c'.req
  pub rsp_down : IsNoneNew c.rsp_down c'.rsp_down
  pub dat_down : IsNoneNew c.dat_down c'.dat_down

pub sends_up : (n : Agent) (c c' : Cells) (m : RspUp) → c.rsp_up ≡ None → c'.rsp_up ≡ Some m → OthersOfUp c c' → IsNoneNew c.dat_up c'.dat_up → sent_of_agent n (busy_in c) c' ≡ flits_of n (Some (messages.RspUp m))
unfolding sent_of_agent
sends_up n c c' m none some o dat =
    let a = stays_as n messages.Req c.req c'.req o.req in
    let b = stays_as n messages.RspDown c.rsp_down c'.rsp_down o.rsp_down in
    let d = stays_as n messages.DatDown c.dat_down c'.dat_down o.dat_down in
    let e = comes_on n messages.RspUp c.rsp_up c'.rsp_up m none some in
    let g = stays_as n messages.DatUp c.dat_up c'.dat_up dat in
    λ i. a i ++ (b i ++ (d i ++ (e i ++ g i)))

pub sends_data : (n : Agent) (c c' : Cells) (m : DatUp) → c.dat_up ≡ None → c'.dat_up ≡ Some m → OthersOfUp c c' → IsNoneNew c.rsp_up c'.rsp_up → sent_of_agent n (busy_in c) c' ≡ flits_of n (Some (messages.DatUp m))
unfolding sent_of_agent
sends_data n c c' m none some o rsp =
    let a = stays_as n messages.Req c.req c'.req o.req in
    let b = stays_as n messages.RspDown c.rsp_down c'.rsp_down o.rsp_down in
    let d = stays_as n messages.DatDown c.dat_down c'.dat_down o.dat_down in
    let e = stays_as n messages.RspUp c.rsp_up c'.rsp_up rsp in
    let g = comes_on n messages.DatUp c.dat_up c'.dat_up m none some in
    λ i. a i ++ (b i ++ (d i ++ (e i ++ g i)))

-- an answer to a snoop
sends_answer_of : (n : Agent) (c : Cells) (m : Msg) → is_up m ≡ true → c.rsp_up ≡ None → c.dat_up ≡ None → sent_of_agent n (busy_in c) (with_message (record c { snp = None }) m) ≡ flits_of n (Some m)
sends_answer_of n c (messages.RspUp m) up rsp dat = sends_up n c _ m rsp refl (record { req = inl refl; rsp_down = inl refl; dat_down = inl refl }) (inl refl)
sends_answer_of n c (messages.DatUp m) up rsp dat = sends_data n c _ m dat refl (record { req = inl refl; rsp_down = inl refl; dat_down = inl refl }) (inl refl)
sends_answer_of n c (messages.Req m) up rsp dat = absurd (cc (up))
sends_answer_of n c (messages.Snp m) up rsp dat = absurd (cc (up))
sends_answer_of n c (messages.RspDown m) up rsp dat = absurd (cc (up))
sends_answer_of n c (messages.DatDown m) up rsp dat = absurd (cc (up))

pub sends_answer : (n : Agent) (c : Cells) (state : State) (snoop : Snoop) (words : List ℕ) → c.rsp_up ≡ None → c.dat_up ≡ None
    → sent_of_agent n (busy_in c) (with_message (record c { snp = None }) (answer_of state snoop words).1) ≡ flits_of n (Some (answer_of state snoop words).1)
sends_answer n c state snoop words rsp dat = sends_answer_of n c (answer_of state snoop words).1 (answer_row state snoop words).1 rsp dat

-- what is on its way to the requester stays, but for the snoop
pub record StaysDown (c c' : Cells) : Type 0 where
  pub req : c'.req ≡ c.req
  pub rsp_down : c'.rsp_down ≡ c.rsp_down
  pub dat_down : c'.dat_down ≡ c.dat_down

answer_down_of : (c : Cells) (m : Msg) → is_up m ≡ true → StaysDown c (with_message (record c { snp = None }) m)
answer_down_of c (messages.RspUp m) up = record { req = refl; rsp_down = refl; dat_down = refl }
answer_down_of c (messages.DatUp m) up = record { req = refl; rsp_down = refl; dat_down = refl }
answer_down_of c (messages.Req m) up = absurd (cc (up))
answer_down_of c (messages.Snp m) up = absurd (cc (up))
answer_down_of c (messages.RspDown m) up = absurd (cc (up))
answer_down_of c (messages.DatDown m) up = absurd (cc (up))

pub answer_down : (c : Cells) (state : State) (snoop : Snoop) (words : List ℕ) → StaysDown c (with_message (record c { snp = None }) (answer_of state snoop words).1)
answer_down c state snoop words = answer_down_of c (answer_of state snoop words).1 (answer_row state snoop words).1

-- a completion of a form, put on cells that send nothing else
pub record Empties (c c' : Cells) : Type 0 where
  pub req : c'.req ≡ c.req
  pub rsp_down : c'.rsp_down ≡ c.rsp_down
  pub dat_down : c'.dat_down ≡ c.dat_down
  pub rsp_up : IsNoneNew c.rsp_up c'.rsp_up
  pub dat_up : IsNoneNew c.dat_up c'.dat_up
  pub snp : is_some c.snp ≡ true → c'.snp ≡ c.snp

pub sends_form : (n : Agent) (c c' : Cells) (form : CompletionForm) (words : List ℕ) → Empties c c' → c.rsp_down ≡ None → c.dat_down ≡ None → sent_of_agent n (busy_in c) (with_message c' (form_message form words)) ≡ flits_of n (Some (form_message form words))
sends_form n c c' (forms.Data unique) words e rsp dat = sends_read n c _ _ dat refl (record { req = inl e.req; rsp_down = inl e.rsp_down; rsp_up = e.rsp_up; dat_up = e.dat_up })
sends_form n c c' forms.NoData words e rsp dat = sends_response n c _ _ rsp refl (record { req = inl e.req; dat_down = inl e.dat_down; rsp_up = e.rsp_up; dat_up = e.dat_up })

pub sends_nothing : (n : Agent) (c c' : Cells) → Empties c c' → sent_of_agent n (busy_in c) c' ≡ []
sends_nothing n c c' e = nothing_sent n c c' (record { req = inl e.req; rsp_down = inl e.rsp_down; dat_down = inl e.dat_down; rsp_up = e.rsp_up; dat_up = e.dat_up })

-- a request is taken
pub sends_freed : (n : Agent) (c : Cells) → sent_of_agent n (busy_in c) (record c { req = None }) ≡ []
sends_freed n c = nothing_sent n c _ (record { req = inr refl; rsp_down = inl refl; dat_down = inl refl; rsp_up = inl refl; dat_up = inl refl })

-- a message to the requester is taken
pub sends_taken : (n : Agent) (c : Cells) → sent_of_agent n (busy_in c) (record c { rsp_down = None }) ≡ []
sends_taken n c = nothing_sent n c _ (record { req = inl refl; rsp_down = inr refl; dat_down = inl refl; rsp_up = inl refl; dat_up = inl refl })

-- a CompAck or write data is taken
pub sends_ended : (n : Agent) (c c' : Cells) → Empties c c' → sent_of_agent n (busy_in c) c' ≡ []
sends_ended n c c' e = sends_nothing n c c' e
