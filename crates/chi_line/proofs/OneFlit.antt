-- A line that keeps its clauses is orderly by the protocol.
use Rattle.std.proofs.Common.{◌≡◌, ℕ, zero, suc, length, cond, slice_index_or, ◌<◌, ◌≤◌, List, [], ◌∷◌, Bool, true, false, Option, Some, None, option_map, Contains, filter, sym, subst, refl, ap, ◌∙◌, ◌⊎◌, inl, inr, ⊎_elim, arith}
use Rattle.std.proofs.lemmas.Bool.{cases_lt, false≢true, true≢false}
use Rattle.std.proofs.lemmas.List.{get_or_past}
use Rattle.chi_flit.specs.declared.message.Channel.{Channel}
use Rattle.chi_flit.specs.declared.message.Channel.TheVariants as channels
use Rattle.chi_flit.specs.declared.message.RspUp.{RspUp as RspUpOf}
use Rattle.chi_flit.specs.declared.message.DatUp.{DatUp as DatUpOf}
use Rattle.chi_flit.specs.Message.{channel_of}
use Rattle.chi_filter.specs.Filter.{is_in}
use Rattle.chi_wires.specs.declared.cells.Cells.{Cells}
use Rattle.chi_wires.specs.Cell.{cell_of, no_flits}
use Rattle.chi_wires.specs.Flits.{cells_at}
use Rattle.chi_wires.specs.Flight.{flit_of, in_flight, is_at}
use Rattle.chi_wires.proofs.Once.{once}
use Rattle.chi_line.specs.LineState.{LineState, cells_of}
use Rattle.chi_line.specs.Kept.{Kept, Lane, LaneKept, is_answer as answers_rsp, is_snoop_data, lane}
use Rattle.chi_homeline.specs.declared.serving.Serving.{Serving}
use Rattle.chi_line.specs.Words.{Agent, Msg, Flit, flit, RspUp, DatUp}
use Rattle.chi_line.specs.Law.{IsOrderly}
use Rattle.chi_line.specs.RefusalRows.{is_snoop_answer}
use Rattle.chi_line.specs.Meaning.{standing_of}
use Rattle.chi_line.proofs.Law.{only_flit}

at_itself : (a : Msg) (n : Agent) → is_at (channel_of a) n (flit n a) ≡ true
at_itself a n = grind arith

-- a flit that is in flight is in its cell
one_of : (n : Agent) (a : Msg) (cell : Option Msg) → Contains (flit_of n cell) (flit n a) → cell ≡ Some a
one_of n a None c = absurd (omega (arith, c.1))
one_of n a (Some b) c = ap (λ (f : Flit). Some f.message) (only_flit (flit n b) (flit n a) c.0 c.1 c.2)

in_filter : (p : Flit → Bool) (xs : List Flit) (x : Flit) (k : ℕ) → p x ≡ true → k < length xs → slice_index_or xs k x ≡ x → Contains (filter p xs) x
in_filter p [] x k pass low is = absurd (omega arith)
in_filter p (y ∷ xs) x zero pass low is = subst (λ (b : Bool). Contains (cond b (y ∷ filter p xs) (filter p xs)) x) (sym (ap p is ∙ pass)) (0, omega arith, is)
in_filter p (y ∷ xs) x (suc k) pass low is = go (p y) (in_filter p xs x k pass (omega arith) is)
  where
    go : (b : Bool) → Contains (filter p xs) x → Contains (cond b (y ∷ filter p xs) (filter p xs)) x
    go true c = (suc c.0, omega (arith, c.1), c.2)
    go false c = c

pub in_cell : (flits : List Cells) (n : Agent) (a : Msg) → Contains (in_flight flits) (flit n a) → cell_of (cells_at flits n.0) (channel_of a) ≡ Some a
in_cell flits n a c = one_of n a _ (subst (λ (l : List Flit). Contains l (flit n a)) (once flits n (channel_of a)) (in_filter (is_at (channel_of a) n) (in_flight flits) (flit n a) c.0 (at_itself a n) c.1 c.2))

same_message : (o : Option Msg) (a b : Msg) → o ≡ Some a → o ≡ Some b → a ≡ b
same_message o a b x y = cc

in_one : (flits : List Cells) (n : Agent) (a b : Msg) → channel_of a ≡ channel_of b → Contains (in_flight flits) (flit n a) → Contains (in_flight flits) (flit n b) → a ≡ b
in_one flits n a b same x y = same_message (cell_of (cells_at flits n.0) (channel_of a)) a b (in_cell flits n a x) (ap (cell_of (cells_at flits n.0)) same ∙ in_cell flits n b y)

-- an answer is a response or data
pub answer_up : (a : Msg) → is_snoop_answer a ≡ true → (channel_of a ≡ channels.RspUp) ⊎ (channel_of a ≡ channels.DatUp)
answer_up (RspUp response) is = inl refl
answer_up (DatUp sent) is = inr refl
answer_up other is = absurd cc

pub rsp_answers : (o : Option RspUpOf) (a : Msg) → is_snoop_answer a ≡ true → option_map RspUp o ≡ Some a → answers_rsp o ≡ true
rsp_answers o a is here = search (arith, is, here)

pub data_answers : (o : Option DatUpOf) (a : Msg) → is_snoop_answer a ≡ true → option_map DatUp o ≡ Some a → is_snoop_data o ≡ true
data_answers o a is here = search (arith, is, here)

not_both : (serving : Serving) (unique : Bool) (owner : Option Agent) (last : List ℕ) (n : ℕ) (x : Lane) → answers_rsp x.flits.rsp_up ≡ true → is_snoop_data x.flits.dat_up ≡ true → LaneKept serving unique owner last n x → ⊥
not_both serving unique owner last n x rsp sent k = true≢false (search (arith, rsp, sent, k.one_answer))

-- nothing is in flight for an agent beyond the eight
beyond : (cells : Cells) (channel : Channel) (a : Msg) → cells ≡ no_flits → cell_of cells channel ≡ Some a → ⊥
beyond cells channels.Req a is here = let e : None ≡ Some a = sym (ap (λ (c : Cells). cell_of c channels.Req) is) ∙ here in cc
beyond cells channels.Snp a is here = let e : None ≡ Some a = sym (ap (λ (c : Cells). cell_of c channels.Snp) is) ∙ here in cc
beyond cells channels.RspDown a is here = let e : None ≡ Some a = sym (ap (λ (c : Cells). cell_of c channels.RspDown) is) ∙ here in cc
beyond cells channels.DatDown a is here = let e : None ≡ Some a = sym (ap (λ (c : Cells). cell_of c channels.DatDown) is) ∙ here in cc
beyond cells channels.RspUp a is here = let e : None ≡ Some a = sym (ap (λ (c : Cells). cell_of c channels.RspUp) is) ∙ here in cc
beyond cells channels.DatUp a is here = let e : None ≡ Some a = sym (ap (λ (c : Cells). cell_of c channels.DatUp) is) ∙ here in cc

of_eight : (last : List ℕ) (s : LineState) (n : Agent) (a : Msg) → Kept last s → Contains (in_flight s.flits) (flit n a) → n.0 < 8
of_eight last s n a k c = ⊎_elim (λ (low : n.0 < 8). low)
    (λ (past : 8 ≤ n.0). absurd (beyond (cells_of s n.0) (channel_of a) a (get_or_past s.flits n.0 no_flits (omega (arith, past, k.flits))) (in_cell s.flits n a c))) (cases_lt n.0 8)

two_answers : (last : List ℕ) (s : LineState) (n : Agent) (a b : Msg) → Kept last s → channel_of a ≡ channels.RspUp → channel_of b ≡ channels.DatUp → is_snoop_answer a ≡ true → is_snoop_answer b ≡ true
    → Contains (in_flight s.flits) (flit n a) → Contains (in_flight s.flits) (flit n b) → ⊥
two_answers last s n a b k rsp sent is_a is_b x y =
    not_both s.home.serving s.home.filter.unique s.home.filter.owner last n.0 (lane s n.0)
    (rsp_answers (cells_of s n.0).rsp_up a is_a (sym (ap (cell_of (cells_of s n.0)) rsp) ∙ in_cell s.flits n a x))
    (data_answers (cells_of s n.0).dat_up b is_b (sym (ap (cell_of (cells_of s n.0)) sent) ∙ in_cell s.flits n b y))
    (k.lanes n.0 (of_eight last s n a k x))

one_answer : (last : List ℕ) (s : LineState) (n : Agent) (a b : Msg) → Kept last s → is_snoop_answer a ≡ true → is_snoop_answer b ≡ true → Contains (in_flight s.flits) (flit n a) → Contains (in_flight s.flits) (flit n b) → a ≡ b
one_answer last s n a b k is_a is_b x y = ⊎_elim
    (λ (u : channel_of a ≡ channels.RspUp). ⊎_elim
    (λ (v : channel_of b ≡ channels.RspUp). in_one s.flits n a b (u ∙ sym v) x y)
    (λ (v : channel_of b ≡ channels.DatUp). absurd (two_answers last s n a b k u v is_a is_b x y)) (answer_up b is_b))
    (λ (u : channel_of a ≡ channels.DatUp). ⊎_elim
    (λ (v : channel_of b ≡ channels.RspUp). absurd (two_answers last s n b a k v u is_b is_a y x))
    (λ (v : channel_of b ≡ channels.DatUp). in_one s.flits n a b (u ∙ sym v) x y) (answer_up b is_b))
    (answer_up a is_a)

in_low : (marks : List Bool) (n : ℕ) → length marks ≡ 8 → is_in marks n ≡ true → n < 8
in_low marks n eight here = ⊎_elim (λ (low : n < 8). low) (λ (past : 8 ≤ n). absurd (false≢true (sym (get_or_past marks n false (omega (arith, eight, past))) ∙ here))) (cases_lt n 8)

pub orderly : (last : List ℕ) (s : LineState) → Kept last s → IsOrderly (standing_of s)
orderly last s k = record {
  one = λ n a b same x y. in_one s.flits n a b same x y;
  one_answer = λ n a b is_a is_b x y. one_answer last s n a b k is_a is_b x y;
  lone = λ flag n m in_n in_m. ap (λ (j : ℕ). let agent : Agent = record { 0 = j } in agent)
      (k.flag_means_one flag n.0 m.0 (in_low s.home.filter.named n.0 k.named in_n) (in_low s.home.filter.named m.0 k.named in_m) in_n in_m);
}
