-- A line is coherent as the protocol has it where its parts are.
use Rattle.std.proofs.Common.{◌≡◌, ℕ, zero, suc, ◌<◌, ◌≤◌, length, cond, List, [], ◌∷◌, Bool, true, false, Option, Some, None, option_map, Contains, filter, slice_index_or, sym, subst, refl, ap, ◌∙◌, ◌↔◌, ⊎_elim, arith}
use Rattle.std.proofs.lemmas.Bool.{cases_lt, false≢true}
use Rattle.std.proofs.lemmas.List.{get_or_past}
use Rattle.chi_flit.specs.declared.message.Channel.TheVariants as channels
use Rattle.chi_flit.specs.declared.message.DatUp.{DatUp as DatUpOf}
use Rattle.chi_flit.specs.Message.{channel_of}
use Rattle.chi_flit.specs.State.{is_dirty, is_unique, is_valid}
use Rattle.chi_wires.specs.declared.cells.Cells.{Cells}
use Rattle.chi_wires.specs.Cell.{cell_of, no_flits}
use Rattle.chi_wires.specs.Flight.{flit_of, in_flight, is_at}
use Rattle.chi_wires.specs.Flits.{cells_at}
use Rattle.chi_wires.proofs.Once.{once}
use Rattle.chi_rnline.specs.Rn.{Rn, no_line}
use Rattle.chi_line.specs.LineState.{LineState, cells_of, rn_of}
use Rattle.chi_line.specs.Clean.{CoherentParts, IsClean, passes_dirty}
use Rattle.chi_line.specs.Coherence.{Coherent, IsQuietLine, is_pass_dirty}
use Rattle.chi_line.specs.Meaning.{standing_of}
use Rattle.chi_line.specs.Words.{Agent, State, I, SD, Flit, flit, Msg, DatUp, SnpRespDataIPD, SnpRespDataSCPD, SnpRespDataSD, CopyBackWrData}
use Rattle.chi_line.proofs.OneFlit.{in_cell}

abbrev numbered : ℕ → Agent
numbered n = record { 0 = n }

same_agent : (n m : Agent) → n.0 ≡ m.0 → n ≡ m
same_agent n m is = ap numbered is

-- a full cell's flit is in flight
from_filter : (p : Flit → Bool) (xs : List Flit) (x : Flit) (k : ℕ) → k < length (filter p xs) → slice_index_or (filter p xs) k x ≡ x → Contains xs x
from_filter p [] x k low is = absurd (omega (arith, low))
from_filter p (y ∷ xs) x k low is = go (p y) (λ i below here. from_filter p xs x i below here) k low is
  where
    go : (b : Bool) → ((i : ℕ) → i < length (filter p xs) → slice_index_or (filter p xs) i x ≡ x → Contains xs x) → (k : ℕ) → k < length (cond b (y ∷ filter p xs) (filter p xs)) → slice_index_or (cond b (y ∷ filter p xs) (filter p xs)) k x ≡ x → Contains (y ∷ xs) x
    go true rest zero low is = (0, omega arith, is)
    go true rest (suc k) low is = let c = rest k (omega (arith, low)) is in (suc c.0, omega (arith, c.1), c.2)
    go false rest k low is = let c = rest k low is in (suc c.0, omega (arith, c.1), c.2)

pub out_of_cell : (flits : List Cells) (n : Agent) (m : Msg) → cell_of (cells_at flits n.0) (channel_of m) ≡ Some m → Contains (in_flight flits) (flit n m)
out_of_cell flits n m is =
    let there : filter (is_at (channel_of m) n) (in_flight flits) ≡ flit n m ∷ [] = once flits n (channel_of m) ∙ ap (flit_of n) is in
    from_filter (is_at (channel_of m) n) (in_flight flits) (flit n m) 0
    (subst (λ (xs : List Flit). 0 < length xs) (sym there) (omega arith))
    (subst (λ (xs : List Flit). slice_index_or xs 0 (flit n m) ≡ flit n m) (sym there) refl)

pass_dirty_is : (d : DatUpOf) → is_pass_dirty (DatUp d) ≡ passes_dirty (Some d)
pass_dirty_is (SnpRespDataIPD words) = refl
pass_dirty_is (SnpRespDataSCPD words) = refl
pass_dirty_is (SnpRespDataSD words) = refl
pass_dirty_is (CopyBackWrData form words) = refl

-- beyond the eight there is nothing
record IsEight (s : LineState) : Type 0 where
  requesters : length s.requesters ≡ 8
  flits : length s.flits ≡ 8

none_past : (s : LineState) (n : Agent) → IsEight s → 8 ≤ n.0 → (rn_of s n.0).state ≡ I
none_past s n e past = ap (λ (rn : Rn). rn.state) (get_or_past s.requesters n.0 no_line (omega (arith, past, e.requesters)))

low_by : (s : LineState) (n : Agent) (test : State → Bool) → test I ≡ false → IsEight s → test (rn_of s n.0).state ≡ true → n.0 < 8
low_by s n test none e is = ⊎_elim (λ (low : n.0 < 8). low)
    (λ (past : 8 ≤ n.0). absurd (false≢true (sym none ∙ (sym (ap test (none_past s n e past)) ∙ is)))) (cases_lt n.0 8)

abbrev is_shared_dirty : State → Bool
is_shared_dirty SD = true
is_shared_dirty other = false

-- what is clean
quiet_is_clean : (s : LineState) → IsQuietLine (standing_of s) → IsClean s
quiet_is_clean s quiet n low = record {
  copy = quiet.copies (numbered n);
  on_its_way = go (cells_of s n).dat_up refl;
}
  where
    go : (o : Option DatUpOf) → (cells_of s n).dat_up ≡ o → passes_dirty o ≡ false
    go None is = refl
    go (Some d) is = sym (pass_dirty_is d) ∙ quiet.flits (flit (numbered n) (DatUp d)) (out_of_cell s.flits (numbered n) (DatUp d) (ap (option_map DatUp) is))

sent_is : (o : Option DatUpOf) (d : DatUpOf) → option_map DatUp o ≡ Some (DatUp d) → o ≡ Some d
sent_is o d is = search (arith, is)

no_data : (d : DatUpOf) → Some (DatUp d) ≡ cell_of no_flits channels.DatUp → ⊥
no_data d is = cc

clean_is_quiet : (s : LineState) → IsEight s → IsClean s → IsQuietLine (standing_of s)
clean_is_quiet s e clean = record { copies = copies; flits = λ f there. sent f.agent f.message there }
  where
    copies : (n : Agent) → is_dirty (rn_of s n.0).state ≡ false
    copies n = ⊎_elim (λ (low : n.0 < 8). (clean n.0 low).copy) (λ (past : 8 ≤ n.0). ap is_dirty (none_past s n e past)) (cases_lt n.0 8)

    data_sent : (n : Agent) (d : DatUpOf) → Contains (in_flight s.flits) (flit n (DatUp d)) → passes_dirty (Some d) ≡ false
    data_sent n d there = ⊎_elim
        (λ (low : n.0 < 8). ap passes_dirty (sym (sent_is (cells_of s n.0).dat_up d (in_cell s.flits n (DatUp d) there))) ∙ (clean n.0 low).on_its_way)
        (λ (past : 8 ≤ n.0). absurd (no_data d (sym (in_cell s.flits n (DatUp d) there)
        ∙ ap (λ (c : Cells). cell_of c channels.DatUp) (get_or_past s.flits n.0 no_flits (omega (arith, past, e.flits))))))
        (cases_lt n.0 8)

    sent : (n : Agent) (m : Msg) → Contains (in_flight s.flits) (flit n m) → is_pass_dirty m ≡ false
    sent n (DatUp d) there = pass_dirty_is d ∙ data_sent n d there
    sent n other there = refl

to_line : (last : List ℕ) (s : LineState) → IsEight s → CoherentParts last s → Coherent last (standing_of s)
to_line last s e c = record {
  unique_holder = λ n m apart alone. ⊎_elim
      (λ (at : m.0 < 8). c.unique_holder n.0 m.0 (low_by s n is_unique refl e alone) at (λ is. apart (same_agent m n is)) alone)
      (λ (past : 8 ≤ m.0). none_past s m e past)
      (cases_lt m.0 8);
  named = λ n valid. c.named n.0 (low_by s n is_valid refl e valid) valid;
  valid_data = λ n valid. c.valid_data n.0 (low_by s n is_valid refl e valid) valid;
  memory = λ quiet. c.memory (quiet_is_clean s quiet);
  one_owner = λ n m here there. same_agent n m
      (c.one_owner n.0 m.0 (low_by s n is_shared_dirty refl e (ap is_shared_dirty here)) (low_by s m is_shared_dirty refl e (ap is_shared_dirty there)) here there);
}

to_parts : (last : List ℕ) (s : LineState) → IsEight s → Coherent last (standing_of s) → CoherentParts last s
to_parts last s e c = record {
  unique_holder = λ n m low at apart alone. c.unique_holder (numbered n) (numbered m) (λ is. apart (ap (λ (a : Agent). a.0) is)) alone;
  named = λ n low valid. c.named (numbered n) valid;
  valid_data = λ n low valid. c.valid_data (numbered n) valid;
  memory = λ clean. c.memory (clean_is_quiet s e clean);
  one_owner = λ n m low at here there. ap (λ (a : Agent). a.0) (c.one_owner (numbered n) (numbered m) here there);
}

pub coherent_is : (last : List ℕ) (s : LineState) → length s.requesters ≡ 8 → length s.flits ≡ 8 → CoherentParts last s ↔ Coherent last (standing_of s)
coherent_is last s requesters flits =
    let e : IsEight s = record { requesters = requesters; flits = flits } in
    (to_line last s e, to_parts last s e)
