-- RecvWrData keeps what a line keeps.
use Rattle.std.proofs.Common.{◌≡◌, ◌≢◌, ℕ, ◌<◌, List, Bool, true, false, Option, Some, None, length, arith, refl, sym, subst, ap, ◌∙◌, ⊎_elim, if◌then◌else◌, ◌&&◌, ◌||◌, set, not, inl, inr, ◌⊎◌}
use Rattle.std.proofs.lemmas.Bool.{cases_eq, both_ways, and_from}
use Rattle.std.proofs.lemmas.List.{length-set}
use Rattle.chi_flit.specs.declared.numbers.Agent.{Agent}
use Rattle.chi_flit.specs.declared.numbers.Slot.{Slot}
use Rattle.chi_flit.specs.declared.state.State.{State}
use Rattle.chi_flit.specs.declared.state.State.TheVariants.{I}
use Rattle.chi_flit.specs.declared.kind.Kind.{Kind}
use Rattle.chi_flit.specs.declared.message.DatUp.TheVariants.{CopyBackWrData}
use Rattle.chi_flit.specs.State.{is_valid, is_dirty}
use Rattle.chi_filter.specs.Filter.{FilterState, has_any, is_named, others_than, owned_by, owner_without, filter_without}
use Rattle.chi_homeline.specs.declared.serving.Serving.{Serving}
use Rattle.chi_homeline.specs.declared.serving.Serving.TheVariants.{Idle, AwaitingWriteData}
use Rattle.chi_homeline.specs.Home.{leaves, written_filter}
use Rattle.chi_line.specs.LineState.{LineState, rn_of, cells_of}
use Rattle.chi_line.specs.Clean.{IsClean, passes_dirty}
use Rattle.chi_flit.specs.Kind.{gives_up}
use Rattle.chi_line.specs.Kept.{IsOwnerInRange, Lane, LaneKept, Kept, is_unique_dirty, is_write_data, lane, served_kind, writes_for}
use Rattle.chi_line.specs.Step.{written_line}
use Rattle.chi_line.proofs.Frame.{Moves, Puts, kept_moved, memory_by, moves_home, puts_set, puts_nothing, within, without_in_range}
use Rattle.chi_line.proofs.Asks.{has_in, left_in, was_in}
use Rattle.chi_line.proofs.Keeps.{not_served}
use Rattle.chi_line.proofs.CopyKeeps.{AwaitsWrite, awaits_write}
use Rattle.chi_line.proofs.WriteLanes.{write_lane, write_other}

-- the owner where an agent is it no more
pub unowned_here : (owner : Option Agent) (n : ℕ) → owned_by (owner_without owner n) n ≡ false
unowned_here owner n = go (owned_by owner n) refl
  where
    go : (b : Bool) → owned_by owner n ≡ b → owned_by (if b then None else owner) n ≡ false
    go true e = refl
    go false e = e

pub owned_elsewhere : (owner : Option Agent) (n m : ℕ) → m ≢ n → owned_by (owner_without owner n) m ≡ owned_by owner m
owned_elsewhere None n m apart = refl
owned_elsewhere (Some agent) n m apart = grind arith

-- a filter after n's copy is gone, or n is no owner any more: what holds of it beside the one before
pub record FilterAfter (f after : FilterState) (n : ℕ) (valid : Bool) : Type 0 where
  pub puts : Puts false f.named after.named n (is_named after n)
  pub named_stays : valid ≡ true → is_named after n ≡ is_named f n
  pub unique_stays : valid ≡ true → after.unique ≡ f.unique
  pub flag_stays : (m : ℕ) → m < 8 → m ≢ n → f.unique ≡ true → is_named f m ≡ true → after.unique ≡ true
  pub flag_back : after.unique ≡ true → f.unique ≡ true
  pub named_back : is_named after n ≡ true → is_named f n ≡ true
  pub unowned : owned_by after.owner n ≡ false
  pub owner_stays : (m : ℕ) → m ≢ n → owned_by after.owner m ≡ owned_by f.owner m
  pub owner_in_range : IsOwnerInRange f.owner → IsOwnerInRange after.owner

and_first : (a b : Bool) → (a && b) ≡ true → a ≡ true
and_first a b e = grind arith

pub removed_after : (f : FilterState) (n : ℕ) (valid : Bool) → n < 8 → length f.named ≡ 8 → valid ≡ false → FilterAfter f (filter_without f n) n valid
removed_after f n valid low eight gone = record {
  puts = record { at = refl; others = λ m apart. left_in n m f.named apart; long = length-set f.named n false };
  named_stays = λ is. absurd (both_ways valid gone is);
  unique_stays = λ is. absurd (both_ways valid gone is);
  flag_stays = λ m at apart flag named. and_from f.unique (has_any (others_than n f.named)) flag
      (has_in (others_than n f.named) m (length-set f.named n false ∙ eight) at (left_in n m f.named apart ∙ named));
  flag_back = λ flag. and_first f.unique (has_any (others_than n f.named)) flag;
  named_back = λ named. was_in n n f.named low eight named;
  unowned = unowned_here f.owner n;
  owner_stays = λ m apart. owned_elsewhere f.owner n m apart;
  owner_in_range = without_in_range f.owner n;
}

pub unowned_after : (f : FilterState) (n : ℕ) (valid : Bool) → FilterAfter f (record f { owner = owner_without f.owner n }) n valid
unowned_after f n valid = record {
  puts = puts_nothing false f.named n;
  named_stays = λ is. refl;
  unique_stays = λ is. refl;
  flag_stays = λ m at apart flag named. flag;
  flag_back = λ flag. flag;
  named_back = λ named. named;
  unowned = unowned_here f.owner n;
  owner_stays = λ m apart. owned_elsewhere f.owner n m apart;
  owner_in_range = without_in_range f.owner n;
}

-- the line once write data is taken, for any memory and filter
abbrev taken_line : LineState → ℕ → List ℕ → FilterState → LineState
taken_line s n memory filter = record s { home = record s.home { memory = memory; filter = filter; serving = Idle }; flits = set s.flits n (record (cells_of s n) { dat_up = None }) }

-- two named agents of a filter that is flagged still are one
one_named : (last : List ℕ) (s : LineState) (n : ℕ) (after : FilterState) (valid : Bool) → FilterAfter s.home.filter after n valid → Kept last s
    → after.unique ≡ true → (a b : ℕ) → a < 8 → b < 8 → is_named after a ≡ true → is_named after b ≡ true → a ≡ b
one_named last s n after valid fits k flag a b low at here there = k.flag_means_one (fits.flag_back flag) a b low at (was a here) (was b there)
  where
    was : (m : ℕ) → is_named after m ≡ true → is_named s.home.filter m ≡ true
    was m named = ⊎_elim
        (λ (same : m ≡ n). subst (λ k. is_named s.home.filter k ≡ true) (sym same) (fits.named_back (subst (λ k. is_named after k ≡ true) same named)))
        (λ (apart : m ≢ n). sym (fits.puts.others m apart) ∙ named)
        (cases_eq m n)

taken_moves : (last : List ℕ) (s : LineState) (n : ℕ) (memory : List ℕ) (after : FilterState) (valid : Bool) → n < 8
    → FilterAfter s.home.filter after n valid → Kept last s
    → Moves s (taken_line s n memory after) n (record (lane s n) { named = is_named after n; flits = record (cells_of s n) { dat_up = None } })
taken_moves last s n memory after valid low fits k = moves_home s n _ _ _ refl
    (puts_set _ s.flits n _ (within n _ low k.flits)) fits.puts (puts_nothing _ s.home.awaited n) (puts_nothing _ s.home.waiting n)

taken_kept : (last : List ℕ) (s : LineState) (n : ℕ) (form : State) (words memory : List ℕ) (after : FilterState) → n < 8
    → (cells_of s n).dat_up ≡ Some (CopyBackWrData form words) → (awaits : AwaitsWrite s.home.serving n)
    → FilterAfter s.home.filter after n (is_valid (rn_of s n).state)
    → (IsClean (taken_line s n memory after) → memory ≡ last)
    → Kept last s → Kept last (taken_line s n memory after)
taken_kept last s n form words memory after low here awaits fits clean_memory k =
    let unique = s.home.filter.unique in
    let owner = s.home.filter.owner in
    let before : (m : ℕ) → m < 8 → LaneKept (AwaitingWriteData awaits.agent awaits.kind awaits.slot) unique owner last m (lane s m) =
    λ m at. subst (λ v. LaneKept v unique owner last m (lane s m)) awaits.serving_is (k.lanes m at) in
    kept_moved last last s _ n _ (taken_moves last s n memory after (is_valid (rn_of s n).state) low fits k) k tt (fits.owner_in_range k.owner)
    (write_lane awaits.agent awaits.kind awaits.slot unique after.unique owner after.owner last n (lane s n) form words (is_named after n) here
    fits.named_stays fits.unique_stays fits.unowned (before n low))
    (λ m at apart. write_other awaits.agent awaits.kind awaits.slot unique after.unique owner after.owner last m (lane s m)
    (not_served awaits.agent.0 n m awaits.agent_is apart) (λ flag named. fits.flag_stays m at apart flag named) fits.flag_back (fits.owner_stays m apart) (before m at))
    (one_named last s n after (is_valid (rn_of s n).state) fits k) clean_memory

-- who leaves the filter has no copy
not_valid_none : (form : State) → not (is_valid form) ≡ true → form ≡ I
not_valid_none form none = search arith

leaves_by : (kind : Kind) (form : State) → leaves kind form ≡ true → (gives_up kind ≡ true) ⊎ (form ≡ I)
leaves_by kind form e = go (gives_up kind) refl e
  where
    go : (b : Bool) → gives_up kind ≡ b → (b || not (is_valid form)) ≡ true → (gives_up kind ≡ true) ⊎ (form ≡ I)
    go true up e = inl up
    go false stays e = inr (not_valid_none form e)

leaver_gone : (agent : Agent) (kind : Kind) (slot : Slot) (unique : Bool) (owner : Option Agent) (last : List ℕ) (n : ℕ) (x : Lane) (form : State) (words : List ℕ)
    → x.flits.dat_up ≡ Some (CopyBackWrData form words) → leaves kind form ≡ true
    → LaneKept (AwaitingWriteData agent kind slot) unique owner last n x → is_valid x.rn.state ≡ false
leaver_gone agent kind slot unique owner last n x form words here gone k = ⊎_elim
    (λ (up : gives_up kind ≡ true). ap is_valid (k.write_gone kind (ap is_write_data here) refl up))
    (λ (none : form ≡ I). ap is_valid (k.write_none words (here ∙ ap (λ (f : State). Some (CopyBackWrData f words)) none)))
    (leaves_by kind form gone)

not_unique_dirty : (state : State) → is_dirty state ≡ false → is_unique_dirty state ≡ false
not_unique_dirty state clean = search arith

-- the memory after write data, on a line that is clean then
memory_written : (last : List ℕ) (s : LineState) (n : ℕ) (form : State) (words : List ℕ) (after : FilterState) (b : Bool) → n < 8
    → (cells_of s n).dat_up ≡ Some (CopyBackWrData form words) → is_dirty form ≡ b
    → FilterAfter s.home.filter after n (is_valid (rn_of s n).state) → Kept last s
    → IsClean (taken_line s n (if b then words else s.home.memory) after) → (if b then words else s.home.memory) ≡ last
memory_written last s n form words after true low here dirty fits k clean =
    (k.lanes n low).write_last form words here dirty (not_unique_dirty (rn_of s n).state (clean n low).copy)
memory_written last s n form words after false low here dirty fits k clean =
    memory_by last s _ n _ low (taken_moves last s n s.home.memory after (is_valid (rn_of s n).state) low fits k) k (λ c. record { copy = c.copy; on_its_way = ap passes_dirty here ∙ dirty }) clean

written_as : (b : Bool) (last : List ℕ) (s : LineState) (n : ℕ) (form : State) (words : List ℕ) → n < 8
    → (cells_of s n).dat_up ≡ Some (CopyBackWrData form words) → (awaits : AwaitsWrite s.home.serving n)
    → (b ≡ true → is_valid (rn_of s n).state ≡ false) → Kept last s
    → Kept last (taken_line s n (if is_dirty form then words else s.home.memory) (written_filter b s.home.filter n))
written_as true last s n form words low here awaits gone k =
    let fits = removed_after s.home.filter n (is_valid (rn_of s n).state) low k.named (gone refl) in
    taken_kept last s n form words _ _ low here awaits fits (memory_written last s n form words (filter_without s.home.filter n) (is_dirty form) low here refl fits k) k
written_as false last s n form words low here awaits gone k =
    let fits = unowned_after s.home.filter n (is_valid (rn_of s n).state) in
    taken_kept last s n form words _ _ low here awaits fits (memory_written last s n form words (record s.home.filter { owner = owner_without s.home.filter.owner n }) (is_dirty form) low here refl fits k) k

write_awaited : (serving : Serving) (unique : Bool) (owner : Option Agent) (last : List ℕ) (n : ℕ) (x : Lane) (form : State) (words : List ℕ)
    → x.flits.dat_up ≡ Some (CopyBackWrData form words) → LaneKept serving unique owner last n x → writes_for serving n ≡ true
write_awaited serving unique owner last n x form words here k = search (arith, k.one_write)

written_kept : (last : List ℕ) (s : LineState) (n : ℕ) (form : State) (words : List ℕ) → n < 8
    → (cells_of s n).dat_up ≡ Some (CopyBackWrData form words) → (awaits : AwaitsWrite s.home.serving n) → Kept last s → Kept last (written_line s n awaits.kind form words)
written_kept last s n form words low here awaits k =
    written_as (leaves awaits.kind form) last s n form words low here awaits
    (λ gone. leaver_gone awaits.agent awaits.kind awaits.slot s.home.filter.unique s.home.filter.owner last n (lane s n) form words here gone
    (subst (λ v. LaneKept v s.home.filter.unique s.home.filter.owner last n (lane s n)) awaits.serving_is (k.lanes n low))) k

same_kind : (a b : Kind) (served : Option Kind) → served ≡ Some a → served ≡ Some b → a ≡ b
same_kind a b served is_a is_b = cc

-- RecvWrData, of the kind that is served
pub kept_written : (last : List ℕ) (s : LineState) (n : ℕ) (kind : Kind) (form : State) (words : List ℕ) → n < 8
    → (cells_of s n).dat_up ≡ Some (CopyBackWrData form words) → served_kind s.home.serving ≡ Some kind
    → Kept last s → Kept last (written_line s n kind form words)
kept_written last s n kind form words low here served k =
    let awaits : AwaitsWrite s.home.serving n = awaits_write s.home.serving n (write_awaited s.home.serving s.home.filter.unique s.home.filter.owner last n (lane s n) form words here (k.lanes n low)) in
    subst (λ v. Kept last (written_line s n v form words)) (same_kind awaits.kind kind (served_kind s.home.serving) (ap served_kind awaits.serving_is) served)
    (written_kept last s n form words low here awaits k)
