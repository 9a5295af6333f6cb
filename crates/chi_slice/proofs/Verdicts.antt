-- What a walk over the agents of a line finds of its coherence.
use Rattle.std.proofs.Common.{◌≡◌, ◌≢◌, ◌↔◌, ℕ, ◌+◌, ◌<◌, ◌==◌, List, Bool, true, false, ◌&&◌, Option, length, get_or, set, refl, sym, ◌∙◌, ap, subst, arith, get_or-set_same, get_or-set_other}
use Rattle.std.specs.Prelude.{IsTrue}
use Rattle.std.proofs.Math.ListN.{length-set}
use Rattle.chi_flit.specs.declared.state.State.{State}
use Rattle.chi_flit.specs.declared.state.State.TheVariants.{I}
use Rattle.chi_flit.specs.declared.message.DatUp.{DatUp}
use Rattle.chi_flit.specs.State.{is_valid}
use Rattle.chi_wires.specs.declared.cells.Cells.{Cells}
use Rattle.chi_rnline.specs.Rn.{Rn}
use Rattle.chi_line.specs.Clean.{CoherentParts, IsCleanAgent}
use Rattle.chi_line.specs.LineState.{LineState, cells_of, rn_of}
use Rattle.chi_line.specs.declared.view.LineView.{LineView}
use Rattle.chi_filter.specs.Filter.{is_named}
use Rattle.chi_slice.specs.Verdict.{IsBacked, IsCoherentView, IsPassed, MayStandBeside, copy_of, view_flits, state_in}
use Rattle.chi_slice.proofs.Below.{AllBelow, next_below}

-- what belongs to each agent of a line
pub record Agents : Type 0 where
  pub state : ℕ → State
  pub named : ℕ → Bool
  pub words : ℕ → List ℕ
  pub sent : ℕ → Option DatUp

abbrev pub agents_in : LineView → Agents
agents_in view = record {
  state = λ n. (copy_of view n).state;
  named = λ n. get_or view.named n false;
  words = λ n. (copy_of view n).words;
  sent = λ n. (view_flits view n).dat_up;
}

abbrev pub agents_of : LineState → Agents
agents_of s = record {
  state = λ n. (rn_of s n).state;
  named = λ n. is_named s.home.filter n;
  words = λ n. (rn_of s n).words;
  sent = λ n. (cells_of s n).dat_up;
}

abbrev pub Backed : Agents → List ℕ → ℕ → Type 0
Backed at last n = IsBacked (at.state n) (at.named n) (at.words n) last

abbrev pub Clean : Agents → ℕ → Type 0
Clean at n = IsCleanAgent (at.state n) (at.sent n)

-- what is found of the first n agents
pub record Walked (at : Agents) (last : List ℕ) (states : List State) (backed clean : Bool) (n : ℕ) : Type 0 where
  pub wide : length states ≡ 8
  pub state_is : (k : ℕ) → k < n → state_in states k ≡ at.state k
  pub backed_is : IsTrue backed ↔ AllBelow (Backed at last) n
  pub clean_is : IsTrue clean ↔ AllBelow (Clean at) n

-- what is found of one agent
pub record Found (at : Agents) (last : List ℕ) (n : ℕ) (state : State) (backed clean : Bool) : Type 0 where
  pub low : n < 8
  pub state_is : state ≡ at.state n
  pub backed_is : IsTrue backed ↔ Backed at last n
  pub clean_is : IsTrue clean ↔ Clean at n

pub next_walked : (at : Agents) (last : List ℕ) (states states' : List State) (backed clean backed' clean' b c : Bool) (n : ℕ) (state : State) → Walked at last states backed clean n → Found at last n state b c
    → states' ≡ set states n state → backed' ≡ (backed && b) → clean' ≡ (clean && c) → Walked at last states' backed' clean' (n + 1)
next_walked at last states states' backed clean backed' clean' b c n state so_far here states_are backed_are clean_are = record {
  wide = ap (λ (xs : List State). length xs) states_are ∙ (length-set states n state ∙ so_far.wide);
  state_is = λ k low. ap (λ (xs : List State). state_in xs k) states_are ∙ go k low (k == n) refl;
  backed_is = next_below (Backed at last) n backed b backed' so_far.backed_is here.backed_is backed_are;
  clean_is = next_below (Clean at) n clean c clean' so_far.clean_is here.clean_is clean_are;
}
  where
    go : (k : ℕ) → k < n + 1 → (e : Bool) → (k == n) ≡ e → state_in (set states n state) k ≡ at.state k
    go k low true same =
        let e : k ≡ n = grind (arith, same) in
        subst (λ (m : ℕ). state_in (set states n state) m ≡ at.state m) (sym e) (get_or-set_same states n state I (omega (arith, here.low, so_far.wide)) ∙ here.state_is)
    go k low false apart = get_or-set_other states n k state I (λ (e : k ≡ n). grind (arith, apart, e)) ∙ so_far.state_is k (grind (arith, low, apart))

-- coherence, of what belongs to each agent and of memory
pub record IsCoherentBy (at : Agents) (memory last : List ℕ) : Type 0 where
  pub backed : (n : ℕ) → n < 8 → Backed at last n
  pub memory_last : ((n : ℕ) → n < 8 → Clean at n) → memory ≡ last
  pub together : (n m : ℕ) → n < 8 → m < 8 → m ≢ n → MayStandBeside (at.state n) (at.state m)

pub judged : (at : Agents) (memory last : List ℕ) (states : List State) (backed clean : Bool) (n : ℕ) → n ≡ 8 → Walked at last states backed clean n → IsPassed backed clean memory last states ↔ IsCoherentBy at memory last
judged at memory last states backed clean n eight walked = (
  λ found. record {
    backed = walk.backed_is.0 found.all_backed;
    memory_last = λ all. found.memory_last (walk.clean_is.1 all);
    together = λ n m low here apart.
        subst (λ (x : State). MayStandBeside x (at.state m)) (walk.state_is n low) (subst (MayStandBeside (state_in states n)) (walk.state_is m here) (found.together n low m here apart));
  },
  λ coherent. record {
    all_backed = walk.backed_is.1 coherent.backed;
    memory_last = λ is. coherent.memory_last (walk.clean_is.0 is);
    together = λ n low m here apart.
        subst (λ (x : State). MayStandBeside x (state_in states m)) (sym (walk.state_is n low)) (subst (MayStandBeside (at.state n)) (sym (walk.state_is m here)) (coherent.together n m low here apart));
  },
)
  where
    walk : Walked at last states backed clean 8
    walk = subst (Walked at last states backed clean) eight walked

pub both_ways : (A B C : Type 0) → A ↔ B → B ↔ C → A ↔ C
both_ways A B C ab bc = (λ a. bc.0 (ab.0 a), λ c. ab.1 (bc.1 c))

-- of plain data
pub of_view : (view : LineView) → IsCoherentBy (agents_in view) view.memory view.last ↔ IsCoherentView view
of_view view = (
  λ by. record {
    agents = λ n low. record { named = λ valid. (by.backed n low valid).0; valid_data = λ valid. (by.backed n low valid).1; others = λ m here apart. by.together n m low here apart };
    memory = by.memory_last;
  },
  λ of. record {
    backed = λ n low valid. ((of.agents n low).named valid, (of.agents n low).valid_data valid);
    memory_last = of.memory;
    together = λ n m low here apart. (of.agents n low).others m here apart;
  },
)

-- of a line
same_agent : (n m : ℕ) → (n ≢ m → ⊥) → n ≡ m
same_agent n m h = go (n == m) refl
  where
    go : (b : Bool) → (n == m) ≡ b → n ≡ m
    go true same = grind (arith, same)
    go false apart = absurd (h (λ (e : n ≡ m). grind (arith, apart, e)))

pub of_line : (s : LineState) (last : List ℕ) → IsCoherentBy (agents_of s) s.home.memory last ↔ CoherentParts last s
of_line s last = (
  λ by. record {
    unique_holder = λ n m low here apart unique. (by.together n m low here apart).unique_alone unique;
    named = λ n low valid. (by.backed n low valid).0;
    valid_data = λ n low valid. (by.backed n low valid).1;
    memory = by.memory_last;
    one_owner = λ n m low here first second. same_agent n m (λ apart. (by.together n m low here (λ (e : m ≡ n). apart (sym e))).one_owner first second);
  },
  λ of. record {
    backed = λ n low valid. (of.named n low valid, of.valid_data n low valid);
    memory_last = of.memory;
    together = λ n m low here apart. record {
      unique_alone = λ unique. of.unique_holder n m low here apart unique;
      one_owner = λ first second. apart (sym (of.one_owner n m low here first second));
    };
  },
)

pub found_of : (s : LineState) (last : List ℕ) (n place : ℕ) (copy : Rn) (named : List Bool) (cells : Cells) (words : List ℕ) (state : State) (b c : Bool) → n < 8 → copy ≡ rn_of s n → named ≡ s.home.filter.named → cells ≡ cells_of s n → place ≡ n
    → state ≡ copy.state → words ≡ copy.words → IsTrue b ↔ IsBacked state (get_or named place false) words last → IsTrue c ↔ IsCleanAgent state cells.dat_up → Found (agents_of s) last n state b c
found_of s last n place copy named cells words state b c low copy_is named_is cells_is place_is state_is words_is backed clean =
    let at : state ≡ (rn_of s n).state = state_is ∙ ap (λ (r : Rn). r.state) copy_is in
    let had : words ≡ (rn_of s n).words = words_is ∙ ap (λ (r : Rn). r.words) copy_is in
    let name : get_or named place false ≡ is_named s.home.filter n = ap (λ (k : ℕ). get_or named k false) place_is ∙ ap (λ (xs : List Bool). get_or xs n false) named_is in
    record {
      low = low;
      state_is = at;
      backed_is = subst (λ (x : State). IsTrue b ↔ IsBacked x (is_named s.home.filter n) (rn_of s n).words last) at
          (subst (λ (x : Bool). IsTrue b ↔ IsBacked state x (rn_of s n).words last) name (subst (λ (x : List ℕ). IsTrue b ↔ IsBacked state (get_or named place false) x last) had backed));
      clean_is = subst (λ (x : State). IsTrue c ↔ IsCleanAgent x (cells_of s n).dat_up) at (subst (λ (x : Cells). IsTrue c ↔ IsCleanAgent state x.dat_up) cells_is clean);
    }

-- where each agent has the same
pub record AreSame (a b : Agents) : Type 0 where
  pub state : (n : ℕ) → n < 8 → a.state n ≡ b.state n
  pub named : (n : ℕ) → n < 8 → a.named n ≡ b.named n
  pub words : (n : ℕ) → n < 8 → a.words n ≡ b.words n
  pub sent : (n : ℕ) → n < 8 → a.sent n ≡ b.sent n

pub swapped : (a b : Agents) → AreSame a b → AreSame b a
swapped a b same = record { state = λ n low. sym (same.state n low); named = λ n low. sym (same.named n low); words = λ n low. sym (same.words n low); sent = λ n low. sym (same.sent n low) }

pub by_same : (a b : Agents) (memory last : List ℕ) → AreSame a b → IsCoherentBy a memory last → IsCoherentBy b memory last
by_same a b memory last same by = record {
  backed = λ n low valid.
      let had = by.backed n low (subst (λ (x : State). is_valid x ≡ true) (sym (same.state n low)) valid) in (sym (same.named n low) ∙ had.0, sym (same.words n low) ∙ had.1);
  memory_last = λ all. by.memory_last (λ n low. subst (λ (x : State). IsCleanAgent x (a.sent n)) (sym (same.state n low)) (subst (IsCleanAgent (b.state n)) (sym (same.sent n low)) (all n low)));
  together = λ n m low here apart.
      subst (λ (x : State). MayStandBeside x (b.state m)) (same.state n low) (subst (MayStandBeside (a.state n)) (same.state m here) (by.together n m low here apart));
}
