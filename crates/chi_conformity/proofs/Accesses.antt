-- Loads, stores and drops.
use Rattle.std.proofs.Common.{arith, ◌≡◌, inl, ℕ, ◌<◌, List, refl, sym, ap, ◌∙◌, set}
use Rattle.std.specs.Prelude.{◌==◌, Bool, true, false, Option, Some, None, is_some, if◌then◌else◌}
use Rattle.chi_flit.specs.declared.numbers.Agent.{Agent}
use Rattle.chi_flit.specs.declared.numbers.WordNo.{WordNo}
use Rattle.chi_flit.specs.declared.state.State.{State}
use Rattle.chi_flit.specs.declared.state.State.TheVariants.{I, SC, UC, UD, SD}
use Rattle.chi_flit.specs.declared.message.CompData.{CompData}
use Rattle.chi_flit.specs.declared.message.RspDown.{RspDown}
use Rattle.chi_flit.specs.declared.message.RspDown.TheVariants.{CompUC}
use Rattle.chi_flit.specs.Message.{no_words}
use Rattle.chi_flit.specs.State.{is_valid, is_unique as is_unique_state}
use Rattle.chi_wires.specs.Cell.{no_flits}
use Rattle.chi_rnline.specs.declared.pending.Pending.{Pending}
use Rattle.chi_rnline.specs.Rn.{Rn, no_line, rn_after_store, word_of}
use Rattle.chi_homeline.specs.declared.serving.Serving.{Serving}
use Rattle.chi_line.specs.LineState.{LineState, cells_of, rn_of}
use Rattle.chi_line.specs.Kept.{Kept, Lane, LaneKept, lane}
use Rattle.chi_line.specs.Step.{stored_line}
use Rattle.chi_line.proofs.Frame.{puts_nothing, puts_set, within}
use Rattle.chi_observer.specs.declared.flits.Due.{Due}
use Rattle.chi_observer.specs.declared.flits.Due.TheVariants.{Nothing, Resending}
use Rattle.chi_observer.specs.declared.flits.Act.TheVariants.{Load, Store}
use Rattle.chi_observer.specs.declared.flits.Word.{Word}
use Rattle.chi_observer.specs.Copies.{copy_of, holds_data}
use Rattle.chi_observer.specs.Copies.Copy.{UniqueDirty}
use Rattle.chi_observer.specs.Rules.{acts, has_word, is_resending, may_be_free, upgraded}
use Rattle.chi_observer.specs.Observed.{Observed}
use Rattle.chi_conformity.specs.Seen.{form_seen}
use Rattle.chi_conformity.proofs.Held.{DueIs, Stands, copy_held, held, held_of, words_by}
use Rattle.chi_conformity.proofs.Flits.{Laws}
use Rattle.chi_conformity.proofs.Acted.{Empty, Sent, acted}
use Rattle.chi_conformity.proofs.Told.{no, within_loaded, within_stored}

filled_holds : (unique : Bool) → holds_data (copy_of (form_seen unique)) ≡ true
filled_holds true = refl
filled_holds false = refl

upgraded_holds : (state : State) → is_valid state ≡ true → holds_data (upgraded (copy_of state)) ≡ true
upgraded_holds I h = no h
upgraded_holds SC h = refl
upgraded_holds UC h = refl
upgraded_holds UD h = refl
upgraded_holds SD h = refl

valid_holds : (state : State) → is_valid state ≡ true → holds_data (copy_of state) ≡ true
valid_holds I h = no h
valid_holds SC h = refl
valid_holds UC h = refl
valid_holds UD h = refl
valid_holds SD h = refl

pub valid_held : (state : State) (given : Option CompData) (response : Option RspDown) → is_valid state ≡ true → holds_data (copy_held state given response) ≡ true
valid_held state (Some sent) response h = filled_holds sent.unique
valid_held state None (Some CompUC) h = upgraded_holds state h
valid_held state None other h = valid_holds state h

-- a load's word is the copy's
abbrev pub loaded : LineState → ℕ → WordNo → Word
loaded s n word = record { place = word; value = word_of (rn_of s n) word.0 }

same_number : (n : ℕ) → (n == n) ≡ true
same_number n = grind arith

pub loaded_word : (rn : Rn) (given : Option CompData) (word : WordNo) → given ≡ None → has_word (Load (record { place = word; value = word_of rn word.0 })) (words_by rn.words given) ≡ true
loaded_word rn given word none = rw none (same_number (word_of rn word.0))

none_valid : (given : Option CompData) (state : State) → (is_some given ≡ true → state ≡ I) → is_valid state ≡ true → given ≡ None
none_valid None state none valid = refl
none_valid (Some sent) state none valid = no (sym (ap is_valid (none refl)) ∙ valid)

pub no_data : (serving : Serving) (unique : Bool) (owner : Option Agent) (last : List ℕ) (n : ℕ) (x : Lane) → LaneKept serving unique owner last n x → is_valid x.rn.state ≡ true → x.flits.dat_down ≡ None
no_data serving unique owner last n x k valid = none_valid x.flits.dat_down x.rn.state k.read_finds_none valid

-- a load
pub load_seen : Laws → (o : Observed) (s : LineState) (last : List ℕ) (agent : Agent) (word : WordNo) → agent.0 < 8 → Kept last s → Stands last s o
    → is_valid (rn_of s agent.0).state ≡ true → Sent o s last agent (Load (loaded s agent.0 word)) no_words
load_seen laws o s last agent word low kept stands valid =
    let n : ℕ = agent.0 in
    acted laws o s last last agent s.requesters s.flits (rn_of s n) (cells_of s n) (Load (loaded s n word)) no_words low kept stands
    (puts_nothing no_line s.requesters n) (puts_nothing no_flits s.flits n)
    (record {
      allowed = refl;
      acts_so = ap (λ (b : Bool). if b then Some (held (lane s n) (o.public.due n)) else None) (valid_held (rn_of s n).state (cells_of s n).dat_down (cells_of s n).rsp_down valid);
      shows = λ e. no e;
      writes_none = refl;
      lasts = λ e. refl;
      words = λ holds e. refl;
      stored = λ e. no e;
      word = loaded_word (rn_of s n) (cells_of s n).dat_down word
          (no_data s.home.serving s.home.filter.unique s.home.filter.owner last n (lane s n) (kept.lanes n low) valid);
    })
    (record {
      within = within_loaded (o.told n).told (rn_of s n).state valid;
      due = (stands.lanes n).due_is;
      snoop = (stands.lanes n).snooped_is;
      gone = λ g. inl g;
      shared = λ g. inl g;
    })

-- nothing is pending, so nothing answers a request
pub idle_cells : (serving : Serving) (unique : Bool) (owner : Option Agent) (last : List ℕ) (n : ℕ) (x : Lane) → LaneKept serving unique owner last n x
    → x.rn.pending ≡ None → Empty x
idle_cells serving unique owner last n x k none = record {
  req = search (arith, k.one_place);
  response = search (arith, k.one_place);
  given = search (arith, k.one_place);
}

pub idle_due : (pending : Option Pending) (x : Lane) (d : Due) → DueIs pending x.flits.req x.flits.rsp_down x.flits.dat_down d → pending ≡ None → may_be_free d ≡ true
idle_due None x d due none = due
idle_due (Some p) x d due none = absurd (cc (none))

store_plain : (word : Word) (state : State) (d : Due) → is_unique_state state ≡ true → may_be_free d ≡ true
    → acts (Store word) false d (record { copy = copy_of state; cancelled = is_resending d }) ≡ Some (record { copy = UniqueDirty; cancelled = is_resending d })
store_plain word UC Nothing u f = refl
store_plain word UC (Resending k) u f = refl
store_plain word UC other u f = no f
store_plain word UD Nothing u f = refl
store_plain word UD (Resending k) u f = refl
store_plain word UD other u f = no f
store_plain word other d u f = no u

store_acts : (word : Word) (state : State) (pending : Option Pending) (given : Option CompData) (response : Option RspDown) (d : Due) → pending ≡ None → given ≡ None → response ≡ None
    → is_unique_state state ≡ true → may_be_free d ≡ true → acts (Store word) false d (held_of state pending given response d) ≡ Some (held_of UD pending given response d)
store_acts word state pending given response d is_p is_g is_r unique free = rw (is_p, is_g, is_r) (store_plain word state d unique free)

-- a store
pub store_seen : Laws → (o : Observed) (s : LineState) (last : List ℕ) (agent : Agent) (word : WordNo) (value : ℕ) → agent.0 < 8 → Kept last s → Stands last s o
    → (rn_of s agent.0).pending ≡ None → is_unique_state (rn_of s agent.0).state ≡ true
    → Sent o (stored_line s agent.0 word.0 value) (set last word.0 value) agent (Store (record { place = word; value = value })) no_words
store_seen laws o s last agent word value low kept stands none unique =
    let n : ℕ = agent.0 in
    let k = kept.lanes n low in
    let empty : Empty (lane s n) = idle_cells s.home.serving s.home.filter.unique s.home.filter.owner last n (lane s n) k none in
    acted laws o s last (set last word.0 value) agent _ s.flits (rn_after_store (rn_of s n) word.0 value) (cells_of s n) (Store (record { place = word; value = value })) no_words low kept stands
    (puts_set no_line s.requesters n _ (within n _ low kept.requesters)) (puts_nothing no_flits s.flits n)
    (record {
      allowed = refl;
      acts_so = store_acts (record { place = word; value = value }) (rn_of s n).state (rn_of s n).pending (cells_of s n).dat_down (cells_of s n).rsp_down (o.public.due n) none empty.given empty.response unique
          (idle_due (rn_of s n).pending (lane s n) (o.public.due n) (stands.lanes n).due_is none);
      shows = λ e. no e;
      writes_none = refl;
      lasts = λ e. no (sym e);
      words = λ holds e. no (sym e);
      stored = λ e. ap (λ (v : Option CompData). words_by (set (rn_of s n).words word.0 value) v) empty.given ∙ ap (λ (v : List ℕ). set v word.0 value) (k.holder_last (unique_valid (rn_of s n).state unique));
      word = refl;
    })
    (record {
      within = within_stored (o.told n).told (rn_of s n).state unique;
      due = (stands.lanes n).due_is;
      snoop = (stands.lanes n).snooped_is;
      gone = λ g. inl g;
      shared = λ g. inl g;
    })
  where
    unique_valid : (state : State) → is_unique_state state ≡ true → is_valid state ≡ true
    unique_valid UC h = refl
    unique_valid UD h = refl
    unique_valid other h = no h
