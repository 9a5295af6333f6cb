-- A load that tells of a store that nobody saw leads where the store does.
use Rattle.std.proofs.Common.{◌≡◌, ◌≢◌, inl, ℕ, ◌<◌, List, refl, sym, subst, ◌∙◌}
use Rattle.std.specs.Prelude.{Bool, true, false, ◌&&◌}
use Rattle.chi_observer.specs.declared.flits.Due.{Due}
use Rattle.chi_observer.specs.declared.flits.Stores.{Stores}
use Rattle.chi_observer.specs.declared.flits.Stores.TheVariants.{Hidden, Listed}
use Rattle.chi_observer.specs.declared.flits.Word.{Word}
use Rattle.chi_observer.specs.declared.flits.Act.{Act}
use Rattle.chi_observer.specs.declared.flits.Act.TheVariants.{Load, Store}
use Rattle.chi_observer.specs.declared.flits.CacheFlit.{CacheFlit}
use Rattle.chi_observer.specs.Copies.{Held, holds_data, is_unique, same}
use Rattle.chi_observer.specs.Copies.Copy.{UniqueDirty}
use Rattle.chi_observer.specs.Rules.{are_hidden, has_word, is_free, may_be_free, reads_any}
use Rattle.chi_observer.specs.Tables.{Known, most, reach, fresh, told_after}
use Rattle.chi_observer.specs.Worlds.{World, StoresUnseen, Hidden as HiddenStep, put}
use Rattle.chi_observer.specs.Worlds.Drift.{Stay, Step}
use Rattle.chi_observer.specs.Observed.{Observed, Sound, Unstored, Meaning, fits_word, takes, differs, next}
use Rattle.chi_observer.specs.Counted.{may_tell_store, tells_store, stored, HasWord, ComesRead, CountedLoadsAreTaken, CountedLoadsLead, CountedLoadsCome}
use Rattle.chi_observer.proofs.Finite.{no, left, right, both, implies, follow}
use Rattle.chi_observer.proofs.Spots.{DueCopies, each_due_copy}
use Rattle.chi_observer.proofs.Facts.{turned, same_is, or_here, rival, below, beside_unique}
use Rattle.chi_observer.proofs.Words.{word_fits, words_for, for_word}
use Rattle.chi_observer.proofs.Put.{here, there, everywhere, at_it, at_else, split}

-- where such a copy was stored to it is so behind the store
lead_table : Stores → Word → Bool → Due → Known → Held → Bool
lead_table mode word b d t s = implies (reach mode d t s && fresh mode d t s) (reach mode d (told_after (Store word) d t b) s)

lead_holds : (mode : Stores) (word : Word) (b : Bool) → DueCopies (lead_table mode word b)
unfolding lead_table
lead_holds Hidden word b k = refl
lead_holds Listed word b k = refl

-- and each one behind the store may have been stored to before
come_table : Stores → Word → Bool → Due → Known → Held → Bool
come_table mode word b d t s = implies (may_be_free d && ((reads_any mode d (most t) && holds_data (most t)) && reach mode d (told_after (Store word) d t b) s)) (same s.copy UniqueDirty && (is_free d s && (reach mode d t s && fresh mode d t s)))

come_holds : (mode : Stores) (word : Word) (b : Bool) → DueCopies (come_table mode word b)
unfolding come_table
come_holds Hidden word b k = refl
come_holds Listed word b k = refl

-- a load of a copy with data that may have been stored to
module _ (o : Observed) (f : CacheFlit) (word : Word) (open_copy : (reads_any o.public.stores (o.public.due f.agent.0) (most (o.told f.agent.0)) && holds_data (most (o.told f.agent.0))) ≡ true) where
  abbrev n : ℕ
  n = f.agent.0

  abbrev mode : Stores
  mode = o.public.stores

  abbrev d : Due
  d = o.public.due n

  abbrev t : Known
  t = o.told n

  any : reads_any mode d (most t) ≡ true
  any = left _ _ open_copy

  pub takes_store : takes o (stored f word) ≡ true
  takes_store = both _ _ (right (are_hidden mode) _ any) (or_here _ _ any)

  takes_load : takes o (record f { act = Load word }) ≡ true
  takes_load = both _ _ (or_here _ _ (right (reads_any mode d (most t)) _ open_copy)) (or_here _ _ any)

  taken_here : f.act ≡ Load word → (takes o f ≡ true) × (takes o (stored f word) ≡ true)
  taken_here h = (subst (λ (a : Act). takes o (record f { act = a }) ≡ true) (sym h) takes_load, takes_store)

  module _ (sound : Sound o) (low : f.agent.0 < 32) where
    abbrev b : Bool
    b = differs o (stored f word)

    abbrev t' : Known
    t' = told_after (Store word) d t b

    -- its word isn't that of the value last stored where no agent has stored unseen
    module _ (w : World) (m : Meaning o w) (has : HasWord f.agent.0 word w) (foreign : Unstored o w → has_word (Load word) w.last ≡ true → false ≡ true) where
      unstored : fresh mode d t (w.state n) ≡ false → Unstored o w
      unstored e = split (λ k. k < 32 → fresh o.public.stores (o.public.due k) (o.told k) (w.state k) ≡ false) n (λ _. e)
          (λ k c lk. rival mode d (o.public.due k) t (o.told k) (w.state n) (w.state k) (m.told n low) (or_here _ _ has.0) (sound.pairs n k low lk (λ z. c (sym z))))

      fresh_by : (e : Bool) → fresh mode d t (w.state n) ≡ e → e ≡ true
      fresh_by true h = refl
      fresh_by false h = foreign (unstored h) (subst (λ (z : List ℕ). has_word (Load word) z ≡ true) (m.words n low has.0) has.1)

      was_fresh : fresh mode d t (w.state n) ≡ true
      was_fresh = fresh_by (fresh mode d t (w.state n)) refl

      reached : reach mode d t' (w.state n) ≡ true
      unfolding lead_table
      reached = follow _ _ (each_due_copy (lead_table mode word b) (lead_holds mode word b) d t (w.state n)) (both _ _ (m.told n low) was_fresh)

      pub led_here : Meaning (next o (stored f word)) w
      led_here = record {
        told = everywhere (λ k x y. k < 32 → reach mode x y (w.state k) ≡ true) n d t' o.public.due o.told (λ _. reached) (λ k h lk. m.told k lk);
        words = m.words;
        home = m.home;
        current = λ c u. no c;
      }

    module _ (free : may_be_free (o.public.due f.agent.0) ≡ true) (w' : World) (m : Meaning (next o (stored f word)) w') where
      abbrev s : Held
      s = w'.state n

      facts : (same s.copy UniqueDirty && (is_free d s && (reach mode d t s && fresh mode d t s))) ≡ true
      unfolding come_table
      facts = follow _ _ (each_due_copy (come_table mode word b) (come_holds mode word b) d t s)
          (both _ _ free (both _ _ open_copy (at_it (λ k x y. k < 32 → reach mode x y (w'.state k) ≡ true) n d t' o.public.due o.told m.told low)))

      dirty : s.copy ≡ UniqueDirty
      dirty = same_is s.copy UniqueDirty (left _ _ facts)

      was_free : is_free d s ≡ true
      was_free = left _ _ (right (same s.copy UniqueDirty) _ facts)

      old : (reach mode d t s && fresh mode d t s) ≡ true
      old = right (is_free d s) _ (right (same s.copy UniqueDirty) _ facts)

      filled : holds_data s.copy ≡ true
      filled = subst (λ z. holds_data z ≡ true) (sym dirty) refl

      unique : is_unique s.copy ≡ true
      unique = subst (λ z. is_unique z ≡ true) (sym dirty) refl

      told_else : (k : ℕ) → k ≢ n → k < 32 → reach mode (o.public.due k) (o.told k) (w'.state k) ≡ true
      told_else = at_else (λ k x y. k < 32 → reach mode x y (w'.state k) ≡ true) n d t' o.public.due o.told m.told

      lone : (k : ℕ) → k ≢ n → k < 32 → holds_data (w'.state k).copy ≡ false
      lone k h lk = beside_unique s.copy (w'.state k).copy unique
          (below mode d (o.public.due k) t (o.told k) s (w'.state k) (left _ _ old) (told_else k h lk) (sound.pairs n k low lk (λ z. h (sym z))))

      -- it had the word, and then it was stored to
      abbrev read_words : List ℕ
      read_words = words_for (Load word)

      abbrev world : World
      world = record { state = w'.state; words = put n read_words w'.words; last = read_words; home = w'.home }

      meant : Meaning o world
      meant = record {
        told = split (λ k. k < 32 → reach mode (o.public.due k) (o.told k) (w'.state k) ≡ true) n (λ _. left _ _ old) told_else;
        words = split (λ k. k < 32 → holds_data (w'.state k).copy ≡ true → put n read_words w'.words k ≡ read_words) n (λ _ _. here n read_words w'.words) (λ k h lk v. no (sym (lone k h lk) ∙ v));
        home = m.home;
        current = λ c u. no (sym (u n low) ∙ right (reach mode d t s) _ old);
      }

      store : StoresUnseen o.public n world w'
      store = record {
        hidden = left _ _ (left _ _ open_copy);
        free = was_free;
        unique = unique;
        dirty = λ i. record { copy = dirty i; cancelled = s.cancelled };
        words = m.words n low filled;
      }

      step : HiddenStep o.public world w'
      step = record {
        agent = n;
        low = low;
        others = record { state = λ k lk h. refl; words = λ k lk h. sym (there n read_words w'.words k h) };
        home = refl;
        how = inl store;
      }

      pub came_here : ComesRead o f.agent.0 word w'
      came_here = record {
        before = world;
        meant = meant;
        read = (filled, subst (λ (z : List ℕ). has_word (Load word) z ≡ true) (sym (here n read_words w'.words)) (for_word (Load word)));
        drifts = Step step Stay;
      }

pub tells_open : (o : Observed) (n : ℕ) (word : Word) → tells_store o n word ≡ true → (reads_any o.public.stores (o.public.due n) (most (o.told n)) && holds_data (most (o.told n))) ≡ true
tells_open o n word tells = right o.current _ (left (may_tell_store o n) _ tells)

-- else the home had its word
pub home_foreign : (o : Observed) (n : ℕ) (word : Word) (w : World) → tells_store o n word ≡ true → Meaning o w → Unstored o w → has_word (Load word) w.last ≡ true → false ≡ true
home_foreign o n word w tells m u has =
    let now : o.current ≡ true = left _ _ (left (may_tell_store o n) _ tells) in
    sym (turned (fits_word o.home (Load word)) (right (may_tell_store o n) _ tells))
    ∙ word_fits (Load word) o.home (λ _ v k. subst (λ (z : List ℕ). has_word (Load word) z ≡ true) (m.current now u ∙ m.home v k) has)

pub counted_taken : CountedLoadsAreTaken
counted_taken o f word h tells = taken_here o f word (tells_open o f.agent.0 word tells) h

pub counted_lead : CountedLoadsLead
counted_lead o f word w sound low tells m has = led_here o f word (tells_open o f.agent.0 word tells) sound low w m has (home_foreign o f.agent.0 word w tells m)

pub counted_come : CountedLoadsCome
counted_come o f word w' sound low tells free m = came_here o f word (tells_open o f.agent.0 word tells) sound low free w' m
