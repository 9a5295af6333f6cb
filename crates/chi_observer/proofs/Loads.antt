-- A load leaves each world with data as it is: one behind it was one before.
use Rattle.std.proofs.Common.{◌≡◌, ℕ, ◌<◌, refl, sym, ap, ◌∙◌}
use Rattle.std.specs.Prelude.{Bool, true, false, ◌&&◌, Some, None, if◌then◌else◌}
use Rattle.chi_observer.specs.declared.flits.Due.{Due}
use Rattle.chi_observer.specs.declared.flits.Stores.{Stores}
use Rattle.chi_observer.specs.declared.flits.Stores.TheVariants.{Hidden, Listed}
use Rattle.chi_observer.specs.declared.flits.Word.{Word}
use Rattle.chi_observer.specs.declared.flits.Act.{Act}
use Rattle.chi_observer.specs.declared.flits.Act.TheVariants.{Load}
use Rattle.chi_observer.specs.declared.flits.CacheFlit.{CacheFlit}
use Rattle.chi_observer.specs.Copies.{Held, holds_data}
use Rattle.chi_observer.specs.Rules.{allows, lets_go, acts, looks, stores, writes, tells_words, due_after}
use Rattle.chi_observer.specs.Tables.{Known, reach, fresh, told_after, fits_told, renews}
use Rattle.chi_observer.specs.Worlds.{World, Sends}
use Rattle.chi_observer.specs.Observed.{Observed, Unstored, Meaning, takes, differs, next}
use Rattle.chi_observer.proofs.Finite.{no, left, right, both, implies, follow}
use Rattle.chi_observer.proofs.Spots.{DueCopies, each_due_copy}
use Rattle.chi_observer.proofs.Facts.{data_looks, same_truth, same_truth_is}
use Rattle.chi_observer.proofs.Put.{everywhere, at_it, at_else, split}

pub load_stores : (a : Act) → looks a ≡ true → stores a ≡ false
load_stores (Load word) h = refl
load_stores other h = no h

pub load_writes : (a : Act) → looks a ≡ true → writes a ≡ false
load_writes (Load word) h = refl
load_writes other h = no h

pub load_silent : (a : Act) → looks a ≡ true → tells_words a ≡ false
load_silent (Load word) h = refl
load_silent other h = no h

pub load_acts : (a : Act) (x : Bool) (d : Due) (s : Held) → looks a ≡ true → holds_data s.copy ≡ true → acts a x d s ≡ Some s
load_acts (Load word) x d s h e = ap (λ b. if b then Some s else None) e
load_acts other x d s h e = no h

-- such a copy was one before, and may have been stored to as before
load_table : Stores → Word → Bool → Due → Known → Held → Bool
load_table mode word b d t s = implies (fits_told mode (Load word) b d t && (reach mode d (told_after (Load word) d t b) s && holds_data s.copy)) (reach mode d t s && (implies (renews mode (Load word) b d t) (fresh mode d t s) && same_truth (fresh mode d t s) (fresh mode d (told_after (Load word) d t b) s)))

load_holds : (mode : Stores) (word : Word) (b : Bool) → DueCopies (load_table mode word b)
unfolding load_table
load_holds Hidden word b k = refl
load_holds Listed word b k = refl

load_back : (mode : Stores) (a : Act) (x b : Bool) (d : Due) (t : Known) (s : Held) → looks a ≡ true → (fits_told mode a x d t && (reach mode (due_after a d) (told_after a d t b) s && holds_data s.copy)) ≡ true
    → (reach mode d t s && (implies (renews mode a x d t) (fresh mode d t s) && same_truth (fresh mode d t s) (fresh mode (due_after a d) (told_after a d t b) s))) ≡ true
unfolding load_table
load_back mode (Load word) x b d t s h = follow _ _ (each_due_copy (load_table mode word b) (load_holds mode word b) d t s)
load_back mode other x b d t s h = no h

module _ (o : Observed) (f : CacheFlit) (w : World) (low : f.agent.0 < 32) (take : takes o f ≡ true) (load : looks f.act ≡ true) (m : Meaning (next o f) w) (has : holds_data (w.state f.agent.0).copy ≡ true) where
  abbrev n : ℕ
  n = f.agent.0

  abbrev mode : Stores
  mode = o.public.stores

  abbrev d : Due
  d = o.public.due n

  abbrev t : Known
  t = o.told n

  abbrev s : Held
  s = w.state n

  abbrev x : Bool
  x = lets_go (o.public.snooped n)

  abbrev r : Bool
  r = renews mode f.act x d t

  abbrev d' : Due
  d' = due_after f.act d

  abbrev t' : Known
  t' = told_after f.act d t (differs o f)

  fitting : fits_told mode f.act x d t ≡ true
  fitting = left _ _ (right (allows f.act (o.public.snooped n)) _ take)

  reached : reach mode d' t' s ≡ true
  reached = at_it (λ k p q. k < 32 → reach mode p q (w.state k) ≡ true) n d' t' o.public.due o.told m.told low

  back : (reach mode d t s && (implies r (fresh mode d t s) && same_truth (fresh mode d t s) (fresh mode d' t' s))) ≡ true
  back = load_back mode f.act x (differs o f) d t s load (both _ _ fitting (both _ _ reached has))

  stored : r ≡ true → fresh mode d t s ≡ true
  stored = follow r _ (left _ _ (right (reach mode d t s) _ back))

  same : fresh mode d t s ≡ fresh mode d' t' s
  same = same_truth_is _ _ (right (implies r (fresh mode d t s)) _ (right (reach mode d t s) _ back))

  unstored : Unstored o w → Unstored (next o f) w
  unstored u = everywhere (λ k p q. k < 32 → fresh mode p q (w.state k) ≡ false) n d' t' o.public.due o.told (λ lk. sym same ∙ u n lk) (λ k h lk. u k lk)

  current_by : (b : Bool) → r ≡ b → o.current ≡ true → Unstored o w → w.last ≡ w.home
  current_by true e c u = no (sym (u n low) ∙ stored e)
  current_by false e c u = m.current (ap (λ b. if b then true else (if r then false else o.current)) (load_silent f.act load) ∙ ap (λ b. if b then false else o.current) e ∙ c) (unstored u)

  pub load_meant : Meaning o w
  load_meant = record {
    told = split (λ k. k < 32 → reach o.public.stores (o.public.due k) (o.told k) (w.state k) ≡ true) n (λ _. left _ _ back)
        (at_else (λ k p q. k < 32 → reach mode p q (w.state k) ≡ true) n d' t' o.public.due o.told m.told);
    words = m.words;
    home = λ v e. m.home v (ap (λ b. if b then Some f.shown else o.home) (load_silent f.act load) ∙ e);
    current = λ c u. current_by r refl c u;
  }

  pub load_sends : Sends o.public f w w
  load_sends = record {
    allowed = left _ _ take;
    act = load_acts f.act x d s load has;
    shown = λ h. no (sym (data_looks f.act h) ∙ load);
    last = λ _. sym (ap (λ b. if b then f.shown else w.last) (load_writes f.act load));
    home = sym (ap (λ b. if b then f.shown else w.home) (load_silent f.act load));
    words = λ _ _. refl;
    stored = λ h. no (sym (load_stores f.act load) ∙ h);
    others = record { state = λ _ _ _. refl; words = λ _ _ _. refl };
  }
