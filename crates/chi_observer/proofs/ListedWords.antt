-- Words of a line of which some are known, and the worlds that have them.
use Rattle.std.proofs.Common.{rules, arith, ◌≡◌, ℕ, ◌<◌, List, [], ◌∷◌, ◌++◌, zero, suc, length, refl, sym, ap, inl, inr, ◌⊎◌, ◌∙◌}
use Rattle.std.specs.Prelude.{true, false, ◌==◌, Option, Some, None, if◌then◌else◌}
use Rattle.chi_observer.specs.declared.flits.Stores.{Stores}
use Rattle.chi_observer.specs.declared.flits.Stores.TheVariants.{Listed as AllListed}
use Rattle.chi_observer.specs.Copies.{holds_data}
use Rattle.chi_observer.specs.Rules.{are_hidden, word_at}
use Rattle.chi_observer.specs.Tables.{fresh}
use Rattle.chi_observer.specs.Worlds.{Public, World, StoresUnseen, Drops, Cancels, Drift}
use Rattle.chi_observer.specs.Worlds.Drift.{Stay, Step}
use Rattle.chi_observer.specs.Observed.{Observed, Unstored, Meaning}
use Rattle.chi_observer.specs.Worded.{Words, fits_known, agree}
use Rattle.chi_observer.proofs.Finite.{no, both}
use Rattle.chi_observer.proofs.Copies.{each_below, below_all}
use Rattle.chi_observer.proofs.Put.{alike, differ, unlike}

pub agree_at : (k : Words) (u : List ℕ) → agree k u ≡ true → (p : ℕ) → p < 8 → fits_known (k p) (word_at u p) ≡ true
agree_at k u = each_below 8 (λ p. fits_known (k p) (word_at u p))

pub agree_by : (k : Words) (u : List ℕ) → ((p : ℕ) → p < 8 → fits_known (k p) (word_at u p) ≡ true) → agree k u ≡ true
agree_by k u = below_all 8 (λ p. fits_known (k p) (word_at u p))

pub same_back : (u v : ℕ) → (u == v) ≡ true → (v == u) ≡ true
same_back u v h = search (rules, arith)

-- a word that may be: the known one, or 0
abbrev pub word_of : Option ℕ → ℕ
word_of None = 0
word_of (Some v) = v

pub fits_word_of : (w : Option ℕ) → fits_known w (word_of w) ≡ true
fits_word_of None = refl
fits_word_of (Some v) = alike v

-- and eight of them
pub words_list : Words → List ℕ
words_list k = word_of (k 0) ∷ word_of (k 1) ∷ word_of (k 2) ∷ word_of (k 3) ∷ word_of (k 4) ∷ word_of (k 5) ∷ word_of (k 6) ∷ word_of (k 7) ∷ []

-- words that may be and aren't v
pub longer : Words → List ℕ → List ℕ
longer k v = words_list k ++ v

pub agree_longer : (k : Words) (v : List ℕ) → agree k (longer k v) ≡ true
unfolding longer words_list
agree_longer k v =
    both _ _ (fits_word_of (k 7)) (both _ _ (fits_word_of (k 6)) (both _ _ (fits_word_of (k 5)) (both _ _ (fits_word_of (k 4))
    (both _ _ (fits_word_of (k 3)) (both _ _ (fits_word_of (k 2)) (both _ _ (fits_word_of (k 1)) (both _ _ (fits_word_of (k 0)) refl)))))))

pub agree_list : (k : Words) → agree k (words_list k) ≡ true
unfolding longer words_list
agree_list k = agree_longer k []

eight_more : (n : ℕ) → suc (suc (suc (suc (suc (suc (suc (suc n))))))) ≡ n → ⊥
eight_more n h = search (rules, arith)

pub longer_differs : (k : Words) (v : List ℕ) → longer k v ≡ v → false ≡ true
unfolding longer words_list
longer_differs k v h = absurd (eight_more (length v) (ap (λ (xs : List ℕ). length xs) h))

-- the word at p set
pub set_word : List ℕ → ℕ → ℕ → List ℕ
set_word [] zero v = v ∷ []
set_word [] (suc p) v = 0 ∷ set_word [] p v
set_word (x ∷ u) zero v = v ∷ u
set_word (x ∷ u) (suc p) v = x ∷ set_word u p v

pub set_here : (u : List ℕ) (p v : ℕ) → word_at (set_word u p v) p ≡ v
unfolding set_word
set_here [] zero v = refl
set_here [] (suc p) v = set_here [] p v
set_here (x ∷ u) zero v = refl
set_here (x ∷ u) (suc p) v = set_here u p v

unlike_below : (q p : ℕ) → (suc q == suc p) ≡ false → (q == p) ≡ false
unlike_below q p h = unlike q p (λ e. differ (suc q) (suc p) h (ap (λ (n : ℕ). suc n) e))

nothing_at : (q : ℕ) → word_at [] q ≡ 0
nothing_at zero = refl
nothing_at (suc q) = refl

pub set_else : (u : List ℕ) (p v q : ℕ) → (q == p) ≡ false → word_at (set_word u p v) q ≡ word_at u q
unfolding set_word
set_else [] zero v zero h = no (sym h)
set_else [] zero v (suc q) h = nothing_at q
set_else [] (suc p) v zero h = refl
set_else [] (suc p) v (suc q) h = set_else [] p v q (unlike_below q p h) ∙ nothing_at q
set_else (x ∷ u) zero v zero h = no (sym h)
set_else (x ∷ u) zero v (suc q) h = refl
set_else (x ∷ u) (suc p) v zero h = refl
set_else (x ∷ u) (suc p) v (suc q) h = set_else u p v q (unlike_below q p h)

-- a world of another value last stored
abbrev pub revalue : List ℕ → World → World
revalue x w = record { state = w.state; words = λ k. if holds_data (w.state k).copy then x else w.words k; last = x; home = w.home }

pub revalued : (o : Observed) (x : List ℕ) (w : World) → Meaning o w → o.current ≡ false → Meaning o (revalue x w)
revalued o x w m c = record {
  told = m.told;
  words = λ n low v. ap (λ b. if b then x else w.words n) v;
  home = m.home;
  current = λ e u. no (sym c ∙ e);
}

-- where all stores are listed none is open
pub all_unstored : (o : Observed) (w : World) → o.public.stores ≡ AllListed → Unstored o w
all_unstored o w h k low = ap (λ (z : Stores). fresh z (o.public.due k) (o.told k) (w.state k)) h

-- and hidden steps keep the value
hidden_last : (p : Public) (n : ℕ) (w w' : World) → p.stores ≡ AllListed → StoresUnseen p n w w' ⊎ (Drops p n w w' ⊎ Cancels p n w w') → w'.last ≡ w.last
hidden_last p n w w' e (inl step) = no (sym (ap are_hidden e) ∙ step.hidden)
hidden_last p n w w' e (inr (inl step)) = step.last
hidden_last p n w w' e (inr (inr step)) = step.last

pub drift_last : (p : Public) (w w' : World) → p.stores ≡ AllListed → Drift p w w' → w'.last ≡ w.last
drift_last p w w' e Stay = refl
drift_last p w w' e (Step h rest) = drift_last p _ w' e rest ∙ hidden_last p h.agent w _ e h.how
