-- While the value is the home's and its words aren't known nobody has data: so it stays where all stores are listed.
use Rattle.std.proofs.Common.{rules, arith, ◌≡◌, ◌≢◌, ℕ, ◌<◌, List, refl, sym, ap, subst}
use Rattle.std.specs.Prelude.{Bool, true, false, ◌&&◌, ◌||◌, not, Option, Some, None, if◌then◌else◌}
use Rattle.chi_observer.specs.declared.kinds.Snoop.{Snoop}
use Rattle.chi_observer.specs.declared.flits.Due.{Due}
use Rattle.chi_observer.specs.declared.flits.Due.TheVariants.{Nothing, Completion, Resending, SureCompletion, WriteData, Acknowledgement}
use Rattle.chi_observer.specs.declared.flits.Stores.TheVariants.{Listed}
use Rattle.chi_observer.specs.declared.flits.Act.{Act}
use Rattle.chi_observer.specs.declared.flits.Grant.{Grant}
use Rattle.chi_observer.specs.declared.flits.Word.{Word}
use Rattle.chi_observer.specs.declared.flits.CacheFlit.{CacheFlit}
use Rattle.chi_observer.specs.declared.flits.HomeFlit.{HomeFlit}
use Rattle.chi_observer.specs.Copies.{holds_data}
use Rattle.chi_observer.specs.Copies.Copy.{Invalid}
use Rattle.chi_observer.specs.Rules.{allows, lets_go, tells_words, makes, settles}
use Rattle.chi_observer.specs.Tables.{Known, most, strongest, fits_told, renews, told_after, told_behind, told_granted, shows_told}
use Rattle.chi_observer.specs.Worlds.{home_may, put}
use Rattle.chi_observer.specs.Observed.{Observed, Sound, takes, differs, next, takes_home, next_home}
use Rattle.chi_observer.proofs.Finite.{no, left, right, both, implies, follow}
use Rattle.chi_observer.proofs.Spots.{all_plain, all_paired, Tried, known_spots, each_known_spot, fits_can, Gifts, told_gifts, each_told_gift}
use Rattle.chi_observer.proofs.Facts.{turned, flip, same_is, other_of, or_here, or_there}
use Rattle.chi_observer.proofs.Grants.{settled_alone}
use Rattle.chi_observer.proofs.Copies.{gone_else}
use Rattle.chi_observer.proofs.Put.{here, there, split}

abbrev pub HomeKnown : Observed → Type 0
HomeKnown o = o.current ≡ true → o.home ≡ None → (n : ℕ) → n < 32 → holds_data (most (o.told n)) ≡ false

none_shown : (v : List ℕ) → Some v ≡ None → ⊥
none_shown v h = search (rules, arith)

none_by : (b : Bool) (v : List ℕ) (o : Option (List ℕ)) → (if b then Some v else o) ≡ None → (b ≡ false) × (o ≡ None)
none_by true v o h = absurd (none_shown v h)
none_by false v o h = (refl, h)

current_was : (b r c : Bool) → b ≡ false → (if b then true else (if r then false else c)) ≡ true → (r ≡ false) × (c ≡ true)
current_was true r c e h = no (sym e)
current_was false true c e h = no h
current_was false false c e h = (refl, h)

-- a flit of a cache without data, and no store, leaves a copy without data as such a one
bare_table : Act → Bool → Due → Known → Bool
bare_table a x d t = implies (fits_told Listed a x d t && (not (tells_words a) && (not (renews Listed a x d t) && not (holds_data (most t))))) (not (holds_data (strongest (told_behind a d t.told))))

bare_plain : (word : Word) (x : Bool) (d : Due) → all_plain (λ a y. known_spots bare_table a y d) word x ≡ true
unfolding bare_table
bare_plain word x Nothing = refl
bare_plain word x (Completion k) = refl
bare_plain word x (Resending k) = refl
bare_plain word x (SureCompletion k) = refl
bare_plain word x (WriteData k) = refl
bare_plain word x Acknowledgement = refl

bare_paired : (x : Bool) → all_paired (λ a d. known_spots bare_table a x d) ≡ true
unfolding bare_table
bare_paired x = refl

bare_holds : Tried (known_spots bare_table)
bare_holds = record { plain = bare_plain; paired = bare_paired }

bare : (a : Act) (x b : Bool) (d : Due) (t : Known) → fits_told Listed a x d t ≡ true → tells_words a ≡ false → renews Listed a x d t ≡ false → holds_data (most t) ≡ false → holds_data (most (told_after a d t b)) ≡ false
unfolding bare_table
bare a x b d t f s r h = turned _ (follow _ _ (each_known_spot bare_table bare_holds a x d (fits_can Listed a x d t f) t) (both _ _ f (both _ _ (flip _ s) (both _ _ (flip _ r) (flip _ h)))))

module _ (o : Observed) (f : CacheFlit) (listed : o.public.stores ≡ Listed) (take : takes o f ≡ true) (known : HomeKnown o) (c : (next o f).current ≡ true) (hn : (next o f).home ≡ None) where
  abbrev n : ℕ
  n = f.agent.0

  abbrev x : Bool
  x = lets_go (o.public.snooped n)

  abbrev t : Known
  t = o.told n

  abbrev t' : Known
  t' = told_after f.act (o.public.due n) t (differs o f)

  silent : (tells_words f.act ≡ false) × (o.home ≡ None)
  silent = none_by (tells_words f.act) f.shown o.home hn

  was : (renews o.public.stores f.act x (o.public.due n) t ≡ false) × (o.current ≡ true)
  was = current_was (tells_words f.act) (renews o.public.stores f.act x (o.public.due n) t) o.current silent.0 c

  before : (k : ℕ) → k < 32 → holds_data (most (o.told k)) ≡ false
  before = known was.1 silent.1

  fitting : fits_told Listed f.act x (o.public.due n) t ≡ true
  fitting = subst (λ z. fits_told z f.act x (o.public.due n) t ≡ true) listed (left _ _ (right (allows f.act (o.public.snooped n)) _ take))

  here_bare : n < 32 → holds_data (most t') ≡ false
  here_bare l = bare f.act x (differs o f) (o.public.due n) t fitting silent.0 (subst (λ z. renews z f.act x (o.public.due n) t ≡ false) listed was.0) (before n l)

  pub bare_next : (k : ℕ) → k < 32 → holds_data (most ((next o f).told k)) ≡ false
  bare_next = split (λ k. k < 32 → holds_data (most (put n t' o.told k)) ≡ false) n
      (λ l. subst (λ z. holds_data (most z) ≡ false) (sym (here n t' o.told)) (here_bare l))
      (λ k h l. subst (λ z. holds_data (most z) ≡ false) (sym (there n t' o.told k h)) (before k l))

pub known_kept : (o : Observed) (f : CacheFlit) → o.public.stores ≡ Listed → takes o f ≡ true → HomeKnown o → HomeKnown (next o f)
known_kept o f listed take known c hn = bare_next o f listed take known c hn

-- so does a flit of the home without data; and behind what ends a MakeInvalid there is none
given_table : Grant → Due → Option Snoop → Known → Bool
given_table g d q t = implies (settles g d || (not (shows_told g t) && (not (makes g d) && not (holds_data (most t))))) (not (holds_data (most (told_granted g d t))))

given_holds : Gifts (told_gifts given_table)
unfolding given_table
given_holds x k = refl

module _ (o : Observed) (g : HomeFlit) (sound : Sound o) (low : g.agent.0 < 32) (take : takes_home o g ≡ true) (known : HomeKnown o) (c : (next_home o g).current ≡ true) (hn : (next_home o g).home ≡ None) where
  abbrev at : ℕ
  at = g.agent.0

  abbrev due : Due
  due = o.public.due at

  abbrev was_told : Known
  was_told = o.told at

  abbrev is_told : Known
  is_told = told_granted g.grant due was_told

  unshown : (shows_told g.grant was_told ≡ false) × (o.home ≡ None)
  unshown = none_by (shows_told g.grant was_told) g.shown o.home hn

  follows : (settles g.grant due || (not (shows_told g.grant was_told) && (not (makes g.grant due) && not (holds_data (most was_told))))) ≡ true → holds_data (most is_told) ≡ false
  unfolding given_table
  follows h = turned _ (follow _ _ (each_told_gift given_table given_holds g.grant due (o.public.snooped at) (left _ _ (left (home_may o.public g) _ take)) was_told) h)

  still : settles g.grant due ≡ false → (o.current && not (makes g.grant due)) ≡ true
  still z = other_of (settles g.grant due) _ c z

  here_given : (z : Bool) → settles g.grant due ≡ z → holds_data (most is_told) ≡ false
  here_given true z = follows (or_here (settles g.grant due) _ z)
  here_given false z = follows (or_there (settles g.grant due) _
      (both _ _ (flip _ unshown.0) (both _ _ (right o.current _ (still z)) (flip _ (known (left o.current _ (still z)) unshown.1 at low)))))

  else_given : (k : ℕ) → k ≢ at → k < 32 → (z : Bool) → settles g.grant due ≡ z → holds_data (most (o.told k)) ≡ false
  else_given k h l true z = ap holds_data (same_is (most (o.told k)) Invalid (gone_else o g sound low take (settled_alone g.grant due z) k h l))
  else_given k h l false z = known (left o.current _ (still z)) unshown.1 k l

  pub bare_granted : (k : ℕ) → k < 32 → holds_data (most ((next_home o g).told k)) ≡ false
  bare_granted = split (λ k. k < 32 → holds_data (most (put at is_told o.told k)) ≡ false) at
      (λ _. subst (λ z. holds_data (most z) ≡ false) (sym (here at is_told o.told)) (here_given (settles g.grant due) refl))
      (λ k h l. subst (λ z. holds_data (most z) ≡ false) (sym (there at is_told o.told k h)) (else_given k h l (settles g.grant due) refl))

pub known_given : (o : Observed) (g : HomeFlit) → Sound o → g.agent.0 < 32 → takes_home o g ≡ true → HomeKnown o → HomeKnown (next_home o g)
known_given o g sound low take known c hn = bare_granted o g sound low take known c hn
