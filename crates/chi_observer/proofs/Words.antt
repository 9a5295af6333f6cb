-- The words of a line, known or not.
use Rattle.std.proofs.Common.{rules, arith, ◌≡◌, ℕ, List, [], ◌∷◌, zero, suc, length, refl, sym, ap, subst, ◌∙◌}
use Rattle.std.specs.Prelude.{Bool, true, false, ◌==◌, ◌&&◌, ◌||◌, not, Option, Some, None, nat_eq, if◌then◌else◌}
use Rattle.std.specs.Bool.{Decides}
use Rattle.std.specs.Cmp.{unsigned_Decides}
use Rattle.std.specs.Cmp.Lexicographic.{pointwise, pointwise_decides}
use Rattle.chi_observer.specs.declared.flits.Act.{Act}
use Rattle.chi_observer.specs.declared.flits.Act.TheVariants.{Load}
use Rattle.chi_observer.specs.Rules.{has_word, looks, word_at}
use Rattle.chi_observer.specs.Observed.{fits, fits_word}
use Rattle.chi_observer.proofs.Finite.{no}

same_words : (u v : List ℕ) → Decides (pointwise nat_eq u v) (u ≡ v)
same_words = pointwise_decides unsigned_Decides

pub words_are : (u v : List ℕ) → pointwise nat_eq u v ≡ true → u ≡ v
words_are u v = (same_words u v).0

pub are_words : (u v : List ℕ) → u ≡ v → pointwise nat_eq u v ≡ true
are_words u v = (same_words u v).1

pub some_is : (a b : List ℕ) → Some a ≡ Some b → a ≡ b
some_is a b h = search (rules, arith)

-- what is known, or other words
abbrev pub or_words : Option (List ℕ) → List ℕ → List ℕ
or_words None x = x
or_words (Some v) x = v

-- known words that are those fit
pub known_fits : (o : Option (List ℕ)) (x : List ℕ) → ((u : List ℕ) → o ≡ Some u → u ≡ x) → fits o x ≡ true
known_fits None x h = refl
known_fits (Some u) x h = are_words u x (h u refl)

-- where no difference is known, what is known is shown
pub was_known : (c : Bool) (o : Option (List ℕ)) (x y : List ℕ) → (c && not (fits o x)) ≡ false → c ≡ true → y ≡ x → y ≡ or_words o y
was_known c None x y h e g = refl
was_known false (Some v) x y h e g = no e
was_known true (Some v) x y h e g = g ∙ sym (words_are v x (fitting (pointwise nat_eq v x) h))
  where
    fitting : (b : Bool) → not b ≡ false → b ≡ true
    fitting true h = refl
    fitting false h = no (sym h)

-- what has no data, or shows a store, or the value
pub shown_fits : (d r c : Bool) (o : Option (List ℕ)) (x : List ℕ) → (d ≡ true → r ≡ false → c ≡ true → (u : List ℕ) → o ≡ Some u → u ≡ x) → (not d || (r || (not c || fits o x))) ≡ true
shown_fits false r c o x h = refl
shown_fits true true c o x h = refl
shown_fits true false false o x h = refl
shown_fits true false true None x h = refl
shown_fits true false true (Some u) x h = are_words u x (h refl refl refl u refl)

pub home_is : (d : Bool) (x y : List ℕ) (o : Option (List ℕ)) (v : List ℕ) → ((u : List ℕ) → o ≡ Some u → y ≡ u) → (if d then Some x else o) ≡ Some v → (if d then x else y) ≡ v
home_is true x y o v g h = some_is x v h
home_is false x y o v g h = g v h

pub current_is : (d r c : Bool) (x y z : List ℕ) → (d ≡ true → z ≡ x) → (r ≡ false → c ≡ true → z ≡ y) → (if d then true else (if r then false else c)) ≡ true → z ≡ (if d then x else y)
current_is true r c x y z g h e = g refl
current_is false true c x y z g h e = no e
current_is false false c x y z g h e = h refl e

pub was_shown : (d r c : Bool) (o : Option (List ℕ)) (x y : List ℕ) → (not d || (r || (not c || fits o x))) ≡ true → d ≡ true → r ≡ false → c ≡ true → y ≡ x → y ≡ or_words o y
was_shown d r c None x y h e g k l = refl
was_shown false r c (Some v) x y h e g k l = no e
was_shown true true c (Some v) x y h e g k l = no (sym g)
was_shown true false false (Some v) x y h e g k l = no k
was_shown true false true (Some v) x y h e g k l = l ∙ sym (words_are v x h)

pub top_value : (d : Bool) (o : Option (List ℕ)) (x v : List ℕ) → (not d || fits o x) ≡ true → o ≡ Some v → (if d then x else or_words o []) ≡ v
top_value true o x v h e = sym (words_are v x (subst (λ z. fits z x ≡ true) e h))
top_value false o x v h e = ap (λ z. or_words z []) e

pub fits_by : (d : Bool) (o : Option (List ℕ)) (x : List ℕ) → (d ≡ true → (v : List ℕ) → o ≡ Some v → v ≡ x) → (not d || fits o x) ≡ true
fits_by false o x h = refl
fits_by true None x h = refl
fits_by true (Some v) x h = are_words v x (h refl v refl)

pub fitted : (d : Bool) (o : Option (List ℕ)) (x v : List ℕ) → (not d || fits o x) ≡ true → d ≡ true → o ≡ Some v → v ≡ x
fitted true o x v h d e = words_are v x (subst (λ z. fits z x ≡ true) e h)
fitted false o x v h d e = no d

pub some_value : (d : Bool) (x : List ℕ) (o : Option (List ℕ)) → d ≡ true → (if d then Some x else o) ≡ Some x
some_value true x o h = refl
some_value false x o h = no h

pub old_value : (d : Bool) (x : List ℕ) (o : Option (List ℕ)) → d ≡ false → (if d then Some x else o) ≡ o
old_value true x o h = no (sym h)
old_value false x o h = refl

-- other words
abbrev pub others_than : List ℕ → List ℕ
others_than v = 0 ∷ v

longer : (n : ℕ) → n ≡ suc n → ⊥
longer n h = search (rules, arith)

pub others_differ : (v : List ℕ) → v ≡ others_than v → false ≡ true
others_differ v h = absurd (longer (length v) (ap (λ (xs : List ℕ). length xs) h))

pub be_true : (a : Bool) → (a ≡ false → false ≡ true) → a ≡ true
be_true true h = refl
be_true false h = h refl

-- what is no load fits any words
pub any_word : (a : Act) (v : List ℕ) → looks a ≡ false → has_word a v ≡ true
any_word (Load word) v h = no (sym h)
any_word other v h = refl

pub word_fits : (a : Act) (o : Option (List ℕ)) → (looks a ≡ true → (v : List ℕ) → o ≡ Some v → has_word a v ≡ true) → fits_word o a ≡ true
word_fits a None h = refl
word_fits (Load word) (Some v) h = h refl v refl
word_fits other (Some v) h = refl

pub load_fits : (u c : Bool) (o : Option (List ℕ)) (a : Act) → (looks a ≡ true → u ≡ false → c ≡ true → (v : List ℕ) → o ≡ Some v → has_word a v ≡ true) → (u || (not c || fits_word o a)) ≡ true
load_fits true c o a h = refl
load_fits false false o a h = refl
load_fits false true o a h = word_fits a o (λ l v e. h l refl refl v e)

pub known_word : (u c : Bool) (v : List ℕ) (a : Act) → (u || (not c || has_word a v)) ≡ true → u ≡ false → c ≡ true → has_word a v ≡ true
known_word true c v a h e g = no (sym e)
known_word false false v a h e g = no g
known_word false true v a h e g = h

-- words that have the one of a load
placed : ℕ → ℕ → List ℕ
placed zero v = v ∷ []
placed (suc n) v = 0 ∷ placed n v

placed_at : (n v : ℕ) → word_at (placed n v) n ≡ v
unfolding placed
placed_at zero v = refl
placed_at (suc n) v = placed_at n v

same_number : (n v : ℕ) → n ≡ v → (n == v) ≡ true
same_number n v h = search (rules, arith)

pub words_for : Act → List ℕ
words_for (Load word) = placed word.place.0 word.value
words_for other = []

pub for_word : (a : Act) → has_word a (words_for a) ≡ true
unfolding words_for
for_word (Load word) = same_number _ _ (placed_at word.place.0 word.value)
for_word other = refl
