-- A line is its parts joined, a text without a > is parted again from the answer behind it, and what a walk
-- along a line finds.
use Rattle.std.proofs.Common.{◌≡◌, ℕ, ◌+◌, ◌<◌, ◌≤◌, ◌==◌, ◌&&◌, not, Bool, true, false, cond, List, [], ◌∷◌, ◌++◌, Option, Some, None, get_or, length, drop, take, refl, sym, ap, ◌∙◌, append_assoc, arith}
use Rattle.std.proofs.lemmas.List.{append-nil, drop-drop, drop_all, drop_more, take_all, take_more}
use Rattle.std.proofs.lemmas.Bool.Decides.{Decides-eqb, nat_tests}
use Rattle.std.proofs.lemmas.Slice.Eq.{starts_is}
use Rattle.chi_script.proofs.LackLemmas.{lacks}
use Rattle.chi_script.proofs.NumberLemmas.{both}
use Rattle.chi_script.specs.Checks.{arrow, begins_with, parts_of}
use Rattle.chi_script.specs.CheckSpelling.{with_answer}

longer : (b : ℕ) (front : List ℕ) (wanted : Option (List ℕ)) → with_answer (b ∷ front) wanted ≡ b ∷ with_answer front wanted
longer b front None = refl
longer b front (Some answer) = refl

-- the parts of a line by those of the line behind its first byte
abbrev pub one_byte : Bool → ℕ → List ℕ → List ℕ × Option (List ℕ) → List ℕ × Option (List ℕ)
one_byte begins b bs later = cond begins ([], Some (drop (length arrow) (b ∷ bs))) (b ∷ later.0, later.1)

joined_at : (begins : Bool) (b : ℕ) (bs : List ℕ) (later : List ℕ × Option (List ℕ)) → begins_with (b ∷ bs) arrow ≡ begins → with_answer later.0 later.1 ≡ bs → with_answer (one_byte begins b bs later).0 (one_byte begins b bs later).1 ≡ b ∷ bs
joined_at true b bs later begins is = sym ((starts_is Decides-eqb (b ∷ bs) arrow true (sym begins)).0 refl)
joined_at false b bs later begins is = longer b later.0 later.1 ∙ ap (λ (l : List ℕ). b ∷ l) is

pub joined : (line : List ℕ) → with_answer (parts_of line).0 (parts_of line).1 ≡ line
unfolding parts_of
joined [] = refl
joined (b ∷ bs) = joined_at (begins_with (b ∷ bs) arrow) b bs (parts_of bs) refl (joined bs)

never_second : (x : Bool) → (x && false) ≡ false
never_second true = refl
never_second false = refl

never_third : (x y : Bool) → (x && (y && false)) ≡ false
never_third true y = never_second y
never_third false y = refl

never_at : (x y z w : Bool) → z ≡ false → (x && (y && (z && w))) ≡ false
never_at x y z w e = rw e (never_third x y)

no_mark : (d : ℕ) → not (d == 62) ≡ true → (62 == d) ≡ false
no_mark d e = grind (arith, nat_tests)

third : (b c d : ℕ) (more : List ℕ) → lacks 62 (b ∷ c ∷ d ∷ more) ≡ true → (62 == d) ≡ false
third b c d more e = no_mark d (both (not (d == 62)) (lacks 62 more) (both (not (c == 62)) _ (both (not (b == 62)) _ e).1).1).0

no_arrow : (b : ℕ) (bs : List ℕ) (wanted : Option (List ℕ)) → lacks 62 (b ∷ bs) ≡ true → begins_with (b ∷ with_answer bs wanted) arrow ≡ false
no_arrow b [] None e = never_second (32 == b)
no_arrow b [] (Some answer) e = never_second (32 == b)
no_arrow b (c ∷ []) None e = never_third (32 == b) (45 == c)
no_arrow b (c ∷ []) (Some answer) e = never_third (32 == b) (45 == c)
no_arrow b (c ∷ d ∷ more) None e = never_at (32 == b) (45 == c) (62 == d) _ (third b c d more e)
no_arrow b (c ∷ d ∷ more) (Some answer) e = never_at (32 == b) (45 == c) (62 == d) _ (third b c d more e)

pub parted : (front : List ℕ) (wanted : Option (List ℕ)) → lacks 62 front ≡ true → parts_of (with_answer front wanted) ≡ (front, wanted)
unfolding parts_of
parted [] None e = refl
parted [] (Some answer) e = refl
parted (b ∷ bs) wanted e =
    let each = both (not (b == 62)) (lacks 62 bs) e in
    let rest = with_answer bs wanted in
    ap parts_of (longer b bs wanted)
    ∙ (ap (λ (begins : Bool). one_byte begins b rest (parts_of rest)) (no_arrow b bs wanted e)
    ∙ ap (λ (later : List ℕ × Option (List ℕ)). one_byte false b rest later) (parted bs wanted each.1))

-- what a walk along a line has passed, and the parts of what is left
abbrev pub behind : List ℕ → List ℕ × Option (List ℕ) → List ℕ × Option (List ℕ)
behind front parts = (front ++ parts.0, parts.1)

found : (bs : List ℕ) (b : ℕ) (begins : Bool) → begins_with (b ∷ bs) arrow ≡ begins → parts_of (b ∷ bs) ≡ one_byte begins b bs (parts_of bs)
unfolding parts_of
found bs b begins is = ap (λ (t : Bool). one_byte t b bs (parts_of bs)) is

pub goes_on : (line : List ℕ) (at : ℕ) (total : List ℕ × Option (List ℕ)) → at < length line → begins_with (drop at line) arrow ≡ false
    → behind (take at line) (parts_of (drop at line)) ≡ total → behind (take (at + 1) line) (parts_of (drop (at + 1) line)) ≡ total
goes_on line at total low begins so_far =
    let b = get_or line at 0 in
    let rest = drop (at + 1) line in
    let cut : drop at line ≡ b ∷ rest = drop_more line at 0 low in
    let none : begins_with (b ∷ rest) arrow ≡ false = ap (λ (l : List ℕ). begins_with l arrow) (sym cut) ∙ begins in
    let next : parts_of (drop at line) ≡ one_byte false b rest (parts_of rest) = ap parts_of cut ∙ found rest b false none in
    let front : take (at + 1) line ++ (parts_of rest).0 ≡ take at line ++ b ∷ (parts_of rest).0 = ap (λ (l : List ℕ). l ++ (parts_of rest).0) (take_more line at 0 low) ∙ append_assoc (take at line) (b ∷ []) (parts_of rest).0 in
    ap (λ (l : List ℕ). (l, (parts_of rest).1)) front ∙ (sym (ap (behind (take at line)) next) ∙ so_far)

pub stops : (line : List ℕ) (at : ℕ) (total : List ℕ × Option (List ℕ)) → at < length line → begins_with (drop at line) arrow ≡ true
    → behind (take at line) (parts_of (drop at line)) ≡ total → (take at line ≡ total.0) × (Some (drop (at + length arrow) line) ≡ total.1)
stops line at total low begins so_far =
    let b = get_or line at 0 in
    let rest = drop (at + 1) line in
    let cut : drop at line ≡ b ∷ rest = drop_more line at 0 low in
    let one : begins_with (b ∷ rest) arrow ≡ true = ap (λ (l : List ℕ). begins_with l arrow) (sym cut) ∙ begins in
    let next : parts_of (drop at line) ≡ one_byte true b rest (parts_of rest) = ap parts_of cut ∙ found rest b true one in
    let whole : behind (take at line) (one_byte true b rest (parts_of rest)) ≡ total = sym (ap (behind (take at line)) next) ∙ so_far in
    let answer : drop (length arrow) (b ∷ rest) ≡ drop (at + length arrow) line = ap (drop (length arrow)) (sym cut) ∙ drop-drop (length arrow) at line in
    (sym (append-nil (take at line)) ∙ ap (λ (p : List ℕ × Option (List ℕ)). p.0) whole, ap Some (sym answer) ∙ ap (λ (p : List ℕ × Option (List ℕ)). p.1) whole)

pub ends : (line : List ℕ) (at : ℕ) (total : List ℕ × Option (List ℕ)) → length line ≤ at → behind (take at line) (parts_of (drop at line)) ≡ total → (line ≡ total.0) × (None ≡ total.1)
unfolding parts_of
ends line at total past so_far =
    let whole : behind (take at line) ([], None) ≡ total = sym (ap (λ (l : List ℕ). behind (take at line) (parts_of l)) (drop_all at line past)) ∙ so_far in
    let all : take at line ++ [] ≡ line = append-nil (take at line) ∙ take_all at line past in
    (sym all ∙ ap (λ (p : List ℕ × Option (List ℕ)). p.0) whole, ap (λ (p : List ℕ × Option (List ℕ)). p.1) whole)
