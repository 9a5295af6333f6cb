-- The words of a list with commas between them.
use Rattle.std.proofs.Common.{◌≡◌, ℕ, ◌+◌, ◌-◌, ◌==◌, List, length, take, drop, Option, Some, None, refl, ap, sym, ◌∙◌}
use Rattle.std.specs.List.{position}
use Rattle.chi_script.specs.Words.{◌>>=◌}
use Rattle.chi_script.proofs.LineLemmas.{cut_at, uncut}
use Rattle.chi_script.proofs.LineLemmas.{parts_of as some_parts}
use Rattle.chi_trace.specs.Fields.{first_part, only_of, comma_parts, word_in}

-- what stands behind the comma at a place
abbrev pub behind : List ℕ → ℕ → List ℕ
behind list i = take (length list - (i + 1)) (drop (i + 1) list)

-- the first word, and the parts behind it
more : (list : List ℕ) (i : ℕ) → Some i ≡ position (λ b. b == 44) list → first_part (comma_parts list) ≡ (word_in (take i list) >>= λ w. Some (w, comma_parts (behind list i)))
more list i e =
    let cut = cut_at (λ (b : ℕ). b == 44) list 0 i e in
    let rest = some_parts (λ (b : ℕ). b == 44) (behind list i) in
    rw (cut.0, rest.2) refl

pub bad_first : (list : List ℕ) (i : ℕ) → Some i ≡ position (λ b. b == 44) list → None ≡ word_in (take i list) → None ≡ first_part (comma_parts list)
bad_first list i e bad = sym (more list i e ∙ ap (λ (o : Option (Option ℕ)). o >>= λ w. Some (w, comma_parts (behind list i))) (sym bad))

pub good_first : (list : List ℕ) (i : ℕ) (w : Option ℕ) → Some i ≡ position (λ b. b == 44) list → Some w ≡ word_in (take i list) → Some (w, comma_parts (behind list i)) ≡ first_part (comma_parts list)
good_first list i w e good = sym (more list i e ∙ ap (λ (o : Option (Option ℕ)). o >>= λ v. Some (v, comma_parts (behind list i))) (sym good))

pub no_first : (list : List ℕ) → None ≡ position (λ b. b == 44) list → None ≡ first_part (comma_parts list)
no_first list e = sym (rw (uncut (λ (b : ℕ). b == 44) list e) refl)

pub not_only : (list : List ℕ) (i : ℕ) → Some i ≡ position (λ b. b == 44) list → None ≡ only_of (comma_parts list)
not_only list i e =
    let cut = cut_at (λ (b : ℕ). b == 44) list 0 i e in
    let rest = some_parts (λ (b : ℕ). b == 44) (behind list i) in
    sym (rw (cut.0, rest.2) refl)

pub only : (list : List ℕ) → None ≡ position (λ b. b == 44) list → word_in list ≡ only_of (comma_parts list)
only list e = sym (rw (uncut (λ (b : ℕ). b == 44) list e) refl)
