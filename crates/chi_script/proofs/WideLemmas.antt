-- A number that doesn't fit its type is outside the limits, so it is as good as the most that fits.
use Rattle.std.proofs.Common.{◌≡◌, ◌≤◌, ℕ, Bool, true, false, cond, [], ◌∷◌, get_or, min, Option, Some, None, refl, sym, ap, ◌∙◌, arith, ⊎_elim}
use Rattle.std.proofs.lemmas.Bool.{cases_lt}
use Rattle.chi_flit.specs.Config.{Sizes, config_if, four_types, two_types}
use Rattle.chi_script.specs.Headers.{is_in_limits}
use Rattle.chi_script.proofs.LimitLemmas.{IsInLimits, each_few, limits_of}

-- where nothing is found from the most on, a number is as good as the lesser of the two
capped : (found : ℕ → Option Sizes) (most n : ℕ) → ((m : ℕ) → most ≤ m → found m ≡ None) → found (min n most) ≡ found n
capped found most n none =
    ⊎_elim
    (λ low. let same : min n most ≡ n = omega (arith, low) in ap found same)
    (λ high. let same : min n most ≡ most = omega (arith, high) in ap found same ∙ (none most (omega arith) ∙ sym (none n high)))
    (cases_lt n most)

not_let : (b : Bool) (c : Sizes) → (b ≡ true → ⊥) → cond b (Some c) None ≡ None
not_let true c never = absurd (never refl)
not_let false c never = refl

outside : (c : Sizes) → (IsInLimits c → ⊥) → config_if c ≡ None
outside c never = not_let (is_in_limits c) c (λ e. never (limits_of c e))

many_agents : (c : Sizes) → 255 ≤ c.agents → config_if c ≡ None
many_agents c h = outside c (λ l. omega (arith, h, l.agents))

many_lines : (c : Sizes) → 255 ≤ c.lines → config_if c ≡ None
many_lines c h = outside c (λ l. omega (arith, h, l.lines))

many_slices : (c : Sizes) → 255 ≤ c.slices → config_if c ≡ None
many_slices c h = outside c (λ l. omega (arith, h, l.slices))

many_records : (c : Sizes) → 4294967295 ≤ c.journal → config_if c ≡ None
many_records c h = outside c (λ l. omega (arith, h, l.journal))

many_entries : (c : Sizes) (i : ℕ) → 65535 ≤ get_or c.entries i 0 → config_if c ≡ None
many_entries c i h = not_let (is_in_limits c) c (λ e. let few = each_few c e i in omega (arith, h, few))

pub two_wide : (a l s t0 t1 k : ℕ) → config_if (two_types (min a 255) (min l 255) (min s 255) (min t0 65535) (min t1 65535) (min k 4294967295)) ≡ config_if (two_types a l s t0 t1 k)
two_wide a l s t0 t1 k =
    capped (λ n. config_if (two_types n (min l 255) (min s 255) (min t0 65535) (min t1 65535) (min k 4294967295))) 255 a (λ n h. many_agents (two_types n (min l 255) (min s 255) (min t0 65535) (min t1 65535) (min k 4294967295)) h)
    ∙ (capped (λ n. config_if (two_types a n (min s 255) (min t0 65535) (min t1 65535) (min k 4294967295))) 255 l (λ n h. many_lines (two_types a n (min s 255) (min t0 65535) (min t1 65535) (min k 4294967295)) h)
    ∙ (capped (λ n. config_if (two_types a l n (min t0 65535) (min t1 65535) (min k 4294967295))) 255 s (λ n h. many_slices (two_types a l n (min t0 65535) (min t1 65535) (min k 4294967295)) h)
    ∙ (capped (λ n. config_if (two_types a l s n (min t1 65535) (min k 4294967295))) 65535 t0 (λ n h. many_entries (two_types a l s n (min t1 65535) (min k 4294967295)) 0 h)
    ∙ (capped (λ n. config_if (two_types a l s t0 n (min k 4294967295))) 65535 t1 (λ n h. many_entries (two_types a l s t0 n (min k 4294967295)) 1 h)
    ∙ capped (λ n. config_if (two_types a l s t0 t1 n)) 4294967295 k (λ n h. many_records (two_types a l s t0 t1 n) h)))))

abbrev four : ℕ → ℕ → ℕ → ℕ → ℕ → ℕ → ℕ → ℕ → Sizes
four a l s t0 t1 t2 t3 k = four_types a l s (t0 ∷ t1 ∷ t2 ∷ t3 ∷ []) k

pub four_wide : (a l s t0 t1 t2 t3 k : ℕ) → config_if (four_types (min a 255) (min l 255) (min s 255) (min t0 65535 ∷ min t1 65535 ∷ min t2 65535 ∷ min t3 65535 ∷ []) (min k 4294967295)) ≡ config_if (four_types a l s (t0 ∷ t1 ∷ t2 ∷ t3 ∷ []) k)
four_wide a l s t0 t1 t2 t3 k =
    capped (λ n. config_if (four n (min l 255) (min s 255) (min t0 65535) (min t1 65535) (min t2 65535) (min t3 65535) (min k 4294967295))) 255 a (λ n h. many_agents (four n (min l 255) (min s 255) (min t0 65535) (min t1 65535) (min t2 65535) (min t3 65535) (min k 4294967295)) h)
    ∙ (capped (λ n. config_if (four a n (min s 255) (min t0 65535) (min t1 65535) (min t2 65535) (min t3 65535) (min k 4294967295))) 255 l (λ n h. many_lines (four a n (min s 255) (min t0 65535) (min t1 65535) (min t2 65535) (min t3 65535) (min k 4294967295)) h)
    ∙ (capped (λ n. config_if (four a l n (min t0 65535) (min t1 65535) (min t2 65535) (min t3 65535) (min k 4294967295))) 255 s (λ n h. many_slices (four a l n (min t0 65535) (min t1 65535) (min t2 65535) (min t3 65535) (min k 4294967295)) h)
    ∙ (capped (λ n. config_if (four a l s n (min t1 65535) (min t2 65535) (min t3 65535) (min k 4294967295))) 65535 t0 (λ n h. many_entries (four a l s n (min t1 65535) (min t2 65535) (min t3 65535) (min k 4294967295)) 0 h)
    ∙ (capped (λ n. config_if (four a l s t0 n (min t2 65535) (min t3 65535) (min k 4294967295))) 65535 t1 (λ n h. many_entries (four a l s t0 n (min t2 65535) (min t3 65535) (min k 4294967295)) 1 h)
    ∙ (capped (λ n. config_if (four a l s t0 t1 n (min t3 65535) (min k 4294967295))) 65535 t2 (λ n h. many_entries (four a l s t0 t1 n (min t3 65535) (min k 4294967295)) 2 h)
    ∙ (capped (λ n. config_if (four a l s t0 t1 t2 n (min k 4294967295))) 65535 t3 (λ n h. many_entries (four a l s t0 t1 t2 n (min k 4294967295)) 3 h)
    ∙ capped (λ n. config_if (four a l s t0 t1 t2 t3 n)) 4294967295 k (λ n h. many_records (four a l s t0 t1 t2 t3 n) h)))))))
