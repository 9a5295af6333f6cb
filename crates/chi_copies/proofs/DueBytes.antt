-- What is due of each kind has its own byte.
use Rattle.std.proofs.Common.{arith, ◌≡◌, ℕ, ◌+◌, ◌*◌, ◌/◌, ◌%◌, ◌<◌, ap, ◌∙◌}
use Rattle.chi_observer.specs.declared.flits.Due.{Due}
use Rattle.chi_observer.specs.declared.flits.Due.TheVariants.{Completion, Resending, SureCompletion, WriteData}
use Rattle.chi_copies.specs.Dues.{due_at_half, due_is, kind_at}

abbrev due_of : ℕ → Due
due_of c = due_is (record { 0 = c })

-- the halves of a byte whose upper one is p
halves : (p k : ℕ) → k < 16 → ((16 * p + k) / 16 ≡ p) × ((16 * p + k) % 16 ≡ k)
halves p k low = (omega arith, omega arith)

of_halves : (p k : ℕ) → k < 16 → due_at_half ((16 * p + k) / 16) (kind_at ((16 * p + k) % 16)) ≡ due_at_half p (kind_at k)
of_halves p k low = ap (λ x. due_at_half x (kind_at ((16 * p + k) % 16))) (halves p k low).0 ∙ ap (λ x. due_at_half p (kind_at x)) (halves p k low).1

pub completion_is : (k : ℕ) → k < 16 → due_of (16 + k) ≡ Completion (kind_at k)
completion_is k low = of_halves 1 k low

pub resending_is : (k : ℕ) → k < 16 → due_of (32 + k) ≡ Resending (kind_at k)
resending_is k low = of_halves 2 k low

pub sure_completion_is : (k : ℕ) → k < 16 → due_of (48 + k) ≡ SureCompletion (kind_at k)
sure_completion_is k low = of_halves 3 k low

pub write_data_is : (k : ℕ) → k < 16 → due_of (128 + k) ≡ WriteData (kind_at k)
write_data_is k low = of_halves 8 k low
