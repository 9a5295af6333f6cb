-- A fault passes through what follows.
use Rattle.std.proofs.Common.{◌≡◌, ℕ, Option, Some, None, Result, Ok, Err, ap, ok_or, refl, sym, subst, ◌∙◌}
use Rattle.chi_script.specs.declared.faults.Fault.{Fault}
use Rattle.chi_script.specs.declared.faults.Fault.TheVariants.{NoMemory, BadHeader, BadCommand, MissingNewline, TooLarge, Read, Write}
use Rattle.chi_script.specs.Faults.{Fails}
use Rattle.chi_script.specs.Files.{◌>>=◌}

pub failed : {A B : Type 0} (fault : Fault) (read : Result A Fault) (next : A → Result B Fault) → Fails fault read → Fails fault (read >>= next)
failed NoMemory read next is = tt
failed (BadHeader line) read next is = ap (λ r. r >>= next) is
failed (BadCommand line) read next is = ap (λ r. r >>= next) is
failed (MissingNewline line) read next is = ap (λ r. r >>= next) is
failed TooLarge read next is = ap (λ r. r >>= next) is
failed Read read next is = is
failed Write read next is = is

-- what was read has one fault, or none
pub same_fault : {A : Type 0} (one other : Fault) (r : Result A Fault) → r ≡ Err one → r ≡ Err other → one ≡ other
same_fault one other r e f = cc

pub no_fault : {A : Type 0} (x : A) (fault : Fault) → Ok x ≡ Err fault → ⊥
no_fault x fault e = cc

-- a line that is no command is a bad one, and no fault of a device
told_as : {A : Type 0} (read : Result A Fault) (n : ℕ) (fault : Fault) → read ≡ Err (BadCommand n) → read ≡ Err fault → Fails fault read
told_as read n fault is e = subst (λ (f : Fault). Fails f read) (same_fault (BadCommand n) fault read is e) is

pub bad_told : {A : Type 0} (found : Option A) (n : ℕ) (fault : Fault) → ok_or found (BadCommand n) ≡ Err fault → Fails fault (ok_or found (BadCommand n))
bad_told (Some x) n fault e = absurd (no_fault x fault e)
bad_told {A = A} None n fault e = told_as {A = A} (ok_or None (BadCommand n)) n fault refl e

-- of what is read first and then, the fault is that of one of both
pub then_told : {A B : Type 0} (read : Result A Fault) (next : A → Result B Fault) → ((fault : Fault) → read ≡ Err fault → Fails fault read)
    → ((x : A) (fault : Fault) → next x ≡ Err fault → Fails fault (next x)) → (fault : Fault) → (read >>= next) ≡ Err fault → Fails fault (read >>= next)
then_told (Ok x) next first later fault e = later x fault e
then_told (Err one) next first later fault e = failed fault (Err one) next (first fault (ap Err (same_fault one fault (Err one >>= next) refl e)))
