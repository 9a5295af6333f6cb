-- What is due of an agent's request, as one byte (docs/COPIES.md, "What is kept").
use Rattle.std.specs.Prelude.{ℕ, ◌/◌, ◌%◌, ◌==◌, if◌then◌else◌}
use Rattle.chi_observer.specs.declared.kinds.Kind.{Kind}
use Rattle.chi_observer.specs.declared.kinds.Kind.TheVariants.{ReadNotSharedDirty, ReadShared, ReadClean, ReadOnce, ReadUnique, CleanUnique, MakeUnique, CleanShared, CleanInvalid, MakeInvalid, Evict, WriteBackFull, WriteCleanFull, WriteEvictFull, WriteUniqueFull}
use Rattle.chi_observer.specs.declared.flits.Due.{Due}
use Rattle.chi_observer.specs.declared.flits.Due.TheVariants.{Nothing, Completion, Resending, SureCompletion, WriteData, Acknowledgement}
use Rattle.chi_copies.specs.declared.dues.DueCode.{DueCode}

-- the kind of a number
abbrev pub kind_at : ℕ → Kind
kind_at k =
    if k == 0 then ReadNotSharedDirty else (
    if k == 1 then ReadShared else (
    if k == 2 then ReadClean else (
    if k == 3 then ReadOnce else (
    if k == 4 then ReadUnique else (
    if k == 5 then CleanUnique else (
    if k == 6 then MakeUnique else (
    if k == 7 then CleanShared else (
    if k == 8 then CleanInvalid else (
    if k == 9 then MakeInvalid else (
    if k == 10 then Evict else (
    if k == 11 then WriteBackFull else (
    if k == 12 then WriteCleanFull else (
    if k == 13 then WriteEvictFull else WriteUniqueFull)))))))))))))

-- the upper half of a byte says what is due, the lower of which kind
abbrev pub due_at_half : ℕ → Kind → Due
due_at_half p kind =
    if p == 1 then Completion kind else (
    if p == 2 then Resending kind else (
    if p == 3 then SureCompletion kind else (
    if p == 8 then WriteData kind else (
    if p == 9 then Acknowledgement else Nothing))))

abbrev pub due_is : DueCode → Due
due_is c = due_at_half (c.0 / 16) (kind_at (c.0 % 16))

-- and the number of a kind
abbrev pub number_of : Kind → ℕ
number_of ReadNotSharedDirty = 0
number_of ReadShared = 1
number_of ReadClean = 2
number_of ReadOnce = 3
number_of ReadUnique = 4
number_of CleanUnique = 5
number_of MakeUnique = 6
number_of CleanShared = 7
number_of CleanInvalid = 8
number_of MakeInvalid = 9
number_of Evict = 10
number_of WriteBackFull = 11
number_of WriteCleanFull = 12
number_of WriteEvictFull = 13
number_of WriteUniqueFull = 14
