-- The table of kinds, a line a cell: the state that each needs at its issue, the snoop that serves it,
-- which are copy-backs, and which of these give the copy up (Arm IHI 0050 B, chapter 4; docs/PROTOCOL.md, "Kinds of request").
use Rattle.std.specs.Prelude.{ℕ, List, Bool, true, false, Option, Some, None, codes, ◌==◌, if◌then◌else◌}
use Rattle.chi_flit.specs.declared.state.State.{State}
use Rattle.chi_flit.specs.declared.state.State.TheVariants.{I, SC, UC, UD, SD}
use Rattle.chi_flit.specs.declared.snoop.Snoop.{Snoop}
use Rattle.chi_flit.specs.declared.snoop.Snoop.TheVariants.{SnpShared, SnpNotSharedDirty, SnpUnique, SnpCleanInvalid}
use Rattle.chi_flit.specs.declared.kind.Kind.{Kind}
use Rattle.chi_flit.specs.declared.kind.Kind.TheVariants.{ReadNotSharedDirty, ReadShared, ReadUnique, CleanUnique, Evict, WriteBackFull}
use Rattle.chi_flit.specs.declared.kind.Kind.TheVariants.{WriteCleanFull, WriteEvictFull}

-- whether a copy in the state may issue the kind; a copy-back, and no other kind, needs the state again where
-- it is resent
abbrev pub is_needed : Kind → State → Bool
is_needed ReadNotSharedDirty I = true
is_needed ReadShared I = true
is_needed ReadUnique I = true
is_needed CleanUnique SC = true
is_needed CleanUnique SD = true
is_needed Evict SC = true
is_needed Evict UC = true
is_needed WriteBackFull UD = true
is_needed WriteBackFull SD = true
is_needed WriteCleanFull UD = true
is_needed WriteCleanFull SD = true
is_needed WriteEvictFull UC = true
is_needed kind state = false

abbrev pub snoop_of : Kind → Option Snoop
snoop_of ReadNotSharedDirty = Some SnpNotSharedDirty
snoop_of ReadShared = Some SnpShared
snoop_of ReadUnique = Some SnpUnique
snoop_of CleanUnique = Some SnpCleanInvalid
snoop_of other = None

abbrev pub is_copy_back : Kind → Bool
is_copy_back WriteBackFull = true
is_copy_back WriteCleanFull = true
is_copy_back WriteEvictFull = true
is_copy_back other = false

-- whether write data of the kind leaves its sender without a copy: WriteCleanFull alone keeps it
abbrev pub gives_up : Kind → Bool
gives_up WriteBackFull = true
gives_up WriteEvictFull = true
gives_up other = false

abbrev pub kind_text : Kind → List ℕ
kind_text ReadNotSharedDirty = codes "ReadNotSharedDirty"
kind_text ReadShared = codes "ReadShared"
kind_text ReadUnique = codes "ReadUnique"
kind_text CleanUnique = codes "CleanUnique"
kind_text Evict = codes "Evict"
kind_text WriteBackFull = codes "WriteBackFull"
kind_text WriteCleanFull = codes "WriteCleanFull"
kind_text WriteEvictFull = codes "WriteEvictFull"

-- numbered in this order, as files and interfaces for programs have it (docs/LIBRARY.md, "Numbers")
abbrev pub kind_number : Kind → ℕ
kind_number ReadNotSharedDirty = 0
kind_number ReadShared = 1
kind_number ReadUnique = 2
kind_number CleanUnique = 3
kind_number Evict = 4
kind_number WriteBackFull = 5
kind_number WriteCleanFull = 6
kind_number WriteEvictFull = 7

abbrev pub kind_numbered : ℕ → Option Kind
kind_numbered n =
    if n == 0 then Some ReadNotSharedDirty else (
    if n == 1 then Some ReadShared else (
    if n == 2 then Some ReadUnique else (
    if n == 3 then Some CleanUnique else (
    if n == 4 then Some Evict else (
    if n == 5 then Some WriteBackFull else (
    if n == 6 then Some WriteCleanFull else (
    if n == 7 then Some WriteEvictFull else None)))))))
