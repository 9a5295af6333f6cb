-- What a copy really is (Arm IHI 0050 B, chapter 4; docs/OBSERVER.md, "What is told of a copy").
use Rattle.std.specs.Prelude.{Bool, true, false}
use Rattle.chi_flit.specs.declared.state.State.{State}
use Rattle.chi_flit.specs.declared.state.State.TheVariants.{I, SC, UC, UD, SD}

-- UniqueEmpty is UCE: unique, without data. Writing is none, while the data of a WriteUniqueFull are due
pub data Copy : Type 0 where
  Invalid : Copy
  SharedClean : Copy
  UniqueClean : Copy
  UniqueEmpty : Copy
  UniqueDirty : Copy
  SharedDirty : Copy
  Writing : Copy

-- a copy, and whether its agent has cancelled a request that was retried, which nobody sees
pub record Held : Type 0 where
  pub copy : Copy
  pub cancelled : Bool

abbrev pub copy_of : State → Copy
copy_of I = Invalid
copy_of SC = SharedClean
copy_of UC = UniqueClean
copy_of UD = UniqueDirty
copy_of SD = SharedDirty

abbrev pub holds_data : Copy → Bool
holds_data Invalid = false
holds_data UniqueEmpty = false
holds_data Writing = false
holds_data other = true

abbrev pub is_unique : Copy → Bool
is_unique UniqueClean = true
is_unique UniqueEmpty = true
is_unique UniqueDirty = true
is_unique other = false

abbrev pub is_dirty : Copy → Bool
is_dirty UniqueDirty = true
is_dirty SharedDirty = true
is_dirty other = false

-- those that may be dropped unseen
abbrev pub is_clean : Copy → Bool
is_clean SharedClean = true
is_clean UniqueClean = true
is_clean UniqueEmpty = true
is_clean other = false

abbrev pub same : Copy → Copy → Bool
same Invalid Invalid = true
same SharedClean SharedClean = true
same UniqueClean UniqueClean = true
same UniqueEmpty UniqueEmpty = true
same UniqueDirty UniqueDirty = true
same SharedDirty SharedDirty = true
same Writing Writing = true
same a b = false

-- whether two caches may have such copies of a line together: beside a unique one, and while one writes the whole line,
-- there is none, and one is dirty
abbrev pub compatible : Copy → Copy → Bool
compatible Invalid b = true
compatible a Invalid = true
compatible SharedClean SharedClean = true
compatible SharedClean SharedDirty = true
compatible SharedDirty SharedClean = true
compatible a b = false
