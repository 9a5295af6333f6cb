-- The number and the name of each refusal (docs/PROTOCOL.md, "Refusals").
use Rattle.std.specs.Prelude.{ℕ, List, Option, Some, None, Result, Ok, Err, codes}
use Rattle.chi_flit.specs.declared.refusal.Refusal.{Refusal}
use Rattle.chi_flit.specs.declared.refusal.Refusal.TheVariants.{JournalFull, WrongState, Pending, NothingPending, LineBusy, NotWaiting}
use Rattle.chi_flit.specs.declared.refusal.Refusal.TheVariants.{NoFlit, NoMemory, MustAccept, OutOfRange, NotOpen, NoCredit}

-- the refusal that a result is, if it is one
abbrev pub refusal_of : {A : Type 0} → Result A Refusal → Option Refusal
refusal_of (Ok answer) = None
refusal_of (Err refusal) = Some refusal

abbrev pub refusal_number : Refusal → ℕ
refusal_number JournalFull = 1
refusal_number WrongState = 2
refusal_number Pending = 3
refusal_number NothingPending = 4
refusal_number LineBusy = 5
refusal_number NotWaiting = 6
refusal_number NoFlit = 7
refusal_number NoMemory = 8
refusal_number MustAccept = 9
refusal_number OutOfRange = 10
refusal_number NotOpen = 11
refusal_number NoCredit = 12

abbrev pub refusal_text : Refusal → List ℕ
refusal_text JournalFull = codes "JournalFull"
refusal_text WrongState = codes "WrongState"
refusal_text Pending = codes "Pending"
refusal_text NothingPending = codes "NothingPending"
refusal_text LineBusy = codes "LineBusy"
refusal_text NotWaiting = codes "NotWaiting"
refusal_text NoFlit = codes "NoFlit"
refusal_text NoMemory = codes "NoMemory"
refusal_text MustAccept = codes "MustAccept"
refusal_text OutOfRange = codes "OutOfRange"
refusal_text NotOpen = codes "NotOpen"
refusal_text NoCredit = codes "NoCredit"
