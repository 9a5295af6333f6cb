-- A requester as its caller can count it, and why each of its calls is refused (docs/PROTOCOL.md, "A requester and
-- its calls").
use Rattle.std.specs.Prelude.{ℕ, Bool, false, not, ◌&&◌, nat_lt, List, [], ◌∷◌, Option, Some, None, slice_index, if◌then◌else◌}
use Rattle.std.specs.Option.{option_or}
use Rattle.chi_flit.specs.declared.action.Action.{Action}
use Rattle.chi_flit.specs.declared.action.Step.{Step}
use Rattle.chi_flit.specs.declared.action.Step.TheVariants as steps
use Rattle.chi_flit.specs.declared.credit.CreditType.{CreditType}
use Rattle.chi_flit.specs.declared.refusal.Refusal.{Refusal}
use Rattle.chi_flit.specs.declared.refusal.Refusal.TheVariants.{NoCredit, OutOfRange, Pending}
use Rattle.chi_flit.specs.Credit.{credit_number}
use Rattle.chi_tracker.specs.Views.{PortView}
use Rattle.chi_tracker.specs.Calls.{seen_of}
use Rattle.chi_credit.specs.declared.slot.SlotRecord.{SlotRecord}
use Rattle.chi_credit.specs.Slot.{is_idle_state}
use Rattle.chi_credit.specs.Account.{lowest_cancelled, riding_of, state_at}
use Rattle.chi_slice.specs.Protocol.{refused, refused_with}
use Rattle.chi_slice.specs.Slice.{SliceState, each_credit, is_in_range}
use Rattle.chi_node.specs.Home.{HomeState}
use Rattle.chi_node.specs.Requester.{RequesterState}

-- by credit type how many entries its tracker has, its eight slots, and by credit type its seen credits. The credits
-- due to it are those of its slots (`due_of`).
pub record Outstanding : Type 0 where
  pub entries : List ℕ
  pub slots : List SlotRecord
  pub seen : List ℕ

-- of a requester, by its port and its account
abbrev pub seen_counts : PortView → List ℕ
seen_counts p = seen_of p 0 ∷ seen_of p 1 ∷ seen_of p 2 ∷ seen_of p 3 ∷ []

abbrev pub outstanding_of : RequesterState → Outstanding
outstanding_of r = record { entries = r.port.shape.sizes; slots = r.slots; seen = seen_counts r.port }

-- a spare credit: more of type t are seen than slots of the type are Riding
abbrev pub has_spare : Outstanding → ℕ → Bool
has_spare r t = nat_lt (riding_of r.slots t) (slice_index r.seen t)

-- whether a step is an Issue of a slot that isn't Idle
abbrev pub names_taken : List SlotRecord → Step → Bool
names_taken slots (steps.Issue kind slot) = not (is_idle_state (state_at slots slot.0))
names_taken slots other = false

-- the credits that it has for a step: a Resend needs one that is spare
abbrev pub credits_for : Outstanding → Step → List Bool
credits_for r steps.Resend = has_spare r 0 ∷ has_spare r 1 ∷ has_spare r 2 ∷ has_spare r 3 ∷ []
credits_for r other = each_credit

-- step: 3 for an Issue of a slot that isn't Idle, where all numbers are in their ranges, and else as the slice refuses the
-- action with these credits
abbrev pub step_refusal : SliceState → Outstanding → Action → Option Refusal
step_refusal s r action = if is_in_range s action && names_taken r.slots action.step then Some Pending else refused_with (credits_for r action.step) s action

-- arrive, of agent n at line l: as the slice refuses an Admit, to whose conditions a requester adds nothing
abbrev pub arrival_refusal : SliceState → ℕ → ℕ → Option Refusal
arrival_refusal s n l = refused s (record { agent = record { 0 = n }; line = record { 0 = l }; step = steps.Admit })

-- tend, of type t: 10 where the tracker has no entries of it
abbrev pub has_entries_of : Outstanding → ℕ → Bool
has_entries_of r t = nat_lt 0 (slice_index r.entries t)

abbrev pub tend_refusal : Outstanding → ℕ → Option Refusal
tend_refusal r t = if has_entries_of r t then None else Some OutOfRange

-- give_back: the same, and then 12 where no slot of the type is Cancelled, or no credit of it spare
abbrev pub can_give_back : Outstanding → ℕ → Bool
can_give_back r t = nat_lt (lowest_cancelled r.slots t) 8 && has_spare r t

abbrev pub give_back_refusal : Outstanding → ℕ → Option Refusal
give_back_refusal r t = if has_entries_of r t then (if can_give_back r t then None else Some NoCredit) else Some OutOfRange

-- see, of agent n of a node: 10 where it is none of the node's
abbrev pub see_refusal : HomeState → ℕ → Option Refusal
see_refusal home n = if nat_lt n home.config.agents then None else Some OutOfRange

-- a call for a type, of agent n of a node: 10 also where a number names no type
abbrev pub typed_refusal : HomeState → ℕ → (ℕ → Option Refusal) → Option CreditType → Option Refusal
typed_refusal home n refusal None = Some OutOfRange
typed_refusal home n refusal (Some ty) = option_or (see_refusal home n) (refusal (credit_number ty))
