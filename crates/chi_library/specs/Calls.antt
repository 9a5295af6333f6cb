-- What a call of C on a handle answers, leaves and writes (docs/LIBRARY.md, "Answers").
use Rattle.std.specs.Prelude.{◌≡◌, ℕ, Option, Some, None}
use Rattle.chi_flit.specs.declared.refusal.Refusal.{Refusal}
use Rattle.chi_library.specs.Numbers.{number_if}

-- 255: the handle is closed; 254: it is open already
abbrev pub closed_number : ℕ
closed_number = 255

abbrev pub already_open : ℕ
already_open = 254

-- 0, or the number of the refusal of what the handle holds
abbrev pub answer_number : {S : Type 0} → Option S → (S → Option Refusal) → ℕ
answer_number None refusal = closed_number
answer_number (Some s) refusal = number_if (refusal s)

-- a closed handle stays closed
abbrev pub state_after : {S : Type 0} → Option S → (S → S) → Option S
state_after None after = None
state_after (Some s) after = Some (after s)

-- of a closed handle nothing is told
abbrev pub output_of : {S X : Type 0} → Option S → X → (S → X) → X
output_of None nothing tells = nothing
output_of (Some s) nothing tells = tells s

-- what is told of a call that may be refused
abbrev pub told_unless : {X : Type 0} → Option Refusal → X → X → X
told_unless None nothing tells = tells
told_unless (Some refusal) nothing tells = nothing

-- an opening of a handle, by sizes that may be outside their ranges: what the handle held, the answer, and what it
-- holds then, which is what these sizes open
abbrev pub IsOpeningCall : {C S : Type 0} → (C → S → Type 0) → Option C → Option S → ℕ → Option S → Type 0
IsOpeningCall Opens sizes (Some s) answer new = (answer ≡ already_open) × (new ≡ Some s)
IsOpeningCall Opens None None answer new = (answer ≡ 10) × (new ≡ None)
IsOpeningCall Opens (Some c) None answer None = answer ≡ 8
IsOpeningCall Opens (Some c) None answer (Some s) = (answer ≡ 0) × Opens c s
