-- What a port's calls do: their steps, the last of them first, each with the word that it found
-- (docs/PROTOCOL.md, "Steps of the tracker").
use Rattle.std.specs.Prelude.{◌≡◌, ◌⊎◌, ℕ, zero, suc, ◌+◌, ◌-◌, ◌*◌, ◌%◌, ◌<◌, List, [], ◌∷◌, ◌++◌, Option, Some, None, slice_index}
use Rattle.std.specs.Int.{bit_at}
use Rattle.atomic_table.specs.declared.shared.Seat.{Seat}
use Rattle.chi_tracker.specs.declared.view.SeatView.{SeatView}
use Rattle.chi_tracker.specs.declared.step.AtomicStep.{AtomicStep}
use Rattle.chi_tracker.specs.declared.step.AtomicStep.TheVariants.{Claim, Free, Note, Owe, Look, Settle, Promise, See, Return}
use Rattle.chi_flit.specs.declared.numbers.Entry.{Entry}
use Rattle.chi_tracker.specs.Shape.{low, size, IsOf}
use Rattle.chi_tracker.specs.Views.{PortView, has}
use Rattle.chi_tracker.specs.declared.released.Released.{Released}
use Rattle.chi_tracker.specs.declared.released.Released.TheVariants.{Granted, Freed}
use Rattle.chi_tracker.specs.Steps.{shown, solo, first_clear, byte_of, effect}
use Rattle.chi_tracker.specs.History.{Did, IsAfter, port_in}
use Rattle.chi_tracker.specs.Calls.{Owner, owner_in, IsLowestSeen}

-- steps, each with the word that it found
abbrev pub Steps : Type 0
Steps = List (AtomicStep × ℕ)

-- what steps, of which the last stands first, make of the view of the port that does them
abbrev pub after_steps : Steps → PortView → PortView
after_steps [] p = p
after_steps (s ∷ steps) p = effect s.0 s.1 (after_steps steps p)

-- steps of which A holds, and then such of which B does
abbrev pub Then : (Steps → Type 0) → (Steps → Type 0) → Steps → Type 0
Then A B steps = (later before : Steps) × (steps ≡ later ++ before) × A before × B later

-- steps of which A 0 holds, then such of which A 1 does, and so on, n times
abbrev pub Each : ℕ → (ℕ → Steps → Type 0) → Steps → Type 0
Each zero A steps = steps ≡ []
Each (suc n) A steps = Then (Each n A) (A n) steps

-- one step, of whatever word it found
abbrev pub One : AtomicStep → Steps → Type 0
One k steps = (r : ℕ) × (steps ≡ (k, r) ∷ [])

-- one step, which found bit i of its word to be b
abbrev pub Found : AtomicStep → ℕ → ℕ → Steps → Type 0
Found k i b steps = (r : ℕ) × (steps ≡ (k, r) ∷ []) × (bit_at r i ≡ b)

-- one look, which showed a word of which P holds
abbrev pub Looked : AtomicStep → (ℕ → Type 0) → Steps → Type 0
Looked k P steps = (r : ℕ) × (steps ≡ (k, r) ∷ []) × P r

-- claims of the entries from `first` on, n of them, each of which found its bit set
abbrev pub FoundTaken : ℕ → ℕ → ℕ → Steps → Type 0
FoundTaken t first n = Each n (λ i. Found (Claim t (first + i)) ((first + i) % 64) 1)

-- the same up to entry e, and then a claim of e, which found its bit clear
abbrev pub FoundFree : ℕ → ℕ → ℕ → Steps → Type 0
FoundFree t first e = Then (FoundTaken t first (e - first)) (Found (Claim t e) (e % 64) 0)

-- the steps of a claim of type t: claims up to an entry of the type that wasn't in hand, or of each entry of the type
abbrev pub ClaimActs : PortView → ℕ → Option Entry → Steps → Type 0
ClaimActs p t (Some e) steps = IsOf p.shape t e.0 × (has e.0 p ≡ 0) × FoundFree t (low p.shape t) e.0 steps
ClaimActs p t None steps = (0 < size p.shape t) × FoundTaken t (low p.shape t) (size p.shape t) steps

-- place k, if the word shows it, was tried to settle at m for e and found clear
abbrev pub Tried : ℕ → ℕ → ℕ → ℕ → Steps → Type 0
Tried e m word k steps = ((bit_at word k ≡ 0) × (steps ≡ [])) ⊎ Found (Settle e m k) k 0 steps

-- so were the first n places of type t
abbrev pub FoundClear : ℕ → ℕ → ℕ → ℕ → ℕ → Steps → Type 0
FoundClear t e m word n = Each n (λ i. Tried e m word (8 * t + i))

-- m was looked at for type t, and each place that the look showed was then found clear
abbrev pub SweptAt : ℕ → ℕ → ℕ → Steps → Type 0
SweptAt t e m steps = (word : ℕ) × Then (λ look. look ≡ (Look t m, word) ∷ []) (FoundClear t e m word 8) steps

-- so were the first n requesters
abbrev pub SweptFor : ℕ → ℕ → ℕ → Steps → Type 0
SweptFor t e n = Each n (SweptAt t e)

-- place k was settled at m for e and found set, and e was promised to m
abbrev pub Settled : ℕ → ℕ → ℕ → Steps → Type 0
Settled e m k = Then (Found (Settle e m k) k 1) (One (Promise e m))

-- of the places of type t that the word shows the first that was not found clear was so settled
abbrev pub SettledIn : ℕ → ℕ → ℕ → ℕ → Steps → Type 0
SettledIn t e m word steps =
    (place : ℕ) × (place < 8) × Then (FoundClear t e m word place) (Settled e m (8 * t + place)) steps

-- m was looked at for type t, and of the places that the look showed one was settled for e
abbrev pub PromisedAt : ℕ → ℕ → ℕ → Steps → Type 0
PromisedAt t e m steps = (word : ℕ) × Then (λ look. look ≡ (Look t m, word) ∷ []) (SettledIn t e m word) steps

-- The steps of the release of entry e of type t. Granted: a place of the type was settled at the requester
-- and found set, and the entry promised to it, after all requesters before it were swept in vain. Freed:
-- all were, and then the entry was freed.
abbrev pub EndActs : ℕ → ℕ → ℕ → Released → Steps → Type 0
EndActs agents t e (Granted m) steps = (m.0 < agents) × Then (SweptFor t e m.0) (PromisedAt t e m.0) steps
EndActs agents t e Freed steps = Then (SweptFor t e agents) (One (Free e)) steps

-- the same of entry e of a port, by the entry's type
abbrev pub ReleaseActs : PortView → ℕ → Released → Steps → Type 0
ReleaseActs p e released steps = (t : ℕ) × (t < 4) × IsOf p.shape t e × EndActs p.shape.agents t e released steps

-- the return of the lowest seen credit of type t, whose entry wasn't in hand, and the steps of the entry's release
abbrev pub ReturnActs : PortView → ℕ → Released → Steps → Type 0
ReturnActs p t released steps =
    (e : ℕ) × IsLowestSeen p t e × (has e p ≡ 0) × Then (One (Return t e)) (EndActs p.shape.agents t e released) steps

-- looks at the first n requesters, none of which showed a credit of type t owed
abbrev pub LookedInVain : ℕ → ℕ → Steps → Type 0
LookedInVain t n = Each n (λ m. Looked (Look t m) (λ word. byte_of t word ≡ 0))

-- the same up to one that did
abbrev pub LookedUntil : ℕ → ℕ → Steps → Type 0
LookedUntil t agents steps =
    (m : ℕ) × (m < agents) × Then (LookedInVain t m) (Looked (Look t m) (λ word. 0 < byte_of t word)) steps

-- a look at the port's own word of owed credits, and the lowest place of type t that it showed clear was set
abbrev pub OweActs : ℕ → Steps → Type 0
OweActs t steps =
    (word : ℕ) × Then (λ look. look ≡ (Note t, word) ∷ []) (One (Owe (first_clear (8 * t) word))) steps

-- a look at each of the four words of what is promised, which found these words
abbrev pub SeeActs : List ℕ → Steps → Type 0
SeeActs words steps =
    steps ≡ (See 3, slice_index words 3) ∷ ((See 2, slice_index words 2)
    ∷ ((See 1, slice_index words 1) ∷ ((See 0, slice_index words 0) ∷ [])))

-- The steps of a tend of type t: where a requester showed a credit owed, a scan of the type, and the release
-- of the entry that it found free.
abbrev pub TendActs : PortView → ℕ → Option Released → Steps → Type 0
TendActs p t (Some released) steps =
    (e : Entry) × Then (LookedUntil t p.shape.agents) (Then (ClaimActs p t (Some e)) (EndActs p.shape.agents t e.0 released)) steps
TendActs p t None steps =
    LookedInVain t p.shape.agents steps ⊎ Then (LookedUntil t p.shape.agents) (ClaimActs p t None) steps

-- between the histories that a port knew before and after, it did steps of which A holds, and no others; its view is
-- what they made of it
abbrev pub Does : Owner → (Steps → Type 0) → Owner → Type 0
Does p A q = (steps : Steps) × Did p.port.who steps p.history q.history × A steps × (q.port ≡ after_steps steps p.port)

-- so a port of one tracker did, and a legal history of the tracker leaves it as it is then
pub record HasActed (A : Steps → Type 0) (p q : Owner) : Type 0 where
  pub table : q.table ≡ p.table
  pub acts : Does p A q
  pub running : IsAfter q.history q.port

-- what a step of a port's seat comes to, which found the word r
pub record HasStepped (k : AtomicStep) (old : Seat ℕ SeatView) (r : ℕ) (new : Seat ℕ SeatView) : Type 0 where
  pub table : new.table_id ≡ old.table_id
  pub view : shown new.me ≡ solo (effect k r (port_in old.me))
  pub acts : Does (owner_in old) (λ steps. steps ≡ (k, r) ∷ []) (owner_in new)
  pub after : IsAfter new.me.0.history (port_in new.me)
