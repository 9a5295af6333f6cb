-- What an agent does in its turns, from the first to its report (docs/FORMATS.md, "A turn").
use Rattle.std.specs.Prelude.{◌≡◌, ℕ, zero, suc, ◌≤◌, ◌%◌, max, Bool, true, false, List, [], ◌∷◌, ◌++◌, map, slice_index, Option, Some, None, ◌⊎◌, ◌↔◌, IsTrue}
use Rattle.chi_flit.specs.declared.credit.Profile.{Profile}
use Rattle.chi_flit.specs.declared.credit.Profile.TheVariants.{Two, Four}
use Rattle.chi_flit.specs.declared.operation.Operation.{Operation}
use Rattle.chi_flit.specs.declared.refusal.Refusal.{Refusal}
use Rattle.chi_flit.specs.declared.refusal.Refusal.TheVariants.{NotOpen}
use Rattle.chi_slice.specs.Words.{Sizes}
use Rattle.chi_slice.specs.Slice.{SliceState}
use Rattle.chi_node.specs.Words.{Released}
use Rattle.chi_node.specs.Agree.{KeepsAgreement}
use Rattle.chi_node.specs.Credits.{GivesBack, Sees, Tends}
use Rattle.chi_node.specs.Node.{FoundAnother, IsSliceOf}
use Rattle.chi_node.specs.Outstanding.{give_back_refusal, outstanding_of, tend_refusal}
use Rattle.chi_node.specs.Requester.{RequesterState}
use Rattle.chi_agent.specs.Draws.{stream_of, word_after}
use Rattle.chi_agent.specs.declared.player.Player.{Player}
use Rattle.chi_agent.specs.Choice.{drawn_line}
use Rattle.chi_agent.specs.Operations.{unissued_operation}
use Rattle.chi_agent.specs.Turns.{after_refusal, HasEnded, IsFinished, TurnsTo}
use Rattle.chi_audit.specs.declared.reports.Report.{Report}
use Rattle.chi_audit.specs.declared.tally.Tally.{Tally}
use Rattle.chi_audit.specs.Tallies.{WriterState}
use Rattle.chi_audit.specs.Tally.{last_tally}

-- a credit of type t is given back, where that isn't refused
abbrev pub GivesBackIf : Option Refusal → ℕ → RequesterState → RequesterState → Type 0
GivesBackIf (Some refusal) t r r' = r' ≡ r
GivesBackIf None t r r' = (released : Released) × GivesBack t released r r'

-- where so many credits of the type are seen: with none it isn't tried
abbrev pub GivesBackSeen : ℕ → ℕ → RequesterState → RequesterState → Type 0
GivesBackSeen n t r r' = ((n ≡ 0) × (r' ≡ r)) ⊎ GivesBackIf (give_back_refusal (outstanding_of r) t) t r r'

-- a credit of each type in turn, where so many are seen
pub record GivesEach (seen : List ℕ) (r r' : RequesterState) : Type 0 where
  pub first : RequesterState
  pub second : RequesterState
  pub third : RequesterState
  pub gives0 : GivesBackSeen (slice_index seen 0) 0 r first
  pub gives1 : GivesBackSeen (slice_index seen 1) 1 first second
  pub gives2 : GivesBackSeen (slice_index seen 2) 2 second third
  pub gives3 : GivesBackSeen (slice_index seen 3) 3 third r'

-- what comes before the visit: it sees, and gives back what it has no request for
pub record Prepares (r r' : RequesterState) : Type 0 where
  pub saw : RequesterState
  pub seen : List ℕ
  pub sees : Sees seen r saw
  pub gives : GivesEach seen saw r'

-- type t is tended, where that isn't refused
abbrev pub TendsIf : Option Refusal → ℕ → RequesterState → RequesterState → Type 0
TendsIf (Some refusal) t r r' = r' ≡ r
TendsIf None t r r' = (released : Option Released) × Tends t released r r'

-- the type that a turn tends
abbrev pub tended_type : Profile → ℕ → ℕ
tended_type Two number = number % 2
tended_type Four number = number % 4

-- the player with its requester so
abbrev pub player_with : {A : Type 0} → RequesterState → Player A → Player A
player_with r p = record p { requester = r }

-- what is done under the lock, on some state of the slice; or the slice wasn't the line's, which counts as refusal 11
pub record VisitsSlice {A : Type 0} (config : Sizes) (x : ℕ) (p p' : Player A) (done : Bool) : Type 0 where
  pub before : SliceState
  pub after : SliceState
  pub own : IsSliceOf config (drawn_line config x).0 before
  pub turns : TurnsTo before after x p p' done
  pub agreement : KeepsAgreement before after p.requester p'.requester

pub record FindsAnother {A : Type 0} (config : Sizes) (x : ℕ) (p p' : Player A) (done : Bool) : Type 0 where
  pub found : FoundAnother config (drawn_line config x).0
  pub stops : p' ≡ after_refusal NotOpen p
  pub none : done ≡ false

abbrev pub Visits : {A : Type 0} → Sizes → ℕ → Player A → Player A → Bool → Type 0
Visits config x p p' done = VisitsSlice config x p p' done ⊎ FindsAnother config x p p' done

-- after a visit in which nothing was done, what is owed of the turn's type is tended
abbrev pub EndsTurn : {A : Type 0} → Bool → Sizes → ℕ → Player A → Player A → Type 0
EndsTurn true config number p p' = p' ≡ p
EndsTurn false config number p p' = TendsIf (tend_refusal (outstanding_of p.requester) (tended_type config.profile number)) (tended_type config.profile number) p.requester p'.requester × (p' ≡ player_with p'.requester p)

-- the turn of that number, whose word is x
pub record Turned {A : Type 0} (config : Sizes) (x number : ℕ) (p p' : Player A) (done : Bool) : Type 0 where
  pub ready : RequesterState
  pub found : Player A
  pub prepares : Prepares p.requester ready
  pub visits : Visits config x (player_with ready p) found done
  pub ends : EndsTurn done config number found p'

-- the tally of these numbers, of which none is below that of the last one
abbrev pub tally_behind : Tally → ℕ → ℕ → ℕ → Tally
tally_behind last turns loads stores = record { turns = max turns last.turns; loads = max loads last.loads; stores = max stores last.stores }

-- the writer stored one tally more, of these numbers
abbrev pub writer_after : WriterState → ℕ → ℕ → ℕ → WriterState
writer_after w turns loads stores = record w { stored = w.stored ++ tally_behind (last_tally w.stored) turns loads stores ∷ [] }

-- the word of an agent's stream after so many
abbrev pub random_word : ℕ → ℕ → ℕ → ℕ
random_word seed agent k = word_after (record (stream_of seed agent) { word_pos = k })

-- so many turns lead from the first player to the other: turn k + 1 is that of word k
abbrev pub Played : {A : Type 0} → Sizes → ℕ → ℕ → Player A → ℕ → Player A → Type 0
Played config seed agent first zero p = p ≡ first
Played {A} config seed agent first (suc k) p = (q : Player A) × (done : Bool) × Played config seed agent first k q × Turned config (random_word seed agent k) (suc k) q p done

-- an agent's life: no more than so many turns, and fewer only where it has ended
pub record Lived {A : Type 0} (config : Sizes) (seed most agent : ℕ) (first last : Player A) : Type 0 where
  pub turns : ℕ
  pub few : turns ≤ most
  pub all : (turns ≡ most) ⊎ HasEnded last
  pub played : Played config seed agent first turns last

-- the player of a script before its first turn
abbrev pub opening_player : {A : Type 0} → RequesterState → List Operation → Player A
opening_player r script = record {
  requester = r;
  operations = map unissued_operation script;
  stopped = false;
  not_open = false;
  loads = 0;
  stores = 0;
}

-- what an agent reports in the end
pub record IsReportOf {A : Type 0} (p : Player A) (report : Report) : Type 0 where
  pub agent : report.agent.0 ≡ p.requester.number
  pub finished : IsTrue report.finished ↔ IsFinished p
  pub loads : report.loads ≡ p.loads
  pub stores : report.stores ≡ p.stores
