-- What a line's judge is told: the line's flits in the order of their first beats, each with all its words (docs/WATCH.md, "Data in
-- beats").
use Rattle.std.specs.Prelude.{◌≡◌, ⊤, ℕ, Bool, true, false, List, [], ◌∷◌, ◌++◌, if◌then◌else◌}
use Rattle.chi_issue_b.specs.declared.beat.Beat.{Beat}
use Rattle.chi_watch.specs.declared.held.HeldFlit.{HeldFlit}
use Rattle.chi_watch.specs.Held.{has_room, is_whole, joined_in}
use Rattle.chi_observer.specs.declared.flits.Flit.{Flit}
use Rattle.chi_observer.specs.declared.flits.Stores.{Stores}
use Rattle.chi_copies.specs.Runs.{Legal}
use Rattle.chi_copies.specs.Tails.{IsTail}
use Rattle.chi_watch.specs.declared.judge.Start.TheVariants.{Empty, Unknown}
use Rattle.chi_watch.specs.declared.judge.Verdict.TheVariants as verdicts
use Rattle.chi_watch.specs.declared.told.Told.{Told}
use Rattle.chi_watch.specs.declared.told.Told.TheVariants as told
use Rattle.chi_watch.specs.Judges.{Judged, judged_after, opened, verdict}
use Rattle.chi_watch.specs.Lines.{LineState, arrived, behind, joined_line}

-- what comes to a line: a flit that is whole or is the first beat of its data, or a later beat of data of an id, with its number and
-- whether it is the last
pub data Step : Type 0 where
  Arrives : HeldFlit → Step
  Joins : ℕ → Beat → ℕ → Bool → Step

-- THE LOG, latest step first: the line's flits in the order of their first beats, with the words that have come
abbrev pub log : List Step → List HeldFlit
log [] = []
log (Arrives flit ∷ steps) = log steps ++ flit ∷ []
log (Joins id beat number is_last ∷ steps) = joined_in id beat number is_last (log steps)

-- the flits before the first one that lacks words, and that one with those behind it
abbrev pub whole_front : List HeldFlit → List HeldFlit
whole_front [] = []
whole_front (flit ∷ rest) = if is_whole flit then flit ∷ whole_front rest else []

abbrev pub waiting_rest : List HeldFlit → List HeldFlit
waiting_rest [] = []
waiting_rest (flit ∷ rest) = if is_whole flit then waiting_rest rest else flit ∷ rest

-- a judge that is told flits, one after the other
abbrev pub told_all : List ℕ → Judged → List HeldFlit → Judged
told_all strays judge [] = judge
told_all strays judge (flit ∷ rest) = told_all strays (judged_after strays flit.number judge flit.told) rest

-- THE LINE behind such steps, between flits from before the trace
abbrev pub line_behind : List ℕ → LineState → List Step → LineState
line_behind strays s [] = s
line_behind strays s (Arrives flit ∷ steps) = behind (line_behind strays s steps) (arrived strays (line_behind strays s steps) flit)
line_behind strays s (Joins id beat number is_last ∷ steps) =
    behind (line_behind strays s steps) (joined_line strays (line_behind strays s steps) id beat number is_last)

-- at each arrival fewer wait than may
abbrev pub HasRoom : List Step → Type 0
HasRoom [] = Unit {0}
HasRoom (Arrives flit ∷ steps) = (has_room (waiting_rest (log steps)) ≡ true) × HasRoom steps
HasRoom (Joins id beat number is_last ∷ steps) = HasRoom steps

-- the line's judge is told the whole flits before the first one that lacks words, in the order of their first beats, and each once; and
-- the others wait
abbrev pub ToldInOrder : Type 0
ToldInOrder = (strays : List ℕ) (s : LineState) (steps : List Step) → s.held ≡ [] → HasRoom steps
    → line_behind strays s steps
    ≡ record { home = s.home; told = told_all strays s.told (whole_front (log steps)); held = waiting_rest (log steps) }

-- WHAT A LINE JUDGES, from a trace's beginning: each of these is judged, one after the other
abbrev pub AllJudged : List ℕ → Judged → List HeldFlit → Type 0
AllJudged strays judge [] = ⊤
AllJudged strays judge (flit ∷ rest) =
    (verdict strays judge flit.told ≡ verdicts.Judged) × AllJudged strays (judged_after strays flit.number judge flit.told) rest

-- the flits that they are to the rules of a line, latest first, behind earlier ones
abbrev pub behind_told : Told → List Flit → List Flit
behind_told (told.Flit flit) trace = flit ∷ trace
behind_told other trace = trace

abbrev pub trace_behind : List Flit → List HeldFlit → List Flit
trace_behind trace [] = trace
trace_behind trace (flit ∷ rest) = trace_behind (behind_told flit.told trace) rest

-- all of them are some
abbrev pub is_ruled : Told → Bool
is_ruled (told.Flit flit) = true
is_ruled told.Nothing = true
is_ruled other = false

abbrev pub AllRuled : List HeldFlit → Type 0
AllRuled [] = ⊤
AllRuled (flit ∷ rest) = (is_ruled flit.told ≡ true) × AllRuled rest

-- a line that judges all that it is told was told a legal trace; and all that a legal trace tells is judged
abbrev pub JudgedIsLegal : Type 0
JudgedIsLegal = (strays : List ℕ) (z : Stores) (number : ℕ) (flits : List HeldFlit)
    → AllJudged strays (opened Empty z number) flits → Legal z (trace_behind [] flits)

abbrev pub LegalIsJudged : Type 0
LegalIsJudged = (strays : List ℕ) (z : Stores) (number : ℕ) (flits : List HeldFlit)
    → AllRuled flits → Legal z (trace_behind [] flits) → AllJudged strays (opened Empty z number) flits

-- and one whose trace begins in the middle judges all that a tail tells, whatever was before, and whichever flits from before the trace
-- may have been of it besides
abbrev pub TailIsJudged : Type 0
TailIsJudged = (strays : List ℕ) (z : Stores) (number : ℕ) (flits : List HeldFlit)
    → AllRuled flits → IsTail z (trace_behind [] flits) → AllJudged strays (opened Unknown z number) flits
