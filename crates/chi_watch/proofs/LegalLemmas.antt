-- What a line judges from a trace's beginning is what the observer of whole traces accepts.
use Rattle.std.proofs.Common.{◌≡◌, ℕ, ◌<◌, Bool, true, false, List, [], ◌∷◌, refl, sym, ap, subst, ◌∙◌, arith}
use Rattle.std.specs.Prelude.{◌&&◌, Option, Some, None, nat_lt}
use Rattle.chi_copies.specs.Moments.{has_moment}
use Rattle.chi_copies.specs.Observed.{takes, takes_home}
use Rattle.chi_observer.specs.declared.flits.Flit.{Flit}
use Rattle.chi_observer.specs.declared.flits.Flit.TheVariants.{Up, Down}
use Rattle.chi_observer.specs.declared.flits.Stores.{Stores}
use Rattle.chi_copies.specs.declared.line.Reason.{Reason}
use Rattle.chi_copies.specs.Runs.{Accepted, LegalIsAccepted, AcceptedIsLegal, seen, shown_by}
use Rattle.chi_watch.specs.declared.held.HeldFlit.{HeldFlit}
use Rattle.chi_watch.specs.declared.judge.Verdict.TheVariants as verdicts
use Rattle.chi_watch.specs.declared.told.Told.{Told}
use Rattle.chi_watch.specs.declared.told.Told.TheVariants as told
use Rattle.chi_watch.specs.Judges.{Judged, flit_by, judged_after, line_after, line_refusal, verdict, verdict_by}
use Rattle.chi_watch.specs.Judges.Judged.{FromStart}
use Rattle.chi_watch.specs.Logs.{AllJudged, AllRuled, JudgedIsLegal, LegalIsJudged, behind_told, is_ruled, trace_behind}
use Rattle.chi_watch.proofs.NoRefusal.{cache_none, home_none}
use Rattle.chi_watch.proofs.RefusalRows.{cache_agent, cache_taken, home_agent, home_moment, home_taken}

-- the line behind a trace
abbrev told_of : Stores → List Flit → Judged
told_of z es = FromStart (seen z es) (shown_by z es)

-- behind one more flit
next_is : (z : Stores) (es : List Flit) (e : Flit) → line_after (seen z es) (shown_by z es) e ≡ told_of z (e ∷ es)
next_is z es (Up f) = refl
next_is z es (Down g) = refl

-- one that is judged is one of which no reason holds
none_holds : (r : Option Reason) → verdict_by r ≡ verdicts.Judged → r ≡ None
none_holds None h = refl
none_holds (Some reason) h = absurd (cc h)

is_below : (n : ℕ) → nat_lt n 32 ≡ true → n < 32
is_below n h = grind (arith, h)

low : (n : ℕ) → n < 32 → nat_lt n 32 ≡ true
low n h = grind (arith, h)

both : (a b : Bool) → a ≡ true → b ≡ true → (a && b) ≡ true
both true b h e = e
both false b h e = absurd (cc h)

accepted_next : (z : Stores) (es : List Flit) (e : Flit) → Accepted z es → line_refusal (seen z es) (shown_by z es) e ≡ None → Accepted z (e ∷ es)
accepted_next z es (Up f) before none = (before, is_below f.agent.0 (cache_agent (seen z es) f none), cache_taken (seen z es) f none)
accepted_next z es (Down g) before none =
    (before, is_below g.agent.0 (home_agent (seen z es) (shown_by z es) g none), home_taken (seen z es) (shown_by z es) g none, home_moment (seen z es) (shown_by z es) g none)

accepted_none : (z : Stores) (es : List Flit) (e : Flit) → Accepted z (e ∷ es) → line_refusal (seen z es) (shown_by z es) e ≡ None
accepted_none z es (Up f) h = cache_none (seen z es) f (both (nat_lt f.agent.0 32) (takes (seen z es) f) (low f.agent.0 h.1) h.2)
accepted_none z es (Down g) h =
    home_none (seen z es) (shown_by z es) g
    (both (nat_lt g.agent.0 32) _ (low g.agent.0 h.1) (both (has_moment (seen z es) (shown_by z es) g) (takes_home (seen z es) g) h.3 h.2))

accepted_before : (z : Stores) (es : List Flit) (e : Flit) → Accepted z (e ∷ es) → Accepted z es
accepted_before z es (Up f) h = h.0
accepted_before z es (Down g) h = h.0

-- the judge behind a flit of which no reason holds
after_is : (strays : List ℕ) (number : ℕ) (z : Stores) (es : List Flit) (e : Flit) → line_refusal (seen z es) (shown_by z es) e ≡ None
    → judged_after strays number (told_of z es) (told.Flit e) ≡ told_of z (e ∷ es)
after_is strays number z es e none = ap (λ (r : Option Reason). flit_by r number (line_after (seen z es) (shown_by z es) e)) none ∙ next_is z es e

-- where each is judged
module _ (strays : List ℕ) (z : Stores) where
  accepts_by : (es : List Flit) (number : ℕ) (rest : List HeldFlit) (t : Told)
      → ((more : List Flit) → Accepted z more → AllJudged strays (told_of z more) rest → Accepted z (trace_behind more rest))
      → Accepted z es → verdict strays (told_of z es) t ≡ verdicts.Judged → AllJudged strays (judged_after strays number (told_of z es) t) rest
      → Accepted z (trace_behind (behind_told t es) rest)
  accepts_by es number rest (told.Flit e) go before is all =
      let none = none_holds (line_refusal (seen z es) (shown_by z es) e) is in
      go (e ∷ es) (accepted_next z es e before none) (subst (λ (j : Judged). AllJudged strays j rest) (after_is strays number z es e none) all)
  accepts_by es number rest told.Nothing go before is all = go es before all
  accepts_by es number rest (told.Unjudged cause) go before is all = absurd (cc is)
  accepts_by es number rest told.OtherHome go before is all = absurd (cc is)

  accepts_all : (es : List Flit) (flits : List HeldFlit) → Accepted z es → AllJudged strays (told_of z es) flits → Accepted z (trace_behind es flits)
  accepts_all es [] before all = before
  accepts_all es (flit ∷ rest) before all = accepts_by es flit.number rest flit.told (λ more. accepts_all more rest) before all.0 all.1

  -- where the trace is accepted
  earlier_by : (es : List Flit) (rest : List HeldFlit) (t : Told) → ((more : List Flit) → Accepted z (trace_behind more rest) → Accepted z more)
      → Accepted z (trace_behind (behind_told t es) rest) → Accepted z es
  earlier_by es rest (told.Flit e) go h = accepted_before z es e (go (e ∷ es) h)
  earlier_by es rest told.Nothing go h = go es h
  earlier_by es rest (told.Unjudged cause) go h = go es h
  earlier_by es rest told.OtherHome go h = go es h

  earlier : (es : List Flit) (flits : List HeldFlit) → Accepted z (trace_behind es flits) → Accepted z es
  earlier es [] h = h
  earlier es (flit ∷ rest) h = earlier_by es rest flit.told (λ more. earlier more rest) h

  judges_by : (es : List Flit) (number : ℕ) (rest : List HeldFlit) (t : Told) → is_ruled t ≡ true
      → ((more : List Flit) → Accepted z (trace_behind more rest) → AllJudged strays (told_of z more) rest)
      → Accepted z (trace_behind (behind_told t es) rest)
      → (verdict strays (told_of z es) t ≡ verdicts.Judged) × AllJudged strays (judged_after strays number (told_of z es) t) rest
  judges_by es number rest (told.Flit e) ruled go h =
      let none = accepted_none z es e (earlier (e ∷ es) rest h) in
      (ap verdict_by none, subst (λ (j : Judged). AllJudged strays j rest) (sym (after_is strays number z es e none)) (go (e ∷ es) h))
  judges_by es number rest told.Nothing ruled go h = (refl, go es h)
  judges_by es number rest (told.Unjudged cause) ruled go h = absurd (cc ruled)
  judges_by es number rest told.OtherHome ruled go h = absurd (cc ruled)

  judges_all : (es : List Flit) (flits : List HeldFlit) → AllRuled flits → Accepted z (trace_behind es flits) → AllJudged strays (told_of z es) flits
  judges_all es [] ruled h = tt
  judges_all es (flit ∷ rest) ruled h = judges_by es flit.number rest flit.told ruled.0 (λ more. judges_all more rest ruled.1) h

pub judged_is_legal : AcceptedIsLegal → JudgedIsLegal
judged_is_legal law strays z number flits all = law z (trace_behind [] flits) (accepts_all strays z [] flits tt all)

pub legal_is_judged : LegalIsAccepted → LegalIsJudged
legal_is_judged law strays z number flits ruled h = judges_all strays z [] flits ruled (law z (trace_behind [] flits) h)
