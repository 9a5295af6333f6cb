-- A line whose trace begins in the middle judges each flit of a tail.
use Rattle.std.proofs.Common.{◌≡◌, ℕ, zero, suc, Bool, true, false, List, [], ◌∷◌, ◌++◌, refl, sym, ap, subst}
use Rattle.std.specs.Prelude.{Option, None, if◌then◌else◌, nat_lt}
use Rattle.std.specs.List.{slice_index_or}
use Rattle.chi_observer.specs.declared.flits.Flit.{Flit}
use Rattle.chi_observer.specs.declared.flits.Flit.TheVariants.{Up, Down}
use Rattle.chi_observer.specs.declared.flits.Stores.{Stores}
use Rattle.chi_copies.specs.declared.line.Reason.{Reason}
use Rattle.chi_copies.specs.Runs.{Legal}
use Rattle.chi_copies.specs.Begun.{Begun, begun_after, forgetting, nothing_begun, takes_begun}
use Rattle.chi_copies.specs.BegunRefusals.{begun_refusal}
use Rattle.chi_copies.specs.Tails.{AreTaken, Call, IsTail, MayMiss, TailsAreTaken, begun_by, flits_of}
use Rattle.chi_copies.specs.Tails.Call.{Taken, Elsewhere}
use Rattle.chi_watch.specs.declared.held.HeldFlit.{HeldFlit}
use Rattle.chi_watch.specs.declared.judge.Verdict.TheVariants as verdicts
use Rattle.chi_watch.specs.declared.told.Told.{Told}
use Rattle.chi_watch.specs.declared.told.Told.TheVariants as told
use Rattle.chi_watch.specs.Judges.{Judged, flit_by, judged_after, verdict, verdict_by, woken, woken_below}
use Rattle.chi_watch.specs.Judges.Judged.{FromMiddle}
use Rattle.chi_watch.specs.Logs.{AllJudged, AllRuled, TailIsJudged, behind_told, is_ruled, trace_behind}
use Rattle.chi_watch.proofs.NoRefusal.{begun_none}

-- what is kept is what some calls tell, which have these flits
pub record Calls (z : Stores) (trace : List Flit) (b : Begun) : Type 0 where
  pub calls : List Call
  pub is : b ≡ begun_by (nothing_begun z) calls
  pub flits : flits_of calls ≡ trace
  pub may : MayMiss (nothing_begun z) calls

-- flits from before the trace that may have been of the line
wakes_by : (z : Stores) (trace : List Flit) (n : ℕ) (b : Begun) (late : Bool) → Calls z trace b → Calls z trace (if late then forgetting n b else b)
wakes_by z trace n b true so_far = record { calls = Elsewhere n ∷ so_far.calls; is = ap (forgetting n) so_far.is; flits = so_far.flits; may = so_far.may }
wakes_by z trace n b false so_far = so_far

wakes : (z : Stores) (trace : List Flit) (k : ℕ) (strays : List ℕ) (last : ℕ) (b : Begun) → Calls z trace b → Calls z trace (woken_below k strays last b)
wakes z trace zero strays last b so_far = so_far
wakes z trace (suc n) strays last b so_far =
    wakes_by z trace n (woken_below n strays last b) (nat_lt last (slice_index_or strays n 0)) (wakes z trace n strays last b so_far)

all_woken : (z : Stores) (trace : List Flit) (strays : List ℕ) (last : ℕ) (b : Begun) → Calls z trace b → Calls z trace (woken strays last b)
unfolding woken
all_woken z trace strays last b so_far = wakes z trace 32 strays last b so_far

-- earlier flits of a tail are one
legal_before : (z : Stores) (e : Flit) (es : List Flit) → Legal z (e ∷ es) → Legal z es
legal_before z (Up f) es h = h.0
legal_before z (Down g) es h = h.0

module _ (z : Stores) (before : List Flit) where
  earlier_by : (es : List Flit) (rest : List HeldFlit) (t : Told) → ((more : List Flit) → Legal z (trace_behind more rest ++ before) → Legal z (more ++ before))
      → Legal z (trace_behind (behind_told t es) rest ++ before) → Legal z (es ++ before)
  earlier_by es rest (told.Flit e) go h = legal_before z e (es ++ before) (go (e ∷ es) h)
  earlier_by es rest told.Nothing go h = go es h
  earlier_by es rest (told.Unjudged cause) go h = go es h
  earlier_by es rest told.OtherHome go h = go es h

  earlier : (es : List Flit) (flits : List HeldFlit) → Legal z (trace_behind es flits ++ before) → Legal z (es ++ before)
  earlier es [] h = h
  earlier es (flit ∷ rest) h = earlier_by es rest flit.told (λ more. earlier more rest) h

-- the next flit of a tail is taken
taken_next : TailsAreTaken → (z : Stores) (es : List Flit) (e : Flit) (b : Begun) → Calls z es b → IsTail z (e ∷ es) → takes_begun b e ≡ true
taken_next law z es e b so_far tail =
    let whole : IsTail z (e ∷ flits_of so_far.calls) = subst (λ (trace : List Flit). IsTail z (e ∷ trace)) (sym so_far.flits) tail in
    let taken : AreTaken (nothing_begun z) (Taken e ∷ so_far.calls) = law z (Taken e ∷ so_far.calls) so_far.may whole in
    subst (λ (w : Begun). takes_begun w e ≡ true) (sym so_far.is) taken.1

module _ (law : TailsAreTaken) (strays : List ℕ) (z : Stores) where
  judges_by : (es : List Flit) (b : Begun) (last : ℕ) (number : ℕ) (rest : List HeldFlit) (t : Told) → is_ruled t ≡ true
      → ((more : List Flit) (next : Begun) (after : ℕ) → Calls z more next → IsTail z (trace_behind more rest) → AllJudged strays (FromMiddle next after) rest)
      → Calls z es b → IsTail z (trace_behind (behind_told t es) rest)
      → (verdict strays (FromMiddle b last) t ≡ verdicts.Judged) × AllJudged strays (judged_after strays number (FromMiddle b last) t) rest
  judges_by es b last number rest (told.Flit e) ruled go so_far tail =
      let awake = woken strays last b in
      let here : Calls z es awake = all_woken z es strays last b so_far in
      let none : begun_refusal awake e ≡ None = begun_none awake e (taken_next law z es e awake here (tail.0, earlier z tail.0 (e ∷ es) rest tail.1)) in
      let next : Begun = begun_after awake e in
      let after : FromMiddle next number ≡ judged_after strays number (FromMiddle b last) (told.Flit e) = sym (ap (λ (r : Option Reason). flit_by r number (FromMiddle next number)) none) in (
        ap verdict_by none,
        subst (λ (j : Judged). AllJudged strays j rest) after
            (go (e ∷ es) next number (record { calls = Taken e ∷ here.calls; is = ap (λ (w : Begun). begun_after w e) here.is; flits = ap (λ (trace : List Flit). e ∷ trace) here.flits; may = here.may }) tail),
      )
  judges_by es b last number rest told.Nothing ruled go so_far tail = (refl, go es b last so_far tail)
  judges_by es b last number rest (told.Unjudged cause) ruled go so_far tail = absurd (cc ruled)
  judges_by es b last number rest told.OtherHome ruled go so_far tail = absurd (cc ruled)

  judges_all : (es : List Flit) (b : Begun) (last : ℕ) (flits : List HeldFlit) → AllRuled flits → Calls z es b → IsTail z (trace_behind es flits) → AllJudged strays (FromMiddle b last) flits
  judges_all es b last [] ruled so_far tail = tt
  judges_all es b last (flit ∷ rest) ruled so_far tail =
      judges_by es b last flit.number rest flit.told ruled.0 (λ more next after. judges_all more next after rest ruled.1) so_far tail

pub tail_is_judged : TailsAreTaken → TailIsJudged
tail_is_judged law strays z number flits ruled tail =
    judges_all law strays z [] (nothing_begun z) number flits ruled (record { calls = []; is = refl; flits = refl; may = tt }) tail
