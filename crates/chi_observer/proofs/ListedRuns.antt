-- Whole traces of a line whose stores are all listed: legal word by word is accepted, and the worlds left are exact.
use Rattle.std.proofs.Common.{◌≡◌, List, [], ◌∷◌, refl, sym, ap, subst, ◌∙◌}
use Rattle.chi_observer.specs.declared.flits.Stores.TheVariants.{Listed as AllListed}
use Rattle.chi_observer.specs.declared.flits.Flit.{Flit}
use Rattle.chi_observer.specs.declared.flits.Flit.TheVariants.{Up, Down}
use Rattle.chi_observer.specs.Worlds.{Public, Coherent, Drift, Gives, IsSafe, public_after, public_granted}
use Rattle.chi_observer.specs.Observed.{Sound, takes, next, next_home}
use Rattle.chi_observer.specs.Runs.{Accepted, IsExact, public_of, seen}
use Rattle.chi_observer.specs.Worded.{SendsWord, fits_words, next_worded_home}
use Rattle.chi_observer.specs.ListedRuns.{AcceptedWords, AcceptedWordsAreCoherent, AcceptedWordsAreExact, AcceptedWordsAreLegal, LegalWordsAreAccepted, listed}
use Rattle.chi_observer.proofs.Finite.{no, left}
use Rattle.chi_observer.proofs.Cache.{coherent}
use Rattle.chi_observer.proofs.Comes.{kept}
use Rattle.chi_observer.proofs.Copies.{home_kept}
use Rattle.chi_observer.proofs.Home.{home_safe}
use Rattle.chi_observer.proofs.Runs.{exact}
use Rattle.chi_observer.proofs.Legal.{has_needed, has_shown}
use Rattle.chi_observer.proofs.ListedKnown.{HomeKnown, known_given, known_kept}
use Rattle.chi_observer.proofs.WordedSent.{words_lead, words_taken}
use Rattle.chi_observer.proofs.WordedGiven.{words_drift, words_lead_home}
use Rattle.chi_observer.proofs.ListedComes.{led_listed, next_listed, words_come}
use Rattle.chi_observer.proofs.ListedHome.{some_informed, some_world, words_come_home, words_safe_taken}

-- by the observer's own rules too
accepted_all : (es : List Flit) → AcceptedWords es → Accepted AllListed es
accepted_all [] a = a
accepted_all (Up f ∷ es) a = (accepted_all es a.0, a.1, left (takes (seen AllListed es) f) (fits_words (listed es) f) a.2, a.3)
accepted_all (Down g ∷ es) a = (accepted_all es a.0, a.1, a.2, a.3, a.4)

seen_exact : (es : List Flit) → AcceptedWords es → IsExact AllListed es
seen_exact es a = exact AllListed es (accepted_all es a)

all_listed : (es : List Flit) → (public_of AllListed es).stores ≡ AllListed
all_listed [] = refl
all_listed (Up f ∷ es) = all_listed es
all_listed (Down g ∷ es) = all_listed es

seen_listed : (es : List Flit) → AcceptedWords es → (seen AllListed es).public.stores ≡ AllListed
seen_listed es a = ap (λ (p : Public). p.stores) (seen_exact es a).public ∙ all_listed es

home_known : (es : List Flit) → AcceptedWords es → HomeKnown (seen AllListed es)
home_known [] a = λ _ _ _ _. refl
home_known (Up f ∷ es) a = known_kept (seen AllListed es) f (seen_listed es a.0) (left (takes (seen AllListed es) f) (fits_words (listed es) f) a.2) (home_known es a.0)
home_known (Down g ∷ es) a = known_given (seen AllListed es) g (seen_exact es a.0).sound a.1 a.2 (home_known es a.0)

pub exact_words : AcceptedWordsAreExact
exact_words [] a = record {
  meant = λ w h. record { seen = (exact AllListed [] a).meant w h; words = λ c _. no (sym c) };
  after = λ w m. (exact AllListed [] a).after w m.seen;
}
exact_words (Up f ∷ es) a =
    let e = seen_exact es a.0 in
    let before = exact_words es a.0 in
    let same_public : (next (seen AllListed es) f).public ≡ public_of AllListed (Up f ∷ es) = ap (public_after f) e.public in
    let sound : Sound (next (seen AllListed es) f) = kept (seen AllListed es) f e.sound a.1 (left (takes (seen AllListed es) f) (fits_words (listed es) f) a.2) in
    record {
      meant = λ w h. words_drift (next_listed (listed es) f) h.1 w sound (subst (λ p. Drift p h.1 w) (sym same_public) h.4)
          (led_listed (listed es) f h.1 (seen_listed es a.0) a.2 (words_lead (listed es) f h.0 h.1 e.sound a.1 (before.meant h.0 h.2) (subst (λ p. SendsWord p f h.0 h.1) (sym e.public) h.3)));
      after = λ w m. let c = words_come (listed es) f w (seen_listed es a.0) e.sound (home_known es a.0) a.1 a.2 m in
          (c.before, c.sent, before.after c.before c.meant, subst (λ p. SendsWord p f c.before c.sent) e.public c.sends, subst (λ p. Drift p c.sent w) same_public c.drifts);
    }
exact_words (Down g ∷ es) a =
    let e = seen_exact es a.0 in
    let before = exact_words es a.0 in
    let same_public : (next_home (seen AllListed es) g).public ≡ public_of AllListed (Down g ∷ es) = ap (public_granted g) e.public in
    let sound : Sound (next_home (seen AllListed es) g) = home_kept (seen AllListed es) g e.sound a.1 a.2 in
    record {
      meant = λ w h. words_drift (next_worded_home (listed es) g) h.1 w sound (subst (λ p. Drift p h.1 w) (sym same_public) h.5)
          (words_lead_home (listed es) g h.0 h.1 e.sound a.1 a.2 (before.meant h.0 h.2) h.3 (subst (λ p. Gives p g h.0 h.1) (sym e.public) h.4));
      after = λ w m. let c = words_come_home (listed es) g w (seen_listed es a.0) e.sound a.1 a.2 m in
          (c.before, c.given, before.after c.before c.meant, c.informed, subst (λ p. Gives p g c.before c.given) e.public c.gives, subst (λ p. Drift p c.given w) same_public c.drifts);
    }

pub accepted_words : LegalWordsAreAccepted
accepted_words [] l = l
accepted_words (Up f ∷ es) l =
    let a = accepted_words es l.0 in let e = seen_exact es a in let h = l.2 in
    (a, l.1, words_taken (listed es) f h.0 h.1 e.sound l.1 ((exact_words es a).meant h.0 h.2) (subst (λ p. SendsWord p f h.0 h.1) (sym e.public) h.3), l.3)
accepted_words (Down g ∷ es) l =
    let a = accepted_words es l.0 in let e = seen_exact es a in let x = exact_words es a in (
      a,
      l.1,
      words_safe_taken (listed es) g e.sound l.1 (l.2.0, x.meant l.2.0 l.2.1, l.2.2) (λ w m i. subst (λ p. IsSafe p g w) (sym e.public) (l.3 w (x.after w m) i)),
      l.4,
      has_shown AllListed es g (accepted_all es a) l.1 e l.5,
    )

pub legal_words : AcceptedWordsAreLegal
legal_words [] a = a
legal_words (Up f ∷ es) a =
    let e = seen_exact es a.0 in
    let behind = some_world (next_listed (listed es) f) in
    let c = words_come (listed es) f behind.0 (seen_listed es a.0) e.sound (home_known es a.0) a.1 a.2 behind.1 in
    (legal_words es a.0, a.1, (c.before, c.sent, (exact_words es a.0).after c.before c.meant, subst (λ p. SendsWord p f c.before c.sent) e.public c.sends), a.3)
legal_words (Down g ∷ es) a =
    let e = seen_exact es a.0 in
    let x = exact_words es a.0 in
    let some = some_informed (listed es) g a.1 a.2 in (
      legal_words es a.0,
      a.1,
      (some.0, x.after some.0 some.1, some.2),
      λ w h i. subst (λ p. IsSafe p g w) e.public (home_safe (seen AllListed es) g w e.sound a.1 a.2 (x.meant w h).seen i),
      a.3,
      has_needed AllListed es g (accepted_all es a.0) a.1 e a.4,
    )

pub coherent_words : AcceptedWordsAreCoherent
coherent_words es a w h = let e = seen_exact es a in subst (λ p. Coherent p w) e.public (coherent (seen AllListed es) w e.sound ((exact_words es a).meant w h).seen)
