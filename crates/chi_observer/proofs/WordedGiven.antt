-- A flit of the home and hidden steps, word by word.
use Rattle.std.proofs.Common.{◌≡◌, ◌<◌, ◌⊎◌, inl, inr, refl, sym, ap, subst, ◌∙◌}
use Rattle.std.specs.Prelude.{Bool, true, false, ◌&&◌, ◌||◌, not, if◌then◌else◌}
use Rattle.chi_observer.specs.declared.flits.Due.{Due}
use Rattle.chi_observer.specs.declared.flits.HomeFlit.{HomeFlit}
use Rattle.chi_observer.specs.Copies.Copy.{Invalid, UniqueDirty}
use Rattle.chi_observer.specs.Rules.{makes, settles}
use Rattle.chi_observer.specs.Tables.{fresh, reach}
use Rattle.chi_observer.specs.Worlds.{World, Cancels, Drift, Drops, Gives, Hidden, Informed, StoresUnseen}
use Rattle.chi_observer.specs.Worlds.Drift.{Stay, Step}
use Rattle.chi_observer.specs.Observed.{Observed, Sound, Unstored, next_home, takes_home}
use Rattle.chi_observer.specs.WordedLaws.{WordedHomeFlitsLead, WordsAreClosed}
use Rattle.chi_observer.specs.Worded.{Worded, MeaningWords, agree, next_worded_home, no_words}
use Rattle.chi_observer.proofs.Finite.{no, right}
use Rattle.chi_observer.proofs.Facts.{gone, of_form, turned}
use Rattle.chi_observer.proofs.Comes.{calm_before, cancelled, closed, dropped, stored}
use Rattle.chi_observer.proofs.Home.{before, home_leads}

-- neither is it settled, nor was it the home's before
not_settled : (z c b : Bool) → b ≡ false → (z || (c && not b)) ≡ false → (z ≡ false) × (c ≡ false)
not_settled true c b e h = no (sym h)
not_settled false c true e h = no (sym e)
not_settled false true false e h = no (sym h)
not_settled false false false e h = (refl, refl)

module _ (l : Worded) (g : HomeFlit) (w w' : World) (sound : Sound l.seen) (low : g.agent.0 < 32) (takes : takes_home l.seen g ≡ true) (m : MeaningWords l w) (informed : Informed g w) (gives : Gives l.seen.public g w w') where
  abbrev o : Observed
  o = l.seen

  abbrev d : Due
  d = o.public.due g.agent.0

  words_by : (next_home o g).current ≡ false → Unstored (next_home o g) w' → (b : Bool) → makes g.grant d ≡ b → agree (if b then no_words else l.words) w'.last ≡ true
  words_by c u true e = refl
  words_by c u false e = let was = not_settled (settles g.grant d) o.current (makes g.grant d) e c in
      subst (λ v. agree l.words v ≡ true) (sym (gives.last e ∙ ap (λ b. if b then w.home else w.last) was.0)) (m.words was.1 (before o g w w' sound low takes m.seen informed gives u))

  pub led_home : MeaningWords (next_worded_home l g) w'
  led_home = record { seen = home_leads o g w w' sound low takes m.seen informed gives; words = λ c u. words_by c u (makes g.grant d) refl }

pub words_lead_home : WordedHomeFlitsLead
words_lead_home l g w w' sound low takes m informed gives = led_home l g w w' sound low takes m informed gives

-- HIDDEN STEPS
module _ (l : Worded) (w w' : World) (sound : Sound l.seen) (m : MeaningWords l w) (h : Hidden l.seen.public w w') where
  abbrev seen : Observed
  seen = l.seen

  -- where the value stays, and what the agent has can't have been stored to
  same_value : w'.last ≡ w.last → fresh seen.public.stores (seen.public.due h.agent) (seen.told h.agent) (w.state h.agent) ≡ false → seen.current ≡ false → Unstored seen w' → agree l.words w'.last ≡ true
  same_value e f c u = subst (λ v. agree l.words v ≡ true) (sym e) (m.words c (calm_before seen w w' sound m.seen h.agent h.low h.others h.home f u))

  kept_by : StoresUnseen seen.public h.agent w w' ⊎ (Drops seen.public h.agent w w' ⊎ Cancels seen.public h.agent w w') → seen.current ≡ false → Unstored seen w' → agree l.words w'.last ≡ true
  kept_by (inl step) c u = no (sym (u h.agent h.low) ∙ subst (λ x. fresh seen.public.stores (seen.public.due h.agent) (seen.told h.agent) x ≡ true) (sym step.dirty)
      (right (reach seen.public.stores (seen.public.due h.agent) (seen.told h.agent) (of_form UniqueDirty (w.state h.agent))) _ (stored seen w w' sound m.seen h.agent h.low h.others h.home step)))
  kept_by (inr (inl step)) c u = same_value step.last
      (turned _ (right (reach seen.public.stores (seen.public.due h.agent) (seen.told h.agent) (of_form Invalid (w.state h.agent))) _ (dropped seen w w' sound m.seen h.agent h.low h.others h.home step))) c u
  kept_by (inr (inr step)) c u = same_value step.last
      (turned _ (right (reach seen.public.stores (seen.public.due h.agent) (seen.told h.agent) (gone (w.state h.agent))) _ (cancelled seen w w' sound m.seen h.agent h.low h.others h.home step))) c u

  pub closed_here : MeaningWords l w'
  closed_here = record { seen = closed seen w w' sound m.seen h; words = kept_by h.how }

pub words_closed : WordsAreClosed
words_closed l w w' sound m h = closed_here l w w' sound m h

pub words_drift : (l : Worded) (w w' : World) → Sound l.seen → Drift l.seen.public w w' → MeaningWords l w → MeaningWords l w'
words_drift l w w' sound Stay m = m
words_drift l w w' sound (Step {u = u} {v = v} {w = w''} h d) m = words_drift l v w'' sound d (words_closed l u v sound m h)
