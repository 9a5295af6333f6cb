-- The first row that is so.
use Rattle.std.proofs.Common.{◌≡◌, refl, sym, ◌∙◌}
use Rattle.std.specs.Prelude.{Bool, true, false, ◌&&◌, ◌||◌, not, Option, Some, None, Result, Ok, Err, IfErr}
use Rattle.chi_observer.specs.declared.flits.HomeFlit.{HomeFlit}
use Rattle.chi_observer.specs.Rules.{is_busy, is_due, needs_duty, needs_overwriter, needs_quiet}
use Rattle.chi_copies.specs.declared.line.Reason.{Reason}
use Rattle.chi_copies.specs.declared.line.Reason.TheVariants.{NotDue, NoDuty, Busy, NoOverwriter, OtherWords, Lost, OtherCopy}
use Rattle.chi_copies.specs.Rules.{fills, shows}
use Rattle.chi_copies.specs.Worlds.{all_below, home_may, is_overwritten}
use Rattle.chi_copies.specs.Observed.{Observed, any_of, fits_home, goes}
use Rattle.chi_copies.specs.Refusals.{copy_refusal, due_refusal, refused_if}
use Rattle.chi_copies.proofs.Finite.{no, left, right}

pub first : (b : Bool) (reason : Reason) (rest : Option Reason) → b ≡ true → refused_if b reason rest ≡ Some reason
first true reason rest h = refl
first false reason rest h = no h

pub skip : (b : Bool) (reason : Reason) (rest : Option Reason) → b ≡ false → refused_if b reason rest ≡ rest
skip true reason rest h = no (sym h)
skip false reason rest h = refl

pub kept_not : (b : Bool) → b ≡ true → not b ≡ false
kept_not true h = refl
kept_not false h = no h

broken_not : (b : Bool) → b ≡ false → not b ≡ true
broken_not true h = no (sym h)
broken_not false h = refl

broken : (a b : Bool) → (not a || b) ≡ false → (a && not b) ≡ true
broken true true h = no (sym h)
broken true false h = refl
broken false b h = no (sym h)

kept : (a b : Bool) → (not a || b) ≡ true → (a && not b) ≡ false
kept true true h = refl
kept true false h = no h
kept false b h = refl

-- what another refusal says, said of these rows too
pub err_as : {A : Type 0} (x : Result A Reason) (said wanted : Option Reason) → wanted ≡ said → IfErr x (λ reason. said ≡ Some reason) → IfErr x (λ reason. wanted ≡ Some reason)
err_as {A} (Ok a) said wanted e h = h
err_as {A} (Err reason) said wanted e h = e ∙ h

module _ (o : Observed) (g : HomeFlit) where
  abbrev shown : Bool
  shown = any_of (o.may g.agent.0) (shows g.grant)

  abbrev fit : Bool
  fit = fits_home o.home g.shown

  abbrev lost : Bool
  lost = any_of (o.may g.agent.0) (λ h. fills g.grant h && h.stored)

  abbrev after_words : Option Reason
  after_words = refused_if lost Lost (refused_if (not (goes o g)) OtherCopy None)

  pub other_words : (b : Bool) → b ≡ (not shown || fit) → b ≡ false → copy_refusal o g ≡ Some OtherWords
  other_words b e h = first (shown && not fit) OtherWords after_words (broken shown fit (sym e ∙ h))

  words_pass : (b : Bool) → b ≡ (not shown || fit) → b ≡ true → copy_refusal o g ≡ after_words
  words_pass b e h = skip (shown && not fit) OtherWords after_words (kept shown fit (sym e ∙ h))

  pub value_lost : (b c : Bool) → b ≡ (not shown || fit) → b ≡ true → c ≡ lost → c ≡ true → copy_refusal o g ≡ Some Lost
  value_lost b c e h f k = words_pass b e h ∙ first lost Lost (refused_if (not (goes o g)) OtherCopy None) (sym f ∙ k)

  pub other_copy : (b c d : Bool) → b ≡ (not shown || fit) → b ≡ true → c ≡ lost → c ≡ false → d ≡ goes o g → d ≡ false → copy_refusal o g ≡ Some OtherCopy
  other_copy b c d e h f k x y = words_pass b e h ∙ skip lost Lost (refused_if (not (goes o g)) OtherCopy None) (sym f ∙ k) ∙ first (not (goes o g)) OtherCopy None (broken_not (goes o g) (sym x ∙ y))

  abbrev due : Bool
  due = is_due g.grant (o.public.due g.agent.0) (o.public.snooped g.agent.0)

  abbrev quiet : Bool
  quiet = all_below 32 (λ m. not (is_busy (o.public.due m)))

  abbrev over : Bool
  over = is_overwritten o.public g.agent.0

  pub due_passes : (rest : Option Reason) → true ≡ home_may o.public g → due_refusal o g rest ≡ rest
  due_passes rest h =
      let all = sym h in
      let behind = right due _ all in
      let then = right (not (needs_duty g.grant) || o.public.duty) _ behind in
      skip (not due) NotDue _ (kept_not due (left due _ all))
      ∙ skip (needs_duty g.grant && not o.public.duty) NoDuty _ (kept (needs_duty g.grant) o.public.duty (left (not (needs_duty g.grant) || o.public.duty) _ behind))
      ∙ skip (needs_quiet g.grant && not quiet) Busy _ (kept (needs_quiet g.grant) quiet (left (not (needs_quiet g.grant) || quiet) _ then))
      ∙ skip (needs_overwriter g.grant && not over) NoOverwriter rest (kept (needs_overwriter g.grant) over (right (not (needs_quiet g.grant) || quiet) _ then))
