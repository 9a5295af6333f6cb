-- A request and an answer that come in either order: neither is refused, and what is told is what the copy may be.
use Rattle.std.proofs.Common.{◌≡◌, refl, sym, subst, ap, ◌∙◌}
use Rattle.std.specs.Prelude.{Bool, true, false, ◌&&◌, ◌||◌, not, Some}
use Rattle.chi_observer.specs.declared.kinds.Kind.{Kind}
use Rattle.chi_observer.specs.declared.kinds.Kind.TheVariants as kinds
use Rattle.chi_observer.specs.declared.kinds.Snoop.{Snoop}
use Rattle.chi_observer.specs.declared.told.Told.{Told}
use Rattle.chi_observer.specs.declared.flits.Due.TheVariants.{Nothing, Completion}
use Rattle.chi_observer.specs.declared.flits.Stores.TheVariants.{Hidden}
use Rattle.chi_observer.specs.declared.flits.Answer.{Answer}
use Rattle.chi_observer.specs.declared.flits.Act.TheVariants.{Request, SnpResp}
use Rattle.chi_observer.specs.declared.arriving.Earlier.{Earlier}
use Rattle.chi_observer.specs.Copies.{Held, same}
use Rattle.chi_observer.specs.Copies.Copy.{UniqueClean}
use Rattle.chi_observer.specs.Rules.{allows, answer_drops, lets_go, plain}
use Rattle.chi_observer.specs.Tables.{fits_issue, fits_told, kind_tells_dirty, may, may_drift, reach, strongest, told_answered, told_issued}
use Rattle.chi_observer.specs.Arriving.{earlier_answered, fits_crossing, issued_before}
use Rattle.chi_observer.specs.Crossing.{EarlyRequestsAreHeld, LateRequestsAreTaken, RequestsBehindAreHeld, RequestsFirst, as_told, before_it, goes, told_both}
use Rattle.chi_observer.proofs.Finite.{no, left, right, both, implies}
use Rattle.chi_observer.proofs.Facts.{forward, taken_well}
use Rattle.chi_observer.proofs.CrossingTables.{come_of, fine_self, fits_by, is_early, issue_of, may_be, meet, pend, sent_answer, since_of, still, still_is}

always : (b : Bool) → implies b true ≡ true
always true = refl
always false = refl

early_only : (k : Kind) (e : Earlier) → implies (issued_before e k) (is_early k) ≡ true
early_only kinds.ReadNotSharedDirty e = refl
early_only kinds.ReadShared e = refl
early_only kinds.ReadClean e = refl
early_only kinds.ReadOnce e = refl
early_only kinds.ReadUnique e = refl
early_only kinds.CleanUnique e = refl
early_only kinds.MakeUnique e = refl
early_only kinds.CleanShared e = refl
early_only kinds.CleanInvalid e = refl
early_only kinds.MakeInvalid e = refl
early_only kinds.WriteUniqueFull e = refl
early_only kinds.Evict e = always e.clean
early_only kinds.WriteBackFull e = always e.dirty
early_only kinds.WriteCleanFull e = always e.dirty
early_only kinds.WriteEvictFull e = always e.unique

early_and : (b e : Bool) → implies b e ≡ true → (b && e) ≡ b
early_and true e h = h
early_and false e h = refl

-- BOTH ARE SENT
allowed_drops : (a : Answer) (q : Snoop) → allows (SnpResp a) (Some q) ≡ true → (not (lets_go (Some q)) || answer_drops a) ≡ true
allowed_drops a q h = right _ (not (lets_go (Some q)) || answer_drops a) h

module _ (t : Told) (k : Kind) (q : Snoop) (a : Answer) (after : Held) (r : RequestsFirst t k q a after) where
  asked : taken_well Hidden (Request k) false Nothing (as_told t) r.before false r.asking ≡ true
  asked = forward Hidden (Request k) false Nothing (as_told t) r.before r.asking false r.told refl r.requests

  fits : fits_issue k true t ≡ true
  fits = left (fits_told Hidden (Request k) false Nothing (as_told t)) _ asked

  asking_reached : reach Hidden (Completion k) (as_told (told_issued k t)) r.asking ≡ true
  asking_reached = left (reach Hidden (Completion k) (as_told (told_issued k t)) r.asking) _ (left _ _ (right (fits_told Hidden (Request k) false Nothing (as_told t)) _ asked))

  answered : taken_well Hidden (SnpResp a) (lets_go (Some q)) (Completion k) (as_told (told_issued k t)) r.asking false after ≡ true
  answered = forward Hidden (SnpResp a) (lets_go (Some q)) (Completion k) (as_told (told_issued k t)) r.asking after false asking_reached refl r.answers

  gives : fits_by a false (lets_go (Some q)) (told_issued k t) ≡ true
  gives = left (fits_told Hidden (SnpResp a) (lets_go (Some q)) (Completion k) (as_told (told_issued k t))) _ answered

  left_so : may (told_answered a (told_issued k t)) after.copy ≡ true
  left_so = right (reach Hidden (Completion k) (as_told (told_answered a (told_issued k t))) after) (may (told_answered a (told_issued k t)) after.copy)
      (left _ _ (right (fits_told Hidden (SnpResp a) (lets_go (Some q)) (Completion k) (as_told (told_issued k t))) _ answered))

  facts : (e : Earlier) → (fits_by a true (lets_go (Some q)) t && pend k (still k a (goes q a) t (issued_before e k)) (told_answered a (told_issued k t)) (told_answered a t)) ≡ true
  facts e = sent_answer k (issued_before e k) (lets_go (Some q)) (told_issued k t) t a
      (both _ _ (issue_of k (issued_before e k) t t (both _ _ (fine_self t) fits)) (both _ _ (allowed_drops a q r.allowed) gives))

  pends : (e : Earlier) → pend k (before_it t e k q a) (told_answered a (told_issued k t)) (told_answered a t) ≡ true
  pends e = subst (λ b. pend k b (told_answered a (told_issued k t)) (told_answered a t) ≡ true) (sym (still_is k a (goes q a) t e))
      (right (fits_by a true (lets_go (Some q)) t) _ (facts e))

either : (b f : Bool) → ((b && not f) || f) ≡ true → (b || f) ≡ true
either true f h = refl
either false f h = h

or_unsure : (m b d z c : Bool) → (m || ((b && (d && z)) && c)) ≡ true → (m || ((b && d) && c)) ≡ true
or_unsure true b d z c h = refl
or_unsure false true true true c h = h
or_unsure false true true false c h = no h
or_unsure false true false z c h = no h
or_unsure false false d z c h = no h

pub late_taken : LateRequestsAreTaken
late_taken t e k q a after r =
    let b = before_it t e k q a in
    let t' = told_answered a t in
    let s = told_answered a (told_issued k t) in
    let comes = come_of k b s t' (both _ _ (early_only k (earlier_answered a (goes q a) t e)) (pends t k q a after r e)) in
    record {
      answer = left _ _ (facts t k q a after r e);
      request = either b (fits_issue k true t') (left _ _ comes);
      copy = or_unsure (may (told_both t e k q a) after.copy) b (kind_tells_dirty k) (same (strongest t') UniqueClean) (same after.copy UniqueClean)
          (may_be (b && (kind_tells_dirty k && same (strongest t') UniqueClean)) s (told_both t e k q a) after.copy (right _ _ comes) (left_so t k q a after r));
    }

or_more : (b f r : Bool) → f ≡ true → (b || (f || r)) ≡ true
or_more true f r h = refl
or_more false true r h = refl
or_more false false r h = no h

pub early_held : EarlyRequestsAreHeld
early_held t e k q a after r = or_more (issued_before e k) (fits_issue k true t) _ (fits t k q a after r)

or_fits : (b f : Bool) → f ≡ true → (b || f) ≡ true
or_fits true f h = refl
or_fits false f h = h

pub behind_held : RequestsBehindAreHeld
behind_held t e k q a r =
    let x = lets_go (Some q) in
    let b = issued_before e k in
    let answered : taken_well Hidden (SnpResp a) x Nothing (as_told t) r.before false r.answering ≡ true = forward Hidden (SnpResp a) x Nothing (as_told t) r.before r.answering false r.told refl r.answers in
    let gives : fits_by a true x t ≡ true = left (fits_told Hidden (SnpResp a) x Nothing (as_told t)) _ answered in
    let reached : reach Hidden Nothing (as_told (told_answered a t)) r.answering ≡ true = left (reach Hidden Nothing (as_told (told_answered a t)) r.answering) _ (left _ _ (right (fits_told Hidden (SnpResp a) x Nothing (as_told t)) _ answered)) in
    let drifts : may_drift Hidden (told_answered a t) r.since ≡ true = since_of (told_answered a t) r.answering.copy r.since (both _ _ (right (not r.answering.cancelled) _ reached) r.unseen) in
    let asked : taken_well Hidden (Request k) false Nothing (as_told (told_answered a t)) (plain r.since) false r.asking ≡ true = forward Hidden (Request k) false Nothing (as_told (told_answered a t)) (plain r.since) r.asking false drifts refl r.requests in
    let fits : fits_issue k true (told_answered a t) ≡ true = left (fits_told Hidden (Request k) false Nothing (as_told (told_answered a t))) _ asked in
    sym (ap (λ (z : Bool). z || fits_crossing q k t) (early_and b (is_early k) (early_only k e)))
    ∙ meet k q b t a (both _ _ (both _ _ r.allowed gives) (or_fits _ _ fits))
