-- A log that is taken at the home while nothing is on its way: a flit of the home that is taken there is taken of a log as sent too.
use Rattle.std.proofs.Common.{◌≡◌, ◌≢◌, ℕ, ◌<◌, refl, sym, ap, subst, ◌∙◌}
use Rattle.std.specs.Prelude.{Bool, true, false, ◌&&◌, ◌||◌, ◌==◌, not, nat_lt, Option, if◌then◌else◌}
use Rattle.chi_observer.specs.declared.kinds.Snoop.{Snoop}
use Rattle.chi_observer.specs.declared.flits.Due.{Due}
use Rattle.chi_observer.specs.declared.flits.Due.TheVariants.{Nothing, Completion, Resending, SureCompletion, WriteData, Acknowledgement}
use Rattle.chi_observer.specs.declared.flits.Grant.{Grant}
use Rattle.chi_observer.specs.declared.flits.Grant.TheVariants.{RetryAck, Snp, CompData, CompUC, CompSC, CompI, CompDBIDResp}
use Rattle.chi_observer.specs.declared.flits.HomeFlit.{HomeFlit}
use Rattle.chi_observer.specs.Copies.{holds_data, same, compatible}
use Rattle.chi_observer.specs.Copies.Copy.{Invalid}
use Rattle.chi_observer.specs.Rules.{settles, needs_alone, needs_duty, needs_quiet, needs_overwriter, overwrites, is_busy, is_due, is_acknowledging}
use Rattle.chi_copies.specs.Copies.{Held, is_lost, is_fresh, beside, same_held, any_held, all_beside}
use Rattle.chi_copies.specs.Rules.{granted, shows, fills, renews}
use Rattle.chi_copies.specs.Worlds.{home_may, all_below, others_given, is_overwritten}
use Rattle.chi_copies.specs.Observed.{Observed, Sound, any_of, got as given_got, given_of, is_beside, goes, fits_home, takes_home}
use Rattle.chi_copies.specs.Arriving.{snoop_of, awaits_data, Received, got as member_got, any_of as member_any, others, due_then, count, heard, is_quiet, goes_with, all_with, is_left_alone, takes_given}
use Rattle.chi_copies.specs.Prompt.{at_rest, asked_by, IsPrompt, PromptGivenIsTaken}
use Rattle.chi_copies.proofs.Finite.{no, left, right, both, or_left, or_right, by_truth, by_false, turned, flip, out_held, out_image}
use Rattle.chi_copies.proofs.Rows.{same_held_is}
use Rattle.chi_copies.proofs.Leads.{all_by}
use Rattle.chi_copies.proofs.Sets.{each_below}
use Rattle.chi_copies.proofs.Put.{unlike, differ}
use Rattle.chi_copies.proofs.PromptSteps.{in_rest}
use Rattle.chi_copies.proofs.PromptGiven.{follow_or, or_second, copy_given, rests, got_at, other_at}

-- WHAT IS TAKEN AT THE HOME IS TAKEN OF A LOG AS SENT

due_back : (d : Due) (g : Grant) (q : Option Snoop) → is_due g (due_then d) q ≡ true → is_due g d q ≡ true
due_back Nothing g q e = e
due_back (Completion kind) g q e = e
due_back (Resending kind) g q e = e
due_back (SureCompletion kind) g q e = e
due_back (WriteData kind) RetryAck q e = no e
due_back (WriteData kind) (Snp snoop) q e = e
due_back (WriteData kind) (CompData form) q e = no e
due_back (WriteData kind) CompUC q e = no e
due_back (WriteData kind) CompSC q e = no e
due_back (WriteData kind) CompI q e = no e
due_back (WriteData kind) CompDBIDResp q e = no e
due_back Acknowledgement RetryAck q e = no e
due_back Acknowledgement (Snp snoop) q e = e
due_back Acknowledgement (CompData form) q e = no e
due_back Acknowledgement CompUC q e = no e
due_back Acknowledgement CompSC q e = no e
due_back Acknowledgement CompI q e = no e
due_back Acknowledgement CompDBIDResp q e = no e

same_alone : (d : Due) (g : Grant) → needs_alone g (due_then d) ≡ needs_alone g d
same_alone Nothing g = refl
same_alone (Completion kind) g = refl
same_alone (Resending kind) g = refl
same_alone (SureCompletion kind) g = refl
same_alone (WriteData kind) RetryAck = refl
same_alone (WriteData kind) (Snp snoop) = refl
same_alone (WriteData kind) (CompData form) = refl
same_alone (WriteData kind) CompUC = refl
same_alone (WriteData kind) CompSC = refl
same_alone (WriteData kind) CompI = refl
same_alone (WriteData kind) CompDBIDResp = refl
same_alone Acknowledgement RetryAck = refl
same_alone Acknowledgement (Snp snoop) = refl
same_alone Acknowledgement (CompData form) = refl
same_alone Acknowledgement CompUC = refl
same_alone Acknowledgement CompSC = refl
same_alone Acknowledgement CompI = refl
same_alone Acknowledgement CompDBIDResp = refl

same_overwrites : (d : Due) → overwrites (due_then d) ≡ overwrites d
same_overwrites Nothing = refl
same_overwrites (Completion kind) = refl
same_overwrites (Resending kind) = refl
same_overwrites (SureCompletion kind) = refl
same_overwrites (WriteData kind) = refl
same_overwrites Acknowledgement = refl

not_busy : (d : Due) (q : Option Snoop) → not (nat_lt 0 (count (is_acknowledging d))) ≡ true → not (awaits_data (asked_by d q)) ≡ true → not (is_busy d) ≡ true
not_busy Nothing q a e = refl
not_busy (Completion kind) q a e = refl
not_busy (Resending kind) q a e = refl
not_busy (SureCompletion kind) q a e = refl
not_busy (WriteData kind) q a e = no e
not_busy Acknowledgement q a e = no a

not_less : (a b : Bool) → (b ≡ true → a ≡ true) → not a ≡ true → not b ≡ true
not_less a true f e = no (sym (turned a e) ∙ f refl)
not_less a false f e = refl

or_less : (a b c : Bool) → (b ≡ true → c ≡ true) → (a || b) ≡ true → (a || c) ≡ true
or_less true b c f e = refl
or_less false b c f e = f e

not_both : (s l f : Bool) → not (s && f) ≡ true → not ((s && l) && f) ≡ true
not_both false l f e = refl
not_both true false f e = refl
not_both true true f e = e

not_both_back : (s l f : Bool) → not (f && s) ≡ true → not (f && (s && l)) ≡ true
not_both_back s l false e = refl
not_both_back false l true e = refl
not_both_back true l true e = no e

goes_beside : (h k : Held) → goes_with (at_rest h) (at_rest k) ≡ true → beside h k ≡ true
goes_beside h k e = let w = right (compatible h.copy k.copy) _ e in both (compatible h.copy k.copy) _ (left (compatible h.copy k.copy) _ e)
    (both (not (is_lost h && is_fresh k)) _ (not_both h.stored (not (holds_data h.copy)) (is_fresh k) (left (not (h.stored && is_fresh k)) _ w))
    (not_both_back k.stored (not (holds_data k.copy)) (is_fresh h) (right (not (h.stored && is_fresh k)) _ w)))

-- no copy is left where the home's own words become the value
settled_beside : (g : Grant) (d : Due) (h k : Held) → settles g d ≡ true → beside (granted g d h) k ≡ true
settled_beside CompI d h k e = subst (λ (b : Bool). beside (record { copy = if b then Invalid else h.copy; cancelled = h.cancelled; stored = h.stored && not b }) k ≡ true) (sym e)
    (subst (λ (b : Bool). beside (record { copy = Invalid; cancelled = h.cancelled; stored = b }) k ≡ true) (sym (and_none h.stored)) refl)
  where
    and_none : (b : Bool) → (b && false) ≡ false
    and_none true = refl
    and_none false = refl
settled_beside RetryAck d h k e = no e
settled_beside (Snp snoop) d h k e = no e
settled_beside (CompData form) d h k e = no e
settled_beside CompUC d h k e = no e
settled_beside CompSC d h k e = no e
settled_beside CompDBIDResp d h k e = no e

module _ (o : Observed) (r : Received) (g : HomeFlit) (sound : Sound o) (low : g.agent.0 < 32) (p : IsPrompt o r) (take : takes_given r g ≡ true) (own : any_of (o.may g.agent.0) (shows g.grant) ≡ true → fits_home o.home g.shown ≡ true) where
  abbrev n : ℕ
  n = g.agent.0

  abbrev t : Grant
  t = g.grant

  abbrev d : Due
  d = o.public.due n

  may_heard : home_may (heard r) g ≡ true
  may_heard = left (home_may (heard r) g) _ take

  duly : is_due t d (o.public.snooped n) ≡ true
  duly = due_back d t (o.public.snooped n) (subst (λ e. is_due t e (o.public.snooped n) ≡ true) (p.known.due n) (subst (λ q. is_due t (r.due n) q ≡ true) (p.known.snooped n) (left (is_due t (r.due n) (snoop_of (r.asked n))) _ may_heard)))

  dutiful : (not (needs_duty t) || o.public.duty) ≡ true
  dutiful = subst (λ b. (not (needs_duty t) || b) ≡ true) p.known.duty (left (not (needs_duty t) || r.duty) _ (right (is_due t (r.due n) (snoop_of (r.asked n))) _ may_heard))

  quiet_at_all : is_quiet r ≡ true → all_below 32 (λ m. not (is_busy (o.public.due m))) ≡ true
  quiet_at_all y = all_by 32 (λ m. not (is_busy (o.public.due m))) (λ m l. let w = each_below 32 (λ n. not (nat_lt 0 (r.acks n)) && (not (nat_lt 0 (r.overtaken n)) && not (awaits_data (r.asked n)))) y m l in
      not_busy (o.public.due m) (o.public.snooped m) (subst (λ k. not (nat_lt 0 k) ≡ true) (p.known.acks m) (left (not (nat_lt 0 (r.acks m))) _ w))
      (subst (λ a. not (awaits_data a) ≡ true) (p.known.asked m) (right (not (nat_lt 0 (r.overtaken m))) _ (right (not (nat_lt 0 (r.acks m))) _ w))))

  overwritten : is_overwritten (heard r) n ≡ true → is_overwritten o.public n ≡ true
  overwritten = not_less (all_below 32 (λ m. m == n || not (overwrites (r.due m)))) (all_below 32 (λ m. m == n || not (overwrites (o.public.due m))))
      (λ e. all_by 32 (λ m. m == n || not (overwrites (r.due m))) (λ m l. subst (λ b. (m == n || not b) ≡ true) (sym (ap overwrites (p.known.due m) ∙ same_overwrites (o.public.due m))) (each_below 32 (λ m. m == n || not (overwrites (o.public.due m))) e m l)))

  may : home_may o.public g ≡ true
  may = let w = right (not (needs_duty t) || r.duty) _ (right (is_due t (r.due n) (snoop_of (r.asked n))) _ may_heard) in
      both (is_due t d (o.public.snooped n)) _ duly (both (not (needs_duty t) || o.public.duty) _ dutiful
      (both (not (needs_quiet t) || all_below 32 (λ m. not (is_busy (o.public.due m)))) _ (or_less (not (needs_quiet t)) (is_quiet r) _ quiet_at_all (left (not (needs_quiet t) || is_quiet r) _ (right (home_may (heard r) g) _ take)))
      (or_less (not (needs_overwriter t)) (is_overwritten (heard r) n) _ overwritten (right (not (needs_quiet t) || all_below 32 (λ m. not (is_busy (r.due m)))) _ w))))

  behind_quiet : ((not (member_any (r.may n) (λ m. shows t m.held)) || fits_home r.home g.shown) && (not (member_any (r.may n) (λ m. fills t m.held && m.held.stored))
      && (is_left_alone r g && all_below 32 (λ m. m == n || all_with (member_got r g) (others r g m))))) ≡ true
  behind_quiet = right (not (needs_quiet t) || is_quiet r) _ (right (home_may (heard r) g) _ take)

  behind_words : (not (member_any (r.may n) (λ m. fills t m.held && m.held.stored)) && (is_left_alone r g && all_below 32 (λ m. m == n || all_with (member_got r g) (others r g m)))) ≡ true
  behind_words = right (not (member_any (r.may n) (λ m. shows t m.held)) || fits_home r.home g.shown) _ behind_quiet

  behind_fills : (is_left_alone r g && all_below 32 (λ m. m == n || all_with (member_got r g) (others r g m))) ≡ true
  behind_fills = right (not (member_any (r.may n) (λ m. fills t m.held && m.held.stored))) _ behind_words

  words_fit : (not (any_of (o.may n) (shows t)) || fits_home o.home g.shown) ≡ true
  words_fit = by_truth (any_of (o.may n) (shows t)) (λ e. or_right (not (any_of (o.may n) (shows t))) _ (own e)) (λ e. or_left (not (any_of (o.may n) (shows t))) _ (flip _ e))

  none_filled : not (any_of (o.may n) (λ h. fills t h && h.stored)) ≡ true
  none_filled = not_less (member_any (r.may n) (λ m. fills t m.held && m.held.stored)) (any_of (o.may n) (λ h. fills t h && h.stored))
      (λ e. let x = out_held (λ h. o.may n h && (fills t h && h.stored)) e in in_rest (λ m. r.may n m && (fills t m.held && m.held.stored)) x.0
      (both (r.may n (at_rest x.0)) _ (rests o r g sound low p n low x.0 (left (o.may n x.0) _ x.1)) (right (o.may n x.0) _ x.1)))
      (left (not (member_any (r.may n) (λ m. fills t m.held && m.held.stored))) _ behind_words)

  -- two copies go with each other
  pair_of : (m : ℕ) → m ≢ n → m < 32 → (h k : Held) → o.may n h ≡ true → o.may m k ≡ true → beside (granted t d h) (others_given g o.public k) ≡ true
  pair_of m c l h k e f = by_truth (settles t d) (settled_beside t d h (others_given g o.public k)) (λ s. goes_beside (granted t d h) (others_given g o.public k)
      (by_truth (goes_with (at_rest (granted t d h)) (at_rest (others_given g o.public k))) (λ w. w) (λ w. no (sym (turned _ all_go) ∙
      in_rest (λ i. member_got r g i && member_any (others r g m) (λ j. not (goes_with i j))) (granted t d h) (both (member_got r g (at_rest (granted t d h))) _ (got_at o r g sound low p h e)
      (in_rest (λ j. others r g m j && not (goes_with (at_rest (granted t d h)) j)) (others_given g o.public k) (both (others r g m (at_rest (others_given g o.public k))) _ (other_at o r g sound low p m l k f (λ y. no (sym s ∙ y)))
      (flip _ w))))))))
    where
      all_go : all_with (member_got r g) (others r g m) ≡ true
      all_go = or_second (m == n) _ (unlike m n c) (each_below 32 (λ m. m == n || all_with (member_got r g) (others r g m)) (right (is_left_alone r g) _ behind_fills) m l)

  all_pairs : (m : ℕ) → m ≢ n → m < 32 → all_beside (given_got o g) (given_of g o.public (o.may m)) ≡ true
  all_pairs m c l = flip _ (by_false (any_held (λ h. given_got o g h && any_held (λ k. given_of g o.public (o.may m) k && not (beside h k)))) (λ e.
      let x = out_held (λ h. given_got o g h && any_held (λ k. given_of g o.public (o.may m) k && not (beside h k))) e in
      let y = out_held (λ k. given_of g o.public (o.may m) k && not (beside x.0 k)) (right (given_got o g x.0) _ x.1) in
      let u = out_image (λ h k. same_held (granted t d h) k) (o.may n) x.0 (left (given_got o g x.0) _ x.1) in
      let v = out_image (λ h k. same_held (others_given g o.public h) k) (o.may m) y.0 (left (given_of g o.public (o.may m) y.0) _ y.1) in
      sym (turned (beside x.0 y.0) (right (given_of g o.public (o.may m) y.0) _ y.1))
      ∙ subst (λ h. beside h y.0 ≡ true) (same_held_is (granted t d u.held) x.0 u.leads) (subst (λ k. beside (granted t d u.held) k ≡ true) (same_held_is (others_given g o.public v.held) y.0 v.leads) (pair_of m c l u.held v.held u.has v.has))))

  alone_at : (m : ℕ) → m ≢ n → m < 32 → needs_alone t d ≡ true → not (any_of (given_of g o.public (o.may m)) (λ k. not (same k.copy Invalid))) ≡ true
  alone_at m c l e = not_less (member_any (r.may m) (λ k. not (same k.held.copy Invalid))) (any_of (given_of g o.public (o.may m)) (λ k. not (same k.copy Invalid)))
      (λ w. let x = out_held (λ k. given_of g o.public (o.may m) k && not (same k.copy Invalid)) w in
      let u = out_image (λ h k. same_held (others_given g o.public h) k) (o.may m) x.0 (left (given_of g o.public (o.may m) x.0) _ x.1) in
      in_rest (λ k. r.may m k && not (same k.held.copy Invalid)) u.held (both (r.may m (at_rest u.held)) _ (rests o r g sound low p m l u.held u.has)
      (subst (λ s. not (same s Invalid) ≡ true) (copy_given (renews t d) u.held) (subst (λ h. not (same h.copy Invalid) ≡ true) (sym (same_held_is (others_given g o.public u.held) x.0 u.leads)) (right (given_of g o.public (o.may m) x.0) _ x.1)))))
      (or_second (m == n) _ (unlike m n c) (each_below 32 (λ m. m == n || not (member_any (r.may m) (λ k. not (same k.held.copy Invalid)))) (left (all_below 32 (λ m. m == n || not (member_any (r.may m) (λ k. not (same k.held.copy Invalid))))) _
      (follow_or (needs_alone t (r.due n)) _ (left (is_left_alone r g) _ behind_fills) (ap (needs_alone t) (p.known.due n) ∙ same_alone d t ∙ e))) m l))

  all_go_well : goes o g ≡ true
  all_go_well = all_by 32 (λ m. m == n || is_beside (given_got o g) (needs_alone t d) (given_of g o.public (o.may m))) (λ m l. by m l (m == n) refl)
    where
      by : (m : ℕ) → m < 32 → (b : Bool) → (m == n) ≡ b → (m == n || is_beside (given_got o g) (needs_alone t d) (given_of g o.public (o.may m))) ≡ true
      by m l true e = or_left (m == n) _ e
      by m l false e = or_right (m == n) _ (both (all_beside (given_got o g) (given_of g o.public (o.may m))) _ (all_pairs m (differ m n e) l)
          (by_truth (needs_alone t d) (λ a. or_right (not (needs_alone t d)) _ (alone_at m (differ m n e) l a)) (λ a. or_left (not (needs_alone t d)) _ (flip _ a))))

  given_taken : takes_home o g ≡ true
  given_taken = both (home_may o.public g) _ may (both (not (any_of (o.may n) (shows t)) || fits_home o.home g.shown) _ words_fit (both (not (any_of (o.may n) (λ h. fills t h && h.stored))) _ none_filled all_go_well))

pub given_safe : PromptGivenIsTaken
given_safe o r g sound low p take own = given_taken o r g sound low p take own
