-- What the rows of the relation have in common: tried at each place.
use Rattle.std.proofs.Common.{rules, arith, ◌≡◌, refl, sym, ap, subst}
use Rattle.std.specs.Prelude.{Bool, true, false, ◌&&◌, ◌||◌, not, Option, Some, None}
use Rattle.chi_observer.specs.declared.flits.Word.{Word}
use Rattle.chi_observer.specs.declared.flits.Act.{Act}
use Rattle.chi_observer.specs.declared.flits.Act.TheVariants.{Request, Resend, SnpResp, CompAck, CopyBackWrData, NonCopyBackWrData, Load, Store}
use Rattle.chi_observer.specs.Copies.{Copy, holds_data, is_unique, is_dirty, same, compatible}
use Rattle.chi_observer.specs.Rules.{has_data, writes, tells_words, looks, is_request}
use Rattle.chi_copies.specs.Copies.{Held, shown_of, is_fresh, is_newer, beside, alike, same_held, leaves}
use Rattle.chi_copies.specs.ArrivingLines.{gives_away}
use Rattle.chi_copies.specs.Rules.{is_without_news, stored_to, row, loses}
use Rattle.chi_copies.specs.Worlds.{others_then}
use Rattle.chi_copies.specs.Observed.{is_storable, is_shown_dirty}
use Rattle.chi_copies.proofs.Finite.{no, left, right, both, implies, follow, all_bools, each_bool, all_forms, each_form, all_kinds, each_kind, all_answers, each_answer, all_helds, each_held}

abbrev pub same_truth : Bool → Bool → Bool
same_truth true b = b
same_truth false b = not b

pub same_truth_is : (a b : Bool) → same_truth a b ≡ true → a ≡ b
same_truth_is true b h = sym h
same_truth_is false true h = no h
same_truth_is false false h = refl

pub truth_same : (a b : Bool) → a ≡ b → same_truth a b ≡ true
truth_same true b h = sym h
truth_same false b h = subst (λ x. not x ≡ true) h refl

pub alike_is : (a b : Bool) → alike a b ≡ true → a ≡ b
alike_is true b h = sym h
alike_is false true h = no h
alike_is false false h = refl

pub alike_self : (a : Bool) → alike a a ≡ true
alike_self true = refl
alike_self false = refl

pub same_is : (a b : Copy) → same a b ≡ true → a ≡ b
same_is a b h = search (rules, arith)

pub same_self : (a : Copy) → same a a ≡ true
same_self a = search (rules, arith)

pub same_held_is : (h k : Held) → same_held h k ≡ true → h ≡ k
same_held_is h k e = λ i. record {
  copy = same_is h.copy k.copy (left _ _ e) i;
  cancelled = alike_is h.cancelled k.cancelled (left _ _ (right (same h.copy k.copy) _ e)) i;
  stored = alike_is h.stored k.stored (right (alike h.cancelled k.cancelled) _ (right (same h.copy k.copy) _ e)) i;
}

pub same_held_self : (h : Held) → same_held h h ≡ true
same_held_self h = both (same h.copy h.copy) _ (same_self h.copy) (both (alike h.cancelled h.cancelled) _ (alike_self h.cancelled) (alike_self h.stored))

pub is_same : (h k : Held) → h ≡ k → same_held h k ≡ true
is_same h k e = subst (λ k. same_held h k ≡ true) e (same_held_self h)

pub some_is : (h k : Held) → Some h ≡ Some k → h ≡ k
some_is h k e = search (rules, arith)

pub none_some : (k : Held) → None ≡ Some k → ⊥
none_some k e = search (rules, arith)

pub leaves_is : (o : Option Held) (k : Held) → leaves o k ≡ true → o ≡ Some k
leaves_is None k e = no e
leaves_is (Some h) k e = ap (λ (x : Held). Some x) (same_held_is h k e)

pub is_leaves : (o : Option Held) (k : Held) → o ≡ Some k → leaves o k ≡ true
is_leaves o k e = subst (λ x. leaves x k ≡ true) (sym e) (same_held_self k)

-- what is tried of the copy that is left, if there is one
abbrev pub on_some : Option Held → (Held → Bool) → Bool
on_some None f = true
on_some (Some k) f = f k

pub of_some : (o : Option Held) (k : Held) (f : Held → Bool) → on_some o f ≡ true → o ≡ Some k → f k ≡ true
of_some o k f h e = subst (λ (x : Option Held). on_some x f ≡ true) e h

-- flits, of which the word of a load or a store is of no matter
abbrev pub all_acts : (Act → Bool) → Word → Bool
all_acts f word = all_kinds (λ k. f (Request k)) && (all_kinds (λ k. f (Resend k)) && (all_answers (λ a. f (SnpResp a)) && (f CompAck && (all_forms (λ s. f (CopyBackWrData s)) && (f NonCopyBackWrData && (f (Load word) && f (Store word)))))))

abbrev some_word : Word
some_word = record { place = record { 0 = 0 }; value = 0 }

module _ (f : Act → Bool) (h : (word : Word) → all_acts f word ≡ true) where
  after_requests : (word : Word) → (all_kinds (λ k. f (Resend k)) && (all_answers (λ a. f (SnpResp a)) && (f CompAck && (all_forms (λ s. f (CopyBackWrData s)) && (f NonCopyBackWrData && (f (Load word) && f (Store word))))))) ≡ true
  after_requests word = right (all_kinds (λ k. f (Request k))) _ (h word)

  after_resends : (word : Word) → (all_answers (λ a. f (SnpResp a)) && (f CompAck && (all_forms (λ s. f (CopyBackWrData s)) && (f NonCopyBackWrData && (f (Load word) && f (Store word)))))) ≡ true
  after_resends word = right (all_kinds (λ k. f (Resend k))) _ (after_requests word)

  after_answers : (word : Word) → (f CompAck && (all_forms (λ s. f (CopyBackWrData s)) && (f NonCopyBackWrData && (f (Load word) && f (Store word))))) ≡ true
  after_answers word = right (all_answers (λ a. f (SnpResp a))) _ (after_resends word)

  after_acks : (word : Word) → (all_forms (λ s. f (CopyBackWrData s)) && (f NonCopyBackWrData && (f (Load word) && f (Store word)))) ≡ true
  after_acks word = right (f CompAck) _ (after_answers word)

  after_forms : (word : Word) → (f NonCopyBackWrData && (f (Load word) && f (Store word))) ≡ true
  after_forms word = right (all_forms (λ s. f (CopyBackWrData s))) _ (after_acks word)

  pub each_act : (a : Act) → f a ≡ true
  each_act (Request k) = each_kind (λ k. f (Request k)) (left (all_kinds (λ k. f (Request k))) _ (h some_word)) k
  each_act (Resend k) = each_kind (λ k. f (Resend k)) (left (all_kinds (λ k. f (Resend k))) _ (after_requests some_word)) k
  each_act (SnpResp a) = each_answer (λ a. f (SnpResp a)) (left (all_answers (λ a. f (SnpResp a))) _ (after_resends some_word)) a
  each_act CompAck = left (f CompAck) _ (after_answers some_word)
  each_act (CopyBackWrData s) = each_form (λ s. f (CopyBackWrData s)) (left (all_forms (λ s. f (CopyBackWrData s))) _ (after_acks some_word)) s
  each_act NonCopyBackWrData = left (f NonCopyBackWrData) _ (after_forms some_word)
  each_act (Load word) = left (f (Load word)) _ (right (f NonCopyBackWrData) _ (after_forms word))
  each_act (Store word) = right (f (Load word)) _ (right (f NonCopyBackWrData) _ (after_forms word))

-- ONE COPY
abbrev pub is_sane : Held → Bool
is_sane h = implies h.stored (is_storable h)

-- what goes with a copy goes with what is left of it
abbrev pub weaker : Act → Held → Held → Bool
weaker a h k = all_helds (λ t. implies (is_sane t && beside h t) (beside k (others_then a t)))

abbrev pub is_store_row : Act → Bool → Bool
is_store_row (Load word) own = not own
is_store_row (Store word) own = true
is_store_row other own = false

-- an answer, or write data
abbrev pub is_row_without_news : Act → Bool
is_row_without_news (Request kind) = is_without_news kind
is_row_without_news other = false

abbrev pub row_fits : Act → Bool → Bool → Held → Held → Bool
row_fits a own x h k = is_sane k
    && (implies (holds_data k.copy && not (is_store_row a own)) (holds_data h.copy)
    && (implies (is_fresh k && not (tells_words a)) (is_fresh h)
    && (implies (is_newer k && not (is_store_row a own)) (is_newer h)
    && (implies (has_data a) (holds_data h.copy && not (loses a x h))
    && (implies (tells_words a) (not k.stored)
    && (implies (is_store_row a own) (is_unique h.copy && same_held (stored_to h) k)
    && (implies (is_row_without_news a) (not (is_newer k))
    && (implies (loses a x h) (k.stored && not (holds_data k.copy))
    && (implies (not (tells_words a) && not (is_store_row a own)) (same_truth k.stored h.stored)
    && (implies (looks a) (holds_data h.copy)
    && (implies (gives_away a) (not (is_newer k))
    && (implies (is_request a) (not k.cancelled)
    && (implies (not (is_request a)) (same_truth k.cancelled h.cancelled)
    && implies (is_newer h && (not (tells_words a) && not (loses a x h))) (is_newer k))))))))))))))

row_table : Act → Bool
row_table a = all_bools (λ own. all_bools (λ x. all_bools (λ up. all_helds (λ h. implies (is_sane h) (on_some (row a own x up h) (row_fits a own x h))))))

row_holds : (word : Word) → all_acts row_table word ≡ true
unfolding row_table
row_holds word = refl

-- each flit of a cache, from each copy
pub row_each : (a : Act) (own x up : Bool) (h k : Held) → is_sane h ≡ true → row a own x up h ≡ Some k → row_fits a own x h k ≡ true
unfolding row_table
row_each a own x up h k sane e = of_some (row a own x up h) k (row_fits a own x h) (follow (is_sane h) _
    (each_held (λ h. implies (is_sane h) (on_some (row a own x up h) (row_fits a own x h)))
    (each_bool (λ up. all_helds (λ h. implies (is_sane h) (on_some (row a own x up h) (row_fits a own x h))))
    (each_bool (λ x. all_bools (λ up. all_helds (λ h. implies (is_sane h) (on_some (row a own x up h) (row_fits a own x h)))))
    (each_bool (λ own. all_bools (λ x. all_bools (λ up. all_helds (λ h. implies (is_sane h) (on_some (row a own x up h) (row_fits a own x h))))))
    (each_act row_table row_holds a) own) x) up) h) sane) e

weaker_table : Act → Bool
weaker_table a = all_bools (λ own. all_bools (λ x. all_bools (λ up. all_helds (λ h. implies (is_sane h) (on_some (row a own x up h) (weaker a h))))))

weaker_holds : (word : Word) → all_acts weaker_table word ≡ true
unfolding weaker_table
weaker_holds word = refl

pub weaker_each : (a : Act) (own x up : Bool) (h k : Held) → is_sane h ≡ true → row a own x up h ≡ Some k → weaker a h k ≡ true
unfolding weaker_table
weaker_each a own x up h k sane e = of_some (row a own x up h) k (weaker a h) (follow (is_sane h) _
    (each_held (λ h. implies (is_sane h) (on_some (row a own x up h) (weaker a h)))
    (each_bool (λ up. all_helds (λ h. implies (is_sane h) (on_some (row a own x up h) (weaker a h))))
    (each_bool (λ x. all_bools (λ up. all_helds (λ h. implies (is_sane h) (on_some (row a own x up h) (weaker a h)))))
    (each_bool (λ own. all_bools (λ x. all_bools (λ up. all_helds (λ h. implies (is_sane h) (on_some (row a own x up h) (weaker a h))))))
    (each_act weaker_table weaker_holds a) own) x) up) h) sane) e

-- beside a copy that tells words none is newer; and beside one that makes the value or loses it there is none with data
abbrev pub quiet : Act → Bool → Bool → Held → Held → Bool
quiet a own x h k = all_helds (λ t. implies (is_sane t && beside h t) (implies (tells_words a) (not (is_newer t) && not (is_unique t.copy)) && implies (is_store_row a own || (loses a x h || writes a)) (not (holds_data t.copy))))

quiet_table : Act → Bool
quiet_table a = all_bools (λ own. all_bools (λ x. all_bools (λ up. all_helds (λ h. implies (is_sane h) (on_some (row a own x up h) (quiet a own x h))))))

quiet_holds : (word : Word) → all_acts quiet_table word ≡ true
unfolding quiet_table
quiet_holds word = refl

pub quiet_each : (a : Act) (own x up : Bool) (h k : Held) → is_sane h ≡ true → row a own x up h ≡ Some k → quiet a own x h k ≡ true
unfolding quiet_table
quiet_each a own x up h k sane e = of_some (row a own x up h) k (quiet a own x h) (follow (is_sane h) _
    (each_held (λ h. implies (is_sane h) (on_some (row a own x up h) (quiet a own x h)))
    (each_bool (λ up. all_helds (λ h. implies (is_sane h) (on_some (row a own x up h) (quiet a own x h))))
    (each_bool (λ x. all_bools (λ up. all_helds (λ h. implies (is_sane h) (on_some (row a own x up h) (quiet a own x h)))))
    (each_bool (λ own. all_bools (λ x. all_bools (λ up. all_helds (λ h. implies (is_sane h) (on_some (row a own x up h) (quiet a own x h))))))
    (each_act quiet_table quiet_holds a) own) x) up) h) sane) e

-- TWO COPIES OF ONE SET
-- that may have sent one flit
abbrev pub pair_fits : Act → Bool → Bool → Held → Held → Held → Held → Bool
pair_fits a own own' h k h' k' = implies (implies (is_shown_dirty h) (is_dirty h'.copy)) (implies (is_shown_dirty k) (is_dirty k'.copy))
    && implies (own && (own' && implies (holds_data h.copy && holds_data h'.copy) (same_truth h.stored h'.stored))) (implies (holds_data k.copy && holds_data k'.copy) (same_truth k.stored k'.stored))

pair_table : Act → Bool
pair_table a = all_bools (λ own. all_bools (λ own'. all_bools (λ x. all_bools (λ up. all_helds (λ h. implies (is_sane h) (on_some (row a own x up h) (λ k.
    all_helds (λ h'. implies (is_sane h') (on_some (row a own' x up h') (λ k'. pair_fits a own own' h k h' k'))))))))))

pair_holds : (word : Word) → all_acts pair_table word ≡ true
unfolding pair_table
pair_holds word = refl

pub pair_each : (a : Act) (own own' x up : Bool) (h k h' k' : Held) → is_sane h ≡ true → is_sane h' ≡ true → row a own x up h ≡ Some k → row a own' x up h' ≡ Some k' → pair_fits a own own' h k h' k' ≡ true
unfolding pair_table
pair_each a own own' x up h k h' k' sane sane' e e' =
    of_some (row a own' x up h') k' (λ k'. pair_fits a own own' h k h' k') (follow (is_sane h') _
    (each_held (λ h'. implies (is_sane h') (on_some (row a own' x up h') (λ k'. pair_fits a own own' h k h' k')))
    (of_some (row a own x up h) k (λ k. all_helds (λ h'. implies (is_sane h') (on_some (row a own' x up h') (λ k'. pair_fits a own own' h k h' k')))) (follow (is_sane h) _
    (each_held (λ h. implies (is_sane h) (on_some (row a own x up h) (λ k. all_helds (λ h'. implies (is_sane h') (on_some (row a own' x up h') (λ k'. pair_fits a own own' h k h' k'))))))
    (each_bool (λ up. all_helds (λ h. implies (is_sane h) (on_some (row a own x up h) (λ k. all_helds (λ h'. implies (is_sane h') (on_some (row a own' x up h') (λ k'. pair_fits a own own' h k h' k')))))))
    (each_bool (λ x. all_bools (λ up. all_helds (λ h. implies (is_sane h) (on_some (row a own x up h) (λ k. all_helds (λ h'. implies (is_sane h') (on_some (row a own' x up h') (λ k'. pair_fits a own own' h k h' k'))))))))
    (each_bool (λ own'. all_bools (λ x. all_bools (λ up. all_helds (λ h. implies (is_sane h) (on_some (row a own x up h) (λ k. all_helds (λ h'. implies (is_sane h') (on_some (row a own' x up h') (λ k'. pair_fits a own own' h k h' k')))))))))
    (each_bool (λ own. all_bools (λ own'. all_bools (λ x. all_bools (λ up. all_helds (λ h. implies (is_sane h) (on_some (row a own x up h) (λ k. all_helds (λ h'. implies (is_sane h') (on_some (row a own' x up h') (λ k'. pair_fits a own own' h k h' k'))))))))))
    (each_act pair_table pair_holds a) own) own') x) up) h) sane) e) h') sane') e'

-- PAIRS OF COPIES
abbrev pub beside_fits : Held → Held → Bool
beside_fits h k = implies (beside h k) (beside k h && (compatible h.copy k.copy && (implies (holds_data h.copy && is_sane k) (not (is_newer k) && implies (is_fresh h) (not k.stored))
    && (implies (is_unique h.copy) (not (holds_data k.copy)) && beside (shown_of h) (shown_of k)))))

beside_holds : all_helds (λ h. all_helds (beside_fits h)) ≡ true
beside_holds = refl

pub beside_each : (h k : Held) → beside h k ≡ true → (beside k h && (compatible h.copy k.copy && (implies (holds_data h.copy && is_sane k) (not (is_newer k) && implies (is_fresh h) (not k.stored))
    && (implies (is_unique h.copy) (not (holds_data k.copy)) && beside (shown_of h) (shown_of k))))) ≡ true
beside_each h k = follow (beside h k) _ (each_held (beside_fits h) (each_held (λ h. all_helds (beside_fits h)) beside_holds h) k)

-- what the rows have in common, by name
pub record RowFacts (a : Act) (own x : Bool) (h k : Held) : Type 0 where
  pub sane : is_sane k ≡ true
  pub holds : (holds_data k.copy && not (is_store_row a own)) ≡ true → holds_data h.copy ≡ true
  pub fresh : (is_fresh k && not (tells_words a)) ≡ true → is_fresh h ≡ true
  pub newer : (is_newer k && not (is_store_row a own)) ≡ true → is_newer h ≡ true
  pub has : has_data a ≡ true → (holds_data h.copy && not (loses a x h)) ≡ true
  pub tells : tells_words a ≡ true → not k.stored ≡ true
  pub stored : is_store_row a own ≡ true → (is_unique h.copy && same_held (stored_to h) k) ≡ true
  pub read : is_row_without_news a ≡ true → not (is_newer k) ≡ true
  pub lost : loses a x h ≡ true → (k.stored && not (holds_data k.copy)) ≡ true
  pub marked : (not (tells_words a) && not (is_store_row a own)) ≡ true → k.stored ≡ h.stored
  pub looked : looks a ≡ true → holds_data h.copy ≡ true
  pub given : gives_away a ≡ true → not (is_newer k) ≡ true
  pub asked : is_request a ≡ true → not k.cancelled ≡ true
  pub cancelled : not (is_request a) ≡ true → k.cancelled ≡ h.cancelled
  pub stays : (is_newer h && (not (tells_words a) && not (loses a x h))) ≡ true → is_newer k ≡ true

abbrev pub Two : Bool → Bool → Type 0
Two a b = (a ≡ true) × (b ≡ true)

two : (a b : Bool) → (a && b) ≡ true → Two a b
two a b e = (left a b e, right a b e)

pub row_facts : (a : Act) (own x up : Bool) (h k : Held) → is_sane h ≡ true → row a own x up h ≡ Some k → RowFacts a own x h k
row_facts a own x up h k s e =
    let f1 = two _ _ (row_each a own x up h k s e) in
    let f2 = two _ _ f1.1 in let f3 = two _ _ f2.1 in let f4 = two _ _ f3.1 in let f5 = two _ _ f4.1 in let f6 = two _ _ f5.1 in let f7 = two _ _ f6.1 in
    let f8 = two _ _ f7.1 in let f9 = two _ _ f8.1 in let f10 = two _ _ f9.1 in let f11 = two _ _ f10.1 in let f12 = two _ _ f11.1 in let f13 = two _ _ f12.1 in let f14 = two _ _ f13.1 in
    record {
      sane = f1.0;
      holds = follow _ _ f2.0;
      fresh = follow _ _ f3.0;
      newer = follow _ _ f4.0;
      has = follow _ _ f5.0;
      tells = follow _ _ f6.0;
      stored = follow _ _ f7.0;
      read = follow _ _ f8.0;
      lost = follow _ _ f9.0;
      marked = λ g. same_truth_is _ _ (follow _ _ f10.0 g);
      looked = follow _ _ f11.0;
      given = follow _ _ f12.0;
      asked = follow _ _ f13.0;
      cancelled = λ g. same_truth_is _ _ (follow _ _ f14.0 g);
      stays = follow _ _ f14.1;
    }
