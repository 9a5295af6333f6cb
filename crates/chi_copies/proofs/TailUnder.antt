-- One copy under another: the same one, of whose marks less is known.
use Rattle.std.proofs.Common.{◌≡◌, refl, sym, ap, subst, ◌∙◌}
use Rattle.std.specs.Prelude.{Bool, true, false, ◌&&◌, ◌||◌, not, Option, Some, None, if◌then◌else◌}
use Rattle.chi_observer.specs.declared.flits.Due.{Due}
use Rattle.chi_observer.specs.declared.flits.Due.TheVariants.{Nothing}
use Rattle.chi_observer.specs.declared.flits.Stores.{Stores}
use Rattle.chi_observer.specs.declared.flits.Word.{Word}
use Rattle.chi_observer.specs.declared.flits.Act.{Act}
use Rattle.chi_observer.specs.declared.flits.Grant.{Grant}
use Rattle.chi_observer.specs.Copies.{is_unique, is_clean, same}
use Rattle.chi_observer.specs.Rules.{is_request, is_resending, makes, settles}
use Rattle.chi_copies.specs.Copies.{Held, is_fresh, beside, shown_of, alike}
use Rattle.chi_copies.specs.Rules.{row, freed, stored_to, dropped, slips, granted}
use Rattle.chi_copies.specs.Begun.{is_home_copy, apart}
use Rattle.chi_copies.proofs.Finite.{no, left, right, both, implies, follow, turned, flip, all_bools, each_bool, all_helds, each_held}
use Rattle.chi_copies.proofs.Rows.{is_sane, alike_is, alike_self, same_is, on_some, of_some, all_acts, each_act}
use Rattle.chi_copies.proofs.Means.{slip_free, slip_store, slip_drop}
use Rattle.chi_copies.proofs.Loose.{Slipped, slip_self}
use Rattle.chi_copies.proofs.Loose.Slipped.{Still, Freed, Store, Drop}

-- asked: a request from before may be open, and nobody knows whether it was cancelled
abbrev pub cancelled_so : Bool → Bool → Bool → Bool
cancelled_so true c e = not c
cancelled_so false c e = alike c e

pub record Under (asked : Bool) (h k : Held) : Type 0 where
  pub copy : h.copy ≡ k.copy
  pub cancelled : cancelled_so asked h.cancelled k.cancelled ≡ true
  pub stored : h.stored ≡ true → k.stored ≡ true

pub under_itself : (h : Held) → Under false h h
under_itself h = record { copy = refl; cancelled = alike_self h.cancelled; stored = λ e. e }

pub same_cancel : (h k : Held) → Under false h k → h.cancelled ≡ k.cancelled
same_cancel h k u = alike_is h.cancelled k.cancelled u.cancelled

pub no_cancel : (h k : Held) → Under true h k → h.cancelled ≡ false
no_cancel h k u = turned h.cancelled u.cancelled

alike_false : (c e : Bool) → c ≡ false → e ≡ false → alike c e ≡ true
alike_false true e h g = no (sym h)
alike_false false e h g = flip e g

so_false : (asked c e : Bool) → c ≡ false → e ≡ false → cancelled_so asked c e ≡ true
so_false true c e h g = flip c h
so_false false c e h g = alike_false c e h g

pub now_known : (asked : Bool) (h k : Held) → Under asked h k → h.cancelled ≡ false → k.cancelled ≡ false → Under false h k
now_known asked h k u c e = record { copy = u.copy; cancelled = alike_false h.cancelled k.cancelled c e; stored = u.stored }

-- h with other marks
abbrev other : Held → Bool → Bool → Held
other h c b = record { copy = h.copy; cancelled = c; stored = b }

other_is : (asked : Bool) (h k : Held) → Under asked h k → other k h.cancelled h.stored ≡ h
other_is asked h k u = λ i. record { copy = sym u.copy i; cancelled = h.cancelled; stored = h.stored }

follows : (a b : Bool) → (a ≡ true → b ≡ true) → implies a b ≡ true
follows true b f = f refl
follows false b f = refl

-- A FLIT OF A CACHE
abbrev on_found : Option Held → (Held → Bool) → Bool
on_found None f = false
on_found (Some k) f = f k

found : (o : Option Held) (f : Held → Bool) → on_found o f ≡ true → (k : Held) × (o ≡ Some k) × (f k ≡ true)
found None f e = no e
found (Some k) f e = (k, refl, e)

abbrev row_under : Act → Held → Bool → Held → Held → Bool
row_under a h c k k' = same k'.copy k.copy && (implies k'.stored k.stored && (if is_request a then not k'.cancelled && not k.cancelled else alike k'.cancelled c && alike k.cancelled h.cancelled))

abbrev row_found : Act → Bool → Bool → Bool → Held → Bool → Bool → Bool
row_found a own x up h c b = implies (implies b h.stored) (on_some (row a own x up h) (λ k. on_found (row a own x up (other h c b)) (row_under a h c k)))

under_table : Act → Bool
under_table a = all_bools (λ own. all_bools (λ x. all_bools (λ up. all_helds (λ h. all_bools (λ c. all_bools (λ b. row_found a own x up h c b))))))

under_holds : (word : Word) → all_acts under_table word ≡ true
unfolding under_table
under_holds word = refl

row_each : (a : Act) (own x up : Bool) (h : Held) (c b : Bool) → row_found a own x up h c b ≡ true
unfolding under_table
row_each a own x up h c b = each_bool (λ b. row_found a own x up h c b) (each_bool (λ c. all_bools (λ b. row_found a own x up h c b))
    (each_held (λ h. all_bools (λ c. all_bools (λ b. row_found a own x up h c b)))
    (each_bool (λ up. all_helds (λ h. all_bools (λ c. all_bools (λ b. row_found a own x up h c b))))
    (each_bool (λ x. all_bools (λ up. all_helds (λ h. all_bools (λ c. all_bools (λ b. row_found a own x up h c b)))))
    (each_bool (λ own. all_bools (λ x. all_bools (λ up. all_helds (λ h. all_bools (λ c. all_bools (λ b. row_found a own x up h c b))))))
    (each_act under_table under_holds a) own) x) up) h) c) b

-- what is left of a copy, under what is left of the one above it
pub record LeftUnder (asked : Bool) (o : Option Held) (k : Held) : Type 0 where
  pub held : Held
  pub is : o ≡ Some held
  pub under : Under asked held k

cancel_under : (r asked c' c d e : Bool) → cancelled_so asked c' c ≡ true → (if r then not d && not e else alike d c' && alike e c) ≡ true → cancelled_so asked d e ≡ true
cancel_under true asked c' c d e u h = so_false asked d e (turned d (left (not d) _ h)) (turned e (right (not d) _ h))
cancel_under false asked c' c d e u h = subst (λ d. cancelled_so asked d e ≡ true) (sym (alike_is d c' (left (alike d c') _ h))) (subst (λ e. cancelled_so asked c' e ≡ true) (sym (alike_is e c (right (alike d c') _ h))) u)

left_is : (a : Act) (asked : Bool) (h' h k' k : Held) → Under asked h' h → row_under a h h'.cancelled k k' ≡ true → Under asked k' k
left_is a asked h' h k' k u e =
    let r : (implies k'.stored k.stored && (if is_request a then not k'.cancelled && not k.cancelled else alike k'.cancelled h'.cancelled && alike k.cancelled h.cancelled)) ≡ true = right (same k'.copy k.copy) _ e in
    record {
      copy = same_is k'.copy k.copy (left (same k'.copy k.copy) _ e);
      cancelled = cancel_under (is_request a) asked h'.cancelled h.cancelled k'.cancelled k.cancelled u.cancelled (right (implies k'.stored k.stored) _ r);
      stored = follow k'.stored k.stored (left (implies k'.stored k.stored) _ r);
    }

pub under_row : (a : Act) (own x up asked : Bool) (h' h k : Held) → Under asked h' h → row a own x up h ≡ Some k → LeftUnder asked (row a own x up h') k
under_row a own x up asked h' h k u e =
    let y : row_found a own x up h h'.cancelled h'.stored ≡ true = row_each a own x up h h'.cancelled h'.stored in
    let w = of_some (row a own x up h) k (λ k. on_found (row a own x up (other h h'.cancelled h'.stored)) (row_under a h h'.cancelled k)) (follow (implies h'.stored h.stored) _ y (follows h'.stored h.stored u.stored)) e in
    let f = found (row a own x up (other h h'.cancelled h'.stored)) (row_under a h h'.cancelled k) w in
    record { held = f.0; is = subst (λ t. row a own x up t ≡ Some f.0) (other_is asked h' h u) f.1; under = left_is a asked h' h f.0 k u f.2 }

-- and back
abbrev row_back : Act → Bool → Bool → Bool → Held → Bool → Bool → Bool
row_back a own x up h c b = implies (implies b h.stored) (on_some (row a own x up (other h c b)) (λ k'. on_found (row a own x up h) (λ k. row_under a h c k k')))

back_table : Act → Bool
back_table a = all_bools (λ own. all_bools (λ x. all_bools (λ up. all_helds (λ h. all_bools (λ c. all_bools (λ b. row_back a own x up h c b))))))

back_holds : (word : Word) → all_acts back_table word ≡ true
unfolding back_table
back_holds word = refl

back_each : (a : Act) (own x up : Bool) (h : Held) (c b : Bool) → row_back a own x up h c b ≡ true
unfolding back_table
back_each a own x up h c b = each_bool (λ b. row_back a own x up h c b) (each_bool (λ c. all_bools (λ b. row_back a own x up h c b))
    (each_held (λ h. all_bools (λ c. all_bools (λ b. row_back a own x up h c b)))
    (each_bool (λ up. all_helds (λ h. all_bools (λ c. all_bools (λ b. row_back a own x up h c b))))
    (each_bool (λ x. all_bools (λ up. all_helds (λ h. all_bools (λ c. all_bools (λ b. row_back a own x up h c b)))))
    (each_bool (λ own. all_bools (λ x. all_bools (λ up. all_helds (λ h. all_bools (λ c. all_bools (λ b. row_back a own x up h c b))))))
    (each_act back_table back_holds a) own) x) up) h) c) b

pub record LeftOver (asked : Bool) (o : Option Held) (k : Held) : Type 0 where
  pub held : Held
  pub is : o ≡ Some held
  pub under : Under asked k held

pub over_row : (a : Act) (own x up asked : Bool) (h' h k' : Held) → Under asked h' h → row a own x up h' ≡ Some k' → LeftOver asked (row a own x up h) k'
over_row a own x up asked h' h k' u e =
    let y : row_back a own x up h h'.cancelled h'.stored ≡ true = back_each a own x up h h'.cancelled h'.stored in
    let w = of_some (row a own x up (other h h'.cancelled h'.stored)) k' (λ k'. on_found (row a own x up h) (λ k. row_under a h h'.cancelled k k')) (follow (implies h'.stored h.stored) _ y (follows h'.stored h.stored u.stored))
    (subst (λ t. row a own x up t ≡ Some k') (sym (other_is asked h' h u)) e) in
    let f = found (row a own x up h) (λ k. row_under a h h'.cancelled k k') w in
    record { held = f.0; is = f.1; under = left_is a asked h' h k' f.0 u f.2 }

-- HIDDEN STEPS
pub record SlipsUnder (asked : Bool) (z : Stores) (d : Due) (s k : Held) : Type 0 where
  pub held : Held
  pub leads : slips z d s held ≡ true
  pub under : Under asked held k

alike_or : (c e r : Bool) → alike c e ≡ true → alike (c || r) (e || r) ≡ true
alike_or true true r h = refl
alike_or true false r h = no h
alike_or false true r h = no h
alike_or false false r h = alike_self r

under_freed : (d : Due) (h k : Held) → Under false h k → Under false (freed d h) (freed d k)
under_freed d h k u = record { copy = u.copy; cancelled = alike_or h.cancelled k.cancelled (is_resending d) u.cancelled; stored = u.stored }

under_stored : (asked : Bool) (h k : Held) → Under asked h k → Under asked (stored_to h) (stored_to k)
under_stored asked h k u = record { copy = refl; cancelled = u.cancelled; stored = λ _. refl }

under_dropped : (asked : Bool) (h k : Held) → Under asked h k → Under asked (dropped h) (dropped k)
under_dropped asked h k u = record { copy = refl; cancelled = u.cancelled; stored = u.stored }

pub slips_under : (z : Stores) (d : Due) (s t k : Held) → Under false s t → Slipped z d t k → SlipsUnder false z d s k
slips_under z d s t k u (Still e) = record { held = s; leads = slip_self z d s; under = subst (λ k. Under false s k) e u }
slips_under z d s t k u (Freed m e) = record { held = freed d s; leads = slip_free z d s m; under = subst (λ k. Under false (freed d s) k) e (under_freed d s t u) }
slips_under z d s t k u (Store m a q e) = record {
  held = stored_to (freed d s);
  leads = slip_store z d s m a (ap is_unique u.copy ∙ q);
  under = subst (λ k. Under false (stored_to (freed d s)) k) e (under_stored false (freed d s) (freed d t) (under_freed d s t u));
}
slips_under z d s t k u (Drop m c e) = record {
  held = dropped (freed d s);
  leads = slip_drop z d s m (ap is_clean u.copy ∙ c);
  under = subst (λ k. Under false (dropped (freed d s)) k) e (under_dropped false (freed d s) (freed d t) (under_freed d s t u));
}

-- nothing is known to be pending of the one below
not_or : (c : Bool) → not c ≡ true → not (c || false) ≡ true
not_or true h = h
not_or false h = refl

under_asked : (d : Due) (h k : Held) → Under true h k → Under true (freed Nothing h) (freed d k)
under_asked d h k u = record { copy = u.copy; cancelled = not_or h.cancelled u.cancelled; stored = u.stored }

pub slips_asked : (z : Stores) (d : Due) (s t k : Held) → Under true s t → Slipped z d t k → SlipsUnder true z Nothing s k
slips_asked z d s t k u (Still e) = record { held = s; leads = slip_self z Nothing s; under = subst (λ k. Under true s k) e u }
slips_asked z d s t k u (Freed m e) = record { held = s; leads = slip_self z Nothing s; under = subst (λ k. Under true s k) e (record { copy = u.copy; cancelled = u.cancelled; stored = u.stored }) }
slips_asked z d s t k u (Store m a q e) = record {
  held = stored_to (freed Nothing s);
  leads = slip_store z Nothing s refl a (ap is_unique u.copy ∙ q);
  under = subst (λ k. Under true (stored_to (freed Nothing s)) k) e (under_stored true (freed Nothing s) (freed d t) (under_asked d s t u));
}
slips_asked z d s t k u (Drop m c e) = record {
  held = dropped (freed Nothing s);
  leads = slip_drop z Nothing s refl (ap is_clean u.copy ∙ c);
  under = subst (λ k. Under true (dropped (freed Nothing s)) k) e (under_dropped true (freed Nothing s) (freed d t) (under_asked d s t u));
}

-- and back
pub record SlipsOver (z : Stores) (d : Due) (s k : Held) : Type 0 where
  pub held : Held
  pub leads : slips z d s held ≡ true
  pub under : Under false k held

pub slips_over : (z : Stores) (d : Due) (s t k : Held) → Under false s t → Slipped z d s k → SlipsOver z d t k
slips_over z d s t k u (Still e) = record { held = t; leads = slip_self z d t; under = subst (λ k. Under false k t) e u }
slips_over z d s t k u (Freed m e) = record { held = freed d t; leads = slip_free z d t m; under = subst (λ k. Under false k (freed d t)) e (under_freed d s t u) }
slips_over z d s t k u (Store m a q e) = record {
  held = stored_to (freed d t);
  leads = slip_store z d t m a (ap is_unique (sym u.copy) ∙ q);
  under = subst (λ k. Under false k (stored_to (freed d t))) e (under_stored false (freed d s) (freed d t) (under_freed d s t u));
}
slips_over z d s t k u (Drop m c e) = record {
  held = dropped (freed d t);
  leads = slip_drop z d t m (ap is_clean (sym u.copy) ∙ c);
  under = subst (λ k. Under false k (dropped (freed d t))) e (under_dropped false (freed d s) (freed d t) (under_freed d s t u));
}

-- A FLIT OF THE HOME
mark_granted : (m s b b' : Bool) → (b' ≡ true → b ≡ true) → (m || (b' && not s)) ≡ true → (m || (b && not s)) ≡ true
mark_granted true s b b' f h = refl
mark_granted false s b b' f h = both b (not s) (f (left b' _ h)) (right b' _ h)

pub under_granted : (g : Grant) (d : Due) (asked : Bool) (h k : Held) → Under asked h k → Under asked (granted g d h) (granted g d k)
under_granted g d asked h k u = record {
  copy = ap (λ s. (granted g d (record { copy = s; cancelled = false; stored = false })).copy) u.copy;
  cancelled = u.cancelled;
  stored = mark_granted (makes g d) (settles g d) k.stored h.stored u.stored;
}

-- the home has the words, of the one below too where it has those of the one above
abbrev pub shown_where : Bool → Held → Held
shown_where b h = if b then shown_of h else h

pub under_shown : (b b' asked : Bool) (h k : Held) → (b ≡ true → b' ≡ true) → Under asked h k → Under asked (shown_where b' h) (shown_where b k)
under_shown true true asked h k f u = record { copy = u.copy; cancelled = u.cancelled; stored = λ e. e }
under_shown true false asked h k f u = no (f refl)
under_shown false true asked h k f u = record { copy = u.copy; cancelled = u.cancelled; stored = λ e. no e }
under_shown false false asked h k f u = u

-- COPIES TOGETHER
abbrev part_fits : Bool → Bool → Held → Held → Bool → Bool → Bool
part_fits c e h k b b' = implies (is_sane h && (is_sane k && (implies b h.stored && implies b' k.stored))) (implies (apart (other h c b) (other k e b')) (not (beside h k)))

part_table : Bool → Bool → Bool
part_table c e = all_helds (λ h. all_helds (λ k. all_bools (λ b. all_bools (λ b'. part_fits c e h k b b'))))

part_holds : (c e : Bool) → part_table c e ≡ true
unfolding part_table
part_holds c e = refl

part_each : (c e : Bool) (h k : Held) (b b' : Bool) → part_fits c e h k b b' ≡ true
unfolding part_table
part_each c e h k b b' = each_bool (λ b'. part_fits c e h k b b') (each_bool (λ b. all_bools (λ b'. part_fits c e h k b b')) (each_held (λ k. all_bools (λ b. all_bools (λ b'. part_fits c e h k b b')))
    (each_held (λ h. all_helds (λ k. all_bools (λ b. all_bools (λ b'. part_fits c e h k b b')))) (part_holds c e) h) k) b) b'

pub never_apart : (q r : Bool) (h' h k' k : Held) → Under q h' h → Under r k' k → is_sane h ≡ true → is_sane k ≡ true → apart h' k' ≡ true → beside h k ≡ false
never_apart q r h' h k' k u v s t e = turned (beside h k) (follow (apart (other h h'.cancelled h'.stored) (other k k'.cancelled k'.stored)) _
    (follow (is_sane h && (is_sane k && (implies h'.stored h.stored && implies k'.stored k.stored))) _ (part_each h'.cancelled k'.cancelled h k h'.stored k'.stored)
    (both (is_sane h) _ s (both (is_sane k) _ t (both (implies h'.stored h.stored) _ (follows h'.stored h.stored u.stored) (follows k'.stored k.stored v.stored)))))
    (subst (λ h. apart h (other k k'.cancelled k'.stored) ≡ true) (sym (other_is q h' h u)) (subst (λ k. apart h' k ≡ true) (sym (other_is r k' k v)) e)))

abbrev home_fits : Bool → Held → Bool → Bool
home_fits c h b = implies (is_sane h && implies b h.stored) (implies (is_home_copy (other h c b)) (is_fresh h))

home_holds : (c : Bool) → all_helds (λ h. all_bools (λ b. home_fits c h b)) ≡ true
home_holds c = refl

-- a copy that surely has the home's words has them
pub home_fresh : (q : Bool) (h' h : Held) → Under q h' h → is_sane h ≡ true → is_home_copy h' ≡ true → is_fresh h ≡ true
home_fresh q h' h u s e = follow (is_home_copy (other h h'.cancelled h'.stored)) _
    (follow (is_sane h && implies h'.stored h.stored) _ (each_bool (λ b. home_fits h'.cancelled h b) (each_held (λ h. all_bools (λ b. home_fits h'.cancelled h b)) (home_holds h'.cancelled) h) h'.stored)
    (both (is_sane h) _ s (follows h'.stored h.stored u.stored)))
    (subst (λ h. is_home_copy h ≡ true) (sym (other_is q h' h u)) e)
