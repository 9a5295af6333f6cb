-- A flit of the home leads to what is meant, and is safe.
use Rattle.std.proofs.Common.{◌≡◌, ◌≢◌, ◌⊎◌, inl, inr, ℕ, ◌<◌, List, refl, sym, ap, subst, ◌∙◌}
use Rattle.std.specs.Prelude.{Bool, true, false, ◌&&◌, ◌||◌, not, Option, Some, if◌then◌else◌}
use Rattle.chi_observer.specs.declared.flits.Due.{Due}
use Rattle.chi_observer.specs.declared.flits.Stores.{Stores}
use Rattle.chi_observer.specs.declared.flits.HomeFlit.{HomeFlit}
use Rattle.chi_observer.specs.Copies.{Held, holds_data}
use Rattle.chi_observer.specs.Copies.Copy.{Invalid}
use Rattle.chi_observer.specs.Rules.{fills, granted, makes, settles, due_granted}
use Rattle.chi_observer.specs.Tables.{Known, reach, fresh, told_granted, shows_told}
use Rattle.chi_observer.specs.Worlds.{World, Gives, Informed, home_may}
use Rattle.chi_observer.specs.Observed.{Observed, Sound, Unstored, Meaning, takes_home, next_home}
use Rattle.chi_observer.specs.Laws.{HomeFlitsAreSafe, HomeFlitsLead}
use Rattle.chi_observer.proofs.Finite.{no, left, right}
use Rattle.chi_observer.proofs.Words.{some_is}
use Rattle.chi_observer.proofs.Copies.{home_kept, goes_else, gone_else, reached, unfresh, shows_same, had_data, filled_last}
use Rattle.chi_observer.proofs.Put.{split, everywhere, at_it, at_else}
use Rattle.chi_observer.proofs.Facts.{none_left, same_is, turned, below, beside_unique}
use Rattle.chi_observer.proofs.Grants.{copy_data, made_copy, settled_copy, settled_alone, settled_unmade}
use Rattle.chi_observer.proofs.Cache.{coherent}

value_cases : (e : Bool) (x : List ℕ) (o : Option (List ℕ)) (v : List ℕ) → (if e then Some x else o) ≡ Some v → ((e ≡ true) × (x ≡ v)) ⊎ ((e ≡ false) × (o ≡ Some v))
value_cases true x o v h = inl (refl, some_is x v h)
value_cases false x o v h = inr (refl, h)

module _ (o : Observed) (g : HomeFlit) (w w' : World) (sound : Sound o) (low : g.agent.0 < 32) (takes : takes_home o g ≡ true) (m : Meaning o w) (informed : Informed g w) (gives : Gives o.public g w w') where
  abbrev n : ℕ
  n = g.agent.0

  abbrev mode : Stores
  mode = o.public.stores

  abbrev d : Due
  d = o.public.due n

  abbrev t : Known
  t = o.told n

  abbrev s : Held
  s = w.state n

  abbrev d' : Due
  d' = due_granted g.grant d

  abbrev t' : Known
  t' = told_granted g.grant d t

  may : home_may o.public g ≡ true
  may = left _ _ takes

  words_after : makes g.grant d ≡ false → holds_data (w'.state n).copy ≡ true → (b : Bool) → fills g.grant s ≡ b → (if fills g.grant s then g.shown else w.words n) ≡ w.last
  words_after k v true f = ap (λ b. if b then g.shown else w.words n) f ∙ sym (filled_last o g w sound low takes m f ∙ informed (copy_data g.grant _ f))
  words_after k v false f = ap (λ b. if b then g.shown else w.words n) f ∙ m.words n low (had_data o g low may s (m.told n low) (subst (λ (x : Held). holds_data x.copy ≡ true) gives.state v) f k)

  last_same : makes g.grant d ≡ false → settles g.grant d ≡ false → w'.last ≡ w.last
  last_same e z = gives.last e ∙ ap (λ b. if b then w.home else w.last) z

  here_words : holds_data (w'.state n).copy ≡ true → (b z : Bool) → makes g.grant d ≡ b → settles g.grant d ≡ z → w'.words n ≡ w'.last
  here_words v true z e hz = gives.made e
  here_words v false true e hz = no (sym (ap (λ (x : Held). holds_data x.copy) gives.state ∙ ap holds_data (settled_copy g.grant d s.copy hz)) ∙ v)
  here_words v false false e hz = gives.words v e ∙ words_after e v (fills g.grant s) refl ∙ sym (last_same e hz)

  -- beside what its agent writes there is none
  pub alone : makes g.grant d ≡ true → (k : ℕ) → k ≢ n → k < 32 → holds_data (w.state k).copy ≡ false
  alone e k h lk = beside_unique (granted g.grant d s).copy (w.state k).copy (left _ _ (made_copy g.grant d s.copy e))
      (below mode d' (o.public.due k) t' (o.told k) (granted g.grant d s) (w.state k) (reached o g low may s (m.told n low)) (m.told k lk) (goes_else o g sound low takes k h lk))

  pub none_else : settles g.grant d ≡ true → (k : ℕ) → k ≢ n → k < 32 → holds_data (w.state k).copy ≡ false
  none_else z k h lk = ap holds_data (same_is (w.state k).copy Invalid (none_left o.public.stores (o.public.due k) (o.told k) (w.state k) (gone_else o g sound low takes (settled_alone g.grant d z) k h lk) (m.told k lk)))

  else_words : (k : ℕ) → k ≢ n → k < 32 → holds_data (w.state k).copy ≡ true → (b z : Bool) → makes g.grant d ≡ b → settles g.grant d ≡ z → w.words k ≡ w'.last
  else_words k h lk v true z e hz = no (sym (alone e k h lk) ∙ v)
  else_words k h lk v false true e hz = no (sym (none_else hz k h lk) ∙ v)
  else_words k h lk v false false e hz = m.words k lk v ∙ sym (last_same e hz)

  pub before : Unstored (next_home o g) w' → Unstored o w
  before u = split (λ k. k < 32 → fresh o.public.stores (o.public.due k) (o.told k) (w.state k) ≡ false) n
      (λ _. unfresh o g low may s (m.told n low) (subst (λ x. fresh mode d' t' x ≡ false) gives.state (at_it (λ k a b. k < 32 → fresh mode a b (w'.state k) ≡ false) n d' t' o.public.due o.told u low)))
      (λ k h lk. subst (λ x. fresh o.public.stores (o.public.due k) (o.told k) x ≡ false) (gives.others.state k lk h)
      (at_else (λ k a b. k < 32 → fresh mode a b (w'.state k) ≡ false) n d' t' o.public.due o.told u k h lk))

  home_here : (v : List ℕ) → ((shows_told g.grant t ≡ true) × (g.shown ≡ v)) ⊎ ((shows_told g.grant t ≡ false) × (o.home ≡ Some v)) → w'.home ≡ v
  home_here v (inl c) = gives.home ∙ informed (sym (shows_same o g low may s (m.told n low)) ∙ c.0) ∙ c.1
  home_here v (inr c) = gives.home ∙ m.home v c.1

  one_of : (a b : Bool) → (a || b) ≡ true → a ≡ false → b ≡ true
  one_of true b h e = no (sym e)
  one_of false b h e = h

  current_by : (z : Bool) → settles g.grant d ≡ z → (settles g.grant d || (o.current && not (makes g.grant d))) ≡ true → Unstored (next_home o g) w' → w'.last ≡ w'.home
  current_by true z c u = gives.last (settled_unmade g.grant d z) ∙ ap (λ b. if b then w.home else w.last) z ∙ sym gives.home
  current_by false z c u =
      let still : (o.current && not (makes g.grant d)) ≡ true = one_of (settles g.grant d) _ c z in
      last_same (turned _ (right o.current _ still)) z ∙ m.current (left _ _ still) (before u) ∙ sym gives.home

  pub lead_here : Meaning (next_home o g) w'
  lead_here = record {
    told = everywhere (λ k a b. k < 32 → reach mode a b (w'.state k) ≡ true) n d' t' o.public.due o.told
        (λ _. subst (λ x. reach mode d' t' x ≡ true) (sym gives.state) (reached o g low may s (m.told n low)))
        (λ k h lk. subst (λ x. reach o.public.stores (o.public.due k) (o.told k) x ≡ true) (sym (gives.others.state k lk h)) (m.told k lk));
    words = split (λ k. k < 32 → holds_data (w'.state k).copy ≡ true → w'.words k ≡ w'.last) n
        (λ lk v. here_words v (makes g.grant d) (settles g.grant d) refl refl)
        (λ k h lk v. gives.others.words k lk h ∙ else_words k h lk (subst (λ (x : Held). holds_data x.copy ≡ true) (gives.others.state k lk h) v) (makes g.grant d) (settles g.grant d) refl refl);
    home = λ v e. home_here v (value_cases (shows_told g.grant t) g.shown o.home v e);
    current = λ c u. current_by (settles g.grant d) refl c u;
  }

pub home_leads : HomeFlitsLead
home_leads o g w w' sound low takes m informed gives = lead_here o g w w' sound low takes m informed gives

pub home_safe : HomeFlitsAreSafe
home_safe o g w sound low takes m informed = (
  left _ _ takes,
  λ w' gives. coherent (next_home o g) w' (home_kept o g sound low takes) (home_leads o g w w' sound low takes m informed gives),
  λ e k lk h. none_left o.public.stores (o.public.due k) (o.told k) (w.state k) (gone_else o g sound low takes e k h lk) (m.told k lk),
)
