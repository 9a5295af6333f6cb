-- What always holds holds behind one agent's hidden steps; and each world behind them comes from one before.
use Rattle.std.proofs.Common.{◌≡◌, ◌≢◌, ℕ, ◌<◌, sym, subst, ◌∙◌}
use Rattle.std.specs.Prelude.{true, false, Some, List}
use Rattle.chi_observer.specs.declared.flits.Due.{Due}
use Rattle.chi_observer.specs.declared.flits.Stores.{Stores}
use Rattle.chi_observer.specs.Copies.{holds_data, is_dirty}
use Rattle.chi_observer.specs.Rules.{are_hidden, is_resending}
use Rattle.chi_copies.specs.Copies.{Held, Copies, is_fresh, is_newer, beside, any_held, image}
use Rattle.chi_copies.specs.Rules.{slips, waits_without_news}
use Rattle.chi_copies.specs.Worlds.{put}
use Rattle.chi_copies.specs.Observed.{Observed, Sound, Closed, is_storable, is_shown_dirty, loose}
use Rattle.chi_copies.proofs.Finite.{follow, in_held, out_held, in_image}
use Rattle.chi_copies.proofs.Rows.{is_sane}
use Rattle.chi_copies.proofs.Means.{sane, beside_back}
use Rattle.chi_copies.proofs.Loose.{slip_of, in_loose, slip_weakens, slip_sane, slip_fresh, slip_dirty, slip_shown, slip_seen, slip_waits, slip_listed, slip_once, slipped}
use Rattle.chi_copies.proofs.Put.{here, there, split, pairwise}

-- of n, and of each other, one function being changed there
pub one : {A : Type 0} (P : ℕ → A → Type 0) (n : ℕ) (x : A) (f : ℕ → A) → P n x → ((m : ℕ) → m ≢ n → P m (f m)) → (m : ℕ) → P m (put n x f m)
one P n x f at rest = split (λ m. P m (put n x f m)) n (subst (P n) (sym (here n x f)) at) (λ m h. subst (P m) (sym (there n x f m h)) (rest m h))

sane_stored : (h : Held) → is_sane h ≡ true → h.stored ≡ true → is_storable h ≡ true
sane_stored h s e = follow h.stored (is_storable h) s e

module _ (n : ℕ) (o : Observed) (sound : Sound o) (low : n < 32) where
  abbrev z : Stores
  z = o.public.stores

  abbrev d : Due
  d = o.public.due n

  abbrev T : Copies
  T = image (slips z d) (o.may n)

  pub sane_at : (k : Held) → T k ≡ true → is_sane k ≡ true
  sane_at k e = let x = slip_of n o k e in slip_sane z d x.held k x.how (sane o sound n low x.held x.has)

  beside_at : (m : ℕ) → m ≢ n → m < 32 → (k t : Held) → T k ≡ true → o.may m t ≡ true → beside k t ≡ true
  beside_at m g l k t e f = let x = slip_of n o k e in
      slip_weakens z d x.held k t x.how (sane o sound n low x.held x.has) (sane o sound m l t f) (sound.pairs n m low l (λ e. g (sym e)) x.held t x.has f)

  even_at : (h k : Held) → T h ≡ true → T k ≡ true → is_shown_dirty h ≡ true → is_dirty k.copy ≡ true
  even_at h k e f s = let x = slip_of n o h e in let y = slip_of n o k f in
      slip_dirty z d y.held k y.how (sound.even n low x.held y.held x.has y.has (slip_shown z d x.held h x.how s))

  alike_at : are_hidden z ≡ false → (h k : Held) → T h ≡ true → T k ≡ true → holds_data h.copy ≡ true → holds_data k.copy ≡ true → h.stored ≡ k.stored
  alike_at l h k e f a b = let x = slip_of n o h e in let y = slip_of n o k f in
      let p = slip_listed z d x.held h x.how l a in let q = slip_listed z d y.held k y.how l b in
      sym p.1 ∙ sound.alike l n low x.held y.held x.has y.has p.0 q.0 ∙ q.1

  pub loose_sound : Sound (loose n o)
  loose_sound = record {
    some = one (λ m X. m < 32 → any_held X ≡ true) n T o.may (λ l. let x = out_held (o.may n) (sound.some n l) in in_held T x.0 (in_loose n o x.0 x.1)) (λ m _. sound.some m);
    pairs = λ i j li lj g. pairwise (λ i j X Y. i < 32 → j < 32 → (h k : Held) → X h ≡ true → Y k ≡ true → beside h k ≡ true) n T o.may
        (λ m g _ l. beside_at m g l) (λ m g l _ h k e f. beside_back k h (beside_at m g l k h f e)) (λ i j g li lj. sound.pairs i j li lj g) i j g li lj;
    storable = one (λ m X. m < 32 → (h : Held) → X h ≡ true → h.stored ≡ true → is_storable h ≡ true) n T o.may (λ _ h e. sane_stored h (sane_at h e)) (λ m _. sound.storable m);
    known = one (λ m X. m < 32 → (h : Held) → X h ≡ true → is_fresh h ≡ true → (v : List ℕ) × (o.home ≡ Some v)) n T o.may
        (λ _ h e f. let x = slip_of n o h e in sound.known n low x.held x.has (slip_fresh z d x.held h x.how f)) (λ m _. sound.known m);
    even = one (λ m X. m < 32 → (h k : Held) → X h ≡ true → X k ≡ true → is_shown_dirty h ≡ true → is_dirty k.copy ≡ true) n T o.may (λ _. even_at) (λ m _. sound.even m);
    seen = one (λ m X. m < 32 → waits_without_news (o.public.due m) ≡ true → (h : Held) → X h ≡ true → h.cancelled ≡ false → is_newer h ≡ false) n T o.may
        (λ _ r h e c. let x = slip_of n o h e in slip_seen z d x.held h x.how r c (sound.seen n low r x.held x.has)) (λ m _. sound.seen m);
    waits = one (λ m X. m < 32 → is_resending (o.public.due m) ≡ false → (h : Held) → X h ≡ true → h.cancelled ≡ false) n T o.may
        (λ _ r h e. let x = slip_of n o h e in slip_waits z d x.held h x.how r (sound.waits n low r x.held x.has)) (λ m _. sound.waits m);
    alike = λ l. one (λ m X. m < 32 → (h k : Held) → X h ≡ true → X k ≡ true → holds_data h.copy ≡ true → holds_data k.copy ≡ true → h.stored ≡ k.stored) n T o.may (λ _. alike_at l) (λ m _. sound.alike l m);
  }

-- whose steps lead to no others, if it is so of the others
pub loose_closed : (n : ℕ) (o : Observed) → ((m : ℕ) → m ≢ n → m < 32 → (h k : Held) → o.may m h ≡ true → slips o.public.stores (o.public.due m) h k ≡ true → o.may m k ≡ true) → Closed (loose n o)
loose_closed n o rest = one (λ m X. m < 32 → (h k : Held) → X h ≡ true → slips o.public.stores (o.public.due m) h k ≡ true → X k ≡ true) n (image (slips o.public.stores (o.public.due n)) (o.may n)) o.may
    (λ _ h k e s. let x = slip_of n o h e in
    again x.held h k x.has (slip_once o.public.stores (o.public.due n) x.held h k x.how (slipped o.public.stores (o.public.due n) h k s) s x.leads)) rest
  where
    again : (h k t : Held) → o.may n h ≡ true → slips o.public.stores (o.public.due n) h t ≡ true → image (slips o.public.stores (o.public.due n)) (o.may n) t ≡ true
    again h k t e s = in_image (slips o.public.stores (o.public.due n)) (o.may n) h t e s
