-- A world before a flit of a cache, made of what it has to be.
use Rattle.std.proofs.Common.{◌≡◌, ◌≢◌, ℕ, ◌<◌, refl, sym, ap, subst, ◌∙◌}
use Rattle.std.specs.Prelude.{Bool, true, false, Some, None, List, if◌then◌else◌}
use Rattle.chi_observer.specs.declared.flits.Due.{Due}
use Rattle.chi_observer.specs.declared.flits.Stores.{Stores}
use Rattle.chi_observer.specs.declared.flits.Act.{Act}
use Rattle.chi_observer.specs.declared.flits.CacheFlit.{CacheFlit}
use Rattle.chi_observer.specs.Copies.{holds_data}
use Rattle.chi_observer.specs.Rules.{gives_up, has_data, writes, tells_words, lets_go, word_at, allows}
use Rattle.chi_copies.specs.Copies.{Held, Copies, shown_of, same_held}
use Rattle.chi_copies.specs.Rules.{is_due_data, lets, row, acts}
use Rattle.chi_copies.specs.Worlds.{World, Words, Same, Sends, StoresWord, has_word, is_placed, makes_value, keeps_value, put}
use Rattle.chi_copies.specs.Observed.{Observed, Meaning, has_news, sent, shown_all, moved}
use Rattle.chi_copies.specs.Laws.{ComesBy}
use Rattle.chi_copies.proofs.Finite.{no, out_image}
use Rattle.chi_copies.proofs.Rows.{same_held_is}
use Rattle.chi_copies.proofs.Means.{same_by, same_trans}
use Rattle.chi_copies.proofs.Moved.{others_after, others_if}
use Rattle.chi_copies.proofs.Put.{here, there, split}

-- WHAT ANOTHER COPY WAS
abbrev pub marked : Held → Held
marked h = record { copy = h.copy; cancelled = h.cancelled; stored = true }

abbrev pub prior_if : Bool → Copies → Held → Held
prior_if b S k = if b then (if S k then k else marked k) else k

shown_back : (h k : Held) → shown_of h ≡ k → (S : Copies) → S h ≡ true → (c : Bool) → S k ≡ c → (S (if c then k else marked k) ≡ true) × (shown_of (if c then k else marked k) ≡ k)
shown_back h k e S q true g = (g, λ i. record { copy = k.copy; cancelled = k.cancelled; stored = unstored i })
  where
    unstored : false ≡ k.stored
    unstored = ap (λ (k : Held). k.stored) e
shown_back h k e S q false g = (subst (λ h. S h ≡ true) was q, λ i. record { copy = k.copy; cancelled = k.cancelled; stored = unstored i })
  where
    unstored : false ≡ k.stored
    unstored = ap (λ (k : Held). k.stored) e

    by : (b : Bool) → h.stored ≡ b → b ≡ true
    by true r = refl
    by false r = no (sym g ∙ subst (λ h. S h ≡ true) (λ i. record { copy = ap (λ (k : Held). k.copy) e i; cancelled = ap (λ (k : Held). k.cancelled) e i; stored = (r ∙ unstored) i }) q)

    was : h ≡ marked k
    was = λ i. record { copy = ap (λ (k : Held). k.copy) e i; cancelled = ap (λ (k : Held). k.cancelled) e i; stored = by h.stored refl i }

pub prior_by : (b : Bool) (S : Copies) (k : Held) → (if b then shown_all S else S) k ≡ true → (S (prior_if b S k) ≡ true) × (others_if b (prior_if b S k) ≡ k)
prior_by true S k e = let x = out_image (λ h k. same_held (shown_of h) k) S k e in shown_back x.held k (same_held_is (shown_of x.held) k x.leads) S x.has (S k) refl
prior_by false S k e = (e, refl)

module _ (o : Observed) (f : CacheFlit) (w' : World) (low : f.agent.0 < 32) (m : Meaning (moved o f) w') where
  abbrev n : ℕ
  n = f.agent.0

  abbrev a : Act
  a = f.act

  abbrev d : Due
  d = o.public.due n

  abbrev z : Stores
  z = o.public.stores

  abbrev x : Bool
  x = lets_go (o.public.snooped n)

  abbrev k : Held
  k = w'.state n

  abbrev pub prior : ℕ → Held
  prior i = prior_if (tells_words a) (o.may i) (w'.state i)

  pub else_after : (i : ℕ) → i ≢ n → i < 32 → others_after o f i (w'.state i) ≡ true
  else_after i g l = subst (λ X. X (w'.state i) ≡ true) (there n (sent o f) (others_after o f) i g) (m.copies i l)

  pub prior_has : (i : ℕ) → i ≢ n → i < 32 → o.may i (prior i) ≡ true
  prior_has i g l = (prior_by (tells_words a) (o.may i) (w'.state i) (else_after i g l)).0

  pub prior_is : (i : ℕ) → i ≢ n → i < 32 → others_if (tells_words a) (prior i) ≡ w'.state i
  prior_is i g l = (prior_by (tells_words a) (o.may i) (w'.state i) (else_after i g l)).1

  abbrev pub old : Held → Words → Words → World
  old h last home = record { state = put n h prior; words = put n last w'.words; last = last; home = home }

  -- what it has to be: the copy, the value and the home's words before
  pub record Prior (h : Held) (own : Bool) (last home : Words) : Type 0 where
    pub has : o.may n h ≡ true
    pub let_go : lets z a own d h ≡ true
    pub row : row a own x (is_due_data gives_up d) h ≡ Some k
    pub owned : has_word a last ≡ own
    pub shows : has_data a ≡ true → Same (word_at f.shown) last
    pub kept : keeps_value a own x h ≡ true → Same w'.last (if writes a then word_at f.shown else last)
    pub stored : StoresWord a z (holds_data h.copy) last w'.last
    pub homed : Same w'.home (if tells_words a then word_at f.shown else home)
    pub worded : holds_data k.copy ≡ true → makes_value a own ≡ false → Same w'.last last
    pub made : makes_value a own ≡ true → holds_data k.copy ≡ true
    pub else_words : (i : ℕ) → i ≢ n → i < 32 → holds_data (prior i).copy ≡ true → Same w'.last last
    pub known : (v : List ℕ) → o.home ≡ Some v → Same home (word_at v)
    pub current : h.stored ≡ false → ((i : ℕ) → i ≢ n → i < 32 → (prior i).stored ≡ false) → Same home last
    pub news : has_news o.public n h ≡ true → (p : ℕ) → p < 8 → (v : ℕ) → o.news p ≡ Some v → last p ≡ v
    pub else_news : (i : ℕ) → i ≢ n → i < 32 → has_news o.public i (prior i) ≡ true → (p : ℕ) → p < 8 → (v : ℕ) → o.news p ≡ Some v → last p ≡ v

  module _ (allowed : allows a (o.public.snooped n) ≡ true) (placed : is_placed a ≡ true) (h : Held) (own : Bool) (last home : Words) (q : Prior h own last home) where
    prior_copy : (b : Bool) (h : Held) → (others_if b h).copy ≡ h.copy
    prior_copy true h = refl
    prior_copy false h = refl

    else_data : (i : ℕ) → i ≢ n → i < 32 → holds_data (prior i).copy ≡ true → holds_data (w'.state i).copy ≡ true
    else_data i g l e = ap (λ (k : Held). holds_data k.copy) (sym (prior_is i g l)) ∙ ap holds_data (prior_copy (tells_words a) (prior i)) ∙ e

    old_meant : Meaning o (old h last home)
    old_meant = record {
      copies = split (λ i. i < 32 → o.may i (put n h prior i) ≡ true) n (λ _. subst (λ k. o.may n k ≡ true) (sym (here n h prior)) q.has)
          (λ i g l. subst (λ k. o.may i k ≡ true) (sym (there n h prior i g)) (prior_has i g l));
      words = split (λ i. i < 32 → holds_data (put n h prior i).copy ≡ true → Same (put n last w'.words i) last) n (λ _ _. same_by _ _ (here n last w'.words))
          (λ i g l e. let e' = ap (λ (k : Held). holds_data k.copy) (sym (there n h prior i g)) ∙ e in
          same_trans _ _ _ (same_by _ _ (there n last w'.words i g)) (same_trans _ _ _ (m.words i l (else_data i g l e')) (q.else_words i g l e')));
      home = q.known;
      current = λ shown. q.current (ap (λ (k : Held). k.stored) (sym (here n h prior)) ∙ shown n low) (λ i g l. ap (λ (k : Held). k.stored) (sym (there n h prior i g)) ∙ shown i l);
      news = split (λ i. i < 32 → has_news o.public i (put n h prior i) ≡ true → (p : ℕ) → p < 8 → (v : ℕ) → o.news p ≡ Some v → last p ≡ v) n
          (λ _ e. q.news (subst (λ k. has_news o.public n k ≡ true) (here n h prior) e)) (λ i g l e. q.else_news i g l (subst (λ k. has_news o.public i k ≡ true) (there n h prior i g) e));
    }

    at_here : (h' : Held) (last' : Words) → h ≡ h' → last ≡ last' → acts z a (has_word a last') x d h' ≡ Some k
    at_here h' last' e g = subst (λ h. acts z a (has_word a last') x d h ≡ Some k) e (subst (λ l. acts z a (has_word a l) x d h ≡ Some k) g (subst (λ own. acts z a own x d h ≡ Some k) (sym q.owned)
        (subst (λ (c : Bool). (if c then row a own x (is_due_data gives_up d) h else None) ≡ Some k) (sym q.let_go) q.row)))

    old_sends : Sends o.public f (old h last home) w'
    old_sends = record {
      allowed = allowed;
      placed = placed;
      act = at_here (put n h prior n) (put n last w'.words n) (sym (here n h prior)) (sym (here n last w'.words));
      shown = λ e. same_trans _ _ _ (q.shows e) (same_by _ _ (sym (here n last w'.words)));
      last = λ e. q.kept (subst (λ h. keeps_value a own x h ≡ true) (here n h prior) (subst (λ own. keeps_value a own x (put n h prior n) ≡ true) q.owned (subst (λ l. keeps_value a (has_word a l) x (put n h prior n) ≡ true) (here n last w'.words) e)));
      stored = subst (λ h. StoresWord a z (holds_data h.copy) last w'.last) (sym (here n h prior)) q.stored;
      home = q.homed;
      words = λ e g. same_trans _ _ _ (m.words n low e) (same_trans _ _ _ (q.worded e (ap (makes_value a) (sym q.owned) ∙ ap (λ l. makes_value a (has_word a l)) (sym (here n last w'.words)) ∙ g)) (same_by _ _ (sym (here n last w'.words))));
      made = λ g. m.words n low (q.made (ap (makes_value a) (sym q.owned) ∙ ap (λ l. makes_value a (has_word a l)) (sym (here n last w'.words)) ∙ g));
      others = record { state = λ i l g. sym (ap (others_if (tells_words a)) (there n h prior i g) ∙ prior_is i g l); words = λ i l g. sym (there n last w'.words i g) };
    }

    pub comes_by : ComesBy o f w'
    comes_by = record { before = old h last home; meant = old_meant; sends = old_sends }
