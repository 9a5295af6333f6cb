-- What is kept of one agent's copy in a trace that begins in the middle, beside the set of the whole trace's observer.
use Rattle.std.proofs.Common.{◌≡◌, refl, sym, ap, subst, ◌∙◌}
use Rattle.std.specs.Prelude.{Bool, true, false, ◌&&◌, ◌||◌, not, if◌then◌else◌}
use Rattle.chi_observer.specs.declared.flits.Due.{Due}
use Rattle.chi_observer.specs.declared.flits.Stores.{Stores}
use Rattle.chi_observer.specs.Copies.{is_unique}
use Rattle.chi_copies.specs.Copies.{Held, Copies, shown_of, same_held, any_held, image}
use Rattle.chi_copies.specs.Rules.{slips}
use Rattle.chi_copies.specs.Observed.{any_of}
use Rattle.chi_copies.specs.Begun.{each_of, counts, is_one, left_beside}
use Rattle.chi_copies.proofs.Finite.{no, left, right, both, either, or_right, by_truth, by_false, turned, flip, in_held, out_held, in_image, From, out_image}
use Rattle.chi_copies.proofs.Rows.{same_held_is, same_held_self}
use Rattle.chi_copies.proofs.Means.{slip_free, slip_drop}
use Rattle.chi_copies.proofs.Loose.{Slipped, slipped, slip_self}
use Rattle.chi_copies.proofs.Loose.Slipped.{Still, Freed, Store, Drop}
use Rattle.chi_copies.proofs.TailUnder.{Under, slips_under, slips_over, shown_where, under_shown}

-- some copy of a set is under such a copy, or over it
pub record Below (asked : Bool) (S : Copies) (k : Held) : Type 0 where
  pub held : Held
  pub has : S held ≡ true
  pub under : Under asked held k

pub record Over (asked : Bool) (T : Copies) (k : Held) : Type 0 where
  pub held : Held
  pub has : T held ≡ true
  pub under : Under asked k held

-- X: the observer's set right behind the agent's last flit; O: its set behind hidden steps; S: what is kept. Some of X, the bases, are
-- above copies of S; hidden steps lead from them to all of O; and above each copy of S is one of them, if S is sure
pub record Base (z : Stores) (d : Due) (asked sure : Bool) (X O S : Copies) : Type 0 where
  pub bases : Copies
  pub some : any_held bases ≡ true
  pub inside : (t : Held) → bases t ≡ true → X t ≡ true
  pub below : (t : Held) → bases t ≡ true → Below asked S t
  pub over : sure ≡ true → (s : Held) → S s ≡ true → Over asked bases s
  pub slips : (h : Held) → O h ≡ true → From (slips z d) bases h

-- WHAT COUNTS
pub each_in : (S : Copies) (f : Held → Bool) → each_of S f ≡ true → (h : Held) → S h ≡ true → f h ≡ true
each_in S f e h x = by_truth (f h) (λ q. q) (λ q. no (sym (turned (any_of S (λ h. not (f h))) e) ∙ in_held (λ h. S h && not (f h)) h (both (S h) _ x (flip _ q))))

one_is : (S : Copies) → is_one S ≡ true → (h k : Held) → S h ≡ true → S k ≡ true → h ≡ k
one_is S e h k x y = let t = out_held (λ h. S h && each_of S (λ k. same_held h k)) e in
    let r = right (S t.0) _ t.1 in
    sym (same_held_is t.0 h (each_in S (λ k. same_held t.0 k) r h x)) ∙ same_held_is t.0 k (each_in S (λ k. same_held t.0 k) r k y)

-- a copy that is kept, under one of the observer's, of which something is so
pub record Met (asked : Bool) (X S : Copies) (f : Held → Bool) : Type 0 where
  pub upper : Held
  pub above : X upper ≡ true
  pub lower : Held
  pub has : S lower ≡ true
  pub under : Under asked lower upper
  pub so : f lower ≡ true

module _ (z : Stores) (d : Due) (asked sure : Bool) (X O S : Copies) (base : Base z d asked sure X O S) where
  abbrev T : Copies
  T = base.bases

  met_by : (f : Held → Bool) (b : Bool) → (b ≡ true → (s : Held) → S s ≡ true → Over asked T s) → counts b S f ≡ true → Met asked X S f
  met_by f true over e = let x = out_held (λ h. S h && f h) e in
      let o = over refl x.0 (left (S x.0) _ x.1) in
      record { upper = o.held; above = base.inside o.held o.has; lower = x.0; has = left (S x.0) _ x.1; under = o.under; so = right (S x.0) _ x.1 }
  met_by f false over e = let t = out_held T base.some in
      let s = base.below t.0 t.1 in
      record { upper = t.0; above = base.inside t.0 t.1; lower = s.held; has = s.has; under = s.under; so = each_in S f e s.held s.has }

  pub met : (f : Held → Bool) → counts sure S f ≡ true → Met asked X S f
  met f e = met_by f sure base.over e

  -- a set of one copy is sure
  one_over : is_one S ≡ true → (s : Held) → S s ≡ true → Over asked T s
  one_over e s x = let t = out_held T base.some in
      let b = base.below t.0 t.1 in
      record { held = t.0; has = t.1; under = subst (λ s. Under asked s t.0) (one_is S e b.held s b.has x) b.under }

  pub over_sure : (sure || is_one S) ≡ true → (s : Held) → S s ≡ true → Over asked T s
  over_sure e s x = either sure (is_one S) e (λ e. base.over e s x) (λ e. one_over e s x)

-- the same, more or less sure
pub surer : (z : Stores) (d : Due) (asked sure sure' : Bool) (X O S : Copies) (base : Base z d asked sure X O S) → (sure' ≡ true → (sure || is_one S) ≡ true) → Base z d asked sure' X O S
surer z d asked sure sure' X O S base f = record {
  bases = base.bases;
  some = base.some;
  inside = base.inside;
  below = base.below;
  over = λ e. over_sure z d asked sure X O S base (f e);
  slips = base.slips;
}

-- behind hidden steps of a set that is sure
module _ (z : Stores) (d : Due) (sure : Bool) (X O S : Copies) (base : Base z d false sure X O S) (e : (sure || is_one S) ≡ true)
    (in_all : (t : Held) → X t ≡ true → O t ≡ true) (shut : (h k : Held) → O h ≡ true → slips z d h k ≡ true → O k ≡ true) where
  pub all_below : (h : Held) → O h ≡ true → Below false (image (slips z d) S) h
  all_below h x = let f = base.slips h x in
      let b = base.below f.held f.has in
      let y = slips_under z d b.held f.held h b.under (slipped z d f.held h f.leads) in
      record { held = y.held; has = in_image (slips z d) S b.held y.held b.has y.leads; under = y.under }

  pub closed_base : Base z d false true O O (image (slips z d) S)
  closed_base = record {
    bases = O;
    some = let t = out_held base.bases base.some in in_held O t.0 (in_all t.0 (base.inside t.0 t.1));
    inside = λ t x. x;
    below = all_below;
    over = λ _ s x. let f = out_image (slips z d) S s x in
        let o = over_sure z d false sure X O S base e f.held f.has in
        let y = slips_over z d f.held o.held s o.under (slipped z d f.held s f.leads) in
        record { held = y.held; has = shut o.held y.held (in_all o.held (base.inside o.held o.has)) y.leads; under = y.under };
    slips = λ h x. record { held = h; has = x; leads = slip_self z d h };
  }

-- OTHERS BEHIND A FLIT
pub record OfShown (b : Bool) (S : Copies) (k : Held) : Type 0 where
  pub held : Held
  pub has : S held ≡ true
  pub is : shown_where b held ≡ k

-- S behind a flit, by which the home has its words where b is so
pub record ShownSet (b : Bool) (S S' : Copies) : Type 0 where
  pub into : (h : Held) → S h ≡ true → S' (shown_where b h) ≡ true
  pub from : (k : Held) → S' k ≡ true → OfShown b S k

pub shown_image : (b : Bool) (S : Copies) → ShownSet b S (image (λ h k. same_held (shown_where b h) k) S)
shown_image b S = record {
  into = λ h x. in_image (λ h k. same_held (shown_where b h) k) S h (shown_where b h) x (same_held_self (shown_where b h));
  from = λ k x. let f = out_image (λ h k. same_held (shown_where b h) k) S k x in record { held = f.held; has = f.has; is = same_held_is (shown_where b f.held) k f.leads };
}

pub shown_if : (b : Bool) (S : Copies) → ShownSet b S (if b then image (λ h k. same_held (shown_of h) k) S else S)
shown_if true S = shown_image true S
shown_if false S = record { into = λ h x. x; from = λ k x. record { held = k; has = x; is = refl } }

slips_shown : (z : Stores) (d : Due) (b : Bool) (t h : Held) → (b ≡ true → is_unique t.copy ≡ false) → slips z d t h ≡ true → Slipped z d t h → slips z d (shown_where b t) (shown_where b h) ≡ true
slips_shown z d false t h f e s = e
slips_shown z d true t h f e (Still q) = subst (λ h. slips z d (shown_of t) h ≡ true) (ap shown_of q) (slip_self z d (shown_of t))
slips_shown z d true t h f e (Freed m q) = subst (λ h. slips z d (shown_of t) h ≡ true) (ap shown_of q) (slip_free z d (shown_of t) m)
slips_shown z d true t h f e (Store m a u q) = no (sym (f refl) ∙ u)
slips_shown z d true t h f e (Drop m c q) = subst (λ h. slips z d (shown_of t) h ≡ true) (ap shown_of q) (slip_drop z d (shown_of t) m c)

below_shown : (b b' asked : Bool) (S S' : Copies) (t k : Held) → (b ≡ true → b' ≡ true) → ShownSet b' S S' → Below asked S t → shown_where b t ≡ k → Below asked S' k
below_shown b b' asked S S' t k f set y q = record {
  held = shown_where b' y.held;
  has = set.into y.held y.has;
  under = subst (λ k. Under asked (shown_where b' y.held) k) q (under_shown b b' asked y.held t f y.under);
}

pub shown_base : (z : Stores) (d : Due) (asked sure b b' : Bool) (O O' S S' : Copies) → ShownSet b O O' → ShownSet b' S S' → (b ≡ true → b' ≡ true) → (b ≡ true → (t : Held) → O t ≡ true → is_unique t.copy ≡ false)
    → Base z d asked sure O O S → Base z d asked sure O' O' S'
shown_base z d asked sure b b' O O' S S' above below f none base =
    let T' = shown_image b base.bases in
    record {
      bases = image (λ h k. same_held (shown_where b h) k) base.bases;
      some = let t = out_held base.bases base.some in in_held (image (λ h k. same_held (shown_where b h) k) base.bases) (shown_where b t.0) (T'.into t.0 t.1);
      inside = λ k x. let y = T'.from k x in subst (λ k. O' k ≡ true) y.is (above.into y.held (base.inside y.held y.has));
      below = λ k x. let y = T'.from k x in below_shown b b' asked S S' y.held k f below (base.below y.held y.has) y.is;
      over = λ e k x. let y = below.from k x in
          let o = base.over e y.held y.has in
          record { held = shown_where b o.held; has = T'.into o.held o.has; under = subst (λ k. Under asked k (shown_where b o.held)) y.is (under_shown b b' asked y.held o.held f o.under) };
      slips = λ k x. let y = above.from k x in
          let g = base.slips y.held y.has in
          record {
            held = shown_where b g.held;
            has = T'.into g.held g.has;
            leads = subst (λ k. slips z d (shown_where b g.held) k ≡ true) y.is (slips_shown z d b g.held y.held (λ e. none e g.held (base.inside g.held g.has)) g.leads (slipped z d g.held y.held g.leads));
          };
    }

pub shown_whole : (b b' : Bool) (O O' S S' : Copies) → ShownSet b O O' → ShownSet b' S S' → (b ≡ true → b' ≡ true) → ((h : Held) → O h ≡ true → Below false S h) → (h : Held) → O' h ≡ true → Below false S' h
shown_whole b b' O O' S S' above below f whole h x = let y = above.from h x in below_shown b b' false S S' y.held h f below (whole y.held y.has) y.is

-- what goes beside a flit's copies
pub narrow_base : (z : Stores) (d : Due) (asked sure : Bool) (O S A : Copies) → ((s t : Held) → O t ≡ true → Under asked s t → A s ≡ false) → Base z d asked sure O O S → Base z d asked sure O O (left_beside sure A S)
narrow_base z d asked sure O S A f base = record {
  bases = base.bases;
  some = base.some;
  inside = base.inside;
  below = λ t x. let y = base.below t x in record { held = y.held; has = both (S y.held) _ y.has (or_right sure _ (flip _ (f y.held t (base.inside t x) y.under))); under = y.under };
  over = λ e s x. base.over e s (left (S s) _ x);
  slips = base.slips;
}

pub narrow_whole : (sure : Bool) (O S A : Copies) → sure ≡ true → ((h : Held) → O h ≡ true → Below false S h) → (h : Held) → O h ≡ true → Below false (left_beside sure A S) h
narrow_whole sure O S A e whole h x = let y = whole h x in record { held = y.held; has = both (S y.held) _ y.has (subst (λ b. (b || not (A y.held)) ≡ true) (sym e) refl); under = y.under }

pub not_counted : (z : Stores) (d : Due) (asked sure : Bool) (X O S A : Copies) → ((s t : Held) → X t ≡ true → Under asked s t → A s ≡ false) → Base z d asked sure X O S → counts sure S A ≡ false
not_counted z d asked sure X O S A f base = by_false (counts sure S A) (λ e. let m = met z d asked sure X O S base A e in sym (f m.lower m.upper m.above m.under) ∙ m.so)
