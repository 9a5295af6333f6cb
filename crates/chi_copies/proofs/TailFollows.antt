-- What is kept of a trace that begins in the middle, beside what the whole trace's observer keeps.
use Rattle.std.proofs.Common.{◌≡◌, ℕ, ◌<◌, refl, sym, subst}
use Rattle.std.specs.Prelude.{Bool, true, false, ◌&&◌, ◌||◌, not, Option, None, if◌then◌else◌}
use Rattle.chi_observer.specs.declared.kinds.Snoop.{Snoop}
use Rattle.chi_observer.specs.declared.flits.Due.{Due}
use Rattle.chi_observer.specs.declared.flits.Stores.{Stores}
use Rattle.chi_copies.specs.Copies.{Held, Copies, image}
use Rattle.chi_copies.specs.Rules.{slips}
use Rattle.chi_copies.specs.Observed.{Observed, Closed, home_at}
use Rattle.chi_copies.specs.Begun.{Begun, Behind, left_over, is_one, kept_behind}
use Rattle.chi_copies.proofs.Finite.{no, left, right, turned}
use Rattle.chi_copies.proofs.Larger.{LessKnown}
use Rattle.chi_copies.proofs.TailSets.{Below, Base, closed_base, all_below}

-- what both keep of one agent. behind: the observer's set right behind a flit
pub record Sides : Type 0 where
  pub due : Due
  pub snooped : Option Snoop
  pub may : Copies
  pub behind : Copies
  pub kept_due : Due
  pub kept_snooped : Option Snoop
  pub kept_may : Copies
  pub sure : Bool
  pub asked : Bool
  pub missed : Bool

-- right behind a flit
pub record IsBehind (z : Stores) (s : Sides) : Type 0 where
  pub due : s.asked ≡ false → s.kept_due ≡ s.due
  pub left : s.asked ≡ true → s.kept_due ≡ left_over
  pub snooped : s.missed ≡ false → s.kept_snooped ≡ s.snooped
  pub gone : s.missed ≡ true → s.kept_snooped ≡ None
  pub base : Base z s.due s.asked s.sure s.behind s.may s.kept_may

-- behind hidden steps
pub record IsFollowed (z : Stores) (s : Sides) : Type 0 where
  pub due : s.asked ≡ false → s.kept_due ≡ s.due
  pub left : s.asked ≡ true → s.kept_due ≡ left_over
  pub snooped : s.missed ≡ false → s.kept_snooped ≡ s.snooped
  pub gone : s.missed ≡ true → s.kept_snooped ≡ None
  pub known : s.sure ≡ true → s.asked ≡ false
  pub base : Base z s.due s.asked s.sure s.may s.may s.kept_may
  -- all copies of the observer's are above some of a set that is sure
  pub whole : s.sure ≡ true → (h : Held) → s.may h ≡ true → Below false s.kept_may h

wider : (z : Stores) (d : Due) (asked sure : Bool) (X O S : Copies) → ((t : Held) → X t ≡ true → O t ≡ true) → Base z d asked sure X O S → Base z d asked false O O S
wider z d asked sure X O S f base = record {
  bases = base.bases;
  some = base.some;
  inside = λ t x. f t (base.inside t x);
  below = base.below;
  over = λ e. no e;
  slips = base.slips;
}

module _ (z z' : Stores) (s : Sides) (same_stores : z' ≡ z) (is : IsBehind z s) (in_all : (t : Held) → s.behind t ≡ true → s.may t ≡ true) (shut : (h k : Held) → s.may h ≡ true → slips z s.due h k ≡ true → s.may k ≡ true) where
  -- v: it is sure then
  abbrev closed_if : Bool → Sides
  closed_if v = record {
    due = s.due;
    snooped = s.snooped;
    may = s.may;
    behind = s.may;
    kept_due = s.kept_due;
    kept_snooped = s.kept_snooped;
    kept_may = if v then image (slips z' s.kept_due) s.kept_may else s.kept_may;
    sure = v;
    asked = s.asked;
    missed = s.missed;
  }

  slips_alike : s.asked ≡ false → slips z' s.kept_due ≡ slips z s.due
  slips_alike a = λ i. slips (same_stores i) (is.due a i)

  module _ (e : true ≡ (not s.asked && (s.sure || is_one s.kept_may))) where
    known : s.asked ≡ false
    known = turned s.asked (left (not s.asked) _ (sym e))

    sure_now : (s.sure || is_one s.kept_may) ≡ true
    sure_now = right (not s.asked) _ (sym e)

    base_known : Base z s.due false s.sure s.behind s.may s.kept_may
    base_known = subst (λ q. Base z s.due q s.sure s.behind s.may s.kept_may) known is.base

    closed_sure : IsFollowed z (closed_if true)
    closed_sure = record {
      due = is.due;
      left = is.left;
      snooped = is.snooped;
      gone = is.gone;
      known = λ _. known;
      base = subst (λ q. Base z s.due q true s.may s.may (image (slips z' s.kept_due) s.kept_may)) (sym known)
          (subst (λ R. Base z s.due false true s.may s.may (image R s.kept_may)) (sym (slips_alike known)) (closed_base z s.due s.sure s.behind s.may s.kept_may base_known sure_now in_all shut));
      whole = λ _ h x. subst (λ R. Below false (image R s.kept_may) h) (sym (slips_alike known)) (all_below z s.due s.sure s.behind s.may s.kept_may base_known sure_now in_all shut h x);
    }

  closed_by : (v : Bool) → v ≡ (not s.asked && (s.sure || is_one s.kept_may)) → IsFollowed z (closed_if v)
  closed_by true e = closed_sure e
  closed_by false e = record {
    due = is.due;
    left = is.left;
    snooped = is.snooped;
    gone = is.gone;
    known = λ g. no g;
    base = wider z s.due s.asked s.sure s.behind s.may s.kept_may in_all is.base;
    whole = λ g. no g;
  }

  pub closes : IsFollowed z (closed_if (not s.asked && (s.sure || is_one s.kept_may)))
  closes = closed_by (not s.asked && (s.sure || is_one s.kept_may)) refl

-- THE LINE
abbrev pub sides_of : Observed → Begun → ℕ → Sides
sides_of o b n = record {
  due = o.public.due n;
  snooped = o.public.snooped n;
  may = o.may n;
  behind = o.may n;
  kept_due = b.seen.public.due n;
  kept_snooped = b.seen.public.snooped n;
  kept_may = b.seen.may n;
  sure = b.sure n;
  asked = b.asked n;
  missed = b.snooped n;
}

-- o: the whole trace's observer; shown: the moments that it keeps
pub record Follows (o : Observed) (shown : ℕ → Bool) (b : Begun) : Type 0 where
  pub stores : b.seen.public.stores ≡ o.public.stores
  pub agents : (n : ℕ) → n < 32 → IsFollowed o.public.stores (sides_of o b n)
  pub duty : o.public.duty ≡ true → b.seen.public.duty ≡ true
  pub home : (p : ℕ) → p < 8 → LessKnown (home_at o.home p) (home_at b.seen.home p)
  pub moments : (n : ℕ) → n < 32 → shown n ≡ true → b.shown n ≡ true

-- right behind a flit; u: the observer there, before hidden steps
abbrev pub sides_behind : Observed → Observed → Behind → ℕ → Sides
sides_behind o u s n = record {
  due = o.public.due n;
  snooped = o.public.snooped n;
  may = o.may n;
  behind = u.may n;
  kept_due = s.public.due n;
  kept_snooped = s.public.snooped n;
  kept_may = s.may n;
  sure = s.sure n;
  asked = s.asked n;
  missed = s.snooped n;
}

pub record Trails (o u : Observed) (s : Behind) : Type 0 where
  pub stores : s.public.stores ≡ o.public.stores
  pub agents : (n : ℕ) → n < 32 → IsBehind o.public.stores (sides_behind o u s n)
  pub duty : o.public.duty ≡ true → s.public.duty ≡ true
  pub home : (p : ℕ) → p < 8 → LessKnown (home_at o.home p) (home_at s.home p)
  pub inside : (n : ℕ) → n < 32 → (h : Held) → u.may n h ≡ true → o.may n h ≡ true

pub kept_follows : (o u : Observed) (s : Behind) (shown shown' : ℕ → Bool) → Closed o → Trails o u s → ((n : ℕ) → n < 32 → shown n ≡ true → shown' n ≡ true) → Follows o shown (kept_behind s shown')
kept_follows o u s shown shown' shut trails moments = record {
  stores = trails.stores;
  agents = λ n low. closes o.public.stores s.public.stores (sides_behind o u s n) trails.stores (trails.agents n low) (trails.inside n low) (shut n low);
  duty = trails.duty;
  home = trails.home;
  moments = moments;
}
