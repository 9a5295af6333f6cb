-- What an observer of a tail keeps stands above what an observer of the whole trace keeps.
use Rattle.std.proofs.Common.{rules, arith, ◌≡◌, ◌≢◌, ℕ, ◌<◌, List, refl, sym, ap, subst, ◌∙◌}
use Rattle.std.proofs.Math.Path.{fun_ext}
use Rattle.std.proofs.lemmas.List.{get_or-replicate}
use Rattle.std.specs.Prelude.{Bool, true, false, ◌&&◌, not, Option, Some, None, if◌then◌else◌}
use Rattle.chi_observer.specs.declared.kinds.Snoop.{Snoop}
use Rattle.chi_observer.specs.declared.told.Told.TheVariants.{I}
use Rattle.chi_observer.specs.declared.flits.Due.{Due}
use Rattle.chi_observer.specs.declared.begun.AgentBegun.{AgentBegun}
use Rattle.chi_observer.specs.Copies.{same}
use Rattle.chi_observer.specs.Copies.Copy.{Invalid}
use Rattle.chi_observer.specs.Rules.{awaits_moment}
use Rattle.chi_observer.specs.Tables.{Known, strongest}
use Rattle.chi_observer.specs.Worlds.{put}
use Rattle.chi_observer.specs.Observed.{Sound}
use Rattle.chi_observer.specs.Lines.{Watched}
use Rattle.chi_observer.specs.Begun.{Beginning, all_shown, due_kept, forgotten, mark_forgotten, mark_told, told_kept}
use Rattle.chi_observer.proofs.Finite.{no, left, implies}
use Rattle.chi_observer.proofs.Put.{here, there, split}
use Rattle.chi_observer.proofs.Below.{moment_by, tells_none}
use Rattle.chi_observer.proofs.Supposed.{holds_by, is_open_clean, may_stand, same_told_is}
use Rattle.chi_observer.proofs.Addressed.{keeps_gone}

-- ONE AGENT
-- what is told of it, and what is kept where its beginning isn't known
pub record Both : Type 0 where
  pub mark : AgentBegun
  pub due : Due
  pub snooped : Option Snoop
  pub told : Known
  pub kept_due : Due
  pub kept_snooped : Option Snoop
  pub kept_told : Known

abbrev pub snooped_kept : Bool → Option Snoop → Option Snoop
snooped_kept snooped q = if snooped then None else q

pub record IsAbove (x : Both) : Type 0 where
  pub due : x.kept_due ≡ due_kept x.mark x.due
  pub snooped : x.kept_snooped ≡ snooped_kept x.mark.snooped x.snooped
  pub told : x.kept_told.told ≡ told_kept x.mark.copy x.told.told
  pub cancelled : implies x.kept_told.cancelled (x.told.cancelled && not x.mark.asked) ≡ true
  pub stands : may_stand x.mark.copy x.mark.asked x.due x.told.told ≡ true

abbrev pub both_of : Watched → Beginning → ℕ → Both
both_of s b n = record {
  mark = b.mark n;
  due = s.seen.public.due n;
  snooped = s.seen.public.snooped n;
  told = s.seen.told n;
  kept_due = b.seen.seen.public.due n;
  kept_snooped = b.seen.seen.public.snooped n;
  kept_told = b.seen.seen.told n;
}

-- ALL THAT IS KEPT
pub record Above (s : Watched) (b : Beginning) : Type 0 where
  pub stores : b.seen.seen.public.stores ≡ s.seen.public.stores
  pub agents : (n : ℕ) → n < 32 → IsAbove (both_of s b n)
  pub duty : implies s.seen.public.duty b.seen.seen.public.duty ≡ true
  pub current : implies s.seen.current b.seen.seen.current ≡ true
  pub words : (v : List ℕ) → b.seen.seen.home ≡ Some v → (s.seen.home ≡ Some v) × (implies b.seen.seen.current s.seen.current ≡ true)
  pub waits : (n : ℕ) → n < 32 → (b.mark n).asked ≡ false → awaits_moment (s.seen.public.due n) ≡ true → b.seen.waits ≡ true
  pub shown : (n : ℕ) → n < 32 → (b.mark n).asked ≡ false → (s.seen.told n).cancelled ≡ false → s.shown n ≡ true → b.seen.shown n ≡ true

-- what holds of an observer of a whole trace: what may be a moment behind any flit was one
pub record Well (s : Watched) : Type 0 where
  pub sound : Sound s.seen
  pub holds : (n : ℕ) → n < 32 → holds_by (is_open_clean (s.seen.public.due n)) (s.seen.public.due n) (s.seen.told n) ≡ true
  pub still : (n : ℕ) → n < 32 → awaits_moment (s.seen.public.due n) ≡ true → moment_by tells_none s.seen n ≡ true → s.shown n ≡ true

-- PUT
pub put_twice : {A : Type 0} (n : ℕ) (x y : A) (f : ℕ → A) → put n x (put n y f) ≡ put n x f
put_twice n x y f = fun_ext (split (λ m. put n x (put n y f) m ≡ put n x f m) n
    (here n x (put n y f) ∙ sym (here n x f))
    (λ m h. there n x (put n y f) m h ∙ there n y f m h ∙ sym (there n x f m h)))

pub put_over : {A : Type 0} (n : ℕ) (g : A → A) (x y : A) (f : ℕ → A) → put n x f n ≡ y → put n (g (put n x f n)) (put n x f) ≡ put n (g y) f
put_over n g x y f h = ap (λ v. put n (g v) (put n x f)) h ∙ put_twice n (g y) x f

-- what is put for each agent
pub both_here : (n : ℕ) (x : Both) (k : ℕ → AgentBegun) (d : ℕ → Due) (q : ℕ → Option Snoop) (t : ℕ → Known) (e : ℕ → Due) (p : ℕ → Option Snoop) (u : ℕ → Known) → IsAbove x
    → IsAbove (record { mark = put n x.mark k n; due = put n x.due d n; snooped = put n x.snooped q n; told = put n x.told t n; kept_due = put n x.kept_due e n; kept_snooped = put n x.kept_snooped p n; kept_told = put n x.kept_told u n })
both_here n x k d q t e p u h = subst IsAbove (sym (λ i. record { mark = here n x.mark k i; due = here n x.due d i; snooped = here n x.snooped q i; told = here n x.told t i; kept_due = here n x.kept_due e i; kept_snooped = here n x.kept_snooped p i; kept_told = here n x.kept_told u i })) h

pub both_there : (n : ℕ) (x : Both) (k : ℕ → AgentBegun) (d : ℕ → Due) (q : ℕ → Option Snoop) (t : ℕ → Known) (e : ℕ → Due) (p : ℕ → Option Snoop) (u : ℕ → Known) (m : ℕ) → m ≢ n
    → IsAbove (record { mark = k m; due = d m; snooped = q m; told = t m; kept_due = e m; kept_snooped = p m; kept_told = u m })
    → IsAbove (record { mark = put n x.mark k m; due = put n x.due d m; snooped = put n x.snooped q m; told = put n x.told t m; kept_due = put n x.kept_due e m; kept_snooped = put n x.kept_snooped p m; kept_told = put n x.kept_told u m })
both_there n x k d q t e p u m apart h = subst IsAbove (sym (λ i. record { mark = there n x.mark k m apart i; due = there n x.due d m apart i; snooped = there n x.snooped q m apart i; told = there n x.told t m apart i; kept_due = there n x.kept_due e m apart i; kept_snooped = there n x.kept_snooped p m apart i; kept_told = there n x.kept_told u m apart i })) h

-- BESIDE A COPY THAT IS ALONE
abbrev pub told_so : Bool → AgentBegun → AgentBegun
told_so alone k = if alone then mark_told k else k

abbrev both_told : Both → Both
both_told x = record { mark = mark_told x.mark; due = x.due; snooped = x.snooped; told = x.told; kept_due = x.kept_due; kept_snooped = x.kept_snooped; kept_told = x.kept_told }

known_above : (x : Both) → IsAbove x → same (strongest x.told.told) Invalid ≡ true → IsAbove (both_told x)
known_above x a h = record {
  due = a.due;
  snooped = a.snooped;
  told = a.told ∙ same_told_is (told_kept x.mark.copy x.told.told) x.told.told (left _ _ (keeps_gone x.mark.copy x.mark.asked x.due x.told.told a.stands h));
  cancelled = a.cancelled;
  stands = refl;
}

pub beside_above : (alone : Bool) (k : AgentBegun) (d : Due) (q : Option Snoop) (t : Known) (e : Due) (p : Option Snoop) (u : Known) → (alone ≡ true → same (strongest t.told) Invalid ≡ true)
    → IsAbove (record { mark = k; due = d; snooped = q; told = t; kept_due = e; kept_snooped = p; kept_told = u })
    → IsAbove (record { mark = told_so alone k; due = d; snooped = q; told = t; kept_due = e; kept_snooped = p; kept_told = u })
beside_above true k d q t e p u h a = known_above (record { mark = k; due = d; snooped = q; told = t; kept_due = e; kept_snooped = p; kept_told = u }) a (h refl)
beside_above false k d q t e p u h a = a

-- WHAT IS FORGOTTEN
abbrev pub both_forgotten : Watched → Beginning → ℕ → Both
both_forgotten s b n = record {
  mark = mark_forgotten (b.mark n);
  due = s.seen.public.due n;
  snooped = s.seen.public.snooped n;
  told = s.seen.told n;
  kept_due = b.seen.seen.public.due n;
  kept_snooped = b.seen.seen.public.snooped n;
  kept_told = record { told = I; cancelled = (b.seen.seen.told n).cancelled };
}

all_shown_low : (n : ℕ) → n < 32 → all_shown n ≡ true
all_shown_low n low = get_or-replicate 32 n true false low

implies_true : (b : Bool) → implies b true ≡ true
implies_true true = refl
implies_true false = refl

none_some : (v : List ℕ) → None ≡ Some v → false ≡ true
none_some v h = absurd (search (rules, arith))

pub forgotten_above : (s : Watched) (b : Beginning) (n : ℕ) → b.seen.seen.public.stores ≡ s.seen.public.stores → ((m : ℕ) → m < 32 → m ≢ n → IsAbove (both_of s b m)) → (n < 32 → IsAbove (both_forgotten s b n)) → Above s (forgotten n b)
forgotten_above s b n same others own = record {
  stores = same;
  agents = split (λ m. m < 32 → IsAbove (both_of s (forgotten n b) m)) n
      (λ low. subst IsAbove (sym (λ i. record {
        mark = here n (mark_forgotten (b.mark n)) b.mark i;
        due = s.seen.public.due n;
        snooped = s.seen.public.snooped n;
        told = s.seen.told n;
        kept_due = b.seen.seen.public.due n;
        kept_snooped = b.seen.seen.public.snooped n;
        kept_told = here n (record { told = I; cancelled = (b.seen.seen.told n).cancelled }) b.seen.seen.told i;
      })) (own low))
      (λ m apart low. subst IsAbove (sym (λ i. record {
        mark = there n (mark_forgotten (b.mark n)) b.mark m apart i;
        due = s.seen.public.due m;
        snooped = s.seen.public.snooped m;
        told = s.seen.told m;
        kept_due = b.seen.seen.public.due m;
        kept_snooped = b.seen.seen.public.snooped m;
        kept_told = there n (record { told = I; cancelled = (b.seen.seen.told n).cancelled }) b.seen.seen.told m apart i;
      })) (others m low apart));
  duty = implies_true s.seen.public.duty;
  current = implies_true s.seen.current;
  words = λ v h. no (none_some v h);
  waits = λ m low free waiting. refl;
  shown = λ m low free still was. all_shown_low m low;
}
