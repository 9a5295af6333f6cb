-- A moment of what is told is one of what is told less surely.
use Rattle.std.proofs.Common.{◌≡◌, ◌≢◌, ℕ, ◌<◌, refl, sym}
use Rattle.std.specs.Prelude.{Bool, true, false, ◌&&◌, ◌||◌, ◌==◌, not, if◌then◌else◌}
use Rattle.chi_observer.specs.declared.flits.Flit.{Flit}
use Rattle.chi_observer.specs.Copies.{is_dirty, is_unique}
use Rattle.chi_observer.specs.Rules.{hides_stores, reads_once}
use Rattle.chi_observer.specs.Tables.{most}
use Rattle.chi_observer.specs.Worlds.{all_below}
use Rattle.chi_observer.specs.Observed.{Observed}
use Rattle.chi_observer.specs.Moments.{is_moment, may_be_dirty, may_be_stored, tells_of}
use Rattle.chi_observer.proofs.Finite.{no, left, right, both, implies, follow}
use Rattle.chi_observer.proofs.Put.{differ}
use Rattle.chi_observer.proofs.Copies.{below_all, each_below}

-- whether the copy of m may have been stored to, or be dirty, where the flit told of it
abbrev pub stored_at : (ℕ → Bool) → Observed → ℕ → Bool
stored_at tells o m = may_be_stored o.public.stores (o.public.due m) (o.told m) (tells m)

abbrev pub dirty_at : (ℕ → Bool) → Observed → ℕ → Bool
dirty_at tells o m = may_be_dirty o.public.stores (o.public.due m) (o.told m) (tells m)

abbrev pub moment_by : (ℕ → Bool) → Observed → ℕ → Bool
moment_by tells o n = if reads_once (o.public.due n)
    then (o.current && all_below 32 (λ m. not (stored_at tells o m)))
    else ((is_dirty (most (o.told n)) || o.current) && all_below 32 (λ m. m == n || not (dirty_at tells o m)))

pub record IsBelow (σ τ : ℕ → Bool) (o p : Observed) (n : ℕ) : Type 0 where
  pub reads : reads_once (o.public.due n) ≡ reads_once (p.public.due n)
  pub current : implies o.current p.current ≡ true
  pub own : is_dirty (most (o.told n)) ≡ true → (is_dirty (most (p.told n)) || p.current) ≡ true
  pub stored : (m : ℕ) → m < 32 → implies (not (stored_at σ o m)) (not (stored_at τ p m)) ≡ true
  pub dirty : (m : ℕ) → m < 32 → m ≢ n → implies (not (dirty_at σ o m)) (not (dirty_at τ p m)) ≡ true

by_kind : (r q : Bool) (a b c d : Bool) → r ≡ q → (a ≡ true → c ≡ true) → (b ≡ true → d ≡ true) → (if r then a else b) ≡ true → (if q then c else d) ≡ true
by_kind true true a b c d e f g h = f h
by_kind true false a b c d e f g h = no (sym e)
by_kind false true a b c d e f g h = no e
by_kind false false a b c d e f g h = g h

own_or : (a b c d : Bool) → (a ≡ true → (c || d) ≡ true) → implies b d ≡ true → (a || b) ≡ true → (c || d) ≡ true
own_or true b c d f g h = f refl
own_or false true true d f g h = refl
own_or false true false d f g h = g
own_or false false c d f g h = no h

beside : (e x y : Bool) → (e ≡ false → implies x y ≡ true) → (e || x) ≡ true → (e || y) ≡ true
beside true x y f h = refl
beside false true y f h = f refl
beside false false y f h = no h

pub moment_below : (σ τ : ℕ → Bool) (o p : Observed) (n : ℕ) → IsBelow σ τ o p n → moment_by σ o n ≡ true → moment_by τ p n ≡ true
moment_below σ τ o p n i = by_kind (reads_once (o.public.due n)) (reads_once (p.public.due n)) _ _ _ _ i.reads
    (λ h. both p.current _ (follow o.current p.current i.current (left o.current _ h))
    (below_all 32 (λ m. not (stored_at τ p m)) (λ m l. follow (not (stored_at σ o m)) _ (i.stored m l) (each_below 32 (λ m. not (stored_at σ o m)) (right o.current _ h) m l))))
    (λ h. both (is_dirty (most (p.told n)) || p.current) _ (own_or (is_dirty (most (o.told n))) o.current _ p.current i.own i.current (left (is_dirty (most (o.told n)) || o.current) _ h))
    (below_all 32 (λ m. m == n || not (dirty_at τ p m)) (λ m l. beside (m == n) (not (dirty_at σ o m)) (not (dirty_at τ p m)) (λ e. i.dirty m l (differ m n e))
    (each_below 32 (λ m. m == n || not (dirty_at σ o m)) (right (is_dirty (most (o.told n)) || o.current) _ h) m l))))

-- where it tells of none, the moment is one behind every flit
abbrev pub tells_none : ℕ → Bool
tells_none m = false

less_stored : (told b : Bool) → implies (not (not false && b)) (not (not told && b)) ≡ true
less_stored true true = refl
less_stored true false = refl
less_stored false true = refl
less_stored false false = refl

less_dirty : (told d b : Bool) → implies (not (d || (not false && b))) (not (d || (not told && b))) ≡ true
less_dirty told true b = refl
less_dirty true false true = refl
less_dirty true false false = refl
less_dirty false false true = refl
less_dirty false false false = refl

pub implies_self : (b : Bool) → implies b b ≡ true
implies_self true = refl
implies_self false = refl

pub or_first : (a b : Bool) → a ≡ true → (a || b) ≡ true
or_first true b h = refl
or_first false b h = no h

pub still_moment : (o : Observed) (e : Flit) (n : ℕ) → moment_by tells_none o n ≡ true → is_moment o e n ≡ true
still_moment o e n h = moment_below tells_none (tells_of e) o o n (record {
  reads = refl;
  current = implies_self o.current;
  own = λ d. or_first (is_dirty (most (o.told n))) o.current d;
  stored = λ m l. less_stored (tells_of e m) (hides_stores o.public.stores (o.public.due m) && is_unique (most (o.told m)));
  dirty = λ m l d. less_dirty (tells_of e m) (is_dirty (most (o.told m))) (hides_stores o.public.stores (o.public.due m) && is_unique (most (o.told m)));
}) h
