-- What the observer keeps of a line, which flits it takes, and which worlds that stands for (docs/OBSERVER.md, "What is
-- kept", "What is proved").
use Rattle.std.specs.Prelude.{◌≡◌, ◌≢◌, ℕ, ◌<◌, ◌==◌, List, Bool, true, false, ◌&&◌, ◌||◌, not, Option, Some, None, nat_eq, if◌then◌else◌}
use Rattle.std.specs.Cmp.Lexicographic.{pointwise}
use Rattle.chi_observer.specs.declared.flits.Act.{Act}
use Rattle.chi_observer.specs.declared.flits.CacheFlit.{CacheFlit}
use Rattle.chi_observer.specs.declared.flits.HomeFlit.{HomeFlit}
use Rattle.chi_observer.specs.Copies.{holds_data, same}
use Rattle.chi_observer.specs.Copies.Copy.{Invalid, UniqueDirty}
use Rattle.chi_observer.specs.Rules.{has_data, has_word, reads_any, tells_words, lets_go, needs_alone, makes, settles, allows}
use Rattle.chi_observer.specs.Tables.{Known, most, reach, fresh, goes_with, told_after, fits_told, renews, told_granted, fills_told, shows_told}
use Rattle.chi_observer.specs.Worlds.{Public, World, home_may, all_below, put, public_after, public_granted}

-- what flits say by themselves; what is told of each copy; the home's words, where flits have shown them; whether the
-- value last stored is the home's, but for stores that nobody saw
pub record Observed : Type 0 where
  pub public : Public
  pub told : ℕ → Known
  pub home : Option (List ℕ)
  pub current : Bool

-- what always holds of it: what is told goes together, and where the value isn't the home's someone is surely dirty, or a
-- SnpMakeInvalid was answered
pub record Sound (o : Observed) : Type 0 where
  pub pairs : (n m : ℕ) → n < 32 → m < 32 → n ≢ m → goes_with (o.told n) (o.told m) ≡ true
  pub owner : o.current ≡ false → o.public.thrown ≡ false → (n : ℕ) × (n < 32) × (same (most (o.told n)) UniqueDirty ≡ true)

-- nobody has stored since the value was told
abbrev pub Unstored : Observed → World → Type 0
Unstored o w = (n : ℕ) → n < 32 → fresh o.public.stores (o.public.due n) (o.told n) (w.state n) ≡ false

-- the worlds that it stands for
pub record Meaning (o : Observed) (w : World) : Type 0 where
  pub told : (n : ℕ) → n < 32 → reach o.public.stores (o.public.due n) (o.told n) (w.state n) ≡ true
  pub words : (n : ℕ) → n < 32 → holds_data (w.state n).copy ≡ true → w.words n ≡ w.last
  pub home : (v : List ℕ) → o.home ≡ Some v → w.home ≡ v
  pub current : o.current ≡ true → Unstored o w → w.last ≡ w.home

-- such words may be what is known
abbrev pub fits : Option (List ℕ) → List ℕ → Bool
fits None v = true
fits (Some u) v = pointwise nat_eq u v

abbrev pub fits_word : Option (List ℕ) → Act → Bool
fits_word None a = true
fits_word (Some u) a = has_word a u

-- A FLIT OF A CACHE
-- its data are the value, where that is known, and a load's word is one of it
abbrev pub words_fit : Observed → CacheFlit → Bool
words_fit o f = (not (has_data f.act) || (renews o.public.stores f.act (lets_go (o.public.snooped f.agent.0)) (o.public.due f.agent.0) (o.told f.agent.0) || (not o.current || fits o.home f.shown)))
    && (reads_any o.public.stores (o.public.due f.agent.0) (most (o.told f.agent.0)) || (not o.current || fits_word o.home f.act))

-- some copy sends it, with such words
abbrev pub takes : Observed → CacheFlit → Bool
takes o f = allows f.act (o.public.snooped f.agent.0) && (fits_told o.public.stores f.act (lets_go (o.public.snooped f.agent.0)) (o.public.due f.agent.0) (o.told f.agent.0) && words_fit o f)

-- its data are surely not the value that is known
abbrev pub differs : Observed → CacheFlit → Bool
differs o f = has_data f.act && (o.current && not (fits o.home f.shown))

abbrev pub home_after : CacheFlit → Option (List ℕ) → Option (List ℕ)
home_after f home = if tells_words f.act then Some f.shown else home

abbrev pub current_after : CacheFlit → Bool → Bool → Bool
current_after f renewed current = if tells_words f.act then true else (if renewed then false else current)

-- d: its data are known to be others than the value
abbrev pub next_as : Observed → CacheFlit → Bool → Observed
next_as o f d = record {
  public = public_after f o.public;
  told = put f.agent.0 (told_after f.act (o.public.due f.agent.0) (o.told f.agent.0) d) o.told;
  home = home_after f o.home;
  current = current_after f (renews o.public.stores f.act (lets_go (o.public.snooped f.agent.0)) (o.public.due f.agent.0) (o.told f.agent.0)) o.current;
}

abbrev pub next : Observed → CacheFlit → Observed
next o f = next_as o f (differs o f)

-- A FLIT OF THE HOME
-- no other copy is told to be what doesn't go with the agent's then, nor to be any where the flit says that none is left
abbrev pub is_beside : Known → Bool → Known → Bool
is_beside k alone l = goes_with k l && (not alone || same (most l) Invalid)

abbrev pub goes : Observed → HomeFlit → Bool
goes o g = all_below 32 (λ m. m == g.agent.0 || is_beside (told_granted g.grant (o.public.due g.agent.0) (o.told g.agent.0)) (needs_alone g.grant (o.public.due g.agent.0)) (o.told m))

abbrev pub takes_home : Observed → HomeFlit → Bool
takes_home o g = home_may o.public g && ((not (shows_told g.grant (o.told g.agent.0)) || fits o.home g.shown)
    && ((not (fills_told g.grant (o.told g.agent.0)) || o.current) && goes o g))

abbrev pub next_home : Observed → HomeFlit → Observed
next_home o g = record {
  public = public_granted g o.public;
  told = put g.agent.0 (told_granted g.grant (o.public.due g.agent.0) (o.told g.agent.0)) o.told;
  home = if shows_told g.grant (o.told g.agent.0) then Some g.shown else o.home;
  current = settles g.grant (o.public.due g.agent.0) || (o.current && not (makes g.grant (o.public.due g.agent.0)));
}
