-- Whole traces.
use Rattle.std.proofs.Common.{rules, arith, ◌≡◌, ℕ, ◌<◌, [], ◌∷◌, refl, sym, ap, subst}
use Rattle.std.specs.Prelude.{Bool, true, false}
use Rattle.chi_observer.specs.declared.told.Told.TheVariants.{I}
use Rattle.chi_observer.specs.declared.flits.Due.TheVariants.{Nothing}
use Rattle.chi_observer.specs.declared.flits.Stores.{Stores}
use Rattle.chi_observer.specs.declared.flits.Stores.TheVariants.{Hidden, Listed}
use Rattle.chi_observer.specs.declared.flits.Flit.TheVariants.{Up, Down}
use Rattle.chi_observer.specs.Copies.{Held, holds_data}
use Rattle.chi_observer.specs.Copies.Copy.{Invalid}
use Rattle.chi_observer.specs.Rules.{plain, are_hidden}
use Rattle.chi_observer.specs.Tables.{Known, reach, fresh}
use Rattle.chi_observer.specs.Worlds.{World, Coherent, Sends, Gives, Drift, public_after, public_granted}
use Rattle.chi_observer.specs.Worlds.Drift.{Stay, Step}
use Rattle.chi_observer.specs.Observed.{Observed, Sound, Meaning, next, next_home}
use Rattle.chi_observer.specs.Runs.{public_of, seen, AcceptedIsExact, AcceptedIsCoherent}
use Rattle.chi_observer.proofs.Finite.{no, implies, follow, all_helds, each_held}
use Rattle.chi_observer.proofs.Facts.{same_held, same_held_is, and_false}
use Rattle.chi_observer.proofs.Cache.{coherent, leads}
use Rattle.chi_observer.proofs.Comes.{closed, kept}
use Rattle.chi_observer.proofs.Back.{comes}
use Rattle.chi_observer.proofs.Copies.{home_kept}
use Rattle.chi_observer.proofs.Home.{home_leads}
use Rattle.chi_observer.proofs.Origin.{home_comes}

pub drifts : (o : Observed) (w w' : World) → Sound o → Drift o.public w w' → Meaning o w → Meaning o w'
drifts o w w' sound Stay m = m
drifts o w w' sound (Step {u = u} {v = v} {w = w''} h d) m = drifts o v w'' sound d (closed o u v sound m h)

abbrev none : Known
none = record { told = I; cancelled = false }

start_table : Stores → Held → Bool
start_table mode s = implies (reach mode Nothing none s) (same_held s (plain Invalid))

start_holds : (mode : Stores) → all_helds (start_table mode) ≡ true
unfolding start_table
start_holds Hidden = refl
start_holds Listed = refl

start_copy : (mode : Stores) (s : Held) → reach mode Nothing none s ≡ true → s ≡ plain Invalid
unfolding start_table
start_copy mode s h = same_held_is s (plain Invalid) (follow (reach mode Nothing none s) _ (each_held (start_table mode) (start_holds mode) s) h)

pub exact : AcceptedIsExact
exact mode [] a = record {
  sound = record { pairs = λ _ _ _ _ _. refl; owner = λ e th. no (sym e) };
  public = refl;
  meant = λ w h. record {
    told = λ n l. subst (λ x. reach mode Nothing none x ≡ true) (sym (h.0 n l)) refl;
    words = λ n l v. no (subst (λ (x : Held). holds_data x.copy ≡ true) (h.0 n l) v);
    home = λ v e. search (rules, arith);
    current = λ _ _. sym h.1;
  };
  after = λ w m. let copies : (n : ℕ) → n < 32 → w.state n ≡ plain Invalid = λ n l. start_copy mode (w.state n) (m.told n l) in
      (copies, sym (m.current refl (λ n l. subst (λ x. fresh mode Nothing none x ≡ false) (sym (copies n l)) (and_false (are_hidden mode) _ refl))));
}
exact mode (Up f ∷ es) a =
    let e = exact mode es a.0 in
    let same_public : (next (seen mode es) f).public ≡ public_of mode (Up f ∷ es) = ap (public_after f) e.public in
    let sound : Sound (next (seen mode es) f) = kept (seen mode es) f e.sound a.1 a.2 in
    record {
      sound = sound;
      public = same_public;
      meant = λ w h. drifts (next (seen mode es) f) h.1 w sound (subst (λ p. Drift p h.1 w) (sym same_public) h.4)
          (leads (seen mode es) f h.0 h.1 e.sound a.1 (e.meant h.0 h.2) (subst (λ p. Sends p f h.0 h.1) (sym e.public) h.3));
      after = λ w m. let c = comes (seen mode es) f w e.sound a.1 a.2 m in
          (c.before, c.sent, e.after c.before c.meant, subst (λ p. Sends p f c.before c.sent) e.public c.sends, subst (λ p. Drift p c.sent w) same_public c.drifts);
    }
exact mode (Down g ∷ es) a =
    let e = exact mode es a.0 in
    let same_public : (next_home (seen mode es) g).public ≡ public_of mode (Down g ∷ es) = ap (public_granted g) e.public in
    let sound : Sound (next_home (seen mode es) g) = home_kept (seen mode es) g e.sound a.1 a.2 in
    record {
      sound = sound;
      public = same_public;
      meant = λ w h. drifts (next_home (seen mode es) g) h.1 w sound (subst (λ p. Drift p h.1 w) (sym same_public) h.5)
          (home_leads (seen mode es) g h.0 h.1 e.sound a.1 a.2 (e.meant h.0 h.2) h.3 (subst (λ p. Gives p g h.0 h.1) (sym e.public) h.4));
      after = λ w m. let c = home_comes (seen mode es) g w e.sound a.1 a.2 m in
          (c.before, c.given, e.after c.before c.meant, c.informed, subst (λ p. Gives p g c.before c.given) e.public c.gives, subst (λ p. Drift p c.given w) same_public c.drifts);
    }

pub coherent_after : AcceptedIsCoherent
coherent_after mode es a w h = let e = exact mode es a in subst (λ p. Coherent p w) e.public (coherent (seen mode es) w e.sound (e.meant w h))
