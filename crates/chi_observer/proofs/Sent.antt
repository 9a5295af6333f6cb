-- A flit of a cache that is taken is sent in some world, in which its copy has the word of a load.
use Rattle.std.proofs.Common.{◌≡◌, ℕ, ◌<◌, List, [], refl, sym, ap, subst, ◌∙◌}
use Rattle.std.specs.Prelude.{Bool, true, false, ◌&&◌, ◌||◌, not, Option, Some, None, if◌then◌else◌}
use Rattle.chi_observer.specs.declared.flits.Act.{Act}
use Rattle.chi_observer.specs.declared.flits.Act.TheVariants.{Load}
use Rattle.chi_observer.specs.declared.flits.Due.{Due}
use Rattle.chi_observer.specs.declared.flits.Due.TheVariants.{Acknowledgement}
use Rattle.chi_observer.specs.declared.flits.Stores.{Stores}
use Rattle.chi_observer.specs.declared.flits.Stores.TheVariants.{Hidden, Listed}
use Rattle.chi_observer.specs.declared.flits.CacheFlit.{CacheFlit}
use Rattle.chi_observer.specs.Copies.{Copy, Held, holds_data, is_unique}
use Rattle.chi_observer.specs.Rules.{allows, has_word, hides_stores, reads_any, reads_later, lets_go, looks}
use Rattle.chi_observer.specs.Tables.{Known, most, reach, fresh, fits_load, fits_told}
use Rattle.chi_observer.specs.Worlds.{World, Sends, put}
use Rattle.chi_observer.specs.Observed.{Observed, Sound, Meaning, fits_word, words_fit, takes, next}
use Rattle.chi_observer.specs.Laws.{SomeSends, CacheFlitsArePossible}
use Rattle.chi_observer.proofs.Finite.{no, left, right}
use Rattle.chi_observer.proofs.Facts.{or_here, or_there, top_copy, reach_self, data_looks}
use Rattle.chi_observer.proofs.Words.{or_words, any_word, words_for, for_word}
use Rattle.chi_observer.proofs.Put.{here, there, split}
use Rattle.chi_observer.proofs.Loads.{load_stores, load_writes, load_silent, load_acts}
use Rattle.chi_observer.proofs.Back.{comes}
use Rattle.chi_observer.proofs.Current.{stored_top, stored_found}

-- each copy the strongest that it is told
pub inhabited : (o : Observed) → (w : World) × Meaning o w
inhabited o = (
  record { state = λ k. top_copy (o.public.due k) (o.told k); words = λ _. or_words o.home []; last = or_words o.home []; home = or_words o.home [] },
  record { told = λ k _. reach_self o.public.stores (o.public.due k) (o.told k); words = λ _ _ _. refl; home = λ v e. ap (λ z. or_words z []) e; current = λ _ _. refl },
)

load_told : (mode : Stores) (a : Act) (x : Bool) (d : Due) (t : Known) → looks a ≡ true → fits_told mode a x d t ≡ true → fits_load (hides_stores mode d) t.told ≡ true
load_told mode (Load word) x d t h e = e
load_told mode other x d t h e = no h

one_of : (a b : Bool) → (a || b) ≡ true → b ≡ false → a ≡ true
one_of true b h e = refl
one_of false b h e = no (sym e ∙ h)

other_of : (a b : Bool) → (a || b) ≡ true → a ≡ false → b ≡ true
other_of true b h e = no (sym e)
other_of false b h e = h

unless : (c b : Bool) → (not c || b) ≡ true → c ≡ true → b ≡ true
unless true b h e = h
unless false b h e = no e

known_or : (a : Act) (h : Option (List ℕ)) → fits_word h a ≡ true → has_word a (or_words h (words_for a)) ≡ true
known_or a None e = for_word a
known_or a (Some v) e = e

-- where a load may be of any word, and no store may be done unseen, a CompAck is due
acked : (z : Stores) (d : Due) (c : Copy) → reads_any z d c ≡ true → (hides_stores z d && is_unique c) ≡ false → reads_later z d c ≡ true
acked Listed d c h e = no h
acked Hidden Acknowledgement c h e = h
acked Hidden other c h e = no (sym e ∙ h)

module _ (o : Observed) (f : CacheFlit) (sound : Sound o) (low : f.agent.0 < 32) (take : takes o f ≡ true) where
  abbrev n : ℕ
  n = f.agent.0

  abbrev mode : Stores
  mode = o.public.stores

  abbrev d : Due
  d = o.public.due n

  abbrev t : Known
  t = o.told n

  abbrev x : Bool
  x = lets_go (o.public.snooped n)

  abbrev any : Bool
  any = reads_any mode d (most t)

  abbrev unseen : Bool
  unseen = hides_stores mode d && is_unique (most t)

  abbrev tops : ℕ → Held
  tops k = top_copy (o.public.due k) (o.told k)

  rest : (fits_told mode f.act x d t && words_fit o f) ≡ true
  rest = right (allows f.act (o.public.snooped n)) _ take

  word_stands : (any || (not o.current || fits_word o.home f.act)) ≡ true
  word_stands = right _ _ (right (fits_told mode f.act x d t) _ rest)

  no_load : looks f.act ≡ false → SomeSends o f
  no_load h =
      let some = inhabited (next o f) in
      let back = comes o f some.0 sound low take some.1 in
      record { before = back.before; sent = back.sent; meant = back.meant; sends = back.sends; word = or_there _ _ (any_word f.act (back.before.words n) h) }

  module _ (load : looks f.act ≡ true) where
    as_it_is : (w : World) → holds_data (w.state n).copy ≡ true → Sends o.public f w w
    as_it_is w has = record {
      allowed = left _ _ take;
      act = load_acts f.act x d (w.state n) load has;
      shown = λ h. no (sym (data_looks f.act h) ∙ load);
      last = λ _. sym (ap (λ b. if b then f.shown else w.last) (load_writes f.act load));
      home = sym (ap (λ b. if b then f.shown else w.home) (load_silent f.act load));
      words = λ _ _. refl;
      stored = λ h. no (sym (load_stores f.act load) ∙ h);
      others = record { state = λ _ _ _. refl; words = λ _ _ _. refl };
    }

    top_holds : unseen ≡ false → holds_data (tops n).copy ≡ true
    top_holds e = one_of _ _ (load_told mode f.act x d t load (left _ _ rest)) e

    -- the copy wasn't stored to, and the home has the value
    abbrev value : List ℕ
    value = or_words o.home (words_for f.act)

    abbrev known_world : World
    known_world = record { state = tops; words = λ _. value; last = value; home = value }

    known_word : unseen ≡ false → o.current ≡ true → (b : Bool) → any ≡ b → (reads_later mode d (most t) || has_word f.act value) ≡ true
    known_word q c true e = or_here _ _ (acked mode d (most t) e q)
    known_word q c false e = or_there _ _ (known_or f.act o.home (unless o.current _ (other_of any _ word_stands e) c))

    of_known : unseen ≡ false → o.current ≡ true → SomeSends o f
    of_known e c = record {
      before = known_world;
      sent = known_world;
      meant = record {
        told = λ k _. reach_self o.public.stores (o.public.due k) (o.told k);
        words = λ _ _ _. refl;
        home = λ v h. ap (λ z. or_words z (words_for f.act)) h;
        current = λ _ _. refl;
      };
      sends = as_it_is known_world (top_holds e);
      word = known_word e c any refl;
    }

    -- or the home hasn't
    abbrev dirty_value : World
    dirty_value = record { state = tops; words = λ _. words_for f.act; last = words_for f.act; home = or_words o.home [] }

    of_unknown : unseen ≡ false → o.current ≡ false → SomeSends o f
    of_unknown e c = record {
      before = dirty_value;
      sent = dirty_value;
      meant = record {
        told = λ k _. reach_self o.public.stores (o.public.due k) (o.told k);
        words = λ _ _ _. refl;
        home = λ v h. ap (λ z. or_words z []) h;
        current = λ h _. no (sym c ∙ h);
      };
      sends = as_it_is dirty_value (top_holds e);
      word = or_there _ _ (for_word f.act);
    }

    -- or it was stored to unseen
    module _ (can : unseen ≡ true) where
      abbrev own : Held
      own = stored_top d

      abbrev stored_value : World
      stored_value = record { state = put n own tops; words = λ _. words_for f.act; last = words_for f.act; home = or_words o.home [] }

      found : (reach mode d t own && fresh mode d t own) ≡ true
      found = stored_found mode d t can

      of_stored : SomeSends o f
      of_stored = record {
        before = stored_value;
        sent = stored_value;
        meant = record {
          told = split (λ k. k < 32 → reach o.public.stores (o.public.due k) (o.told k) (put n own tops k) ≡ true) n
              (λ _. subst (λ z. reach mode d t z ≡ true) (sym (here n own tops)) (left _ _ found))
              (λ k h _. subst (λ z. reach o.public.stores (o.public.due k) (o.told k) z ≡ true) (sym (there n own tops k h)) (reach_self o.public.stores (o.public.due k) (o.told k)));
          words = λ _ _ _. refl;
          home = λ v h. ap (λ z. or_words z []) h;
          current = λ _ u. no (sym (u n low) ∙ subst (λ z. fresh mode d t z ≡ true) (sym (here n own tops)) (right (reach mode d t own) _ found));
        };
        sends = as_it_is stored_value (subst (λ (z : Held). holds_data z.copy ≡ true) (sym (here n own tops)) refl);
        word = or_there _ _ (for_word f.act);
      }

    of_load : (u c : Bool) → unseen ≡ u → o.current ≡ c → SomeSends o f
    of_load true c e g = of_stored e
    of_load false true e g = of_known e g
    of_load false false e g = of_unknown e g

  by_act : (l : Bool) → looks f.act ≡ l → SomeSends o f
  by_act true h = of_load h unseen o.current refl refl
  by_act false h = no_load h

  pub possible_here : SomeSends o f
  possible_here = by_act (looks f.act) refl

pub flits_possible : CacheFlitsArePossible
flits_possible o f sound low take = possible_here o f sound low take
