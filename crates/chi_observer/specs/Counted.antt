-- A load that tells of a store which nobody saw counts as that store (docs/OBSERVER.md, "Flits of a cache").
use Rattle.std.specs.Prelude.{◌≡◌, ℕ, ◌<◌, Bool, true, false, ◌&&◌, not, nat_lt}
use Rattle.chi_observer.specs.declared.flits.Word.{Word}
use Rattle.chi_observer.specs.declared.flits.Act.TheVariants.{Load, Store}
use Rattle.chi_observer.specs.declared.flits.CacheFlit.{CacheFlit}
use Rattle.chi_observer.specs.declared.flits.Flit.{Flit}
use Rattle.chi_observer.specs.declared.flits.Flit.TheVariants.{Up, Down}
use Rattle.chi_observer.specs.Copies.{holds_data}
use Rattle.chi_observer.specs.Rules.{has_word, looks, may_be_free, reads_any}
use Rattle.chi_observer.specs.Tables.{most}
use Rattle.chi_observer.specs.Worlds.{World, Drift}
use Rattle.chi_observer.specs.Observed.{Observed, Sound, Meaning, fits_word, next, takes}
use Rattle.chi_observer.specs.Lines.{Watched}

-- the value last stored is the home's, but for stores that nobody saw; and the copy of n has data, and may have been stored to
abbrev pub may_tell_store : Observed → ℕ → Bool
may_tell_store o n = o.current && (reads_any o.public.stores (o.public.due n) (most (o.told n)) && holds_data (most (o.told n)))

-- so a load of another word than the home's tells of a store
abbrev pub tells_store : Observed → ℕ → Word → Bool
tells_store o n word = may_tell_store o n && not (fits_word o.home (Load word))

-- a load that does where its word isn't the home's
abbrev pub may_tell : Watched → Flit → Bool
may_tell s (Up f) = nat_lt f.agent.0 32 && (looks f.act && may_tell_store s.seen f.agent.0)
may_tell s (Down g) = false

-- the store of that word
abbrev pub stored : CacheFlit → Word → CacheFlit
stored f word = record f { act = Store word }

-- THE LAW
-- Such a load is taken, and so is the store.
abbrev pub CountedLoadsAreTaken : Type 0
CountedLoadsAreTaken = (o : Observed) (f : CacheFlit) (word : Word) → f.act ≡ Load word → tells_store o f.agent.0 word ≡ true → (takes o f ≡ true) × (takes o (stored f word) ≡ true)

-- the copy of n has data, and this word
abbrev pub HasWord : ℕ → Word → World → Type 0
HasWord n word w = (holds_data (w.state n).copy ≡ true) × (has_word (Load word) (w.words n) ≡ true)

-- Each world whose copy has the word is one that the store leaves.
abbrev pub CountedLoadsLead : Type 0
CountedLoadsLead = (o : Observed) (f : CacheFlit) (word : Word) (w : World) → Sound o → f.agent.0 < 32 → tells_store o f.agent.0 word ≡ true → Meaning o w → HasWord f.agent.0 word w → Meaning (next o (stored f word)) w

-- Where no request of its agent is open, or one that was retried, hidden steps lead from such worlds to each of those.
pub record ComesRead (o : Observed) (n : ℕ) (word : Word) (w' : World) : Type 0 where
  pub before : World
  pub meant : Meaning o before
  pub read : HasWord n word before
  pub drifts : Drift o.public before w'

abbrev pub CountedLoadsCome : Type 0
CountedLoadsCome = (o : Observed) (f : CacheFlit) (word : Word) (w' : World) → Sound o → f.agent.0 < 32 → tells_store o f.agent.0 word ≡ true → may_be_free (o.public.due f.agent.0) ≡ true
    → Meaning (next o (stored f word)) w' → ComesRead o f.agent.0 word w'
