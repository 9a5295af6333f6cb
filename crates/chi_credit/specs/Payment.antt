-- What a port does with a credit: it spends one, or gives one back (docs/PROTOCOL.md, "Steps of the tracker").
use Rattle.std.specs.Prelude.{◌≡◌, ℕ}
use Rattle.chi_tracker.specs.Views.{has}
use Rattle.chi_tracker.specs.declared.released.Released.{Released}
use Rattle.chi_tracker.specs.declared.step.AtomicStep.TheVariants.{Spend}
use Rattle.chi_tracker.specs.Steps.{spends}
use Rattle.chi_tracker.specs.Calls.{Owner, with_return, HasSameCredits, IsLowestSeen, HasOneLess}
use Rattle.chi_tracker.specs.Conduct.{HasActed, One, ReturnActs}

-- the lowest seen credit of type t was spent: its entry e, which wasn't in hand, came to hand
pub record HasSpent (t e : ℕ) (old new : Owner) : Type 0 where
  pub lowest : IsLowestSeen old.port t e
  pub held : has e old.port ≡ 0
  pub port : new.port ≡ spends t e old.port
  pub fewer : HasOneLess t old.port new.port
  pub acts : HasActed (One (Spend t e)) old new

-- the lowest seen credit of type t was returned, and its entry released; the hand is as it was
pub record IsGivenBack (t : ℕ) (released : Released) (old new : Owner) : Type 0 where
  pub hand : (i : ℕ) → has i new.port ≡ has i old.port
  pub credits : HasSameCredits (with_return t new.port.seen old.port) new.port
  pub fewer : HasOneLess t old.port new.port
  pub acts : HasActed (ReturnActs old.port t released) old new
