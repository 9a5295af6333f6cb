-- What a watch is given: the types of credit that were asked for, and whether all stores are listed.
use Rattle.chi_observe.specs.declared.credits.CreditTypes.{CreditTypes}
use Rattle.chi_observe.specs.declared.credits.CreditTypes.TheVariants as watched
use Rattle.chi_observer.specs.declared.flits.Stores.{Stores}
use Rattle.chi_observer.specs.declared.flits.Stores.TheVariants.{Hidden, Listed}
use Rattle.chi_explain.specs.declared.observed.StoreListing.{StoreListing}
use Rattle.chi_explain.specs.declared.observed.StoreListing.TheVariants.{Partial, Complete}
use Rattle.chi_resolution.specs.declared.ledger.Types.{Types}
use Rattle.chi_resolution.specs.declared.ledger.Types.TheVariants.{Two, Four, Any}

abbrev pub types_watched : Types → CreditTypes
types_watched Two = watched.Two
types_watched Four = watched.Four
types_watched Any = watched.Any

abbrev pub stores_watched : StoreListing → Stores
stores_watched Partial = Hidden
stores_watched Complete = Listed
