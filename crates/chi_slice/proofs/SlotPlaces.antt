-- The places of a list of spots.
use Rattle.std.proofs.Common.{◌≡◌, ℕ, ◌<◌, List, None, get_or, length, map, set}
use Rattle.std.proofs.lemmas.List.{get_or-map, map-set}
use Rattle.chi_slice.specs.declared.places.SlotPlace.{SlotPlace}
use Rattle.chi_slice.specs.Index.{place_of_spot}

pub spot_place : (spots : List SlotPlace) (n : ℕ) (spot : SlotPlace) → n < length spots → get_or (map place_of_spot spots) n None ≡ place_of_spot (get_or spots n spot)
spot_place spots n spot low = get_or-map place_of_spot spots n spot None low

pub other_place : (spots : List SlotPlace) (n : ℕ) (spot : SlotPlace) → map place_of_spot (set spots n spot) ≡ set (map place_of_spot spots) n (place_of_spot spot)
other_place spots n spot = map-set place_of_spot spots n spot
