-- What data of a line lack that come in beats (docs/OBSERVER.md, "Data in beats").
use Rattle.std.specs.Prelude.{ℕ, zero, suc, ◌+◌, ◌&&◌, ◌||◌, Bool, true, false, not, List, Option, Some, None, if◌then◌else◌, nat_lt}
use Rattle.chi_observer.specs.declared.wanted.Wanted.{Wanted}
use Rattle.chi_observer.specs.declared.wanted.Wanted.TheVariants as wants
use Rattle.chi_observer.specs.Worded.{Words}
use Rattle.chi_observe.specs.declared.lacking.Lacking.{Lacking}
use Rattle.chi_observe.specs.declared.lacking.Lacking.TheVariants as lacks
use Rattle.chi_observe.specs.Words.{but_known, lacks_some, left_of, none_lack, unknown_behind}

-- the words that no flit has shown, and those behind one that lacks such words
abbrev pub unknown_in : Lacking → List Bool
unknown_in (lacks.Words unknown others had) = unknown
unknown_in lacking = none_lack

-- the home doesn't show words before it has them
abbrev pub may_show : Lacking → Bool → List Bool → Bool
may_show (lacks.Words unknown others had) given lacking = not given || (had || not (lacks_some (left_of unknown lacking)))
may_show other given lacking = true

-- what lacks behind the first beat of data, if the line is told of them; behind their last one; and behind another flit
abbrev pub lacking_with : Lacking → Wanted → Bool → List Bool → Words → Option Lacking
lacking_with lacks.Nothing wants.Any given lacking known = Some (lacks.Words (but_known known lacking) 0 given)
lacking_with (lacks.Words unknown others had) wants.Known given lacking known =
    if may_show (lacks.Words unknown others had) given lacking && nat_lt others 255 then Some (lacks.Words (unknown_behind unknown lacking) (others + 1) had) else None
lacking_with lacking wanted given words known = None

abbrev pub words_without : ℕ → Bool → Lacking
words_without zero had = lacks.Nothing
words_without (suc others) had = lacks.Words none_lack others had

abbrev pub lacking_without : Lacking → Lacking
lacking_without (lacks.Words unknown others had) = words_without others had
lacking_without other = lacks.Nothing

abbrev pub lacking_shown : Lacking → List Bool → Lacking
lacking_shown (lacks.Words unknown others had) lacking = lacks.Words (unknown_behind unknown lacking) others had
lacking_shown other lacking = other

abbrev pub is_none_lacking : Lacking → Bool
is_none_lacking lacks.Nothing = true
is_none_lacking other = false

abbrev pub is_data_lacking : Lacking → Bool
is_data_lacking lacks.Data = true
is_data_lacking other = false

abbrev pub is_known_lacking : Lacking → Bool
is_known_lacking lacks.Nothing = true
is_known_lacking lacks.Data = false
is_known_lacking (lacks.Words unknown others had) = not (lacks_some unknown)
