use Rattle.std.proofs.Common.{◌≡◌, ℕ, ◌+◌, ◌*◌, List, ◌++◌, length, take}
use Rattle.chi_lanes.specs.Lists.{Lists}
use Rattle.chi_lanes.proofs.lists.read_words.Given as goal

abbrev pub invariant-loop-at : goal.invariant-loop-at
invariant-loop-at l = record {
  long : length l.left + 17 * l.at ≡ 135;
  eight : length l.words ≡ 8;
  front : (words : List ℕ) → Lists l.left words → Lists l.text (take l.at l.words ++ words);
  back : (words : List ℕ) → length words ≡ 8 → Lists l.text words → (rest : List ℕ) × (length rest + l.at ≡ 8) × Lists l.left rest;
}
