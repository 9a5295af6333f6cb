-- The first among those that are left is the first of all.
use Rattle.std.proofs.Common.{◌≡◌, drop}
use Rattle.std.specs.List.{find}
use Rattle.chi_script.specs.Verbs.{verb_text}
use Rattle.chi_script.specs.Words.{is_text}
use Rattle.chi_script.proofs.verbs.first_named.Given as goal

abbrev pub invariant-loop-verb : goal.invariant-loop-verb
invariant-loop-verb l = find (λ verb. is_text l.word (verb_text verb)) (drop l.verb-index l.verbs) ≡ find (λ verb. is_text l.word (verb_text verb)) l.verbs
