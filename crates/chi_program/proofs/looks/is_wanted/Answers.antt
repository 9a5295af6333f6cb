-- A check wants an answer where its line does.
use Rattle.std.proofs.Common.{◌≡◌, ◌∙◌, ℕ, Bor, List, Option, Some, None, is_some, option_map, refl}
use Rattle.chi_program.proofs.looks.is_wanted.Goals as goal

some_still : (it : Option (Bor (List ℕ))) → is_some it ≡ is_some (option_map (λ (text : Bor (List ℕ)). text.now) it)
some_still (Some text) = refl
some_still None = refl

pub returns : goal.returns
returns c = c.is_some.ensures ∙ some_still c.args.check.now.wanted
