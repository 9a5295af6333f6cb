-- Two words or more stand behind the third: no command has so many.
use Rattle.std.proofs.Common.{◌==◌, refl}
use Rattle.chi_script.proofs.LineLemmas.{parts_of}
use Rattle.chi_script.proofs.commands.with_words.Goals as goal

pub returns-in-Some-first_argument-3 : goal.returns-in-Some-first_argument-3
returns-in-Some-first_argument-3 c =
    let last = c.in-Some-first_argument-3 in
    let more = parts_of (λ b. b == 32) last.field-0.1.now in
    rw (c.in-Some.ensures.some, c.in-Some-first_argument.ensures.some, c.in-Some-first_argument-2.ensures.some, last.ensures.some, more.2) refl
