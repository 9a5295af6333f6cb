-- A fault passes through what follows.
use Rattle.std.proofs.Common.{Result, ap}
use Rattle.chi_trace.specs.declared.faults.TraceFault.{TraceFault}
use Rattle.chi_trace.specs.declared.faults.TraceFault.TheVariants.{NoMemory, TooLarge, Gzip, LongLine, MissingNewline, FewWords, BadWord}
use Rattle.chi_trace.specs.Faults.{TraceFails}
use Rattle.chi_trace.specs.Files.{◌>>=◌}

pub failed : {A B : Type 0} (fault : TraceFault) (read : Result A TraceFault) (next : A → Result B TraceFault) → TraceFails fault read → TraceFails fault (read >>= next)
failed NoMemory read next is = tt
failed TooLarge read next is = ap (λ r. r >>= next) is
failed Gzip read next is = ap (λ r. r >>= next) is
failed (LongLine line) read next is = ap (λ r. r >>= next) is
failed (MissingNewline line) read next is = ap (λ r. r >>= next) is
failed (FewWords line) read next is = ap (λ r. r >>= next) is
failed (BadWord line column) read next is = ap (λ r. r >>= next) is
