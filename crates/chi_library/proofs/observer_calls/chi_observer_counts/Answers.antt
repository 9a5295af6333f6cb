-- Those of what the handle holds.
use Rattle.std.proofs.Common.{Option, sym, ap, ◌∙◌}
use Rattle.std.specs.Global.{Global}
use Rattle.chi_observe.specs.declared.benches.BenchWatch.{BenchWatch}
use Rattle.chi_library.specs.Calls.{output_of}
use Rattle.chi_library.specs.ObserverCalls.{counts_in}
use Rattle.chi_library.specs.ObserverTold.{no_counts}
use Rattle.chi_library.proofs.observer_calls.chi_observer_counts.Goals as goal

pub returns-in-Some-clause-counts : goal.returns-in-Some-clause-counts
returns-in-Some-clause-counts c =
    c.counts_of.ensures
    ∙ (ap counts_in c.deref.ensures ∙ sym (ap (λ (held : Option (BenchWatch Global)). output_of held no_counts counts_in) c.in-Some.ensures.observer))
