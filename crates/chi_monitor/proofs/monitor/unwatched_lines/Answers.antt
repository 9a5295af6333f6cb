-- As many lines as turns.
use Rattle.std.proofs.Common.{◌≡◌, ℕ, ◌∙◌, ap, arith, replicate}
use Rattle.chi_monitor.specs.Watched.{unwatched_line}
use Rattle.chi_monitor.proofs.monitor.unwatched_lines.Goals as goal

pub returns : goal.returns
returns g c =
    let all : c.loop.counter ≡ c.args.count = omega arith in
    c.loop.invariant ∙ ap (λ (n : ℕ). replicate n (unwatched_line c.args.room)) all
