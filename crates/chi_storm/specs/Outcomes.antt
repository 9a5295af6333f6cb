-- The four lines of a storm (docs/FORMATS.md, "The output of a storm").
use Rattle.std.specs.Prelude.{ℕ, List, [], ◌∷◌, ◌++◌, codes}
use Rattle.std.specs.Fmt.{decimal}
use Rattle.chi_replay.specs.Replies.{totals_text, verdict_text}
use Rattle.chi_storm.specs.declared.outcome.Outcome.{Outcome}

-- how many of the agents finished their scripts
abbrev pub agents_line : Outcome → List ℕ
agents_line o = codes "agents " ++ (decimal o.agents ++ (codes " finished " ++ decimal o.finished))

-- what the journals have
abbrev pub loads_line : Outcome → List ℕ
loads_line o = codes "loads " ++ (decimal o.loads ++ (codes " stores " ++ decimal o.stores))

abbrev pub verdict_line : Outcome → List ℕ
verdict_line o = codes "verdict " ++ verdict_text o.coherent

-- each line with its end
abbrev pub outcome_text : Outcome → List ℕ
outcome_text o = agents_line o ++ (10 ∷ (loads_line o ++ (10 ∷ (totals_text o.holdings ++ (10 ∷ (verdict_line o ++ (10 ∷ [])))))))
