-- A lock that was refused at a line of the node has shown another slice.
use Rattle.std.proofs.Common.{◌≡◌, ℕ, ◌<◌, ◌⊎◌, inl, inr, Some, None, subst}
use Rattle.std.proofs.lemmas.Bool.{lt-ltb}
use Rattle.chi_flit.specs.declared.numbers.Line.{Line}
use Rattle.chi_flit.specs.declared.refusal.Refusal.{Refusal}
use Rattle.chi_flit.specs.declared.refusal.Refusal.TheVariants.{NotOpen, OutOfRange}
use Rattle.chi_node.specs.Node.{FoundAnother, IsLockRefusal, NodeState}
use Rattle.chi_agent.specs.Choice.{drawn_line}

shown : (n : NodeState) (l : ℕ) (e : Refusal) → l < n.config.lines → ((Some e ≡ None) ⊎ IsLockRefusal n l (Some e)) → FoundAnother n.config l
shown n l e inside (inl none) = absurd (cc none)
shown n l OutOfRange inside (inr outside) = absurd (cc (lt-ltb _ _ inside, outside))
shown n l NotOpen inside (inr found) = found.1
shown n l other inside (inr none) = absurd none

pub found_another : (n : NodeState) (line : Line) (x : ℕ) (e : Refusal) → line ≡ drawn_line n.config x → line.0 < n.config.lines
    → ((Some e ≡ None) ⊎ IsLockRefusal n line.0 (Some e)) → FoundAnother n.config (drawn_line n.config x).0
found_another n line x e is inside refused = subst (λ (at : Line). FoundAnother n.config at.0) is (shown n line.0 e inside refused)
