-- The opening line by the protocol.
use Rattle.std.proofs.Common.{◌≡◌, ℕ, zero, suc, false, None, replicate, get_or, refl, ap}
use Rattle.std.proofs.Math.Path.{fun_ext}
use Rattle.chi_rnline.specs.Rn.{Rn, no_line}
use Rattle.chi_line.specs.LineState.{opening_line}
use Rattle.chi_line.specs.Meaning.{standing_of}
use Rattle.chi_line.specs.Protocol.{opening}
use Rattle.chi_line.specs.Words.{Agent}

-- a list of one thing has it everywhere
everywhere : {A : Type 0} (k : ℕ) (x : A) (n : ℕ) → get_or (replicate k x) n x ≡ x
everywhere zero x n = refl
everywhere (suc k) x zero = refl
everywhere (suc k) x (suc n) = everywhere k x n

pub opening_is : standing_of opening_line ≡ opening
opening_is = λ i. record {
  copies = fun_ext (λ (n : Agent). ap (λ (rn : Rn). record { state = rn.state; words = rn.words }) (everywhere 8 no_line n.0)) i;
  pending = fun_ext (λ (n : Agent). ap (λ (rn : Rn). rn.pending) (everywhere 8 no_line n.0)) i;
  memory = opening.memory;
  named = fun_ext (λ (n : Agent). everywhere 8 false n.0) i;
  unique = opening.unique;
  owner = opening.owner;
  waiting = fun_ext (λ (n : Agent). everywhere 8 None n.0) i;
  serving = opening.serving;
  flits = opening.flits;
}
