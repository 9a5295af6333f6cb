-- The parts before the journals are the same where these are asked.
use Rattle.std.proofs.Common.{◌∙◌, sym, eqb-true}
use Rattle.chi_slice.proofs.Equal.{by_journals}
use Rattle.chi_slice.proofs.slice.Slice.equals.Goals as goal
use Rattle.chi_slice.proofs.slice.Slice.equals.Goals.{then-are_same_sizes, else-are_same_sizes, then-self-other, else-self-other}

pub returns-then-are_same_lines : goal.returns-then-are_same_lines
returns-then-are_same_lines g c = elim c.if-self-other.branch [
  | then-self-other w ↦ elim c.if-are_same_sizes.branch [
    | then-are_same_sizes v ↦ by_journals c.args.self.now c.args.other.now c.self.inside.config c.other.inside.config c.self.inside.index c.other.inside.index c.self.inside.lines.items c.other.inside.lines.items c.self.inside.journal c.other.inside.journal c.equals.result c.self.view_is c.other.view_is
        (c.are_same_sizes.ensures.0 v.if-are_same_sizes.true) (eqb-true c.self.inside.index c.other.inside.index (sym v.value-is ∙ w.if-self-other.true))
        (sym w.deref.ensures.value ∙ (w.are_same_lines.ensures.0 (sym w.value-is ∙ c.if-are_same_lines.true) ∙ w.deref-then-self-other.ensures.value)) c.equals.ensures
    | else-are_same_sizes v ↦ absurd (cc (v.value-is, w.if-self-other.true))
  ]
  | else-self-other w ↦ absurd (cc (w.value-is, c.if-are_same_lines.true))
]
