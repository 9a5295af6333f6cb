use Rattle.std.proofs.Common.{slice_index, slice_set, ap, ◌∙◌, sym, arith, get_or-set_other, get_or-set_same, length-set}
use Rattle.std.specs.Slots.{slots_items}
use mathlib.Core.Logic.{dite}
use native.Mathlib.Decide.{ℕ_discrete}
use lib.Seq.{ext_get_or}
use Rattle.chi_tracker.proofs.Balance.{read_at}
use Rattle.chi_tracker.proofs.closing.read.Goals as goal

pub loop-i-preserved : goal.loop-i-preserved
loop-i-preserved g c =
    let i = c.loop-i.i in let items = slots_items c.args.closed.now.words in record {
      wide = length-set c.loop-i.words i c.word.result ∙ c.loop-i.invariant.wide;
      read = λ k l. dite (ℕ_discrete k i)
          (λ q. ap (slice_index (slice_set c.loop-i.words i c.word.result)) q ∙ get_or-set_same c.loop-i.words i c.word.result 0 (omega arith) ∙ sym (read_at items i c.word.result c.word.ensures) ∙ ap (slice_index items) (sym q))
          (λ d. get_or-set_other c.loop-i.words i k c.word.result 0 d ∙ c.loop-i.invariant.read k (omega arith));
    }

pub returns : goal.returns
returns g c =
    let w = c.loop-i.invariant.wide in let r = c.requires.0 in let ok = c.args.closed.now.words.ok in
    ext_get_or 0 c.loop-i.words (slots_items c.args.closed.now.words) (w ∙ (sym r ∙ ok.0)) (λ i l. c.loop-i.invariant.read i (omega arith))
