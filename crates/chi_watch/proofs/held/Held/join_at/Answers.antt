-- The flit at the place is the one that was there, with the beat's words.
use Rattle.std.proofs.Common.{rules, ◌≡◌, ◌≤◌, length, arith, slice_index_or, sym}
use Rattle.chi_watch.proofs.HeldLemmas.{past_at, written_by}
use Rattle.chi_watch.proofs.held.Held.join_at.Goals as goal

pub returns-in-Some : goal.returns-in-Some
returns-in-Some g c =
    let was : c.in-Some.held.now ≡ slice_index_or c.args.self.now.waiting.items c.args.place c.in-Some.held.now = search rules in
    written_by c.args.beat.now c.args.number c.args.is_last c.in-Some.held.now c.joined.result c.args.self.now.waiting.items c.args.place c.joined.ensures was

pub returns-in_default : goal.returns-in_default
returns-in_default g c =
    let past : length c.args.self.now.waiting.items ≤ c.args.place = grind (arith, c.in_default.is, c.get_mut.ensures.variant, c.args.self.now.waiting.ok) in
    sym (past_at c.args.beat.now c.args.number c.args.is_last c.args.self.now.waiting.items c.args.place past)
