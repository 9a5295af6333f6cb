use Rattle.std.proofs.Common.{arith, true, false, ap, sym, ◌∙◌, ◌≡◌, ◌++◌, [], ◌∷◌}
use Rattle.chi_slice.specs.Words.{is_in}
use Rattle.chi_replay.proofs.Members.{with_member, without_member}
use Rattle.chi_replay.proofs.agents.members.Goals as goal
use Rattle.chi_replay.proofs.agents.members.Goals.{then-marks-from, else-marks-from}

pub loop-agent-preserved : goal.loop-agent-preserved
loop-agent-preserved c =
    let n = c.loop-agent.agent in
    let set = c.args.marks.now in
    let kept = c.loop-agent.invariant in
    elim c.if-marks-from.branch [
      | then-marks-from w ↦
          let is : is_in set n ≡ true = rw (sym c.from.ensures) w.if-marks-from.true in
          record {
            found = ap (λ found. found.items) w.members-is ∙ (w.push.ensures.items ∙ (ap (λ found. found ++ n ∷ []) kept.found ∙ sym (with_member set n is)));
            room = rw w.members-is (omega (arith, w.push.ensures.len, kept.room));
            eight = kept.eight;
          }
      | else-marks-from w ↦
          let is : is_in set n ≡ false = rw (sym c.from.ensures) w.if-marks-from.false in
          record {
            found = ap (λ found. found.items) w.members-is ∙ (kept.found ∙ sym (without_member set n is));
            room = rw w.members-is (omega (arith, kept.room));
            eight = kept.eight;
          }
    ]
