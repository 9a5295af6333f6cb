-- One agent more has its script and its writer.
use Rattle.std.proofs.Common.{◌≡◌, ◌<◌, ◌∙◌, length, ap, arith, rules}
use Rattle.chi_audit.specs.Tallies.{IsFresh}
use Rattle.chi_storm.specs.Scripts.{agent_script}
use Rattle.chi_agent.specs.Script.{ScriptState}
use Rattle.chi_agent.proofs.Numbers.{moves}
use Rattle.chi_storm.proofs.Written.{first_new, left_new, next_fresh, next_scripts, one_below}
use Rattle.chi_storm.proofs.scripts.scripts_of.Goals as goal

pub loop-agent-preserved : goal.loop-agent-preserved
loop-agent-preserved c =
    let l = c.loop-agent in
    let some : 0 < length l.writers.items = omega (arith, l.invariant.left, c.loop-agent-test.true) in
    let new : IsFresh c.args.tallies.now c.remove-writer.result = first_new c.args.tallies.now l.writers.items c.remove-writer.result l.invariant.new some c.remove-writer.ensures.value in
    record {
      scripts = next_scripts (λ s. s.operations) c.args.deeds.now l.agent l.scripts.items c.push_reserved.new.self.items c.new.result l.invariant.scripts c.push_reserved.ensures.items (search (rules, c.new.ensures, c.in_ok-script.ensures.script)) ∙ one_below l.agent c.args.deeds.now;
      writers = moves _ l.scripts.items c.push_reserved.new.self.items c.new.result l.writers.items c.remove-writer.new.self.items c.remove-writer.result l.invariant.writers some c.remove-writer.ensures.value c.remove-writer.ensures.items c.push_reserved.ensures.items (ap (λ (z : ScriptState). z.writer) c.new.ensures);
      fresh = next_fresh (λ s. s.writer) c.args.tallies.now l.scripts.items c.push_reserved.new.self.items c.new.result l.invariant.fresh c.push_reserved.ensures.items (search (rules, c.new.ensures, new));
      new = left_new c.args.tallies.now l.writers.items c.remove-writer.new.self.items l.invariant.new c.remove-writer.ensures.items some;
      left = omega (arith, l.invariant.left, c.remove-writer.ensures.len);
      made = omega (arith, l.invariant.made, c.push_reserved.ensures.len);
      room = c.push_reserved.ensures.capacity ∙ l.invariant.room;
    }
