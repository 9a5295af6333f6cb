-- Each line that is a command leads on, and another one is the fault of all.
use Rattle.std.proofs.Common.{string_bytes, sym, arith, rules}
use Rattle.std.proofs.lemmas.Result.{err_from_is_err_and}
use Rattle.chi_script.specs.Files.{lines_of, commands_of}
use Rattle.chi_script.proofs.CommandLoop.{stops, is_open}
use Rattle.chi_replay.specs.Session.{machine_of, ports_of}
use Rattle.chi_replay.specs.Turns.{turn}
use Rattle.chi_replay.proofs.Leads.{says_told}
use Rattle.chi_replay.proofs.LineRuns.{played_none, played_line, played_all}
use Rattle.chi_replay.proofs.runs.run_lines.Goals as goal

pub loop-line-init : goal.loop-line-init
loop-line-init g c =
    let made = c.in_ok-system.ensures.opening in record {
      so_far = played_none c.args.config.now c.args.lines.now made.0 c.in_ok-system.system (string_bytes c.new-text.result) made.1 (search (rules, c.new-text.ensures.bytes));
      count = omega arith;
    }

pub returns-in_err-command-clause-err : goal.returns-in_err-command-clause-err
returns-in_err-command-clause-err g c =
    let p = err_from_is_err_and c.from_residual-in_err-command.result c.from_residual-in_err-command.ensures.1 in
    rw (p.1, p.2) (stops c.in_err-command.field-0.0 c.loop-line.invariant.so_far.front c.loop-line.number c.loop-line.rest.now c.in-Some.line.now c.in-Some.after.now (commands_of 2 (lines_of c.args.lines.now)) c.in-Some.ensures.some c.in_err-command.ensures c.loop-line.invariant.so_far.so_far)

pub loop-line-preserved : goal.loop-line-preserved
loop-line-preserved g c = record {
  so_far = played_line c.args.config.now c.args.lines.now c.loop-line.number c.loop-line.rest.now c.in-Some.line.now c.in-Some.after.now (string_bytes c.loop-line.text) _ (machine_of c.loop-line.system) _ (ports_of c.loop-line.system) _ c.in_ok-command.command
      c.in-Some.ensures.some c.in_ok-command.ensures (says_told (turn (machine_of c.loop-line.system) c.in_ok-command.command) (ports_of c.loop-line.system) _ _ (string_bytes c.loop-line.text) _ (search (rules, c.in_ok-play.ensures))) c.loop-line.invariant.so_far;
  count = omega (arith, c.in-Some.ensures.shorter, c.loop-line.invariant.count);
}

pub returns-then-is_empty-clause-ok : goal.returns-then-is_empty-clause-ok
returns-then-is_empty-clause-ok g c = played_all c.args.config.now c.args.lines.now c.loop-line.number c.loop-line.rest.now (string_bytes c.loop-line.text) (machine_of c.loop-line.system) (ports_of c.loop-line.system) c.in_default.ensures.none (sym c.if-is_empty.ensures) c.loop-line.invariant.so_far

pub returns-clause-err : goal.returns-clause-err
returns-clause-err g c = is_open c.loop-line.invariant.so_far.front c.loop-line.number c.loop-line.rest.now (commands_of 2 (lines_of c.args.lines.now)) c.in_default.ensures.none (sym c.if-is_empty.ensures) c.loop-line.invariant.so_far.so_far
