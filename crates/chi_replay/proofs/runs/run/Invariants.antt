-- What was written leads on with the commands that are left.
use Rattle.std.proofs.Common.{drop, string_bytes}
use Rattle.chi_replay.specs.Session.{machine_of, ports_of}
use Rattle.chi_replay.proofs.Leads.{LeadsOn}
use Rattle.chi_replay.proofs.runs.run.Given as goal

abbrev pub invariant-loop-command : goal.invariant-loop-command
invariant-loop-command g l = LeadsOn l.config l.commands (string_bytes l.text) (machine_of l.system) (ports_of l.system) (drop l.command-index l.commands)
