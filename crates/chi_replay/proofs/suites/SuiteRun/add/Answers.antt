-- A file that couldn't be read was told.
use Rattle.std.proofs.Common.{[], ap, string_bytes, option_map}
use Rattle.chi_script.specs.declared.faults.Fault.TheVariants.{Read}
use Rattle.chi_replay.specs.Suites.{given_of}
use Rattle.chi_replay.proofs.SuiteLemmas.{goes_faulty, may_be_lost, state_in}
use Rattle.chi_replay.proofs.suites.SuiteRun.add.Goals as goal

pub returns-in-None : goal.returns-in-None
returns-in-None g c =
    goes_faulty c.add_fault.result c.args.form c.args.number (given_of c.args.file.now) Read []
    (state_in c.args.self.now.text.items (string_bytes c.args.self.now.faults) c.args.self.now.fault c.args.self.now.counts)
    (state_in c.add_fault.new.self.text.items (string_bytes c.add_fault.new.self.faults) c.add_fault.new.self.fault c.add_fault.new.self.counts)
    (may_be_lost c.add_fault.result (given_of c.args.file.now).bytes (ap (option_map (λ bytes. bytes.now)) c.in-None.is)) c.add_fault.ensures.text c.add_fault.ensures.faults c.add_fault.ensures.fault c.add_fault.ensures.counts
