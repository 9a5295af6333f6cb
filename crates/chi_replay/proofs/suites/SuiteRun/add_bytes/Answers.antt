-- What was found in the file, or its fault, was told.
use Rattle.std.proofs.Common.{Some, string_bytes}
use Rattle.chi_script.specs.Faults.{Fails}
use Rattle.chi_script.specs.CheckFiles.{check_file_of}
use Rattle.chi_script.specs.Files.{IsOneLine}
use Rattle.chi_replay.specs.Checks.{IsComparison}
use Rattle.chi_replay.specs.Suites.{given}
use Rattle.chi_replay.proofs.SuiteLemmas.{goes_faulty, goes_found, may_fail, state_in}
use Rattle.chi_replay.proofs.suites.SuiteRun.add_bytes.Goals as goal

pub returns-in-Ok : goal.returns-in-Ok
returns-in-Ok g c =
    let found : IsComparison c.args.bytes.now c.deref.result.now c.in-Ok.found.lines.items c.in-Ok.found.wanted c.in-Ok.found.differing = c.in-Ok.ensures.ok in
    goes_found c.add_found.result c.args.form c.args.number c.args.name.now c.args.bytes.now c.deref.result.now _ _ _
    (state_in c.args.self.now.text.items (string_bytes c.args.self.now.faults) c.args.self.now.fault c.args.self.now.counts)
    (state_in c.add_found.new.self.text.items (string_bytes c.add_found.new.self.faults) c.add_found.new.self.fault c.add_found.new.self.counts)
    found (cc (c.deref.ensures.value, c.in_ok-front.ensures)) c.add_found.ensures.text c.add_found.ensures.faults c.add_found.ensures.fault c.add_found.ensures.counts

pub returns : goal.returns
returns g c =
    let fails : Fails c.in-Err.fault (check_file_of c.args.bytes.now) = c.in-Err.ensures.err in
    let one : IsOneLine c.as_str.result.now = rw c.as_str.ensures.value c.in_ok-hint-in-Err.ensures in
    goes_faulty c.add_fault.result c.args.form c.args.number (given c.args.name.now (Some c.args.bytes.now)) c.in-Err.fault c.as_str.result.now
    (state_in c.args.self.now.text.items (string_bytes c.args.self.now.faults) c.args.self.now.fault c.args.self.now.counts)
    (state_in c.add_fault.new.self.text.items (string_bytes c.add_fault.new.self.faults) c.add_fault.new.self.fault c.add_fault.new.self.counts)
    (may_fail c.add_fault.result c.args.bytes.now c.in-Err.fault c.as_str.result.now one fails c.add_fault.ensures.memory) c.add_fault.ensures.text c.add_fault.ensures.faults c.add_fault.ensures.fault c.add_fault.ensures.counts
