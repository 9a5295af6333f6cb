-- One file more, and all of them.
use Rattle.std.proofs.Common.{◌+◌, ◌<◌, ap, arith, length, string_bytes}
use Rattle.chi_replay.proofs.SuiteLemmas.{reported_on, stands_next, state_in}
use Rattle.chi_replay.proofs.suites.check_suite.Goals as goal

pub loop-file-preserved : goal.loop-file-preserved
loop-file-preserved g c =
    let low : c.loop-file.file-index < length c.args.files.now = omega arith in
    record {
      stands = stands_next c.args.form (length c.args.files.now) c.loop-file.number c.args.files.now c.loop-file.file-index _
          (state_in c.loop-file.run.text.items (string_bytes c.loop-file.run.faults) c.loop-file.run.fault c.loop-file.run.counts)
          (state_in c.add.new.self.text.items (string_bytes c.add.new.self.faults) c.add.new.self.fault c.add.new.self.counts)
          low c.loop-file.invariant.stands c.loop-file.invariant.number_is c.in_ok-add.ensures;
      number_is = ap (λ n. n + 1) c.loop-file.invariant.number_is;
    }

pub returns : goal.returns
returns g c =
    reported_on c.report.result (λ report. report.text.items) (λ report. string_bytes report.faults) (λ report. report.fault) (λ report. report.hold) c.args.form c.args.files.now c.loop-file.file-index
    (state_in c.loop-file.run.text.items (string_bytes c.loop-file.run.faults) c.loop-file.run.fault c.loop-file.run.counts)
    c.loop-file-test.false c.loop-file.invariant.stands c.report.ensures.text c.report.ensures.faults c.report.ensures.fault c.report.ensures.hold
