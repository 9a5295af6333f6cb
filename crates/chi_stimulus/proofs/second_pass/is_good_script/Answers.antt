-- Answers that hold, of a file as it was asked for, are what is promised of it.
use Rattle.std.proofs.Common.{rules}
use Rattle.chi_stimulus.proofs.Judged.{is_drawn}
use Rattle.chi_stimulus.proofs.second_pass.is_good_script.Goals as goal

pub returns : goal.returns
returns g c = is_drawn c.holds.result c.fits.result c.args.header.now c.args.options.now c.args.text.now c.args.script.now.header c.args.script.now.checks.items c.requires (search rules) c.fits.ensures.same c.fits.ensures.count c.fits.ensures.told c.holds.ensures
