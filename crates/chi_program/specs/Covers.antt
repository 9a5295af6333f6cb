-- The form of cells that a command line asks for (docs/FORMATS.md, "The program").
use Rattle.chi_program.specs.declared.options.CellForm.{CellForm}
use Rattle.chi_program.specs.declared.options.CellForm.TheVariants as asked
use Rattle.chi_coverage.specs.declared.forms.CoverForm.{CoverForm}
use Rattle.chi_coverage.specs.declared.forms.CoverForm.TheVariants as forms

abbrev pub form_asked : CellForm → CoverForm
form_asked asked.Lines = forms.Lines
form_asked asked.Json = forms.Json
form_asked asked.Tsv = forms.Tsv
