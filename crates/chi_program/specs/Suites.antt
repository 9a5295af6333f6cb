-- The files of a command line as a check is given them (docs/FORMATS.md, "Several files").
use Rattle.std.specs.Option.{option_map}
use Rattle.chi_program.specs.declared.suites.ReadFile.{ReadFile}
use Rattle.chi_replay.specs.Suites.{GivenFile, given}

-- a file by the name that was given, with its bytes where it could be read
abbrev pub given_in : ReadFile → GivenFile
given_in file = given file.path.now (option_map (λ bytes. bytes.items) file.bytes)
