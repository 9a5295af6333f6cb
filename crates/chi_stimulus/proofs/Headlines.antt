-- What reading a header finds, and what follows of the file that is written.
use Rattle.std.proofs.Common.{◌≡◌, ◌≢◌, ℕ, Bool, true, false, List, Option, Some, None, Result, Ok, Err, IfOk, IfErr, refl}
use Rattle.std.specs.Prelude.{ok_or}
use Rattle.chi_script.specs.declared.faults.Fault.{Fault}
use Rattle.chi_script.specs.declared.faults.Fault.TheVariants.{NoMemory, BadHeader, BadCommand, MissingNewline, TooLarge, Read, Write}
use Rattle.chi_flit.specs.Config.{Sizes}
use Rattle.chi_script.specs.Faults.{Fails, Gives}
use Rattle.chi_script.specs.Files.{header_at}
use Rattle.chi_script.specs.Headers.{line_header}
use Rattle.chi_replay.specs.Replays.{AtWrite}
use Rattle.chi_stimulus.specs.declared.options.DrawOptions.{DrawOptions}
use Rattle.chi_stimulus.specs.Stimulus.{NoStimulus, WritesStimulus, WritesStimulusFront}
use Rattle.chi_stimulus.specs.SecondPass.{IsDrawFault, NoHeader, WritesDrawn, WritesDrawnFront}

-- a header that was read is that of its line
read_is : (read : Option Sizes) (sizes : Sizes) → ok_or read (BadHeader 1) ≡ Ok sizes → read ≡ Some sizes
read_is None sizes e = absurd (cc (e))
read_is (Some header) sizes e = cc (e)

pub header_is : (line : List ℕ) (result : Result Sizes Fault) → Gives (λ header. header) result (header_at 1 line) → IfOk result (λ sizes. line_header line ≡ Some sizes)
header_is line (Ok sizes) gives = read_is (line_header line) sizes gives
header_is line (Err fault) gives = tt

-- and one that wasn't is told by its line
bad_is : (read : Option Sizes) (number : ℕ) → ok_or read (BadHeader 1) ≡ Err (BadHeader number) → (read ≡ None) × (number ≡ 1)
bad_is None number e = (refl, cc (e))
bad_is (Some header) number e = absurd (cc (e))

no_other : {P : Type 0} (read : Option Sizes) (fault : Fault) → ok_or read (BadHeader 1) ≡ Err fault → ((number : ℕ) → fault ≢ BadHeader number) → P
no_other None fault e other = absurd (other 1 (cc (e)))
no_other (Some header) fault e other = absurd (cc (e))

fault_is : (line : List ℕ) (fault : Fault) → Fails fault (header_at 1 line) → NoHeader line fault
fault_is line NoMemory fails = tt
fault_is line (BadHeader number) fails = bad_is (line_header line) number fails
fault_is line (BadCommand number) fails = no_other (line_header line) (BadCommand number) fails (λ n e. absurd (cc (e)))
fault_is line (MissingNewline number) fails = no_other (line_header line) (MissingNewline number) fails (λ n e. absurd (cc (e)))
fault_is line TooLarge fails = no_other (line_header line) TooLarge fails (λ n e. absurd (cc (e)))
fault_is line Read fails = absurd fails
fault_is line Write fails = absurd fails

pub no_header : (line : List ℕ) (result : Result Sizes Fault) → Gives (λ header. header) result (header_at 1 line) → IfErr result (NoHeader line)
no_header line (Ok sizes) gives = tt
no_header line (Err fault) gives = fault_is line fault gives

-- what was drawn for the sizes of a line was drawn for the line
written : (line : List ℕ) (sizes : Sizes) (options : DrawOptions) (old new : Option (List ℕ)) (good : Bool) → line_header line ≡ Some sizes → WritesDrawn line sizes options old new good → WritesStimulus line options old new good
written line sizes options old new true is drawn = (drawn.0, drawn.1 is, drawn.2)
written line sizes options old new false is keeps = keeps

pub drawn_ok : (line : List ℕ) (sizes : Sizes) (options : DrawOptions) (old new : Option (List ℕ)) (result : Result Bool Fault) → line_header line ≡ Some sizes
    → IfOk result (WritesDrawn line sizes options old new) → IfOk result (WritesStimulus line options old new)
drawn_ok line sizes options old new (Ok good) is ok = written line sizes options old new good is ok
drawn_ok line sizes options old new (Err fault) is ok = tt

pub drawn_front : (line : List ℕ) (sizes : Sizes) (options : DrawOptions) (old new : Option (List ℕ)) (result : Result Bool Fault) → line_header line ≡ Some sizes
    → AtWrite result (WritesDrawnFront line sizes options old new) → AtWrite result (WritesStimulusFront line options old new)
drawn_front line sizes options old new result is front at = ((front at).0, (front at).1 is, (front at).2)

draw_fault : (line : List ℕ) (sizes : Sizes) (options : DrawOptions) (fault : Fault) → line_header line ≡ Some sizes → IsDrawFault line sizes options fault → NoStimulus line options fault
draw_fault line sizes options NoMemory heads is = tt
draw_fault line sizes options TooLarge heads is = (sizes, heads)
draw_fault line sizes options Write heads is = tt
draw_fault line sizes options (BadHeader number) heads is = absurd is
draw_fault line sizes options (BadCommand number) heads is = absurd is
draw_fault line sizes options (MissingNewline number) heads is = absurd is
draw_fault line sizes options Read heads is = absurd is

pub drawn_err : (line : List ℕ) (sizes : Sizes) (options : DrawOptions) (result : Result Bool Fault) → line_header line ≡ Some sizes
    → IfErr result (IsDrawFault line sizes options) → IfErr result (NoStimulus line options)
drawn_err line sizes options (Ok good) heads err = tt
drawn_err line sizes options (Err fault) heads err = draw_fault line sizes options fault heads err

pub header_err : (line : List ℕ) (options : DrawOptions) (fault : Fault) → NoHeader line fault → NoStimulus line options fault
header_err line options NoMemory is = tt
header_err line options TooLarge is = absurd is
header_err line options Write is = absurd is
header_err line options (BadHeader number) is = is
header_err line options (BadCommand number) is = absurd is
header_err line options (MissingNewline number) is = absurd is
header_err line options Read is = absurd is
