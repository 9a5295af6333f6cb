-- Lines taken one after the other, and pieces of a trace.
use Rattle.std.proofs.Common.{rules, arith, ◌≡◌, ℕ, ◌+◌, ◌<◌, ◌==◌, Bool, true, false, cond, List, [], ◌∷◌, ◌++◌, Option, Some, None, Result, Ok, Err, length, refl, sym, ap, subst, ◌∙◌, append_assoc, append-nil, length-append, if◌then◌else◌, lt-ltb}
use Rattle.std.specs.Prelude.{IfSome}
use Rattle.std.specs.Io.KnownBytes.{Consumes, IsAtEnd}
use Rattle.chi_script.specs.Files.{lines_of}
use Rattle.chi_script.proofs.LineLemmas.{parts_of}
use Rattle.chi_trace.specs.AnyFlits.{any_flit_at, any_flit_of_words, is_gzip}
use Rattle.chi_trace.specs.Words.{blank_words}
use Rattle.chi_trace.specs.declared.any_flits.AnySeen.{AnySeen}
use Rattle.chi_trace.specs.declared.faults.TraceFault.{TraceFault}
use Rattle.chi_trace.specs.declared.faults.TraceFault.TheVariants.{Gzip, LongLine}
use Rattle.chi_trace.specs.declared.forms.TraceForm.{TraceForm}
use Rattle.chi_observe.specs.declared.stream.TextStop.{TextStop}
use Rattle.chi_observe.specs.declared.stream.TextStop.TheVariants as texts
use Rattle.chi_observe.specs.declared.stream.TraceStop.{TraceStop}
use Rattle.chi_observe.specs.declared.stream.TraceStop.TheVariants.{Malformed}
use Rattle.chi_observe.specs.Streams.{◌>>=◌, GoesOn, IsEndTaken, IsOverlong, IsStopAt, IsTraceWatched, cut_by, last_after, read_after, text_after, trace_after}
use Rattle.chi_observe.specs.Watched.{Watched}
use Rattle.chi_observe.proofs.SplitLemmas.{first_of_more, goes_on_as}

-- a line that a line end closes, and what follows it
one_line : (w : Watched) (n : ℕ) (bytes line after : List ℕ) → lines_of bytes ≡ line ∷ lines_of after
    → trace_after w n (lines_of bytes) ≡ (text_after w n line >>= λ w'. trace_after w' (n + 1) (lines_of after))
unfolding trace_after
one_line w n bytes line after e = let more = parts_of (λ (b : ℕ). b == 10) after in rw (e, more.2) refl

one_of_more : (w : Watched) (n : ℕ) (bytes line after more : List ℕ) → lines_of bytes ≡ line ∷ lines_of after
    → trace_after w n (lines_of (bytes ++ more)) ≡ (text_after w n line >>= λ w'. trace_after w' (n + 1) (lines_of (after ++ more)))
one_of_more w n bytes line after more e = one_line w n (bytes ++ more) line (after ++ more) (first_of_more bytes line after more e)

-- it is taken
pub goes_on : (w w' : Watched) (n n' : ℕ) (bytes line after more : List ℕ) → lines_of bytes ≡ line ∷ lines_of after → text_after w n line ≡ Ok w' → n' ≡ n + 1
    → trace_after w n (lines_of (bytes ++ more)) ≡ trace_after w' n' (lines_of (after ++ more))
goes_on w w' n n' bytes line after more e taken next =
    one_of_more w n bytes line after more e
    ∙ (ap (λ (r : Result Watched TraceStop). r >>= λ v. trace_after v (n + 1) (lines_of (after ++ more))) taken
    ∙ ap (λ (m : ℕ). trace_after w' m (lines_of (after ++ more))) (sym next))

-- it stops the trace
stop_bind : (w : Watched) (stop : TextStop) (r : Result Watched TraceStop) (next : Watched → Result Watched TraceStop) → IsStopAt w stop r → IsStopAt w stop (r >>= next)
stop_bind w (texts.Malformed fault) r next is = ap (λ (q : Result Watched TraceStop). q >>= next) is
stop_bind w (texts.Untaken seen fault) r next is = (ap (λ (q : Result Watched TraceStop). q >>= next) is.0, is.1)
stop_bind w texts.NoMemory r next is = tt

pub stop_where : (w : Watched) (stop : TextStop) (r r' : Result Watched TraceStop) → r ≡ r' → IsStopAt w stop r' → IsStopAt w stop r
stop_where w stop r r' same is = subst (IsStopAt w stop) (sym same) is

pub stops : (start w new : Watched) (m n : ℕ) (whole bytes line after more : List ℕ) (stop : TextStop) → trace_after start m (lines_of (whole ++ more)) ≡ trace_after w n (lines_of (bytes ++ more))
    → lines_of bytes ≡ line ∷ lines_of after → IsStopAt new stop (text_after w n line) → IsStopAt new stop (trace_after start m (lines_of (whole ++ more)))
stops start w new m n whole bytes line after more stop so_far e is =
    stop_where new stop _ _ (so_far ∙ one_of_more w n bytes line after more e) (stop_bind new stop (text_after w n line) (λ v. trace_after v (n + 1) (lines_of (after ++ more))) is)

-- what was read so far, and what is left of the input
abbrev pub Reads : Option (List ℕ) → Option (List ℕ) → Watched → Watched → ℕ → List ℕ → Type 0
Reads None left start w n held = Unit {0}
Reads (Some file) None start w n held = ⊥
Reads (Some file) (Some left) start w n held = trace_after start 1 (lines_of file) ≡ trace_after w n (lines_of (held ++ left))

pub reads_first : (input : Option (List ℕ)) (start : Watched) → Reads input input start start 1 []
reads_first None start = tt
reads_first (Some file) start = refl

-- a further piece
pub reads_more : (input left left' : Option (List ℕ)) (start w : Watched) (n : ℕ) (held piece : List ℕ) → Reads input left start w n held → Consumes left left' piece → Reads input left' start w n (held ++ piece)
reads_more None left left' start w n held piece so_far p = tt
reads_more (Some file) None left' start w n held piece so_far p = absurd so_far
reads_more (Some file) (Some xs) None start w n held piece so_far p = absurd p
reads_more (Some file) (Some xs) (Some ys) start w n held piece so_far p =
    so_far ∙ ap (λ (l : List ℕ). trace_after w n (lines_of l)) (ap (λ (l : List ℕ). held ++ l) p ∙ sym (append_assoc held piece ys))

pub reads_on : (input left : Option (List ℕ)) (start w w' : Watched) (n n' : ℕ) (bytes rest : List ℕ) → Reads input left start w n bytes → GoesOn w n bytes w' n' rest → Reads input left start w' n' rest
reads_on None left start w w' n n' bytes rest so_far on = tt
reads_on (Some file) None start w w' n n' bytes rest so_far on = absurd so_far
reads_on (Some file) (Some ys) start w w' n n' bytes rest so_far on = so_far ∙ on.same ys

-- a piece with a line that stops the trace
pub reads_stop : (input left : Option (List ℕ)) (start w new : Watched) (n : ℕ) (bytes : List ℕ) (stop : TextStop) → Reads input left start w n bytes
    → ((more : List ℕ) → IsStopAt new stop (trace_after w n (lines_of (bytes ++ more)))) → IfSome input (λ file. IsTraceWatched start new file (Some stop))
reads_stop None left start w new n bytes stop so_far is = tt
reads_stop (Some file) None start w new n bytes stop so_far is = absurd so_far
reads_stop (Some file) (Some ys) start w new n bytes stop so_far is = stop_where new stop _ _ so_far (is ys)

-- a line that is too long stops the trace, whatever follows what was read of it
is_too_long : (form : TraceForm) (n : ℕ) (line : List ℕ) → 4096 < length line → any_flit_at form n line ≡ cond (is_gzip line) (Err Gzip) (Err (LongLine n))
unfolding any_flit_at
is_too_long form n line long = ap (λ (b : Bool). cond (is_gzip line) (Err Gzip) (cond b (Err (LongLine n)) (any_flit_of_words form n (blank_words line)))) (lt-ltb 4096 (length line) long)

same_front : (line more : List ℕ) → 4096 < length line → is_gzip (line ++ more) ≡ is_gzip line
same_front [] more long = absurd (omega (arith, long))
same_front (a ∷ []) more long = absurd (omega (arith, long))
same_front (a ∷ b ∷ line) more long = refl

longer : (line more : List ℕ) → 4096 < length line → 4096 < length (line ++ more)
longer line more long = omega (arith, length-append line more, long)

too_long_on : (form : TraceForm) (n : ℕ) (line more : List ℕ) (fault : TraceFault) → 4096 < length line → any_flit_at form n line ≡ Err fault → any_flit_at form n (line ++ more) ≡ Err fault
too_long_on form n line more fault long is =
    is_too_long form n (line ++ more) (longer line more long)
    ∙ (ap (λ (b : Bool). cond b (Err Gzip) (Err (LongLine n))) (same_front line more long)
    ∙ (sym (is_too_long form n line long) ∙ is))

abbrev as_stop : Watched → Result (Option AnySeen) TraceFault → Result Watched TraceStop
as_stop w (Ok seen) = Ok w
as_stop w (Err fault) = Err (Malformed fault)

cut_as : (w : Watched) (n : ℕ) (b : Bool) → cut_by w n (cond b (Err Gzip) (Err (LongLine n))) ≡ as_stop w (cond b (Err Gzip) (Err (LongLine n)))
cut_as w n true = refl
cut_as w n false = refl

stops_long : (w : Watched) (n : ℕ) (line : List ℕ) (rest : List (List ℕ)) (fault : TraceFault) → 4096 < length line → any_flit_at w.options.form n line ≡ Err fault → trace_after w n (line ∷ rest) ≡ Err (Malformed fault)
unfolding trace_after
stops_long w n line [] fault long is =
    let short : (length line == 0) ≡ false = search (rules, arith, long) in
    let same = is_too_long w.options.form n line long in
    ap (λ (b : Bool). if b then Ok w else cut_by w n (any_flit_at w.options.form n line)) short
    ∙ (ap (cut_by w n) same
    ∙ (cut_as w n (is_gzip line)
    ∙ ap (as_stop w) (sym same ∙ is)))
stops_long w n line (next ∷ rest) fault long is =
    ap (λ (r : Result (Option AnySeen) TraceFault). read_after w r >>= λ w'. trace_after w' (n + 1) (next ∷ rest)) is

pub too_long : (w new : Watched) (n : ℕ) (line more : List ℕ) (stop : TextStop) → lines_of line ≡ line ∷ [] → IsOverlong w.options.form n line stop → IsStopAt new stop (trace_after w n (lines_of (line ++ more)))
too_long w new n line more (texts.Malformed fault) part is =
    let whole = goes_on_as line more part in
    ap (trace_after w n) whole.2 ∙ stops_long w n (line ++ whole.0) whole.1 fault (longer line whole.0 is.1) (too_long_on w.options.form n line whole.0 fault is.1 is.0)
too_long w new n line more (texts.Untaken seen fault) part is = absurd is
too_long w new n line more texts.NoMemory part is = absurd is

-- the end of the input
last_line : (w : Watched) (n : ℕ) (held : List ℕ) → lines_of held ≡ held ∷ [] → trace_after w n (lines_of held) ≡ last_after w n held
unfolding trace_after
last_line w n held part = ap (trace_after w n) part

ends_by : (start w new : Watched) (n : ℕ) (file held : List ℕ) (stop : Option TextStop) → trace_after start 1 (lines_of file) ≡ last_after w n held → IsEndTaken w new held n stop → IsTraceWatched start new file stop
ends_by start w new n file held None so_far is = so_far ∙ is
ends_by start w new n file held (Some stop) so_far is = stop_where new stop _ _ so_far is

pub reads_all : (input left left' : Option (List ℕ)) (start w new : Watched) (n : ℕ) (held : List ℕ) (stop : Option TextStop) → Reads input left start w n held → Consumes left left' [] → IsAtEnd left' → lines_of held ≡ held ∷ []
    → IsEndTaken w new held n stop → IfSome input (λ file. IsTraceWatched start new file stop)
reads_all None left left' start w new n held stop so_far p end part is = tt
reads_all (Some file) None left' start w new n held stop so_far p end part is = absurd so_far
reads_all (Some file) (Some xs) None start w new n held stop so_far p end part is = absurd p
reads_all (Some file) (Some xs) (Some ys) start w new n held stop so_far p end part is =
    let none : xs ≡ [] = p ∙ end in
    ends_by start w new n file held stop (so_far ∙ (ap (λ (l : List ℕ). trace_after w n (lines_of l)) (ap (λ (l : List ℕ). held ++ l) none ∙ append-nil held) ∙ last_line w n held part)) is
