-- What is told of a trace whose flits are all taken: what of it isn't judged and why, and what is (docs/OBSERVER.md, "What is
-- printed").
use Rattle.std.specs.Prelude.{◌≡◌, ℕ, ◌-◌, ◌==◌, ◌&&◌, ◌||◌, Bool, not, List, [], ◌∷◌, ◌++◌, Option, Some, None, codes, if◌then◌else◌, is_some}
use Rattle.std.specs.Fmt.{decimal}
use Rattle.std.specs.List.{flat_map}
use Rattle.std.specs.List.Sorted.{IsNonDecreasingBy, IsPermutation}
use Rattle.chi_ids.specs.declared.keys.CacheLine.{CacheLine}
use Rattle.chi_trace.specs.declared.forms.Listing.{Listing}
use Rattle.chi_trace.specs.declared.forms.Listing.TheVariants as listings
use Rattle.chi_observe.specs.declared.causes.CauseRow.{CauseRow}
use Rattle.chi_observe.specs.declared.watch.Counts.{Counts}
use Rattle.chi_observe.specs.Beginnings.{IsCountOf, is_unknown_at, unknown_line}
use Rattle.chi_observe.specs.Causes.{cause_text}
use Rattle.chi_observe.specs.Judges.{is_at_home}
use Rattle.chi_observe.specs.LateReasons.{LateReason, late_reason_text}
use Rattle.chi_observe.specs.Lines.{LineState}
use Rattle.chi_observe.specs.Names.{line_text}
use Rattle.chi_observe.specs.Outstanding.{open_text}
use Rattle.chi_observe.specs.Watched.{Watched}

-- whether something isn't judged, and whether nothing is
abbrev pub is_unjudged : Counts → Bool
is_unjudged n = not (n.unjudged == 0) || (not (n.unseen == 0) || is_some n.cut)

abbrev pub is_nothing_judged : Counts → Bool
is_nothing_judged n = n.flits - n.unjudged == 0 && n.accesses - n.unseen == 0

-- a line of text; and a text that is there where something is
abbrev pub ended : List ℕ → List ℕ
ended text = text ++ (10 ∷ [])

abbrev pub where_any : ℕ → List ℕ → List ℕ
where_any n text = if n == 0 then [] else text

-- how many flits aren't judged, and on how many cache lines
abbrev pub unjudged_line : Counts → List ℕ
unjudged_line n = codes "not judged: " ++ (decimal n.unjudged ++ (codes " of " ++ (decimal n.flits ++ (codes " flits, on " ++ (decimal n.aside ++ (codes " of " ++ (decimal n.lines ++ (codes " cache lines" ++ (10 ∷ [])))))))))

-- each cause, with how many cache lines it set aside, and the first of them
abbrev pub cause_line : CauseRow → List ℕ
cause_line row = cause_text row.first.cause ++ (codes ": " ++ (decimal row.lines ++ (codes " cache lines, the first " ++ (line_text row.first.line ++ (codes " by trace line " ++ (decimal row.first.number ++ (10 ∷ [])))))))

-- the most frequent first
abbrev pub rank : CauseRow → ℕ
rank row = 18446744073709551615 - row.lines

pub record AreRanked (causes rows : List CauseRow) : Type 0 where
  pub same : IsPermutation causes rows
  pub falling : IsNonDecreasingBy rank rows

-- what else isn't judged: flits that name an id from before the trace, loads and stores, and a last line that is cut
abbrev pub left_over_line : Counts → List ℕ
left_over_line n = where_any n.left_over (codes "ids from before the trace: " ++ (decimal n.left_over ++ (codes " flits" ++ (10 ∷ []))))

abbrev pub unseen_end : Bool → List ℕ
unseen_end home = if home then codes " loads and stores, which a home doesn't see" ++ (10 ∷ []) else codes " loads and stores" ++ (10 ∷ [])

abbrev pub unseen_front : Counts → List ℕ
unseen_front n = codes "not judged: " ++ (decimal n.unseen ++ (codes " of " ++ decimal n.accesses))

abbrev pub unseen_line : Bool → Counts → List ℕ
unseen_line home n = where_any n.unseen (unseen_front n ++ unseen_end home)

abbrev pub cut_line : Option ℕ → List ℕ
cut_line None = []
cut_line (Some number) = codes "not judged: trace line " ++ (decimal number ++ (codes ", the last, which has no line end" ++ (10 ∷ [])))

abbrev pub unjudged_lines : Bool → Counts → List CauseRow → List ℕ
unjudged_lines home n rows = unjudged_line n ++ (flat_map cause_line rows ++ (left_over_line n ++ (unseen_line home n ++ cut_line n.cut)))

abbrev pub unjudged_text : Bool → Counts → List CauseRow → List ℕ
unjudged_text home n rows = if is_unjudged n then unjudged_lines home n rows else []

-- what is judged, and accepted
abbrev pub accepted_line : Counts → List ℕ
accepted_line n = codes "accepted " ++ (decimal (n.flits - n.unjudged) ++ (codes " flits on " ++ (decimal (n.lines - n.aside) ++ (codes " cache lines" ++ (10 ∷ [])))))

abbrev pub accepted_accesses : Counts → List ℕ
accepted_accesses n = where_any (n.accesses - n.unseen) (codes "accepted " ++ (decimal (n.accesses - n.unseen) ++ (codes " loads and stores" ++ (10 ∷ []))))

-- in a log without data no value is
abbrev pub values_line : Listing → List ℕ
values_line listings.Listed = []
values_line listings.None = codes "no value is judged: the log has no data\n"

abbrev pub judged_text : Bool → Listing → Counts → List CauseRow → List ℕ
judged_text home listing n rows = unjudged_text home n rows ++ (accepted_line n ++ (accepted_accesses n ++ values_line listing))

-- the lines on what isn't judged alone
pub record IsUnjudgedText (w : Watched) (text : List ℕ) : Type 0 where
  pub rows : List CauseRow
  pub ranked : AreRanked w.causes rows
  pub is : text ≡ unjudged_text (is_at_home w.options) w.counts rows

-- then why the first cache line of each cause was set aside, where a late flit did that
abbrev pub why_of : Option LineState → Option LateReason
why_of None = None
why_of (Some s) = s.why

abbrev pub late_at : CacheLine → Option LateReason → List ℕ
late_at line None = []
late_at line (Some why) = codes "set aside at " ++ (line_text line ++ (codes ": " ++ (late_reason_text why ++ (10 ∷ []))))

abbrev pub late_line : (ℕ → Option LineState) → CauseRow → List ℕ
late_line lines row = late_at row.first.line (why_of (lines row.first.line.0))

abbrev pub late_text : Watched → List ℕ
late_text w = flat_map (late_line w.lines) w.causes

-- on how many cache lines a copy isn't known, of a trace that begins in the middle; and what is open at the end
abbrev pub rest_text : Watched → ℕ → List ℕ
rest_text w unknown = late_text w ++ (unknown_line w.options unknown ++ open_text w)

-- The text of a trace whose flits are all taken: all of that, in this order, and nothing else.
pub record IsAcceptedText (w : Watched) (text : List ℕ) : Type 0 where
  pub rows : List CauseRow
  pub ranked : AreRanked w.causes rows
  pub unknown : ℕ
  pub counted : IsCountOf (is_unknown_at w) unknown
  pub is : text ≡ judged_text (is_at_home w.options) w.options.form.listing w.counts rows ++ rest_text w unknown
