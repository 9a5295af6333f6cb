-- The Resp field, by the rows of its table (docs/TRACES.md, "Traces").
use Rattle.std.specs.Prelude.{ℕ, ◌&&◌, ◌==◌, Bool, false, List, [], Option, bytes_eq, map}
use Rattle.std.specs.List.{find, slice_index_or}
use Rattle.std.specs.Option.{option_map}
use denote.Enum.Declared.{tag_of}
use denote.Ref.{Bor}
use Rattle.chi_issue_b.specs.contracts.resp.Resp.{the_type}
use Rattle.chi_issue_b.specs.declared.resp.Resp.{Resp}
use Rattle.chi_issue_b.specs.declared.resp.Resp.TheVariants.{I}
use Rattle.chi_issue_b.specs.declared.resp.RespUse.{RespUse}
use Rattle.chi_issue_b.specs.declared.resp.RespUse.TheVariants.{Completion, Answer}
use Rattle.chi_issue_b.specs.declared.resp.TheConstants.{RESPS}

-- a row of the table: a Resp, its word, its number, and whether completions and answers to snoops may have it
pub record Row : Type 0 where
  pub resp : Resp
  pub word : List ℕ
  pub number : ℕ
  pub in_completions : Bool
  pub in_answers : Bool

-- the row that the code keeps as a tuple, with a reference to its word
abbrev pub lent_row : Resp × Bor (List ℕ) × ℕ × Bool × Bool → Row
lent_row (resp, word, number, completions, answers) =
    record { resp = resp; word = word.now; number = number; in_completions = completions; in_answers = answers }

abbrev pub constant_row : Resp × record { now : List ℕ } × ℕ × Bool × Bool → Row
constant_row (resp, word, number, completions, answers) =
    record { resp = resp; word = word.now; number = number; in_completions = completions; in_answers = answers }

-- THE TABLE
unfoldable pub rows : List Row
rows = map constant_row RESPS

-- what is past the end of the table
abbrev pub no_row : Row
no_row = record { resp = I; word = []; number = 0; in_completions = false; in_answers = false }

-- the row of a Resp: its place is that at which the code declares it
unfoldable pub row_of : Resp → Row
row_of resp = slice_index_or rows (tag_of the_type resp) no_row

abbrev pub resp_word : Resp → List ℕ
resp_word resp = (row_of resp).word

abbrev pub resp_number : Resp → ℕ
resp_number resp = (row_of resp).number

-- the Resp of the first row that passes a test
abbrev pub first_of : (Row → Bool) → List Row → Option Resp
first_of test rows = option_map (λ row. row.resp) (find test rows)

-- the Resp that a word names
abbrev pub is_named : List ℕ → Row → Bool
is_named word row = bytes_eq row.word word

abbrev pub resp_named : List ℕ → Option Resp
resp_named word = first_of (is_named word) rows

-- the Resp that a number means, in completions or in answers to snoops
abbrev pub is_of : RespUse → Row → Bool
is_of Completion row = row.in_completions
is_of Answer row = row.in_answers

abbrev pub is_encoded : RespUse → ℕ → Row → Bool
is_encoded of number row = row.number == number && is_of of row

abbrev pub resp_numbered : RespUse → ℕ → Option Resp
resp_numbered of number = first_of (is_encoded of number) rows
