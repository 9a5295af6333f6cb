-- Which lines are flits, and which comments.
use Rattle.std.proofs.Common.{◌≡◌, ℕ, Bool, true, false, cond, List, [], ◌∷◌, Option, Some, None, Result, Ok, Err, refl, ap, subst, ◌∙◌}
use Rattle.chi_trace.specs.declared.columns.Column.{Column}
use Rattle.chi_trace.specs.declared.flits.Seen.{Seen}
use Rattle.chi_trace.specs.declared.opcodes.TraceChannel.{TraceChannel}
use Rattle.chi_trace.specs.declared.opcodes.TraceChannel.TheVariants as channels
use Rattle.chi_trace.specs.Columns.{Row, row_behind}
use Rattle.chi_trace.specs.Flits.{flit_at, flit_of_row, flit_opcode, is_comment_word, seen_in, told_at}
use Rattle.chi_trace.specs.Opcodes.{opcode_channel, channel_word}
use Rattle.chi_trace.specs.Spelling.{IsCommentLine, IsFlit, IsFlitLine, row_words}
use Rattle.chi_trace.specs.Words.{blank_words}
use Rattle.chi_trace.proofs.SeenLemmas.{flit_again, flit_read}

-- words that are the columns of a row, and more behind them
record IsRow (words : List (List ℕ)) (row : Row) : Type 0 where
  more : List (List ℕ)
  is : words ≡ row_words row more

row_read : (channel : List ℕ) (words : List (List ℕ)) (row : Row) → row_behind channel words ≡ Some row → IsRow (channel ∷ words) row
row_read channel [] row is = cc
row_read channel (a ∷ []) row is = cc
row_read channel (a ∷ b ∷ []) row is = cc
row_read channel (a ∷ b ∷ c ∷ []) row is = cc
row_read channel (a ∷ b ∷ c ∷ d ∷ []) row is = cc
row_read channel (a ∷ b ∷ c ∷ d ∷ e ∷ []) row is = cc
row_read channel (a ∷ b ∷ c ∷ d ∷ e ∷ f ∷ []) row is = cc
row_read channel (a ∷ b ∷ c ∷ d ∷ e ∷ f ∷ g ∷ []) row is = cc
row_read channel (a ∷ b ∷ c ∷ d ∷ e ∷ f ∷ g ∷ h ∷ []) row is = cc
row_read channel (a ∷ b ∷ c ∷ d ∷ e ∷ f ∷ g ∷ h ∷ i ∷ []) row is = cc
row_read channel (a ∷ b ∷ c ∷ d ∷ e ∷ f ∷ g ∷ h ∷ i ∷ j ∷ more) row is =
    let same : record { channel = channel; source = a; target = b; txn = c; opcode = d; address = e; resp = f; dbid = g; allow_retry = h; pcrd = i; payload = j } ≡ row = cc in
    subst (λ (r : Row). IsRow (channel ∷ a ∷ b ∷ c ∷ d ∷ e ∷ f ∷ g ∷ h ∷ i ∷ j ∷ more) r) same (record { more = more; is = refl })

-- words that are a flit
pub record IsFlitWords (n : ℕ) (seen : Seen) (all : List (List ℕ)) : Type 0 where
  pub row : Row
  pub more : List (List ℕ)
  pub words : all ≡ row_words row more
  pub flit : IsFlit n seen row

told_some : (n : ℕ) (row : Row) (seen : Seen) (read : Result Seen Column) → seen_in n row ≡ read → told_at n read ≡ Ok (Some seen) → IsFlit n seen row
told_some n row seen (Ok s) at e = let same : s ≡ seen = cc in flit_read n row seen (at ∙ ap Ok same)
told_some n row seen (Err column) at e = cc

row_some : (n : ℕ) (first : List ℕ) (rest : List (List ℕ)) (seen : Seen) (found : Option Row) → row_behind first rest ≡ found → flit_of_row n found ≡ Ok (Some seen) → IsFlitWords n seen (first ∷ rest)
row_some n first rest seen None at e = cc
row_some n first rest seen (Some row) at e =
    let is = row_read first rest row at in
    record { row = row; more = is.more; words = is.is; flit = told_some n row seen (seen_in n row) refl e }

some_case : (n : ℕ) (first : List ℕ) (rest : List (List ℕ)) (seen : Seen) (comment : Bool) → cond comment (Ok None) (flit_of_row n (row_behind first rest)) ≡ Ok (Some seen) → IsFlitWords n seen (first ∷ rest)
some_case n first rest seen true e = cc
some_case n first rest seen false e = row_some n first rest seen (row_behind first rest) refl e

words_read : (n : ℕ) (words : List (List ℕ)) (seen : Seen) → flit_at n words ≡ Ok (Some seen) → IsFlitWords n seen words
words_read n [] seen e = cc
words_read n (first ∷ rest) seen e = some_case n first rest seen (is_comment_word first) e

pub line_read : (n : ℕ) (line : List ℕ) (seen : Seen) → flit_at n (blank_words line) ≡ Ok (Some seen) → IsFlitLine n seen line
line_read n line seen e =
    let is = words_read n (blank_words line) seen e in
    record { row = is.row; more = is.more; words = is.words; flit = is.flit }

-- a comment
told_none : (n : ℕ) (read : Result Seen Column) → told_at n read ≡ Ok None → ⊥
told_none n (Ok s) e = cc
told_none n (Err column) e = cc

row_none : (n : ℕ) (found : Option Row) → flit_of_row n found ≡ Ok None → ⊥
row_none n None e = cc
row_none n (Some row) e = told_none n (seen_in n row) e

none_case : (n : ℕ) (first : List ℕ) (rest : List (List ℕ)) (comment : Bool) → cond comment (Ok None) (flit_of_row n (row_behind first rest)) ≡ Ok None → comment ≡ true
none_case n first rest true e = refl
none_case n first rest false e = absurd (row_none n (row_behind first rest) e)

pub comment_read : (n : ℕ) (words : List (List ℕ)) → flit_at n words ≡ Ok None → IsCommentLine words
comment_read n [] e = tt
comment_read n (first ∷ rest) e = none_case n first rest (is_comment_word first) e

pub comment_again : (n : ℕ) (words : List (List ℕ)) → IsCommentLine words → flit_at n words ≡ Ok None
comment_again n [] is = refl
comment_again n (first ∷ rest) is = rw is refl

no_comment : (channel : TraceChannel) → is_comment_word (channel_word channel) ≡ false
no_comment channels.Req = refl
no_comment channels.Snp = refl
no_comment channels.Rsp = refl
no_comment channels.Dat = refl
no_comment channels.Cpu = refl

words_again : (n : ℕ) (seen : Seen) (row : Row) (more : List (List ℕ)) → IsFlit n seen row → flit_at n (row_words row more) ≡ Ok (Some seen)
words_again n seen row more is =
    let plain : is_comment_word row.channel ≡ false = ap is_comment_word is.channel ∙ no_comment (opcode_channel (flit_opcode seen.flit)) in
    rw (plain, flit_again n seen row is) refl

pub line_again : (n : ℕ) (seen : Seen) (line : List ℕ) → IsFlitLine n seen line → flit_at n (blank_words line) ≡ Ok (Some seen)
line_again n seen line is = ap (flit_at n) is.words ∙ words_again n seen is.row is.more is.flit
