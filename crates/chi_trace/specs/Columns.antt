-- The columns of a line: its first eleven words (docs/TRACES.md, "Traces").
use Rattle.std.specs.Prelude.{ℕ, List, [], ◌∷◌, Option, Some, None, if◌then◌else◌}
use Rattle.chi_script.specs.Words.{◌>>=◌}
use Rattle.chi_trace.specs.Words.{has_bytes}
use Rattle.chi_trace.specs.declared.columns.Columns.{Columns}

-- the words by their columns
pub record Row : Type 0 where
  pub channel : List ℕ
  pub source : List ℕ
  pub target : List ℕ
  pub txn : List ℕ
  pub opcode : List ℕ
  pub address : List ℕ
  pub resp : List ℕ
  pub dbid : List ℕ
  pub allow_retry : List ℕ
  pub pcrd : List ℕ
  pub payload : List ℕ

-- the first of some words, and those behind it
abbrev pub first_word_of : List (List ℕ) → Option (List ℕ × List (List ℕ))
first_word_of [] = None
first_word_of (word ∷ words) = Some (word, words)

-- the columns of a first word and those behind it
abbrev pub row_behind : List ℕ → List (List ℕ) → Option Row
row_behind channel words = do
  source ← first_word_of words
  target ← first_word_of source.1
  txn ← first_word_of target.1
  opcode ← first_word_of txn.1
  address ← first_word_of opcode.1
  resp ← first_word_of address.1
  dbid ← first_word_of resp.1
  allow_retry ← first_word_of dbid.1
  pcrd ← first_word_of allow_retry.1
  payload ← first_word_of pcrd.1
  Some (record {
    channel = channel;
    source = source.0;
    target = target.0;
    txn = txn.0;
    opcode = opcode.0;
    address = address.0;
    resp = resp.0;
    dbid = dbid.0;
    allow_retry = allow_retry.0;
    pcrd = pcrd.0;
    payload = payload.0;
  })

-- columns of which the last is empty are of a line with too few words
abbrev pub row_if : Row → Option Row
row_if row = if has_bytes row.payload then Some row else None

-- what references to the words of a line point to
abbrev pub row_of_columns : Columns → Row
row_of_columns c = record {
  channel = c.channel.now;
  source = c.source.now;
  target = c.target.now;
  txn = c.txn.now;
  opcode = c.opcode.now;
  address = c.address.now;
  resp = c.resp.now;
  dbid = c.dbid.now;
  allow_retry = c.allow_retry.now;
  pcrd = c.pcrd.now;
  payload = c.payload.now;
}
