-- By the protocol an action leaves one line, up to the order of the flits (docs/PROTOCOL.md, "The actions" and
-- "Messages").
use Rattle.std.specs.Prelude.{◌≡◌, Bool, true}
use Rattle.std.specs.List.{Contains, count_by}
use Rattle.chi_flit.specs.Message.{channel_of}
use Rattle.chi_line.specs.Words.{Agent, Flit, flit, Msg}
use Rattle.chi_line.specs.Protocol.{Standing}
use Rattle.chi_line.specs.RefusalRows.{is_snoop_answer}

-- the same line, with equally many flits in flight that pass a test, whatever the test
pub record IsSame (a b : Standing) : Type 0 where
  pub parts : a ≡ record b { flits = a.flits }
  pub flits : (test : Flit → Bool) → count_by test a.flits ≡ count_by test b.flits

-- one flit at most on a channel of an agent, one answer of an agent, and one who is named where the flag is set
pub record IsOrderly (s : Standing) : Type 0 where
  pub one : (n : Agent) (a b : Msg) → channel_of a ≡ channel_of b → Contains s.flits (flit n a) → Contains s.flits (flit n b) → a ≡ b
  pub one_answer : (n : Agent) (a b : Msg) → is_snoop_answer a ≡ true → is_snoop_answer b ≡ true
      → Contains s.flits (flit n a) → Contains s.flits (flit n b) → a ≡ b
  pub lone : s.unique ≡ true → (n m : Agent) → s.named n ≡ true → s.named m ≡ true → n ≡ m
