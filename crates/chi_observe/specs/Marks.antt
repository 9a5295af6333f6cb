-- Which lines of a trace told what is known of a line of memory (docs/OBSERVER.md, "A trace of many lines").
use Rattle.std.specs.Prelude.{ℕ, Bool, true, false, List, Option, Some, None, if◌then◌else◌, nat_eq}
use Rattle.std.specs.Cmp.Lexicographic.{pointwise}
use Rattle.std.specs.List.{slice_index_or}
use Rattle.chi_flit.specs.declared.numbers.Agent.{Agent}
use Rattle.chi_observer.specs.declared.flits.Act.{Act}
use Rattle.chi_observer.specs.declared.flits.Act.TheVariants.{CompAck}
use Rattle.chi_observer.specs.declared.flits.Flit.{Flit}
use Rattle.chi_observer.specs.declared.flits.Flit.TheVariants.{Up, Down}
use Rattle.chi_observer.specs.declared.flits.Grant.{Grant}
use Rattle.chi_observer.specs.declared.flits.Grant.TheVariants.{CompData, CompUC, CompDBIDResp}
use Rattle.chi_observer.specs.Rules.{gives_data, tells_words}
use Rattle.chi_observer.specs.Worlds.{put}
use Rattle.chi_observe.specs.declared.marks.Marks.{Marks}

-- by number: its first flit; of each agent the last one that told of its copy, and the last one that showed the words that
-- are known, 0 where there is none
pub record Marked : Type 0 where
  pub first : ℕ
  pub copies : ℕ → ℕ
  pub words : ℕ

abbrev pub copies_in : List ℕ → ℕ → ℕ
copies_in copies agent = slice_index_or copies agent 0

abbrev pub marked : {A : Type 0} → Marks A → Marked
marked marks = record { first = marks.first; copies = copies_in marks.copies.items; words = marks.words }

abbrev pub nothing_marked : ℕ → Marked
nothing_marked first = record { first = first; copies = λ agent. 0; words = 0 }

-- flits that tell of their agent's copy: of its cache all but CompAck, and completions that may give or leave one
abbrev pub sends_copy : Act → Bool
sends_copy CompAck = false
sends_copy act = true

abbrev pub gives_copy : Grant → Bool
gives_copy (CompData form) = true
gives_copy CompUC = true
gives_copy CompDBIDResp = true
gives_copy grant = false

abbrev pub tells_copy : Flit → Bool
tells_copy (Up sent) = sends_copy sent.act
tells_copy (Down given) = gives_copy given.grant

abbrev pub teller_of : Flit → Agent
teller_of (Up sent) = sent.agent
teller_of (Down given) = given.agent

-- flits that show words, and whether those are the known ones
abbrev pub shows_words : Flit → Option (List ℕ)
shows_words (Up sent) = if tells_words sent.act then Some sent.shown else None
shows_words (Down given) = if gives_data given.grant then Some given.shown else None

abbrev pub is_known : Option (List ℕ) → List ℕ → Bool
is_known None shown = false
is_known (Some known) shown = pointwise nat_eq known shown

abbrev pub is_shown : Option (List ℕ) → Option (List ℕ) → Bool
is_shown None known = false
is_shown (Some shown) known = is_known known shown

abbrev pub shows_known : Flit → Option (List ℕ) → Bool
shows_known flit known = is_shown (shows_words flit) known

-- behind a flit that was taken, and the words that are known then
abbrev pub marks_after : ℕ → Flit → Option (List ℕ) → Marked → Marked
marks_after number flit known m = record {
  first = m.first;
  copies = if tells_copy flit then put (teller_of flit).0 number m.copies else m.copies;
  words = if shows_known flit known then number else m.words;
}
