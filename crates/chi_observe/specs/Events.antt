-- What a flit of a line tells its observer (docs/OBSERVER.md, "A trace of many lines").
use Rattle.std.specs.Prelude.{ℕ, Bool, List, Option, Some, None, if◌then◌else◌, is_some, replicate}
use Rattle.chi_flit.specs.declared.numbers.Agent.{Agent}
use Rattle.chi_observer.specs.declared.flits.Flit.{Flit}
use Rattle.chi_observer.specs.declared.flits.Flit.TheVariants.{Up, Down}
use Rattle.chi_observer.specs.Judged.{is_judged}
use Rattle.chi_observe.specs.declared.events.Tells.{Tells}
use Rattle.chi_observe.specs.declared.lines.LineNews.{LineNews}
use Rattle.chi_observe.specs.declared.lines.LineNews.TheVariants as news
use Rattle.chi_observe.specs.declared.tables.Part.{Part}
use Rattle.chi_observe.specs.declared.tables.Part.TheVariants as parts
use Rattle.chi_observe.specs.Marks.{shows_words}
use Rattle.chi_observe.specs.declared.events.Tells.TheVariants.{Sent, Given, Unjudged, NoForm}

-- a flit, if an observer judges it
abbrev pub judged : Flit → Option Flit
judged flit = if is_judged flit then Some flit else None

-- the flit of an agent that has a number; what isn't judged is none
abbrev pub told_by : Tells → Agent → Option Flit
told_by (Sent act shown) agent = judged (Up (record { agent = agent; act = act; shown = shown }))
told_by (Given grant shown) agent = judged (Down (record { agent = agent; grant = grant; shown = shown }))
told_by (Unjudged opcode) agent = None
told_by (NoForm resp) agent = None

-- its words; of one that has none 0
abbrev pub words_of : Tells → List ℕ
words_of (Sent act words) = words
words_of (Given grant words) = words
words_of (Unjudged opcode) = replicate 8 0
words_of (NoForm resp) = replicate 8 0

abbrev pub with_words : Tells → List ℕ → Tells
with_words (Sent act other) words = Sent act words
with_words (Given grant other) words = Given grant words
with_words (Unjudged opcode) words = Unjudged opcode
with_words (NoForm resp) words = NoForm resp

abbrev pub flit_by : Tells → Option Agent → Option Flit
flit_by tells None = None
flit_by tells (Some agent) = told_by tells agent

-- what its line is told of: of data that come in beats the first one, which lacks these words, and the last one; of those
-- that aren't judged, or have no words of the line, the first alone
abbrev pub begun_by : Option Flit → List Bool → LineNews
begun_by None lacks = news.Flit None
begun_by (Some flit) lacks = if is_some (shows_words flit) then news.Begun flit lacks else news.Flit (Some flit)

abbrev pub ended_by : Option Flit → LineNews
ended_by None = news.Ended None
ended_by (Some flit) = if is_some (shows_words flit) then news.Ended (Some flit) else news.Nothing

abbrev pub early_by : Option Flit → LineNews
early_by None = news.Flit None
early_by (Some flit) = news.Early flit

abbrev pub news_of : Tells → Part → Option Agent → LineNews
news_of tells parts.Whole agent = news.Flit (flit_by tells agent)
news_of tells (parts.First lacks) agent = begun_by (flit_by tells agent) lacks
news_of tells (parts.Known told) agent = early_by (flit_by told agent)
news_of tells parts.Further agent = news.Flit (flit_by tells agent)
news_of tells (parts.Held same) agent = news.Held same
news_of tells (parts.Last told) agent = ended_by (flit_by told agent)
