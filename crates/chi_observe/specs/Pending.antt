-- What is open behind the flits of a trace (docs/OBSERVER.md, "What is printed").
use Rattle.std.specs.Prelude.{◌&&◌, ◌||◌, Bool, false, not, nat_lt, Option, Some}
use Rattle.std.specs.List.{list_any}
use Rattle.std.specs.Map.{values_of}
use Rattle.chi_flit.specs.declared.numbers.Agent.{Agent}
use Rattle.chi_observe.specs.declared.credits.Account.{Account}
use Rattle.chi_ids.specs.declared.keys.IdKey.{IdKey}
use Rattle.chi_ids.specs.declared.keys.IdKey.TheVariants.{Retried}
use Rattle.chi_observe.specs.declared.ids.OpenId.{OpenId}
use Rattle.chi_observe.specs.Credits.{owed_of, unused_of}
use Rattle.chi_observe.specs.Judges.{holds, is_cut, told_in}
use Rattle.chi_observe.specs.Lines.{LineState, is_aside}
use Rattle.chi_observe.specs.Nodes.{agent_of}
use Rattle.chi_observe.specs.Watched.{Watched}

-- a request that was retried and is surely cancelled isn't open; one that came and isn't told yet is
abbrev pub is_cancelled_at : LineState → Agent → Bool
is_cancelled_at s agent = not s.aside && (not (holds s.told agent.0) && ((told_in s.told).seen.told agent.0).cancelled)

abbrev pub cancelled_at : Option Agent → Option LineState → Bool
cancelled_at (Some agent) (Some s) = is_cancelled_at s agent
cancelled_at agent s = false

abbrev pub is_cancelled : Watched → IdKey → Bool
is_cancelled w (Retried sides line) = cancelled_at (agent_of w.requesters w.homes sides) (w.lines line.0)
is_cancelled w other = false

-- nor is an id of a line that is set aside
abbrev pub is_id_open : Watched → OpenId → Bool
is_id_open w id = not (is_cancelled w id.key) && not (is_aside (w.lines id.line.0))

abbrev pub has_open_id : Watched → Bool
has_open_id w = list_any (is_id_open w) (values_of w.ids)

-- credits that are owed or unused: of a trace that is cut out of a longer one they aren't told
abbrev pub is_account_open : Account → Bool
is_account_open account = nat_lt 0 (owed_of account) || nat_lt 0 (unused_of account)

abbrev pub has_open_account : Watched → Bool
has_open_account w = list_any is_account_open (values_of w.accounts)

abbrev pub is_open : Watched → Bool
is_open w = has_open_id w || (not (is_cut w.options) && has_open_account w)
