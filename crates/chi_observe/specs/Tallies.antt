-- What a watch holds, counted (docs/OBSERVER.md, "A watch with a room").
use Rattle.std.specs.Prelude.{ℕ, ◌&&◌, Bool, true, false, length}
use Rattle.std.specs.List.{count_by}
use Rattle.std.specs.Map.{values_of}
use Rattle.chi_ids.specs.declared.keys.IdKey.{IdKey}
use Rattle.chi_ids.specs.declared.keys.IdKey.TheVariants as keys
use Rattle.chi_observe.specs.declared.ids.OpenId.{OpenId}
use Rattle.chi_observe.specs.declared.tallies.IdForm.{IdForm}
use Rattle.chi_observe.specs.declared.tallies.IdForm.TheVariants.{Request, Buffer, Snoop, Retried}
use Rattle.chi_observe.specs.declared.tallies.Tally.{Tally}
use Rattle.chi_observe.specs.Pending.{is_account_open, is_id_open}
use Rattle.chi_observe.specs.Watched.{Watched}

-- what a key names by
abbrev pub form_of : IdKey → IdForm
form_of (keys.Request sides txn) = Request
form_of (keys.Buffer sides dbid) = Buffer
form_of (keys.Snoop sides txn) = Snoop
form_of (keys.Retried sides line) = Retried

abbrev pub is_same_form : IdForm → IdForm → Bool
is_same_form Request Request = true
is_same_form Buffer Buffer = true
is_same_form Snoop Snoop = true
is_same_form Retried Retried = true
is_same_form one other = false

-- open ids of a form, and accounts with credits that are owed or unused
abbrev pub is_open_as : Watched → IdForm → OpenId → Bool
is_open_as w form id = is_same_form form (form_of id.key) && is_id_open w id

abbrev pub open_as : Watched → IdForm → ℕ
open_as w form = count_by (is_open_as w form) (values_of w.ids)

abbrev pub unsettled : Watched → ℕ
unsettled w = count_by is_account_open (values_of w.accounts)

abbrev pub tallied : Watched → Tally
tallied w = record {
  counts = w.counts;
  requesters = length w.requesters;
  homes = length w.homes;
  ids = length w.ids;
  accounts = length w.accounts;
  requests = open_as w Request;
  completions = open_as w Buffer;
  snoops = open_as w Snoop;
  retried = open_as w Retried;
  unsettled = unsettled w;
}
