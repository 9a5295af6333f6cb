-- The requests that wait in whole traces.
use Rattle.std.proofs.Common.{◌≡◌, ℕ, false, [], ◌∷◌, Option, Some, None, suc, length, ap, refl, ◌∙◌}
use Rattle.chi_issue_b.specs.Flit.{line_of}
use Rattle.chi_issue_b.specs.declared.flit.Flit.{Flit}
use Rattle.chi_issue_b.specs.declared.ids.CacheLine.{CacheLine}
use Rattle.chi_issue_b.specs.declared.roles.Role.{Role}
use Rattle.chi_issue_b.specs.declared.roles.Role.TheVariants as roles
use Rattle.chi_transactions.specs.declared.entries.OpenId.{OpenId}
use Rattle.chi_transactions.specs.declared.entries.Place.{Place}
use Rattle.chi_transactions.specs.declared.entries.Waiting.{Waiting}
use Rattle.chi_transactions.specs.Flits.{number_at, place_of, role}
use Rattle.chi_transactions.specs.History.{IsAccepted, RequestsWait, begun_waiting, behind, ended_at, waits, waits_by}
use Rattle.chi_transactions.specs.Maps.{nothing, put_waiting}
use Rattle.chi_transactions.specs.Rule.{found_by, is_before}
use Rattle.chi_transactions.specs.State.{State}
use Rattle.chi_transactions.specs.Steps.{after_by, found, naming_after_by, refusal_by, request_after_by, request_refusal_by, retry_after_by, retry_refusal_by, snoop_after_by, waiting_of, waiting_with}
use Rattle.chi_transactions.proofs.IdLaws.{before_at, none_before, whole_of}

unless_before : (waiting : Place → Option Waiting) (f : Flit) (number : ℕ) (id : OpenId) → is_before id ≡ false → waiting_with waiting f number id ≡ put_waiting waiting (place_of f id.line) (Some (waiting_of f number id))
unfolding waiting_with
unless_before waiting f number id known = rw known refl

module _ (s : State) (f : Flit) (there number : ℕ) (place : Place) (whole : s.options.begins_in_middle ≡ false) (since : before_at (s.ids (number_at f)) ≡ false) where
  request_wait : (line : Option CacheLine) → request_refusal_by s f line ≡ None → (request_after_by s f number line).waiting place ≡ ended_at f place line (s.waiting place)
  unfolding put_waiting
  request_wait None r = cc
  request_wait (Some line) r = refl

  put_wait : (id : OpenId) → put_waiting s.waiting (place_of f id.line) (Some (waiting_of f number id)) place ≡ begun_waiting f number place (Some id) (s.waiting place)
  unfolding put_waiting
  put_wait id = refl

  retry_wait : (entry : Option OpenId) → before_at entry ≡ false → retry_refusal_by s f (found_by s.options f entry) ≡ None → (retry_after_by s f number (found_by s.options f entry)).waiting place ≡ begun_waiting f number place (found_by s.options f entry) (s.waiting place)
  retry_wait None b r = let refused = rw whole at r in cc
  retry_wait (Some id) b r = ap (λ (waiting : Place → Option Waiting). waiting place) (unless_before s.waiting f number id b) ∙ put_wait id

  snoop_wait : (line : Option CacheLine) → (snoop_after_by s f number line).waiting place ≡ s.waiting place
  snoop_wait None = refl
  snoop_wait (Some line) = refl

  naming_wait : (id : Option OpenId) → (naming_after_by s f there number id).waiting place ≡ s.waiting place
  naming_wait None = refl
  naming_wait (Some id) = refl

  step_wait : (r : Role) → refusal_by r s f there ≡ None → (after_by r s f there number).waiting place ≡ waits_by r s f number place (s.waiting place)
  step_wait roles.Request r = request_wait (line_of f) r
  step_wait roles.CreditReturn r = refl
  step_wait roles.Snoop r = snoop_wait (line_of f)
  step_wait roles.Retry r = retry_wait (s.ids (number_at f)) since r
  step_wait roles.CreditGrant r = refl
  step_wait roles.NoTransaction r = refl
  step_wait roles.Completion r = naming_wait (found s f)
  step_wait roles.BufferGrant r = naming_wait (found s f)
  step_wait roles.Receipt r = naming_wait (found s f)
  step_wait roles.Answer r = naming_wait (found s f)
  step_wait roles.Acknowledgement r = naming_wait (found s f)
  step_wait roles.WriteData r = naming_wait (found s f)
  step_wait roles.WriteCancel r = naming_wait (found s f)

none_waits : (place : Place) → nothing {K = Place} {V = Waiting} place ≡ None
unfolding nothing
none_waits place = refl

pub wait : RequestsWait
unfolding behind IsAccepted waits
wait options [] whole h place = none_waits place
wait options (e ∷ past) whole h place =
    step_wait (behind options past) e.flit e.there (suc (length past)) place (whole_of options past whole) (none_before options past whole (number_at e.flit)) (role e.flit) h.1
    ∙ ap (waits_by (role e.flit) (behind options past) e.flit (suc (length past)) place) (wait options past whole h.0 place)
