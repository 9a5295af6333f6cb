-- What the ids of whole traces are of.
use Rattle.std.proofs.Common.{◌≡◌, ℕ, ◌==◌, ◌&&◌, Bool, true, false, [], ◌∷◌, Option, Some, None, eqb, suc, inl, inr, length, cond, ap, refl, sym, ◌∙◌}
use Rattle.std.specs.Prelude.{if◌then◌else◌}
use Rattle.std.proofs.lemmas.Bool.{cases_Bool, eqb-true}
use Rattle.chi_issue_b.specs.Flit.{dbid_of, line_of}
use Rattle.chi_issue_b.specs.declared.flit.Flit.{Flit}
use Rattle.chi_issue_b.specs.declared.ids.CacheLine.{CacheLine}
use Rattle.chi_issue_b.specs.declared.ids.DbId.{DbId}
use Rattle.chi_issue_b.specs.declared.roles.Role.{Role}
use Rattle.chi_issue_b.specs.declared.roles.Role.TheVariants as roles
use Rattle.chi_transactions.specs.declared.entries.OpenId.{OpenId}
use Rattle.chi_transactions.specs.declared.entries.Portion.{Portion}
use Rattle.chi_transactions.specs.Flits.{buffer_of, home_of, number_at, role}
use Rattle.chi_transactions.specs.History.{IsAccepted, Stand, behind, buffer_stand, is_opened, or_stand, own_stand, stand_at, stand_by, stand_if, stand_of, stands, IdsStandAsOpened}
use Rattle.chi_transactions.specs.Ids.{number_of}
use Rattle.chi_transactions.specs.Maps.{nothing, put}
use Rattle.chi_transactions.specs.Rows.{names_buffer}
use Rattle.chi_transactions.specs.Rule.{brought, found_by, is_before, is_in_use, is_opening, opened_buffer}
use Rattle.chi_transactions.specs.State.{State}
use Rattle.chi_transactions.specs.Steps.{after_by, beat_in, buffer_at, found, ids_with, naming_after_by, naming_refusal_by, opened_request, opened_snoop, refusal_by, request_after_by, request_refusal_by, retried, retry_after_by, retry_refusal_by, snoop_after_by, snoop_refusal_by, with_buffer}
use Rattle.chi_transactions.proofs.IdLaws.{before_at, none_before, whole_of}

stand_cond : (b : Bool) (v w : Option OpenId) → stand_at (cond b v w) ≡ cond b (stand_at v) (stand_at w)
stand_cond true v w = refl
stand_cond false v w = refl

stand_put : (ids : ℕ → Option OpenId) (k n : ℕ) (v : Option OpenId) → stand_at (put ids k v n) ≡ cond (eqb k n) (stand_at v) (stand_at (ids n))
unfolding put
stand_put ids k n v = stand_cond (eqb k n) v (ids n)

either : (b : Bool) (stand : Stand) (before : Option Stand) → cond b (Some stand) before ≡ or_stand (stand_if b stand) before
either true stand before = refl
either false stand before = refl

opened_stand : (ids : ℕ → Option OpenId) (k n : ℕ) (id : OpenId) (stand : Stand) → stand_of id ≡ stand → stand_at (put ids k (Some id) n) ≡ or_stand (stand_if (eqb k n) stand) (stand_at (ids n))
opened_stand ids k n id stand same =
    stand_put ids k n (Some id) ∙ ap (λ (s : Stand). cond (eqb k n) (Some s) (stand_at (ids n))) same ∙ either (eqb k n) stand (stand_at (ids n))

request_stand : (f : Flit) (number : ℕ) (line : CacheLine) → stand_of (opened_request f number line) ≡ record { line = line; home = home_of f; of = f.opcode; since = number }
unfolding opened_request
request_stand f number line = refl

snoop_stand : (f : Flit) (number : ℕ) (line : CacheLine) → stand_of (opened_snoop f number line) ≡ record { line = line; home = home_of f; of = f.opcode; since = number }
unfolding opened_snoop
snoop_stand f number line = refl

dbid_stand : (number : ℕ) (id : OpenId) → stand_of (opened_buffer number id) ≡ record { line = id.line; home = id.home; of = id.of; since = number }
unfolding opened_buffer
dbid_stand number id = refl

brought_stand : (f : Flit) (beat : Portion) (id : OpenId) → stand_of (brought f beat id) ≡ stand_of id
unfolding brought
brought_stand f beat id = refl

retried_stand : (id : OpenId) → stand_of (retried id) ≡ stand_of id
unfolding retried
retried_stand id = refl

-- an id that is kept is of the same
same_stand : (ids : ℕ → Option OpenId) (k n : ℕ) (id next : OpenId) → ids k ≡ Some id → stand_of next ≡ stand_of id → stand_at (put ids k (Some next) n) ≡ stand_at (ids n)
same_stand ids k n id next here same =
    stand_put ids k n (Some next)
    ∙ elim (cases_Bool (eqb k n)) [
      | inl at ↦ rw at (ap Some same ∙ ap stand_at (sym here) ∙ ap (λ m. stand_at (ids m)) (eqb-true k n at))
      | inr other ↦ rw other refl
    ]

module _ (s : State) (f : Flit) (there number n : ℕ) (whole : s.options.begins_in_middle ≡ false) (since : before_at (s.ids (number_at f)) ≡ false) where
  request_step : (line : Option CacheLine) → request_refusal_by s f line ≡ None → stand_at ((request_after_by s f number line).ids n) ≡ or_stand (own_stand f number n line) (stand_at (s.ids n))
  request_step None r = cc
  request_step (Some line) r = opened_stand s.ids (number_at f) n (opened_request f number line) _ (request_stand f number line)

  snoop_step : (line : Option CacheLine) → snoop_refusal_by s f line ≡ None → stand_at ((snoop_after_by s f number line).ids n) ≡ or_stand (own_stand f number n line) (stand_at (s.ids n))
  snoop_step None r = cc
  snoop_step (Some line) r = opened_stand s.ids (number_at f) n (opened_snoop f number line) _ (snoop_stand f number line)

  retry_step : (entry : Option OpenId) → s.ids (number_at f) ≡ entry → retry_refusal_by s f (found_by s.options f entry) ≡ None → stand_at ((retry_after_by s f number (found_by s.options f entry)).ids n) ≡ stand_at (s.ids n)
  retry_step None here r = let refused = rw whole at r in cc
  retry_step (Some id) here r = same_stand s.ids (number_at f) n id (retried id) here (retried_stand id)

  module _ (id : OpenId) (here : s.ids (number_at f) ≡ Some id) (known : is_before id ≡ false) where
    abbrev of_buffer : Stand
    of_buffer = record { line = id.line; home = id.home; of = id.of; since = number }

    base : (beat : Portion) → stand_at (put s.ids (number_at f) (Some (brought f beat id)) n) ≡ stand_at (s.ids n)
    base beat = same_stand s.ids (number_at f) n id (brought f beat id) here (brought_stand f beat id)

    opening_step : (ids : ℕ → Option OpenId) (dbid : DbId) (b c : Bool) → is_before id ≡ false → stand_at (ids n) ≡ stand_at (s.ids n)
        → stand_at ((if b then put ids (number_of (buffer_of f dbid)) (Some (opened_buffer number id)) else (if is_before id && c then put ids (number_of (buffer_of f dbid)) None else ids)) n)
        ≡ or_stand (stand_if (b && number_of (buffer_of f dbid) == n) of_buffer) (stand_at (s.ids n))
    opening_step ids dbid true c k h = opened_stand ids (number_of (buffer_of f dbid)) n (opened_buffer number id) of_buffer (dbid_stand number id) ∙ ap (or_stand (stand_if (number_of (buffer_of f dbid) == n) of_buffer)) h
    opening_step ids dbid false c k h = rw k h

    use_step : (used : Bool) (buffer : Option OpenId) (dbid : Option DbId) (ids : ℕ → Option OpenId) → is_in_use buffer ≡ used → stand_at (ids n) ≡ stand_at (s.ids n)
        → stand_at ((if used then ids else with_buffer f number id dbid ids) n) ≡ or_stand (stand_if (is_opened f id buffer n dbid) of_buffer) (stand_at (s.ids n))
    use_step true buffer None ids k h = h
    use_step false buffer None ids k h = h
    use_step true buffer (Some dbid) ids k h = rw k h
    use_step false buffer (Some dbid) ids k h = rw k (opening_step ids dbid (is_opening f id) (names_buffer f.opcode f.resp) known h)

    named_step : (beat : Portion) → stand_at (ids_with s.ids f number beat id (buffer_at s f) n) ≡ or_stand (buffer_stand s f number n (Some id)) (stand_at (s.ids n))
    unfolding ids_with
    named_step beat = use_step (is_in_use (buffer_at s f)) (buffer_at s f) (dbid_of f) (put s.ids (number_at f) (Some (brought f beat id))) refl (base beat)

  naming_step : (entry : Option OpenId) → s.ids (number_at f) ≡ entry → before_at entry ≡ false → naming_refusal_by s f there (found_by s.options f entry) ≡ None
      → stand_at ((naming_after_by s f there number (found_by s.options f entry)).ids n) ≡ or_stand (buffer_stand s f number n (found_by s.options f entry)) (stand_at (s.ids n))
  naming_step None here b r = let refused = rw whole at r in cc
  naming_step (Some id) here b r = named_step id here b (beat_in s f there id)

  naming : naming_refusal_by s f there (found s f) ≡ None → stand_at ((naming_after_by s f there number (found s f)).ids n) ≡ or_stand (buffer_stand s f number n (found s f)) (stand_at (s.ids n))
  naming r = naming_step (s.ids (number_at f)) refl since r

  step_stand : (r : Role) → refusal_by r s f there ≡ None → stand_at ((after_by r s f there number).ids n) ≡ or_stand (stand_by r s f number n) (stand_at (s.ids n))
  step_stand roles.Request r = request_step (line_of f) r
  step_stand roles.CreditReturn r = refl
  step_stand roles.Snoop r = snoop_step (line_of f) r
  step_stand roles.Retry r = retry_step (s.ids (number_at f)) refl r
  step_stand roles.CreditGrant r = refl
  step_stand roles.NoTransaction r = refl
  step_stand roles.Completion r = naming r
  step_stand roles.BufferGrant r = naming r
  step_stand roles.Receipt r = naming r
  step_stand roles.Answer r = naming r
  step_stand roles.Acknowledgement r = naming r
  step_stand roles.WriteData r = naming r
  step_stand roles.WriteCancel r = naming r

nothing_stands : (n : ℕ) → stand_at (nothing {K = ℕ} {V = OpenId} n) ≡ None
unfolding nothing
nothing_stands n = refl

pub stand : IdsStandAsOpened
unfolding behind IsAccepted stands
stand options [] whole h n = nothing_stands n
stand options (e ∷ past) whole h n =
    step_stand (behind options past) e.flit e.there (suc (length past)) n (whole_of options past whole) (none_before options past whole (number_at e.flit)) (role e.flit) h.1
    ∙ ap (or_stand (stand_by (role e.flit) (behind options past) e.flit (suc (length past)) n)) (stand options past whole h.0 n)
