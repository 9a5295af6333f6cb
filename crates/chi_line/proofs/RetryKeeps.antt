-- Store, Drop and the actions of the retry flow keep what a line keeps.
use Rattle.std.proofs.Common.{◌≡◌, ℕ, ◌<◌, List, true, false, Some, None, set, arith, ap}
use Rattle.std.proofs.lemmas.Bool.{false_from_ne_true}
use Rattle.chi_flit.specs.declared.credit.Profile.{Profile}
use Rattle.chi_flit.specs.declared.credit.CreditType.{CreditType}
use Rattle.chi_flit.specs.declared.state.State.{State}
use Rattle.chi_flit.specs.declared.state.State.TheVariants.{UD}
use Rattle.chi_flit.specs.declared.message.Request.{Request}
use Rattle.chi_flit.specs.declared.message.RspDown.TheVariants.{RetryAck, CompI}
use Rattle.chi_flit.specs.Credit.{credit_type_of}
use Rattle.chi_flit.specs.State.{is_unique, is_dirty}
use Rattle.chi_filter.specs.Filter.{is_named}
use Rattle.chi_rnline.specs.declared.pending.Pending.{Pending}
use Rattle.chi_rnline.specs.declared.pending.Phase.TheVariants.{Retried}
use Rattle.chi_rnline.specs.Rn.{is_clean_copy, rn_after_store}
use Rattle.chi_line.specs.LineState.{LineState, rn_of, cells_of}
use Rattle.chi_line.specs.Kept.{Lane, Kept, lane}
use Rattle.chi_line.specs.Step.{stored_line, dropped_line, retried_line, retry_received_line, resent_line, cancelled_line, evict_received_line}
use Rattle.chi_line.proofs.Frame.{IsCleanLane, Moves, moves_by, puts_set, puts_nothing, kept_by, kept_by_requester, kept_by_flits, kept_moved, within}
use Rattle.chi_line.proofs.Coherence.{unique_valid}
use Rattle.chi_line.proofs.RetryLanes.{store_lane, store_other, drop_lane, retry_lane, retry_received_lane, resend_lane, cancel_lane, evict_received_lane}

clean_copy_not_dirty : (state : State) → is_clean_copy state ≡ true → is_dirty state ≡ false
clean_copy_not_dirty state clean = search arith

-- Drop
pub kept_dropped : (last : List ℕ) (s : LineState) (n : ℕ) → n < 8
    → (rn_of s n).pending ≡ None → is_clean_copy (rn_of s n).state ≡ true → Kept last s → Kept last (dropped_line s n)
kept_dropped last s n low none clean_copy k =
    kept_by_requester last s n _ low k
    (drop_lane s.home.serving s.home.filter.unique s.home.filter.owner last n (lane s n) none clean_copy (k.lanes n low))
    (λ c. record { copy = clean_copy_not_dirty (rn_of s n).state clean_copy; on_its_way = c.on_its_way })

pub kept_stored : (last : List ℕ) (s : LineState) (n word value : ℕ) → n < 8
    → (rn_of s n).pending ≡ None → is_unique (rn_of s n).state ≡ true → Kept last s → Kept (set last word value) (stored_line s n word value)
kept_stored last s n word value low none alone k =
    let moves : Moves s (stored_line s n word value) n (record (lane s n) { rn = rn_after_store (rn_of s n) word value }) = moves_by s (stored_line s n word value) n _
    (puts_set _ s.requesters n _ (within n _ low k.requesters)) (puts_nothing _ s.flits n) (puts_nothing _ s.home.filter.named n) (puts_nothing _ s.home.awaited n) (puts_nothing _ s.home.waiting n) in
    let named_here : is_named s.home.filter n ≡ true = (k.lanes n low).holder_named (unique_valid (rn_of s n).state alone) in
    let flagged : s.home.filter.unique ≡ true = (k.lanes n low).unique_flagged alone in
    kept_moved last (set last word value) s _ n _ moves k k.in_range k.owner
    (store_lane s.home.serving s.home.filter.unique s.home.filter.owner last n (lane s n) word value none alone (k.lanes n low))
    (λ m at apart. store_other s.home.serving s.home.filter.unique s.home.filter.owner last (set last word value) m (lane s m)
    (false_from_ne_true (is_named s.home.filter m) (λ named. apart (k.flag_means_one flagged m n at low named named_here))) (k.lanes m at))
    k.flag_means_one
    (λ clean. absurd (dirty_now (lane (stored_line s n word value) n) (ap (λ (x : Lane). x.rn.state) moves.at) (clean n low)))
  where
    dirty_now : (x : Lane) → x.rn.state ≡ UD → IsCleanLane x → ⊥
    dirty_now x is clean = (let c = clean.copy in cc)

-- Retry
pub kept_retried : (profile : Profile) (last : List ℕ) (s : LineState) (n : ℕ) (request : Request) → n < 8
    → (cells_of s n).req ≡ Some request → Kept last s → Kept last (retried_line profile s n request)
kept_retried profile last s n request low here k =
    kept_by_flits last s n _ low k
    (retry_lane s.home.serving s.home.filter.unique s.home.filter.owner last n (lane s n) request (credit_type_of profile request.kind) here (k.lanes n low))
    (λ c. record { copy = c.copy; on_its_way = c.on_its_way })

-- RecvRetry
pub kept_retry_received : (last : List ℕ) (s : LineState) (n : ℕ) (ty : CreditType) → n < 8
    → (cells_of s n).rsp_down ≡ Some (RetryAck ty) → Kept last s → Kept last (retry_received_line s n)
kept_retry_received last s n ty low here k =
    kept_by last s n _ _ low k
    (retry_received_lane s.home.serving s.home.filter.unique s.home.filter.owner last n (lane s n) ty here (k.lanes n low))
    (λ c. record { copy = c.copy; on_its_way = c.on_its_way })

-- Resend
pub kept_resent : (last : List ℕ) (s : LineState) (n : ℕ) (request : Pending) → n < 8
    → (rn_of s n).pending ≡ Some request → request.phase ≡ Retried → Kept last s → Kept last (resent_line s n request)
kept_resent last s n request low here retried k =
    kept_by last s n _ _ low k
    (resend_lane s.home.serving s.home.filter.unique s.home.filter.owner last n (lane s n) request here retried (k.lanes n low))
    (λ c. record { copy = c.copy; on_its_way = c.on_its_way })

-- Cancel
pub kept_cancelled : (last : List ℕ) (s : LineState) (n : ℕ) (request : Pending) → n < 8
    → (rn_of s n).pending ≡ Some request → request.phase ≡ Retried → Kept last s → Kept last (cancelled_line s n)
kept_cancelled last s n request low here retried k =
    kept_by_requester last s n _ low k
    (cancel_lane s.home.serving s.home.filter.unique s.home.filter.owner last n (lane s n) request here retried (k.lanes n low))
    (λ c. record { copy = c.copy; on_its_way = c.on_its_way })

-- RecvComp of Comp_I
pub kept_evict_received : (last : List ℕ) (s : LineState) (n : ℕ) → n < 8
    → (cells_of s n).rsp_down ≡ Some CompI → Kept last s → Kept last (evict_received_line s n)
kept_evict_received last s n low here k =
    kept_by last s n _ _ low k
    (evict_received_lane s.home.serving s.home.filter.unique s.home.filter.owner last n (lane s n) here (k.lanes n low))
    (λ c. record { copy = c.copy; on_its_way = c.on_its_way })
