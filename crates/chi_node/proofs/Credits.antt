-- A requester's calls that need no slice keep agreement.
use Rattle.std.proofs.Common.{◌≡◌, ℕ, ◌<◌, Bool, List, Option, Some, None, Result, Ok, Err, length, get_or, if◌then◌else◌, refl, sym, ◌∙◌, ap, subst, ⊎_elim, get_or-set_other}
use Rattle.std.proofs.Math.ListN.{set, length-set}
use Rattle.std.proofs.lemmas.Bool.{cases_eq, lt-ltb}
use Rattle.std.proofs.lemmas.List.{set-get_or}
use Rattle.std.proofs.lemmas.Result.{IfOk-weaker, on_err_weaker}
use Rattle.std.specs.Option.{option_or}
use Rattle.std.proofs.lemmas.Grind.{get_or-set_at}
use Rattle.std.specs.List.{refill}
use Rattle.chi_tracker.specs.Calls.{TrackerState}
use Rattle.chi_flit.specs.Credit.{credit_number}
use Rattle.chi_flit.specs.declared.credit.CreditType.{CreditType}
use Rattle.chi_flit.specs.declared.numbers.Agent.{Agent}
use Rattle.chi_flit.specs.declared.refusal.Refusal.{Refusal}
use Rattle.chi_flit.specs.declared.refusal.Refusal.TheVariants.{OutOfRange}
use Rattle.chi_tracker.specs.declared.released.Released.{Released}
use Rattle.chi_slice.specs.Slice.{SliceState}
use Rattle.chi_credit.specs.Account.{lowest_cancelled}
use Rattle.chi_node.specs.Agree.{Agree, AllAgree}
use Rattle.chi_node.specs.Calls.{IsSameRequester}
use Rattle.chi_node.specs.Requester.{RequesterState, no_requester, with_port, IsRunning}
use Rattle.chi_node.proofs.CreditCalls.{freed_agrees, ported_agrees}
use Rattle.chi_node.specs.Credits.{ForType, GivesBack, Sees, Tends, Tried}
use Rattle.chi_node.specs.Outstanding.{Outstanding, give_back_refusal, outstanding_of, tend_refusal, typed_refusal}
use Rattle.chi_node.specs.System.{DoesAlone, IsSystemOf, IsSystem, SystemState, outstanding_at, requester_of}
use Rattle.chi_node.proofs.Changed.{Answered, node, written_back}
use Rattle.chi_node.proofs.Systems.{agree_at, has_requester, renewed}

-- a requester that is the same, and agrees with every slice that it agreed with
pub record IsAlike (r r' : RequesterState) : Type 0 where
  pub same : IsSameRequester r r'
  pub agree : (s : SliceState) → Agree s r → Agree s r'
  pub running : IsRunning r → IsRunning r'

another_port : (r r' : RequesterState) → r' ≡ with_port r'.port r'.history r → r'.port.shape ≡ r.port.shape → IsRunning r' → IsAlike r r'
another_port r r' is shape running = record {
  same = record { number = ap (λ (q : RequesterState). q.number) is; table = ap (λ (q : RequesterState). q.table) is; shape = shape };
  agree = λ s a. ported_agrees s r r' is a;
  running = λ _. running;
}

pub sees_alike : (seen : List ℕ) (r r' : RequesterState) → Sees seen r r' → IsAlike r r'
sees_alike seen r r' done = another_port r r' done.others done.credits.1 done.acted.running

tends_alike : (t : ℕ) (released : Option Released) (r r' : RequesterState) → Tends t released r r' → IsAlike r r'
tends_alike t released r r' done = another_port r r' done.others done.credits.1 done.acted.running

gives_alike : (t : ℕ) (released : Released) (r r' : RequesterState) → GivesBack t released r r' → IsAlike r r'
gives_alike t released r r' done = record {
  same = record { number = ap (λ (q : RequesterState). q.number) done.others; table = ap (λ (q : RequesterState). q.table) done.others; shape = done.credits.1 };
  agree = λ s a. freed_agrees s r r' (lowest_cancelled r.slots t) done.cancelled done.others a;
  running = λ _. done.acted.running;
}

stays_alike : (r r' : RequesterState) → r' ≡ r → IsAlike r r'
stays_alike r r' is = subst (IsAlike r) (sym is) (record { same = record { number = refl; table = refl; shape = refl }; agree = λ s a. a; running = λ x. x })

pub gave_back : (t : ℕ) (r r' : RequesterState) (result : Result Released Refusal) → Tried (give_back_refusal (outstanding_of r) t) (GivesBack t) r r' result → IsAlike r r'
gave_back t r r' (Ok released) tried = gives_alike t released r r' tried.ok
gave_back t r r' (Err refusal) tried = stays_alike r r' tried.err

pub tended : (t : ℕ) (r r' : RequesterState) (result : Result (Option Released) Refusal) → Tried (tend_refusal (outstanding_of r) t) (Tends t) r r' result → IsAlike r r'
tended t r r' (Ok released) tried = tends_alike t released r r' tried.ok
tended t r r' (Err refusal) tried = stays_alike r r' tried.err

-- the node's slices stay, and one requester is as alike
pub still_alike : (tracker : TrackerState) (y : SystemState) (n : ℕ) (lent back : List RequesterState) (r : RequesterState) → IsSystemOf tracker y → n < y.home.config.agents → lent ≡ y.requesters → back ≡ set lent n r → IsAlike (get_or lent n no_requester) r
    → IsSystemOf tracker (record { home = y.home; requesters = refill (length y.requesters) y.requesters back })
still_alike tracker y n lent back r own near value changed lent_alike =
    let k : IsSystem y = own.system in
    let low = has_requester y n k near in
    let alike : IsAlike (requester_of y n) r = subst (λ (xs : List RequesterState). IsAlike (get_or xs n no_requester) r) value lent_alike in
    let all : AllAgree y.home.slices (set y.requesters n r) = λ j d inside. λ m e within. agree_after y n r k low alike j d inside m e within in
    subst (λ (rs : List RequesterState). IsSystemOf tracker (record { home = y.home; requesters = rs })) (sym (written_back y.requesters lent back n r value changed)) (renewed tracker y y.home n r own near k.home refl alike.same (alike.running (k.running n no_requester low)) all)
  where
    agree_after : (y : SystemState) (n : ℕ) (r : RequesterState) (k : IsSystem y) → n < length y.requesters → IsAlike (requester_of y n) r → (j : ℕ) (d : SliceState) → j < length y.home.slices → (m : ℕ) (e : RequesterState) → m < length (set y.requesters n r) → Agree (get_or y.home.slices j d) (get_or (set y.requesters n r) m e)
    agree_after y n r k low alike j d inside m e within = ⊎_elim
        (λ (own : m ≡ n). agree_at _ _ _ _ refl (get_or-set_at y.requesters n m r e own low) (alike.agree (get_or y.home.slices j d) (k.agree j d inside n no_requester low)))
        (λ apart. agree_at _ _ _ _ refl (get_or-set_other y.requesters n m r e apart) (k.agree j d inside m e (subst (λ (z : ℕ). m < z) (length-set y.requesters n r) within)))
        (cases_eq m n)

-- what is answered of a call for a type, of a requester of the node
pub alone_answered : {T : Type 0} (y : SystemState) (agent : Agent) (credit : Option CreditType) (ty : CreditType) (lent back : List RequesterState) (r : RequesterState) (result : Result T Refusal) (why : Outstanding → ℕ → Option Refusal) (Did : T → ℕ → RequesterState → RequesterState → Type 0)
    → IsSystem y → agent.0 < y.home.config.agents → credit ≡ Some ty → lent ≡ y.requesters → back ≡ set lent agent.0 r
    → Tried (why (outstanding_of (get_or lent agent.0 no_requester)) (credit_number ty)) (λ x. Did x (credit_number ty)) (get_or lent agent.0 no_requester) r result
    → Answered result (typed_refusal y.home agent.0 (why (outstanding_at y agent.0)) credit) (λ z x. DoesAlone y z agent (ForType credit (Did x))) y (node y.home (refill (length y.requesters) y.requesters back))
alone_answered {T} y agent credit ty lent back r result why Did k near named here changed tried =
    let n : ℕ = agent.0 in
    let t : ℕ = credit_number ty in
    let own : Tried (why (outstanding_at y n) t) (λ x. Did x t) (requester_of y n) r result =
    subst (λ (rs : List RequesterState). Tried (why (outstanding_of (get_or rs n no_requester)) t) (λ x. Did x t) (get_or rs n no_requester) r result) here tried in
    let left = written_back y.requesters lent back n r here changed in
    let there : r ≡ get_or (set y.requesters n r) n no_requester = sym (get_or-set_at y.requesters n n r no_requester refl (has_requester y n k near)) in
    subst (λ (c : Option CreditType). Answered result (typed_refusal y.home n (why (outstanding_at y n)) c) (λ z x. DoesAlone y z agent (ForType c (Did x))) y (node y.home (refill (length y.requesters) y.requesters back))) (sym named)
    (subst (λ (rs : List RequesterState). Answered result (typed_refusal y.home n (why (outstanding_at y n)) (Some ty)) (λ z x. DoesAlone y z agent (ForType (Some ty) (Did x))) y (node y.home rs)) (sym left) (
      own.refusal ∙ ap (λ (b : Bool). option_or (if b then None else Some OutOfRange) (why (outstanding_at y n) t)) (sym (lt-ltb n y.home.config.agents near)),
      IfOk-weaker result _ _ (λ x (done : Did x t (requester_of y n) r). record { home = refl; requester = subst (Did x t (requester_of y n)) there done; others = ap (λ (q : RequesterState). set y.requesters n q) there }) own.ok,
      on_err_weaker result (λ (stays : r ≡ requester_of y n). ap (λ (q : RequesterState). node y.home (set y.requesters n q)) stays ∙ (λ i. node y.home (set-get_or y.requesters n no_requester i))) own.err,
    ))
