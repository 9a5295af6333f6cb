-- By the protocol an action leaves one line, up to the order of the flits.
use Rattle.std.proofs.Common.{◌≡◌, ℕ, zero, suc, ◌<◌, ◌++◌, List, [], ◌∷◌, Bool, true, false, Option, Some, None, cond, ◌==◌, if◌then◌else◌, sym, subst, refl, ap, ◌∙◌, ◌⊎◌, inl, inr, ⊎_elim, sum_by, Contains, arith, slice_index_or, slice_set}
use Rattle.std.specs.List.Sorted.{IsPermutation}
use Rattle.std.proofs.lemmas.Bool.{true≢false}
use Rattle.std.proofs.lemmas.List.Sums.{sum_by-append}
use Rattle.std.proofs.lemmas.List.Sorted.{Contains-permutation, sum_by-IsPermutation}
use Rattle.std.proofs.lemmas.List.Elements.{Contains-append_cases}
use Rattle.chi_flit.specs.declared.action.Step.TheVariants as steps
use Rattle.chi_journal.specs.declared.record.Record.TheVariants as records
use Rattle.chi_flit.specs.declared.message.CompData.{CompData}
use Rattle.chi_flit.specs.declared.message.Request.{Request}
use Rattle.chi_flit.specs.Credit.{credit_type_of}
use Rattle.chi_flit.specs.Snoop.{answer_of}
use Rattle.chi_line.specs.Words.{Agent, Line, Slot, State, I, SC, UC, UD, SD, Kind, ReadNotSharedDirty, ReadShared, ReadUnique, CleanUnique, Evict, WriteBackFull, WriteCleanFull, WriteEvictFull}
use Rattle.chi_line.specs.Words.{Snoop, SnpNotSharedDirty, SnpShared, SnpUnique, SnpCleanInvalid, Profile, Step, Effect, Value, Completed, Record, Flit, flit, Pending, Sent, Retried, Waiting}
use Rattle.chi_line.specs.Words.{Msg, Req, Snp, RspDown, DatDown, RspUp, DatUp, RetryAck, CompUC, CompI, CompDBIDResp, SnpRespI, SnpRespSC, CompAck, SnpRespDataIPD, SnpRespDataSCPD, SnpRespDataSD, CopyBackWrData}
use Rattle.chi_line.specs.Protocol.{LineStep, AnswerRow, Asks, SharedReadAsks, SnoopStart, CopyBackStart, Becomes, CompletionRow, SharedReadRow, IsLeftBy, IsMadeUnique, Leaves, Nobody, Somebody, Standing, StartRow, WriteRow, comp_data, given_by, issued, memory_with, only, others, request, serves, to_each, with_for, with_pending, with_state, write_data}
use Rattle.chi_line.specs.Protocol.Serving.{Idle, Snooping, AwaitingCompAck, AwaitingWriteData}
use Rattle.chi_line.specs.Law.{IsOrderly, IsSame}
use Rattle.chi_line.specs.RefusalRows.{is_snoop_answer}

counts : (f : Flit → ℕ) (taken sent old a b : List Flit) → IsPermutation (taken ++ a) (sent ++ old) → IsPermutation (taken ++ b) (sent ++ old) → sum_by f a ≡ sum_by f b
counts f taken sent old a b p q =
    let e1 = sum_by-IsPermutation f (taken ++ a) (sent ++ old) p in
    let e2 = sum_by-IsPermutation f (taken ++ b) (sent ++ old) q in
    let s1 = sum_by-append f taken a in
    let s2 = sum_by-append f taken b in
    omega arith

becomes_same : (old said said' a b : Standing) (taken taken' sent sent' : List Flit) → taken ≡ taken' → sent ≡ sent' → said ≡ said' → Becomes taken sent old said a → Becomes taken' sent' old said' b → IsSame a b
becomes_same old said said' a b taken taken' sent sent' takes sends says x y = record {
  parts = x.0 ∙ ((λ i. record (says i) { flits = a.flits }) ∙ sym (ap (λ (v : Standing). record v { flits = a.flits }) y.0));
  flits = λ test. counts (λ f. cond (test f) 1 0) taken' sent' old.flits a.flits b.flits
      (subst (λ (t : List Flit). IsPermutation (t ++ a.flits) (sent' ++ old.flits)) takes (subst (λ (t : List Flit). IsPermutation (taken ++ a.flits) (t ++ old.flits)) sends x.1)) y.1;
}

abbrev one : Agent → Msg → List Flit
one n m = flit n m ∷ []

some_none : (set : Agent → Bool) → Somebody set → Nobody set → ⊥
some_none set some none = true≢false (sym some.1 ∙ none some.0)

leaves_same : (n : Agent) (s a b : Standing) → Leaves n s a → Leaves n s b → a ≡ b
leaves_same n s a b (inl x) (inl y) = x.1 ∙ sym y.1
leaves_same n s a b (inr x) (inr y) = x.1 ∙ sym y.1
leaves_same n s a b (inl x) (inr y) = absurd (some_none (others s n) x.0 y.0)
leaves_same n s a b (inr x) (inl y) = absurd (some_none (others s n) y.0 x.0)

shared_same : (n : Agent) (given : List ℕ) (s : Standing) (m m' : Msg) (a b : Standing) → SharedReadRow n given s m a → SharedReadRow n given s m' b → (m ≡ m') × (a ≡ b)
shared_same n given s m m' a b (inl x) (inl y) = (x.1 ∙ sym y.1, x.2 ∙ sym y.2)
shared_same n given s m m' a b (inr x) (inr y) = (x.1 ∙ sym y.1, x.2 ∙ sym y.2)
shared_same n given s m m' a b (inl x) (inr y) = absurd (some_none (others s n) y.0 x.0)
shared_same n given s m m' a b (inr x) (inl y) = absurd (some_none (others s n) x.0 y.0)

completes_same : (kind : Kind) (n : Agent) (given : List ℕ) (s : Standing) (m m' : Msg) (a b : Standing) → CompletionRow kind n given s m a → CompletionRow kind n given s m' b → (m ≡ m') × (a ≡ b)
completes_same ReadNotSharedDirty n given s m m' a b x y = shared_same n s.memory s m m' a b x y
completes_same ReadShared n given s m m' a b x y = shared_same n given s m m' a b x y
completes_same ReadUnique n given s m m' a b x y = (x.0 ∙ sym y.0, x.1 ∙ sym y.1)
completes_same CleanUnique n given s m m' a b x y = (x.0 ∙ sym y.0, x.1 ∙ sym y.1)
completes_same other n given s m m' a b x y = absurd x

shared_down : (n : Agent) (given : List ℕ) (s : Standing) (m : Msg) (a : Standing) → SharedReadRow n given s m a → is_snoop_answer m ≡ false
shared_down n given s m a (inl x) = ap is_snoop_answer x.1
shared_down n given s m a (inr x) = ap is_snoop_answer x.1

completes_down : (kind : Kind) (n : Agent) (given : List ℕ) (s : Standing) (m : Msg) (a : Standing) → CompletionRow kind n given s m a → is_snoop_answer m ≡ false
completes_down ReadNotSharedDirty n given s m a x = shared_down n s.memory s m a x
completes_down ReadShared n given s m a x = shared_down n given s m a x
completes_down ReadUnique n given s m a x = ap is_snoop_answer x.0
completes_down CleanUnique n given s m a x = ap is_snoop_answer x.0
completes_down other n given s m a x = absurd x

abbrev IsLone : Standing → Type 0
IsLone s = s.unique ≡ true → (n m : Agent) → s.named n ≡ true → s.named m ≡ true → n ≡ m

was : (b c : Bool) → (if b then false else c) ≡ true → c ≡ true
was true c is = absurd (cc (is))
was false c is = is

same_owner : (owner : Option Agent) (m m' : Agent) → owner ≡ Some m → owner ≡ Some m' → m ≡ m'
same_owner owner m m' x y = cc

asked_same : (n : Agent) (s : Standing) (a b : Agent → Bool) → IsLone s → SharedReadAsks n s a → SharedReadAsks n s b → a ≡ b
asked_same n s a b lone (inl x) (inl y) =
    x.3 ∙ (ap only (lone x.0 x.1 y.1 (was (x.1.0 == n.0) (s.named x.1) x.2) (was (y.1.0 == n.0) (s.named y.1) y.2)) ∙ sym y.3)
asked_same n s a b lone (inl x) (inr (inl y)) = absurd (some_none (others s n) (x.1, x.2) (y.0 x.0))
asked_same n s a b lone (inl x) (inr (inr y)) = absurd (some_none (others s n) (x.1, x.2) (y.0 x.0))
asked_same n s a b lone (inr (inl x)) (inl y) = absurd (some_none (others s n) (y.1, y.2) (x.0 y.0))
asked_same n s a b lone (inr (inr x)) (inl y) = absurd (some_none (others s n) (y.1, y.2) (x.0 y.0))
asked_same n s a b lone (inr (inl x)) (inr (inl y)) = x.4 ∙ (ap only (same_owner s.owner x.1 y.1 x.2 y.2) ∙ sym y.4)
asked_same n s a b lone (inr (inl x)) (inr (inr y)) = absurd (x.3 (y.1 x.1 x.2))
asked_same n s a b lone (inr (inr x)) (inr (inl y)) = absurd (y.3 (x.1 y.1 y.2))
asked_same n s a b lone (inr (inr x)) (inr (inr y)) = x.2 ∙ sym y.2

asks_same : (kind : Kind) (n : Agent) (s : Standing) (a b : Agent → Bool) → IsLone s → Asks kind n s a → Asks kind n s b → a ≡ b
asks_same ReadNotSharedDirty n s a b lone x y = asked_same n s a b lone x y
asks_same ReadShared n s a b lone x y = asked_same n s a b lone x y
asks_same ReadUnique n s a b lone x y = x ∙ sym y
asks_same CleanUnique n s a b lone x y = x ∙ sym y
asks_same other n s a b lone x y = absurd x

abbrev Left : Snoop → Kind → Agent → Slot → Standing → (Agent → Bool) → Standing → Type 0
Left snoop kind n slot s asked new =
    (Somebody asked × Becomes [] (to_each asked (Snp snoop)) s (serves (Snooping n kind slot asked) s) new)
    ⊎ (Nobody asked × (message : Msg) × (done : Standing) × CompletionRow kind n s.memory s message done × Becomes [] (flit n message ∷ []) s (serves (AwaitingCompAck n slot) done) new)

left_same : (snoop : Snoop) (kind : Kind) (n : Agent) (slot : Slot) (s : Standing) (asked : Agent → Bool) (a b : Standing) → Left snoop kind n slot s asked a → Left snoop kind n slot s asked b → IsSame a b
left_same snoop kind n slot s asked a b (inl x) (inl y) = becomes_same s (serves (Snooping n kind slot asked) s) (serves (Snooping n kind slot asked) s) a b [] [] _ _ refl refl refl x.1 y.1
left_same snoop kind n slot s asked a b (inr x) (inr y) =
    let e = completes_same kind n s.memory s x.1 y.1 x.2 y.2 x.3 y.3 in
    becomes_same s (serves (AwaitingCompAck n slot) x.2) (serves (AwaitingCompAck n slot) y.2) a b [] [] _ _ refl (ap (λ (m : Msg). flit n m ∷ []) e.0) (ap (λ (d : Standing). serves (AwaitingCompAck n slot) d) e.1) x.4 y.4
left_same snoop kind n slot s asked a b (inl x) (inr y) = absurd (some_none asked x.0 y.0)
left_same snoop kind n slot s asked a b (inr x) (inl y) = absurd (some_none asked y.0 x.0)

snoop_start_same : (snoop : Snoop) (kind : Kind) (n : Agent) (slot : Slot) (s : Standing) (e e' : Effect) (a b : Standing) → IsLone s → SnoopStart kind snoop n slot s e a → SnoopStart kind snoop n slot s e' b → (e ≡ e') × IsSame a b
snoop_start_same snoop kind n slot s e e' a b lone x y =
    let asked : x.1 ≡ y.1 = asks_same kind n s x.1 y.1 lone x.2 y.2 in
    (x.0 ∙ sym y.0, left_same snoop kind n slot s y.1 a b (subst (λ (set : Agent → Bool). Left snoop kind n slot s set a) asked x.3) y.3)

copy_back_same : (kind : Kind) (n : Agent) (slot : Slot) (s : Standing) (e e' : Effect) (a b : Standing) → CopyBackStart kind n slot s e a → CopyBackStart kind n slot s e' b → (e ≡ e') × IsSame a b
copy_back_same kind n slot s e e' a b x y = (x.0 ∙ sym y.0, becomes_same s (serves (AwaitingWriteData n kind slot) s) (serves (AwaitingWriteData n kind slot) s) a b [] [] (one n (RspDown CompDBIDResp)) (one n (RspDown CompDBIDResp)) refl refl refl x.1 y.1)

starts_same : (kind : Kind) (n : Agent) (slot : Slot) (s : Standing) (e e' : Effect) (a b : Standing) → IsLone s → StartRow kind n slot s e a → StartRow kind n slot s e' b → (e ≡ e') × IsSame a b
starts_same ReadNotSharedDirty n slot s e e' a b lone x y = snoop_start_same SnpNotSharedDirty ReadNotSharedDirty n slot s e e' a b lone x y
starts_same ReadShared n slot s e e' a b lone x y = snoop_start_same SnpShared ReadShared n slot s e e' a b lone x y
starts_same ReadUnique n slot s e e' a b lone x y = snoop_start_same SnpUnique ReadUnique n slot s e e' a b lone x y
starts_same CleanUnique n slot s e e' a b lone x y = snoop_start_same SnpCleanInvalid CleanUnique n slot s e e' a b lone x y
starts_same Evict n slot s e e' a b lone x y = (x.0 ∙ sym y.0, becomes_same s x.1 y.1 a b [] [] (one n (RspDown CompI)) (one n (RspDown CompI)) refl refl (leaves_same n s x.1 y.1 x.2 y.2) x.3 y.3)
starts_same WriteBackFull n slot s e e' a b lone x y = copy_back_same WriteBackFull n slot s e e' a b x y
starts_same WriteCleanFull n slot s e e' a b lone x y = copy_back_same WriteCleanFull n slot s e e' a b x y
starts_same WriteEvictFull n slot s e e' a b lone x y = copy_back_same WriteEvictFull n slot s e e' a b x y

-- the taken flit was in flight
pub only_flit : (y x : Flit) (k : ℕ) → k < 1 → slice_index_or (y ∷ []) k x ≡ x → y ≡ x
only_flit y x zero low is = is
only_flit y x (suc k) low is = absurd (omega arith)

pub took : (n : Agent) (m : Msg) (old new : List Flit) → IsPermutation (flit n m ∷ new) old → Contains old (flit n m)
took n m old new p = Contains-permutation (flit n m ∷ new) old (flit n m) p (0, omega arith, refl)

pub took_for : (n a : Agent) (m m' : Msg) (old new : List Flit) → (m' ≡ m → ⊥) → IsPermutation (flit n m ∷ new) (flit a m' ∷ old) → Contains old (flit n m)
took_for n a m m' old new apart p = ⊎_elim
    (λ (c : Contains (flit a m' ∷ []) (flit n m)). absurd (apart (ap (λ (f : Flit). f.message) (only_flit (flit a m') (flit n m) c.0 c.1 c.2))))
    (λ (c : Contains old (flit n m)). c)
    (Contains-append_cases (flit a m' ∷ []) old (flit n m) (took n m (flit a m' ∷ old) new p))

answers_same : (m : Agent) (answer : Msg) (s a b : Standing) → AnswerRow m answer s a → AnswerRow m answer s b → a ≡ b
answers_same m (RspUp SnpRespI) s a b x y = leaves_same m s a b x y
answers_same m (RspUp SnpRespSC) s a b x y = x ∙ sym y
answers_same m (DatUp (SnpRespDataIPD words)) s a b x y = leaves_same m (record s { memory = words }) a b x y
answers_same m (DatUp (SnpRespDataSCPD words)) s a b x y = x ∙ sym y
answers_same m (DatUp (SnpRespDataSD words)) s a b x y = x ∙ sym y
answers_same m other s a b x y = absurd x

pub is_answered : (m : Agent) (answer : Msg) (s a : Standing) → AnswerRow m answer s a → is_snoop_answer answer ≡ true
is_answered m (RspUp SnpRespI) s a x = refl
is_answered m (RspUp SnpRespSC) s a x = refl
is_answered m (DatUp (SnpRespDataIPD words)) s a x = refl
is_answered m (DatUp (SnpRespDataSCPD words)) s a x = refl
is_answered m (DatUp (SnpRespDataSD words)) s a x = refl
is_answered m other s a x = absurd x

-- an answer that is taken, and what the home does then
abbrev Then : Agent → Agent → Kind → Slot → (Agent → Bool) → Standing → Msg → Standing → Standing → Type 0
Then n agent kind slot left old answer answered new =
    (Somebody left × Becomes (flit n answer ∷ []) [] old (serves (Snooping agent kind slot left) answered) new)
    ⊎ (Nobody left × (message : Msg) × (done : Standing) × CompletionRow kind agent (given_by answer answered.memory) answered message done
    × Becomes (flit n answer ∷ []) (flit agent message ∷ []) old (serves (AwaitingCompAck agent slot) done) new)

pub then_took : (n agent : Agent) (kind : Kind) (slot : Slot) (left : Agent → Bool) (old : Standing) (answer : Msg) (answered new : Standing) → is_snoop_answer answer ≡ true → Then n agent kind slot left old answer answered new → Contains old.flits (flit n answer)
then_took n agent kind slot left old answer answered new is (inl x) = took n answer old.flits new.flits x.1.1
then_took n agent kind slot left old answer answered new is (inr x) =
    took_for n agent answer x.1 old.flits new.flits (λ (e : x.1 ≡ answer). true≢false (sym is ∙ (sym (ap is_snoop_answer e) ∙ completes_down kind agent _ answered x.1 x.2 x.3))) x.4.1

then_same : (n agent : Agent) (kind : Kind) (slot : Slot) (left : Agent → Bool) (old : Standing) (answer : Msg) (answered a b : Standing) → Then n agent kind slot left old answer answered a → Then n agent kind slot left old answer answered b → IsSame a b
then_same n agent kind slot left old answer answered a b (inl x) (inl y) =
    becomes_same old (serves (Snooping agent kind slot left) answered) (serves (Snooping agent kind slot left) answered) a b (one n answer) (one n answer) [] [] refl refl refl x.1 y.1
then_same n agent kind slot left old answer answered a b (inr x) (inr y) =
    let e = completes_same kind agent (given_by answer answered.memory) answered x.1 y.1 x.2 y.2 x.3 y.3 in
    becomes_same old (serves (AwaitingCompAck agent slot) x.2) (serves (AwaitingCompAck agent slot) y.2) a b (one n answer) (one n answer) (one agent x.1) (one agent y.1) refl (ap (one agent) e.0) (ap (serves (AwaitingCompAck agent slot)) e.1) x.4 y.4
then_same n agent kind slot left old answer answered a b (inl x) (inr y) = absurd (some_none left x.0 y.0)
then_same n agent kind slot left old answer answered a b (inr x) (inl y) = absurd (some_none left y.0 x.0)

record IsOneSnooping (agent agent' : Agent) (kind kind' : Kind) (slot slot' : Slot) (awaited awaited' : Agent → Bool) : Type 0 where
  agent_is : agent ≡ agent'
  kind_is : kind ≡ kind'
  slot_is : slot ≡ slot'
  awaited_is : awaited ≡ awaited'

one_snooping : (agent agent' : Agent) (kind kind' : Kind) (slot slot' : Slot) (awaited awaited' : Agent → Bool) → Snooping agent kind slot awaited ≡ Snooping agent' kind' slot' awaited' → IsOneSnooping agent agent' kind kind' slot slot' awaited awaited'
one_snooping agent agent' kind kind' slot slot' awaited awaited' e = record { agent_is = cc; kind_is = cc; slot_is = cc; awaited_is = cc }

made_same : (state a b : State) → IsMadeUnique state a → IsMadeUnique state b → a ≡ b
made_same SC a b x y = x ∙ sym y
made_same SD a b x y = x ∙ sym y
made_same I a b x y = x ∙ sym y
made_same UC a b x y = absurd x
made_same UD a b x y = absurd x

left_by_same : (kind : Kind) (form a b : State) → IsLeftBy kind form a → IsLeftBy kind form b → a ≡ b
left_by_same WriteBackFull form a b x y = x ∙ sym y
left_by_same WriteEvictFull form a b x y = x ∙ sym y
left_by_same WriteCleanFull UD a b x y = x ∙ sym y
left_by_same WriteCleanFull SD a b x y = x ∙ sym y
left_by_same WriteCleanFull SC a b x y = x ∙ sym y
left_by_same WriteCleanFull I a b x y = x ∙ sym y
left_by_same kind form a b x y = absurd x

writes_same : (kind : Kind) (form : State) (n : Agent) (s a b : Standing) → WriteRow kind form n s a → WriteRow kind form n s b → a ≡ b
writes_same WriteBackFull form n s a b x y = leaves_same n s a b x y
writes_same WriteEvictFull form n s a b x y = leaves_same n s a b x y
writes_same WriteCleanFull I n s a b x y = leaves_same n s a b x y
writes_same WriteCleanFull form n s a b x y = x ∙ sym y
writes_same kind form n s a b x y = absurd x

record IsOneRequest (k k' : Kind) (s s' : Slot) (a a' : Bool) : Type 0 where
  kind_is : k ≡ k'
  slot_is : s ≡ s'
  allow_is : a ≡ a'

abbrev one_req : Kind → Slot → Bool → Request
one_req k s a = record { kind = k; slot = s; allow_retry = a }

same_req : (q q' : Request) → Req q ≡ Req q' → q ≡ q'
same_req q q' e = cc

one_request : (k k' : Kind) (s s' : Slot) (a a' : Bool) → request k s a ≡ request k' s' a' → IsOneRequest k k' s s' a a'
one_request k k' s s' a a' e =
    let q : one_req k s a ≡ one_req k' s' a' = same_req (one_req k s a) (one_req k' s' a') e in
    record { kind_is = ap (λ (r : Request). r.kind) q; slot_is = ap (λ (r : Request). r.slot) q; allow_is = ap (λ (r : Request). r.allow_retry) q }

same_pending : (o : Option Pending) (p q : Pending) → o ≡ Some p → o ≡ Some q → p ≡ q
same_pending o p q x y = cc

same_waiting : (o : Option Waiting) (p q : Waiting) → o ≡ Some p → o ≡ Some q → p ≡ q
same_waiting o p q x y = cc

pub answers_up : (state : State) (snoop : Snoop) (words : List ℕ) → is_snoop_answer (answer_of state snoop words).1 ≡ true
answers_up state snoop words = search arith

same_snoop : (p q : Snoop) → Snp p ≡ Snp q → p ≡ q
same_snoop p q e = cc

record IsOneData (u u' : Bool) (w w' : List ℕ) : Type 0 where
  unique_is : u ≡ u'
  words_is : w ≡ w'

abbrev one_comp : Bool → List ℕ → CompData
one_comp u w = record { unique = u; words = w }

same_comp : (q q' : CompData) → DatDown q ≡ DatDown q' → q ≡ q'
same_comp q q' e = cc

one_data : (u u' : Bool) (w w' : List ℕ) → comp_data u w ≡ comp_data u' w' → IsOneData u u' w w'
one_data u u' w w' e =
    let q : one_comp u w ≡ one_comp u' w' = same_comp (one_comp u w) (one_comp u' w') e in
    record { unique_is = ap (λ (d : CompData). d.unique) q; words_is = ap (λ (d : CompData). d.words) q }

abbrev pub Comp : Agent → Standing → Standing → Type 0
Comp n old new =
    ((left : State) × IsMadeUnique (old.copies n).state left × Becomes (flit n (RspDown CompUC) ∷ []) (flit n (RspUp CompAck) ∷ []) old (with_pending n None (with_state n left old)) new)
    ⊎ Becomes (flit n (RspDown CompI) ∷ []) [] old (with_pending n None old) new

two_comps : RspDown CompUC ≡ RspDown CompI → ⊥
two_comps e = cc

pub acked : (n : Agent) (old new : List Flit) → IsPermutation (flit n (RspDown CompUC) ∷ new) (flit n (RspUp CompAck) ∷ old) → Contains old (flit n (RspDown CompUC))
acked n old new p = took_for n n (RspDown CompUC) (RspUp CompAck) old new (λ (e : RspUp CompAck ≡ RspDown CompUC). cc) p

comp_same : (n : Agent) (old a b : Standing) → IsOrderly old → Comp n old a → Comp n old b → IsSame a b
comp_same n old a b o (inl x) (inl y) =
    let left : x.0 ≡ y.0 = made_same (old.copies n).state x.0 y.0 x.1 y.1 in
    becomes_same old (with_pending n None (with_state n x.0 old)) (with_pending n None (with_state n y.0 old)) a b (one n (RspDown CompUC)) (one n (RspDown CompUC)) (one n (RspUp CompAck)) (one n (RspUp CompAck)) refl refl
    (λ j. with_pending n None (with_state n (left j) old)) x.2 y.2
comp_same n old a b o (inr x) (inr y) =
    becomes_same old (with_pending n None old) (with_pending n None old) a b (one n (RspDown CompI)) (one n (RspDown CompI)) [] [] refl refl refl x y
comp_same n old a b o (inl x) (inr y) = absurd (two_comps (o.one n (RspDown CompUC) (RspDown CompI) refl (acked n old.flits a.flits x.2.1) (took n _ old.flits b.flits y.1)))
comp_same n old a b o (inr x) (inl y) = absurd (two_comps (o.one n (RspDown CompUC) (RspDown CompI) refl (acked n old.flits b.flits y.2.1) (took n _ old.flits a.flits x.1)))

same_ack : (n : Agent) (s s' : Slot) → AwaitingCompAck n s ≡ AwaitingCompAck n s' → s ≡ s'
same_ack n s s' e = cc

record IsOneWrite (k k' : Kind) (s s' : Slot) : Type 0 where
  kind_is : k ≡ k'
  slot_is : s ≡ s'

one_write : (n : Agent) (k k' : Kind) (s s' : Slot) → AwaitingWriteData n k s ≡ AwaitingWriteData n k' s' → IsOneWrite k k' s s'
one_write n k k' s s' e = record { kind_is = cc; slot_is = cc }

record IsOneForm (f f' : State) (w w' : List ℕ) : Type 0 where
  form_is : f ≡ f'
  words_is : w ≡ w'

one_form : (f f' : State) (w w' : List ℕ) → DatUp (CopyBackWrData f w) ≡ DatUp (CopyBackWrData f' w') → IsOneForm f f' w w'
one_form f f' w w' e = record { form_is = cc; words_is = cc }

abbrev IsOne : Effect → Effect → Option Record → Option Record → Standing → Standing → Type 0
IsOne e e' r r' a b = (e ≡ e') × (r ≡ r') × IsSame a b

abbrev Bundle : Type 0
Bundle = Agent × Kind × Slot × (Agent → Bool) × Msg × Standing

pub one_step : (profile : Profile) (line : Line) (n : Agent) (step : Step) (old a b : Standing) (e e' : Effect) (r r' : Option Record) → IsOrderly old
    → LineStep profile line n step old e r a → LineStep profile line n step old e' r' b → IsOne e e' r r' a b
one_step profile line n (steps.Load word) old a b e e' r r' o x y =
    let v : x.0 ≡ y.0 = x.1 ∙ sym y.1 in
    (x.3 ∙ (ap Value v ∙ sym y.3), x.4 ∙ (ap (λ (v : ℕ). Some (records.Load n line word v)) v ∙ sym y.4), becomes_same old old old a b [] [] [] [] refl refl refl x.5 y.5)
one_step profile line n (steps.Store word value) old a b e e' r r' o x y =
    let said : Standing = record old { copies = with_for old.copies n (record { state = UD; words = slice_set (old.copies n).words word.0 value }) } in
    (x.2 ∙ sym y.2, x.3 ∙ sym y.3, becomes_same old said said a b [] [] [] [] refl refl refl x.4 y.4)
one_step profile line n steps.Drop old a b e e' r r' o x y =
    (x.0.0 ∙ sym y.0.0, x.0.1 ∙ sym y.0.1, becomes_same old (with_state n I old) (with_state n I old) a b [] [] [] [] refl refl refl x.3 y.3)
one_step profile line n (steps.Issue kind slot) old a b e e' r r' o x y =
    let said : Standing = with_pending n (Some (record { kind = kind; slot = slot; phase = Sent })) (issued kind n old) in
    (x.0.0 ∙ sym y.0.0, x.0.1 ∙ sym y.0.1, becomes_same old said said a b [] [] (one n (request kind slot true)) (one n (request kind slot true)) refl refl refl x.3 y.3)
one_step profile line n steps.Admit old a b e e' r r' o x y =
    let m : request x.1 x.2 x.3 ≡ request y.1 y.2 y.3 = o.one n (request x.1 x.2 x.3) (request y.1 y.2 y.3) refl (took n _ old.flits a.flits x.4.1) (took n _ old.flits b.flits y.4.1) in
    let i : IsOneRequest x.1 y.1 x.2 y.2 x.3 y.3 = one_request x.1 y.1 x.2 y.2 x.3 y.3 m in (
      x.0.0 ∙ sym y.0.0,
      x.0.1 ∙ sym y.0.1,
      becomes_same old (record old { waiting = with_for old.waiting n (Some (record { kind = x.1; slot = x.2 })) }) (record old { waiting = with_for old.waiting n (Some (record { kind = y.1; slot = y.2 })) }) a b
          (one n (request x.1 x.2 x.3)) (one n (request y.1 y.2 y.3)) [] [] (ap (one n) m) refl (λ j. record old { waiting = with_for old.waiting n (Some (record { kind = i.kind_is j; slot = i.slot_is j })) }) x.4 y.4,
    )
one_step profile line n steps.Retry old a b e e' r r' o x y =
    let m : request x.1 x.2 true ≡ request y.1 y.2 true = o.one n (request x.1 x.2 true) (request y.1 y.2 true) refl
    (took_for n n _ (RspDown (RetryAck (credit_type_of profile x.1))) old.flits a.flits (λ (e : RspDown (RetryAck (credit_type_of profile x.1)) ≡ request x.1 x.2 true). cc) x.3.1)
    (took_for n n _ (RspDown (RetryAck (credit_type_of profile y.1))) old.flits b.flits (λ (e : RspDown (RetryAck (credit_type_of profile y.1)) ≡ request y.1 y.2 true). cc) y.3.1) in
    let i : IsOneRequest x.1 y.1 x.2 y.2 true true = one_request x.1 y.1 x.2 y.2 true true m in (
      x.0.0 ∙ sym y.0.0,
      x.0.1 ∙ sym y.0.1,
      becomes_same old old old a b (one n (request x.1 x.2 true)) (one n (request y.1 y.2 true)) (one n (RspDown (RetryAck (credit_type_of profile x.1)))) (one n (RspDown (RetryAck (credit_type_of profile y.1)))) (ap (one n) m)
          (λ j. one n (RspDown (RetryAck (credit_type_of profile (i.kind_is j))))) refl x.3 y.3,
    )
one_step profile line n steps.RecvRetry old a b e e' r r' o x y =
    let m : RspDown (RetryAck x.1) ≡ RspDown (RetryAck y.1) = o.one n (RspDown (RetryAck x.1)) (RspDown (RetryAck y.1)) refl (took n _ old.flits a.flits x.4.1) (took n _ old.flits b.flits y.4.1) in
    let p : x.2 ≡ y.2 = same_pending (old.pending n) x.2 y.2 x.3 y.3 in (
      x.0.0 ∙ sym y.0.0,
      x.0.1 ∙ sym y.0.1,
      becomes_same old (with_pending n (Some (record x.2 { phase = Retried })) old) (with_pending n (Some (record y.2 { phase = Retried })) old) a b
          (one n (RspDown (RetryAck x.1))) (one n (RspDown (RetryAck y.1))) [] [] (ap (one n) m) refl (λ j. with_pending n (Some (record (p j) { phase = Retried })) old) x.4 y.4,
    )
one_step profile line n steps.Resend old a b e e' r r' o x y =
    let p : x.1 ≡ y.1 = same_pending (old.pending n) x.1 y.1 x.2 y.2 in (
      x.0.0 ∙ sym y.0.0,
      x.0.1 ∙ sym y.0.1,
      becomes_same old (with_pending n (Some (record x.1 { phase = Sent })) old) (with_pending n (Some (record y.1 { phase = Sent })) old) a b
          [] [] (one n (request x.1.kind x.1.slot false)) (one n (request y.1.kind y.1.slot false)) refl (λ j. one n (request (p j).kind (p j).slot false)) (λ j. with_pending n (Some (record (p j) { phase = Sent })) old) x.5 y.5,
    )
one_step profile line n steps.Cancel old a b e e' r r' o x y =
    (x.0.0 ∙ sym y.0.0, x.0.1 ∙ sym y.0.1, becomes_same old (with_pending n None old) (with_pending n None old) a b [] [] [] [] refl refl refl x.6 y.6)
one_step profile line n steps.Start old a b e e' r r' o x y =
    let w : x.1 ≡ y.1 = same_waiting (old.waiting n) x.1 y.1 x.2 y.2 in
    let s : Standing = record old { waiting = with_for old.waiting n None } in
    let both = starts_same y.1.kind n y.1.slot s e e' a b o.lone (subst (λ (w : Waiting). StartRow w.kind n w.slot s e a) w x.4) y.4 in
    (both.0, x.0 ∙ sym y.0, both.1)
one_step profile line n steps.RecvSnp old a b e e' r r' o x y =
    let st : State = (old.copies n).state in
    let ws : List ℕ = (old.copies n).words in
    let apart_x : x.3 ≡ Snp x.1 → ⊥ = λ (e : x.3 ≡ Snp x.1). true≢false (sym (answers_up st x.1 ws) ∙ (ap (λ (p : State × Msg). is_snoop_answer p.1) x.4 ∙ ap is_snoop_answer e)) in
    let apart_y : y.3 ≡ Snp y.1 → ⊥ = λ (e : y.3 ≡ Snp y.1). true≢false (sym (answers_up st y.1 ws) ∙ (ap (λ (p : State × Msg). is_snoop_answer p.1) y.4 ∙ ap is_snoop_answer e)) in
    let m : Snp x.1 ≡ Snp y.1 = o.one n (Snp x.1) (Snp y.1) refl (took_for n n (Snp x.1) x.3 old.flits a.flits apart_x x.5.1) (took_for n n (Snp y.1) y.3 old.flits b.flits apart_y y.5.1) in
    let pair = sym x.4 ∙ (ap (λ (q : Snoop). answer_of st q ws) (same_snoop x.1 y.1 m) ∙ y.4) in
    (x.0.0 ∙ sym y.0.0, x.0.1 ∙ sym y.0.1, becomes_same old (with_state n x.2 old) (with_state n y.2 old) a b (one n (Snp x.1)) (one n (Snp y.1)) (one n x.3) (one n y.3) (ap (one n) m) (λ j. one n (pair j).1) (λ j. with_state n (pair j).0 old) x.5 y.5)
one_step profile line n steps.RecvSnpResp old a b e e' r r' o x y =
    let v : IsOneSnooping x.1 y.1 x.2 y.2 x.3 y.3 x.4 y.4 = one_snooping x.1 y.1 x.2 y.2 x.3 y.3 x.4 y.4 (sym x.5 ∙ y.5) in
    let is_x = is_answered n x.7 old x.8 x.9 in
    let is_y = is_answered n y.7 old y.8 y.9 in
    let m : x.7 ≡ y.7 = o.one_answer n x.7 y.7 is_x is_y (then_took n x.1 x.2 x.3 (with_for x.4 n false) old x.7 x.8 a is_x x.10) (then_took n y.1 y.2 y.3 (with_for y.4 n false) old y.7 y.8 b is_y y.10) in
    let s : x.8 ≡ y.8 = answers_same n y.7 old x.8 y.8 (subst (λ (t : Msg). AnswerRow n t old x.8) m x.9) y.9 in (
      x.0.0 ∙ sym y.0.0,
      x.0.1 ∙ sym y.0.1,
      then_same n y.1 y.2 y.3 (with_for y.4 n false) old y.7 y.8 a b
          (subst (λ (t : Bundle). Then n t.0 t.1 t.2 (with_for t.3 n false) old t.4 t.5 a) (λ j. (v.agent_is j, v.kind_is j, v.slot_is j, v.awaited_is j, m j, s j)) x.10) y.10,
    )
one_step profile line n steps.RecvData old a b e e' r r' o x y =
    let m : comp_data x.1 x.2 ≡ comp_data y.1 y.2 = o.one n (comp_data x.1 x.2) (comp_data y.1 y.2) refl
    (took_for n n (comp_data x.1 x.2) (RspUp CompAck) old.flits a.flits (λ (e : RspUp CompAck ≡ comp_data x.1 x.2). cc) x.3.1)
    (took_for n n (comp_data y.1 y.2) (RspUp CompAck) old.flits b.flits (λ (e : RspUp CompAck ≡ comp_data y.1 y.2). cc) y.3.1) in
    let i : IsOneData x.1 y.1 x.2 y.2 = one_data x.1 y.1 x.2 y.2 m in (
      x.0.0 ∙ sym y.0.0,
      x.0.1 ∙ sym y.0.1,
      becomes_same old
          (with_pending n None (record old { copies = with_for old.copies n (record { state = if x.1 then UC else SC; words = x.2 }) }))
          (with_pending n None (record old { copies = with_for old.copies n (record { state = if y.1 then UC else SC; words = y.2 }) })) a b
          (one n (comp_data x.1 x.2)) (one n (comp_data y.1 y.2)) (one n (RspUp CompAck)) (one n (RspUp CompAck)) (ap (one n) m) refl
          (λ j. with_pending n None (record old { copies = with_for old.copies n (record { state = if i.unique_is j then UC else SC; words = i.words_is j }) })) x.3 y.3,
    )
one_step profile line n steps.RecvComp old a b e e' r r' o x y =
    (x.0.0 ∙ sym y.0.0, x.0.1 ∙ sym y.0.1, comp_same n old a b o x.1 y.1)
one_step profile line n steps.RecvAck old a b e e' r r' o x y =
    let slot : x.0 ≡ y.0 = same_ack n x.0 y.0 (sym x.3 ∙ y.3) in
    (x.1 ∙ (ap Completed slot ∙ sym y.1), x.2 ∙ sym y.2, becomes_same old (serves Idle old) (serves Idle old) a b (one n (RspUp CompAck)) (one n (RspUp CompAck)) [] [] refl refl refl x.4 y.4)
one_step profile line n steps.RecvDbid old a b e e' r r' o x y =
    let p : x.1 ≡ y.1 = same_pending (old.pending n) x.1 y.1 x.3 y.3 in
    let left : x.2 ≡ y.2 = left_by_same y.1.kind (old.copies n).state x.2 y.2 (subst (λ (q : Pending). IsLeftBy q.kind (old.copies n).state x.2) p x.4) y.4 in
    let sent : List Flit = one n (write_data (old.copies n).state (old.copies n).words) in (
      x.0.0 ∙ sym y.0.0,
      x.0.1 ∙ sym y.0.1,
      becomes_same old (with_pending n None (with_state n x.2 old)) (with_pending n None (with_state n y.2 old)) a b (one n (RspDown CompDBIDResp)) (one n (RspDown CompDBIDResp)) sent sent refl refl
          (λ j. with_pending n None (with_state n (left j) old)) x.5 y.5,
    )
one_step profile line n steps.RecvWrData old a b e e' r r' o x y =
    let v : IsOneWrite x.3 y.3 x.0 y.0 = one_write n x.3 y.3 x.0 y.0 (sym x.7 ∙ y.7) in
    let m : DatUp (CopyBackWrData x.4 x.5) ≡ DatUp (CopyBackWrData y.4 y.5) = o.one n (DatUp (CopyBackWrData x.4 x.5)) (DatUp (CopyBackWrData y.4 y.5)) refl (took n _ old.flits a.flits x.9.1) (took n _ old.flits b.flits y.9.1) in
    let i : IsOneForm x.4 y.4 x.5 y.5 = one_form x.4 y.4 x.5 y.5 m in
    let s : x.6 ≡ y.6 = writes_same y.3 y.4 n (record old { memory = memory_with y.4 y.5 old.memory }) x.6 y.6
    (subst (λ (t : Kind × State × List ℕ). WriteRow t.0 t.1 n (record old { memory = memory_with t.1 t.2 old.memory }) x.6) (λ j. (v.kind_is j, i.form_is j, i.words_is j)) x.8) y.8 in
    (x.1 ∙ (ap Completed v.slot_is ∙ sym y.1), x.2 ∙ sym y.2, becomes_same old (serves Idle x.6) (serves Idle y.6) a b (one n (DatUp (CopyBackWrData x.4 x.5))) (one n (DatUp (CopyBackWrData y.4 y.5))) [] [] (ap (one n) m) refl (ap (serves Idle) s) x.9 y.9)
