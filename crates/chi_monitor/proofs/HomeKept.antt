-- What a line that keeps what a line keeps says of whom a request asks, and of sets of agents.
use Rattle.std.proofs.Common.{◌≡◌, ◌≢◌, ◌⊎◌, inl, inr, ⊎_elim, ℕ, zero, suc, ◌<◌, ◌==◌, ◌&&◌, Bool, true, false, List, length, Option, Some, None, is_some, refl, sym, ap, subst, ◌∙◌, arith, if◌then◌else◌}
use Rattle.std.proofs.lemmas.Bool.{and_parts, both_ways, cases_lt, eqb-true, false_from_ne_true}
use Rattle.std.proofs.lemmas.List.Folds.{list_any_at, list_any_none}
use Rattle.std.proofs.lemmas.List.{get_or_default, get_or_past, get_or-set_same, set_past}
use Rattle.chi_flit.specs.Kind.{snoop_of}
use Rattle.chi_flit.specs.Numbers.{agent_at}
use Rattle.chi_flit.specs.Snoop.{snoop_number}
use Rattle.chi_flit.specs.declared.kind.Kind.{Kind}
use Rattle.chi_flit.specs.declared.numbers.Agent.{Agent}
use Rattle.chi_flit.specs.declared.numbers.Slot.{Slot}
use Rattle.chi_flit.specs.declared.snoop.Snoop.{Snoop}
use Rattle.chi_filter.specs.Filter.{FilterState, has_any, is_in, is_named, others_than, owned_by, owner_without}
use Rattle.chi_homeline.specs.Home.{asks, filter_after}
use Rattle.chi_homeline.specs.declared.serving.Serving.TheVariants.{Snooping}
use Rattle.chi_homeline.specs.declared.serving.SnoopAnswer.{SnoopAnswer}
use Rattle.chi_homeline.specs.declared.serving.SnoopAnswer.TheVariants as answers
use Rattle.chi_line.specs.Kept.{Kept, LaneKept, invalidates, lane, shares, snoops_for}
use Rattle.chi_line.specs.LineState.{LineState}
use Rattle.chi_line.proofs.Asks.{AsksFit, asks_fit, left_apart, length-others, same, was_in}
use Rattle.chi_monitor.specs.HomeTurns.{set_of}

-- SETS
pub in_long : (marks : List Bool) (m : ℕ) → is_in marks m ≡ true → m < length marks
in_long marks m here = ⊎_elim (λ (low : m < length marks). low) (λ past. absurd (both_ways (is_in marks m) (get_or_past marks m false past) here)) (cases_lt m (length marks))

pub has_some : (marks : List Bool) (m : ℕ) → is_in marks m ≡ true → has_any marks ≡ true
has_some marks m here = list_any_at (λ b. b) marks m false (in_long marks m here) here

pub has_none : (marks : List Bool) → length marks ≡ 8 → ((m : ℕ) → m < 8 → is_in marks m ≡ false) → has_any marks ≡ false
has_none marks eight none = list_any_none (λ b. b) marks (λ m d at. get_or_default marks m d false at ∙ none m (omega (arith, at, eight)))

pub set_at : (holds : ℕ → Bool) (m : ℕ) → m < 8 → is_in (set_of holds) m ≡ holds m
set_at holds zero low = refl
set_at holds (suc zero) low = refl
set_at holds (suc (suc zero)) low = refl
set_at holds (suc (suc (suc zero))) low = refl
set_at holds (suc (suc (suc (suc zero)))) low = refl
set_at holds (suc (suc (suc (suc (suc zero))))) low = refl
set_at holds (suc (suc (suc (suc (suc (suc zero)))))) low = refl
set_at holds (suc (suc (suc (suc (suc (suc (suc zero))))))) low = refl
set_at holds (suc (suc (suc (suc (suc (suc (suc (suc m)))))))) low = absurd (omega (arith, low))

pub none_of_set : (holds : ℕ → Bool) → ((m : ℕ) → m < 8 → holds m ≡ false) → has_any (set_of holds) ≡ false
none_of_set holds none = has_none (set_of holds) refl (λ m low. set_at holds m low ∙ none m low)

pub is_not : (b : Bool) → (b ≡ true → ⊥) → b ≡ false
is_not b never = false_from_ne_true b never

pub taken_out : (marks : List Bool) (n : ℕ) → is_in (others_than n marks) n ≡ false
taken_out marks n = ⊎_elim (λ (low : n < length marks). get_or-set_same marks n false false low)
    (λ past. ap (λ (l : List Bool). is_in l n) (set_past marks n false past) ∙ get_or_past marks n false past) (cases_lt n (length marks))

pub same_snoop : (snoop : Snoop) → (snoop_number snoop == snoop_number snoop) ≡ true
same_snoop snoop = search arith

-- WHAT IS SERVED
pub served_snoops : (served : Agent) (kind : Kind) (slot : Slot) → snoops_for (Snooping served kind slot) served.0 ≡ true
served_snoops served kind slot = same served.0

-- a line that snoops for an agent's request
pub record Serves (last : List ℕ) (s : LineState) (served : Agent) (kind : Kind) (slot : Slot) : Type 0 where
  pub kept : Kept last s
  pub serving : s.home.serving ≡ Snooping served kind slot
  pub low : served.0 < 8
  pub by : is_some (snoop_of kind) ≡ true
  pub lanes : (m : ℕ) → m < 8 → LaneKept (Snooping served kind slot) s.home.filter.unique s.home.filter.owner last m (lane s m)

-- who is awaited isn't the agent that is served
pub other_than_served : (last : List ℕ) (s : LineState) (served : Agent) (kind : Kind) (slot : Slot) (m : ℕ) → Serves last s served kind slot → m < 8 → is_in s.home.awaited m ≡ true → m ≢ served.0
other_than_served last s served kind slot m k low awaited = λ (own : m ≡ served.0).
    both_ways (is_in s.home.awaited m) ((k.lanes m low).snooped_alone (subst (λ (n : ℕ). (served.0 == n) ≡ true) (sym own) (same served.0))) awaited

owned_same : (owner : Option Agent) (j m : ℕ) → owned_by owner j ≡ true → owned_by owner m ≡ true → j ≡ m
owned_same None j m here there = absurd (cc (here))
owned_same (Some a) j m here there = sym (eqb-true a.0 j here) ∙ eqb-true a.0 m there

either : (b : Bool) → (b ≡ true) ⊎ (b ≡ false)
either true = inl refl
either false = inr refl

-- a shared read asks one alone
pub one_asked : (last : List ℕ) (s : LineState) (served : Agent) (kind : Kind) (slot : Slot) (j m : ℕ) → Serves last s served kind slot → shares (snoop_of kind) ≡ true → j < 8 → m < 8
    → is_in s.home.awaited j ≡ true → is_in s.home.awaited m ≡ true → j ≡ m
one_asked last s served kind slot j m k sharing low at here there = go (owned_by s.home.filter.owner j) refl (owned_by s.home.filter.owner m) refl
  where
    flagged : s.home.filter.unique ≡ true → j ≡ m
    flagged flag = k.kept.flag_means_one flag j m low at ((k.lanes j low).awaited_named here) ((k.lanes m at).awaited_named there)

    go : (a : Bool) → owned_by s.home.filter.owner j ≡ a → (b : Bool) → owned_by s.home.filter.owner m ≡ b → j ≡ m
    go true owns true owned = owned_same s.home.filter.owner j m owns owned
    go false not_owns b owned = flagged ((k.lanes j low).shared_asks_one sharing here not_owns)
    go true owns false not_owned = flagged ((k.lanes m at).shared_asks_one sharing there not_owned)

-- who is awaited is one whom the request asks
either_sort : (kind : Kind) → is_some (snoop_of kind) ≡ true → shares (snoop_of kind) ≡ false → invalidates (snoop_of kind) ≡ true
either_sort kind by not_shared = search arith

pub awaited_asked : (last : List ℕ) (s : LineState) (served : Agent) (kind : Kind) (slot : Slot) (m : ℕ) → Serves last s served kind slot → m < 8 → is_in s.home.awaited m ≡ true → is_in (asks kind s.home.filter served.0) m ≡ true
awaited_asked last s served kind slot m k low awaited = go (shares (snoop_of kind)) refl
  where
    fit : AsksFit kind s.home.filter served.0 (asks kind s.home.filter served.0)
    fit = asks_fit kind s.home.filter served.0 k.by k.low k.kept.named

    named : is_named s.home.filter m ≡ true
    named = (k.lanes m low).awaited_named awaited

    other : m ≢ served.0
    other = other_than_served last s served kind slot m k low awaited

    owned : shares (snoop_of kind) ≡ true → (b : Bool) → owned_by s.home.filter.owner m ≡ b → is_in (asks kind s.home.filter served.0) m ≡ true
    owned sharing true owns = fit.owner m low other named owns
    owned sharing false not_owns = fit.flagged ((k.lanes m low).shared_asks_one sharing awaited not_owns) m low other named

    go : (b : Bool) → shares (snoop_of kind) ≡ b → is_in (asks kind s.home.filter served.0) m ≡ true
    go true sharing = owned sharing (owned_by s.home.filter.owner m) refl
    go false not_shared = fit.all_others (either_sort kind k.by not_shared) m low other named

-- once the one that a shared read asks has answered, the request asks nobody else
without_owned : (owner : Option Agent) (n m : ℕ) → owned_by (owner_without owner n) m ≡ true → (owned_by owner m ≡ true) × (m ≢ n)
without_owned None n m here = absurd (cc (here))
without_owned (Some a) n m here = go (a.0 == n) refl here
  where
    go : (b : Bool) → (a.0 == n) ≡ b → owned_by (if b then None else Some a) m ≡ true → ((a.0 == m) ≡ true) × (m ≢ n)
    go true is here = absurd (cc (here))
    go false is here = (here, λ (e : m ≡ n). both_ways (a.0 == n) is (subst (λ (k : ℕ). (a.0 == k) ≡ true) e here))

answered_long : (answer : SnoopAnswer) (g : FilterState) (n : ℕ) → length g.named ≡ 8 → length (filter_after answer g (agent_at n)).named ≡ 8
answered_long answers.I g n long = length-others n g.named long
answered_long answers.SC g n long = long
answered_long (answers.IPD words) g n long = length-others n g.named long
answered_long (answers.SCPD words) g n long = long
answered_long (answers.SD words) g n long = long

pub answer_asks : (last : List ℕ) (s : LineState) (served : Agent) (kind : Kind) (slot : Slot) (n j : ℕ) (answer : SnoopAnswer) → Serves last s served kind slot → shares (snoop_of kind) ≡ true → n < 8 → is_in s.home.awaited n ≡ true → j < 8
    → is_in (asks kind (filter_after answer s.home.filter (agent_at n)) served.0) j ≡ true → j ≡ n
answer_asks last s served kind slot n j answer k sharing low awaited at asked = by_owner (owned_by (filter_after answer s.home.filter (agent_at n)).owner j) refl
  where
    g : FilterState
    g = s.home.filter

    fit : AsksFit kind (filter_after answer g (agent_at n)) served.0 (asks kind (filter_after answer g (agent_at n)) served.0)
    fit = asks_fit kind (filter_after answer g (agent_at n)) served.0 k.by k.low (answered_long answer g n k.kept.named)

    kept_owner : owned_by (owner_without g.owner n) j ≡ true → j ≡ n
    kept_owner owns =
        let was = without_owned g.owner n j owns in
        ⊎_elim (λ (own : owned_by g.owner n ≡ true). owned_same g.owner j n was.0 own)
        (λ (not_own : owned_by g.owner n ≡ false). absurd (both_ways (owned_by g.owner j) ((k.lanes j at).flag_no_owner ((k.lanes n low).shared_asks_one sharing awaited not_own)) was.0))
        (either (owned_by g.owner n))

    flag_left : (g.unique && has_any (others_than n g.named)) ≡ true → j ≡ n
    flag_left flag =
        let both = and_parts g.unique (has_any (others_than n g.named)) flag in
        absurd (both_ways (has_any (others_than n g.named))
        (has_none (others_than n g.named) (length-others n g.named k.kept.named)
        (λ m there. is_not _ (λ (named : is_in (others_than n g.named) m ≡ true). left_apart n m g.named low k.kept.named named (k.kept.flag_means_one both.0 m n there low (was_in n m g.named low k.kept.named named) ((k.lanes n low).awaited_named awaited)))))
        both.1)

    owns : (answer : SnoopAnswer) → owned_by (filter_after answer g (agent_at n)).owner j ≡ true → j ≡ n
    owns answers.I own = kept_owner own
    owns answers.SC own = kept_owner own
    owns (answers.IPD words) own = kept_owner own
    owns (answers.SCPD words) own = kept_owner own
    owns (answers.SD words) own = sym (eqb-true n j own)

    flags : (answer : SnoopAnswer) → (filter_after answer g (agent_at n)).unique ≡ true → j ≡ n
    flags answers.I flag = flag_left flag
    flags answers.SC flag = absurd (cc (flag))
    flags (answers.IPD words) flag = flag_left flag
    flags (answers.SCPD words) flag = absurd (cc (flag))
    flags (answers.SD words) flag = absurd (cc (flag))

    by_owner : (b : Bool) → owned_by (filter_after answer g (agent_at n)).owner j ≡ b → j ≡ n
    by_owner true own = owns answer own
    by_owner false other = flags answer (fit.shared_one sharing j at asked other)
