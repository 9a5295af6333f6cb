-- A completion, by the protocol alone.
use Rattle.std.proofs.Common.{◌≡◌, ℕ, ◌<◌, List, length, Bool, true, false, not, None, is_some, sym, subst, refl, ap, ◌∙◌, inl, inr}
use Rattle.std.proofs.lemmas.Bool.{false≢true}
use Rattle.chi_flit.specs.declared.numbers.Agent.{Agent}
use Rattle.chi_flit.specs.declared.kind.Kind.{Kind}
use Rattle.chi_flit.specs.declared.kind.Kind.TheVariants.{ReadNotSharedDirty, ReadShared, ReadUnique, CleanUnique}
use Rattle.chi_flit.specs.Kind.{snoop_of}
use Rattle.chi_filter.specs.Filter.{FilterState, has_any, others_than}
use Rattle.chi_homeline.specs.Home.{completed_filter, completes_unique, completion_message}
use Rattle.chi_line.specs.Protocol.{Standing, Somebody, Nobody, CompletionRow, SharedReadRow, comp_data, only, others, with_for}
use Rattle.chi_line.specs.Meaning.{set_of}
use Rattle.chi_line.proofs.StandingParts.{nobody, only_are, others_are, puts, somebody, with_filter}

-- the data that is sent is the memory, but for a shared read whose data came from one who stays named
pub record DataFits (kind : Kind) (agent : Agent) (s : Standing) (given sent : List ℕ) : Type 0 where
  pub is : given ≡ sent
  pub memory : (((kind ≡ ReadShared) × Somebody (others s agent)) → ⊥) → s.memory ≡ sent

both : (set : Agent → Bool) → Somebody set → Nobody set → ⊥
both set some none = let e : true ≡ false = sym some.1 ∙ none some.0 in cc

alone_is : (s : Standing) (f : FilterState) (agent : Agent) → agent.0 < 8 → with_filter s (completed_filter true f agent.0) ≡ record s { named = only agent; unique = true; owner = None }
alone_is s f agent low = λ i. record s { named = only_are agent low i; unique = true; owner = None }

too_is : (s : Standing) (f : FilterState) (agent : Agent) → agent.0 < length f.named
    → with_filter s (completed_filter false f agent.0) ≡ record (with_filter s f) { named = with_for (set_of f.named) agent true; unique = false }
too_is s f agent low = λ i. record s { named = puts (λ (b : Bool). b) false f.named agent true low i; unique = false; owner = f.owner }

shared_by : (b : Bool) (given sent : List ℕ) (s : Standing) (f : FilterState) (agent : Agent) → agent.0 < 8 → length f.named ≡ 8 → has_any (others_than agent.0 f.named) ≡ b
    → given ≡ sent → (b ≡ false → s.memory ≡ sent)
    → SharedReadRow agent given (with_filter s f) (comp_data (not b) sent) (with_filter s (completed_filter (not b) f agent.0))
shared_by true given sent s f agent low eight is same alone = inr (
  subst Somebody (others_are f.named agent (subst (λ (k : ℕ). agent.0 < k) (sym eight) low)) (somebody (others_than agent.0 f.named) is),
  ap (comp_data false) (sym same),
  too_is s f agent (subst (λ (k : ℕ). agent.0 < k) (sym eight) low),
)
shared_by false given sent s f agent low eight is same alone = inl (
  subst Nobody (others_are f.named agent (subst (λ (k : ℕ). agent.0 < k) (sym eight) low)) (nobody (others_than agent.0 f.named) is),
  ap (comp_data true) (sym (alone refl)),
  alone_is s f agent low,
)

none_left : (s : Standing) (f : FilterState) (agent : Agent) → agent.0 < 8 → length f.named ≡ 8 → has_any (others_than agent.0 f.named) ≡ false → Nobody (others (with_filter s f) agent)
none_left s f agent low eight none = subst Nobody (others_are f.named agent (subst (λ (k : ℕ). agent.0 < k) (sym eight) low)) (nobody (others_than agent.0 f.named) none)

-- the message of a completion, and the filter that it leaves
pub completes : (kind : Kind) (given sent : List ℕ) (s : Standing) (f : FilterState) (agent : Agent) → is_some (snoop_of kind) ≡ true
    → agent.0 < 8 → length f.named ≡ 8 → DataFits kind agent (with_filter s f) given sent
    → CompletionRow kind agent given (with_filter s f) (completion_message kind (completes_unique kind f agent.0) sent) (with_filter s (completed_filter (completes_unique kind f agent.0) f agent.0))
completes ReadNotSharedDirty given sent s f agent is low eight fits =
    let memory : s.memory ≡ sent = fits.memory (λ h. let e : ReadNotSharedDirty ≡ ReadShared = h.0 in cc) in
    shared_by (has_any (others_than agent.0 f.named)) s.memory sent s f agent low eight refl memory (λ none. memory)
completes ReadShared given sent s f agent is low eight fits =
    shared_by (has_any (others_than agent.0 f.named)) given sent s f agent low eight refl fits.is
    (λ none. fits.memory (λ h. both _ h.1 (none_left s f agent low eight none)))
completes ReadUnique given sent s f agent is low eight fits =
    let memory : s.memory ≡ sent = fits.memory (λ h. let e : ReadUnique ≡ ReadShared = h.0 in cc) in
    (ap (comp_data true) (sym memory), alone_is s f agent low)
completes CleanUnique given sent s f agent is low eight fits = (refl, alone_is s f agent low)
completes unserved given sent s f agent is low eight fits = absurd (false≢true is)
