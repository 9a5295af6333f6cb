-- Whom a start asks: what the set gives, beside the filter that it is read from.
use Rattle.std.specs.Prelude.{◌≡◌, ◌≢◌, ℕ, ◌<◌, List, length, Bool, true, false, ◌&&◌, ◌==◌, Option, Some, None, is_some, if◌then◌else◌}
use Rattle.std.proofs.Common.{refl, sym, ◌∙◌, subst, arith}
use Rattle.std.proofs.lemmas.List.{get_or-set_same, get_or-set_other, length-set, get_or-replicate}
use Rattle.std.proofs.lemmas.Bool.{both_ways, and_parts, eqb-true, false≢true}
use Rattle.std.proofs.lemmas.List.Folds.{list_any_at}
use Rattle.chi_flit.specs.declared.numbers.Agent.{Agent}
use Rattle.chi_flit.specs.declared.kind.Kind.{Kind}
use Rattle.chi_flit.specs.declared.kind.Kind.TheVariants.{ReadNotSharedDirty, ReadShared, ReadUnique, CleanUnique}
use Rattle.chi_flit.specs.Kind.{snoop_of}
use Rattle.chi_filter.specs.Filter.{FilterState, nobody, only_set, is_in, has_any, others_than, is_named, owned_by, owner_set}
use Rattle.chi_filter.proofs.Keeps.{others_out}
use Rattle.chi_homeline.specs.Home.{asks, asks_shared}
use Rattle.chi_line.specs.Kept.{shares, invalidates}

-- who is in a set makes it that somebody is
pub has_in : (marks : List Bool) (m : ℕ) → length marks ≡ 8 → m < 8 → is_in marks m ≡ true → has_any marks ≡ true
has_in marks m eight low here = list_any_at (λ b. b) marks m false (omega arith) here

-- where nobody is in a set, no agent is
pub none_in : (marks : List Bool) (m : ℕ) → length marks ≡ 8 → m < 8 → has_any marks ≡ false → is_in marks m ≡ false
none_in marks m eight low nobody = grind (arith, has_in)

pub left_out : (n : ℕ) (marks : List Bool) → n < 8 → length marks ≡ 8 → is_in (others_than n marks) n ≡ false
left_out n marks low eight = get_or-set_same marks n false false (omega arith)

pub left_in : (n m : ℕ) (marks : List Bool) → m ≢ n → is_in (others_than n marks) m ≡ is_in marks m
left_in n m marks apart = get_or-set_other marks n m false false apart

-- who is left is one of the others, and was in the set
pub left_apart : (n m : ℕ) (marks : List Bool) → n < 8 → length marks ≡ 8 → is_in (others_than n marks) m ≡ true → m ≢ n
left_apart n m marks low eight here = λ (e : m ≡ n). both_ways (is_in (others_than n marks) n) (left_out n marks low eight) (subst (λ k. is_in (others_than n marks) k ≡ true) e here)

pub was_in : (n m : ℕ) (marks : List Bool) → n < 8 → length marks ≡ 8 → is_in (others_than n marks) m ≡ true → is_in marks m ≡ true
was_in n m marks low eight here = sym (left_in n m marks (left_apart n m marks low eight here)) ∙ here

pub length-others : (n : ℕ) (marks : List Bool) → length marks ≡ 8 → length (others_than n marks) ≡ 8
length-others n marks eight = length-set marks n false ∙ eight

-- the test that two numbers are equal
pub same : (n : ℕ) → (n == n) ≡ true
same n = grind arith

pub apart : (n m : ℕ) → m ≢ n → (n == m) ≡ false
apart n m other = grind arith

pub only_itself : (n : ℕ) → n < 8 → is_in (only_set n) n ≡ true
only_itself n low = get_or-set_same nobody n true false low

-- who is in the set of one agent is that agent
pub in_only : (n m : ℕ) → m < 8 → is_in (only_set n) m ≡ true → (n == m) ≡ true
in_only n m low here = grind (arith, others_out)

-- the owner's set
pub owner_in : (owner : Option Agent) (m : ℕ) → m < 8 → is_in (owner_set owner) m ≡ true → owned_by owner m ≡ true
owner_in None m low here = sym (get_or-replicate 8 m false false low) ∙ here
owner_in (Some agent) m low here = in_only agent.0 m low here

pub in_owner : (owner : Option Agent) (m : ℕ) → m < 8 → owned_by owner m ≡ true → is_in (owner_set owner) m ≡ true
in_owner None m low owns = grind arith
in_owner (Some agent) m low owns = grind (arith, only_itself, eqb-true)

pub length-owner_set : (owner : Option Agent) → length (owner_set owner) ≡ 8
length-owner_set None = refl
length-owner_set (Some agent) = length-set nobody agent.0 true

-- what the set of those whom agent n's request asks gives
pub record AsksFit (kind : Kind) (f : FilterState) (n : ℕ) (marks : List Bool) : Type 0 where
  pub eight : length marks ≡ 8
  pub not_itself : is_in marks n ≡ false
  -- who is asked is named or the owner
  pub named_or_owner : (m : ℕ) → m < 8 → is_in marks m ≡ true → is_named f m ≡ false → owned_by f.owner m ≡ true
  -- a shared read asks the owner or the one that is flagged
  pub shared_one : shares (snoop_of kind) ≡ true → (m : ℕ) → m < 8 → is_in marks m ≡ true → owned_by f.owner m ≡ false → f.unique ≡ true
  -- an invalidating request asks all others that are named
  pub all_others : invalidates (snoop_of kind) ≡ true → (m : ℕ) → m < 8 → m ≢ n → is_named f m ≡ true → is_in marks m ≡ true
  -- each request asks the one that is flagged, and the owner
  pub flagged : f.unique ≡ true → (m : ℕ) → m < 8 → m ≢ n → is_named f m ≡ true → is_in marks m ≡ true
  pub owner : (m : ℕ) → m < 8 → m ≢ n → is_named f m ≡ true → owned_by f.owner m ≡ true → is_in marks m ≡ true

pub others_fit : (kind : Kind) (f : FilterState) (n : ℕ) → n < 8 → length f.named ≡ 8
    → (shares (snoop_of kind) ≡ true → f.unique ≡ true) → AsksFit kind f n (others_than n f.named)
others_fit kind f n low eight alone = record {
  eight = length-others n f.named eight;
  not_itself = left_out n f.named low eight;
  named_or_owner = λ m below here unnamed. absurd (both_ways (is_named f m) unnamed (was_in n m f.named low eight here));
  shared_one = λ sharing m below here unowned. alone sharing;
  all_others = λ invalidating m below other named. left_in n m f.named other ∙ named;
  flagged = λ flag m below other named. left_in n m f.named other ∙ named;
  owner = λ m below other named owns. left_in n m f.named other ∙ named;
}

pub owner_fit : (kind : Kind) (f : FilterState) (n : ℕ) → n < 8 → length f.named ≡ 8
    → invalidates (snoop_of kind) ≡ false → (f.unique ≡ true → has_any (others_than n f.named) ≡ false)
    → AsksFit kind f n (others_than n (owner_set f.owner))
owner_fit kind f n low eight asks_others nobody_else = record {
  eight = length-others n (owner_set f.owner) (length-owner_set f.owner);
  not_itself = left_out n (owner_set f.owner) low (length-owner_set f.owner);
  named_or_owner = λ m below here unnamed. owner_in f.owner m below (was_in n m (owner_set f.owner) low (length-owner_set f.owner) here);
  shared_one = λ sharing m below here unowned. absurd (both_ways (owned_by f.owner m) unowned (owner_in f.owner m below (was_in n m (owner_set f.owner) low (length-owner_set f.owner) here)));
  all_others = λ invalidating m below other named. absurd (both_ways (invalidates (snoop_of kind)) asks_others invalidating);
  flagged = λ flag m below other named. absurd (both_ways (is_in (others_than n f.named) m) (none_in (others_than n f.named) m (length-others n f.named eight) below (nobody_else flag)) (left_in n m f.named other ∙ named));
  owner = λ m below other named owns. left_in n m (owner_set f.owner) other ∙ in_owner f.owner m below owns;
}

asks_shared_by : (both : Bool) (kind : Kind) (f : FilterState) (n : ℕ) → n < 8 → length f.named ≡ 8
    → invalidates (snoop_of kind) ≡ false → (f.unique && has_any (others_than n f.named)) ≡ both
    → AsksFit kind f n (if both then others_than n f.named else others_than n (owner_set f.owner))
asks_shared_by true kind f n low eight invalidating is = others_fit kind f n low eight (λ sharing. (and_parts f.unique (has_any (others_than n f.named)) is).0)
asks_shared_by false kind f n low eight invalidating is = owner_fit kind f n low eight invalidating (λ flag. grind (arith, is, flag))

asks_shared_fit : (kind : Kind) (f : FilterState) (n : ℕ) → n < 8 → length f.named ≡ 8
    → invalidates (snoop_of kind) ≡ false → AsksFit kind f n (asks_shared f n)
asks_shared_fit kind f n low eight invalidating = asks_shared_by (f.unique && has_any (others_than n f.named)) kind f n low eight invalidating refl

pub asks_fit : (kind : Kind) (f : FilterState) (n : ℕ) → is_some (snoop_of kind) ≡ true → n < 8 → length f.named ≡ 8 → AsksFit kind f n (asks kind f n)
asks_fit ReadNotSharedDirty f n served low eight = asks_shared_fit ReadNotSharedDirty f n low eight refl
asks_fit ReadShared f n served low eight = asks_shared_fit ReadShared f n low eight refl
asks_fit ReadUnique f n served low eight = others_fit ReadUnique f n low eight (λ (e : false ≡ true). cc)
asks_fit CleanUnique f n served low eight = others_fit CleanUnique f n low eight (λ (e : false ≡ true). cc)
asks_fit other f n served low eight = absurd (false≢true served)
