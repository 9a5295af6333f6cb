-- What each call does to the view of the port that is called, and what it answers (docs/PROTOCOL.md, "Steps
-- of the tracker").
use Rattle.std.specs.Prelude.{◌≡◌, ℕ, ◌<◌, ◌≤◌, List, Option}
use Rattle.chi_flit.specs.declared.numbers.Entry.{Entry}
use Rattle.chi_flit.specs.declared.credit.CreditType.{CreditType}
use Rattle.chi_flit.specs.Credit.{credit_number}
use Rattle.chi_node.specs.Words.{Released, set_at, PortView, has, spends, Claims, HasReturned, LeavesHandAsItsType, IsLowestSeen, owed_one, saw_all}
use Rattle.chi_node.specs.Outstanding.{seen_counts}
use Rattle.chi_node.specs.Words as words

-- An entry of the type that wasn't in hand comes to hand, in a scan that found the lower entries of the
-- type claimed; or none does, in a scan that found each entry of the type claimed.
abbrev pub PortClaims : PortView → CreditType → Option Entry → PortView → Type 0
PortClaims before ty claim after = Claims (credit_number ty) claim before after

-- one credit more of the type is owed
abbrev pub PortOwes : PortView → CreditType → PortView → Type 0
PortOwes before ty after = after ≡ owed_one (credit_number ty) before

-- the lowest seen credit of the type is spent: its entry comes to hand
abbrev pub PortSpends : PortView → CreditType → Entry → PortView → Type 0
PortSpends before ty entry after = IsLowestSeen before (credit_number ty) entry.0 × (has entry.0 before ≡ 0) × (after ≡ spends (credit_number ty) entry.0 before)

-- an entry that is in hand leaves it: it is promised on to who is owed a credit of its type, or freed
abbrev pub PortReleases : PortView → Entry → Released → PortView → Type 0
PortReleases before entry released after = (has entry.0 before ≡ 1) × LeavesHandAsItsType before entry.0 released after

-- the port looks at what is promised to it, and what it had seen stays seen; the answer counts it by type
abbrev pub PortSees : PortView → List ℕ → PortView → Type 0
PortSees before counts after = (after ≡ saw_all after.seen before) × ((e : ℕ) → e < 256 → set_at before.seen e ≤ set_at after.seen e) × (counts ≡ seen_counts after)

-- the lowest seen credit of the type is returned, and its entry promised on, or freed
abbrev pub PortGivesBack : PortView → CreditType → Released → PortView → Type 0
PortGivesBack before ty released after = HasReturned (credit_number ty) before released after

-- a free entry of the type is claimed and released, or none is
abbrev pub PortTends : PortView → CreditType → Option Released → PortView → Type 0
PortTends before ty released after = words.Tended before (credit_number ty) released after
