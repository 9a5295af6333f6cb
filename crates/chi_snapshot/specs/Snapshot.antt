-- The bytes of a slice (docs/SNAPSHOTS.md): a magic word and a version, the sizes, the index, the
-- lines and the journal, and a digest of all before it.
use Rattle.std.specs.Prelude.{ℕ, ◌-◌, nat_le, Bool, ◌&&◌, List, [], ◌∷◌, ◌++◌, bytes_eq, drop, length, take}
use Rattle.sha2.specs.Sha256.{sha256}
use Rattle.chi_flit.specs.declared.credit.Profile.{Profile}
use Rattle.chi_flit.specs.declared.credit.Profile.TheVariants.{Two, Four}
use Rattle.chi_flit.specs.Config.{Sizes}
use Rattle.chi_slice.specs.Slice.{SliceState}
use Rattle.chi_snapshot.specs.Bytes.{one_byte, two_bytes, four_bytes, list_bytes, long_list_bytes}
use Rattle.chi_snapshot.specs.Parts.{line_bytes}
use Rattle.chi_snapshot.specs.JournalBytes.{journal_bytes}

-- "CHIS", and version 1
abbrev pub head_bytes : List ℕ
head_bytes = 67 ∷ 72 ∷ 73 ∷ 83 ∷ 1 ∷ 0 ∷ []

abbrev pub profile_byte : Profile → ℕ
profile_byte Two = 0
profile_byte Four = 1

-- the sizes of the node
unfoldable pub sizes_bytes : Sizes → List ℕ
sizes_bytes c =
    one_byte c.agents
    ++ one_byte c.lines
    ++ one_byte c.slices
    ++ list_bytes two_bytes c.entries
    ++ four_bytes c.journal
    ++ one_byte (profile_byte c.profile)

-- all but the digest
unfoldable pub plain_bytes : SliceState → List ℕ
plain_bytes s = head_bytes ++ sizes_bytes s.config ++ one_byte s.index ++ long_list_bytes line_bytes s.lines ++ journal_bytes s.journal

-- bytes with their digest
abbrev pub sealed : List ℕ → List ℕ
sealed bytes = bytes ++ sha256 bytes

-- the last 32 bytes are the digest of those before
abbrev pub is_sealed : List ℕ → Bool
is_sealed bytes = nat_le 32 (length bytes) && bytes_eq (drop (length bytes - 32) bytes) (sha256 (take (length bytes - 32) bytes))

-- the bytes of a slice
abbrev pub saved : SliceState → List ℕ
saved s = sealed (plain_bytes s)
