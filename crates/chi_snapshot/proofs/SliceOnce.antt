-- The bytes of a slice are those of no other one.
use Rattle.std.proofs.Common.{◌≡◌, ℕ, ◌==◌, List, ◌++◌, refl}
use Rattle.std.specs.Prelude.{if◌then◌else◌}
use Rattle.sha2.specs.Sha256.{sha256}
use Rattle.chi_flit.specs.declared.credit.Profile.{Profile}
use Rattle.chi_flit.specs.declared.credit.Profile.TheVariants.{Two, Four}
use Rattle.chi_journal.specs.declared.record.Record.{Record}
use Rattle.chi_journal.specs.declared.record.Record.TheVariants.{Load, Store}
use Rattle.chi_slice.specs.Slice.{SliceState}
use Rattle.chi_snapshot.specs.Bytes.{one_byte, eight_bytes}
use Rattle.chi_snapshot.specs.JournalBytes.{journal_bytes, record_bytes, record_parts, totals_bytes}
use Rattle.chi_snapshot.specs.Snapshot.{head_bytes, plain_bytes, profile_byte, saved, sizes_bytes}
use Rattle.chi_snapshot.proofs.Once.{IsOnce, both, eight, four, list, long_list, mark, named, one, through, two}
use Rattle.chi_snapshot.proofs.PartsOnce.{line, words}

abbrev profile_at : ℕ → Profile
profile_at n = if n == 0 then Two else Four

profile_again : (profile : Profile) → profile_at (profile_byte profile) ≡ profile
profile_again Two = refl
profile_again Four = refl

profile : IsOnce (λ (p : Profile). one_byte (profile_byte p))
profile = named profile_byte profile_at profile_again

sizes : IsOnce sizes_bytes
unfolding sizes_bytes
sizes = through
    (λ c. (((((c.agents, c.lines), c.slices), c.entries), c.journal), c.profile))
    (λ p. record { agents = p.0.0.0.0.0; lines = p.0.0.0.0.1; slices = p.0.0.0.1; entries = p.0.0.1; journal = p.0.1; profile = p.1 })
    (both (both (both (both (both one one) one) (list two)) four) profile)
    (λ c. refl)
    (λ c. refl)

-- a record as its form, agent, line, word and value
abbrev entry_parts : Record → ((((ℕ × ℕ) × ℕ) × ℕ) × ℕ)
entry_parts (Load a l w v) = ((((0, a.0), l.0), w.0), v)
entry_parts (Store a l w v) = ((((1, a.0), l.0), w.0), v)

abbrev entry_from : ((((ℕ × ℕ) × ℕ) × ℕ) × ℕ) → Record
entry_from p =
    if p.0.0.0.0 == 0 then Load (record { 0 = p.0.0.0.1 }) (record { 0 = p.0.0.1 }) (record { 0 = p.0.1 }) p.1
    else Store (record { 0 = p.0.0.0.1 }) (record { 0 = p.0.0.1 }) (record { 0 = p.0.1 }) p.1

entry_is : (e : Record) → record_bytes e ≡ (((one_byte (entry_parts e).0.0.0.0 ++ one_byte (entry_parts e).0.0.0.1) ++ one_byte (entry_parts e).0.0.1) ++ one_byte (entry_parts e).0.1) ++ eight_bytes (entry_parts e).1
unfolding record_parts
entry_is (Load a l w v) = refl
entry_is (Store a l w v) = refl

entry_again : (e : Record) → entry_from (entry_parts e) ≡ e
entry_again (Load a l w v) = refl
entry_again (Store a l w v) = refl

entry : IsOnce record_bytes
entry = through entry_parts entry_from (both (both (both (both one one) one) one) eight) entry_is entry_again

totals : IsOnce totals_bytes
unfolding totals_bytes
totals = through
    (λ t. (((t.loads, t.stores), t.parts), t.legal))
    (λ p. record { loads = p.0.0.0; stores = p.0.0.1; parts = p.0.1; legal = p.1 })
    (both (both (both eight eight) (list eight)) mark)
    (λ t. refl)
    (λ t. refl)

pub journal : IsOnce journal_bytes
unfolding journal_bytes
journal = through
    (λ log. ((((log.limit, log.lines), log.entries), log.words), log.totals))
    (λ p. record { entries = p.0.0.1; limit = p.0.0.0.0; lines = p.0.0.0.1; words = p.0.1; totals = p.1 })
    (both (both (both (both four eight) (long_list entry)) (long_list words)) totals)
    (λ log. refl)
    (λ log. refl)

-- each head is the same
abbrev head_of : Unit {0} → List ℕ
head_of x = head_bytes

head : IsOnce head_of
head = record { once = λ x y r s same. (refl, cc) }

plain : IsOnce plain_bytes
unfolding plain_bytes
plain = through
    (λ s. ((((tt, s.config), s.index), s.lines), s.journal))
    (λ p. record { config = p.0.0.0.1; index = p.0.0.1; lines = p.0.1; journal = p.1 })
    (both (both (both (both head sizes) one) (long_list line)) journal)
    (λ s. refl)
    (λ s. refl)

pub saved_once : (s t : SliceState) → saved s ≡ saved t → s ≡ t
saved_once s t same = (plain.once s t (sha256 (plain_bytes s)) (sha256 (plain_bytes t)) same).0
