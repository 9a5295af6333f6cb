-- Two sizes are equal, as `==` finds it, exactly where they are the same.
use Rattle.std.proofs.Common.{rules, arith, ◌≡◌, ap}
use Rattle.std.specs.Bool.{Decides}
use Rattle.std.specs.Cmp.Lexicographic.{bytes_decides}
use Rattle.std.proofs.lemmas.Bool.Decides.{Decides-and, Decides-eqb, Decides-like}
use Rattle.chi_flit.specs.declared.credit.Profile.{Profile}
use Rattle.chi_flit.specs.contracts.credit.ProfilePartialEq.TheImpl as profiles
use Rattle.chi_flit.specs.Config.{Sizes}
use Rattle.chi_flit.specs.contracts.config.ConfigPartialEq.TheImpl as configs

profile : (a b : Profile) → Decides (profiles.eq-value.it a b) (a ≡ b)
profile a b = search (rules, arith)

-- sizes are the same where each is
together : (a b : Sizes) → (a.agents ≡ b.agents) × ((a.lines ≡ b.lines) × ((a.slices ≡ b.slices) × ((a.entries ≡ b.entries) × ((a.journal ≡ b.journal) × (a.profile ≡ b.profile))))) → a ≡ b
together a b h = λ i. record { agents = h.0 i; lines = h.1.0 i; slices = h.1.1.0 i; entries = h.1.1.1.0 i; journal = h.1.1.1.1.0 i; profile = h.1.1.1.1.1 i }

apart : (a b : Sizes) → a ≡ b → (a.agents ≡ b.agents) × ((a.lines ≡ b.lines) × ((a.slices ≡ b.slices) × ((a.entries ≡ b.entries) × ((a.journal ≡ b.journal) × (a.profile ≡ b.profile)))))
apart a b e = (ap (λ c. c.agents) e, (ap (λ c. c.lines) e, (ap (λ c. c.slices) e, (ap (λ c. c.entries) e, (ap (λ c. c.journal) e, ap (λ c. c.profile) e)))))

pub sizes : (a b : Sizes) → Decides (configs.eq-value.it a b) (a ≡ b)
sizes a b =
    Decides-like (configs.eq-value.it a b) (together a b) (apart a b)
    (Decides-and _ _ (Decides-eqb a.agents b.agents)
    (Decides-and _ _ (Decides-eqb a.lines b.lines)
    (Decides-and _ _ (Decides-eqb a.slices b.slices)
    (Decides-and _ _ (bytes_decides a.entries b.entries)
    (Decides-and _ _ (Decides-eqb a.journal b.journal) (profile a.profile b.profile))))))
