-- A new node, as the table of the commands sees it.
use Rattle.std.proofs.Common.{◌≡◌, ℕ, zero, suc, ◌+◌, ◌/◌, ◌%◌, List, [], ◌∷◌, map, replicate, refl, ◌∙◌, ap, arith}
use Rattle.std.proofs.lemmas.Nat.Bits.{bit_at-zero}
use Rattle.std.specs.Prelude.{slice_index}
use Rattle.std.specs.Int.{bit_at}
use Rattle.std.specs.List.{range_with_len}
use Rattle.chi_node.specs.Words.{TableId, Shape, set_at, low, size, PortView, new_port, new_ports, set_count, shape_of, all_idle}
use Rattle.chi_slice.specs.Words.{Sizes}
use Rattle.chi_node.specs.Outstanding.{Outstanding, outstanding_of, seen_counts}
use Rattle.chi_node.specs.Requester.{RequesterState, opening_requester}
use Rattle.chi_node.specs.Home.{opening_home}
use Rattle.chi_node.specs.System.{SystemState, opening_system}
use Rattle.chi_replay.specs.Turns.{machine_at_start, none_outstanding}
use Rattle.chi_replay.specs.Texts.{opening_ports}
use Rattle.chi_replay.specs.Session.{machine_of, ports_of}

-- nothing is seen
abbrev no_seen_credits : List ℕ
no_seen_credits = replicate 4 0

none_in : (j : ℕ) → slice_index no_seen_credits j ≡ 0
none_in zero = refl
none_in (suc zero) = refl
none_in (suc (suc zero)) = refl
none_in (suc (suc (suc zero))) = refl
none_in (suc (suc (suc (suc j)))) = refl

none_at : (e : ℕ) → set_at no_seen_credits e ≡ 0
none_at e = ap (λ w. bit_at w (e % 64)) (none_in (e / 64)) ∙ bit_at-zero (e % 64)

none_from : (start n : ℕ) → set_count no_seen_credits start n ≡ 0
none_from start zero = refl
none_from start (suc n) = omega (arith, none_from start n, none_at (start + n))

no_counts : (s : Shape) (n : ℕ) → seen_counts (new_port s n) ≡ no_seen_credits
no_counts s n =
    ap (λ m. m ∷ set_count no_seen_credits (low s 1) (size s 1) ∷ set_count no_seen_credits (low s 2) (size s 2) ∷ set_count no_seen_credits (low s 3) (size s 3) ∷ []) (none_from (low s 0) (size s 0))
    ∙ (ap (λ m. 0 ∷ m ∷ set_count no_seen_credits (low s 2) (size s 2) ∷ set_count no_seen_credits (low s 3) (size s 3) ∷ []) (none_from (low s 1) (size s 1))
    ∙ (ap (λ m. 0 ∷ 0 ∷ m ∷ set_count no_seen_credits (low s 3) (size s 3) ∷ []) (none_from (low s 2) (size s 2)) ∙ ap (λ m. 0 ∷ 0 ∷ 0 ∷ m ∷ []) (none_from (low s 3) (size s 3))))

-- of n requesters from a start
opened : (z : TableId) (s : Shape) (start n : ℕ) → map outstanding_of (map (opening_requester z s) (range_with_len start n)) ≡ replicate n (none_outstanding s.sizes)
opened z s start zero = refl
opened z s start (suc n) = λ i. record { entries = s.sizes; slots = all_idle; seen = no_counts s start i } ∷ opened z s (start + 1) n i

new_views : (z : TableId) (s : Shape) (start n : ℕ) → map (λ (r : RequesterState). r.port) (map (opening_requester z s) (range_with_len start n)) ≡ new_ports s start n
new_views z s start zero = refl
new_views z s start (suc n) = ap (λ (l : List PortView). new_port s start ∷ l) (new_views z s (start + 1) n)

-- the table's state, and the ports
pub opening_machine : (config : Sizes) (z : TableId) (y : SystemState) → y ≡ opening_system config z → machine_of y ≡ machine_at_start config
opening_machine config z y is =
    ap machine_of is
    ∙ ap (λ (l : List Outstanding). record { home = opening_home config; requesters = l }) (opened z (shape_of config.entries config.agents) 0 config.agents)

pub opening_views : (config : Sizes) (z : TableId) (y : SystemState) → y ≡ opening_system config z → ports_of y ≡ opening_ports config
opening_views config z y is = ap ports_of is ∙ new_views z (shape_of config.entries config.agents) 0 config.agents
