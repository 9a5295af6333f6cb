-- Requesters, scripts and their writers are numbered from 0.
use Rattle.std.proofs.Common.{◌≡◌, ℕ, zero, suc, ◌+◌, ◌<◌, List, [], ◌∷◌, ◌++◌, get_or, length, length-append, map, refl, sym, ◌∙◌, ap, subst, arith}
use Rattle.std.specs.List.{range_with_len, remove}
use Rattle.std.proofs.lemmas.List.{append_assoc, length-map, map-append}
use Rattle.std.proofs.lemmas.List.FromFn.{map-range_with_len_more}
use Rattle.chi_node.specs.Words.{TableId, Shape}
use Rattle.chi_node.specs.Requester.{RequesterState, opening_requester}
use Rattle.chi_node.specs.Parts.{opening_requesters}
use Rattle.chi_audit.specs.Numbers.{numbers}
use Rattle.chi_audit.specs.Tallies.{WriterState, writer_agent}
use Rattle.chi_audit.specs.Boxes.{outbox_at, ChannelName, OutboxState}
use Rattle.chi_agent.specs.Ended.{requester_number, outbox_of}
use Rattle.chi_agent.specs.Script.{ScriptState, writer_of}

opening_numbers : (table : TableId) (shape : Shape) (n : ℕ) → map requester_number (opening_requesters table shape n) ≡ numbers n
opening_numbers table shape zero = refl
opening_numbers table shape (suc n) =
    let f : ℕ → RequesterState = opening_requester table shape in
    let more : n + 1 ≡ suc n = omega arith in
    let grown : map f (range_with_len 0 (n + 1)) ≡ map f (range_with_len 0 n) ++ f n ∷ [] = map-range_with_len_more f 0 n n (omega arith) in
    subst (λ (m : ℕ). map requester_number (map f (range_with_len 0 m)) ≡ numbers n ++ n ∷ []) more (ap (map requester_number) grown ∙ (map-append requester_number (map f (range_with_len 0 n)) (f n ∷ []) ∙ ap (λ (z : List ℕ). z ++ n ∷ []) (opening_numbers table shape n)))

pub are_numbered : (table : TableId) (shape : Shape) (n k : ℕ) (rs : List RequesterState) → rs ≡ opening_requesters table shape n → n ≡ k → map requester_number rs ≡ numbers k
are_numbered table shape n k rs is as_many = ap (map requester_number) is ∙ (opening_numbers table shape n ∙ ap numbers as_many)

length_numbers : (n : ℕ) → length (numbers n) ≡ n
length_numbers zero = refl
length_numbers (suc n) = omega (arith, length-append (numbers n) (n ∷ []), length_numbers n)

-- a writer for each agent
pub as_many : (ws : List WriterState) (n : ℕ) → map writer_agent ws ≡ numbers n → length ws ≡ n
as_many ws n is = sym (length-map ws writer_agent) ∙ (ap length is ∙ length_numbers n)

-- the first of the writers goes into one script more
pub moves : (all : List ℕ) (ss ss' : List ScriptState) (s : ScriptState) (ws ws' : List WriterState) (w : WriterState) → map writer_of ss ++ map writer_agent ws ≡ all → 0 < length ws → w ≡ get_or ws 0 w → ws' ≡ remove ws 0 → ss' ≡ ss ++ s ∷ [] → s.writer ≡ w → map writer_of ss' ++ map writer_agent ws' ≡ all
moves all ss ss' s [] ws' w so_far some first cut push is = absurd (omega (arith, some))
moves all ss ss' s (x ∷ xs) ws' w so_far some first cut push is =
    let number : writer_of s ≡ writer_agent x = ap writer_agent (is ∙ first) in
    let grown : map writer_of (ss ++ s ∷ []) ≡ map writer_of ss ++ writer_agent x ∷ [] = map-append writer_of ss (s ∷ []) ∙ ap (λ (z : ℕ). map writer_of ss ++ z ∷ []) number in
    ap (λ (z : List ScriptState). map writer_of z ++ map writer_agent ws') push
    ∙ (ap (λ (z : List WriterState). map writer_of (ss ++ s ∷ []) ++ map writer_agent z) cut
    ∙ (ap (λ (z : List ℕ). z ++ map writer_agent xs) grown ∙ (append_assoc (map writer_of ss) (writer_agent x ∷ []) (map writer_agent xs) ∙ so_far)))

append_none : (xs : List ℕ) → xs ++ [] ≡ xs
append_none [] = refl
append_none (x ∷ xs) = ap (λ (zs : List ℕ). x ∷ zs) (append_none xs)

-- all writers are in scripts
pub all_moved : (all : List ℕ) (ss : List ScriptState) (ws : List WriterState) → map writer_of ss ++ map writer_agent ws ≡ all → length ws ≡ 0 → map writer_of ss ≡ all
all_moved all ss [] so_far none = sym (append_none (map writer_of ss)) ∙ so_far
all_moved all ss (w ∷ ws) so_far none = absurd (omega (arith, none))

outboxes_by : (c : ChannelName) (rs : List RequesterState) → map (outbox_at c) (map requester_number rs) ≡ map (outbox_of c) rs
outboxes_by c [] = refl
outboxes_by c (r ∷ rs) = ap (λ (os : List OutboxState). outbox_of c r ∷ os) (outboxes_by c rs)

-- the outboxes of a channel are those of the requesters
pub own_outboxes : (c : ChannelName) (n : ℕ) (rs : List RequesterState) (os : List OutboxState) → map requester_number rs ≡ numbers n → os ≡ map (outbox_at c) (numbers n) → os ≡ map (outbox_of c) rs
own_outboxes c n rs os numbered is = is ∙ (ap (map (outbox_at c)) (sym numbered) ∙ outboxes_by c rs)
