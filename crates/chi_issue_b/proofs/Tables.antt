-- Each opcode's row, by what the tables compute to.
use Rattle.std.proofs.Common.{rules, arith, ◌≡◌, ℕ, zero, suc, ◌<◌, List, [], ◌∷◌, Some, length, map, get_or, refl, sym, ap, ◌∙◌}
use Rattle.std.proofs.lemmas.List.{get_or-map}
use Rattle.std.proofs.lemmas.List.FromFn.{get_or-range_with_len}
use denote.Enum.Bare.{tag_one}
use borrow.Enum.Match.{tag_small}
use Rattle.chi_issue_b.specs.contracts.opcodes.RequestOpcode as requests
use Rattle.chi_issue_b.specs.contracts.opcodes.SnoopOpcode as snoops
use Rattle.chi_issue_b.specs.contracts.opcodes.ResponseOpcode as responses
use Rattle.chi_issue_b.specs.contracts.opcodes.DataOpcode as datas
use Rattle.chi_issue_b.specs.declared.channels.Channel.{Channel}
use Rattle.chi_issue_b.specs.declared.channels.Channel.TheVariants as channels
use Rattle.chi_issue_b.specs.declared.opcodes.Opcode.{Opcode}
use Rattle.chi_issue_b.specs.declared.opcodes.Opcode.TheVariants.{Req, Snp, Rsp, Dat}
use Rattle.chi_issue_b.specs.Laws.{HasOwnNumbers, HasOwnRows, HasOwnWords, HasRespWords}
use Rattle.chi_issue_b.specs.Opcodes.{Row, channel_of, no_row, number_of, opcode_named, opcode_numbered, place_of, row_of, rows_of, word_of}
use Rattle.chi_issue_b.specs.Resp.{rows}

-- WHAT THE TABLES COMPUTE TO
pub own_rows : (channel : Channel) → HasOwnRows channel
unfolding rows_of
own_rows channels.Req = (refl, refl)
own_rows channels.Snp = (refl, refl)
own_rows channels.Rsp = (refl, refl)
own_rows channels.Dat = (refl, refl)

pub own_words : (channel : Channel) → HasOwnWords channel
unfolding rows_of
own_words channels.Req = refl
own_words channels.Snp = refl
own_words channels.Rsp = refl
own_words channels.Dat = refl

pub own_numbers : (channel : Channel) → HasOwnNumbers channel
unfolding rows_of
own_numbers channels.Req = refl
own_numbers channels.Snp = refl
own_numbers channels.Rsp = refl
own_numbers channels.Dat = refl

pub resp_words : HasRespWords
unfolding rows
resp_words = refl

-- AND SO EACH OPCODE'S ROW IS ITS OWN
same_opcode : (a b : Opcode) → channel_of a ≡ channel_of b → place_of a ≡ place_of b → a ≡ b
same_opcode (Req a) (Req b) c p = ap Req (tag_one requests.the_type (search rules) a b p)
same_opcode (Snp a) (Snp b) c p = ap Snp (tag_one snoops.the_type (search rules) a b p)
same_opcode (Rsp a) (Rsp b) c p = ap Rsp (tag_one responses.the_type (search rules) a b p)
same_opcode (Dat a) (Dat b) c p = ap Dat (tag_one datas.the_type (search rules) a b p)
same_opcode (Req a) (Snp b) c p = cc
same_opcode (Req a) (Rsp b) c p = cc
same_opcode (Req a) (Dat b) c p = cc
same_opcode (Snp a) (Req b) c p = cc
same_opcode (Snp a) (Rsp b) c p = cc
same_opcode (Snp a) (Dat b) c p = cc
same_opcode (Rsp a) (Req b) c p = cc
same_opcode (Rsp a) (Snp b) c p = cc
same_opcode (Rsp a) (Dat b) c p = cc
same_opcode (Dat a) (Req b) c p = cc
same_opcode (Dat a) (Snp b) c p = cc
same_opcode (Dat a) (Rsp b) c p = cc

-- a place is one of the table
within : (opcode : Opcode) → place_of opcode < length (rows_of (channel_of opcode))
unfolding rows_of
within (Req kind) = tag_small requests.the_type kind
within (Snp kind) = tag_small snoops.the_type kind
within (Rsp kind) = tag_small responses.the_type kind
within (Dat kind) = tag_small datas.the_type kind

-- what two lists of the rows have at one place
alike_at : {A : Type 0} (f g : Row → A) (rows : List Row) (i : ℕ) (d : Row) → i < length rows → map f rows ≡ map g rows → f (get_or rows i d) ≡ g (get_or rows i d)
alike_at f g [] i d l e = absurd (omega (arith, l))
alike_at f g (row ∷ rows) zero d l e = cc
alike_at f g (row ∷ rows) (suc i) d l e = alike_at f g rows i d (omega (arith, l)) (cc)

channel_at : (opcode : Opcode) → channel_of (row_of opcode).opcode ≡ channel_of opcode
unfolding row_of
channel_at opcode = alike_at (λ row. channel_of row.opcode) (λ row. channel_of opcode) (rows_of (channel_of opcode)) (place_of opcode) no_row (within opcode) (own_rows (channel_of opcode)).0

place_at : (opcode : Opcode) → place_of (row_of opcode).opcode ≡ place_of opcode
unfolding row_of
place_at opcode =
    let rows = rows_of (channel_of opcode) in
    sym (get_or-map (λ row. place_of row.opcode) rows (place_of opcode) no_row 0 (within opcode))
    ∙ ap (λ (places : List ℕ). get_or places (place_of opcode) 0) (own_rows (channel_of opcode)).1
    ∙ get_or-range_with_len 0 (length rows) (place_of opcode) 0 (within opcode)
    ∙ omega arith

pub own : (opcode : Opcode) → (row_of opcode).opcode ≡ opcode
own opcode = same_opcode (row_of opcode).opcode opcode (channel_at opcode) (place_at opcode)

named_at : (opcode : Opcode) → opcode_named (channel_of opcode) (word_of opcode) ≡ Some (row_of opcode).opcode
unfolding row_of
named_at opcode = alike_at (λ row. opcode_named (channel_of opcode) row.word) (λ row. Some row.opcode) (rows_of (channel_of opcode)) (place_of opcode) no_row (within opcode) (own_words (channel_of opcode))

pub named : (opcode : Opcode) → opcode_named (channel_of opcode) (word_of opcode) ≡ Some opcode
named opcode = named_at opcode ∙ ap Some (own opcode)

-- the first number of each row is its own
first_numbers : (channel : Channel) → map (λ row. opcode_numbered channel row.number) (rows_of channel) ≡ map (λ row. Some row.opcode) (rows_of channel)
unfolding rows_of
first_numbers channels.Req = refl
first_numbers channels.Snp = refl
first_numbers channels.Rsp = refl
first_numbers channels.Dat = refl

numbered_at : (opcode : Opcode) → opcode_numbered (channel_of opcode) (number_of opcode) ≡ Some (row_of opcode).opcode
unfolding row_of
numbered_at opcode = alike_at (λ row. opcode_numbered (channel_of opcode) row.number) (λ row. Some row.opcode) (rows_of (channel_of opcode)) (place_of opcode) no_row (within opcode) (first_numbers (channel_of opcode))

pub numbered : (opcode : Opcode) → opcode_numbered (channel_of opcode) (number_of opcode) ≡ Some opcode
numbered opcode = numbered_at opcode ∙ ap Some (own opcode)
