-- Each opcode's row is its own.
use Rattle.std.proofs.Common.{rules, arith, ◌≡◌, ℕ, ◌<◌, List, length, map, get_or, refl, sym, ap, ◌∙◌}
use Rattle.std.proofs.lemmas.List.{get_or-map}
use Rattle.std.proofs.lemmas.List.FromFn.{get_or-range_with_len}
use Rattle.std.specs.List.{range_with_len}
use denote.Enum.Bare.{tag_one}
use denote.Enum.Declared.{tag_of}
use borrow.Enum.Match.{tag_small}
use Rattle.chi_issue_b.specs.contracts.opcodes.RequestOpcode as requests
use Rattle.chi_issue_b.specs.contracts.opcodes.ResponseOpcode as responses
use Rattle.chi_issue_b.specs.contracts.opcodes.DataOpcode as datas
use Rattle.chi_issue_b.specs.declared.opcodes.RequestOpcode.{RequestOpcode}
use Rattle.chi_issue_b.specs.declared.opcodes.ResponseOpcode.{ResponseOpcode}
use Rattle.chi_issue_b.specs.declared.opcodes.DataOpcode.{DataOpcode}
use Rattle.chi_transactions.specs.declared.rows.TheConstants.{REQUESTS, RESPONSES, DATA_FLITS}
use Rattle.chi_transactions.specs.Rows.{data_row, request_row, response_row}

-- where the rows are in the order of their places, the row at a place has it
place_own : {X : Type 0} (place : X → ℕ) (rows : List X) (i : ℕ) (d : X) → i < length rows → map place rows ≡ range_with_len 0 (length rows) → place (get_or rows i d) ≡ i
place_own place rows i d within ordered =
    sym (get_or-map place rows i d 0 within)
    ∙ ap (λ (places : List ℕ). get_or places i 0) ordered
    ∙ get_or-range_with_len 0 (length rows) i 0 within
    ∙ omega arith

pub own_request : (kind : RequestOpcode) → (request_row kind).0 ≡ kind
unfolding request_row
own_request kind = tag_one requests.the_type (search rules) _ kind (place_own (λ row. tag_of requests.the_type row.0) REQUESTS (tag_of requests.the_type kind) _ (tag_small requests.the_type kind) refl)

pub own_response : (kind : ResponseOpcode) → (response_row kind).0 ≡ kind
unfolding response_row
own_response kind = tag_one responses.the_type (search rules) _ kind (place_own (λ row. tag_of responses.the_type row.0) RESPONSES (tag_of responses.the_type kind) _ (tag_small responses.the_type kind) refl)

pub own_data : (kind : DataOpcode) → (data_row kind).0 ≡ kind
unfolding data_row
own_data kind = tag_one datas.the_type (search rules) _ kind (place_own (λ row. tag_of datas.the_type row.0) DATA_FLITS (tag_of datas.the_type kind) _ (tag_small datas.the_type kind) refl)
