-- What holds of the tables of opcodes and of Resp.
use Rattle.std.specs.Prelude.{◌≡◌, Some, length, map, replicate}
use Rattle.std.specs.List.{range_with_len}
use Rattle.chi_issue_b.specs.declared.channels.Channel.{Channel}
use Rattle.chi_issue_b.specs.Opcodes.{channel_of, opcode_named, opcode_numbered, place_of, rows_of}
use Rattle.chi_issue_b.specs.Resp.{resp_named, rows}

-- the rows of a channel are of its opcodes, in the order of the code's variants, each once
abbrev pub HasOwnRows : Channel → Type 0
HasOwnRows channel =
    (map (λ row. channel_of row.opcode) (rows_of channel) ≡ map (λ _. channel) (rows_of channel))
    × (map (λ row. place_of row.opcode) (rows_of channel) ≡ range_with_len 0 (length (rows_of channel)))

-- the word of each row names its opcode
abbrev pub HasOwnWords : Channel → Type 0
HasOwnWords channel =
    map (λ row. opcode_named channel row.word) (rows_of channel) ≡ map (λ row. Some row.opcode) (rows_of channel)

-- each number of a row names its opcode
abbrev pub HasOwnNumbers : Channel → Type 0
HasOwnNumbers channel =
    map (λ row. map (opcode_numbered channel) (range_with_len row.number row.numbers)) (rows_of channel)
    ≡ map (λ row. replicate row.numbers (Some row.opcode)) (rows_of channel)

abbrev pub HasRespWords : Type 0
HasRespWords = map (λ row. resp_named row.word) rows ≡ map (λ row. Some row.resp) rows
