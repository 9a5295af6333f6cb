-- The eleven words of a line, by their columns (docs/TRACES.md, "Traces").
use Rattle.std.specs.Prelude.{ℕ, List, ◌∷◌, Option, Some, None}
use Rattle.chi_log.specs.declared.rows.Row.{Row}

-- words behind the eleventh aren't read
unfoldable pub row_of : List (List ℕ) → Option Row
row_of (channel ∷ source ∷ target ∷ txn ∷ opcode ∷ address ∷ resp ∷ dbid ∷ allow ∷ pcrd ∷ payload ∷ more) =
    Some (record {
      channel = channel;
      source = source;
      target = target;
      txn = txn;
      opcode = opcode;
      address = address;
      resp = resp;
      dbid = dbid;
      allow_retry = allow;
      pcrd = pcrd;
      payload = payload;
    })
row_of fewer = None
