-- A flit without its words of data (docs/TRACES.md, "Traces").
use Rattle.std.specs.Prelude.{Option, Some, None, false, if◌then◌else◌}
use Rattle.chi_issue_b.specs.declared.flit.Flit.{Flit}
use Rattle.chi_issue_b.specs.declared.ids.CacheLine.{CacheLine}
use Rattle.chi_issue_b.specs.declared.ids.DbId.{DbId}
use Rattle.chi_issue_b.specs.declared.ids.NodeId.{NodeId}
use Rattle.chi_issue_b.specs.declared.ids.TxnId.{TxnId}
use Rattle.chi_issue_b.specs.declared.opcodes.Opcode.{Opcode}
use Rattle.chi_issue_b.specs.Ids.{line_at}

-- with an opcode, its nodes and its TXN, and nothing else
abbrev pub plain_flit : Opcode → NodeId → NodeId → TxnId → Flit
plain_flit opcode source target txn =
    record {
      line = line_at 0;
      source = source;
      target = target;
      txn = txn;
      dbid = record { 0 = 0 };
      opcode = opcode;
      resp = None;
      credit = None;
      has_line = false;
      has_dbid = false;
    }

-- the cache line that it names, and its DBID
abbrev pub line_of : Flit → Option CacheLine
line_of flit = if flit.has_line then Some flit.line else None

abbrev pub dbid_of : Flit → Option DbId
dbid_of flit = if flit.has_dbid then Some flit.dbid else None
