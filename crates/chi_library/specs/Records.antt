-- Records of the journal in C's numbers (docs/PROTOCOL.md, "The journal and last values").
use Rattle.chi_slice.specs.Words.{Record}
use Rattle.chi_slice.specs.Records.{Load, Store}
use Rattle.chi_library.specs.declared.records.ChiRecord.{ChiRecord}

abbrev pub no_record : ChiRecord
no_record = record { store = 0; agent = 0; line = 0; word = 0; value = 0 }

abbrev pub record_told : Record → ChiRecord
record_told (Load agent line word value) = record { store = 0; agent = agent.0; line = line.0; word = word.0; value = value }
record_told (Store agent line word value) = record { store = 1; agent = agent.0; line = line.0; word = word.0; value = value }
