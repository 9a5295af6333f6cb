-- When a credit is granted (docs/TRACES.md, "Nodes, ids and credits"): where G < R, and with early grants where G is less
-- than R and the first attempts on their way.
use Rattle.std.specs.Prelude.{◌≡◌, ℕ, ◌+◌, ◌<◌, List, ◌∷◌, ◌++◌, Option, Some, None, length}
use Rattle.chi_trace.specs.declared.fields.NodeId.{NodeId}
use Rattle.chi_trace.specs.declared.fields.PcrdType.{PcrdType}
use Rattle.chi_trace.specs.declared.flits.Flit.{Flit}
use Rattle.chi_trace.specs.declared.flits.Flit.TheVariants as flits
use Rattle.chi_trace.specs.declared.flits.Seen.{Seen}
use Rattle.chi_resolution.specs.declared.reasons.IdFault.{IdFault}
use Rattle.chi_resolution.specs.declared.resolution.Options.{Options}
use Rattle.chi_resolution.specs.Credits.{early_of}
use Rattle.chi_resolution.specs.Ledger.{held_of}
use Rattle.chi_resolution.specs.Resolution.{resolution_of}
use Rattle.chi_resolution.specs.Tables.{Open}

-- G < R, or as far above R as the requester has first attempts on their way that may be retried with the type
abbrev pub MayBeGranted : Options → Open → NodeId → PcrdType → Type 0
MayBeGranted options table node pcrd =
    (held_of node pcrd table.accounts).account.granted < (held_of node pcrd table.accounts).account.retried + early_of options table node pcrd

-- a grant is of a credit that may be granted to its target then
abbrev pub IsGrantDue : Flit → Options → Open → Type 0
IsGrantDue (flits.PCrdGrant pcrd target) options table = MayBeGranted options table target pcrd
IsGrantDue other options table = Unit {0}

-- the flit of this number comes before the first that isn't allowed
abbrev pub IsFlitTaken : ℕ → Option IdFault → Type 0
IsFlitTaken number None = Unit {0}
IsFlitTaken number (Some fault) = number < fault.at

-- each grant of the trace that is taken is due by the flits before it
abbrev pub AreGrantsDue : Options → List Seen → Option IdFault → Type 0
AreGrantsDue options trace fault =
    (before : List Seen) (seen : Seen) (rest : List Seen) → trace ≡ before ++ (seen ∷ rest) → IsFlitTaken (length before) fault
    → IsGrantDue seen.flit options (resolution_of options before).progress.table
