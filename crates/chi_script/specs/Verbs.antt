-- The verbs of commands (docs/FORMATS.md, "Replay files").
use Rattle.std.specs.Prelude.{ℕ, List, [], ◌∷◌, Option, codes}
use Rattle.std.specs.List.{find}
use Rattle.chi_script.specs.declared.verbs.Verb.{Verb}
use Rattle.chi_script.specs.declared.verbs.Verb.TheVariants.{Load, Store, Drop, Issue, Arrive, Start, Snp, SnpResp, RetryAck, Resend, Cancel, Data, Comp, Dbid, Ack, WrData, See, GiveBack, Tend, Totals, Audit, Show, Flits}
use Rattle.chi_script.specs.Words.{is_text}

-- the word of each
abbrev pub verb_text : Verb → List ℕ
verb_text Load = codes "load"
verb_text Store = codes "store"
verb_text Drop = codes "drop"
verb_text Issue = codes "issue"
verb_text Arrive = codes "arrive"
verb_text Start = codes "start"
verb_text Snp = codes "snp"
verb_text SnpResp = codes "snpresp"
verb_text RetryAck = codes "retryack"
verb_text Resend = codes "resend"
verb_text Cancel = codes "cancel"
verb_text Data = codes "data"
verb_text Comp = codes "comp"
verb_text Dbid = codes "dbid"
verb_text Ack = codes "ack"
verb_text WrData = codes "wrdata"
verb_text See = codes "see"
verb_text GiveBack = codes "giveback"
verb_text Tend = codes "tend"
verb_text Totals = codes "totals"
verb_text Audit = codes "audit"
verb_text Show = codes "show"
verb_text Flits = codes "flits"

-- all of them: those that do something, and then those that only ask
abbrev pub all_verbs : List Verb
all_verbs =
    Load ∷ Store ∷ Drop ∷ Issue ∷ Arrive ∷ Start ∷ Snp ∷ SnpResp ∷ RetryAck ∷ Resend ∷ Cancel ∷ Data
    ∷ Comp ∷ Dbid ∷ Ack ∷ WrData ∷ See ∷ GiveBack ∷ Tend ∷ Totals ∷ Audit ∷ Show ∷ Flits ∷ []

-- the place of each
abbrev pub verb_place : Verb → ℕ
verb_place Load = 0
verb_place Store = 1
verb_place Drop = 2
verb_place Issue = 3
verb_place Arrive = 4
verb_place Start = 5
verb_place Snp = 6
verb_place SnpResp = 7
verb_place RetryAck = 8
verb_place Resend = 9
verb_place Cancel = 10
verb_place Data = 11
verb_place Comp = 12
verb_place Dbid = 13
verb_place Ack = 14
verb_place WrData = 15
verb_place See = 16
verb_place GiveBack = 17
verb_place Tend = 18
verb_place Totals = 19
verb_place Audit = 20
verb_place Show = 21
verb_place Flits = 22

-- the verb of a word
unfoldable pub verb_named : List ℕ → Option Verb
verb_named word = find (λ verb. is_text word (verb_text verb)) all_verbs
