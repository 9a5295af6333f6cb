-- The channels of flits, by their words (docs/TRACES.md, "Traces").
use Rattle.std.specs.Prelude.{ℕ, List, [], ◌∷◌, Option, bytes_eq, codes}
use Rattle.std.specs.List.{find}
use Rattle.chi_issue_b.specs.declared.channels.Channel.{Channel}
use Rattle.chi_issue_b.specs.declared.channels.Channel.TheVariants.{Req, Snp, Rsp, Dat}

abbrev pub channel_word : Channel → List ℕ
channel_word Req = codes "REQ"
channel_word Snp = codes "SNP"
channel_word Rsp = codes "RSP"
channel_word Dat = codes "DAT"

-- the channel that a word names
abbrev pub channels : List Channel
channels = Req ∷ Snp ∷ Rsp ∷ Dat ∷ []

abbrev pub channel_named : List ℕ → Option Channel
channel_named word = find (λ channel. bytes_eq word (channel_word channel)) channels
