-- What is read of a line is what it is.
use Rattle.std.proofs.Common.{◌≡◌, ℕ, Bool, true, false, cond, List, [], ◌∷◌, Option, Some, None, Result, Ok, refl, sym, ap, subst, ◌∙◌}
use Rattle.std.proofs.lemmas.Bool.{eqb-true}
use Rattle.chi_log.specs.declared.lines.Malformed.{Malformed}
use Rattle.chi_log.specs.declared.options.Options.{Options}
use Rattle.chi_log.specs.declared.rows.Row.{Row}
use Rattle.chi_log.specs.declared.seen.Seen.{Seen}
use Rattle.chi_log.specs.Kinds.{◌>>=◌, port_of}
use Rattle.chi_log.specs.Lines.{begins_hash, is_comment, told_by, told_of, words_read, words_told}
use Rattle.chi_log.specs.Rows.{row_of}
use Rattle.chi_log.specs.Seen.{Read, read_of, seen_of}

-- no channel's word begins with #
no_port : (word : List ℕ) → begins_hash word ≡ true → port_of word ≡ None
no_port [] h = refl
no_port (b ∷ bs) h = subst (λ c. port_of (c ∷ bs) ≡ None) (sym (eqb-true b 35 h)) refl

no_kind : (options : Options) (row : Row) → port_of row.channel ≡ None → read_of options row ≡ None
unfolding read_of
no_kind options row h = rw h refl

channel_is : (first : List ℕ) (rest : List (List ℕ)) (row : Row) → Some row ≡ row_of (first ∷ rest) → row.channel ≡ first
unfolding row_of
channel_is first [] row is = absurd (cc (is))
channel_is first (a ∷ []) row is = absurd (cc (is))
channel_is first (a ∷ b ∷ []) row is = absurd (cc (is))
channel_is first (a ∷ b ∷ d ∷ []) row is = absurd (cc (is))
channel_is first (a ∷ b ∷ d ∷ e ∷ []) row is = absurd (cc (is))
channel_is first (a ∷ b ∷ d ∷ e ∷ f ∷ []) row is = absurd (cc (is))
channel_is first (a ∷ b ∷ d ∷ e ∷ f ∷ g ∷ []) row is = absurd (cc (is))
channel_is first (a ∷ b ∷ d ∷ e ∷ f ∷ g ∷ h ∷ []) row is = absurd (cc (is))
channel_is first (a ∷ b ∷ d ∷ e ∷ f ∷ g ∷ h ∷ i ∷ []) row is = absurd (cc (is))
channel_is first (a ∷ b ∷ d ∷ e ∷ f ∷ g ∷ h ∷ i ∷ j ∷ []) row is = absurd (cc (is))
channel_is first (a ∷ b ∷ d ∷ e ∷ f ∷ g ∷ h ∷ i ∷ j ∷ k ∷ more) row is = cc (is)

-- of a comment nothing is read
comment_unread : (options : Options) (words : List (List ℕ)) → is_comment words ≡ true → words_read options words ≡ None
unfolding words_read row_of
comment_unread options [] h = refl
comment_unread options (first ∷ rest) h =
    by_row (row_of (first ∷ rest)) (λ row is. subst (λ c. begins_hash c ≡ true) (sym (channel_is first rest row is)) h) refl
  where
    by_row : (o : Option Row) → ((row : Row) → Some row ≡ row_of (first ∷ rest) → begins_hash row.channel ≡ true)
        → o ≡ row_of (first ∷ rest) → (o >>= read_of options) ≡ None
    by_row None hash is = refl
    by_row (Some row) hash is = no_kind options row (no_port row.channel (hash row is))

-- what is read is what the line is
abbrev told : Option Seen → Result (Option Seen) Malformed
told seen = Ok seen

told_read : (options : Options) (row : Option Row) (seen : Seen) → Some seen ≡ seen_of (row >>= read_of options) → Ok (Some seen) ≡ told_of options row
told_read options None seen h = absurd (cc (h))
told_read options (Some row) seen h = by_read (read_of options row) h
  where
    by_read : (o : Option Read) → Some seen ≡ seen_of o → told (Some seen) ≡ told_by options row o
    by_read None e = absurd (cc (e))
    by_read (Some read) e = ap told e

pub read_told : (options : Options) (words : List (List ℕ)) (seen : Seen)
    → Some seen ≡ seen_of (words_read options words) → Ok (Some seen) ≡ words_told options words
unfolding words_read words_told
read_told options words seen h = by_comment (is_comment words) refl
  where
    by_comment : (b : Bool) → b ≡ is_comment words → told (Some seen) ≡ cond b (Ok None) (told_of options (row_of words))
    by_comment true is = absurd (let none = ap seen_of (comment_unread options words (sym is)) in let both : Some seen ≡ None = h ∙ none in cc (both))
    by_comment false is = told_read options (row_of words) seen h

pub none_read : (options : Options) (words : List (List ℕ)) → None ≡ seen_of (words_read options words) → words_read options words ≡ None
none_read options words h = by_read (words_read options words) h
  where
    by_read : (o : Option Read) → None ≡ seen_of o → o ≡ None
    by_read None e = refl
    by_read (Some read) e = absurd (cc (e))
