-- One more outbox.
use Rattle.std.proofs.Common.{◌≡◌, ◌∙◌, ℕ, suc, ◌+◌, map, List, [], ◌∷◌, ◌++◌, sym, ap, arith}
use Rattle.std.proofs.lemmas.List.{map-append}
use Rattle.chi_audit.specs.Boxes.{ChannelName, OutboxState, outbox_at}
use Rattle.chi_audit.specs.Numbers.{numbers}

pub more_outboxes : (channel : ChannelName) (n : ℕ) (xs xs' : List OutboxState) → xs ≡ map (outbox_at channel) (numbers n) → xs' ≡ xs ++ outbox_at channel n ∷ []
    → xs' ≡ map (outbox_at channel) (numbers (n + 1))
more_outboxes channel n xs xs' before more =
    let next : suc n ≡ n + 1 = omega arith in
    more ∙ (ap (λ (ys : List OutboxState). ys ++ outbox_at channel n ∷ []) before ∙ (sym (map-append (outbox_at channel) (numbers n) (n ∷ [])) ∙ ap (λ (k : ℕ). map (outbox_at channel) (numbers k)) next))
