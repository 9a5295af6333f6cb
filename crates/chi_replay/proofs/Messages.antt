-- The messages of a list of channels, one channel more, and none.
use Rattle.std.proofs.Common.{◌≡◌, ℕ, ◌+◌, ◌<◌, Option, List, [], ◌∷◌, ◌++◌, length, get_or, take, codes, ap, sym, ◌∙◌}
use Rattle.std.specs.Prelude.{option_to_list}
use Rattle.std.specs.List.{flat_map}
use Rattle.std.proofs.lemmas.List.{take_more, append-nil}
use Rattle.std.proofs.lemmas.Grind.{flat_map-append}
use Rattle.chi_flit.specs.declared.message.Channel.{Channel}
use Rattle.chi_flit.specs.declared.message.Msg.{Msg}
use Rattle.chi_flit.specs.Message.{message_text}
use Rattle.chi_replay.specs.Replies.{spaced_texts}

-- the texts of the messages of one channel more
pub spaced_more : (cell : Channel → Option Msg) (all : List Channel) (n : ℕ) (d : Channel) → n < length all →
    spaced_texts message_text (flat_map (λ channel. option_to_list (cell channel)) (take n all)) ++ spaced_texts message_text (option_to_list (cell (get_or all n d)))
    ≡ spaced_texts message_text (flat_map (λ channel. option_to_list (cell channel)) (take (n + 1) all))
spaced_more cell all n d low =
    sym (ap (λ below. spaced_texts message_text (flat_map (λ channel. option_to_list (cell channel)) below)) (take_more all n d low)
    ∙ (ap (spaced_texts message_text) (flat_map-append (λ channel. option_to_list (cell channel)) (take n all) (get_or all n d ∷ []))
    ∙ (flat_map-append (λ message. codes " " ++ message_text message) (flat_map (λ channel. option_to_list (cell channel)) (take n all)) (option_to_list (cell (get_or all n d)) ++ [])
    ∙ ap (λ last. spaced_texts message_text (flat_map (λ channel. option_to_list (cell channel)) (take n all)) ++ spaced_texts message_text last) (append-nil (option_to_list (cell (get_or all n d)))))))
