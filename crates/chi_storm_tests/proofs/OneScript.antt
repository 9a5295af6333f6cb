-- The one script of one writer.
use Rattle.std.proofs.Common.{◌≡◌, ◌<◌, List, [], ◌∷◌, ◌++◌, All, get_or, length, map, ◌∙◌, ap, subst, sym, arith, rules}
use Rattle.std.proofs.lemmas.List.Elements.{All-nil, All-push}
use Rattle.chi_node.specs.Words.{TableId}
use Rattle.chi_audit.specs.Tallies.{IsFresh, WriterState, writer_agent}
use Rattle.chi_audit.specs.Numbers.{numbers}
use Rattle.chi_agent.specs.Script.{writer_of, AreFresh, ScriptState}

pub is_fresh : (cells : List TableId) (ws : List WriterState) (w : WriterState) (s : ScriptState) (ss : List ScriptState) → All (IsFresh cells) ws → 0 < length ws → w ≡ get_or ws 0 w → s.writer ≡ w → ss ≡ [] ++ s ∷ [] → AreFresh cells ss
is_fresh cells ws w s ss fresh some first own is =
    let P : ScriptState → Type 0 = λ z. IsFresh cells z.writer in
    let one : IsFresh cells s.writer = subst (IsFresh cells) (sym (own ∙ first)) (fresh 0 w some) in
    subst (All P) (sym is) (All-push P [] s (All-nil P) one)

pub is_first : (ws : List WriterState) (w : WriterState) (s : ScriptState) (ss : List ScriptState) → map writer_agent ws ≡ numbers 1 → 0 < length ws → w ≡ get_or ws 0 w → s.writer ≡ w → ss ≡ [] ++ s ∷ [] → map writer_of ss ≡ numbers 1
is_first [] w s ss numbered some first own is = absurd (omega (arith, some))
is_first (x ∷ xs) w s ss numbered some first own is =
    let number : writer_agent x ≡ 0 = search (rules, numbered) in
    ap (map writer_of) is ∙ ap (λ z. z ∷ []) (ap writer_agent (own ∙ first) ∙ number)
