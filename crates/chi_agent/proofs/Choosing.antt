-- What is chosen at the line that is seen is what is chosen for the word that drew the line.
use Rattle.std.proofs.Common.{◌≡◌, ℕ, ◌/◌, List, Bool, true, None, if◌then◌else◌, sym, ap, ◌∙◌, subst}
use Rattle.chi_flit.specs.declared.numbers.Line.{Line}
use Rattle.chi_slice.specs.Slice.{SliceState, are_in_range}
use Rattle.chi_node.specs.Requester.{RequesterState}
use Rattle.chi_agent.specs.declared.operations.Unfinished.{Unfinished}
use Rattle.chi_agent.specs.Choice.{choice, choice_at, drawn_line}

pub chosen : (s seen : SliceState) (r own : RequesterState) (ops : List Unfinished) (stopped : Bool) (l at : Line) (x number : ℕ) → seen ≡ s → own ≡ r → at ≡ l → l ≡ drawn_line s.config x → number ≡ x / s.config.lines → are_in_range s r.number l.0 ≡ true
    → choice_at seen own ops stopped at number ≡ choice s r ops stopped x
chosen s seen r own ops stopped l at x number seen_is own_is at_is line_is number_is inside =
    let here : are_in_range s r.number (drawn_line s.config x).0 ≡ true = subst (λ (v : Line). are_in_range s r.number v.0 ≡ true) line_is inside in
    ap (λ (v : SliceState). choice_at v own ops stopped at number) seen_is
    ∙ (ap (λ (v : RequesterState). choice_at s v ops stopped at number) own_is
    ∙ (ap (λ (v : Line). choice_at s r ops stopped v number) (at_is ∙ line_is)
    ∙ (ap (λ (n : ℕ). choice_at s r ops stopped (drawn_line s.config x) n) number_is
    ∙ sym (ap (λ (b : Bool). if b then choice_at s r ops stopped (drawn_line s.config x) (x / s.config.lines) else None) here))))
