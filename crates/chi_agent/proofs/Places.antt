-- The place of the first operation of the window that is on a line.
use Rattle.std.proofs.Common.{◌≡◌, ◌≢◌, ◌<◌, ◌≤◌, ℕ, List, Bool, true, false, cond, length, refl, sym, ap, ◌∙◌, subst, arith}
use Rattle.std.specs.Prelude.{Option, Some, None, position, nat_lt, option_map}
use Rattle.std.specs.List.{position_or_len}
use Rattle.std.proofs.lemmas.Bool.{eqb-true, eq-eqb, ltb-true, ltb-false, false≢true}
use Rattle.std.proofs.lemmas.List.{get_or_append_left}
use Rattle.std.proofs.lemmas.List.Sums.{passes_at_first, fails_before_first}
use Rattle.std.proofs.lemmas.Option.{cond_some, none-some}
use Rattle.chi_flit.specs.declared.operation.Operation.{Operation}
use Rattle.chi_agent.specs.declared.operations.Unfinished.{Unfinished}
use Rattle.chi_agent.specs.Operations.{eligible_on, is_on, line_of_operation, no_operation, unfinished_of, IsEligible, IsNoneEligible, IsFilled}
use Rattle.chi_agent.proofs.Windows.{all_length, behind, place_in, windowed}

-- the line at a place of the window
line_there : (ws : List Unfinished) (script : List Operation) (next p : ℕ) → p < length ws → line_of_operation (unfinished_of ws script next) p ≡ line_of_operation ws p
line_there ws script next p l = ap (λ one. one.operation.line.0) (get_or_append_left ws (behind script next) no_operation p l)

-- before the first place on a line, none is on it
other_before : (l : ℕ) (ws : List Unfinished) (script : List Operation) (next p : ℕ) → p < length ws → p < position_or_len (is_on l) ws
    → line_of_operation (unfinished_of ws script next) p ≢ l
other_before l ws script next p lt before same = false≢true
    (sym (fails_before_first (is_on l) ws p no_operation before) ∙ eq-eqb (line_of_operation ws p) l (sym (line_there ws script next p lt) ∙ same))

-- the first of the window that is on the line is the eligible one
first_eligible : (l : ℕ) (ws : List Unfinished) (script : List Operation) (next : ℕ) → IsFilled ws script next
    → position_or_len (is_on l) ws < length ws → IsEligible (unfinished_of ws script next) l (position_or_len (is_on l) ws)
first_eligible l ws script next f lt = record {
  in_window = omega (arith, f.few);
  there = omega (arith, all_length ws script next);
  on_line = line_there ws script next (position_or_len (is_on l) ws) lt ∙ eqb-true (line_of_operation ws (position_or_len (is_on l) ws)) l (passes_at_first (is_on l) ws no_operation lt);
  first = λ p before. other_before l ws script next p (omega arith) before;
}

pub eligible_some : (l : ℕ) (ws now : List Unfinished) (script : List Operation) (next : ℕ) (found : Option ℕ) (place : ℕ) → IsFilled ws script next
    → unfinished_of ws script next ≡ now → found ≡ position (is_on l) ws → found ≡ Some place → IsEligible now l place
eligible_some l ws now script next found place f same at is =
    let h = cond_some (nat_lt (position_or_len (is_on l) ws) (length ws)) (position_or_len (is_on l) ws) place (sym at ∙ is) in
    subst (λ xs. IsEligible xs l place) same
    (subst (λ p. IsEligible (unfinished_of ws script next) l p) h.1 (first_eligible l ws script next f (ltb-true _ _ h.0)))

pub eligible_none : (l : ℕ) (ws now : List Unfinished) (script : List Operation) (next : ℕ) (found : Option ℕ) → IsFilled ws script next
    → unfinished_of ws script next ≡ now → found ≡ position (is_on l) ws → found ≡ None → IsNoneEligible now l
eligible_none l ws now script next found f same at is =
    subst (λ xs. IsNoneEligible xs l) same
    (λ p low there. let lt = place_in ws script next p f low there in
    other_before l ws script next p lt (omega (arith, past (nat_lt (position_or_len (is_on l) ws) (length ws)) refl (sym at ∙ is))))
  where
    past : (b : Bool) → nat_lt (position_or_len (is_on l) ws) (length ws) ≡ b → cond b (Some (position_or_len (is_on l) ws)) None ≡ None → length ws ≤ position_or_len (is_on l) ws
    past true e h = absurd (none-some _ (sym h))
    past false e h = ltb-false _ _ e

-- the definition gives the same place, or none
eligible_is : (l : ℕ) (ws now : List Unfinished) (script : List Operation) (next : ℕ) (found : Option ℕ) → IsFilled ws script next
    → unfinished_of ws script next ≡ now → found ≡ position (is_on l) ws
    → option_map (λ p. record { 0 = p }) found ≡ eligible_on now l
eligible_is l ws now script next found f same at =
    ap (option_map (λ p. record { 0 = p })) (at ∙ ap (position (is_on l)) (sym (windowed ws script next f)))
    ∙ ap (λ xs. eligible_on xs l) same

pub some_is : (l : ℕ) (ws now : List Unfinished) (script : List Operation) (next : ℕ) (found : Option ℕ) (place : ℕ) → IsFilled ws script next
    → unfinished_of ws script next ≡ now → found ≡ position (is_on l) ws → found ≡ Some place → Some (record { 0 = place }) ≡ eligible_on now l
some_is l ws now script next found place f same at is =
    ap (option_map (λ p. record { 0 = p })) (sym is) ∙ eligible_is l ws now script next found f same at

pub none_is : (l : ℕ) (ws now : List Unfinished) (script : List Operation) (next : ℕ) (found : Option ℕ) → IsFilled ws script next
    → unfinished_of ws script next ≡ now → found ≡ position (is_on l) ws → found ≡ None → None ≡ eligible_on now l
none_is l ws now script next found f same at is =
    ap (option_map (λ p. record { 0 = p })) (sym is) ∙ eligible_is l ws now script next found f same at
