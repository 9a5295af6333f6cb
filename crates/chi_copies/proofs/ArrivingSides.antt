-- What the sides of a set lead to, row by row.
use Rattle.std.proofs.Common.{arith, ◌≡◌, ℕ, ◌≤◌, refl, sym, ap, ◌∙◌, length, eq-eqb}
use Rattle.std.specs.Int.{bit_at}
use Rattle.std.specs.Prelude.{Bool, true, false, ◌&&◌, ◌==◌, Option, None, Some, ◌||◌}
use Rattle.std.proofs.Math.Path.{fun_ext}
use Rattle.std.proofs.lemmas.Bool.{eqb-true}
use Rattle.std.proofs.lemmas.List.{get_or_past}
use Rattle.std.proofs.lemmas.Nat.Bits.{bit_at-zero}
use Rattle.chi_copies.specs.declared.copies.Copies.{Copies as CopiesCode}
use Rattle.chi_copies.specs.declared.replies.Asked.{Asked}
use Rattle.chi_copies.specs.declared.replies.Asked.TheVariants.{NoReply}
use Rattle.chi_copies.specs.declared.replies.Reply.{Reply}
use Rattle.chi_copies.specs.declared.sides.Sides.{Sides as SidesCode}
use Rattle.chi_observer.specs.Copies.Copy.{Invalid}
use Rattle.chi_copies.specs.declared.side_tests.ReplyTest.{ReplyTest}
use Rattle.chi_copies.specs.Copies.{Held, Copies, any_held, plain, same_held}
use Rattle.chi_copies.specs.Sets.{any_below, members, place_of}
use Rattle.chi_copies.specs.BegunLines.{copies_at, no_copies}
use Rattle.chi_copies.specs.Arriving.{any_or, any_sent}
use Rattle.chi_copies.specs.ArrivingLines.{Sides, any_side, copies_at_row, fits, is_row, of_row, passes_at_row, reply_at, reply_passes, row_of, side_copies, side_image, side_passes, sides_of, rests}
use Rattle.chi_copies.proofs.Finite.{no, left, right, both, by_false, by_truth, in_held, out_held}
use Rattle.chi_copies.proofs.Sets.{same_bool, any_in, stay_is}
use Rattle.chi_copies.proofs.ArrivingRows.{at_sent, in_sent, is_sent, out_below, out_sent, row_back, row_low, row_past}

-- IMAGES of sides
abbrev pub Leads : Type 0
Leads = Held → Option Reply → Sides

pub in_side : (R : Leads) (S : Sides) (h : Held) (s : Option Reply) (g : Held) (t : Option Reply) → is_sent s ≡ true → S h s ≡ true → R h s g t ≡ true → side_image R S g t ≡ true
in_side R S h s g t l e f = in_held (λ h. any_or any_sent (λ s. S h s && R h s g t)) h (in_sent (λ s. S h s && R h s g t) s l (both (S h s) _ e f))

pub record Came (R : Leads) (S : Sides) (g : Held) (t : Option Reply) : Type 0 where
  pub held : Held
  pub reply : Option Reply
  pub sent : is_sent reply ≡ true
  pub has : S held reply ≡ true
  pub leads : R held reply g t ≡ true

pub out_side : (R : Leads) (S : Sides) (g : Held) (t : Option Reply) → side_image R S g t ≡ true → Came R S g t
out_side R S g t e = let x = out_held (λ h. any_or any_sent (λ s. S h s && R h s g t)) e in
    let y = out_sent (λ s. S x.0 s && R x.0 s g t) x.1 in
    record { held = x.0; reply = y.0; sent = y.1; has = left (S x.0 y.0) _ y.2; leads = right (S x.0 y.0) _ y.2 }

-- past the rows there is nothing
pub none_past : (h : Held) → members no_copies h ≡ false
none_past h = ap (λ (x : ℕ). x == 1) (bit_at-zero (place_of h))

pub past_rows : (a : Asked) (c : SidesCode) (h : Held) (s : Option Reply) → length c.rows ≡ 45 → fits a s ≡ false → sides_of a c h s ≡ false
past_rows a c h s whole e = let past : length c.rows ≤ row_of a s = omega (arith, whole, row_past a s e) in
    ap (λ x. members x h) (get_or_past c.rows (row_of a s) no_copies past) ∙ none_past h

pub has_row : (a : Asked) (c : SidesCode) (h : Held) (s : Option Reply) → length c.rows ≡ 45 → sides_of a c h s ≡ true → fits a s ≡ true
has_row a c h s whole e = by_truth (fits a s) (λ f. f) (λ f. no (sym (past_rows a c h s whole f) ∙ e))

module _ (R : Leads) (a : Asked) (c : SidesCode) (whole : length c.rows ≡ 45) (g : Held) (t : Option Reply) where
  from_row : (p : ℕ) → of_row R a c p g t ≡ true → side_image R (sides_of a c) g t ≡ true
  from_row p e =
      let at : row_of a (reply_at a p) ≡ p = eqb-true (row_of a (reply_at a p)) p (left (is_row a p) _ e) in
      let x = out_held (λ h. members (copies_at c.rows p) h && R h (reply_at a p) g t) (right (is_row a p) _ e) in
      in_side R (sides_of a c) x.0 (reply_at a p) g t (at_sent a p)
      (ap (λ (n : ℕ). members (copies_at c.rows n) x.0) at ∙ left (members (copies_at c.rows p) x.0) _ x.1)
      (right (members (copies_at c.rows p) x.0) _ x.1)

  to_row : (h : Held) (s : Option Reply) → fits a s ≡ true → sides_of a c h s ≡ true → R h s g t ≡ true → of_row R a c (row_of a s) g t ≡ true
  to_row h s l e f =
      let back : reply_at a (row_of a s) ≡ s = row_back a s l in
      both (is_row a (row_of a s)) _ (eq-eqb (row_of a (reply_at a (row_of a s))) (row_of a s) (ap (row_of a) back))
      (in_held (λ h. members (copies_at c.rows (row_of a s)) h && R h (reply_at a (row_of a s)) g t) h
      (both (sides_of a c h s) _ e (ap (λ s. R h s g t) back ∙ f)))

  pub rows_image : any_below 45 (λ p. of_row R a c p g t) ≡ side_image R (sides_of a c) g t
  rows_image = same_bool (any_below 45 (λ p. of_row R a c p g t)) (side_image R (sides_of a c) g t)
      (λ e. let x = out_below 45 (λ p. of_row R a c p g t) e in from_row x.0 x.2)
      (λ e. let x = out_side R (sides_of a c) g t e in let l = has_row a c x.held x.reply whole x.has in
      any_in 45 (λ p. of_row R a c p g t) (row_of a x.reply) (row_low a x.reply l) (to_row x.held x.reply l x.has x.leads))

-- WHAT IS ASKED
pub any_image : (F : Held → Option Reply → Bool) (S : Sides) → any_side F S ≡ side_image (λ h s _ _. F h s) S (plain Invalid) None
any_image F S = refl

row_any : (A Q : Held → Bool) (b : Bool) → (b && any_held (λ h. A h && Q h)) ≡ any_held (λ h. A h && (b && Q h))
row_any A Q true = refl
row_any A Q false = sym (by_false (any_held (λ h. A h && false)) (λ e. let x = out_held (λ h. A h && false) e in right (A x.0) false x.1))

pub rows_any : (test : ReplyTest) (of : CopiesCode) (a : Asked) (c : SidesCode) → length c.rows ≡ 45 → any_below 45 (passes_at_row test of a c) ≡ any_side (side_passes test of) (sides_of a c)
rows_any test of a c whole =
    ap (λ (f : ℕ → Bool). any_below 45 f) (fun_ext (λ p. ap (λ b. is_row a p && b) (row_any (members (copies_at c.rows p)) (members of) (reply_passes test (reply_at a p)))))
    ∙ rows_image (λ h s _ _. side_passes test of h s) a c whole (plain Invalid) None

same_back : (A : Copies) (h : Held) → A h ≡ any_held (λ g. A g && same_held g h)
same_back A h = sym (stay_is A h)

pub rows_copies : (a : Asked) (c : SidesCode) (h : Held) → length c.rows ≡ 45 → any_below 45 (λ p. copies_at_row a c p h) ≡ side_copies (sides_of a c) h
rows_copies a c h whole =
    ap (λ (f : ℕ → Bool). any_below 45 f) (fun_ext (λ p. ap (λ b. is_row a p && b) (same_back (members (copies_at c.rows p)) h)))
    ∙ rows_image (λ g s _ _. same_held g h) a c whole (plain Invalid) None

-- where no reply is awaited none is on its way
pub rests_all : (c : SidesCode) → length c.rows ≡ 45 → (h : Held) (s : Option Reply) → rests (sides_of NoReply c) h s ≡ sides_of NoReply c h s
rests_all c whole h None = refl
rests_all c whole h (Some r) = sym (past_rows NoReply c h (Some r) whole refl)

-- a row with no copy leads to nothing
pub none_of_row : (R : Leads) (a : Asked) (c : SidesCode) (p : ℕ) (h : Held) (s : Option Reply) (b : Bool) → (copies_at c.rows p).bits ≡ 0 → b ≡ (b || of_row R a c p h s)
none_of_row R a c p h s b none = or_nothing b (of_row R a c p h s) (by_false (of_row R a c p h s) (λ e.
    let x = out_held (λ g. members (copies_at c.rows p) g && R g (reply_at a p) h s) (right (is_row a p) _ e) in
    sym (ap (λ (n : ℕ). bit_at n (place_of x.0) == 1) none ∙ ap (λ (n : ℕ). n == 1) (bit_at-zero (place_of x.0))) ∙ left (members (copies_at c.rows p) x.0) _ x.1))
  where
    or_nothing : (b c : Bool) → c ≡ false → b ≡ (b || c)
    or_nothing true c e = refl
    or_nothing false c e = sym e
