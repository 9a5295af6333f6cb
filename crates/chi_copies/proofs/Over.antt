-- Nothing is outstanding at a line.
use Rattle.std.proofs.Common.{rules, arith, ◌≡◌, ◌≢◌, ℕ, zero, suc, ◌+◌, ◌<◌, refl, sym, subst, ◌∙◌}
use Rattle.std.specs.Prelude.{Bool, true, false, ◌&&◌, ◌||◌, not, Option, Some, None, ◌++◌}
use Rattle.chi_observer.specs.declared.kinds.Snoop.{Snoop}
use Rattle.chi_observer.specs.declared.flits.Due.{Due}
use Rattle.chi_observer.specs.declared.flits.Due.TheVariants.{Nothing, Completion, Resending, SureCompletion, WriteData, Acknowledgement}
use Rattle.chi_observer.specs.Rules.{is_resending}
use Rattle.chi_copies.specs.Worlds.{Public}
use Rattle.chi_copies.specs.Observed.{Observed}
use Rattle.chi_copies.specs.Runs.{seen}
use Rattle.chi_copies.specs.Begun.{Begun, begun_with}
use Rattle.chi_copies.specs.Tails.{LeavesOnly, begun_by, flits_of}
use Rattle.chi_copies.specs.Unjudged.{is_outstanding, is_snooped, may_be_asked, one_if, outstanding_of, outstanding_in, sum_below, OverLeavesRetried, OverBegunLeavesOnly}
use Rattle.chi_copies.proofs.Finite.{no}
use Rattle.chi_copies.proofs.Put.{split}
use Rattle.chi_copies.proofs.Runs.{accepted, exact}
use Rattle.chi_copies.proofs.TailFollows.{Follows}
use Rattle.chi_copies.proofs.TailRuns.{follows_tail}

first_none : (a b : ℕ) → a + b ≡ 0 → a ≡ 0
first_none a b e = omega arith

second_none : (a b : ℕ) → a + b ≡ 0 → b ≡ 0
second_none a b e = omega arith

lower : (m k : ℕ) → m < suc k → m ≢ k → m < k
lower m k l apart = search (rules, arith)

none_each : (k : ℕ) (f : ℕ → ℕ) → sum_below k f ≡ 0 → (m : ℕ) → m < k → f m ≡ 0
none_each zero f e m l = absurd (search (rules, arith))
none_each (suc k) f e m l = split (λ m. m < suc k → f m ≡ 0) k (λ l. first_none (f k) (sum_below k f) e) (λ m apart l. none_each k f (second_none (f k) (sum_below k f) e) m (lower m k l apart)) m l

-- OF ONE AGENT
none_false : (b : Bool) → one_if b ≡ 0 → b ≡ false
none_false true e = search (rules, arith)
none_false false e = refl

is_none : (q : Option Snoop) → is_snooped q ≡ false → q ≡ None
is_none None e = refl
is_none (Some snoop) e = no (sym e)

is_nothing : (d : Due) → is_outstanding d ≡ false → is_resending d ≡ false → d ≡ Nothing
is_nothing Nothing e r = refl
is_nothing (Completion kind) e r = no (sym e)
is_nothing (Resending kind) e r = no (sym r)
is_nothing (SureCompletion kind) e r = no (sym e)
is_nothing (WriteData kind) e r = no (sym e)
is_nothing Acknowledgement e r = no (sym e)

asked_false : (a b : Bool) → (a || b) ≡ false → a ≡ false
asked_false true b e = e
asked_false false b e = refl

other_false : (a b : Bool) → (a || b) ≡ false → b ≡ false
other_false true b e = no (sym e)
other_false false b e = e

due_none : (asked : Bool) (d : Due) (q : Option Snoop) → outstanding_of asked d q ≡ 0 → (asked || is_resending d) ≡ false → d ≡ Nothing
due_none true d q e r = no (sym r)
due_none false d q e r = is_nothing d (none_false (is_outstanding d) (first_none (one_if (is_outstanding d)) (one_if (is_snooped q)) e)) r

snoop_none : (asked : Bool) (d : Due) (q : Option Snoop) → outstanding_of asked d q ≡ 0 → q ≡ None
snoop_none asked d q e = is_none q (none_false (is_snooped q) (second_none (one_if (not asked && is_outstanding d)) (one_if (is_snooped q)) e))

-- OF A LINE
pub over_leaves : OverLeavesRetried
over_leaves p e = record {
  requests = λ n low r. due_none false (p.due n) (p.snooped n) (none_each 32 (λ n. outstanding_of false (p.due n) (p.snooped n)) e n low) r;
  snoops = λ n low r. snoop_none false (p.due n) (p.snooped n) (none_each 32 (λ n. outstanding_of false (p.due n) (p.snooped n)) e n low);
}

over_follows : (o : Observed) (shown : ℕ → Bool) (b : Begun) → Follows o shown b → outstanding_in b.asked b.seen.public ≡ 0 → LeavesOnly (may_be_asked b.asked b.seen.public) b.snooped o.public
over_follows o shown b follows e = record {
  requests = λ n low r. sym ((follows.agents n low).due (asked_false (b.asked n) _ r)) ∙ due_none (b.asked n) (b.seen.public.due n) (b.seen.public.snooped n) (each n low) r;
  snoops = λ n low r. sym ((follows.agents n low).snooped r) ∙ snoop_none (b.asked n) (b.seen.public.due n) (b.seen.public.snooped n) (each n low);
}
  where
    each : (n : ℕ) → n < 32 → outstanding_of (b.asked n) (b.seen.public.due n) (b.seen.public.snooped n) ≡ 0
    each n low = none_each 32 (λ n. outstanding_of (b.asked n) (b.seen.public.due n) (b.seen.public.snooped n)) e n low

pub over_begun_leaves : OverBegunLeavesOnly
over_begun_leaves z asked left cs m r e =
    let es = flits_of cs ++ r.before in
    let a = accepted z es r.legal in
    let b = begun_by (begun_with z asked left) cs in
    subst (λ (p : Public). LeavesOnly (may_be_asked b.asked b.seen.public) b.snooped p) (exact z es a).public (over_follows (seen z es) _ b (follows_tail z asked left r.before r.leaves cs m a).1 e)
