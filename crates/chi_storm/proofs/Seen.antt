-- One slice more that was looked at.
use Rattle.std.proofs.Common.{◌≡◌, ◌↔◌, ℕ, ◌+◌, ◌<◌, ◌⊎◌, inl, inr, List, [], ◌∷◌, ◌++◌, Option, Some, None, Bool, true, false, ◌&&◌, All, length, length-append, refl, sym, subst, arith}
use Rattle.std.specs.Prelude.{IsTrue}
use Rattle.std.proofs.lemmas.Bool.{and_from, and_parts, lt-ltb}
use Rattle.chi_slice.specs.Words.{Sizes}
use Rattle.chi_slice.specs.Slice.{SliceState}
use Rattle.chi_node.specs.Agree.{Agree}
use Rattle.chi_node.specs.Node.{FoundAnother, IsLockRefusal, IsSliceOf, NodeState}
use Rattle.chi_node.specs.Requester.{RequesterState}
use Rattle.chi_flit.specs.declared.refusal.Refusal.{Refusal}
use Rattle.chi_flit.specs.declared.refusal.Refusal.TheVariants.{NotOpen, OutOfRange}
use Rattle.chi_storm.specs.Verdicts.{AgreeFrom, AgreesAt, SeenAt, SeenToAgree}

-- a slice of the node was seen
pub own_seen : (config : Sizes) (rs : List RequesterState) (i : ℕ) (s : SliceState) (agree : Bool) → IsSliceOf config i s → IsTrue agree ↔ All (Agree s) rs → SeenAt config rs i agree
own_seen config rs i s agree own verdict = (s, (λ t. record { own = own; agree = verdict.0 t }, λ seen. verdict.1 seen.agree))

-- another slice was found, or the line is outside the node
pub lock_refused : (n : NodeState) (rs : List RequesterState) (i : ℕ) (e : Refusal) → i < n.config.lines → ((Some e ≡ None) ⊎ IsLockRefusal n i (Some e)) → SeenAt n.config rs i false
lock_refused n rs i e inside (inl none) = absurd (cc none)
lock_refused n rs i OutOfRange inside (inr outside) = absurd (cc (lt-ltb _ _ inside, outside))
lock_refused n rs i NotOpen inside (inr found) = (found.1.slice, (λ t. absurd (cc t), λ seen. absurd (found.1.other seen.own)))
lock_refused n rs i other inside (inr none) = absurd none

pub none_seen : (config : Sizes) (rs : List RequesterState) → SeenToAgree 0 config rs true
none_seen config rs = record { slices = []; count = refl; agree = (λ t. tt, λ all. refl) }

-- one slice behind the others
push : (config : Sizes) (rs : List RequesterState) (first : ℕ) (ss : List SliceState) (s : SliceState) → AgreeFrom config rs first ss → AgreesAt config rs (first + length ss) s → AgreeFrom config rs first (ss ++ s ∷ [])
push config rs first [] s all one = let at : first + 0 ≡ first = omega arith in (subst (λ (n : ℕ). AgreesAt config rs n s) at one, tt)
push config rs first (x ∷ xs) s all one =
    let at : first + length (x ∷ xs) ≡ (first + 1) + length xs = omega arith in
    (all.0, push config rs (first + 1) xs s all.1 (subst (λ (n : ℕ). AgreesAt config rs n s) at one))

pull : (config : Sizes) (rs : List RequesterState) (first : ℕ) (ss : List SliceState) (s : SliceState) → AgreeFrom config rs first (ss ++ s ∷ []) → AgreeFrom config rs first ss × AgreesAt config rs (first + length ss) s
pull config rs first [] s all = let at : first ≡ first + 0 = omega arith in (tt, subst (λ (n : ℕ). AgreesAt config rs n s) at all.0)
pull config rs first (x ∷ xs) s all =
    let at : (first + 1) + length xs ≡ first + length (x ∷ xs) = omega arith in
    let rest = pull config rs (first + 1) xs s all.1 in
    ((all.0, rest.0), subst (λ (n : ℕ). AgreesAt config rs n s) at rest.1)

pub next_seen : (config : Sizes) (rs : List RequesterState) (n : ℕ) (found here : Bool) → SeenToAgree n config rs found → SeenAt config rs n here → SeenToAgree (n + 1) config rs (found && here)
next_seen config rs n found here seen one =
    let at : n ≡ 0 + length seen.slices = omega (arith, seen.count) in
    let to : AgreesAt config rs n one.0 → AgreesAt config rs (0 + length seen.slices) one.0 = λ h. subst (λ (k : ℕ). AgreesAt config rs k one.0) at h in
    let from : AgreesAt config rs (0 + length seen.slices) one.0 → AgreesAt config rs n one.0 = λ h. subst (λ (k : ℕ). AgreesAt config rs k one.0) (sym at) h in
    record {
      slices = seen.slices ++ one.0 ∷ [];
      count = omega (arith, length-append seen.slices (one.0 ∷ []), seen.count);
      agree = (
        λ t. let both = and_parts found here t in push config rs 0 seen.slices one.0 (seen.agree.0 both.0) (to (one.1.0 both.1)),
        λ all. let both = pull config rs 0 seen.slices one.0 all in and_from found here (seen.agree.1 both.0) (one.1.1 (from both.1)),
      );
    }
