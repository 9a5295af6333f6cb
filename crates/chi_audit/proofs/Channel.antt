-- Each step of the channel keeps its rule.
use Rattle.std.proofs.Common.{◌≡◌, ◌≢◌, ℕ, zero, suc, ◌+◌, ◌≤◌, Bool, true, false, ◌==◌, nat_le, List, [], ◌∷◌, ◌++◌, set, length, eq-eqb, ne_eqb, sym, refl, ap, ◌∙◌, subst, true≢false, ⊎_elim, arith}
use Rattle.std.specs.Prelude.{⊤, Option, Some, None, IsSome, if◌then◌else◌}
use Rattle.std.proofs.lemmas.Bool.{le-leb, lt-leb}
use mathlib.Core.Logic.{dite}
use native.Mathlib.Decide.{dec_le, ℕ_discrete}
use mathlib.Core.Option.{some, some-injective, some-ne-none}
use lib.ListN.{get_elem?}
use Rattle.atomic_table.proofs.Lists.{at_set, at_snoc}
use Rattle.crossbeam_channel.specs.Fifo.{Pushes, Pops, Forks, Merges, Learns}
use Rattle.chi_audit.specs.declared.reports.Report.{Report}
use Rattle.chi_audit.specs.declared.report_view.ReportView.{ReportView}
use Rattle.chi_audit.specs.Boxes.{opener, sender_view, teller_view, spent_view, one_if, times, there, may_tell, report_total, AreSent, OneEach, first_report, IsTaken, IsOver}

total_set : (a : ℕ) (vs : List ReportView) (i : ℕ) (v w : ReportView) → get_elem? vs i ≡ some v → report_total a (set vs i w) + may_tell a v ≡ report_total a vs + may_tell a w
total_set a [] i v w e = absurd (some-ne-none v (sym e))
total_set a (x ∷ xs) zero v w e = let is : may_tell a x ≡ may_tell a v = ap (may_tell a) (some-injective x v e) in omega arith
total_set a (x ∷ xs) (suc i) v w e = let rest = total_set a xs i v w e in omega arith

total_snoc : (a : ℕ) (vs : List ReportView) (w : ReportView) → report_total a (vs ++ w ∷ []) ≡ report_total a vs + may_tell a w
total_snoc a [] w = omega arith
total_snoc a (x ∷ xs) w = let rest = total_snoc a xs w in omega arith

times_snoc : (a : ℕ) (rs : List Report) (r : Report) → times a (rs ++ r ∷ []) ≡ times a rs + one_if (r.agent.0 == a)
times_snoc a [] r = omega arith
times_snoc a (x ∷ xs) r = let rest = times_snoc a xs r in omega arith

one_le : (b : Bool) → one_if b ≤ 1
one_le true = omega arith
one_le false = omega arith

above : (n a : ℕ) → one_if (nat_le n a) ≡ one_if (nat_le (n + 1) a) + one_if (n == a)
above n a = dite (ℕ_discrete n a)
    (λ same.
    let this : one_if (nat_le n a) ≡ 1 = ap one_if (le-leb n a (omega arith)) in
    let next : one_if (nat_le (n + 1) a) ≡ 0 = ap one_if (lt-leb (n + 1) a (omega arith)) in
    let here : one_if (n == a) ≡ 1 = ap one_if (eq-eqb n a same) in
    omega arith)
    (λ other.
    let here : one_if (n == a) ≡ 0 = ap one_if (ne_eqb n a other) in
    dite (dec_le n a)
    (λ below.
    let this : one_if (nat_le n a) ≡ 1 = ap one_if (le-leb n a below) in
    let next : one_if (nat_le (n + 1) a) ≡ 1 = ap one_if (le-leb (n + 1) a (omega arith)) in
    omega arith)
    (λ over.
    let this : one_if (nat_le n a) ≡ 0 = ap one_if (lt-leb n a (omega arith)) in
    let next : one_if (nat_le (n + 1) a) ≡ 0 = ap one_if (lt-leb (n + 1) a (omega arith)) in
    omega arith))

-- what the rule says of one pass
abbrev Fits : (ℕ → Option Report) → List Report → ℕ → ℕ → ReportView → Type 0
Fits sent got seat pass v = (v.opens ≡ true → (pass ≡ seat) × (v.got ≡ got)) × AreSent sent v.told

fits_set : (sent : ℕ → Option Report) (got : List Report) (seat : ℕ) (views : List ReportView) (by : ℕ) (w : ReportView)
    → ((j : ℕ) (u : ReportView) → j ≢ by → get_elem? views j ≡ some u → Fits sent got seat j u) → Fits sent got seat by w
    → (j : ℕ) (u : ReportView) → get_elem? (set views by w) j ≡ some u → Fits sent got seat j u
fits_set sent got seat views by w others mine j u e =
    ⊎_elim
    (λ (x : (j ≡ by) × (w ≡ u)). subst (λ (y : ℕ × ReportView). Fits sent got seat y.0 y.1) (λ i. (sym x.0 i, x.1 i)) mine)
    (λ (x : (j ≢ by) × (get_elem? views j ≡ some u)). others j u x.0 x.1)
    (at_set views by j w u e)

-- the rule, by what it says of each pass
keeps : (items : List Report) (views : List ReportView) (sent : ℕ → Option Report) (got : List Report) (seat : ℕ)
    → ((a : ℕ) → report_total a views + there (sent a) ≤ 1) → ((a : ℕ) → times a items + times a got ≡ there (sent a)) → AreSent sent items → AreSent sent got
    → ((j : ℕ) (u : ReportView) → get_elem? views j ≡ some u → Fits sent got seat j u) → OneEach items views
keeps items views sent got seat one each queued received fits = record {
  sent = sent;
  got = got;
  seat = seat;
  one = one;
  each = each;
  queued = queued;
  received = received;
  reader = λ j u e. (fits j u e).0;
  known = λ j u e. (fits j u e).1;
}

sent_snoc : (sent : ℕ → Option Report) (xs : List Report) (r : Report) → AreSent sent xs → sent r.agent.0 ≡ Some r → AreSent sent (xs ++ r ∷ [])
sent_snoc sent [] r all is = (is, tt)
sent_snoc sent (x ∷ xs) r all is = (all.0, sent_snoc sent xs r all.1 is)

sent_append : (sent : ℕ → Option Report) (xs ys : List Report) → AreSent sent xs → AreSent sent ys → AreSent sent (xs ++ ys)
sent_append sent [] ys all more = more
sent_append sent (x ∷ xs) ys all more = (all.0, sent_append sent xs ys all.1 more)

-- one report more in the map
abbrev put : (ℕ → Option Report) → Report → ℕ → Option Report
put sent r a = if r.agent.0 == a then Some r else sent a

put_here : (sent : ℕ → Option Report) (r : Report) → put sent r r.agent.0 ≡ Some r
put_here sent r = ap (λ (b : Bool). if b then Some r else sent r.agent.0) (eq-eqb r.agent.0 r.agent.0 refl)

none_there : (o : Option Report) → there o ≤ 0 → o ≡ None
none_there None few = refl
none_there (Some r) few = absurd (omega (arith, few))

none_some : {A : Type 0} (x : A) (o : Option A) → o ≡ None → o ≡ Some x → ⊥
none_some x o none is = true≢false (sym (ap Rattle.std.specs.Prelude.is_some (sym none ∙ is)))

put_there : (sent : ℕ → Option Report) (r : Report) (a : ℕ) → sent r.agent.0 ≡ None → there (put sent r a) ≡ one_if (r.agent.0 == a) + there (sent a)
put_there sent r a none = dite (ℕ_discrete r.agent.0 a)
    (λ same.
    let here : one_if (r.agent.0 == a) ≡ 1 = ap one_if (eq-eqb r.agent.0 a same) in
    let now : there (put sent r a) ≡ 1 = ap (λ (b : Bool). there (if b then Some r else sent a)) (eq-eqb r.agent.0 a same) in
    let was : there (sent a) ≡ 0 = ap there (subst (λ (k : ℕ). sent k ≡ None) same none) in
    omega arith)
    (λ other.
    let here : one_if (r.agent.0 == a) ≡ 0 = ap one_if (ne_eqb r.agent.0 a other) in
    let now : there (put sent r a) ≡ there (sent a) = ap (λ (b : Bool). there (if b then Some r else sent a)) (ne_eqb r.agent.0 a other) in
    omega arith)

-- what was sent before was sent still
stays : (sent : ℕ → Option Report) (r : Report) → sent r.agent.0 ≡ None → (xs : List Report) → AreSent sent xs → AreSent (put sent r) xs
stays sent r none [] all = tt
stays sent r none (x ∷ xs) all = (
  dite (ℕ_discrete r.agent.0 x.agent.0)
      (λ same. absurd (none_some x (sent x.agent.0) (subst (λ (k : ℕ). sent k ≡ None) same none) all.0))
      (λ other. ap (λ (b : Bool). if b then Some r else sent x.agent.0) (ne_eqb r.agent.0 x.agent.0 other) ∙ all.0),
  stays sent r none xs all.1,
)

pub begins : OneEach [] (opener 0 ∷ [])
begins = keeps [] (opener 0 ∷ []) (λ _. None) [] 0 (λ a. let few : one_if (nat_le 0 a) ≤ 1 = one_le (nat_le 0 a) in omega arith) (λ a. refl) tt tt only
  where
    only : (j : ℕ) (u : ReportView) → get_elem? (opener 0 ∷ []) j ≡ some u → Fits (λ _. None) [] 0 j u
    only zero u e = subst (Fits (λ _. None) [] 0 0) (some-injective (opener 0) u e) ((λ _. (refl, refl)), tt)
    only (suc j) u e = absurd (some-ne-none u (sym e))

pub sends : (n pass : ℕ) (v : ReportView) (r : Report) → v ≡ sender_view r.agent.0 → Pushes OneEach n pass v r (λ w. w ≡ teller_view r)
sends n pass v r is items views room holds at =
    let w : ReportView = teller_view r in
    let own : (a : ℕ) → may_tell a v ≡ one_if (r.agent.0 == a) + 0 = λ a. ap (may_tell a) is in
    let unsent : holds.sent r.agent.0 ≡ None = none_there (holds.sent r.agent.0)
    (let kept = total_set r.agent.0 views pass v w at in
    let mine = own r.agent.0 in
    let here : one_if (r.agent.0 == r.agent.0) ≡ 1 = ap one_if (eq-eqb r.agent.0 r.agent.0 refl) in
    let none : may_tell r.agent.0 w ≡ 0 = refl in
    let few = holds.one r.agent.0 in
    omega arith) in
    let sent : ℕ → Option Report = put holds.sent r in (
      w,
      keeps (items ++ r ∷ []) (set views pass w) sent holds.got holds.seat
          (λ a.
          let kept = total_set a views pass v w at in
          let mine = own a in
          let none : may_tell a w ≡ 0 = refl in
          let more = put_there holds.sent r a unsent in
          let few = holds.one a in
          omega arith)
          (λ a.
          let before = holds.each a in
          let more = times_snoc a items r in
          let now = put_there holds.sent r a unsent in
          omega arith)
          (sent_snoc sent items r (stays holds.sent r unsent items holds.queued) (put_here holds.sent r))
          (stays holds.sent r unsent holds.got holds.received)
          (fits_set sent holds.got holds.seat views pass w
          (λ j u apart e. (holds.reader j u e, stays holds.sent r unsent u.told (holds.known j u e)))
          ((λ k. absurd (true≢false (sym k))), (put_here holds.sent r, tt))),
      refl,
    )

-- a report that was sent is the one that is told
as_told : (sent : ℕ → Option Report) (a : ℕ) (told : List Report) (t : Report) → AreSent sent told → first_report a told ≡ Some t → sent a ≡ Some t
as_told sent a [] t all e = absurd (none_some t None refl e)
as_told sent a (x ∷ xs) t all e = dite (ℕ_discrete x.agent.0 a)
    (λ same. subst (λ (k : ℕ). sent k ≡ Some x) same all.0 ∙ (sym (ap (λ (b : Bool). if b then Some x else first_report a xs) (eq-eqb x.agent.0 a same)) ∙ e))
    (λ other. as_told sent a xs t all.1 (sym (ap (λ (b : Bool). if b then Some x else first_report a xs) (ne_eqb x.agent.0 a other)) ∙ e))

some_same : (x y : Report) → Some x ≡ Some y → x ≡ y
some_same x y e = ap (value_or x) e
  where
    value_or : Report → Option Report → Report
    value_or d None = d
    value_or d (Some z) = z

pub receives : (pass : ℕ) (v : ReportView) → v.opens ≡ true → Pops OneEach pass v (IsTaken v)
receives pass v opens x items views holds at =
    let w : ReportView = record v { got = v.got ++ x ∷ [] } in
    let own = holds.reader pass v at opens in
    let got : List Report = holds.got ++ x ∷ [] in (
      w,
      keeps items (set views pass w) holds.sent got holds.seat
          (λ a.
          let kept = total_set a views pass v w at in
          let same : may_tell a w ≡ may_tell a v = refl in
          let few = holds.one a in
          omega arith)
          (λ a.
          let before : (one_if (x.agent.0 == a) + times a items) + times a holds.got ≡ there (holds.sent a) = holds.each a in
          let more = times_snoc a holds.got x in
          omega arith)
          holds.queued.1
          (sent_snoc holds.sent holds.got x holds.received holds.queued.0)
          (fits_set holds.sent got holds.seat views pass w
          (λ j u apart e. ((λ k. absurd (apart ((holds.reader j u e k).0 ∙ sym own.0))), holds.known j u e))
          ((λ k. (own.0, ap (λ (rs : List Report). rs ++ x ∷ []) own.1)), holds.known pass v at)),
      record {
        view = refl;
        as_told = λ t e. some_same x t (sym holds.queued.0 ∙ as_told holds.sent x.agent.0 v.told t (holds.known pass v at) e);
      },
    )

-- where the agent's reports in the list are one, its first one is that which it sent
first_sent : (sent : ℕ → Option Report) (a : ℕ) (got : List Report) (t : Report) → AreSent sent got → times a got ≡ 1 → sent a ≡ Some t → first_report a got ≡ Some t
first_sent sent a [] t all count is = absurd (omega (arith, count))
first_sent sent a (x ∷ xs) t all count is = dite (ℕ_discrete x.agent.0 a)
    (λ same. ap (λ (b : Bool). if b then Some x else first_report a xs) (eq-eqb x.agent.0 a same) ∙ (sym (subst (λ (k : ℕ). sent k ≡ Some x) same all.0) ∙ is))
    (λ other. ap (λ (b : Bool). if b then Some x else first_report a xs) (ne_eqb x.agent.0 a other)
    ∙ first_sent sent a xs t all.1 (let none : one_if (x.agent.0 == a) ≡ 0 = ap one_if (ne_eqb x.agent.0 a other) in omega (arith, count)) is)

none_of : (a : ℕ) (items : List Report) → length items ≡ 0 → times a items ≡ 0
none_of a [] empty = refl
none_of a (x ∷ xs) empty = absurd (omega (arith, empty))

pub learns_over : (pass : ℕ) (v : ReportView) → v.opens ≡ true → Learns OneEach pass v (IsOver v)
learns_over pass v opens items views holds at empty a t told =
    let own = holds.reader pass v at opens in
    let is : holds.sent a ≡ Some t = as_told holds.sent a v.told t (holds.known pass v at) told in
    let count : times a v.got ≡ 1 =
    (let before = holds.each a in
    let here : there (holds.sent a) ≡ 1 = ap there is in
    let none : times a items ≡ 0 = none_of a items empty in
    let mine : times a v.got ≡ times a holds.got = ap (times a) own.1 in
    omega arith) in
    first_sent holds.sent a v.got t (subst (AreSent holds.sent) (sym own.1) holds.received) count is

pub learns : (pass : ℕ) (v : ReportView) → Learns OneEach pass v (λ items. ⊤)
learns pass v items views holds at = tt

pub forks : (pass : ℕ) (v : ReportView) (n : ℕ) → v ≡ opener n → Forks OneEach pass v (opener (v.from + 1)) (sender_view v.from)
forks pass v n is items views holds at =
    let left : ReportView = opener (v.from + 1) in
    let right : ReportView = sender_view v.from in
    let own = holds.reader pass v at (ap (λ (u : ReportView). u.opens) is) in
    keeps items (set views pass left ++ right ∷ []) holds.sent holds.got holds.seat
    (λ a.
    let kept = total_set a views pass v left at in
    let last = total_snoc a (set views pass left) right in
    let parts : may_tell a v ≡ may_tell a left + may_tell a right = subst (λ (u : ReportView). may_tell a u ≡ may_tell a (opener (u.from + 1)) + may_tell a (sender_view u.from)) (sym is) (let step = above n a in omega arith) in
    let few = holds.one a in
    omega arith)
    holds.each holds.queued holds.received
    (λ j u e. ⊎_elim
    (λ was. fits_set holds.sent holds.got holds.seat views pass left
    (λ i z apart at_i. (holds.reader i z at_i, holds.known i z at_i))
    ((λ k. (own.0, sym (ap (λ (z : ReportView). z.got) is) ∙ own.1)), tt) j u was)
    (λ (same : right ≡ u). subst (Fits holds.sent holds.got holds.seat j) same ((λ k. absurd (true≢false (sym k))), tt))
    (at_snoc (set views pass left) right u j e))

pub merges : (pass : ℕ) (v : ReportView) (other : ℕ) (w : ReportView) (r : Report) → w ≡ teller_view r
    → Merges OneEach pass v other w (record v { told = v.told ++ w.told }) spent_view
merges pass v other w r is items views holds at apart there_w =
    let both : ReportView = record v { told = v.told ++ w.told } in
    let was : get_elem? views other ≡ some w = ⊎_elim (λ (x : (other ≡ pass) × (both ≡ w)). absurd (apart x.0)) (λ (x : (other ≢ pass) × (get_elem? views other ≡ some w)). x.1) (at_set views pass other both w there_w) in
    let first : (j : ℕ) (u : ReportView) → get_elem? (set views pass both) j ≡ some u → Fits holds.sent holds.got holds.seat j u =
    fits_set holds.sent holds.got holds.seat views pass both (λ j u away e. (holds.reader j u e, holds.known j u e))
    (holds.reader pass v at, sent_append holds.sent v.told w.told (holds.known pass v at) (holds.known other w was)) in
    keeps items (set (set views pass both) other spent_view) holds.sent holds.got holds.seat
    (λ a.
    let kept = total_set a views pass v both at in
    let same : may_tell a both ≡ may_tell a v = refl in
    let next = total_set a (set views pass both) other w spent_view there_w in
    let gone : may_tell a spent_view ≡ 0 = refl in
    let few = holds.one a in
    omega arith)
    holds.each holds.queued holds.received
    (fits_set holds.sent holds.got holds.seat (set views pass both) other spent_view
    (λ j u away e. first j u e)
    ((λ k. absurd (true≢false (sym k))), tt))
