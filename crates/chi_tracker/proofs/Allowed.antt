-- Each kind of step keeps the sums of the rule, and what its port learns of the whole.
use Rattle.std.proofs.Common.{◌≡◌, ◌≢◌, ℕ, ◌+◌, ◌*◌, ◌/◌, ◌%◌, ◌^◌, ◌<◌, ◌≤◌, List, set, slice_index, bit_and, bit_or, Option, None, IfSome, refl, sym, ap, ◌∙◌, subst, arith}
use mathlib.Core.Option.{some}
use mathlib.Core.Option as maybe
use lib.ListN.{get_elem?}
use lib.Seq.{set-get_or}
use Rattle.std.specs.Int.{bit_at}
use Rattle.std.proofs.lemmas.Nat.Bits.{bit_at_and}
use Rattle.chi_tracker.specs.declared.shape.Shape.{Shape}
use Rattle.chi_tracker.specs.declared.view.SeatView.{SeatView}
use Rattle.chi_tracker.specs.Sums.{one_more, all_but, set_at}
use Rattle.chi_tracker.specs.Shape.{IsOf, owed_in}
use Rattle.chi_tracker.specs.Words.{promise_word, owed_word, c_of, p_of, o_of}
use Rattle.chi_tracker.specs.Views.{PortView, Duty, has}
use Rattle.chi_tracker.specs.Rule.{IsSound, Fits, TrackerRule}
use Rattle.chi_tracker.proofs.Places.{clear_place}
use Rattle.chi_tracker.specs.declared.step.AtomicStep.{AtomicStep}
use Rattle.chi_tracker.specs.declared.step.AtomicStep.TheVariants.{Claim, Free, Note, Owe, Look, Settle, Promise, See, Spend, Return}
use Rattle.chi_tracker.specs.Steps.{one, first_clear, word_of_step, written, effect, May}
use Rattle.chi_tracker.proofs.Addition.{weigh-term, raised_here, raised_else}
use Rattle.chi_tracker.proofs.BitLaws.{with_here, with_else, but_here, but_else}
use Rattle.chi_tracker.proofs.Entries.{in_range}
use Rattle.chi_tracker.proofs.Moves.{only_mine}
use Rattle.chi_tracker.proofs.Written.{c_here, c_apart, p_here, p_apart, p_other, o_here, o_other, rule_c, rule_p, rule_o}
use Rattle.chi_tracker.proofs.Fits.{claims_fit, frees_fit, settles_fit, paid, not_held, spend_due, spends_fit, promises_fit, notes_fit, owed_fit, owes_fit, sweeps_fit, sees_fit}

abbrev Homes : Type 0
Homes = List (maybe.Option ℕ)

-- what a port learns of the whole by a step that found the word r
abbrev pub Learns : AtomicStep → ℕ → PortView → Type 0
Learns (Claim t e) r p = has e p ≤ bit_at r (e % 64)
Learns (Note t) r p = owed_in t r + slice_index p.spent t + slice_index p.returned t ≤ slice_index p.retries t
Learns (See i) r p = (b : ℕ) → b < 64 → bit_at (slice_index p.seen i) b ≤ bit_at r b
Learns (Spend t e) r p = (has e p ≡ 0) × (slice_index p.spent t + slice_index p.returned t < slice_index p.retries t)
Learns (Return t e) r p = (has e p ≡ 0) × (slice_index p.spent t + slice_index p.returned t < slice_index p.retries t)
Learns other r p = Unit {0}

module _ (key : Shape) (id : ℕ) (x : PortView) where
  abbrev Rule : List ℕ → Homes → List SeatView → Type 0
  Rule ws homes vs = TrackerRule key (record { words = ws; homes = homes; views = vs })

  -- a step keeps the rule, and tells what it shows
  abbrev pub Keeps : AtomicStep → Type 0
  Keeps k = (ws : List ℕ) (homes : Homes) (vs : List SeatView) → Rule ws homes vs → get_elem? vs id ≡ some (one x) → IsSound key x
      → Rule (set ws (word_of_step k x.who) (written k (slice_index ws (word_of_step k x.who)))) homes (set vs id (one (effect k (slice_index ws (word_of_step k x.who)) x))) × Learns k (slice_index ws (word_of_step k x.who)) x

  pub claim_keeps : (t e : ℕ) → May (Claim t e) x → Keeps (Claim t e)
  claim_keeps t e may ws homes vs rule at sound =
      let of_key : IsOf key t e = subst (λ (z : Shape). IsOf z t e) sound.shape_is may.1 in
      let l : e < 256 = omega (arith, of_key.1, in_range key t may.0 rule.entries) in let duty = may.2 in
      let r : ℕ = slice_index ws (e / 64) in let r' : ℕ = bit_or r (2 ^ (e % 64)) in
      let fits = claims_fit key (c_of ws) (c_of (set ws (e / 64) r')) (p_of ws) (o_of ws) vs id x rule.fits at duty t e l (c_here ws e r' rule.words l ∙ with_here r (e % 64))
      (c_apart ws e r' rule.words l (λ b lb d. with_else r (e % 64) b d)) in
      let held = weigh-term (has e) vs id x at in let place = rule.fits.place e l in
      (rule_c key ws homes _ rule.words rule.agents rule.entries e r' l fits, omega arith)

  pub free_keeps : (e : ℕ) → May (Free e) x → Keeps (Free e)
  free_keeps e may ws homes vs rule at sound =
      let l = may.0 in let held = may.1 in let duty = may.2 in
      let r : ℕ = slice_index ws (e / 64) in let r' : ℕ = bit_and r (all_but (e % 64)) in
      let fits = frees_fit key (c_of ws) (c_of (set ws (e / 64) r')) (p_of ws) (o_of ws) vs id x rule.fits at duty e l held (c_here ws e r' rule.words l ∙ but_here r (e % 64) (omega arith))
      (c_apart ws e r' rule.words l (λ b lb d. but_else r (e % 64) b (omega arith) lb d)) in
      (rule_c key ws homes _ rule.words rule.agents rule.entries e r' l fits, tt)

  -- the word O[m] at a load
  loaded_o : (ws : List ℕ) (homes : Homes) (vs vs' : List SeatView) (i : ℕ) → Rule ws homes vs → Fits key (c_of ws) (p_of ws) (o_of ws) vs' → Rule (set ws i (slice_index ws i)) homes vs'
  loaded_o ws homes vs vs' i rule fits = subst (λ (z : List ℕ). Rule z homes vs') (sym (set-get_or ws i 0)) (record { words = rule.words; agents = rule.agents; entries = rule.entries; fits = fits })

  pub note_keeps : (t : ℕ) → May (Note t) x → Keeps (Note t)
  note_keeps t may ws homes vs rule at sound =
      let lt = may.0 in let clear : (r : ℕ) → owed_in t r + slice_index x.spent t + slice_index x.returned t ≤ slice_index x.retries t → bit_at r (first_clear (8 * t) r) ≡ 0 = λ r few. (clear_place t r (omega (arith, may.1, few))).0 in
      let few = owed_fit key (c_of ws) (p_of ws) (o_of ws) vs id x rule.fits at t lt in
      let fits = notes_fit key (c_of ws) (p_of ws) (o_of ws) vs id x rule.fits at t (clear (o_of ws x.who) few) in
      (loaded_o ws homes vs _ (owed_word x.who) rule fits, few)

  pub sweep_keeps : (t m : ℕ) → May (Look t m) x → Keeps (Look t m)
  sweep_keeps t m may ws homes vs rule at sound =
      let r : ℕ = slice_index ws (owed_word m) in
      let fits = sweeps_fit key (c_of ws) (p_of ws) (o_of ws) vs id x rule.fits at t m r in
      (loaded_o ws homes vs _ (owed_word m) rule fits, tt)

  pub owe_keeps : (k : ℕ) → May (Owe k) x → Keeps (Owe k)
  owe_keeps k may ws homes vs rule at sound =
      let noted = may.0 in let l = may.1 in
      let lm : x.who < 8 = omega (arith, sound.who_in, rule.agents) in
      let r : ℕ = slice_index ws (owed_word x.who) in let r' : ℕ = bit_or r (2 ^ k) in let is = o_here ws x.who r' rule.words lm in
      let fits = owes_fit key (c_of ws) (p_of ws) (o_of ws) vs id x rule.fits at (o_of (set ws (owed_word x.who) r')) k noted l (ap (λ z. bit_at z k) is ∙ with_here r k)
      (λ i d. ap (λ z. bit_at z i) is ∙ with_else r k i d) (λ n ln d. o_other ws x.who r' rule.words lm n d) in
      (rule_o key ws homes _ rule.words rule.agents rule.entries x.who r' lm fits, tt)

  pub settle_keeps : (e m k : ℕ) → May (Settle e m k) x → Keeps (Settle e m k)
  settle_keeps e m k may ws homes vs rule at sound =
      let la = may.0 in let lb = may.1 in let held = may.2 in let duty = may.3 in let is_of = may.4 in
      let la' : m < key.agents = subst (λ (z : Shape). m < z.agents) sound.shape_is la in let lm : m < 8 = omega (arith, la', rule.agents) in
      let r : ℕ = slice_index ws (owed_word m) in let r' : ℕ = bit_and r (all_but k) in let is = o_here ws m r' rule.words lm in
      let fits = settles_fit key (c_of ws) (c_of ws) (p_of ws) (o_of ws) vs id x rule.fits at duty (o_of (set ws (owed_word m) r')) m k e rule.entries la' lb held (subst (λ (z : Shape). IsOf z (k / 8) e) sound.shape_is is_of)
      (ap (λ z. bit_at z k) is ∙ but_here r k (omega arith)) (λ i li d. ap (λ z. bit_at z i) is ∙ but_else r k i (omega arith) li d)
      (λ i. let h = bit_at_and r (all_but k) i in let g = ap (λ z. bit_at z i) is in omega arith) (λ n ln d. o_other ws m r' rule.words lm n d) (bit_at r k) refl in
      (rule_o key ws homes _ rule.words rule.agents rule.entries m r' lm fits, tt)

  pub promise_keeps : (e m : ℕ) → May (Promise e m) x → Keeps (Promise e m)
  promise_keeps e m may ws homes vs rule at sound =
      let d = may.0 in let duty = may.1 in let to = may.2 in let entry = may.3 in
      let din : (d.to < key.agents) × (d.kind < 4) × IsOf key d.kind d.entry × (has d.entry x ≡ 1) = subst (λ (z : Option Duty). IfSome z (λ d. (d.to < key.agents) × (d.kind < 4) × IsOf key d.kind d.entry × (has d.entry x ≡ 1))) duty sound.duty_in in
      let lm : m < 8 = omega (arith, din.0, rule.agents) in let le : e < 256 = omega (arith, din.2.1, in_range key d.kind din.1 rule.entries) in
      let i : ℕ = promise_word m (e / 64) in let r : ℕ = slice_index ws i in let r' : ℕ = bit_or r (2 ^ (e % 64)) in let p' : ℕ → ℕ → ℕ = p_of (set ws i r') in
      let here : p' m e ≡ 1 = p_here ws m e r' rule.words lm le ∙ with_here r (e % 64) in
      let apart : (j : ℕ) → j < 256 → j ≢ e → p' m j ≡ p_of ws m j = p_apart ws m e r' rule.words lm le (λ b lb f. with_else r (e % 64) b f) in
      let other : (n j : ℕ) → n < key.agents → n ≢ m → j < 256 → p' n j ≡ p_of ws n j = λ n j ln f lj. p_other ws m e r' rule.words lm le n j f lj in
      let fits = promises_fit key (c_of ws) (p_of ws) (o_of ws) vs id x rule.fits at p' d duty rule.entries (ap (λ z. p' z d.entry) to ∙ ap (p' m) entry ∙ here)
      (λ j lj f. ap (λ z. p' z j) to ∙ apart j lj (λ q. f (q ∙ sym entry)) ∙ ap (λ z. p_of ws z j) (sym to)) (λ n j ln f lj. other n j ln (λ q. f (q ∙ sym to)) lj) in
      (rule_p key ws homes _ rule.words rule.agents rule.entries m e r' lm le fits, tt)

  pub see_keeps : (k : ℕ) → May (See k) x → Keeps (See k)
  see_keeps k may ws homes vs rule at sound =
      let lb = may in
      let r : ℕ = slice_index ws (promise_word x.who k) in
      let fits = sees_fit key (c_of ws) (p_of ws) (o_of ws) vs id x rule.fits at k r (λ e le q. ap (λ z. bit_at (slice_index ws (promise_word x.who z)) (e % 64)) (sym q)) in (
        loaded_o ws homes vs _ (promise_word x.who k) rule fits,
        λ i li. let h = rule.fits.seen x.who (64 * k + i) sound.who_in (omega arith) in let g = only_mine x.who (λ z. set_at z.seen (64 * k + i)) vs id x at refl (rule.fits.one_port x.who sound.who_in) in
            let q : (64 * k + i) / 64 ≡ k = omega arith in let q' : (64 * k + i) % 64 ≡ i = omega arith in
            let b : set_at x.seen (64 * k + i) ≡ bit_at (slice_index x.seen k) i = ap (λ z. bit_at (slice_index x.seen z) ((64 * k + i) % 64)) q ∙ ap (bit_at (slice_index x.seen k)) q' in
            let f : p_of ws x.who (64 * k + i) ≡ bit_at r i = ap (λ z. bit_at (slice_index ws (promise_word x.who z)) ((64 * k + i) % 64)) q ∙ ap (bit_at r) q' in omega arith,
      )

  -- spend and return: the counts of the type, and what was seen
  module _ (t e : ℕ) (lt : t < 4) (duty : x.duty ≡ None) (is_of : IsOf x.shape t e) (seen : set_at x.seen e ≡ 1) (sp rt : List ℕ)
      (one_more : slice_index sp t + slice_index rt t ≡ slice_index x.spent t + slice_index x.returned t + 1)
      (same : (u : ℕ) → u ≢ t → slice_index sp u + slice_index rt u ≡ slice_index x.spent u + slice_index x.returned u)
      (ws : List ℕ) (homes : Homes) (vs : List SeatView) (rule : Rule ws homes vs) (at : get_elem? vs id ≡ some (one x)) (sound : IsSound key x) where
    abbrev cell : ℕ
    cell = promise_word x.who (e / 64)

    abbrev after : ℕ
    after = bit_and (slice_index ws cell) (all_but (e % 64))

    of_key : IsOf key t e
    of_key = subst (λ (z : Shape). IsOf z t e) sound.shape_is is_of

    le : e < 256
    le = omega (arith, of_key.1, in_range key t lt rule.entries)

    lm : x.who < 8
    lm = omega (arith, sound.who_in, rule.agents)

    here : p_of (set ws cell after) x.who e ≡ 0
    here = p_here ws x.who e after rule.words lm le ∙ but_here (slice_index ws cell) (e % 64) (omega arith)

    apart : (i : ℕ) → i < 256 → i ≢ e → p_of (set ws cell after) x.who i ≡ p_of ws x.who i
    apart = p_apart ws x.who e after rule.words lm le (λ b lb d. but_else (slice_index ws cell) (e % 64) b (omega arith) lb d)

    other : (n i : ℕ) → n < key.agents → n ≢ x.who → i < 256 → p_of (set ws cell after) n i ≡ p_of ws n i
    other n i ln d li = p_other ws x.who e after rule.words lm le n i d li

    paid_fits : Fits key (c_of ws) (p_of (set ws cell after)) (o_of ws) (set vs id (one (paid key (c_of ws) (c_of ws) (p_of ws) (o_of ws) vs id x rule.fits at duty (p_of (set ws cell after)) t e sp rt rule.entries lt le of_key seen here apart other one_more same)))
    paid_fits = spends_fit key (c_of ws) (c_of ws) (p_of ws) (o_of ws) vs id x rule.fits at duty (p_of (set ws cell after)) t e sp rt rule.entries lt le of_key seen here apart other one_more same

    paid_rule : Rule (set ws cell after) homes (set vs id (one (paid key (c_of ws) (c_of ws) (p_of ws) (o_of ws) vs id x rule.fits at duty (p_of (set ws cell after)) t e sp rt rule.entries lt le of_key seen here apart other one_more same)))
    paid_rule = rule_p key ws homes _ rule.words rule.agents rule.entries x.who e after lm le paid_fits

    spendable : (has e x ≡ 0) × (slice_index x.spent t + slice_index x.returned t < slice_index x.retries t)
    spendable = (
      not_held key (c_of ws) (c_of ws) (p_of ws) (o_of ws) vs id x rule.fits at duty (p_of (set ws cell after)) t e sp rt rule.entries lt le of_key seen here apart other one_more same,
      below_retries,
    )
      where
        below_retries : slice_index x.spent t + slice_index x.returned t < slice_index x.retries t
        below_retries = spend_due key (c_of ws) (c_of ws) (p_of ws) (o_of ws) vs id x rule.fits at duty (p_of (set ws cell after)) t e sp rt rule.entries lt le of_key seen here apart other one_more same

  pub spend_keeps : (t e : ℕ) → May (Spend t e) x → Keeps (Spend t e)
  spend_keeps t e may ws homes vs rule at sound =
      let lt = may.0 in let duty = may.1 in let is_of = may.2 in let seen = may.3 in
      let more : slice_index (one_more x.spent t) t + slice_index x.returned t ≡ slice_index x.spent t + slice_index x.returned t + 1 = omega (arith, raised_here x.spent t) in
      let same : (u : ℕ) → u ≢ t → slice_index (one_more x.spent t) u + slice_index x.returned u ≡ slice_index x.spent u + slice_index x.returned u = λ u d. omega (arith, raised_else x.spent t u d) in (
        paid_rule t e lt duty is_of seen (one_more x.spent t) x.returned more same ws homes vs rule at sound,
        spendable t e lt duty is_of seen (one_more x.spent t) x.returned more same ws homes vs rule at sound,
      )

  pub give_keeps : (t e : ℕ) → May (Return t e) x → Keeps (Return t e)
  give_keeps t e may ws homes vs rule at sound =
      let lt = may.0 in let duty = may.1 in let is_of = may.2 in let seen = may.3 in
      let more : slice_index x.spent t + slice_index (one_more x.returned t) t ≡ slice_index x.spent t + slice_index x.returned t + 1 = omega (arith, raised_here x.returned t) in
      let same : (u : ℕ) → u ≢ t → slice_index x.spent u + slice_index (one_more x.returned t) u ≡ slice_index x.spent u + slice_index x.returned u = λ u d. omega (arith, raised_else x.returned t u d) in (
        paid_rule t e lt duty is_of seen x.spent (one_more x.returned t) more same ws homes vs rule at sound,
        spendable t e lt duty is_of seen x.spent (one_more x.returned t) more same ws homes vs rule at sound,
      )

  pub keeps : (k : AtomicStep) → May k x → Keeps k
  keeps (Claim t e) may = claim_keeps t e may
  keeps (Free e) may = free_keeps e may
  keeps (Note t) may = note_keeps t may
  keeps (Owe k) may = owe_keeps k may
  keeps (Look t m) may = sweep_keeps t m may
  keeps (Settle e m k) may = settle_keeps e m k may
  keeps (Promise e m) may = promise_keeps e m may
  keeps (See k) may = see_keeps k may
  keeps (Spend t e) may = spend_keeps t e may
  keeps (Return t e) may = give_keeps t e may
