-- A line of the code whose trace begins in the middle is what is kept of it.
use Rattle.std.proofs.Common.{rules, arith, ◌≡◌, ◌⊎◌, inl, inr, ℕ, zero, suc, ◌+◌, ◌<◌, ◌≤◌, List, length, refl, sym, subst, ap, ◌∙◌, slice_index_or, slice_set}
use Rattle.std.proofs.Math.Path.{fun_ext}
use Rattle.std.proofs.lemmas.Bool.{eqb-true}
use Rattle.std.proofs.lemmas.List.{get_or_past, get_or-set_other}
use Rattle.std.proofs.lemmas.Grind.{get_or-set_at}
use Rattle.std.specs.Prelude.{replicate, nat_lt, Bool, true, false, ◌&&◌, ◌||◌, ◌==◌, not, Option, Some, None, if◌then◌else◌}
use Rattle.chi_observer.specs.declared.kinds.Snoop.{Snoop}
use Rattle.chi_observer.specs.declared.kinds.Snoop.TheVariants.{SnpOnce}
use Rattle.chi_observer.specs.declared.flits.Due.{Due}
use Rattle.chi_observer.specs.declared.flits.Due.TheVariants.{Nothing}
use Rattle.chi_observer.specs.declared.flits.Stores.{Stores}
use Rattle.chi_observer.specs.declared.flits.CacheFlit.{CacheFlit}
use Rattle.chi_observer.specs.declared.flits.HomeFlit.{HomeFlit}
use Rattle.chi_observer.specs.declared.flits.Flit.{Flit}
use Rattle.chi_observer.specs.Rules.{awaits_moment, due_after, due_granted, is_busy, is_due, needs_alone, needs_duty, overwrites, passes_duty, snooped_after, snooped_granted, tells_words}
use Rattle.chi_copies.specs.declared.begun.Begun.{Begun as BegunCode}
use Rattle.chi_copies.specs.declared.copies.Copies.{Copies as CopiesCode}
use Rattle.chi_copies.specs.declared.dues.DueCode.{DueCode}
use Rattle.chi_copies.specs.Copies.{Held, Copies, alike as alike_bool, image, same_held, shown_of}
use Rattle.chi_copies.specs.Dues.{due_is}
use Rattle.chi_copies.specs.Rules.{renews, slips}
use Rattle.chi_copies.specs.Sets.{members}
use Rattle.chi_copies.specs.Worlds.{all_below, put}
use Rattle.chi_copies.specs.Moments.{is_issue}
use Rattle.chi_copies.specs.Observed.{no_words, shown_all}
use Rattle.chi_copies.specs.Lines.{due_at, issues, may_at, nobody, nothing_due, others_may}
use Rattle.chi_copies.specs.Begun.{Begun, Behind, apart_from, apart_given, apart_sent, asked_after, asks, agent_in, behind_flit, behind_given, behind_sent, due_in, forgotten, got_begun, is_one, is_plain, is_shown, kept_behind, left_beside, left_over, may_be_left, may_be_moment, may_here, may_then, nothing_begun, begun_with, anyone, others_begun, others_sent, sent_begun, shown_then, some_apart, stand_beside, sure_given, sure_here, sure_sent, sure_then}
use Rattle.chi_copies.specs.BegunLines.{apart_beside, begun, behind_of, copies_at, dues_of, flags_of, left_over_code, no_copies, sets_of, shown_beside, shown_in, snoops_of, stands, sure_of}
use Rattle.chi_copies.proofs.Finite.{each_held, turned}
use Rattle.chi_copies.proofs.Put.{here, there, split, alike, unlike}
use Rattle.chi_copies.proofs.Sets.{alike_is, each_below, stay_is}
use Rattle.chi_copies.proofs.Lines.{all_same, high_is, low_is, past_by, same_or, set_is_put}

-- AGENTS
either_way : {P : Type 0} (n : ℕ) → (n < 32 → P) → (32 ≤ n → P) → (n < 32) ⊎ (32 ≤ n) → P
either_way n f g (inl l) = f l
either_way n f g (inr l) = g l

pub by_agent : {A : Type 0} (x y : ℕ → A) → ((n : ℕ) → n < 32 → x n ≡ y n) → ((n : ℕ) → 32 ≤ n → x n ≡ y n) → (n : ℕ) → x n ≡ y n
by_agent x y f g n = either_way n (f n) (g n) (past_by n (nat_lt n 32) refl)

pub below_same : (k : ℕ) (f g : ℕ → Bool) → ((m : ℕ) → m < k → f m ≡ g m) → all_below k f ≡ all_below k g
below_same zero f g h = refl
below_same (suc k) f g h =
    let last : k < suc k = search (rules, arith) in
    λ i. h k last i && below_same k f g (λ m l. h m (below m l)) i
  where
    below : (m : ℕ) → m < k → m < suc k
    below m l = search (rules, arith)

past_list : {A : Type 0} (xs : List A) (n : ℕ) (d : A) → length xs ≡ 32 → 32 ≤ n → slice_index_or xs n d ≡ d
past_list xs n d l p = get_or_past xs n d (subst (λ (k : ℕ). k ≤ n) (sym l) p)

low_list : {A : Type 0} (xs : List A) (n : ℕ) → length xs ≡ 32 → n < 32 → n < length xs
low_list xs n l p = subst (λ (k : ℕ). n < k) (sym l) p

-- LOOPS over agents
lower : (m n : ℕ) → m < n + 1 → (m ≡ n → ⊥) → m < n
lower m n h e = search (rules, arith)

pub more_sets : (xs : List CopiesCode) (T : ℕ → Copies) (n : ℕ) (x : CopiesCode) → length xs ≡ 32 → n < 32 → ((m : ℕ) → m < n → (h : Held) → sets_of xs m h ≡ T m h) → ((h : Held) → members x h ≡ T n h) → (m : ℕ) → m < n + 1 → (h : Held) → sets_of (slice_set xs n x) m h ≡ T m h
more_sets xs T n x l low before now = split (λ m. m < n + 1 → (h : Held) → sets_of (slice_set xs n x) m h ≡ T m h) n
    (λ _ h. ap (λ s. members s h) (get_or-set_at xs n n x no_copies refl (low_list xs n l low)) ∙ now h)
    (λ m apart below h. ap (λ s. members s h) (get_or-set_other xs n m x no_copies apart) ∙ before m (lower m n below apart) h)

pub more_flags : (d : Bool) (xs : List Bool) (T : ℕ → Bool) (n : ℕ) (x : Bool) → length xs ≡ 32 → n < 32 → ((m : ℕ) → m < n → slice_index_or xs m d ≡ T m) → x ≡ T n → (m : ℕ) → m < n + 1 → slice_index_or (slice_set xs n x) m d ≡ T m
more_flags d xs T n x l low before now = split (λ m. m < n + 1 → slice_index_or (slice_set xs n x) m d ≡ T m) n
    (λ _. get_or-set_at xs n n x d refl (low_list xs n l low) ∙ now)
    (λ m apart below. get_or-set_other xs n m x d apart ∙ before m (lower m n below apart))

pub all_sets : (xs : List CopiesCode) (T : ℕ → Copies) (k : ℕ) → k ≡ 32 → length xs ≡ 32 → ((m : ℕ) → m < k → (h : Held) → sets_of xs m h ≡ T m h) → ((m : ℕ) → 32 ≤ m → (h : Held) → members no_copies h ≡ T m h) → (n : ℕ) (h : Held) → sets_of xs n h ≡ T n h
all_sets xs T k e l each past n h = by_agent (λ n. sets_of xs n h) (λ n. T n h)
    (λ m low. each m (subst (λ (k : ℕ). m < k) (sym e) low) h)
    (λ m p. ap (λ x. members x h) (past_list xs m no_copies l p) ∙ past m p h) n

pub all_flags : (d : Bool) (xs : List Bool) (T : ℕ → Bool) (k : ℕ) → k ≡ 32 → length xs ≡ 32 → ((m : ℕ) → m < k → slice_index_or xs m d ≡ T m) → ((m : ℕ) → 32 ≤ m → d ≡ T m) → (n : ℕ) → slice_index_or xs n d ≡ T n
all_flags d xs T k e l each past n = by_agent (λ n. slice_index_or xs n d) T
    (λ m low. each m (subst (λ (k : ℕ). m < k) (sym e) low))
    (λ m p. past_list xs m d l p ∙ past m p) n

pub more_dues : (xs : List DueCode) (T : ℕ → Due) (n : ℕ) (x : DueCode) → length xs ≡ 32 → n < 32 → ((m : ℕ) → m < n → dues_of xs m ≡ T m) → due_is x ≡ T n → (m : ℕ) → m < n + 1 → dues_of (slice_set xs n x) m ≡ T m
more_dues xs T n x l low before now = split (λ m. m < n + 1 → dues_of (slice_set xs n x) m ≡ T m) n
    (λ _. ap due_is (get_or-set_at xs n n x left_over_code refl (low_list xs n l low)) ∙ now)
    (λ m apart below. ap due_is (get_or-set_other xs n m x left_over_code apart) ∙ before m (lower m n below apart))

pub all_dues : (xs : List DueCode) (T : ℕ → Due) (k : ℕ) → k ≡ 32 → length xs ≡ 32 → ((m : ℕ) → m < k → dues_of xs m ≡ T m) → ((m : ℕ) → 32 ≤ m → left_over ≡ T m) → (n : ℕ) → dues_of xs n ≡ T n
all_dues xs T k e l each past n = by_agent (λ n. dues_of xs n) T
    (λ m low. each m (subst (λ (k : ℕ). m < k) (sym e) low))
    (λ m p. ap due_is (past_list xs m left_over_code l p) ∙ past m p) n

none_is : (h : Held) → members no_copies h ≡ false
none_is h = alike_is _ _ (each_held (λ h. alike_bool (members no_copies h) false) refl h)

-- past the last agent
pub left_past : (sure : List Bool) (A : Copies) (may : List CopiesCode) → length may ≡ 32 → (m : ℕ) → 32 ≤ m → (h : Held) → members no_copies h ≡ left_beside (sure_of sure m) A (sets_of may m) h
left_past sure A may l m p h = none_is h ∙ sym (ap (λ b. b && (sure_of sure m || not (A h))) (ap (λ x. members x h) (past_list may m no_copies l p) ∙ none_is h))

pub then_past : (z : Stores) (due : List DueCode) (sure : List Bool) (may : List CopiesCode) → length sure ≡ 32 → length may ≡ 32 → (m : ℕ) → 32 ≤ m → (h : Held) → members no_copies h ≡ (if sure_of sure m then image (slips z (dues_of due m)) (sets_of may m) else sets_of may m) h
then_past z due sure may ls lm m p h = sym (ap (λ (c : Bool). (if c then image (slips z (dues_of due m)) (sets_of may m) else sets_of may m) h) (past_list sure m false ls p) ∙ ap (λ x. members x h) (past_list may m no_copies lm p))

pub sure_past : (asked sure : List Bool) (may : List CopiesCode) → length asked ≡ 32 → (m : ℕ) → 32 ≤ m → false ≡ (not (flags_of asked m) && (sure_of sure m || is_one (sets_of may m)))
sure_past asked sure may l m p = sym (ap (λ a. not a && (sure_of sure m || is_one (sets_of may m))) (past_list asked m true l p))

pub shown_past : (asked : List Bool) (due : List DueCode) (shown : List Bool) (issuer : Option ℕ) (sure : ℕ → Bool) (may : ℕ → Copies) → length asked ≡ 32 → (m : ℕ) → 32 ≤ m → true ≡ shown_in (flags_of asked m) (dues_of due m) (flags_of shown m) issuer sure may m
shown_past asked due shown issuer sure may l m p = sym (ap (λ a. shown_in a (dues_of due m) (flags_of shown m) issuer sure may m) (past_list asked m true l p))

idle : (a w rest : Bool) → w ≡ false → a ≡ (a || (w && rest))
idle true w rest e = refl
idle false w rest e = sym (ap (λ (w : Bool). w && rest) e)

-- where no request needs a moment
pub none_awaits : (asked : List Bool) (due : List DueCode) (shown : List Bool) (issuer : Option ℕ) (sure : ℕ → Bool) (may : ℕ → Copies) → length asked ≡ 32 → length due ≡ 32 → all_below 32 (λ m. not (awaits_moment (due_at due m))) ≡ true
    → (n : ℕ) → flags_of asked n ≡ shown_in (flags_of asked n) (dues_of due n) (flags_of shown n) issuer sure may n
none_awaits asked due shown issuer sure may la ld none = by_agent (flags_of asked) (λ n. shown_in (flags_of asked n) (dues_of due n) (flags_of shown n) issuer sure may n)
    (λ m low. idle (flags_of asked m) (awaits_moment (dues_of due m)) _ (ap awaits_moment (sym (ap due_is (same_or due m nothing_due left_over_code (low_list due m ld low)))) ∙ turned _ (each_below 32 (λ m. not (awaits_moment (due_at due m))) none m low)))
    (λ m p. past_list asked m true la p ∙ shown_past asked due shown issuer sure may la m p)

-- OTHERS
shown_none : (h : Held) → members no_copies h ≡ shown_all (members no_copies) h
shown_none h = alike_is _ _ (each_held (λ h. alike_bool (members no_copies h) (shown_all (members no_copies) h)) refl h)

abbrev pub others_by : Bool → Copies → Copies
others_by tells S = if tells then shown_all S else S

none_by : (tells : Bool) (h : Held) → members no_copies h ≡ others_by tells (members no_copies) h
none_by true h = shown_none h
none_by false h = refl

others_of : (tells : Bool) (may : List CopiesCode) (n : ℕ) (h : Held) → others_may tells may n h ≡ others_by tells (members (may_at may n)) h
others_of true may n h = refl
others_of false may n h = refl

pub others_are : (tells : Bool) (may others : List CopiesCode) → length may ≡ 32 → length others ≡ 32 → ((n : ℕ) (h : Held) → members (may_at others n) h ≡ others_may tells may n h) → (n : ℕ) (h : Held) → sets_of others n h ≡ others_by tells (sets_of may n) h
others_are tells may others lm lo each n h = by_agent (λ n. sets_of others n h) (λ n. others_by tells (sets_of may n) h)
    (λ n l. ap (λ x. members x h) (same_or others n no_copies nobody (low_list others n lo l)) ∙ each n h ∙ others_of tells may n h
    ∙ ap (λ x. others_by tells (members x) h) (same_or may n nobody no_copies (low_list may n lm l)))
    (λ n l. ap (λ x. members x h) (past_list others n no_copies lo l) ∙ none_by tells h ∙ sym (ap (λ x. others_by tells (members x) h) (past_list may n no_copies lm l))) n

given_parts : (b : Bool) (S : Copies) (h : Held) → others_by b S h ≡ image (λ h k. same_held (if b then shown_of h else h) k) S h
given_parts true S h = refl
given_parts false S h = sym (stay_is S h)

pub given_are : (s : BegunCode) (g : HomeFlit) (d : Due) (b : Bool) (others : List CopiesCode) → length s.may ≡ 32 → length others ≡ 32 → d ≡ dues_of s.due g.agent.0 → b ≡ renews g.grant d → ((n : ℕ) (h : Held) → members (may_at others n) h ≡ others_may b s.may n h) → (n : ℕ) (h : Held) → sets_of others n h ≡ others_begun (begun s) g n h
given_are s g d b others lm lo hd hb each n h = others_are b s.may others lm lo each n h
    ∙ ap (λ b. others_by b (sets_of s.may n) h) (hb ∙ ap (renews g.grant) hd) ∙ given_parts (renews g.grant (dues_of s.due g.agent.0)) (sets_of s.may n) h

pub sent_others : (s : BegunCode) (f : CacheFlit) (tells : Bool) (others : List CopiesCode) → length s.may ≡ 32 → length others ≡ 32 → tells ≡ tells_words f.act → ((n : ℕ) (h : Held) → members (may_at others n) h ≡ others_may tells s.may n h) → (n : ℕ) (h : Held) → sets_of others n h ≡ others_sent (begun s) f n h
sent_others s f tells others lm lo ht each n h = others_are tells s.may others lm lo each n h ∙ ap (λ b. others_by b (sets_of s.may n) h) ht

-- RIGHT BEHIND A FLIT
abbrev behind_made : Stores → (ℕ → Due) → (ℕ → Option Snoop) → Bool → (ℕ → Copies) → (ℕ → Bool) → (ℕ → Bool) → (ℕ → Bool) → Option (List ℕ) → Behind
behind_made z d q y m u a l v = record { public = record { stores = z; due = d; snooped = q; duty = y }; may = m; sure = u; asked = a; snooped = l; home = v }

behind_same : (z : Stores) (d d' : ℕ → Due) (q q' : ℕ → Option Snoop) (y y' : Bool) (m m' : ℕ → Copies) (u u' a a' l l' : ℕ → Bool) (v v' : Option (List ℕ)) → d ≡ d' → q ≡ q' → y ≡ y' → m ≡ m' → u ≡ u' → a ≡ a' → l ≡ l' → v ≡ v' → behind_made z d q y m u a l v ≡ behind_made z d' q' y' m' u' a' l' v'
behind_same z d d' q q' y y' m m' u u' a a' l l' v v' hd hq hy hm hu ha hl hv = λ i. behind_made z (hd i) (hq i) (hy i) (hm i) (hu i) (ha i) (hl i) (hv i)

abbrev pub code_of : Stores → List DueCode → List (Option Snoop) → Bool → List CopiesCode → Option (List ℕ) → List Bool → List Bool → List Bool → List Bool → BegunCode
code_of z d q y m v u a l t = record { stores = z; due = d; snooped = q; duty = y; may = m; home = v; sure = u; asked = a; left = l; shown = t }

sets_put : (may' : List CopiesCode) (n : ℕ) (own : CopiesCode) (S : Copies) (others : ℕ → Copies) → length may' ≡ 32 → n < 32 → ((h : Held) → members own h ≡ S h) → ((m : ℕ) (h : Held) → sets_of may' m h ≡ others m h) → sets_of (slice_set may' n own) ≡ put n S others
sets_put may' n own S others lm low ho hm = set_is_put members may' n own no_copies (low_list may' n lm low) ∙ ap (λ x. put n x (sets_of may')) (fun_ext ho) ∙ ap (put n S) (fun_ext (λ m. fun_ext (hm m)))

put_at : {A : Type 0} (n : ℕ) (x y : A) (f : ℕ → A) → x ≡ y → put n x f ≡ put n y f
put_at n x y f e = ap (λ x. put n x f) e

and_true : (b : Bool) → b ≡ (b && true)
and_true true = refl
and_true false = refl

asked_there : (b : Begun) (f : CacheFlit) (m : ℕ) (c : Bool) → (m == f.agent.0) ≡ c → (if c then (b.asked f.agent.0 && not (asks f.act)) else b.asked m) ≡ (b.asked m && not (c && asks f.act))
asked_there b f m true e = ap (λ k. b.asked k && not (asks f.act)) (sym (eqb-true m f.agent.0 e))
asked_there b f m false e = and_true (b.asked m)

asked_put : (b : Begun) (f : CacheFlit) → put f.agent.0 (b.asked f.agent.0 && not (asks f.act)) b.asked ≡ asked_after b f
asked_put b f = fun_ext (λ m. asked_there b f m (m == f.agent.0) refl)

asked_here : (b : Begun) (f : CacheFlit) → (b.asked f.agent.0 && not (asks f.act)) ≡ asked_after b f f.agent.0
asked_here b f = ap (λ c. b.asked f.agent.0 && not (c && asks f.act)) (sym (alike f.agent.0))

module _ (s : BegunCode) where
  pub moved_by : (f : CacheFlit) (n : ℕ) (d : DueCode) (was : Due) (q : Option Snoop) (duty tells sure asked : Bool) (own : CopiesCode) (may : List CopiesCode) (home : Option (List ℕ)) (shown : List Bool)
      → n ≡ f.agent.0 → n < 32 → length s.due ≡ 32 → length s.snooped ≡ 32 → length may ≡ 32 → length s.sure ≡ 32 → length s.asked ≡ 32
      → was ≡ due_in (begun s) f → asked ≡ (flags_of s.asked n && not (asks f.act)) → due_is d ≡ (if asked then left_over else due_after f.act was)
      → q ≡ snooped_after f.act (snoops_of s.snooped n) → duty ≡ (s.duty || passes_duty f.act) → tells ≡ tells_words f.act → sure ≡ sure_sent (begun s) f
      → ((h : Held) → members own h ≡ sent_begun (begun s) f h)
      → ((m : ℕ) (h : Held) → sets_of may m h ≡ left_beside (sure_of s.sure m) (apart_sent (begun s) f) (others_sent (begun s) f m) h)
      → home ≡ (if tells then Some f.shown else s.home)
      → behind_of (code_of s.stores (slice_set s.due n d) (slice_set s.snooped n q) duty (slice_set may n own) home (slice_set s.sure n sure) (slice_set s.asked n asked) s.left shown) ≡ behind_sent (begun s) f
  moved_by f n d was q duty tells sure asked own may home shown e low ld lq lm lu la hw ha hd hq hy ht hu ho hm hv =
      ap (λ (k : ℕ). behind_of (code_of s.stores (slice_set s.due k d) (slice_set s.snooped k q) duty (slice_set may k own) home (slice_set s.sure k sure) (slice_set s.asked k asked) s.left shown)) e
      ∙ behind_same s.stores _ _ _ _ _ _ _ _ _ _ _ _ _ _ _ _
      (set_is_put due_is s.due f.agent.0 d left_over_code (low_list s.due f.agent.0 ld here_low) ∙ put_at f.agent.0 (due_is d) _ (dues_of s.due) (hd ∙ ap (λ a. if a then left_over else due_after f.act was) asked_is ∙ ap (λ w. if asked_after (begun s) f f.agent.0 then left_over else due_after f.act w) hw))
      (set_is_put (λ (x : Option Snoop). x) s.snooped f.agent.0 q None (low_list s.snooped f.agent.0 lq here_low) ∙ put_at f.agent.0 q _ (snoops_of s.snooped) (hq ∙ ap (λ k. snooped_after f.act (snoops_of s.snooped k)) e))
      hy
      (sets_put may f.agent.0 own (sent_begun (begun s) f) (λ m. left_beside (sure_of s.sure m) (apart_sent (begun s) f) (others_sent (begun s) f m)) lm here_low ho hm)
      (set_is_put (λ (x : Bool). x) s.sure f.agent.0 sure false (low_list s.sure f.agent.0 lu here_low) ∙ put_at f.agent.0 sure _ (sure_of s.sure) hu)
      (set_is_put (λ (x : Bool). x) s.asked f.agent.0 asked true (low_list s.asked f.agent.0 la here_low) ∙ put_at f.agent.0 asked _ (flags_of s.asked) asked_as ∙ asked_put (begun s) f)
      refl
      (hv ∙ ap (λ t. if t then Some f.shown else s.home) ht)
    where
      here_low : f.agent.0 < 32
      here_low = subst (λ (k : ℕ). k < 32) e low

      asked_as : asked ≡ (flags_of s.asked f.agent.0 && not (asks f.act))
      asked_as = ha ∙ ap (λ k. flags_of s.asked k && not (asks f.act)) e

      asked_is : asked ≡ asked_after (begun s) f f.agent.0
      asked_is = asked_as ∙ asked_here (begun s) f

  pub granted_by : (g : HomeFlit) (n : ℕ) (d : DueCode) (was : Due) (q before : Option Snoop) (duty shows sure left : Bool) (own : CopiesCode) (may : List CopiesCode) (home : Option (List ℕ)) (shown : List Bool)
      → n ≡ g.agent.0 → n < 32 → length s.due ≡ 32 → length s.snooped ≡ 32 → length may ≡ 32 → length s.sure ≡ 32 → length s.left ≡ 32
      → was ≡ dues_of s.due g.agent.0 → before ≡ snoops_of s.snooped g.agent.0 → due_is d ≡ due_granted g.grant was → q ≡ snooped_granted g.grant before → duty ≡ (s.duty && not (needs_duty g.grant))
      → shows ≡ is_shown (begun s) g → left ≡ (flags_of s.left n && is_due g.grant was (Some SnpOnce)) → sure ≡ sure_given (begun s) g
      → ((h : Held) → members own h ≡ got_begun (begun s) g h)
      → ((m : ℕ) (h : Held) → sets_of may m h ≡ left_beside (sure_of s.sure m) (apart_given (begun s) g) (others_begun (begun s) g m) h)
      → home ≡ (if shows then Some g.shown else s.home)
      → behind_of (code_of s.stores (slice_set s.due n d) (slice_set s.snooped n q) duty (slice_set may n own) home (slice_set s.sure n sure) s.asked (slice_set s.left n left) shown) ≡ behind_given (begun s) g
  granted_by g n d was q before duty shows sure left own may home shown e low ld lq lm lu ll hw hb hd hq hy hs hl hu ho hm hv =
      ap (λ (k : ℕ). behind_of (code_of s.stores (slice_set s.due k d) (slice_set s.snooped k q) duty (slice_set may k own) home (slice_set s.sure k sure) s.asked (slice_set s.left k left) shown)) e
      ∙ behind_same s.stores _ _ _ _ _ _ _ _ _ _ _ _ _ _ _ _
      (set_is_put due_is s.due g.agent.0 d left_over_code (low_list s.due g.agent.0 ld here_low) ∙ put_at g.agent.0 (due_is d) _ (dues_of s.due) (hd ∙ ap (due_granted g.grant) hw))
      (set_is_put (λ (x : Option Snoop). x) s.snooped g.agent.0 q None (low_list s.snooped g.agent.0 lq here_low) ∙ put_at g.agent.0 q _ (snoops_of s.snooped) (hq ∙ ap (snooped_granted g.grant) hb))
      hy
      (sets_put may g.agent.0 own (got_begun (begun s) g) (λ m. left_beside (sure_of s.sure m) (apart_given (begun s) g) (others_begun (begun s) g m)) lm here_low ho hm)
      (set_is_put (λ (x : Bool). x) s.sure g.agent.0 sure false (low_list s.sure g.agent.0 lu here_low) ∙ put_at g.agent.0 sure _ (sure_of s.sure) hu)
      refl
      (set_is_put (λ (x : Bool). x) s.left g.agent.0 left true (low_list s.left g.agent.0 ll here_low) ∙ put_at g.agent.0 left _ (flags_of s.left) (hl ∙ ap (λ k. flags_of s.left k && is_due g.grant was (Some SnpOnce)) e ∙ ap (λ w. flags_of s.left g.agent.0 && is_due g.grant w (Some SnpOnce)) hw))
      (hv ∙ ap (λ t. if t then Some g.shown else s.home) hs)
    where
      here_low : g.agent.0 < 32
      here_low = subst (λ (k : ℕ). k < 32) e low

-- BEHIND HIDDEN STEPS
abbrev begun_made : Stores → (ℕ → Due) → (ℕ → Option Snoop) → Bool → (ℕ → Copies) → Option (List ℕ) → (ℕ → Bool) → (ℕ → Bool) → (ℕ → Bool) → (ℕ → Bool) → Begun
begun_made z d q y m v u a l t = record { seen = record { public = record { stores = z; due = d; snooped = q; duty = y }; may = m; home = v; news = no_words }; sure = u; asked = a; snooped = l; shown = t }

begun_same : (z : Stores) (d d' : ℕ → Due) (q q' : ℕ → Option Snoop) (y : Bool) (m m' : ℕ → Copies) (v : Option (List ℕ)) (u u' a a' l l' t t' : ℕ → Bool) → d ≡ d' → q ≡ q' → m ≡ m' → u ≡ u' → a ≡ a' → l ≡ l' → t ≡ t' → begun_made z d q y m v u a l t ≡ begun_made z d' q' y m' v u' a' l' t'
begun_same z d d' q q' y m m' v u u' a a' l l' t t' hd hq hm hu ha hl ht = λ i. begun_made z (hd i) (hq i) y (hm i) v (hu i) (ha i) (hl i) (ht i)

module _ (s : BegunCode) where
  abbrev b : Behind
  b = behind_of s

  then_sets : (sure : List Bool) (may : List CopiesCode) → ((m : ℕ) → sure_of sure m ≡ sure_then b m) → ((m : ℕ) (h : Held) → sets_of may m h ≡ (if sure_of sure m then image (slips s.stores (dues_of s.due m)) (sets_of s.may m) else sets_of s.may m) h) → (m : ℕ) → sets_of may m ≡ may_then b m
  then_sets sure may hs hm m = fun_ext (hm m) ∙ ap (λ c. if c then image (slips s.stores (dues_of s.due m)) (sets_of s.may m) else sets_of s.may m) (hs m)

  sure_beside : (n : ℕ) (x : Bool) (sure : List Bool) → length sure ≡ 32 → n < 32 → x ≡ sure_of s.sure n → ((m : ℕ) → sure_of sure m ≡ sure_then b m) → sure_of (slice_set sure n x) ≡ sure_here b n
  sure_beside n x sure l low e hs = set_is_put (λ (x : Bool). x) sure n x false (low_list sure n l low) ∙ fun_ext (split (λ m. put n x (sure_of sure) m ≡ sure_here b n m) n
      (here n x (sure_of sure) ∙ e ∙ sym (ap (λ (c : Bool). if c then sure_of s.sure n else sure_then b n) (alike n)))
      (λ m h. there n x (sure_of sure) m h ∙ hs m ∙ sym (ap (λ (c : Bool). if c then sure_of s.sure m else sure_then b m) (unlike m n h))))

  may_beside : (n : ℕ) (x : CopiesCode) (may : List CopiesCode) → length may ≡ 32 → n < 32 → x ≡ copies_at s.may n → ((m : ℕ) → sets_of may m ≡ may_then b m) → sets_of (slice_set may n x) ≡ may_here b n
  may_beside n x may l low e hm = set_is_put members may n x no_copies (low_list may n l low) ∙ fun_ext (split (λ m. put n (members x) (sets_of may) m ≡ may_here b n m) n
      (here n (members x) (sets_of may) ∙ ap members e ∙ sym (ap (λ (c : Bool). if c then sets_of s.may n else may_then b n) (alike n)))
      (λ m h. there n (members x) (sets_of may) m h ∙ hm m ∙ sym (ap (λ (c : Bool). if c then sets_of s.may m else may_then b m) (unlike m n h))))

  pub settled_by : (agent n : ℕ) (issuer : Option ℕ) (x : Bool) (y : CopiesCode) (sure : List Bool) (may : List CopiesCode) (shown : List Bool) → n ≡ agent → n < 32 → length sure ≡ 32 → length may ≡ 32
      → x ≡ sure_of s.sure n → y ≡ copies_at s.may n
      → ((m : ℕ) → sure_of sure m ≡ sure_then b m)
      → ((m : ℕ) (h : Held) → sets_of may m h ≡ (if sure_of sure m then image (slips s.stores (dues_of s.due m)) (sets_of s.may m) else sets_of s.may m) h)
      → ((m : ℕ) → flags_of shown m ≡ shown_in (flags_of s.asked m) (dues_of s.due m) (flags_of s.shown m) issuer (sure_of (slice_set sure n x)) (sets_of (slice_set may n y)) m)
      → begun (code_of s.stores s.due s.snooped s.duty may s.home sure s.asked s.left shown) ≡ kept_behind b (λ k. shown_beside b agent issuer (flags_of s.shown k) k)
  settled_by agent n issuer x y sure may shown e low ls lm hx hy hs hm ht =
      begun_same s.stores _ _ _ _ s.duty _ _ s.home _ _ _ _ _ _ _ _
      refl refl
      (fun_ext (then_sets sure may hs hm))
      (fun_ext hs)
      refl refl
      (fun_ext (λ m. ht m
      ∙ ap (λ u. shown_in (flags_of s.asked m) (dues_of s.due m) (flags_of s.shown m) issuer u (sets_of (slice_set may n y)) m) (sure_beside n x sure ls low hx hs)
      ∙ ap (λ t. shown_in (flags_of s.asked m) (dues_of s.due m) (flags_of s.shown m) issuer (sure_here b n) t m) (may_beside n y may lm low hy (then_sets sure may hs hm))
      ∙ ap (λ k. shown_beside b k issuer (flags_of s.shown m) m) e))

  -- A FLIT FROM BEFORE
  pub forgotten_by : (agent n : ℕ) (left apart own : CopiesCode) (shown : List CopiesCode) (flags : List Bool) → n ≡ agent → n < 32 → length s.may ≡ 32 → length shown ≡ 32 → length s.sure ≡ 32
      → ((m : ℕ) (h : Held) → members (may_at shown m) h ≡ others_may true s.may m h)
      → ((h : Held) → members apart h ≡ not (all_below 32 (λ m. m == agent || not (apart_from (sure_of s.sure m) (sets_of shown m) h))))
      → ((h : Held) → members left h ≡ may_be_left (dues_of s.due agent) h)
      → ((h : Held) → members own h ≡ (members left h && not (members apart h)))
      → ((m : ℕ) → flags_of flags m ≡ true)
      → begun (code_of s.stores s.due s.snooped true (slice_set shown n own) None (slice_set s.sure n false) s.asked s.left flags) ≡ forgotten agent (begun s)
  forgotten_by agent n left apart own shown flags e low lm lh ls hs ha hp ho hf =
      ap (λ (k : ℕ). begun (code_of s.stores s.due s.snooped true (slice_set shown k own) None (slice_set s.sure k false) s.asked s.left flags)) e
      ∙ begun_same s.stores _ _ _ _ true _ _ None _ _ _ _ _ _ _ _
      refl refl
      (sets_put shown agent own (λ k. may_be_left (dues_of s.due agent) k && not (some_apart agent (begun s) k)) (λ m. shown_all (sets_of s.may m)) lh here_low own_is others_shown)
      (set_is_put (λ (x : Bool). x) s.sure agent false false (low_list s.sure agent ls here_low))
      refl refl
      (fun_ext hf)
    where
      here_low : agent < 32
      here_low = subst (λ (k : ℕ). k < 32) e low

      others_shown : (m : ℕ) (h : Held) → sets_of shown m h ≡ shown_all (sets_of s.may m) h
      others_shown m h = others_are true s.may shown lm lh hs m h

      apart_is : (h : Held) → members apart h ≡ some_apart agent (begun s) h
      apart_is h = ha h ∙ ap (λ (T : ℕ → Copies). not (all_below 32 (λ m. m == agent || not (apart_from (sure_of s.sure m) (T m) h)))) (fun_ext (λ m. fun_ext (others_shown m)))

      own_is : (h : Held) → members own h ≡ (may_be_left (dues_of s.due agent) h && not (some_apart agent (begun s) h))
      own_is h = ho h ∙ (λ i. hp h i && not (apart_is h i))

-- AT FIRST
abbrev pub plain_code : CopiesCode
plain_code = record { bits = 127 }

pub plain_is : (h : Held) → members plain_code h ≡ is_plain h
plain_is h = alike_is _ _ (each_held (λ h. alike_bool (members plain_code h) (is_plain h)) refl h)

full : {A : Type 0} (x : A) → length (replicate 32 x) ≡ 32
full x = refl

first_sets : (n : ℕ) (h : Held) → sets_of (replicate 32 plain_code) n h ≡ (nat_lt n 32 && is_plain h)
first_sets n h = by_agent (λ n. sets_of (replicate 32 plain_code) n h) (λ n. nat_lt n 32 && is_plain h)
    (λ n l. ap (λ x. members x h) (same_or (replicate 32 plain_code) n no_copies plain_code (low_list (replicate 32 plain_code) n refl l) ∙ all_same 32 n plain_code) ∙ plain_is h ∙ sym (ap (λ c. c && is_plain h) (low_is n l)))
    (λ n l. ap (λ x. members x h) (past_list (replicate 32 plain_code) n no_copies refl l) ∙ none_is h ∙ sym (ap (λ c. c && is_plain h) (high_is n l))) n

-- what stands for requests from before, past the last agent too
pub before_past : (asked : List Bool) → length asked ≡ 32 → (m : ℕ) → 32 ≤ m → left_over ≡ (if flags_of asked m then left_over else Nothing)
before_past asked l m p = sym (ap (λ (c : Bool). if c then left_over else Nothing) (past_list asked m true l p))

pub open_yet : (z : Stores) (due : List DueCode) (asked left : List Bool) → ((n : ℕ) → dues_of due n ≡ (if flags_of asked n then left_over else Nothing))
    → begun (code_of z due (replicate 32 None) true (replicate 32 plain_code) None (replicate 32 false) asked left (replicate 32 true)) ≡ begun_with z (flags_of asked) (flags_of left)
open_yet z due asked left e = begun_same z _ _ _ _ true _ _ None _ _ _ _ _ _ _ _
    (fun_ext e)
    (fun_ext (λ n. all_same 32 n None))
    (fun_ext (λ n. fun_ext (first_sets n)))
    (fun_ext (λ n. all_same 32 n false))
    refl
    refl
    (fun_ext (λ n. all_same 32 n true))

pub nothing_yet : (z : Stores) → begun_with z (flags_of (replicate 32 true)) (flags_of (replicate 32 true)) ≡ nothing_begun z
nothing_yet z = λ i. begun_with z (each_true i) (each_true i)
  where
    each_true : flags_of (replicate 32 true) ≡ anyone
    each_true = fun_ext (λ n. all_same 32 n true)

-- WHAT IS DUE
pub due_low : (due : List DueCode) (m : ℕ) → length due ≡ 32 → m < 32 → due_at due m ≡ dues_of due m
due_low due m l low = ap due_is (same_or due m nothing_due left_over_code (low_list due m l low))

pub quiet_is : (due : List DueCode) (x : Bool) → length due ≡ 32 → x ≡ all_below 32 (λ m. not (is_busy (due_at due m))) → x ≡ all_below 32 (λ m. not (is_busy (dues_of due m)))
quiet_is due x l e = e ∙ below_same 32 (λ m. not (is_busy (due_at due m))) (λ m. not (is_busy (dues_of due m))) (λ m low. ap (λ d. not (is_busy d)) (due_low due m l low))

pub sparing_is : (due : List DueCode) (n : ℕ) (x : Bool) → length due ≡ 32 → x ≡ all_below 32 (λ m. m == n || not (overwrites (due_at due m))) → x ≡ all_below 32 (λ m. m == n || not (overwrites (dues_of due m)))
sparing_is due n x l e = e ∙ below_same 32 (λ m. m == n || not (overwrites (due_at due m))) (λ m. m == n || not (overwrites (dues_of due m))) (λ m low. ap (λ d. m == n || not (overwrites d)) (due_low due m l low))

-- what is kept behind hidden steps of what is kept right behind a flit
pub settled_behind : (b : Begun) (e : Flit) (mid : BegunCode) (shown : List Bool) (issuer : Option ℕ) → behind_of mid ≡ behind_flit b e → mid.shown ≡ shown → flags_of shown ≡ b.shown → ((k : ℕ) → issues issuer k ≡ is_issue e k)
    → kept_behind (behind_of mid) (λ k. shown_beside (behind_of mid) (agent_in e) issuer (flags_of mid.shown k) k) ≡ kept_behind (behind_flit b e) (shown_then b e)
settled_behind b e mid shown issuer hm hs hb hi = (λ i. kept_behind (hm i) (λ k. shown_beside (hm i) (agent_in e) issuer (flags_of (hs i) k) k))
    ∙ ap (λ (t : ℕ → Bool). kept_behind (behind_flit b e) (λ k. shown_beside (behind_flit b e) (agent_in e) issuer (t k) k)) hb
    ∙ ap (λ (t : ℕ → Bool). kept_behind (behind_flit b e) (λ k. (behind_flit b e).asked k || (awaits_moment ((behind_flit b e).public.due k) && ((not (t k) && b.shown k) || may_be_moment (behind_flit b e) (agent_in e) k)))) (fun_ext hi)

-- THE OTHERS, beside what a flit leaves
pub left_is : (u : Bool) (A B S T : Copies) (x : Copies) → ((h : Held) → A h ≡ B h) → ((h : Held) → S h ≡ T h) → ((h : Held) → x h ≡ left_beside u A S h) → (h : Held) → x h ≡ left_beside u B T h
left_is u A B S T x ha hs hx h = hx h ∙ (λ i. left_beside u (fun_ext ha i) (fun_ext hs i) h)

module _ (s : BegunCode) (f : CacheFlit) (own : Copies) (u tells : Bool) (A : Copies) (others : List CopiesCode) (lm : length s.may ≡ 32) (lo : length others ≡ 32) (hu : u ≡ sure_sent (begun s) f) (ho : (h : Held) → own h ≡ sent_begun (begun s) f h) (ha : (h : Held) → A h ≡ apart_from u own h) (ht : tells ≡ tells_words f.act) (hs : (n : ℕ) (h : Held) → members (may_at others n) h ≡ others_may tells s.may n h) where
  apart_as_sent : (h : Held) → A h ≡ apart_sent (begun s) f h
  apart_as_sent h = ha h ∙ (λ i. apart_from (hu i) (fun_ext ho i) h)

  others_as_sent : (m : ℕ) (h : Held) → sets_of others m h ≡ others_sent (begun s) f m h
  others_as_sent = sent_others s f tells others lm lo ht hs

  pub sent_beside : (x : Bool) → x ≡ stands f.agent.0 A (sure_of s.sure) (sets_of others) → x ≡ stand_beside f.agent.0 (apart_sent (begun s) f) (begun s) (others_sent (begun s) f)
  sent_beside x e = e ∙ (λ i. stands f.agent.0 (fun_ext apart_as_sent i) (sure_of s.sure) (fun_ext (λ m. fun_ext (others_as_sent m)) i))

  pub sent_left : (may : List CopiesCode) → ((m : ℕ) (h : Held) → sets_of may m h ≡ left_beside (sure_of s.sure m) A (sets_of others m) h) → (m : ℕ) (h : Held) → sets_of may m h ≡ left_beside (sure_of s.sure m) (apart_sent (begun s) f) (others_sent (begun s) f m) h
  sent_left may e m = left_is (sure_of s.sure m) A (apart_sent (begun s) f) (sets_of others m) (others_sent (begun s) f m) (sets_of may m) apart_as_sent (others_as_sent m) (e m)

module _ (s : BegunCode) (g : HomeFlit) (own : Copies) (u alone : Bool) (due : Due) (A : Copies) (others : List CopiesCode) (hu : u ≡ sure_given (begun s) g) (ho : (h : Held) → own h ≡ got_begun (begun s) g h) (hd : due ≡ dues_of s.due g.agent.0) (hl : alone ≡ needs_alone g.grant due) (ha : (h : Held) → A h ≡ apart_beside u own alone h) (hs : (m : ℕ) (h : Held) → sets_of others m h ≡ others_begun (begun s) g m h) where
  pub apart_as_given : (h : Held) → A h ≡ apart_given (begun s) g h
  apart_as_given h = ha h ∙ (λ i. apart_beside (hu i) (fun_ext ho i) ((hl ∙ ap (needs_alone g.grant) hd) i) h)

  pub given_left : (may : List CopiesCode) → ((m : ℕ) (h : Held) → sets_of may m h ≡ left_beside (sure_of s.sure m) A (sets_of others m) h) → (m : ℕ) (h : Held) → sets_of may m h ≡ left_beside (sure_of s.sure m) (apart_given (begun s) g) (others_begun (begun s) g m) h
  given_left may e m = left_is (sure_of s.sure m) A (apart_given (begun s) g) (sets_of others m) (others_begun (begun s) g m) (sets_of may m) apart_as_given (hs m) (e m)
