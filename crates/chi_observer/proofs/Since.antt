-- The moments that are kept are those that worlds have.
use Rattle.std.proofs.Common.{◌≡◌, ◌≢◌, ◌⊎◌, inl, inr, ℕ, ◌<◌, List, [], ◌∷◌, refl, sym, ap, subst, ◌∙◌}
use Rattle.std.specs.Prelude.{Bool, true, false, ◌&&◌, ◌||◌, ◌==◌, not, if◌then◌else◌}
use Rattle.std.proofs.lemmas.Bool.{eqb-true}
use Rattle.chi_observer.specs.declared.flits.Due.{Due}
use Rattle.chi_observer.specs.declared.flits.Stores.{Stores}
use Rattle.chi_observer.specs.declared.flits.Stores.TheVariants.{Hidden, Listed}
use Rattle.chi_observer.specs.declared.flits.CacheFlit.{CacheFlit}
use Rattle.chi_observer.specs.declared.flits.HomeFlit.{HomeFlit}
use Rattle.chi_observer.specs.declared.flits.Flit.{Flit}
use Rattle.chi_observer.specs.declared.flits.Flit.TheVariants.{Up, Down}
use Rattle.chi_observer.specs.Copies.{Copy, Held, holds_data, is_unique, is_dirty}
use Rattle.chi_observer.specs.Copies.Copy.{UniqueDirty, SharedDirty}
use Rattle.chi_observer.specs.Rules.{hides_stores, is_resending, looks, awaits_moment, reads_once, needs_quiet, due_granted, granted}
use Rattle.chi_observer.specs.Tables.{Known, most, may, reach, fresh, told_granted}
use Rattle.chi_observer.specs.Worlds.{Public, World, Sends, Gives, all_below, put}
use Rattle.chi_observer.specs.Observed.{Observed, Unstored, Meaning, next, next_home}
use Rattle.chi_observer.specs.Moments.{is_issue, tells_of, may_be_dirty, none_dirty, home_is_last, is_moment}
use Rattle.chi_observer.specs.Runs.{public_of, Behind, seen, waits_by, shown_by, NoneDirty, HomeIsLast, IsMoment, HasMoment, Accepted}
use Rattle.chi_observer.proofs.Finite.{no, left, right, both, implies, follow}
use Rattle.chi_observer.proofs.Spots.{DueCopies, each_due_copy}
use Rattle.chi_observer.proofs.Facts.{turned, flip, unstored_clean, or_here, or_there, top_copy, reach_self, is_settled}
use Rattle.chi_observer.proofs.Words.{or_words, others_differ, be_true}
use Rattle.chi_observer.proofs.Put.{here, there, split, differ, unlike, alike}
use Rattle.chi_observer.proofs.Rewind.{Undone}
use Rattle.chi_observer.proofs.Copies.{each_below, below_all, unfresh, settled_given}
use Rattle.chi_observer.proofs.Cache.{leads, last_here, settled_sent}
use Rattle.chi_observer.proofs.Home.{home_leads}
use Rattle.chi_observer.proofs.Origin.{world_given, old_meant, old_informed, old_gives}
use Rattle.chi_observer.proofs.Tops.{top_settled}
use Rattle.chi_observer.proofs.Waits.{wakes}
use Rattle.chi_observer.proofs.Current.{up_calm, load_calm, load_behind, up_behind, up_last, up_surely, down_calm, down_home, down_behind, down_last, down_surely, was_home, lost_world, lost_settled}
use Rattle.chi_observer.proofs.Runs.{exact}

one_of : (a b : Bool) → (a || b) ≡ true → a ≡ false → b ≡ true
one_of true b h e = no (sym e)
one_of false b h e = h

or_right : (a b : Bool) → (a ≡ false → b ≡ true) → (a || b) ≡ true
or_right true b h = refl
or_right false b h = h refl

not_left : (a b : Bool) → not (a || b) ≡ true → not a ≡ true
not_left true b h = no h
not_left false b h = refl

not_true : (a : Bool) → (a ≡ true → false ≡ true) → not a ≡ true
not_true true h = h refl
not_true false h = refl

-- A COPY THAT CAN'T BE DIRTY
quiet_table : Stores → Due → Known → Held → Bool
quiet_table mode d t s = implies (reach mode d t s && not (may_be_dirty mode d t false)) (not (is_dirty s.copy))

quiet_holds : (mode : Stores) → DueCopies (quiet_table mode)
unfolding quiet_table
quiet_holds Hidden k = refl
quiet_holds Listed k = refl

told_table : Due → Known → Held → Bool
told_table d t s = implies (may t.told s.copy && not (is_dirty (most t))) (not (is_dirty s.copy))

told_holds : DueCopies told_table
unfolding told_table
told_holds k = refl

-- b: right behind the flit it is as it is told
clean_by : (mode : Stores) (b : Bool) (d : Due) (t : Known) (s : Held) → reach mode d t s ≡ true → (b ≡ true → may t.told s.copy ≡ true) → not (may_be_dirty mode d t b) ≡ true → is_dirty s.copy ≡ false
unfolding quiet_table told_table
clean_by mode true d t s r h n = turned _ (follow (may t.told s.copy && not (is_dirty (most t))) _ (each_due_copy told_table told_holds d t s) (both _ _ (h refl) (not_left (is_dirty (most t)) _ n)))
clean_by mode false d t s r h n = turned _ (follow (reach mode d t s && not (may_be_dirty mode d t false)) _ (each_due_copy (quiet_table mode) (quiet_holds mode) d t s) (both _ _ r n))

not_stored : (a b : Bool) → not (a || b) ≡ true → not b ≡ true
not_stored true b h = no h
not_stored false b h = h

-- who is told to be dirty is
surely_table : Stores → Due → Known → Held → Bool
surely_table mode d t s = implies (is_dirty (most t) && reach mode d t s) (is_dirty s.copy)

surely_holds : (mode : Stores) → DueCopies (surely_table mode)
unfolding surely_table
surely_holds Hidden k = refl
surely_holds Listed k = refl

told_dirty : (mode : Stores) (d : Due) (t : Known) (s : Held) → is_dirty (most t) ≡ true → reach mode d t s ≡ true → is_dirty s.copy ≡ true
unfolding surely_table
told_dirty mode d t s h r = follow _ _ (each_due_copy (surely_table mode) (surely_holds mode) d t s) (both _ _ h r)

-- A COPY THAT MAY BE DIRTY
abbrev pub dirty_top : Due → Known → Held
dirty_top d t = if is_dirty (most t) then top_copy d t else record { copy = UniqueDirty; cancelled = is_resending d }

abbrev pub can_be_dirty : Stores → Due → Known → Bool
can_be_dirty mode d t = is_dirty (most t) || (hides_stores mode d && is_unique (most t))

dirty_table : Stores → Due → Known → Held → Bool
dirty_table mode d t s = implies (can_be_dirty mode d t) (reach mode d t (dirty_top d t) && is_dirty (dirty_top d t).copy)

dirty_holds : (mode : Stores) → DueCopies (dirty_table mode)
unfolding dirty_table
dirty_holds Hidden k = refl
dirty_holds Listed k = refl

dirty_found : (mode : Stores) (d : Due) (t : Known) → can_be_dirty mode d t ≡ true → (reach mode d t (dirty_top d t) && is_dirty (dirty_top d t).copy) ≡ true
unfolding dirty_table
dirty_found mode d t = follow (can_be_dirty mode d t) _ (each_due_copy (dirty_table mode) (dirty_holds mode) d t (top_copy d t))

settled_table : Due → Known → Held → Bool
settled_table d t s = implies (is_dirty (most t)) (is_settled d t (dirty_top d t))

settled_holds : DueCopies settled_table
unfolding settled_table
settled_holds k = refl

dirty_settled : (d : Due) (t : Known) → is_dirty (most t) ≡ true → is_settled d t (dirty_top d t) ≡ true
unfolding settled_table
dirty_settled d t = follow (is_dirty (most t)) _ (each_due_copy settled_table settled_holds d t (top_copy d t))

with_data : (s : Copy) → is_dirty s ≡ true → holds_data s ≡ true
with_data UniqueDirty h = refl
with_data SharedDirty h = refl
with_data other h = no h

-- m's copy is dirty, and each other the strongest
module _ (o : Observed) (m : ℕ) (can : can_be_dirty o.public.stores (o.public.due m) (o.told m) ≡ true) where
  abbrev tops : ℕ → Held
  tops k = top_copy (o.public.due k) (o.told k)

  abbrev x : Held
  x = dirty_top (o.public.due m) (o.told m)

  abbrev dirty_world : World
  dirty_world = record { state = put m x tops; words = λ _. or_words o.home []; last = or_words o.home []; home = or_words o.home [] }

  dirty_undone : (n : ℕ) → Undone o n dirty_world
  dirty_undone n = record {
    told = split (λ k. k < 32 → reach o.public.stores (o.public.due k) (o.told k) (put m x tops k) ≡ true) m
        (λ _. subst (λ z. reach o.public.stores (o.public.due m) (o.told m) z ≡ true) (sym (here m x tops)) (left _ _ (dirty_found o.public.stores (o.public.due m) (o.told m) can)))
        (λ k h _. subst (λ z. reach o.public.stores (o.public.due k) (o.told k) z ≡ true) (sym (there m x tops k h)) (reach_self o.public.stores (o.public.due k) (o.told k)));
    words = λ _ _ _. refl;
    home = λ v e. ap (λ z. or_words z []) e;
    current = λ _ _. refl;
  }

  dirty_there : is_dirty (dirty_world.state m).copy ≡ true
  dirty_there = subst (λ (z : Held). is_dirty z.copy ≡ true) (sym (here m x tops)) (right (reach o.public.stores (o.public.due m) (o.told m) x) _ (dirty_found o.public.stores (o.public.due m) (o.told m) can))

  dirty_meant : Meaning o dirty_world
  dirty_meant = record {
    told = (dirty_undone m).told;
    words = λ _ _ _. refl;
    home = λ v e. ap (λ z. or_words z []) e;
    current = λ _ _. refl;
  }

  dirty_data : holds_data (dirty_world.state m).copy ≡ true
  dirty_data = with_data (dirty_world.state m).copy dirty_there

  settled_at : (n : ℕ) → (m ≡ n → is_dirty (most (o.told m)) ≡ true) → is_settled (o.public.due n) (o.told n) (dirty_world.state n) ≡ true
  settled_at = split (λ n. (m ≡ n → is_dirty (most (o.told m)) ≡ true) → is_settled (o.public.due n) (o.told n) (put m x tops n) ≡ true) m
      (λ h. subst (λ z. is_settled (o.public.due m) (o.told m) z ≡ true) (sym (here m x tops)) (dirty_settled (o.public.due m) (o.told m) (h refl)))
      (λ k d _. subst (λ z. is_settled (o.public.due k) (o.told k) z ≡ true) (sym (there m x tops k d)) (top_settled (o.public.due k) (o.told k)))

weaker : (a b c : Bool) → (a || (not b && c)) ≡ true → (a || c) ≡ true
weaker true b c h = refl
weaker false true c h = no h
weaker false false c h = h

surely : (a b c : Bool) → (a || (not b && c)) ≡ true → b ≡ true → a ≡ true
surely true b c h e = refl
surely false true c h e = no h
surely false false c h e = no e

-- A FLIT OF A CACHE
module _ (mode : Stores) (es : List Flit) (f : CacheFlit) (a : Accepted mode (Up f ∷ es)) (n : ℕ) where
  abbrev was : Observed
  was = seen mode es

  abbrev now : Observed
  now = next (seen mode es) f

  abbrev each_clean : ℕ → Bool
  each_clean k = k == n || not (may_be_dirty now.public.stores (now.public.due k) (now.told k) (tells_of (Up f) k))

  up_else : all_below 32 each_clean ≡ true → (k : ℕ) → k < 32 → k ≢ n → not (may_be_dirty now.public.stores (now.public.due k) (now.told k) (tells_of (Up f) k)) ≡ true
  up_else h k lk apart = one_of (k == n) _ (each_below 32 each_clean h k lk) (unlike k n apart)

  module _ (h : all_below 32 each_clean ≡ true) (w : World) (b : Behind mode (Up f ∷ es) w) where
    abbrev sends : Sends was.public f b.0 w
    sends = subst (λ p. Sends p f b.0 w) (sym (exact mode es a.0).public) b.2

    abbrev led : Meaning now w
    led = leads was f b.0 w (exact mode es a.0).sound a.1 ((exact mode es a.0).meant b.0 b.1) sends

    others_clean : (m : ℕ) → m < 32 → m ≢ n → is_dirty (w.state m).copy ≡ false
    others_clean m lm ne = clean_by was.public.stores (tells_of (Up f) m) (now.public.due m) (now.told m) (w.state m)
        (led.told m lm)
        (λ same. subst (λ k. may (now.told k).told (w.state k).copy ≡ true) (sym (eqb-true m f.agent.0 (left (m == f.agent.0) _ same)))
        (settled_sent was f b.0 w (exact mode es a.0).sound a.1 ((exact mode es a.0).meant b.0 b.1) sends (turned _ (right (m == f.agent.0) _ same))))
        (up_else h m lm ne)

    calm_each : is_dirty (w.state n).copy ≡ false → (k : ℕ) → k ≢ f.agent.0 → k < 32 → fresh was.public.stores (was.public.due k) (was.told k) (b.0.state k) ≡ false
    calm_each nd = split (λ k. k ≢ f.agent.0 → k < 32 → fresh was.public.stores (was.public.due k) (was.told k) (b.0.state k) ≡ false) n
        (λ apart lk. unstored_clean was.public.stores (was.public.due n) (was.told n) (b.0.state n) (subst (λ (z : Held). is_dirty z.copy ≡ false) (sends.others.state n lk apart) nd))
        (λ k ne apart lk. up_calm mode es f a b.0 k apart (not_stored (is_dirty (most (now.told k))) _ (up_else h k lk ne)))

    unstored_behind : looks f.act ≡ true → is_dirty (w.state n).copy ≡ false → Unstored now w
    unstored_behind load nd = split (λ k. k < 32 → fresh now.public.stores (now.public.due k) (now.told k) (w.state k) ≡ false) n
        (λ _. unstored_clean now.public.stores (now.public.due n) (now.told n) (w.state n) nd)
        (λ k ne lk. load_calm mode es f a load w k (not_stored (is_dirty (most (now.told k))) _ (up_else h k lk ne)))

    last_home : (l : Bool) → looks f.act ≡ l → is_dirty (w.state n).copy ≡ false → now.current ≡ true → w.last ≡ w.home
    last_home true l nd c = led.current c (unstored_behind l nd)
    last_home false l nd c = last_here was f b.0 w (exact mode es a.0).sound a.1 ((exact mode es a.0).meant b.0 b.1) sends l c (calm_each nd)

    value_home : n < 32 → is_dirty (w.state n).copy ≡ false → (c : Bool) → is_dirty (most (now.told n)) ≡ c → (is_dirty (most (now.told n)) || now.current) ≡ true → w.home ≡ w.last
    value_home low nd true hc e = no (sym nd ∙ told_dirty now.public.stores (now.public.due n) (now.told n) (w.state n) hc (led.told n low))
    value_home low nd false hc e = sym (last_home (looks f.act) refl nd (one_of (is_dirty (most (now.told n))) _ e hc))

  pub up_clean : n < 32 → none_dirty (next (seen mode es) f) (Up f) n ≡ true → NoneDirty mode (Up f ∷ es) n
  up_clean low h w b =
      let rest = right (is_dirty (most (now.told n)) || now.current) _ h in
      (others_clean rest w b, λ nd. value_home rest w b low nd (is_dirty (most (now.told n))) refl (left _ (all_below 32 each_clean) h))

  -- m's copy is dirty, and the flit didn't tell that it isn't
  dirty_settled_at : (m : ℕ) (can : can_be_dirty now.public.stores (now.public.due m) (now.told m) ≡ true) → (m ≡ f.agent.0 → is_dirty (most (now.told m)) ≡ true) → Behind mode (Up f ∷ es) (dirty_world now m can)
  dirty_settled_at m can h = up_behind mode es f a (dirty_world now m can) (record { undone = dirty_undone now m can f.agent.0; top = settled_at now m can f.agent.0 h })

  dirty_behind : (m : ℕ) (can : can_be_dirty now.public.stores (now.public.due m) (now.told m) ≡ true) (c : Bool) → (is_dirty (most (now.told m)) || (not (m == f.agent.0 && not (looks f.act)) && c)) ≡ true → (b l : Bool) → (m == f.agent.0) ≡ b → looks f.act ≡ l → Behind mode (Up f ∷ es) (dirty_world now m can)
  dirty_behind m can c d b false e g = dirty_settled_at m can (λ h. surely (is_dirty (most (now.told m))) (m == f.agent.0 && not (looks f.act)) c d
      (both (m == f.agent.0) _ (subst (λ k. (m == k) ≡ true) h (alike m)) (flip _ g)))
  dirty_behind m can c d false true e g = dirty_settled_at m can (λ h. no (sym e ∙ subst (λ k. (m == k) ≡ true) h (alike m)))
  dirty_behind m can c d true true e g = load_behind mode es f a g (dirty_world now m can) (dirty_meant now m can)
      (subst (λ k. holds_data ((dirty_world now m can).state k).copy ≡ true) (eqb-true m f.agent.0 e) (dirty_data now m can))

  pub up_none : NoneDirty mode (Up f ∷ es) n → none_dirty (next (seen mode es) f) (Up f) n ≡ true
  up_none all = both (is_dirty (most (now.told n)) || now.current) _
      (or_right (is_dirty (most (now.told n))) _ (λ nd. be_true now.current (λ c. others_differ (was_home now) ((all (lost_world now) (up_behind mode es f a (lost_world now) (lost_settled now f.agent.0 c))).1 nd))))
      (below_all 32 each_clean
      (λ m lm. or_right (m == n) _ (λ ne. not_true _ (λ d.
      let can : can_be_dirty now.public.stores (now.public.due m) (now.told m) ≡ true = weaker (is_dirty (most (now.told m))) (tells_of (Up f) m) _ d in
      let w2 = dirty_world now m can in
      sym ((all w2 (dirty_behind m can _ d (m == f.agent.0) (looks f.act) refl refl)).0 m lm (differ m n ne))
      ∙ dirty_there now m can))))

-- A FLIT OF THE HOME
module _ (mode : Stores) (es : List Flit) (g : HomeFlit) (a : Accepted mode (Down g ∷ es)) (n : ℕ) where
  abbrev kept : Observed
  kept = seen mode es

  abbrev left_so : Observed
  left_so = next_home (seen mode es) g

  abbrev each_left : ℕ → Bool
  each_left k = k == n || not (may_be_dirty left_so.public.stores (left_so.public.due k) (left_so.told k) (tells_of (Down g) k))

  down_else : all_below 32 each_left ≡ true → (k : ℕ) → k < 32 → k ≢ n → not (may_be_dirty left_so.public.stores (left_so.public.due k) (left_so.told k) (tells_of (Down g) k)) ≡ true
  down_else h k lk apart = one_of (k == n) _ (each_below 32 each_left h k lk) (unlike k n apart)

  module _ (h : all_below 32 each_left ≡ true) (w : World) (b : Behind mode (Down g ∷ es) w) where
    abbrev gives : Gives kept.public g b.0 w
    gives = subst (λ q. Gives q g b.0 w) (sym (exact mode es a.0).public) b.3

    abbrev meant : Meaning kept b.0
    meant = (exact mode es a.0).meant b.0 b.1

    abbrev given : Meaning left_so w
    given = home_leads kept g b.0 w (exact mode es a.0).sound a.1 a.2 meant b.2 gives

    settled : (needs_quiet g.grant || may (left_so.told g.agent.0).told (w.state g.agent.0).copy) ≡ true
    settled = subst (λ (x : Known). (needs_quiet g.grant || may x.told (w.state g.agent.0).copy) ≡ true) (sym (here g.agent.0 (told_granted g.grant (kept.public.due g.agent.0) (kept.told g.agent.0)) kept.told))
        (subst (λ (x : Held). (needs_quiet g.grant || may (told_granted g.grant (kept.public.due g.agent.0) (kept.told g.agent.0)).told x.copy) ≡ true) (sym gives.state) (settled_given kept g a.1 (left _ _ a.2) (b.0.state g.agent.0) (meant.told g.agent.0 a.1)))

    others_clean_then : (m : ℕ) → m < 32 → m ≢ n → is_dirty (w.state m).copy ≡ false
    others_clean_then m lm ne = clean_by kept.public.stores (tells_of (Down g) m) (left_so.public.due m) (left_so.told m) (w.state m)
        (given.told m lm)
        (λ same. subst (λ k. may (left_so.told k).told (w.state k).copy ≡ true) (sym (eqb-true m g.agent.0 (left (m == g.agent.0) _ same)))
        (one_of (needs_quiet g.grant) _ settled (turned _ (right (m == g.agent.0) _ same))))
        (down_else h m lm ne)

    -- its own copy wasn't stored to where it isn't dirty
    own_calm : is_dirty (w.state n).copy ≡ false → n < 32 → fresh kept.public.stores (kept.public.due n) (kept.told n) (b.0.state n) ≡ false
    own_calm nd low = split (λ k. is_dirty (w.state k).copy ≡ false → k < 32 → fresh kept.public.stores (kept.public.due k) (kept.told k) (b.0.state k) ≡ false) g.agent.0
        (λ x lk. unfresh kept g a.1 (left _ _ a.2) (b.0.state g.agent.0) (meant.told g.agent.0 a.1)
        (unstored_clean kept.public.stores (due_granted g.grant (kept.public.due g.agent.0)) (told_granted g.grant (kept.public.due g.agent.0) (kept.told g.agent.0)) (granted g.grant (kept.public.due g.agent.0) (b.0.state g.agent.0))
        (subst (λ (z : Held). is_dirty z.copy ≡ false) gives.state x)))
        (λ k apart x lk. unstored_clean kept.public.stores (kept.public.due k) (kept.told k) (b.0.state k) (subst (λ (z : Held). is_dirty z.copy ≡ false) (gives.others.state k lk apart) x))
        n nd low

    unstored_then : is_dirty (w.state n).copy ≡ false → Unstored (seen mode es) b.0
    unstored_then nd = split (λ k. k < 32 → fresh kept.public.stores (kept.public.due k) (kept.told k) (b.0.state k) ≡ false) n (own_calm nd)
        (λ k ne lk. down_calm mode es g a b.0 meant k lk (not_stored (is_dirty (most (left_so.told k))) _ (down_else h k lk ne)))

    value_then : n < 32 → is_dirty (w.state n).copy ≡ false → (c : Bool) → is_dirty (most (left_so.told n)) ≡ c → (is_dirty (most (left_so.told n)) || left_so.current) ≡ true → w.home ≡ w.last
    value_then low nd true hc e = no (sym nd ∙ told_dirty left_so.public.stores (left_so.public.due n) (left_so.told n) (w.state n) hc (given.told n low))
    value_then low nd false hc e = down_home mode es g a w b (one_of (is_dirty (most (left_so.told n))) _ e hc) (unstored_then nd)

  pub down_clean : n < 32 → none_dirty (next_home (seen mode es) g) (Down g) n ≡ true → NoneDirty mode (Down g ∷ es) n
  down_clean low h w b =
      let rest = right (is_dirty (most (left_so.told n)) || left_so.current) _ h in
      (others_clean_then rest w b, λ nd. value_then rest w b low nd (is_dirty (most (left_so.told n))) refl (left _ (all_below 32 each_left) h))

  pub down_none : NoneDirty mode (Down g ∷ es) n → none_dirty (next_home (seen mode es) g) (Down g) n ≡ true
  down_none all = both (is_dirty (most (left_so.told n)) || left_so.current) _
      (or_right (is_dirty (most (left_so.told n))) _ (λ nd. be_true left_so.current (λ c. others_differ (was_home left_so) ((all (lost_world left_so) (down_behind mode es g a (lost_world left_so) (lost_settled left_so g.agent.0 c))).1 nd))))
      (below_all 32 each_left
      (λ m lm. or_right (m == n) _ (λ ne. not_true _ (λ d.
      let e = exact mode es a.0 in
      let can : can_be_dirty left_so.public.stores (left_so.public.due m) (left_so.told m) ≡ true = weaker (is_dirty (most (left_so.told m))) (tells_of (Down g) m) _ d in
      let w2 = dirty_world left_so m can in
      let un = dirty_undone left_so m can g.agent.0 in
      let top : (needs_quiet g.grant || is_settled (left_so.public.due g.agent.0) (left_so.told g.agent.0) (w2.state g.agent.0)) ≡ true =
      or_right (needs_quiet g.grant) _ (λ q. settled_at left_so m can g.agent.0 (λ h. surely (is_dirty (most (left_so.told m))) (tells_of (Down g) m) _ d
      (both (m == g.agent.0) _ (subst (λ k. (m == k) ≡ true) h (alike m)) (flip _ q)))) in
      sym ((all w2 (world_given kept g w2, e.after (world_given kept g w2) (old_meant kept g w2 e.sound a.1 a.2 un top), old_informed kept g w2 e.sound a.1 a.2 un top, subst (λ q. Gives q g (world_given kept g w2) w2) e.public (old_gives kept g w2 e.sound a.1 a.2 un top))).0 m lm (differ m n ne))
      ∙ dirty_there left_so m can))))

-- WHOLE TRACES
split_or : (a b : Bool) → (a || b) ≡ true → (a ≡ true) ⊎ (b ≡ true)
split_or true b h = inl refl
split_or false b h = inr h

-- b: a ReadOnce is open
moment_by : (mode : Stores) (b x y : Bool) (es : List Flit) (n : ℕ) → (x ≡ true → HomeIsLast mode es) → (y ≡ true → NoneDirty mode es n) → (if b then x else y) ≡ true → IsMoment mode b es n
moment_by mode true x y es n f g h = f h
moment_by mode false x y es n f g h = g h

moment_of : (mode : Stores) (b x y : Bool) (es : List Flit) (n : ℕ) → (HomeIsLast mode es → x ≡ true) → (NoneDirty mode es n → y ≡ true) → IsMoment mode b es n → (if b then x else y) ≡ true
moment_of mode true x y es n f g h = f h
moment_of mode false x y es n f g h = g h

up_moment : (mode : Stores) (es : List Flit) (f : CacheFlit) (a : Accepted mode (Up f ∷ es)) (n : ℕ) → n < 32 → is_moment (next (seen mode es) f) (Up f) n ≡ true → IsMoment mode (reads_once ((next (seen mode es) f).public.due n)) (Up f ∷ es) n
up_moment mode es f a n low = moment_by mode (reads_once ((next (seen mode es) f).public.due n)) (home_is_last (next (seen mode es) f) (Up f)) (none_dirty (next (seen mode es) f) (Up f) n) (Up f ∷ es) n (up_last mode es f a) (up_clean mode es f a n low)

up_found : (mode : Stores) (es : List Flit) (f : CacheFlit) (a : Accepted mode (Up f ∷ es)) (n : ℕ) → IsMoment mode (reads_once ((next (seen mode es) f).public.due n)) (Up f ∷ es) n → is_moment (next (seen mode es) f) (Up f) n ≡ true
up_found mode es f a n = moment_of mode (reads_once ((next (seen mode es) f).public.due n)) (home_is_last (next (seen mode es) f) (Up f)) (none_dirty (next (seen mode es) f) (Up f) n) (Up f ∷ es) n (up_surely mode es f a) (up_none mode es f a n)

down_moment : (mode : Stores) (es : List Flit) (g : HomeFlit) (a : Accepted mode (Down g ∷ es)) (n : ℕ) → n < 32 → is_moment (next_home (seen mode es) g) (Down g) n ≡ true → IsMoment mode (reads_once ((next_home (seen mode es) g).public.due n)) (Down g ∷ es) n
down_moment mode es g a n low = moment_by mode (reads_once ((next_home (seen mode es) g).public.due n)) (home_is_last (next_home (seen mode es) g) (Down g)) (none_dirty (next_home (seen mode es) g) (Down g) n) (Down g ∷ es) n (down_last mode es g a) (down_clean mode es g a n low)

down_found : (mode : Stores) (es : List Flit) (g : HomeFlit) (a : Accepted mode (Down g ∷ es)) (n : ℕ) → IsMoment mode (reads_once ((next_home (seen mode es) g).public.due n)) (Down g ∷ es) n → is_moment (next_home (seen mode es) g) (Down g) n ≡ true
down_found mode es g a n = moment_of mode (reads_once ((next_home (seen mode es) g).public.due n)) (home_is_last (next_home (seen mode es) g) (Down g)) (none_dirty (next_home (seen mode es) g) (Down g) n) (Down g ∷ es) n (down_surely mode es g a) (down_none mode es g a n)

keep_cases : (mode : Stores) (es : List Flit) (e : Flit) (n : ℕ) (M : Type 0) (c : Bool) → (shown_by mode es n ≡ true → HasMoment mode es n) → (c ≡ true → M) → ((not (is_issue e n) && shown_by mode es n) ≡ true) ⊎ (c ≡ true) → ((is_issue e n ≡ false) × HasMoment mode es n) ⊎ M
keep_cases mode es e n M c before so (inl x) = inl (turned _ (left _ _ x), before (right (not (is_issue e n)) _ x))
keep_cases mode es e n M c before so (inr x) = inr (so x)

kept_moment : (mode : Stores) (es : List Flit) (e : Flit) (n : ℕ) (d : Due) → ((public_of mode (e ∷ es)).due n ≡ d) → (shown_by mode es n ≡ true → HasMoment mode es n) → (c : Bool) → (c ≡ true → IsMoment mode (reads_once d) (e ∷ es) n) → (awaits_moment d && ((not (is_issue e n) && shown_by mode es n) || c)) ≡ true → HasMoment mode (e ∷ es) n
kept_moment mode es e n d hd before c so h = (
  ap awaits_moment hd ∙ left (awaits_moment d) _ h,
  keep_cases mode es e n (IsMoment mode (reads_once ((public_of mode (e ∷ es)).due n)) (e ∷ es) n) c before (λ x. subst (λ z. IsMoment mode (reads_once z) (e ∷ es) n) (sym hd) (so x))
      (split_or (not (is_issue e n) && shown_by mode es n) c (right (awaits_moment d) _ h)),
)

lose_cases : (mode : Stores) (es : List Flit) (e : Flit) (n : ℕ) (M : Type 0) (c : Bool) → (HasMoment mode es n → shown_by mode es n ≡ true) → (M → c ≡ true) → ((is_issue e n ≡ false) × HasMoment mode es n) ⊎ M → ((not (is_issue e n) && shown_by mode es n) || c) ≡ true
lose_cases mode es e n M c before so (inl x) = or_here _ c (both _ _ (flip _ x.0) (before x.1))
lose_cases mode es e n M c before so (inr x) = or_there (not (is_issue e n) && shown_by mode es n) c (so x)

lost_moment : (mode : Stores) (es : List Flit) (e : Flit) (n : ℕ) (d : Due) → ((public_of mode (e ∷ es)).due n ≡ d) → (HasMoment mode es n → shown_by mode es n ≡ true) → (c : Bool) → (IsMoment mode (reads_once d) (e ∷ es) n → c ≡ true) → HasMoment mode (e ∷ es) n → (awaits_moment d && ((not (is_issue e n) && shown_by mode es n) || c)) ≡ true
lost_moment mode es e n d hd before c so h = both (awaits_moment d) _ (sym (ap awaits_moment hd) ∙ h.0)
    (lose_cases mode es e n (IsMoment mode (reads_once ((public_of mode (e ∷ es)).due n)) (e ∷ es) n) c before (λ x. so (subst (λ z. IsMoment mode (reads_once z) (e ∷ es) n) hd x)) h.1)

same_due : (mode : Stores) (es : List Flit) → Accepted mode es → (n : ℕ) → (public_of mode es).due n ≡ (seen mode es).public.due n
same_due mode es a n = ap (λ (p : Public). p.due n) (sym (exact mode es a).public)

pub moment_shown : (mode : Stores) (es : List Flit) → Accepted mode es → (n : ℕ) → n < 32 → shown_by mode es n ≡ true → HasMoment mode es n
moment_shown mode [] a n low h = no h
moment_shown mode (Up f ∷ es) a n low h = kept_moment mode es (Up f) n ((next (seen mode es) f).public.due n) (same_due mode (Up f ∷ es) a n) (moment_shown mode es a.0 n low)
    (is_moment (next (seen mode es) f) (Up f) n) (up_moment mode es f a n low) (right (waits_by mode (Up f ∷ es)) _ h)
moment_shown mode (Down g ∷ es) a n low h = kept_moment mode es (Down g) n ((next_home (seen mode es) g).public.due n) (same_due mode (Down g ∷ es) a n) (moment_shown mode es a.0 n low)
    (is_moment (next_home (seen mode es) g) (Down g) n) (down_moment mode es g a n low) (right (waits_by mode (Down g ∷ es)) _ h)

pub shown_moment : (mode : Stores) (es : List Flit) → Accepted mode es → (n : ℕ) → n < 32 → HasMoment mode es n → shown_by mode es n ≡ true
shown_moment mode [] a n low h = absurd h
shown_moment mode (Up f ∷ es) a n low h =
    let shown = lost_moment mode es (Up f) n ((next (seen mode es) f).public.due n) (same_due mode (Up f ∷ es) a n) (shown_moment mode es a.0 n low) (is_moment (next (seen mode es) f) (Up f) n) (up_found mode es f a n) h in
    both _ _ (wakes mode (Up f ∷ es) n low (left _ _ shown)) shown
shown_moment mode (Down g ∷ es) a n low h =
    let shown = lost_moment mode es (Down g) n ((next_home (seen mode es) g).public.due n) (same_due mode (Down g ∷ es) a n) (shown_moment mode es a.0 n low) (is_moment (next_home (seen mode es) g) (Down g) n) (down_found mode es g a n) h in
    both _ _ (wakes mode (Down g ∷ es) n low (left _ _ shown)) shown
