-- Right behind a flit the home's own copy is surely the value last stored where that is kept, and else in some world not.
use Rattle.std.proofs.Common.{◌≡◌, ◌≢◌, ℕ, ◌<◌, List, [], ◌∷◌, refl, sym, ap, subst, ◌∙◌}
use Rattle.std.specs.Prelude.{Bool, true, false, ◌&&◌, ◌||◌, ◌==◌, not, if◌then◌else◌}
use Rattle.std.proofs.lemmas.Bool.{eqb-true}
use Rattle.chi_flit.specs.declared.numbers.Agent.{Agent}
use Rattle.chi_observer.specs.declared.kinds.Snoop.{Snoop}
use Rattle.chi_observer.specs.declared.flits.Due.{Due}
use Rattle.chi_observer.specs.declared.flits.Stores.{Stores}
use Rattle.chi_observer.specs.declared.flits.Stores.TheVariants.{Hidden, Listed}
use Rattle.chi_observer.specs.declared.flits.Grant.{Grant}
use Rattle.chi_observer.specs.declared.flits.Grant.TheVariants.{RetryAck, Snp, CompData, CompUC, CompSC, CompI, CompDBIDResp}
use Rattle.chi_observer.specs.declared.flits.CacheFlit.{CacheFlit}
use Rattle.chi_observer.specs.declared.flits.HomeFlit.{HomeFlit}
use Rattle.chi_observer.specs.declared.flits.Flit.{Flit}
use Rattle.chi_observer.specs.declared.flits.Flit.TheVariants.{Up, Down}
use Rattle.chi_observer.specs.Copies.{Held, holds_data, is_unique}
use Rattle.chi_observer.specs.Copies.Copy.{UniqueDirty}
use Rattle.chi_observer.specs.Rules.{hides_stores, is_resending, looks, needs_quiet, granted, makes, settles, due_granted}
use Rattle.chi_observer.specs.Tables.{Known, most, reach, fresh, told_granted}
use Rattle.chi_observer.specs.Worlds.{World, Sends, Gives, put}
use Rattle.chi_observer.specs.Observed.{Observed, Unstored, Meaning, next, next_home}
use Rattle.chi_observer.specs.Moments.{tells_of, may_be_stored, home_is_last}
use Rattle.chi_observer.specs.Runs.{seen, Behind, HomeIsLast, Accepted}
use Rattle.chi_observer.proofs.Finite.{no, left, right, both, implies, follow}
use Rattle.chi_observer.proofs.Spots.{DueCopies, each_due_copy}
use Rattle.chi_observer.proofs.Facts.{turned, and_false, calm_copy, top_copy, reach_self, is_settled}
use Rattle.chi_observer.proofs.Words.{or_words, others_than, others_differ, be_true}
use Rattle.chi_observer.proofs.Put.{here, there, split, differ, unlike}
use Rattle.chi_observer.proofs.Rewind.{Settled}
use Rattle.chi_observer.proofs.Grants.{calm_given, settled_unmade}
use Rattle.chi_observer.proofs.Copies.{each_below, below_all, unfresh, fitting}
use Rattle.chi_observer.proofs.Cache.{leads, last_here}
use Rattle.chi_observer.proofs.Loads.{load_meant, load_sends}
use Rattle.chi_observer.proofs.Back.{world_before, before_meant, before_sends}
use Rattle.chi_observer.proofs.Origin.{world_given, old_meant, old_informed, old_gives}
use Rattle.chi_observer.proofs.Tops.{top_settled}
use Rattle.chi_observer.proofs.Runs.{exact}

or_right : (a b : Bool) → (a ≡ false → b ≡ true) → (a || b) ≡ true
or_right true b h = refl
or_right false b h = h refl

not_true : (a : Bool) → (a ≡ true → false ≡ true) → not a ≡ true
not_true true h = h refl
not_true false h = refl

one_of : (a b : Bool) → (a || b) ≡ true → a ≡ false → b ≡ true
one_of true b h e = no (sym e)
one_of false b h e = h

-- A COPY THAT CAN'T HAVE BEEN STORED TO
-- b: the flit told of another copy, or of none
pub calm_by : (mode : Stores) (b : Bool) (d : Due) (t : Known) (s : Held) → b ≡ false → not (may_be_stored mode d t b) ≡ true → fresh mode d t s ≡ false
calm_by mode true d t s e h = no (sym e)
calm_by mode false d t s e h = calm_copy mode d t s h

-- A COPY THAT MAY HAVE BEEN
abbrev pub stored_top : Due → Held
stored_top d = record { copy = UniqueDirty; cancelled = is_resending d }

stored_table : Stores → Due → Known → Held → Bool
stored_table mode d t s = implies (hides_stores mode d && is_unique (most t)) (reach mode d t (stored_top d) && fresh mode d t (stored_top d))

stored_holds : (mode : Stores) → DueCopies (stored_table mode)
unfolding stored_table
stored_holds Hidden k = refl
stored_holds Listed k = refl

pub stored_found : (mode : Stores) (d : Due) (t : Known) → (hides_stores mode d && is_unique (most t)) ≡ true → (reach mode d t (stored_top d) && fresh mode d t (stored_top d)) ≡ true
unfolding stored_table
stored_found mode d t = follow _ _ (each_due_copy (stored_table mode) (stored_holds mode) d t (top_copy d t))

-- each copy the strongest, and the value last stored isn't the home's
module _ (o : Observed) where
  abbrev pub tops : ℕ → Held
  tops k = top_copy (o.public.due k) (o.told k)

  abbrev pub was_home : List ℕ
  was_home = or_words o.home []

  abbrev pub lost_world : World
  lost_world = record { state = tops; words = λ _. others_than was_home; last = others_than was_home; home = was_home }

  lost_meant : o.current ≡ false → Meaning o lost_world
  lost_meant c = record {
    told = λ k _. reach_self o.public.stores (o.public.due k) (o.told k);
    words = λ _ _ _. refl;
    home = λ v e. ap (λ z. or_words z []) e;
    current = λ e u. no (sym c ∙ e);
  }

  pub lost_settled : (n : ℕ) → o.current ≡ false → Settled o n lost_world
  lost_settled n c = record {
    undone = record {
      told = λ k _. reach_self o.public.stores (o.public.due k) (o.told k);
      words = λ _ _ _. refl;
      home = λ v e. ap (λ z. or_words z []) e;
      current = λ e u. no (sym c ∙ e);
    };
    top = top_settled (o.public.due n) (o.told n);
  }

  -- m has stored
  module _ (m : ℕ) (lm : m < 32) (can : (hides_stores o.public.stores (o.public.due m) && is_unique (most (o.told m))) ≡ true) where
    abbrev x : Held
    x = stored_top (o.public.due m)

    abbrev stored_world : World
    stored_world = record { state = put m x tops; words = λ _. others_than was_home; last = others_than was_home; home = was_home }

    stored_told : (k : ℕ) → k < 32 → reach o.public.stores (o.public.due k) (o.told k) (put m x tops k) ≡ true
    stored_told = split (λ k. k < 32 → reach o.public.stores (o.public.due k) (o.told k) (put m x tops k) ≡ true) m
        (λ _. subst (λ z. reach o.public.stores (o.public.due m) (o.told m) z ≡ true) (sym (here m x tops)) (left _ _ (stored_found o.public.stores (o.public.due m) (o.told m) can)))
        (λ k h _. subst (λ z. reach o.public.stores (o.public.due k) (o.told k) z ≡ true) (sym (there m x tops k h)) (reach_self o.public.stores (o.public.due k) (o.told k)))

    stored_fresh : fresh o.public.stores (o.public.due m) (o.told m) (put m x tops m) ≡ true
    stored_fresh = subst (λ z. fresh o.public.stores (o.public.due m) (o.told m) z ≡ true) (sym (here m x tops)) (right (reach o.public.stores (o.public.due m) (o.told m) x) _ (stored_found o.public.stores (o.public.due m) (o.told m) can))

    stored_meant : Meaning o stored_world
    stored_meant = record {
      told = stored_told;
      words = λ _ _ _. refl;
      home = λ v e. ap (λ z. or_words z []) e;
      current = λ e u. no (sym (u m lm) ∙ stored_fresh);
    }

    stored_data : holds_data (put m x tops m).copy ≡ true
    stored_data = subst (λ (z : Held). holds_data z.copy ≡ true) (sym (here m x tops)) refl

    stored_settled : (n : ℕ) → m ≢ n → Settled o n stored_world
    stored_settled n apart = record {
      undone = record {
        told = stored_told;
        words = λ _ _ _. refl;
        home = λ v e. ap (λ z. or_words z []) e;
        current = λ e u. no (sym (u m apart lm) ∙ stored_fresh);
      };
      top = subst (λ z. is_settled (o.public.due n) (o.told n) z ≡ true) (sym (there m x tops n (λ e. apart (sym e)))) (top_settled (o.public.due n) (o.told n));
    }

-- A FLIT OF A CACHE
module _ (mode : Stores) (es : List Flit) (f : CacheFlit) (a : Accepted mode (Up f ∷ es)) where
  abbrev was : Observed
  was = seen mode es

  abbrev now : Observed
  now = next (seen mode es) f

  abbrev at : ℕ
  at = f.agent.0

  pub up_calm : (w : World) (k : ℕ) → k ≢ at → not (may_be_stored now.public.stores (now.public.due k) (now.told k) (tells_of (Up f) k)) ≡ true → fresh was.public.stores (was.public.due k) (was.told k) (w.state k) ≡ false
  up_calm w k apart h = subst (λ d. fresh was.public.stores d (was.told k) (w.state k) ≡ false) (there at _ was.public.due k apart)
      (subst (λ t. fresh now.public.stores (now.public.due k) t (w.state k) ≡ false) (there at _ was.told k apart)
      (calm_by was.public.stores (k == at && not (looks f.act)) (now.public.due k) (now.told k) (w.state k) (ap (λ b. b && not (looks f.act)) (unlike k at apart)) h))

  -- behind a load nobody's copy is told anew
  pub load_calm : looks f.act ≡ true → (w : World) (k : ℕ) → not (may_be_stored now.public.stores (now.public.due k) (now.told k) (tells_of (Up f) k)) ≡ true → fresh now.public.stores (now.public.due k) (now.told k) (w.state k) ≡ false
  load_calm load w k h = calm_by was.public.stores (tells_of (Up f) k) (now.public.due k) (now.told k) (w.state k) (and_false (k == at) _ (ap not load)) h

  last_by : (b : Bool) → looks f.act ≡ b → home_is_last (next (seen mode es) f) (Up f) ≡ true → HomeIsLast mode (Up f ∷ es)
  last_by true l h w v =
      let e = exact mode es a.0 in
      let sends : Sends was.public f v.0 w = subst (λ p. Sends p f v.0 w) (sym e.public) v.2 in
      sym ((leads was f v.0 w e.sound a.1 (e.meant v.0 v.1) sends).current (left now.current _ h)
      (λ k lk. load_calm l w k (each_below 32 (λ m. not (may_be_stored now.public.stores (now.public.due m) (now.told m) (tells_of (Up f) m))) (right now.current _ h) k lk)))
  last_by false l h w v =
      let e = exact mode es a.0 in
      let sends : Sends was.public f v.0 w = subst (λ p. Sends p f v.0 w) (sym e.public) v.2 in
      sym (last_here was f v.0 w e.sound a.1 (e.meant v.0 v.1) sends l (left now.current _ h)
      (λ k apart lk. up_calm v.0 k apart (each_below 32 (λ m. not (may_be_stored now.public.stores (now.public.due m) (now.told m) (tells_of (Up f) m))) (right now.current _ h) k lk)))

  pub up_last : home_is_last (next (seen mode es) f) (Up f) ≡ true → HomeIsLast mode (Up f ∷ es)
  up_last h = last_by (looks f.act) refl h

  pub up_behind : (w2 : World) → Settled now at w2 → Behind mode (Up f ∷ es) w2
  up_behind w2 st =
      let e = exact mode es a.0 in
      (world_before was f w2, e.after (world_before was f w2) (before_meant was f w2 e.sound a.1 a.2 st), subst (λ p. Sends p f (world_before was f w2) w2) e.public (before_sends was f w2 e.sound a.1 a.2 st))

  -- a load changes nothing of a world with data
  pub load_behind : looks f.act ≡ true → (w2 : World) → Meaning now w2 → holds_data (w2.state at).copy ≡ true → Behind mode (Up f ∷ es) w2
  load_behind load w2 m has =
      let e = exact mode es a.0 in
      (w2, e.after w2 (load_meant was f w2 a.1 a.2 load m has), subst (λ p. Sends p f w2 w2) e.public (load_sends was f w2 a.1 a.2 load m has))

  shown_false : (w2 : World) → Settled now at w2 → HomeIsLast mode (Up f ∷ es) → w2.home ≡ w2.last
  shown_false w2 st all = all w2 (up_behind w2 st)

  -- m has stored, and the flit didn't tell of its copy
  stored_false : (m : ℕ) (lm : m < 32) (can : (hides_stores now.public.stores (now.public.due m) && is_unique (most (now.told m))) ≡ true) → (b l : Bool) → (m == at) ≡ b → looks f.act ≡ l → not (b && not l) ≡ true → HomeIsLast mode (Up f ∷ es) → was_home now ≡ others_than (was_home now)
  stored_false m lm can false l e g h all = shown_false (stored_world now m lm can) (stored_settled now m lm can at (differ m at e)) all
  stored_false m lm can true false e g h all = no h
  stored_false m lm can true true e g h all = all (stored_world now m lm can)
      (load_behind g (stored_world now m lm can) (stored_meant now m lm can) (subst (λ k. holds_data ((stored_world now m lm can).state k).copy ≡ true) (eqb-true m at e) (stored_data now m lm can)))

  pub up_surely : HomeIsLast mode (Up f ∷ es) → home_is_last (next (seen mode es) f) (Up f) ≡ true
  up_surely all = both now.current _
      (be_true now.current (λ c. others_differ (was_home now) (shown_false (lost_world now) (lost_settled now at c) all)))
      (below_all 32 (λ m. not (may_be_stored now.public.stores (now.public.due m) (now.told m) (tells_of (Up f) m))) (λ m lm. not_true _ (λ d.
      let can : (hides_stores now.public.stores (now.public.due m) && is_unique (most (now.told m))) ≡ true = right (not (tells_of (Up f) m)) _ d in
      others_differ (was_home now) (stored_false m lm can (m == at) (looks f.act) refl refl (left _ _ d) all))))

-- A FLIT OF THE HOME
module _ (mode : Stores) (es : List Flit) (g : HomeFlit) (a : Accepted mode (Down g ∷ es)) where
  abbrev kept : Observed
  kept = seen mode es

  abbrev left_so : Observed
  left_so = next_home (seen mode es) g

  abbrev to : ℕ
  to = g.agent.0

  abbrev d' : Due
  d' = due_granted g.grant (kept.public.due to)

  abbrev t' : Known
  t' = told_granted g.grant (kept.public.due to) (kept.told to)

  module _ (w : World) (m : Meaning (seen mode es) w) where
    calm_at : (b : Bool) → needs_quiet g.grant ≡ b → not (may_be_stored left_so.public.stores (left_so.public.due to) (left_so.told to) (tells_of (Down g) to)) ≡ true → fresh kept.public.stores (kept.public.due to) (kept.told to) (w.state to) ≡ false
    calm_at false q h = turned _ (one_of (needs_quiet g.grant) _ (calm_given kept.public.stores g.grant (kept.public.due to) (kept.public.snooped to) (kept.told to) (w.state to) (fitting kept g a.1 (left _ _ a.2))) q)
    calm_at true q h = unfresh kept g a.1 (left _ _ a.2) (w.state to) (m.told to a.1)
        (subst (λ d. fresh kept.public.stores d t' (granted g.grant (kept.public.due to) (w.state to)) ≡ false) (here to d' kept.public.due)
        (subst (λ t. fresh left_so.public.stores (left_so.public.due to) t (granted g.grant (kept.public.due to) (w.state to)) ≡ false) (here to t' kept.told)
        (calm_by kept.public.stores (tells_of (Down g) to) (left_so.public.due to) (left_so.told to) (granted g.grant (kept.public.due to) (w.state to)) (snooped_none (to == to) (needs_quiet g.grant) q) h)))
      where
        snooped_none : (b q : Bool) → q ≡ true → (b && not q) ≡ false
        snooped_none true q e = ap not e
        snooped_none false q e = refl

    pub down_calm : (k : ℕ) → k < 32 → not (may_be_stored left_so.public.stores (left_so.public.due k) (left_so.told k) (tells_of (Down g) k)) ≡ true → fresh kept.public.stores (kept.public.due k) (kept.told k) (w.state k) ≡ false
    down_calm = split (λ k. k < 32 → not (may_be_stored left_so.public.stores (left_so.public.due k) (left_so.told k) (tells_of (Down g) k)) ≡ true → fresh kept.public.stores (kept.public.due k) (kept.told k) (w.state k) ≡ false) to
        (λ _ h. calm_at (needs_quiet g.grant) refl h)
        (λ k apart lk h. subst (λ d. fresh kept.public.stores d (kept.told k) (w.state k) ≡ false) (there to d' kept.public.due k apart)
        (subst (λ t. fresh left_so.public.stores (left_so.public.due k) t (w.state k) ≡ false) (there to t' kept.told k apart)
        (calm_by kept.public.stores (tells_of (Down g) k) (left_so.public.due k) (left_so.told k) (w.state k) (ap (λ b. b && not (needs_quiet g.grant)) (unlike k to apart)) h)))

  -- the home has the value where nobody had stored before
  module _ (w : World) (b : Behind mode (Down g ∷ es) w) where
    abbrev sent_in : Gives kept.public g b.0 w
    sent_in = subst (λ q. Gives q g b.0 w) (sym (exact mode es a.0).public) b.3

    home_by : (z : Bool) → settles g.grant (kept.public.due to) ≡ z → left_so.current ≡ true → Unstored (seen mode es) b.0 → w.home ≡ w.last
    home_by true z c u = sent_in.home ∙ sym (sent_in.last (settled_unmade g.grant (kept.public.due to) z) ∙ ap (λ q. if q then b.0.home else b.0.last) z)
    home_by false z c u =
        let still : (kept.current && not (makes g.grant (kept.public.due to))) ≡ true = one_of (settles g.grant (kept.public.due to)) _ c z in
        sent_in.home ∙ sym (((exact mode es a.0).meant b.0 b.1).current (left kept.current _ still) u)
        ∙ sym (sent_in.last (turned _ (right kept.current _ still)) ∙ ap (λ q. if q then b.0.home else b.0.last) z)

    pub down_home : left_so.current ≡ true → Unstored (seen mode es) b.0 → w.home ≡ w.last
    down_home c u = home_by (settles g.grant (kept.public.due to)) refl c u

  pub down_last : home_is_last (next_home (seen mode es) g) (Down g) ≡ true → HomeIsLast mode (Down g ∷ es)
  down_last h w b = down_home w b (left left_so.current _ h) (λ k lk. down_calm b.0 ((exact mode es a.0).meant b.0 b.1) k lk
      (each_below 32 (λ m. not (may_be_stored left_so.public.stores (left_so.public.due m) (left_so.told m) (tells_of (Down g) m))) (right left_so.current _ h) k lk))

  pub down_behind : (w2 : World) → Settled left_so to w2 → Behind mode (Down g ∷ es) w2
  down_behind w2 st =
      let e = exact mode es a.0 in
      let un = st.undone in
      let top : (needs_quiet g.grant || is_settled (left_so.public.due to) (left_so.told to) (w2.state to)) ≡ true = or_right (needs_quiet g.grant) _ (λ _. st.top) in
      (world_given kept g w2, e.after (world_given kept g w2) (old_meant kept g w2 e.sound a.1 a.2 un top), old_informed kept g w2 e.sound a.1 a.2 un top, subst (λ q. Gives q g (world_given kept g w2) w2) e.public (old_gives kept g w2 e.sound a.1 a.2 un top))

  down_false : (w2 : World) → Settled left_so to w2 → HomeIsLast mode (Down g ∷ es) → w2.home ≡ w2.last
  down_false w2 st all = all w2 (down_behind w2 st)

  given_surely : needs_quiet g.grant ≡ false → HomeIsLast mode (Down g ∷ es) → home_is_last (next_home (seen mode es) g) (Down g) ≡ true
  given_surely q all = both left_so.current _
      (be_true left_so.current (λ c. others_differ (was_home left_so) (down_false (lost_world left_so) (lost_settled left_so to c) all)))
      (below_all 32 (λ m. not (may_be_stored left_so.public.stores (left_so.public.due m) (left_so.told m) (tells_of (Down g) m))) (λ m lm. not_true _ (λ d.
      let can : (hides_stores left_so.public.stores (left_so.public.due m) && is_unique (most (left_so.told m))) ≡ true = right (not (tells_of (Down g) m)) _ d in
      others_differ (was_home left_so) (down_false (stored_world left_so m lm can) (stored_settled left_so m lm can to (differ m to (apart (m == to) (needs_quiet g.grant) _ q d))) all))))
    where
      apart : (b q c : Bool) → q ≡ false → (not (b && not q) && c) ≡ true → b ≡ false
      apart true true c e h = no (sym e)
      apart true false c e h = no h
      apart false q c e h = refl

-- a snoop changes nothing of what a world is
abbrev pub snoop_to : Agent → Snoop → List ℕ → HomeFlit
snoop_to agent x shown = record { agent = agent; grant = Snp x; shown = shown }

module _ (mode : Stores) (es : List Flit) (agent : Agent) (x : Snoop) (shown : List ℕ) (a : Accepted mode (Down (snoop_to agent x shown) ∷ es)) where
  abbrev past : Observed
  past = seen mode es

  abbrev asked : Observed
  asked = next_home (seen mode es) (snoop_to agent x shown)

  same_due : (k : ℕ) → asked.public.due k ≡ past.public.due k
  same_due = split (λ k. put agent.0 (past.public.due agent.0) past.public.due k ≡ past.public.due k) agent.0 (here agent.0 _ past.public.due) (λ k h. there agent.0 _ past.public.due k h)

  same_told : (k : ℕ) → asked.told k ≡ past.told k
  same_told = split (λ k. put agent.0 (past.told agent.0) past.told k ≡ past.told k) agent.0 (here agent.0 _ past.told) (λ k h. there agent.0 _ past.told k h)

  same_current : asked.current ≡ past.current
  same_current = all_true past.current
    where
      all_true : (c : Bool) → (c && true) ≡ c
      all_true true = refl
      all_true false = refl

  past_meant : (w : World) → Meaning asked w → Meaning past w
  past_meant w m = record {
    told = λ k lk. subst (λ d. reach past.public.stores d (past.told k) (w.state k) ≡ true) (same_due k) (subst (λ t. reach asked.public.stores (asked.public.due k) t (w.state k) ≡ true) (same_told k) (m.told k lk));
    words = m.words;
    home = m.home;
    current = λ c u. m.current (same_current ∙ c) (λ k lk. subst (λ d. fresh past.public.stores d (asked.told k) (w.state k) ≡ false) (sym (same_due k)) (subst (λ t. fresh past.public.stores (past.public.due k) t (w.state k) ≡ false) (sym (same_told k)) (u k lk)));
  }

  snoop_false : (w : World) → Meaning asked w → HomeIsLast mode (Down (snoop_to agent x shown) ∷ es) → w.home ≡ w.last
  snoop_false w m all = all w (
    w,
    (exact mode es a.0).after w (past_meant w m),
    λ f. no f,
    record {
      state = refl;
      home = refl;
      words = λ _ _. refl;
      last = λ _. refl;
      made = λ f. no f;
      others = record { state = λ _ _ _. refl; words = λ _ _ _. refl };
    },
  )

  snoop_surely : HomeIsLast mode (Down (snoop_to agent x shown) ∷ es) → home_is_last asked (Down (snoop_to agent x shown)) ≡ true
  snoop_surely all = both asked.current _
      (be_true asked.current (λ c. others_differ (was_home asked) (snoop_false (lost_world asked) (lost_meant asked c) all)))
      (below_all 32 (λ m. not (may_be_stored asked.public.stores (asked.public.due m) (asked.told m) (tells_of (Down (snoop_to agent x shown)) m))) (λ m lm. not_true _ (λ d.
      let can : (hides_stores asked.public.stores (asked.public.due m) && is_unique (most (asked.told m))) ≡ true = right (not (tells_of (Down (snoop_to agent x shown)) m)) _ d in
      others_differ (was_home asked) (snoop_false (stored_world asked m lm can) (stored_meant asked m lm can) all))))

quiet_surely : (mode : Stores) (es : List Flit) (agent : Agent) (grant : Grant) (shown : List ℕ) (a : Accepted mode (Down (record { agent = agent; grant = grant; shown = shown }) ∷ es)) → needs_quiet grant ≡ true
    → HomeIsLast mode (Down (record { agent = agent; grant = grant; shown = shown }) ∷ es) → home_is_last (next_home (seen mode es) (record { agent = agent; grant = grant; shown = shown })) (Down (record { agent = agent; grant = grant; shown = shown })) ≡ true
quiet_surely mode es agent (Snp x) shown a q = snoop_surely mode es agent x shown a
quiet_surely mode es agent RetryAck shown a q = no q
quiet_surely mode es agent (CompData s) shown a q = no q
quiet_surely mode es agent CompUC shown a q = no q
quiet_surely mode es agent CompSC shown a q = no q
quiet_surely mode es agent CompI shown a q = no q
quiet_surely mode es agent CompDBIDResp shown a q = no q

surely_by : (mode : Stores) (es : List Flit) (g : HomeFlit) (a : Accepted mode (Down g ∷ es)) (b : Bool) → needs_quiet g.grant ≡ b → HomeIsLast mode (Down g ∷ es) → home_is_last (next_home (seen mode es) g) (Down g) ≡ true
surely_by mode es g a true q = quiet_surely mode es g.agent g.grant g.shown a q
surely_by mode es g a false q = given_surely mode es g a q

pub down_surely : (mode : Stores) (es : List Flit) (g : HomeFlit) (a : Accepted mode (Down g ∷ es)) → HomeIsLast mode (Down g ∷ es) → home_is_last (next_home (seen mode es) g) (Down g) ≡ true
down_surely mode es g a = surely_by mode es g a (needs_quiet g.grant) refl
