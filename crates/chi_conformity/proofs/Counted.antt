-- What the observer counts a load of a slice as: itself, or a store of the word that the copy has.
use Rattle.std.proofs.Common.{◌≡◌, ℕ, ◌<◌, List, [], ◌∷◌, refl, sym, ap, subst, ◌∙◌}
use Rattle.std.specs.Prelude.{◌==◌, Bool, true, false, ◌&&◌, ◌||◌, not, Option, None, nat_lt, if◌then◌else◌}
use Rattle.std.proofs.lemmas.Bool.{and_right, eqb-true}
use Rattle.chi_flit.specs.declared.numbers.Agent.{Agent}
use Rattle.chi_flit.specs.declared.numbers.Line.{Line}
use Rattle.chi_flit.specs.declared.numbers.WordNo.{WordNo}
use Rattle.chi_flit.specs.declared.action.Step.{Step}
use Rattle.chi_flit.specs.declared.action.Step.TheVariants as steps
use Rattle.chi_flit.specs.Message.{no_words}
use Rattle.chi_flit.specs.State.{is_valid}
use Rattle.chi_rnline.specs.Rn.{load_refusal}
use Rattle.chi_line.specs.LineState.{LineState, cells_of, rn_of}
use Rattle.chi_line.specs.declared.act.Conditions.{Conditions}
use Rattle.chi_line.specs.Kept.{Kept, Lane, lane}
use Rattle.chi_line.specs.Refused.{full_if, step_refusal}
use Rattle.chi_line.specs.Step.{after_step, is_step_in_range, step_record}
use Rattle.chi_line.proofs.After.{last_with, names_used_slot, neither}
use Rattle.chi_line.proofs.Frame.{Moves}
use Rattle.chi_observer.specs.declared.kinds.Snoop.{Snoop as SeenSnoop}
use Rattle.chi_observer.specs.declared.flits.Due.{Due}
use Rattle.chi_observer.specs.declared.flits.Word.{Word}
use Rattle.chi_observer.specs.declared.flits.Act.{Act}
use Rattle.chi_observer.specs.declared.flits.Act.TheVariants.{Load, Store}
use Rattle.chi_observer.specs.declared.flits.CacheFlit.{CacheFlit}
use Rattle.chi_observer.specs.declared.flits.Flit.{Flit}
use Rattle.chi_observer.specs.declared.flits.Flit.TheVariants.{Up, Down}
use Rattle.chi_observer.specs.Copies.{Copy, holds_data, is_unique, same}
use Rattle.chi_observer.specs.Copies.Copy.{Invalid}
use Rattle.chi_observer.specs.Rules.{are_hidden, lets_store, reads_any, word_at}
use Rattle.chi_observer.specs.Tables.{Known, most, told_after}
use Rattle.chi_observer.specs.Worlds.{World, put}
use Rattle.chi_observer.specs.Observed.{Observed, fits_word, next, takes}
use Rattle.chi_observer.specs.Counted.{HasWord, may_tell_store, stored, tells_store}
use Rattle.chi_observer.specs.Worded.{fits_known, tells_by_word}
use Rattle.chi_observer.specs.WordedLines.{WatchedWords, counted_by_word, is_taken_worded, takes_by_word, watch_by_word, watch_worded, worded_in}
use Rattle.chi_conformity.specs.Seen.{step_seen, up}
use Rattle.chi_conformity.proofs.Held.{Beside, Stands, held, is_given_up, world_of}
use Rattle.chi_conformity.proofs.Flits.{Laws, beside_put, cache_flit, meant_as}
use Rattle.chi_conformity.proofs.Acted.{Sent, low_agent}
use Rattle.chi_conformity.proofs.Accesses.{load_seen, loaded, loaded_word, no_data, valid_held}
use Rattle.chi_conformity.proofs.Steps.{load_valid, step_follows}
use Rattle.chi_conformity.proofs.StepWords.{loaded_last, plain_step, store_follows_by_word}
use Rattle.chi_conformity.proofs.Taken.{FollowsBy, up_taken}
use Rattle.chi_conformity.proofs.Told.{left, no, right}
use Rattle.chi_conformity.proofs.Words.{IsTakenWorded, StandsByWord, counted_known, is_access, is_plain, known_fits, load_known, not_access, plain_follows}

valid_copy : (c : Copy) → holds_data c ≡ true → same c Invalid ≡ false
valid_copy Invalid h = no h
valid_copy other h = refl

-- what is told of such a copy behind the store is no more than before
stored_beside : (given_up unique : Bool) (x : Lane) (d : Due) (q : Option SeenSnoop) (k : Known) (word : Word) (b : Bool) → is_unique (most k) ≡ true → holds_data (most k) ≡ true
    → Beside given_up unique x d q k → Beside given_up unique x d q (told_after (Store word) d k b)
stored_beside given_up unique x d q k word b one filled old = record {
  due_is = old.due_is;
  snooped_is = old.snooped_is;
  named = λ some. old.named (valid_copy (most k) filled);
  flagged = λ one'. old.flagged one;
  gone = λ g. no (sym (valid_copy (most k) filled) ∙ old.gone g);
  shared = λ h. no (sym (old.shared h) ∙ one);
}

same_put : (n : ℕ) (f : ℕ → Due) (m : ℕ) → put n (f n) f m ≡ f m
same_put n f m = go (m == n) refl
  where
    go : (b : Bool) → (m == n) ≡ b → (if b then f n else f m) ≡ f m
    go true e = ap f (sym (eqb-true m n e))
    go false e = refl

stays : (s : LineState) (n : ℕ) → Moves s s n (lane s n)
stays s n = record { at = refl; others = λ m other. refl; requesters = refl; flits = refl; named = refl; awaited = refl; waiting = refl }

-- the store is taken, and the slice, which doesn't store, stands beside what is told then
counted_sent : Laws → (o : Observed) (s : LineState) (last : List ℕ) (agent : Agent) (word : Word) → agent.0 < 8 → (stands : Stands last s o) → tells_store o agent.0 word ≡ true
    → HasWord agent.0 word (world_of o.public.due s last stands.home) → Sent o s last agent (Store word) no_words
counted_sent laws o s last agent word low stands tells has =
    let n : ℕ = agent.0 in
    let f : CacheFlit = cache_flit agent (Load word) no_words in
    let g : CacheFlit = cache_flit agent (Store word) no_words in
    let w : World = world_of o.public.due s last stands.home in
    let taken : takes o g ≡ true = (laws.counted_taken o f word refl tells).1 in
    let open_copy : (reads_any o.public.stores (o.public.due n) (most (o.told n)) && holds_data (most (o.told n))) ≡ true = right o.current _ (left (may_tell_store o n) _ tells) in
    let any : reads_any o.public.stores (o.public.due n) (most (o.told n)) ≡ true = left _ _ open_copy in
    let one : is_unique (most (o.told n)) ≡ true = right (lets_store (o.public.due n)) _ (right (are_hidden o.public.stores) _ any) in
    let filled : holds_data (most (o.told n)) ≡ true = right (reads_any o.public.stores (o.public.due n) (most (o.told n))) _ open_copy in (
      taken,
      record {
        home = stands.home;
        sound = laws.kept o g stands.sound (low_agent n low) taken;
        meant = meant_as (next o g) w (world_of (next o g).public.due s last stands.home)
            (λ k below. ap (held (lane s k)) (same_put n o.public.due k)) (λ k below. refl) refl refl
            (laws.counted_lead o f word w stands.sound (low_agent n low) tells stands.meant has);
        value = λ c. no c;
        thrown = ap (λ (b : Bool). b || false) stands.thrown;
        lanes = beside_put (is_given_up s.home.serving) s.home.filter.unique s s n (lane s n) o.public.due o.public.snooped o.told _ _ _ (stays s n)
            (stored_beside (is_given_up s.home.serving) s.home.filter.unique (lane s n) (o.public.due n) (o.public.snooped n) (o.told n) word _ one filled (stands.lanes n))
            (λ m other. stands.lanes m);
      },
    )

-- COUNTS
abbrev pub IsCounted : WatchedWords → Flit → Type 0
IsCounted w e = takes_by_word w e ≡ true

-- it counts as e'
counts_as : (w : WatchedWords) (Stand : WatchedWords → Type 0) (e e' : Flit) → counted_by_word w e ≡ e' → IsTakenWorded w e' × Stand (watch_worded w e') → IsCounted w e × Stand (watch_by_word w e)
counts_as w Stand e e' is t = (ap (is_taken_worded w) is ∙ t.0, subst (λ (x : Flit). Stand (watch_worded w x)) (sym is) t.1)

-- where the value isn't the home's and the word is as known, it tells of no store
tells_alike : (c x y z : Bool) → (c ≡ false → z ≡ false) → (if c then ((c && x) && y) else (x && z)) ≡ ((c && x) && y)
tells_alike true x y z h = refl
tells_alike false x y z h = and_right x z (h refl)

-- A LOAD
module _ (laws : Laws) (w : WatchedWords) (s : LineState) (last : List ℕ) (agent : Agent) (word : WordNo) (low : agent.0 < 8) (placed : nat_lt word.0 8 ≡ true) (kept : Kept last s) (stands : StandsByWord last s w) (may : load_refusal (rn_of s agent.0) ≡ None) where
  abbrev n : ℕ
  n = agent.0

  abbrev o : Observed
  o = w.line.seen

  abbrev read : Word
  read = loaded s agent.0 word

  abbrev f : CacheFlit
  f = cache_flit agent (Load read) no_words

  abbrev Goes : Type 0
  Goes = IsCounted w (Up f) × StandsByWord last s (watch_by_word w (Up f))

  valid : is_valid (rn_of s agent.0).state ≡ true
  valid = load_valid s agent.0 may

  value : word_at last word.0 ≡ read.value
  value = loaded_last last s agent.0 word.0 low kept may

  has : HasWord n read (world_of o.public.due s last stands.0.home)
  has = (
    valid_held (rn_of s n).state (cells_of s n).dat_down (cells_of s n).rsp_down valid,
    loaded_word (rn_of s n) (cells_of s n).dat_down word (no_data s.home.serving s.home.filter.unique s.home.filter.owner last n (lane s n) (kept.lanes n low) valid),
  )

  stored_taken : tells_store o n read ≡ true → IsTakenWorded w (Up (stored f read)) × StandsByWord last s (watch_worded w (Up (stored f read)))
  stored_taken tells =
      let open_copy : may_tell_store o n ≡ true = left (may_tell_store o n) _ tells in
      let any : reads_any o.public.stores (o.public.due n) (most (o.told n)) ≡ true = left _ _ (right o.current _ open_copy) in
      let hidden : are_hidden o.public.stores ≡ true = left _ _ any in
      let t = up_taken w.line s last agent (Store read) no_words low (counted_sent laws o s last agent read low stands.0 tells has) in
      let k = counted_known w agent read no_words last placed hidden (left o.current _ open_copy) stands.1 t.0 in
      (k.0, (t.1, k.1))

  load_taken : IsTakenWorded w (Up f) × StandsByWord last s (watch_worded w (Up f))
  load_taken =
      let t = up_taken w.line s last agent (Load read) no_words low (load_seen laws o s last agent word low kept stands.0 valid) in
      let k = load_known w agent read no_words last placed value stands.1 t.0 in
      (k.0, (t.1, k.1))

  -- it counts as what the home's words tell
  alike : (nat_lt n 32 && tells_by_word (worded_in w) n read) ≡ (nat_lt n 32 && tells_store o n read)
  alike = ap (λ (b : Bool). nat_lt n 32 && b)
      (tells_alike o.current (reads_any o.public.stores (o.public.due n) (most (o.told n)) && holds_data (most (o.told n))) (not (fits_word o.home (Load read))) (not (fits_known (w.words word.0) read.value))
      (λ c. ap not (known_fits w read last placed value stands.1 c)))

  by : (b : Bool) → (nat_lt n 32 && tells_store o n read) ≡ b → Goes
  by true e = counts_as w (StandsByWord last s) (Up f) (Up (stored f read)) (ap (λ (b : Bool). Up (if b then stored f read else f)) (alike ∙ e))
      (stored_taken (right (nat_lt n 32) _ e))
  by false e = counts_as w (StandsByWord last s) (Up f) (Up f) (ap (λ (b : Bool). Up (if b then stored f read else f)) (alike ∙ e)) load_taken

  load_counted : Goes
  load_counted = by (nat_lt agent.0 32 && tells_store o agent.0 (loaded s agent.0 word)) refl

-- EACH STEP
plain_act : (w : WatchedWords) (n : Agent) (act : Act) (shown : List ℕ) → is_access act ≡ false → counted_by_word w (up n act shown) ≡ up n act shown
plain_act w n (Load word) shown h = no (sym h)
plain_act w n other shown h = refl

plain_counted : (flits : List Flit) (w : WatchedWords) (Stand : WatchedWords → Type 0) → is_plain flits ≡ true → FollowsBy IsTakenWorded watch_worded Stand w flits → FollowsBy IsCounted watch_by_word Stand w flits
plain_counted [] w Stand plain follows = follows
plain_counted (Down g ∷ flits) w Stand plain follows = (follows.0, plain_counted flits (watch_worded w (Down g)) Stand plain follows.1)
plain_counted (Up f ∷ []) w Stand plain follows =
    counts_as w Stand (Up f) (Up f) (plain_act w f.agent f.act f.shown (not_access (is_access f.act) plain)) follows
plain_counted (Up f ∷ flit ∷ flits) w Stand plain follows = no plain

pub step_follows_by_word : Laws → (c : Conditions) (last : List ℕ) (s : LineState) (agent : Agent) (line : Line) (step : Step) (w : WatchedWords) → agent.0 < 8 → is_step_in_range step ≡ true
    → step_refusal c s agent step ≡ None → (c.slot_used ≡ false → names_used_slot s agent.0 step ≡ false) → Kept last s → StandsByWord last s w
    → FollowsBy IsCounted watch_by_word (StandsByWord (last_with line.0 last (step_record s agent line step)) (after_step c.profile s agent step)) w (step_seen c.profile s agent step)
step_follows_by_word laws c last s agent line (steps.Load word) w low placed allowed free kept stands =
    load_counted laws w s last agent word low placed kept stands (neither (load_refusal (rn_of s agent.0)) (full_if c.journal_full) allowed).0
step_follows_by_word laws c last s agent line (steps.Store word value) w low placed allowed free kept stands =
    store_follows_by_word laws c last s agent line word value w low placed allowed free kept stands
step_follows_by_word laws c last s agent line other w low placed allowed free kept stands =
    plain_counted (step_seen c.profile s agent other) w (StandsByWord (last_with line.0 last (step_record s agent line other)) (after_step c.profile s agent other))
    (plain_step c.profile s agent other refl)
    (plain_follows (step_seen c.profile s agent other) w last (after_step c.profile s agent other) (plain_step c.profile s agent other refl) stands.1
    (step_follows laws c last s agent line other w.line low allowed free kept stands.0))
