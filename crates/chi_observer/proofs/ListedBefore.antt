-- Before a store, or a write without a copy, there may have been other words, and a copy that was told to be without data
-- may have been so: the flit is sent as it was.
use Rattle.std.proofs.Common.{◌≡◌, ◌≢◌, ℕ, ◌<◌, List, refl, sym, ap, subst, ◌∙◌}
use Rattle.std.specs.Prelude.{Bool, true, false, ◌&&◌, ◌||◌, not, Some, None, if◌then◌else◌}
use Rattle.chi_observer.specs.declared.flits.Act.{Act}
use Rattle.chi_observer.specs.declared.flits.Act.TheVariants.{NonCopyBackWrData, Store}
use Rattle.chi_observer.specs.declared.flits.CacheFlit.{CacheFlit}
use Rattle.chi_observer.specs.declared.flits.Due.{Due}
use Rattle.chi_observer.specs.declared.flits.Due.TheVariants.{Nothing, Completion, Resending, SureCompletion, WriteData, Acknowledgement}
use Rattle.chi_observer.specs.declared.flits.Stores.{Stores}
use Rattle.chi_observer.specs.declared.flits.Stores.TheVariants.{Listed as AllListed}
use Rattle.chi_observer.specs.Copies.{Copy, Held, holds_data, is_unique, same, compatible}
use Rattle.chi_observer.specs.Copies.Copy.{UniqueEmpty, UniqueDirty, Writing}
use Rattle.chi_observer.specs.Rules.{lets_go, loses, looks, stores, may_store, leaves_any, acts, has_data, writes, due_after}
use Rattle.chi_observer.specs.Tables.{Known, reach, fresh, fits_told, may, told_behind, told_after, renews}
use Rattle.chi_observer.specs.Worlds.{World, Sends, put}
use Rattle.chi_observer.specs.Observed.{Observed, Sound, Meaning}
use Rattle.chi_observer.specs.Worded.{may_be_empty}
use Rattle.chi_observer.proofs.Finite.{no, left, right, both, implies, follow}
use Rattle.chi_observer.proofs.Spots.{if_some, DueCopies, each_due_copy}
use Rattle.chi_observer.proofs.Facts.{one_of, other_of, or_there, of_form, same_is, sent_whole, taken_well, forward, below, beside_unique, beside_writing}
use Rattle.chi_observer.proofs.Put.{here, there, split}
use Rattle.chi_observer.proofs.ListedWords.{all_unstored, revalue}

pub write_stores : (a : Act) → writes a ≡ true → stores a ≡ false
write_stores NonCopyBackWrData h = refl
write_stores other h = no h

pub write_looks : (a : Act) → writes a ≡ true → looks a ≡ false
write_looks NonCopyBackWrData h = refl
write_looks other h = no h

pub store_silent : (a : Act) → stores a ≡ true → has_data a ≡ false
store_silent (Store word) h = refl
store_silent other h = no h

-- ANOTHER VALUE
module _ (o : Observed) (f : CacheFlit) (w w' : World) (sound : Sound o) (low : f.agent.0 < 32) (m : Meaning o w) (send : Sends o.public f w w') (silent : has_data f.act ≡ false) (any : (writes f.act || stores f.act) ≡ true) where
  abbrev n : ℕ
  n = f.agent.0

  abbrev mode : Stores
  mode = o.public.stores

  abbrev d : Due
  d = o.public.due n

  abbrev t : Known
  t = o.told n

  abbrev s : Held
  s = w.state n

  abbrev s' : Held
  s' = w'.state n

  abbrev x : Bool
  x = lets_go (o.public.snooped n)

  abbrev r : Bool
  r = renews mode f.act x d t

  abbrev lose : Bool
  lose = loses mode f.act x d s.copy

  abbrev loose : Bool
  loose = leaves_any mode f.act x d s.copy

  facts : taken_well mode f.act x d t s false s' ≡ true
  facts = forward mode f.act x d t s s' false (m.told n low) refl send.act

  abbrev of_told : Bool
  of_told = reach mode (due_after f.act d) (told_after f.act d t false) s' && implies (not (looks f.act)) (may (told_behind f.act d t.told) s'.copy)

  abbrev of_stores : Bool
  of_stores = implies (not r) (implies (fresh mode d t s) (looks f.act && fresh mode (due_after f.act d) (told_after f.act d t false) s'))

  abbrev of_data : Bool
  of_data = implies (holds_data s'.copy) (holds_data s.copy || stores f.act)

  abbrev of_any : Bool
  of_any = implies loose (r && is_unique s.copy)

  abbrev of_loss : Bool
  of_loss = implies lose (not (holds_data s'.copy))

  facts2 : (of_data && (of_any && of_loss)) ≡ true
  facts2 = right of_stores _ (right of_told _ (right (fits_told mode f.act x d t) _ facts))

  had_data : holds_data s'.copy ≡ true → (holds_data s.copy || stores f.act) ≡ true
  had_data = follow (holds_data s'.copy) _ (left of_data _ facts2)

  unique : stores f.act ≡ true → is_unique s.copy ≡ true
  unique q = right r _ (follow loose _ (left of_any of_loss (right of_data _ facts2)) (or_there lose _ q))

  writing : writes f.act ≡ true → same s.copy Writing ≡ true
  writing = sent_whole f.act x d s s' send.act

  beside : (k : ℕ) → k ≢ n → k < 32 → compatible s.copy (w.state k).copy ≡ true
  beside k h lk = below mode d (o.public.due k) t (o.told k) s (w.state k) (m.told n low) (m.told k lk) (sound.pairs n k low lk (λ z. h (sym z)))

  -- nobody else has data
  lone : (k : ℕ) → k ≢ n → k < 32 → (b : Bool) → writes f.act ≡ b → holds_data (w.state k).copy ≡ false
  lone k h lk true e = beside_writing s.copy (w.state k).copy (writing e) (beside k h lk)
  lone k h lk false e = beside_unique s.copy (w.state k).copy (unique (other_of (writes f.act) _ any e)) (beside k h lk)

  none_left : writes f.act ≡ true → holds_data s'.copy ≡ true → false ≡ true
  none_left e v = sym (ap holds_data (same_is s.copy Writing (writing e))) ∙ one_of (holds_data s.copy) (stores f.act) (had_data v) (write_stores f.act e)

  last_by : (u : List ℕ) (b : Bool) → writes f.act ≡ b → loose ≡ false → w'.last ≡ (if writes f.act then f.shown else u)
  last_by u true e q = send.last q ∙ ap (λ b. if b then f.shown else w.last) e ∙ sym (ap (λ b. if b then f.shown else u) e)
  last_by u false e q = no (sym q ∙ or_there lose _ (other_of (writes f.act) _ any e))

  pub resent_here : (u : List ℕ) → Sends o.public f (revalue u w) w'
  resent_here u = record {
    allowed = send.allowed;
    act = send.act;
    shown = λ h. no (sym silent ∙ h);
    last = λ q. last_by u (writes f.act) refl q;
    home = send.home;
    words = λ v q. no (none_left (one_of (writes f.act) (stores f.act) any q) v);
    stored = send.stored;
    others = record {
      state = send.others.state;
      words = λ k lk h. send.others.words k lk h ∙ sym (ap (λ b. if b then u else w.words k) (lone k h lk (writes f.act) refl));
    };
  }

pub resent : (o : Observed) (f : CacheFlit) (w w' : World) → Sound o → f.agent.0 < 32 → Meaning o w → Sends o.public f w w' → has_data f.act ≡ false → (writes f.act || stores f.act) ≡ true → (u : List ℕ) → Sends o.public f (revalue u w) w'
resent o f w w' sound low m send silent any u = resent_here o f w w' sound low m send silent any u

-- A COPY WITHOUT DATA
empty_table : Due → Known → Held → Bool
empty_table d t s = implies (may_be_empty t.told && reach AllListed d t s) (reach AllListed d t (of_form UniqueEmpty s))

empty_holds : DueCopies empty_table
unfolding empty_table
empty_holds k = refl

empty_reach : (z : Stores) (d : Due) (t : Known) (s : Held) → z ≡ AllListed → may_be_empty t.told ≡ true → reach z d t s ≡ true → reach z d t (of_form UniqueEmpty s) ≡ true
unfolding empty_table
empty_reach z d t s h e r = subst (λ z. reach z d t (of_form UniqueEmpty s) ≡ true) (sym h)
    (follow _ _ (each_due_copy empty_table empty_holds d t s) (both _ _ e (subst (λ z. reach z d t s ≡ true) h r)))

store_form : (d : Due) (c : Copy) (s : Held) → may_store d (of_form c s) ≡ may_store d s
store_form Nothing c s = refl
store_form (Completion kind) c s = refl
store_form (Resending kind) c s = refl
store_form (SureCompletion kind) c s = refl
store_form (WriteData kind) c s = refl
store_form Acknowledgement c s = refl

empty_acts : (a : Act) (x : Bool) (d : Due) (s left_so : Held) → stores a ≡ true → acts a x d s ≡ Some left_so → acts a x d (of_form UniqueEmpty s) ≡ Some left_so
empty_acts (Store word) x d s left_so q e =
    let can : (may_store d s && is_unique s.copy) ≡ true = if_some (may_store d s && is_unique s.copy) (of_form UniqueDirty s) left_so e in
    ap (λ b. if b then Some (of_form UniqueDirty s) else None) (both _ true (store_form d UniqueEmpty s ∙ left _ _ can) refl) ∙ sym (ap (λ b. if b then Some (of_form UniqueDirty s) else None) can) ∙ e
empty_acts other x d s left_so q e = no q

abbrev pub emptied : ℕ → World → World
emptied n w = record { state = put n (of_form UniqueEmpty (w.state n)) w.state; words = w.words; last = w.last; home = w.home }

pub emptied_meant : (o : Observed) (n : ℕ) (w : World) → o.public.stores ≡ AllListed → may_be_empty (o.told n).told ≡ true → n < 32 → Meaning o w → Meaning o (emptied n w)
emptied_meant o n w listed e low m = record {
  told = split (λ k. k < 32 → reach o.public.stores (o.public.due k) (o.told k) ((emptied n w).state k) ≡ true) n
      (λ _. subst (λ z. reach o.public.stores (o.public.due n) (o.told n) z ≡ true) (sym (here n (of_form UniqueEmpty (w.state n)) w.state))
      (empty_reach o.public.stores (o.public.due n) (o.told n) (w.state n) listed e (m.told n low)))
      (λ k h lk. subst (λ z. reach o.public.stores (o.public.due k) (o.told k) z ≡ true) (sym (there n (of_form UniqueEmpty (w.state n)) w.state k h)) (m.told k lk));
  words = split (λ k. k < 32 → holds_data ((emptied n w).state k).copy ≡ true → w.words k ≡ w.last) n
      (λ _ v. no (subst (λ (z : Held). holds_data z.copy ≡ true) (here n (of_form UniqueEmpty (w.state n)) w.state) v))
      (λ k h lk v. m.words k lk (subst (λ (z : Held). holds_data z.copy ≡ true) (there n (of_form UniqueEmpty (w.state n)) w.state k h) v));
  home = m.home;
  current = λ c _. m.current c (all_unstored o w listed);
}

pub emptied_sends : (o : Observed) (f : CacheFlit) (w w' : World) → stores f.act ≡ true → Sends o.public f w w' → Sends o.public f (emptied f.agent.0 w) w'
emptied_sends o f w w' q send = record {
  allowed = send.allowed;
  act = subst (λ z. acts f.act (lets_go (o.public.snooped f.agent.0)) (o.public.due f.agent.0) z ≡ Some (w'.state f.agent.0)) (sym (here f.agent.0 (of_form UniqueEmpty (w.state f.agent.0)) w.state))
      (empty_acts f.act (lets_go (o.public.snooped f.agent.0)) (o.public.due f.agent.0) (w.state f.agent.0) (w'.state f.agent.0) q send.act);
  shown = λ h. no (sym (store_silent f.act q) ∙ h);
  last = λ p. no (sym p ∙ or_there _ (stores f.act) q);
  home = send.home;
  words = λ _ p. no (sym p ∙ q);
  stored = send.stored;
  others = record {
    state = λ k lk h. send.others.state k lk h ∙ sym (there f.agent.0 (of_form UniqueEmpty (w.state f.agent.0)) w.state k h);
    words = send.others.words;
  };
}
