-- A watch stays in its room.
--     length-insert_entry    an entry more where the key wasn't there
--     removed                what is left of a table without a key
--     ids_within             the ids behind a flit for which there is room
--     within                 all tables behind one
use Rattle.std.proofs.Common.{◌≡◌, ℕ, suc, ◌+◌, ◌<◌, ◌≤◌, Bool, true, false, cond, not, ◌&&◌, ◌||◌, List, [], ◌∷◌, ◌++◌, length, get_or, refl, sym, ap, subst, ◌∙◌, arith, Option, None, Some, Result, Ok, Err, is_none, is_some, position, nat_le, nat_lt, inl, inr, ◌⊎◌, length-append, true≢false, option_map, unwrap_or, le_trans, ◌==◌, leb-true, ltb-true, eqb-true, eq-eqb}
use Rattle.std.proofs.lemmas.Bool.{and_parts, and_from}
use Rattle.std.proofs.lemmas.List.{get_or-map}
use Rattle.std.proofs.lemmas.List.Quantifiers.{position-Some}
use Rattle.std.proofs.lemmas.List.Sums.{sum_by-cons, sum_by-swap_remove}
use Rattle.std.specs.List.{sum_by, swap_remove}
use Rattle.std.specs.Map.{keys_of, lookup}
use Rattle.indexmap.specs.IndexMap.{insert_entry, swap_remove_entry}
use Rattle.indexmap.proofs.MapLemmas.{some_index, swap_remove_entry-found, swap_remove_entry-missing}
use Rattle.chi_flit.specs.declared.numbers.Agent.{Agent}
use Rattle.chi_trace.specs.declared.fields.NodeId.{NodeId}
use Rattle.chi_observe.specs.declared.bounded.Room.{Room}
use Rattle.chi_observe.specs.declared.credits.Account.{Account}
use Rattle.chi_observe.specs.declared.credits.AccountNumbers.{AccountNumbers}
use Rattle.chi_observe.specs.declared.credits.Booking.{Booking}
use Rattle.chi_observe.specs.declared.events.AccessEvent.{AccessEvent}
use Rattle.chi_observe.specs.declared.events.Event.{Event}
use Rattle.chi_observe.specs.declared.events.Event.TheVariants as events
use Rattle.chi_observe.specs.declared.events.LineEvent.{LineEvent}
use Rattle.chi_ids.specs.declared.keys.IdKey.{IdKey}
use Rattle.chi_ids.specs.declared.keys.KeyNumbers.{KeyNumbers}
use Rattle.chi_observe.specs.declared.ids.OpenId.{OpenId}
use Rattle.chi_observe.specs.declared.reasons.IdReason.{IdReason}
use Rattle.chi_observe.specs.declared.reasons.IdReason.TheVariants.{NotOpen}
use Rattle.chi_observe.specs.declared.tables.Change.{Change}
use Rattle.chi_observe.specs.declared.tables.Part.{Part}
use Rattle.chi_observe.specs.declared.tables.Part.TheVariants as parts
use Rattle.chi_observe.specs.declared.steps.WatchOptions.{WatchOptions}
use Rattle.chi_observe.specs.declared.lines.LineTold.{LineTold}
use Rattle.chi_observe.specs.declared.watch.Aside.{Aside}
use Rattle.chi_observe.specs.declared.watch.Counts.{Counts}
use Rattle.chi_observe.specs.Credits.{account_numbers, booked, booked_all, is_same_account, with_event}
use Rattle.chi_observe.specs.Bounded.{IsWithin, access_fits, access_fits_at, account_fits, adds_requester, allowed_fits, booking_fits, fits, frees_of, has_room, ids_behind, is_account_new, is_new, is_opened_as, line_fits, nodes_fit, number_of, opens_account, rest_fits}
use Rattle.chi_ids.specs.Keys.{is_same_numbers, numbers_of}
use Rattle.chi_observe.specs.Ids.{has_numbers_of, opened_at, with_id, without}
use Rattle.chi_observe.specs.Lines.{home_of}
use Rattle.chi_observe.specs.Nodes.{adds_home, with_home, with_requester}
use Rattle.chi_observe.specs.Grants.{granted, returned}
use Rattle.chi_observe.specs.Steps.{ids_after}
use Rattle.chi_observe.specs.Watched.{Watched, access_after, access_agent, access_at, access_counted, access_mark, access_next, access_seen, counts_access, counts_told, counts_unjudged, counts_whole, agent_in, flit_mark, flit_told, one_if, table_in, allowed, beat_after, booking_after, by_part, counts_after, counts_aside, counts_first, credit_after, flit_after, left_over_after, line_after, nothing_watched, step, told_after, unopened_after}

-- none passes where there are no hits, and some where there are
abbrev Counted : ℕ → ℕ → Type 0
Counted lack found = ((lack ≡ 1) × (found ≡ 0)) ⊎ ((lack ≡ 0) × (1 ≤ found))

ones : {X : Type 0} (xs : List X) → sum_by (λ (x : X). 1) xs ≡ length xs
ones [] = refl
ones {X} (x ∷ xs) = omega (arith, sum_by-cons (λ (y : X). 1) x xs, ones xs)

module _ {K V : Type 0} where
  -- 1 where no key passes the test
  abbrev pub lacks : (K → Bool) → List (K × V) → ℕ
  lacks t es = number_of (is_none (lookup t es))

  keys_length : (es : List (K × V)) → length (keys_of es) ≡ length es
  keys_length [] = refl
  keys_length (e ∷ es) = ap suc (keys_length es)

  abbrev hit : (K → Bool) → K × V → ℕ
  hit t e = number_of (t e.0)

  counted : (t : K → Bool) (es : List (K × V)) → Counted (lacks t es) (sum_by (hit t) es)
  counted t [] = inl (refl, refl)
  counted t (e ∷ es) = by (t e.0) (sum_by-cons (hit t) e es) (counted t es)
    where
      by : (b : Bool) → sum_by (hit t) (e ∷ es) ≡ number_of b + sum_by (hit t) es → Counted (lacks t es) (sum_by (hit t) es)
          → Counted (number_of (is_none (cond b (Some e.1) (lookup t es)))) (sum_by (hit t) (e ∷ es))
      by true n h = inr (refl, omega (arith, n))
      by false n (inl h) = inl (h.0, omega (arith, n, h.1))
      by false n (inr h) = inr (h.0, omega (arith, n, h.1))

  same_lacks : (t : K → Bool) (es fs : List (K × V)) → sum_by (hit t) fs ≡ sum_by (hit t) es → lacks t fs ≡ lacks t es
  same_lacks t es fs e = by _ _ _ _ e (counted t es) (counted t fs)
    where
      by : (l m n o : ℕ) → o ≡ n → Counted l n → Counted m o → m ≡ l
      by l m n o e (inl a) (inl b) = b.0 ∙ sym a.0
      by l m n o e (inl a) (inr b) = omega (arith, e, a.1, b.1)
      by l m n o e (inr a) (inl b) = omega (arith, e, a.1, b.1)
      by l m n o e (inr a) (inr b) = b.0 ∙ sym a.0

  module _ (eq : K → K → Bool) (k : K) (v : V) where
    -- an insertion
    pub length-insert_entry : (es : List (K × V)) → length (insert_entry eq es k v) ≡ length es + lacks (eq k) es
    length-insert_entry [] = refl
    length-insert_entry (e ∷ es) = by (eq k e.0) (length-insert_entry es)
      where
        by : (b : Bool) → length (insert_entry eq es k v) ≡ length es + lacks (eq k) es
            → length (cond b ((e.0, v) ∷ es) (e ∷ insert_entry eq es k v)) ≡ suc (length es) + number_of (is_none (cond b (Some e.1) (lookup (eq k) es)))
        by true h = omega arith
        by false h = omega (arith, h)

    pub lacks-insert_entry : (t : K → Bool) (es : List (K × V)) → lacks t (insert_entry eq es k v) ≤ lacks t es
    lacks-insert_entry t [] = by (t k)
      where
        by : (b : Bool) → number_of (is_none (cond b (Some v) None)) ≤ 1
        by true = omega arith
        by false = omega arith
    lacks-insert_entry t (e ∷ es) = by (eq k e.0) (lacks-insert_entry t es)
      where
        here : (c : Bool) → number_of (is_none (cond c (Some v) (lookup t es))) ≤ number_of (is_none (cond c (Some e.1) (lookup t es)))
        here true = omega arith
        here false = omega arith

        behind : (c : Bool) → lacks t (insert_entry eq es k v) ≤ lacks t es
            → number_of (is_none (cond c (Some e.1) (lookup t (insert_entry eq es k v)))) ≤ number_of (is_none (cond c (Some e.1) (lookup t es)))
        behind true h = omega arith
        behind false h = h

        by : (b : Bool) → lacks t (insert_entry eq es k v) ≤ lacks t es → lacks t (cond b ((e.0, v) ∷ es) (e ∷ insert_entry eq es k v)) ≤ lacks t (e ∷ es)
        by true h = here (t e.0)
        by false h = behind (t e.0) h

    pub lacks-inserted : (u : K → Bool) → u k ≡ true → ((x : K) → eq k x ≡ true → u x ≡ true) → (es : List (K × V)) → lacks u (insert_entry eq es k v) ≡ 0
    lacks-inserted u own agree [] = ap (λ (b : Bool). number_of (is_none (cond b (Some v) None))) own
    lacks-inserted u own agree (e ∷ es) = by (eq k e.0) refl (lacks-inserted u own agree es)
      where
        behind : (c : Bool) → lacks u (insert_entry eq es k v) ≡ 0 → number_of (is_none (cond c (Some e.1) (lookup u (insert_entry eq es k v)))) ≡ 0
        behind true h = refl
        behind false h = h

        by : (b : Bool) → eq k e.0 ≡ b → lacks u (insert_entry eq es k v) ≡ 0 → lacks u (cond b ((e.0, v) ∷ es) (e ∷ insert_entry eq es k v)) ≡ 0
        by true p h = ap (λ (c : Bool). number_of (is_none (cond c (Some v) (lookup u es)))) (agree e.0 p)
        by false p h = behind (u e.0) h

  -- what is left without a key
  pub record Removed (t : K → Bool) (es fs : List (K × V)) : Type 0 where
    pub less : length fs + number_of (is_some (lookup t es)) ≡ length es
    pub none : is_some (lookup t es) ≡ false → fs ≡ es
    pub others : (u : K → Bool) → ((k : K) → t k ≡ true → u k ≡ false) → lacks u fs ≡ lacks u es

  pub removed : (t : K → Bool) (es : List (K × V)) → Removed t es (swap_remove_entry t es)
  removed t [] = record { less = refl; none = λ p. refl; others = λ u apart. refl }
  removed t (e ∷ es) = by (position t (keys_of (e ∷ es))) refl
    where
      by : (r : Option ℕ) → position t (keys_of (e ∷ es)) ≡ r → Removed t (e ∷ es) (swap_remove_entry t (e ∷ es))
      by None p =
          let same : swap_remove_entry t (e ∷ es) ≡ e ∷ es = swap_remove_entry-missing t (e ∷ es) p in
          let gone : is_some (lookup t (e ∷ es)) ≡ false = sym (some_index t (e ∷ es)) ∙ ap is_some p in
          record { less = omega (arith, ap length same, ap number_of gone); none = λ q. same; others = λ u apart. ap (lacks u) same }
      by (Some i) p =
          let is : swap_remove_entry t (e ∷ es) ≡ swap_remove (e ∷ es) i e = swap_remove_entry-found t (e ∷ es) i e p in
          let there : is_some (lookup t (e ∷ es)) ≡ true = sym (some_index t (e ∷ es)) ∙ ap is_some p in
          let at = position-Some t (keys_of (e ∷ es)) i e.0 p in
          let inside : i < length (e ∷ es) = omega (arith, at.0, keys_length (e ∷ es)) in
          let key : get_or (keys_of (e ∷ es)) i e.0 ≡ (get_or (e ∷ es) i e).0 = get_or-map (λ (x : K × V). x.0) (e ∷ es) i e e.0 inside in
          let hit_t : t (get_or (e ∷ es) i e).0 ≡ true = subst (λ (k : K). t k ≡ true) key at.1 in
          record {
            less = omega (arith, ap length is, sum_by-swap_remove (λ (x : K × V). 1) (e ∷ es) i e inside, ones (swap_remove (e ∷ es) i e), ones (e ∷ es), ap number_of there);
            none = λ q. absurd (true≢false (sym there ∙ q));
            others = λ u apart. same_lacks u (e ∷ es) (swap_remove_entry t (e ∷ es))
                (ap (sum_by (hit u)) is ∙ omega (arith, sum_by-swap_remove (hit u) (e ∷ es) i e inside, ap number_of (apart _ hit_t)));
          }

-- keys
same_numbers : (a b : KeyNumbers) → is_same_numbers a b ≡ true → a ≡ b
same_numbers a b p =
    let one = and_parts _ _ p in
    let two = and_parts _ _ one.1 in
    let three = and_parts _ _ two.1 in
    λ i. record {
      sort = eqb-true a.sort b.sort one.0 i;
      home = eqb-true a.home b.home two.0 i;
      requester = eqb-true a.requester b.requester three.0 i;
      number = eqb-true a.number b.number three.1 i;
    }

own_numbers : (a : KeyNumbers) → is_same_numbers a a ≡ true
own_numbers a =
    and_from _ _ (eq-eqb a.sort a.sort refl) (and_from _ _ (eq-eqb a.home a.home refl)
    (and_from _ _ (eq-eqb a.requester a.requester refl) (eq-eqb a.number a.number refl)))

-- the ids behind a flit
abbrev Ids : Type 0
Ids = List (KeyNumbers × OpenId)

abbrev new : Option OpenId → Ids → ℕ
new o es = number_of (is_new o es)

at_most_one : (b : Bool) → number_of b ≤ 1
at_most_one true = omega arith
at_most_one false = omega arith

new-one : (o : Option OpenId) (es : Ids) → new o es ≤ 1
new-one o es = at_most_one (is_new o es)

new-opened_at : (n : ℕ) (o : Option OpenId) (es : Ids) → new (option_map (opened_at n) o) es ≡ new o es
new-opened_at n None es = refl
new-opened_at n (Some id) es = refl

length-with_id : (o : Option OpenId) (es : Ids) → length (with_id o es) ≤ length es + new o es
length-with_id None es = omega arith
length-with_id (Some id) es = omega (arith, length-insert_entry is_same_numbers (numbers_of id.key) id es)

new-with_id : (o x : Option OpenId) (es : Ids) → new o (with_id x es) ≤ new o es
new-with_id None x es = omega arith
new-with_id (Some id) None es = omega arith
new-with_id (Some id) (Some other) es = lacks-insert_entry is_same_numbers (numbers_of other.key) other (has_numbers_of id.key) es

new-reopened : (key : IdKey) (o x : Option OpenId) (es : Ids) → is_opened_as key o ≡ true → is_opened_as key x ≡ true → new o (with_id x es) ≡ 0
new-reopened key None x es p q = absurd (true≢false (sym p))
new-reopened key (Some id) None es p q = absurd (true≢false (sym q))
new-reopened key (Some id) (Some other) es p q =
    let same : numbers_of id.key ≡ numbers_of other.key = sym (same_numbers (numbers_of key) (numbers_of id.key) p) ∙ same_numbers (numbers_of key) (numbers_of other.key) q in
    lacks-inserted is_same_numbers (numbers_of other.key) other (has_numbers_of id.key)
    (subst (λ (m : KeyNumbers). is_same_numbers m (numbers_of other.key) ≡ true) (sym same) (own_numbers (numbers_of other.key)))
    (λ k e. subst (λ (m : KeyNumbers). is_same_numbers m k ≡ true) (sym same) e) es

new-apart : (key : IdKey) (o : Option OpenId) (es fs : Ids) → Removed (has_numbers_of key) es fs → is_opened_as key o ≡ false → new o fs ≡ new o es
new-apart key None es fs r p = refl
new-apart key (Some id) es fs r p = r.others (has_numbers_of id.key) (λ k h. by k h (is_same_numbers (numbers_of id.key) k) refl)
  where
    by : (k : KeyNumbers) → is_same_numbers (numbers_of key) k ≡ true → (b : Bool) → is_same_numbers (numbers_of id.key) k ≡ b → is_same_numbers (numbers_of id.key) k ≡ false
    by k h false q = q
    by k h true q =
        let same : numbers_of key ≡ numbers_of id.key = same_numbers _ _ h ∙ sym (same_numbers _ _ q) in
        absurd (true≢false (sym (subst (λ (m : KeyNumbers). is_same_numbers (numbers_of key) m ≡ true) same (own_numbers (numbers_of key))) ∙ p))

module _ (x o w : Option OpenId) (same : (es : Ids) → new w es ≡ new o es) (ids : Ids) where
  -- with the ids that are left, which aren't more
  abbrev Within : Ids → ℕ → Type 0
  Within es freed = length (with_id w (with_id x es)) + freed ≤ length ids + new x ids + new o ids

  kept : Within ids 0
  kept = omega (arith, length-with_id w (with_id x ids), length-with_id x ids, new-with_id o x ids, same (with_id x ids))

  module _ (key : IdKey) (es : Ids) (r : Removed (has_numbers_of key) ids es) where
    by : (b c d : Bool) → is_some (lookup (has_numbers_of key) ids) ≡ b → is_opened_as key x ≡ c → is_opened_as key o ≡ d → Within es (number_of (b && not (c || d)))
    by false c d p q s = subst (λ (l : Ids). Within l 0) (sym (r.none p)) kept
    by true false false p q s =
        omega (arith, length-with_id w (with_id x es), length-with_id x es, new-with_id o x es, same (with_id x es), r.less, ap number_of p, new-apart key x ids es r q, new-apart key o ids es r s)
    by true true false p q s =
        omega (arith, length-with_id w (with_id x es), length-with_id x es, new-with_id o x es, same (with_id x es), r.less, ap number_of p, new-one x es, new-apart key o ids es r s)
    by true false true p q s =
        omega (arith, length-with_id w (with_id x es), length-with_id x es, new-one o (with_id x es), same (with_id x es), r.less, ap number_of p, new-apart key x ids es r q)
    by true true true p q s =
        omega (arith, length-with_id w (with_id x es), length-with_id x es, new-reopened key o x es s q, same (with_id x es), r.less, ap number_of p, new-one x es)

freed_within : (f : Option IdKey) (change : Change) (w : Option OpenId) (same : (es : Ids) → new w es ≡ new change.opens es) (ids : Ids)
    → Within change.keeps change.opens w same ids (without f ids) (number_of (frees_of f change ids))
freed_within None change w same ids = kept change.keeps change.opens w same ids
freed_within (Some key) change w same ids =
    by change.keeps change.opens w same ids key (swap_remove_entry (has_numbers_of key) ids) (removed (has_numbers_of key) ids) _ _ _ refl refl refl

pub ids_within : (n : ℕ) (change : Change) (ids : Ids) (most : ℕ) → nat_le (ids_behind change ids) most ≡ true → length (ids_after n change ids) ≤ most
ids_within n change ids most fits =
    omega (arith, leb-true (ids_behind change ids) most fits, freed_within change.frees change (option_map (opened_at n) change.opens) (λ es. new-opened_at n change.opens es) ids)

-- nodes, accounts and lines behind a flit
requesters_within : (agent : Option Agent) (node : NodeId) (rs : List NodeId) (most : ℕ) → length rs ≤ most → has_room (adds_requester agent rs) (length rs) most ≡ true → length (with_requester agent node rs) ≤ most
requesters_within None node rs most le room = le
requesters_within (Some agent) node rs most le room = by (agent.0 == length rs) room
  where
    by : (b : Bool) → has_room b (length rs) most ≡ true → length (cond b (rs ++ node ∷ []) rs) ≤ most
    by true h = omega (arith, ltb-true (length rs) most h, length-append rs (node ∷ []))
    by false h = le

homes_within : (agent : Option Agent) (node : NodeId) (hs : List NodeId) (most : ℕ) → length hs ≤ most → has_room (adds_home agent node hs) (length hs) most ≡ true → length (with_home agent node hs) ≤ most
homes_within agent node hs most le room = by (adds_home agent node hs) room
  where
    by : (b : Bool) → has_room b (length hs) most ≡ true → length (cond b (hs ++ node ∷ []) hs) ≤ most
    by true h = omega (arith, ltb-true (length hs) most h, length-append hs (node ∷ []))
    by false h = le

booked_within : (booking : Booking) (accounts : List (AccountNumbers × Account)) (most : ℕ) → length accounts ≤ most
    → has_room (is_account_new booking accounts) (length accounts) most ≡ true → length (booked booking accounts) ≤ most
booked_within booking accounts most le room = by (is_account_new booking accounts) refl room
  where
    more : length (booked booking accounts) ≡ length accounts + number_of (is_account_new booking accounts)
    more = length-insert_entry is_same_account (account_numbers booking.account.sides booking.account.pcrd) (with_event booking.event booking.account) accounts

    by : (b : Bool) → is_account_new booking accounts ≡ b → has_room b (length accounts) most ≡ true → length (booked booking accounts) ≤ most
    by true p h = omega (arith, more, ap number_of p, ltb-true (length accounts) most h)
    by false p h = omega (arith, more, ap number_of p, le)

all_booked_within : (books : Option Booking) (accounts : List (AccountNumbers × Account)) (most : ℕ) → length accounts ≤ most
    → has_room (opens_account books accounts) (length accounts) most ≡ true → length (booked_all books accounts) ≤ most
all_booked_within None accounts most le room = le
all_booked_within (Some booking) accounts most le room = booked_within booking accounts most le room

aside_lines : (mark : Option Aside) (n : Counts) → (counts_aside mark n).lines ≡ n.lines
aside_lines None n = refl
aside_lines (Some mark) n = refl

access_lines : (told : LineTold) (mark : Option Aside) (n : Counts) → (counts_told told mark n).lines ≡ n.lines
access_lines told None n = refl
access_lines told (Some mark) n = refl

first_lines : (fresh : Bool) (n : Counts) → (counts_first fresh n).lines ≡ n.lines + number_of fresh
first_lines true n = refl
first_lines false n = omega arith

whole_lines : (told : LineTold) (mark : Option Aside) (n : Counts) → (counts_aside mark (counts_whole told n)).lines ≤ n.lines + number_of told.fresh
whole_lines told mark n = omega (arith, aside_lines mark (counts_whole told n), first_lines told.fresh n)

lines_after : (part : Part) (told : LineTold) (mark : Option Aside) (n : Counts) → (counts_after part told mark n).lines ≤ n.lines + number_of told.fresh
lines_after parts.Whole told mark n = whole_lines told mark n
lines_after (parts.First left) told mark n = whole_lines told mark n
lines_after (parts.Known tells) told mark n = whole_lines told mark n
lines_after parts.Further told mark n = omega (arith, aside_lines mark n)
lines_after (parts.Held same) told mark n = omega (arith, aside_lines mark n)
lines_after (parts.Last tells) told mark n = omega (arith, aside_lines mark (counts_unjudged (one_if told.aside) n))

lines_within : {S : Type 0} (found : Option S) (lines most : ℕ) → lines ≤ most → (is_some found || nat_lt lines most) ≡ true → lines + number_of (is_none found) ≤ most
lines_within None lines most le room = omega (arith, ltb-true lines most room)
lines_within (Some s) lines most le room = omega (arith, le)

-- all tables behind an event
same_some : (w w' : Watched) → Some w ≡ Some w' → w ≡ w'
same_some w w' e = ap (λ (o : Option Watched). unwrap_or o w) e

none_isn't : {X : Type 0} (w' : Watched) → None ≡ Some w' → X
none_isn't w' e = absurd (true≢false (sym (ap is_some e)))

module _ (room : Room) (w w' : Watched) (h : IsWithin room w) where
  booking_within : (booking : Booking) → account_fits room w (is_account_new booking w.accounts) ≡ true → IsWithin room (booking_after w booking)
  booking_within booking fits = record {
    requesters = h.requesters;
    homes = h.homes;
    ids = h.ids;
    accounts = booked_within booking w.accounts room.accounts h.accounts fits;
    lines = h.lines;
  }

  credit_within : (r : Result Booking IdReason) → booking_fits room w r ≡ true → credit_after w r ≡ Some w' → IsWithin room w'
  credit_within (Ok booking) fits e = subst (IsWithin room) (same_some _ _ e) (booking_within booking fits)
  credit_within (Err reason) fits e = none_isn't w' e

  module _ (e : LineEvent) (change : Change) (ids : nat_le (ids_behind change w.ids) room.ids ≡ true) where
    beat_within : IsWithin room (beat_after w e change)
    beat_within = record {
      requesters = h.requesters;
      homes = h.homes;
      ids = ids_within e.number change w.ids room.ids ids;
      accounts = h.accounts;
      lines = h.lines;
    }

    flit_within : (line_fits room w change.line && (account_fits room w (opens_account change.books w.accounts) && nodes_fit room w (agent_in w e) e.sides)) ≡ true
        → IsWithin room (flit_after w e change)
    flit_within fits =
        let line = and_parts _ _ fits in
        let account = and_parts _ _ line.1 in
        let nodes = and_parts _ _ account.1 in
        record {
          requesters = requesters_within (agent_in w e) e.sides.requester w.requesters room.requesters h.requesters nodes.0;
          homes = homes_within (agent_in w e) e.sides.home w.homes room.homes h.homes nodes.1;
          ids = ids_within e.number change w.ids room.ids ids;
          accounts = all_booked_within change.books w.accounts room.accounts h.accounts account.0;
          lines = le_trans (lines_after change.part (flit_told w e change) (flit_mark w e change) w.counts) (lines_within (w.lines change.line.0) w.counts.lines room.lines h.lines line.0);
        }

    told_within : (line_fits room w change.line && (account_fits room w (opens_account change.books w.accounts) && nodes_fit room w (agent_in w e) e.sides)) ≡ true
        → told_after w e change ≡ Some w' → IsWithin room w'
    told_within fits = by _
      where
        by : (b : Bool) → cond b (Some (flit_after w e change)) None ≡ Some w' → IsWithin room w'
        by true q = subst (IsWithin room) (same_some _ _ q) (flit_within fits)
        by false q = none_isn't w' q

    part_within : (part : Part) → rest_fits room w e change part ≡ true → by_part w e change part ≡ Some w' → IsWithin room w'
    part_within parts.Whole fits q = told_within fits q
    part_within (parts.First left) fits q = told_within fits q
    part_within (parts.Known tells) fits q = told_within fits q
    part_within (parts.Held same) fits q = told_within fits q
    part_within parts.Further fits q = subst (IsWithin room) (same_some _ _ q) beat_within
    part_within (parts.Last tells) fits q = told_within fits q

  same_within : (n : Counts) → n.lines ≡ w.counts.lines → (past : ℕ → ℕ) (named : List (KeyNumbers × OpenId)) → IsWithin room (record w { counts = n; past = past; named = named })
  same_within n same past named = record {
    requesters = h.requesters;
    homes = h.homes;
    ids = h.ids;
    accounts = h.accounts;
    lines = subst (λ (k : ℕ). k ≤ room.lines) (sym same) h.lines;
  }

  unopened_within : (e : LineEvent) (reason : IdReason) → unopened_after w e reason ≡ Some w' → IsWithin room w'
  unopened_within e (NotOpen key) q = by _ q
    where
      by : (b : Bool) → cond b (Some (left_over_after w e key)) None ≡ Some w' → IsWithin room w'
      by true p = subst (IsWithin room) (same_some _ _ p) (same_within _ refl _ _)
      by false p = none_isn't w' p
  unopened_within e reason q = none_isn't w' q

  line_within : (e : LineEvent) (r : Result Change IdReason) → allowed_fits room w e r ≡ true → line_after w e r ≡ Some w' → IsWithin room w'
  line_within e (Ok change) fits q = let both = and_parts _ _ fits in part_within e change both.0 change.part both.1 q
  line_within e (Err reason) fits q = unopened_within e reason q

  counted_within : IsWithin room (access_counted w)
  counted_within = same_within (counts_access false w.counts) refl w.past w.named

  access_within : (e : AccessEvent) (home : Option NodeId) → access_fits_at room w e home ≡ true → access_after w e home ≡ Some w' → IsWithin room w'
  access_within e None fits q = by _ q
    where
      by : (b : Bool) → cond b (Some (access_counted w)) None ≡ Some w' → IsWithin room w'
      by true p = subst (IsWithin room) (same_some _ _ p) counted_within
      by false p = none_isn't w' p
  access_within e (Some home) fits q = by _ q
    where
      next : IsWithin room (access_next w e home)
      next = record {
        requesters = requesters_within (access_agent w e home) e.requester w.requesters room.requesters h.requesters fits;
        homes = h.homes;
        ids = h.ids;
        accounts = h.accounts;
        lines = subst (λ (n : ℕ). n ≤ room.lines) (sym (access_lines (access_at w e home) (access_mark w e home) w.counts)) h.lines;
      }

      by : (b : Bool) → cond b (Some (access_next w e home)) None ≡ Some w' → IsWithin room w'
      by true p = subst (IsWithin room) (same_some _ _ p) next
      by false p = none_isn't w' p

  seen_within : (e : AccessEvent) → access_fits room w e ≡ true → access_seen w e ≡ Some w' → IsWithin room w'
  seen_within e fits = by _
    where
      by : (b : Bool) → cond b (Some (access_counted w)) (access_after w e (home_of (w.lines e.line.0))) ≡ Some w' → IsWithin room w'
      by true q = subst (IsWithin room) (same_some _ _ q) counted_within
      by false q = access_within e (home_of (w.lines e.line.0)) fits q

  pub within : (e : Event) → fits room w e ≡ true → step w e ≡ Some w' → IsWithin room w'
  within (events.Access e) f q = seen_within e f q
  within (events.Granted sides pcrd) f q = credit_within (granted w.options (table_in w) sides pcrd) f q
  within (events.Returned sides pcrd) f q = credit_within (returned w.options (table_in w) sides pcrd) f q
  within (events.Line e) f q = line_within e (allowed w e) f q

pub nothing_within : (room : Room) (options : WatchOptions) → IsWithin room (nothing_watched options)
nothing_within room options = record { requesters = omega arith; homes = omega arith; ids = omega arith; accounts = omega arith; lines = omega arith }
