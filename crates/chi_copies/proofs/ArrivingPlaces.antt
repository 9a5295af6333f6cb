-- The places of requests: what becomes of sides becomes of members, what is asked of them, and a request that comes.
use Rattle.std.proofs.Common.{rules, arith, ◌≡◌, ◌≢◌, ℕ, zero, suc, ◌<◌, ◌≤◌, refl, sym, subst, ap, ◌∙◌, List, length, replicate, slice_set, slice_index_or}
use Rattle.std.specs.Prelude.{Bool, true, false, ◌&&◌, ◌==◌, nat_lt, Option, Some, None, if◌then◌else◌}
use Rattle.std.proofs.Math.Path.{fun_ext}
use Rattle.std.proofs.lemmas.Bool.{eqb-true}
use Rattle.std.proofs.lemmas.List.{get_or-set_other}
use Rattle.std.proofs.lemmas.Grind.{get_or-set_at}
use Rattle.chi_observer.specs.declared.kinds.Kind.{Kind}
use Rattle.chi_observer.specs.declared.kinds.Kind.TheVariants.{ReadNotSharedDirty, ReadShared, ReadClean, ReadOnce, ReadUnique, CleanUnique, MakeUnique, CleanShared, CleanInvalid, MakeInvalid, Evict, WriteBackFull, WriteCleanFull, WriteEvictFull, WriteUniqueFull}
use Rattle.chi_observer.specs.declared.flits.Act.{Act}
use Rattle.chi_observer.specs.declared.flits.Act.TheVariants.{Request, Resend, SnpResp, CompAck, CopyBackWrData, NonCopyBackWrData, Load, Store}
use Rattle.chi_observer.specs.declared.flits.Due.{Due}
use Rattle.chi_observer.specs.declared.flits.Due.TheVariants.{Nothing, Completion, Resending, SureCompletion, WriteData, Acknowledgement}
use Rattle.chi_observer.specs.Rules.{is_resending}
use Rattle.chi_observer.specs.Copies.Copy.{Invalid}
use Rattle.chi_copies.specs.declared.replies.Asked.{Asked}
use Rattle.chi_copies.specs.declared.replies.Reply.{Reply}
use Rattle.chi_copies.specs.declared.sides.Sides.{Sides as SidesCode}
use Rattle.chi_copies.specs.Copies.{Held, plain, same_held}
use Rattle.chi_copies.specs.Rules.{is_resent}
use Rattle.chi_copies.specs.declared.copies.Copies.{Copies as CopiesCode}
use Rattle.chi_copies.specs.declared.side_tests.ReplyTest.TheVariants.{Any}
use Rattle.chi_copies.specs.Sets.{any_below, members}
use Rattle.chi_copies.specs.Arriving.{Member, Members, any_member, any_of, came, led, same_flit, same_member, same_option}
use Rattle.chi_copies.specs.ArrivingLines.{Sides, any_side, class_of, is_asking, is_none, is_place, is_side, nothing_sent, kind_of_class, member_passes, members_by, no_rows, place_of_request, request_at, resent_of, rest_of, rests, same_sent, side_image, sides_of}
use Rattle.chi_copies.proofs.Finite.{no, left, right, both}
use Rattle.chi_copies.proofs.Sets.{same_bool, any_in, same_is}
use Rattle.chi_copies.proofs.Put.{differ}
use Rattle.chi_copies.proofs.PromptSteps.{flit_self}
use Rattle.chi_copies.proofs.Rows.{same_held_self}
use Rattle.chi_copies.proofs.ArrivingRows.{fits_sent, is_sent, out_below, sent_is, sent_self}
use Rattle.chi_copies.proofs.ArrivingSides.{Leads, has_row, in_side, none_past, out_side}
use Rattle.chi_copies.proofs.ArrivingMembers.{class_low, in_member, is_known, out_member, request_is, request_self, resent_kind}

-- A PLACE
abbrev end_place : Bool → ℕ
end_place b = if b then 8 else 9

by_end : {P : Type 0} (b : Bool) → (nat_lt (end_place b) 9 ≡ true → P) → (end_place b ≡ 9 → P) → P
by_end true f g = f refl
by_end false f g = g refl

by_place : {P : Type 0} (d : Due) (r : Option Act) → (nat_lt (place_of_request d r) 9 ≡ true → is_known r ≡ true → P) → (place_of_request d r ≡ 9 → P) → P
by_place d None f g = f refl refl
by_place d (Some (Request kind)) f g = f (class_low kind) refl
by_place d (Some (Resend kind)) f g = by_end (is_resent kind d) (λ l. f l refl) g
by_place d (Some (SnpResp x)) f g = g refl
by_place d (Some CompAck) f g = g refl
by_place d (Some (CopyBackWrData x)) f g = g refl
by_place d (Some NonCopyBackWrData) f g = g refl
by_place d (Some (Load v)) f g = g refl
by_place d (Some (Store v)) f g = g refl

at_known : (d : Due) (p : ℕ) → is_known (request_at d p) ≡ true
at_known d p = by (p == 0) (p == 8)
  where
    by : (a b : Bool) → is_known (if a then None else (if b then Some (Resend (resent_of d)) else Some (Request (kind_of_class p)))) ≡ true
    by true b = refl
    by false true = refl
    by false false = refl

place_back : (d : Due) (r : Option Act) → nat_lt (place_of_request d r) 9 ≡ true → is_place d (place_of_request d r) ≡ true
place_back d None l = refl
place_back d (Some (Request kind)) l = class_back kind
  where
    class_back : (kind : Kind) → is_place d (class_of kind) ≡ true
    class_back ReadNotSharedDirty = refl
    class_back ReadShared = refl
    class_back ReadClean = refl
    class_back ReadOnce = refl
    class_back ReadUnique = refl
    class_back CleanUnique = refl
    class_back MakeUnique = refl
    class_back CleanShared = refl
    class_back CleanInvalid = refl
    class_back MakeInvalid = refl
    class_back Evict = refl
    class_back WriteBackFull = refl
    class_back WriteCleanFull = refl
    class_back WriteEvictFull = refl
    class_back WriteUniqueFull = refl
place_back d (Some (Resend kind)) l = by (is_resent kind d) refl l
  where
    by : (b : Bool) → is_resent kind d ≡ b → nat_lt (if b then 8 else 9) 9 ≡ true → is_place d (if b then 8 else 9) ≡ true
    by false e l = no l
    by true e l = subst (λ d. is_place d 8 ≡ true) (sym (resent_kind kind d e)) (ap (λ b. end_place b == 8) (flit_self (Request kind)))
place_back d (Some (SnpResp x)) l = no l
place_back d (Some CompAck) l = no l
place_back d (Some (CopyBackWrData x)) l = no l
place_back d (Some NonCopyBackWrData) l = no l
place_back d (Some (Load v)) l = no l
place_back d (Some (Store v)) l = no l

-- WHAT BECOMES OF SIDES
module _ (R : Leads) (d : Due) (T U : ℕ → Sides) (each : (p : ℕ) → nat_lt p 9 ≡ true → (h : Held) (s : Option Reply) → U p h s ≡ side_image R (T p) h s)
    (none : (h : Held) (s : Option Reply) → T 9 h s ≡ false) (none_then : (h : Held) (s : Option Reply) → U 9 h s ≡ false) (k : Member) where
  abbrev moved : Member → Members
  moved m k = same_option same_flit m.request k.request && R m.held m.reply k.held k.reply

  abbrev S : Members
  S = members_by d T

  forth : members_by d U k ≡ true → led moved S k ≡ true
  forth e = by_place d k.request
      (λ l w. let x = out_side R (T (place_of_request d k.request)) k.held k.reply (sym (each (place_of_request d k.request) l k.held k.reply) ∙ e) in
      in_member (λ m. S m && moved m k) (record { held = x.held; request = k.request; reply = x.reply }) w x.sent
      (both (T (place_of_request d k.request) x.held x.reply) _ x.has (both (same_option same_flit k.request k.request) _ (request_self k.request) x.leads)))
      (λ z. no (sym (none_then k.held k.reply) ∙ ap (λ (p : ℕ). U p k.held k.reply) (sym z) ∙ e))

  back_at : (m : Member) → is_known m.request ≡ true → is_sent m.reply ≡ true → S m ≡ true → moved m k ≡ true → members_by d U k ≡ true
  back_at m w s e f = by_place d m.request
      (λ l _. subst (λ r. U (place_of_request d r) k.held k.reply ≡ true) (request_is m.request k.request w (left (same_option same_flit m.request k.request) _ f))
      (each (place_of_request d m.request) l k.held k.reply ∙ in_side R (T (place_of_request d m.request)) m.held m.reply k.held k.reply s e (right (same_option same_flit m.request k.request) _ f)))
      (λ z. no (sym (none m.held m.reply) ∙ ap (λ (p : ℕ). T p m.held m.reply) (sym z) ∙ e))

  pub moved_all : members_by d U k ≡ led moved S k
  moved_all = same_bool (members_by d U k) (led moved S k) forth
      (λ e. let x = out_member (λ m. S m && moved m k) e in back_at x.member x.known x.sent (left (S x.member) _ x.has) (right (S x.member) _ x.has))

-- WHAT IS ASKED
module _ (F : Held → Option Reply → Bool) (d : Due) (T : ℕ → Sides) (none : (h : Held) (s : Option Reply) → T 9 h s ≡ false) where
  abbrev has : ℕ → Bool
  has p = is_place d p && any_side F (T p)

  abbrev found : Member → Bool
  found m = members_by d T m && F m.held m.reply

  abbrev leads : Leads
  leads h s g t = F h s

  pub places_any : any_below 9 has ≡ any_member found
  places_any = same_bool (any_below 9 has) (any_member found)
      (λ e. let x = out_below 9 has e in
      let at : place_of_request d (request_at d x.0) ≡ x.0 = eqb-true (place_of_request d (request_at d x.0)) x.0 (left (is_place d x.0) _ x.2) in
      let y = out_side leads (T x.0) (plain Invalid) None (right (is_place d x.0) _ x.2) in
      in_member found (record { held = y.held; request = request_at d x.0; reply = y.reply }) (at_known d x.0) y.sent
      (both (T (place_of_request d (request_at d x.0)) y.held y.reply) _ (ap (λ (p : ℕ). T p y.held y.reply) at ∙ y.has) y.leads))
      (λ e. let x = out_member found e in let m = x.member in by_place d m.request
      (λ l _. let low : place_of_request d m.request < 9 = search (rules, arith, l) in any_in 9 has (place_of_request d m.request) low
      (both (is_place d (place_of_request d m.request)) _ (place_back d m.request l)
      (in_side leads (T (place_of_request d m.request)) m.held m.reply (plain Invalid) None x.sent (left (members_by d T m) _ x.has) (right (members_by d T m) _ x.has))))
      (λ z. no (sym (none m.held m.reply) ∙ ap (λ (p : ℕ). T p m.held m.reply) (sym z) ∙ left (members_by d T m) _ x.has)))

-- A REQUEST COMES
no_class : (kind : Kind) → (class_of kind == 0) ≡ false
no_class kind = by_kind kind
  where
    by_kind : (kind : Kind) → (class_of kind == 0) ≡ false
    by_kind ReadNotSharedDirty = refl
    by_kind ReadShared = refl
    by_kind ReadClean = refl
    by_kind ReadOnce = refl
    by_kind ReadUnique = refl
    by_kind CleanUnique = refl
    by_kind MakeUnique = refl
    by_kind CleanShared = refl
    by_kind CleanInvalid = refl
    by_kind MakeInvalid = refl
    by_kind Evict = refl
    by_kind WriteBackFull = refl
    by_kind WriteCleanFull = refl
    by_kind WriteEvictFull = refl
    by_kind WriteUniqueFull = refl

module _ (act : Act) (asks : is_asking act ≡ true) (d e : Due) (T U : ℕ → Sides) (here : (h : Held) (s : Option Reply) → U 0 h s ≡ T (place_of_request d (Some act)) h s)
    (other : (p : ℕ) → (p == 0) ≡ false → (h : Held) (s : Option Reply) → U p h s ≡ false)
    (none : (h : Held) (s : Option Reply) → T 9 h s ≡ false) (sent : (h : Held) (s : Option Reply) → T (place_of_request d (Some act)) h s ≡ true → is_sent s ≡ true) (k : Member) where
  came_at : (r : Option Act) → k.request ≡ r → U (place_of_request e r) k.held k.reply ≡ true → led (came act) (members_by d T) k ≡ true
  came_at None w f = let g : T (place_of_request d (Some act)) k.held k.reply ≡ true = sym (here k.held k.reply) ∙ f in
      in_member (λ m. members_by d T m && came act m k) (record { held = k.held; request = Some act; reply = k.reply }) asks (sent k.held k.reply g)
      (both (T (place_of_request d (Some act)) k.held k.reply) _ g (both (same_option same_flit (Some act) (Some act)) _ (flit_self act)
      (subst (λ r. same_member (record { held = k.held; request = None; reply = k.reply }) (record { held = k.held; request = r; reply = k.reply }) ≡ true) (sym w)
      (both (same_held k.held k.held) _ (same_held_self k.held) (sent_self k.reply)))))
  came_at (Some (Request kind)) w f = no (sym (other (class_of kind) (no_class kind) k.held k.reply) ∙ f)
  came_at (Some (Resend kind)) w f = by (is_resent kind e) f
    where
      by : (b : Bool) → U (if b then 8 else 9) k.held k.reply ≡ true → led (came act) (members_by d T) k ≡ true
      by true f = no (sym (other 8 refl k.held k.reply) ∙ f)
      by false f = no (sym (other 9 refl k.held k.reply) ∙ f)
  came_at (Some (SnpResp x)) w f = no (sym (other 9 refl k.held k.reply) ∙ f)
  came_at (Some CompAck) w f = no (sym (other 9 refl k.held k.reply) ∙ f)
  came_at (Some (CopyBackWrData x)) w f = no (sym (other 9 refl k.held k.reply) ∙ f)
  came_at (Some NonCopyBackWrData) w f = no (sym (other 9 refl k.held k.reply) ∙ f)
  came_at (Some (Load v)) w f = no (sym (other 9 refl k.held k.reply) ∙ f)
  came_at (Some (Store v)) w f = no (sym (other 9 refl k.held k.reply) ∙ f)

  none_is : (r : Option Act) → same_option same_flit None r ≡ true → None ≡ r
  none_is None h = refl
  none_is (Some a) h = no h

  came_back : (m : Member) → is_known m.request ≡ true → is_sent m.reply ≡ true → members_by d T m ≡ true → came act m k ≡ true → members_by e U k ≡ true
  came_back m w l f g =
      let is : m.request ≡ Some act = request_is m.request (Some act) w (left (same_option same_flit m.request (Some act)) _ g) in
      let same = right (same_option same_flit m.request (Some act)) _ g in
      let rest = right (same_held m.held k.held) _ same in
      let held : m.held ≡ k.held = same_is m.held k.held (left (same_held m.held k.held) _ same) in
      let reply : m.reply ≡ k.reply = sent_is m.reply k.reply l (right (same_option same_flit None k.request) _ rest) in
      subst (λ r. U (place_of_request e r) k.held k.reply ≡ true) (none_is k.request (left (same_option same_flit None k.request) _ rest))
      (here k.held k.reply ∙ (λ i. T (place_of_request d (Some act)) (sym held i) (sym reply i)) ∙ ap (λ r. T (place_of_request d r) m.held m.reply) (sym is) ∙ f)

  pub came_all : members_by e U k ≡ led (came act) (members_by d T) k
  came_all = same_bool (members_by e U k) (led (came act) (members_by d T) k) (came_at k.request refl)
      (λ f. let x = out_member (λ m. members_by d T m && came act m k) f in came_back x.member x.known x.sent (left (members_by d T x.member) _ x.has) (right (members_by d T x.member) _ x.has))

-- NOTHING BUT A REQUEST
rests_is : (S : Sides) (h : Held) (s : Option Reply) → rests S h s ≡ (is_none s && S h s)
rests_is S h None = refl
rests_is S h (Some r) = refl

module _ (d : Due) (T U : ℕ → Sides) (each : (p : ℕ) → nat_lt p 9 ≡ true → (h : Held) (s : Option Reply) → U p h s ≡ rests (T p) h s)
    (none : (h : Held) (s : Option Reply) → T 9 h s ≡ false) (none_then : (h : Held) (s : Option Reply) → U 9 h s ≡ false) (m : Member) where
  and_nothing : (b : Bool) → false ≡ (b && false)
  and_nothing true = refl
  and_nothing false = refl

  pub rest_all : members_by d U m ≡ rest_of (members_by d T) m
  rest_all = by_place d m.request
      (λ l _. each (place_of_request d m.request) l m.held m.reply ∙ rests_is (T (place_of_request d m.request)) m.held m.reply)
      (λ z. ap (λ (p : ℕ). U p m.held m.reply) z ∙ none_then m.held m.reply ∙ and_nothing (is_none m.reply) ∙ ap (λ b. is_none m.reply && b) (sym (none m.held m.reply) ∙ ap (λ (p : ℕ). T p m.held m.reply) (sym z)))

-- NONE THAT IS SENT AGAIN
no_eight : (kind : Kind) → (class_of kind == 8) ≡ false
no_eight kind = by_kind kind
  where
    by_kind : (kind : Kind) → (class_of kind == 8) ≡ false
    by_kind ReadNotSharedDirty = refl
    by_kind ReadShared = refl
    by_kind ReadClean = refl
    by_kind ReadOnce = refl
    by_kind ReadUnique = refl
    by_kind CleanUnique = refl
    by_kind MakeUnique = refl
    by_kind CleanShared = refl
    by_kind CleanInvalid = refl
    by_kind MakeInvalid = refl
    by_kind Evict = refl
    by_kind WriteBackFull = refl
    by_kind WriteCleanFull = refl
    by_kind WriteEvictFull = refl
    by_kind WriteUniqueFull = refl

not_resent : (kind : Kind) (d : Due) → is_resending d ≡ false → is_resent kind d ≡ false
not_resent kind Nothing h = refl
not_resent kind (Completion q) h = refl
not_resent kind (Resending q) h = no (sym h)
not_resent kind (SureCompletion q) h = refl
not_resent kind (WriteData q) h = refl
not_resent kind Acknowledgement h = refl

module _ (d e : Due) (T U : ℕ → Sides) (ok : is_resending d ≡ false) (same : (p : ℕ) → (p == 8) ≡ false → (h : Held) (s : Option Reply) → U p h s ≡ T p h s)
    (last : (h : Held) (s : Option Reply) → U 8 h s ≡ false) (none : (h : Held) (s : Option Reply) → T 9 h s ≡ false) where
  unresent_at : (r : Option Act) (h : Held) (s : Option Reply) → U (place_of_request e r) h s ≡ T (place_of_request d r) h s
  unresent_at None h s = same 0 refl h s
  unresent_at (Some (Request kind)) h s = same (class_of kind) (no_eight kind) h s
  unresent_at (Some (Resend kind)) h s = by (is_resent kind e) ∙ sym (none h s) ∙ ap (λ b. T (if b then 8 else 9) h s) (sym (not_resent kind d ok))
    where
      by : (b : Bool) → U (if b then 8 else 9) h s ≡ false
      by true = last h s
      by false = same 9 refl h s ∙ none h s
  unresent_at (Some (SnpResp x)) h s = same 9 refl h s
  unresent_at (Some CompAck) h s = same 9 refl h s
  unresent_at (Some (CopyBackWrData x)) h s = same 9 refl h s
  unresent_at (Some NonCopyBackWrData) h s = same 9 refl h s
  unresent_at (Some (Load v)) h s = same 9 refl h s
  unresent_at (Some (Store v)) h s = same 9 refl h s

  pub unresent_all : (m : Member) → members_by e U m ≡ members_by d T m
  unresent_all m = unresent_at m.request m.held m.reply

-- NONE
pub empties : (a : Asked) (x : SidesCode) → ((h : Held) (s : Option Reply) → sides_of a x h s ≡ false) → (n p : ℕ) (h : Held) (s : Option Reply) → sides_of a (slice_index_or (replicate n x) p no_rows) h s ≡ false
empties a x e zero zero h s = none_past h
empties a x e zero (suc p) h s = none_past h
empties a x e (suc n) zero h s = e h s
empties a x e (suc n) (suc p) h s = empties a x e n p h s

pub set_there : (a : Asked) (xs : List SidesCode) (n p : ℕ) (x : SidesCode) → (p == n) ≡ false → (h : Held) (s : Option Reply) → sides_of a (slice_index_or (slice_set xs n x) p no_rows) h s ≡ sides_of a (slice_index_or xs p no_rows) h s
set_there a xs n p x e h s = let apart : p ≢ n = differ p n e in ap (λ x. sides_of a x h s) (get_or-set_other xs n p x no_rows apart)

pub set_here : (a : Asked) (xs : List SidesCode) (n : ℕ) (x : SidesCode) → n < length xs → (h : Held) (s : Option Reply) → sides_of a (slice_index_or (slice_set xs n x) n no_rows) h s ≡ sides_of a x h s
set_here a xs n x l h s = ap (λ x. sides_of a x h s) (get_or-set_at xs n n x no_rows refl l)

pub rows_sent : (a : Asked) (x : SidesCode) → length x.rows ≡ 45 → (h : Held) (s : Option Reply) → sides_of a x h s ≡ true → is_sent s ≡ true
rows_sent a x whole h s e = fits_sent a s (has_row a x h s whole e)

pub no_place : (act : Act) (d : Due) → 9 ≤ place_of_request d (Some act) → place_of_request d (Some act) ≡ 9
no_place act d l = by_place d (Some act) (λ low _. absurd (search (rules, arith, low, l))) (λ z. z)

-- each copy is of all
and_true : (b : Bool) → (b && true) ≡ b
and_true true = refl
and_true false = refl

pub any_each : (S : Members) (of : CopiesCode) → ((h : Held) → members of h ≡ true) → any_of S (member_passes Any of) ≡ any_member S
any_each S of all = ap any_member (fun_ext (λ m. ap (λ b. S m && b) (all m.held) ∙ and_true (S m)))

and_nothing_more : (b : Bool) → false ≡ (b && false)
and_nothing_more true = refl
and_nothing_more false = refl

-- ONE THAT HAS SENT NOTHING
pub none_sent : (U : ℕ → Sides) → ((h : Held) (s : Option Reply) → U 0 h s ≡ is_side (plain Invalid) None h s) → ((p : ℕ) → (p == 0) ≡ false → (h : Held) (s : Option Reply) → U p h s ≡ false)
    → (m : Member) → members_by Nothing U m ≡ same_member nothing_sent m
none_sent U here other m = by m.request
  where
    by : (r : Option Act) → U (place_of_request Nothing r) m.held m.reply ≡ (same_held (plain Invalid) m.held && (same_option same_flit None r && same_sent None m.reply))
    by None = here m.held m.reply
    by (Some (Request kind)) = other (class_of kind) (no_class kind) m.held m.reply ∙ and_nothing_more (same_held (plain Invalid) m.held)
    by (Some (Resend kind)) = other 9 refl m.held m.reply ∙ and_nothing_more (same_held (plain Invalid) m.held)
    by (Some (SnpResp x)) = other 9 refl m.held m.reply ∙ and_nothing_more (same_held (plain Invalid) m.held)
    by (Some CompAck) = other 9 refl m.held m.reply ∙ and_nothing_more (same_held (plain Invalid) m.held)
    by (Some (CopyBackWrData x)) = other 9 refl m.held m.reply ∙ and_nothing_more (same_held (plain Invalid) m.held)
    by (Some NonCopyBackWrData) = other 9 refl m.held m.reply ∙ and_nothing_more (same_held (plain Invalid) m.held)
    by (Some (Load v)) = other 9 refl m.held m.reply ∙ and_nothing_more (same_held (plain Invalid) m.held)
    by (Some (Store v)) = other 9 refl m.held m.reply ∙ and_nothing_more (same_held (plain Invalid) m.held)

-- THE SAME SIDES
pub same_all : (d : Due) (T U : ℕ → Sides) → ((p : ℕ) → nat_lt p 9 ≡ true → (h : Held) (s : Option Reply) → U p h s ≡ T p h s) → ((h : Held) (s : Option Reply) → T 9 h s ≡ false)
    → ((h : Held) (s : Option Reply) → U 9 h s ≡ false) → (m : Member) → members_by d U m ≡ members_by d T m
same_all d T U each none none_then m = by_place d m.request
    (λ l _. each (place_of_request d m.request) l m.held m.reply)
    (λ z. ap (λ (p : ℕ). U p m.held m.reply) z ∙ none_then m.held m.reply ∙ sym (none m.held m.reply) ∙ ap (λ (p : ℕ). T p m.held m.reply) (sym z))
