-- Start is its row of the protocol.
use Rattle.std.proofs.Common.{◌≡◌, ◌≢◌, ℕ, ◌<◌, ◌≤◌, ◌++◌, List, length, set, Bool, true, false, Option, Some, None, is_some, ◌==◌, ◌&&◌, if◌then◌else◌, sym, subst, refl, ap, ◌∙◌, inl, inr, ⊎_elim, arith}
use Rattle.std.proofs.Math.Path.{fun_ext}
use Rattle.std.specs.List.Sorted.{IsPermutation}
use Rattle.std.proofs.lemmas.Bool.{and_parts, cases_eq, cases_lt, eq-eqb, ne_eqb, false≢true}
use Rattle.std.proofs.lemmas.List.{get_or_past, length-set}
use Rattle.chi_flit.specs.declared.numbers.Agent.{Agent}
use Rattle.chi_flit.specs.declared.numbers.Line.{Line}
use Rattle.chi_flit.specs.declared.numbers.Slot.{Slot}
use Rattle.chi_flit.specs.declared.kind.Kind.{Kind}
use Rattle.chi_flit.specs.declared.kind.Kind.TheVariants.{ReadNotSharedDirty, ReadShared, ReadUnique, CleanUnique, Evict, WriteBackFull, WriteCleanFull, WriteEvictFull}
use Rattle.chi_flit.specs.declared.credit.Profile.{Profile}
use Rattle.chi_flit.specs.declared.action.Step.TheVariants as steps
use Rattle.chi_flit.specs.declared.snoop.Snoop.{Snoop}
use Rattle.chi_flit.specs.declared.snoop.Snoop.TheVariants.{SnpShared, SnpNotSharedDirty, SnpUnique, SnpCleanInvalid}
use Rattle.chi_flit.specs.Kind.{snoop_of}
use Rattle.chi_filter.specs.Filter.{FilterState, filter_without, has_any, is_in, is_named, nobody as nobody_marks, only_set, others_than, owner_set}
use Rattle.chi_wires.specs.declared.cells.Cells.{Cells}
use Rattle.chi_wires.specs.Flight.{Flit, in_flight}
use Rattle.chi_homeline.specs.declared.serving.Waiting.{Waiting}
use Rattle.chi_homeline.specs.Home.Started.{Sends, Snoops}
use Rattle.chi_homeline.specs.Home.{asks, asks_shared, completed_filter, completes_unique, completion_message, completion_of, home_after_completion, is_idle, started_as, started_sends, started_sends_as, taken_up, waiting_of}
use Rattle.chi_homeline.specs.declared.serving.Serving.{Serving}
use Rattle.chi_homeline.specs.declared.serving.Serving.TheVariants.{Idle, Snooping}
use Rattle.chi_line.specs.LineState.{LineState}
use Rattle.chi_line.specs.Step.{started_effect, started_line}
use Rattle.chi_line.specs.Traffic.{start_flits}
use Rattle.chi_line.specs.Protocol.{LineStep, Asks, SharedReadAsks, SnoopStart, Nobody, Somebody, Standing, StartRow, only, others, with_for}
use Rattle.chi_line.specs.Kept.{IsOwnerInRange, Kept}
use Rattle.chi_line.specs.Meaning.{serving_of, set_of, standing_of}
use Rattle.chi_line.proofs.Asks.{asks_fit, was_in}
use Rattle.chi_line.proofs.Finds.{idle_is}
use Rattle.chi_line.proofs.StandingParts.{each, each_of, leaves_filter, mark_out, nobody, only_are, others_are, puts, somebody, with_filter}
use Rattle.chi_line.proofs.CompletionRows.{completes}

within : (n k : ℕ) → n < 8 → k ≡ 8 → n < k
within n k low is = omega arith

in_low : (marks : List Bool) (k : ℕ) → length marks ≡ 8 → is_in marks k ≡ true → k < 8
in_low marks k eight here = ⊎_elim (λ (low : k < 8). low) (λ (past : 8 ≤ k). absurd (false≢true (sym (get_or_past marks k false (omega (arith, eight, past))) ∙ here))) (cases_lt k 8)

-- the one in a set of one
lone : (marks : List Bool) (m : Agent) → set_of marks m ≡ true → ((k : ℕ) → is_in marks k ≡ true → k ≡ m.0) → set_of marks ≡ only m
lone marks m here one = fun_ext (λ (k : Agent). go k (is_in marks k.0) refl)
  where
    go : (k : Agent) (b : Bool) → is_in marks k.0 ≡ b → is_in marks k.0 ≡ (k.0 == m.0)
    go k true is = is ∙ sym (eq-eqb k.0 m.0 (one k.0 is))
    go k false is = is ∙ sym (ne_eqb k.0 m.0 (λ e. false≢true (sym is ∙ (subst (λ (j : ℕ). is_in marks j ≡ true) (sym e) here))))

-- the owner where it is another agent
other_than : (k n a : ℕ) → a ≢ n → (if k == n then false else (k == a)) ≡ (k == a)
other_than k n a apart = grind arith

none_than : (k n a : ℕ) → a ≡ n → (if k == n then false else (k == a)) ≡ false
none_than k n a same = grind arith

never : (b : Bool) → (if b then false else false) ≡ false
never true = refl
never false = refl

none_asked : (marks : List Bool) (n : Agent) → n.0 < 8 → marks ≡ nobody_marks → set_of (others_than n.0 marks) ≡ λ m. false
none_asked marks n low is = ap (λ (l : List Bool). set_of (others_than n.0 l)) is ∙ (others_are nobody_marks n low
    ∙ fun_ext (λ (k : Agent). ap (λ (b : Bool). if k.0 == n.0 then false else b) (mark_out nobody_marks refl k.0) ∙ never (k.0 == n.0)))

only_asked : (a n : Agent) → n.0 < 8 → a.0 < 8 → set_of (others_than n.0 (only_set a.0)) ≡ with_for (only a) n false
only_asked a n low_n low_a = others_are (only_set a.0) n (within n.0 _ low_n (length-set nobody_marks a.0 true)) ∙ ap (λ (set : Agent → Bool). with_for set n false) (only_are a low_a)

same_agent : (a m : Agent) → Some a ≡ Some m → a ≡ m
same_agent a m e = cc

owner_asked : (s : Standing) (f : FilterState) (n : Agent) (owner : Option Agent) → f.owner ≡ owner → IsOwnerInRange owner → n.0 < 8 → (f.unique ≡ true → Nobody (others (with_filter s f) n)) → SharedReadAsks n (with_filter s f) (set_of (others_than n.0 (owner_set owner)))
owner_asked s f n None is inside low none = inr (inr (none, (λ m e. let no : None ≡ Some m = sym is ∙ e in absurd cc), none_asked nobody_marks n low refl))
owner_asked s f n (Some a) is inside low none = ⊎_elim
    (λ (same : a.0 ≡ n.0). inr (inr (none, (λ m e. sym (same_agent a m (sym is ∙ e)) ∙ ap (λ (k : ℕ). let agent : Agent = record { 0 = k } in agent) same), only_asked a n low inside ∙ fun_ext (λ (k : Agent). none_than k.0 n.0 a.0 same))))
    (λ (apart : a.0 ≢ n.0). inr (inl (none, a, is, (λ (e : a ≡ n). apart (ap (λ (k : Agent). k.0) e)), only_asked a n low inside ∙ fun_ext (λ (k : Agent). other_than k.0 n.0 a.0 apart))))
    (cases_eq a.0 n.0)

abbrev IsLone : FilterState → Type 0
IsLone f = f.unique ≡ true → (n m : ℕ) → n < 8 → m < 8 → is_named f n ≡ true → is_named f m ≡ true → n ≡ m

shared_asked : (s : Standing) (f : FilterState) (n : Agent) → n.0 < 8 → length f.named ≡ 8 → IsOwnerInRange f.owner → IsLone f → SharedReadAsks n (with_filter s f) (set_of (asks_shared f n.0))
shared_asked s f n low eight inside one = go (f.unique && has_any (others_than n.0 f.named)) refl
  where
    to_others : set_of (others_than n.0 f.named) ≡ others (with_filter s f) n
    to_others = others_are f.named n (within n.0 _ low eight)

    go : (b : Bool) → (f.unique && has_any (others_than n.0 f.named)) ≡ b → SharedReadAsks n (with_filter s f) (set_of (if b then others_than n.0 f.named else others_than n.0 (owner_set f.owner)))
    go true is =
        let parts = and_parts f.unique (has_any (others_than n.0 f.named)) is in
        let there : Somebody (set_of (others_than n.0 f.named)) = somebody (others_than n.0 f.named) parts.1 in
        let long : length (others_than n.0 f.named) ≡ 8 = length-set f.named n.0 false ∙ eight in
        inl (
          parts.0,
          there.0,
          sym (ap (λ (set : Agent → Bool). set there.0) to_others) ∙ there.1,
          lone (others_than n.0 f.named) there.0 there.1 (λ k here. one parts.0 k there.0.0 (in_low _ k long here) (in_low _ there.0.0 long there.1) (was_in n.0 k f.named low eight here) (was_in n.0 there.0.0 f.named low eight there.1)),
        )
    go false is = owner_asked s f n f.owner refl inside low (λ flag. subst Nobody to_others (nobody (others_than n.0 f.named) (grind (arith, is, flag))))

asks_is : (kind : Kind) (s : Standing) (f : FilterState) (n : Agent) → is_some (snoop_of kind) ≡ true → n.0 < 8 → length f.named ≡ 8 → IsOwnerInRange f.owner → IsLone f → Asks kind n (with_filter s f) (set_of (asks kind f n.0))
asks_is ReadNotSharedDirty s f n served low eight inside one = shared_asked s f n low eight inside one
asks_is ReadShared s f n served low eight inside one = shared_asked s f n low eight inside one
asks_is ReadUnique s f n served low eight inside one = others_are f.named n (within n.0 _ low eight)
asks_is CleanUnique s f n served low eight inside one = others_are f.named n (within n.0 _ low eight)
asks_is unserved s f n served low eight inside one = absurd (false≢true served)

-- the line without the waiting request
abbrev taken_standing : LineState → Agent → Standing
taken_standing s n = record (standing_of s) { waiting = each_of (λ (w : Option Waiting). w) None (set s.home.waiting n.0 None) }

record MayStart (s : LineState) (n : Agent) : Type 0 where
  low : n.0 < 8
  idle : s.home.serving ≡ Idle
  named : length s.home.filter.named ≡ 8
  waiting : length s.home.waiting ≡ 8
  owner : IsOwnerInRange s.home.filter.owner
  one : IsLone s.home.filter

service : (s : LineState) (n : Agent) (kind : Kind) (snoop : Snoop) (slot : Slot) (flits : List Cells) → MayStart s n → is_some (snoop_of kind) ≡ true
    → (b : Bool) → has_any (asks kind s.home.filter n.0) ≡ b
    → IsPermutation (in_flight flits) (start_flits n (if b then Snoops snoop (asks kind s.home.filter n.0) else Sends (completion_of s.home kind n s.home.memory)) ++ in_flight s.flits)
    → SnoopStart kind snoop n slot (taken_standing s n) (started_effect (if b then Snoops snoop (asks kind s.home.filter n.0) else Sends (completion_of s.home kind n s.home.memory)))
    (standing_of (record s {
      home = if b then record (taken_up s.home n.0) { serving = Snooping n kind slot; awaited = asks kind s.home.filter n.0 } else home_after_completion (taken_up s.home n.0) kind n slot;
      flits = flits;
    }))
service s n kind snoop slot flits may served true some moves =
    let f : FilterState = s.home.filter in (
      refl,
      set_of (asks kind f n.0),
      asks_is kind (taken_standing s n) f n served may.low may.named may.owner may.one,
      inl (
        somebody (asks kind f n.0) some,
        (refl, subst (λ (t : List Flit). IsPermutation (in_flight flits) (t ++ in_flight s.flits)) (each (asks kind f n.0) snoop (asks_fit kind f n.0 served may.low may.named).eight) moves),
      ),
    )
service s n kind snoop slot flits may served false none moves =
    let f : FilterState = s.home.filter in (
      refl,
      set_of (asks kind f n.0),
      asks_is kind (taken_standing s n) f n served may.low may.named may.owner may.one,
      inr (
        nobody (asks kind f n.0) none,
        completion_message kind (completes_unique kind f n.0) s.home.memory,
        with_filter (taken_standing s n) (completed_filter (completes_unique kind f n.0) f n.0),
        completes kind s.home.memory s.home.memory (taken_standing s n) f n served may.low may.named (record { is = refl; memory = λ _. refl }),
        (refl, moves),
      ),
    )

start_as : (s : LineState) (n : Agent) (kind : Kind) (slot : Slot) (flits : List Cells) → MayStart s n
    → IsPermutation (in_flight flits) (start_flits n (started_sends_as kind (snoop_of kind) s.home n slot) ++ in_flight s.flits)
    → StartRow kind n slot (taken_standing s n) (started_effect (started_sends_as kind (snoop_of kind) s.home n slot)) (standing_of (record s { home = started_as kind (taken_up s.home n.0) n slot; flits = flits }))
start_as s n ReadNotSharedDirty slot flits may moves = service s n ReadNotSharedDirty SnpNotSharedDirty slot flits may refl (has_any (asks ReadNotSharedDirty s.home.filter n.0)) refl moves
start_as s n ReadShared slot flits may moves = service s n ReadShared SnpShared slot flits may refl (has_any (asks ReadShared s.home.filter n.0)) refl moves
start_as s n ReadUnique slot flits may moves = service s n ReadUnique SnpUnique slot flits may refl (has_any (asks ReadUnique s.home.filter n.0)) refl moves
start_as s n CleanUnique slot flits may moves = service s n CleanUnique SnpCleanInvalid slot flits may refl (has_any (asks CleanUnique s.home.filter n.0)) refl moves
start_as s n Evict slot flits may moves =
    (refl, with_filter (taken_standing s n) (filter_without s.home.filter n.0), leaves_filter (taken_standing s n) s.home.filter n (within n.0 _ may.low may.named), (refl, moves))
start_as s n WriteBackFull slot flits may moves = (refl, (refl, moves))
start_as s n WriteCleanFull slot flits may moves = (refl, (refl, moves))
start_as s n WriteEvictFull slot flits may moves = (refl, (refl, moves))

pub row_start : (profile : Profile) (line : Line) (last : List ℕ) (s : LineState) (n : Agent) (request : Waiting) → n.0 < 8 → waiting_of s.home n.0 ≡ Some request → is_idle s.home.serving ≡ true → Kept last s
    → IsPermutation (in_flight (started_line s n request).flits) (start_flits n (started_sends s.home n request) ++ in_flight s.flits)
    → LineStep profile line n steps.Start (standing_of s) (started_effect (started_sends s.home n request)) None (standing_of (started_line s n request))
row_start profile line last s n request low waits idle k moves =
    let is : s.home.serving ≡ Idle = idle_is s.home.serving idle in
    let may : MayStart s n = record { low = low; idle = is; named = k.named; waiting = k.waiting; owner = k.owner; one = k.flag_means_one } in (
      refl,
      request,
      waits,
      ap (λ (v : Serving). serving_of v s.home.awaited) is,
      subst (λ (w : Agent → Option Waiting). StartRow request.kind n request.slot (record (standing_of s) { waiting = w }) (started_effect (started_sends s.home n request)) (standing_of (started_line s n request)))
          (puts (λ (w : Option Waiting). w) None s.home.waiting n None (within n.0 _ low k.waiting))
          (start_as s n request.kind request.slot (started_line s n request).flits may moves),
    )
