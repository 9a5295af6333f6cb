-- An answer to a snoop that arrives at the home.
use Rattle.std.proofs.Common.{arith, ◌≡◌, ◌≢◌, ⊎_elim, ℕ, ◌<◌, List, refl, sym, ap, subst, ◌∙◌, length}
use Rattle.std.specs.Prelude.{Bool, true, false, ◌&&◌, Option, slice_set}
use Rattle.std.proofs.lemmas.Bool.{cases_eq}
use Rattle.std.proofs.lemmas.List.{get_or_default, length-set}
use Rattle.std.proofs.lemmas.List.Folds.{list_any_none}
use Rattle.chi_flit.specs.declared.numbers.Agent.{Agent}
use Rattle.chi_filter.specs.Filter.{FilterState, filter_without, has_any, is_in, is_named, others_than}
use Rattle.chi_wires.specs.declared.cells.Cells.{Cells}
use Rattle.chi_wires.specs.Cell.{no_flits, without_message}
use Rattle.chi_homeline.specs.declared.serving.SnoopAnswer.{SnoopAnswer}
use Rattle.chi_homeline.specs.declared.serving.SnoopAnswer.TheVariants as answers
use Rattle.chi_homeline.specs.Home.{answer_taken, filter_after}
use Rattle.chi_line.specs.LineState.{LineState, cells_of, rn_of}
use Rattle.chi_line.specs.Kept.{Kept, Lane, lane}
use Rattle.chi_line.specs.Snooped.{answer_channel}
use Rattle.chi_line.proofs.Asks.{left_in, left_out}
use Rattle.chi_line.proofs.Frame.{Moves, Puts, moves_home, nothing_waiting, puts_nothing, puts_set, within}
use Rattle.chi_line.proofs.WriteLanes.{Brings, named_after}
use Rattle.chi_observer.specs.declared.kinds.Snoop.{Snoop as SeenSnoop}
use Rattle.chi_observer.specs.declared.flits.Due.{Due}
use Rattle.chi_observer.specs.Copies.{is_unique, same}
use Rattle.chi_observer.specs.Copies.Copy.{Invalid}
use Rattle.chi_observer.specs.Tables.{Known, most}
use Rattle.chi_observer.specs.Observed.{Observed}
use Rattle.chi_conformity.proofs.Flits.{or_in}
use Rattle.chi_conformity.proofs.Held.{Beside, Stands, held_of, words_by, is_evicting, is_given_up, says_none, says_shared, writes_none, writes_shared}
use Rattle.chi_conformity.proofs.Starts.{none_unique, or_says}
use Rattle.chi_conformity.proofs.Unseen.{beside_under, gone_under, named_low, or_last, or_more, or_skip, quiet, still_flagged, unique_some}
use Rattle.chi_conformity.proofs.Told.{no}

-- the line once the answer is in
abbrev pub answer_line : LineState → Agent → SnoopAnswer → LineState
answer_line s agent answer = record s {
  home = answer_taken s.home agent answer;
  flits = slice_set s.flits agent.0 (without_message (cells_of s agent.0) (answer_channel answer));
}

-- WHAT ITS SENDER IS TOLD TO HAVE
gone_by_reply : (up flag : Bool) (x : Lane) (d : Due) (q : Option SeenSnoop) (k : Known) → Beside up flag x d q k → says_none x.flits.rsp_up ≡ true → same (most k) Invalid ≡ true
gone_by_reply up flag x d q k b says = b.gone (or_in (is_evicting x.rn.pending) _ (or_says (says_none x.flits.rsp_up) (writes_none up x.flits.dat_up) says))

gone_by_data : (up flag : Bool) (x : Lane) (d : Due) (q : Option SeenSnoop) (k : Known) → Beside up flag x d q k → writes_none up x.flits.dat_up ≡ true → same (most k) Invalid ≡ true
gone_by_data up flag x d q k b writes = b.gone (or_last (is_evicting x.rn.pending) (says_none x.flits.rsp_up) (writes_none up x.flits.dat_up) writes)

-- no copy that is unique
answer_shared : (answer : SnoopAnswer) (up flag : Bool) (x : Lane) (d : Due) (q : Option SeenSnoop) (k : Known) → Brings x.flits.rsp_up x.flits.dat_up answer → Beside up flag x d q k
    → is_unique (most k) ≡ false
answer_shared answers.I up flag x d q k here b = none_unique (most k) (gone_by_reply up flag x d q k b (ap says_none here))
answer_shared answers.SC up flag x d q k here b = b.shared (or_says (says_shared x.flits.rsp_up) _ (ap says_shared here))
answer_shared (answers.IPD words) up flag x d q k here b = none_unique (most k) (gone_by_data up flag x d q k b (ap (writes_none up) here))
answer_shared (answers.SCPD words) up flag x d q k here b = b.shared (or_in (says_shared x.flits.rsp_up) (writes_shared x.flits.dat_up) (ap writes_shared here))
answer_shared (answers.SD words) up flag x d q k here b = b.shared (or_in (says_shared x.flits.rsp_up) (writes_shared x.flits.dat_up) (ap writes_shared here))

answer_named : (answer : SnoopAnswer) (up flag : Bool) (x : Lane) (d : Due) (q : Option SeenSnoop) (k : Known) → Brings x.flits.rsp_up x.flits.dat_up answer → Beside up flag x d q k
    → same (most k) Invalid ≡ false → named_after answer x.named ≡ true
answer_named answers.I up flag x d q k here b some = no (sym some ∙ gone_by_reply up flag x d q k b (ap says_none here))
answer_named answers.SC up flag x d q k here b some = b.named some
answer_named (answers.IPD words) up flag x d q k here b some = no (sym some ∙ gone_by_data up flag x d q k b (ap (writes_none up) here))
answer_named (answers.SCPD words) up flag x d q k here b some = b.named some
answer_named (answers.SD words) up flag x d q k here b some = b.named some

answered_beside : (answer : SnoopAnswer) (up flag flag' : Bool) (x : Lane) (d : Due) (q : Option SeenSnoop) (k : Known) → Brings x.flits.rsp_up x.flits.dat_up answer → Beside up flag x d q k
    → Beside false flag' (record x { named = named_after answer x.named; awaited = false; flits = without_message x.flits (answer_channel answer) }) d q k
answered_beside answers.I up flag flag' x d q k here b = record {
  due_is = b.due_is;
  snooped_is = b.snooped_is;
  named = answer_named answers.I up flag x d q k here b;
  flagged = λ one. no (sym (answer_shared answers.I up flag x d q k here b) ∙ one);
  gone = λ g. gone_by_reply up flag x d q k b (ap says_none here);
  shared = λ g. answer_shared answers.I up flag x d q k here b;
}
answered_beside answers.SC up flag flag' x d q k here b = record {
  due_is = b.due_is;
  snooped_is = b.snooped_is;
  named = answer_named answers.SC up flag x d q k here b;
  flagged = λ one. no (sym (answer_shared answers.SC up flag x d q k here b) ∙ one);
  gone = λ g. b.gone (or_skip (is_evicting x.rn.pending) (says_none x.flits.rsp_up) (writes_none false x.flits.dat_up) (writes_none up x.flits.dat_up) (gone_under up x.flits.dat_up) g);
  shared = λ g. answer_shared answers.SC up flag x d q k here b;
}
answered_beside (answers.IPD words) up flag flag' x d q k here b = record {
  due_is = b.due_is;
  snooped_is = b.snooped_is;
  named = answer_named (answers.IPD words) up flag x d q k here b;
  flagged = λ one. no (sym (answer_shared (answers.IPD words) up flag x d q k here b) ∙ one);
  gone = λ g. gone_by_data up flag x d q k b (ap (writes_none up) here);
  shared = λ g. answer_shared (answers.IPD words) up flag x d q k here b;
}
answered_beside (answers.SCPD words) up flag flag' x d q k here b = record {
  due_is = b.due_is;
  snooped_is = b.snooped_is;
  named = answer_named (answers.SCPD words) up flag x d q k here b;
  flagged = λ one. no (sym (answer_shared (answers.SCPD words) up flag x d q k here b) ∙ one);
  gone = λ g. b.gone (or_more (is_evicting x.rn.pending) (says_none x.flits.rsp_up) false (writes_none up x.flits.dat_up) (λ e. no e) g);
  shared = λ g. answer_shared (answers.SCPD words) up flag x d q k here b;
}
answered_beside (answers.SD words) up flag flag' x d q k here b = record {
  due_is = b.due_is;
  snooped_is = b.snooped_is;
  named = answer_named (answers.SD words) up flag x d q k here b;
  flagged = λ one. no (sym (answer_shared (answers.SD words) up flag x d q k here b) ∙ one);
  gone = λ g. b.gone (or_more (is_evicting x.rn.pending) (says_none x.flits.rsp_up) false (writes_none up x.flits.dat_up) (λ e. no e) g);
  shared = λ g. answer_shared (answers.SD words) up flag x d q k here b;
}

-- THE FILTER
answer_puts : (answer : SnoopAnswer) (f : FilterState) (agent : Agent) → agent.0 < 8 → length f.named ≡ 8
    → Puts false f.named (filter_after answer f agent).named agent.0 (named_after answer (is_named f agent.0))
answer_puts answers.I f agent low eight = puts_set false f.named agent.0 false (within agent.0 _ low eight)
answer_puts answers.SC f agent low eight = puts_nothing false f.named agent.0
answer_puts (answers.IPD words) f agent low eight = puts_set false f.named agent.0 false (within agent.0 _ low eight)
answer_puts (answers.SCPD words) f agent low eight = puts_nothing false f.named agent.0
answer_puts (answers.SD words) f agent low eight = puts_nothing false f.named agent.0

-- who is flagged is awaited, and no other
flag_alone : (last : List ℕ) (s : LineState) (n m : ℕ) → n < 8 → Kept last s → is_named s.home.filter n ≡ true → s.home.filter.unique ≡ true → is_named s.home.filter m ≡ true → m ≡ n
flag_alone last s n m low kept here flag there = kept.flag_means_one flag m n (named_low s.home.filter.named m kept.named there) low there here

other_flagged : (answer : SnoopAnswer) (last : List ℕ) (s : LineState) (agent : Agent) (m : ℕ) (k : Known) → agent.0 < 8 → Kept last s → is_named s.home.filter agent.0 ≡ true → m ≢ agent.0
    → (same (most k) Invalid ≡ false → is_named s.home.filter m ≡ true) → (is_unique (most k) ≡ true → s.home.filter.unique ≡ true)
    → is_unique (most k) ≡ true → (filter_after answer s.home.filter agent).unique ≡ true
other_flagged answers.I last s agent m k low kept here other named flagged one = still_flagged s.home.filter agent.0 m k kept.named other named flagged one
other_flagged (answers.IPD words) last s agent m k low kept here other named flagged one = still_flagged s.home.filter agent.0 m k kept.named other named flagged one
other_flagged answer last s agent m k low kept here other named flagged one =
    absurd (other (flag_alone last s agent.0 m low kept here (flagged one) (named (unique_some (most k) one))))

-- behind each answer nobody is flagged
nobody_in : (marks : List Bool) → length marks ≡ 8 → ((m : ℕ) → m < 8 → is_in marks m ≡ false) → has_any marks ≡ false
nobody_in marks eight none = list_any_none (λ b. b) marks (λ m d at. get_or_default marks m d false at ∙ none m (omega (arith, at, eight)))

flag_ends : (a b : Bool) → (a ≡ true → b ≡ false) → (a && b) ≡ false
flag_ends true b ends = ends refl
flag_ends false b ends = refl

none_left : (last : List ℕ) (s : LineState) (n : ℕ) → n < 8 → Kept last s → is_named s.home.filter n ≡ true → s.home.filter.unique ≡ true
    → (m : ℕ) → m < 8 → is_in (others_than n s.home.filter.named) m ≡ false
none_left last s n low kept here flag m at = ⊎_elim
    (λ (is : m ≡ n). subst (λ k. is_in (others_than n s.home.filter.named) k ≡ false) (sym is) (left_out n s.home.filter.named low kept.named))
    (λ (apart : m ≢ n). left_in n m s.home.filter.named apart ∙ unnamed (is_named s.home.filter m) refl apart)
    (cases_eq m n)
  where
    unnamed : (b : Bool) → is_named s.home.filter m ≡ b → m ≢ n → is_named s.home.filter m ≡ false
    unnamed true e apart = absurd (apart (flag_alone last s n m low kept here flag e))
    unnamed false e apart = e

left_clear : (last : List ℕ) (s : LineState) (n : ℕ) → n < 8 → Kept last s → is_named s.home.filter n ≡ true → (filter_without s.home.filter n).unique ≡ false
left_clear last s n low kept here = flag_ends s.home.filter.unique _
    (λ flag. nobody_in (others_than n s.home.filter.named) (length-set s.home.filter.named n false ∙ kept.named) (none_left last s n low kept here flag))

pub answer_clear : (answer : SnoopAnswer) (last : List ℕ) (s : LineState) (agent : Agent) → agent.0 < 8 → Kept last s → is_named s.home.filter agent.0 ≡ true
    → (filter_after answer s.home.filter agent).unique ≡ false
answer_clear answers.I last s agent low kept here = left_clear last s agent.0 low kept here
answer_clear (answers.IPD words) last s agent low kept here = left_clear last s agent.0 low kept here
answer_clear other last s agent low kept here = refl

-- ITS ARRIVAL
pub answer_moves : (answer : SnoopAnswer) (last : List ℕ) (s : LineState) (agent : Agent) → agent.0 < 8 → Kept last s
    → Moves s (answer_line s agent answer) agent.0
    (record (lane s agent.0) { named = named_after answer (is_named s.home.filter agent.0); awaited = false; flits = without_message (cells_of s agent.0) (answer_channel answer) })
answer_moves answer last s agent low kept = moves_home s agent.0 _ _ _ refl
    (puts_set no_flits s.flits agent.0 _ (within agent.0 _ low kept.flits)) (answer_puts answer s.home.filter agent low kept.named)
    (puts_set false s.home.awaited agent.0 false (within agent.0 _ low kept.awaited)) (puts_nothing nothing_waiting s.home.waiting agent.0)

given_still : (answer : SnoopAnswer) (c : Cells) → (without_message c (answer_channel answer)).dat_down ≡ c.dat_down
given_still answers.I c = refl
given_still answers.SC c = refl
given_still other c = refl

response_still : (answer : SnoopAnswer) (c : Cells) → (without_message c (answer_channel answer)).rsp_down ≡ c.rsp_down
response_still answers.I c = refl
response_still answers.SC c = refl
response_still other c = refl

-- all stands behind it
pub answer_arrives : (answer : SnoopAnswer) (o : Observed) (s : LineState) (last : List ℕ) (agent : Agent) → agent.0 < 8 → Kept last s → Stands last s o
    → is_given_up s.home.serving ≡ false → Brings (cells_of s agent.0).rsp_up (cells_of s agent.0).dat_up answer → is_named s.home.filter agent.0 ≡ true
    → Stands last (answer_line s agent answer) o
answer_arrives answer o s last agent low kept stands serving here named =
    let n : ℕ = agent.0 in
    let rn = rn_of s n in
    let c = cells_of s n in
    let c' : Cells = without_message c (answer_channel answer) in
    let x : Lane = record (lane s n) { named = named_after answer (is_named s.home.filter n); awaited = false; flits = c' } in
    quiet o s (answer_line s agent answer) last n x (answer_moves answer last s agent low kept)
    (ap (λ v. held_of rn.state rn.pending v c'.rsp_down (o.public.due n)) (given_still answer c) ∙ ap (λ v. held_of rn.state rn.pending c.dat_down v (o.public.due n)) (response_still answer c))
    (ap (words_by rn.words) (given_still answer c)) stands
    (subst (λ b. Beside b (answer_line s agent answer).home.filter.unique x (o.public.due n) (o.public.snooped n) (o.told n)) (sym serving)
    (answered_beside answer (is_given_up s.home.serving) s.home.filter.unique (answer_line s agent answer).home.filter.unique (lane s n) _ _ _ here (stands.lanes n)))
    (λ m other. subst (λ b. Beside b (answer_line s agent answer).home.filter.unique (lane s m) (o.public.due m) (o.public.snooped m) (o.told m)) (sym serving)
    (beside_under (is_given_up s.home.serving) s.home.filter.unique (answer_line s agent answer).home.filter.unique (lane s m) _ _ _
    (other_flagged answer last s agent m (o.told m) low kept named other (stands.lanes m).named (stands.lanes m).flagged) (stands.lanes m)))
