-- What a test of a line that asks clause by clause finds.
use Rattle.std.proofs.Common.{rules, arith, ◌≡◌, ◌↔◌, ℕ, List, Bool, true, Option, Some, None, is_some, refl, ap, subst, ◌&&◌}
use Rattle.std.specs.Bool.{Decides}
use Rattle.std.specs.Prelude.{IsTrue}
use Rattle.std.proofs.lemmas.Bool.{and_from, and_parts, or_from, or_parts}
use Rattle.chi_flit.specs.declared.numbers.Agent.{Agent}
use Rattle.chi_flit.specs.declared.numbers.Slot.{Slot}
use Rattle.chi_flit.specs.declared.kind.Kind.{Kind}
use Rattle.chi_flit.specs.declared.snoop.Snoop.{Snoop}
use Rattle.chi_flit.specs.declared.state.State.{State}
use Rattle.chi_flit.specs.declared.message.DatUp.{DatUp}
use Rattle.chi_flit.specs.declared.message.DatUp.TheVariants.{CopyBackWrData}
use Rattle.chi_flit.specs.contracts.numbers.SlotPartialEq.TheImpl as slots
use Rattle.chi_flit.specs.contracts.kind.KindPartialEq.TheImpl as kinds
use Rattle.chi_flit.specs.contracts.snoop.SnoopPartialEq.TheImpl as snoops
use Rattle.chi_homeline.specs.declared.serving.Serving.{Serving}
use Rattle.chi_line.specs.Step.{is_slot, is_write_data}
use Rattle.chi_line.specs.Keeping.{AreNoHighSlots, IsLaneKept, IsNoHighSlot, IsShaped, LaneChecked, PartsKept}
use Rattle.chi_line.specs.Kept.{Kept, Lane, LaneKept, lane}
use Rattle.chi_line.specs.LineState.{LineState}

pub same_slot : (a b : Slot) → Decides (slots.eq-value.it a b) (a ≡ b)
same_slot a b = search (rules, arith)

pub same_kind : (a b : Kind) → Decides (kinds.eq-value.it a b) (a ≡ b)
same_kind a b = search (rules, arith)

pub same_snoop : (a b : Snoop) → Decides (snoops.eq-value.it a b) (a ≡ b)
same_snoop a b = search (rules, arith)

-- what is there is something, and write data has a form and words
on_some : {A P : Type 0} (o : Option A) → ((d : A) → o ≡ Some d → P) → is_some o ≡ true → P
on_some None f e = absurd cc
on_some (Some d) f e = f d refl

on_write : {P : Type 0} (sent : Option DatUp) → ((form : State) (words : List ℕ) → sent ≡ Some (CopyBackWrData form words) → P) → is_write_data sent ≡ true → P
on_write (Some (CopyBackWrData form words)) f e = f form words refl
on_write other f e = absurd cc

-- the clauses of a lane, by what a test looks at, are all clauses
pub all_of_lane : (serving : Serving) (unique : Bool) (owner : Option Agent) (last : List ℕ) (n : ℕ) (x : Lane) → LaneChecked serving unique owner last n x → LaneKept serving unique owner last n x
all_of_lane serving unique owner last n x c = record {
  holder_named = c.copy.holder_named;
  holder_last = c.copy.holder_last;
  unique_flagged = c.copy.unique_flagged;
  kind_fits = c.kind;
  one_place = c.requests.one_place;
  request_kind = λ q e. (c.requests.sent q e).kind_is;
  request_slot = λ q e. (c.requests.sent q e).slot_is;
  waiting_kind = λ q e. (c.requests.waits q e).kind_is;
  waiting_slot = λ q e. (c.requests.waits q e).slot_is;
  snooped_kind = λ e. (c.requests.snooped.served e).kind_is;
  snooped_slot = λ e. (c.requests.snooped.served e).slot_is;
  snooped_alone = c.requests.snooped.alone;
  dbid_kind = λ e. (c.completions.response.dbid e).kind_is;
  dbid_slot = λ e. (c.completions.response.dbid e).slot_is;
  comp_kind = λ e. (c.completions.response.comp e).kind_is;
  comp_slot = λ e. (c.completions.response.comp e).slot_is;
  evict_kind = c.completions.response.evict;
  read_kind = λ k some is. on_some x.flits.dat_down (λ d e. (c.completions.read d e).kind k is) some;
  read_slot = on_some x.flits.dat_down (λ d e. (c.completions.read d e).slot_is);
  read_finds_none = on_some x.flits.dat_down (λ d e. (c.completions.read d e).finds_none);
  one_ack = c.completions.wanted.one_ack;
  one_write = c.completions.wanted.one_write;
  ack_apart = c.completions.wanted.ack_apart;
  write_apart = c.completions.wanted.write_apart;
  read_last = λ d e. (c.completions.read d e).read_data.data_last;
  read_flagged = λ d e. (c.completions.read d e).read_data.flagged;
  read_named = on_some x.flits.dat_down (λ d e. (c.completions.read d e).holder_named);
  comp_flagged = c.completions.response.flagged;
  comp_named = c.completions.response.holder_named;
  one_answer = c.answers.one_answer;
  snoop_fits = c.answers.snoop;
  awaited_snooped = c.answers.asked.awaited_snooped;
  awaited_named = c.answers.asked.awaited_named;
  others_awaited = c.answers.asked.others_awaited;
  shared_asks_one = c.answers.asked.shared_asks_one;
  answer_none = c.answers.answer.none;
  answer_not_unique = c.answers.answer.not_unique;
  answer_not_dirty = c.answers.answer.not_dirty;
  answer_shared = c.answers.answer.shared;
  invalid_data = λ words e. let had = c.answers.answer_data.invalid words e in (had.none, had.data_last);
  clean_data = λ words e. let had = c.answers.answer_data.clean words e in (had.not_unique, had.not_dirty, had.shared, had.data_last);
  dirty_data = λ words e. let had = c.answers.answer_data.dirty words e in (had.shared_dirty, had.snoop, had.data_last);
  dirty_named = c.writes.dirty_named;
  write_last = λ form words e. (c.writes.write form words e).data_last;
  write_not_shared_dirty = on_write x.flits.dat_up (λ form words e. (c.writes.write form words e).not_shared_dirty);
  write_gone = λ k some is. on_write x.flits.dat_up (λ form words e. (c.writes.write form words e).gone k is) some;
  write_none = λ words e. (c.writes.write _ words e).none refl;
  flag_no_owner = c.owned.flag_no_owner;
  owner_holds = c.owned.owner_holds;
  shared_dirty_owned = c.owned.shared_dirty_owned;
}

pub each_of_lane : (serving : Serving) (unique : Bool) (owner : Option Agent) (last : List ℕ) (n : ℕ) (x : Lane) → LaneKept serving unique owner last n x → LaneChecked serving unique owner last n x
each_of_lane serving unique owner last n x k = record {
  copy = record { holder_named = k.holder_named; holder_last = k.holder_last; unique_flagged = k.unique_flagged };
  kind = k.kind_fits;
  requests = record {
    one_place = k.one_place;
    sent = λ q e. record { kind_is = k.request_kind q e; slot_is = k.request_slot q e };
    waits = λ q e. record { kind_is = k.waiting_kind q e; slot_is = k.waiting_slot q e };
    snooped = record { served = λ e. record { kind_is = k.snooped_kind e; slot_is = k.snooped_slot e }; alone = k.snooped_alone };
  };
  completions = record {
    response = record {
      dbid = λ e. record { kind_is = k.dbid_kind e; slot_is = k.dbid_slot e };
      comp = λ e. record { kind_is = k.comp_kind e; slot_is = k.comp_slot e };
      evict = k.evict_kind;
      flagged = k.comp_flagged;
      holder_named = k.comp_named;
    };
    read = λ d e. let some : is_some x.flits.dat_down ≡ true = ap is_some e in record {
      kind = λ kind is. k.read_kind kind some is;
      slot_is = k.read_slot some;
      finds_none = k.read_finds_none some;
      holder_named = k.read_named some;
      read_data = record { data_last = k.read_last d e; flagged = k.read_flagged d e };
    };
    wanted = record { one_ack = k.one_ack; one_write = k.one_write; ack_apart = k.ack_apart; write_apart = k.write_apart };
  };
  answers = record {
    one_answer = k.one_answer;
    asked = record { awaited_snooped = k.awaited_snooped; awaited_named = k.awaited_named; others_awaited = k.others_awaited; shared_asks_one = k.shared_asks_one };
    snoop = k.snoop_fits;
    answer = record { none = k.answer_none; not_unique = k.answer_not_unique; not_dirty = k.answer_not_dirty; shared = k.answer_shared };
    answer_data = record {
      invalid = λ words e. let had = k.invalid_data words e in record { none = had.0; data_last = had.1 };
      clean = λ words e. let had = k.clean_data words e in record { not_unique = had.0; not_dirty = had.1; shared = had.2; data_last = had.3 };
      dirty = λ words e. let had = k.dirty_data words e in record { shared_dirty = had.0; snoop = had.1; data_last = had.2 };
    };
  };
  writes = record {
    dirty_named = k.dirty_named;
    write = λ form words e. let some : is_write_data x.flits.dat_up ≡ true = ap is_write_data e in record {
      data_last = k.write_last form words e;
      not_shared_dirty = k.write_not_shared_dirty some;
      gone = λ kind is. k.write_gone kind some is;
      none = λ is. k.write_none words (subst (λ (s : State). x.flits.dat_up ≡ Some (CopyBackWrData s words)) is e);
    };
  };
  owned = record { flag_no_owner = k.flag_no_owner; owner_holds = k.owner_holds; shared_dirty_owned = k.shared_dirty_owned };
}

-- a test of what was read out of a line is one of its lane
pub lane_tested : (s : LineState) (last : List ℕ) (n : ℕ) (serving : Serving) (unique : Bool) (owner : Option Agent) (words : List ℕ) (x : Lane) (b : Bool)
    → serving ≡ s.home.serving → unique ≡ s.home.filter.unique → owner ≡ s.home.filter.owner → words ≡ last → x ≡ lane s n
    → IsTrue b ↔ LaneChecked serving unique owner words n x → IsTrue b ↔ IsLaneKept last s n
lane_tested s last n serving unique owner words x b serving_is unique_is owner_is words_are lane_is tested =
    let at_lane = subst (λ (y : Lane). IsTrue b ↔ LaneChecked serving unique owner words n y) lane_is tested in
    let at_serving = subst (λ (y : Serving). IsTrue b ↔ LaneChecked y unique owner words n (lane s n)) serving_is at_lane in
    let at_unique = subst (λ (y : Bool). IsTrue b ↔ LaneChecked s.home.serving y owner words n (lane s n)) unique_is at_serving in
    let at_owner = subst (λ (y : Option Agent). IsTrue b ↔ LaneChecked s.home.serving s.home.filter.unique y words n (lane s n)) owner_is at_unique in
    let here = subst (λ (y : List ℕ). IsTrue b ↔ LaneChecked s.home.serving s.home.filter.unique s.home.filter.owner y n (lane s n)) words_are at_owner in
    (λ t. all_of_lane _ _ _ _ n (lane s n) (here.0 t), λ k. here.1 (each_of_lane _ _ _ _ n (lane s n) k))

-- what is tested of a line, beside what each value of its type keeps, is all
pub parts_are_all : (last : List ℕ) (s : LineState) (b : Bool) → IsShaped s → IsTrue b ↔ PartsKept last s → IsTrue b ↔ Kept last s
parts_are_all last s b shape tested = (
  λ t. let parts = tested.0 t in record {
    requesters = shape.requesters;
    flits = shape.flits;
    named = shape.marks;
    awaited = shape.awaited;
    waiting = shape.waiting;
    in_range = parts.in_range;
    owner = parts.owner;
    lanes = parts.lanes;
    flag_means_one = shape.filter.flag_names_no_other;
    memory_last = parts.memory_last;
  },
  λ kept. tested.1 (record { in_range = kept.in_range; owner = kept.owner; lanes = kept.lanes; memory_last = kept.memory_last }),
)

-- none of three slots has a high number where each of them hasn't
pub none_high : (pending waiting served : Option Slot) (a b c : Bool) → IsTrue a ↔ IsNoHighSlot pending → IsTrue b ↔ IsNoHighSlot waiting → IsTrue c ↔ IsNoHighSlot served
    → IsTrue ((a && b) && c) ↔ AreNoHighSlots pending waiting served
none_high pending waiting served a b c first second third = (
  λ t slot high.
      let two = and_parts (a && b) c t in
      let one = and_parts a b two.0 in
      or_from _ _ (first.0 one.0 slot high) (or_from _ _ (second.0 one.1 slot high) (third.0 two.1 slot high)),
  λ none. and_from (a && b) c
      (and_from a b (first.1 (λ slot high. (or_parts _ _ (none slot high)).0)) (second.1 (λ slot high. (or_parts _ _ (or_parts (is_slot pending slot) _ (none slot high)).1).0)))
      (third.1 (λ slot high. (or_parts (is_slot waiting slot) _ (or_parts (is_slot pending slot) _ (none slot high)).1).1)),
)
