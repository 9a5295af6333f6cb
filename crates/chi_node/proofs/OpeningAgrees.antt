-- The requesters of a new node agree with its slices.
use Rattle.std.proofs.Common.{◌≡◌, ℕ, ◌<◌, Bool, true, false, None, refl, sym, ◌∙◌, ap, arith, get_or, nat_lt, replicate, if◌then◌else◌}
use Rattle.std.proofs.lemmas.List.{get_or-replicate}
use Rattle.atomic_table.specs.Seated.{TableId}
use Rattle.chi_flit.specs.declared.numbers.Slot.{Slot}
use Rattle.chi_tracker.specs.declared.shape.Shape.{Shape}
use Rattle.chi_slice.specs.Words.{are_in_limits, opening_line, position_at, LineState, Sizes}
use Rattle.chi_slice.specs.Slice.{is_line_in_range, line, opening_slice, row_count, row_of_line}
use Rattle.chi_slice.proofs.Rows.{InLimits, in_limits, row_in_range}
use Rattle.chi_slice.proofs.Follows.{opening_unused}
use Rattle.chi_slice.proofs.Passed.{unused_shows}
use Rattle.chi_credit.specs.declared.slot.SlotRecord.{SlotRecord}
use Rattle.chi_credit.specs.Slot.{idle_slot}
use Rattle.chi_credit.specs.Account.{all_idle, slot_record_at}
use Rattle.chi_node.specs.Agree.{Agree, position_of_record}
use Rattle.chi_node.specs.Parts.{AgreeAtOpening}
use Rattle.chi_node.specs.Requester.{opening_requester}
use Rattle.chi_node.proofs.CreditCalls.{not_shown}
use Rattle.chi_node.proofs.Records.{record_nowhere}
use Rattle.chi_node.proofs.Matches.{few_slices}

opening_at : (config : Sizes) (index l : ℕ) → are_in_limits config ≡ true → index < config.slices → is_line_in_range (opening_slice config index) l ≡ true → line (opening_slice config index) l ≡ opening_line
opening_at config index l limits inside here =
    let low : row_of_line (opening_slice config index) l < row_count config index = row_in_range (opening_slice config index) l limits inside here in
    get_or-replicate (row_count config index) (row_of_line (opening_slice config index) l) opening_line opening_line low

opening_shows : (config : Sizes) (index n l : ℕ) (slot : Slot) → are_in_limits config ≡ true → index < config.slices → n < 8 → is_line_in_range (opening_slice config index) l ≡ true → position_at (line (opening_slice config index) l) n slot ≡ None
opening_shows config index n l slot limits inside low here =
    ap (λ (z : LineState). position_at z n slot) (opening_at config index l limits inside here) ∙ unused_shows opening_line n slot (opening_unused n slot low)

opening_nowhere : (k l : ℕ) → k < 8 → position_of_record (slot_record_at all_idle k) l ≡ None
opening_nowhere k l low = ap (λ (x : SlotRecord). position_of_record x l) (get_or-replicate 8 k idle_slot idle_slot low) ∙ record_nowhere idle_slot l refl

-- an opening journal counts nothing
part_at : (b : Bool) (n : ℕ) → n < 8 → ◌≡◌ {A = ℕ} (if b then 0 else get_or {A = ℕ} (replicate {A = ℕ} 8 0) n 0) 0
part_at true n low = refl
part_at false n low = get_or-replicate 8 n 0 0 low

opening_agrees : (config : Sizes) (table : TableId) (shape : Shape) (index number : ℕ) → are_in_limits config ≡ true → index < config.slices → number < config.agents → Agree (opening_slice config index) (opening_requester table shape number)
opening_agrees config table shape index number limits inside near =
    let in_config : InLimits config = in_limits config limits in
    let low : number < 8 = omega (arith, near, in_config.agents) in
    let first : index < 8 = omega (arith, inside, few_slices config.slices in_config.count) in
    record {
      slots = λ slot at. record {
        lines = λ l here. let none = opening_shows config index number l slot limits inside low here in record {
          place = none ∙ sym (opening_nowhere slot.0 l at);
          type = λ where_is is. absurd (not_shown where_is none is);
        };
      };
      count = get_or-replicate 8 index 0 0 first ∙ sym (part_at (nat_lt 0 config.journal) number low);
    }

pub all_agree : (config : Sizes) (table : TableId) (shape : Shape) → are_in_limits config ≡ true → AgreeAtOpening config table shape
all_agree config table shape limits = record { agree = λ index number inside near. opening_agrees config table shape index number limits inside near }
