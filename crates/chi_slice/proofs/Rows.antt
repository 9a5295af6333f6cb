-- The row of a line that is in the slice.
use Rattle.std.proofs.Common.{◌≡◌, ◌≢◌, ℕ, zero, suc, ◌+◌, ◌-◌, ◌*◌, ◌/◌, ◌%◌, ◌<◌, ◌≤◌, Bool, true, false, ◌&&◌, ◌==◌, nat_le, nat_lt, refl, sym, ◌∙◌, ap, arith}
use Rattle.std.proofs.lemmas.Bool.{and_from, eqb-true, eq-eqb}
use Rattle.std.proofs.lemmas.Nat.{div-add-mod', div-mul-add, le-div, mod-mul-add}
use Rattle.std.proofs.Math.Nat.{div-mul-le_self, mul-le-mul_right}
use Rattle.chi_flit.specs.declared.action.Action.{Action}
use Rattle.chi_flit.specs.Config.{Sizes, are_in_limits, is_between, is_slice_count}
use Rattle.chi_slice.specs.Slice.{SliceKept, SliceState, is_in_range, is_line_in_range, row_count, row_of_line}
use Rattle.chi_line.specs.Step.{is_step_in_range}

pub both : (a b : Bool) → (a && b) ≡ true → (a ≡ true) × (b ≡ true)
both true b h = (refl, h)
both false b h = absurd (cc (h))

pub is_low : (a b : ℕ) → nat_lt a b ≡ true → a < b
is_low a b h = grind (arith, h)

pub at_most : (a b : ℕ) → nat_le a b ≡ true → a ≤ b
at_most a b h = grind (arith, h)

-- what the limits say of the numbers of agents, lines and slices
pub record InLimits (config : Sizes) : Type 0 where
  pub agents : config.agents ≤ 8
  pub some_agent : 1 ≤ config.agents
  pub lines : config.lines ≤ 64
  pub some_line : 1 ≤ config.lines
  pub slices : config.slices ≤ config.lines
  pub some_slice : 1 ≤ config.slices
  pub count : is_slice_count config.slices ≡ true
  pub journal : config.journal ≤ 65536

least : (n : ℕ) → is_slice_count n ≡ true → 1 ≤ n
least zero h = absurd (cc (h))
least (suc n) h = omega arith

pub in_limits : (config : Sizes) → are_in_limits config ≡ true → InLimits config
in_limits config h =
    let a = both (is_between 1 8 config.agents) _ h in
    let l = both (is_between 1 64 config.lines) _ a.1 in
    let s = both (is_slice_count config.slices) _ l.1 in
    let m = both (nat_le config.slices config.lines) _ s.1 in
    let a' = both (nat_le 1 config.agents) (nat_le config.agents 8) a.0 in
    let l' = both (nat_le 1 config.lines) (nat_le config.lines 64) l.0 in
    record {
      agents = at_most config.agents 8 a'.1;
      some_agent = at_most 1 config.agents a'.0;
      lines = at_most config.lines 64 l'.1;
      some_line = at_most 1 config.lines l'.0;
      slices = at_most config.slices config.lines m.0;
      some_slice = least config.slices s.0;
      journal = at_most config.journal 65536 (both (nat_le config.journal 65536) _ m.1).0;
      count = s.0;
    }

-- a line that is in the slice: its number is below that of all lines, and leaves the slice's index
pub record Inside (s : SliceState) (l : ℕ) : Type 0 where
  pub low : l < s.config.lines
  pub left : l % s.config.slices ≡ s.index

pub inside : (s : SliceState) (l : ℕ) → is_line_in_range s l ≡ true → Inside s l
inside s l h =
    let parts = both (nat_lt l s.config.lines) (l % s.config.slices == s.index) h in
    record { low = is_low l s.config.lines parts.0; left = eqb-true (l % s.config.slices) s.index parts.1 }

row_low : (l lines index n : ℕ) → 1 ≤ n → l < lines → l % n ≡ index → l / n < (lines - 1 - index) / n + 1
row_low l lines index n some low left = omega (arith, le-div (l / n) (lines - 1 - index) n (omega arith) (omega (arith, div-add-mod' l n)))

-- it has a row
pub row_in_range : (s : SliceState) (l : ℕ) → are_in_limits s.config ≡ true → s.index < s.config.slices → is_line_in_range s l ≡ true → row_of_line s l < row_count s.config s.index
row_in_range s l config index h = row_low l s.config.lines s.index s.config.slices (in_limits s.config config).some_slice (inside s l h).low (inside s l h).left

pub row_in_slice : (s : SliceState) (l : ℕ) → SliceKept s → is_line_in_range s l ≡ true → row_of_line s l < row_count s.config s.index
row_in_slice s l k h = row_in_range s l k.config k.index h

-- the numbers of an action that is in range
pub record InRange (s : SliceState) (action : Action) : Type 0 where
  pub agent : action.agent.0 < 8
  pub line : is_line_in_range s action.line.0 ≡ true
  pub low : action.line.0 < s.config.lines
  pub row : row_of_line s action.line.0 < row_count s.config s.index
  pub step : is_step_in_range action.step ≡ true

pub in_range : (s : SliceState) (action : Action) → SliceKept s → is_in_range s action ≡ true → InRange s action
in_range s action k h =
    let parts = both (nat_lt action.agent.0 s.config.agents) (is_line_in_range s action.line.0 && is_step_in_range action.step) h in
    let rest = both (is_line_in_range s action.line.0) (is_step_in_range action.step) parts.1 in
    record {
      agent = omega (arith, is_low action.agent.0 s.config.agents parts.0, (in_limits s.config k.config).agents);
      line = rest.0;
      low = (inside s action.line.0 rest.0).low;
      row = row_in_slice s action.line.0 k rest.0;
      step = rest.1;
    }

-- lines of one slice that are apart have rows that are apart
apart_by : (l other n : ℕ) → l % n ≡ other % n → l / n ≡ other / n → l ≡ other
apart_by l other n left row = sym (div-add-mod' l n) ∙ (ap (λ (k : ℕ). k * n + l % n) row ∙ (ap (λ (k : ℕ). other / n * n + k) left ∙ div-add-mod' other n))

pub rows_apart : (s : SliceState) (l other : ℕ) → SliceKept s → is_line_in_range s l ≡ true → is_line_in_range s other ≡ true → other ≢ l → row_of_line s other ≢ row_of_line s l
rows_apart s l other k here there apart = λ (e : other / s.config.slices ≡ l / s.config.slices). apart (apart_by other l s.config.slices ((inside s other there).left ∙ sym (inside s l here).left) e)

-- the line of a row
pub record RowLine (s : SliceState) (row : ℕ) : Type 0 where
  pub line : ℕ
  pub here : is_line_in_range s line ≡ true
  pub row_is : row_of_line s line ≡ row

lower : (a b : ℕ) → a < b → nat_lt a b ≡ true
lower a b h = grind (arith, h)

low_line : (row lines index n : ℕ) → index < n → n ≤ lines → row < (lines - 1 - index) / n + 1 → row * n + index < lines
low_line row lines index n low few at =
    let at_most : row * n ≤ (lines - 1 - index) / n * n = mul-le-mul_right n (omega arith) in
    omega (arith, div-mul-le_self (lines - 1 - index) n)

pub row_line : (s : SliceState) (row : ℕ) → SliceKept s → row < row_count s.config s.index → RowLine s row
row_line s row k low =
    let n : ℕ = s.config.slices in
    let low : row * n + s.index < s.config.lines = low_line row s.config.lines s.index n k.index (in_limits s.config k.config).slices low in
    record {
      line = row * n + s.index;
      here = and_from (nat_lt (row * n + s.index) s.config.lines) ((row * n + s.index) % n == s.index) (lower (row * n + s.index) s.config.lines low) (eq-eqb ((row * n + s.index) % n) s.index (mod-mul-add row n s.index k.index));
      row_is = div-mul-add row n s.index k.index;
    }
