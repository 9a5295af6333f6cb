-- A flit of which its line was told, and which was settled, is the next one.
use Rattle.std.proofs.Common.{◌≡◌, ℕ, Bool, true, Option, Some, None, is_none, refl, sym, ap, subst, ◌∙◌, if◌then◌else◌}
use Rattle.chi_flit.specs.declared.numbers.Agent.{Agent}
use Rattle.chi_observe.specs.declared.events.LineEvent.{LineEvent}
use Rattle.chi_observe.specs.declared.lines.LineNews.{LineNews}
use Rattle.chi_observe.specs.declared.lines.LineTold.{LineTold}
use Rattle.chi_observe.specs.declared.tables.Change.{Change}
use Rattle.chi_observe.specs.declared.tables.Part.{Part}
use Rattle.chi_observe.specs.declared.tables.Part.TheVariants as parts
use Rattle.chi_observe.specs.Events.{news_of}
use Rattle.chi_observe.specs.Lines.{IsTaken, LineState, line_next, put_line, state_at, takes_line, told_as}
use Rattle.chi_observe.specs.Watched.{Watched, agent_in, before_in, by_part, flit_after, flit_told, news_in, settled, told_after}

is_told : (w : Watched) (e : LineEvent) (change : Change) (part : Part) → (part ≡ parts.Further → ⊥) → by_part w e change part ≡ told_after w e change
is_told w e change parts.Whole other = refl
is_told w e change (parts.First left) other = refl
is_told w e change (parts.Known tells) other = refl
is_told w e change parts.Further other = absurd (other refl)
is_told w e change (parts.Held same) other = refl
is_told w e change (parts.Last tells) other = refl

pub told_settled : (w : Watched) (e : LineEvent) (change : Change) (agent : Option Agent) (news : LineNews) (lines : ℕ → Option LineState) (told : LineTold)
    → agent ≡ agent_in w e → news ≡ news_of e.tells change.part agent → IsTaken (before_in w) w.lines lines e.number change.line e.sides.home news told → (change.part ≡ parts.Further → ⊥)
    → by_part w e change change.part ≡ Some (settled (record w { lines = lines }) e change agent told)
told_settled w e change agent news lines told same_agent same_news taken other =
    let state = state_at (before_in w) w.lines e.number change.line e.sides.home in
    let is : news ≡ news_in w e change = same_news ∙ ap (λ (a : Option Agent). news_of e.tells change.part a) same_agent in
    let takes : takes_line (before_in w) state e.sides.home e.number (news_in w e change) ≡ true = subst (λ (n : LineNews). takes_line (before_in w) state e.sides.home e.number n ≡ true) is taken.taken in
    let after : lines ≡ put_line change.line (line_next (before_in w) state e.number (news_in w e change)) w.lines = taken.after ∙ ap (λ (n : LineNews). put_line change.line (line_next (before_in w) state e.number n) w.lines) is in
    let told_is : told ≡ flit_told w e change = taken.is ∙ ap (λ (n : LineNews). told_as (is_none (w.lines change.line.0)) state (line_next (before_in w) state e.number n)) is in
    let all : settled (record w { lines = lines }) e change agent told ≡ flit_after w e change = λ i. settled (record w { lines = after i }) e change (same_agent i) (told_is i) in
    is_told w e change change.part other
    ∙ (ap (λ (b : Bool). if b then Some (flit_after w e change) else None) takes
    ∙ ap Some (sym all))
