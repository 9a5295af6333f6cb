-- What isn't judged stands first, by the causes in their order, and then the rest.
use Rattle.std.proofs.Common.{rules, ◌≡◌, ◌++◌, string_bytes, ap, ◌∙◌}
use Rattle.chi_observe.specs.Judges.{is_at_home}
use Rattle.chi_observe.specs.Told.{AreRanked, judged_text, rest_text}
use Rattle.chi_observe.specs.Watched.{watched}
use Rattle.chi_observe.proofs.watch.Watch.accepted_text.Goals as goal

pub returns : goal.returns
returns g c =
    let w = watched c.args.self.now in
    let rows = c.in_ok-rows.rows.items in
    let ranked : AreRanked w.causes rows = search rules in
    let front : string_bytes c.write_judged.new.text ≡ judged_text (is_at_home w.options) w.options.form.listing w.counts rows = search rules in
    let rest : string_bytes c.write_rest.new.text ≡ string_bytes c.write_judged.new.text ++ rest_text w c.unknown_lines-unknown.result = search rules in
    record {
      rows = rows;
      ranked = ranked;
      unknown = c.unknown_lines-unknown.result;
      counted = c.unknown_lines-unknown.ensures;
      is = rest ∙ ap (λ l. l ++ rest_text w c.unknown_lines-unknown.result) front;
    }
