-- With no credit seen none is given back.
use Rattle.std.proofs.Common.{rules, ◌≡◌, refl, inl}
use Rattle.std.specs.Prelude.{slice_index}
use Rattle.chi_agent.proofs.preparation.prepare.Goals as goal

pub returns-else-ne-clause-prepares : goal.returns-else-ne-clause-prepares
returns-else-ne-clause-prepares g c =
    let r = c.looks-seen.new.requester in
    let seen = c.looks-seen.result in
    let none0 : slice_index seen 0 ≡ 0 = search rules in
    let none1 : slice_index seen 1 ≡ 0 = search rules in
    let none2 : slice_index seen 2 ≡ 0 = search rules in
    let none3 : slice_index seen 3 ≡ 0 = search rules in
    record {
      saw = r;
      seen = seen;
      sees = c.looks-seen.ensures.sees;
      gives = record {
        first = r;
        second = r;
        third = r;
        gives0 = inl (none0, refl);
        gives1 = inl (none1, refl);
        gives2 = inl (none2, refl);
        gives3 = inl (none3, refl);
      };
    }
