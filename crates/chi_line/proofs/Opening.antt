-- The opening line keeps what a line keeps.
use Rattle.std.proofs.Common.{◌≡◌, ℕ, ◌<◌, false, None, arith, refl, sym, subst}
use Rattle.std.proofs.lemmas.List.{get_or-replicate}
use Rattle.chi_flit.specs.Message.{no_words}
use Rattle.chi_wires.specs.Cell.{no_flits}
use Rattle.chi_rnline.specs.Rn.{no_line}
use Rattle.chi_homeline.specs.declared.serving.Serving.TheVariants.{Idle}
use Rattle.chi_line.specs.LineState.{opening_line}
use Rattle.chi_line.specs.Kept.{Lane, LaneKept, Kept, lane}
use Rattle.chi_line.proofs.Frame.{same_lane, nothing_waiting}

-- the lane of an agent that holds nothing and has nothing in flight
abbrev opening_lane : Lane
opening_lane = record { rn = no_line; flits = no_flits; named = false; awaited = false; waiting = None }

opening_lane_kept : (n : ℕ) → LaneKept Idle false None no_words n opening_lane
opening_lane_kept n = search arith

opening_lanes : (n : ℕ) → n < 8 → lane opening_line n ≡ opening_lane
opening_lanes n low = same_lane _ _ _ _ _ _ _ _ _ _
    (get_or-replicate 8 n no_line no_line low) (get_or-replicate 8 n no_flits no_flits low)
    (get_or-replicate 8 n false false low) (get_or-replicate 8 n false false low) (get_or-replicate 8 n nothing_waiting nothing_waiting low)

pub opening_kept : Kept no_words opening_line
opening_kept = record {
  requesters = refl;
  flits = refl;
  named = refl;
  awaited = refl;
  waiting = refl;
  in_range = tt;
  owner = tt;
  lanes = λ n low. subst (LaneKept Idle false None no_words n) (sym (opening_lanes n low)) (opening_lane_kept n);
  flag_means_one = λ flag. absurd cc;
  memory_last = λ clean. refl;
}
