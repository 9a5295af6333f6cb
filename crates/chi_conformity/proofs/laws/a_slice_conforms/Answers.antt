use Rattle.chi_conformity.proofs.Flits.{Laws}
use Rattle.chi_conformity.proofs.Runs.{conform}
use Rattle.chi_conformity.proofs.laws.a_slice_conforms.Goals as goal

pub returns : goal.returns
returns c =
    let laws : Laws = record {
      closed = c.meaning.ensures.closed;
      taken = c.cache_flits.ensures.taken;
      leads = c.cache_flits.ensures.leads;
      tells = c.cache_flits.ensures.tells;
      kept = c.cache_flits.ensures.sound;
      counted_taken = c.counted_loads.ensures.taken;
      counted_lead = c.counted_loads.ensures.leads;
      home_kept = c.home_flits.ensures.sound;
      home_leads = c.home_flits.ensures.leads;
    } in
    record { taken = conform laws }
