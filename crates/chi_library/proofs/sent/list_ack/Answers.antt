-- One flit is the first of the array.
use Rattle.std.proofs.Common.{List, slice_set, refl}
use Rattle.chi_library.specs.declared.flits.ChiSent.{ChiSent}
use Rattle.chi_library.proofs.Listings.{listed_one}
use Rattle.chi_library.proofs.sent.list_ack.Goals as goal

pub returns : goal.returns
returns c =
    let now : List ChiSent = slice_set c.args.sent.now 0 c.tell_rsp_up.new.told in
    listed_one _ c.tell_rsp_up.new.told 7 c.args.sent.now now c.told-sent refl c.tell_rsp_up.ensures
