-- The type at the slot's place is its type at every line.
use Rattle.std.proofs.Common.{◌≡◌, true, rules}
use Rattle.chi_slice.specs.Index.{typed_at}
use Rattle.chi_slice.proofs.SlotTypes.{slot_inside, typed_if, typed_nowhere, types_of}
use Rattle.chi_slice.proofs.slice.Slice.has_type.Goals as goal

pub is_type_in-requires-clause-agent : goal.is_type_in-requires-clause-agent
is_type_in-requires-clause-agent g c = λ there is. (slot_inside c.args.agent.0 c.args.slot c.place.result there c.place.ensures.outside is).agent

pub is_type_in-requires-clause-line : goal.is_type_in-requires-clause-line
is_type_in-requires-clause-line g c = λ there is.
    let low = slot_inside c.args.agent.0 c.args.slot c.place.result there c.place.ensures.outside is in
    c.place.ensures.line low.agent low.number there is

pub returns-clause-typed : goal.returns-clause-typed
returns-clause-typed g c = λ low at. (
  λ is. let fact : typed_at c.args.self.now c.args.credit c.args.agent.0 c.args.slot c.place.result ≡ true = search (rules, c.is_type_in.ensures.typed, is) in
      types_of c.args.self.now c.args.credit c.args.agent.0 c.args.slot c.place.result c.is_type_in.ensures.kept low (c.place.ensures.shows low at) fact,
  λ all. typed_if c.args.self.now c.args.credit c.args.agent.0 c.args.slot c.place.result c.is_type_in.result c.is_type_in.ensures.typed (c.place.ensures.line low at) all,
)

pub returns-clause-outside : goal.returns-clause-outside
returns-clause-outside g c = λ out. typed_nowhere c.args.self.now c.args.credit c.args.agent.0 c.args.slot c.place.result c.is_type_in.result c.is_type_in.ensures.typed (c.place.ensures.outside out)
