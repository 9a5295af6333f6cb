-- On each channel at most one flit is in flight to or from an agent: that of its cell.
use Rattle.std.proofs.Common.{◌≡◌, ℕ, ◌+◌, ◌<◌, suc, zero, Bool, true, false, ◌&&◌, ◌==◌, cond, List, [], ◌∷◌, ◌++◌, Option, Some, None, get_or, refl, sym, ap, ap₂, ◌∙◌, subst, append-nil, arith}
use Rattle.std.specs.Prelude.{option_map}
use Rattle.std.specs.List.{filter}
use Rattle.std.proofs.lemmas.List.Elements.{filter-append}
use Rattle.chi_flit.specs.declared.numbers.Agent.{Agent}
use Rattle.chi_flit.specs.declared.message.Channel.{Channel}
use Rattle.chi_flit.specs.declared.message.Channel.TheVariants as channels
use Rattle.chi_flit.specs.declared.message.Msg.{Msg}
use Rattle.chi_flit.specs.declared.message.Msg.TheVariants as messages
use Rattle.chi_wires.specs.declared.cells.Cells.{Cells}
use Rattle.chi_wires.specs.Cell.{no_flits, cell_of}
use Rattle.chi_wires.specs.Flits.{cells_at}
use Rattle.chi_wires.specs.Flight.{Flit, flit, flit_of, flits_of, flits_from, in_flight, is_at, channel_number}
use Rattle.chi_wires.proofs.Moved.{part}

-- a cell whose messages all pass a test, or all fail it
held : {A : Type 0} (as_message : A → Msg) (test : Flit → Bool) (b : Bool) (agent : Agent) → ((x : A) → test (flit agent (as_message x)) ≡ b) → (cell : Option A)
    → filter test (flit_of agent (option_map as_message cell)) ≡ cond b (flit_of agent (option_map as_message cell)) []
held as_message test true agent is None = refl
held as_message test false agent is None = refl
held as_message test b agent is (Some x) = ap (λ v. cond v (flit agent (as_message x) ∷ []) []) (is x)

-- whether flits of this channel, of an agent that is asked for or not, are at the place
abbrev here : Channel → Bool → Channel → Bool
here channel b ch = (channel_number ch == channel_number channel) && b

-- the flit of each cell of an agent
part_found : (channel : Channel) (agent a : Agent) (b : Bool) → (a.0 == agent.0) ≡ b → (cells : Cells) (ch : Channel)
    → filter (is_at channel agent) (part a cells ch) ≡ cond (here channel b ch) (part a cells ch) []
part_found channel agent a b is cells channels.Req = held messages.Req (is_at channel agent) (here channel b channels.Req) a (λ x. ap (λ v. here channel v channels.Req) is) cells.req
part_found channel agent a b is cells channels.Snp = held messages.Snp (is_at channel agent) (here channel b channels.Snp) a (λ x. ap (λ v. here channel v channels.Snp) is) cells.snp
part_found channel agent a b is cells channels.RspDown = held messages.RspDown (is_at channel agent) (here channel b channels.RspDown) a (λ x. ap (λ v. here channel v channels.RspDown) is) cells.rsp_down
part_found channel agent a b is cells channels.DatDown = held messages.DatDown (is_at channel agent) (here channel b channels.DatDown) a (λ x. ap (λ v. here channel v channels.DatDown) is) cells.dat_down
part_found channel agent a b is cells channels.RspUp = held messages.RspUp (is_at channel agent) (here channel b channels.RspUp) a (λ x. ap (λ v. here channel v channels.RspUp) is) cells.rsp_up
part_found channel agent a b is cells channels.DatUp = held messages.DatUp (is_at channel agent) (here channel b channels.DatUp) a (λ x. ap (λ v. here channel v channels.DatUp) is) cells.dat_up

-- the six parts of an agent's flits, each filtered
six : (test : Flit → Bool) (agent : Agent) (cells : Cells) (found : Channel → List Flit) → ((ch : Channel) → filter test (part agent cells ch) ≡ found ch)
    → filter test (flits_of agent cells) ≡ found channels.Req ++ (found channels.Snp ++ (found channels.RspDown ++ (found channels.DatDown ++ (found channels.RspUp ++ found channels.DatUp))))
six test agent cells found is =
    let p = part agent cells in
    filter-append test (p channels.Req) _ ∙ ap₂ (λ x y. x ++ y) (is channels.Req)
    (filter-append test (p channels.Snp) _ ∙ ap₂ (λ x y. x ++ y) (is channels.Snp)
    (filter-append test (p channels.RspDown) _ ∙ ap₂ (λ x y. x ++ y) (is channels.RspDown)
    (filter-append test (p channels.DatDown) _ ∙ ap₂ (λ x y. x ++ y) (is channels.DatDown)
    (filter-append test (p channels.RspUp) (p channels.DatUp) ∙ ap₂ (λ x y. x ++ y) (is channels.RspUp) (is channels.DatUp)))))

-- the flits of an agent that is asked for, or not
cells_found : (channel : Channel) (agent a : Agent) (b : Bool) → (a.0 == agent.0) ≡ b → (cells : Cells)
    → filter (is_at channel agent) (flits_of a cells) ≡ cond b (part a cells channel) []
cells_found channel agent a b is cells =
    six (is_at channel agent) a cells (λ ch. cond (here channel b ch) (part a cells ch) []) (part_found channel agent a b is cells) ∙ alone channel
  where
    alone : (channel : Channel)
        → cond (here channel b channels.Req) (part a cells channels.Req) [] ++ (cond (here channel b channels.Snp) (part a cells channels.Snp) [] ++ (cond (here channel b channels.RspDown) (part a cells channels.RspDown) [] ++ (cond (here channel b channels.DatDown) (part a cells channels.DatDown) [] ++ (cond (here channel b channels.RspUp) (part a cells channels.RspUp) [] ++ cond (here channel b channels.DatUp) (part a cells channels.DatUp) []))))
        ≡ cond b (part a cells channel) []
    alone channels.Req = append-nil (cond b (part a cells channels.Req) [])
    alone channels.Snp = append-nil (cond b (part a cells channels.Snp) [])
    alone channels.RspDown = append-nil (cond b (part a cells channels.RspDown) [])
    alone channels.DatDown = append-nil (cond b (part a cells channels.DatDown) [])
    alone channels.RspUp = append-nil (cond b (part a cells channels.RspUp) [])
    alone channels.DatUp = refl

-- agents that all come later
none_after : (channel : Channel) (agent : Agent) (first : ℕ) (flits : List Cells) → agent.0 < first
    → filter (is_at channel agent) (flits_from first flits) ≡ []
none_after channel agent first [] later = refl
none_after channel agent first (cells ∷ flits) later =
    filter-append (is_at channel agent) (flits_of (record { 0 = first }) cells) (flits_from (first + 1) flits)
    ∙ ap₂ (λ x y. x ++ y) (cells_found channel agent (record { 0 = first }) false (grind (arith, later)) cells)
    (none_after channel agent (first + 1) flits (omega (arith, later)))

-- nothing is on a channel where nothing is
nothing : (channel : Channel) → cell_of no_flits channel ≡ None
nothing channel = search arith

once_from : (channel : Channel) (agent : Agent) (n first : ℕ) (flits : List Cells) → agent.0 ≡ first + n
    → filter (is_at channel agent) (flits_from first flits) ≡ flit_of agent (cell_of (get_or flits n no_flits) channel)
once_from channel agent n first [] is = sym (ap (flit_of agent) (nothing channel))
once_from channel agent zero first (cells ∷ flits) is =
    let same : first ≡ agent.0 = omega (arith, is) in
    filter-append (is_at channel agent) (flits_of (record { 0 = first }) cells) (flits_from (first + 1) flits)
    ∙ (ap₂ (λ x y. x ++ y)
    (subst (λ k. filter (is_at channel agent) (flits_of (record { 0 = k }) cells) ≡ part agent cells channel) (sym same) (cells_found channel agent agent true (grind arith) cells))
    (none_after channel agent (first + 1) flits (omega (arith, is)))
    ∙ append-nil (part agent cells channel))
once_from channel agent (suc n) first (cells ∷ flits) is =
    filter-append (is_at channel agent) (flits_of (record { 0 = first }) cells) (flits_from (first + 1) flits)
    ∙ ap₂ (λ x y. x ++ y) (cells_found channel agent (record { 0 = first }) false (grind (arith, is)) cells)
    (once_from channel agent n (first + 1) flits (omega (arith, is)))

-- what is in flight at a place is its cell's message, once
pub once : (flits : List Cells) (agent : Agent) (channel : Channel)
    → filter (is_at channel agent) (in_flight flits) ≡ flit_of agent (cell_of (cells_at flits agent.0) channel)
once flits agent channel = once_from channel agent agent.0 0 flits (omega arith)
