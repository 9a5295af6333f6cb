-- A CleanUnique whose copy was lost: its agent acknowledges, and has none.
use Rattle.std.proofs.Common.{◌≡◌, inl, inr, ℕ, ◌<◌, List, refl, sym, ap, subst, ◌∙◌}
use Rattle.std.specs.Prelude.{Bool, true, false, ◌||◌, Option, Some, None, if◌then◌else◌}
use Rattle.chi_flit.specs.declared.numbers.Agent.{Agent}
use Rattle.chi_flit.specs.declared.state.State.{State}
use Rattle.chi_flit.specs.declared.state.State.TheVariants.{I}
use Rattle.chi_flit.specs.declared.message.CompData.{CompData}
use Rattle.chi_flit.specs.declared.message.RspDown.{RspDown}
use Rattle.chi_flit.specs.declared.message.RspDown.TheVariants.{CompUC}
use Rattle.chi_flit.specs.declared.message.RspUp.TheVariants.{CompAck as Ack}
use Rattle.chi_flit.specs.Message.{no_words}
use Rattle.chi_wires.specs.Cell.{no_flits}
use Rattle.chi_rnline.specs.declared.pending.Pending.{Pending}
use Rattle.chi_rnline.specs.Rn.{no_line, rn_after_comp, state_after_comp}
use Rattle.chi_line.specs.LineState.{LineState, cells_of, rn_of}
use Rattle.chi_line.specs.Kept.{Kept, Lane, lane}
use Rattle.chi_line.specs.Step.{comp_received_line}
use Rattle.chi_line.proofs.Frame.{Moves, puts_set, within}
use Rattle.chi_observer.specs.declared.flits.Due.{Due}
use Rattle.chi_observer.specs.declared.flits.Due.TheVariants.{Acknowledgement, Nothing}
use Rattle.chi_observer.specs.declared.flits.Act.TheVariants.{CompAck}
use Rattle.chi_observer.specs.declared.flits.CacheFlit.{CacheFlit}
use Rattle.chi_observer.specs.Copies.{Held, holds_data, is_clean}
use Rattle.chi_observer.specs.Copies.Copy.{Invalid, UniqueEmpty}
use Rattle.chi_observer.specs.Rules.{acts, is_free}
use Rattle.chi_observer.specs.Worlds.{Hidden, Sends, World, put}
use Rattle.chi_observer.specs.Observed.{Observed, next, takes}
use Rattle.chi_conformity.proofs.Held.{Stands, held, held_of, is_evicting, is_given_up, says_none, says_shared, world_of, writes_none, writes_shared}
use Rattle.chi_conformity.proofs.Flits.{Laws, beside_put, cache_flit, held_there, or_in, words_there}
use Rattle.chi_conformity.proofs.Acted.{Sent, low_agent, moves_parts}
use Rattle.chi_conformity.proofs.Acknowledged.{by_response, or_after, response_due}
use Rattle.chi_conformity.proofs.Lanes.{beside_sent}
use Rattle.chi_conformity.proofs.Put.{here, there}
use Rattle.chi_conformity.proofs.Told.{no, within_same}

abbrev empty_copy : Held
empty_copy = record { copy = UniqueEmpty; cancelled = false }

lost_acts : (d : Due) (state : State) (p : Pending) (pending : Option Pending) (given : Option CompData) (response : Option RspDown)
    → state ≡ I → pending ≡ Some p → given ≡ None → response ≡ Some CompUC → d ≡ Acknowledgement
    → acts CompAck false d (held_of state pending given response d) ≡ Some empty_copy
lost_acts d state p pending given response is_s is_p is_g is_r is_d = rw (is_s, is_p, is_g, is_r, is_d) refl

lost_held : (state : State) (given : Option CompData) → state ≡ I → given ≡ None → held_of (state_after_comp state) None given None Nothing ≡ record { copy = Invalid; cancelled = false }
lost_held state given is_s is_g = rw (is_s, is_g) refl

pub lost_seen : Laws → (o : Observed) (s : LineState) (last : List ℕ) (agent : Agent) → agent.0 < 8 → Kept last s → Stands last s o
    → (cells_of s agent.0).rsp_down ≡ Some CompUC → (rn_of s agent.0).state ≡ I → Sent o (comp_received_line s agent.0) last agent CompAck no_words
lost_seen laws o s last agent low kept stands at gone =
    let n : ℕ = agent.0 in
    let rn = rn_of s n in
    let c = cells_of s n in
    let k = kept.lanes n low in
    let f : CacheFlit = cache_flit agent CompAck no_words in
    let s' : LineState = comp_received_line s n in
    let x : Lane = record (lane s n) { rn = rn_after_comp rn; flits = record c { rsp_down = None; rsp_up = Some Ack } } in
    let moves : Moves s s' n x = moves_parts s _ _ n (rn_after_comp rn) (record c { rsp_down = None; rsp_up = Some Ack })
    (puts_set no_line s.requesters n _ (within n _ low kept.requesters)) (puts_set no_flits s.flits n _ (within n _ low kept.flits)) in
    let found = by_response s.home.serving s.home.filter.unique s.home.filter.owner last n (lane s n) CompUC k at in
    let d : Due = o.public.due n in
    let due : d ≡ Acknowledgement = response_due (lane s n) CompUC d (stands.lanes n).due_is found.0 at in
    let w : World = world_of o.public.due s last stands.home in
    let after : World = world_of (next o f).public.due s' last stands.home in
    let mid : World = record after { state = put n empty_copy after.state } in
    let mine : put n empty_copy after.state n ≡ empty_copy = here n empty_copy after.state in
    let idle : (next o f).public.due n ≡ Nothing = here n Nothing o.public.due in
    let sent : Sends o.public f w mid = record {
      allowed = refl;
      act = lost_acts d rn.state found.0.pending rn.pending c.dat_down c.rsp_down gone found.0.is found.1 at due ∙ ap (λ (h : Held). Some h) (sym mine);
      shown = λ e. no e;
      last = λ e. refl;
      home = refl;
      words = λ holds e. no (subst (λ (h : Held). holds_data h.copy ≡ true) mine holds);
      stored = λ e. no e;
      others = record {
        state = λ m under other. there n empty_copy after.state m other ∙ held_there s s' n x o.public.due Nothing m other moves;
        words = λ m under other. words_there s s' n x m other moves;
      };
    } in
    let taken : takes o f ≡ true = laws.taken o f w mid stands.sound (low_agent n low) stands.meant sent (or_in _ _ refl) in
    let drops : Hidden (next o f).public mid after = record {
      agent = n;
      low = low_agent n low;
      others = record { state = λ m under other. sym (there n empty_copy after.state m other); words = λ m under other. refl };
      home = refl;
      how = inr (inl (record {
        free = subst (λ v. is_free v (mid.state n) ≡ true) (sym idle) refl;
        clean = subst (λ (h : Held). is_clean h.copy ≡ true) (sym mine) refl;
        gone = (ap (λ (y : Lane). held y ((next o f).public.due n)) moves.at ∙ (ap (held x) idle ∙ lost_held rn.state c.dat_down gone found.1))
            ∙ sym (ap (λ (h : Held). record { copy = Invalid; cancelled = h.cancelled }) mine);
        last = refl;
      }));
    } in (
      taken,
      record {
        home = stands.home;
        sound = laws.kept o f stands.sound (low_agent n low) taken;
        meant = laws.closed (next o f) mid after (laws.kept o f stands.sound (low_agent n low) taken) (laws.leads o f w mid stands.sound (low_agent n low) stands.meant sent) drops;
        value = λ c'. stands.value (still _ o.current c');
        thrown = unthrown o.public.thrown stands.thrown;
        lanes = beside_put (is_given_up s.home.serving) s.home.filter.unique s s' n x o.public.due o.public.snooped o.told _ _ _ moves
            (beside_sent s.home.serving s.home.filter.unique s.home.filter.owner last n (lane s n) (rn_after_comp rn) (record c { rsp_down = None; rsp_up = Some Ack }) _ _ _ _ _ _ k (stands.lanes n)
            (within_same (o.told n).told rn.state) refl (stands.lanes n).snooped_is
            (λ g. inl (or_after (is_evicting rn.pending) (says_none c.rsp_up) (writes_none (is_given_up s.home.serving) c.dat_up) g))
            (λ g. inl (or_in (says_shared c.rsp_up) (writes_shared c.dat_up) g)))
            (λ m other. stands.lanes m);
      },
    )
  where
    still : (r c : Bool) → (if r then false else c) ≡ true → c ≡ true
    still true c h = no h
    still false c h = h

    unthrown : (thrown : Bool) → thrown ≡ false → (thrown || false) ≡ false
    unthrown true h = no (sym h)
    unthrown false h = refl
