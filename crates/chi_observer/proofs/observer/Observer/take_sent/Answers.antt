-- What is set is what is kept then.
use Rattle.std.proofs.Common.{rules, arith, ◌≡◌, ◌<◌, length, sym, subst, ℕ, ap, ◌∙◌}
use Rattle.std.specs.Prelude.{Bool, true, false, ◌&&◌, ◌||◌, not}
use Rattle.chi_observer.specs.declared.flits.CacheFlit.{CacheFlit}
use Rattle.chi_observer.specs.declared.observer.Observer.{Observer}
use Rattle.chi_observer.specs.Rules.{allows, has_data, lets_go, reads_any}
use Rattle.chi_observer.specs.Tables.{fits_told, renews, strongest}
use Rattle.chi_observer.specs.Lines.{agent_of, known_of, observed}
use Rattle.chi_observer.specs.Observed.{fits, fits_word, next_as}
use Rattle.chi_observer.proofs.Lines.{sent_by, all_stand, stale, refuted}
use Rattle.chi_observer.proofs.observer.Observer.take_sent.Goals as goal

pub returns-clause-after : goal.returns-clause-after
returns-clause-after c =
    let old = c.args.self.now in
    let low : c.from-at.result < length old.agents = search (rules, arith) in
    let differs_is : c.shows_others-others.result ≡ (c.args.differs || (has_data c.args.flit.act && (old.current && not (fits old.home c.args.flit.shown)))) =
    c.shows_others-others.ensures ∙ ap (λ (z : Bool). c.args.differs || (z && (old.current && not c.may_be-known.result))) c.has_data-shows.ensures
    ∙ ap (λ (z : Bool). c.args.differs || (has_data c.args.flit.act && (old.current && not z))) c.may_be-known.ensures in
    sent_by old.stores old.agents old.home old.current old.duty old.thrown c.after.result c.shown-self.result c.current_from-self.result c.duty_after-self.result c.thrown_after-self.result
    c.args.flit c.from-at.result c.shows_others-others.result c.tells_words-tells.result c.is_renewed-renewed.result c.lets_go-goes.result
    c.from-at.ensures low c.after.ensures c.tells_words-tells.ensures c.lets_go-goes.ensures c.is_renewed-renewed.ensures c.shown-self.ensures c.current_from-self.ensures c.duty_after-self.ensures c.thrown_after-self.ensures
    ∙ ap (next_as (observed old) c.args.flit) differs_is

-- the words fit what is kept, where the agent's place is n
abbrev fitting : Observer → CacheFlit → ℕ → Bool
fitting old f n = (not (has_data f.act) || (renews old.stores f.act (lets_go (agent_of old.agents n).snooped) (agent_of old.agents n).due (known_of (agent_of old.agents n)) || (not old.current || fits old.home f.shown)))
    && (reads_any old.stores (agent_of old.agents n).due (strongest (agent_of old.agents n).told) || (not old.current || fits_word old.home f.act))

abbrev sending : Observer → CacheFlit → ℕ → Bool
sending old f n = allows f.act (agent_of old.agents n).snooped && (fits_told old.stores f.act (lets_go (agent_of old.agents n).snooped) (agent_of old.agents n).due (known_of (agent_of old.agents n)) && fitting old f n)

same_test : (c h h' r r' k k' u u' w w' : Bool) → h ≡ h' → r ≡ r' → k ≡ k' → u ≡ u' → w ≡ w' → ((not h || (r || (not c || k))) && (u || (not c || w))) ≡ ((not h' || (r' || (not c || k'))) && (u' || (not c || w')))
same_test c h h' r r' k k' u u' w w' eh er ek eu ew = λ i. (not (eh i) || (er i || (not c || ek i))) && (eu i || (not c || ew i))

pub returns-clause-taken : goal.returns-clause-taken
returns-clause-taken c =
    let f = c.args.flit in
    let old = c.args.self.now in
    let n = c.from-at.result in
    let sends : c.sends.result ≡ true = search (rules, arith, c.if-not-sends) in
    let stands : c.words_stand.result ≡ true = search (rules, arith, c.if-not-words_stand) in
    let renewed_is : c.is_renewed-renewed.result ≡ renews old.stores f.act (lets_go (agent_of old.agents n).snooped) (agent_of old.agents n).due (known_of (agent_of old.agents n)) =
    c.is_renewed-renewed.ensures ∙ ap (λ (z : Bool). renews old.stores f.act z (agent_of old.agents n).due (known_of (agent_of old.agents n))) c.lets_go-goes.ensures in
    let words : fitting old f n ≡ true =
    sym (c.words_stand.ensures ∙ same_test old.current _ _ _ _ _ _ _ _ _ _ c.has_data-shows.ensures renewed_is c.may_be-known.ensures c.reads_any-any.ensures c.may_read-read.ensures) ∙ stands in
    subst (λ (k : ℕ). true ≡ sending old f k) c.from-at.ensures (all_stand _ _ _ (sym c.sends.ensures ∙ sends) words)

pub returns-then-not-words_stand-clause-taken : goal.returns-then-not-words_stand-clause-taken
returns-then-not-words_stand-clause-taken c =
    let f = c.args.flit in
    let old = c.args.self.now in
    let n = c.from-at.result in
    let none : c.words_stand.result ≡ false = search (rules, arith, c.if-not-words_stand) in
    let renewed_is : c.is_renewed-renewed.result ≡ renews old.stores f.act (lets_go (agent_of old.agents n).snooped) (agent_of old.agents n).due (known_of (agent_of old.agents n)) =
    c.is_renewed-renewed.ensures ∙ ap (λ (z : Bool). renews old.stores f.act z (agent_of old.agents n).due (known_of (agent_of old.agents n))) c.lets_go-goes.ensures in
    let words : fitting old f n ≡ false =
    sym (c.words_stand.ensures ∙ same_test old.current _ _ _ _ _ _ _ _ _ _ c.has_data-shows.ensures renewed_is c.may_be-known.ensures c.reads_any-any.ensures c.may_read-read.ensures) ∙ none in
    subst (λ (k : ℕ). false ≡ sending old f k) c.from-at.ensures (stale _ _ _ words)

pub returns-then-not-words_stand-clause-reason : goal.returns-then-not-words_stand-clause-reason
returns-then-not-words_stand-clause-reason c =
    let f = c.args.flit in
    let old = c.args.self.now in
    let n = c.from-at.result in
    let none : c.words_stand.result ≡ false = search (rules, arith, c.if-not-words_stand) in
    let renewed_is : c.is_renewed-renewed.result ≡ renews old.stores f.act (lets_go (agent_of old.agents n).snooped) (agent_of old.agents n).due (known_of (agent_of old.agents n)) =
    c.is_renewed-renewed.ensures ∙ ap (λ (z : Bool). renews old.stores f.act z (agent_of old.agents n).due (known_of (agent_of old.agents n))) c.lets_go-goes.ensures in
    let words : fitting old f n ≡ false =
    sym (c.words_stand.ensures ∙ same_test old.current _ _ _ _ _ _ _ _ _ _ c.has_data-shows.ensures renewed_is c.may_be-known.ensures c.reads_any-any.ensures c.may_read-read.ensures) ∙ none in
    subst (λ (k : ℕ). not (fitting old f k) ≡ true) c.from-at.ensures (refuted _ words)
