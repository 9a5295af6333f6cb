-- Where no word was told, who keeps words takes what another takes.
use Rattle.std.proofs.Common.{◌≡◌, List, ℕ, refl, sym, ap, ◌∙◌}
use Rattle.std.specs.Prelude.{Bool, true, false, ◌&&◌, ◌||◌, not, if◌then◌else◌}
use Rattle.chi_flit.specs.declared.numbers.Agent.{Agent}
use Rattle.chi_observer.specs.declared.flits.Act.{Act}
use Rattle.chi_observer.specs.declared.flits.Act.TheVariants.{Load, Store}
use Rattle.chi_observer.specs.declared.flits.CacheFlit.{CacheFlit}
use Rattle.chi_observer.specs.declared.flits.Flit.TheVariants.{Up, Down}
use Rattle.chi_observer.specs.Rules.{has_data, looks, makes, stores}
use Rattle.chi_observer.specs.Lines.{Watched, is_taken, watch, watch_as}
use Rattle.chi_observer.specs.Worded.{Words, forgets, may_read_any, no_words, renewed}
use Rattle.chi_observer.specs.WordedLines.{takes_by_word, watch_by_word, worded_in}
use Rattle.chi_observer.specs.WordedLaws.{UnloadedFlitsAreAlike, unloaded}
use Rattle.chi_observer.proofs.Finite.{no}
use Rattle.chi_observer.proofs.DataInBeats.{and_true}

any_fit : (c h r a : Bool) → (c || ((not h || (r || true)) && (a || true))) ≡ true
any_fit true h r a = refl
any_fit false false r true = refl
any_fit false false r false = refl
any_fit false true true true = refl
any_fit false true true false = refl
any_fit false true false true = refl
any_fit false true false false = refl

none_other : (h c : Bool) → (h && (not c && not true)) ≡ false
none_other false c = refl
none_other true true = refl
none_other true false = refl

none_left : (b : Bool) → (if b then no_words else no_words) ≡ no_words
none_left true = refl
none_left false = refl

sent : (l : Watched) (n : Agent) (a : Act) (v : List ℕ) → (looks a || stores a) ≡ false
    → (takes_by_word (unloaded l) (Up (record { agent = n; act = a; shown = v })) ≡ is_taken l (Up (record { agent = n; act = a; shown = v })))
    × (watch_by_word (unloaded l) (Up (record { agent = n; act = a; shown = v })) ≡ unloaded (watch l (Up (record { agent = n; act = a; shown = v }))))
sent l n (Load word) v h = no (sym h)
sent l n (Store word) v h = no (sym h)
sent l n other v h =
    let f : CacheFlit = record { agent = n; act = other; shown = v } in
    let w = worded_in (unloaded l) in (
      ap (λ (b : Bool). is_taken l (Up f) && b) (any_fit l.seen.current (has_data other) (renewed w f) (may_read_any w f)) ∙ and_true (is_taken l (Up f)),
      λ i. record { line = watch_as l (Up f) (none_other (has_data other) l.seen.current i); words = none_left (forgets w f) i },
    )

pub alike : UnloadedFlitsAreAlike
alike l (Up f) h = sent l f.agent f.act f.shown h
alike l (Down g) h = (
  and_true (is_taken l (Down g)),
  ap (λ (k : Words). record { line = watch l (Down g); words = k }) (none_left (makes g.grant (l.seen.public.due g.agent.0))),
)
