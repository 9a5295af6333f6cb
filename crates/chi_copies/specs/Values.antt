-- Which words complete a ReadOnce (docs/COPIES.md, "What is proved").
use Rattle.std.specs.Prelude.{◌≡◌, ◌⊎◌, ℕ, true, false, List, [], ◌∷◌}
use Rattle.chi_observer.specs.declared.flits.Stores.{Stores}
use Rattle.chi_observer.specs.declared.flits.Flit.{Flit}
use Rattle.chi_observer.specs.declared.flits.Flit.TheVariants.{Up, Down}
use Rattle.chi_observer.specs.declared.flits.HomeFlit.{HomeFlit}
use Rattle.chi_observer.specs.Rules.{reads_once, gives_data, word_at}
use Rattle.chi_copies.specs.Worlds.{World, Words, Same, Informed}
use Rattle.chi_copies.specs.Moments.{is_issue}
use Rattle.chi_copies.specs.Runs.{public_of, After, Accepted}

-- v was the value last stored right behind a flit since the issue of n's request, on the way to w
abbrev pub WasValue : (z : Stores) (es : List Flit) (n : ℕ) (v : Words) (w : World) → After z es w → Type 0
WasValue z [] n v w h = ⊥
WasValue z (Up f ∷ es) n v w h = (Same h.1.last v) ⊎ ((is_issue (Up f) n ≡ false) × WasValue z es n v h.0 h.2)
WasValue z (Down g ∷ es) n v w h = (Same h.1.last v) ⊎ WasValue z es n v h.0 h.2

-- the words that complete a ReadOnce
abbrev pub ReadOnceShowsValue : Type 0
ReadOnceShowsValue = (z : Stores) (es : List Flit) (g : HomeFlit) → Accepted z (Down g ∷ es) → gives_data g.grant ≡ true → reads_once ((public_of z es).due g.agent.0) ≡ true
    → (w : World) (h : After z es w) → Informed g w → WasValue z es g.agent.0 (word_at g.shown) w h
