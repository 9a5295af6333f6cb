-- The words that a later beat of data brings (docs/WATCH.md, "Data in beats").
use Rattle.std.specs.Prelude.{ℕ, List, [], ◌∷◌, unwrap_or}
use Rattle.std.specs.List.{slice_index_or}
use Rattle.chi_issue_b.specs.declared.beat.Beat.{Beat}
use Rattle.chi_issue_b.specs.Beat.{word_in}
use Rattle.chi_observer.specs.declared.flits.Flit.{Flit}
use Rattle.chi_observer.specs.declared.flits.Flit.TheVariants.{Up, Down}
use Rattle.chi_watch.specs.declared.told.Told.{Told}
use Rattle.chi_watch.specs.declared.told.Told.TheVariants as told

-- the beat's word, where it has one
abbrev pub word_with : ℕ → Beat → ℕ → ℕ
word_with word beat number = unwrap_or (word_in beat number) word

abbrev pub word_at : List ℕ → Beat → ℕ → ℕ
word_at words beat number = word_with (slice_index_or words number 0) beat number

abbrev pub words_with : List ℕ → Beat → List ℕ
words_with words beat =
    word_at words beat 0 ∷ (word_at words beat 1 ∷ (word_at words beat 2 ∷ (word_at words beat 3 ∷
    (word_at words beat 4 ∷ (word_at words beat 5 ∷ (word_at words beat 6 ∷ (word_at words beat 7 ∷ [])))))))

-- all else of a flit stays
abbrev pub flit_with : Flit → Beat → Flit
flit_with (Up sent) beat = Up (record sent { shown = words_with sent.shown beat })
flit_with (Down given) beat = Down (record given { shown = words_with given.shown beat })

abbrev pub told_with : Told → Beat → Told
told_with (told.Flit flit) beat = told.Flit (flit_with flit beat)
told_with other beat = other
