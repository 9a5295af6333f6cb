-- A load of another word than the known one, of a copy that may have been stored to unseen, counts as a store of it.
use Rattle.std.proofs.Common.{◌≡◌, ℕ, refl, sym, ◌∙◌}
use Rattle.std.specs.Prelude.{Bool, true, false, ◌&&◌, not, nat_lt, if◌then◌else◌}
use Rattle.chi_observer.specs.declared.flits.Stores.{Stores}
use Rattle.chi_observer.specs.declared.flits.Stores.TheVariants.{Hidden, Listed}
use Rattle.chi_observer.specs.declared.flits.Word.{Word}
use Rattle.chi_observer.specs.declared.flits.Act.TheVariants.{Load}
use Rattle.chi_observer.specs.Copies.{holds_data}
use Rattle.chi_observer.specs.Rules.{are_hidden, has_word, reads_any}
use Rattle.chi_observer.specs.Tables.{most}
use Rattle.chi_observer.specs.Worlds.{World}
use Rattle.chi_observer.specs.Observed.{Unstored}
use Rattle.chi_observer.specs.Counted.{tells_store}
use Rattle.chi_observer.specs.Worded.{MeaningWords, Worded, Words, agree, fits_known, known_words, may_be_empty, tells_by_word, words_stored}
use Rattle.chi_observer.specs.WordedLaws.{StoresByWordAreTaken, StoresByWordLead}
use Rattle.chi_observer.proofs.Finite.{no, left, right, both}
use Rattle.chi_observer.proofs.Facts.{or_there, turned}
use Rattle.chi_observer.proofs.CountedLoads.{home_foreign, led_here, takes_store, tells_open}
use Rattle.chi_observer.proofs.WordedSent.{load_known}

-- the copy has data, and may have been stored to
word_open : (l : Worded) (n : ℕ) (word : Word) → tells_by_word l n word ≡ true → (reads_any l.seen.public.stores (l.seen.public.due n) (most (l.seen.told n)) && holds_data (most (l.seen.told n))) ≡ true
word_open l n word tells = by l.seen.current tells
  where
    by : (c : Bool) → (if c then tells_store l.seen n word else (reads_any l.seen.public.stores (l.seen.public.due n) (most (l.seen.told n)) && holds_data (most (l.seen.told n))) && not (fits_known (l.words word.place.0) word.value)) ≡ true
        → (reads_any l.seen.public.stores (l.seen.public.due n) (most (l.seen.told n)) && holds_data (most (l.seen.told n))) ≡ true
    by true h = tells_open l.seen n word h
    by false h = left _ _ h

-- else the word would be the known one
foreign : (l : Worded) (n : ℕ) (word : Word) (w : World) → tells_by_word l n word ≡ true → nat_lt word.place.0 8 ≡ true → MeaningWords l w → Unstored l.seen w → has_word (Load word) w.last ≡ true → false ≡ true
foreign l n word w tells placed m u has = by l.seen.current refl tells
  where
    by : (c : Bool) → l.seen.current ≡ c → (if c then tells_store l.seen n word else (reads_any l.seen.public.stores (l.seen.public.due n) (most (l.seen.told n)) && holds_data (most (l.seen.told n))) && not (fits_known (l.words word.place.0) word.value)) ≡ true
        → false ≡ true
    by true c h = home_foreign l.seen n word w h m.seen u has
    by false c h = sym (turned (fits_known (l.words word.place.0) word.value) (right _ _ h)) ∙ load_known (Load word) l.words w.last placed (m.words c u) has

-- it is hidden, so no word is known behind it
none_known : (z : Stores) (word : Word) (empty : Bool) (known : Words) (w : World) → are_hidden z ≡ true → agree (words_stored z word empty known) w.last ≡ true
none_known Hidden word empty known w h = refl
none_known Listed word empty known w h = no h

pub stores_taken : StoresByWordAreTaken
stores_taken l f word tells placed =
    both _ _ (takes_store l.seen f word (word_open l f.agent.0 word tells)) (both _ _ placed (or_there l.seen.current _ (or_there _ _ refl)))

pub stores_lead : StoresByWordLead
stores_lead l f word w sound low tells placed m has =
    let open_copy = word_open l f.agent.0 word tells in
    let any : reads_any l.seen.public.stores (l.seen.public.due f.agent.0) (most (l.seen.told f.agent.0)) ≡ true = left _ _ open_copy in record {
      seen = led_here l.seen f word open_copy sound low w m.seen has (foreign l f.agent.0 word w tells placed m);
      words = λ c u. none_known l.seen.public.stores word (may_be_empty (l.seen.told f.agent.0).told) (known_words l) w (left _ _ any);
    }
