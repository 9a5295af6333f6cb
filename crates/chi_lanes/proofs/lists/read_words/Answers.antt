-- Each word in its turn, and the last.
use Rattle.std.proofs.Common.{◌≡◌, ℕ, ◌+◌, ◌*◌, ◌-◌, ◌≤◌, List, ◌∷◌, ◌++◌, [], Some, None, length, length-set, take, sym, ap, subst, ◌∙◌, arith}
use Rattle.std.proofs.lemmas.List.{length-drop, take_all}
use Rattle.chi_lanes.proofs.ListLemmas.{behind_first, last_word, long_is, one_more, only_one, put_in, put_last}
use Rattle.chi_lanes.specs.Lists.{Lists}
use Rattle.chi_lanes.specs.Numbers.{number_of}
use Rattle.chi_lanes.proofs.lists.read_words.Goals as goal

pub returns-then-text-ne135-clause-none : goal.returns-then-text-ne135-clause-none
returns-then-text-ne135-clause-none c e words eight lists = c.if-text-ne135.true (long_is c.args.text.now words 7 eight lists)

pub loop-at-preserved : goal.loop-at-preserved
loop-at-preserved c =
    let text = c.args.text.now in
    let left = c.loop-at.left.now in
    let at = c.loop-at.at in
    let word = c.in-Some.word in
    let behind = c.in-Some.behind.now in
    let long : length left + 17 * at ≡ 135 = c.loop-at.invariant.long in
    let eight : length c.loop-at.words ≡ 8 = c.loop-at.invariant.eight in
    let begins = c.in-Some.ensures.found in
    let room : 17 ≤ length left = omega arith in
    let rest : length behind ≡ length left - 17 = ap (λ (xs : List ℕ). length xs) begins.behind ∙ length-drop 17 left in
    record {
      long = omega arith;
      eight = length-set c.loop-at.words at word ∙ eight;
      front = λ words lists. subst (λ (all : List ℕ). Lists text all) (put_in c.loop-at.words words at word (omega arith)) (c.loop-at.invariant.front (word ∷ words) (one_more left word behind words room begins lists));
      back = λ words all lists.
          let now = c.loop-at.invariant.back words all lists in
          let size : length now.0 ≡ 6 - at + 2 = omega (arith, now.1) in
          let next = behind_first left now.0 (6 - at) size now.2 in
          let count : length next.1 + (at + 1) ≡ 8 = omega (arith, next.2) in
          (next.1, count, subst (λ (xs : List ℕ). Lists xs next.1) (sym begins.behind) next.4);
    }

pub returns-in-Some-number_at-clause-listed : goal.returns-in-Some-number_at-clause-listed
returns-in-Some-number_at-clause-listed c e =
    let left = c.loop-at.left.now in
    let word = c.in-Some-number_at.word in
    let long : length left + 17 * c.loop-at.at ≡ 135 = c.loop-at.invariant.long in
    let seven : c.loop-at.at ≡ 7 = omega arith in
    let whole : take 16 left ≡ left = take_all 16 left (omega arith) in
    let is : number_of left ≡ Some word = sym (c.in-Some-number_at.ensures ∙ ap number_of whole) in
    let lists = c.loop-at.invariant.front (word ∷ []) (only_one left word (omega arith) is) in
    subst (λ (all : List ℕ). Lists c.args.text.now all) (ap (λ n. take n c.loop-at.words ++ (word ∷ [])) seven ∙ put_last c.loop-at.words word c.loop-at.invariant.eight) lists

pub returns-in-None-clause-none : goal.returns-in-None-clause-none
returns-in-None-clause-none c e words all lists =
    let left = c.loop-at.left.now in
    let at = c.loop-at.at in
    let now = c.loop-at.invariant.back words all lists in
    let size : length now.0 ≡ 6 - at + 2 = omega (arith, now.1) in
    let next = behind_first left now.0 (6 - at) size now.2 in
    c.in-None.ensures.none next.0 next.3

pub returns-in-None-number_at-clause-none : goal.returns-in-None-number_at-clause-none
returns-in-None-number_at-clause-none c e words all lists =
    let left = c.loop-at.left.now in
    let long : length left + 17 * c.loop-at.at ≡ 135 = c.loop-at.invariant.long in
    let now = c.loop-at.invariant.back words all lists in
    let size : length now.0 ≡ 1 = omega (arith, now.1) in
    let last = last_word left now.0 size now.2 in
    let whole : take 16 left ≡ left = take_all 16 left (omega arith) in
    let none : None ≡ number_of left = c.in-None-number_at.ensures ∙ ap number_of whole in
    let is = last.1.1 in
    cc (is, none)
