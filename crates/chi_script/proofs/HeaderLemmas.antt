-- A header is read from its one spelling, and from that alone.
use Rattle.std.proofs.Common.{◌≡◌, ℕ, ◌≤◌, Bool, true, false, cond, List, [], ◌∷◌, get_or, Option, Some, None, refl, sym, ap, subst, ◌∙◌, codes, arith}
use Rattle.std.specs.List.{join_with_byte}
use Rattle.std.specs.Fmt.{decimal}
use Rattle.std.proofs.lemmas.List.Splits.{join_with_byte-slice_split}
use Rattle.std.proofs.lemmas.Slice.Eq.{bytes_eq-Decides}
use Rattle.chi_flit.specs.declared.credit.Profile.{Profile}
use Rattle.chi_flit.specs.declared.credit.Profile.TheVariants.{Two, Four}
use Rattle.chi_script.specs.declared.headers.CreditTypes.{CreditTypes}
use Rattle.chi_script.specs.Words.{◌>>=◌, is_text, words_of, number_of, has_no_space}
use Rattle.chi_flit.specs.Config.{Sizes, are_entries, config_if}
use Rattle.chi_script.specs.Headers.{types_of, header_sizes, header_of, is_in_limits}
use Rattle.chi_script.specs.Spelling.{type_words, header_words, IsHeaderLine}
use Rattle.chi_script.proofs.LimitLemmas.{IsInLimits, each_few, entries_fit, limits_of, none_left}
use Rattle.chi_script.proofs.NumberLemmas.{number_read, number_again, bound}
use Rattle.chi_script.proofs.SpaceLemmas.{no_spaces, joined_again, decimal_no_space}

-- words that are equal one by one
front : (a b : List ℕ) (x y : List (List ℕ)) → a ≡ b → x ≡ y → a ∷ x ≡ b ∷ y
front a b x y e f = cc

abbrev words_for : CreditTypes → List (List ℕ)
words_for types = type_words types.profile types.entries types.journal

types_read : (words : List (List ℕ)) (types : CreditTypes) → types_of words ≡ Some types → words ≡ words_for types
types_read [] types e = cc
types_read (t0 ∷ []) types e = cc
types_read (t0 ∷ t1 ∷ []) types e = cc
types_read (t0 ∷ t1 ∷ k ∷ []) types e =
    let a = bound (number_of t0) _ types e in
    let b = bound (number_of t1) _ types a.2 in
    let j = bound (number_of k) _ types b.2 in
    let read : CreditTypes = record { entries = a.0 ∷ b.0 ∷ 0 ∷ 0 ∷ []; journal = j.0; profile = Two } in
    let same : read ≡ types = cc in
    front _ _ _ _ (number_read t0 a.0 a.1).1 (front _ _ _ _ (number_read t1 b.0 b.1).1 (front _ _ _ _ (number_read k j.0 j.1).1 refl)) ∙ ap words_for same
types_read (t0 ∷ t1 ∷ t2 ∷ t3 ∷ []) types e = cc
types_read (t0 ∷ t1 ∷ t2 ∷ t3 ∷ k ∷ []) types e =
    let a = bound (number_of t0) _ types e in
    let b = bound (number_of t1) _ types a.2 in
    let c = bound (number_of t2) _ types b.2 in
    let d = bound (number_of t3) _ types c.2 in
    let j = bound (number_of k) _ types d.2 in
    let read : CreditTypes = record { entries = a.0 ∷ b.0 ∷ c.0 ∷ d.0 ∷ []; journal = j.0; profile = Four } in
    let same : read ≡ types = cc in
    front _ _ _ _ (number_read t0 a.0 a.1).1 (front _ _ _ _ (number_read t1 b.0 b.1).1 (front _ _ _ _ (number_read t2 c.0 c.1).1 (front _ _ _ _ (number_read t3 d.0 d.1).1 (front _ _ _ _ (number_read k j.0 j.1).1 refl)))) ∙ ap words_for same
types_read (t0 ∷ t1 ∷ t2 ∷ t3 ∷ k ∷ more ∷ rest) types e = cc

abbrev sizes_words : Sizes → List (List ℕ)
sizes_words header = decimal header.agents ∷ decimal header.lines ∷ decimal header.slices ∷ type_words header.profile header.entries header.journal

sizes_read : (words : List (List ℕ)) (header : Sizes) → header_sizes words ≡ Some header → words ≡ sizes_words header
sizes_read [] header e = cc
sizes_read (a ∷ []) header e = cc
sizes_read (a ∷ l ∷ []) header e = cc
sizes_read (a ∷ l ∷ s ∷ rest) header e =
    let n = bound (number_of a) _ header e in
    let m = bound (number_of l) _ header n.2 in
    let k = bound (number_of s) _ header m.2 in
    let t = bound (types_of rest) _ header k.2 in
    let read : Sizes = record { agents = n.0; lines = m.0; slices = k.0; entries = t.0.entries; journal = t.0.journal; profile = t.0.profile } in
    let same : read ≡ header = cc in
    front _ _ _ _ (number_read a n.0 n.1).1 (front _ _ _ _ (number_read l m.0 m.1).1 (front _ _ _ _ (number_read s k.0 k.1).1 (types_read rest t.0 t.1))) ∙ ap sizes_words same

-- what a test lets through
let_through : {A : Type 0} (b : Bool) (found : Option A) (x : A) → cond b found None ≡ Some x → (b ≡ true) × (found ≡ Some x)
let_through true found x e = (refl, e)
let_through false found x e = cc

pub header_read : (words : List (List ℕ)) (header : Sizes) → header_of words ≡ Some header → (is_in_limits header ≡ true) × (words ≡ header_words header)
header_read [] header e = cc
header_read (verb ∷ numbers) header e =
    let node = let_through (is_text verb (codes "node")) (header_sizes numbers >>= config_if) header e in
    let sizes = bound (header_sizes numbers) config_if header node.1 in
    let through = let_through (is_in_limits sizes.0) (Some sizes.0) header sizes.2 in
    let passed = through.1 in
    let is : sizes.0 ≡ header = cc in
    (subst (λ (h : Sizes). is_in_limits h ≡ true) is through.0, front _ _ _ _ ((bytes_eq-Decides verb (codes "node")).0 node.0) (sizes_read numbers sizes.0 sizes.1 ∙ ap sizes_words is))

pub header_line : (line : List ℕ) (header : Sizes) → header_of (words_of line) ≡ Some header → IsHeaderLine header line
header_line line header e =
    let read = header_read (words_of line) header e in
    (read.0, sym (join_with_byte-slice_split 32 line) ∙ ap (join_with_byte 32) read.1)

-- a number within the limits is read again, and has no space
few_again : (n : ℕ) → n ≤ 65536 → number_of (decimal n) ≡ Some n
few_again n few = number_again n (decimal n) (omega (arith, few), refl)

few_spaceless : (n : ℕ) → n ≤ 65536 → has_no_space (decimal n) ≡ true
few_spaceless n few = decimal_no_space n (omega (arith, few))

types_again : (profile : Profile) (entries : List ℕ) (journal : ℕ) → are_entries profile entries ≡ true → ((i : ℕ) → get_or entries i 0 ≤ 65536) → journal ≤ 65536
    → types_of (type_words profile entries journal) ≡ Some (record { entries = entries; journal = journal; profile = profile })
types_again Two [] journal e few late = cc
types_again Four [] journal e few late = cc
types_again Two (t0 ∷ []) journal e few late = cc
types_again Four (t0 ∷ []) journal e few late = cc
types_again Two (t0 ∷ t1 ∷ []) journal e few late = cc
types_again Four (t0 ∷ t1 ∷ []) journal e few late = cc
types_again Two (t0 ∷ t1 ∷ t2 ∷ []) journal e few late = cc
types_again Four (t0 ∷ t1 ∷ t2 ∷ []) journal e few late = cc
types_again Two (t0 ∷ t1 ∷ t2 ∷ t3 ∷ []) journal e few late =
    let none = none_left t0 t1 t2 t3 e in
    rw (none.0, none.1, few_again t0 (few 0), few_again t1 (few 1), few_again journal late) refl
types_again Four (t0 ∷ t1 ∷ t2 ∷ t3 ∷ []) journal e few late = rw (few_again t0 (few 0), few_again t1 (few 1), few_again t2 (few 2), few_again t3 (few 3), few_again journal late) refl
types_again Two (t0 ∷ t1 ∷ t2 ∷ t3 ∷ t4 ∷ more) journal e few late = cc
types_again Four (t0 ∷ t1 ∷ t2 ∷ t3 ∷ t4 ∷ more) journal e few late = cc

types_spaceless : (profile : Profile) (entries : List ℕ) (journal : ℕ) → ((i : ℕ) → get_or entries i 0 ≤ 65536) → journal ≤ 65536 → no_spaces (type_words profile entries journal) ≡ true
types_spaceless Two entries journal few late = rw (few_spaceless (get_or entries 0 0) (few 0), few_spaceless (get_or entries 1 0) (few 1), few_spaceless journal late) refl
types_spaceless Four entries journal few late =
    rw (few_spaceless (get_or entries 0 0) (few 0), few_spaceless (get_or entries 1 0) (few 1), few_spaceless (get_or entries 2 0) (few 2), few_spaceless (get_or entries 3 0) (few 3), few_spaceless journal late) refl

-- all numbers of a header within the limits are few
record AreFew (header : Sizes) : Type 0 where
  agents : header.agents ≤ 65536
  lines : header.lines ≤ 65536
  slices : header.slices ≤ 65536
  entries : (i : ℕ) → get_or header.entries i 0 ≤ 65536
  journal : header.journal ≤ 65536

are_few : (header : Sizes) → is_in_limits header ≡ true → AreFew header
are_few header e =
    let l : IsInLimits header = limits_of header e in
    record {
      agents = omega (arith, l.agents.1);
      lines = omega (arith, l.lines.1);
      slices = omega (arith, l.slices.1);
      entries = λ i. omega (arith, each_few header e i);
      journal = l.journal.1;
    }

header_again : (header : Sizes) → is_in_limits header ≡ true → header_of (header_words header) ≡ Some header
header_again header e =
    let few : AreFew header = are_few header e in
    let types = types_again header.profile header.entries header.journal (entries_fit header e) few.entries few.journal in
    let sizes : header_sizes (sizes_words header) ≡ Some header = rw (few_again header.agents few.agents, few_again header.lines few.lines, few_again header.slices few.slices, types) refl in
    let through : config_if header ≡ Some header = rw e refl in
    ap (λ (found : Option Sizes). found >>= config_if) sizes ∙ through

header_joined : (header : Sizes) → is_in_limits header ≡ true → words_of (join_with_byte 32 (header_words header)) ≡ header_words header
header_joined header e =
    let few : AreFew header = are_few header e in
    let types = types_spaceless header.profile header.entries header.journal few.entries few.journal in
    joined_again (codes "node") (sizes_words header) (rw (few_spaceless header.agents few.agents, few_spaceless header.lines few.lines, few_spaceless header.slices few.slices, types) refl)

pub header_line_again : (line : List ℕ) (header : Sizes) → IsHeaderLine header line → header_of (words_of line) ≡ Some header
header_line_again line header is = ap (λ (bytes : List ℕ). header_of (words_of bytes)) is.1 ∙ (ap header_of (header_joined header is.0) ∙ header_again header is.0)
