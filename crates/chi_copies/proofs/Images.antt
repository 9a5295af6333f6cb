-- What rows lead to is the image of a set by a relation that is those rows.
use Rattle.std.proofs.Common.{◌≡◌, ℕ, zero, suc, List, length, refl, sym, ap, ◌∙◌}
use Rattle.std.proofs.Math.Path.{fun_ext}
use Rattle.std.specs.Prelude.{Bool, true, false, ◌&&◌, ◌||◌, not, Some, None, if◌then◌else◌}
use Rattle.chi_observer.specs.declared.flits.Act.{Act}
use Rattle.chi_observer.specs.declared.flits.Act.TheVariants.{Request, Resend, SnpResp, CompAck, CopyBackWrData, NonCopyBackWrData}
use Rattle.chi_observer.specs.declared.flits.Answer.{Answer}
use Rattle.chi_observer.specs.declared.flits.Answer.TheVariants.{SnpRespI, SnpRespSC, SnpRespUC, SnpRespDataI, SnpRespDataSC, SnpRespDataUC, SnpRespDataUD, SnpRespDataSD, SnpRespDataIPD, SnpRespDataSCPD, SnpRespDataUCPD}
use Rattle.chi_observer.specs.declared.kinds.Kind.{Kind}
use Rattle.chi_observer.specs.declared.kinds.Kind.TheVariants.{ReadNotSharedDirty, ReadShared, ReadClean, ReadOnce, ReadUnique, CleanUnique, MakeUnique, CleanShared, CleanInvalid, MakeInvalid, Evict, WriteBackFull, WriteCleanFull, WriteEvictFull, WriteUniqueFull}
use Rattle.chi_observer.specs.declared.flits.Due.{Due}
use Rattle.chi_observer.specs.declared.flits.Due.TheVariants.{Nothing, Completion, Resending, SureCompletion, WriteData, Acknowledgement}
use Rattle.chi_observer.specs.declared.flits.Stores.{Stores}
use Rattle.chi_observer.specs.declared.flits.Stores.TheVariants.{Hidden, Listed}
use Rattle.chi_copies.specs.declared.copies.Row.{Row}
use Rattle.chi_copies.specs.declared.steps.TheConstants.{DROPS, STORES}
use Rattle.chi_copies.specs.declared.sends.TheConstants.{TO_INVALID, TO_SHARED_CLEAN, TO_SHOWN_INVALID, TO_SHOWN_SHARED_CLEAN, TO_SHOWN_UNIQUE_CLEAN, TO_SHOWN_UNIQUE_DIRTY, TO_SHOWN_SHARED_DIRTY}
use Rattle.chi_copies.specs.Copies.{Held, Copies, alike, image, is_fresh, is_newer, leaves, same_held}
use Rattle.chi_observer.specs.Copies.{Copy, holds_data, same}
use Rattle.chi_observer.specs.Copies.Copy.{Invalid, Writing}
use Rattle.chi_flit.specs.declared.state.State.{State}
use Rattle.chi_flit.specs.declared.state.State.TheVariants.{I, SC, UC, UD, SD}
use Rattle.chi_observer.specs.Rules.{are_hidden, gives_up, is_acknowledging, is_copy_back, is_issued_from, is_whole_write, is_written_from, issued, same_kind}
use Rattle.chi_copies.specs.Rules.{acts, is_due_data, is_resent, may_hide, slips}
use Rattle.chi_copies.specs.Observed.{any_of}
use Rattle.chi_copies.specs.Images.{fitting, is_idle, is_plain, led, led_by, replied, row_at, sent_from, written}
use Rattle.chi_copies.specs.Sets.{any_below, members}
use Rattle.chi_copies.specs.Lines.{leads_by}
use Rattle.chi_copies.specs.declared.steps.Step.TheVariants.{Apart}
use Rattle.chi_copies.specs.declared.tests.TheConstants.{APART, FRESH, NEWER}
use Rattle.chi_copies.proofs.Finite.{no, left, right, both, or_left, or_right, either, turned, all_helds, each_held, in_held, none_held, out_held, in_image, out_image}
use Rattle.chi_copies.proofs.Bits.{each_is}
use Rattle.chi_copies.proofs.Sets.{alike_is, same_bool, stay_is}

-- what a row leads to, one copy after the other
abbrev pub leads : Row → Held → Copies
leads row h k = members row.from h && members row.to k

abbrev pub lead : List Row → Held → Copies
lead rows h k = any_below (length rows) (λ n. leads (row_at rows n) h k)

-- RELATIONS
pub image_or : (R Q : Held → Copies) (S : Copies) (k : Held) → image (λ h k. R h k || Q h k) S k ≡ (image R S k || image Q S k)
image_or R Q S k = same_bool (image (λ h k. R h k || Q h k) S k) (image R S k || image Q S k)
    (λ e. let x = out_image (λ h k. R h k || Q h k) S k e in either (R x.held k) (Q x.held k) x.leads
    (λ r. or_left (image R S k) _ (in_image R S x.held k x.has r))
    (λ q. or_right (image R S k) _ (in_image Q S x.held k x.has q)))
    (λ e. either (image R S k) (image Q S k) e
    (λ r. let x = out_image R S k r in in_image (λ h k. R h k || Q h k) S x.held k x.has (or_left (R x.held k) _ x.leads))
    (λ q. let x = out_image Q S k q in in_image (λ h k. R h k || Q h k) S x.held k x.has (or_right (R x.held k) _ x.leads)))

pub image_row : (row : Row) (S : Copies) (k : Held) → image (leads row) S k ≡ led_by row S k
image_row row S k = same_bool (image (leads row) S k) (led_by row S k)
    (λ e. let x = out_image (leads row) S k e in both (any_of S (members row.from)) (members row.to k)
    (in_held (λ h. S h && members row.from h) x.held (both (S x.held) _ x.has (left (members row.from x.held) _ x.leads)))
    (right (members row.from x.held) _ x.leads))
    (λ e. let x = out_held (λ h. S h && members row.from h) (left (any_of S (members row.from)) _ e) in
    in_image (leads row) S x.0 k (left (S x.0) _ x.1) (both (members row.from x.0) _ (right (S x.0) _ x.1) (right (any_of S (members row.from)) _ e)))

none_leads : (S : Copies) (k : Held) → image (λ h k. false) S k ≡ false
none_leads S k = same_bool (image (λ h k. false) S k) false (λ e. let x = out_image (λ h k. false) S k e in x.leads) (λ e. no e)

rows_by : (n : ℕ) (rows : List Row) (S : Copies) (k : Held) → image (λ h k. any_below n (λ r. leads (row_at rows r) h k)) S k ≡ any_below n (λ r. led_by (row_at rows r) S k)
rows_by zero rows S k = none_leads S k
rows_by (suc n) rows S k = image_or (leads (row_at rows n)) (λ h k. any_below n (λ r. leads (row_at rows r) h k)) S k
    ∙ (λ i. image_row (row_at rows n) S k i || rows_by n rows S k i)

pub image_rows : (rows : List Row) (S : Copies) (k : Held) → image (lead rows) S k ≡ led rows S k
image_rows rows S k = rows_by (length rows) rows S k

pub image_same : (R Q : Held → Copies) (S : Copies) (k : Held) → ((h k : Held) → R h k ≡ Q h k) → image R S k ≡ image Q S k
image_same R Q S k e = ap (λ (R : Held → Copies). image R S k) (fun_ext (λ h. fun_ext (λ k. e h k)))

-- what is tried of each two copies is of all
pub each_pair : (R Q : Held → Copies) → all_helds (λ h. all_helds (λ k. alike (R h k) (Q h k))) ≡ true → (h k : Held) → R h k ≡ Q h k
each_pair R Q e h k = alike_is _ _ (each_held (λ k. alike (R h k) (Q h k)) (each_held (λ h. all_helds (λ k. alike (R h k) (Q h k))) e h) k)

-- beside one another where a set has the first
pub image_on : (R Q : Held → Copies) (S : Copies) (k : Held) → ((h : Held) → S h ≡ true → R h k ≡ Q h k) → image R S k ≡ image Q S k
image_on R Q S k e = same_bool (image R S k) (image Q S k)
    (λ i. let x = out_image R S k i in in_image Q S x.held k x.has (sym (e x.held x.has) ∙ x.leads))
    (λ i. let x = out_image Q S k i in in_image R S x.held k x.has (e x.held x.has ∙ x.leads))

-- of those that are so
pub image_from : (p S : Copies) (Q : Held → Copies) (k : Held) → image (λ h k. p h && Q h k) S k ≡ image Q (λ h. S h && p h) k
image_from p S Q k = same_bool (image (λ h k. p h && Q h k) S k) (image Q (λ h. S h && p h) k)
    (λ i. let x = out_image (λ h k. p h && Q h k) S k i in in_image Q (λ h. S h && p h) x.held k (both (S x.held) _ x.has (left (p x.held) _ x.leads)) (right (p x.held) _ x.leads))
    (λ i. let x = out_image Q (λ h. S h && p h) k i in in_image (λ h k. p h && Q h k) S x.held k (left (S x.held) _ x.has) (both (p x.held) _ (right (S x.held) _ x.has) x.leads))

pub image_set : (R : Held → Copies) (S T : Copies) (k : Held) → ((h : Held) → S h ≡ T h) → image R S k ≡ image R T k
image_set R S T k e = ap (λ (S : Copies). image R S k) (fun_ext e)

-- UNSEEN STEPS where nothing is due
slips_hidden : (h k : Held) → slips Hidden Nothing h k ≡ ((same_held h k || lead DROPS h k) || lead STORES h k)
slips_hidden = each_pair (slips Hidden Nothing) (λ h k. (same_held h k || lead DROPS h k) || lead STORES h k) refl

slips_listed : (h k : Held) → slips Listed Nothing h k ≡ (same_held h k || lead DROPS h k)
slips_listed = each_pair (slips Listed Nothing) (λ h k. same_held h k || lead DROPS h k) refl

pub free_listed : (z : Stores) (S : Copies) (k : Held) → are_hidden z ≡ false → (S k || led DROPS S k) ≡ image (slips z Nothing) S k
free_listed Hidden S k e = no (sym e)
free_listed Listed S k e = sym (image_same (slips Listed Nothing) _ S k slips_listed ∙ image_or same_held (lead DROPS) S k ∙ (λ i. stay_is S k i || image_rows DROPS S k i))

pub free_hidden : (z : Stores) (S : Copies) (k : Held) → are_hidden z ≡ true → ((S k || led DROPS S k) || led STORES S k) ≡ image (slips z Nothing) S k
free_hidden Listed S k e = no e
free_hidden Hidden S k e = sym (image_same (slips Hidden Nothing) _ S k slips_hidden ∙ image_or (λ h k. same_held h k || lead DROPS h k) (lead STORES) S k
    ∙ (λ i. (image_or same_held (lead DROPS) S k ∙ (λ j. stay_is S k j || image_rows DROPS S k j)) i || image_rows STORES S k i))

-- WHAT ANOTHER AGENT MAY NOT HAVE
apart_rows : (h k : Held) → leads_by Apart h k ≡ lead APART h k
apart_rows = each_pair (leads_by Apart) (lead APART) refl

pub apart_all : (S : Copies) (k : Held) → led APART S k ≡ image (leads_by Apart) S k
apart_all S k = sym (image_same (leads_by Apart) (lead APART) S k apart_rows ∙ image_rows APART S k)

pub not_alone : (a b : Bool) → a ≡ (a || (false && b))
not_alone true b = refl
not_alone false b = refl

-- A FLIT OF A CACHE but for a load or a store
led_is : (rows : List Row) (f : Held → Held) → ((h k : Held) → same_held (f h) k ≡ lead rows h k) → (S : Copies) (k : Held) → led rows S k ≡ image (λ h k. same_held (f h) k) S k
led_is rows f e S k = sym (image_same (λ h k. same_held (f h) k) (lead rows) S k e ∙ image_rows rows S k)

stay_by : (f : Held → Held) → ((h k : Held) → same_held (f h) k ≡ same_held h k) → (S : Copies) (k : Held) → S k ≡ image (λ h k. same_held (f h) k) S k
stay_by f e S k = sym (image_same (λ h k. same_held (f h) k) same_held S k e ∙ stay_is S k)

pub replied_i : (S : Copies) (k : Held) → led TO_INVALID S k ≡ image (λ h k. same_held (replied SnpRespI h) k) S k
replied_i = led_is TO_INVALID (replied SnpRespI) (each_pair (λ h k. same_held (replied SnpRespI h) k) (lead TO_INVALID) refl)

pub replied_sc : (S : Copies) (k : Held) → led TO_SHARED_CLEAN S k ≡ image (λ h k. same_held (replied SnpRespSC h) k) S k
replied_sc = led_is TO_SHARED_CLEAN (replied SnpRespSC) (each_pair (λ h k. same_held (replied SnpRespSC h) k) (lead TO_SHARED_CLEAN) refl)

pub replied_datai : (S : Copies) (k : Held) → led TO_SHOWN_INVALID S k ≡ image (λ h k. same_held (replied SnpRespDataI h) k) S k
replied_datai = led_is TO_SHOWN_INVALID (replied SnpRespDataI) (each_pair (λ h k. same_held (replied SnpRespDataI h) k) (lead TO_SHOWN_INVALID) refl)

pub replied_datasc : (S : Copies) (k : Held) → led TO_SHOWN_SHARED_CLEAN S k ≡ image (λ h k. same_held (replied SnpRespDataSC h) k) S k
replied_datasc = led_is TO_SHOWN_SHARED_CLEAN (replied SnpRespDataSC) (each_pair (λ h k. same_held (replied SnpRespDataSC h) k) (lead TO_SHOWN_SHARED_CLEAN) refl)

pub replied_datauc : (S : Copies) (k : Held) → led TO_SHOWN_UNIQUE_CLEAN S k ≡ image (λ h k. same_held (replied SnpRespDataUC h) k) S k
replied_datauc = led_is TO_SHOWN_UNIQUE_CLEAN (replied SnpRespDataUC) (each_pair (λ h k. same_held (replied SnpRespDataUC h) k) (lead TO_SHOWN_UNIQUE_CLEAN) refl)

pub replied_dataud : (S : Copies) (k : Held) → led TO_SHOWN_UNIQUE_DIRTY S k ≡ image (λ h k. same_held (replied SnpRespDataUD h) k) S k
replied_dataud = led_is TO_SHOWN_UNIQUE_DIRTY (replied SnpRespDataUD) (each_pair (λ h k. same_held (replied SnpRespDataUD h) k) (lead TO_SHOWN_UNIQUE_DIRTY) refl)

pub replied_datasd : (S : Copies) (k : Held) → led TO_SHOWN_SHARED_DIRTY S k ≡ image (λ h k. same_held (replied SnpRespDataSD h) k) S k
replied_datasd = led_is TO_SHOWN_SHARED_DIRTY (replied SnpRespDataSD) (each_pair (λ h k. same_held (replied SnpRespDataSD h) k) (lead TO_SHOWN_SHARED_DIRTY) refl)

pub replied_dataipd : (S : Copies) (k : Held) → led TO_SHOWN_INVALID S k ≡ image (λ h k. same_held (replied SnpRespDataIPD h) k) S k
replied_dataipd = led_is TO_SHOWN_INVALID (replied SnpRespDataIPD) (each_pair (λ h k. same_held (replied SnpRespDataIPD h) k) (lead TO_SHOWN_INVALID) refl)

pub replied_datascpd : (S : Copies) (k : Held) → led TO_SHOWN_SHARED_CLEAN S k ≡ image (λ h k. same_held (replied SnpRespDataSCPD h) k) S k
replied_datascpd = led_is TO_SHOWN_SHARED_CLEAN (replied SnpRespDataSCPD) (each_pair (λ h k. same_held (replied SnpRespDataSCPD h) k) (lead TO_SHOWN_SHARED_CLEAN) refl)

pub replied_dataucpd : (S : Copies) (k : Held) → led TO_SHOWN_UNIQUE_CLEAN S k ≡ image (λ h k. same_held (replied SnpRespDataUCPD h) k) S k
replied_dataucpd = led_is TO_SHOWN_UNIQUE_CLEAN (replied SnpRespDataUCPD) (each_pair (λ h k. same_held (replied SnpRespDataUCPD h) k) (lead TO_SHOWN_UNIQUE_CLEAN) refl)

pub replied_uc : (S : Copies) (k : Held) → S k ≡ image (λ h k. same_held (replied SnpRespUC h) k) S k
replied_uc = stay_by (replied SnpRespUC) (each_pair (λ h k. same_held (replied SnpRespUC h) k) same_held refl)

pub written_i : (S : Copies) (k : Held) → led TO_INVALID S k ≡ image (λ h k. same_held (written I true h) k) S k
written_i = led_is TO_INVALID (written I true) (each_pair (λ h k. same_held (written I true h) k) (lead TO_INVALID) refl)

pub written_i_kept : (S : Copies) (k : Held) → led TO_INVALID S k ≡ image (λ h k. same_held (written I false h) k) S k
written_i_kept = led_is TO_INVALID (written I false) (each_pair (λ h k. same_held (written I false h) k) (lead TO_INVALID) refl)

pub written_sc : (S : Copies) (k : Held) → led TO_SHOWN_INVALID S k ≡ image (λ h k. same_held (written SC true h) k) S k
written_sc = led_is TO_SHOWN_INVALID (written SC true) (each_pair (λ h k. same_held (written SC true h) k) (lead TO_SHOWN_INVALID) refl)

pub written_sc_kept : (S : Copies) (k : Held) → led TO_SHOWN_SHARED_CLEAN S k ≡ image (λ h k. same_held (written SC false h) k) S k
written_sc_kept = led_is TO_SHOWN_SHARED_CLEAN (written SC false) (each_pair (λ h k. same_held (written SC false h) k) (lead TO_SHOWN_SHARED_CLEAN) refl)

pub written_uc : (S : Copies) (k : Held) → led TO_SHOWN_INVALID S k ≡ image (λ h k. same_held (written UC true h) k) S k
written_uc = led_is TO_SHOWN_INVALID (written UC true) (each_pair (λ h k. same_held (written UC true h) k) (lead TO_SHOWN_INVALID) refl)

pub written_uc_kept : (S : Copies) (k : Held) → led TO_SHOWN_UNIQUE_CLEAN S k ≡ image (λ h k. same_held (written UC false h) k) S k
written_uc_kept = led_is TO_SHOWN_UNIQUE_CLEAN (written UC false) (each_pair (λ h k. same_held (written UC false h) k) (lead TO_SHOWN_UNIQUE_CLEAN) refl)

pub written_ud : (S : Copies) (k : Held) → led TO_SHOWN_INVALID S k ≡ image (λ h k. same_held (written UD true h) k) S k
written_ud = led_is TO_SHOWN_INVALID (written UD true) (each_pair (λ h k. same_held (written UD true h) k) (lead TO_SHOWN_INVALID) refl)

pub written_ud_kept : (S : Copies) (k : Held) → led TO_SHOWN_UNIQUE_CLEAN S k ≡ image (λ h k. same_held (written UD false h) k) S k
written_ud_kept = led_is TO_SHOWN_UNIQUE_CLEAN (written UD false) (each_pair (λ h k. same_held (written UD false h) k) (lead TO_SHOWN_UNIQUE_CLEAN) refl)

pub written_sd : (S : Copies) (k : Held) → led TO_SHOWN_INVALID S k ≡ image (λ h k. same_held (written SD true h) k) S k
written_sd = led_is TO_SHOWN_INVALID (written SD true) (each_pair (λ h k. same_held (written SD true h) k) (lead TO_SHOWN_INVALID) refl)

pub written_sd_kept : (S : Copies) (k : Held) → led TO_SHOWN_SHARED_CLEAN S k ≡ image (λ h k. same_held (written SD false h) k) S k
written_sd_kept = led_is TO_SHOWN_SHARED_CLEAN (written SD false) (each_pair (λ h k. same_held (written SD false h) k) (lead TO_SHOWN_SHARED_CLEAN) refl)

pub written_none : (up : Bool) (S : Copies) (k : Held) → led TO_INVALID S k ≡ image (λ h k. same_held (written I up h) k) S k
written_none true S k = written_i S k
written_none false S k = written_i_kept S k

abbrev whole : Held → Held
whole h = record { copy = Invalid; cancelled = h.cancelled; stored = false }

whole_all : (S : Copies) (k : Held) → led TO_SHOWN_INVALID S k ≡ image (λ h k. same_held (whole h) k) S k
whole_all = led_is TO_SHOWN_INVALID whole (each_pair (λ h k. same_held (whole h) k) (lead TO_SHOWN_INVALID) refl)

other_false : (a b : Bool) → (a && b) ≡ false → a ≡ true → b ≡ false
other_false true b h e = h
other_false false b h e = no e

chosen : (b : Bool) (t k : Held) → leaves (if b then Some t else None) k ≡ (b && same_held t k)
chosen true t k = refl
chosen false t k = refl

chosen_both : (a b : Bool) (t k : Held) → leaves (if a then (if b then Some t else None) else None) k ≡ ((a && b) && same_held t k)
chosen_both true true t k = refl
chosen_both true false t k = refl
chosen_both false b t k = refl

issued_stays : (kind : Kind) (s : Copy) → same_kind Evict kind ≡ false → issued kind s ≡ s
issued_stays Evict s e = no (sym e)
issued_stays ReadNotSharedDirty s e = refl
issued_stays ReadShared s e = refl
issued_stays ReadClean s e = refl
issued_stays ReadOnce s e = refl
issued_stays ReadUnique s e = refl
issued_stays CleanUnique s e = refl
issued_stays MakeUnique s e = refl
issued_stays CleanShared s e = refl
issued_stays CleanInvalid s e = refl
issued_stays MakeInvalid s e = refl
issued_stays WriteBackFull s e = refl
issued_stays WriteCleanFull s e = refl
issued_stays WriteEvictFull s e = refl
issued_stays WriteUniqueFull s e = refl

asked_is : (z : Stores) (kind : Kind) (x : Bool) (d : Due) (h k : Held) → is_idle d ≡ true → same_kind Evict kind ≡ false → h.cancelled ≡ false
    → leaves (acts z (Request kind) true x d h) k ≡ (is_issued_from kind h.copy && same_held h k)
asked_is z kind x Nothing h k i e c = chosen (is_issued_from kind h.copy) (record { copy = issued kind h.copy; cancelled = false; stored = h.stored }) k
    ∙ ap (λ t. is_issued_from kind h.copy && same_held t k) (λ i. record { copy = issued_stays kind h.copy e i; cancelled = sym c i; stored = h.stored })
asked_is z kind x (Completion other) h k i e c = no i
asked_is z kind x (Resending other) h k i e c = no i
asked_is z kind x (SureCompletion other) h k i e c = no i
asked_is z kind x (WriteData other) h k i e c = no i
asked_is z kind x Acknowledgement h k i e c = no i

module _ (z : Stores) (x : Bool) (d : Due) (S F : Copies) (k : Held) where
  abbrev left_of : Act → Bool
  left_of a = image (λ h. leaves (acts z a true x d h)) S k

  abbrev is_from : Act → Type 0
  is_from a = (h : Held) → F h ≡ (S h && sent_from a x d h)

  -- what becomes of the copies that it is sent from
  moved_on : (a : Act) (f : Held → Held) → ((h : Held) → S h ≡ true → leaves (acts z a true x d h) k ≡ (sent_from a x d h && same_held (f h) k)) → is_from a → image (λ h k. same_held (f h) k) F k ≡ left_of a
  moved_on a f r e = image_set (λ h k. same_held (f h) k) F (λ h. S h && sent_from a x d h) k e
      ∙ sym (image_from (sent_from a x d) S (λ h k. same_held (f h) k) k)
      ∙ sym (image_on (λ h. leaves (acts z a true x d h)) (λ h k. sent_from a x d h && same_held (f h) k) S k r)

  pub asked_plain : (kind : Kind) → is_plain (Request kind) d S ≡ true → is_from (Request kind) → F k ≡ left_of (Request kind)
  asked_plain kind e f = sym (stay_is F k) ∙ moved_on (Request kind) (λ h. h)
      (λ h s. asked_is z kind x d h k (left (is_idle d) _ first) (turned (same_kind Evict kind) (right (is_idle d) _ first)) (other_false (S h) h.cancelled (none_held (λ h. S h && h.cancelled) (turned (any_of S (λ h. h.cancelled)) (right (is_idle d && not (same_kind Evict kind)) _ e)) h) s)) f
    where
      first : (is_idle d && not (same_kind Evict kind)) ≡ true
      first = left (is_idle d && not (same_kind Evict kind)) _ e

  pub resent_plain : (kind : Kind) → is_from (Resend kind) → F k ≡ left_of (Resend kind)
  resent_plain kind f = sym (stay_is F k) ∙ moved_on (Resend kind) (λ h. h) (λ h s. chosen (is_resent kind d && not h.cancelled) h k) f

  pub acknowledged_plain : is_from CompAck → F k ≡ left_of CompAck
  acknowledged_plain f = sym (stay_is F k) ∙ moved_on CompAck (λ h. h) (λ h s. chosen (is_acknowledging d) h k) f

  pub replied_plain : (answer : Answer) → is_from (SnpResp answer) → image (λ h k. same_held (replied answer h) k) F k ≡ left_of (SnpResp answer)
  replied_plain answer f = moved_on (SnpResp answer) (replied answer) (λ h s. chosen (sent_from (SnpResp answer) x d h) (replied answer h) k) f

  pub written_plain : (form : State) → is_from (CopyBackWrData form) → image (λ h k. same_held (written form (is_due_data gives_up d) h) k) F k ≡ left_of (CopyBackWrData form)
  written_plain form f = moved_on (CopyBackWrData form) (written form (is_due_data gives_up d)) (λ h s. chosen_both (is_due_data is_copy_back d) (is_written_from form h.copy) (written form (is_due_data gives_up d) h) k) f

  pub whole_plain : is_from NonCopyBackWrData → led TO_SHOWN_INVALID F k ≡ left_of NonCopyBackWrData
  whole_plain f = whole_all F k ∙ moved_on NonCopyBackWrData whole (λ h s. chosen_both (is_due_data is_whole_write d) (same h.copy Writing) (whole h) k) f

  pub never_plain : (a : Act) → is_plain a d S ≡ false → is_plain a d S ≡ true → F k ≡ left_of a
  never_plain a h e = no (sym h ∙ e)

-- WORDS
fits_which : (holds stored hide home news : Bool) → not ((not home && (holds && not stored)) || (not news && (not hide && (stored && holds)))) ≡ (if holds && not stored then home else (if (stored && holds) && not hide then news else true))
fits_which true true true true true = refl
fits_which true true true true false = refl
fits_which true true true false true = refl
fits_which true true true false false = refl
fits_which true true false true true = refl
fits_which true true false true false = refl
fits_which true true false false true = refl
fits_which true true false false false = refl
fits_which true false hide true true = refl
fits_which true false true true false = refl
fits_which true false false true false = refl
fits_which true false hide false news = refl
fits_which false true hide true true = refl
fits_which false true true true false = refl
fits_which false true false true false = refl
fits_which false true true false true = refl
fits_which false true true false false = refl
fits_which false true false false true = refl
fits_which false true false false false = refl
fits_which false false hide true true = refl
fits_which false false true true false = refl
fits_which false false false true false = refl
fits_which false false true false true = refl
fits_which false false true false false = refl
fits_which false false false false true = refl
fits_which false false false false false = refl

fresh_is : (h : Held) → members FRESH h ≡ is_fresh h
fresh_is h = each_is (members FRESH) is_fresh refl h

newer_is : (h : Held) → members NEWER h ≡ is_newer h
newer_is h = each_is (members NEWER) is_newer refl h

pub fitting_is : (z : Stores) (d : Due) (home news : Bool) (h : Held) → not ((not home && members FRESH h) || (not news && (not (may_hide z d h) && members NEWER h))) ≡ fitting z d home news h
fitting_is z d home news h = (λ i. not ((not home && fresh_is h i) || (not news && (not (may_hide z d h) && newer_is h i)))) ∙ fits_which (holds_data h.copy) h.stored (may_hide z d h) home news
