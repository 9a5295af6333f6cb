-- A line of the code whose trace begins in the middle, as what is kept of it (docs/COPIES.md, "A trace that begins in the middle").
use Rattle.std.specs.Prelude.{ℕ, Bool, true, false, ◌&&◌, ◌||◌, ◌==◌, not, List, Option, if◌then◌else◌}
use Rattle.std.specs.List.{slice_index_or}
use Rattle.chi_observer.specs.declared.flits.CacheFlit.{CacheFlit}
use Rattle.chi_observer.specs.declared.flits.HomeFlit.{HomeFlit}
use Rattle.chi_observer.specs.declared.flits.Due.{Due}
use Rattle.chi_observer.specs.declared.kinds.Snoop.{Snoop}
use Rattle.chi_observer.specs.Copies.{is_dirty, same}
use Rattle.chi_observer.specs.Copies.Copy.{Invalid}
use Rattle.chi_observer.specs.Rules.{allows, awaits_moment, lets_go, reads_once}
use Rattle.chi_copies.specs.declared.begun.Begun.{Begun as BegunCode}
use Rattle.chi_copies.specs.declared.copies.Copies.{Copies as CopiesCode}
use Rattle.chi_copies.specs.declared.dues.DueCode.{DueCode}
use Rattle.chi_copies.specs.declared.sends.Sent.{Sent}
use Rattle.chi_copies.specs.Copies.{Copies, any_held}
use Rattle.chi_copies.specs.Dues.{due_is}
use Rattle.chi_copies.specs.Sets.{members}
use Rattle.chi_copies.specs.Worlds.{all_below, is_placed}
use Rattle.chi_copies.specs.Observed.{fits_home, home_at, no_words}
use Rattle.chi_copies.specs.Rules.{fills}
use Rattle.chi_copies.specs.Lines.{fits_by, issues, snooped_at}
use Rattle.chi_copies.specs.Begun.{Begun, Behind, apart_from, apart_given, counts, due_in, is_shown, may_be_moment, others_begun, sent_begun, stand_beside}

-- WHAT IS READ of each agent; past the last one what nobody knows, and no copy
abbrev pub no_copies : CopiesCode
no_copies = record { bits = 0 }

abbrev pub copies_at : List CopiesCode → ℕ → CopiesCode
copies_at may n = slice_index_or may n no_copies

abbrev pub sets_of : List CopiesCode → ℕ → Copies
sets_of may n = members (copies_at may n)

abbrev pub left_over_code : DueCode
left_over_code = record { 0 = 25 }

abbrev pub code_at : List DueCode → ℕ → DueCode
code_at due n = slice_index_or due n left_over_code

abbrev pub dues_of : List DueCode → ℕ → Due
dues_of due n = due_is (code_at due n)

abbrev pub snoops_of : List (Option Snoop) → ℕ → Option Snoop
snoops_of snooped n = snooped_at snooped n

abbrev pub sure_of : List Bool → ℕ → Bool
sure_of sure n = slice_index_or sure n false

abbrev pub flags_of : List Bool → ℕ → Bool
flags_of flags n = slice_index_or flags n true

-- A LINE
abbrev pub begun : BegunCode → Begun
begun s = record {
  seen = record {
    public = record { stores = s.stores; due = dues_of s.due; snooped = snoops_of s.snooped; duty = s.duty };
    may = sets_of s.may;
    home = s.home;
    news = no_words;
  };
  sure = sure_of s.sure;
  asked = flags_of s.asked;
  snooped = flags_of s.left;
  shown = flags_of s.shown;
}

-- right behind a flit
abbrev pub behind_of : BegunCode → Behind
behind_of s = record {
  public = record { stores = s.stores; due = dues_of s.due; snooped = snoops_of s.snooped; duty = s.duty };
  may = sets_of s.may;
  sure = sure_of s.sure;
  asked = flags_of s.asked;
  snooped = flags_of s.left;
  home = s.home;
}

-- whether there may have been the moment that agent k's request needs, right behind a flit of n; issuer: of the agent whose request it is
abbrev pub shown_beside : Behind → ℕ → Option ℕ → Bool → ℕ → Bool
shown_beside s n issuer shown k = s.asked k || (awaits_moment (s.public.due k) && ((not (issues issuer k) && shown) || may_be_moment s n k))

-- A FLIT OF A CACHE, beside what is kept, of a copy whose words would be these
abbrev pub sent_with : Begun → CacheFlit → Option (List ℕ) → Sent
sent_with b f words = record { stores = b.seen.public.stores; act = f.act; goes = lets_go (b.seen.public.snooped f.agent.0); due = due_in b f; home = fits_by f (home_at words); news = fits_by f no_words }

-- some copy sends it
abbrev pub may_send : Begun → CacheFlit → Bool
may_send b f = allows f.act (b.seen.public.snooped f.agent.0) && (is_placed f.act && any_held (sent_begun b f))

-- no other agent has such a copy
abbrev pub stands : ℕ → Copies → (ℕ → Bool) → (ℕ → Copies) → Bool
stands n A sure may = all_below 32 (λ m. m == n || not (counts (sure m) (may m) A))

-- the words of a flit of the home are the home's own, it fills no copy of an agent that threw the value away, and it leaves all in order
abbrev pub keeps_order_begun : Begun → HomeFlit → Bool
keeps_order_begun b g = (not (is_shown b g) || fits_home b.seen.home g.shown) && (not (counts (b.sure g.agent.0) (b.seen.may g.agent.0) (λ h. fills g.grant h && h.stored))
    && stand_beside g.agent.0 (apart_given b g) b (others_begun b g))

-- what another agent can't have beside such copies, or not at all
abbrev pub apart_beside : Bool → Copies → Bool → Copies
apart_beside sure S alone k = apart_from sure S k || (alone && not (same k.copy Invalid))

-- MOMENTS, right behind a flit
abbrev pub none_stored_in : (ℕ → Bool) → (ℕ → Copies) → Bool
none_stored_in sure may = all_below 32 (λ m. not (counts (sure m) (may m) (λ h. h.stored)))

abbrev pub clean_in : Bool → Copies → ℕ → ℕ → Bool
clean_in sure S m k = (m == k || not (counts sure S (λ h. is_dirty h.copy))) && not (counts sure S (λ h. h.stored && not (is_dirty h.copy)))

abbrev pub none_dirty_in : (ℕ → Bool) → (ℕ → Copies) → ℕ → Bool
none_dirty_in sure may k = all_below 32 (λ m. clean_in (sure m) (may m) m k)

abbrev pub moment_in : Due → (ℕ → Bool) → (ℕ → Copies) → ℕ → Bool
moment_in due sure may k = if reads_once due then none_stored_in sure may else none_dirty_in sure may k

abbrev pub shown_in : Bool → Due → Bool → Option ℕ → (ℕ → Bool) → (ℕ → Copies) → ℕ → Bool
shown_in asked due shown issuer sure may k = asked || (awaits_moment due && ((not (issues issuer k) && shown) || moment_in due sure may k))
