-- A flit of the home, in a log that is taken there.
use Rattle.std.proofs.Common.{◌≡◌, refl, sym, ap, ◌∙◌}
use Rattle.std.specs.Prelude.{Bool, true, false, ◌&&◌, ◌||◌, if◌then◌else◌, not}
use Rattle.std.proofs.Math.Path.{fun_ext}
use Rattle.chi_observer.specs.declared.flits.Due.{Due}
use Rattle.chi_observer.specs.declared.flits.Grant.{Grant}
use Rattle.chi_observer.specs.Rules.{makes, settles}
use Rattle.chi_copies.specs.declared.moves.Move.TheVariants.{Gains, Beholds}
use Rattle.chi_copies.specs.declared.replies.Asked.{Asked}
use Rattle.chi_copies.specs.Copies.{same_held, Held}
use Rattle.chi_observer.specs.Copies.{same}
use Rattle.chi_observer.specs.Copies.Copy.{Invalid}
use Rattle.chi_copies.specs.declared.copies.Copies.{Copies as CopiesCode}
use Rattle.chi_copies.specs.declared.side_tests.ReplyTest.TheVariants.{Any, Comes}
use Rattle.chi_copies.specs.Sets.{members}
use Rattle.chi_copies.specs.Arriving.{Members, Member, beheld, comes, gained, is_completion, is_gone, may_write, replaced, cleared, same_flit, same_member, same_option, any_of, any_member}
use Rattle.chi_copies.specs.ArrivingLines.{member_moves, same_sent, side, member_passes, reply_passes}
use Rattle.chi_copies.proofs.ArrivingReceived.{pull}

pub gains_are : (g : Grant) (d : Due) (a : Asked) → member_moves (Gains g d) a ≡ (λ m k. same_member (gained g d m) k)
gains_are g d a = fun_ext (λ m. fun_ext (λ k. sym (pull (same_held (gained g d m).held k.held) (same_option same_flit m.request k.request) (same_sent (gained g d m).reply k.reply))))

-- another agent's
or_no : (b : Bool) → (b && false) ≡ false
or_no true = refl
or_no false = refl

spread : (q hA sA c w l hB sB : Bool) → ((hA && (q && sA)) || (c && (w && (l && (hB && (q && sB)))))) ≡ (q && ((hA && sA) || (c && (w && (l && (hB && sB))))))
spread true hA sA c w l hB sB = refl
spread false hA sA c w l hB sB = simp or_no

beholds_at : (m k : Member) (g : Grant) (d : Due) (b c : Bool) → (if b then same_member (replaced m) k else (if c then same_member (cleared m) k
    else same_member m k || (is_completion g && (may_write d && (comes m && same_member (replaced m) k)))))
    ≡ (same_option same_flit m.request k.request && (if b then same_member (replaced (side m.held m.reply)) (side k.held k.reply) else (if c then same_member (cleared (side m.held m.reply)) (side k.held k.reply)
    else same_member (side m.held m.reply) (side k.held k.reply) || (is_completion g && (may_write d && (comes m && same_member (replaced (side m.held m.reply)) (side k.held k.reply)))))))
beholds_at m k g d true c = pull (same_held (replaced m).held k.held) (same_option same_flit m.request k.request) (same_sent (replaced m).reply k.reply)
beholds_at m k g d false true = pull (same_held (cleared m).held k.held) (same_option same_flit m.request k.request) (same_sent (cleared m).reply k.reply)
beholds_at m k g d false false = spread (same_option same_flit m.request k.request) (same_held m.held k.held) (same_sent m.reply k.reply) (is_completion g) (may_write d) (comes m) (same_held (replaced m).held k.held) (same_sent (replaced m).reply k.reply)

pub beholds_are : (g : Grant) (d : Due) (a : Asked) → member_moves (Beholds g d) a ≡ beheld g d
beholds_are g d a = fun_ext (λ m. fun_ext (λ k. sym (beholds_at m k g d (makes g d) (settles g d && is_gone m))))

-- WHAT IS ASKED of all agents
and_true : (b : Bool) → (b && true) ≡ b
and_true true = refl
and_true false = refl

pub left_are : (S : Members) (of : CopiesCode) → ((h : Held) → members of h ≡ not (same h.copy Invalid)) → any_of S (member_passes Any of) ≡ any_of S (λ k. not (same k.held.copy Invalid))
left_are S of left = ap any_member (fun_ext (λ m. ap (λ b. S m && b) (left m.held)))

pub comes_are : (S : Members) (of : CopiesCode) → ((h : Held) → members of h ≡ true) → any_of S (member_passes Comes of) ≡ any_of S comes
comes_are S of all = ap any_member (fun_ext (λ m. ap (λ b. S m && (reply_passes Comes m.reply && b)) (all m.held) ∙ ap (λ b. S m && b) (and_true (reply_passes Comes m.reply))))
