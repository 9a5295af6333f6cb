-- What a node keeps, in its opening state and as one slice and one requester change.
use Rattle.std.proofs.Common.{◌≡◌, ℕ, zero, suc, ◌+◌, ◌<◌, ◌≤◌, List, All, true, get_or, length, refl, sym, ◌∙◌, ap, subst, arith, ⊎_elim, get_or-set_other}
use Rattle.std.proofs.Math.ListN.{set, length-set}
use Rattle.std.proofs.lemmas.Bool.{cases_eq, ltb-true}
use Rattle.std.proofs.lemmas.Grind.{get_or-set_at}
use Rattle.std.proofs.lemmas.List.{get_or_default}
use Rattle.std.proofs.lemmas.List.FromFn.{get_or-map-range_with_len, length-map-range_with_len}
use Rattle.std.proofs.lemmas.List.Elements.{All-set}
use Rattle.atomic_table.specs.Seated.{TableId}
use Rattle.chi_tracker.specs.declared.shape.Shape.{Shape}
use Rattle.chi_tracker.specs.Shape.{size}
use Rattle.chi_tracker.specs.Steps.{no_shape}
use Rattle.chi_tracker.specs.Views.{new_port, new_ports}
use Rattle.chi_tracker.specs.Calls.{TrackerState, shape_of}
use Rattle.chi_slice.specs.Words.{are_in_limits, Sizes}
use Rattle.chi_slice.specs.Slice.{SliceState, opening_slice}
use Rattle.chi_slice.proofs.Rows.{InLimits, in_limits}
use Rattle.chi_node.specs.Agree.{Agree, AllAgree, KeepsAgreement}
use Rattle.chi_node.specs.Calls.{IsSameRequester, IsSameSlice}
use Rattle.chi_node.specs.Parts.{AgreeAtOpening, is_of_profile, opening_requesters, opening_slices}
use Rattle.chi_node.specs.Requester.{RequesterState, no_requester, opening_requester, IsRunning}
use Rattle.chi_node.proofs.Openings.{all_types, opening_shaped}
use Rattle.chi_node.specs.Home.{HomeState, IsHome, index_of, opening_home, slice_of, with_slice}
use Rattle.chi_node.specs.System.{IsSystemOf, IsSystem, SystemState, opening_system, requester_of}
use Rattle.chi_node.proofs.Homes.{is_low, opening_at, opening_is_home, sizes_at, still_home}

requester_at : (table : TableId) (shape : Shape) (n i : ℕ) (d : RequesterState) → i < n → get_or (opening_requesters table shape n) i d ≡ opening_requester table shape i
requester_at table shape n i d low = get_or-map-range_with_len (opening_requester table shape) 0 n i i d low (omega arith)

pub agree_at : (s s' : SliceState) (r r' : RequesterState) → s ≡ s' → r ≡ r' → Agree s' r' → Agree s r
agree_at s s' r r' same_slice same a = subst (λ (t : SliceState). Agree t r) (sym same_slice) (subst (λ (q : RequesterState). Agree s' q) (sym same) a)

-- a new tracker's history is empty, and leaves each port new
new_port_at : (shape : Shape) (first n i : ℕ) → i < n → get_or (new_ports shape first n) i (new_port no_shape 0) ≡ new_port shape (first + i)
new_port_at shape first zero i low = absurd (omega (arith, low))
new_port_at shape first (suc n) zero low = ap (new_port shape) (omega arith)
new_port_at shape first (suc n) (suc i) low = new_port_at shape (first + 1) n i (omega (arith, low)) ∙ ap (new_port shape) (omega arith)

opening_running : (config : Sizes) (table : TableId) (i : ℕ) → are_in_limits config ≡ true → i < config.agents → IsRunning (opening_requester table (shape_of config.entries config.agents) i)
opening_running config table i limits low = record {
  legal = opening_shaped config limits;
  who = low;
  is = new_port_at (shape_of config.entries config.agents) 0 config.agents i low ∙ ap (new_port (shape_of config.entries config.agents)) (omega arith);
}

pub opening_is_system : (config : Sizes) (tracker : TrackerState) → are_in_limits config ≡ true → AgreeAtOpening config tracker.table tracker.shape → tracker.shape ≡ shape_of config.entries config.agents → IsSystemOf tracker (opening_system config tracker.table)
opening_is_system config tracker limits agreed is =
    let table = tracker.table in
    let shape = shape_of config.entries config.agents in
    let all : AgreeAtOpening config table shape = subst (λ (z : Shape). AgreeAtOpening config tracker.table z) is agreed in
    let home : IsHome (opening_home config) = opening_is_home config limits in
    let count = length-map-range_with_len (opening_requester table shape) 0 config.agents in
    let own : (i : ℕ) (d : RequesterState) → i < length (opening_requesters table shape config.agents) → get_or (opening_requesters table shape config.agents) i d ≡ opening_requester table shape i = λ i d low. requester_at table shape config.agents i d (subst (λ m. i < m) count low) in
    record {
      system = record {
        home = home;
        count = count;
        numbers = λ n low. ap (λ (r : RequesterState). r.number) (requester_at table shape config.agents n no_requester low);
        shapes = λ i d low. ap (λ (r : RequesterState). r.port.shape) (own i d low);
        agree = λ j d inside. λ m e low.
            let here = subst (λ k. j < k) home.count inside in
            agree_at _ _ _ _ (opening_at config config.slices j d here) (own m e low) (all.agree j m here (subst (λ k. m < k) count low));
        running = λ i d low. subst IsRunning (sym (own i d low)) (opening_running config table i limits (subst (λ k. i < k) count low));
      };
      tables = λ i d low. ap (λ (r : RequesterState). r.table) (own i d low);
      shape = is;
    }

-- an agent of the node has a requester, one of eight
pub has_requester : (y : SystemState) (n : ℕ) → IsSystem y → n < y.home.config.agents → n < length y.requesters
has_requester y n k low = subst (λ m. n < m) (sym k.count) low

-- the tracker has entries of each type of the profile
pub have_types : (y : SystemState) → IsSystem y → All (λ (r : RequesterState). (t : ℕ) → t < 4 → is_of_profile y.home.config.profile t ≡ true → 0 < size r.port.shape t) y.requesters
have_types y k = λ n d inside. λ t low of_profile.
    let shape = (get_or y.requesters n d).port.shape in
    ltb-true 0 (size shape t) (all_types y.home.config shape k.home.limits (k.shapes n d inside) t low ∙ of_profile)

low_number : (y : SystemState) (m : ℕ) (d : RequesterState) → IsSystem y → m < length y.requesters → (get_or y.requesters m d).number ≡ m
low_number y m d k low = ap (λ (r : RequesterState). r.number) (get_or_default y.requesters m d no_requester low) ∙ k.numbers m (subst (λ n. m < n) k.count low)

few_requesters : (y : SystemState) → IsSystem y → length y.requesters ≤ 8
few_requesters y k = let l : InLimits y.home.config = in_limits y.home.config k.home.limits in omega (arith, k.count, l.agents)

-- one requester is another one that keeps its number and its tracker
pub renewed : (tracker : TrackerState) (y : SystemState) (h : HomeState) (n : ℕ) (r : RequesterState) → IsSystemOf tracker y → n < y.home.config.agents → IsHome h → h.config ≡ y.home.config → IsSameRequester (requester_of y n) r → IsRunning r → AllAgree h.slices (set y.requesters n r)
    → IsSystemOf tracker (record { home = h; requesters = set y.requesters n r })
renewed tracker y h n r own near home config same running all =
    let k : IsSystem y = own.system in
    let low = has_requester y n k near in
    record {
      system = record {
        home = home;
        count = length-set y.requesters n r ∙ (k.count ∙ ap (λ (c : Sizes). c.agents) (sym config));
        numbers = λ m inside. ⊎_elim
            (λ (e : m ≡ n). ap (λ (q : RequesterState). q.number) (get_or-set_at y.requesters n m r no_requester e low) ∙ (same.number ∙ (k.numbers n near ∙ sym e)))
            (λ apart. ap (λ (q : RequesterState). q.number) (get_or-set_other y.requesters n m r no_requester apart) ∙ k.numbers m (subst (λ (c : Sizes). m < c.agents) config inside))
            (cases_eq m n);
        shapes = subst (λ (c : Sizes). All (λ (q : RequesterState). q.port.shape ≡ shape_of c.entries c.agents) (set y.requesters n r)) (sym config)
            (All-set (λ (q : RequesterState). q.port.shape ≡ shape_of y.home.config.entries y.home.config.agents) y.requesters n r (same.shape ∙ k.shapes n no_requester low) k.shapes);
        agree = all;
        running = All-set IsRunning y.requesters n r running k.running;
      };
      tables = All-set (λ (q : RequesterState). q.table ≡ tracker.table) y.requesters n r (same.table ∙ own.tables n no_requester low) own.tables;
      shape = own.shape ∙ ap (λ (c : Sizes). shape_of c.entries c.agents) (sym config);
    }

index_of_place : (y : SystemState) (j : ℕ) (d : SliceState) → IsSystem y → j < length y.home.slices → (get_or y.home.slices j d).index ≡ j
index_of_place y j d k low = ap (λ (s : SliceState). s.index) (get_or_default y.home.slices j d (opening_slice y.home.config 0) low) ∙ k.home.indexes j (subst (λ (z : ℕ). j < z) k.home.count low)

-- agreement after a call on the slice of a line
visit_agrees : (y : SystemState) (n l : ℕ) (s : SliceState) (r : RequesterState) → IsSystem y → n < y.home.config.agents → IsSameSlice (slice_of y.home l) s → KeepsAgreement (slice_of y.home l) s (requester_of y n) r → AllAgree (with_slice y.home l s).slices (set y.requesters n r)
visit_agrees y n l s r k near same keeps = λ j d inside. λ m e within.
    let slices = y.home.slices in let rs = y.requesters in let i = index_of y.home l in
    let d0 = opening_slice y.home.config 0 in
    let low = has_requester y n k near in
    let here = is_low y.home l k.home in
    let there : j < length slices = subst (λ (z : ℕ). j < z) (length-set slices i s) inside in
    let who : m < length rs = subst (λ (z : ℕ). m < z) (length-set rs n r) within in
    ⊎_elim
    (λ (is : j ≡ i). ⊎_elim
    (λ (own : m ≡ n). agree_at _ _ _ _ (get_or-set_at slices i j s d is here) (get_or-set_at rs n m r e own low) (keeps.own (k.agree i d0 here n no_requester low)))
    (λ apart. agree_at _ _ _ _ (get_or-set_at slices i j s d is here) (get_or-set_other rs n m r e apart)
    (keeps.others (get_or rs m e) (omega (arith, low_number y m e k who, who, few_requesters y k)) (λ same_number. apart (sym (low_number y m e k who) ∙ (same_number ∙ k.numbers n near))) (k.agree i d0 here m e who)))
    (cases_eq m n))
    (λ away. ⊎_elim
    (λ (own : m ≡ n). agree_at _ _ _ _ (get_or-set_other slices i j s d away) (get_or-set_at rs n m r e own low)
    (keeps.elsewhere (get_or slices j d) (k.home.sizes j d there ∙ sym (sizes_at y.home l k.home)) (λ same_index. away (sym (index_of_place y j d k there) ∙ (same_index ∙ k.home.indexes i (subst (λ (z : ℕ). i < z) k.home.count here)))) (k.agree j d there n no_requester low)))
    (λ apart. agree_at _ _ _ _ (get_or-set_other slices i j s d away) (get_or-set_other rs n m r e apart) (k.agree j d there m e who))
    (cases_eq m n))
    (cases_eq j i)

-- a call on the slice of a line
pub visited : (tracker : TrackerState) (y : SystemState) (n l : ℕ) (s : SliceState) (r : RequesterState) → IsSystemOf tracker y → n < y.home.config.agents → IsSameSlice (slice_of y.home l) s → IsSameRequester (requester_of y n) r → KeepsAgreement (slice_of y.home l) s (requester_of y n) r
    → (IsRunning (requester_of y n) → IsRunning r) → IsSystemOf tracker (record { home = with_slice y.home l s; requesters = set y.requesters n r })
visited tracker y n l s r own near same_slice same keeps running = renewed tracker y (with_slice y.home l s) n r own near (still_home y.home l s own.system.home same_slice) refl same (running (own.system.running n no_requester (has_requester y n own.system near))) (visit_agrees y n l s r own.system near same_slice keeps)

-- what was made of the parts of a node
pub made_system : (config : Sizes) (tracker : TrackerState) (ss : List SliceState) (rs : List RequesterState) → are_in_limits config ≡ true → AgreeAtOpening config tracker.table tracker.shape → tracker.shape ≡ shape_of config.entries config.agents → ss ≡ opening_slices config config.slices
    → rs ≡ opening_requesters tracker.table tracker.shape config.agents → IsSystemOf tracker (record { home = record { config = config; slices = ss }; requesters = rs })
made_system config tracker ss rs limits all is slices requesters =
    let opened = opening_is_system config tracker limits all is in
    let same : rs ≡ opening_requesters tracker.table (shape_of config.entries config.agents) config.agents = requesters ∙ ap (λ (z : Shape). opening_requesters tracker.table z config.agents) is in
    subst (λ (xs : List SliceState). IsSystemOf tracker (record { home = record { config = config; slices = xs }; requesters = rs })) (sym slices)
    (subst (λ (qs : List RequesterState). IsSystemOf tracker (record { home = opening_home config; requesters = qs })) (sym same) opened)
