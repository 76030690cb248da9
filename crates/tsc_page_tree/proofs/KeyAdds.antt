-- A value that is added at a single key, below the lazy value and among subtrees.
use Rattle.std.proofs.Common.{◌≡◌, ◌∙◌, refl, sym, ap, subst, true, ℕ, zero, suc, ◌+◌, ◌<◌, ◌≤◌, List, [], ◌∷◌, length, map, drop, get_or, set, arith}
use Rattle.std.specs.Prelude.{Option, Some, None, Result, Ok, Err}
use Rattle.std.specs.List.{insert}
use Rattle.std.proofs.Common.{inl}
use mathlib.Core.Bool.{true≢false}
use Rattle.std.specs.Result.{IsErr}
use Rattle.std.proofs.lemmas.List.{length-map}
use Rattle.tsc_time.specs.Time.{zero_time}
use Rattle.tsc_time.specs.ValueView.{ValueView, unowned}
use Rattle.tsc_time.specs.Joint.{joint}
use Rattle.tsc_span.specs.Span.{KeyBytes, Cut, before, after, last, point, is_below}
use Rattle.tsc_page_nodes.proofs.Cuts.{raise_nodes-start}
use Rattle.tsc_span.specs.Prefixes.{IsCutPrefix}
use Rattle.tsc_page_nodes.specs.declared.nodes.Growth.{Growth}
use Rattle.tsc_page_nodes.specs.Nodes.{Node, IsSorted, FitsAt, IsNewKey, AddsNodes, with_new, node_in_gap, gap_value, raise_nodes, nodes_cost}
use Rattle.tsc_page_nodes.specs.KeyAdds.{KeyInsertionView, IsKeyReported}
use Rattle.tsc_page_tree.specs.Leaves.{nodes_of, AreSome, start_of, IsLeafAt}
use Rattle.tsc_page_tree.specs.Lazy.{everything, with_lazy, IsReportedOf, sizes_of, IsAddReported, joint_after}
use Rattle.tsc_page_tree.specs.KeyAdds.{at_key, AddsKey, IsKeyAddReported}
use Rattle.tsc_span.proofs.CutOrder.{Lt, Le, Lt-not_Le, Le-chain, Le_Lt-chain, Le-from_Lt, before-after}
use Rattle.tsc_page_nodes.proofs.Costs.{cost-raised}
use Rattle.tsc_page_nodes.proofs.NewKeys.{with_new_splits}
use Rattle.tsc_page_tree.proofs.LeafKeys.{wholly_below}
use Rattle.tsc_page_tree.proofs.LeafAdds.{same_some, start_with}
use Rattle.tsc_page_tree.proofs.LeafLists.{starts_rise, start_at, ends_high, subtree_read}
use Rattle.tsc_page_tree.proofs.Lazy.{raised_node, raise_all, raise_lazy, lazy-start, lazy-length, lazy-is_in, sorted_without}
use Rattle.tsc_page_tree.proofs.AllJoint.{all_joint_added}
use Rattle.tsc_page_tree.proofs.SubtreeAdds.{reported_in_subtree}

-- a raised list has the gap before a place raised, where there is one
gap_raised_at : (v w u : ValueView) (ns : List Node) (i : ℕ) → 1 ≤ i → i ≤ length ns →
    gap_value u (map (raised_node v) ns) i ≡ joint (gap_value w ns i) (v ∷ [])
gap_raised_at v w u ns zero some within = absurd (omega (arith, some))
gap_raised_at v w u [] (suc i) some within = absurd (omega (arith, within))
gap_raised_at v w u (n ∷ ns) (suc zero) some within = refl
gap_raised_at v w u (n ∷ ns) (suc (suc i)) some within =
    gap_raised_at v n.gap (joint n.gap (v ∷ [])) ns (suc i) (omega arith) (omega (arith, within))

-- and a node that comes in is raised with the others
insert_raised : (v : ValueView) (x : Node) (ns : List Node) (i : ℕ) → i ≤ length ns →
    map (raised_node v) (insert ns i x) ≡ insert (map (raised_node v) ns) i (raised_node v x)
insert_raised v x ns zero within = refl
insert_raised v x [] (suc i) within = absurd (omega (arith, within))
insert_raised v x (n ∷ ns) (suc i) within =
    ap (λ (ms : List Node). raised_node v n ∷ ms) (insert_raised v x ns i (omega (arith, within)))

-- a key fits where it did
fits_raised : (k : KeyBytes) (v : ValueView) (low : Cut) (ns : List Node) (i : ℕ) →
    FitsAt k low ns i → FitsAt k low (raise_nodes everything v ns) i
fits_raised k v low ns zero fits =
    (fits.0, subst (Lt (after k)) (sym (raise_nodes-start everything v ns)) fits.1)
fits_raised k v low [] (suc i) fits = absurd fits
fits_raised k v low (n ∷ ns) (suc i) fits = fits_raised k v (after n.key) ns i fits

-- a new key that isn't below nodes falls behind the first of them
falls_behind : (k : KeyBytes) (ns : List Node) (i : ℕ) → Le (start_of ns) (before k) →
    FitsAt k (before []) ns i → 1 ≤ i
falls_behind k ns zero low fits = absurd
    (Lt-not_Le (after k) (start_of ns) fits.1
    (Le-chain (start_of ns) (before k) (after k) low
    (Le-from_Lt (before k) (after k) (before-after k))))
falls_behind k ns (suc i) low fits = omega arith

-- such a key is as new below the lazy value, and its node has that too
pub new_lazy : (p : Option ValueView) (ns : List Node) (k : KeyBytes) (g : Option (ℕ × KeyBytes)) →
    IsSorted ns → Le (start_of ns) (before k) → IsNewKey ns (Some k) g
    → IsNewKey (with_lazy p ns) (Some k) g ×
    (with_lazy p (with_new ns g) ≡ with_new (with_lazy p ns) g)
new_lazy None ns k g sorted low new = (new, refl)
new_lazy (Some v) ns k None sorted low new = (lazy-is_in (Some v) k ns ∙ new, refl)
new_lazy (Some v) ns k (Some f) sorted low new =
    let i : ℕ = f.0 in
    let w : ValueView = gap_value (unowned zero_time) ns i in
    let x : Node = node_in_gap f.1 w in
    let some : 1 ≤ i = falls_behind k ns i low new.1 in
    let all : raise_nodes everything v ns ≡ map (raised_node v) ns = raise_all v ns sorted in
    let mid : IsSorted (insert ns i x) =
    (with_new_splits ns (Some k) (Some f) sorted new).sorted in (
      (
        new.0,
        fits_raised k v (before []) ns i new.1,
        omega (arith, new.2, lazy-length (Some v) ns),
      ),
      raise_all v (insert ns i x) mid ∙ insert_raised v x ns i new.2
          ∙ ap (λ (u : ValueView). insert (map (raised_node v) ns) i (node_in_gap f.1 u))
          (sym (gap_raised_at v (unowned zero_time) (unowned zero_time) ns i some new.2))
          ∙ ap (λ (ms : List Node). insert ms i
          (node_in_gap f.1 (gap_value (unowned zero_time) ms i))) (sym all),
    )

-- the lazy value changes no costs
pub lazy_cost : (p : Option ValueView) (ns : List Node) →
    nodes_cost (with_lazy p ns) ≡ nodes_cost ns
lazy_cost None ns = refl
lazy_cost (Some v) ns = cost-raised everything v ns

-- What is made of nodes at a key is made of them below the lazy value.
nodes_lazy : (p : Option ValueView) (old new : List Node) (k : KeyBytes) (v : ValueView) →
    IsSorted old → Le (start_of old) (before k) → AddsNodes old new (Some k) None (point k) v →
    AddsNodes (with_lazy p old) (with_lazy p new) (Some k) None (point k) v
nodes_lazy p old new k v sorted low adds =
    by adds.made.upper adds.made.has_upper adds.made.has_lower adds.made.nodes
  where
    by : (u : Option (ℕ × KeyBytes)) → IsNewKey old None u → IsNewKey old (Some k) adds.made.lower →
        adds.mid ≡ with_new (with_new old u) adds.made.lower →
        AddsNodes (with_lazy p old) (with_lazy p new) (Some k) None (point k) v
    by (Some f) none lower nodes = absurd none
    by None none lower nodes =
        let below = new_lazy p old k adds.made.lower sorted low lower in
        record {
          mid = with_lazy p adds.mid;
          made = record {
            lower = adds.made.lower;
            upper = None;
            has_upper = tt;
            has_lower = below.0;
            nodes = ap (with_lazy p) nodes ∙ below.1;
          };
          raised = ap (with_lazy p) adds.raised ∙ raise_lazy p (point k) v adds.mid;
        }

pub adds_lazy : (p : Option ValueView) (old new : List Node) (a : KeyInsertionView) (room : ℕ)
    (more : Growth) → IsSorted old → AddsKey old new a room more →
    AddsKey (with_lazy p old) (with_lazy p new) a room more
adds_lazy p old new a room more sorted adds = record {
  low = subst (λ (c : Cut). Le c (before a.key)) (sym (lazy-start p old)) adds.low;
  some = record {
    adds = nodes_lazy p old new a.key a.value sorted adds.low adds.some.adds;
    grown = record {
      count = omega (arith, lazy-length p old, lazy-length p new, adds.some.grown.count);
      cost = omega (arith, lazy_cost p old, lazy_cost p new, adds.some.grown.cost);
    };
    within = adds.some.within;
  };
}

pub reported_lazy : {E : Type 0} (p : Option ValueView) (old new : List Node) (was now : List ℕ)
    (a : KeyInsertionView) (room : ℕ) (r : Result (Option Growth) E) → IsSorted old →
    IsKeyAddReported old new was now a room r →
    IsKeyAddReported (with_lazy p old) (with_lazy p new) was now a room r
reported_lazy p old new was now a room (Ok (Some more)) sorted reported =
    adds_lazy p old new a room more sorted reported
reported_lazy p old new was now a room (Ok None) sorted reported =
    (ap (with_lazy p) reported.0, reported.1)
reported_lazy p old new was now a room (Err e) sorted reported =
    (ap (with_lazy p) reported.0, reported.1)

-- where nodes begin that key isn't below them before
start_kept : (old new : List Node) (a : KeyInsertionView) (room : ℕ) (more : Growth) →
    1 ≤ length old →
    AddsKey old new a room more → start_of new ≡ start_of old
start_kept old new a room more some adds =
    by adds.some.adds.made.upper adds.some.adds.made.has_upper adds.some.adds.made.has_lower
    adds.some.adds.made.nodes
  where
    by : (u : Option (ℕ × KeyBytes)) → IsNewKey old None u →
        IsNewKey old (Some a.key) adds.some.adds.made.lower →
        adds.some.adds.mid ≡ with_new (with_new old u) adds.some.adds.made.lower →
        start_of new ≡ start_of old
    by (Some f) none lower nodes = absurd none
    by None none lower nodes =
        ap (λ (ns : List Node). start_of ns) adds.some.adds.raised ∙
        raise_nodes-start (point a.key) a.value adds.some.adds.mid ∙
        ap (λ (ns : List Node). start_of ns) nodes
        ∙ start_with old (Some a.key) adds.some.adds.made.lower
        (λ k e. subst (λ (q : KeyBytes). Le (start_of old) (before q)) (same_some a.key k e)
        adds.low) some lower

-- What is told of nodes, once an Add at a key below was made.
pub reported_key : {E : Type 0} (r : Result (Option Growth) E) (n : ℕ) (all : ValueView)
    (p : Option ValueView) (old new : List Node) (was now : List ℕ)
    (a : KeyInsertionView) (room : ℕ) →
    IsSorted (with_lazy p old) → IsKeyAddReported old new was now a room r →
    IsReportedOf n all p old
    → IsReportedOf n (joint_after r true a.value all) p new
reported_key (Ok (Some more)) n all p old new was now a room sorted adds reported =
    let starts = start_kept old new a room more reported.some adds in
    let above = adds_lazy p old new a room more (sorted_without p old sorted) adds in
    let reached : is_below (start_of (with_lazy p new)) (after a.key) ≡ true =
    Le_Lt-chain (start_of (with_lazy p new)) (before a.key) (after a.key)
    (subst (λ (c : Cut). Le c (before a.key)) (sym (lazy-start p new ∙ starts)) adds.low)
    (before-after a.key) in
    let joined = all_joint_added (with_lazy p old) (with_lazy p new) (Some a.key) None
    (before a.key) (after a.key) a.value sorted tt (before-after a.key) above.some.adds in
    record {
      some = omega (arith, reported.some, adds.some.grown.count);
      start = subst (IsCutPrefix n) (sym starts) reported.start;
      joint = ap (λ (w : ValueView). joint w (a.value ∷ [])) reported.joint ∙
          sym (rw reached at joined);
    }
reported_key (Ok None) n all p old new was now a room sorted left reported =
    subst (IsReportedOf n all p) (sym left.0) reported
reported_key (Err e) n all p old new was now a room sorted left reported =
    subst (IsReportedOf n all p) (sym left.0) reported

-- what an Add to nodes tells, of a leaf of them
pub reported_leaf : {E : Type 0} (r : Result (Option Growth) E) (old new : List Node)
    (a : KeyInsertionView)
    (room : Growth) → IsKeyReported old new a room r →
    IsKeyAddReported old new (length old ∷ []) (length new ∷ []) a room.bytes r
reported_leaf (Ok (Some more)) old new a room reported =
    record {
      low = reported.low;
      some =
          record { adds = reported.adds; grown = reported.grown; within = reported.within.1 };
    }
reported_leaf (Ok None) old new a room same = (same, ap (λ (ns : List Node). length ns ∷ []) same)
reported_leaf (Err e) old new a room same = (same, ap (λ (ns : List Node). length ns ∷ []) same)

-- which has no more than fit
pub few_in_leaf : {E : Type 0} (r : Result (Option Growth) E) (old new : List Node)
    (a : KeyInsertionView)
    (room : Growth) → 1 ≤ length old → length old ≤ 64 → room.nodes + length old ≤ 64 →
    IsKeyReported old new a room r → (1 ≤ length new) × (length new ≤ 64)
few_in_leaf (Ok (Some more)) old new a room some few fits reported = (
  omega (arith, some, reported.grown.count),
  omega
      (arith, fits, reported.grown.count, reported.within.0),
)
few_in_leaf (Ok None) old new a room some few fits same =
    (omega (arith, some, ap length same), omega (arith, few, ap length same))
few_in_leaf (Err e) old new a room some few fits same =
    (omega (arith, some, ap length same), omega (arith, few, ap length same))

-- what adds at a key adds within its cuts
pub reported_within : {E : Type 0} (r : Result (Option Growth) E) (old new : List Node)
    (was now : List ℕ) (a : KeyInsertionView) (room : ℕ) → IsKeyAddReported old new was now a room r
    → IsAddReported old new was now (at_key a) room r
reported_within (Ok (Some more)) old new was now a room reported = reported.some
reported_within (Ok None) old new was now a room reported = reported
reported_within (Err e) old new was now a room reported = reported

-- what such a call tells where it is refused
pub refused_key : {E : Type 0} (r : Result (Option Growth) E) (old new : List Node)
    (was now : List ℕ) (a : KeyInsertionView) (room : ℕ) → IsErr r → new ≡ old → now ≡ was →
    IsKeyAddReported old new was now a room r
refused_key (Ok d) old new was now a room is nodes sizes = absurd (true≢false (sym is))
refused_key (Err e) old new was now a room is nodes sizes = (nodes, sizes)

-- An Add at a key to the subtree in which it falls.
module _ {X : Type 0} (f : X → List Node) (xs : List X) (p : ℕ) (d y : X) (a : KeyInsertionView)
    (some : AreSome (map f xs)) (sorted : IsSorted (nodes_of (map f xs))) (inside : p < length xs)
    (at : IsLeafAt (map f xs) (before a.key) p) where
  abbrev behind : List Node
  behind = nodes_of (drop (suc p) (map f xs))

  below : Lt (after a.key) (start_of behind)
  below = wholly_below a.key behind
      (ends_high (map f xs) (before a.key) p some (below_last_key a.key) at)
    where
      below_last_key : (k : KeyBytes) → Lt (before k) last
      below_last_key k = refl

  within : (E : Type 0) (s : X → List ℕ) (r : Result (Option Growth) E) (room : ℕ) →
      IsAddReported (f (get_or xs p d)) (f y) (s (get_or xs p d)) (s y) (at_key a) room r
      → IsAddReported (nodes_of (map f xs)) (nodes_of (map f (set xs p y))) (sizes_of (map s xs))
      (sizes_of (map s (set xs p y))) (at_key a) room r
  within E s r room reported = reported_in_subtree f xs p d y (at_key a) some sorted inside at
      (before-after a.key) (inl refl) tt tt (Le-from_Lt (after a.key) (start_of behind) below) s r
      room below reported

  low_of_all : Le (start_of (f (get_or xs p d))) (before a.key) →
      Le (start_of (nodes_of (map f xs))) (before a.key)
  low_of_all low =
      let ls : List (List Node) = map f xs in
      let here : p < length ls = omega (arith, inside, length-map xs f) in
      let rise = starts_rise ls some sorted 0 p [] (omega arith) here in
      let first : start_of (nodes_of ls) ≡ start_of (get_or ls 0 []) =
      start_at ls some 0 [] (omega (arith, here)) in
      let read : f (get_or xs p d) ≡ get_or ls p [] = subtree_read f xs p d inside in
      subst (λ (c : Cut). Le c (before a.key)) (sym first)
      (Le-chain (start_of (get_or ls 0 [])) (start_of (get_or ls p [])) (before a.key) rise
      (subst (λ (ns : List Node). Le (start_of ns) (before a.key)) read low))

  pub key_in_subtree : {E : Type 0} (s : X → List ℕ) (r : Result (Option Growth) E) (room : ℕ) →
      IsKeyAddReported (f (get_or xs p d)) (f y) (s (get_or xs p d)) (s y) a room r
      → IsKeyAddReported (nodes_of (map f xs)) (nodes_of (map f (set xs p y))) (sizes_of (map s xs))
      (sizes_of (map s (set xs p y))) a room r
  key_in_subtree {E} s (Ok (Some more)) room reported =
      record {
        low = low_of_all reported.low;
        some = within E s (Ok (Some more)) room
            reported.some;
      }
  key_in_subtree {E} s (Ok None) room reported = within E s (Ok None) room reported
  key_in_subtree {E} s (Err e) room reported = within E s (Err e) room reported
