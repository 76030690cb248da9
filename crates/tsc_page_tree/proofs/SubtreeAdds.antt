-- An Add in one of several subtrees, beyond which the span doesn't go on.
use Rattle.std.proofs.Common.{◌≡◌, ◌⊎◌, ◌∙◌, refl, sym, ap, subst, Bool, true, false, cond, ℕ, suc, ◌<◌, List, [], ◌++◌, length, map, take, drop, get_or, set, arith}
use Rattle.std.specs.Prelude.{Option, Some, None, Result, Ok, Err, not}
use Rattle.std.proofs.lemmas.List.{length-map, length-append, map-set}
use Rattle.tsc_span.specs.Span.{KeyBytes, between, is_below}
use Rattle.tsc_page_nodes.specs.declared.nodes.Growth.{Growth}
use Rattle.tsc_page_nodes.specs.Nodes.{Node, IsSorted, IsInOrder, IsNewKey, AddsNodes, raise_nodes, nodes_cost}
use Rattle.tsc_page_nodes.specs.Insertions.{InsertionView, LiesAt, before_second}
use Rattle.tsc_page_tree.specs.Leaves.{nodes_of, AreSome, start_of, IsLeafAt}
use Rattle.tsc_page_tree.specs.Lazy.{sizes_of, IsAddReported}
use Rattle.tsc_span.proofs.CutOrder.{Lt, Le}
use Rattle.tsc_page_nodes.proofs.Costs.{cost-append}
use Rattle.tsc_page_tree.proofs.Joins.{up_to_last}
use Rattle.tsc_page_tree.proofs.LeafLists.{parted_at, leaf_first, leaf_set, sorted_from, starts_low, ends_high, subtree_read}
use Rattle.tsc_page_tree.proofs.LeafAdds.{adds_left, adds_right, all_below, reported_below}
use Rattle.tsc_page_tree.proofs.SubtreeLoops.{same_by}

-- what a test says where its opposite holds
pub not_true : (b : Bool) → not b ≡ true → b ≡ false
not_true true q = sym q
not_true false q = refl

pub not_false : (b : Bool) → not b ≡ false → b ≡ true
not_false true q = refl
not_false false q = sym q

module _ {X : Type 0} (f : X → List Node) (xs : List X) (p : ℕ) (d y : X) (a : InsertionView)
    (some : AreSome (map f xs)) (sorted : IsSorted (nodes_of (map f xs))) (inside : p < length xs)
    (at : IsLeafAt (map f xs) a.from p)
    (up : Lt a.from a.to) (first : LiesAt a.first a.from) (second : LiesAt a.second a.to)
    (order : IsInOrder a.first a.second)
    (high : Le a.to (start_of (nodes_of (drop (suc p) (map f xs))))) where
  abbrev ls : List (List Node)
  ls = map f xs

  abbrev front : List Node
  front = nodes_of (take p ls)

  abbrev subtree : List Node
  subtree = get_or ls p []

  abbrev behind : List Node
  behind = nodes_of (drop (suc p) ls)

  within : p < length ls
  within = omega (arith, inside, length-map xs f)

  here : nodes_of (drop p ls) ≡ subtree ++ behind
  here = leaf_first ls p [] within

  whole : nodes_of ls ≡ front ++ (subtree ++ behind)
  whole = parted_at ls p ∙ ap (λ (ns : List Node). front ++ ns) here

  made : nodes_of (map f (set xs p y)) ≡ front ++ (f y ++ behind)
  made = ap (λ (ms : List (List Node)). nodes_of ms) (map-set f xs p y) ∙ leaf_set ls p (f y) within

  low : Lt a.from (start_of behind)
  low = ends_high ls a.from p some (up_to_last a.from a.to up) at

  start : (front ≡ []) ⊎ Le (start_of (subtree ++ behind)) a.from
  start = subst (λ (ns : List Node). (front ≡ []) ⊎ Le (start_of ns) a.from) here
      (starts_low ls a.from p some at)

  -- the second key is handed on where it lies below what comes behind
  adds_here : (q : Option KeyBytes) → q ≡ cond (is_below a.to (start_of behind)) a.second None →
      AddsNodes subtree (f y) a.first q (between a.from a.to) a.value →
      AddsNodes (nodes_of ls) (nodes_of (map f (set xs p y))) a.first a.second (between a.from a.to)
      a.value
  adds_here q is adds =
      let upper = adds.made.upper in
      let lower = adds.made.lower in
      let has_lower = subst (λ (o : Option KeyBytes). IsNewKey subtree o lower)
      (sym (all_below behind a.from a.first low first)) adds.made.has_lower in
      let has_upper = subst (λ (o : Option KeyBytes). IsNewKey subtree o upper)
      (is ∙ sym (reported_below behind a.to a.second second)) adds.made.has_upper in
      let left = adds_left subtree behind (f y) a.from a.to a.value a.first a.second lower upper
      (subst IsSorted here (sorted_from ls p sorted)) up low high first second order has_lower
      has_upper (adds.raised ∙
      ap (raise_nodes (between a.from a.to) a.value) adds.made.nodes) in
      let all = adds_right front (subtree ++ behind) (f y ++ behind) a.from a.to a.value a.first
      a.second (subst IsSorted whole sorted) up start first second order left in
      subst (λ (ns : List Node). AddsNodes ns (nodes_of (map f (set xs p y))) a.first a.second
      (between a.from a.to) a.value) (sym whole)
      (subst (λ (ns : List Node). AddsNodes (front ++ (subtree ++ behind)) ns a.first a.second
      (between a.from a.to) a.value) (sym made) all)

  reported_here : {E : Type 0} (s : X → List ℕ) (r : Result (Option Growth) E) (room : ℕ)
      (q : Option KeyBytes) → q ≡ cond (is_below a.to (start_of behind)) a.second None
      → IsAddReported (f (get_or xs p d)) (f y) (s (get_or xs p d)) (s y)
      (record { first = a.first; second = q; from = a.from; to = a.to; value = a.value }) room r
      → IsAddReported (nodes_of ls) (nodes_of (map f (set xs p y))) (sizes_of (map s xs))
      (sizes_of (map s (set xs p y))) a room r
  reported_here s (Ok (Some more)) room q is reported =
      let read : f (get_or xs p d) ≡ subtree = subtree_read f xs p d inside in
      let one = length-append front (subtree ++ behind) in
      let two = length-append subtree behind in
      let three = length-append front (f y ++ behind) in
      let four = length-append (f y) behind in
      record {
        adds = adds_here q is (subst
            (λ (ns : List Node). AddsNodes ns (f y) a.first q (between a.from a.to) a.value) read
            reported.adds);
        grown = record {
          count = omega (
            arith,
            one,
            two,
            three,
            four,
            reported.grown.count,
            ap length read,
            ap length whole,
            ap length made,
          );
          cost = omega (
            arith,
            cost-append front (subtree ++ behind),
            cost-append subtree behind,
            cost-append front (f y ++ behind),
            cost-append (f y) behind,
            reported.grown.cost,
            ap nodes_cost read,
            ap nodes_cost whole,
            ap nodes_cost made,
          );
        };
        within = reported.within;
      }
  reported_here s (Ok None) room q is reported = (
    ap (λ (ms : List (List Node)). nodes_of ms) (same_by f xs p d y inside reported.0),
    ap (λ (ns : List (List ℕ)). sizes_of ns) (same_by s xs p d y inside reported.1),
  )
  reported_here s (Err e) room q is reported = (
    ap (λ (ms : List (List Node)). nodes_of ms) (same_by f xs p d y inside reported.0),
    ap (λ (ns : List (List ℕ)). sizes_of ns) (same_by s xs p d y inside reported.1),
  )

  -- the span stops below what comes behind
  pub reported_in_subtree : {E : Type 0} (s : X → List ℕ) (r : Result (Option Growth) E) (room : ℕ)
      → is_below a.to (start_of behind) ≡ true
      → IsAddReported (f (get_or xs p d)) (f y) (s (get_or xs p d)) (s y) a room r →
      IsAddReported (nodes_of ls) (nodes_of (map f (set xs p y))) (sizes_of (map s xs))
      (sizes_of (map s (set xs p y))) a room r
  reported_in_subtree s r room below reported =
      reported_here s r room a.second (ap (λ (b : Bool). cond b a.second None) (sym below)) reported

  -- or right where that begins
  pub reported_before_next : {E : Type 0} (s : X → List ℕ) (r : Result (Option Growth) E) (room : ℕ)
      → is_below a.to (start_of behind) ≡ false
      → IsAddReported (f (get_or xs p d)) (f y) (s (get_or xs p d)) (s y) (before_second a) room r →
      IsAddReported (nodes_of ls) (nodes_of (map f (set xs p y))) (sizes_of (map s xs))
      (sizes_of (map s (set xs p y))) a room r
  reported_before_next s r room below reported =
      reported_here s r room None (ap (λ (b : Bool). cond b a.second None) (sym below)) reported
