-- The root of a tree, whichever list of subtrees it has.
use Rattle.std.proofs.Common.{◌≡◌, ◌∙◌, inl, refl, sym, ap, subst, Bool, true, false, ℕ, ◌+◌, ◌-◌, ◌≤◌, nat_le, List, [], ◌∷◌, ◌++◌, length, Vec, Global, arith}
use mathlib.Core.Bool.{true≢false}
use Rattle.std.specs.Result.{IsErr}
use Rattle.std.specs.Prelude.{Option, Some, None, not, Result, Ok, Err, OnOk}
use Rattle.std.specs.List.{All, AllZip}
use Rattle.std.specs.Vec.{with_items}
use Rattle.std.proofs.lemmas.List.{with_items_is}
use Rattle.tsc_time.specs.ValueView.{ValueView}
use Rattle.tsc_span.specs.Span.{KeyBytes, SpanView, between, end_keys, key_cost}
use Rattle.std.specs.Option.{option_to_list}
use Rattle.tsc_page_model.specs.Page.{cost_distinct}
use Rattle.tsc_page_model.specs.PageView.{is_in, new_weight}
use Rattle.tsc_page_nodes.specs.declared.nodes.Growth.{Growth}
use Rattle.tsc_page_nodes.specs.Nodes.{Node, IsSorted, IsInOrder, IsSplitAt, GrowsBy, raise_nodes, node_keys, nodes_cost}
use Rattle.tsc_page_nodes.specs.Insertions.{InsertionView}
use Rattle.tsc_page_tree.specs.Leaves.{nodes_of}
use Rattle.tsc_page_tree.specs.Copies.{IsSameAs}
use Rattle.tsc_page_tree.specs.Lazy.{sizes_of, AreSizesOf, AddsSome}
use Rattle.tsc_page_tree.specs.Trees.{IsLeafCopy, IsBranchCopy, IsWholeLeaf, leaf_nodes, leaf_sizes, leaf_copied, branch_copied, AreFewSubtrees}
use Rattle.tsc_page_tree.specs.Roots.{two_nodes, two_sizes, IsWholeTwo, three_nodes, three_sizes, IsWholeThree, four_nodes, four_sizes, IsWholeFour, root_nodes, root_sizes, IsWholeRoot, IsOrderedRoot, IsCounted, IsKnown, TreeView, AreEnds, Inserts, IsFullFor, IsTryReported, IsInsertedReported}
use Rattle.tsc_page_tree.specs.declared.leaf.Leaf.{Leaf}
use Rattle.tsc_page_tree.specs.declared.branch.Branch.{Branch}
use Rattle.tsc_page_tree.specs.declared.root.Root.{Root}
use Rattle.tsc_page_tree.specs.declared.root.Root.TheVariants.{One, Two, Three, Four}
use Rattle.tsc_page_nodes.specs.KeyAdds.{KeyInsertionView}
use Rattle.tsc_page_tree.specs.KeyAdds.{at_key}
use Rattle.tsc_page_nodes.proofs.Ends.{ends_in_order}
use Rattle.tsc_span.proofs.CutOrder.{before-after}
use Rattle.tsc_page_nodes.proofs.KeyLookups.{point_keys}
use Rattle.tsc_page_tree.proofs.LeafAdds.{adds_to}
use Rattle.tsc_page_nodes.proofs.Costs.{cost-raised}
use Rattle.tsc_page_nodes.proofs.Edits.{raise_nodes-sorted, raise_nodes-length}
use Rattle.tsc_page_nodes.proofs.Standing.{split_weight}
use Rattle.tsc_page_tree.proofs.Costs.{room_reported}
use Rattle.tsc_page_nodes.proofs.NewKeys.{with_new_splits, splits_chain}
use Rattle.tsc_page_tree.proofs.SubtreeSizes.{sizes_of_subtrees}
use Rattle.tsc_page_tree.proofs.SubtreeLists.{AreSameAs, copies_same, adds_sorted}
use Rattle.tsc_page_tree.proofs.SubtreeAdds.{not_false}

-- a root has the sizes of its leaves
pub root_counted : (r : Root) → IsWholeRoot r → AreSizesOf (root_sizes r) (root_nodes r)
root_counted (One ps) whole = sizes_of_subtrees leaf_nodes leaf_sizes IsWholeLeaf ps.items
    (λ x w. w.sizes) whole.0
root_counted (Two ps) whole = sizes_of_subtrees two_nodes two_sizes IsWholeTwo ps.items
    (λ x w. w.sizes) whole.each
root_counted (Three ps) whole = sizes_of_subtrees three_nodes three_sizes IsWholeThree ps.items
    (λ x w. w.sizes) whole.each
root_counted (Four ps) whole = sizes_of_subtrees four_nodes four_sizes IsWholeFour ps.items
    (λ x w. w.sizes) whole.0

-- copies of subtrees, of which there are as many
few_same : {X : Type 0} (f : X → List Node) (s : X → List ℕ) (Q : X → Type 0) (xs ys : List X) →
    AreSameAs f s Q xs ys → AreFewSubtrees Q xs → AreFewSubtrees Q ys
few_same f s Q xs ys same few = record {
  each = same.whole few.each;
  some = omega (arith, same.long, few.some);
  few = omega (arith, same.long, few.few);
}

-- as many others in the place of those in a list
pub few_with : {X : Type 0} (Q : X → Type 0) (v : Vec X Global) (xs : List X) →
    length xs ≡ length v.items → All Q xs → AreFewSubtrees Q v.items →
    AreFewSubtrees Q (with_items v xs).items
few_with Q v xs same all few = subst (AreFewSubtrees Q)
    (sym (with_items_is v xs (omega (arith, same, v.ok.0))))
    (record {
      each = all;
      some = omega (arith, same, few.some);
      few = omega (arith, same, few.few);
    })

-- the same, where that was done
pub few_on_ok : {X T E : Type 0} (Q : X → Type 0) (v : Vec X Global) (xs : List X) (r : Result T E)
    → length xs ≡ length v.items → OnOk r (All Q xs) → AreFewSubtrees Q v.items →
    OnOk r (AreFewSubtrees Q (with_items v xs).items)
few_on_ok Q v xs (Ok x) same all few = few_with Q v xs same all few
few_on_ok Q v xs (Err e) same all few = tt

-- a root of copies is a copy
pub copied_one : (ps qs : Vec Leaf Global) →
    AllZip (λ (x y : Leaf). IsLeafCopy x y) ps.items qs.items →
    IsSameAs root_nodes root_sizes IsWholeRoot (One ps) (One qs)
copied_one ps qs all =
    let same = copies_same leaf_nodes leaf_sizes IsWholeLeaf (λ (x y : Leaf). IsLeafCopy x y)
    ps.items qs.items leaf_copied all in
    record {
      nodes = ap (λ (ls : List (List Node)). nodes_of ls) same.nodes;
      sizes = ap (λ (ls : List (List ℕ)). sizes_of ls) same.sizes;
      whole =
          λ w. (same.whole w.0, omega (arith, same.long, w.1));
    }

pub copied_two : (ps qs : Vec (Branch Leaf) Global) →
    AllZip (λ (x y : Branch Leaf). IsBranchCopy x y) ps.items qs.items →
    IsSameAs root_nodes root_sizes IsWholeRoot (Two ps) (Two qs)
copied_two ps qs all =
    let same = copies_same two_nodes two_sizes IsWholeTwo (λ (x y : Branch Leaf). IsBranchCopy x y)
    ps.items qs.items (λ x y h. branch_copied leaf_nodes leaf_sizes IsWholeLeaf x y h) all in
    record {
      nodes = ap (λ (ls : List (List Node)). nodes_of ls) same.nodes;
      sizes = ap (λ (ls : List (List ℕ)). sizes_of ls) same.sizes;
      whole =
          few_same two_nodes two_sizes IsWholeTwo ps.items qs.items same;
    }

pub copied_three : (ps qs : Vec (Branch (Branch Leaf)) Global) →
    AllZip (λ (x y : Branch (Branch Leaf)). IsBranchCopy x y) ps.items qs.items →
    IsSameAs root_nodes root_sizes IsWholeRoot (Three ps) (Three qs)
copied_three ps qs all =
    let same = copies_same three_nodes three_sizes IsWholeThree
    (λ (x y : Branch (Branch Leaf)). IsBranchCopy x y) ps.items qs.items
    (λ x y h. branch_copied two_nodes two_sizes IsWholeTwo x y h) all in
    record {
      nodes = ap (λ (ls : List (List Node)). nodes_of ls) same.nodes;
      sizes = ap (λ (ls : List (List ℕ)). sizes_of ls) same.sizes;
      whole =
          few_same three_nodes three_sizes IsWholeThree ps.items qs.items same;
    }

pub copied_four : (ps qs : Vec (Branch (Branch (Branch Leaf))) Global) →
    AllZip (λ (x y : Branch (Branch (Branch Leaf))). IsBranchCopy x y) ps.items qs.items →
    IsSameAs root_nodes root_sizes IsWholeRoot (Four ps) (Four qs)
copied_four ps qs all =
    let same = copies_same four_nodes four_sizes IsWholeFour
    (λ (x y : Branch (Branch (Branch Leaf))). IsBranchCopy x y) ps.items qs.items
    (λ x y h. branch_copied three_nodes three_sizes IsWholeThree x y h) all in
    record {
      nodes = ap (λ (ls : List (List Node)). nodes_of ls) same.nodes;
      sizes = ap (λ (ls : List (List ℕ)). sizes_of ls) same.sizes;
      whole =
          λ w. (same.whole w.0, omega (arith, same.long, w.1));
    }

pub counted_tree : (r : Root) (n b : ℕ) → IsWholeRoot r → IsSorted (root_nodes r) →
    n ≡ length (root_nodes r) → b ≡ nodes_cost (root_nodes r) → IsCounted r n b
counted_tree r n b whole sorted count bytes =
    record {
      whole = whole;
      sorted = sorted;
      sizes = root_counted r whole;
      count = count;
      bytes = bytes;
    }

-- what can be seen of a tree
abbrev pub seen_of : Root → ℕ → TreeView
seen_of r b = record { nodes = root_nodes r; sizes = root_sizes r; bytes = b }

pub known_tree : (r : Root) (n b : ℕ) → IsCounted r n b → IsKnown (seen_of r b)
known_tree r n b counted = record {
  sorted = counted.sorted;
  sizes = counted.sizes;
  bytes = counted.bytes;
}

-- a copy of a tree
pub counted_copy : (r q : Root) (n b : ℕ) → IsSameAs root_nodes root_sizes IsWholeRoot r q →
    IsCounted r n b → IsCounted q n b
counted_copy r q n b same counted =
    counted_tree q n b (same.whole counted.whole) (subst IsSorted (sym same.nodes) counted.sorted)
    (counted.count ∙ ap (λ (ns : List Node). length ns) (sym same.nodes))
    (counted.bytes ∙ ap nodes_cost (sym same.nodes))

pub seen_same : (r q : Root) (b : ℕ) → root_nodes q ≡ root_nodes r → root_sizes q ≡ root_sizes r →
    seen_of q b ≡ seen_of r b
seen_same r q b nodes sizes = ap (λ (ns : List Node).
    record { nodes = ns; sizes = root_sizes q; bytes = b }) nodes ∙
    ap (λ (ss : List ℕ). record { nodes = root_nodes r; sizes = ss; bytes = b }) sizes

pub seen_copy : (r q : Root) (b : ℕ) → IsSameAs root_nodes root_sizes IsWholeRoot r q →
    seen_of q b ≡ seen_of r b
seen_copy r q b same = seen_same r q b same.nodes same.sizes

-- after an insertion in place
pub counted_added : (r q : Root) (n b room : ℕ) (more : Growth) (a : InsertionView) →
    IsCounted r n b →
    IsWholeRoot q → IsInOrder a.first a.second →
    AddsSome (root_nodes r) (root_nodes q) a room more →
    IsCounted q (n + more.nodes) (b + more.bytes)
counted_added r q n b room more a counted whole order adds =
    counted_tree q (n + more.nodes) (b + more.bytes) whole
    (adds_sorted (root_nodes r) (root_nodes q) a.first a.second _ a.value counted.sorted order
    adds.adds) (omega (arith, counted.count, adds.grown.count))
    (omega (arith, counted.bytes, adds.grown.cost))

-- what it makes of the tree
pub inserts_some : (r q : Root) (n b most : ℕ) (more : Growth) (a : InsertionView) →
    IsCounted r n b →
    b ≤ most → IsWholeRoot q → AreEnds a →
    AddsSome (root_nodes r) (root_nodes q) a (most - b) more →
    Inserts (seen_of r b) (seen_of q (b + more.bytes)) a most
inserts_some r q n b most more a counted few whole ends adds =
    let order = ends_in_order a.from a.to a.first a.second ends.order ends.keys in
    record {
      order = ends.order;
      adds = (adds_to (root_nodes r) (root_nodes q) a.first a.second (between a.from a.to) a.value
          counted.sorted order ends.keys adds.adds).0;
      within = omega (arith, adds.within, few);
      known = known_tree q (n + more.nodes) (b + more.bytes)
          (counted_added r q n b (most - b) more a counted whole order adds);
    }

-- a copy in which nodes are made of two keys, one after the other, and then raised
pub counted_twice : (r copy upper lower q : Root) (n b : ℕ) (up low : Growth) (s : SpanView)
    (v : ValueView) → IsCounted r n b → IsSameAs root_nodes root_sizes IsWholeRoot r copy →
    IsSorted (root_nodes lower)
    → GrowsBy (root_nodes copy) (root_nodes upper) up →
    GrowsBy (root_nodes upper) (root_nodes lower) low → IsWholeRoot q →
    root_nodes q ≡ raise_nodes s v (root_nodes lower) →
    IsCounted q (n + up.nodes + low.nodes) (b + up.bytes + low.bytes)
counted_twice r copy upper lower q n b up low s v counted same sorted one two whole raised =
    counted_tree q (n + up.nodes + low.nodes) (b + up.bytes + low.bytes) whole
    (subst IsSorted (sym raised) (raise_nodes-sorted s v (root_nodes lower) sorted))
    (omega (
      arith,
      counted.count,
      ap (λ (ns : List Node). length ns) same.nodes,
      one.count,
      two.count,
      ap (λ (ns : List Node). length ns) raised,
      raise_nodes-length s v (root_nodes lower),
    ))
    (omega (
      arith,
      counted.bytes,
      ap nodes_cost same.nodes,
      one.cost,
      two.cost,
      ap nodes_cost raised,
      cost-raised s v (root_nodes lower),
    ))

pub inserts_twice : (r copy upper lower q : Root) (n b : ℕ) (up low : Growth)
    (a : InsertionView) (most : ℕ)
    → IsCounted r n b → cost_distinct (node_keys (root_nodes r) ++ end_keys (between a.from a.to)) ≤
    most → AreEnds a
    → IsSameAs root_nodes root_sizes IsWholeRoot r copy →
    IsSplitAt (root_nodes copy) (root_nodes upper) (option_to_list a.second) →
    IsSplitAt (root_nodes upper) (root_nodes lower) (option_to_list a.first)
    → GrowsBy (root_nodes copy) (root_nodes upper) up →
    GrowsBy (root_nodes upper) (root_nodes lower) low → IsWholeRoot q →
    root_nodes q ≡ raise_nodes (between a.from a.to) a.value (root_nodes lower)
    → Inserts (seen_of r b) (seen_of q (b + up.bytes + low.bytes)) a most
inserts_twice r copy upper lower q n b up low a most counted few ends same first second one two
    whole raised =
    let mid : List Node = root_nodes lower in
    let s = between a.from a.to in
    let made = splits_chain _ _ mid (option_to_list a.second) (option_to_list a.first) first
    second in
    let from_old = subst (λ (ns : List Node). IsSplitAt ns mid
    (option_to_list a.first ++ option_to_list a.second)) same.nodes made in
    let split = subst (λ (ks : List KeyBytes). IsSplitAt (root_nodes r) mid ks) ends.keys
    from_old in
    record {
      order = ends.order;
      adds = record { mid = mid; split = split; raised = raised };
      within = omega (
        arith,
        few,
        split_weight key_cost (root_nodes r) mid s split,
        one.cost,
        two.cost,
        ap nodes_cost same.nodes,
        counted.bytes,
      );
      known = known_tree q (n + up.nodes + low.nodes) (b + up.bytes + low.bytes)
          (counted_twice r copy upper lower q n b up low s a.value counted same second.sorted one
          two whole raised);
    }

-- what is told of the room for the keys, by what can be seen of the tree
pub room_in : (r : Root) (n b : ℕ) (t : TreeView) (o q : Option KeyBytes) (s : SpanView) (most : ℕ)
    (has : Bool) → seen_of r b ≡ t → IsCounted r n b →
    option_to_list o ++ option_to_list q ≡ end_keys s
    → has ≡ nat_le (t.bytes + new_weight key_cost (node_keys t.nodes) o + new_weight key_cost
    (node_keys t.nodes) q) most →
    has ≡ nat_le (cost_distinct (node_keys t.nodes ++ end_keys s)) most
room_in r n b t o q s most has seen counted keys reported =
    let known : IsKnown t = subst IsKnown seen (known_tree r n b counted) in
    room_reported t.nodes o q s t.bytes most has known.sorted keys known.bytes reported

-- and where nothing changed
pub counted_kept : (r q : Root) (n b : ℕ) → IsCounted r n b → IsWholeRoot q →
    root_nodes q ≡ root_nodes r → IsCounted q n b
counted_kept r q n b counted whole is =
    counted_tree q n b whole (subst IsSorted (sym is) counted.sorted)
    (counted.count ∙ ap (λ (ns : List Node). length ns) (sym is))
    (counted.bytes ∙ ap nodes_cost (sym is))

-- a call that is refused
pub refused_try : {E : Type 0} (r : Result Bool E) (old new : TreeView)
    (a : InsertionView) (most : ℕ) →
    IsErr r → new ≡ old → IsTryReported old new a most r
refused_try (Ok d) old new a most is same = absurd (true≢false (sym is))
refused_try (Err e) old new a most is same = same

-- what such a call tells, by its answer
pub was_tried : (E : Type 0) (d : Bool) (old new : TreeView) (a : InsertionView)
    (most : ℕ) → d ≡ true →
    IsTryReported {E = E} old new a most (Ok d) → Inserts old new a most
was_tried E d old new a most is reported =
    subst (λ (b : Bool). IsTryReported {E = E} old new a most (Ok b)) is reported

pub was_not : (E : Type 0) (d : Bool) (old new : TreeView) (a : InsertionView)
    (most : ℕ) → d ≡ false →
    IsTryReported {E = E} old new a most (Ok d) → new ≡ old
was_not E d old new a most is reported =
    subst (λ (b : Bool). IsTryReported {E = E} old new a most (Ok b)) is reported

pub was_made : (E : Type 0) (d : Option TreeView) (new old : TreeView)
    (a : InsertionView) (most : ℕ) →
    d ≡ Some new → IsInsertedReported {E = E} old a most (Ok d) → Inserts old new a most
was_made E d new old a most is reported =
    subst (λ (o : Option TreeView). IsInsertedReported {E = E} old a most (Ok o)) is reported

pub was_full : (E : Type 0) (d : Option TreeView) (old : TreeView) (a : InsertionView) (most : ℕ) →
    d ≡ None → IsInsertedReported {E = E} old a most (Ok d) → IsFullFor old a most
was_full E d old a most is reported = subst (λ (o : Option TreeView). IsInsertedReported {E = E} old
    a most (Ok o)) is reported

-- what is added at a key lies at the key's cuts
pub key_ends : (a : KeyInsertionView) → AreEnds (at_key a)
key_ends a = record {
  order = before-after a.key;
  first = inl refl;
  second = tt;
  keys = point_keys a.key;
}

-- a key that has a node needs none
pub known_splits : (ns : List Node) (k : KeyBytes) → IsSorted ns →
    not (is_in k (node_keys ns)) ≡ false → IsSplitAt ns ns (k ∷ [])
known_splits ns k sorted known = with_new_splits ns (Some k) None sorted
    (not_false (is_in k (node_keys ns)) known)

-- the root of a tree is in order
pub counted_root : (r : Root) (n b : ℕ) → IsCounted r n b → IsOrderedRoot r
counted_root r n b counted = record { whole = counted.whole; sorted = counted.sorted }
