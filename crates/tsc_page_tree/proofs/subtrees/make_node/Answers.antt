-- The subtree in which a key falls takes its node, and what it cuts off comes behind it.
use Rattle.std.proofs.Common.{◌≡◌, ◌+◌, ◌<◌, ap, sym, subst, ℕ, suc, List, ◌++◌, map, get_or, set, length, arith}
use Rattle.std.specs.Prelude.{IfSome}
use Rattle.std.specs.Option.{option_to_list}
use Rattle.std.specs.List.{All, insert}
use Rattle.std.proofs.lemmas.List.{length-map, length-set}
use Rattle.tsc_span.specs.Span.{KeyBytes, Cut, before}
use Rattle.tsc_page_tree.specs.Leaves.{nodes_of, IsLeafAt, IsSubtree, HasNode}
use Rattle.tsc_page_tree.proofs.LeafLists.{all_some, all_set, all_insert, is_subtree}
use Rattle.tsc_page_tree.proofs.LeafMakes.{made_whole, made_cut}
use Rattle.tsc_page_tree.proofs.subtrees.make_node.Goals as goal

pub make_node-requires : goal.make_node-requires
make_node-requires g c =
    let f = g.P.Subtree.nodes in
    let Q = g.P.Subtree.IsWhole in
    let items = c.args.subtrees.now.items in
    let p : ℕ = c.subtree_at-index.result in
    let bound = c.subtree_at-index.ensures.bound in
    let here : p < length items = omega (
      arith,
      bound,
      ap length c.deref.ensures.value,
      length-map c.deref.result.now f,
      c.requires.some,
    ) in
    record {
      subtree = subst (IsSubtree f Q) (sym c.index_mut.ensures.value)
          (is_subtree f Q items p c.index_mut.result.now here c.requires.subtrees);
    }

pub returns-in_ok-insert-clause-made : goal.returns-in_ok-insert-clause-made
returns-in_ok-insert-clause-made g c =
    let read = g.P.Subtree.nodes in
    let items = c.args.subtrees.now.items in
    let p : ℕ = c.subtree_at-index.result in
    let k : KeyBytes = c.args.key.now in
    let d = c.index_mut.result.now in
    let y = c.make_node.new.self in
    let bound = c.subtree_at-index.ensures.bound in
    let here : p < length items = omega (
      arith,
      bound,
      ap length c.deref.ensures.value,
      length-map c.deref.result.now read,
      c.requires.some,
    ) in
    let at = subst (λ (xs : List g.row.P.Denot). IsLeafAt (map read xs) c.at.result.now p)
    c.deref.ensures.value c.subtree_at-index.ensures in
    let at_key : IsLeafAt (map read items) (before k) p =
    subst (λ (b : KeyBytes). IsLeafAt (map read items) (before b) p) c.search.ensures
    (subst (λ (x : Cut). IsLeafAt (map read items) x p) c.at.ensures at) in
    let some = all_some read g.P.Subtree.IsWhole items g.met.P.Subtree.some
    c.requires.subtrees.whole in
    let made = subst (λ (x : g.row.P.Denot). HasNode (read x)
    (read y ++ nodes_of (map read (option_to_list c.in_ok-upper.field-0))) k)
    c.index_mut.ensures.value c.in_ok-upper.ensures.made in
    let reported = subst (λ o. HasNode (read (get_or items p d))
    (read y ++ nodes_of (map read (option_to_list o))) k) c.in-Some.is made in
    let next : suc p ≡ p + 1 = omega arith in
    subst (λ (xs : List g.row.P.Denot). HasNode (nodes_of (map read items)) (nodes_of (map read xs))
    k) (sym c.in_ok-insert.ensures.items)
    (subst (λ (j : ℕ). HasNode (nodes_of (map read items))
    (nodes_of (map read (insert (set items p y) j c.in-Some.upper))) k) next
    (made_cut read items p d y k some c.requires.subtrees.sorted here at_key c.in-Some.upper
    reported))

pub returns-in_ok-insert-clause-whole : goal.returns-in_ok-insert-clause-whole
returns-in_ok-insert-clause-whole g c =
    let items = c.args.subtrees.now.items in
    let p : ℕ = c.subtree_at-index.result in
    let y = c.make_node.new.self in
    let bound = c.subtree_at-index.ensures.bound in
    let here : p < length items = omega (
      arith,
      bound,
      ap length c.deref.ensures.value,
      length-map c.deref.result.now g.P.Subtree.nodes,
      c.requires.some,
    ) in
    let upper = subst (λ o. IfSome o g.P.Subtree.IsWhole) c.in-Some.is
    c.in_ok-upper.ensures.upper in
    subst (All g.P.Subtree.IsWhole) (sym c.in_ok-insert.ensures.items)
    (all_insert g.P.Subtree.IsWhole (set items p y) (p + 1) c.in-Some.upper
    (omega (arith, here, length-set items p y))
    (all_set g.P.Subtree.IsWhole items p y c.requires.subtrees.whole
    c.in_ok-upper.ensures.whole) upper)

pub returns-in_default-clause-made : goal.returns-in_default-clause-made
returns-in_default-clause-made g c =
    let read = g.P.Subtree.nodes in
    let items = c.args.subtrees.now.items in
    let p : ℕ = c.subtree_at-index.result in
    let k : KeyBytes = c.args.key.now in
    let d = c.index_mut.result.now in
    let y = c.make_node.new.self in
    let bound = c.subtree_at-index.ensures.bound in
    let here : p < length items = omega (
      arith,
      bound,
      ap length c.deref.ensures.value,
      length-map c.deref.result.now read,
      c.requires.some,
    ) in
    let at = subst (λ (xs : List g.row.P.Denot). IsLeafAt (map read xs) c.at.result.now p)
    c.deref.ensures.value c.subtree_at-index.ensures in
    let at_key : IsLeafAt (map read items) (before k) p =
    subst (λ (b : KeyBytes). IsLeafAt (map read items) (before b) p) c.search.ensures
    (subst (λ (x : Cut). IsLeafAt (map read items) x p) c.at.ensures at) in
    let some = all_some read g.P.Subtree.IsWhole items g.met.P.Subtree.some
    c.requires.subtrees.whole in
    let made = subst (λ (x : g.row.P.Denot). HasNode (read x)
    (read y ++ nodes_of (map read (option_to_list c.in_ok-upper.field-0))) k)
    c.index_mut.ensures.value c.in_ok-upper.ensures.made in
    let reported = subst (λ o. HasNode (read (get_or items p d))
    (read y ++ nodes_of (map read (option_to_list o))) k) c.in_default.is made in
    made_whole read items p d y k some c.requires.subtrees.sorted here at_key reported
