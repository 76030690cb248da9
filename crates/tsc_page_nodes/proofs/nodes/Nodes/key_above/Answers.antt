-- The keys that begin below the cut come first, and the one behind them is told.
use Rattle.std.proofs.Common.{rules, ◌≡◌, ◌∙◌, sym, ap, subst, true, false, ℕ, List, length, get_or, arith}
use Rattle.std.specs.Prelude.{Some}
use Rattle.std.proofs.lemmas.List.Sorted.{IsPartitionPoint-from_clause}
use Rattle.std.specs.List.Sorted.{IsPartitionPoint, IsPartitionedBy}
use Rattle.std.specs.Arc.{arc_value}
use Rattle.tsc_span.specs.Span.{KeyBytes}
use Rattle.tsc_page_nodes.proofs.KeysAbove.{begins_below, keys_parted, first_node, no_node}
use Rattle.tsc_page_nodes.specs.Nodes.{IsSorted}
use Rattle.tsc_page_nodes.proofs.nodes.Nodes.key_above.Goals as goal

pub returns-in-None : goal.returns-in-None
returns-in-None c =
    let keys : List KeyBytes = (arc_value c.self.inside.keys).items in
    let values = c.self.inside.values.items in
    let p : ℕ = c.partition_point-index.result in
    let searched : c.deref-2.result.now ≡ keys = c.deref-2.ensures.value ∙
    ap (λ v. v.items) c.deref.ensures in
    let read : c.deref-4.result.now ≡ keys = c.deref-4.ensures.value ∙
    ap (λ v. v.items) c.deref-3.ensures in
    let parted = subst (IsPartitionedBy (begins_below c.args.cut.now)) (sym searched)
    (keys_parted keys values c.args.self.now c.self.invariant.same c.self.view_is (subst IsSorted c.self.view_is c.self.invariant.sorted)
    c.args.cut.now) in
    let point = IsPartitionPoint-from_clause (begins_below c.args.cut.now) _ _
    c.partition_point-index.ensures.partitioned parted (λ a r q k. search rules) in
    let at = subst (λ (ks : List KeyBytes). IsPartitionPoint
    (λ k. begins_below c.args.cut.now k ≡ true) (λ k. begins_below c.args.cut.now k ≡ false) ks
    p) searched point in
    no_node keys values c.args.self.now c.self.invariant.same c.self.view_is c.args.cut.now p at
    (omega (arith, ap length read, c.in-None.ensures.lookup))

pub returns-in-Some : goal.returns-in-Some
returns-in-Some c =
    let keys : List KeyBytes = (arc_value c.self.inside.keys).items in
    let values = c.self.inside.values.items in
    let p : ℕ = c.partition_point-index.result in
    let searched : c.deref-2.result.now ≡ keys = c.deref-2.ensures.value ∙
    ap (λ v. v.items) c.deref.ensures in
    let read : c.deref-4.result.now ≡ keys = c.deref-4.ensures.value ∙
    ap (λ v. v.items) c.deref-3.ensures in
    let parted = subst (IsPartitionedBy (begins_below c.args.cut.now)) (sym searched)
    (keys_parted keys values c.args.self.now c.self.invariant.same c.self.view_is (subst IsSorted c.self.view_is c.self.invariant.sorted)
    c.args.cut.now) in
    let point = IsPartitionPoint-from_clause (begins_below c.args.cut.now) _ _
    c.partition_point-index.ensures.partitioned parted (λ a r q k. search rules) in
    let at = subst (λ (ks : List KeyBytes). IsPartitionPoint
    (λ k. begins_below c.args.cut.now k ≡ true) (λ k. begins_below c.args.cut.now k ≡ false) ks
    p) searched point in
    let key : KeyBytes = c.in-Some.key.now in
    let is = c.in-Some.ensures.lookup.1 ∙ ap (λ (ks : List KeyBytes). get_or ks p key) read in
    ap Some c.key.ensures ∙ first_node keys values c.args.self.now c.self.invariant.same c.self.view_is
    c.args.cut.now p at key (omega (arith, ap length read, c.in-Some.ensures.lookup.3.0)) is
