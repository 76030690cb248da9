-- Each leaf gets the node of its key below the lazy value, and is raised there.
use Rattle.std.proofs.Common.{◌∙◌, ◌∷◌, [], sym, ap, subst, List, ◌<◌, length, arith}
use mathlib.Core.Bool.{true≢false}
use Rattle.std.specs.Prelude.{Option, Some, None, option_map}
use Rattle.std.specs.Arc.{arc_value}
use Rattle.tsc_time.specs.declared.memory.NoMemory.{NoMemory}
use Rattle.tsc_time.specs.ValueView.{ValueView}
use Rattle.tsc_time.specs.Joint.{joint}
use Rattle.tsc_span.specs.Span.{KeyBytes, Cut, before, last}
use Rattle.tsc_page_nodes.specs.Nodes.{Node}
use Rattle.tsc_page_nodes.specs.Insertions.{InsertionView, IsInsertionView, AddsToBoth}
use Rattle.tsc_page_tree.specs.Leaves.{start_of}
use Rattle.tsc_page_tree.specs.Lazy.{with_lazy}
use Rattle.tsc_page_tree.specs.Across.{IsAcrossReported}
use Rattle.tsc_span.proofs.CutOrder.{Lt, Le, Le_Lt-chain}
use Rattle.tsc_page_nodes.proofs.Cuts.{lowest}
use Rattle.tsc_page_tree.proofs.Lazy.{lazy-start}
use Rattle.tsc_page_tree.proofs.TreeAcross.{across_lazy, reported_across_low, reported_across_high}
use Rattle.tsc_page_tree.proofs.EndLeaves.{low_part, high_part, ends_across, both_reported, few_with_one}
use Rattle.tsc_page_tree.proofs.Wholes.{leaf_whole, reported_as}
use Rattle.tsc_page_tree.proofs.leaf.insert_ends.Goals as goal
use Rattle.tsc_page_tree.proofs.leaf.insert_ends.Goals.{After-reach-2}

pub invariant_of-stops : goal.invariant_of-stops
invariant_of-stops c = (
  subst (λ (z : Cut). Lt z c.add.inside.to.now) (sym c.new-least.ensures)
      (Le_Lt-chain (before []) c.add.inside.from.now c.add.inside.to.now
      (lowest c.add.inside.from.now) c.add.invariant.0),
  tt,
  c.add.invariant.2,
  tt,
)

-- what is told of both lists of nodes
module _ (c : After-reach-2) where
  abbrev ns : List Node
  ns = arc_value c.args.low.now.nodes

  abbrev ms : List Node
  ms = arc_value c.args.high.now.nodes

  abbrev nl : List Node
  nl = c.insert_across.new.low

  abbrev nh : List Node
  nh = c.insert_across.new.high

  abbrev o : Option KeyBytes
  o = option_map (λ k. k.now) c.add.inside.first

  abbrev q : Option KeyBytes
  q = option_map (λ k. k.now) c.add.inside.second

  abbrev f : Cut
  f = c.add.inside.from.now

  abbrev t : Cut
  t = c.add.inside.to.now

  abbrev v : ValueView
  v = c.add.inside.value

  fits : IsInsertionView c.args.add.now
  fits = subst IsInsertionView c.add.view_is c.add.invariant

  both : AddsToBoth ns nl ms nh (low_part c.args.add.now) (high_part c.args.add.now) c.args.room
      c.in-Ok-Some.more
  both =
      subst (λ (xs : List Node). AddsToBoth xs nl ms nh (low_part c.args.add.now)
      (high_part c.args.add.now) c.args.room c.in-Ok-Some.more) c.in-Some.ensures.value
      (subst (λ (xs : List Node). AddsToBoth c.in-Some.below.now nl xs nh
      (low_part c.args.add.now) (high_part c.args.add.now) c.args.room c.in-Ok-Some.more)
      c.in-Some-get_mut.ensures.value
      (subst (λ (b : InsertionView). AddsToBoth c.in-Some.below.now nl c.in-Some-get_mut.above.now
      nh (low_part b) (high_part b) c.args.room c.in-Ok-Some.more) c.add.view_is
      (subst (λ (z : Cut). AddsToBoth c.in-Some.below.now nl c.in-Some-get_mut.above.now nh
      (record { first = o; second = None; from = f; to = last; value = v })
      (record { first = None; second = q; from = z; to = t; value = v }) c.args.room
      c.in-Ok-Some.more) c.new-least.ensures
      (subst (λ (z : Cut). AddsToBoth c.in-Some.below.now nl c.in-Some-get_mut.above.now nh
      (record { first = o; second = None; from = f; to = z; value = v })
      (record { first = None; second = q; from = c.new-least.result; to = t; value = v })
      c.args.room c.in-Ok-Some.more) c.new-last.ensures
      (both_reported NoMemory c.in-Some.below.now nl c.in-Some-get_mut.above.now nh
      (record { first = o; second = None; from = f; to = c.new-last.result; value = v })
      (record { first = None; second = q; from = c.new-least.result; to = t; value = v })
      c.args.room c.in-Ok-Some.field-0 c.in-Ok-Some.more c.in-Ok-Some.field-0-is
      c.in-Ok-Some.ensures.reported)))))

  starts : Le (start_of ns) c.args.add.now.from
  starts = subst (λ (b : InsertionView). Le (start_of ns) b.from) c.add.view_is
      (subst (λ (xs : List Node). Le (start_of xs) f) c.in-Some.ensures.value
      (sym c.starts_above.ensures ∙ c.if-starts_above.false))

  reaches : Lt (start_of ms) c.args.add.now.to
  reaches = subst (λ (z : Cut). Lt z c.args.add.now.to)
      (lazy-start c.args.high.now.aggregate.lazy ms) c.requires.reaches

  across : IsAcrossReported ns nl ms nh c.args.add.now c.args.room (Some c.in-Ok-Some.more)
  across = ends_across ns nl ms nh c.args.add.now c.args.room c.in-Ok-Some.more fits starts reaches
      both

pub returns-clause-reported : goal.returns-clause-reported
returns-clause-reported c =
    let k = (goal.at.returns-clause-reported c).After-reach-2 in
    let p = c.args.low.now.aggregate.lazy in
    let r = c.args.high.now.aggregate.lazy in
    let reported = across_lazy (Some c.in-Ok-Some.more) (ns k) (nl k) (ms k) (nh k) c.args.add.now
    c.args.room p r c.requires.low.sorted c.requires.high.sorted (across k) in
    subst (λ (u : Option ValueView). IsAcrossReported (with_lazy p (ns k)) (with_lazy u (nl k))
    (with_lazy r (ms k)) (with_lazy c.reach-2.new.self.lazy (nh k)) c.args.add.now c.args.room
    (Some c.in-Ok-Some.more)) (sym c.reach.ensures.lazy)
    (subst (λ (u : Option ValueView). IsAcrossReported (with_lazy p (ns k)) (with_lazy p (nl k))
    (with_lazy r (ms k)) (with_lazy u (nh k)) c.args.add.now c.args.room
    (Some c.in-Ok-Some.more)) (sym c.reach-2.ensures.lazy) reported)

pub returns-clause-low : goal.returns-clause-low
returns-clause-low c =
    let k = (goal.at.returns-clause-low c).After-reach-2 in
    let s = c.args.low.now.aggregate in
    let few : length (ns k) < 64 = omega
    (arith, c.if-len-ge-LEAF_NODES.false, c.len.ensures, ap length c.in-Some.ensures.value) in
    record {
      sizes = λ h. absurd (true≢false h);
      whole = leaf_whole c.reach.new.self (nl k)
          (few_with_one (ns k) (nl k) (low_part c.args.add.now) c.args.room (both k).more_low
          c.requires.low.whole.leaf few (both k).adds_low)
          (reported_as s.start c.reach.new.self.start _ c.reach.new.self.joint s.lazy
          c.reach.new.self.lazy (nl k) c.reach.ensures.start
          (c.reach.ensures.joint ∙
          ap (λ (b : InsertionView). joint s.joint (b.value ∷ [])) c.add.view_is)
          c.reach.ensures.lazy
          (reported_across_low (Some c.in-Ok-Some.more) s.start s.joint (ns k) (nl k) (ms k) (nh k)
          c.args.add.now c.args.room s.lazy c.requires.low.sorted (fits k).0 (across k)
          c.requires.low.whole.reported));
    }

pub returns-clause-high : goal.returns-clause-high
returns-clause-high c =
    let k = (goal.at.returns-clause-high c).After-reach-2 in
    let s = c.args.high.now.aggregate in
    let few : length (ms k) < 64 = omega (
      arith,
      c.if-len-ge-LEAF_NODES-2.false,
      c.len-else-len-ge-LEAF_NODES.ensures,
      ap length c.in-Some-get_mut.ensures.value,
    ) in
    record {
      sizes = λ h. absurd (true≢false h);
      whole = leaf_whole c.reach-2.new.self (nh k)
          (few_with_one (ms k) (nh k) (high_part c.args.add.now) c.args.room (both k).more_high
          c.requires.high.whole.leaf few (both k).adds_high)
          (reported_as s.start c.reach-2.new.self.start _ c.reach-2.new.self.joint s.lazy
          c.reach-2.new.self.lazy (nh k) c.reach-2.ensures.start
          (c.reach-2.ensures.joint ∙
          ap (λ (b : InsertionView). joint s.joint (b.value ∷ [])) c.add.view_is)
          c.reach-2.ensures.lazy
          (reported_across_high (Some c.in-Ok-Some.more) s.start s.joint (ns k) (nl k) (ms k) (nh k)
          c.args.add.now c.args.room s.lazy c.requires.high.sorted (fits k).0 c.requires.reaches
          (across k) c.requires.high.whole.reported));
    }
