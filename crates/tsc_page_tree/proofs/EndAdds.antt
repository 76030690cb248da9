-- An Add whose end keys come in in two subtrees, among others.
use Rattle.std.proofs.Common.{◌≡◌, ◌⊎◌, inl, inr, ◌∙◌, refl, sym, ap, subst, cond, ℕ, ◌≤◌, List, [], ◌++◌, length, arith}
use Rattle.std.specs.Prelude.{Option, None}
use Rattle.std.proofs.lemmas.List.{length-append}
use Rattle.tsc_span.specs.Span.{KeyBytes, Cut, between, is_below}
use Rattle.tsc_page_nodes.specs.declared.nodes.Growth.{Growth}
use Rattle.tsc_page_nodes.specs.Nodes.{Node, nodes_cost, IsSorted, raise_nodes, with_new}
use Rattle.tsc_page_nodes.specs.Insertions.{InsertionView, LiesAt}
use Rattle.tsc_page_tree.specs.Leaves.{start_of}
use Rattle.tsc_page_tree.specs.Lazy.{everything, AddsSome}
use Rattle.tsc_page_tree.specs.Across.{AreRaisedAcross, MakesOne}
use Rattle.tsc_span.proofs.CutOrder.{Lt, Le}
use Rattle.tsc_page_nodes.proofs.Costs.{cost-raised}
use Rattle.tsc_page_nodes.proofs.Edits.{raise_nodes-length}
use Rattle.tsc_page_tree.proofs.Joins.{sorted_right}
use Rattle.tsc_page_tree.proofs.LeafAdds.{shifted, known_low}
use Rattle.tsc_page_tree.proofs.SubtreeAcross.{handed_on, raised_from, raised_up_to, raised_over}
use Rattle.tsc_page_tree.proofs.EndNodes.{start_one, sorted_one, one_left, one_right, second_left}

-- there are some of two lists where there are of one
some_left : (xs ys : List Node) → 1 ≤ length xs → 1 ≤ length (xs ++ ys)
some_left xs ys some = omega (arith, some, length-append xs ys)

some_right : (xs ys : List Node) → 1 ≤ length ys → 1 ≤ length (xs ++ ys)
some_right xs ys some = omega (arith, some, length-append xs ys)

-- An Add over several subtrees of one list, whose end keys come in in the first and in the last of
-- them.
module _ (front low mid high behind new_low new_mid new_high : List Node) (a : InsertionView)
    (q : Option KeyBytes) (room : ℕ) (more : Growth) (some_low : 1 ≤ length low)
    (some_high : 1 ≤ length high) (sorted : IsSorted (front ++ (low ++ (mid ++ (high ++ behind)))))
    (start : (front ≡ []) ⊎ Le (start_of (low ++ (mid ++ (high ++ behind)))) a.from)
    (below : Lt a.from (start_of (mid ++ (high ++ behind))))
    (reaches : Lt (start_of (high ++ behind)) a.to) (stops : Le a.to (start_of behind))
    (first : LiesAt a.first a.from) (second : LiesAt a.second a.to)
    (is : q ≡ cond (is_below a.to (start_of behind)) a.second None)
    (reported : AreRaisedAcross low new_low high new_high (handed_on a q) more) where
  abbrev rest : List Node
  rest = mid ++ (high ++ behind)

  abbrev rest_new : List Node
  rest_new = mid ++ (reported.mid_high ++ behind)

  abbrev made : List Node
  made = front ++ (reported.mid_low ++ rest_new)

  some_rest : 1 ≤ length rest
  some_rest = some_right mid (high ++ behind) (some_left high behind some_high)

  sorted_subtree : IsSorted (low ++ rest)
  sorted_subtree = sorted_right front (low ++ rest) sorted

  sorted_rest : IsSorted rest
  sorted_rest = sorted_right low rest sorted_subtree

  upper_here : MakesOne (high ++ behind) (reported.mid_high ++ behind) a.second reported.upper reported.more_high
  upper_here = second_left a q high reported.mid_high behind reported.upper reported.more_high
      (is_below a.to (start_of behind)) some_high refl is second stops reported.second

  upper_rest : MakesOne rest rest_new a.second (shifted mid reported.upper) reported.more_high
  upper_rest = one_right mid (high ++ behind) (reported.mid_high ++ behind) a.second reported.upper
      reported.more_high (some_left high behind some_high) sorted_rest upper_here

  upper_low : MakesOne (low ++ rest) (low ++ rest_new) a.second
      (shifted low (shifted mid reported.upper)) reported.more_high
  upper_low = one_right low rest rest_new a.second (shifted mid reported.upper) reported.more_high
      some_rest sorted_subtree upper_rest

  upper_all : MakesOne (front ++ (low ++ rest)) (front ++ (low ++ rest_new)) a.second
      (shifted front (shifted low (shifted mid reported.upper))) reported.more_high
  upper_all = one_right front (low ++ rest) (low ++ rest_new) a.second
      (shifted low (shifted mid reported.upper)) reported.more_high (some_left low rest some_low)
      sorted upper_low

  lower_all : MakesOne (front ++ (low ++ rest)) (front ++ (reported.mid_low ++ rest)) a.first
      (shifted front reported.lower) reported.more_low
  lower_all = one_right front (low ++ rest) (reported.mid_low ++ rest) a.first reported.lower
      reported.more_low
      (some_left low rest some_low) sorted (one_left low reported.mid_low rest a.first
      reported.lower
      reported.more_low some_low (known_low rest a.from a.first below first) reported.first)

  sorted_upper : IsSorted (front ++ (low ++ rest_new))
  sorted_upper = sorted_one (front ++ (low ++ rest)) (front ++ (low ++ rest_new)) a.second
      (shifted front (shifted low (shifted mid reported.upper))) reported.more_high sorted upper_all

  below_new : Lt a.from (start_of rest_new)
  below_new = subst (λ (c : Cut). Lt a.from c) (sym (start_one rest rest_new a.second
      (shifted mid reported.upper) reported.more_high some_rest upper_rest)) below

  lower_here : MakesOne (low ++ rest_new) (reported.mid_low ++ rest_new) a.first reported.lower reported.more_low
  lower_here = one_left low reported.mid_low rest_new a.first reported.lower reported.more_low
      some_low (known_low rest_new a.from a.first below_new first) reported.first

  lower_made : MakesOne (front ++ (low ++ rest_new)) made a.first (shifted front reported.lower)
      reported.more_low
  lower_made = one_right front (low ++ rest_new) (reported.mid_low ++ rest_new) a.first
      reported.lower reported.more_low (some_left low rest_new some_low) sorted_upper lower_here

  sorted_made : IsSorted made
  sorted_made = sorted_one (front ++ (low ++ rest_new)) made a.first (shifted front reported.lower)
      reported.more_low sorted_upper lower_made

  start_same : start_of (reported.mid_low ++ rest_new) ≡ start_of (low ++ rest)
  start_same = start_one (low ++ rest_new) (reported.mid_low ++ rest_new) a.first reported.lower
      reported.more_low (some_left low rest_new some_low) lower_here ∙ start_one (low ++ rest)
      (low ++ rest_new) a.second (shifted low (shifted mid reported.upper)) reported.more_high
      (some_left low rest some_low) upper_low

  start_made : (front ≡ []) ⊎ Le (start_of (reported.mid_low ++ rest_new)) a.from
  start_made = elim start [
    | inl h ↦ inl h
    | inr h ↦ inr (subst (λ (c : Cut). Le c a.from) (sym start_same) h)
  ]

  reaches_made : Lt (start_of (reported.mid_high ++ behind)) a.to
  reaches_made = subst (λ (c : Cut). Lt c a.to) (sym (start_one (high ++ behind)
      (reported.mid_high ++ behind) a.second reported.upper reported.more_high
      (some_left high behind some_high) upper_here)) reaches

  pub reported_over : more.bytes ≤ room → new_mid ≡ raise_nodes everything a.value mid →
      AddsSome (front ++ (low ++ (mid ++ (high ++ behind))))
      (front ++ (new_low ++ (new_mid ++ (new_high ++ behind)))) a room more
  reported_over within wholly =
      let raised = raised_over front reported.mid_low mid reported.mid_high behind new_low new_mid
      new_high
      a.from a.to a.value sorted_made start_made below_new reaches_made stops reported.raised_low
      wholly reported.raised_high in
      record {
        adds = record {
          mid = made;
          made = record {
            lower = shifted front reported.lower;
            upper = shifted front (shifted low (shifted mid reported.upper));
            has_upper = upper_all.is_new;
            has_lower = lower_all.is_new;
            nodes = lower_made.nodes ∙
                ap (λ (ns : List Node). with_new ns (shifted front reported.lower)) upper_all.nodes;
          };
          raised = raised;
        };
        grown = record {
          count = omega (
            arith,
            ap length raised,
            raise_nodes-length (between a.from a.to) a.value made,
            lower_made.grown.count,
            upper_all.grown.count,
            reported.grown.nodes,
          );
          cost = omega (
            arith,
            ap nodes_cost raised,
            cost-raised (between a.from a.to) a.value made,
            lower_made.grown.cost,
            upper_all.grown.cost,
            reported.grown.bytes,
          );
        };
        within = within;
      }

-- The same where the first stands in one list, and the last in another one behind it.
pub reported_two : (front low mid others high behind new_low new_mid new_others new_high : List
    Node)
    (a : InsertionView) (q : Option KeyBytes) (more : Growth) → 1 ≤ length low → 1 ≤ length high →
    IsSorted (front ++ (low ++ mid)) →
    IsSorted (others ++ (high ++ behind)) → (front ≡ []) ⊎ Le (start_of (low ++ mid)) a.from
    → Lt a.from (start_of mid) → Lt (start_of (high ++ behind)) a.to → Le a.to (start_of behind) →
    LiesAt a.first a.from → LiesAt a.second a.to →
    q ≡ cond (is_below a.to (start_of behind)) a.second None
    → AreRaisedAcross low new_low high new_high (handed_on a q) more →
    new_mid ≡ raise_nodes everything a.value mid →
    new_others ≡ raise_nodes everything a.value others
    → AreRaisedAcross (front ++ (low ++ mid)) (front ++ (new_low ++ new_mid))
    (others ++ (high ++ behind)) (new_others ++ (new_high ++ behind)) a more
reported_two front low mid others high behind new_low new_mid new_others new_high a q more some_low
    some_high low_sorted high_sorted start below reaches stops first second is reported wholly all =
    let lower_here = one_left low reported.mid_low mid a.first reported.lower reported.more_low
    some_low
    (known_low mid a.from a.first below first) reported.first in
    let lower_all = one_right front (low ++ mid) (reported.mid_low ++ mid) a.first reported.lower
    reported.more_low (some_left low mid some_low) low_sorted lower_here in
    let upper_here = second_left a q high reported.mid_high behind reported.upper reported.more_high
    (is_below a.to (start_of behind)) some_high refl is second stops reported.second in
    let upper_all = one_right others (high ++ behind) (reported.mid_high ++ behind) a.second
    reported.upper
    reported.more_high (some_left high behind some_high) high_sorted upper_here in
    let low_made = sorted_one (front ++ (low ++ mid)) (front ++ (reported.mid_low ++ mid)) a.first
    (shifted front reported.lower) reported.more_low low_sorted lower_all in
    let high_made = sorted_one (others ++ (high ++ behind))
    (others ++ (reported.mid_high ++ behind))
    a.second (shifted others reported.upper) reported.more_high high_sorted upper_all in
    let low_start = start_one (low ++ mid) (reported.mid_low ++ mid) a.first reported.lower
    reported.more_low
    (some_left low mid some_low) lower_here in
    let high_start = start_one (high ++ behind) (reported.mid_high ++ behind) a.second
    reported.upper
    reported.more_high (some_left high behind some_high) upper_here in
    let start_made : (front ≡ []) ⊎ Le (start_of (reported.mid_low ++ mid)) a.from =
    elim start [
      | inl h ↦ inl h
      | inr h ↦ inr (subst (λ (c : Cut). Le c a.from) (sym low_start) h)
    ] in
    record {
      mid_low = front ++ (reported.mid_low ++ mid);
      mid_high = others ++ (reported.mid_high ++ behind);
      lower = shifted front reported.lower;
      upper = shifted others reported.upper;
      more_low = reported.more_low;
      more_high = reported.more_high;
      first = lower_all;
      second = upper_all;
      raised_low = raised_from front reported.mid_low mid new_low new_mid a.from a.value low_made
          start_made below reported.raised_low wholly;
      raised_high = raised_up_to others reported.mid_high behind new_others new_high a.to a.value
          high_made (subst (λ (c : Cut). Lt c a.to) (sym high_start) reaches) stops all
          reported.raised_high;
      grown = reported.grown;
    }
