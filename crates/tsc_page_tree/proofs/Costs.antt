-- What the nodes of a page cost with those of more keys.
use Rattle.std.proofs.Common.{◌≡◌, ◌∙◌, sym, ap, ℕ, ◌+◌, ◌≤◌, Bool, true, false, cond, nat_le, List, [], ◌∷◌, ◌++◌, length, arith}
use mathlib.Core.Bool.{true≢false}
use Rattle.std.specs.Prelude.{Option, Some, None, not}
use Rattle.std.specs.Option.{option_to_list}
use Rattle.std.proofs.lemmas.Bool.{le-leb}
use Rattle.std.proofs.lemmas.List.Sums.{sum_by-cons}
use Rattle.tsc_time.specs.Time.{zero_time}
use Rattle.tsc_time.specs.ValueView.{unowned}
use Rattle.tsc_span.specs.Span.{KeyBytes, SpanView, key_cost, end_keys}
use Rattle.tsc_page_model.specs.Page.{cost_distinct}
use Rattle.tsc_page_model.specs.PageView.{is_in, new_weight}
use Rattle.tsc_page_nodes.specs.Nodes.{Node, node_keys, nodes_cost, found_cost, GrowsBy, IsSorted, IsNewKey, with_new, node_in_gap}
use Rattle.tsc_page_tree.specs.Leaves.{HasNode}
use Rattle.tsc_page_nodes.proofs.Costs.{cost-new}
use Rattle.tsc_page_nodes.proofs.NewKeys.{with_new-length, new_fits}
use Rattle.tsc_page_nodes.proofs.Standing.{weigh_with_ends}

-- what nodes cost with the end keys of a span that are new
pub cost_with_ends : (ns : List Node) (o p : Option KeyBytes) (s : SpanView) (bytes : ℕ) →
    IsSorted ns → option_to_list o ++ option_to_list p ≡ end_keys s → bytes ≡ nodes_cost ns
    → bytes + new_weight key_cost (node_keys ns) o + new_weight key_cost (node_keys ns) p ≡
    cost_distinct (node_keys ns ++ end_keys s)
cost_with_ends ns o p s bytes sorted keys is =
    omega (arith, is, weigh_with_ends key_cost ns o p s sorted keys)

-- so what is told of the room for two keys holds of the span
pub room_reported : (ns : List Node) (o p : Option KeyBytes) (s : SpanView) (bytes most : ℕ)
    (has : Bool) → IsSorted ns → option_to_list o ++ option_to_list p ≡ end_keys s →
    bytes ≡ nodes_cost ns
    → has ≡ nat_le (bytes + new_weight key_cost (node_keys ns) o + new_weight key_cost
    (node_keys ns) p) most → has ≡ nat_le (cost_distinct (node_keys ns ++ end_keys s)) most
room_reported ns o p s bytes most has sorted keys is reported =
    reported ∙ ap (λ (n : ℕ). nat_le n most) (cost_with_ends ns o p s bytes sorted keys is)

-- a key costs no more where it may be known
new_up_to : (ks : List KeyBytes) (o : Option KeyBytes) →
    new_weight key_cost ks o ≤ new_weight key_cost [] o
new_up_to ks None = omega arith
new_up_to ks (Some k) = by (is_in k ks)
  where
    by : (b : Bool) → cond b 0 (key_cost k) ≤ key_cost k
    by true = omega arith
    by false = omega arith

-- where there is room for both keys there is room for the new ones
pub fits_anyway : (ks : List KeyBytes) (o p : Option KeyBytes) (bytes most one two : ℕ) →
    one ≡ new_weight key_cost [] o → two ≡ new_weight key_cost [] p → bytes + one + two ≤ most
    → true ≡ nat_le (bytes + new_weight key_cost ks o + new_weight key_cost ks p) most
fits_anyway ks o p bytes most one two is also few =
    sym (le-leb (bytes + new_weight key_cost ks o + new_weight key_cost ks p) most
    (omega (arith, few, is, also, new_up_to ks o, new_up_to ks p)))

-- a key that is not found has a place
found_for : (ns : List Node) (k : KeyBytes) (f : Option (ℕ × KeyBytes)) → IsNewKey ns (Some k) f →
    not (is_in k (node_keys ns)) ≡ true → (length (with_new ns f) ≡ length ns + 1) ×
    (found_cost f ≡ key_cost k)
found_for ns k None new fresh = absurd (differ (is_in k (node_keys ns)) new fresh)
  where
    differ : (b : Bool) → b ≡ true → not b ≡ true → ⊥
    differ true g h = true≢false (sym h)
    differ false g h = true≢false (sym g)
found_for ns k (Some f) new fresh =
    (with_new-length ns (Some f) (new_fits ns (Some k) (Some f) new), ap key_cost new.0)

-- what the node of a new key makes of nodes
pub grown_by_node : (old new : List Node) (k : KeyBytes) (bytes : ℕ) → HasNode old new k →
    not (is_in k (node_keys old)) ≡ true → bytes ≡ key_cost k →
    GrowsBy old new (record { nodes = 1; bytes = bytes })
grown_by_node old new k bytes made fresh is =
    let found = found_for old k made.found made.at fresh in
    record {
      count = ap (λ (ns : List Node). length ns) made.nodes ∙ found.0;
      cost = omega (arith, ap nodes_cost made.nodes, cost-new old made.found, found.1, is);
    }

-- and of none
pub grown_by_first : (old new : List Node) (k : KeyBytes) (bytes : ℕ) → old ≡ [] →
    new ≡ node_in_gap k (unowned zero_time) ∷ [] → bytes ≡ key_cost k →
    GrowsBy old new (record { nodes = 1; bytes = bytes })
grown_by_first old new k bytes none one is = record {
  count = omega (
    arith,
    ap (λ (ns : List Node). length ns) none,
    ap (λ (ns : List Node). length ns) one,
  );
  cost = omega (arith, ap nodes_cost none, ap nodes_cost one, sum_by-cons key_cost k [], is);
}

-- nothing comes in
pub grown_by_none : (ns : List Node) → GrowsBy ns ns (record { nodes = 0; bytes = 0 })
grown_by_none ns = record { count = omega arith; cost = omega arith }
