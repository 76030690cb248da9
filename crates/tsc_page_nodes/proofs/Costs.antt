-- What nodes cost.
use Rattle.std.proofs.Common.{◌≡◌, ◌∙◌, refl, ap, ℕ, zero, suc, ◌+◌, ◌*◌, ◌≤◌, List, [], ◌∷◌, ◌++◌, length, arith}
use Rattle.std.specs.Prelude.{Option, Some, None}
use Rattle.std.specs.List.{insert}
use Rattle.std.proofs.lemmas.List.{map-append}
use Rattle.std.proofs.lemmas.List.Sums.{sum_by-cons, sum_by-append, sum_by-insert}
use Rattle.tsc_time.specs.Time.{zero_time}
use Rattle.tsc_time.specs.ValueView.{ValueView, unowned}
use Rattle.tsc_span.specs.Span.{KeyBytes, SpanView, key_cost, cost_of}
use Rattle.tsc_page_nodes.specs.Nodes.{Node, node_keys, nodes_cost, found_cost, new_cost, with_new, node_in_gap, gap_value, raise_nodes}
use Rattle.tsc_page_nodes.proofs.Edits.{raise_nodes-keys}

-- each node costs 32 bytes at the least
pub node_costs : (ns : List Node) → 32 * length ns ≤ nodes_cost ns
node_costs [] = omega arith
node_costs (n ∷ ns) = omega (arith, node_costs ns, sum_by-cons key_cost n.key (node_keys ns))

pub cost-raised : (s : SpanView) (v : ValueView) (ns : List Node) →
    nodes_cost (raise_nodes s v ns) ≡ nodes_cost ns
cost-raised s v ns = ap cost_of (raise_nodes-keys s v ns)

pub cost-append : (xs ys : List Node) → nodes_cost (xs ++ ys) ≡ nodes_cost xs + nodes_cost ys
cost-append xs ys = ap cost_of (map-append (λ (n : Node). n.key) xs ys) ∙
    sum_by-append key_cost (node_keys xs) (node_keys ys)

-- a new node adds what its key costs
pub cost-new : (ns : List Node) (g : Option (ℕ × KeyBytes)) →
    nodes_cost (with_new ns g) ≡ nodes_cost ns + found_cost g
cost-new ns None = omega arith
cost-new ns (Some f) = ap cost_of (keys ns f.0) ∙ sum_by-insert key_cost (node_keys ns) f.0 f.1
  where
    n : Node
    n = node_in_gap f.1 (gap_value (unowned zero_time) ns f.0)

    keys : (ms : List Node) (i : ℕ) → node_keys (insert ms i n) ≡ insert (node_keys ms) i f.1
    keys ms zero = refl
    keys [] (suc i) = refl
    keys (m ∷ ms) (suc i) = ap (λ ks. m.key ∷ ks) (keys ms i)

-- and two what both do
pub cost-made : (ns : List Node) (h g : Option (ℕ × KeyBytes)) →
    nodes_cost (with_new (with_new ns g) h) ≡ nodes_cost ns + new_cost h g
cost-made ns h g = omega (arith, cost-new (with_new ns g) h, cost-new ns g)
