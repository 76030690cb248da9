-- A value that is added at a single key.
use Rattle.std.proofs.Common.{◌≡◌, ◌∙◌, refl, sym, ap, subst, ℕ, zero, suc, ◌+◌, ◌<◌, ◌≤◌, List, [], ◌∷◌, length, get_or, set, arith}
use Rattle.std.specs.Prelude.{Some, None, Ok}
use Rattle.tsc_time.specs.ValueView.{ValueView}
use Rattle.tsc_time.specs.Joint.{joint}
use Rattle.tsc_span.specs.Span.{KeyBytes, before, after, point, key_cost}
use Rattle.tsc_page_nodes.specs.declared.nodes.Values.{Values}
use Rattle.tsc_page_nodes.specs.declared.nodes.Growth.{Growth}
use Rattle.tsc_page_nodes.specs.Nodes.{Node, next_cut, node_stretches, paired, IsSorted, StandsAt, FallsAt, with_new, raise_nodes, nodes_cost}
use Rattle.tsc_page_nodes.specs.KeyAdds.{AddsAtKey}
use Rattle.tsc_span.proofs.CutOrder.{Lt, Le, Le-itself, Le-from_Lt, Lt-chain, before-after}
use Rattle.tsc_page_nodes.proofs.Indices.{indices_found, sorted_at}
use Rattle.tsc_page_nodes.proofs.Apart.{key_changed}
use Rattle.tsc_page_nodes.proofs.RaisedNodes.{ChangesIndices, key_raised, gap_raised, none_changed, both_changed}
use Rattle.tsc_page_nodes.proofs.Edits.{raise_nodes-length}
use Rattle.tsc_page_nodes.proofs.Costs.{cost-raised, cost-new}
use Rattle.tsc_page_nodes.proofs.NewKeys.{new_fits, with_new-length}
use Rattle.tsc_page_nodes.proofs.Searches.{known_at, new_at}

-- where a key stands its value alone is raised
pub raised_there : (ks : List KeyBytes) (vs : List Values) (k : KeyBytes) (i : ℕ) (v : ValueView)
    (n d : Values) → length ks ≡ length vs → IsSorted (paired ks vs) → StandsAt (paired ks vs) k i →
    i < length vs
    → n ≡ record { value = joint (get_or vs i d).value (v ∷ []); gap = (get_or vs i d).gap } →
    paired ks (set vs i n) ≡ raise_nodes (point k) v (paired ks vs)
raised_there ks vs k i v n d same sorted at within is =
    let ns : List Node = paired ks vs in
    let new : List Node = paired ks (set vs i n) in
    let found = indices_found ns sorted (before k) (after k) (before-after k) (Ok i) (Ok i) at at in
    let changed : ChangesIndices (key_raised v) ns new i (i + 1) =
    key_changed v ns ks vs i i n d same (omega arith) within is
    (none_changed (key_raised v) ns i) in
    let next : i + 1 ≡ suc i = omega arith in
    both_changed (point k) v ns new new i (suc i) i i found.0 found.1
    (subst (ChangesIndices (key_raised v) ns new i) next changed)
    (none_changed (gap_raised v) new i)

-- a key that stands among nodes isn't below them
stands_low : (ns : List Node) (k : KeyBytes) (i : ℕ) → IsSorted ns → StandsAt ns k i →
    Le (next_cut (node_stretches ns)) (before k)
stands_low [] k i sorted at = absurd (omega (arith, at.bound))
stands_low (n ∷ ns) k zero sorted at =
    subst (λ (q : KeyBytes). Le (before n.key) (before q)) (at.key n) (Le-itself (before n.key))
stands_low (n ∷ ns) k (suc i) sorted at =
    let up : Lt (after n.key) (before (get_or ns i n).key) =
    sorted_at (n ∷ ns) sorted zero (suc i) n (omega arith) at.bound in
    subst (λ (q : KeyBytes). Le (before n.key) (before q)) (at.key n)
    (Le-from_Lt (before n.key) (before (get_or ns i n).key)
    (Lt-chain (before n.key) (after n.key) (before (get_or ns i n).key)
    (before-after n.key) up))

-- nor is one that falls behind the first of them
falls_low : (ns : List Node) (k : KeyBytes) (i : ℕ) → 1 ≤ i → FallsAt ns k i →
    Le (next_cut (node_stretches ns)) (before k)
falls_low [] k i some falls = absurd (omega (arith, some, falls.low.bound))
falls_low (n ∷ ns) k i some falls =
    Le-from_Lt (before n.key) (before k)
    (Lt-chain (before n.key) (after n.key) (before k) (before-after n.key)
    (falls.low.below zero n (omega (arith, some))))

-- a key that has a node
pub known_added : (ns new : List Node) (k : KeyBytes) (v : ValueView) (i : ℕ) (room : Growth) →
    IsSorted ns → StandsAt ns k i → new ≡ raise_nodes (point k) v ns →
    AddsAtKey ns new (record { key = k; value = v }) room (record { nodes = 0; bytes = 0 })
known_added ns new k v i room sorted at is = record {
  low = stands_low ns k i sorted at;
  adds = record {
    mid = ns;
    made =
        record {
          lower = None;
          upper = None;
          has_upper = tt;
          has_lower = known_at ns k i at;
          nodes = refl;
        };
    raised = is;
  };
  grown = record {
    count = omega (arith, ap length is, raise_nodes-length (point k) v ns);
    cost = omega (arith, ap nodes_cost is, cost-raised (point k) v ns);
  };
  within = (omega arith, omega arith);
}

-- and one that gets one
pub new_added : (ns new : List Node) (k : KeyBytes) (v : ValueView) (i cost : ℕ) (room : Growth) →
    1 ≤ i → FallsAt ns k i → cost ≡ key_cost k → 1 ≤ room.nodes → cost ≤ room.bytes →
    new ≡ raise_nodes (point k) v (with_new ns (Some (i, k)))
    → AddsAtKey ns new (record { key = k; value = v }) room (record { nodes = 1; bytes = cost })
new_added ns new k v i cost room some falls costs nodes bytes is =
    let mid : List Node = with_new ns (Some (i, k)) in
    let fresh = new_at ns k i k refl falls in
    record {
      low = falls_low ns k i some falls;
      adds = record {
        mid = mid;
        made =
            record {
              lower = Some (i, k);
              upper = None;
              has_upper = tt;
              has_lower = fresh;
              nodes = refl;
            };
        raised = is;
      };
      grown = record {
        count = ap length is ∙ raise_nodes-length (point k) v mid ∙
            with_new-length ns (Some (i, k)) (new_fits ns (Some k) (Some (i, k)) fresh);
        cost = ap nodes_cost is ∙ cost-raised (point k) v mid ∙ cost-new ns (Some (i, k)) ∙
            ap (λ (c : ℕ). nodes_cost ns + c) (sym costs);
      };
      within = (nodes, bytes);
    }
