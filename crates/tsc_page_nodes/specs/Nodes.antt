-- How the code keeps a page: nodes in the order of their keys, each with the value of its key and
-- that of the gap up to the next node.
use Rattle.std.specs.Prelude.{◌≡◌, ℕ, zero, suc, ◌<◌, ◌≤◌, List, [], ◌∷◌, length, map, drop, slice_index_or, true, false, ◌+◌, ◌-◌, Option, Some, None, is_some, Result, Ok, Err, ◌||◌, if◌then◌else◌}
use Rattle.std.specs.List.{insert}
use Rattle.tsc_time.specs.Time.{Time, zero_time}
use Rattle.tsc_time.specs.ValueView.{ValueView, unowned}
use Rattle.tsc_time.specs.Joint.{joint, joint_above}
use Rattle.tsc_span.specs.Span.{KeyBytes, Cut, before, after, last, SpanView, between, overlaps, is_below, key_cost, cost_of}
use Rattle.tsc_page_model.specs.Page.{Mark, values_on}
use Rattle.tsc_page_nodes.specs.declared.nodes.Values.{Values}
use Rattle.tsc_page_nodes.specs.declared.nodes.Growth.{Growth}
use Rattle.tsc_page_model.specs.PageView.{PageView, is_in, is_new_among}

-- a key with its value, and the value of the open gap up to the next node
pub record Node : Type 0 where
  pub key : KeyBytes
  pub value : ValueView
  pub gap : ValueView

-- the nodes of keys and of their values, which stand in two lists
abbrev pub paired : List KeyBytes → List Values → List Node
paired [] vs = []
paired (k ∷ ks) [] = []
paired (k ∷ ks) (v ∷ vs) = record { key = k; value = v.value; gap = v.gap } ∷ paired ks vs

-- A value, and the cut from which it holds, up to the cut of the stretch after it.
pub record Stretch : Type 0 where
  pub from : Cut
  pub value : ValueView

-- the cut at which a stretch stops, where these come after it
abbrev pub next_cut : List Stretch → Cut
next_cut [] = last
next_cut (x ∷ xs) = x.from

-- a node's key is one stretch, and the gap after it is another
abbrev pub node_stretches : List Node → List Stretch
node_stretches [] = []
node_stretches (n ∷ ns) = record { from = before n.key; value = n.value } ∷
    record { from = after n.key; value = n.gap } ∷ node_stretches ns

-- below the first node nothing was added
abbrev pub below_nodes : Stretch
below_nodes = record { from = before []; value = unowned zero_time }

-- the stretches from the least key on
abbrev pub stretches : List Node → List Stretch
stretches nodes = below_nodes ∷ node_stretches nodes

-- each stretch as a span with its value
abbrev pub stretch_spans : List Stretch → List Mark
stretch_spans [] = []
stretch_spans (x ∷ xs) = record { span = between x.from (next_cut xs); value = x.value } ∷
    stretch_spans xs

-- the keys of nodes
abbrev pub node_keys : List Node → List KeyBytes
node_keys nodes = map (λ n. n.key) nodes

-- what can be seen of a page by its size, its top, its nodes and how many of them each of its
-- leaves has
abbrev pub page_of : ℕ → Time → List Node → List ℕ → PageView
page_of size t nodes leaves = record {
  size = size;
  top = t;
  keys = node_keys nodes;
  spans = stretch_spans (stretches nodes);
  leaves = leaves;
}

-- what nodes answer to a span
abbrev pub answer_of : List Node → SpanView → ValueView
answer_of nodes s = joint_above zero_time (values_on s (stretch_spans (stretches nodes)))

-- each node's key is below the next one's
abbrev pub IsSorted : List Node → Type 0
IsSorted [] = Unit {0}
IsSorted (n ∷ ns) = (is_below (after n.key) (next_cut (node_stretches ns)) ≡ true) × IsSorted ns

-- Keys and values that stand in two lists of one length, in the order of the keys.
pub record ArePaired (ks : List KeyBytes) (vs : List Values) : Type 0 where
  pub same : length ks ≡ length vs
  pub sorted : IsSorted (paired ks vs)

-- the value of a stretch that stops at a cut, once a value was added to a span
abbrev pub raised : SpanView → ValueView → Stretch → Cut → ValueView
raised span v x end = if overlaps (between x.from end) span then joint x.value (v ∷ []) else x.value

-- the stretches with a value added to those that overlap a span
abbrev pub raise : SpanView → ValueView → List Stretch → List Stretch
raise span v [] = []
raise span v (x ∷ xs) = record { from = x.from; value = raised span v x (next_cut xs) } ∷
    raise span v xs

-- nodes raised by a value on a span
abbrev pub raise_nodes : SpanView → ValueView → List Node → List Node
raise_nodes span v [] = []
raise_nodes span v (n ∷ ns) = record {
  key = n.key;
  value = raised span v (record { from = before n.key; value = n.value }) (after n.key);
  gap = raised span v (record { from = after n.key; value = n.gap }) (next_cut (node_stretches ns));
} ∷ raise_nodes span v ns

-- the value of the gap at a place among nodes that come after a stretch
abbrev pub gap_value : ValueView → List Node → ℕ → ValueView
gap_value v nodes zero = v
gap_value v [] (suc i) = v
gap_value v (n ∷ ns) (suc i) = gap_value n.gap ns i

-- a key fits at a place: it is above the nodes before it, and below those from there on
abbrev pub FitsAt : KeyBytes → Cut → List Node → ℕ → Type 0
FitsAt k low nodes zero = (is_below (before k) low ≡ false) ×
    (is_below (after k) (next_cut (node_stretches nodes)) ≡ true)
FitsAt k low [] (suc i) = ⊥
FitsAt k low (n ∷ ns) (suc i) = FitsAt k (after n.key) ns i

-- a new node with the value of its gap
abbrev pub node_in_gap : KeyBytes → ValueView → Node
node_in_gap k v = record { key = k; value = v; gap = v }

-- the two spans that a node begins: its key, and the gap after it
abbrev pub key_span : Node → SpanView
key_span n = between (before n.key) (after n.key)

abbrev pub gap_span : List Node → ℕ → Node → SpanView
gap_span nodes i n = between (after n.key) (next_cut (node_stretches (drop (suc i) nodes)))

-- The keys before a place are below another one.
pub record HasKeysBelow (nodes : List Node) (k : KeyBytes) (index : ℕ) : Type 0 where
  pub bound : index ≤ length nodes
  pub below : (i : ℕ) (d : Node) → i < index →
      is_below (after (slice_index_or nodes i d).key) (before k) ≡ true

-- A key stands at a place.
pub record StandsAt (nodes : List Node) (k : KeyBytes) (index : ℕ) : Type 0 where
  pub bound : index < length nodes
  pub key : (d : Node) → (slice_index_or nodes index d).key ≡ k

-- A key falls between those before a place and those from there on.
pub record FallsAt (nodes : List Node) (k : KeyBytes) (index : ℕ) : Type 0 where
  pub low : HasKeysBelow nodes k index
  pub high : (i : ℕ) (d : Node) → index ≤ i → i < length nodes →
      is_below (after k) (before (slice_index_or nodes i d).key) ≡ true

-- where a key stands, or else falls
abbrev pub IsFoundAt : List Node → KeyBytes → Result ℕ ℕ → Type 0
IsFoundAt nodes k (Ok i) = StandsAt nodes k i
IsFoundAt nodes k (Err i) = FallsAt nodes k i

-- where a cut lies: where its key does, or behind all
abbrev pub IsCutAt : List Node → Cut → Result ℕ ℕ → Type 0
IsCutAt nodes (before k) index = IsFoundAt nodes k index
IsCutAt nodes (after k) index = IsFoundAt nodes k index
IsCutAt nodes last index = index ≡ Err (length nodes)

-- the place of a node at which a cut lies, or before which it does
abbrev pub index_of : Result ℕ ℕ → ℕ
index_of (Ok i) = i
index_of (Err i) = i

-- the index of the first key above a cut
abbrev pub key_above : Result ℕ ℕ → Cut → ℕ
key_above (Ok i) (before k) = i
key_above (Ok i) (after k) = suc i
key_above (Ok i) last = i
key_above (Err i) c = i

-- the index of the first gap that stops above a cut
abbrev pub first_gap : Result ℕ ℕ → ℕ
first_gap (Ok i) = i
first_gap (Err i) = i - 1

-- A range of places that holds just those of the nodes whose key overlaps a span.
pub record HoldsKeysOn (nodes : List Node) (span : SpanView) (start end : ℕ) : Type 0 where
  pub order : start ≤ end
  pub bound : end ≤ length nodes
  pub within : (i : ℕ) (d : Node) → start ≤ i → i < end →
      overlaps (key_span (slice_index_or nodes i d)) span ≡ true
  pub below : (i : ℕ) (d : Node) → i < start →
      overlaps (key_span (slice_index_or nodes i d)) span ≡ false
  pub above : (i : ℕ) (d : Node) → end ≤ i → i < length nodes →
      overlaps (key_span (slice_index_or nodes i d)) span ≡ false

-- the nodes from a start to an end are those whose gap overlaps a span
pub record HoldsGapsOn (nodes : List Node) (span : SpanView) (start end : ℕ) : Type 0 where
  pub order : start ≤ end
  pub bound : end ≤ length nodes
  pub within : (i : ℕ) (d : Node) → start ≤ i → i < end →
      overlaps (gap_span nodes i (slice_index_or nodes i d)) span ≡ true
  pub below : (i : ℕ) (d : Node) → i < start →
      overlaps (gap_span nodes i (slice_index_or nodes i d)) span ≡ false
  pub above : (i : ℕ) (d : Node) → end ≤ i → i < length nodes →
      overlaps (gap_span nodes i (slice_index_or nodes i d)) span ≡ false

-- a new key with the place for it, or none where the key is a node's, or where there is none
abbrev pub IsNewKey : List Node → Option KeyBytes → Option (ℕ × KeyBytes) → Type 0
IsNewKey nodes None None = Unit {0}
IsNewKey nodes None (Some found) = ⊥
IsNewKey nodes (Some k) None = is_in k (node_keys nodes) ≡ true
IsNewKey nodes (Some k) (Some found) = (found.1 ≡ k) × FitsAt k (before []) nodes found.0 ×
    (found.0 ≤ length nodes)

-- where a key stands, or the place for it where it is new; nothing of no key
abbrev pub IsIndexReported : List Node → Option KeyBytes → Option (ℕ × KeyBytes) → Option ℕ → Type 0
IsIndexReported nodes None new reported = reported ≡ None
IsIndexReported nodes (Some k) None None = ⊥
IsIndexReported nodes (Some k) None (Some i) = StandsAt nodes k i
IsIndexReported nodes (Some k) (Some new) reported = reported ≡ Some new.0

-- where a key stands; nothing of no key
abbrev pub StandsWhereReported : List Node → Option KeyBytes → Option ℕ → Type 0
StandsWhereReported nodes None reported = reported ≡ None
StandsWhereReported nodes (Some k) None = ⊥
StandsWhereReported nodes (Some k) (Some i) = StandsAt nodes k i

-- each of two keys stands where it is told
abbrev pub BothStandWhereReported : List Node → Option KeyBytes → Option KeyBytes →
    (Option ℕ × Option ℕ) → Type 0
BothStandWhereReported nodes first second reported = StandsWhereReported nodes first reported.0 ×
    StandsWhereReported nodes second reported.1

-- a new key fits in its place
abbrev pub FitsIn : List Node → Option (ℕ × KeyBytes) → Type 0
FitsIn nodes None = Unit {0}
FitsIn nodes (Some new) = FitsAt new.1 (before []) nodes new.0 × (new.0 ≤ length nodes)

-- the nodes with one for a new key
abbrev pub with_new : List Node → Option (ℕ × KeyBytes) → List Node
with_new nodes None = nodes
with_new nodes (Some new) = insert nodes new.0
    (node_in_gap new.1 (gap_value (unowned zero_time) nodes new.0))

-- of two keys the first is the smaller
abbrev pub IsInOrder : Option KeyBytes → Option KeyBytes → Type 0
IsInOrder None second = Unit {0}
IsInOrder (Some k) None = Unit {0}
IsInOrder (Some k) (Some m) = is_below (after k) (before m) ≡ true

-- how many of two keys there are
abbrev pub new_count : Option (ℕ × KeyBytes) → Option (ℕ × KeyBytes) → ℕ
new_count lower upper = (if is_some lower then 1 else 0) + (if is_some upper then 1 else 0)

-- what a new key costs
abbrev pub found_cost : Option (ℕ × KeyBytes) → ℕ
found_cost None = 0
found_cost (Some new) = key_cost new.1

-- what two new keys cost
abbrev pub new_cost : Option (ℕ × KeyBytes) → Option (ℕ × KeyBytes) → ℕ
new_cost lower upper = found_cost lower + found_cost upper

-- what the keys of nodes cost together
abbrev pub nodes_cost : List Node → ℕ
nodes_cost nodes = cost_of (node_keys nodes)

-- Nodes that are `more.nodes` more than the old ones, with keys that cost `more.bytes` more.
pub record GrowsBy (old new : List Node) (more : Growth) : Type 0 where
  pub count : length new ≡ length old + more.nodes
  pub cost : nodes_cost new ≡ nodes_cost old + more.bytes

-- of two keys each has a node, where it is one
abbrev pub HasNodes : List Node → Option KeyBytes → Option KeyBytes → Type 0
HasNodes nodes first second = (is_new_among (node_keys nodes) first ≡ false) ×
    (is_new_among (node_keys nodes) second ≡ false)

-- Nodes that were made of two keys, of which the second comes first.
pub record MakesNodes (old new : List Node) (first second : Option KeyBytes) : Type 0 where
  pub lower : Option (ℕ × KeyBytes)
  pub upper : Option (ℕ × KeyBytes)
  pub has_upper : IsNewKey old second upper
  pub has_lower : IsNewKey old first lower
  pub nodes : new ≡ with_new (with_new old upper) lower

-- Nodes with those of two keys, in which a value is raised in a span.
pub record AddsNodes (old new : List Node) (first second : Option KeyBytes) (span : SpanView)
    (value : ValueView) : Type 0 where
  pub mid : List Node
  pub made : MakesNodes old mid first second
  pub raised : new ≡ raise_nodes span value mid

-- the nodes with those of more keys, which answer as before
pub record IsSplitAt (old new : List Node) (more : List KeyBytes) : Type 0 where
  pub sorted : IsSorted new
  pub keys : (k : KeyBytes) → is_in k (node_keys new) ≡ (is_in k (node_keys old) || is_in k more)
  pub answers : (span : SpanView) → answer_of new span ≡ answer_of old span
