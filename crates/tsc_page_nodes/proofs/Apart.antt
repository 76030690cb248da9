-- Nodes whose keys and values stand in two lists.
use Rattle.std.proofs.Common.{◌≡◌, ◌∙◌, refl, sym, ap, subst, ℕ, zero, suc, ◌+◌, ◌<◌, ◌≤◌, List, [], ◌∷◌, length, take, drop, get_or, set, arith}
use Rattle.std.specs.List.{insert, AllZip}
use Rattle.tsc_time.specs.ValueView.{ValueView}
use Rattle.tsc_time.specs.Joint.{joint}
use Rattle.tsc_span.specs.Span.{KeyBytes}
use Rattle.tsc_page_nodes.specs.declared.nodes.Values.{Values}
use Rattle.tsc_page_nodes.specs.Nodes.{Node, paired, node_keys}
use Rattle.tsc_page_nodes.proofs.Indices.{some_node}
use Rattle.tsc_page_nodes.proofs.RaisedNodes.{ChangesIndices, key_raised, gap_raised, one_changed}

-- a node of a key with its values
abbrev pub with_values : KeyBytes → Values → Node
with_values k v = record { key = k; value = v.value; gap = v.gap }

pub paired-length : (ks : List KeyBytes) (vs : List Values) → length ks ≡ length vs →
    length (paired ks vs) ≡ length vs
paired-length [] [] same = refl
paired-length [] (v ∷ vs) same = absurd (omega (arith, same))
paired-length (k ∷ ks) [] same = absurd (omega (arith, same))
paired-length (k ∷ ks) (v ∷ vs) same = ap suc (paired-length ks vs (omega (arith, same)))

-- the node at a place
pub paired-at : (ks : List KeyBytes) (vs : List Values) → length ks ≡ length vs →
    (i : ℕ) (d : Node) (k : KeyBytes) (v : Values) → i < length vs →
    get_or (paired ks vs) i d ≡ with_values (get_or ks i k) (get_or vs i v)
paired-at [] [] same i d k v h = absurd (omega (arith, h))
paired-at [] (w ∷ vs) same i d k v h = absurd (omega (arith, same))
paired-at (m ∷ ks) [] same i d k v h = absurd (omega (arith, same))
paired-at (m ∷ ks) (w ∷ vs) same zero d k v h = refl
paired-at (m ∷ ks) (w ∷ vs) same (suc i) d k v h =
    paired-at ks vs (omega (arith, same)) i d k v (omega (arith, h))

-- and past the end
pub paired-past : (ks : List KeyBytes) (vs : List Values) → length ks ≡ length vs →
    (i : ℕ) (d : Node) → length vs ≤ i → get_or (paired ks vs) i d ≡ d
paired-past [] vs same i d h = refl
paired-past (k ∷ ks) [] same i d h = refl
paired-past (k ∷ ks) (v ∷ vs) same zero d h = absurd (omega (arith, h))
paired-past (k ∷ ks) (v ∷ vs) same (suc i) d h =
    paired-past ks vs (omega (arith, same)) i d (omega (arith, h))

-- the values that any list has at a place
some_values : Values
some_values = record { value = some_node.value; gap = some_node.gap }

-- the key at a place, of nodes that are two lists
pub key_at : (ks : List KeyBytes) (vs : List Values) (ns : List Node) → length ks ≡ length vs →
    paired ks vs ≡ ns → (i : ℕ) (d : Node) (k : KeyBytes) → i < length ks →
    (get_or ns i d).key ≡ get_or ks i k
key_at ks vs ns same is i d k h = ap (λ (ms : List Node). (get_or ms i d).key) (sym is) ∙
    ap (λ (n : Node). n.key) (paired-at ks vs same i d k some_values (omega (arith, same, h)))

-- and the values
pub value_at : (ks : List KeyBytes) (vs : List Values) (ns : List Node) → length ks ≡ length vs →
    paired ks vs ≡ ns → (i : ℕ) (d : Node) (v : Values) → i < length vs →
    (get_or ns i d).value ≡ (get_or vs i v).value
value_at ks vs ns same is i d v h = ap (λ (ms : List Node). (get_or ms i d).value) (sym is) ∙
    ap (λ (n : Node). n.value) (paired-at ks vs same i d [] v h)

pub gap_at : (ks : List KeyBytes) (vs : List Values) (ns : List Node) → length ks ≡ length vs →
    paired ks vs ≡ ns → (i : ℕ) (d : Node) (v : Values) → i < length vs →
    (get_or ns i d).gap ≡ (get_or vs i v).gap
gap_at ks vs ns same is i d v h = ap (λ (ms : List Node). (get_or ms i d).gap) (sym is) ∙
    ap (λ (n : Node). n.gap) (paired-at ks vs same i d [] v h)

pub long_as : (ks : List KeyBytes) (vs : List Values) (ns : List Node) → length ks ≡ length vs →
    paired ks vs ≡ ns → length ns ≡ length ks
long_as ks vs ns same is = ap length (sym is) ∙ paired-length ks vs same ∙ sym same

-- one more key with its values at a place
pub paired-insert : (ks : List KeyBytes) (vs : List Values) → length ks ≡ length vs →
    (i : ℕ) (k : KeyBytes) (v : Values) →
    paired (insert ks i k) (insert vs i v) ≡ insert (paired ks vs) i (with_values k v)
paired-insert ks vs same zero k v = refl
paired-insert [] [] same (suc i) k v = refl
paired-insert [] (w ∷ vs) same (suc i) k v = absurd (omega (arith, same))
paired-insert (m ∷ ks) [] same (suc i) k v = absurd (omega (arith, same))
paired-insert (m ∷ ks) (w ∷ vs) same (suc i) k v =
    ap (λ (ns : List Node). with_values m w ∷ ns) (paired-insert ks vs (omega (arith, same)) i k v)

-- other values at a place
pub paired-set : (ks : List KeyBytes) (vs : List Values) → length ks ≡ length vs →
    (i : ℕ) (k : KeyBytes) (v : Values) →
    paired ks (set vs i v) ≡ set (paired ks vs) i (with_values (get_or ks i k) v)
paired-set [] [] same i k v = refl
paired-set [] (w ∷ vs) same i k v = absurd (omega (arith, same))
paired-set (m ∷ ks) [] same i k v = absurd (omega (arith, same))
paired-set (m ∷ ks) (w ∷ vs) same zero k v = refl
paired-set (m ∷ ks) (w ∷ vs) same (suc i) k v =
    ap (λ (ns : List Node). with_values m w ∷ ns) (paired-set ks vs (omega (arith, same)) i k v)

-- the first ones, and the others
pub paired-take : (n : ℕ) (ks : List KeyBytes) (vs : List Values) →
    paired (take n ks) (take n vs) ≡ take n (paired ks vs)
paired-take zero ks vs = refl
paired-take (suc n) [] vs = refl
paired-take (suc n) (k ∷ ks) [] = refl
paired-take (suc n) (k ∷ ks) (v ∷ vs) =
    ap (λ (ns : List Node). with_values k v ∷ ns) (paired-take n ks vs)

pub paired-drop : (n : ℕ) (ks : List KeyBytes) (vs : List Values) → length ks ≡ length vs →
    paired (drop n ks) (drop n vs) ≡ drop n (paired ks vs)
paired-drop zero ks vs same = refl
paired-drop (suc n) [] vs same = refl
paired-drop (suc n) (k ∷ ks) [] same = absurd (omega (arith, same))
paired-drop (suc n) (k ∷ ks) (v ∷ vs) same = paired-drop n ks vs (omega (arith, same))

-- the keys are the first list
pub paired-keys : (ks : List KeyBytes) (vs : List Values) → length ks ≡ length vs →
    node_keys (paired ks vs) ≡ ks
paired-keys [] vs same = refl
paired-keys (k ∷ ks) [] same = absurd (omega (arith, same))
paired-keys (k ∷ ks) (v ∷ vs) same =
    ap (λ (ms : List KeyBytes). k ∷ ms) (paired-keys ks vs (omega (arith, same)))

-- clones of keys are the keys
pub cloned_keys : (ks ms : List KeyBytes) → AllZip (λ (k m : KeyBytes). m ≡ k) ks ms → ms ≡ ks
cloned_keys [] [] each = refl
cloned_keys [] (m ∷ ms) each = absurd each
cloned_keys (k ∷ ks) [] each = absurd each
cloned_keys (k ∷ ks) (m ∷ ms) each = ap (λ (q : KeyBytes). q ∷ ms) each.0 ∙
    ap (λ (qs : List KeyBytes). k ∷ qs) (cloned_keys ks ms each.1)

-- the value of one more key is raised
pub key_changed : (v : ValueView) (old : List Node) (ks : List KeyBytes) (vs : List Values)
    (first i : ℕ) (n w : Values) → length ks ≡ length vs → first ≤ i → i < length vs →
    n ≡ record { value = joint (get_or vs i w).value (v ∷ []); gap = (get_or vs i w).gap }
    → ChangesIndices (key_raised v) old (paired ks vs) first i →
    ChangesIndices (key_raised v) old (paired ks (set vs i n)) first (i + 1)
key_changed v old ks vs first i n w same low within is so_far =
    subst (λ (ns : List Node). ChangesIndices (key_raised v) old ns first (i + 1))
    (sym (paired-set ks vs same i [] n))
    (one_changed (key_raised v) old (paired ks vs) first i (with_values (get_or ks i []) n)
    some_node low (omega (arith, within, so_far.as_long, paired-length ks vs same))
    (ap (with_values (get_or ks i [])) is ∙
    ap (key_raised v) (sym (paired-at ks vs same i some_node [] w within))) so_far)

-- and that of one more gap
pub gap_changed : (v : ValueView) (old : List Node) (ks : List KeyBytes) (vs : List Values)
    (first i : ℕ) (n w : Values) → length ks ≡ length vs → first ≤ i → i < length vs →
    n ≡ record { value = (get_or vs i w).value; gap = joint (get_or vs i w).gap (v ∷ []) }
    → ChangesIndices (gap_raised v) old (paired ks vs) first i →
    ChangesIndices (gap_raised v) old (paired ks (set vs i n)) first (i + 1)
gap_changed v old ks vs first i n w same low within is so_far =
    subst (λ (ns : List Node). ChangesIndices (gap_raised v) old ns first (i + 1))
    (sym (paired-set ks vs same i [] n))
    (one_changed (gap_raised v) old (paired ks vs) first i (with_values (get_or ks i []) n)
    some_node low (omega (arith, within, so_far.as_long, paired-length ks vs same))
    (ap (with_values (get_or ks i [])) is ∙
    ap (gap_raised v) (sym (paired-at ks vs same i some_node [] w within))) so_far)

-- the same lists are the same nodes
pub kept_pair : (ks ms : List KeyBytes) (vs ws : List Values) (ns : List Node) → ms ≡ ks → ws ≡ vs →
    paired ks vs ≡ ns → paired ms ws ≡ ns
kept_pair ks ms vs ws ns keys values is = ap (λ (x : List KeyBytes). paired x ws) keys ∙
    ap (λ (x : List Values). paired ks x) values ∙ is
