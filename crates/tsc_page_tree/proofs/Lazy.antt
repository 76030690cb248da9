-- A value ratcheted into all nodes, at once or as a lazy value.
use Rattle.std.proofs.Common.{◌≡◌, inl, ◌∙◌, refl, sym, ap, subst, Bool, true, false, cond, ℕ, suc, ◌<◌, List, [], ◌∷◌, ◌++◌, length, map, get_or, arith}
use mathlib.Core.Bool.{true≢false}
use Rattle.std.specs.Prelude.{Option, Some, None}
use Rattle.std.proofs.lemmas.List.{map-append}
use Rattle.tsc_time.specs.Time.{zero_time}
use Rattle.tsc_time.specs.ValueView.{ValueView, unowned}
use Rattle.tsc_time.specs.Joint.{joint}
use Rattle.tsc_time.proofs.RatchetOrder.{IsAtMost-antisymmetric}
use Rattle.tsc_span.specs.Span.{KeyBytes, Cut, before, after, last, SpanView, between, overlaps, is_below}
use Rattle.tsc_page_model.specs.PageView.{is_in}
use Rattle.tsc_page_nodes.specs.Nodes.{Node, node_keys, node_stretches, IsSorted, answer_of, raise_nodes}
use Rattle.tsc_page_tree.specs.Leaves.{nodes_of, start_of}
use Rattle.tsc_page_tree.specs.Lazy.{everything, with_lazy, merged, seen_with}
use Rattle.tsc_span.proofs.CutOrder.{Lt, Le, Lt-not_Le, Le-from_Lt, Le-itself, Lt-chain, Le_Lt-chain, before-after, below_last, none_above_last, overlaps-from}
use Rattle.tsc_page_nodes.proofs.Cuts.{lowest, raise_nodes_answers, raise_nodes-start}
use Rattle.tsc_page_nodes.proofs.Edits.{raise_nodes-keys, raise_nodes-length, raise_nodes-sorted}
use Rattle.tsc_page_nodes.proofs.Answers.{Meets}
use Rattle.tsc_page_nodes.proofs.Raises.{first_below, second_below, both_below}
use Rattle.tsc_page_nodes.proofs.Seen.{none_seen}
use Rattle.tsc_page_tree.proofs.Joins.{sorted_left, sorted_right, up_to_last, meets_none}
use Rattle.tsc_page_tree.proofs.LeafAnswers.{answer_is, one_joint, joint-chain}

-- two values in either order
pub joint-turned : (a b : ValueView) → joint a (b ∷ []) ≡ joint b (a ∷ [])
joint-turned a b = IsAtMost-antisymmetric (joint a (b ∷ [])) (joint b (a ∷ []))
    (both_below a b (joint b (a ∷ [])) (second_below b a) (first_below b a))
    (both_below b a (joint a (b ∷ [])) (second_below a b) (first_below a b))

-- and ratcheted into a third one
pub joint-swapped : (a b c : ValueView) →
    joint (joint a (b ∷ [])) (c ∷ []) ≡ joint (joint a (c ∷ [])) (b ∷ [])
joint-swapped a b c = sym (joint-chain a b c) ∙
    ap (λ (w : ValueView). joint a (w ∷ [])) (joint-turned b c) ∙ joint-chain a c b

-- nodes with the same keys and values
same_first : (k : KeyBytes) (a b c d : ValueView) (ns ms : List Node) → a ≡ b → c ≡ d → ns ≡ ms →
    record { key = k; value = a; gap = c } ∷ ns ≡ record { key = k; value = b; gap = d } ∷ ms
same_first k a b c d ns ms p q r = rw (p, q, r) refl

either_first : (x v w : ValueView) (a b : Bool) →
    cond a (joint (cond b (joint x (w ∷ [])) x) (v ∷ [])) (cond b (joint x (w ∷ [])) x) ≡
    cond b (joint (cond a (joint x (v ∷ [])) x) (w ∷ [])) (cond a (joint x (v ∷ [])) x)
either_first x v w true true = joint-swapped x w v
either_first x v w true false = refl
either_first x v w false true = refl
either_first x v w false false = refl

-- values raised in two spans, in either order
pub raise_twice : (s t : SpanView) (v w : ValueView) (ns : List Node) →
    raise_nodes s v (raise_nodes t w ns) ≡ raise_nodes t w (raise_nodes s v ns)
raise_twice s t v w [] = refl
raise_twice s t v w (n ∷ ns) = same_first n.key _ _ _ _ _ _
    (either_first n.value v w (overlaps (between (before n.key) (after n.key)) s)
    (overlaps (between (before n.key) (after n.key)) t)) gap (raise_twice s t v w ns)
  where
    gap : cond (overlaps (between (after n.key) (start_of (raise_nodes t w ns))) s)
        (joint (cond (overlaps (between (after n.key) (start_of ns)) t) (joint n.gap (w ∷ []))
        n.gap) (v ∷ [])) (cond (overlaps (between (after n.key) (start_of ns)) t)
        (joint n.gap (w ∷ [])) n.gap)
        ≡ cond (overlaps (between (after n.key) (start_of (raise_nodes s v ns))) t)
        (joint (cond (overlaps (between (after n.key) (start_of ns)) s) (joint n.gap (v ∷ []))
        n.gap) (w ∷ [])) (cond (overlaps (between (after n.key) (start_of ns)) s)
        (joint n.gap (v ∷ [])) n.gap)
    gap = rw (raise_nodes-start t w ns, raise_nodes-start s v ns)
        (either_first n.gap v w (overlaps (between (after n.key) (start_of ns)) s)
        (overlaps (between (after n.key) (start_of ns)) t))

-- the lazy value may be ratcheted in before or after
pub raise_lazy : (p : Option ValueView) (s : SpanView) (v : ValueView) (ns : List Node) →
    with_lazy p (raise_nodes s v ns) ≡ raise_nodes s v (with_lazy p ns)
raise_lazy None s v ns = refl
raise_lazy (Some w) s v ns = raise_twice everything s w v ns

both_at_once : (x v w : ValueView) (a : Bool) →
    cond a (joint x (joint w (v ∷ []) ∷ [])) x ≡
    cond a (joint (cond a (joint x (w ∷ [])) x) (v ∷ [])) (cond a (joint x (w ∷ [])) x)
both_at_once x v w true = joint-chain x w v
both_at_once x v w false = refl

-- one value raised after another is their joint value raised
pub raise_joint : (s : SpanView) (v w : ValueView) (ns : List Node) →
    raise_nodes s (joint w (v ∷ [])) ns ≡ raise_nodes s v (raise_nodes s w ns)
raise_joint s v w [] = refl
raise_joint s v w (n ∷ ns) = same_first n.key _ _ _ _ _ _
    (both_at_once n.value v w (overlaps (between (before n.key) (after n.key)) s)) gap
    (raise_joint s v w ns)
  where
    gap : cond (overlaps (between (after n.key) (start_of ns)) s)
        (joint n.gap (joint w (v ∷ []) ∷ [])) n.gap
        ≡ cond (overlaps (between (after n.key) (start_of (raise_nodes s w ns))) s)
        (joint (cond (overlaps (between (after n.key) (start_of ns)) s) (joint n.gap (w ∷ []))
        n.gap) (v ∷ [])) (cond (overlaps (between (after n.key) (start_of ns)) s)
        (joint n.gap (w ∷ [])) n.gap)
    gap = rw (raise_nodes-start s w ns)
        (both_at_once n.gap v w (overlaps (between (after n.key) (start_of ns)) s))

-- so is one that joins the lazy value
pub raise_merged : (p : Option ValueView) (v : ValueView) (ns : List Node) →
    with_lazy (Some (merged p v)) ns ≡ raise_nodes everything v (with_lazy p ns)
raise_merged None v ns = refl
raise_merged (Some w) v ns = raise_joint everything v w ns

-- the lazy value keeps the keys, where they begin, how many there are and their order
pub lazy-keys : (p : Option ValueView) (ns : List Node) →
    node_keys (with_lazy p ns) ≡ node_keys ns
lazy-keys None ns = refl
lazy-keys (Some v) ns = raise_nodes-keys everything v ns

pub lazy-is_in : (p : Option ValueView) (k : KeyBytes) (ns : List Node) →
    is_in k (node_keys (with_lazy p ns)) ≡ is_in k (node_keys ns)
lazy-is_in p k ns = ap (λ (ks : List KeyBytes). is_in k ks) (lazy-keys p ns)

pub lazy-start : (p : Option ValueView) (ns : List Node) →
    start_of (with_lazy p ns) ≡ start_of ns
lazy-start None ns = refl
lazy-start (Some v) ns = raise_nodes-start everything v ns

pub lazy-length : (p : Option ValueView) (ns : List Node) →
    length (with_lazy p ns) ≡ length ns
lazy-length None ns = refl
lazy-length (Some v) ns = raise_nodes-length everything v ns

pub lazy-sorted : (p : Option ValueView) (ns : List Node) → IsSorted ns →
    IsSorted (with_lazy p ns)
lazy-sorted None ns sorted = sorted
lazy-sorted (Some v) ns sorted = raise_nodes-sorted everything v ns sorted

-- and what has them has them without it
pub sorted_without : (p : Option ValueView) (ns : List Node) → IsSorted (with_lazy p ns) →
    IsSorted ns
sorted_without None ns sorted = sorted
sorted_without (Some v) ns sorted = by ns sorted
  where
    by : (ms : List Node) → IsSorted (raise_nodes everything v ms) → IsSorted ms
    by [] h = tt
    by (n ∷ []) h = h
    by (n ∷ o ∷ ms) h = (h.0, by (o ∷ ms) h.1)

-- a node with a value ratcheted into its key and its gap
abbrev pub raised_node : ValueView → Node → Node
raised_node v n = record { key = n.key; value = joint n.value (v ∷ []); gap = joint n.gap (v ∷ []) }

-- from where nodes begin or below it each is raised
pub raise_each : (f : Cut) (v : ValueView) (ns : List Node) → IsSorted ns → Le f (start_of ns) →
    raise_nodes (between f last) v ns ≡ map (raised_node v) ns
raise_each f v [] sorted low = refl
raise_each f v (n ∷ ns) sorted low =
    rw (key, gap) (ap (λ (ms : List Node). raised_node v n ∷ ms)
    (raise_each f v ns sorted.1 (Le-from_Lt f (start_of ns) to_next)))
  where
    to_after : Lt f (after n.key)
    to_after = Le_Lt-chain f (before n.key) (after n.key) low (before-after n.key)

    to_next : Lt f (start_of ns)
    to_next = Lt-chain f (after n.key) (start_of ns) to_after sorted.0

    key : overlaps (between (before n.key) (after n.key)) (between f last) ≡ true
    key = overlaps-from (before n.key) (after n.key) f last (
      before-after n.key,
      up_to_last (before n.key) (after n.key) (before-after n.key),
      to_after,
      up_to_last f (after n.key) to_after,
    )

    gap : overlaps (between (after n.key) (start_of ns)) (between f last) ≡ true
    gap = overlaps-from (after n.key) (start_of ns) f last
        (sorted.0, below_last n.key, to_next, up_to_last f (after n.key) to_after)

pub raise_all : (v : ValueView) (ns : List Node) → IsSorted ns →
    raise_nodes everything v ns ≡ map (raised_node v) ns
raise_all v ns sorted = raise_each (before []) v ns sorted (lowest (start_of ns))

-- a span that leaves nothing out is raised as all
pub raise_of_all : (f t : Cut) (v : ValueView) (ns : List Node) → IsSorted ns → Le f (start_of ns) →
    Le last t → raise_nodes everything v ns ≡ raise_nodes (between f t) v ns
raise_of_all f (before k) v ns sorted low high = absurd (true≢false high)
raise_of_all f (after k) v ns sorted low high = absurd (true≢false high)
raise_of_all f last v ns sorted low high =
    raise_all v ns sorted ∙ sym (raise_each f v ns sorted low)

-- of two lists each is raised
pub raise_append : (v : ValueView) (xs ys : List Node) → IsSorted (xs ++ ys) →
    raise_nodes everything v (xs ++ ys) ≡ raise_nodes everything v xs ++ raise_nodes everything v ys
raise_append v xs ys sorted = rw (
  raise_all v (xs ++ ys) sorted,
  raise_all v xs (sorted_left xs ys sorted),
  raise_all v ys (sorted_right xs ys sorted),
)
    (map-append (raised_node v) xs ys)

pub lazy_append : (p : Option ValueView) (xs ys : List Node) → IsSorted (xs ++ ys) →
    with_lazy p (xs ++ ys) ≡ with_lazy p xs ++ with_lazy p ys
lazy_append None xs ys sorted = refl
lazy_append (Some v) xs ys sorted = raise_append v xs ys sorted

-- and of subtrees each one
pub lazy_subtrees : {X : Type 0} (p : Option ValueView) (f : X → List Node) (xs : List X) →
    IsSorted (nodes_of (map f xs)) →
    nodes_of (map (λ (x : X). with_lazy p (f x)) xs) ≡ with_lazy p (nodes_of (map f xs))
lazy_subtrees None f [] sorted = refl
lazy_subtrees (Some v) f [] sorted = refl
lazy_subtrees p f (x ∷ xs) sorted =
    ap (λ (ns : List Node). with_lazy p (f x) ++ ns)
    (lazy_subtrees p f xs (sorted_right (f x) (nodes_of (map f xs)) sorted)) ∙
    sym (lazy_append p (f x) (nodes_of (map f xs)) sorted)

pub raise_subtrees : {X : Type 0} (v : ValueView) (f : X → List Node) (xs : List X) →
    IsSorted (nodes_of (map f xs)) →
    nodes_of (map (λ (x : X). raise_nodes everything v (f x)) xs) ≡ raise_nodes everything v
    (nodes_of (map f xs))
raise_subtrees v f xs sorted = lazy_subtrees (Some v) f xs sorted

pub raise_leaves : (v : ValueView) (ls : List (List Node)) → IsSorted (nodes_of ls) →
    nodes_of (map (λ (l : List Node). raise_nodes everything v l) ls) ≡ raise_nodes everything v
    (nodes_of ls)
raise_leaves v [] sorted = refl
raise_leaves v (l ∷ ls) sorted = ap (λ (ns : List Node). raise_nodes everything v l ++ ns)
    (raise_leaves v ls (sorted_right l (nodes_of ls) sorted)) ∙
    sym (raise_append v l (nodes_of ls) sorted)

-- also where what each subtree is raised to is told by its place
pub raised_indices : {X Y : Type 0} (v : ValueView) (f : X → List Node) (g : Y → List Node)
    (old : List X) (new : List Y) → length new ≡ length old →
    ((i : ℕ) (d : X) (e : Y) → i < length old →
    g (get_or new i e) ≡ raise_nodes everything v (f (get_or old i d))) →
    IsSorted (nodes_of (map f old)) →
    nodes_of (map g new) ≡ raise_nodes everything v (nodes_of (map f old))
raised_indices v f g [] [] long each sorted = refl
raised_indices v f g [] (y ∷ new) long each sorted = absurd (omega (arith, long))
raised_indices v f g (x ∷ old) [] long each sorted = absurd (omega (arith, long))
raised_indices v f g (x ∷ old) (y ∷ new) long each sorted =
    ap (λ (ns : List Node). ns ++ nodes_of (map g new)) (each 0 x y (omega arith))
    ∙ ap (λ (ns : List Node). raise_nodes everything v (f x) ++ ns)
    (raised_indices v f g old new (omega (arith, long))
    (λ i d e h. each (suc i) d e (omega (arith, h)))
    (sorted_right (f x) (nodes_of (map f old)) sorted))
    ∙ sym (raise_append v (f x) (nodes_of (map f old)) sorted)

-- A value raised in all nodes joins each answer to a span that reaches where they begin.
pub raised_answer : (f t : Cut) (v : ValueView) (ns : List Node) → IsSorted ns → Lt f t →
    Lt (start_of ns) t → answer_of (raise_nodes everything v ns) (between f t) ≡
    joint (answer_of ns (between f t)) (v ∷ [])
raised_answer f t v [] sorted up reaches = absurd (Lt-not_Le last t reaches (none_above_last t))
raised_answer f t v (n ∷ ns) sorted up reaches =
    ap (λ (ms : List Node). answer_of ms (between f t))
    (raise_all v (n ∷ ns) sorted ∙
    sym (raise_each (before n.key) v (n ∷ ns) sorted (Le-itself (before n.key))))
    ∙ raise_nodes_answers (before n.key) last v (n ∷ ns) sorted (inl refl) (inl refl) (between f t)
    ∙ ap (λ (b : Bool). cond b (joint (answer_of (n ∷ ns) (between f t)) (v ∷ []))
    (answer_of (n ∷ ns) (between f t)))
    (overlaps-from (before n.key) last f t (
      up_to_last (before n.key) (after n.key) (before-after n.key),
      reaches,
      up_to_last f t up,
      up,
    ))

-- Below where nodes begin there is nothing.
pub answer_below : (f t : Cut) (ns : List Node) → IsSorted ns → Le t (start_of ns) →
    answer_of ns (between f t) ≡ unowned zero_time
answer_below f t ns sorted high = one_joint _ _ _ _ (λ w m. m) (λ w m. m)
    (answer_is (between f t) ns) (none_seen (Meets (between f t) (node_stretches ns))
    (λ w m. meets_none f t w ns sorted high m))

pub lazy_below : (p : Option ValueView) (f t : Cut) (ns : List Node) → IsSorted ns →
    Le t (start_of ns) → answer_of (with_lazy p ns) (between f t) ≡ unowned zero_time
lazy_below p f t ns sorted high =
    answer_below f t (with_lazy p ns) (lazy-sorted p ns sorted)
    (subst (λ (c : Cut). Le t c) (sym (lazy-start p ns)) high)

-- so the lazy value joins an answer just where the span reaches where they begin
pub lazy_answer : (p : Option ValueView) (f t : Cut) (ns : List Node) → IsSorted ns → Lt f t →
    answer_of (with_lazy p ns) (between f t) ≡ seen_with p (is_below (start_of ns) t)
    (answer_of ns (between f t))
lazy_answer None f t ns sorted up = refl
lazy_answer (Some v) f t ns sorted up = by (is_below (start_of ns) t) refl
  where
    by : (b : Bool) → is_below (start_of ns) t ≡ b →
        answer_of (raise_nodes everything v ns) (between f t) ≡
        cond b (joint (answer_of ns (between f t)) (v ∷ [])) (answer_of ns (between f t))
    by true h = raised_answer f t v ns sorted up h
    by false h = lazy_below (Some v) f t ns sorted h ∙ sym (answer_below f t ns sorted h)
