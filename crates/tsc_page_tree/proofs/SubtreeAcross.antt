-- A value raised over several subtrees, of which the first and the last are looked into.
use Rattle.std.proofs.Common.{◌≡◌, ◌⊎◌, inl, inr, ◌∙◌, refl, sym, ap, subst, true, false, ℕ, zero, suc, ◌<◌, ◌≤◌, List, [], ◌∷◌, ◌++◌, length, map, take, drop, get_or, append-nil, arith}
use Rattle.std.proofs.Math.Bool.{or-true}
use Rattle.std.proofs.lemmas.List.{append_assoc}
use Rattle.std.specs.Prelude.{Option, Some, None}
use Rattle.tsc_time.specs.ValueView.{ValueView}
use Rattle.tsc_time.specs.Joint.{joint}
use Rattle.tsc_span.specs.Span.{KeyBytes, Cut, before, after, last, between, is_below}
use Rattle.tsc_page_model.specs.PageView.{is_in}
use Rattle.tsc_page_nodes.specs.Nodes.{Node, node_keys, IsSorted, IsNewKey, raise_nodes}
use Rattle.tsc_span.specs.Prefixes.{IsCutPrefix}
use Rattle.tsc_page_nodes.specs.Insertions.{InsertionView, LiesAt}
use Rattle.tsc_page_tree.specs.Leaves.{nodes_of, AreSome, start_of, IsLeafAt}
use Rattle.tsc_page_tree.specs.Lazy.{everything, with_lazy, all_joint, IsReportedOf}
use Rattle.tsc_page_tree.specs.Across.{HasKey, IsLastReached}
use Rattle.tsc_span.proofs.CutOrder.{Lt, Le, Lt-not_Le, Le-from_Lt, Le-itself, Lt-chain, Le-chain, Le_Lt-chain, Lt_Le-chain, before-after, none_above_last}
use Rattle.tsc_page_nodes.proofs.Cuts.{lowest, raise_nodes-start}
use Rattle.tsc_page_nodes.proofs.Indices.{before_or_past}
use Rattle.tsc_page_nodes.proofs.Edits.{raise_nodes-length}
use Rattle.tsc_page_tree.proofs.Joins.{sorted_right, below_next, raises_left, raises_right, raises_both}
use Rattle.tsc_page_tree.proofs.LeafLists.{parted_at, leaf_first, sorted_from, start_at, start_past, some_nodes}
use Rattle.tsc_page_tree.proofs.LeafAdds.{known_high}
use Rattle.tsc_page_tree.proofs.LeafKeys.{is_in-append, known_within}
use Rattle.tsc_page_tree.proofs.Lazy.{raise_lazy}
use Rattle.tsc_page_tree.proofs.AllJoint.{all_joint_raised}
use Rattle.tsc_page_tree.proofs.SubtreeLists.{nodes_of_both}

-- nodes begin no later than those that stand behind them
pub starts_first : (xs ys : List Node) → IsSorted (xs ++ ys) →
    Le (start_of (xs ++ ys)) (start_of ys)
starts_first [] ys sorted = Le-itself (start_of ys)
starts_first (x ∷ xs) ys sorted = Le-from_Lt (before x.key) (start_of ys)
    (Lt-chain (before x.key) (after x.key) (start_of ys) (before-after x.key)
    (below_next x xs ys sorted))

-- The first subtree is raised from where the span starts, and those behind it wholly.
pub raised_from : (front subtree behind new_subtree new_behind : List Node) (f : Cut)
    (v : ValueView) →
    IsSorted (front ++ (subtree ++ behind)) → (front ≡ []) ⊎ Le (start_of (subtree ++ behind)) f →
    Lt f (start_of behind)
    → new_subtree ≡ raise_nodes (between f last) v subtree →
    new_behind ≡ raise_nodes everything v behind →
    front ++ (new_subtree ++ new_behind) ≡ raise_nodes (between f last) v
    (front ++ (subtree ++ behind))
raised_from front subtree behind new_subtree new_behind f v sorted start low one rest =
    ap (λ (ns : List Node). front ++ (ns ++ new_behind)) one ∙
    ap (λ (ns : List Node). front ++ (raise_nodes (between f last) v subtree ++ ns)) rest ∙
    ap (λ (ns : List Node). front ++ ns)
    (sym (both behind low (sorted_right front (subtree ++ behind) sorted))) ∙ elim start [
      | inl none ↦ ap (λ (ns : List Node). ns ++ raise_nodes (between f last) v (subtree ++ behind))
          none ∙ ap (λ (ns : List Node). raise_nodes (between f last) v (ns ++ (subtree ++ behind)))
          (sym none)
      | inr high ↦ sym (raises_right f last (subtree ++ behind) high v front sorted)
    ]
  where
    both : (ns : List Node) → Lt f (start_of ns) → IsSorted (subtree ++ ns) →
        raise_nodes (between f last) v (subtree ++ ns) ≡ raise_nodes (between f last) v subtree ++
        raise_nodes everything v ns
    both [] up s = ap (raise_nodes (between f last) v) (append-nil subtree) ∙
        sym (append-nil (raise_nodes (between f last) v subtree))
    both (n ∷ ns) up s = raises_both f last (n ∷ ns) up refl v subtree s

-- The subtrees before the last one are raised wholly, and that up to where the span stops.
pub raised_up_to : (front subtree behind new_front new_subtree : List Node) (t : Cut)
    (v : ValueView) →
    IsSorted (front ++ (subtree ++ behind)) → Lt (start_of (subtree ++ behind)) t →
    Le t (start_of behind)
    → new_front ≡ raise_nodes everything v front →
    new_subtree ≡ raise_nodes (between (before []) t) v subtree →
    new_front ++ (new_subtree ++ behind) ≡ raise_nodes (between (before []) t) v
    (front ++ (subtree ++ behind))
raised_up_to front subtree behind new_front new_subtree t v sorted reaches high wholly one =
    ap (λ (ns : List Node). ns ++ (new_subtree ++ behind)) wholly ∙
    ap (λ (ns : List Node). raise_nodes everything v front ++ (ns ++ behind)) one
    ∙ ap (λ (ns : List Node). raise_nodes everything v front ++ ns)
    (sym (raises_left (before []) t up behind high v subtree
    (sorted_right front (subtree ++ behind) sorted)))
    ∙ by front sorted
  where
    up : Lt (before []) t
    up = Le_Lt-chain (before []) (start_of (subtree ++ behind)) t
        (lowest (start_of (subtree ++ behind)))
        reaches

    by : (ns : List Node) → IsSorted (ns ++ (subtree ++ behind)) →
        raise_nodes everything v ns ++ raise_nodes (between (before []) t) v (subtree ++ behind) ≡
        raise_nodes (between (before []) t) v (ns ++ (subtree ++ behind))
    by [] s = refl
    by (n ∷ ns) s = sym (raises_both (before []) t (subtree ++ behind)
        (Le_Lt-chain (before []) (before n.key) (start_of (subtree ++ behind))
        (lowest (before n.key))
        (Lt-chain (before n.key) (after n.key) (start_of (subtree ++ behind)) (before-after n.key)
        (below_next n ns (subtree ++ behind) s)))
        reaches v (n ∷ ns) s)

-- Both at once: a subtree in which the span starts, others, and one in which it stops.
pub raised_over : (front low mid high behind new_low new_mid new_high : List Node) (f t : Cut)
    (v : ValueView) → IsSorted (front ++ (low ++ (mid ++ (high ++ behind)))) →
    (front ≡ []) ⊎ Le (start_of (low ++ (mid ++ (high ++ behind)))) f →
    Lt f (start_of (mid ++ (high ++ behind)))
    → Lt (start_of (high ++ behind)) t → Le t (start_of behind) →
    new_low ≡ raise_nodes (between f last) v low → new_mid ≡ raise_nodes everything v mid →
    new_high ≡ raise_nodes (between (before []) t) v high
    → front ++ (new_low ++ (new_mid ++ (new_high ++ behind))) ≡ raise_nodes (between f t) v
    (front ++ (low ++ (mid ++ (high ++ behind))))
raised_over front low mid high behind new_low new_mid new_high f t v sorted start below reaches
    stops one wholly two =
    let subtree_sorted = sorted_right front (low ++ (mid ++ (high ++ behind))) sorted in
    let rest_sorted = sorted_right low (mid ++ (high ++ behind)) subtree_sorted in
    let goes : Lt (start_of (mid ++ (high ++ behind))) t =
    Le_Lt-chain (start_of (mid ++ (high ++ behind))) (start_of (high ++ behind)) t
    (starts_first mid (high ++ behind) rest_sorted) reaches in
    ap (λ (ns : List Node). front ++ (ns ++ (new_mid ++ (new_high ++ behind)))) one
    ∙ ap (λ (ns : List Node). front ++ (raise_nodes (between f last) v low ++ ns))
    (raised_up_to mid high behind new_mid new_high t v rest_sorted reaches stops wholly two)
    ∙ ap (λ (ns : List Node). front ++ ns)
    (sym (raises_both f t (mid ++ (high ++ behind)) below goes v low subtree_sorted)) ∙
    elim start [
      | inl none ↦ ap (λ (ns : List Node). ns ++
          raise_nodes (between f t) v (low ++ (mid ++ (high ++ behind)))) none ∙
          ap (λ (ns : List Node). raise_nodes (between f t) v
          (ns ++ (low ++ (mid ++ (high ++ behind))))) (sym none)
      | inr later ↦ sym (raises_right f t (low ++ (mid ++ (high ++ behind))) later v front sorted)
    ]

-- a key of a subtree is one of all
pub has_within : (o : Option KeyBytes) (xs subtree ys : List Node) → HasKey o subtree →
    HasKey o (xs ++ (subtree ++ ys))
has_within None xs subtree ys has = tt
has_within (Some k) xs subtree ys has = known_within k xs subtree ys has

-- one at a cut where nodes begin is their first
pub has_at_start : (o : Option KeyBytes) (t : Cut) (ys : List Node) → LiesAt o t →
    Le t (start_of ys) → is_below t (start_of ys) ≡ false → HasKey o ys
has_at_start None t ys lies high stops = tt
has_at_start (Some k) t ys (inl at) high stops =
    known_high ys t k high (inl at)
    (Le-chain (start_of ys) (before k) (after k) (subst (λ (c : Cut). Le (start_of ys) c) at stops)
    (Le-from_Lt (before k) (after k) (before-after k)))
has_at_start (Some k) t ys (inr at) high stops =
    known_high ys t k high (inr at) (subst (λ (c : Cut). Le (start_of ys) c) at stops)

pub not_new : (o : Option KeyBytes) (ns : List Node) → HasKey o ns → IsNewKey ns o None
not_new None ns has = tt
not_new (Some k) ns has = has

-- What is told of nodes that are raised below the lazy value, where the span reaches the first of
-- them.
pub reported_reached : (n : ℕ) (all v : ValueView) (p : Option ValueView) (f t : Cut)
    (ns : List Node) → IsSorted (with_lazy p ns) → Lt f t → Lt (start_of (with_lazy p ns)) t →
    IsReportedOf n all p ns → IsReportedOf n (joint all (v ∷ [])) p (raise_nodes (between f t) v ns)
reported_reached n all v p f t ns sorted up reaches reported = record {
  some = omega (arith, reported.some, raise_nodes-length (between f t) v ns);
  start = subst (IsCutPrefix n) (sym (raise_nodes-start (between f t) v ns)) reported.start;
  joint = ap (λ (w : ValueView). joint w (v ∷ [])) reported.joint ∙
      sym (all_joint_raised f t v (with_lazy p ns) sorted up reaches) ∙
      ap (λ (ms : List Node). all_joint ms) (sym (raise_lazy p (between f t) v ns));
}

-- a key of the second of two lists is one of both
pub has_right : (o : Option KeyBytes) (xs ys : List Node) → HasKey o ys → HasKey o (xs ++ ys)
has_right None xs ys has = tt
has_right (Some k) xs ys has = is_in-append k xs ys ∙ rw has (or-true (is_in k (node_keys xs)))

-- the second key of a span, where it is handed on
abbrev pub handed_on : InsertionView → Option KeyBytes → InsertionView
handed_on a q = record { first = a.first; second = q; from = a.from; to = a.to; value = a.value }

-- the nodes of subtrees in two lists, with one of each by itself
pub parted_over : {X : Type 0} (f : X → List Node) (xs ys : List X) (p : ℕ) (d e : X) →
    p < length xs → 1 ≤ length ys
    → nodes_of (map f (xs ++ ys)) ≡ nodes_of (map f (take p xs)) ++
    (f (get_or xs p d) ++ (nodes_of (map f (drop (suc p) xs)) ++
    (f (get_or ys 0 e) ++ nodes_of (map f (drop 1 ys)))))
parted_over f [] ys p d e inside some = absurd (omega (arith, inside))
parted_over f xs [] p d e inside some = absurd (omega (arith, some))
parted_over f (x ∷ xs) (y ∷ ys) zero d e inside some =
    ap (λ (ns : List Node). f x ++ ns) (nodes_of_both f xs (y ∷ ys))
parted_over f (x ∷ xs) (y ∷ ys) (suc p) d e inside some =
    ap (λ (ns : List Node). f x ++ ns)
    (parted_over f xs (y ∷ ys) p d e (omega (arith, inside)) some) ∙
    sym (append_assoc (f x) (nodes_of (map f (take p xs)))
    (f (get_or xs p d) ++ (nodes_of (map f (drop (suc p) xs)) ++ (f y ++ nodes_of (map f ys)))))

-- nodes begin below those that stand behind them
pub starts_below_rest : (xs ys : List Node) → 1 ≤ length xs → IsSorted (xs ++ ys) →
    Lt (start_of xs) (start_of ys)
starts_below_rest [] ys some sorted = absurd (omega (arith, some))
starts_below_rest (x ∷ xs) ys some sorted =
    Lt-chain (before x.key) (after x.key) (start_of ys) (before-after x.key)
    (below_next x xs ys sorted)

-- the subtree in which a cut falls is the last one reached
pub reached_here : (ls : List (List Node)) (t : Cut) (p : ℕ) → AreSome ls → IsLeafAt ls t p →
    (1 ≤ p → is_below (start_of (get_or ls p [])) t ≡ true) → IsLastReached ls t p
reached_here ls t p some at reaches = record {
  bound = at.bound;
  reaches = reaches;
  stops = elim (before_or_past (suc p) (length ls)) [
    | inl h ↦ subst (λ (c : Cut). Le t c) (sym (start_at ls some (suc p) [] h))
        (Le-from_Lt t (start_of (get_or ls (suc p) [])) (at.high h))
    | inr h ↦ subst (λ (c : Cut). Le t c) (sym (start_past ls (suc p) h)) (none_above_last t)
  ];
}

-- or the one before it, where it begins right at the cut
pub reached_before : (ls : List (List Node)) (t : Cut) (p : ℕ) → AreSome ls →
    IsSorted (nodes_of ls) → p < length ls → IsLeafAt ls t (suc p) → suc p < length ls →
    is_below (start_of (get_or ls (suc p) [])) t ≡ false → IsLastReached ls t p
reached_before ls t p some sorted inside at within not_reached = record {
  bound = omega (arith, at.bound);
  reaches = λ h.
      let here = leaf_first ls p [] inside in
      let below = starts_below_rest (get_or ls p []) (nodes_of (drop (suc p) ls))
      (some_nodes ls some p [] inside) (subst IsSorted here (sorted_from ls p sorted)) in
      Lt_Le-chain (start_of (get_or ls p [])) (start_of (nodes_of (drop (suc p) ls))) t below
      (subst (λ (c : Cut). Le c t) (sym (start_at ls some (suc p) [] within))
      (at.low (omega arith)));
  stops = subst (λ (c : Cut). Le t c) (sym (start_at ls some (suc p) [] within)) not_reached;
}

-- what comes after a place begins no later than what comes after a later one
pub starts_drop : (ls : List (List Node)) (i j : ℕ) → i ≤ j → IsSorted (nodes_of ls) →
    Le (start_of (nodes_of (drop i ls))) (start_of (nodes_of (drop j ls)))
starts_drop ls zero j up sorted = subst (λ (ns : List Node). Le (start_of ns)
    (start_of (nodes_of (drop j ls)))) (sym (parted_at ls j))
    (starts_first (nodes_of (take j ls)) (nodes_of (drop j ls))
    (subst IsSorted (parted_at ls j) sorted))
starts_drop ls (suc i) zero up sorted = absurd (omega (arith, up))
starts_drop [] (suc i) (suc j) up sorted = Le-itself last
starts_drop (l ∷ ls) (suc i) (suc j) up sorted =
    starts_drop ls i j (omega (arith, up)) (sorted_right l (nodes_of ls) sorted)

-- a span that goes on beyond a subtree stops behind it
pub last_beyond : (ls : List (List Node)) (t : Cut) (p q : ℕ) → IsSorted (nodes_of ls) →
    Lt (start_of (nodes_of (drop (suc p) ls))) t → IsLastReached ls t q → suc p ≤ q
last_beyond ls t p q sorted goes at = elim (before_or_past q (suc p)) [
  | inl h ↦ absurd (Lt-not_Le (start_of (nodes_of (drop (suc q) ls))) t
      (Le_Lt-chain (start_of (nodes_of (drop (suc q) ls))) (start_of (nodes_of (drop (suc p) ls))) t
      (starts_drop ls (suc q) (suc p) (omega (arith, h)) sorted) goes) at.stops)
  | inr h ↦ h
]
