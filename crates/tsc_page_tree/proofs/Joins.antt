-- Nodes of two lists, one after the other: what a span meets and raises in both.
use Rattle.std.proofs.Common.{◌≡◌, ◌⊎◌, inl, inr, ◌∙◌, refl, sym, ap, Bool, false, cond, List, [], ◌∷◌, ◌++◌}
use mathlib.Core.Bool.{true≢false}
use Rattle.std.proofs.lemmas.Bool.{cases_Bool}
use Rattle.tsc_time.specs.ValueView.{ValueView}
use Rattle.tsc_time.specs.Joint.{joint}
use Rattle.tsc_span.specs.Span.{Cut, before, after, last, between, overlaps}
use Rattle.tsc_page_nodes.specs.Nodes.{Node, node_stretches, IsSorted, raise_nodes}
use Rattle.tsc_page_tree.specs.Leaves.{start_of}
use Rattle.tsc_span.proofs.CutOrder.{Lt, Le, Meet, Lt-not_Le, Le-from_Lt, Le-itself, Lt-chain, Le-chain, Le_Lt-chain, Lt_Le-chain, before-after, below_last, none_above_last, overlaps-from, overlaps-reports}
use Rattle.tsc_page_nodes.proofs.Cuts.{lowest}
use Rattle.tsc_page_nodes.proofs.Answers.{Meets}

pub sorted_left : (xs ys : List Node) → IsSorted (xs ++ ys) → IsSorted xs
sorted_left [] ys sorted = tt
sorted_left (x ∷ []) ys sorted = (below_last x.key, tt)
sorted_left (x ∷ y ∷ xs) ys sorted = (sorted.0, sorted_left (y ∷ xs) ys sorted.1)

pub sorted_right : (xs ys : List Node) → IsSorted (xs ++ ys) → IsSorted ys
sorted_right [] ys sorted = sorted
sorted_right (x ∷ xs) ys sorted = sorted_right xs ys sorted.1

-- a node of the first list stands below the second one
pub below_next : (x : Node) (xs ys : List Node) → IsSorted (x ∷ (xs ++ ys)) →
    Lt (after x.key) (start_of ys)
below_next x [] ys sorted = sorted.0
below_next x (y ∷ xs) ys sorted = Lt-chain (after x.key) (before y.key) (start_of ys) sorted.0
    (Lt-chain (before y.key) (after y.key) (start_of ys) (before-after y.key)
    (below_next y xs ys sorted.1))

-- what two pairs of cuts meet is the same
same_overlap : (a b f t c d g u : Cut) → (Meet a b f t → Meet c d g u) →
    (Meet c d g u → Meet a b f t) →
    overlaps (between a b) (between f t) ≡ overlaps (between c d) (between g u)
same_overlap a b f t c d g u to back = elim (cases_Bool (overlaps (between a b) (between f t))) [
  | inl h ↦ h ∙ sym (overlaps-from c d g u (to (overlaps-reports a b f t h)))
  | inr h ↦ elim (cases_Bool (overlaps (between c d) (between g u))) [
    | inl k ↦ absurd (true≢false (sym
        (overlaps-from a b f t (back (overlaps-reports c d g u k))) ∙ h))
    | inr k ↦ h ∙ sym k
  ]
]

apart : (a b f t : Cut) → (Meet a b f t → ⊥) → overlaps (between a b) (between f t) ≡ false
apart a b f t none = elim (cases_Bool (overlaps (between a b) (between f t))) [
  | inl h ↦ absurd (none (overlaps-reports a b f t h))
  | inr h ↦ h
]

-- a node whose key and gap are raised where two tests say so, before other nodes
abbrev pub raised_where : Node → ValueView → Bool → Bool → Node
raised_where n v k g = record {
  key = n.key;
  value = cond k (joint n.value (v ∷ [])) n.value;
  gap = cond g (joint n.gap (v ∷ [])) n.gap;
}

same_node : (n : Node) (v : ValueView) (k l g h : Bool) (ns ms : List Node) → k ≡ l → g ≡ h →
    ns ≡ ms → raised_where n v k g ∷ ns ≡ raised_where n v l h ∷ ms
same_node n v k l g h ns ms first second rest =
    rw (first, second) (ap (λ (os : List Node). raised_where n v l h ∷ os) rest)

-- a cut with one above it is below the last one
pub up_to_last : (f t : Cut) → Lt f t → Lt f last
up_to_last f t up = Lt_Le-chain f t last up (none_above_last t)

-- a span that stops where nodes begin, or below them
module _ (f t : Cut) where
  key_above : (n : Node) → Le t (before n.key) →
      overlaps (between (before n.key) (after n.key)) (between f t) ≡ false
  key_above n high = apart (before n.key) (after n.key) f t
      (λ m. Lt-not_Le (before n.key) t m.1 high)

  gap_above : (n : Node) (e : Cut) → Le t (before n.key) →
      overlaps (between (after n.key) e) (between f t) ≡ false
  gap_above n e high = apart (after n.key) e f t
      (λ m. Lt-not_Le (after n.key) t m.1
      (Le-chain t (before n.key) (after n.key) high
      (Le-from_Lt (before n.key) (after n.key) (before-after n.key))))

  next_above : (n : Node) (ns : List Node) → IsSorted (n ∷ ns) → Le t (before n.key) →
      Le t (start_of ns)
  next_above n ns sorted high = Le-chain t (before n.key) (start_of ns) high
      (Le-from_Lt (before n.key) (start_of ns)
      (Lt-chain (before n.key) (after n.key) (start_of ns) (before-after n.key) sorted.0))

  pub raises_none : (v : ValueView) (ns : List Node) → IsSorted ns → Le t (start_of ns) →
      raise_nodes (between f t) v ns ≡ ns
  raises_none v [] sorted high = refl
  raises_none v (n ∷ ns) sorted high =
      rw (key_above n high, gap_above n (start_of ns) high)
      (ap (λ (ms : List Node). n ∷ ms) (raises_none v ns sorted.1 (next_above n ns sorted high)))

  pub meets_none : (v : ValueView) (ns : List Node) → IsSorted ns → Le t (start_of ns) →
      Meets (between f t) (node_stretches ns) v → ⊥
  meets_none v [] sorted high m = m
  meets_none v (n ∷ ns) sorted high (inl m) = true≢false (sym m.0 ∙ key_above n high)
  meets_none v (n ∷ ns) sorted high (inr (inl m)) =
      true≢false (sym m.0 ∙ gap_above n (start_of ns) high)
  meets_none v (n ∷ ns) sorted high (inr (inr m)) =
      meets_none v ns sorted.1 (next_above n ns sorted high) m

-- a span that stops where the second list begins, or below it
module _ (f t : Cut) (up : Lt f t) (ys : List Node) (high : Le t (start_of ys)) where
  gap_left : (x : Node) (xs : List Node) → IsSorted (x ∷ (xs ++ ys)) →
      overlaps (between (after x.key) (start_of (xs ++ ys))) (between f t) ≡
      overlaps (between (after x.key) (start_of xs)) (between f t)
  gap_left x (y ∷ xs) sorted = refl
  gap_left x [] sorted = same_overlap (after x.key) (start_of ys) f t (after x.key) last f t
      (λ m. (below_last x.key, m.1, up_to_last f t up, up))
      (λ m. (sorted.0, m.1, Lt_Le-chain f t (start_of ys) up high, up))

  pub raises_left : (v : ValueView) (xs : List Node) → IsSorted (xs ++ ys) →
      raise_nodes (between f t) v (xs ++ ys) ≡ raise_nodes (between f t) v xs ++ ys
  raises_left v [] sorted = raises_none f t v ys sorted high
  raises_left v (x ∷ xs) sorted = same_node x v
      (overlaps (between (before x.key) (after x.key)) (between f t))
      (overlaps (between (before x.key) (after x.key)) (between f t))
      (overlaps (between (after x.key) (start_of (xs ++ ys))) (between f t))
      (overlaps (between (after x.key) (start_of xs)) (between f t))
      (raise_nodes (between f t) v (xs ++ ys)) (raise_nodes (between f t) v xs ++ ys) refl
      (gap_left x xs sorted) (raises_left v xs sorted.1)

  pub meets_left : (v : ValueView) (xs : List Node) → IsSorted (xs ++ ys) →
      (Meets (between f t) (node_stretches (xs ++ ys)) v →
      Meets (between f t) (node_stretches xs) v) ×
      (Meets (between f t) (node_stretches xs) v →
      Meets (between f t) (node_stretches (xs ++ ys)) v)
  meets_left v [] sorted = (λ m. absurd (meets_none f t v ys sorted high m), λ m. absurd m)
  meets_left v (x ∷ xs) sorted = let rest = meets_left v xs sorted.1 in (
    λ m. elim m [
      | inl k ↦ inl k
      | inr n ↦ elim n [
        | inl k ↦ inr (inl (sym (gap_left x xs sorted) ∙ k.0, k.1))
        | inr k ↦ inr
            (inr (rest.0 k))
      ]
    ],
    λ m. elim m [
      | inl k ↦ inl k
      | inr n ↦ elim n [
        | inl k ↦ inr (inl (gap_left x xs sorted ∙ k.0, k.1))
        | inr k ↦ inr
            (inr (rest.1 k))
      ]
    ],
  )

-- a span that starts where the second list begins, or within it
module _ (f t : Cut) (ys : List Node) (low : Le (start_of ys) f) where
  key_passed : (x : Node) (xs : List Node) → IsSorted (x ∷ (xs ++ ys)) →
      overlaps (between (before x.key) (after x.key)) (between f t) ≡ false
  key_passed x xs sorted = apart (before x.key) (after x.key) f t
      (λ m. Lt-not_Le f (after x.key) m.2
      (Le-chain (after x.key) (start_of ys) f
      (Le-from_Lt (after x.key) (start_of ys) (below_next x xs ys sorted)) low))

  ends_low : (x : Node) (xs : List Node) → IsSorted (x ∷ (xs ++ ys)) → Le (start_of (xs ++ ys)) f
  ends_low x [] sorted = low
  ends_low x (y ∷ xs) sorted = Le-chain (before y.key) (start_of ys) f
      (Le-from_Lt (before y.key) (start_of ys)
      (Lt-chain (before y.key) (after y.key) (start_of ys) (before-after y.key)
      (below_next y xs ys sorted.1))) low

  gap_passed : (x : Node) (xs : List Node) → IsSorted (x ∷ (xs ++ ys)) →
      overlaps (between (after x.key) (start_of (xs ++ ys))) (between f t) ≡ false
  gap_passed x xs sorted = apart (after x.key) (start_of (xs ++ ys)) f t
      (λ m. Lt-not_Le f (start_of (xs ++ ys)) m.2 (ends_low x xs sorted))

  pub raises_right : (v : ValueView) (xs : List Node) → IsSorted (xs ++ ys) →
      raise_nodes (between f t) v (xs ++ ys) ≡ xs ++ raise_nodes (between f t) v ys
  raises_right v [] sorted = refl
  raises_right v (x ∷ xs) sorted =
      rw (key_passed x xs sorted, gap_passed x xs sorted)
      (ap (λ (ms : List Node). x ∷ ms) (raises_right v xs sorted.1))

  pub meets_right : (v : ValueView) (xs : List Node) → IsSorted (xs ++ ys) →
      (Meets (between f t) (node_stretches (xs ++ ys)) v →
      Meets (between f t) (node_stretches ys) v) ×
      (Meets (between f t) (node_stretches ys) v →
      Meets (between f t) (node_stretches (xs ++ ys)) v)
  meets_right v [] sorted = (λ m. m, λ m. m)
  meets_right v (x ∷ xs) sorted = let rest = meets_right v xs sorted.1 in (
    λ m. elim m [
      | inl k ↦ absurd (true≢false (sym k.0 ∙ key_passed x xs sorted))
      | inr n ↦ elim n [
        | inl k ↦ absurd (true≢false (sym k.0 ∙ gap_passed x xs sorted))
        | inr k ↦
            rest.0 k
      ]
    ],
    λ m. inr (inr (rest.1 m)),
  )

-- a span over the cut where the second list begins
module _ (f t : Cut) (ys : List Node) (from_first : Lt f (start_of ys))
    (to_second : Lt (start_of ys) t) where
  up : Lt f t
  up = Lt-chain f (start_of ys) t from_first to_second

  up_last : Lt f last
  up_last = up_to_last f t up

  from_lowest : (c : Cut) (k : Cut) → Lt k c → Lt (before []) c
  from_lowest c k h = Le_Lt-chain (before []) k c (lowest k) h

  key_first : (x : Node) (xs : List Node) → IsSorted (x ∷ (xs ++ ys)) →
      overlaps (between (before x.key) (after x.key)) (between f t) ≡
      overlaps (between (before x.key) (after x.key)) (between f last)
  key_first x xs sorted = same_overlap (before x.key) (after x.key) f t (before x.key)
      (after x.key) f last
      (λ m. (m.0, up_to_last (before x.key) (after x.key) (before-after x.key), m.2, up_last))
      (λ m. (
        m.0,
        Lt-chain (before x.key) (after x.key) t (before-after x.key)
            (Lt-chain (after x.key) (start_of ys) t (below_next x xs ys sorted) to_second),
        m.2,
        up,
      ))

  gap_first : (x : Node) (xs : List Node) → IsSorted (x ∷ (xs ++ ys)) →
      overlaps (between (after x.key) (start_of (xs ++ ys))) (between f t) ≡
      overlaps (between (after x.key) (start_of xs)) (between f last)
  gap_first x [] sorted = same_overlap (after x.key) (start_of ys) f t (after x.key) last f last
      (λ m. (below_last x.key, below_last x.key, up_last, up_last))
      (λ m. (sorted.0, Lt-chain (after x.key) (start_of ys) t sorted.0 to_second, from_first, up))
  gap_first x (y ∷ xs) sorted = same_overlap (after x.key) (before y.key) f t (after x.key)
      (before y.key) f last
      (λ m. (m.0, below_last x.key, m.2, up_last))
      (λ m. (
        m.0,
        Lt-chain (after x.key) (start_of ys) t (below_next x (y ∷ xs) ys sorted)
            to_second,
        m.2,
        up,
      ))

  key_second : (n : Node) → Le (start_of ys) (before n.key) →
      overlaps (between (before n.key) (after n.key)) (between f t) ≡
      overlaps (between (before n.key) (after n.key)) (between (before []) t)
  key_second n high = same_overlap (before n.key) (after n.key) f t (before n.key) (after n.key)
      (before []) t
      (λ m. (
        m.0,
        m.1,
        from_lowest (after n.key) (before n.key) (before-after n.key),
        from_lowest t f up,
      ))
      (λ m. (
        m.0,
        m.1,
        Lt-chain f (start_of ys) (after n.key) from_first
            (Le_Lt-chain (start_of ys) (before n.key) (after n.key) high (before-after n.key)),
        up,
      ))

  gap_second : (n : Node) (e : Cut) → Le (start_of ys) (before n.key) → Lt (after n.key) e →
      overlaps (between (after n.key) e) (between f t) ≡ overlaps (between (after n.key) e)
      (between (before []) t)
  gap_second n e high wide = same_overlap (after n.key) e f t (after n.key) e (before []) t
      (λ m. (m.0, m.1, from_lowest e (after n.key) wide, from_lowest t f up))
      (λ m. (
        m.0,
        m.1,
        Lt-chain f (start_of ys) e from_first
            (Le_Lt-chain (start_of ys) (before n.key) e high
            (Lt-chain (before n.key) (after n.key) e (before-after n.key) wide)),
        up,
      ))

  later_on : (n : Node) (ns : List Node) → IsSorted (n ∷ ns) → Le (start_of ys) (before n.key) →
      Le (start_of ys) (start_of ns)
  later_on n ns sorted high = Le-chain (start_of ys) (before n.key) (start_of ns) high
      (Le-from_Lt (before n.key) (start_of ns)
      (Lt-chain (before n.key) (after n.key) (start_of ns) (before-after n.key) sorted.0))

  raises_second : (v : ValueView) (ns : List Node) → IsSorted ns → Le (start_of ys) (start_of ns) →
      raise_nodes (between f t) v ns ≡ raise_nodes (between (before []) t) v ns
  raises_second v [] sorted high = refl
  raises_second v (n ∷ ns) sorted high =
      same_node n v (overlaps (between (before n.key) (after n.key)) (between f t))
      (overlaps (between (before n.key) (after n.key)) (between (before []) t))
      (overlaps (between (after n.key) (start_of ns)) (between f t))
      (overlaps (between (after n.key) (start_of ns)) (between (before []) t))
      (raise_nodes (between f t) v ns) (raise_nodes (between (before []) t) v ns)
      (key_second n high) (gap_second n (start_of ns) high sorted.0)
      (raises_second v ns sorted.1 (later_on n ns sorted high))

  meets_second : (v : ValueView) (ns : List Node) → IsSorted ns → Le (start_of ys) (start_of ns) →
      (Meets (between f t) (node_stretches ns) v →
      Meets (between (before []) t) (node_stretches ns) v) ×
      (Meets (between (before []) t) (node_stretches ns) v →
      Meets (between f t) (node_stretches ns) v)
  meets_second v [] sorted high = (λ m. m, λ m. m)
  meets_second v (n ∷ ns) sorted high = let rest =
      meets_second v ns sorted.1 (later_on n ns sorted high) in (
        λ m. elim m [
          | inl k ↦ inl (sym (key_second n high) ∙ k.0, k.1)
          | inr o ↦ elim o [
            | inl k ↦ inr
                (inl (sym (gap_second n (start_of ns) high sorted.0) ∙ k.0, k.1))
            | inr k ↦ inr
                (inr (rest.0 k))
          ]
        ],
        λ m. elim m [
          | inl k ↦ inl (key_second n high ∙ k.0, k.1)
          | inr o ↦ elim o [
            | inl k ↦ inr (inl (gap_second n (start_of ns) high sorted.0 ∙ k.0, k.1))
            | inr k ↦ inr (inr (rest.1 k))
          ]
        ],
      )

  pub raises_both : (v : ValueView) (xs : List Node) → IsSorted (xs ++ ys) →
      raise_nodes (between f t) v (xs ++ ys) ≡ raise_nodes (between f last) v xs ++
      raise_nodes (between (before []) t) v ys
  raises_both v [] sorted = raises_second v ys sorted (Le-itself (start_of ys))
  raises_both v (x ∷ xs) sorted = same_node x v
      (overlaps (between (before x.key) (after x.key)) (between f t))
      (overlaps (between (before x.key) (after x.key)) (between f last))
      (overlaps (between (after x.key) (start_of (xs ++ ys))) (between f t))
      (overlaps (between (after x.key) (start_of xs)) (between f last))
      (raise_nodes (between f t) v (xs ++ ys))
      (raise_nodes (between f last) v xs ++ raise_nodes (between (before []) t) v ys)
      (key_first x xs sorted) (gap_first x xs sorted) (raises_both v xs sorted.1)

  pub meets_both : (v : ValueView) (xs : List Node) → IsSorted (xs ++ ys)
      → (Meets (between f t) (node_stretches (xs ++ ys)) v →
      Meets (between f last) (node_stretches xs) v ⊎
      Meets (between (before []) t) (node_stretches ys) v)
      × (Meets (between f last) (node_stretches xs) v ⊎
      Meets (between (before []) t) (node_stretches ys) v →
      Meets (between f t) (node_stretches (xs ++ ys)) v)
  meets_both v [] sorted = let all =
      meets_second v ys sorted (Le-itself (start_of ys))
      in (λ m. inr (all.0 m), λ m. elim m [ inl k ↦ absurd k | inr k ↦ all.1 k ])
  meets_both v (x ∷ xs) sorted = let rest = meets_both v xs sorted.1 in (
    λ m. elim m [
      | inl k ↦ inl (inl (sym (key_first x xs sorted) ∙ k.0, k.1))
      | inr o ↦ elim o [
        | inl k ↦ inl (inr (inl (sym (gap_first x xs sorted) ∙ k.0, k.1)))
        | inr k ↦ elim (rest.0 k) [ inl q ↦ inl (inr (inr q)) | inr q ↦ inr q ]
      ]
    ],
    λ m. elim m [
      | inl k ↦ elim k [
        | inl q ↦ inl (key_first x xs sorted ∙ q.0, q.1)
        | inr o ↦ elim o [
          | inl q ↦ inr (inl (gap_first x xs sorted ∙ q.0, q.1))
          | inr q ↦ inr
              (inr (rest.1 (inl q)))
        ]
      ]
      | inr k ↦ inr (inr (rest.1 (inr k)))
    ],
  )
