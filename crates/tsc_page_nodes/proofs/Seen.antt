-- The joint value of what was seen so far.
use Rattle.std.proofs.Common.{◌≡◌, ◌⊎◌, inl, inr, ◌∙◌, refl, sym, ap, subst, true, ℕ, zero, suc, ◌+◌, ◌<◌, ◌≤◌, List, [], ◌∷◌, length, get_or, arith}
use mathlib.Core.Bool.{true≢false}
use Rattle.std.proofs.lemmas.List.{get_or_default}
use Rattle.tsc_time.specs.Time.{zero_time}
use Rattle.tsc_time.specs.ValueView.{ValueView, unowned}
use Rattle.tsc_time.specs.Joint.{joint, joint_above, IsAtMost}
use Rattle.tsc_time.proofs.RatchetOrder.{IsAtMost-itself, IsAtMost-antisymmetric, IsAtMost-transitive}
use Rattle.tsc_span.specs.Span.{SpanView, overlaps}
use Rattle.tsc_page_nodes.specs.Nodes.{Node, Stretch, node_stretches, stretches, key_span, gap_span, HoldsKeysOn, HoldsGapsOn, answer_of}
use Rattle.tsc_page_nodes.proofs.Answers.{values_over-is, Meets, answer_over, answer-above, answer-above_zero, answer-least}
use Rattle.tsc_page_nodes.proofs.Indices.{before_or_past, some_node}
use Rattle.tsc_page_nodes.proofs.Raises.{first_below, second_below, both_below}

-- a value is the joint one of time zero and of all that were seen
pub record IsJointOf (Seen : ValueView → Type 0) (best : ValueView) : Type 0 where
  pub zero_below : IsAtMost (unowned zero_time) best
  pub above : (w : ValueView) → Seen w → IsAtMost w best
  pub least : (u : ValueView) → IsAtMost (unowned zero_time) u →
      ((w : ValueView) → Seen w → IsAtMost w u) → IsAtMost best u

-- nothing was seen yet
pub none_seen : (Seen : ValueView → Type 0) → ((w : ValueView) → Seen w → ⊥) →
    IsJointOf Seen (unowned zero_time)
none_seen Seen none = record {
  zero_below = IsAtMost-itself (unowned zero_time);
  above = λ w s. absurd (none w s);
  least = λ u z each. z;
}

-- one more was seen
pub one_more_seen : (Seen More : ValueView → Type 0) (best v : ValueView) →
    ((w : ValueView) → More w → Seen w ⊎ (w ≡ v)) → ((w : ValueView) → Seen w → More w) → More v →
    IsJointOf Seen best → IsJointOf More (joint best (v ∷ []))
one_more_seen Seen More best v only kept new so_far = record {
  zero_below = IsAtMost-transitive (unowned zero_time) best (joint best (v ∷ [])) so_far.zero_below
      (first_below best v);
  above = λ w s. elim (only w s) [
    | inl h ↦ IsAtMost-transitive w best (joint best (v ∷ [])) (so_far.above w h)
        (first_below best v)
    | inr h ↦ subst (λ (x : ValueView). IsAtMost x (joint best (v ∷ []))) (sym h)
        (second_below best v)
  ];
  least = λ u z each. both_below best v u (so_far.least u z (λ w s. each w (kept w s)))
      (each v new);
}

-- the same was seen
pub same_seen : (Seen Other : ValueView → Type 0) (best : ValueView) →
    ((w : ValueView) → Seen w → Other w) → ((w : ValueView) → Other w → Seen w) →
    IsJointOf Seen best → IsJointOf Other best
same_seen Seen Other best to back so_far =
    record {
      zero_below = so_far.zero_below;
      above = λ w s. so_far.above w (back w s);
      least = λ u z each. so_far.least u z (λ w s. each w (to w s));
    }

-- the key of a node of some places has the value
abbrev pub KeySeen : List Node → ℕ → ℕ → ValueView → Type 0
KeySeen ns start end w = (j : ℕ) × (start ≤ j) × (j < end) × (w ≡ (get_or ns j some_node).value)

-- or the gap after it
abbrev pub GapSeen : List Node → ℕ → ℕ → ValueView → Type 0
GapSeen ns start end w = (j : ℕ) × (start ≤ j) × (j < end) × (w ≡ (get_or ns j some_node).gap)

-- one more key
pub key_seen : (ns : List Node) (start i : ℕ) (d : Node) (best : ValueView) → start ≤ i →
    i < length ns → IsJointOf (KeySeen ns start i) best →
    IsJointOf (KeySeen ns start (i + 1)) (joint best ((get_or ns i d).value ∷ []))
key_seen ns start i d best low within so_far =
    one_more_seen (KeySeen ns start i) (KeySeen ns start (i + 1)) best (get_or ns i d).value
    (λ w s. elim (before_or_past s.0 i) [
      | inl h ↦ inl (s.0, s.1, h, s.3)
      | inr h ↦ let e : s.0 ≡ i = omega (arith, s.2) in inr
          (s.3 ∙ ap (λ (j : ℕ). (get_or ns j some_node).value) e ∙
          ap (λ (n : Node). n.value) (get_or_default ns i some_node d within))
    ])
    (λ w s. (s.0, s.1, omega (arith, s.2), s.3))
    (i, low, omega arith, ap (λ (n : Node). n.value) (get_or_default ns i d some_node within))
    so_far

-- one more gap, beside what was seen before
pub gap_seen : (ns : List Node) (Before : ValueView → Type 0) (start i : ℕ) (d : Node)
    (best : ValueView) → start ≤ i → i < length ns →
    IsJointOf (λ w. Before w ⊎ GapSeen ns start i w) best →
    IsJointOf (λ w. Before w ⊎ GapSeen ns start (i + 1) w) (joint best ((get_or ns i d).gap ∷ []))
gap_seen ns Before start i d best low within so_far =
    one_more_seen (λ w. Before w ⊎ GapSeen ns start i w)
    (λ w. Before w ⊎ GapSeen ns start (i + 1) w) best (get_or ns i d).gap
    (λ w s. elim s [
      | inl k ↦ inl (inl k)
      | inr g ↦ elim (before_or_past g.0 i) [
        | inl h ↦ inl (inr (g.0, g.1, h, g.3))
        | inr h ↦ let e : g.0 ≡ i =
            omega (arith, g.2) in inr
            (g.3 ∙ ap (λ (j : ℕ). (get_or ns j some_node).gap) e ∙
            ap (λ (n : Node). n.gap) (get_or_default ns i some_node d within))
      ]
    ])
    (λ w s. elim s [
      | inl k ↦ inl k
      | inr g ↦ inr (g.0, g.1, omega (arith, g.2), g.3)
    ])
    (inr (i, low, omega arith, ap (λ (n : Node). n.gap) (get_or_default ns i d some_node within)))
    so_far

-- a key or gap that overlaps is met
meets_key : (s : SpanView) (ns : List Node) (j : ℕ) (d : Node) → j < length ns →
    overlaps (key_span (get_or ns j d)) s ≡ true → Meets s (node_stretches ns) (get_or ns j d).value
meets_key s [] j d h over = absurd (omega arith)
meets_key s (n ∷ ns) zero d h over = inl (over, refl)
meets_key s (n ∷ ns) (suc j) d h over = inr (inr (meets_key s ns j d (omega arith) over))

meets_gap : (s : SpanView) (ns : List Node) (j : ℕ) (d : Node) → j < length ns →
    overlaps (gap_span ns j (get_or ns j d)) s ≡ true →
    Meets s (node_stretches ns) (get_or ns j d).gap
meets_gap s [] j d h over = absurd (omega arith)
meets_gap s (n ∷ ns) zero d h over = inr (inl (over, refl))
meets_gap s (n ∷ ns) (suc j) d h over = inr (inr (meets_gap s ns j d (omega arith) over))

-- and what is met is one of those
met_at : (s : SpanView) (ns : List Node) (w : ValueView) → Meets s (node_stretches ns) w
    → ((j : ℕ) × (j < length ns) × (overlaps (key_span (get_or ns j some_node)) s ≡ true) ×
    (w ≡ (get_or ns j some_node).value))
    ⊎ ((j : ℕ) × (j < length ns) × (overlaps (gap_span ns j (get_or ns j some_node)) s ≡ true) ×
    (w ≡ (get_or ns j some_node).gap))
met_at s [] w m = absurd m
met_at s (n ∷ ns) w (inl m) = inl (0, omega arith, m.0, sym m.1)
met_at s (n ∷ ns) w (inr (inl m)) = inr (0, omega arith, m.0, sym m.1)
met_at s (n ∷ ns) w (inr (inr m)) = elim (met_at s ns w m) [
  | inl r ↦ inl (suc r.0, omega (arith, r.1), r.2, r.3)
  | inr r ↦ inr (suc r.0, omega (arith, r.1), r.2, r.3)
]

-- a key that overlaps a span has the value
abbrev pub KeyMet : List Node → SpanView → ValueView → Type 0
KeyMet ns s w = (j : ℕ) × (j < length ns) × (overlaps (key_span (get_or ns j some_node)) s ≡ true) ×
    (w ≡ (get_or ns j some_node).value)

-- all keys that overlap the span were seen, and no gap yet
pub keys_met : (ns : List Node) (s : SpanView) (first past start : ℕ) (best : ValueView) →
    HoldsKeysOn ns s first past → IsJointOf (KeySeen ns first past) best →
    IsJointOf (λ w. KeyMet ns s w ⊎ GapSeen ns start start w) best
keys_met ns s first past start best keys so_far =
    same_seen (KeySeen ns first past) (λ w. KeyMet ns s w ⊎ GapSeen ns start start w) best
    (λ w k. inl (k.0, omega (arith, k.2, keys.bound), keys.within k.0 some_node k.1 k.2, k.3))
    (λ w m. elim m [
      | inl k ↦ elim (before_or_past k.0 first) [
        | inl h ↦ absurd (true≢false (sym k.2 ∙ keys.below k.0 some_node h))
        | inr h ↦ elim (before_or_past k.0 past) [
          | inl g ↦ (k.0, h, g, k.3)
          | inr g ↦ absurd (true≢false (sym k.2 ∙ keys.above k.0 some_node g k.1))
        ]
      ]
      | inr g ↦ absurd (omega (arith, g.1, g.2))
    ])
    so_far

-- all keys and gaps that overlap the span were seen, so their joint value is the answer
pub all_seen : (ns : List Node) (s : SpanView) (start end : ℕ) (best : ValueView) →
    HoldsGapsOn ns s start end → IsJointOf (λ w. KeyMet ns s w ⊎ GapSeen ns start end w) best →
    best ≡ answer_of ns s
all_seen ns s start end best gaps so_far =
    IsAtMost-antisymmetric best (answer_over s xs)
    (so_far.least (answer_over s xs) (answer-above_zero s xs)
    (λ w seen. answer-above s xs w (inr (met w seen))))
    (answer-least s xs best so_far.zero_below (λ w m. elim m [
      | inl h ↦ subst (λ (x : ValueView). IsAtMost x best) h.1 so_far.zero_below
      | inr h ↦ so_far.above w (found w h)
    ]))
    ∙ ap (joint_above zero_time) (values_over-is s xs)
  where
    xs : List Stretch
    xs = stretches ns

    met : (w : ValueView) → KeyMet ns s w ⊎ GapSeen ns start end w → Meets s (node_stretches ns) w
    met w (inl k) = subst (Meets s (node_stretches ns)) (sym k.3)
        (meets_key s ns k.0 some_node k.1 k.2)
    met w (inr g) = subst (Meets s (node_stretches ns)) (sym g.3)
        (meets_gap s ns g.0 some_node (omega (arith, g.2, gaps.bound))
        (gaps.within g.0 some_node g.1 g.2))

    found : (w : ValueView) → Meets s (node_stretches ns) w → KeyMet ns s w ⊎ GapSeen ns start end w
    found w m = elim (met_at s ns w m) [
      | inl k ↦ inl k
      | inr k ↦ elim (before_or_past k.0 start) [
        | inl h ↦ absurd (true≢false (sym k.2 ∙ gaps.below k.0 some_node h))
        | inr h ↦ elim (before_or_past k.0 end) [
          | inl g ↦ inr (k.0, h, g, k.3)
          | inr g ↦ absurd (true≢false (sym k.2 ∙ gaps.above k.0 some_node g k.1))
        ]
      ]
    ]

-- a loop over places that is at one of them
pub record IsAt (first i past length_of : ℕ) : Type 0 where
  pub low : first ≤ i
  pub order : i ≤ past
  pub bound : past ≤ length_of
