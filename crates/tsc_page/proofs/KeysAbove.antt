-- The least key above a cut: of sorted nodes the first one.
use Rattle.std.proofs.Common.{◌≡◌, inl, inr, ◌∙◌, refl, sym, subst, Bool, true, false, List, [], ◌∷◌, ◌||◌}
use mathlib.Core.Bool.{true≢false}
use Rattle.std.specs.Prelude.{Option, Some, None}
use Rattle.std.specs.Str.{bytes_eq}
use Rattle.std.proofs.lemmas.Bool.{cases_Bool}
use Rattle.std.proofs.lemmas.Slice.Eq.{bytes_eq-Decides}
use Rattle.tsc_span.specs.Span.{KeyBytes, Cut, before, after, is_below}
use Rattle.tsc_page_model.specs.PageView.{is_in}
use Rattle.tsc_page_nodes.specs.Nodes.{Node, IsSorted, node_keys}
use Rattle.tsc_page_model.specs.KeysAbove.{lies_above, first_above, IsLeastAbove}
use Rattle.tsc_span.proofs.CutOrder.{Lt, Le-from_Lt, Le-itself, Lt-chain, before-after}

-- lists with the same keys have the same least one above a cut
pub least_among_same : (c : Cut) (ks ls : List KeyBytes) →
    ((k : KeyBytes) → is_in k ks ≡ is_in k ls) → (r : Option KeyBytes) → IsLeastAbove c ks r →
    IsLeastAbove c ls r
least_among_same c ks ls same None none = λ k h. none k (same k ∙ h)
least_among_same c ks ls same (Some m) reported = record {
  member = sym (same m) ∙ reported.member;
  above = reported.above;
  least = λ k h a. reported.least k (same k ∙ h) a;
}

-- a key is in a list behind another one where it isn't that
pub in_rest : (k m : KeyBytes) (ks : List KeyBytes) → bytes_eq k m ≡ false →
    is_in k (m ∷ ks) ≡ true → is_in k ks ≡ true
in_rest k m ks other h = subst (λ b. (b || is_in k ks) ≡ true) other h

-- a key that begins below the cut makes no difference
one_below : (c : Cut) (m : KeyBytes) (ks : List KeyBytes) → is_below (before m) c ≡ true →
    (r : Option KeyBytes) → IsLeastAbove c ks r → IsLeastAbove c (m ∷ ks) r
one_below c m ks low None none = λ k h. elim (cases_Bool (bytes_eq k m)) [
  | inl e ↦ subst (λ (q : KeyBytes). lies_above c q ≡ false) (sym ((bytes_eq-Decides k m).0 e))
      (rw low refl)
  | inr e ↦ none k (in_rest k m ks e h)
]
one_below c m ks low (Some first) reported = record {
  member = rw reported.member (or_true (bytes_eq first m));
  above = reported.above;
  least = λ k h a. elim (cases_Bool (bytes_eq k m)) [
    | inl e ↦ absurd (true≢false (sym a ∙
        subst (λ (q : KeyBytes). lies_above c q ≡ false) (sym ((bytes_eq-Decides k m).0 e))
        (rw low refl)))
    | inr e ↦ reported.least k (in_rest k m ks e h) a
  ];
}
  where
    or_true : (b : Bool) → (b || true) ≡ true
    or_true true = refl
    or_true false = refl

-- the keys of nodes lie above that of the node before them
rest_above : (n : Node) (ns : List Node) → IsSorted (n ∷ ns) → (k : KeyBytes) →
    is_in k (node_keys ns) ≡ true → Lt (before n.key) (before k)
rest_above n [] sorted k h = absurd (true≢false (sym h))
rest_above n (m ∷ ms) sorted k h =
    let up : Lt (before n.key) (before m.key) =
    Lt-chain (before n.key) (after n.key) (before m.key) (before-after n.key) sorted.0 in
    elim (cases_Bool (bytes_eq k m.key)) [
      | inl e ↦ subst (λ (q : KeyBytes). Lt (before n.key) (before q))
          (sym ((bytes_eq-Decides k m.key).0 e)) up
      | inr e ↦ Lt-chain (before n.key) (before m.key) (before k) up
          (rest_above m ms sorted.1 k (in_rest k m.key (node_keys ms) e h))
    ]

pub first_is_least : (c : Cut) (ns : List Node) → IsSorted ns →
    IsLeastAbove c (node_keys ns) (first_above c (node_keys ns))
first_is_least c [] sorted = λ k h. absurd (true≢false (sym h))
first_is_least c (n ∷ ns) sorted = elim (cases_Bool (is_below (before n.key) c)) [
  | inl h ↦ rw h (one_below c n.key (node_keys ns) h (first_above c (node_keys ns))
      (first_is_least c ns sorted.1))
  | inr h ↦ rw h (record {
    member = rw ((bytes_eq-Decides n.key n.key).1 refl) refl;
    above = rw h refl;
    least = λ k i a. elim (cases_Bool (bytes_eq k n.key)) [
      | inl e ↦ subst (λ (q : KeyBytes). is_below (before q) (before n.key) ≡ false)
          (sym ((bytes_eq-Decides k n.key).0 e)) (Le-itself (before n.key))
      | inr e ↦ Le-from_Lt (before n.key) (before k)
          (rest_above n ns sorted k (in_rest k n.key (node_keys ns) e i))
    ];
  })
]
