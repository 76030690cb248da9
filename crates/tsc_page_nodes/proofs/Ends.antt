-- The end keys of a span, and which nodes they are.
use Rattle.std.proofs.Common.{◌≡◌, ◌⊎◌, inl, inr, ◌∙◌, refl, sym, ap, true, false, List, [], ◌∷◌, ◌++◌, length, get_or, arith}
use mathlib.Core.Bool.{true≢false}
use Rattle.std.specs.Prelude.{Option, Some, None}
use Rattle.std.specs.Option.{option_to_list}
use Rattle.std.specs.declared.cmp.Ordering.{Ordering}
use Rattle.std.specs.declared.cmp.Ordering.TheVariants.{Less, Equal, Greater}
use Rattle.std.specs.Ordering.{is_lt, is_eq, ordering_then}
use Rattle.std.specs.Str.{bytes_eq}
use Rattle.std.proofs.Math.Bool.{or-true}
use Rattle.std.proofs.lemmas.Map.Text.{is_eq-slice_cmp}
use Rattle.std.proofs.lemmas.Slice.Eq.{bytes_eq-Decides}
use Rattle.std.proofs.lemmas.Bool.{cases_Bool}
use Rattle.tsc_span.specs.Span.{KeyBytes, key_cmp, Cut, before, after, last, between, different_keys, end_keys, is_below}
use Rattle.tsc_page_model.specs.PageView.{is_in}
use Rattle.tsc_page_nodes.specs.Nodes.{Node, node_keys, node_stretches, IsInOrder}
use Rattle.tsc_span.proofs.CutOrder.{Lt, after-before}
use Rattle.tsc_page_model.proofs.DistinctKeys.{bytes_eq-itself}
use Rattle.tsc_page_nodes.proofs.Cuts.{HasCut, cuts_of_key}

-- a span's first end key is one of them, and so is the second
in_first : (k : KeyBytes) (o : Option KeyBytes) → is_in k (different_keys (Some k) o) ≡ true
in_first k None = rw (bytes_eq-itself k) refl
in_first k (Some m) = elim (cases_Bool (bytes_eq k m))
    [ inl h ↦ rw (h, bytes_eq-itself k) refl | inr h ↦ rw (h, bytes_eq-itself k) refl ]

in_second : (k m : KeyBytes) → is_in m (different_keys (Some k) (Some m)) ≡ true
in_second k m = elim (cases_Bool (bytes_eq k m)) [
  | inl h ↦ rw h (rw ((bytes_eq-Decides m k).1 (sym ((bytes_eq-Decides k m).0 h))) refl)
  | inr h ↦ rw h (rw (bytes_eq-itself m) (or-true (bytes_eq m k)))
]

-- Where the end keys of a span are nodes, its cuts are.
pub ends_are_nodes : (f t : Cut) (ns : List Node) → Lt f t →
    ((k : KeyBytes) → is_in k (end_keys (between f t)) ≡ true → is_in k (node_keys ns) ≡ true) →
    HasCut f (node_stretches ns) × ((t ≡ last) ⊎ HasCut t (node_stretches ns))
ends_are_nodes last t ns up all = absurd (none t up)
  where
    none : (c : Cut) → Lt last c → ⊥
    none (before k) h = true≢false (sym h)
    none (after k) h = true≢false (sym h)
    none last h = true≢false (sym h)
ends_are_nodes (before k) (before m) ns up all = (
  (cuts_of_key k ns (all k (in_first k (Some m)))).0,
  inr (cuts_of_key m ns (all m (in_second k m))).0,
)
ends_are_nodes (before k) (after m) ns up all = (
  (cuts_of_key k ns (all k (in_first k (Some m)))).0,
  inr (cuts_of_key m ns (all m (in_second k m))).1,
)
ends_are_nodes (before k) last ns up all =
    ((cuts_of_key k ns (all k (in_first k None))).0, inl refl)
ends_are_nodes (after k) (before m) ns up all = (
  (cuts_of_key k ns (all k (in_first k (Some m)))).1,
  inr (cuts_of_key m ns (all m (in_second k m))).0,
)
ends_are_nodes (after k) (after m) ns up all = (
  (cuts_of_key k ns (all k (in_first k (Some m)))).1,
  inr (cuts_of_key m ns (all m (in_second k m))).1,
)
ends_are_nodes (after k) last ns up all = ((cuts_of_key k ns (all k (in_first k None))).1, inl refl)

-- two different keys, one of which is not above the other, are in order
in_order : (k m a b : KeyBytes) (o : Ordering) → (key_cmp a b ≡ o) →
    (is_lt o ≡ true) ⊎ (is_eq o ≡ true) → k ∷ m ∷ [] ≡ different_keys (Some a) (Some b) →
    is_below (after k) (before m) ≡ true
in_order k m a b o e small same = elim (cases_Bool (bytes_eq a b)) [
  | inl h ↦ absurd (longer (rw h at same))
  | inr h ↦
      let both : k ∷ m ∷ [] ≡ a ∷ b ∷ [] = rw h at same in
      let less : key_cmp a b ≡ Less = by o e small (sym (is_eq-slice_cmp a b ∙ h)) in
      rw (ap (λ l. get_or l 0 []) both, ap (λ l. get_or l 1 []) both) (after-before a b less)
]
  where
    longer : k ∷ m ∷ [] ≡ a ∷ [] → ⊥
    longer e = absurd (omega (arith, ap length e))

    by : (p : Ordering) → key_cmp a b ≡ p → (is_lt p ≡ true) ⊎ (is_eq p ≡ true) →
        false ≡ is_eq (key_cmp a b) → key_cmp a b ≡ Less
    by Less h s d = h
    by Equal h s d = absurd (true≢false (sym (d ∙ ap is_eq h)))
    by Greater h (inl s) d = absurd (true≢false (sym s))
    by Greater h (inr s) d = absurd (true≢false (sym s))

-- the end keys of a span that is not upside down are in order
pub ends_in_order : (f t : Cut) (o p : Option KeyBytes) → Lt f t →
    option_to_list o ++ option_to_list p ≡ end_keys (between f t) → IsInOrder o p
ends_in_order f t None p up same = tt
ends_in_order f t (Some k) None up same = tt
ends_in_order (before a) (before b) (Some k) (Some m) up same =
    in_order k m a b (key_cmp a b) refl (inl up) same
ends_in_order (before a) (after b) (Some k) (Some m) up same =
    in_order k m a b (key_cmp a b) refl (small (key_cmp a b) up) same
  where
    small : (o : Ordering) → is_lt (ordering_then o Less) ≡ true →
        (is_lt o ≡ true) ⊎ (is_eq o ≡ true)
    small Less h = inl refl
    small Equal h = inr refl
    small Greater h = absurd (true≢false (sym h))
ends_in_order (before a) last (Some k) (Some m) up same = absurd (omega (arith, ap length same))
ends_in_order (after a) (before b) (Some k) (Some m) up same =
    in_order k m a b (key_cmp a b) refl (small (key_cmp a b) up) same
  where
    small : (o : Ordering) → is_lt (ordering_then o Greater) ≡ true →
        (is_lt o ≡ true) ⊎ (is_eq o ≡ true)
    small Less h = inl refl
    small Equal h = absurd (true≢false (sym h))
    small Greater h = absurd (true≢false (sym h))
ends_in_order (after a) (after b) (Some k) (Some m) up same =
    in_order k m a b (key_cmp a b) refl (inl up) same
ends_in_order (after a) last (Some k) (Some m) up same = absurd (omega (arith, ap length same))
ends_in_order last t (Some k) (Some m) up same = absurd (none t up)
  where
    none : (c : Cut) → Lt last c → ⊥
    none (before q) h = true≢false (sym h)
    none (after q) h = true≢false (sym h)
    none last h = true≢false (sym h)
