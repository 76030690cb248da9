-- The order of cuts is a total one, in which nothing stands between the two sides of a key.
use Rattle.std.proofs.Common.{◌≡◌, ◌∙◌, refl, sym, ap, List, [], ◌∷◌, true, not}
use Rattle.std.specs.declared.cmp.Ordering.{Ordering}
use Rattle.std.specs.declared.cmp.Ordering.TheVariants.{Less, Equal, Greater}
use Rattle.std.specs.Ordering.{is_lt, is_eq, ordering_then, ordering_reverse}
use Rattle.std.specs.Cmp.{IsTotalOrder}
use Rattle.std.specs.Cmp.Lexicographic.{slice_cmp}
use Rattle.std.proofs.lemmas.Cmp.{nat_list_cmp_total, lists_total, on_total, tied_itself}
use Rattle.std.proofs.lemmas.Map.Text.{is_eq-slice_cmp}
use Rattle.std.proofs.lemmas.Slice.Eq.{bytes_eq-Decides}
use Rattle.tsc_span.specs.Span.{KeyBytes, key_cmp, Cut, before, after, last, cut_cmp, is_below}

-- what the keys the other way round answer
pub key_cmp_back : (from to : KeyBytes) → key_cmp to from ≡ ordering_reverse (key_cmp from to)
key_cmp_back from to = nat_list_cmp_total.antisymm to from

-- only the same keys are equal
pub key_cmp-same : (k m : KeyBytes) → key_cmp k m ≡ Equal → k ≡ m
key_cmp-same k m e = (bytes_eq-Decides k m).0 (sym (is_eq-slice_cmp k m) ∙ ap is_eq e)

never_less : (o : Ordering) → ordering_then o Less ≡ Equal → ⊥
never_less Less e = cc
never_less Equal e = cc
never_less Greater e = cc

never_greater : (o : Ordering) → ordering_then o Greater ≡ Equal → ⊥
never_greater Less e = cc
never_greater Equal e = cc
never_greater Greater e = cc

-- a cut as texts whose order is that of cuts: whether it is the last, its key, and the side
spelled : Cut → List KeyBytes
spelled (before k) = (0 ∷ []) ∷ k ∷ (0 ∷ []) ∷ []
spelled (after k) = (0 ∷ []) ∷ k ∷ (1 ∷ []) ∷ []
spelled last = (1 ∷ []) ∷ []

then_equal : (o : Ordering) → o ≡ ordering_then o Equal
then_equal Less = refl
then_equal Equal = refl
then_equal Greater = refl

spelled_order : (a b : Cut) → cut_cmp a b ≡ slice_cmp key_cmp (spelled a) (spelled b)
unfolding spelled
spelled_order (before k) (before m) = then_equal (key_cmp k m)
spelled_order (before k) (after m) = refl
spelled_order (before k) last = refl
spelled_order (after k) (before m) = refl
spelled_order (after k) (after m) = then_equal (key_cmp k m)
spelled_order (after k) last = refl
spelled_order last (before m) = refl
spelled_order last (after m) = refl
spelled_order last last = refl

spelled_total : IsTotalOrder (λ (a b : Cut). slice_cmp key_cmp (spelled a) (spelled b))
spelled_total = on_total spelled (lists_total nat_list_cmp_total)

pub cut_cmp-total : IsTotalOrder cut_cmp
cut_cmp-total = record {
  antisymm = λ a b. spelled_order a b ∙ spelled_total.antisymm a b ∙
      ap ordering_reverse (sym (spelled_order b a));
  trans = λ a b c p q. spelled_order a c ∙
      spelled_total.trans a b c (sym (spelled_order a b) ∙ p) (sym (spelled_order b c) ∙ q);
  congr = λ a b c p. spelled_order a c ∙ spelled_total.congr a b c (sym (spelled_order a b) ∙ p) ∙
      sym (spelled_order b c);
}

-- only the same cuts are equal
pub cut_cmp-same : (a b : Cut) → cut_cmp a b ≡ Equal → a ≡ b
cut_cmp-same (before k) (before m) e = ap before (key_cmp-same k m e)
cut_cmp-same (before k) (after m) e = absurd (never_less (key_cmp k m) e)
cut_cmp-same (before k) last e = cc
cut_cmp-same (after k) (before m) e = absurd (never_greater (key_cmp k m) e)
cut_cmp-same (after k) (after m) e = ap after (key_cmp-same k m e)
cut_cmp-same (after k) last e = cc
cut_cmp-same last (before m) e = cc
cut_cmp-same last (after m) e = cc
cut_cmp-same last last e = refl

-- the place before a key is below the place after it
pub sides_in_order : (k : KeyBytes) → is_below (before k) (after k) ≡ true
sides_in_order k = simp (tied_itself nat_list_cmp_total k)

-- and what is below the place after it is not above the place before it
pub no_cut_between_sides : (a : Cut) (k : KeyBytes) →
    is_below a (after k) ≡ not (is_below (before k) a)
no_cut_between_sides (before m) k = rw (key_cmp_back m k) (turned (key_cmp m k))
  where
    turned : (o : Ordering) → is_lt (ordering_then o Less) ≡ not (is_lt (ordering_reverse o))
    turned Less = refl
    turned Equal = refl
    turned Greater = refl
no_cut_between_sides (after m) k = rw (key_cmp_back m k) (turned (key_cmp m k))
  where
    turned : (o : Ordering) → is_lt o ≡ not (is_lt (ordering_then (ordering_reverse o) Less))
    turned Less = refl
    turned Equal = refl
    turned Greater = refl
no_cut_between_sides last k = refl
