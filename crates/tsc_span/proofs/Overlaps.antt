-- What overlapping comes to: each of the two spans begins before either stops.
use Rattle.std.proofs.Common.{◌≡◌, ◌∙◌, refl, sym, ap, Bool, true, false, not, ◌&&◌, inl, inr}
use Rattle.std.specs.Ordering.{is_lt, is_gt, ordering_reverse}
use Rattle.std.specs.declared.cmp.Ordering.{Ordering}
use Rattle.std.specs.declared.cmp.Ordering.TheVariants.{Less, Equal, Greater}
use Rattle.std.proofs.lemmas.Cmp.{upto}
use Rattle.std.proofs.lemmas.Bool.{cases_Bool}
use Rattle.std.proofs.Math.Bool.{and_comm}
use Rattle.std.specs.Prelude.{Option, Some, None, IfSome}
use Rattle.tsc_span.specs.declared.cut.Cut as code
use Rattle.tsc_span.specs.Cuts.{cut_of, span_of_cuts}
use Rattle.tsc_span.specs.Span.{KeyBytes, Cut, before, after, cut_cmp, is_below, greater_cut, smaller_cut, is_empty_span, SpanView, nothing, between, overlaps}
use Rattle.tsc_span.specs.Laws.{CoversIsOverlap, OverlapBothWays}
use Rattle.tsc_span.proofs.CutsTotal.{cut_cmp-total, sides_in_order, no_cut_between_sides}

is_lt_back : (o : Ordering) → is_lt (ordering_reverse o) ≡ is_gt o
is_lt_back Less = refl
is_lt_back Equal = refl
is_lt_back Greater = refl

below_is_gt : (a b : Cut) → is_below b a ≡ is_gt (cut_cmp a b)
below_is_gt a b = ap is_lt (cut_cmp-total.antisymm b a) ∙ is_lt_back (cut_cmp a b)

not_both : (o : Ordering) → is_lt o ≡ true → is_gt o ≡ false
not_both Less e = refl
not_both Equal e = refl
not_both Greater e = cc

-- no cut is below one that is below it
pub is_below-opposite : (a b : Cut) → is_below a b ≡ true → is_below b a ≡ false
is_below-opposite a b e = below_is_gt a b ∙ not_both (cut_cmp a b) e

-- being no lower is transitive
pub no_lower-transitive : (a b c : Cut) → is_below b a ≡ false → is_below c b ≡ false →
    is_below c a ≡ false
no_lower-transitive a b c p q =
    below_is_gt a c ∙ upto cut_cmp-total a b c (sym (below_is_gt a b) ∙ p)
    (sym (below_is_gt b c) ∙ q)

pub is_below-transitive : (a b c : Cut) → is_below a b ≡ true → is_below b c ≡ true →
    is_below a c ≡ true
is_below-transitive a b c p q =
    elim (cases_Bool (is_below a c)) [
      | inl e ↦ e
      | inr e ↦ let k : is_below b c ≡ false =
          no_lower-transitive c a b e (is_below-opposite a b p) in cc
    ]

and_after : (a b : Bool) → (b ≡ true → a ≡ true) → b ≡ a && b
and_after true b h = refl
and_after false true h = absurd (let e : false ≡ true = h refl in cc)
and_after false false h = refl

and_before : (a b : Bool) → (a ≡ true → b ≡ true) → a ≡ a && b
and_before true b h = sym (h refl)
and_before false b h = refl

-- the greater of two cuts is below what both are below
below_from_greater : (a b x : Cut) → is_below (greater_cut a b) x ≡ is_below a x && is_below b x
below_from_greater a b x =
    elim (cases_Bool (is_below a b)) [
      | inl e ↦ rw e (and_after (is_below a x) (is_below b x) (λ h. is_below-transitive a b x e h))
      | inr e ↦
          rw e (and_before (is_below a x) (is_below b x)
          (λ h. elim (cases_Bool (is_below b x)) [
            | inl k ↦ k
            | inr k ↦ let n : is_below a x ≡ false = no_lower-transitive x b a k e
                in cc
          ]))
    ]

-- what is below the smaller of two cuts is below both
below_to_smaller : (x a b : Cut) → is_below x (smaller_cut a b) ≡ is_below x a && is_below x b
below_to_smaller x a b =
    elim (cases_Bool (is_below a b)) [
      | inl e ↦ rw e (and_before (is_below x a) (is_below x b) (λ h. is_below-transitive x a b h e))
      | inr e ↦
          rw e (and_after (is_below x a) (is_below x b)
          (λ h. elim (cases_Bool (is_below x a)) [
            | inl k ↦ k
            | inr k ↦ let n : is_below x b ≡ false = no_lower-transitive b a x e k
                in cc
          ]))
    ]

-- two spans overlap where each of the two begins before either stops
pub overlaps-each : (from to first end : Cut) →
    overlaps (between from to) (between first end) ≡ (is_below from to && is_below from end) &&
    (is_below first to && is_below first end)
overlaps-each from to first end =
    below_from_greater from first (smaller_cut to end) ∙
    pair (below_to_smaller from to end) (below_to_smaller first to end)
  where
    pair : {a b c d : Bool} → a ≡ b → c ≡ d → a && c ≡ b && d
    pair e f = cc

swapped : (a b c d : Bool) → (a && b) && (c && d) ≡ (d && c) && (b && a)
swapped a b c d = let whole = and_comm (a && b) (c && d) in let first = and_comm a b in let second =
    and_comm c d in cc

pub overlaps_both_ways : OverlapBothWays
overlaps_both_ways nothing nothing = refl
overlaps_both_ways nothing (between first end) = refl
overlaps_both_ways (between from to) nothing = refl
overlaps_both_ways (between from to) (between first end) =
    overlaps-each from to first end ∙
    swapped (is_below from to) (is_below from end) (is_below first to) (is_below first end) ∙
    sym (overlaps-each first end from to)

not_not : (b : Bool) → not (not b) ≡ b
not_not true = refl
not_not false = refl

-- a cut below the place after a key, and one above the place before it, stand in order
begins_before : (k : KeyBytes) (from to : Cut) → is_below from (after k) ≡ true →
    is_below (before k) to ≡ true → is_below from to ≡ true
begins_before k from to p q =
    elim (cases_Bool (is_below from to)) [
      | inl e ↦ e
      | inr e ↦
          let under : is_below (before k) from ≡ false = sym (not_not (is_below (before k) from)) ∙
          ap not (sym (no_cut_between_sides from k) ∙ p) in
          let over : is_below (before k) to ≡ false =
          no_lower-transitive to from (before k) e under in
          cc
    ]

lies_within : (a b c : Bool) → (b ≡ true → c ≡ true → a ≡ true) → b && c ≡ (a && b) && (c && true)
lies_within true true true h = refl
lies_within true true false h = refl
lies_within true false c h = refl
lies_within false true true h = absurd (let e : false ≡ true = h refl refl in cc)
lies_within false true false h = refl
lies_within false false c h = refl

pub covers_as_it_overlaps : CoversIsOverlap
covers_as_it_overlaps nothing k = refl
covers_as_it_overlaps (between from to) k =
    rw (
      overlaps-each from to (before k) (after k),
      sides_in_order k,
      no_cut_between_sides to k,
      not_not,
      ← no_cut_between_sides from k,
    )
    (lies_within (is_below from to) (is_below from (after k)) (is_below (before k) to)
    (begins_before k from to))

-- a span whose cuts are in order overlaps itself, unless it is empty
pub overlaps_itself : (cuts : Option (code.Cut × code.Cut)) (s : SpanView) →
    span_of_cuts cuts ≡ s → IfSome cuts (λ c. is_below (cut_of c.0) (cut_of c.1) ≡ true) →
    overlaps s s ≡ not (is_empty_span s)
overlaps_itself None s e h = rw (← e) refl
overlaps_itself (Some c) s e h = rw (
  ← e,
  overlaps-each (cut_of c.0) (cut_of c.1) (cut_of c.0) (cut_of c.1),
  h,
) refl
