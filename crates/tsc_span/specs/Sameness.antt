-- The test says that two spans are equal exactly where they are, as `==` owes.
use Rattle.std.proofs.Common.{◌≡◌, ◌∙◌, refl, sym, ap, subst, true, Decides, true≢false}
use Rattle.std.specs.Cmp.{IsEquivalence, decided}
use Rattle.std.proofs.lemmas.Bool.{and_parts, and_from}
use Rattle.std.proofs.lemmas.Slice.Eq.{bytes_eq-Decides}
use Rattle.tsc_span.specs.Span.{Cut, before, after, last, SpanView, nothing, between}
use Rattle.tsc_span.specs.Same.{is_same_cut, is_same_span}

-- the test holds of a cut and itself
pub is_same_cut-itself : (a : Cut) → is_same_cut a a ≡ true
is_same_cut-itself (before k) = (bytes_eq-Decides k k).1 refl
is_same_cut-itself (after k) = (bytes_eq-Decides k k).1 refl
is_same_cut-itself last = refl

-- two cuts of which the test holds are equal
pub is_same_cut-reports : (a b : Cut) → is_same_cut a b ≡ true → a ≡ b
is_same_cut-reports (before k) (before m) e = ap before ((bytes_eq-Decides k m).0 e)
is_same_cut-reports (before k) (after m) e = absurd (true≢false (sym e))
is_same_cut-reports (before k) last e = absurd (true≢false (sym e))
is_same_cut-reports (after k) (before m) e = absurd (true≢false (sym e))
is_same_cut-reports (after k) (after m) e = ap after ((bytes_eq-Decides k m).0 e)
is_same_cut-reports (after k) last e = absurd (true≢false (sym e))
is_same_cut-reports last (before m) e = absurd (true≢false (sym e))
is_same_cut-reports last (after m) e = absurd (true≢false (sym e))
is_same_cut-reports last last e = refl

-- the test holds of a span and itself
pub is_same_span-itself : (s : SpanView) → is_same_span s s ≡ true
is_same_span-itself nothing = refl
is_same_span-itself (between from to) =
    and_from _ _ (is_same_cut-itself from) (is_same_cut-itself to)

-- two spans of which the test holds are equal
pub is_same_span-reports : (s t : SpanView) → is_same_span s t ≡ true → s ≡ t
is_same_span-reports nothing nothing e = refl
is_same_span-reports nothing (between first end) e = absurd (true≢false (sym e))
is_same_span-reports (between from to) nothing e = absurd (true≢false (sym e))
is_same_span-reports (between from to) (between first end) e =
    let both = and_parts _ _ e in
    ap (λ a. between a to) (is_same_cut-reports from first both.0) ∙
    ap (λ b. between first b) (is_same_cut-reports to end both.1)

-- the test decides whether two spans are equal
pub is_same_span-Decides : (s t : SpanView) → Decides (is_same_span s t) (s ≡ t)
is_same_span-Decides s t = (
  is_same_span-reports s t,
  λ e. subst (λ u. is_same_span s u ≡ true) e (is_same_span-itself s),
)

-- the laws of `==`
pub is_same_span-equivalence : IsEquivalence is_same_span
is_same_span-equivalence = decided is_same_span is_same_span-Decides
