-- The spans that can be made of keys.
use Rattle.std.proofs.Common.{◌≡◌, ◌∙◌, ◌<◌, ◌≤◌, ◌&&◌, if◌then◌else◌, refl, sym, ap, subst, Bool, true, false, Some, inl, inr, length, []}
use Rattle.std.specs.Prelude.{◌⊎◌}
use Rattle.std.specs.declared.cmp.Ordering.{Ordering}
use Rattle.std.specs.declared.cmp.Ordering.TheVariants.{Less, Equal, Greater}
use Rattle.std.specs.Ordering.{is_lt, ordering_then}
use Rattle.std.specs.List.{All}
use Rattle.std.proofs.lemmas.Bool.{le-leb}
use Rattle.std.proofs.lemmas.Option.{same_Some}
use Rattle.std.proofs.lemmas.List.Elements.{All-nil}
use Rattle.tsc_span.specs.Limits.{longest_key}
use Rattle.tsc_span.specs.Span.{KeyBytes, key_cmp, before, after, last, SpanView, nothing, between, point, start_cut, end_cut, range, onward}
use Rattle.tsc_span.specs.MadeSpan.{IsKey, IsMadeSpan, IsOfRange, IsOnward, MadeByConstructor}
use Rattle.tsc_span.proofs.CutsTotal.{key_cmp-same, sides_in_order}
use Rattle.tsc_span.proofs.Ranges.{range_of_greater, range_of_equal, range_of_less}

pub is_key : (k : KeyBytes) → length k ≤ longest_key → All (λ b. b < 256) k → IsKey k
is_key k few small = record { fits = le-leb _ _ few; bytes = small }

pub made_point : (k : KeyBytes) → IsKey k → IsMadeSpan (point k)
made_point k h = (h, h, sides_in_order k)

pub only_less : (o : Ordering) → is_lt o ≡ true → o ≡ Less
only_less Less e = refl
only_less Equal e = cc
only_less Greater e = cc

pub less_before : (o : Ordering) → is_lt (ordering_then o Greater) ≡ true → o ≡ Less
less_before Less e = refl
less_before Equal e = cc
less_before Greater e = cc

pub less_or_equal : (o : Ordering) → is_lt (ordering_then o Less) ≡ true → (o ≡ Less) ⊎ (o ≡ Equal)
less_or_equal Less e = inl refl
less_or_equal Equal e = inr refl
less_or_equal Greater e = cc

-- a range of two keys of which the first is the smaller
of_smaller : (from to : KeyBytes) (xf xt : Bool) → IsKey from → IsKey to → key_cmp from to ≡ Less →
    IsOfRange (between (start_cut from xf) (end_cut to xt))
of_smaller from to xf xt f t less = (from, to, xf, xt, f, t, range_of_less from to xf xt less)

-- a range of a key and itself, both included
of_same : (k m : KeyBytes) → IsKey k → key_cmp k m ≡ Equal →
    IsOfRange (between (before k) (after m))
of_same k m h equal = (
  k,
  m,
  false,
  false,
  h,
  rw (← key_cmp-same k m equal) h,
  range_of_equal k m false false equal ∙
      ap (λ x. Some (between (before k) (after x))) (key_cmp-same k m equal),
)

empty_key : IsKey []
empty_key = record { fits = refl; bytes = All-nil (λ b. b < 256) }

given : (s : SpanView) → IsMadeSpan s → IsOfRange s ⊎ IsOnward s
given nothing m = inl ([], [], true, true, empty_key, empty_key, refl)
given (between (before k) (before n)) m =
    inl (of_smaller k n false true m.0 m.1 (only_less (key_cmp k n) m.2))
given (between (before k) (after n)) m =
    elim (less_or_equal (key_cmp k n) m.2) [
      | inl less ↦ inl (of_smaller k n false false m.0 m.1 less)
      | inr equal ↦ inl (of_same k n m.0 equal)
    ]
given (between (before k) last) m = inr (k, false, m.0, refl)
given (between (after k) (before n)) m =
    inl (of_smaller k n true true m.0 m.1 (less_before (key_cmp k n) m.2))
given (between (after k) (after n)) m =
    inl (of_smaller k n true false m.0 m.1 (only_less (key_cmp k n) m.2))
given (between (after k) last) m = inr (k, true, m.0, refl)
given (between last (before n)) m = absurd (let e = m.2 in cc)
given (between last (after n)) m = absurd (let e = m.2 in cc)
given (between last last) m = absurd (let e = m.2 in cc)

made_key_or_none : (from : KeyBytes) (xf xt : Bool) → IsKey from →
    IsMadeSpan (if xf && xt then nothing else point from)
made_key_or_none from true true f = tt
made_key_or_none from true false f = made_point from f
made_key_or_none from false xt f = made_point from f

made_between : (from to : KeyBytes) (xf xt : Bool) → IsKey from → IsKey to →
    key_cmp from to ≡ Less → IsMadeSpan (between (start_cut from xf) (end_cut to xt))
made_between from to true true f t less = (f, t, rw less refl)
made_between from to true false f t less = (f, t, rw less refl)
made_between from to false true f t less = (f, t, rw less refl)
made_between from to false false f t less = (f, t, rw less refl)

made_range : (s : SpanView) (from to : KeyBytes) (xf xt : Bool) → IsKey from → IsKey to →
    range from to xf xt ≡ Some s → IsMadeSpan s
made_range s from to xf xt f t e = by_order (key_cmp from to) refl
  where
    by_order : (o : Ordering) → key_cmp from to ≡ o → IsMadeSpan s
    by_order Less h = subst IsMadeSpan (same_Some _ _ (sym (range_of_less from to xf xt h) ∙ e))
        (made_between from to xf xt f t h)
    by_order Equal h = subst IsMadeSpan (same_Some _ _ (sym (range_of_equal from to xf xt h) ∙ e))
        (made_key_or_none from xf xt f)
    by_order Greater h = absurd (let none = sym (range_of_greater from to xf xt h) ∙ e in cc)

made_onward : (from : KeyBytes) (xf : Bool) → IsKey from → IsMadeSpan (onward from xf)
made_onward from true f = (f, tt, refl)
made_onward from false f = (f, tt, refl)

pub made_by_constructor : MadeByConstructor
made_by_constructor s = (
  given s,
  λ h. elim h [
    | inl r ↦ made_range s r.0 r.1 r.2 r.3 r.4 r.5 r.6
    | inr o ↦ subst IsMadeSpan o.3 (made_onward o.0 o.1 o.2)
  ],
)
