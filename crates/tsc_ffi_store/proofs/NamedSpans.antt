-- The span to be added that the keys and the form of a call name, and why they name none.
use Rattle.std.proofs.Common.{◌≡◌, ◌∙◌, ap, sym, subst, inl, inr, Bool, false}
use Rattle.std.specs.Prelude.{◌⊎◌, Some, Result, Ok, Err, IfOk, IfErr}
use Rattle.tsc_span.specs.declared.span.Ends.{Ends}
use Rattle.tsc_span.specs.Span.{KeyBytes, SpanView, point, onward, range, range_for_lookup, is_inverted}
use Rattle.tsc_ffi_store.specs.declared.decode.Form.TheVariants.{Point, Range, Onward}
use Rattle.tsc_ffi_store.specs.declared.refusal.Refusal.{Refusal}
use Rattle.tsc_ffi_store.specs.declared.refusal.Refusal.TheVariants as refusal
use Rattle.tsc_ffi_store.specs.Decode.{AskedSpan, form_of, formed_to_add, IsShort, AreShort}
use Rattle.tsc_ffi_store.specs.Decode.{NamesRange, NamesAddSpan, LacksRangeCopy}
use Rattle.tsc_ffi_store.specs.Decode.{RefusesRange, RefusesAddSpan, RefusesCopy}
use Rattle.tsc_ffi_store.proofs.WrittenRanges.{upright}

pub names_point : (asked : AskedSpan) (key : KeyBytes) → form_of asked.ends ≡ Some Point
    → key ≡ asked.from → IsShort asked.from → NamesAddSpan asked (point key)
names_point asked key is same short = record {
  named = ap (formed_to_add asked.from asked.to) is ∙
      ap (λ (k : KeyBytes). Some (point k)) (sym same);
  short = subst (AreShort asked.from asked.to) (sym is) short;
}

pub names_onward : (asked : AskedSpan) (key : KeyBytes) (excluded : Bool)
    → form_of asked.ends ≡ Some (Onward excluded) → key ≡ asked.from → IsShort asked.from
    → NamesAddSpan asked (onward key excluded)
names_onward asked key excluded is same short = record {
  named = ap (formed_to_add asked.from asked.to) is ∙
      ap (λ (k : KeyBytes). Some (onward k excluded)) (sym same);
  short = subst (AreShort asked.from asked.to) (sym is) short;
}

pub names_range : (asked : AskedSpan) (ends : Ends) (span : SpanView)
    → form_of asked.ends ≡ Some (Range ends) → NamesRange asked.from asked.to ends span
    → NamesAddSpan asked span
names_range asked ends span is names = record {
  named = ap (formed_to_add asked.from asked.to) is ∙ names.2;
  short = subst (AreShort asked.from asked.to) (sym is) (names.0, names.1);
}

-- What was refused for a range was refused for the span of that form.
pub refuses_range : (why : Refusal) (asked : AskedSpan) (ends : Ends)
    → form_of asked.ends ≡ Some (Range ends) → RefusesRange why asked.from asked.to
    → RefusesAddSpan why asked
refuses_range why asked ends is (inl key) = inr (inl key)
refuses_range why asked ends is (inr (inl key)) = inr (inr (inl (ends, is, key)))
refuses_range why asked ends is (inr (inr inverted)) =
    inr (inr (inr (inverted.0, (ends, is, inverted.1))))

pub refuses_range_copy : (why : Refusal) (asked : AskedSpan) (ends : Ends)
    → form_of asked.ends ≡ Some (Range ends)
    → RefusesRange why asked.from asked.to ⊎ LacksRangeCopy why asked.from asked.to ends
    → RefusesCopy why asked
refuses_range_copy why asked ends is (inl refused) = inl (refuses_range why asked ends is refused)
refuses_range_copy why asked ends is (inr lacks) = inr (record {
  span = lacks.span;
  names = names_range asked ends lacks.span is lacks.names;
  reported = lacks.reported;
})

-- why a call was refused, in other words
pub refused_so : {A : Type 0} {P Q : Refusal → Type 0} (did : Result A Refusal)
    → ((why : Refusal) → P why → Q why) → IfErr did P → IfErr did Q
refused_so (Ok done) so refused = tt
refused_so (Err why) so refused = so why refused

-- Two keys that are not inverted name a range, and so do others that are the same.
pub names_upright : (from to first second : KeyBytes) (xf xt : Bool) → first ≡ from → second ≡ to
    → is_inverted from to ≡ false
    → (span : SpanView) × (range first second xf xt ≡ Some span)
names_upright from to first second xf xt same same_to h =
    (range_for_lookup from to xf xt, rw (same, same_to) (upright from to xf xt h))

-- A range of copies is the one that two keys name.
pub made : (from to first second : KeyBytes) (ends : Ends) (did : Result SpanView Refusal)
    → first ≡ from → second ≡ to → IsShort from → IsShort to
    → IfOk did (λ span. range first second ends.exclude_from ends.exclude_to ≡ Some span)
    → IfOk did (λ span. NamesRange from to ends span)
made from to first second ends (Ok span) same same_to short short_to is = (
  short,
  short_to,
  subst (λ (k : KeyBytes). range k to ends.exclude_from ends.exclude_to ≡ Some span) same
      (subst (λ (k : KeyBytes). range first k ends.exclude_from ends.exclude_to ≡ Some span)
      same_to is),
)
made from to first second ends (Err why) same same_to short short_to is = tt

-- What a copy of a range answers that two keys name.
pub copied : (from to first second : KeyBytes) (ends : Ends) (did : Result SpanView Refusal)
    → first ≡ from → second ≡ to → IsShort from → IsShort to → is_inverted from to ≡ false
    → IfErr did (λ why. why ≡ refusal.NoMemory)
    → IfErr did (λ why. RefusesRange why from to ⊎ LacksRangeCopy why from to ends)
copied from to first second ends did same same_to short short_to h memory =
    refused_so did (λ why reported. inr (record {
      span = range_for_lookup from to ends.exclude_from ends.exclude_to;
      names = (short, short_to, upright from to ends.exclude_from ends.exclude_to h);
      reported = reported;
    })) memory
