-- The marks on some pages, and the values of those on a span.
use Rattle.std.proofs.Common.{◌≡◌, ◌∙◌, inl, inr, refl, sym, ap, List, [], ◌∷◌, ◌++◌, map, filter, true, flat_map}
use Rattle.std.specs.List.{Contains}
use Rattle.std.proofs.lemmas.List.{map-append}
use Rattle.std.proofs.lemmas.List.Elements.{filter-append}
use Rattle.std.proofs.lemmas.Bool.{cases_Bool, both_ways}
use Rattle.tsc_time.specs.ValueView.{ValueView}
use Rattle.tsc_time.specs.Joint.{joint_above}
use Rattle.tsc_time.proofs.Members.{IsIn, IsIn-from_Contains, Contains-from_IsIn}
use Rattle.tsc_span.specs.Span.{SpanView, overlaps}
use Rattle.tsc_page_model.specs.Page.{Mark, PageMarks, values_on}
use Rattle.tsc_cache.specs.State.{CacheState, look}

-- the marks on all of some pages
abbrev pub all_marks : List PageMarks → List Mark
all_marks pages = flat_map (λ p. p.marks) pages

pub values_on-append : (span : SpanView) (ms ns : List Mark) →
    values_on span (ms ++ ns) ≡ values_on span ms ++ values_on span ns
values_on-append span ms ns =
    ap (map (λ (m : Mark). m.value)) (filter-append (λ (m : Mark). overlaps m.span span) ms ns)
    ∙ map-append (λ (m : Mark). m.value) (filter (λ (m : Mark). overlaps m.span span) ms)
    (filter (λ (m : Mark). overlaps m.span span) ns)

-- what pages have on a span, one after another, is what all of their marks have on it
pub values_on-pages : (span : SpanView) (pages : List PageMarks) →
    flat_map (λ p. values_on span p.marks) pages ≡ values_on span (all_marks pages)
values_on-pages span [] = refl
values_on-pages span (p ∷ ps) = ap (λ vs. values_on span p.marks ++ vs) (values_on-pages span ps) ∙
    sym (values_on-append span p.marks (all_marks ps))

-- so a lookup has to do with the marks alone
pub look-is : (s : CacheState) (span : SpanView) →
    look s span ≡ joint_above s.floor (values_on span (all_marks s.pages))
look-is s span = ap (joint_above s.floor) (values_on-pages span s.pages)

has_value : (span : SpanView) (ms : List Mark) (m : Mark) → IsIn ms m →
    overlaps m.span span ≡ true → IsIn (values_on span ms) m.value
has_value span [] m i over = absurd i
has_value span (n ∷ ns) m i over = elim (cases_Bool (overlaps n.span span)) [
  | inl h ↦ rw h (elim i [
    | inl e ↦ inl (ap (λ (o : Mark). o.value) e)
    | inr j ↦ inr
        (has_value span ns m j over)
  ])
  | inr h ↦ rw h (elim i [
    | inl e ↦ absurd
        (both_ways _ h (ap (λ (o : Mark). overlaps o.span span) e ∙ over))
    | inr j ↦ has_value span ns
        m j over
  ])
]

value_from : (span : SpanView) (ms : List Mark) (v : ValueView) → IsIn (values_on span ms) v →
    (m : Mark) × (IsIn ms m) × (overlaps m.span span ≡ true) × (m.value ≡ v)
value_from span [] v i = absurd i
value_from span (n ∷ ns) v i =
    let more : IsIn (values_on span ns) v → (m : Mark) × (IsIn (n ∷ ns) m) ×
    (overlaps m.span span ≡ true) × (m.value ≡ v) = λ j. let r =
    value_from span ns v j in (r.0, inr r.1, r.2, r.3) in
    elim (cases_Bool (overlaps n.span span)) [
      | inl h ↦ elim (rw h at i) [ inl e ↦ (n, inl refl, h, e) | inr j ↦ more j ]
      | inr h ↦ more (rw h at i)
    ]

-- a mark that overlaps has its value there
pub values_on-has : (span : SpanView) (ms : List Mark) (m : Mark) → Contains ms m →
    overlaps m.span span ≡ true → Contains (values_on span ms) m.value
values_on-has span ms m c over = Contains-from_IsIn (values_on span ms) m.value
    (has_value span ms m (IsIn-from_Contains ms m c) over)

-- and each value there is of such a mark
pub values_on-from : (span : SpanView) (ms : List Mark) (v : ValueView) →
    Contains (values_on span ms) v → (m : Mark) × (Contains ms m) × (overlaps m.span span ≡ true) ×
    (m.value ≡ v)
values_on-from span ms v c = let r =
    value_from span ms v (IsIn-from_Contains (values_on span ms) v c)
    in (r.0, Contains-from_IsIn ms r.0 r.1, r.2, r.3)
