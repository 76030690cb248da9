-- Which stretches a span meets, and that what nodes answer to it is the least value above theirs.
use Rattle.std.proofs.Common.{◌≡◌, ◌⊎◌, inl, inr, refl, ap, Bool, true, false, cond, List, [], ◌∷◌}
use Rattle.tsc_time.specs.Time.{zero_time}
use Rattle.tsc_time.specs.ValueView.{ValueView, unowned}
use Rattle.tsc_time.specs.Joint.{joint_above, IsAtMost}
use Rattle.tsc_time.proofs.Members.{IsIn, IsIn-from_Contains, Contains-from_IsIn}
use Rattle.tsc_time.proofs.JointLemmas.{joint-above, joint-least}
use Rattle.std.proofs.lemmas.Bool.{cases_Bool}
use Rattle.tsc_span.specs.Span.{SpanView, between, overlaps}
use Rattle.tsc_page_model.specs.Page.{values_on}
use Rattle.tsc_page_nodes.specs.Nodes.{Stretch, next_cut, stretch_spans}

-- the values of the stretches that overlap a span
abbrev pub values_over : SpanView → List Stretch → List ValueView
values_over s [] = []
values_over s (x ∷ xs) = cond (overlaps (between x.from (next_cut xs)) s)
    (x.value ∷ values_over s xs) (values_over s xs)

-- they are those of the stretches as spans
pub values_over-is : (s : SpanView) (xs : List Stretch) →
    values_over s xs ≡ values_on s (stretch_spans xs)
values_over-is s [] = refl
values_over-is s (x ∷ xs) = by (values_over-is s xs)
    (cases_Bool (overlaps (between x.from (next_cut xs)) s))
  where
    by : values_over s xs ≡ values_on s (stretch_spans xs) →
        (overlaps (between x.from (next_cut xs)) s ≡ true) ⊎
        (overlaps (between x.from (next_cut xs)) s ≡ false) →
        values_over s (x ∷ xs) ≡ values_on s (stretch_spans (x ∷ xs))
    by rest (inl h) = rw h (ap (λ vs. x.value ∷ vs) rest)
    by rest (inr h) = rw h rest

-- one of the stretches that overlap a span has this value
abbrev pub Meets : SpanView → List Stretch → ValueView → Type 0
Meets s [] v = ⊥
Meets s (x ∷ xs) v = ((overlaps (between x.from (next_cut xs)) s ≡ true) × (x.value ≡ v)) ⊎
    Meets s xs v

pub Meets-is_in : (s : SpanView) (xs : List Stretch) (v : ValueView) → Meets s xs v →
    IsIn (values_over s xs) v
Meets-is_in s [] v m = m
Meets-is_in s (x ∷ xs) v (inl m) = rw m.0 (inl m.1)
Meets-is_in s (x ∷ xs) v (inr m) =
    by (Meets-is_in s xs v m) (overlaps (between x.from (next_cut xs)) s)
  where
    by : IsIn (values_over s xs) v → (b : Bool) →
        IsIn (cond b (x.value ∷ values_over s xs) (values_over s xs)) v
    by rest true = inr rest
    by rest false = rest

pub Meets-from_is_in : (s : SpanView) (xs : List Stretch) (v : ValueView) →
    IsIn (values_over s xs) v → Meets s xs v
Meets-from_is_in s [] v i = i
Meets-from_is_in s (x ∷ xs) v i = by (λ j. Meets-from_is_in s xs v j)
    (overlaps (between x.from (next_cut xs)) s) refl i
  where
    by : (IsIn (values_over s xs) v → Meets s xs v) → (b : Bool) →
        overlaps (between x.from (next_cut xs)) s ≡ b →
        IsIn (cond b (x.value ∷ values_over s xs) (values_over s xs)) v → Meets s (x ∷ xs) v
    by rest true h (inl e) = inl (h, e)
    by rest true h (inr j) = inr (rest j)
    by rest false h j = inr (rest j)

-- the joint value of what a span meets, above time zero
abbrev pub answer_over : SpanView → List Stretch → ValueView
answer_over s xs = joint_above zero_time (values_over s xs)

pub answer-above : (s : SpanView) (xs : List Stretch) (v : ValueView) → Meets s xs v →
    IsAtMost v (answer_over s xs)
answer-above s xs v m = joint-above (unowned zero_time) (values_over s xs) v
    (Contains-from_IsIn (unowned zero_time ∷ values_over s xs) v (inr (Meets-is_in s xs v m)))

pub answer-above_zero : (s : SpanView) (xs : List Stretch) →
    IsAtMost (unowned zero_time) (answer_over s xs)
answer-above_zero s xs = joint-above (unowned zero_time) (values_over s xs) (unowned zero_time)
    (Contains-from_IsIn (unowned zero_time ∷ values_over s xs) (unowned zero_time) (inl refl))

pub answer-least : (s : SpanView) (xs : List Stretch) (u : ValueView) →
    IsAtMost (unowned zero_time) u → ((v : ValueView) → Meets s xs v → IsAtMost v u) →
    IsAtMost (answer_over s xs) u
answer-least s xs u zero each = joint-least (unowned zero_time) (values_over s xs) u
    (λ v c. elim (IsIn-from_Contains (unowned zero_time ∷ values_over s xs) v c) [
      | inl e ↦ rw (← e) zero
      | inr i ↦ each v (Meets-from_is_in s xs v i)
    ])
