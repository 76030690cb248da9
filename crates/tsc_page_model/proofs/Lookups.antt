-- The values that a lookup meets, one mark after another.
use Rattle.std.proofs.Common.{◌≡◌, ◌⊎◌, inl, inr, ◌∙◌, refl, sym, ap, ℕ, ◌+◌, ◌<◌, Bool, true, false, cond, List, [], ◌∷◌, ◌++◌, length, take, get_or, map, filter, append-nil}
use Rattle.std.proofs.lemmas.List.{take_more}
use Rattle.tsc_time.specs.Time.{Time}
use Rattle.tsc_time.specs.ValueView.{ValueView, unowned}
use Rattle.tsc_time.specs.Joint.{joint, joint_above}
use Rattle.tsc_time.proofs.JointLemmas.{joint-append}
use Rattle.tsc_span.specs.Span.{SpanView, overlaps}
use Rattle.tsc_page_model.specs.Page.{Mark, values_on}

-- of one more mark the value comes last, where it overlaps
pub values_on-more : (span : SpanView) (marks : List Mark) (m : Mark) →
    values_on span (marks ++ m ∷ []) ≡ values_on span marks ++
    cond (overlaps m.span span) (m.value ∷ []) []
values_on-more span [] m = last (overlaps m.span span)
  where
    last : (b : Bool) → map (λ (n : Mark). n.value) (cond b (m ∷ []) []) ≡ cond b (m.value ∷ []) []
    last true = refl
    last false = refl
values_on-more span (n ∷ marks) m = step (overlaps n.span span) (values_on-more span marks m)
  where
    step : (b : Bool) → values_on span (marks ++ m ∷ []) ≡ values_on span marks ++
        cond (overlaps m.span span) (m.value ∷ []) [] →
        map (λ (o : Mark). o.value)
        (cond b (n ∷ filter (λ (o : Mark). overlaps o.span span) (marks ++ m ∷ []))
        (filter (λ (o : Mark). overlaps o.span span) (marks ++ m ∷ []))) ≡
        map (λ (o : Mark). o.value)
        (cond b (n ∷ filter (λ (o : Mark). overlaps o.span span) marks)
        (filter (λ (o : Mark). overlaps o.span span) marks)) ++
        cond (overlaps m.span span) (m.value ∷ []) []
    step true rest = ap (λ vs. n.value ∷ vs) rest
    step false rest = rest

-- The joint value of what was met stays that with the mark at place i: it is ratcheted in where it
-- overlaps.
pub met_one_more : (floor : Time) (span : SpanView) (marks : List Mark) (i : ℕ) (m d : Mark)
    (best next : ValueView) → i < length marks → m ≡ get_or marks i d →
    best ≡ joint_above floor (values_on span (take i marks)) →
    ((overlaps m.span span ≡ true) × (next ≡ joint best (m.value ∷ []))) ⊎
    ((overlaps m.span span ≡ false) × (next ≡ best)) →
    next ≡ joint_above floor (values_on span (take (i + 1) marks))
met_one_more floor span marks i m d best next within at so_far turn = by turn
  where
    one_more : take (i + 1) marks ≡ take i marks ++ m ∷ []
    one_more = take_more marks i d within ∙ ap (λ n. take i marks ++ n ∷ []) (sym at)

    all : values_on span (take (i + 1) marks) ≡ values_on span (take i marks) ++
        cond (overlaps m.span span) (m.value ∷ []) []
    all = ap (values_on span) one_more ∙ values_on-more span (take i marks) m

    by : ((overlaps m.span span ≡ true) × (next ≡ joint best (m.value ∷ []))) ⊎
        ((overlaps m.span span ≡ false) × (next ≡ best)) →
        next ≡ joint_above floor (values_on span (take (i + 1) marks))
    by (inl (met, is)) =
        is ∙ ap (λ b. joint b (m.value ∷ [])) so_far ∙
        sym (joint-append (unowned floor) (values_on span (take i marks)) m.value)
        ∙ ap (joint_above floor) (sym
        (all ∙ ap (λ b. values_on span (take i marks) ++ cond b (m.value ∷ []) []) met))
    by (inr (apart, is)) =
        is ∙ so_far ∙ ap (joint_above floor)
        (sym (all ∙ ap (λ b. values_on span (take i marks) ++ cond b (m.value ∷ []) []) apart ∙
        append-nil (values_on span (take i marks))))
