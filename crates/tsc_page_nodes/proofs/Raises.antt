-- What a value added to a span makes of the answers.
use Rattle.std.proofs.Common.{◌≡◌, ◌⊎◌, inl, inr, ◌∙◌, refl, sym, ap, Bool, true, false, cond, List, [], ◌∷◌}
use mathlib.Core.Bool.{true≢false}
use Rattle.tsc_time.specs.Time.{zero_time}
use Rattle.tsc_time.specs.ValueView.{ValueView, unowned}
use Rattle.tsc_time.specs.Joint.{joint, IsAtMost}
use Rattle.tsc_time.proofs.Members.{Contains-from_IsIn, IsIn-from_Contains}
use Rattle.tsc_time.proofs.RatchetOrder.{IsAtMost-itself, IsAtMost-antisymmetric, IsAtMost-transitive}
use Rattle.tsc_time.proofs.JointLemmas.{joint-above, joint-least}
use Rattle.std.proofs.lemmas.Bool.{cases_Bool}
use Rattle.tsc_span.specs.Span.{Cut, last, SpanView, nothing, between, overlaps}
use Rattle.tsc_page_nodes.specs.Nodes.{Stretch, next_cut, raised, raise}
use Rattle.tsc_span.proofs.CutOrder.{Lt, Le, Meet, Lt-or_Le, Lt-not_Le, Le_Lt-chain, Lt_Le-chain, Le-chain, Le-from_Lt, Le-itself, none_above_last, overlaps-from, overlaps-reports}
use Rattle.tsc_page_nodes.proofs.Answers.{Meets, answer_over, answer-above, answer-above_zero, answer-least}

-- raising moves no cut
raise_cut : (m : SpanView) (v : ValueView) (xs : List Stretch) →
    next_cut (raise m v xs) ≡ next_cut xs
raise_cut m v [] = refl
raise_cut m v (x ∷ xs) = refl

-- no stretch goes over a cut
abbrev pub Parts : Cut → List Stretch → Type 0
Parts c [] = Unit {0}
Parts c (x ∷ xs) = (Le c x.from ⊎ Le (next_cut xs) c) × Parts c xs

pub last_parts : (xs : List Stretch) → Parts last xs
last_parts [] = tt
last_parts (x ∷ xs) = (inr (none_above_last (next_cut xs)), last_parts xs)

-- of two values the joint one is above both, and below what is above both
pub first_below : (v w : ValueView) → IsAtMost v (joint v (w ∷ []))
first_below v w = joint-above v (w ∷ []) v (Contains-from_IsIn (v ∷ w ∷ []) v (inl refl))

pub second_below : (v w : ValueView) → IsAtMost w (joint v (w ∷ []))
second_below v w = joint-above v (w ∷ []) w (Contains-from_IsIn (v ∷ w ∷ []) w (inr (inl refl)))

pub both_below : (v w u : ValueView) → IsAtMost v u → IsAtMost w u → IsAtMost (joint v (w ∷ [])) u
both_below v w u p q = joint-least v (w ∷ []) u (λ x c. elim (IsIn-from_Contains (v ∷ w ∷ []) x c) [
  | inl e ↦ rw (← e) p
  | inr i ↦ elim i [ inl e ↦ rw (← e) q | inr j ↦ absurd j ]
])

-- a stretch's value once raised: what it was, unless it overlaps
raised_reports : (m : SpanView) (v : ValueView) (x : Stretch) (end : Cut) →
    ((overlaps (between x.from end) m ≡ true) × (raised m v x end ≡ joint x.value (v ∷ []))) ⊎
    ((overlaps (between x.from end) m ≡ false) × (raised m v x end ≡ x.value))
raised_reports m v x end = by (overlaps (between x.from end) m)
  where
    by : (b : Bool) → ((b ≡ true) ×
        (cond b (joint x.value (v ∷ [])) x.value ≡ joint x.value (v ∷ []))) ⊎
        ((b ≡ false) × (cond b (joint x.value (v ∷ [])) x.value ≡ x.value))
    by true = inl (refl, refl)
    by false = inr (refl, refl)

-- Where a span's cuts go over no stretch, what overlaps a stretch within it and another span lies
-- in both.
both_overlap : (f t a b c n : Cut) → Le f c ⊎ Le n f → Le t c ⊎ Le n t →
    overlaps (between c n) (between f t) ≡ true → overlaps (between c n) (between a b) ≡ true →
    overlaps (between f t) (between a b) ≡ true
both_overlap f t a b c n at_start at_end over seen =
    let p : Meet c n f t = overlaps-reports c n f t over in
    let q : Meet c n a b = overlaps-reports c n a b seen in
    let low : Le f c = elim at_start [ inl h ↦ h | inr h ↦ absurd (Lt-not_Le f n p.2 h) ] in
    let high : Le n t = elim at_end [ inl h ↦ absurd (Lt-not_Le c t p.1 h) | inr h ↦ h ] in
    overlaps-from f t a b (p.3, Le_Lt-chain f c b low q.1, Lt_Le-chain a n t q.2 high, q.3)

-- what is above the old answer, and above the value where the spans overlap, is above each raised
-- value
raised_each_below : (f t : Cut) (v : ValueView) (s : SpanView) (xs : List Stretch) → Parts f xs →
    Parts t xs → (u : ValueView)
    → ((w : ValueView) → Meets s xs w → IsAtMost w u) →
    (overlaps (between f t) s ≡ true → IsAtMost v u) → (w : ValueView) →
    Meets s (raise (between f t) v xs) w → IsAtMost w u
raised_each_below f t v s [] at_start at_end u old new w met = absurd met
raised_each_below f t v s (x ∷ xs) at_start at_end u old new w (inr met) =
    raised_each_below f t v s xs at_start.1 at_end.1 u (λ y h. old y (inr h)) new w met
raised_each_below f t v nothing (x ∷ xs) at_start at_end u old new w (inl met) =
    absurd (nothing_met met.0)
  where
    nothing_met : false ≡ true → ⊥
    nothing_met e = true≢false (sym e)
raised_each_below f t v (between a b) (x ∷ xs) at_start at_end u old new w (inl met) =
    let seen : overlaps (between x.from (next_cut xs)) (between a b) ≡ true =
    ap (λ c. overlaps (between x.from c) (between a b)) (sym (raise_cut (between f t) v xs)) ∙
    met.0 in
    let was : IsAtMost x.value u = old x.value (inl (seen, refl)) in
    elim (raised_reports (between f t) v x (next_cut xs)) [
      | inl h ↦ rw (← met.1, h.1) (both_below x.value v u was
          (new (both_overlap f t a b x.from (next_cut xs) at_start.0 at_end.0 h.0 seen)))
      | inr h ↦ rw (← met.1, h.1) was
    ]

-- each old value is at most one that is met once raised
old_below : (m : SpanView) (v : ValueView) (s : SpanView) (xs : List Stretch) (w : ValueView) →
    Meets s xs w → (y : ValueView) × Meets s (raise m v xs) y × IsAtMost w y
old_below m v s [] w met = absurd met
old_below m v s (x ∷ xs) w (inr met) = let r = old_below m v s xs w met in (r.0, inr r.1, r.2)
old_below m v s (x ∷ xs) w (inl met) = (
  raised m v x (next_cut xs),
  inl (ap (λ c. overlaps (between x.from c) s) (raise_cut m v xs) ∙ met.0, refl),
  elim (raised_reports m v x (next_cut xs)) [
    | inl h ↦ rw (h.1, ← met.1) (first_below x.value v)
    | inr h ↦ rw (h.1, ← met.1) (IsAtMost-itself x.value)
  ],
)

-- a stretch that holds a cut of both spans
new_here : (f t a b g : Cut) (v : ValueView) (x : Stretch) (xs : List Stretch) → Le f g → Lt g t →
    Le a g → Lt g b → Le x.from g → Lt g (next_cut xs) → (y : ValueView) ×
    Meets (between a b) (raise (between f t) v (x ∷ xs)) y × IsAtMost v y
new_here f t a b g v x xs after_f before_t after_a before_b from h =
    let n : Cut = next_cut xs in
    let over : overlaps (between x.from n) (between f t) ≡ true =
    overlaps-from x.from n f t (
      Le_Lt-chain x.from g n from h,
      Le_Lt-chain x.from g t from before_t,
      Le_Lt-chain f g n after_f h,
      Le_Lt-chain f g t after_f before_t,
    ) in
    let seen : overlaps (between x.from n) (between a b) ≡ true =
    overlaps-from x.from n a b (
      Le_Lt-chain x.from g n from h,
      Le_Lt-chain x.from g b from before_b,
      Le_Lt-chain a g n after_a h,
      Le_Lt-chain a g b after_a before_b,
    ) in (
      raised (between f t) v x n,
      inl (
        ap (λ c. overlaps (between x.from c) (between a b)) (raise_cut (between f t) v xs) ∙
            seen,
        refl,
      ),
      rw over (second_below x.value v),
    )

-- A cut that both spans hold lies in a stretch that both overlap, so the value is at most one that
-- is met once raised.
new_below : (f t a b g : Cut) (v : ValueView) (x : Stretch) (xs : List Stretch) → Le f g → Lt g t →
    Le a g → Lt g b → Le x.from g → (y : ValueView) ×
    Meets (between a b) (raise (between f t) v (x ∷ xs)) y × IsAtMost v y
new_below f t a b g v x [] after_f before_t after_a before_b from = elim (Lt-or_Le g last) [
  | inl h ↦ new_here f t a b g v x [] after_f before_t after_a before_b from h
  | inr h ↦ absurd (Lt-not_Le last t (Le_Lt-chain last g t h before_t) (none_above_last t))
]
new_below f t a b g v x (y ∷ ys) after_f before_t after_a before_b from = elim (Lt-or_Le g y.from) [
  | inl h ↦ new_here f t a b g v x (y ∷ ys) after_f before_t after_a before_b from h
  | inr h ↦ let r = new_below f t a b g v y ys after_f before_t after_a before_b h
      in (r.0, inr r.1, r.2)
]

-- A value added to a span joins the answer to each span that overlaps it, and changes no other.
pub raise_answers : (f t : Cut) (v : ValueView) (x : Stretch) (xs : List Stretch) →
    Parts f (x ∷ xs) → Parts t (x ∷ xs) → Le x.from f → (s : SpanView)
    → answer_over s (raise (between f t) v (x ∷ xs)) ≡ cond (overlaps (between f t) s)
    (joint (answer_over s (x ∷ xs)) (v ∷ [])) (answer_over s (x ∷ xs))
raise_answers f t v x xs at_start at_end from s = by (cases_Bool (overlaps (between f t) s))
  where
    all : List Stretch
    all = x ∷ xs

    new : List Stretch
    new = raise (between f t) v all

    before_it : ValueView
    before_it = answer_over s all

    old_kept : IsAtMost before_it (answer_over s new)
    old_kept = answer-least s all (answer_over s new) (answer-above_zero s new)
        (λ w met. let r = old_below (between f t) v s all w met in IsAtMost-transitive w r.0
        (answer_over s new) r.2 (answer-above s new r.0 r.1))

    value_in : (q : SpanView) → overlaps (between f t) q ≡ true → (y : ValueView) × Meets q new y ×
        IsAtMost v y
    value_in nothing h = absurd (true≢false (sym h))
    value_in (between a b) h =
        let p : Meet f t a b = overlaps-reports f t a b h in
        elim (Lt-or_Le f a) [
          | inl g ↦ new_below f t a b a v x xs (Le-from_Lt f a g) p.2 (Le-itself a) p.3
              (Le-chain x.from f a from (Le-from_Lt f a g))
          | inr g ↦ new_below f t a b f v x xs (Le-itself f) p.0 g p.1 from
        ]

    by : (overlaps (between f t) s ≡ true) ⊎ (overlaps (between f t) s ≡ false) →
        answer_over s new ≡ cond (overlaps (between f t) s) (joint before_it (v ∷ [])) before_it
    by (inl h) = rw h (IsAtMost-antisymmetric (answer_over s new) (joint before_it (v ∷ []))
        (answer-least s new (joint before_it (v ∷ []))
        (IsAtMost-transitive (unowned zero_time) before_it (joint before_it (v ∷ []))
        (answer-above_zero s all) (first_below before_it v))
        (raised_each_below f t v s all at_start at_end (joint before_it (v ∷ []))
        (λ w met. IsAtMost-transitive w before_it (joint before_it (v ∷ []))
        (answer-above s all w met) (first_below before_it v)) (λ e. second_below before_it v)))
        (both_below before_it v (answer_over s new) old_kept
        (let r = value_in s h in IsAtMost-transitive v r.0 (answer_over s new) r.2
        (answer-above s new r.0 r.1))))
    by (inr h) = rw h (IsAtMost-antisymmetric (answer_over s new) before_it
        (answer-least s new before_it (answer-above_zero s all)
        (raised_each_below f t v s all at_start at_end before_it (λ w met. answer-above s all w met)
        (λ e. absurd (true≢false (sym e ∙ h)))))
        old_kept)
