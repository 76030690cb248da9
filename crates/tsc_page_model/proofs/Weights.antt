-- What keys weigh together with the end keys of a span.
use Rattle.std.proofs.Common.{◌≡◌, inl, inr, ◌∙◌, refl, sym, ap, Bool, true, false, cond, ℕ, ◌+◌, List, [], ◌∷◌, ◌++◌, append-nil, arith}
use mathlib.Core.Bool.{true≢false}
use Rattle.std.specs.Prelude.{Option, Some, None, not}
use Rattle.std.specs.Option.{option_to_list}
use Rattle.std.specs.Str.{bytes_eq}
use Rattle.std.proofs.lemmas.List.{append_assoc}
use Rattle.std.proofs.lemmas.Slice.Eq.{bytes_eq-Decides}
use Rattle.std.proofs.lemmas.Bool.{cases_Bool}
use Rattle.tsc_span.specs.Span.{KeyBytes}
use Rattle.tsc_page_model.specs.Page.{weigh_distinct, count_distinct}
use Rattle.tsc_page_model.specs.PageView.{is_in, new_weight, is_new_among}
use Rattle.tsc_page_model.proofs.DistinctKeys.{weigh_distinct-push, has_no_repeats, is_in-push}

-- one for a test that holds
abbrev pub one_if : Bool → ℕ
one_if b = cond b 1 0

-- two keys without repeats differ
differ : (k m : KeyBytes) → has_no_repeats (k ∷ m ∷ []) ≡ true → bytes_eq k m ≡ false
differ k m once = elim (cases_Bool (bytes_eq k m)) [
  | inl h ↦ absurd (true≢false (sym once ∙ rw h refl))
  | inr h ↦ h
]

differ_back : (k m : KeyBytes) → has_no_repeats (k ∷ m ∷ []) ≡ true → bytes_eq m k ≡ false
differ_back k m once = elim (cases_Bool (bytes_eq m k)) [
  | inl h ↦ absurd (true≢false (sym once ∙
      rw ((bytes_eq-Decides k m).1 (sym ((bytes_eq-Decides m k).0 h))) refl))
  | inr h ↦ h
]

-- with the end keys of a span keys weigh as much more as those that are new
pub weigh_with : (weight : KeyBytes → ℕ) (ks : List KeyBytes) (o p : Option KeyBytes) →
    has_no_repeats (option_to_list o ++ option_to_list p) ≡ true
    → weigh_distinct weight (ks ++ (option_to_list o ++ option_to_list p)) ≡ weigh_distinct weight
    ks + new_weight weight ks o + new_weight weight ks p
weigh_with weight ks None None once = ap (weigh_distinct weight) (append-nil ks) ∙ omega arith
weigh_with weight ks None (Some m) once = weigh_distinct-push weight ks m ∙
    one (is_in m ks) (weigh_distinct weight ks) (weight m)
  where
    one : (b : Bool) (n w : ℕ) → cond b n (w + n) ≡ n + 0 + cond b 0 w
    one true n w = omega arith
    one false n w = omega arith
weigh_with weight ks (Some k) None once = weigh_distinct-push weight ks k ∙
    one (is_in k ks) (weigh_distinct weight ks) (weight k)
  where
    one : (b : Bool) (n w : ℕ) → cond b n (w + n) ≡ n + cond b 0 w + 0
    one true n w = omega arith
    one false n w = omega arith
weigh_with weight ks (Some k) (Some m) once =
    ap (weigh_distinct weight) (sym (append_assoc ks (k ∷ []) (m ∷ [])))
    ∙ weigh_distinct-push weight (ks ++ k ∷ []) m
    ∙ ap (λ b. cond b (weigh_distinct weight (ks ++ k ∷ []))
    (weight m + weigh_distinct weight (ks ++ k ∷ []))) second
    ∙ two (is_in k ks) (is_in m ks) (weigh_distinct weight (ks ++ k ∷ []))
    (weigh_distinct weight ks) (weight k) (weight m) (weigh_distinct-push weight ks k)
  where
    second : is_in m (ks ++ k ∷ []) ≡ is_in m ks
    second = is_in-push m k ks ∙ rw (differ_back k m once) refl

    two : (a b : Bool) (c n v w : ℕ) → c ≡ cond a n (v + n) →
        cond b c (w + c) ≡ n + cond a 0 v + cond b 0 w
    two true true c n v w e = omega (arith, e)
    two true false c n v w e = omega (arith, e)
    two false true c n v w e = omega (arith, e)
    two false false c n v w e = omega (arith, e)

-- and so where the end keys come first
pub weigh_before : (weight : KeyBytes → ℕ) (ks : List KeyBytes) (o p : Option KeyBytes) →
    has_no_repeats (option_to_list o ++ option_to_list p) ≡ true
    → weigh_distinct weight ((option_to_list o ++ option_to_list p) ++ ks) ≡ new_weight weight ks o
    + new_weight weight ks p + weigh_distinct weight ks
weigh_before weight ks None None once = omega arith
weigh_before weight ks None (Some m) once = one (is_in m ks) (weigh_distinct weight ks) (weight m)
  where
    one : (b : Bool) (n w : ℕ) → cond b n (w + n) ≡ 0 + cond b 0 w + n
    one true n w = omega arith
    one false n w = omega arith
weigh_before weight ks (Some k) None once = one (is_in k ks) (weigh_distinct weight ks) (weight k)
  where
    one : (b : Bool) (n w : ℕ) → cond b n (w + n) ≡ cond b 0 w + 0 + n
    one true n w = omega arith
    one false n w = omega arith
weigh_before weight ks (Some k) (Some m) once =
    rw (differ k m once) (two (is_in k ks) (is_in m ks) (weigh_distinct weight ks) (weight k)
    (weight m))
  where
    two : (a b : Bool) (n v w : ℕ) →
        cond a (cond b n (w + n)) (v + cond b n (w + n)) ≡ cond a 0 v + cond b 0 w + n
    two true true n v w = omega arith
    two true false n v w = omega arith
    two false true n v w = omega arith
    two false false n v w = omega arith

-- a new key counts as one
new_one : (ks : List KeyBytes) (o : Option KeyBytes) →
    new_weight (λ k. 1) ks o ≡ one_if (is_new_among ks o)
new_one ks None = refl
new_one ks (Some k) = by (is_in k ks)
  where
    by : (b : Bool) → cond b 0 1 ≡ one_if (not b)
    by true = refl
    by false = refl

pub count_before : (ks : List KeyBytes) (o p : Option KeyBytes) →
    has_no_repeats (option_to_list o ++ option_to_list p) ≡ true
    → count_distinct ((option_to_list o ++ option_to_list p) ++ ks) ≡ one_if (is_new_among ks o) +
    one_if (is_new_among ks p) + count_distinct ks
count_before ks o p once = weigh_before (λ k. 1) ks o p once ∙ rw (new_one ks o, new_one ks p) refl
