-- What the different keys of a list weigh, and how many there are, depends only on which keys are
-- in it.
use Rattle.std.proofs.Common.{◌≡◌, ◌∙◌, refl, sym, ap, ℕ, suc, ◌+◌, ◌*◌, ◌≤◌, Bool, true, false, ◌||◌, cond, ◌⊎◌, inl, inr, List, [], ◌∷◌, ◌++◌, length, arith}
use Rattle.std.specs.List.{sum_by}
use Rattle.std.specs.Str.{bytes_eq}
use Rattle.std.proofs.Math.Bool.{or-true}
use mathlib.Core.Bool.{true≢false}
use Rattle.std.proofs.lemmas.Slice.Eq.{bytes_eq-Decides}
use Rattle.std.proofs.lemmas.List.Folds.{list_any-append}
use Rattle.std.proofs.lemmas.List.Sums.{sum_by-cons}
use Rattle.std.proofs.lemmas.Bool.{cases_Bool}
use Rattle.tsc_span.specs.Span.{KeyBytes}
use Rattle.tsc_page_model.specs.Page.{weigh_distinct, count_distinct, cost_distinct}
use Rattle.tsc_page_model.specs.PageView.{is_in}

-- the list without a key
abbrev without : KeyBytes → List KeyBytes → List KeyBytes
without k [] = []
without k (m ∷ ms) = cond (bytes_eq k m) (without k ms) (m ∷ without k ms)

pub bytes_eq-itself : (k : KeyBytes) → bytes_eq k k ≡ true
bytes_eq-itself k = (bytes_eq-Decides k k).1 refl

-- of equal keys one is in a list where the other is
same_in : (k m : KeyBytes) (ks : List KeyBytes) → bytes_eq k m ≡ true → is_in k ks ≡ is_in m ks
same_in k m ks h = ap (λ x. is_in x ks) ((bytes_eq-Decides k m).0 h)

-- another key is in the list without k where it is in the list
is_in-without : (k m : KeyBytes) (ks : List KeyBytes) → bytes_eq k m ≡ false →
    is_in m (without k ks) ≡ is_in m ks
is_in-without k m [] other = refl
is_in-without k m (n ∷ ns) other = by (is_in-without k m ns other) (cases_Bool (bytes_eq k n))
  where
    differs : bytes_eq k n ≡ true → bytes_eq m n ≡ false
    differs h = elim (cases_Bool (bytes_eq m n)) [
      | inl g ↦ absurd (true≢false
          (sym ((bytes_eq-Decides k m).1
          ((bytes_eq-Decides k n).0 h ∙ sym ((bytes_eq-Decides m n).0 g))) ∙ other))
      | inr g ↦ g
    ]

    by : is_in m (without k ns) ≡ is_in m ns → (bytes_eq k n ≡ true) ⊎ (bytes_eq k n ≡ false) →
        is_in m (cond (bytes_eq k n) (without k ns) (n ∷ without k ns)) ≡
        (bytes_eq m n || is_in m ns)
    by rest (inl h) = rw (h, differs h) rest
    by rest (inr h) = rw (h, rest) refl

-- a list weighs as it does without k, and k more where that is in it
weigh_distinct-without : (weight : KeyBytes → ℕ) (k : KeyBytes) (ks : List KeyBytes)
    → weigh_distinct weight ks ≡ cond (is_in k ks) (weight k + weigh_distinct weight (without k ks))
    (weigh_distinct weight (without k ks))
weigh_distinct-without weight k [] = refl
weigh_distinct-without weight k (m ∷ ms) =
    by (weigh_distinct-without weight k ms) (cases_Bool (bytes_eq k m))
  where
    others : List KeyBytes
    others = without k ms

    here : (b : Bool) (n v : ℕ) → v ≡ weight k →
        n ≡ cond b (weight k + weigh_distinct weight others) (weigh_distinct weight others) →
        cond b n (v + n) ≡ weight k + weigh_distinct weight others
    here true n v same e = e
    here false n v same e = rw (same, e) refl

    there : (b c : Bool) (n w u v : ℕ) → n ≡ cond b (u + w) w →
        cond c n (v + n) ≡ cond b (u + cond c w (v + w)) (cond c w (v + w))
    there true true n w u v e = e
    there true false n w u v e = omega (arith, e)
    there false true n w u v e = e
    there false false n w u v e = omega (arith, e)

    by : weigh_distinct weight ms ≡ cond (is_in k ms) (weight k + weigh_distinct weight others)
        (weigh_distinct weight others) → (bytes_eq k m ≡ true) ⊎ (bytes_eq k m ≡ false)
        → weigh_distinct weight (m ∷ ms) ≡ cond (bytes_eq k m || is_in k ms)
        (weight k + weigh_distinct weight (cond (bytes_eq k m) others (m ∷ others)))
        (weigh_distinct weight (cond (bytes_eq k m) others (m ∷ others)))
    by rest (inl h) = rw (h, ← same_in k m ms h)
        (here (is_in k ms) (weigh_distinct weight ms) (weight m)
        (ap weight (sym ((bytes_eq-Decides k m).0 h))) rest)
    by rest (inr h) = rw (h, is_in-without k m ms h)
        (there (is_in k ms) (is_in m ms) (weigh_distinct weight ms) (weigh_distinct weight others)
        (weight k) (weight m) rest)

-- Where each key of one list is in another, the different keys of the other weigh no less.
pub weigh_distinct-within : (weight : KeyBytes → ℕ) (ks ms : List KeyBytes) →
    ((k : KeyBytes) → is_in k ks ≡ true → is_in k ms ≡ true) →
    weigh_distinct weight ks ≤ weigh_distinct weight ms
weigh_distinct-within weight [] ms within = omega arith
weigh_distinct-within weight (k ∷ ks) ms within =
    by (λ others. weigh_distinct-within weight ks others) (cases_Bool (is_in k ks))
  where
    later : (m : KeyBytes) → is_in m ks ≡ true → is_in m (k ∷ ks) ≡ true
    later m h = rw h (or-true (bytes_eq m k))

    first : is_in k ms ≡ true
    first = within k (rw (bytes_eq-itself k) refl)

    one_more : weigh_distinct weight ms ≡ weight k + weigh_distinct weight (without k ms)
    one_more = weigh_distinct-without weight k ms ∙
        ap (λ b. cond b (weight k + weigh_distinct weight (without k ms))
        (weigh_distinct weight (without k ms))) first

    apart : is_in k ks ≡ false → (m : KeyBytes) → is_in m ks ≡ true → bytes_eq k m ≡ false
    apart new m h = elim (cases_Bool (bytes_eq k m)) [
      | inl g ↦ absurd (true≢false (sym (same_in k m ks g ∙ h) ∙ new))
      | inr g ↦ g
    ]

    by : ((others : List KeyBytes) → ((m : KeyBytes) → is_in m ks ≡ true → is_in m others ≡ true) →
        weigh_distinct weight ks ≤ weigh_distinct weight others) →
        (is_in k ks ≡ true) ⊎ (is_in k ks ≡ false)
        → cond (is_in k ks) (weigh_distinct weight ks) (weight k + weigh_distinct weight ks) ≤
        weigh_distinct weight ms
    by rest (inl h) = rw h (rest ms (λ m g. within m (later m g)))
    by rest (inr h) =
        let fewer : weigh_distinct weight ks ≤ weigh_distinct weight (without k ms) =
        rest (without k ms) (λ m g. is_in-without k m ms (apart h m g) ∙
        within m (later m g)) in
        let more : weigh_distinct weight ms ≡ weight k + weigh_distinct weight (without k ms) =
        one_more in
        rw h (omega arith)

-- The different keys of lists of the same keys weigh the same, in whatever order and however often
-- they come.
pub weigh_distinct-same : (weight : KeyBytes → ℕ) (ks ms : List KeyBytes) →
    ((k : KeyBytes) → is_in k ks ≡ is_in k ms) → weigh_distinct weight ks ≡ weigh_distinct weight ms
weigh_distinct-same weight ks ms same =
    let up : weigh_distinct weight ks ≤ weigh_distinct weight ms =
    weigh_distinct-within weight ks ms (λ k h. sym (same k) ∙ h) in
    let down : weigh_distinct weight ms ≤ weigh_distinct weight ks =
    weigh_distinct-within weight ms ks (λ k h. same k ∙ h) in
    omega arith

-- so there are as many of them
pub count_distinct-same : (ks ms : List KeyBytes) → ((k : KeyBytes) → is_in k ks ≡ is_in k ms) →
    count_distinct ks ≡ count_distinct ms
count_distinct-same ks ms same = weigh_distinct-same (λ k. 1) ks ms same

swapped : (b c : Bool) → (c || (b || false)) ≡ (b || c)
swapped true true = refl
swapped true false = refl
swapped false true = refl
swapped false false = refl

-- a key at the end is in the list as one at the front is
pub is_in-push : (q k : KeyBytes) (ks : List KeyBytes) →
    is_in q (ks ++ k ∷ []) ≡ (bytes_eq q k || is_in q ks)
is_in-push q k ks = list_any-append (bytes_eq q) ks (k ∷ []) ∙ swapped (bytes_eq q k) (is_in q ks)

-- one more key at the end adds its weight where it is not there yet
pub weigh_distinct-push : (weight : KeyBytes → ℕ) (ks : List KeyBytes) (k : KeyBytes) →
    weigh_distinct weight (ks ++ k ∷ []) ≡ cond (is_in k ks) (weigh_distinct weight ks)
    (weight k + weigh_distinct weight ks)
weigh_distinct-push weight ks k = weigh_distinct-same weight (ks ++ k ∷ []) (k ∷ ks)
    (λ q. is_in-push q k ks)

-- a list without repeats
abbrev pub has_no_repeats : List KeyBytes → Bool
has_no_repeats [] = true
has_no_repeats (k ∷ ks) = cond (is_in k ks) false (has_no_repeats ks)

-- The different keys of a list without repeats are all of them.
pub weigh_distinct-no_repeats : (weight : KeyBytes → ℕ) (ks : List KeyBytes) →
    has_no_repeats ks ≡ true → weigh_distinct weight ks ≡ sum_by weight ks
weigh_distinct-no_repeats weight [] h = refl
weigh_distinct-no_repeats weight (k ∷ ks) h =
    by (is_in k ks) (weigh_distinct-no_repeats weight ks) h ∙ sym (sum_by-cons weight k ks)
  where
    by : (b : Bool) → (has_no_repeats ks ≡ true → weigh_distinct weight ks ≡ sum_by weight ks) →
        cond b false (has_no_repeats ks) ≡ true →
        cond b (weigh_distinct weight ks) (weight k + weigh_distinct weight ks) ≡ weight k + sum_by
        weight ks
    by true rest g = absurd cc
    by false rest g = ap (λ n. weight k + n) (rest g)

-- A list without repeats has as many different keys as it has keys.
pub count_distinct-no_repeats : (ks : List KeyBytes) → has_no_repeats ks ≡ true →
    count_distinct ks ≡ length ks
count_distinct-no_repeats [] h = refl
count_distinct-no_repeats (k ∷ ks) h = by (is_in k ks) (count_distinct-no_repeats ks) h
  where
    by : (b : Bool) → (has_no_repeats ks ≡ true → count_distinct ks ≡ length ks) →
        cond b false (has_no_repeats ks) ≡ true →
        cond b (count_distinct ks) (1 + count_distinct ks) ≡ suc (length ks)
    by true rest g = absurd cc
    by false rest g = omega (arith, rest g)

-- Each key costs 32 bytes at the least.
pub count-costs : (ks : List KeyBytes) → 32 * count_distinct ks ≤ cost_distinct ks
count-costs [] = omega arith
count-costs (k ∷ ks) = by (is_in k ks) (count-costs ks)
  where
    by : (b : Bool) → 32 * count_distinct ks ≤ cost_distinct ks →
        32 * cond b (count_distinct ks) (1 + count_distinct ks) ≤ cond b (cost_distinct ks)
        (length k + 32 + cost_distinct ks)
    by true rest = rest
    by false rest = omega (arith, rest)
