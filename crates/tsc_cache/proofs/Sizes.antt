-- The size of a new page: the first doubling that is enough.
use Rattle.std.proofs.Common.{◌≡◌, inl, inr, ◌∙◌, refl, sym, ap, subst, ℕ, zero, suc, ◌+◌, ◌-◌, ◌*◌, ◌^◌, ◌<◌, ◌≤◌, min, cond, nat_le, true, false, arith}
use Rattle.std.proofs.Math.Nat.{eq-or-lt_of_le, pow-succ', mul_assoc}
use Rattle.std.proofs.lemmas.Bool.{cases_Bool, leb-true, leb-false}
use Rattle.tsc_cache.specs.Rotation.{doubled, first_doubled, next_size}
use Rattle.tsc_cache.specs.Laws.{IsFirstDoubled, SizesDouble}

-- what comes to the most is the most
at_most : (most n : ℕ) → most ≤ n → most ≡ min most n
at_most most n h = omega arith

-- from a doubling on, before which none is enough
first_is : (most size cost : ℕ) → cost ≤ most → (more times : ℕ) → 1 ≤ times →
    most ≤ 2 ^ (times + more) * size
    → ((fewer : ℕ) → 1 ≤ fewer → fewer < times → doubled most size fewer < cost) →
    IsFirstDoubled most size cost (first_doubled more times most size cost)
first_is most size cost within zero times some enough none =
    record {
      times = times;
      some = some;
      is = at_most most (2 ^ times * size)
          (subst (λ n. most ≤ 2 ^ n * size) (omega arith) enough);
      enough = within;
      before = none;
    }
first_is most size cost within (suc more) times some enough none =
    elim (cases_Bool (nat_le cost (doubled most size times))) [
      | inl h ↦ rw h (record {
        times = times;
        some = some;
        is = refl;
        enough = leb-true cost (doubled most size times) h;
        before = none;
      })
      | inr h ↦ rw h (first_is most size cost within more (suc times) (omega arith)
          (subst (λ n. most ≤ 2 ^ n * size) (omega arith) enough) (later h))
    ]
  where
    later : nat_le cost (doubled most size times) ≡ false → (fewer : ℕ) → 1 ≤ fewer →
        fewer < suc times → doubled most size fewer < cost
    later h fewer one low = elim (eq-or-lt_of_le (omega (arith, low))) [
      | inr before ↦ none fewer one before
      | inl is ↦ subst (λ n. doubled most size n < cost) (sym is)
          (leb-false cost (doubled most size times) h)
    ]

-- so it is the first that is enough
pub sizes_double : SizesDouble
unfolding next_size
sizes_double most size cost least bound within =
    first_is most size cost within 32 1 (omega arith) (omega arith)
    (λ fewer one none. absurd (omega arith))

-- A size that was doubled so often, and was never enough.
pub record Doubling (most size cost times next : ℕ) : Type 0 where
  pub left : first_doubled (32 - times) (times + 1) most size cost ≡ next_size most size cost
  pub same : min most (2 * next) ≡ doubled most size (times + 1)
  pub least : 64 ≤ size → 64 ≤ next

-- nothing was doubled yet
pub doubling-none : (most size cost : ℕ) → Doubling most size cost 0 size
unfolding next_size
doubling-none most size cost = record { left = refl; same = refl; least = λ h. h }

-- one doubling more
module _ (most size cost times next more : ℕ) (so_far : Doubling most size cost times next)
    (few : times < 32) (is : more ≡ min most (2 * next)) where
  next_is : more ≡ doubled most size (times + 1)
  next_is = is ∙ so_far.same

  one_left : 32 - times ≡ suc (31 - times)
  one_left = omega (arith, few)

  unrolled : cond (nat_le cost (doubled most size (times + 1))) (doubled most size (times + 1))
      (first_doubled (31 - times) (suc (times + 1)) most size cost) ≡ next_size most size cost
  unrolled = rw one_left at so_far.left

  -- which is enough
  pub doubling-enough : nat_le cost more ≡ true → more ≡ next_size most size cost
  doubling-enough h = next_is ∙ (rw (ap (nat_le cost) (sym next_is) ∙ h) at unrolled)

  -- or not
  pub doubling-more : nat_le cost more ≡ false → (64 ≤ next → 64 ≤ more) →
      Doubling most size cost (times + 1) more
  doubling-more h least =
      let twice : 2 ^ (times + 1 + 1) * size ≡ 2 * (2 ^ (times + 1) * size) =
      ap (λ n. 2 ^ n * size) (plus_one (times + 1)) ∙
      ap (λ n. n * size) (pow-succ' 2 (times + 1)) ∙ mul_assoc 2 (2 ^ (times + 1)) size in
      let fewer : 32 - (times + 1) ≡ 31 - times = omega arith in
      record {
        left = rw fewer (ap (λ n. first_doubled (31 - times) n most size cost)
            (plus_one (times + 1)) ∙ (rw (ap (nat_le cost) (sym next_is) ∙ h) at unrolled));
        same = ap (λ n. min most (2 * n)) next_is ∙ min_twice most (2 ^ (times + 1) * size) ∙
            ap (min most) (sym twice);
        least = λ g. least (so_far.least g);
      }
    where
      plus_one : (n : ℕ) → n + 1 ≡ suc n
      plus_one n = omega arith

      min_twice : (a b : ℕ) → min a (2 * min a b) ≡ min a (2 * b)
      min_twice a b = omega arith

-- and after the last one the most is left
pub doubling-end : (most size cost next : ℕ) → Doubling most size cost 32 next →
    most ≡ next_size most size cost
doubling-end most size cost next so_far = so_far.left
