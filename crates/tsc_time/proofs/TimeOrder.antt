-- The order of timestamps as facts about their numbers.
use Rattle.std.proofs.Common.{◌≡◌, ℕ, ◌<◌, ◌≤◌, ◌^◌, ◌⊎◌, ◌∙◌, ap, true, false, arith, Decides}
use Rattle.std.proofs.lemmas.Bool.Decides.{nat_tests, Decides-like, Decides-and, Decides-eqb}
use Rattle.tsc_time.specs.Time.{Time, is_before, is_in_range, is_same_time, later}

-- two times of the same parts are the same
pub same_parts : (a b : Time) → a.wall ≡ b.wall → a.logical ≡ b.logical → a ≡ b
same_parts a b e f =
    let at : ℕ → ℕ → Time = λ wall logical. record { wall = wall; logical = logical } in
    ap (λ n. at n a.logical) e ∙ ap (at b.wall) f

-- the parts of a time in range are below the limits of their types
pub parts_below : (t : Time) → is_in_range t ≡ true → (t.wall < 2 ^ 64) × (t.logical < 2 ^ 32)
parts_below t in_range = grind (arith, nat_tests)

-- the test of equal times decides whether they are the same
pub is_same_time-Decides : (a b : Time) → Decides (is_same_time a b) (a ≡ b)
is_same_time-Decides a b =
    Decides-like _ (λ p. same_parts a b p.0 p.1) (λ e. (ap (λ t. t.wall) e, ap (λ t. t.logical) e))
    (Decides-and _ _ (Decides-eqb a.wall b.wall) (Decides-eqb a.logical b.logical))

-- what the test of order tells, either way
pub is_before-reports : (a b : Time) →
    ((is_before a b ≡ true) × ((a.wall < b.wall) ⊎ ((a.wall ≡ b.wall) × (a.logical < b.logical)))) ⊎
    ((is_before a b ≡ false) × ((b.wall < a.wall) ⊎ ((a.wall ≡ b.wall) × (b.logical ≤ a.logical))))
is_before-reports a b = grind (arith, nat_tests)

pub is_before-itself : (a : Time) → is_before a a ≡ false
is_before-itself a = grind (arith, is_before-reports)

pub is_before-transitive : (a b c : Time) → is_before a b ≡ true → is_before b c ≡ true →
    is_before a c ≡ true
is_before-transitive a b c p q = grind (arith, is_before-reports)

-- no time is before one that is before it
pub is_before-opposite : (a b : Time) → is_before a b ≡ true → is_before b a ≡ false
is_before-opposite a b p = grind (arith, is_before-reports)

-- being no earlier is transitive too
pub no_earlier-transitive : (a b c : Time) → is_before b a ≡ false → is_before c b ≡ false →
    is_before c a ≡ false
no_earlier-transitive a b c p q = grind (arith, is_before-reports)

-- neither is before the other only where they are the same
pub same_from_neither_before : (a b : Time) → is_before a b ≡ false → is_before b a ≡ false → a ≡ b
same_from_neither_before a b p q = grind (arith, is_before-reports, same_parts)

-- which of two is the later
pub later-reports : (a b : Time) → ((is_before a b ≡ true) × (later a b ≡ b)) ⊎
    ((is_before a b ≡ false) × (later a b ≡ a))
later-reports a b = grind arith
