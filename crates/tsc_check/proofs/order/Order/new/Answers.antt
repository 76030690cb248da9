-- Empty slots.
use Rattle.std.proofs.Common.{◌≡◌, ℕ, refl, Option, None, Some, ◌+◌, ap}
use Rattle.tsc_check.proofs.Misplaced.{none_placed}
use Rattle.tsc_check.proofs.order.Order.new.Goals as goal

is_none : (P : Option ℕ → Type 0) → ((n : ℕ) → P (Some n) → ⊥) → (y : Option ℕ) → P y → y ≡ None
is_none P none None p = refl
is_none P none (Some n) p = absurd (none n p)

pub returns : goal.returns
returns c =
    let adds = c.in_ok-vec.ensures.items_if_clones_equal (is_none _ (λ n h. absurd h)) in
    let lookups = c.in_ok-vec-2.ensures.items_if_clones_equal (is_none _ (λ n h. absurd h)) in
    let reached = c.in_ok-vec-3.ensures.items_if_clones_equal (λ y e. e) in
    rw (adds, lookups, c.new.ensures.items, reached)
    (none_placed c.args.lists c.args.lines.now c.requires.lists (c.count_adds-slots.result + 1)
    (ap (λ n. n + 1) c.count_adds-slots.ensures.value))
