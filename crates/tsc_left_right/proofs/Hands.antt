-- The slots that a writer has in hand, and how it lays them back.
use Rattle.std.proofs.Common.{◌≡◌, ◌≢◌, ◌∙◌, refl, sym, ap, ℕ, suc, ◌<◌, ◌≤◌, List, [], ◌∷◌, ◌++◌}
use Rattle.std.proofs.Common.{length, set, length-set, arith}
use mathlib.Core.Logic.{dite}
use native.Mathlib.Decide.{ℕ_discrete}
use mathlib.Core.Option as maybe
use lib.ListN.{get_elem?}
use Rattle.atomic_table.proofs.Lists.{set_here, set_else}
use Rattle.atomic_table.specs.Table.{Act, keeps, gives, chain, Valid, homes_after, carried_after}
use Rattle.tsc_left_right.specs.declared.table.Slot.{Slot}
use Rattle.tsc_left_right.specs.Rule.{side_slot}
use Rattle.tsc_left_right.specs.Steps.{Filled}

abbrev pub Homes : Type 0 → Type 0 → Type 0
Homes C O = List (maybe.Option (Slot C O))

abbrev pub Hand : Type 0 → Type 0 → Type 0
Hand C O = List (ℕ × Slot C O)

module _ {C O : Type 0} where
  -- the homes when all in hand is back
  abbrev pub put_all : Homes C O → Hand C O → Homes C O
  put_all hs [] = hs
  put_all hs (x ∷ xs) = put_all (set hs x.0 (maybe.some x.1)) xs

  -- the act that lays all back
  abbrev pub give_all : Hand C O → Act (Slot C O)
  give_all [] = keeps
  give_all (x ∷ xs) = chain gives (give_all xs)

  pub given_homes : (hs : Homes C O) (xs ys : Hand C O) → homes_after hs (xs ++ ys) (give_all xs)
      ≡ put_all hs xs
  given_homes hs [] ys = refl
  given_homes hs (x ∷ xs) ys = given_homes (set hs x.0 (maybe.some x.1)) xs ys

  pub given_none : (xs ys : Hand C O) → carried_after (xs ++ ys) (give_all xs) ≡ ys
  given_none [] ys = refl
  given_none (x ∷ xs) ys = given_none xs ys

  pub given_valid : (hs : Homes C O) (xs ys : Hand C O) → Valid hs (xs ++ ys) (give_all xs)
  given_valid hs [] ys = tt
  given_valid hs (x ∷ xs) ys = (tt, given_valid (set hs x.0 (maybe.some x.1)) xs ys)

  pub put_length : (hs : Homes C O) (xs : Hand C O) → length (put_all hs xs) ≡ length hs
  put_length hs [] = refl
  put_length hs (x ∷ xs) = put_length (set hs x.0 (maybe.some x.1)) xs
      ∙ length-set hs x.0 (maybe.some x.1)

  module _ (P : Slot C O → Type 0) (side : ℕ) where
    pub filled_le : (from : ℕ) (xs : Hand C O) (to : ℕ) → Filled P side from xs to → from ≤ to
    filled_le from [] to f = omega (arith, f)
    filled_le from (x ∷ xs) to f = omega (arith, filled_le (suc from) xs to f.2)

    -- A slot that is none of them stays.
    pub put_apart : (hs : Homes C O) (from : ℕ) (xs : Hand C O) (to i : ℕ)
        → Filled P side from xs to
        → ((r : ℕ) → from ≤ r → r < to → i ≢ side_slot r side) → get_elem? (put_all hs xs) i
        ≡ get_elem? hs i
    put_apart hs from [] to i f apart = refl
    put_apart hs from (x ∷ xs) to i f apart =
        put_apart (set hs x.0 (maybe.some x.1)) (suc from) xs to i f.2 (λ r le lt.
        apart r (omega (arith, le)) lt)
        ∙ set_else hs x.0 i (maybe.some x.1) (λ e. apart from (omega arith)
        (omega (arith, filled_le (suc from) xs to f.2)) (e ∙ f.0))

    -- One that is among them is at home then, with what was in hand.
    pub put_among : (hs : Homes C O) (from : ℕ) (xs : Hand C O) (to r : ℕ)
        → Filled P side from xs to → from ≤ r → r < to → side_slot r side < length hs
        → (x : Slot C O) × (get_elem? (put_all hs xs) (side_slot r side)
        ≡ maybe.some (maybe.some x))
        × P x
    put_among hs from [] to r f le lt low = absurd (omega (arith, f, le, lt))
    put_among hs from (x ∷ xs) to r f le lt low = dite (ℕ_discrete r from)
        (λ is. let slot : side_slot r side ≡ x.0 = ap (λ (n : ℕ). side_slot n side) is
        ∙ sym f.0 in (
          x.1,
          put_apart (set hs x.0 (maybe.some x.1)) (suc from) xs to (side_slot r side) f.2
              (λ q above _ e. omega (arith, e, is, above))
              ∙ ap (get_elem? (set hs x.0 (maybe.some x.1))) slot ∙ set_here hs x.0 (maybe.some x.1)
              (omega (arith, low, slot)),
          f.1,
        ))
        (λ isnt. put_among (set hs x.0 (maybe.some x.1)) (suc from) xs to r f.2
        (omega (arith, le, isnt)) lt (omega (arith, low, length-set hs x.0 (maybe.some x.1))))

    pub filled_push : (from : ℕ) (xs : Hand C O) (to : ℕ) (y : Slot C O)
        → Filled P side from xs to → P y
        → Filled P side from (xs ++ (side_slot to side, y) ∷ []) (suc to)
    filled_push from [] to y f p = (ap (λ (n : ℕ). side_slot n side) (sym f), p, ap suc f)
    filled_push from (x ∷ xs) to y f p = (f.0, f.1, filled_push (suc from) xs to y f.2 p)

    pub filled_weaker : (Q : Slot C O → Type 0) → ((x : Slot C O) → P x → Q x)
        → (from : ℕ) (xs : Hand C O) (to : ℕ) → Filled P side from xs to → Filled Q side from xs to
    filled_weaker Q weaker from [] to f = f
    filled_weaker Q weaker from (x ∷ xs) to f = (
      f.0,
      weaker x.1 f.1,
      filled_weaker Q weaker
          (suc from) xs to f.2,
    )
