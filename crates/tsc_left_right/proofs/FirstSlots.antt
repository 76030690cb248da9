-- What lies in the slots at the opening.
use Rattle.std.proofs.Common.{◌≡◌, ◌∙◌, refl, sym, ap, subst, ℕ, zero, suc, ◌+◌, ◌*◌, ◌≤◌, List, []}
use Rattle.std.proofs.Common.{◌∷◌, ◌++◌, length, replicate, append_assoc, arith}
use Rattle.std.specs.Arc.{arc_value}
use mathlib.Core.Logic.{dite}
use native.Mathlib.Decide.{ℕ_discrete}
use mathlib.Core.Option as maybe
use lib.ListN.{get_elem?}
use Rattle.std.proofs.lemmas.List.{length-append, replicate-append-replicate}
use Rattle.atomic_table.proofs.Lists.{at_longer}
use Rattle.atomic_table.specs.Table.{opening}
use Rattle.tsc_left_right.specs.declared.table.Setup.{Setup}
use Rattle.tsc_left_right.specs.declared.table.Slot.{Slot}
use Rattle.tsc_left_right.specs.declared.table.Slot.TheVariants.{Empty, Writer, Handle}
use Rattle.tsc_left_right.specs.Rule.{StoredState, LeftRightRule, Shows, first_knowledge}
use Rattle.tsc_left_right.specs.Rule.{side_slot, word_count}
use Rattle.tsc_left_right.specs.Steps.{IsHandleOn}
use Rattle.tsc_left_right.specs.Opening.{HasFirstSlots, IsFirst, line_of}
use Rattle.tsc_left_right.proofs.Openings.{opening_kept}
use Rattle.tsc_left_right.specs.declared.replicated.Replicated.{Ghosts}

module _ {C O : Type 0} where
  -- What is laid stands behind all that was there.
  at_next : (xs rest : List (Slot C O)) (x : Slot C O) (i : ℕ) → length xs ≡ i
      → get_elem? (xs ++ x ∷ rest) i
      ≡ maybe.some x
  at_next [] rest x zero long = refl
  at_next [] rest x (suc i) long = absurd (omega arith)
  at_next (y ∷ ys) rest x zero long = absurd (omega arith)
  at_next (y ∷ ys) rest x (suc i) long = at_next ys rest x i (omega arith)

  -- an empty slot more on the line
  pub line_more : (before xs ys : List (Slot C O)) (x : Slot C O) (n : ℕ)
      → xs ≡ before ++ x ∷ replicate n Empty
      → ys ≡ xs ++ Empty ∷ [] → ys ≡ before ++ x ∷ replicate (n + 1) Empty
  line_more before xs ys x n is more =
      more ∙ ap (λ (l : List (Slot C O)). l ++ Empty ∷ []) is
      ∙ append_assoc before (x ∷ replicate n Empty)
      (Empty ∷ []) ∙ ap (λ (l : List (Slot C O)). before ++ x ∷ l)
      (replicate-append-replicate n 1 Empty)

  -- a full line
  pub line_full : (before xs : List (Slot C O)) (x : Slot C O) (n : ℕ)
      → xs ≡ before ++ x ∷ replicate n Empty → n ≡ 7 → xs ≡ before ++ line_of x
  line_full before xs x n is full = is ∙ ap (λ (k : ℕ). before ++ x ∷ replicate k Empty) full

  -- What is found in a list of slots is found in a longer one.
  later : (xs ys more : List (Slot C O)) → ys ≡ xs ++ more → (i : ℕ) (x : Slot C O) → get_elem? xs i
      ≡ maybe.some x → get_elem? ys i ≡ maybe.some x
  later xs ys more is i x e = subst (λ (l : List (Slot C O)). get_elem? l i ≡ maybe.some x) (sym is)
      (at_longer xs more i x e)

  -- The slot of a line is behind all that was there.
  at_line : (xs ys : List (Slot C O)) (x : Slot C O) (i : ℕ) → ys ≡ xs ++ line_of x → length xs ≡ i
      → get_elem? ys i ≡ maybe.some x
  at_line xs ys x i is long = subst (λ (l : List (Slot C O)). get_elem? l i ≡ maybe.some x) (sym is)
      (at_next xs (replicate 7 Empty) x i long)

  line_length : (xs ys : List (Slot C O)) (x : Slot C O) (n : ℕ) → ys ≡ xs ++ line_of x
      → length xs ≡ n → length ys ≡ n + 8
  line_length xs ys x n is long = omega (arith, ap length is, length-append xs (line_of x), long)

  -- a seat more: a handle on side 0, and nothing on side 1
  pub first_slots_more : (state : StoredState C O) (n : ℕ) (xs ys zs : List (Slot C O))
      (x : Slot C O)
      → HasFirstSlots state n xs → ys ≡ xs ++ line_of x → zs ≡ ys ++ line_of Empty
      → IsHandleOn (arc_value state.value.copies.active) 0 x → HasFirstSlots state (n + 1) zs
  first_slots_more state n xs ys zs x has_slots one two on =
      let deep = has_slots.deep in
      let long_y : length ys ≡ 16 * n + 16 =
      omega (arith, line_length xs ys x (16 * n + 8) one deep) in
      let long_z : length zs ≡ 16 * n + 24 =
      omega (arith, line_length ys zs Empty (16 * n + 16) two long_y) in
      let from_y = later ys zs (line_of Empty) two in
      let from_x : (i : ℕ) (b : Slot C O) → get_elem? xs i ≡ maybe.some b → get_elem? zs i
      ≡ maybe.some b = λ i b e. from_y i b (later xs ys (line_of x) one i b e) in
      record {
        deep = omega (arith, long_z);
        writer = from_x 0 (Writer state) has_slots.writer;
        active = λ seat low. dite (ℕ_discrete seat n)
            (λ is. (
              x,
              from_y (side_slot seat 0) x (at_line xs ys x (side_slot seat 0) one
                  (omega (arith, deep, is))),
              on,
            ))
            (λ isnt. let s = has_slots.active seat (omega (arith, low, isnt)) in
            (s.0, from_x (side_slot seat 0) s.0 s.1, s.2));
        standby = λ seat low. dite (ℕ_discrete seat n)
            (λ is. at_line ys zs Empty (side_slot seat 1) two (omega (arith, long_y, is)))
            (λ isnt. from_x (side_slot seat 1) Empty (has_slots.standby seat (omega
            (arith, low, isnt))));
      }

  -- all seats
  pub first_slots_all : (state : StoredState C O) (n m : ℕ) (xs : List (Slot C O)) → n ≤ m → m ≤ n
      → HasFirstSlots state n xs → HasFirstSlots state m xs
  first_slots_all state n m xs le ge has_slots = subst (λ (k : ℕ). HasFirstSlots state k xs)
      (let g : n ≡ m = omega (arith, le, ge) in g) has_slots

module _ {P C O S E : Type 0} (R : Ghosts P C O S E) where
  -- A handle on an empty cache shows the empty history.
  shows_first : (setup : Setup S) (cache : C) (x : Slot C O) → R.stands setup.config [] cache
      → IsHandleOn cache 0 x → Shows R setup [] x
  shows_first setup cache Empty stands on = absurd on
  shows_first setup cache (Writer state) stands on = absurd on
  shows_first setup cache (Handle handle) stands on = (
    subst (R.stands setup.config []) (sym on.0) stands,
    on.1,
  )

  -- the rule at the opening
  pub opens : (setup : Setup S) (state : StoredState C O) (words : List ℕ) (slots : List (Slot C O))
      → words ≡ replicate (word_count setup.seats) 0 → IsFirst R setup state.value
      → HasFirstSlots state setup.seats slots → LeftRightRule R setup
      (opening words slots (first_knowledge setup))
  opens setup state words slots blank first has_slots = subst
      (λ (ws : List ℕ). LeftRightRule R setup
      (opening ws slots (first_knowledge setup))) (sym blank)
      (opening_kept R setup state slots first.is_after first.noted (record {
        deep = has_slots.deep;
        writer = has_slots.writer;
        active = λ r low. let x = has_slots.active r low in (
          x.0,
          x.1,
          shows_first setup (arc_value state.value.copies.active) x.0 first.is_after.stand.active
              x.2,
        );
        standby = λ r low. (Empty, has_slots.standby r low);
      }))
