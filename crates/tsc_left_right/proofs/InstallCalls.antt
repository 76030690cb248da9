-- A writer installs handles, in the shape that the calls ask for.
use Rattle.std.proofs.Common.{◌≡◌, ◌∙◌, refl, sym, ap, subst, Bool, true, false, ℕ, suc, ◌+◌, ◌<◌}
use Rattle.std.proofs.Common.{◌≤◌, [], ◌∷◌, ◌++◌, append_assoc, arith}
use Rattle.std.specs.Prelude.{◌&&◌}
use Rattle.atomic_table.specs.Table.{rest, turned}
use Rattle.tsc_left_right.specs.declared.table.Slot.{Slot}
use Rattle.tsc_left_right.specs.declared.table.Slot.TheVariants.{Empty}
use Rattle.tsc_left_right.specs.declared.table.Knowledge.{Knowledge}
use Rattle.tsc_left_right.specs.Rule.{standby_side}
use Rattle.tsc_left_right.specs.Rule.{side_slot}
use Rattle.tsc_left_right.specs.Steps.{At, state_in}
use Rattle.tsc_left_right.specs.Steps.{Filled, Anything, IsHandleOn}
use Rattle.tsc_left_right.specs.Participating.{IsWriting, HasInstalled}
use Rattle.tsc_left_right.specs.Participating.{cleared_in}
use Rattle.tsc_left_right.specs.Writing.{IsHandleIf}
use Rattle.tsc_left_right.proofs.Hands.{Hand, filled_le, filled_push, filled_weaker}
use Rattle.tsc_left_right.proofs.Calls.{first_in}

module _ {C O : Type 0} where
  -- If one handle is missing, not all are there.
  fewer : (all made : Bool) (cache : C) (adds : ℕ) (x : Slot C O) → IsHandleIf all cache adds x
      → IsHandleIf (all && made) cache adds x
  fewer true true cache adds x on = on
  fewer true false cache adds x on = tt
  fewer false made cache adds x on = tt

  fewer_then : (all made : Bool) (cache : C) (adds : ℕ) (x : Slot C O) →
      IsHandleIf made cache adds x
      → IsHandleIf (all && made) cache adds x
  fewer_then true made cache adds x on = on
  fewer_then false made cache adds x on = tt

module _ {C O S E : Type 0} where
  -- So many handles are installed, and the other slots are still to come.
  pub record Installs (v : Knowledge S E) (me : At C O S E) (cache : C) (adds seat seats : ℕ)
      (all : Bool) : Type 0 where
    pub todo : Hand C O
    pub done : Hand C O
    pub is : me ≡ (
      cleared_in v seats,
      todo ++ (0, Empty) ∷ done,
    )
    pub left : Filled Anything (standby_side (state_in v).head) seat todo seats
    pub so_far : Filled (IsHandleIf all cache adds) (standby_side (state_in v).head) 0 done seat
    pub holds : (state_in v).holds ≡ true
    pub unpinned : (state_in v).stage ≡ 0

  pub installs_none : (v : Knowledge S E) (me me' : At C O S E) (cache : C) (adds seats : ℕ)
      → (h : IsWriting v me seats) → me' ≡ (me.0, turned me.1)
      → Installs v me' cache adds 0 seats true
  installs_none v me me' cache adds seats h turned_is = record {
    todo = h.slots;
    done = [];
    is = turned_is ∙ (λ i. ((h.is i).0, turned (h.is i).1));
    left = h.filled;
    so_far = refl;
    holds = h.holds;
    unpinned = h.unpinned;
  }

  -- A handle is installed, and goes behind the others.
  pub installs_more : (v : Knowledge S E) (cache : C) (me me₁ me₂ : At C O S E)
      (adds seat seats slot : ℕ)
      (all made all' : Bool) (y : Slot C O) → Installs v me cache adds seat seats all
      → seat < seats → slot ≡ side_slot seat (standby_side (state_in v).head)
      → IsHandleIf made cache adds y → all' ≡ (all && made)
      → me₁ ≡ (me.0, (slot, y) ∷ rest me.1) → me₂ ≡ (me₁.0, turned me₁.1)
      → Installs v me₂ cache adds (seat + 1) seats all'
  installs_more v cache me me₁ me₂ adds seat seats slot all made all' y h low at on both made_is
      turned_is = by_todo h.todo h.is h.left
    where
      side : ℕ
      side = standby_side (state_in v).head

      more : suc seat ≡ seat + 1
      more = omega arith

      by_todo : (todo : Hand C O) → me ≡ (
        cleared_in v seats,
        todo ++ (0, Empty) ∷ h.done,
      ) → Filled Anything side seat todo seats
          → Installs v me₂ cache adds (seat + 1) seats all'
      by_todo [] is left = absurd (omega (arith, left, low))
      by_todo (x ∷ todo) is left = record {
        todo = todo;
        done = h.done ++ (side_slot seat side, y) ∷ [];
        is = turned_is ∙ (λ i. ((made_is i).0, turned (made_is i).1))
            ∙ (λ i. ((is i).0, rest (is i).1 ++ (at i, y) ∷ []))
            ∙ ap (λ (l : Hand C O). (cleared_in v seats, l))
            (append_assoc todo ((0, Empty) ∷ h.done) ((side_slot seat side, y) ∷ []));
        left = subst (λ (n : ℕ). Filled Anything side n todo seats) more left.2;
        so_far = subst (λ (b : Bool). Filled (IsHandleIf b cache adds) side 0
            (h.done ++ (side_slot seat side, y) ∷ []) (seat + 1)) (sym both)
            (subst (λ (n : ℕ). Filled (IsHandleIf (all && made) cache adds) side 0
            (h.done ++ (side_slot seat side, y) ∷ []) n) more
            (filled_push (IsHandleIf (all && made) cache adds) side 0 h.done seat y
            (filled_weaker (IsHandleIf all cache adds) side (IsHandleIf (all && made) cache adds)
            (fewer all made cache adds) 0 h.done seat h.so_far) (fewer_then all made cache adds y
            on)));
        holds = h.holds;
        unpinned = h.unpinned;
      }

  -- the first slot that is to come
  pub first_todo : (v : Knowledge S E) (cache : C) (me : At C O S E) (adds seat seats slot : ℕ)
      (all : Bool) → Installs v me cache adds seat seats all
      → seat < seats → slot ≡ side_slot seat (standby_side (state_in v).head) → (y : Slot C O)
      × (me.1 ≡ (slot, y) ∷ rest me.1)
  first_todo v cache me adds seat seats slot all h low at = by_todo h.todo h.is h.left
    where
      by_todo : (todo : Hand C O) → me ≡ (
        cleared_in v seats,
        todo ++ (0, Empty) ∷ h.done,
      )
          → Filled Anything (standby_side (state_in v).head) seat todo seats → (y : Slot C O)
          × (me.1 ≡ (slot, y) ∷ rest me.1)
      by_todo [] is left = absurd (omega (arith, left, low))
      by_todo (x ∷ todo) is left =
          first_in me.1 (todo ++ (0, Empty) ∷ h.done) slot x.0
          x.1 (ap (λ (m : At C O S E). m.1) is) (at ∙ sym left.0)

  -- All were installed, or some.
  pub installed_some : (v : Knowledge S E) (cache : C) (me : At C O S E) (adds seat seats : ℕ)
      (all : Bool) → Installs v me cache adds seat seats all → seats ≤ seat
      → IsWriting v me seats
  installed_some v cache me adds seat seats all h high = by_todo h.todo h.is h.left
    where
      by_todo : (todo : Hand C O) → me ≡ (
        cleared_in v seats,
        todo ++ (0, Empty) ∷ h.done,
      )
          → Filled Anything (standby_side (state_in v).head) seat todo seats
          → IsWriting v me seats
      by_todo [] is left = record {
        slots = h.done;
        is = is;
        filled = filled_weaker (IsHandleIf all cache adds) (standby_side (state_in v).head) Anything
            (λ x _. tt) 0 h.done seats (subst (λ (n : ℕ). Filled (IsHandleIf all cache adds)
            (standby_side (state_in v).head) 0 h.done n) left h.so_far);
        holds = h.holds;
        unpinned = h.unpinned;
      }
      by_todo (x ∷ todo) is left =
          absurd (omega (
            arith,
            high,
            filled_le Anything (standby_side (state_in v).head) (suc seat)
                todo seats left.2,
          ))

  pub installed_all : (v : Knowledge S E) (cache : C) (me : At C O S E) (adds seat seats : ℕ)
      (all : Bool) → Installs v me cache adds seat seats all → seats ≤ seat → all ≡ true
      → HasInstalled v me cache adds seats
  installed_all v cache me adds seat seats all h high is_all = by_todo h.todo h.is h.left
    where
      by_todo : (todo : Hand C O) → me ≡ (
        cleared_in v seats,
        todo ++ (0, Empty) ∷ h.done,
      )
          → Filled Anything (standby_side (state_in v).head) seat todo seats
          → HasInstalled v me cache adds seats
      by_todo [] is left = record {
        slots = h.done;
        is = is;
        filled = subst (λ (n : ℕ). Filled (IsHandleOn cache adds) (standby_side (state_in v).head) 0
            h.done n) left (subst (λ (b : Bool). Filled (IsHandleIf b cache adds)
            (standby_side (state_in v).head) 0 h.done seat) is_all h.so_far);
        holds = h.holds;
        unpinned = h.unpinned;
      }
      by_todo (x ∷ todo) is left =
          absurd (omega (
            arith,
            high,
            filled_le Anything (standby_side (state_in v).head) (suc seat)
                todo seats left.2,
          ))
