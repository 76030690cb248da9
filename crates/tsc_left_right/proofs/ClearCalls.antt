-- A writer clears the seats, in the shape that the calls ask for.
use Rattle.std.proofs.Common.{◌≡◌, ◌∙◌, refl, sym, ap, subst, true, false, ℕ, suc, ◌+◌, ◌%◌, ◌<◌}
use Rattle.std.proofs.Common.{List, [], ◌∷◌, ◌++◌, length, set, take, arith}
use Rattle.std.proofs.lemmas.List.{take_more_set}
use Rattle.std.specs.Prelude.{Option, Some}
use Rattle.std.specs.List.{slice_get}
use Rattle.atomic_table.specs.Table.{Step, Allows, rest, turned}
use Rattle.tsc_left_right.specs.declared.table.Setup.{Setup}
use Rattle.tsc_left_right.specs.declared.table.Slot.{Slot}
use Rattle.tsc_left_right.specs.declared.table.Slot.TheVariants.{Empty}
use Rattle.tsc_left_right.specs.declared.table.Knowledge.{Knowledge}
use Rattle.tsc_left_right.specs.Rule.{LeftRightRule, standby_side, epoch_word}
use Rattle.tsc_left_right.specs.Rule.{side_slot}
use Rattle.tsc_left_right.specs.Steps.{At, state_in, clearing, has_left}
use Rattle.tsc_left_right.specs.Steps.{clears, passes, notes, noting, Anything}
use Rattle.tsc_left_right.specs.Participating.{IsWriting}
use Rattle.tsc_left_right.specs.Participating.{cleared_in, noted_in}
use Rattle.tsc_left_right.proofs.Hands.{Hand, filled_push}
use Rattle.tsc_left_right.proofs.Clearing.{clear_allowed, pass_allowed, note_allowed}
use Rattle.tsc_left_right.specs.declared.replicated.Replicated.{Ghosts}

module _ {C O S E : Type 0} where
  -- the same, by what the writer knows itself
  pub writing_self : (v : Knowledge S E) (me : At C O S E) (cleared : ℕ)
      → IsWriting v me cleared → IsWriting me.0 me cleared
  writing_self v me cleared h = subst (λ (m : At C O S E). IsWriting m.0 m cleared) (sym h.is)
      (record {
        slots = h.slots;
        is = refl;
        filled = h.filled;
        holds = h.holds;
        unpinned =
            h.unpinned;
      })

  -- The next seat was cleared.
  pub cleared_then : (st : Step (Slot C O)) (e noted : ℕ) (v : Knowledge S E) (me me' : At C O S E)
      (cleared : ℕ) → (h : IsWriting v me cleared) → clears st me e me'
      → slice_get (state_in v).noted cleared ≡ Some noted → has_left (Some noted) e ≡ true
      → (x : Slot C O) × (me' ≡ (
        cleared_in v (suc cleared),
        (side_slot cleared (standby_side (state_in v).head), x) ∷ (0, Empty) ∷ h.slots,
      ))
  cleared_then st e noted v me me' cleared h step is left =
      (subst (λ (m : At C O S E). clears st m e me') h.is step).0
      (ap (λ (o : Option ℕ). has_left o e) is ∙ left)

  pub passed_then : (st : Step (Slot C O)) (found : ℕ) (v : Knowledge S E) (me me' : At C O S E)
      (cleared : ℕ) → (h : IsWriting v me cleared) → passes st me found me'
      → (x : Slot C O) × (me' ≡ (
        cleared_in v (suc cleared),
        (side_slot cleared (standby_side (state_in v).head), x) ∷ (0, Empty) ∷ h.slots,
      ))
  passed_then st found v me me' cleared h step =
      subst (λ (m : At C O S E). passes st m found me') h.is step

  -- It was not, and nothing changed.
  pub stays_then : (st : Step (Slot C O)) (e noted : ℕ) (v : Knowledge S E) (me me' : At C O S E)
      (cleared : ℕ) → IsWriting v me cleared → clears st me e me'
      → slice_get (state_in v).noted cleared ≡ Some noted → has_left (Some noted) e ≡ false
      → me' ≡ me
  stays_then st e noted v me me' cleared h step is stays =
      (subst (λ (m : At C O S E). clears st m e me') h.is step).1
      (ap (λ (o : Option ℕ). has_left o e) is ∙ stays) ∙ sym h.is

  -- Its slot is empty, and goes behind the others.
  pub cleared_more : (v : Knowledge S E) (me me₁ me₂ me₃ : At C O S E) (cleared slot : ℕ)
      (x : Slot C O) → (h : IsWriting v me cleared) → me₁ ≡ (
        cleared_in v (suc cleared),
        (
          side_slot cleared (standby_side (state_in v).head),
          x,
        ) ∷ (0, Empty) ∷ h.slots,
      )
      → slot ≡ side_slot cleared (standby_side (state_in v).head)
      → me₂ ≡ (me₁.0, (slot, Empty) ∷ rest me₁.1) → me₃ ≡ (me₂.0, turned me₂.1)
      → IsWriting v me₃ (cleared + 1)
  cleared_more v me me₁ me₂ me₃ cleared slot x h is at emptied turned_is =
      let side : ℕ = standby_side (state_in v).head in
      subst (λ (n : ℕ). IsWriting v me₃ n) (let g : suc cleared
      ≡ cleared + 1 = omega arith in g)
      (record {
        slots = h.slots ++ (side_slot cleared side, Empty) ∷ [];
        is = turned_is ∙ (λ i. ((emptied i).0, turned (emptied i).1))
            ∙ (λ i. ((is i).0, turned ((at i, Empty) ∷ rest (is i).1)));
        filled = filled_push Anything side 0 h.slots cleared Empty h.filled tt;
        holds = h.holds;
        unpinned = h.unpinned;
      })

module _ {C O S E : Type 0} where
  -- what the writer knows then
  pub noted_then : (st : Step (Slot C O)) (e seat : ℕ) (v : Knowledge S E) (me me' : At C O S E)
      (noted : List ℕ) (hand : Hand C O) → me ≡ (noted_in v (take seat noted), hand)
      → notes st me e me' → seat < length noted
      → me' ≡ (noted_in v (take (seat + 1) (set noted seat e)), hand)
  noted_then st e seat v me me' noted hand is step low =
      subst (λ (m : At C O S E). notes st m e me') is step
      ∙ ap (λ (l : List ℕ). (noted_in v l, hand)) (sym (take_more_set noted seat e low))

module _ {P C O S E : Type 0} (R : Ghosts P C O S E) where
  pub clear_at : (key : Setup S) (slots : ℕ) (st : Step (Slot C O)) (id word : ℕ)
      (v : Knowledge S E) (me : At C O S E) (cleared : ℕ) → IsWriting v me cleared
      → cleared < v.setup.seats → word ≡ epoch_word cleared
      → Allows (LeftRightRule R key) slots id me
      word (λ n. n) (clears st me)
  clear_at key slots st id word v me cleared h below at =
      let hand : Hand C O = (0, Empty) ∷ h.slots in
      subst (λ (n : ℕ). Allows (LeftRightRule R key) slots id me n (λ n. n) (clears st me)) (sym at)
      (subst (λ (m : At C O S E). Allows (LeftRightRule R key) slots id m (epoch_word cleared)
      (λ n. n) (clears st m)) (sym h.is)
      (clear_allowed R key slots st id v.setup (clearing (state_in v) cleared) hand h.holds
      below h.unpinned))

  -- the same of a seat that was outside
  pub pass_at : (key : Setup S) (slots : ℕ) (st : Step (Slot C O)) (id noted : ℕ)
      (v : Knowledge S E) (me : At C O S E) (cleared : ℕ) → IsWriting v me cleared
      → cleared < v.setup.seats → slice_get (state_in v).noted cleared ≡ Some noted
      → noted % 2 ≡ 0
      → Allows (LeftRightRule R key) slots id me 16 (λ n. n) (passes st me)
  pass_at key slots st id noted v me cleared h below is even =
      subst (λ (m : At C O S E). Allows (LeftRightRule R key) slots id m 16 (λ n. n)
      (passes st m)) (sym h.is)
      (pass_allowed R key slots st id v.setup (clearing (state_in v) cleared)
      ((0, Empty) ∷ h.slots) noted h.holds below is even)

  -- The epoch of the next seat is noted.
  pub note_at : (key : Setup S) (slots : ℕ) (st : Step (Slot C O)) (id word seat : ℕ)
      (v : Knowledge S E) (me : At C O S E) (noted : List ℕ) (hand : Hand C O)
      → me ≡ (noted_in v noted, hand) → (state_in v).holds ≡ true → length noted ≡ seat
      → word ≡ epoch_word seat
      → Allows (LeftRightRule R key) slots id me word (λ n. n) (notes st me)
  note_at key slots st id word seat v me noted hand is holds long at =
      subst (λ (n : ℕ). Allows (LeftRightRule R key) slots id me n (λ n. n) (notes st me))
      (sym (at ∙ ap epoch_word (sym long))) (subst (λ (m : At C O S E).
      Allows (LeftRightRule R key) slots id m (epoch_word (length noted)) (λ n. n) (notes st m))
      (sym is) (note_allowed R key slots st id v.setup (noting (state_in v) noted) hand holds))
