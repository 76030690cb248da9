-- The machine value of a `StorePtr`, and what it owns. Assumes `Logic`.
use Rattle.std.proofs.Common.{◌≡◌, ℕ, List, [], ◌∷◌, ◌++◌, refl, subst}
use seplogic.Ra.Ura.{Ura}
use mir.Raw.{raw as bare}
use mir.Val.{Val, vstruct, vcons, vnil, of_list}
use base.Fml.{ftrue, fsep, fex}
use base.Logic.{ent, guard, guard_i, via, snd∗}
use types.Logic.{Logic, sem}
use types.Kit.{Item, Goal, Seq, Step, step, given, ‵, ◌$◌, drop, use1, learn, fsplit, fjoin, fpick, fpack, feq_i, feq_l}
use contract.Monad.{fact_use}
use denote.RattleType.{RattleType, Valss}
use denote.Builtin.{RawPtr}
use denote.Memory.{lone}
use denote.RawPtr.{Ptr, block_ptr, null_ptr, ptr_val, lies_at, Testable}
use denote.Steps.{nothing}
use denote.Struct.Struct.{within}
use denote.Struct.Owning.{shape}
use base.Fraction.{full_share}
use Rattle.std.specs.declared.alloc.Global.{Global}
use Rattle.std.specs.declared.option.Option.{Option}
use Rattle.std.specs.declared.option.Option.TheVariants.{None, Some}
use Rattle.std.proofs.GlobalToken.{dealloc_token-Testable}
use Rattle.tsc_c.specs.Owning.{Kept, freeable, boxed, ptr_owns}
use Rattle.tsc_c.specs.contracts.store_ptr.StorePtr as ptr

abbrev pub Row : RattleType
Row = ptr.the_row

abbrev pub word : Ptr → Val
word p = vstruct (vcons (ptr_val p) vnil)

module _ {M : Type 1} {𝓤 : Ura M} (𝓛 : Logic 𝓤) where
  pub tested : (a : Global) (p : Ptr) (x : Kept.Denot) →
      ent 𝓤 (sem 𝓛 (boxed p x)) (guard 𝓤 (Testable p) (sem 𝓛 (boxed p x)))
  tested a p x = fact_use 𝓤 (Testable p)
      (via 𝓤 _ (snd∗ 𝓤 (sem 𝓛 (lies_at Kept full_share p x))
      (sem 𝓛 (freeable (bare (lone Kept.mir)) p)))
      (dealloc_token-Testable 𝓛 a (bare (lone Kept.mir)) p))
      (guard_i 𝓤 (Testable p) (sem 𝓛 (boxed p x)))

module _ {M : Type 1} {𝓤 : Ura M} {𝓛 : Logic 𝓤} {K : Type 0} {Γ : List (Item 𝓤)}
    {G : Goal 𝓤 𝓛.H} where
  pub ptr_in : K → (p : Ptr) (c : Option Kept.Denot) →
      Step K 𝓛 (‵ (Row.own_val (record { at = p; owned = c }) (word p ∷ [])) ∷ Γ) G
      (‵ (ptr_owns p c) ∷ Γ) G
  ptr_in t p c = step (λ s. nothing t $ feq_i t (List Val) (ptr_val p ∷ []) (ptr_val p ∷ []) refl $
      fjoin t $ feq_i t (List Val) (word p ∷ []) (word p ∷ []) refl $ fjoin t $
      fpack t (Valss (RawPtr ∷ [])) (within (shape ptr.the_type) (p, tt) (word p ∷ []))
      (ptr_val p ∷ [], tt) $ fjoin t $ s)

  pub ptr_out : K → (d : Row.Denot) (vs : List Val) →
      (vs ≡ word d.at ∷ [] → Seq K 𝓛 (‵ (ptr_owns d.at d.owned) ∷ Γ) G) →
      Seq K 𝓛 (‵ (Row.own_val d vs) ∷ Γ) G
  ptr_out t d vs k = fsplit t $ fpick t
      (λ vss. fsplit t $ feq_l t (λ ev. fsplit t $ feq_l t
      (λ ep. drop t $ k (subst (λ (ps : List Val). vs ≡ vstruct (of_list (ps ++ [])) ∷ []) ep ev))))

  pub ptr_cases : K → Global → (p : Ptr) (c : Option Kept.Denot) →
      (p ≡ null_ptr → c ≡ None → Seq K 𝓛 Γ G)
      → ((b o : ℕ) (x : Kept.Denot) → p ≡ block_ptr b o → c ≡ Some x → Testable (block_ptr b o) →
      Seq K 𝓛 (‵ (boxed (block_ptr b o) x) ∷ Γ) G) → Seq K 𝓛 (‵ (ptr_owns p c) ∷ Γ) G
  ptr_cases t a null_ptr c none one = fpick t (λ e. drop t $ none refl e)
  ptr_cases t a (block_ptr b o) c none one =
      fpick t (λ x. fsplit t $ fpick t
      (λ e. drop t $ use1 𝓛 (given (Testable (block_ptr b o)) (‵ (boxed (block_ptr b o) x)))
      (tested 𝓛 a (block_ptr b o) x) $ learn t (λ u. one b o x refl e u)))

module _ {M : Type 1} {𝓤 : Ura M} {𝓛 : Logic 𝓤} {K : Type 0} {Γ : List (Item 𝓤)}
    {G : Goal 𝓤 𝓛.H} where
  -- the box of a store, as what a pointer owns
  pub ptr_full : K → (b o : ℕ) (x : Kept.Denot) →
      Step K 𝓛 (‵ (Row.own_val (record { at = block_ptr b o; owned = Some x })
      (word (block_ptr b o) ∷ [])) ∷ Γ) G (‵ (boxed (block_ptr b o) x) ∷ Γ) G
  ptr_full t b o x = step (λ s. let held : Option Kept.Denot = Some x in nothing t $ fpack t
      (held ≡ Some x) (λ _. ftrue) refl $ fjoin t $
      fpack t Kept.Denot (λ y. fsep (fex (held ≡ Some y) (λ _. ftrue)) (boxed (block_ptr b o) y)) x
      $ ptr_in t (block_ptr b o) held $ s)
