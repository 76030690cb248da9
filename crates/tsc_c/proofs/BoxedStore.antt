-- The box of a store, as calls of the standard library's functions take it: its types at the
-- layouts that a call passes, and what lets go of them.
use Rattle.std.proofs.Common.{List, [], ◌∷◌, refl, sym, ap, subst}
use lib.Dec.{T}
use base.Fraction.{full_share}
use base.Fml.{Fml, ftrue, flft}
use base.Logic.{emp}
use contract.Lifetimes.{Lfts, Shares}
use contract.Monad.{fact, fact_i}
use types.Kit.{Item, Goal, Seq, Step, step, ‵, raw, ◌⊛◌, ◌$◌, move, join, use0, rewrite}
use denote.Steps.{nothing, only}
use seplogic.Ra.Ura.{Ura}
use mir.Syntax.{Ty, Dict, ty_ptr, ty_int, ty_unit, ty_struct, w64, impl, tnil, tcons, dnil}
use mir.Val.{Val, has_ty, WT}
use prog.Wired.{Wired}
use prog.Model.{Model}
use contract.BorrowLft.{◌⊑◌}
use contract.Running.{Running}
use types.Logic.{Logic}
use denote.Exit.{no}
use denote.RattleType.{RattleType}
use denote.Param.{arg}
use denote.Param.Laws.{Laws, arg_laws}
use denote.Param.Glue.{Met}
use Rattle.std.specs.contracts.alloc.Global as heap
use Rattle.std.proofs.alloc.Global.TheLaws as heap_laws
use Rattle.std.specs.contracts.impls.GlobalAllocator.TheImpl.{ghosts, dict}
use Rattle.std.proofs.BoxSteps.Form.{Bx, D, B, box_ty, box_typed}
use Rattle.std.proofs.BoxSteps.Steps.{box_out, box_in}
use Rattle.tsc_c.specs.Owning.{Kept}
use Rattle.tsc_ffi_store.proofs.store.Store.TheLaws as store_laws
use Rattle.tsc_c.proofs.Destruct++none.drop.Symbol as stays_there

-- a call spells a type without its name
abbrev pub heap_layout : Ty
heap_layout = ty_struct [] (tcons (ty_struct [] (tcons ty_unit tnil)) tnil)

abbrev list_layout : Ty
list_layout =
    ty_struct [] (tcons ty_ptr (tcons (ty_int w64) (tcons (ty_int w64) (tcons heap_layout tnil))))

-- the handles that are open, what they name, and the next handle
abbrev pub store_layout : Ty
store_layout =
    ty_struct [] (tcons list_layout (tcons list_layout (tcons (ty_int w64) tnil)))

abbrev pub Passed : RattleType
Passed = arg store_layout no Kept

abbrev pub passed_laws : Laws Passed
passed_laws = arg_laws store_layout no Kept store_laws.the_row_laws refl

abbrev pub Heap : RattleType
Heap = arg heap_layout no heap.the_row

abbrev pub heap_passed_laws : Laws Heap
heap_passed_laws = arg_laws heap_layout no heap.the_row heap_laws.the_row_laws refl

-- the heap's handle has nothing to let go
abbrev pub heap_drop : Dict
heap_drop = impl (stays_there.symbol ∷ []) (tcons heap_layout tnil) dnil

abbrev pub E : Bx
E = record {
  row = Passed;
  laws = passed_laws;
  al = record { row = Heap; laws = heap_passed_laws; g = ghosts; d = dict; drops = heap_drop };
}

-- both live as long as one likes
pub store_lives : [] ⊑ Kept.lives
store_lives = store_laws.the_within []

pub heap_lives : [] ⊑ heap.the_row.lives
heap_lives = heap_laws.the_within []

module _ {M : Type 1} (𝓤 : Ura M) (𝓛 : Logic 𝓤) (𝓜 : Model 𝓤 𝓛.H) (𝓡 : Running 𝓤 𝓛.H 𝓜) where
  -- a handle of the heap is let go as what has nothing to let go
  pub heap_goes : Wired 𝓡.env stays_there.code → Met 𝓛 𝓜 𝓡 𝓡.env Heap heap_drop
  heap_goes w = stays_there.glues 𝓡.env w Heap heap_passed_laws M 𝓤 𝓛 𝓜 𝓡

-- a call names two lifetimes, within which a store and a heap's handle live: here both never end
abbrev pub Ever : Lfts 2
Ever = ([], ([], tt))

abbrev pub shares : Shares 2
shares = (full_share, (full_share, tt))

abbrev pub named : {M : Type 1} {𝓤 : Ura M} → Item 𝓤
named = ‵ (flft [] full_share) ⊛ ‵ (flft [] full_share) ⊛ ‵ ftrue

abbrev pub Asked : {M : Type 1} {𝓤 : Ura M} → Fml → Fml → Item 𝓤
Asked {𝓤 = 𝓤} args more = (named ⊛ ‵ args) ⊛
    (raw (fact 𝓤 ([] ⊑ Kept.lives)) ⊛ raw (fact 𝓤 ([] ⊑ heap.the_row.lives)) ⊛ ‵ more)

module _ {M : Type 1} {𝓤 : Ura M} {𝓛 : Logic 𝓤} {K : Type 0} {Γ : List (Item 𝓤)}
    {G : Goal 𝓤 𝓛.H} where
  -- so a call may have its arguments, and whatever more it asks
  pub asks : K → (args more : Fml) → Step K 𝓛 (Asked args more ∷ Γ) G (‵ args ∷ ‵ more ∷ Γ) G
  asks t args more = step (λ s. move t (1 ∷ []) $
      use0 𝓛 (raw (fact 𝓤 ([] ⊑ heap.the_row.lives)))
      (fact_i 𝓤 ([] ⊑ heap.the_row.lives) (emp 𝓤) heap_lives) $ join t $
      use0 𝓛 (raw (fact 𝓤 ([] ⊑ Kept.lives))) (fact_i 𝓤 ([] ⊑ Kept.lives) (emp 𝓤) store_lives) $
      join t $
      nothing t $ use0 𝓛 (‵ (flft [] full_share)) (𝓛.lfts.lft-nil full_share) $ join t $ use0 𝓛
      (‵ (flft [] full_share)) (𝓛.lfts.lft-nil full_share) $ join t $
      move t (0 ∷ 2 ∷ []) $ join t $ join t $ s)

  -- what a box owns has the form of a box
  pub box_shows : K → (d : D E) (u : Val) →
      (T (has_ty (box_ty E) u) × WT u → Seq K 𝓛 (‵ ((B E).own_val d (u ∷ [])) ∷ Γ) G) →
      Seq K 𝓛 (‵ ((B E).own_val d (u ∷ [])) ∷ Γ) G
  box_shows t d u k = box_out E t d (u ∷ [])
      (λ b o h e us fits. box_in E t d b o d.value e refl $ rewrite t 0
      (λ (vs : List Val). ‵ ((B E).own_val d vs)) (sym us) refl $
      k (subst (λ (v : Val). T (has_ty (box_ty E) v) × WT v) (sym (ap only us))
      (box_typed E h b o fits)))
