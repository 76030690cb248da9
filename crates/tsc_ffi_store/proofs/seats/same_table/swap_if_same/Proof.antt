-- Both tokens have no bytes. Where they are of one table, each takes what the other owned.
use Rattle.atomic_table.proofs.Names.{ℕ, List, [], ◌∷◌, refl, a_type, named, Val, vunit, vptr, inst_fn, SProp, emp, Fml, ftrue, fsep, flft, ‵, raw, ◌⊛◌, ◌$◌, ◌∵◌, !, qed, by, move, keep, split, split3, join, fsplit, fsplit3, fjoin, fjoin3, use0, feq_i, unit_lit, of_opd, returns, enter, alloc_all, pass_all, free_all, look_at, sets, tables, RattleType, owns, types_at, plain, nothing, param, layouts, Stays, walk_of, fact, fact_i, mut_vals, mut_Tells, opens, closes, stay_ref, Goes-ref}
use Rattle.std.proofs.Common.{inl, inr}
use Rattle.atomic_table.proofs.Walks.{proved, leaves}
use Rattle.atomic_table.specs.contracts.shared.Seat as seat
use Rattle.tsc_ffi_store.specs.SameTable.{SwapsIfSame}
use Rattle.tsc_ffi_store.proofs.TableIds.{one_table}
use Rattle.tsc_ffi_store.specs.contracts.seats.same_table.swap_if_same.{ended, clauses}
use Rattle.tsc_ffi_store.specs.contracts.seats.same_table.swap_if_same.Key.{name as #self}
use Rattle.tsc_ffi_store.proofs.seats.same_table.swap_if_same.Statement.{statement}
use Rattle.tsc_ffi_store.proofs.seats.same_table.swap_if_same.Code as code

pub swap_if_same_spec : {M : Type 1} → statement M
swap_if_same_spec 𝓤 𝓛 𝓜 𝓡 wired T U _ _ =
    let H = 𝓛.H in let 𝓣 = tables 𝓤 H 𝓜 𝓡 𝓡.env in let R : RattleType = param 0 T in
    let W : RattleType = param 1 U in let En = ended T U in
    let inst = layouts (a_type ∷ a_type ∷ []) (T, (U, tt)) in
    let fn = inst_fn inst code.function in
    let Sr : RattleType = seat.the_row R W in let sitter = plain (λ _. Sr) in
    let hs : Stays En.signature.params En.kept =
    (stay_ref (0 ∷ []) tt sitter, (stay_ref (1 ∷ []) tt sitter, tt)) in
    let c = clauses T U 𝓛 𝓜.mem 𝓡.returns in
    proved 𝓛 En hs c 𝓜 𝓡 (Goes-ref 𝓛 4 0 tt sitter, (Goes-ref 𝓛 4 1 tt sitter, tt)) (#self inst) fn
    (code.unfolded 𝓤 H 𝓜 𝓡 wired (T, (U, tt)))
    (λ κs. (mut_vals, (mut_vals, tt)))
    (λ κs. (mut_Tells (named 0) κs.0 Sr, (mut_Tells (named 1) κs.1.0 Sr, tt)))
    (λ κs qs bounds a gh are.
    let b : ℕ = a.0.ref_ptr.0 in let o : ℕ = a.0.ref_ptr.1 in let h : Sr.Denot = a.0.now in
    let b₂ : ℕ = a.1.0.ref_ptr.0 in let o₂ : ℕ = a.1.0.ref_ptr.1 in
    let k : Sr.Denot = a.1.0.now in
    let y : (walk_of 𝓛 En hs c).Ghost =
    ((κs, qs, bounds, a, (vptr b o ∷ [], (vptr b₂ o₂ ∷ [], tt))), gh) in
    let Post : Val → SProp 𝓤 = (walk_of 𝓛 En hs c).post y in
    let others : Fml =
    fsep (flft κs.1.1.0 qs.1.1.0) (fsep (flft κs.1.1.1.0 qs.1.1.1.0) ftrue) in
    elim (one_table h.table_id k.table_id) [
      | inl same ↦ (
          let Reported : Type 0 = SwapsIfSame h k k h in
          qed 𝓛 (((‵ (flft κs.0 qs.0) ⊛ ‵ (flft κs.1.0 qs.1.0) ⊛ ‵ others) ⊛
          ‵ (owns (types_at En.signature.params κs) a y.0.4)) ∷ raw ((c κs a).requires gh) ∷ []) ∵
          split ! $ split3 ! $ move ! (3 ∷ []) $ fsplit3 ! $ fsplit3 ! $ move ! (3 ∷ []) $
          fsplit3 ! $ keep ! (4 ∷ 5 ∷ 7 ∷ 9 ∷ 1 ∷ 2 ∷ 8 ∷ []) $
          enter ! 𝓣.C 𝓣.Λ fn (vptr b o ∷ vptr b₂ o₂ ∷ []) Post $ alloc_all ! (λ l.
          pass_all ! refl ((tt, tt), ((tt, tt), tt)) $
          opens ! tt Sr b o (λ ts. move ! (1 ∷ []) $ fsplit ! $ move ! (7 ∷ 8 ∷ 9 ∷ []) $
          opens ! tt Sr b₂ o₂ (λ us. move ! (1 ∷ []) $ fsplit ! $
          move ! (6 ∷ 1 ∷ []) $ fjoin ! $ move ! (7 ∷ 0 ∷ 8 ∷ 9 ∷ 10 ∷ []) $
          closes ! tt Sr k ts b o $
          feq_i ! (List Val) (vptr b o ∷ []) (vptr b o ∷ []) refl $ fjoin3 ! $
          move ! (2 ∷ 7 ∷ []) $ fjoin ! $ move ! (3 ∷ 0 ∷ 4 ∷ 5 ∷ 6 ∷ []) $
          closes ! tt Sr h us b₂ o₂ $
          feq_i ! (List Val) (vptr b₂ o₂ ∷ []) (vptr b₂ o₂ ∷ []) refl $ fjoin3 ! $
          nothing ! $ move ! (1 ∷ 0 ∷ []) $ fjoin ! $ move ! (2 ∷ 0 ∷ []) $ fjoin ! $
          move ! (1 ∷ 3 ∷ []) $ join ! $ move ! (2 ∷ 0 ∷ []) $ join ! $
          sets ! (of_opd ! (unit_lit !)) refl (tt, tt) $
          use0 𝓛 (raw (fact 𝓤 Reported)) (fact_i 𝓤 Reported (emp 𝓤) (inl (same, refl, refl))) $
          feq_i ! (List Val) (vunit ∷ []) (vunit ∷ []) refl $
          returns ! (look_at ! 0 refl) $ free_all ! refl $ keep ! (2 ∷ 3 ∷ 0 ∷ 1 ∷ []) $
          by ! (leaves 𝓛 En hs c y vunit tt (k, (h, tt)) (tt, (tt, tt))))))
          )
      | inr apart ↦ (
          let Reported : Type 0 = SwapsIfSame h k h k in
          qed 𝓛 (((‵ (flft κs.0 qs.0) ⊛ ‵ (flft κs.1.0 qs.1.0) ⊛ ‵ others) ⊛
          ‵ (owns (types_at En.signature.params κs) a y.0.4)) ∷ raw ((c κs a).requires gh) ∷ []) ∵
          split ! $ split3 ! $ move ! (3 ∷ []) $ fsplit3 ! $ fsplit3 ! $ move ! (3 ∷ []) $
          fsplit3 ! $ keep ! (4 ∷ 5 ∷ 7 ∷ 9 ∷ 1 ∷ 2 ∷ 8 ∷ []) $
          enter ! 𝓣.C 𝓣.Λ fn (vptr b o ∷ vptr b₂ o₂ ∷ []) Post $ alloc_all ! (λ l.
          pass_all ! refl ((tt, tt), ((tt, tt), tt)) $
          opens ! tt Sr b o (λ ts. move ! (1 ∷ []) $ fsplit ! $ move ! (7 ∷ 8 ∷ 9 ∷ []) $
          opens ! tt Sr b₂ o₂ (λ us. move ! (1 ∷ []) $ fsplit ! $
          move ! (6 ∷ 7 ∷ []) $ fjoin ! $ move ! (7 ∷ 0 ∷ 8 ∷ 9 ∷ 10 ∷ []) $
          closes ! tt Sr h ts b o $
          feq_i ! (List Val) (vptr b o ∷ []) (vptr b o ∷ []) refl $ fjoin3 ! $
          move ! (2 ∷ 3 ∷ []) $ fjoin ! $ move ! (3 ∷ 0 ∷ 4 ∷ 5 ∷ 6 ∷ []) $
          closes ! tt Sr k us b₂ o₂ $
          feq_i ! (List Val) (vptr b₂ o₂ ∷ []) (vptr b₂ o₂ ∷ []) refl $ fjoin3 ! $
          nothing ! $ move ! (1 ∷ 0 ∷ []) $ fjoin ! $ move ! (2 ∷ 0 ∷ []) $ fjoin ! $
          move ! (1 ∷ 3 ∷ []) $ join ! $ move ! (2 ∷ 0 ∷ []) $ join ! $
          sets ! (of_opd ! (unit_lit !)) refl (tt, tt) $
          use0 𝓛 (raw (fact 𝓤 Reported)) (fact_i 𝓤 Reported (emp 𝓤) (inr (apart, refl, refl))) $
          feq_i ! (List Val) (vunit ∷ []) (vunit ∷ []) refl $
          returns ! (look_at ! 0 refl) $ free_all ! refl $ keep ! (2 ∷ 3 ∷ 0 ∷ 1 ∷ []) $
          by ! (leaves 𝓛 En hs c y vunit tt (h, (k, tt)) (tt, (tt, tt))))))
          )
    ])
