-- `into_box` looks whether the pointer is null: nothing is owned there, and else the pointer is a
-- box's again.
use Rattle.std.proofs.Common.{◌≡◌, ℕ, List, [], ◌∷◌, ◌++◌, refl, sym, ap, ◌∙◌, subst, lit<}
use mir.Syntax.{Fn}
use mir.Val.{Val, vptr, vcons, vnil}
use base.Logic.{SProp, ent, emp, id⊢}
use base.Fml.{ftrue}
use prog.Model.{Model}
use prog.Wired.{Wired}
use prog.Wp.{WpFn}
use seplogic.Ra.Ura.{Ura}
use contract.Monad.{fact, fact_i}
use contract.Running.{Running, tables}
use types.Logic.{Logic}
use types.Kit.{Item, ⋆, ‵, raw, ◌⊛◌, some, later, at_ret, ◌$◌, ◌∵◌, !, qed, by, move, keep, drop, use0, use1, split, split3, fsplit3, fjoin, pick, feq_i, await}
use types.Part.{agg, sub, whole}
use types.Run.{stop, fld, lit, of_opd, bin, no_more, and_then, first, blocks, branches, skips, exec, returns, returns_within, enter}
use types.ByLocal.{alloc_all, free_all, look_at, get, get_in, sets, pass_all, lands_last, env}
use types.Match.{live}
use denote.Exit.{yes}
use denote.RattleType.{RattleType, owns}
use denote.RawPtr.{Ptr, block_ptr, null_ptr, Testable, tests_null}
use denote.Signature.{types_at, type_at, plain}
use denote.Steps.{nothing, heard}
use denote.Triple.Call.{calls_at_last}
use denote.Triple.Clauses.{Lasts, lasts}
use denote.Triple.Entry.{alive}
use denote.Triple.Spec.{triple_of}
use denote.Triple.Table.{framed}
use denote.Triple.Walked.{Stays, stay_dropped, walk_of, Goes-dropped}
use Rattle.std.proofs.BoxSteps.Form as box
use Rattle.std.proofs.alloc.Calls.{Fits, handle_tells}
use Rattle.std.proofs.alloc.Shapes.{after}
use Rattle.std.proofs.option.Made.{Some-of, none_of}
use Rattle.std.proofs.raw_atomic.Walks.{proved_at, leaves}
use Rattle.std.proofs.ResultValues.{and_tt}
use Rattle.std.specs.contracts.alloc.Global as handle
use Rattle.std.specs.contracts.boxed.Box as Box
use Rattle.std.specs.contracts.boxed.Box.from_raw as giving
use Rattle.std.proofs.boxed.Box.from_raw.Met.{met}
use Rattle.std.proofs.impls.GlobalAllocator.TheImpl.Met.{passed}
use Rattle.std.specs.contracts.impls.GlobalAllocator.TheImpl.{ghosts, dict}
use Rattle.std.specs.declared.option.Option.TheVariants.{None, Some}
use Rattle.tsc_c.specs.Owning.{Kept, boxed}
use Rattle.tsc_c.proofs.BoxedStore.{E, Passed, Heap, passed_laws, heap_passed_laws, heap_drop, heap_goes, Ever, shares, named, asks, box_shows}
use Rattle.tsc_c.proofs.PtrValues.{Row, word, ptr_out, ptr_cases}
use Rattle.tsc_c.specs.contracts.store_ptr.StorePtr.into_box.{ended, clauses}
use Rattle.tsc_c.specs.contracts.store_ptr.StorePtr.into_box.Key.{name as #self}
use Rattle.tsc_c.proofs.store_ptr.StorePtr.into_box.Statement.{statement}
use Rattle.tsc_c.proofs.store_ptr.StorePtr.into_box.Code as code

abbrev Taken : RattleType
Taken = Box.the_row Kept handle.the_row ghosts

abbrev gone : Stays ended.signature.params ended.kept
gone = (stay_dropped (plain (λ _. Row)) yes, (stay_dropped (plain (λ _. handle.the_row)) yes, tt))

abbrev fn : Fn
fn = code.function

module _ {M : Type 1} (𝓤 : Ura M) (𝓛 : Logic 𝓤) (𝓜 : Model 𝓤 𝓛.H) (𝓡 : Running 𝓤 𝓛.H 𝓜)
    (wired : Wired 𝓡.env code.code)
    (z : (walk_of 𝓛 ended gone (clauses 𝓛 𝓜.mem 𝓡.returns)).Ghost) where
  open 𝓛 use {H}

  abbrev 𝓣 : contract.Running.MachineTables 𝓤 H 𝓜
  𝓣 = tables 𝓤 H 𝓜 𝓡 𝓡.env

  abbrev Post : Val → SProp 𝓤
  Post = (walk_of 𝓛 ended gone (clauses 𝓛 𝓜.mem 𝓡.returns)).post z

  abbrev Runs : List Val → SProp 𝓤
  Runs ws = WpFn 𝓤 H 𝓣.C 𝓣.Λ fn ws Post

  abbrev Out : RattleType
  Out = type_at ended.signature.result z.0.0

  abbrev living : Item 𝓤
  living = raw (alive 𝓛 ended.signature z.0.0 z.0.1)

  -- at null
  at_null : (h : Val) → Fits E.al h → z.0.3.0.owned ≡ None →
      ent 𝓤 (⋆ 𝓛 (living ∷ [])) (Runs (word null_ptr ∷ h ∷ []))
  at_null h fits none =
      qed 𝓛 (living ∷ []) ∵ enter ! 𝓣.C 𝓣.Λ fn (word null_ptr ∷ h ∷ []) Post $ alloc_all !
      (λ l. pass_all ! refl ((tt, (record { fits = lit< tt }, tt)), (fits, tt)) $
      sets ! (of_opd ! (get_in ! (fld ! refl (stop !)) (sub ! 0 refl (whole !)))) refl
      (tt, record { fits = lit< tt }) $ sets ! (of_opd ! (get ! refl)) refl
      (tt, record { fits = lit< tt }) $
      sets ! (bin ! (get ! refl) (lit ! tt) tt) refl (tt, tt) $ first ! $ branches ! (get ! refl)
      (λ _. sets ! (agg ! (and_then ! (lit ! tt) (no_more !))) refl
      (tt, (record { fits = lit< tt }, tt)) $
      use0 𝓛 (‵ (Out.own_val None (live 0 vnil ∷ []))) (none_of 𝓛 Taken) $ use0 𝓛
      (raw (fact 𝓤 (z.0.3.0.owned ≡ None))) (fact_i 𝓤 (z.0.3.0.owned ≡ None) (emp 𝓤) none) $
      nothing ! $ nothing ! $ fjoin ! $ nothing ! $ fjoin ! $ returns_within ! Post refl
      (look_at ! 0 refl) $ free_all ! refl $ keep ! (3 ∷ 0 ∷ 2 ∷ 1 ∷ []) $
      by ! (leaves 𝓛 ended gone (clauses 𝓛 𝓜.mem 𝓡.returns) z (live 0 vnil) None (tt, (tt, tt))
      (tt, (tt, tt))))
      (λ wrong. absurd wrong))

  -- anywhere else
  at_box : (b o : ℕ) (x : Kept.Denot) (h : Val) → Fits E.al h → Testable (block_ptr b o) →
      z.0.3.0.owned ≡ Some x
      → ent 𝓤 (⋆ 𝓛 (‵ (boxed (block_ptr b o) x) ∷ ‵ (Heap.own_val z.0.3.1.0 (h ∷ [])) ∷ ‵ ftrue ∷
      living ∷ [])) (Runs (word (block_ptr b o) ∷ h ∷ []))
  at_box b o x h fits t kept =
      let a = z.0.3.1.0 in let Ends = giving.ended Passed Heap ghosts dict heap_drop in
      let k = triple_of 𝓛 (giving.signature Passed Heap ghosts dict heap_drop)
      (giving.spec Passed Heap ghosts dict heap_drop 𝓛 𝓜.mem 𝓡.returns) in
      let heap_met = passed 𝓡.env (code.calls-std_heap::GlobalAllocator::allocate 𝓡.env wired)
      (code.calls-std_heap::GlobalAllocator::deallocate 𝓡.env wired)
      (code.calls-std_heap::GlobalAllocator::grow 𝓡.env wired)
      (code.calls-std_heap::GlobalAllocator::shrink 𝓡.env wired) M 𝓤 𝓛 𝓜 𝓡 in
      let gives = met 𝓤 𝓛 𝓜 𝓡 (code.calls-std_alloc::boxed::Box::from_raw 𝓡.env wired) Passed Heap
      passed_laws heap_passed_laws ghosts dict heap_drop heap_met
      (heap_goes 𝓤 𝓛 𝓜 𝓡 (code.calls-tsc_c::Destruct++none::drop 𝓡.env wired)) in
      let y : k.Ghost = (
        (
          Ever,
          shares,
          tt,
          (a, (block_ptr b o, tt)),
          (h ∷ [], (vptr b o ∷ [], tt)),
        ),
        x,
      ) in
      qed 𝓛 (‵ (boxed (block_ptr b o) x) ∷ ‵ (Heap.own_val a (h ∷ [])) ∷ ‵ ftrue ∷ living ∷ []) ∵
      move ! (2 ∷ []) $ feq_i ! (List Val) (vptr b o ∷ []) (vptr b o ∷ []) refl $ fjoin ! $ move !
      (2 ∷ 0 ∷ []) $ fjoin ! $
      asks ! (owns (types_at Ends.signature.params Ever) y.0.3 y.0.4) (boxed (block_ptr b o) x) $
      use1 𝓛 (raw (k.pre y)) (id⊢ 𝓤 _) $
      enter ! 𝓣.C 𝓣.Λ fn (word (block_ptr b o) ∷ h ∷ []) Post $ alloc_all !
      (λ l. pass_all ! refl ((tt, (tt, tt)), (fits, tt)) $ let Ev = env fn.locals l in
      sets ! (of_opd ! (get_in ! (fld ! refl (stop !)) (sub ! 0 refl (whole !)))) refl (tt, tt) $
      sets ! (of_opd ! (get ! refl)) refl (tt, tt) $
      sets ! (bin ! (get ! refl) (lit ! tt) (tests_null (block_ptr b o) t)) refl (tt, tt) $ first !
      $ branches ! (get ! refl) (λ wrong. absurd wrong) (λ _. skips ! $
      exec ! 𝓣.C 𝓣.Λ Ev (after 4 fn.body) (at_ret Ev Post) $ first ! $ blocks ! $
      sets ! (of_opd ! (get ! refl)) refl fits $ sets ! (of_opd ! (get ! refl)) refl (tt, tt) $ sets
      ! (of_opd ! (get ! refl)) refl (tt, tt) $
      calls_at_last ! (framed 𝓤 H 𝓜 𝓣) k gives y
      (and_then ! (get ! refl) (and_then ! (get ! refl) (no_more !))) (λ u.
      use1 𝓛 (later (some (λ (r : box.D E). (named ⊛ ‵ ((box.B E).own_val r (u ∷ []))) ⊛ some
      (λ (ls : Lasts Ends Ever y.0.3). ‵ (lasts Ends Ever y.0.3 ls) ⊛
      (raw (fact 𝓤 (r.value ≡ x)) ⊛ raw (fact 𝓤 (r.alloc ≡ a))))))) (id⊢ 𝓤 (k.post y u)) $
      await ! tt $ pick ! (λ r. split ! $ move ! (1 ∷ []) $ pick !
      (λ _. split3 ! $ drop ! $ heard ! (r.value ≡ x) (λ same. drop ! $ split ! $ drop ! $
      box_shows ! r u (λ good. lands_last ! refl good $ exec ! 𝓣.C 𝓣.Λ Ev (after 5 fn.body)
      (at_ret Ev Post) $ sets ! (of_opd ! (get ! refl)) refl good $
      let v₁ : Val = live 1 (vcons u vnil) in let reported : z.0.3.0.owned ≡ Some r.value =
      kept ∙ ap Some (sym same) in
      sets ! (agg ! (and_then ! (lit ! tt) (and_then ! (get ! refl) (no_more !)))) refl
      (and_tt _ good.0, (record { fits = lit< tt }, (good.1, tt))) $
      use1 𝓛 (‵ (Out.own_val (Some r) (v₁ ∷ []))) (Some-of 𝓛 Taken r u) $ use0 𝓛
      (raw (fact 𝓤 (z.0.3.0.owned ≡ Some r.value)))
      (fact_i 𝓤 (z.0.3.0.owned ≡ Some r.value) (emp 𝓤) reported) $
      nothing ! $ nothing ! $ fjoin ! $ nothing ! $ fjoin ! $ returns ! (look_at ! 0 refl) $
      free_all ! refl $ keep ! (3 ∷ 0 ∷ 2 ∷ 1 ∷ []) $
      by ! (leaves 𝓛 ended gone (clauses 𝓛 𝓜.mem 𝓡.returns) z v₁ (Some r) (tt, (tt, tt))
      (tt, (tt, tt))))))))))

  either : ent 𝓤 (⋆ 𝓛 ((living ⊛ ‵ (owns (types_at ended.signature.params z.0.0) z.0.3 z.0.4)) ∷
      raw (emp 𝓤) ∷ [])) (Runs (z.0.4.0 ++ (z.0.4.1.0 ++ [])))
  either =
      let v = z.0.3.0 in let a = z.0.3.1.0 in
      qed 𝓛 ((living ⊛ ‵ (owns (types_at ended.signature.params z.0.0) z.0.3 z.0.4)) ∷ raw (emp 𝓤) ∷
      []) ∵ move ! (1 ∷ []) $ drop ! $ split ! $ move ! (1 ∷ []) $ fsplit3 ! $
      move ! (1 ∷ []) $ handle_tells E.al ! a z.0.4.1.0
      (λ h hs fits. move ! (1 ∷ []) $ ptr_out ! v z.0.4.0 (λ ws.
      let passes : (p : Ptr) → v.at ≡ p → (word p ∷ h ∷ []) ≡ (z.0.4.0 ++ (z.0.4.1.0 ++ [])) =
      λ p is. sym (λ i. (ws ∙ ap (λ (q : Ptr). word q ∷ []) is) i ++ (hs i ++ [])) in
      ptr_cases ! a v.at v.owned
      (λ is none. keep ! (2 ∷ []) $ by !
      (subst (λ (us : List Val). ent 𝓤 (⋆ 𝓛 (living ∷ [])) (Runs us)) (passes null_ptr is)
      (at_null h fits none)))
      (λ b o x is some t. by ! (subst
      (λ (us : List Val). ent 𝓤
      (⋆ 𝓛 (‵ (boxed (block_ptr b o) x) ∷ ‵ (Heap.own_val a (h ∷ [])) ∷ ‵ ftrue ∷ living ∷ []))
      (Runs us)) (passes (block_ptr b o) is)
      (at_box b o x h fits t some)))))

pub into_box_spec : {M : Type 1} → statement M
into_box_spec 𝓤 𝓛 𝓜 𝓡 wired =
    proved_at 𝓛 ended gone (clauses 𝓛 𝓜.mem 𝓡.returns) 𝓜 𝓡 (
      Goes-dropped 𝓛 0 (plain (λ _. Row)) yes (λ κs x f. refl),
      (Goes-dropped 𝓛 0 (plain (λ _. handle.the_row)) yes (λ κs x f. refl), tt),
    )
    #self fn (code.unfolded 𝓤 𝓛.H 𝓜 𝓡 wired) (λ z are. either 𝓤 𝓛 𝓜 𝓡 wired z)
