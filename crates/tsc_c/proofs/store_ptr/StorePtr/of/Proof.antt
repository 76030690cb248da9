-- `of` keeps the pointer of the box, and what the box owned goes with it.
use Rattle.std.proofs.Common.{◌≡◌, ℕ, List, [], ◌∷◌, ◌++◌, refl, sym, ap, ◌∙◌, subst}
use mir.Syntax.{Fn}
use mir.Raw.{raw as bare}
use mir.Val.{Val}
use base.Logic.{SProp, ent, emp, never, id⊢, fst∗}
use base.Fml.{ftrue}
use prog.Model.{Model}
use prog.Wired.{Wired}
use prog.Wp.{WpFn}
use seplogic.Ra.Ura.{Ura}
use contract.Monad.{fact, fact_i}
use contract.Running.{Running, MachineTables, tables}
use types.Logic.{Logic, sem}
use types.Kit.{Item, ⋆, ‵, raw, ◌⊛◌, some, later, ◌$◌, ◌∵◌, !, qed, by, move, keep, drop, use0, use1, split, fsplit, fjoin, pick, feq_l, await}
use types.Part.{agg}
use types.Run.{of_opd, no_more, and_then, returns, enter}
use types.ByLocal.{alloc_all, free_all, look_at, get, sets, pass_all, lands_as}
use denote.Exit.{yes}
use denote.Builtin.{RawPtr}
use denote.Memory.{lone}
use denote.RattleType.{RattleType, owns}
use denote.RawPtr.{Ptr, block_ptr, null_ptr, ptr_val, in_a_block}
use denote.Signature.{types_at, plain}
use denote.Steps.{nothing, only}
use denote.Triple.Call.{calls_at}
use denote.Triple.Clauses.{Lasts, lasts}
use denote.Triple.Entry.{alive}
use denote.Triple.Spec.{triple_of}
use denote.Triple.Table.{framed}
use denote.Triple.Walked.{Stays, stay_dropped, walk_of, Goes-dropped}
use Rattle.std.proofs.BoxSteps.Form as box
use Rattle.std.proofs.alloc.Calls.{Fits}
use Rattle.std.proofs.BoxSteps.Steps.{box_out, box_in}
use Rattle.std.proofs.raw_atomic.Walks.{proved_at, leaves}
use Rattle.std.specs.contracts.alloc.Global as handle
use Rattle.std.specs.contracts.boxed.Box as Box
use Rattle.std.specs.contracts.boxed.Box.into_raw as taking
use Rattle.std.proofs.boxed.Box.into_raw.Met.{met}
use Rattle.std.proofs.impls.GlobalAllocator.TheImpl.Met.{passed}
use Rattle.std.specs.contracts.impls.GlobalAllocator.TheImpl.{ghosts, dict}
use Rattle.std.specs.declared.option.Option.TheVariants.{Some}
use Rattle.tsc_c.specs.Owning.{Kept, freeable, boxed}
use Rattle.tsc_c.proofs.BoxedStore.{E, Passed, Heap, passed_laws, heap_passed_laws, heap_drop, heap_goes, Ever, shares, named, asks}
use Rattle.tsc_c.proofs.StoreGoes.{store_drop, store_goes}
use Rattle.tsc_c.proofs.PtrValues.{Row, word, ptr_full}
use Rattle.tsc_c.specs.contracts.store_ptr.StorePtr.of.{ended, clauses}
use Rattle.tsc_c.specs.contracts.store_ptr.StorePtr.of.Key.{name as #self}
use Rattle.tsc_c.proofs.store_ptr.StorePtr.of.Statement.{statement}
use Rattle.tsc_c.proofs.store_ptr.StorePtr.of.Code as code

abbrev Given : RattleType
Given = Box.the_row Kept handle.the_row ghosts

abbrev gone : Stays ended.signature.params ended.kept
gone = (stay_dropped (plain (λ _. Given)) yes, tt)

abbrev fn : Fn
fn = code.function

module _ {M : Type 1} (𝓤 : Ura M) (𝓛 : Logic 𝓤) (𝓜 : Model 𝓤 𝓛.H) (𝓡 : Running 𝓤 𝓛.H 𝓜)
    (wired : Wired 𝓡.env code.code)
    (z : (walk_of 𝓛 ended gone (clauses 𝓛 𝓜.mem 𝓡.returns)).Ghost) where
  open 𝓛 use {H}

  abbrev 𝓣 : MachineTables 𝓤 H 𝓜
  𝓣 = tables 𝓤 H 𝓜 𝓡 𝓡.env

  abbrev Post : Val → SProp 𝓤
  Post = (walk_of 𝓛 ended gone (clauses 𝓛 𝓜.mem 𝓡.returns)).post z

  abbrev Runs : List Val → SProp 𝓤
  Runs ws = WpFn 𝓤 H 𝓣.C 𝓣.Λ fn ws Post

  abbrev living : Item 𝓤
  living = raw (alive 𝓛 ended.signature z.0.0 z.0.1)

  abbrev store : Kept.Denot
  store = z.0.3.0.value

  -- a pointer that owns it is what is returned
  placed : (b o : ℕ) → ent 𝓤 (⋆ 𝓛 (‵ (boxed (block_ptr b o) store) ∷ living ∷ []))
      (Post (word (block_ptr b o)))
  placed b o =
      let d : Row.Denot = record { at = block_ptr b o; owned = Some store } in
      qed 𝓛 (‵ (boxed (block_ptr b o) store) ∷ living ∷ []) ∵ ptr_full ! b o store $
      use0 𝓛 (raw (fact 𝓤 (d.owned ≡ Some store))) (fact_i 𝓤 (d.owned ≡ Some store) (emp 𝓤) refl) $
      nothing ! $ nothing ! $ fjoin ! $ keep ! (3 ∷ 0 ∷ 2 ∷ 1 ∷ []) $
      by ! (leaves 𝓛 ended gone (clauses 𝓛 𝓜.mem 𝓡.returns) z (word (block_ptr b o)) d (tt, tt)
      (tt, tt))

  -- from a box in the machine's form
  from_box : (b o : ℕ) (h : Val) → Fits E.al h →
      ent 𝓤 (⋆ 𝓛 (‵ ((box.B E).own_val z.0.3.0 (box.word E h b o ∷ [])) ∷ ‵ ftrue ∷ living ∷ []))
      (Runs (box.word E h b o ∷ []))
  from_box b o h fits =
      let Ends = taking.ended Passed Heap ghosts dict heap_drop store_drop in let made =
      box.box_typed E h b o fits in
      let k = triple_of 𝓛 (taking.signature Passed Heap ghosts dict heap_drop store_drop)
      (taking.spec Passed Heap ghosts dict heap_drop store_drop 𝓛 𝓜.mem 𝓡.returns) in
      let heap_met = passed 𝓡.env (code.calls-std_heap::GlobalAllocator::allocate 𝓡.env wired)
      (code.calls-std_heap::GlobalAllocator::deallocate 𝓡.env wired)
      (code.calls-std_heap::GlobalAllocator::grow 𝓡.env wired)
      (code.calls-std_heap::GlobalAllocator::shrink 𝓡.env wired) M 𝓤 𝓛 𝓜 𝓡 in
      let takes = met 𝓤 𝓛 𝓜 𝓡 (code.calls-std_alloc::boxed::Box::into_raw 𝓡.env wired) Passed Heap
      passed_laws heap_passed_laws ghosts dict heap_drop store_drop heap_met
      (heap_goes 𝓤 𝓛 𝓜 𝓡 (code.calls-tsc_c::Destruct++none::drop 𝓡.env wired))
      (store_goes 𝓤 𝓛 𝓜 𝓡 (code.calls-tsc_c::tsc_ffi_store++store++Store+Destruct::drop 𝓡.env
      wired)) in
      let y : k.Ghost = ((Ever, shares, tt, (z.0.3.0, tt), (box.word E h b o ∷ [], tt)), tt) in
      qed 𝓛 (‵ ((box.B E).own_val z.0.3.0 (box.word E h b o ∷ [])) ∷ ‵ ftrue ∷ living ∷ []) ∵
      fjoin ! $ nothing ! $ move ! (1 ∷ 0 ∷ []) $ asks !
      (owns (types_at Ends.signature.params Ever) y.0.3 y.0.4) ftrue $ use1 𝓛 (raw (k.pre y))
      (id⊢ 𝓤 _) $
      enter ! 𝓣.C 𝓣.Λ fn (box.word E h b o ∷ []) Post $ alloc_all !
      (λ l. pass_all ! refl (made, tt) $
      sets ! (of_opd ! (get ! refl)) refl made $ calls_at ! (framed 𝓤 H 𝓜 𝓣) k takes y
      (and_then ! (get ! refl) (no_more !)) (λ u.
      use1 𝓛 (later (some (λ (p : Ptr). (named ⊛ ‵ (RawPtr.own_val p (u ∷ []))) ⊛ some
      (λ (ls : Lasts Ends Ever y.0.3). ‵ (lasts Ends Ever y.0.3 ls) ⊛ ‵ (boxed p store)))))
      (id⊢ 𝓤 (k.post y u)) $
      await ! tt $ pick ! (λ p. split ! $ move ! (1 ∷ []) $ pick ! (λ _. split ! $ drop ! $
      in_a_block ! p (λ (at : Ptr). boxed at store)
      (fst∗ 𝓤 (never 𝓤) (sem 𝓛 (freeable (bare (lone Kept.mir)) null_ptr))) (λ at off is.
      move ! (1 ∷ []) $ split ! $ drop ! $ feq_l !
      (λ reported. lands_as ! (ap only reported ∙ ap ptr_val is) refl (tt, tt) $
      sets ! (of_opd ! (get ! refl)) refl (tt, tt) $ sets !
      (agg ! (and_then ! (get ! refl) (no_more !))) refl (tt, (tt, tt)) $
      returns ! (look_at ! 0 refl) $ free_all ! refl $ by ! (placed at off)))))))

  from_any : ent 𝓤 (⋆ 𝓛 ((living ⊛ ‵ (owns (types_at ended.signature.params z.0.0) z.0.3 z.0.4)) ∷
      raw (emp 𝓤) ∷ [])) (Runs (z.0.4.0 ++ []))
  from_any =
      qed 𝓛 ((living ⊛ ‵ (owns (types_at ended.signature.params z.0.0) z.0.3 z.0.4)) ∷ raw (emp 𝓤) ∷
      []) ∵ split ! $ move ! (1 ∷ []) $ fsplit ! $
      box_out E ! z.0.3.0 z.0.4.0 (λ b o h at ws fits. box_in E ! z.0.3.0 b o store at refl $ keep !
      (0 ∷ 1 ∷ 2 ∷ []) $
      by ! (subst (λ (us : List Val). ent 𝓤
      (⋆ 𝓛 (‵ ((box.B E).own_val z.0.3.0 (box.word E h b o ∷ [])) ∷ ‵ ftrue ∷ living ∷ []))
      (Runs (us ++ []))) (sym ws) (from_box b o h fits)))

pub of_spec : {M : Type 1} → statement M
of_spec 𝓤 𝓛 𝓜 𝓡 wired =
    proved_at 𝓛 ended gone (clauses 𝓛 𝓜.mem 𝓡.returns) 𝓜 𝓡
    (Goes-dropped 𝓛 0 (plain (λ _. Given)) yes (λ κs x f. refl), tt) #self
    fn (code.unfolded 𝓤 𝓛.H 𝓜 𝓡 wired) (λ z are. from_any 𝓤 𝓛 𝓜 𝓡 wired z)
