-- `store_mut` looks whether the pointer is null: nothing is owned there, and else it lends the
-- store that lies at the pointer.
use Rattle.std.proofs.Common.{◌≡◌, ℕ, List, [], ◌∷◌, refl, lit<}
use mir.Syntax.{Fn, named}
use mir.Raw.{raw as bare}
use mir.Val.{Val, vptr, vcons, vnil}
use base.Logic.{SProp, ent, sep, emp, via, fst∗}
use base.Fml.{Fml, Lft, GName, Share, ftrue, fsep, flft, fobs, fres}
use base.Fraction.{full_share}
use prog.Model.{Model}
use prog.Wp.{Env, WpFn}
use seplogic.Ra.Ura.{Ura}
use contract.Running.{Running, tables}
use types.Logic.{Logic, sem}
use types.Kit.{‵, raw, ◌⊛◌, some, later, given, at_ret, ◌$◌, ◌∵◌, !, qed, by, move, keep, drop, use0, use1, learn, split, join, pick, fsplit, fsplit3, fjoin, fpick, fpack, rewrite, suffices, frame, group, await, done}
use types.Part.{agg, sub, whole, look_in}
use types.Run.{stop, fld, lit, of_opd, bin, addr, load, no_more, and_then, first, blocks, branches, skips, exec, returns, returns_within, enter}
use types.ByLocal.{alloc_all, free_all, look_at, get, through, sets, sets_last, pass_all, env}
use types.Match.{live}
use denote.Exit.{no}
use denote.Follow.{follows, follows_by, Part, lends_Part}
use denote.Memory.{cell_at, part_at, part_of, mem, lone}
use denote.RattleType.{RattleType, owns}
use denote.RawPtr.{Ptr, block_ptr, null_ptr, Testable, tests_null}
use denote.Ref.{MutRef, MutBor, mut_vals, mut_Tells}
use denote.Signature.{plain, mut_ref_to}
use denote.Steps.{nothing, opens, closes}
use denote.Triple.Entry.{on_entry}
use denote.Triple.Walked.{says, Stays, stay_dropped, walk_of, ends_at, Goes-spent_ref}
use Rattle.std.proofs.alloc.Shapes.{after}
use Rattle.std.proofs.option.Made.{Some-of, none_of}
use Rattle.std.proofs.raw_atomic.Walks.{proved}
use Rattle.std.specs.declared.option.Option.{Option}
use Rattle.std.specs.declared.option.Option.TheVariants.{None, Some}
use Rattle.std.specs.contracts.option.Option as option
use Rattle.tsc_c.specs.Owning.{Kept, heap, freeable, boxed}
use Rattle.tsc_c.specs.Lending.{with_store}
use Rattle.tsc_c.proofs.PtrValues.{Row, word, tested, ptr_in, ptr_out, ptr_full}
use Rattle.tsc_c.specs.contracts.store_ptr.StorePtr.store_mut.{ended, clauses}
use Rattle.tsc_c.specs.contracts.store_ptr.StorePtr.store_mut.Key.{name as #self}
use Rattle.tsc_c.proofs.store_ptr.StorePtr.store_mut.Statement.{statement}
use Rattle.tsc_c.proofs.store_ptr.StorePtr.store_mut.Code as code

abbrev stayed : Stays ended.signature.params ended.kept
stayed = (stay_dropped (mut_ref_to (0 ∷ []) tt (plain (λ _. Row))) no, tt)

abbrev fn : Fn
fn = code.function

module _ {M : Type 1} (𝓤 : Ura M) (𝓛 : Logic 𝓤) (𝓜 : Model 𝓤 𝓛.H) (𝓡 : Running 𝓤 𝓛.H 𝓜) (κ : Lft)
    (q : Share) (rb ro : ℕ) (γ : GName) where
  open 𝓛 use {H, A}

  abbrev 𝓣 : contract.Running.MachineTables 𝓤 H 𝓜
  𝓣 = tables 𝓤 H 𝓜 𝓡 𝓡.env

  abbrev Lent : RattleType
  Lent = MutRef (named 0) κ Kept

  module _ (p : Ptr) (c : Option Kept.Denot) where
    abbrev held : Row.Denot
    held = record { at = p; owned = c }

    abbrev self : MutBor Row.Denot
    self = record { ref_ptr = (rb, ro); ghost_name = γ; now = held }

    abbrev bound : (walk_of 𝓛 ended stayed (clauses 𝓛 𝓜.mem 𝓡.returns)).Ghost
    bound = (((κ, tt), (q, tt), tt, (self, tt), (vptr rb ro ∷ [], tt)), tt)

    abbrev Post : Val → SProp 𝓤
    Post = (walk_of 𝓛 ended stayed (clauses 𝓛 𝓜.mem 𝓡.returns)).post bound

    abbrev Entry : SProp 𝓤
    Entry = on_entry 𝓛 ended.signature (κ, tt) (q, tt) (self, tt) (vptr rb ro ∷ [], tt)

    abbrev Runs : SProp 𝓤
    Runs = WpFn 𝓤 H 𝓣.C 𝓣.Λ fn (vptr rb ro ∷ []) Post

  -- nothing is lent at null
  none_leaves : (c : Option Kept.Denot) → c ≡ None →
      ent 𝓤 (sep 𝓤 (A.obs γ (Row.coded.code (held null_ptr c))) (A.lft κ q))
      (Post null_ptr c (live 0 vnil))
  unfolding follows_by
  none_leaves c none =
      let h = held null_ptr c in
      qed 𝓛 (‵ (fobs γ (Row.coded.code h)) ∷ ‵ (flft κ q) ∷ []) ∵ use1 𝓛
      (‵ (fres γ (Row.coded.code h))) (𝓛.names.obs-res γ (Row.coded.code h)) $ move ! (1 ∷ []) $
      use0 𝓛 (‵ ((option.the_row Lent).own_val None (live 0 vnil ∷ []))) (none_of 𝓛 Lent) $
      suffices ! _ (ends_at 𝓛 ended stayed (clauses 𝓛 𝓜.mem 𝓡.returns) (bound null_ptr c)
      (live 0 vnil) None (tt, tt) (tt, tt)) $
      nothing ! $ nothing ! $ fjoin ! $ join ! $ nothing ! $ move ! (2 ∷ 0 ∷ []) $ join ! $ join ! $
      frame ! $ says ! none $ done !

  module _ (b o : ℕ) (c : Option Kept.Denot) (x : Kept.Denot) where
    abbrev h : Row.Denot
    h = held (block_ptr b o) c

    -- all of the pointer but its store
    abbrev Rest : Fml
    Rest = fsep (freeable (bare (lone Kept.mir)) (block_ptr b o))
        (cell_at full_share Row.mir (word (block_ptr b o) ∷ []) rb ro)

    back : (w : Kept.Denot) → ent 𝓤 (sep 𝓤 (sem 𝓛 ((mem Kept).own_at w b o)) (sem 𝓛 Rest))
        (sem 𝓛 ((mem Row).own_at (with_store h w) rb ro))
    unfolding part_of
    back w =
        qed 𝓛 (‵ (part_at Kept full_share w b o) ∷ ‵ Rest ∷ []) ∵ move ! (1 ∷ []) $ fsplit ! $ move
        ! (2 ∷ 0 ∷ []) $ fjoin ! $ ptr_full ! b o w $ move ! (1 ∷ 0 ∷ []) $ fjoin ! $
        fpack ! (List Val) (λ us. fsep (cell_at full_share Row.mir us rb ro)
        (Row.own_val (with_store h w) us)) (word (block_ptr b o) ∷ []) $ done !

    -- the store is lent
    some_leaves : c ≡ Some x → (γ' : GName) →
        ent 𝓤 (Part 𝓛 Row Kept (with_store h) (named 0) κ q rb ro b o γ (sem 𝓛 Rest) back x γ')
        (Post (block_ptr b o) c (live 1 (vcons (vptr b o) vnil)))
    unfolding follows_by
    some_leaves some_x γ' =
        let r : MutBor Kept.Denot = record { ref_ptr = (b, o); ghost_name = γ'; now = x } in
        qed 𝓛 (‵ (Lent.own_val r (vptr b o ∷ [])) ∷ ‵ (flft κ q) ∷
        ‵ (follows Row Kept γ γ' (with_store h)) ∷ []) ∵
        use1 𝓛 (‵ ((option.the_row Lent).own_val (Some r) (live 1 (vcons (vptr b o) vnil) ∷ [])))
        (Some-of 𝓛 Lent r (vptr b o)) $
        suffices ! _ (ends_at 𝓛 ended stayed (clauses 𝓛 𝓜.mem 𝓡.returns) (bound (block_ptr b o) c)
        (live 1 (vcons (vptr b o) vnil)) (Some r) (tt, tt) (tt, tt)) $
        nothing ! $ nothing ! $ fjoin ! $ join ! $ nothing ! $ move ! (2 ∷ 0 ∷ []) $ join ! $ join !
        $ frame ! $ says ! some_x $ done !

  -- the reference is opened, and the pointer is looked at
  walk : (p : Ptr) (c : Option Kept.Denot) → ent 𝓤 (Entry p c) (Runs p c)
  walk null_ptr c =
      qed 𝓛 ((‵ (flft κ q) ⊛ ‵ ftrue) ∷
      ‵ (owns (MutRef (named 0) κ Row ∷ []) (self null_ptr c, tt) (vptr rb ro ∷ [], tt)) ∷ []) ∵
      enter ! 𝓣.C 𝓣.Λ fn (vptr rb ro ∷ []) (Post null_ptr c) $ alloc_all !
      (λ l. pass_all ! refl ((tt, tt), tt) $
      move ! (1 ∷ []) $ fsplit ! $ fsplit3 ! $ drop ! $ move ! (3 ∷ []) $ split ! $ move !
      (2 ∷ 3 ∷ 0 ∷ []) $
      opens ! tt Row {h = held null_ptr c} rb ro
      (λ vs. move ! (1 ∷ []) $ ptr_out ! (held null_ptr c) vs (λ ws. fpick ! (λ none. drop ! $
      rewrite ! 0 (λ (us : List Val). ‵ (cell_at full_share Row.mir us rb ro)) ws refl $
      sets ! (of_opd ! (load ! (through ! refl (fld ! refl (stop !)))
      (look_in ! 0 (sub ! 0 refl (whole !))))) refl (tt, record { fits = lit< tt }) $
      sets ! (of_opd ! (get ! refl)) refl (tt, record { fits = lit< tt }) $
      sets ! (bin ! (get ! refl) (lit ! tt) tt) refl (tt, tt) $ first ! $ branches ! (get ! refl)
      (λ _. sets ! (agg ! (and_then ! (lit ! tt) (no_more !))) refl
      (tt, (record { fits = lit< tt }, tt)) $
      nothing ! $ fpack ! (c ≡ None) (λ _. ftrue) none $ ptr_in ! null_ptr c $ move ! (1 ∷ 0 ∷ []) $
      closes ! tt Row (held null_ptr c) (word null_ptr ∷ []) rb ro $
      returns_within ! (Post null_ptr c) refl (look_at ! 0 refl) $ free_all ! refl $ keep !
      (0 ∷ 2 ∷ []) $ by ! (none_leaves c none))
      (λ wrong. absurd wrong)))))
  walk (block_ptr b o) c =
      let p = block_ptr b o in
      qed 𝓛 ((‵ (flft κ q) ⊛ ‵ ftrue) ∷
      ‵ (owns (MutRef (named 0) κ Row ∷ []) (self p c, tt) (vptr rb ro ∷ [], tt)) ∷ []) ∵
      enter ! 𝓣.C 𝓣.Λ fn (vptr rb ro ∷ []) (Post p c) $ alloc_all !
      (λ l. pass_all ! refl ((tt, tt), tt) $ let En : Env 𝓤 H = env fn.locals l in
      move ! (1 ∷ []) $ fsplit ! $ fsplit3 ! $ drop ! $ move ! (3 ∷ []) $ split ! $ move !
      (2 ∷ 3 ∷ 0 ∷ []) $
      opens ! tt Row {h = held p c} rb ro
      (λ vs. move ! (1 ∷ []) $ ptr_out ! (held p c) vs
      (λ ws. fpick ! (λ x. fsplit ! $ fpick ! (λ some_x. drop ! $
      use1 𝓛 (given (Testable p) (‵ (boxed p x))) (tested 𝓛 heap p x) $ learn ! (λ t. fsplit ! $
      rewrite ! 2 (λ (us : List Val). ‵ (cell_at full_share Row.mir us rb ro)) ws refl $
      sets ! (of_opd ! (load ! (through ! refl (fld ! refl (stop !)))
      (look_in ! 2 (sub ! 0 refl (whole !))))) refl (tt, tt) $
      sets ! (of_opd ! (get ! refl)) refl (tt, tt) $
      sets ! (bin ! (get ! refl) (lit ! tt) (tests_null p t)) refl (tt, tt) $ first ! $ branches !
      (get ! refl) (λ wrong. absurd wrong) (λ _. skips ! $
      exec ! 𝓣.C 𝓣.Λ En (after 4 fn.body) (at_ret En (Post p c)) $ first ! $ blocks ! $
      sets ! (of_opd ! (get ! refl)) refl (tt, tt) $ sets ! (of_opd ! (get ! refl)) refl (tt, tt) $
      sets_last ! (addr ! (through ! refl (stop !))) refl (tt, tt) $
      exec ! 𝓣.C 𝓣.Λ En (after 5 fn.body) (at_ret En (Post p c)) $ sets ! (of_opd ! (get ! refl))
      refl (tt, tt) $
      sets ! (agg ! (and_then ! (lit ! tt) (and_then ! (get ! refl) (no_more !)))) refl
      (tt, (record { fits = lit< tt }, (tt, tt))) $
      move ! (1 ∷ 2 ∷ []) $ fjoin ! $ move ! (2 ∷ 3 ∷ 4 ∷ 1 ∷ 0 ∷ []) $ group ! 5 $
      use1 𝓛 (later (some (λ (γ' : GName). raw
      (Part 𝓛 Row Kept (with_store (held p c)) (named 0) κ q rb ro b o γ (sem 𝓛 (Rest b o c x))
      (back b o c x) x γ'))))
      (lends_Part 𝓛 Row Kept (with_store (held p c)) (named 0) κ q rb ro b o γ
      (sem 𝓛 (Rest b o c x)) (back b o c x) (Row.coded.code (held p c))
      (Row.coded.code (held p c)) x) $ await ! tt $ pick ! (λ γ'.
      returns ! (look_at ! 0 refl) $ free_all ! refl $ keep ! (0 ∷ []) $ by !
      (some_leaves b o c x some_x γ')))))))))

pub store_mut_spec : {M : Type 1} → statement M
store_mut_spec 𝓤 𝓛 𝓜 𝓡 wired =
    proved 𝓛 ended stayed (clauses 𝓛 𝓜.mem 𝓡.returns) 𝓜 𝓡
    (Goes-spent_ref 𝓛 1 (0 ∷ []) tt (plain (λ _. Row)), tt)
    #self fn (code.unfolded 𝓤 𝓛.H 𝓜 𝓡 wired) (λ κs. (mut_vals, tt))
    (λ κs. (mut_Tells (named 0) κs.0 Row, tt)) (λ κs qs bounds a g are.
    via 𝓤 _ (fst∗ 𝓤 _ (emp 𝓤)) (walk 𝓤 𝓛 𝓜 𝓡 κs.0 qs.0 a.0.ref_ptr.0 a.0.ref_ptr.1 a.0.ghost_name
    a.0.now.at a.0.now.owned))
