-- The joint value of a list is the least that each of it is at most.
use Rattle.std.proofs.Common.{◌≡◌, ◌⊎◌, List, [], ◌∷◌, ◌++◌, true, false, refl, inl, inr, sym, subst, ◌∙◌, arith}
use Rattle.std.specs.Prelude.{Option, Some, None}
use Rattle.std.specs.List.{Contains}
use Rattle.std.proofs.lemmas.List.Elements.{Contains-append_cases, Contains-append_left, Contains-append_right}
use Rattle.std.proofs.lemmas.Bool.{cases_Bool}
use Rattle.tsc_time.specs.Time.{Time, is_before}
use Rattle.tsc_time.specs.ValueView.{Owner, ValueView}
use Rattle.tsc_time.specs.Joint.{IsAtMost, joint, latest}
use Rattle.tsc_time.specs.Laws.{SameJoint}
use Rattle.tsc_time.proofs.TimeOrder.{is_before-itself, later-reports, is_before-opposite, no_earlier-transitive, same_from_neither_before}
use Rattle.tsc_time.proofs.Members.{IsIn, IsIn-from_Contains, Contains-from_IsIn}
use Rattle.tsc_time.proofs.SharedOwner.{owners_at, owners_at-has, owners_at-from, shared_owner-each, shared_owner-all}
use Rattle.tsc_time.proofs.RatchetOrder.{IsAtMost-itself, IsAtMost-antisymmetric, IsAtMost-transitive}

-- the greatest time is no earlier than the one that it starts from
pub latest-start : (t : Time) (vs : List ValueView) → is_before (latest t vs) t ≡ false
latest-start t [] = is_before-itself t
latest-start t (v ∷ vs) =
    let more = latest-start t vs in
    elim (later-reports v.time (latest t vs)) [
      | inl s ↦ rw s.1 more
      | inr s ↦ rw s.1
          (no_earlier-transitive t (latest t vs) v.time more s.0)
    ]

-- and no earlier than any of the list
pub latest-each : (t : Time) (vs : List ValueView) (x : ValueView) → IsIn vs x →
    is_before (latest t vs) x.time ≡ false
latest-each t [] x i = absurd i
latest-each t (v ∷ vs) x (inl e) =
    elim (later-reports v.time (latest t vs)) [
      | inl s ↦ rw (s.1, ← e) (is_before-opposite v.time (latest t vs) s.0)
      | inr s ↦
          rw (s.1, ← e) (is_before-itself v.time)
    ]
latest-each t (v ∷ vs) x (inr i) =
    let more = latest-each t vs x i in
    elim (later-reports v.time (latest t vs)) [
      | inl s ↦ rw s.1 more
      | inr s ↦ rw s.1
          (no_earlier-transitive x.time (latest t vs) v.time more s.0)
    ]

-- it is one of them
pub latest-reached : (t : Time) (vs : List ValueView) →
    (latest t vs ≡ t) ⊎ ((x : ValueView) × (IsIn vs x) × (x.time ≡ latest t vs))
latest-reached t [] = inl refl
latest-reached t (v ∷ vs) =
    elim (later-reports v.time (latest t vs)) [
      | inl s ↦ rw s.1 (elim (latest-reached t vs)
          [ inl e ↦ inl e | inr r ↦ inr (r.0, inr r.1, r.2) ])
      | inr s ↦ rw s.1 (inr (v, inl refl, refl))
    ]

at_most-joint : (v : ValueView) (vs : List ValueView) (x : ValueView) → IsIn (v ∷ vs) x →
    IsAtMost x (joint v vs)
at_most-joint v vs x i =
    let t : Time = latest v.time vs in
    let below : is_before t x.time ≡ false =
    elim i [ inl e ↦ rw (← e) (latest-start v.time vs) | inr j ↦ latest-each v.time vs x j ] in
    elim (cases_Bool (is_before x.time t)) [
      | inl s ↦ inl s
      | inr s ↦ let e : x.time ≡ t = same_from_neither_before x.time t s below in
          inr (e, shared_owner-each (owners_at t (v ∷ vs)) x.owner (owners_at-has t (v ∷ vs) x i e))
    ]

-- each of a list is at most its joint value
pub joint-above : (v : ValueView) (vs : List ValueView) (x : ValueView) → Contains (v ∷ vs) x →
    IsAtMost x (joint v vs)
joint-above v vs x i = at_most-joint v vs x (IsIn-from_Contains (v ∷ vs) x i)

-- one of a list has the time of its joint value
joint-reached : (v : ValueView) (vs : List ValueView) → (x : ValueView) × (IsIn (v ∷ vs) x) ×
    (x.time ≡ latest v.time vs)
joint-reached v vs =
    elim (latest-reached v.time vs) [ inl e ↦ (v, inl refl, sym e) | inr r ↦ (r.0, inr r.1, r.2) ]

owner_cases : (o : Option Owner) → (o ≡ None) ⊎ ((a : Owner) × (o ≡ Some a))
owner_cases None = inl refl
owner_cases (Some a) = inr (a, refl)

-- at one time only a value of the same owner is at most an owned one
owner_below : (a : Owner) (x u : ValueView) → u.owner ≡ Some a → x.time ≡ u.time → IsAtMost x u →
    x.owner ≡ u.owner
owner_below a x u o e p = grind (arith, is_before-itself)

-- what each of a list is at most, its joint value is at most
pub joint-least : (v : ValueView) (vs : List ValueView) (u : ValueView) →
    ((x : ValueView) → Contains (v ∷ vs) x → IsAtMost x u) → IsAtMost (joint v vs) u
joint-least v vs u h =
    let t : Time = latest v.time vs in
    let below : (x : ValueView) → IsIn (v ∷ vs) x → IsAtMost x u =
    λ x i. h x (Contains-from_IsIn (v ∷ vs) x i) in
    let r = joint-reached v vs in
    elim (below r.0 r.1) [
      | inl s ↦ inl (subst (λ (w : Time). is_before w u.time ≡ true) r.2 s)
      | inr s ↦
          let e : t ≡ u.time = sym r.2 ∙ s.0 in
          inr (
            e,
            elim (owner_cases u.owner) [
              | inl n ↦ inl n
              | inr a ↦
                  inr (sym (shared_owner-all (owners_at t (v ∷ vs)) u.owner r.0.owner
                  (owners_at-has t (v ∷ vs) r.0 r.1 r.2)
                  (λ q j. let f = owners_at-from t (v ∷ vs) q j in sym f.3 ∙
                  owner_below a.0 f.0 u a.1 (f.2 ∙ e) (below f.0 f.1))))
            ],
          )
    ]

-- lists of the same values have one joint value
pub joint-of_a_set : SameJoint
joint-of_a_set v w vs ws h =
    IsAtMost-antisymmetric _ _
    (joint-least v vs (joint w ws) (λ x i. joint-above w ws x ((h x).0 i)))
    (joint-least w ws (joint v vs) (λ x i. joint-above v vs x ((h x).1 i)))

-- a value alone is its own joint value
pub joint-singleton : (v : ValueView) → joint v [] ≡ v
joint-singleton v =
    IsAtMost-antisymmetric (joint v []) v
    (joint-least v [] v (λ x i. elim (IsIn-from_Contains (v ∷ []) x i)
    [ inl e ↦ rw e (IsAtMost-itself x) | inr j ↦ absurd j ]))
    (joint-above v [] v (Contains-from_IsIn (v ∷ []) v (inl refl)))

-- one more at the end acts on the joint value of those before it
pub joint-append : (v : ValueView) (vs : List ValueView) (w : ValueView) →
    joint v (vs ++ w ∷ []) ≡ joint (joint v vs) (w ∷ [])
joint-append v vs w =
    let whole : ValueView = joint v (vs ++ w ∷ []) in
    let front : ValueView = joint v vs in
    IsAtMost-antisymmetric whole (joint front (w ∷ []))
    (joint-least v (vs ++ w ∷ []) (joint front (w ∷ []))
    (λ x i.
    elim (Contains-append_cases (v ∷ vs) (w ∷ []) x i) [
      | inl j ↦ IsAtMost-transitive x front (joint front (w ∷ [])) (joint-above v vs x j)
          (at_most-joint front (w ∷ []) front (inl refl))
      | inr j ↦ at_most-joint front (w ∷ []) x (inr (IsIn-from_Contains (w ∷ []) x j))
    ]))
    (joint-least front (w ∷ []) whole
    (λ x i.
    elim (IsIn-from_Contains (front ∷ w ∷ []) x i) [
      | inl e ↦ rw (← e) (joint-least v vs whole
          (λ y j. joint-above v (vs ++ w ∷ []) y (Contains-append_left (v ∷ vs) (w ∷ []) y j)))
      | inr j ↦ joint-above v (vs ++ w ∷ []) x
          (Contains-append_right (v ∷ vs) (w ∷ []) x (Contains-from_IsIn (w ∷ []) x j))
    ]))
