-- The owner that all of a list share.
use Rattle.std.proofs.Common.{◌≡◌, ◌⊎◌, List, [], ◌∷◌, true, refl, ap, sym, inl, inr, Decides}
use Rattle.std.specs.Prelude.{Option, Some, None, map}
use Rattle.std.specs.List.{list_all}
use Rattle.std.proofs.lemmas.Slice.Eq.{bytes_eq-Decides}
use Rattle.std.proofs.lemmas.Bool.{and_parts, and_from, cases_Bool, both_ways}
use Rattle.tsc_time.specs.Time.{Time, is_same_time}
use Rattle.tsc_time.specs.ValueView.{Owner, ValueView, is_same_owner}
use Rattle.tsc_time.specs.Joint.{shared_owner, those_at}
use Rattle.tsc_time.proofs.TimeOrder.{is_same_time-Decides}
use Rattle.tsc_time.proofs.Members.{IsIn}

-- the test of owners decides whether they are the same
pub is_same_owner-Decides : (a b : Option Owner) → Decides (is_same_owner a b) (a ≡ b)
is_same_owner-Decides None None = (λ _. refl, λ _. refl)
is_same_owner-Decides None (Some b) = (λ e. cc, λ e. cc)
is_same_owner-Decides (Some a) None = (λ e. cc, λ e. cc)
is_same_owner-Decides (Some a) (Some b) =
    (λ e. ap Some ((bytes_eq-Decides a b).0 e), λ e. (bytes_eq-Decides a b).1 cc)

all_same : (o : Option Owner) (os : List (Option Owner)) →
    ((p : Option Owner) → IsIn os p → p ≡ o) → list_all (is_same_owner o) os ≡ true
all_same o [] h = refl
all_same o (p ∷ os) h =
    and_from _ _ ((is_same_owner-Decides o p).1 (sym (h p (inl refl))))
    (all_same o os (λ q i. h q (inr i)))

same_as_all : (o : Option Owner) (os : List (Option Owner)) → list_all (is_same_owner o) os ≡ true →
    (p : Option Owner) → IsIn os p → o ≡ p
same_as_all o [] e p i = absurd i
same_as_all o (q ∷ os) e p i =
    let parts = and_parts _ _ e in
    elim i [
      | inl s ↦ let k : o ≡ q = (is_same_owner-Decides o q).0 parts.0 in cc
      | inr j ↦
          same_as_all o os parts.1 p j
    ]

-- where each of a list names the same, that is what they share
pub shared_owner-all : (os : List (Option Owner)) (o p : Option Owner) → IsIn os p →
    ((q : Option Owner) → IsIn os q → q ≡ o) → shared_owner os ≡ o
shared_owner-all [] o p i h = absurd i
shared_owner-all (q ∷ os) o p i h =
    let first : q ≡ o = h q (inl refl) in
    let e : list_all (is_same_owner q) os ≡ true =
    all_same q os (λ r j. let k : r ≡ o = h r (inr j) in cc) in
    rw e first

-- what a list shares is none, or is what each of it names
pub shared_owner-each : (os : List (Option Owner)) (p : Option Owner) → IsIn os p →
    (shared_owner os ≡ None) ⊎ (shared_owner os ≡ p)
shared_owner-each [] p i = absurd i
shared_owner-each (q ∷ os) p i =
    elim (cases_Bool (list_all (is_same_owner q) os)) [
      | inl e ↦ inr (rw e (elim i [ inl s ↦ s | inr j ↦ same_as_all q os e p j ]))
      | inr e ↦ inl
          (rw e)
    ]

-- the owners of those of a list that have this time
abbrev pub owners_at : Time → List ValueView → List (Option Owner)
owners_at t vs = map (λ w. w.owner) (those_at t vs)

-- an owner at this time is among them
pub owners_at-has : (t : Time) (vs : List ValueView) (x : ValueView) → IsIn vs x → x.time ≡ t →
    IsIn (owners_at t vs) x.owner
owners_at-has t [] x i e = absurd i
owners_at-has t (v ∷ vs) x i e =
    elim (cases_Bool (is_same_time v.time t)) [
      | inl s ↦ rw s (elim i [
        | inl k ↦ inl (ap (λ w. w.owner) k)
        | inr j ↦ inr
            (owners_at-has t vs x j e)
      ])
      | inr s ↦ rw s (elim i [
        | inl k ↦ absurd (both_ways _ s ((is_same_time-Decides v.time t).1 cc))
        | inr j ↦ owners_at-has t vs x j e
      ])
    ]

-- and each of them has this time
pub owners_at-from : (t : Time) (vs : List ValueView) (p : Option Owner) → IsIn (owners_at t vs) p →
    (x : ValueView) × (IsIn vs x) × (x.time ≡ t) × (x.owner ≡ p)
owners_at-from t [] p i = absurd i
owners_at-from t (v ∷ vs) p i =
    let more : IsIn (owners_at t vs) p → (x : ValueView) × (IsIn (v ∷ vs) x) × (x.time ≡ t) ×
    (x.owner ≡ p) = λ j. let r = owners_at-from t vs p j in (r.0, inr r.1, r.2, r.3) in
    elim (cases_Bool (is_same_time v.time t)) [
      | inl s ↦ elim (rw s at i) [
        | inl k ↦ (v, inl refl, (is_same_time-Decides v.time t).0 s, k)
        | inr j ↦ more j
      ]
      | inr s ↦ more (rw s at i)
    ]
