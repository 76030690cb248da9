-- What holds of each element of a list, and of each two in their order.
use Rattle.std.proofs.Common.{◌≡◌, subst, refl, ℕ, zero, suc, List, [], ◌∷◌, ◌++◌, length, take, Bool, false, Some, None}
use Rattle.std.specs.Prelude.{slice_get}
use Rattle.std.specs.List.{list_any}

abbrev pub Each : {X : Type 0} → (X → Type 0) → List X → Type 0
Each P [] = Unit {0}
Each P (x ∷ xs) = P x × Each P xs

-- the relation holds of each element and each later one
abbrev pub Ordered : {X : Type 0} → (X → X → Type 0) → List X → Type 0
Ordered R [] = Unit {0}
Ordered R (x ∷ xs) = Each (R x) xs × Ordered R xs

pub each_append : {X : Type 0} (P : X → Type 0) (xs ys : List X) → Each P xs → Each P ys →
    Each P (xs ++ ys)
each_append P [] ys a b = b
each_append P (x ∷ xs) ys a b = (a.0, each_append P xs ys a.1 b)

pub each_weaker : {X : Type 0} (P Q : X → Type 0) → ((x : X) → P x → Q x) → (xs : List X) →
    Each P xs → Each Q xs
each_weaker P Q f [] a = tt
each_weaker P Q f (x ∷ xs) a = (f x a.0, each_weaker P Q f xs a.1)

pub each_both : {X : Type 0} (P Q R : X → Type 0) → ((x : X) → P x → Q x → R x) → (xs : List X) →
    Each P xs → Each Q xs → Each R xs
each_both P Q R f [] a b = tt
each_both P Q R f (x ∷ xs) a b = (f x a.0 b.0, each_both P Q R f xs a.1 b.1)

pub ordered_append : {X : Type 0} (R : X → X → Type 0) (xs ys : List X) → Ordered R xs →
    Ordered R ys → Each (λ x. Each (R x) ys) xs → Ordered R (xs ++ ys)
ordered_append R [] ys a b c = b
ordered_append R (x ∷ xs) ys a b c =
    (each_append (R x) xs ys a.0 c.0, ordered_append R xs ys a.1 b c.1)

pub ordered_both : {X : Type 0} (P : X → Type 0) (R S : X → X → Type 0) →
    ((x y : X) → P x → P y → R x y → S x y) → (xs : List X) → Each P xs → Ordered R xs →
    Ordered S xs
ordered_both P R S f [] a b = tt
ordered_both P R S f (x ∷ xs) a b =
    (each_both P (R x) (S x) (λ y p r. f x y a.0 p r) xs a.1 b.0, ordered_both P R S f xs a.1 b.1)

same_some : {X : Type 0} (x y : X) → Some x ≡ Some y → x ≡ y
same_some x y e = cc

no_some : {X : Type 0} (x : X) → None ≡ Some x → ⊥
no_some x e = cc

pub each_at : {X : Type 0} (P : X → Type 0) (xs : List X) (i : ℕ) (x : X) →
    slice_get xs i ≡ Some x → Each P xs → P x
each_at P [] i x e a = absurd (no_some x e)
each_at P (y ∷ ys) zero x e a = subst P (same_some y x e) a.0
each_at P (y ∷ ys) (suc i) x e a = each_at P ys i x e a.1

-- what stands before an element has the relation to it
pub before_it : {X : Type 0} (R : X → X → Type 0) (xs : List X) (i : ℕ) (x : X) →
    slice_get xs i ≡ Some x → Ordered R xs → Each (λ y. R y x) (take i xs)
before_it R [] i x e a = absurd (no_some x e)
before_it R (y ∷ ys) zero x e a = tt
before_it R (y ∷ ys) (suc i) x e a = (each_at (R y) ys i x e a.0, before_it R ys i x e a.1)

pub none_passes : {X : Type 0} (test : X → Bool) (xs : List X) → Each (λ x. test x ≡ false) xs →
    list_any test xs ≡ false
none_passes test [] a = refl
none_passes test (x ∷ xs) a = rw (a.0, none_passes test xs a.1) refl

-- what stands at a place of one list and then another
pub at_seam : {X : Type 0} (xs ys : List X) (x : X) →
    slice_get ((xs ++ x ∷ []) ++ ys) (length xs) ≡ Some x
at_seam [] ys x = refl
at_seam (y ∷ xs) ys x = at_seam xs ys x
