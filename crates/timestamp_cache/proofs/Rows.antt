-- Lists that a store makes of others, item by item.
use Rattle.std.proofs.Common.{◌≡◌, ◌∙◌, ap, sym, refl, subst, ℕ, zero, suc, ◌+◌, ◌<◌, ◌≤◌, drop, List, [], ◌∷◌, ◌++◌, append_assoc, append-nil, length, slice_index_or, arith}
use Rattle.std.specs.Prelude.{Result, Ok, Err, IfOk}
use Rattle.std.specs.List.{AllZip}

-- what follows for a value holds where there is one
pub if_ok_as : {T E : Type 0} (P Q : T → Type 0) (r : Result T E) → ((t : T) → P t → Q t) →
    IfOk r P → IfOk r Q
if_ok_as P Q (Ok t) fits p = fits t p
if_ok_as P Q (Err e) fits p = tt

pub zip_as : {A B : Type 0} (R S : A → B → Type 0) (xs : List A) (ys : List B) →
    ((x : A) (y : B) → R x y → S x y) → AllZip R xs ys → AllZip S xs ys
zip_as R S [] [] fits r = tt
zip_as R S [] (y ∷ ys) fits r = absurd r
zip_as R S (x ∷ xs) [] fits r = absurd r
zip_as R S (x ∷ xs) (y ∷ ys) fits r = (fits x y r.0, zip_as R S xs ys fits r.1)

pub zip_push : {A B : Type 0} (R : A → B → Type 0) (xs : List A) (ys : List B) (x : A) (y : B) →
    AllZip R xs ys → R x y → AllZip R (xs ++ x ∷ []) (ys ++ y ∷ [])
zip_push R [] [] x y all last = (last, tt)
zip_push R [] (b ∷ ys) x y all last = absurd all
zip_push R (a ∷ xs) [] x y all last = absurd all
zip_push R (a ∷ xs) (b ∷ ys) x y all last = (all.0, zip_push R xs ys x y all.1 last)

-- of some of a list there is what was made of them, and the others are left
pub record IsPartWay {A B : Type 0} (R : A → B → Type 0) (all : List A) (made : List B)
    (left : List A) : Type 0 where
  pub before : List A
  pub parts : all ≡ before ++ left
  pub first : AllZip R before made

pub nothing_made : {A B : Type 0} (R : A → B → Type 0) (all : List A) (made : List B)
    (left : List A) → made ≡ [] → left ≡ all → IsPartWay R all made left
nothing_made {A} {B} R all made left is same =
    record {
      before = [];
      parts = sym same;
      first = subst (λ (ys : List B). AllZip R [] ys) (sym is) tt;
    }

pub one_more_made : {A B : Type 0} (R : A → B → Type 0) (all : List A) (made more : List B)
    (left others : List A) (x : A) (y : B)
    → IsPartWay R all made left → left ≡ x ∷ others → more ≡ made ++ y ∷ [] → R x y →
    IsPartWay R all more others
one_more_made {A} {B} R all made more left others x y way is last own = record {
  before = way.before ++ x ∷ [];
  parts = way.parts ∙ ap (λ (xs : List A). way.before ++ xs) is ∙
      sym (append_assoc way.before (x ∷ []) others);
  first = subst (λ (ys : List B). AllZip R (way.before ++ x ∷ []) ys) (sym last)
      (zip_push R way.before made x y way.first own);
}

pub all_made : {A B : Type 0} (R : A → B → Type 0) (all : List A) (made : List B) (left : List A) →
    IsPartWay R all made left → length left ≡ 0 → AllZip R all made
all_made {A} {B} R all made [] way is =
    subst (λ (xs : List A). AllZip R xs made) (sym (way.parts ∙ append-nil way.before)) way.first
all_made {A} {B} R all made (x ∷ left) way is = absurd (omega (arith, is))

-- what is left at a place is what stands there, and what is left after it
left_behind : {A : Type 0} (xs : List A) (n : ℕ) (d : A) → n < length xs →
    drop n xs ≡ slice_index_or xs n d ∷ drop (suc n) xs
left_behind [] n d below = absurd (omega (arith, below))
left_behind (x ∷ xs) zero d below = refl
left_behind (x ∷ xs) (suc n) d below = left_behind xs n d (omega (arith, below))

pub left_at : {A : Type 0} (xs : List A) (n : ℕ) (d : A) → n < length xs →
    drop n xs ≡ slice_index_or xs n d ∷ drop (n + 1) xs
left_at {A} xs n d below =
    let next : suc n ≡ n + 1 = omega arith in
    subst (λ (k : ℕ). drop n xs ≡ slice_index_or xs n d ∷ drop k xs) next (left_behind xs n d below)

pub none_left : {A : Type 0} (xs : List A) (n : ℕ) → length xs ≤ n → length (drop n xs) ≡ 0
none_left [] zero over = refl
none_left [] (suc n) over = refl
none_left (x ∷ xs) zero over = absurd (omega (arith, over))
none_left (x ∷ xs) (suc n) over = none_left xs n (omega (arith, over))
