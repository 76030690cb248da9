-- Lists that lie in chunks of 256, of which the last one alone may have fewer.
use Rattle.std.proofs.Common.{◌≡◌, ◌⊎◌, inl, inr, ◌∙◌, refl, sym, ap, subst, ℕ, zero, suc, ◌+◌, ◌-◌, ◌*◌, ◌/◌, ◌%◌, ◌<◌, ◌≤◌, min, List, [], ◌∷◌, ◌++◌, map, take, drop, length, get_or, append-nil, arith}
use Rattle.std.specs.Prelude.{Bool, true, false, nat_lt, Result, Ok, Err, OnErr}
use Rattle.std.proofs.Math.ListN.{set}
use Rattle.std.specs.List.{AllZip}
use Rattle.std.proofs.lemmas.List.{length-append, length-take, length-take-le, take_all, take-append-le, get_or_append_left, get_or-append_right}
use Rattle.std.proofs.lemmas.Bool.Decides.{nat_tests}
use Rattle.std.proofs.Math.Seq.{take-append-add}
use Rattle.tsc_chunks.specs.Chunks.{joined, AreFull, IsCutTo}

-- clones that are seen as what they were made of
pub clones_same : {A B C : Type 0} (view : A → B) (f : B → C) (xs ys : List A) →
    AllZip (λ x y. view y ≡ view x) xs ys → map (λ x. f (view x)) ys ≡ map (λ x. f (view x)) xs
clones_same view f [] [] zip = refl
clones_same view f [] (y ∷ ys) zip = absurd zip
clones_same view f (x ∷ xs) [] zip = absurd zip
clones_same view f (x ∷ xs) (y ∷ ys) zip = ap (λ v. f v ∷ map (λ x. f (view x)) ys) zip.0 ∙
    ap (λ vs. f (view x) ∷ vs) (clones_same view f xs ys zip.1)

-- what holds where a call was refused, where it did not succeed
pub unless_ok : {T E : Type 0} (r : Result T E) (P : Type 0) → ((x : T) → r ≡ Ok x → ⊥) →
    OnErr r P → P
unless_ok (Ok x) P not p = absurd (not x refl)
unless_ok (Err e) P not p = p

-- what stays as it was stays so at a refusal
pub stays_at_err : {A B E : Type 0} (r : Result A E) {new old : B} → new ≡ old →
    OnErr r (new ≡ old)
stays_at_err (Ok x) same = tt
stays_at_err (Err e) same = same

-- the rest of full chunks
pub full_rest : {A : Type 0} (xs : List A) (xss : List (List A)) → AreFull (xs ∷ xss) → AreFull xss
full_rest xs [] full = tt
full_rest xs (ys ∷ yss) full = full.1

-- a chunk has at most 256 members
pub full_first : {A : Type 0} (xs : List A) (xss : List (List A)) → AreFull (xs ∷ xss) →
    length xs ≤ 256
full_first xs [] full = full
full_first xs (ys ∷ yss) full = let e = full.0 in omega arith

-- and just so many where others follow
pub full_before : {A : Type 0} (xs : List A) (xss : List (List A)) → AreFull (xs ∷ xss) →
    0 < length xss → length xs ≡ 256
full_before xs [] full some = absurd (none some)
  where
    none : 0 < 0 → ⊥
    none h = omega arith
full_before xs (ys ∷ yss) full some = full.0

-- one more chunk before others
pub full_more : {A : Type 0} (xs : List A) (xss : List (List A)) → length xs ≡ 256 → AreFull xss →
    AreFull (xs ∷ xss)
full_more xs [] long full = omega arith
full_more xs (ys ∷ yss) long full = (long, full)

-- how many members chunks have at the most
pub joined_most : {A : Type 0} (xss : List (List A)) → AreFull xss →
    length (joined xss) ≤ 256 * length xss
joined_most [] full = omega arith
joined_most (xs ∷ xss) full =
    let all = length-append xs (joined xss) in
    let first = full_first xs xss full in
    let others = joined_most xss (full_rest xs xss full) in
    omega arith

-- where a member of chunks stands
pub record StandsIn {A : Type 0} (xss : List (List A)) (at : ℕ) : Type 0 where
  pub chunk : at / 256 < length xss
  pub within : (e : List A) → at % 256 < length (get_or xss (at / 256) e)
  pub is : (e : List A) (d : A) → get_or (joined xss) at d ≡ get_or (get_or xss (at / 256) e)
      (at % 256) d

-- in the first chunk
stands_here : {A : Type 0} (xs : List A) (xss : List (List A)) (at : ℕ) → length xs ≤ 256 →
    at < length xs → StandsIn (xs ∷ xss) at
stands_here xs xss at most here =
    let zero : at / 256 ≡ 0 = omega arith in
    let same : at % 256 ≡ at = omega arith in
    record {
      chunk = omega arith;
      within = λ e. rw (zero, same) here;
      is = λ e d. get_or_append_left xs (joined xss) d at here ∙
          sym (ap (λ n. get_or (get_or (xs ∷ xss) n e) (at % 256) d) zero ∙
          ap (λ n. get_or xs n d) same);
    }

-- in one of the others
stands_further : {A : Type 0} (xs : List A) (xss : List (List A)) (at : ℕ) → length xs ≡ 256 →
    256 ≤ at → StandsIn xss (at - 256) → StandsIn (xs ∷ xss) at
stands_further xs xss at long further rest =
    let chunk : at / 256 ≡ suc ((at - 256) / 256) = omega arith in
    let same : at % 256 ≡ (at - 256) % 256 = omega arith in
    let in_rest = rest.chunk in
    record {
      chunk = omega arith;
      within = λ e. rw (chunk, same) (rest.within e);
      is = λ e d. get_or-append_right xs (joined xss) 256 at d long further ∙ rest.is e d
          ∙ sym (ap (λ n. get_or (get_or (xs ∷ xss) n e) (at % 256) d) chunk ∙
          ap (λ n. get_or (get_or xss ((at - 256) / 256) e) n d) same);
    }

-- chunks with members are not none
some_chunk : {A : Type 0} (xss : List (List A)) → 0 < length (joined xss) → 0 < length xss
some_chunk [] some = omega arith
some_chunk (xs ∷ xss) some = omega arith

-- what is not in the first chunk of several stands in the rest
further_in : {A : Type 0} (xs : List A) (xss : List (List A)) (at : ℕ) → AreFull (xs ∷ xss) →
    at < length (joined (xs ∷ xss)) → length xs ≤ at
    → (length xs ≡ 256) × (256 ≤ at) × (at - 256 < length (joined xss))
further_in xs xss at full below further =
    let all = length-append xs (joined xss) in
    let long = full_before xs xss full (some_chunk xss (omega arith)) in
    (long, omega arith, omega arith)

-- a position before a number, or not
parted : (at n : ℕ) → (at < n) ⊎ (n ≤ at)
parted at n = by_test (nat_lt at n) refl
  where
    by_test : (b : Bool) → nat_lt at n ≡ b → (at < n) ⊎ (n ≤ at)
    by_test true e = inl (grind (arith, nat_tests))
    by_test false e = inr (grind (arith, nat_tests))

pub stands_in : {A : Type 0} (xss : List (List A)) (at : ℕ) → AreFull xss →
    at < length (joined xss) → StandsIn xss at
stands_in [] at full below = absurd (omega (arith, below))
stands_in (xs ∷ xss) at full below = elim (parted at (length xs)) [
  | inl here ↦ stands_here xs xss at (full_first xs xss full) here
  | inr further ↦ let within = further_in xs xss at full below further in
      stands_further xs xss at within.0 within.1
      (stands_in xss (at - 256) (full_rest xs xss full) within.2)
]

-- the first of chunks are full too
pub full_taken : {A : Type 0} (n : ℕ) (xss : List (List A)) → AreFull xss → AreFull (take n xss)
full_taken zero xss full = tt
full_taken (suc n) [] full = tt
full_taken (suc zero) (xs ∷ xss) full = full_first xs xss full
full_taken (suc (suc n)) (xs ∷ []) full = full
full_taken (suc (suc n)) (xs ∷ ys ∷ yss) full = (full.0, full_taken (suc n) (ys ∷ yss) full.1)

-- nothing is taken of nothing
taken_nil : {A : Type 0} (n : ℕ) → take {A = A} n [] ≡ []
taken_nil zero = refl
taken_nil (suc n) = refl

-- what the first of chunks hold
pub joined_taken : {A : Type 0} (n : ℕ) (xss : List (List A)) → AreFull xss →
    joined (take n xss) ≡ take (256 * n) (joined xss)
joined_taken zero xss full = refl
joined_taken (suc n) [] full = sym (taken_nil (256 * suc n))
joined_taken (suc n) (xs ∷ []) full =
    let e = ap length (append-nil xs) in
    ap (λ yss. xs ++ joined yss) (taken_nil n) ∙
    sym (take_all (256 * suc n) (xs ++ []) (omega arith))
joined_taken (suc n) (xs ∷ ys ∷ yss) full =
    ap (λ zs. xs ++ zs) (joined_taken n (ys ∷ yss) full.1) ∙
    sym (take-append-add xs (joined (ys ∷ yss)) (256 * n))
    ∙ ap (λ k. take k (xs ++ joined (ys ∷ yss))) (let e = full.0 in omega arith)

-- taking twice
take_twice : {A : Type 0} (k n : ℕ) (xs : List A) → k ≤ n → take k (take n xs) ≡ take k xs
take_twice zero n xs below = refl
take_twice (suc k) zero xs below = absurd (omega (arith, below))
take_twice (suc k) (suc n) [] below = refl
take_twice (suc k) (suc n) (x ∷ xs) below =
    ap (λ ys. x ∷ ys) (take_twice k n xs (omega (arith, below)))

-- where the first of them alone are left
pub cut_chunks : {A : Type 0} (k n : ℕ) (xss : List (List A)) → AreFull xss →
    k ≤ length (joined xss) → k ≤ 256 * n → IsCutTo k xss (take n xss)
cut_chunks k n xss full within below =
    let left = joined_taken n xss full in
    let long : length (joined (take n xss)) ≡ min (256 * n) (length (joined xss)) = ap length left ∙
    length-take (256 * n) (joined xss) in
    record {
      full = full_taken n xss full;
      within = omega arith;
      same = ap (take k) left ∙ take_twice k (256 * n) (joined xss) below;
    }

-- the last chunk, or the first members of it
taken_either : {A : Type 0} (r : ℕ) (xs ys : List A) → r ≤ length xs →
    (ys ≡ xs) ⊎ (ys ≡ take r xs) → (length ys ≤ length xs) × (r ≤ length ys) ×
    (take r ys ≡ take r xs)
taken_either r xs ys within (inl same) = rw same (omega arith, within, refl)
taken_either r xs ys within (inr cut) =
    let long : length ys ≡ min r (length xs) = ap length cut ∙ length-take r xs in
    (omega arith, omega arith, ap (take r) cut ∙ take_twice r r xs (omega arith))

-- where the last one is cut
pub cut_last : {A : Type 0} (w r : ℕ) (xss : List (List A)) (ys e : List A) → AreFull xss →
    length xss ≡ suc w → r ≤ length (get_or xss w e)
    → (ys ≡ get_or xss w e) ⊎ (ys ≡ take r (get_or xss w e)) →
    IsCutTo (256 * w + r) xss (set xss w ys)
cut_last w r [] ys e full long within is = absurd (omega (arith, long))
cut_last zero r (xs ∷ []) ys e full long within is =
    let reported = taken_either r xs ys within is in
    let left = reported.1 in
    let shorter = reported.0 in
    let all = ap length (append-nil ys) in
    let at : 256 * 0 + r ≡ r = omega arith in
    record {
      full = omega arith;
      within = omega arith;
      same = ap (λ k. take k (ys ++ [])) at ∙ take-append-le r ys [] left ∙ reported.2 ∙
          sym (ap (λ k. take k (xs ++ [])) at ∙ take-append-le r xs [] within);
    }
cut_last zero r (xs ∷ zs ∷ zss) ys e full long within is = absurd (omega (arith, long))
cut_last (suc w) r (xs ∷ []) ys e full long within is = absurd (omega (arith, long))
cut_last (suc w) r (xs ∷ zs ∷ zss) ys e full long within is =
    let rest = cut_last w r (zs ∷ zss) ys e full.1 (omega (arith, long)) within is in
    let first = full.0 in
    let new = set (zs ∷ zss) w ys in
    let all = length-append xs (joined new) in
    let more = rest.within in
    let k : 256 * suc w + r ≡ length xs + (256 * w + r) = omega arith in
    record {
      full = full_more xs new first rest.full;
      within = omega arith;
      same = ap (λ n. take n (xs ++ joined new)) k ∙ take-append-add xs (joined new) (256 * w + r) ∙
          ap (λ zs. xs ++ zs) rest.same
          ∙ sym (ap (λ n. take n (xs ++ joined (zs ∷ zss))) k ∙
          take-append-add xs (joined (zs ∷ zss)) (256 * w + r));
    }

-- one cut after another
pub cut_twice : {A : Type 0} (k : ℕ) (xss yss zss : List (List A)) → IsCutTo k xss yss →
    IsCutTo k yss zss → IsCutTo k xss zss
cut_twice k xss yss zss first second =
    record { full = second.full; within = second.within; same = second.same ∙ first.same }

-- how many chunks there are where some behind them are cut off
pub chunks_left : {A : Type 0} (k : ℕ) (xss : List (List A)) → AreFull xss →
    k ≤ length (joined xss) → k ≤ 256 * length xss
chunks_left k xss full within = let most = joined_most xss full in omega arith

-- how long the last chunk is
pub last_within : {A : Type 0} (w r : ℕ) (xss : List (List A)) (e : List A) → AreFull xss →
    length xss ≡ suc w → 256 * w + r ≤ length (joined xss) → r ≤ length (get_or xss w e)
last_within w r [] e full long within = absurd (omega (arith, long))
last_within zero r (xs ∷ []) e full long within = let all = ap length (append-nil xs) in omega arith
last_within zero r (xs ∷ ys ∷ yss) e full long within = absurd (omega (arith, long))
last_within (suc w) r (xs ∷ []) e full long within = absurd (omega (arith, long))
last_within (suc w) r (xs ∷ ys ∷ yss) e full long within =
    let first = full.0 in
    let all = length-append xs (joined (ys ∷ yss)) in
    last_within w r (ys ∷ yss) e full.1 (omega (arith, long)) (omega arith)

-- where the last chunk that is left is cut too
pub cut_whole : {A : Type 0} (k n : ℕ) (xss : List (List A)) (ys e : List A) → AreFull xss →
    k ≤ length (joined xss) → n ≡ k / 256 + min 1 (k % 256)
    → k / 256 < length (take n xss) →
    (ys ≡ get_or (take n xss) (k / 256) e) ⊎
    (ys ≡ take (k % 256) (get_or (take n xss) (k / 256) e))
    → IsCutTo k xss (set (take n xss) (k / 256) ys)
cut_whole k n xss ys e full within is some reported =
    let first = cut_chunks k n xss full within (omega arith) in
    let most = length-take n xss in
    let long : length (take n xss) ≡ suc (k / 256) = omega arith in
    let parts : k ≡ 256 * (k / 256) + k % 256 = omega arith in
    let rest = last_within (k / 256) (k % 256) (take n xss) e first.full long
    (subst (λ m. m ≤ length (joined (take n xss))) parts first.within) in
    cut_twice k xss (take n xss) (set (take n xss) (k / 256) ys) first
    (subst (λ m. IsCutTo m (take n xss) (set (take n xss) (k / 256) ys)) (sym parts)
    (cut_last (k / 256) (k % 256) (take n xss) ys e first.full long rest reported))

-- nothing is cut
pub cut_nothing : {A : Type 0} (k : ℕ) (xss yss : List (List A)) → AreFull xss →
    k ≤ length (joined xss) → yss ≡ xss → IsCutTo k xss yss
cut_nothing k xss yss full within same =
    subst (IsCutTo k xss) (sym same) (record { full = full; within = within; same = refl })

-- a full chunk comes before others, and its members stand before theirs
pub take_behind : {A : Type 0} (xs ys : List A) (k : ℕ) → length xs ≡ 256 →
    take (k + 256) (xs ++ ys) ≡ xs ++ take k ys
take_behind xs ys k long = ap (λ n. take n (xs ++ ys)) (omega (arith, long)) ∙
    take-append-add xs ys k

-- the last member goes
pub all_but_last : {A : Type 0} (xs ys : List A) (k : ℕ) → 0 < k → k ≤ length ys →
    xs ++ take (k - 1) ys ≡ take (length (xs ++ take k ys) - 1) (xs ++ take k ys)
all_but_last xs ys k some within =
    let long = length-append xs (take k ys) in
    let taken = length-take-le k ys within in
    ap (λ zs. xs ++ zs) (sym (take_twice (k - 1) k ys (omega (arith, some)))) ∙
    sym (take-append-add xs (take k ys) (k - 1))
    ∙ ap (λ n. take n (xs ++ take k ys)) (omega (arith, some))

-- how many there are
pub length_with : {A : Type 0} (xs ys : List A) (k : ℕ) → k ≤ length ys →
    length (xs ++ take k ys) ≡ length xs + k
length_with xs ys k within = let long = length-append xs (take k ys) in let taken =
    length-take-le k ys within in omega arith

-- what stands at a position, and what stands behind it
pub drop_next : {A : Type 0} (i : ℕ) (xs : List A) (x : A) → i < length xs → x ≡ get_or xs i x →
    drop i xs ≡ x ∷ drop (i + 1) xs
drop_next i [] x low is = absurd (omega (arith, low))
drop_next zero (y ∷ ys) x low is = ap (λ z. z ∷ ys) (sym is)
drop_next (suc i) (y ∷ ys) x low is = drop_next i ys x (omega (arith, low)) is ∙
    ap (λ n. x ∷ drop n (y ∷ ys)) (next i)
  where
    next : (n : ℕ) → suc (n + 1) ≡ suc n + 1
    next n = omega arith
