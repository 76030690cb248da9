-- What tellers give back.
use Rattle.std.proofs.Common.{◌≡◌, sym, subst, suc, List, [], ◌∷◌, ◌++◌, arith}
use Rattle.std.specs.Prelude.{All, Result, Ok, Err, IfOk}
use Rattle.std.proofs.lemmas.List.Elements.{All-push}
use Rattle.mvcc_shared.specs.Clients.{SharedView, ClientView}
use Rattle.example_bank.specs.declared.tellers.Teller.{Teller}

-- what follows from two facts on what a call gives
pub if_both : {A E : Type 0} (P Q R : A → Type 0) (r : Result A E) → IfOk r P → IfOk r Q
    → ((a : A) → P a → Q a → R a) → IfOk r R
if_both P Q R (Ok a) p q fits = fits a p q
if_both P Q R (Err e) p q fits = tt

-- what holds of each holds of the first, and of each of the others
first_one : {A : Type 0} (P : A → Type 0) (xs ys : List A) (x : A) → xs ≡ x ∷ ys → All P xs → P x
first_one P xs ys x are each = (subst (All P) are each) 0 x (omega arith)

others_too : {A : Type 0} (P : A → Type 0) (xs ys : List A) (x : A) → xs ≡ x ∷ ys → All P xs
    → All P ys
others_too P xs ys x are each k d below = (subst (All P) are each) (suc k) d (omega (arith, below))

-- a teller whose client is of the bank
abbrev pub IsOf : SharedView → Teller → Type 0
IsOf bank teller = teller.client.range ≡ bank

-- one more element, of which it holds too
pub and_one_more : {A : Type 0} (P : A → Type 0) (xs zs : List A) (x : A) → zs ≡ xs ++ x ∷ []
    → All P xs → P x → All P zs
and_one_more P xs zs x are each last = subst (All P) (sym are) (All-push P xs x each last)

-- the client of one more teller
pub one_more : {E : Type 0} (bank : SharedView) (ends rest : List (Result Teller E))
    (end : Result Teller E) (clients more : List ClientView) (teller : Teller)
    → ends ≡ end ∷ rest → end ≡ Ok teller → more ≡ clients ++ teller.client ∷ []
    → All (λ client. client.range ≡ bank) clients × All (λ e. IfOk e (IsOf bank)) ends
    → All (λ client. client.range ≡ bank) more × All (λ e. IfOk e (IsOf bank)) rest
one_more bank ends rest end clients more teller are is_ok last both = (
  and_one_more (λ (client : ClientView). client.range ≡ bank) clients more teller.client last both.0
      (subst (λ e. IfOk e (IsOf bank)) is_ok
      (first_one (λ e. IfOk e (IsOf bank)) ends rest end are both.1)),
  others_too (λ e. IfOk e (IsOf bank)) ends rest end are both.1,
)
