-- The rule holds when the table is made.
use Rattle.std.proofs.Common.{◌≡◌, ◌∙◌, inl, inr, refl, sym, ap, subst, Bool, true, false, ℕ}
use Rattle.std.proofs.Common.{zero, suc, ◌+◌, ◌<◌, ◌≤◌, List, [], ◌∷◌, ◌++◌, length, arith}
use Rattle.std.specs.Prelude.{◌==◌, nat_lt, Vec}
use Rattle.std.specs.declared.alloc.Global.{Global}
use Rattle.std.specs.List.{sum_by}
use mathlib.Core.Option as maybe
use mathlib.Core.Option.{some-injective, some-ne-none}
use lib.ListN.{get_elem?}
use Rattle.std.proofs.lemmas.Bool.Decides.{nat_tests}
use Rattle.std.proofs.lemmas.List.Sums.{sum_by-cons}
use Rattle.atomic_table.specs.Table.{opening}
use Rattle.mvcc_range.specs.Serial.{Transaction}
use Rattle.mvcc_range.specs.Steps.{RangeView, IsOpened}
use Rattle.mvcc_shared.specs.declared.served.PendingCall.TheVariants.{Refuse}
use Rattle.mvcc_shared.specs.declared.served.Served.{Served}
use Rattle.mvcc_shared.specs.declared.table.ClientState.{ClientState}
use Rattle.mvcc_shared.specs.declared.table.Knowledge.{Knowledge}
use Rattle.mvcc_shared.specs.History.{Terms}
use Rattle.mvcc_shared.specs.Rule.{
  StoredRange,
  at_rest,
  fresh_states,
  first_knowledge,
  one_if,
  RangeRule,
  KnowledgeFits,
  StateFits,
  IsAfter,
  states_in,
  states_of,
  holders,
}
use Rattle.mvcc_shared.proofs.Histories.{begins_empty}
use Rattle.mvcc_shared.proofs.Moves.{same_number, other_number, same_or_not, false_is_no}

-- how many of some states are those of a client
abbrev pub of_client : ℕ → List ClientState → ℕ
of_client number ps = sum_by (λ (p : ClientState). one_if (p.number == number)) ps

-- Of fresh states, none is below the first number, and each of the next numbers has one.
pub fresh_before : (from n number : ℕ) → number < from
    → of_client number (fresh_states from n) ≡ 0
fresh_before from zero number low = refl
fresh_before from (suc n) number low =
    omega (
      arith,
      sum_by-cons (λ (p : ClientState). one_if (p.number == number)) (at_rest from [])
          (fresh_states (suc from) n),
      fresh_before (suc from) n number (omega arith),
      ap one_if (other_number from number (λ e. omega (arith, e))),
    )

fresh_past : (from n number : ℕ) → from + n ≤ number → of_client number (fresh_states from n) ≡ 0
fresh_past from zero number high = refl
fresh_past from (suc n) number high =
    omega (
      arith,
      sum_by-cons (λ (p : ClientState). one_if (p.number == number)) (at_rest from [])
          (fresh_states (suc from) n),
      fresh_past (suc from) n number (omega arith),
      ap one_if (other_number from number (λ e. omega (arith, e))),
    )

fresh_among : (from n number : ℕ) → from ≤ number → number < from + n
    → of_client number (fresh_states from n) ≡ 1
fresh_among from zero number high low = absurd (omega arith)
fresh_among from (suc n) number high low = let cons =
    sum_by-cons (λ (p : ClientState). one_if (p.number == number)) (at_rest from [])
    (fresh_states (suc from) n) in
    elim (same_or_not from number) [
      | inl same ↦ omega (
        arith,
        cons,
        fresh_before (suc from) n number (omega (arith, same)),
        ap one_if (same_number from number same),
      )
      | inr apart ↦ omega (
        arith,
        cons,
        fresh_among (suc from) n number (omega (arith, apart)) (omega arith),
        ap one_if (other_number from number apart),
      )
    ]

-- None of them holds the lock.
pub fresh_hold_none : (from n : ℕ)
    → sum_by (λ (p : ClientState). one_if p.holds) (fresh_states from n) ≡ 0
fresh_hold_none from zero = refl
fresh_hold_none from (suc n) = omega (
  arith,
  sum_by-cons (λ (p : ClientState). one_if p.holds) (at_rest from []) (fresh_states (suc from) n),
  fresh_hold_none (suc from) n,
)

pub fresh_length : (from n : ℕ) → length (fresh_states from n) ≡ n
fresh_length from zero = refl
fresh_length from (suc n) = ap suc (fresh_length (suc from) n)

fresh_at : (from n i : ℕ) (p : ClientState) → get_elem? (fresh_states from n) i ≡ maybe.some p
    → p ≡ at_rest (from + i) []
fresh_at from zero i p e = absurd (some-ne-none p (sym e))
fresh_at from (suc n) zero p e = sym (some-injective (at_rest from []) p e)
    ∙ ap (λ (k : ℕ). at_rest k []) (omega arith)
fresh_at from (suc n) (suc i) p e = fresh_at (suc from) n i p e ∙ ap (λ (k : ℕ). at_rest k [])
    (omega arith)

opening_kept : (setup : Terms) (x : StoredRange) → IsOpened setup.config setup.opened
    → IsAfter setup [] x.value
    → RangeRule setup (opening (0 ∷ []) (x ∷ []) (first_knowledge setup))
opening_kept setup x opened is =
    record {
      history = [];
      legal = record { opened = opened; follows = tt };
      wide = refl;
      deep = refl;
      views = at;
      all = omega (
        arith,
        sum_by-cons states_in (first_knowledge setup) [],
        fresh_length 0 setup.clients,
      );
      each = λ number. omega (
        arith,
        sum_by-cons (states_of number) (first_knowledge setup) [],
        by_number number (nat_lt number setup.clients) refl,
      );
      lock = omega (
        arith,
        sum_by-cons holders (first_knowledge setup) [],
        fresh_hold_none 0 setup.clients,
      );
      home = λ free. (x, refl, is);
    }
  where
    at : (id : ℕ) (v : Knowledge) → get_elem? (first_knowledge setup ∷ []) id ≡ maybe.some v
        → KnowledgeFits setup [] v
    at zero v e = subst (KnowledgeFits setup []) (some-injective (first_knowledge setup) v e)
        (record {
          settled = λ _. refl;
          states = λ i p e'. subst (StateFits []) (sym (fresh_at 0 setup.clients i p e'))
              (record {
                begins = begins_empty [];
                own = refl;
                all = λ holds. absurd (false_is_no holds);
              });
          front = begins_empty [];
        })
    at (suc id) v e = absurd (some-ne-none v (sym e))

    by_number : (number : ℕ) (b : Bool) → nat_lt number setup.clients ≡ b
        → states_of number (first_knowledge setup) ≡ one_if b
    by_number number true is = fresh_among 0 setup.clients number (omega arith)
        (grind (arith, nat_tests))
    by_number number false is = fresh_past 0 setup.clients number (grind (arith, nat_tests))

-- the rule at the opening, with what lies in the slot then
pub opens : (setup : Terms) (range : RangeView) (log : Vec Transaction Global) (x : StoredRange)
    (none slots : List StoredRange) → range ≡ setup.opened → IsOpened setup.config setup.opened
    → log.items ≡ [] → x.value ≡ record { range = range; log = log; pending = Refuse } → none ≡ []
    → slots ≡ none ++ x ∷ []
    → RangeRule setup (opening (0 ∷ []) slots (first_knowledge setup))
opens setup range log x none slots same opened empty stored is_none pushed =
    let one : slots ≡ x ∷ [] = pushed ∙ ap (λ (xs : List StoredRange). xs ++ x ∷ []) is_none in
    subst (λ (xs : List StoredRange). RangeRule setup (opening (0 ∷ []) xs (first_knowledge setup)))
    (sym one) (opening_kept setup x opened (record {
      range = ap (λ (s : Served). s.range) stored ∙ same;
      log = ap (λ (s : Served). s.log.items) stored ∙ empty;
    }))
