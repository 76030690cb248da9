-- The operands of a subcommand that has no options: what is asked, and what clap finds.
use Rattle.std.proofs.Common.{◌≡◌, ◌∙◌, ℕ, Bool, cond, true, false, refl, sym, ap, subst, List, [], ◌∷◌, Option, Some, None, is_some, true≢false, fold}
use Rattle.std.specs.Prelude.{option_map}
use Rattle.clap.specs.Walk.{Held, Row, Text, Walk, after_step, finished, settled, value, walked}
use Rattle.clap.specs.Simple.{Shape, built_leaf, inherited, marked_built, with_leaf_noted}
use Rattle.clap.specs.Kinds.{Kinds, or_else}
use Rattle.clap.specs.Faults.{check_fault, defaults_fault, settle_fault, step_fault, turn_fault, walk_fault}
use Rattle.tsc_commands.specs.Words.{Word, ends_flags, is_flag, lone, operands, pair}
use Rattle.tsc_commands.specs.Commands.{program_app}
use Rattle.tsc_commands.proofs.WordSorts.{sort_of}
use Rattle.tsc_commands.proofs.WordTurns.{Fails, fails_first, never_empty, at, names_no_long, names_no_short, turn_of, ends, flag, other}

-- ---- what is asked, and what a parse finds

-- a parse that finds no fault finds what is asked, and where something is asked it finds no fault
pub record Agrees {X : Type 0} (asked : Option X) (fault : Kinds) (found : Option X) : Type 0 where
  pub same : fault ≡ [] → found ≡ asked
  pub taken : (x : X) → asked ≡ Some x → fault ≡ []

pub refused : {X : Type 0} (asked : Option X) (fault : Kinds) (found : Option X) → asked ≡ None →
    Fails fault → Agrees asked fault found
refused asked fault found none h = record {
  same = λ e. absurd (never_empty fault h e);
  taken = λ x is. absurd (true≢false (ap is_some (sym is ∙ none)));
}

pub accepted : {X : Type 0} (asked : Option X) (fault : Kinds) (found : Option X) → fault ≡ [] →
    found ≡ asked → Agrees asked fault found
accepted asked fault found none is = record { same = λ _. is; taken = λ x _. none }

pub agrees_by : {X Y : Type 0} (f : X → Y) (asked : Option X) (fault : Kinds) (found : Option X) →
    Agrees asked fault found
    → Agrees (option_map f asked) fault (option_map f found)
agrees_by {X = X} {Y = Y} f asked fault found h =
    record { same = λ e. ap (option_map f) (h.same e); taken = go asked h.taken }
  where
    go : (o : Option X) → ((x : X) → o ≡ Some x → fault ≡ []) → (y : Y) → option_map f o ≡ Some y →
        fault ≡ []
    go None taken y is = absurd (true≢false (sym (ap is_some is)))
    go (Some x) taken y is = taken x refl

-- ---- the operands

pub ends_are : (word : Word) (rest : List Word) → ends_flags word ≡ true →
    operands (word ∷ rest) ≡ Some rest
ends_are word rest e = ap (λ b. cond b (Some rest)
    (cond (is_flag word) None (option_map (λ more. word ∷ more) (operands rest)))) e

pub flag_bars : (word : Word) (rest : List Word) → ends_flags word ≡ false → is_flag word ≡ true →
    operands (word ∷ rest) ≡ None
flag_bars word rest e f =
    ap (λ b. cond b (Some rest) (cond (is_flag word) None
    (option_map (λ more. word ∷ more) (operands rest)))) e
    ∙ ap (λ b. cond b None (option_map (λ more. word ∷ more) (operands rest))) f

pub other_leads : (word : Word) (rest : List Word) → ends_flags word ≡ false → is_flag word ≡ false
    → operands (word ∷ rest) ≡ option_map (λ more. word ∷ more) (operands rest)
other_leads word rest e f =
    ap (λ b. cond b (Some rest) (cond (is_flag word) None
    (option_map (λ more. word ∷ more) (operands rest)))) e
    ∙ ap (λ b. cond b None (option_map (λ more. word ∷ more) (operands rest))) f

pub two_are_not_one : (v u : Word) (o : Option (List Word)) →
    lone (option_map (λ more. v ∷ more) (option_map (λ more. u ∷ more) o)) ≡ None
two_are_not_one v u None = refl
two_are_not_one v u (Some more) = refl

pub three_are_not_two : (v u t : Word) (o : Option (List Word))
    → pair (option_map (λ more. v ∷ more)
    (option_map (λ more. u ∷ more) (option_map (λ more. t ∷ more) o))) ≡ None
three_are_not_two v u t None = refl
three_are_not_two v u t (Some more) = refl

-- ---- the words after a subcommand, which has no options

-- a subcommand, as it is built
abbrev pub leaf_of : Shape → Shape
leaf_of s = built_leaf (inherited (with_leaf_noted (marked_built program_app.top)) s)

module _ (leaf : Shape) where
  abbrev pub leaf_end_fault : Held → Kinds
  leaf_end_fault end = or_else (settle_fault leaf.rules leaf.args_override_self end)
      (or_else (defaults_fault (settled leaf.rules end).rows leaf.rules)
      (check_fault leaf (finished leaf.rules end) false))

  abbrev pub leaf_fault : Walk → List Word → Kinds
  leaf_fault w words = or_else (walk_fault leaf [] w words)
      (or_else [] (leaf_end_fault (fold (walked leaf.rules []) w words).held))

  abbrev pub leaf_rows : Walk → List Word → List Row
  leaf_rows w words = finished leaf.rules (fold (walked leaf.rules []) w words).held

-- what is found with the rows of a subcommand
module _ {X : Type 0} (leaf : Shape) (found : List Row → Option X) where
  abbrev pub LeafAgrees : Walk → List Word → Option X → Type 0
  LeafAgrees w words asked = Agrees asked (leaf_fault leaf w words) (found (leaf_rows leaf w words))

  pub leaf_refused : (w : Walk) (word : Word) (rest : List Word) (asked : Option X) → asked ≡ None →
      Fails (turn_fault leaf [] w word) → LeafAgrees w (word ∷ rest) asked
  unfolding walk_fault
  leaf_refused w word rest asked none h =
      refused asked _ _ none (fails_first _ _ (fails_first _ _ h))

  pub leaf_next : (w next : Walk) (word : Word) (rest : List Word) (asked : Option X) →
      turn_fault leaf [] w word ≡ [] → walked leaf.rules [] w word ≡ next
      → LeafAgrees next rest asked → LeafAgrees w (word ∷ rest) asked
  unfolding walk_fault
  leaf_next w next word rest asked turn walk h =
      let P : Kinds → Walk → Type 0 =
      λ k v. Agrees asked (or_else (or_else k (walk_fault leaf [] v rest))
      (or_else [] (leaf_end_fault leaf (fold (walked leaf.rules []) v rest).held)))
      (found (leaf_rows leaf v rest)) in
      subst (λ k. P k (walked leaf.rules [] w word)) (sym turn) (subst (λ v. P [] v) (sym walk) h)

  -- `--`, a flag, or one more operand
  pub leaf_word : names_no_long leaf.rules → names_no_short leaf.rules →
      (rows : List Row) (pending : Option (Text × List Text)) (position : ℕ)
      (word : Word) (rest : List Word) (asked : Option (List Word) → Option X) → asked None ≡ None
      → LeafAgrees (at rows pending position true) rest (asked (Some rest))
      → (turn_fault leaf [] (at rows pending position false) word ≡ step_fault leaf position
      (at rows pending position false).held value
      → walked leaf.rules [] (at rows pending position false) word ≡ after_step leaf.rules word
      (at rows pending position false) (at rows pending position false).held value
      → LeafAgrees (at rows pending position false) (word ∷ rest)
      (asked (option_map (λ more. word ∷ more) (operands rest))))
      → LeafAgrees (at rows pending position false) (word ∷ rest) (asked (operands (word ∷ rest)))
  leaf_word no_long no_short rows pending position word rest asked none after_dashes as_operand =
      let here : Walk = at rows pending position false in
      elim (turn_of leaf [] no_long no_short rows pending position word refl (sort_of word)) [
        | ends e turn walk ↦ subst (λ o. LeafAgrees here (word ∷ rest) (asked o))
            (sym (ends_are word rest e))
            (leaf_next here (at rows pending position true) word rest _ turn walk after_dashes)
        | flag e f h ↦ leaf_refused here word rest _ (ap asked (flag_bars word rest e f) ∙ none) h
        | other e f turn walk ↦ subst (λ o. LeafAgrees here (word ∷ rest) (asked o))
            (sym (other_leads word rest e f)) (as_operand turn walk)
      ]

-- before any operand
abbrev pub none_yet : Bool → Walk
none_yet is_trailing = at [] None 1 is_trailing
