-- The operands of a subcommand that takes a trace and a log.
use Rattle.std.proofs.Common.{Bool, true, false, refl, sym, subst, List, [], ◌∷◌, Option, Some, None, codes}
use Rattle.std.specs.Prelude.{option_map}
use Rattle.clap.specs.Walk.{Row, Walk, settled, walked}
use Rattle.clap.specs.Simple.{Shape}
use Rattle.clap.specs.Faults.{defaults_fault, walk_fault}
use Rattle.tsc_commands.specs.Words.{Word, operands, pair}
use Rattle.tsc_commands.specs.Commands.{trace_and_log, trace_and_log_shape}
use Rattle.tsc_commands.proofs.WordTurns.{Fails, at}
use Rattle.tsc_commands.proofs.Operands.{refused, accepted, three_are_not_two, leaf_of, LeafAgrees, leaf_refused, leaf_next, leaf_word, none_yet}

module _ (name : Word) where
  abbrev pub two_leaf : Shape
  two_leaf = leaf_of (trace_and_log_shape name)

  abbrev pub TwoAgree : Walk → List Word → Option (Word × Word) → Type 0
  TwoAgree = LeafAgrees two_leaf trace_and_log

  abbrev pub trace_yet : Word → Bool → Walk
  trace_yet trace is_trailing = at [] (Some (codes "trace", trace ∷ [])) 2 is_trailing

  -- the trace, as an argument that was used
  abbrev pub trace_rows : Word → List Row
  trace_rows trace = (settled two_leaf.rules (trace_yet trace false).held).rows

  abbrev pub both_yet : Word → Word → Bool → Walk
  both_yet trace log is_trailing =
      at (trace_rows trace) (Some (codes "log", log ∷ [])) 3 is_trailing

  pub both_then : (trace log : Word) (rest : List Word) →
      TwoAgree (both_yet trace log true) rest (pair (Some (trace ∷ log ∷ rest)))
  unfolding walk_fault walked defaults_fault
  both_then trace log [] = accepted _ _ _ refl refl
  both_then trace log (u ∷ us) = leaf_refused two_leaf trace_and_log (both_yet trace log true) u us
      _ refl tt

  pub trace_then : (trace : Word) (rest : List Word) →
      TwoAgree (trace_yet trace true) rest (pair (Some (trace ∷ rest)))
  unfolding walk_fault walked defaults_fault
  trace_then trace [] = refused _ _ _ refl tt
  trace_then trace (v ∷ rest) = leaf_next two_leaf trace_and_log (trace_yet trace true)
      (both_yet trace v true) v rest _ refl refl (both_then trace v rest)

  pub neither_then : (rest : List Word) → TwoAgree (none_yet true) rest (pair (Some rest))
  unfolding walk_fault walked defaults_fault
  neither_then [] = refused _ _ _ refl tt
  neither_then (v ∷ rest) = leaf_next two_leaf trace_and_log (none_yet true) (trace_yet v true) v
      rest _ refl refl (trace_then v rest)

  pub both_found : (trace log : Word) (rest : List Word)
      → TwoAgree (both_yet trace log false) rest
      (pair (option_map (λ more. trace ∷ more)
      (option_map (λ more. log ∷ more) (operands rest))))
  unfolding walk_fault walked defaults_fault
  both_found trace log [] = accepted _ _ _ refl refl
  both_found trace log (u ∷ us) = leaf_word two_leaf trace_and_log (λ _. refl) (λ _. refl)
      (trace_rows trace) (Some (codes "log", log ∷ [])) 3 u us
      (λ o. pair (option_map (λ more. trace ∷ more) (option_map (λ more. log ∷ more) o))) refl
      (both_then trace log us)
      (λ turn _. leaf_refused two_leaf trace_and_log (both_yet trace log false) u us _
      (three_are_not_two trace log u (operands us)) (subst Fails (sym turn) tt))

  pub trace_found : (trace : Word) (rest : List Word) →
      TwoAgree (trace_yet trace false) rest
      (pair (option_map (λ more. trace ∷ more) (operands rest)))
  unfolding walk_fault walked defaults_fault
  trace_found trace [] = refused _ _ _ refl tt
  trace_found trace (v ∷ rest) = leaf_word two_leaf trace_and_log (λ _. refl) (λ _. refl) []
      (Some (codes "trace", trace ∷ [])) 2 v rest
      (λ o. pair (option_map (λ more. trace ∷ more) o)) refl (trace_then trace rest)
      (λ turn walk. leaf_next two_leaf trace_and_log (trace_yet trace false)
      (both_yet trace v false) v rest _ turn walk (both_found trace v rest))

  pub neither_found : (rest : List Word) → TwoAgree (none_yet false) rest (pair (operands rest))
  unfolding walk_fault walked defaults_fault
  neither_found [] = refused _ _ _ refl tt
  neither_found (v ∷ rest) = leaf_word two_leaf trace_and_log (λ _. refl) (λ _. refl) [] None 1 v
      rest pair refl (neither_then rest)
      (λ turn walk. leaf_next two_leaf trace_and_log (none_yet false) (trace_yet v false) v rest _
      turn walk (trace_found v rest))
