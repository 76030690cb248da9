-- The operands of a subcommand that takes one file.
use Rattle.std.proofs.Common.{Bool, true, false, refl, sym, subst, List, [], ◌∷◌, Option, Some, None, codes}
use Rattle.std.specs.Prelude.{option_map}
use Rattle.clap.specs.Walk.{Walk, first_of, walked}
use Rattle.clap.specs.Simple.{Shape}
use Rattle.clap.specs.Faults.{defaults_fault, walk_fault}
use Rattle.tsc_commands.specs.Words.{Word, lone, operands}
use Rattle.tsc_commands.specs.Commands.{one_file_shape}
use Rattle.tsc_commands.proofs.WordTurns.{Fails, at}
use Rattle.tsc_commands.proofs.Operands.{refused, accepted, two_are_not_one, leaf_of, LeafAgrees, leaf_refused, leaf_next, leaf_word, none_yet}

module _ (name : Word) where
  abbrev pub one_leaf : Shape
  one_leaf = leaf_of (one_file_shape name)

  abbrev pub OneAgrees : Walk → List Word → Option Word → Type 0
  OneAgrees = LeafAgrees one_leaf (first_of (codes "file"))

  abbrev pub one_yet : Word → Bool → Walk
  one_yet file is_trailing = at [] (Some (codes "file", file ∷ [])) 2 is_trailing

  pub one_then : (file : Word) (rest : List Word) →
      OneAgrees (one_yet file true) rest (lone (Some (file ∷ rest)))
  unfolding walk_fault walked defaults_fault
  one_then file [] = accepted _ _ _ refl refl
  one_then file (u ∷ us) = leaf_refused one_leaf (first_of (codes "file")) (one_yet file true) u us
      _ refl tt

  pub none_then : (rest : List Word) → OneAgrees (none_yet true) rest (lone (Some rest))
  unfolding walk_fault walked defaults_fault
  none_then [] = refused _ _ _ refl tt
  none_then (v ∷ rest) = leaf_next one_leaf (first_of (codes "file")) (none_yet true)
      (one_yet v true) v rest _ refl refl (one_then v rest)

  pub one_found : (file : Word) (rest : List Word) →
      OneAgrees (one_yet file false) rest (lone (option_map (λ more. file ∷ more) (operands rest)))
  unfolding walk_fault walked defaults_fault
  one_found file [] = accepted _ _ _ refl refl
  one_found file (u ∷ us) = leaf_word one_leaf (first_of (codes "file")) (λ _. refl) (λ _. refl) []
      (Some (codes "file", file ∷ [])) 2 u us
      (λ o. lone (option_map (λ more. file ∷ more) o)) refl (one_then file us)
      (λ turn _. leaf_refused one_leaf (first_of (codes "file")) (one_yet file false) u us _
      (two_are_not_one file u (operands us)) (subst Fails (sym turn) tt))

  pub none_found : (rest : List Word) → OneAgrees (none_yet false) rest (lone (operands rest))
  unfolding walk_fault walked defaults_fault
  none_found [] = refused _ _ _ refl tt
  none_found (v ∷ rest) = leaf_word one_leaf (first_of (codes "file")) (λ _. refl) (λ _. refl) []
      None 1 v rest lone refl (none_then rest)
      (λ turn walk. leaf_next one_leaf (first_of (codes "file")) (none_yet false) (one_yet v false)
      v rest _ turn walk (one_found v rest))
