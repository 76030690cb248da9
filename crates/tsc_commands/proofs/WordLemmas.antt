-- clap's walk over the program's words comes to what specs/Words.antt says of them.
use Rattle.std.proofs.Common.{◌≡◌, ◌∙◌, ◌&&◌, ◌||◌, Bool, cond, true, false, refl, sym, ap, subst, List, [], ◌∷◌, drop, Option, Some, None, is_some, codes, fold, IsNone}
use Rattle.std.specs.Prelude.{find, map, option_map}
use Rattle.std.specs.Str.{bytes_eq}
use Rattle.clap.specs.Walk.{Held, Names, Row, Text, Walk, after_step, answers_to, finished, first_of, idle, settled, subcommand_met, subcommand_or_other, walked}
use Rattle.clap.specs.Simple.{App, Shape, built, entered, names_of, subcommand_of}
use Rattle.clap.specs.Kinds.{IsAmong, Kinds, or_else}
use Rattle.clap.specs.Faults.{check_fault, defaults_fault, entered_fault, fault_of, other_fault, settle_fault, step_fault, turn_fault, walk_fault}
use Rattle.clap.specs.declared.error.ErrorKind.{ErrorKind}
use Rattle.clap.proofs.FaultLemmas.{stopped_fault}
use Rattle.clap.proofs.WalkLemmas.{walk_stopped}
use Rattle.tsc_commands.specs.Words.{Request, Subcommand, Word, check, lone, operands, pair, replay, request_after, request_by, request_in, run, subcommands, with_file, with_two_files}
use Rattle.tsc_commands.specs.Commands.{program_app, request_found, trace_and_log}
use Rattle.tsc_commands.proofs.WordSorts.{sort_of}
use Rattle.tsc_commands.proofs.WordTurns.{Fails, fails_first, turn_of, ends, flag, other}
use Rattle.tsc_commands.proofs.Operands.{Agrees, refused, agrees_by, leaf_fault, leaf_rows, LeafAgrees, none_yet}
use Rattle.tsc_commands.proofs.OneFile.{one_leaf, none_found}
use Rattle.tsc_commands.proofs.TwoFiles.{two_leaf, neither_found}

-- ---- the words after the program's name

abbrev whole : App
whole = built program_app

abbrev labels : Names
labels = names_of whole

abbrev top_fault_by : Kinds → Walk → Kinds
top_fault_by before end = or_else before
    (or_else (entered_fault whole end.stopped)
    (or_else (settle_fault whole.top.rules whole.top.args_override_self end.held)
    (or_else (defaults_fault (settled whole.top.rules end.held).rows whole.top.rules)
    (check_fault whole.top (finished whole.top.rules end.held)
    (is_some (entered whole end.stopped))))))

abbrev top_fault : Walk → List Word → Kinds
top_fault w words = top_fault_by (walk_fault whole.top labels w words)
    (fold (walked whole.top.rules labels) w words)

abbrev top_found : Walk → Option Request
top_found end = request_found (entered whole end.stopped)

abbrev TopAgrees : Walk → List Word → Option Request → Type 0
TopAgrees w words asked = Agrees asked (top_fault w words)
    (top_found (fold (walked whole.top.rules labels) w words))

top_refused : (w : Walk) (word : Word) (rest : List Word) (asked : Option Request) → asked ≡ None →
    Fails (turn_fault whole.top labels w word) → TopAgrees w (word ∷ rest) asked
unfolding walk_fault
top_refused w word rest asked none h = refused asked _ _ none (fails_first _ _ (fails_first _ _ h))

top_next : (w next : Walk) (word : Word) (rest : List Word) (asked : Option Request) →
    turn_fault whole.top labels w word ≡ [] → walked whole.top.rules labels w word ≡ next
    → TopAgrees next rest asked → TopAgrees w (word ∷ rest) asked
unfolding walk_fault
top_next w next word rest asked turn walk h =
    let P : Kinds → Walk → Type 0 =
    λ k v. Agrees asked (top_fault_by (or_else k (walk_fault whole.top labels v rest))
    (fold (walked whole.top.rules labels) v rest))
    (top_found (fold (walked whole.top.rules labels) v rest)) in
    subst (λ k. P k (walked whole.top.rules labels w word)) (sym turn)
    (subst (λ v. P [] v) (sym walk) h)

abbrev entering : Word → List Word → Walk
entering name seen = record (none_yet false) { stopped = Some (name, seen) }

or_nothing : (k : Kinds) → k ≡ or_else k []
or_nothing [] = refl
or_nothing (x ∷ xs) = refl

-- what clap finds behind a subcommand's name is what the words behind it ask
abbrev Reads : Subcommand → Type 0
Reads s = (rest : List Word) → TopAgrees (entering s.name []) rest (s.asked rest)

-- a subcommand that is built, and what the rows of its arguments ask
module _ {X : Type 0} (name : Word) (leaf : Shape) (found : List Row → Option X)
    (request : X → Request) where
  -- clap hands the words behind the name to it
  abbrev GoesOn : Type 0
  GoesOn = (rest : List Word) → (top_fault_by [] (entering name rest) ≡
      or_else (leaf_fault leaf (none_yet false) rest) [])
      × (top_found (entering name rest) ≡ option_map request
      (found (leaf_rows leaf (none_yet false) rest)))

  leaf_reads : (asked : List Word → Option X) →
      ((rest : List Word) → LeafAgrees leaf found (none_yet false) rest (asked rest)) → GoesOn
      → Reads (record { name = name; asked = λ rest. option_map request (asked rest) })
  leaf_reads asked agrees goes rest =
      let ends : Kinds = leaf_fault leaf (none_yet false) rest in
      let value : Option X = found (leaf_rows leaf (none_yet false) rest) in
      let below = agrees_by request (asked rest) ends value (agrees rest) in
      let P : Kinds → Walk → Type 0 =
      λ k v. Agrees (option_map request (asked rest)) (top_fault_by k v) (top_found v) in
      let at_end : P [] (entering name rest) =
      subst (λ f. Agrees (option_map request (asked rest)) (top_fault_by [] (entering name rest)) f)
      (sym (goes rest).1)
      (subst (λ k. Agrees (option_map request (asked rest)) k (option_map request value))
      (or_nothing _ ∙ sym (goes rest).0) below) in
      subst (λ k. P k (fold (walked whole.top.rules labels) (entering name []) rest))
      (sym (stopped_fault whole.top labels (none_yet false) (name, []) rest))
      (subst (P []) (walk_stopped whole.top.rules labels (none_yet false) name [] rest) at_end)

replay_goes_on : GoesOn (codes "replay") (one_leaf (codes "replay"))
    (first_of (codes "file")) replay
unfolding defaults_fault
replay_goes_on rest = (refl, refl)

run_goes_on : GoesOn (codes "run") (one_leaf (codes "run")) (first_of (codes "file")) run
unfolding defaults_fault
run_goes_on rest = (refl, refl)

abbrev checked_of : Word × Word → Request
checked_of files = check files.0 files.1

check_goes_on : GoesOn (codes "check") (two_leaf (codes "check")) trace_and_log checked_of
unfolding defaults_fault
check_goes_on rest = (refl, refl)

file_reads : (name : Word) (request : Word → Request) →
    GoesOn name (one_leaf name) (first_of (codes "file")) request → Reads (with_file name request)
file_reads name request goes = leaf_reads name (one_leaf name) (first_of (codes "file")) request
    (λ rest. lone (operands rest)) (none_found name) goes

check_reads : Reads (with_two_files (codes "check") check)
check_reads = leaf_reads (codes "check") (two_leaf (codes "check")) trace_and_log checked_of
    (λ rest. pair (operands rest)) (neither_found (codes "check")) check_goes_on

abbrev AllRead : List Subcommand → Type 0
AllRead [] = Unit {0}
AllRead (s ∷ others) = Reads s × AllRead others

all_read : AllRead subcommands
all_read = (
  file_reads (codes "replay") replay replay_goes_on,
  (file_reads (codes "run") run run_goes_on, (check_reads, tt)),
)

none_named : (rest : List Word) → TopAgrees (none_yet true) rest None
unfolding walk_fault walked defaults_fault
none_named [] = refused _ _ _ refl tt
none_named (v ∷ rest) = top_refused (none_yet true) v rest _ refl tt

-- help is no subcommand
no_help : (b : Bool) (k : Kinds) → or_else (cond (b && false) k []) [] ≡ []
no_help true k = refl
no_help false k = refl

module _ (name : Word) (rest : List Word) where
  abbrev before_name : Held
  before_name = (none_yet false).held

  -- what clap meets where these subcommands are left to compare with
  abbrev met_among : List Subcommand → Option Text
  met_among left = option_map (λ (l : Text × List Text). l.0)
      (find (answers_to name) (map (λ (s : Subcommand). (s.name, [])) left))

  met_first : (s : Subcommand) (left : List Subcommand) (b : Bool) → bytes_eq s.name name ≡ b →
      met_among (s ∷ left) ≡ cond b (Some s.name) (met_among left)
  met_first s left b e = ap by e ∙ go b
    where
      by : Bool → Option Text
      by t = option_map (λ (l : Text × List Text). l.0)
          (cond (t || false) (Some (s.name, []))
          (find (answers_to name) (map (λ (s : Subcommand). (s.name, [])) left)))

      go : (t : Bool) → by t ≡ cond t (Some s.name) (met_among left)
      go true = refl
      go false = refl

  named : (s : Subcommand) → Reads s → subcommand_met labels idle name ≡ Some s.name →
      TopAgrees (none_yet false) (name ∷ rest) (s.asked rest)
  unfolding walked
  named s reads met =
      top_next (none_yet false) (entering s.name []) name rest _
      (ap (λ o. or_else (other_fault whole.top o name before_name)
      (step_fault whole.top 1 (subcommand_or_other whole.top.rules o idle 1 name before_name).0
      (subcommand_or_other whole.top.rules o idle 1 name before_name).1)) met ∙
      no_help (bytes_eq s.name (codes "help")) _)
      (ap (λ o. after_step whole.top.rules name (none_yet false)
      (subcommand_or_other whole.top.rules o idle 1 name before_name).0
      (subcommand_or_other whole.top.rules o idle 1 name before_name).1) met)
      (reads rest)

  unnamed : subcommand_met labels idle name ≡ None → TopAgrees (none_yet false) (name ∷ rest) None
  unnamed met = elim (turn_of whole.top labels (λ _. refl) (λ _. refl) [] None 1 name met
      (sort_of name)) [
        | ends d turn walk ↦ top_next (none_yet false) (none_yet true) name rest None turn walk
            (none_named rest)
        | flag d f h ↦ top_refused (none_yet false) name rest _ refl h
        | other d f turn walk ↦ top_refused (none_yet false) name rest _ refl
            (subst Fails (sym turn) tt)
      ]

  abbrev AgreesAmong : List Subcommand → Type 0
  AgreesAmong left = subcommand_met labels idle name ≡ met_among left →
      TopAgrees (none_yet false) (name ∷ rest) (request_by left name rest)

  first_or_other : (s : Subcommand) (left : List Subcommand) → Reads s → AgreesAmong left →
      (b : Bool) → bytes_eq s.name name ≡ b → AgreesAmong (s ∷ left)
  first_or_other s left reads others true e met =
      subst (TopAgrees (none_yet false) (name ∷ rest))
      (sym (ap (λ b. cond b (s.asked rest) (request_by left name rest)) e))
      (named s reads (met ∙ met_first s left true e))
  first_or_other s left reads others false e met =
      subst (TopAgrees (none_yet false) (name ∷ rest))
      (sym (ap (λ b. cond b (s.asked rest) (request_by left name rest)) e))
      (others (met ∙ met_first s left false e))

  each_agrees : (left : List Subcommand) → AllRead left → AgreesAmong left
  each_agrees [] read met = unnamed met
  each_agrees (s ∷ left) read met =
      first_or_other s left read.0 (each_agrees left read.1) _ refl met

top_agrees : (rest : List Word) → TopAgrees (none_yet false) rest (request_after rest)
unfolding walk_fault walked defaults_fault
top_agrees [] = refused _ _ _ refl tt
top_agrees (name ∷ rest) = each_agrees name rest subcommands all_read refl

-- ---- all the words

all_agree : (words : List Word) → Agrees (request_in words) (fault_of program_app words)
    (request_found (subcommand_of program_app words))
all_agree words = top_agrees (drop 1 words)

pub found_is_asked : (words : List Word) → fault_of program_app words ≡ [] →
    request_found (subcommand_of program_app words) ≡ request_in words
found_is_asked words e = (all_agree words).same e

asked_is_taken : (words : List Word) (r : Request) → request_in words ≡ Some r →
    fault_of program_app words ≡ []
asked_is_taken words r e = (all_agree words).taken r e

pub fault_asks_nothing : (words : List Word) (k : ErrorKind) →
    IsAmong k (fault_of program_app words) → IsNone (request_in words)
fault_asks_nothing words k among = go (request_in words) refl
  where
    go : (o : Option Request) → request_in words ≡ o → IsNone o
    go None e = refl
    go (Some r) e = absurd (subst (IsAmong k) (asked_is_taken words r e) among)
