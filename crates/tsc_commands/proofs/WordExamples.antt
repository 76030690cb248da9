-- What words ask for: a file by its name, and nothing where the words are of another form.
use Rattle.std.proofs.Common.{◌≡◌, ◌==◌, ℕ, List, [], ◌∷◌, Some, None, codes, false, refl}
use Rattle.std.specs.Str.{chars}
use Rattle.tsc_commands.specs.Words.{Word, check, replay, request_in, run}

-- ---- a file that does not begin with a hyphen

pub a_named_file_is_replayed : (name : Word) (first : ℕ) (rest : List ℕ) → (first == 45) ≡ false
    → request_in (name ∷ codes "replay" ∷ (first ∷ rest) ∷ []) ≡ Some (replay (first ∷ rest))
a_named_file_is_replayed name first rest e = rw e refl

pub a_named_file_is_run : (name : Word) (first : ℕ) (rest : List ℕ) → (first == 45) ≡ false
    → request_in (name ∷ codes "run" ∷ (first ∷ rest) ∷ []) ≡ Some (run (first ∷ rest))
a_named_file_is_run name first rest e = rw e refl

pub two_files_ask_for_nothing : (name : Word) (first second : ℕ) (rest more : List ℕ) →
    (first == 45) ≡ false → (second == 45) ≡ false
    → request_in (name ∷ codes "replay" ∷ (first ∷ rest) ∷ (second ∷ more) ∷ []) ≡ None
two_files_ask_for_nothing name first second rest more e f = rw (e, f) refl

pub a_named_log_is_checked : (name : Word) (first second : ℕ) (rest more : List ℕ) →
    (first == 45) ≡ false → (second == 45) ≡ false
    → request_in (name ∷ codes "check" ∷ (first ∷ rest) ∷ (second ∷ more) ∷ []) ≡
    Some (check (first ∷ rest) (second ∷ more))
a_named_log_is_checked name first second rest more e f = rw (e, f) refl

pub a_check_of_one_file_asks_for_nothing : (name : Word) (first : ℕ) (rest : List ℕ) →
    (first == 45) ≡ false
    → request_in (name ∷ codes "check" ∷ (first ∷ rest) ∷ []) ≡ None
a_check_of_one_file_asks_for_nothing name first rest e = rw e refl

pub a_check_of_three_files_asks_for_nothing : (name : Word) (first second third : ℕ)
    (rest more others : List ℕ)
    → (first == 45) ≡ false → (second == 45) ≡ false → (third == 45) ≡ false
    → request_in (name ∷ codes "check" ∷ (first ∷ rest) ∷ (second ∷ more) ∷ (third ∷ others) ∷
    []) ≡ None
a_check_of_three_files_asks_for_nothing name first second third rest more others e f g =
    rw (e, f, g) refl

-- ---- fewer words

pub no_words_ask_for_nothing : request_in [] ≡ None
no_words_ask_for_nothing = refl

pub a_name_asks_for_nothing : (name : Word) → request_in (name ∷ []) ≡ None
a_name_asks_for_nothing name = refl

pub a_replay_of_no_file_asks_for_nothing : (name : Word) →
    request_in (name ∷ codes "replay" ∷ []) ≡ None
a_replay_of_no_file_asks_for_nothing name = refl

pub a_run_of_no_file_asks_for_nothing : (name : Word) → request_in (name ∷ codes "run" ∷ []) ≡ None
a_run_of_no_file_asks_for_nothing name = refl

pub a_check_of_no_file_asks_for_nothing : (name : Word) →
    request_in (name ∷ codes "check" ∷ []) ≡ None
a_check_of_no_file_asks_for_nothing name = refl

-- ---- hyphens

pub a_hyphen_is_a_file : (name : Word) →
    request_in (name ∷ codes "replay" ∷ codes "-" ∷ []) ≡ Some (replay (codes "-"))
unfolding chars
a_hyphen_is_a_file name = refl

pub after_two_hyphens_each_word_is_a_file : (name file : Word) →
    request_in (name ∷ codes "replay" ∷ codes "--" ∷ file ∷ []) ≡ Some (replay file)
after_two_hyphens_each_word_is_a_file name file = refl

pub a_flag_asks_for_nothing : (name : Word) →
    request_in (name ∷ codes "replay" ∷ codes "--help" ∷ []) ≡ None
unfolding chars
a_flag_asks_for_nothing name = refl

-- ---- other subcommands

pub help_asks_for_nothing : (name : Word) → request_in (name ∷ codes "help" ∷ []) ≡ None
help_asks_for_nothing name = refl
