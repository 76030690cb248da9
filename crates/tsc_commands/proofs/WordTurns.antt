-- What one word comes to at a command with no options.
use Rattle.std.proofs.Common.{◌≡◌, ◌∙◌, ℕ, Bool, cond, true, false, sym, ap, subst, List, [], ◌∷◌, length, Option, Some, None, is_some, true≢false}
use Rattle.std.specs.Prelude.{slice_get}
use Rattle.std.specs.Str.{chars}
use Rattle.std.specs.Option.{option_map_or}
use Rattle.clap.specs.Lexer.{long_of, short_of}
use Rattle.clap.specs.Walk.{Held, Names, Outcome, Row, Rule, Step, Text, Walk, after_flag, after_step, arg_by_long, arg_by_short, bundle_met, bundle_step, idle, long_or_other, plain, short_or_plain, subcommand_met, subcommand_or_other, trailing, value, walked, word_met}
use Rattle.clap.specs.Simple.{Shape}
use Rattle.clap.specs.Kinds.{Kinds, or_else}
use Rattle.clap.specs.Faults.{bundle_step_fault, flag_word_fault, flags_fault, long_fault, other_fault, short_fault, step_fault, turn_fault, word_fault}
use Rattle.clap.specs.declared.error.ErrorKind.TheVariants.{UnknownArgument}
use Rattle.tsc_commands.specs.Words.{Word, ends_flags, is_flag}
use Rattle.tsc_commands.proofs.WordSorts.{Sort, dashes, long, short, odd, bare}

-- some kind stands in the list
abbrev pub Fails : Kinds → Type 0
Fails [] = ⊥
Fails (k ∷ ks) = Unit {0}

pub fails_first : (a b : Kinds) → Fails a → Fails (or_else a b)
fails_first [] b h = absurd h
fails_first (k ∷ ks) b h = h

pub never_empty : (a : Kinds) → Fails a → a ≡ [] → ⊥
never_empty [] h e = h
never_empty (k ∷ ks) h e = subst Fails e h

-- between two words, where no option waits
abbrev pub at : List Row → Option (Text × List Text) → ℕ → Bool → Walk
at rows pending position is_trailing = record {
  held = record { rows = rows; pending = pending; skip = 0 };
  waiting = idle;
  position = position;
  is_trailing = is_trailing;
  stopped = None;
}

abbrev pub names_no_long : List Rule → Type 0
names_no_long c = (name : Text) → arg_by_long c name ≡ None

abbrev pub names_no_short : List Rule → Type 0
names_no_short c = (x : ℕ) → arg_by_short c x ≡ None

module _ (s : Shape) (names : Names) (no_long : names_no_long s.rules)
    (no_short : names_no_short s.rules)
    (rows : List Row) (pending : Option (Text × List Text)) (position : ℕ) (word : Word)
    (unmet : subcommand_met names idle word ≡ None) where
  abbrev pub here : Held
  here = record { rows = rows; pending = pending; skip = 0 }

  pub other_is : word_fault s names false idle word here ≡ other_fault s None word here
  other_is = ap (λ o. other_fault s o word here) unmet

  pub flag_is : ends_flags word ≡ false →
      other_fault s None word here ≡ flag_word_fault s.rules s.args_override_self (long_of word)
      word here
  flag_is e = ap (λ b. cond b [] (flag_word_fault s.rules s.args_override_self (long_of word) word
      here)) e

  pub long_fails : (p : Text × Option Text) → ends_flags word ≡ false → long_of word ≡ Some p →
      word_fault s names false idle word here ≡ UnknownArgument ∷ []
  long_fails p ends is = other_is ∙ flag_is ends ∙
      ap (λ o. flag_word_fault s.rules s.args_override_self o word here) is
      ∙ ap (λ o. long_fault s.rules s.args_override_self o p.1 here) (no_long p.0)

  abbrev pub flags_of : Option Text → Kinds
  flags_of o = option_map_or (λ flags. flags_fault s.rules s.args_override_self (length flags) flags
      0 here) o []

  pub short_is : ends_flags word ≡ false → long_of word ≡ None →
      word_fault s names false idle word here ≡ flags_of (short_of word)
  short_is ends none = other_is ∙ flag_is ends ∙
      ap (λ o. flag_word_fault s.rules s.args_override_self o word here) none

  pub first_flag : (c : ℕ) (rest : Text) (o : Option ℕ) → slice_get (chars (c ∷ rest)) 0 ≡ o
      → flags_of (Some (c ∷ rest)) ≡ bundle_step_fault s.rules s.args_override_self o (c ∷ rest) 0
      here (flags_fault s.rules s.args_override_self (length rest))
  unfolding flags_fault
  first_flag c rest o is =
      ap (λ v. bundle_step_fault s.rules s.args_override_self v (c ∷ rest) 0 here
      (flags_fault s.rules s.args_override_self (length rest))) is

  pub short_fails : (c : ℕ) (rest : Text) (x : ℕ) → ends_flags word ≡ false → long_of word ≡ None →
      short_of word ≡ Some (c ∷ rest)
      → slice_get (chars (c ∷ rest)) 0 ≡ Some x → Fails (word_fault s names false idle word here)
  short_fails c rest x ends none is first =
      let bundle : word_fault s names false idle word here ≡ bundle_step_fault s.rules
      s.args_override_self (Some x) (c ∷ rest) 0 here
      (flags_fault s.rules s.args_override_self (length rest))
      = short_is ends none ∙ ap flags_of is ∙ first_flag c rest (Some x) first in
      subst Fails (sym bundle) (go (arg_by_short s.rules x) (no_short x) _ _)
    where
      go : (o : Option Rule) → o ≡ None → (t : Text) (next : Held → Kinds) →
          Fails (short_fault s.rules s.args_override_self o t here next)
      go None e t next = tt
      go (Some a) e t next = absurd (true≢false (ap is_some e))

  -- a word that is no flag passes, and goes to a positional
  abbrev pub Passes : Type 0
  Passes = (word_fault s names false idle word here ≡ []) ×
      (word_met s.rules names false idle position word here ≡ (here, value))

  abbrev pub step_at : Option (Text × Option Text) → Held × Step
  step_at o = long_or_other s.rules idle word o here

  pub step_is : ends_flags word ≡ false → long_of word ≡ None →
      word_met s.rules names false idle position word here ≡ short_or_plain s.rules idle word
      (short_of word) here
  step_is ends none = ap (λ o. subcommand_or_other s.rules o idle position word here) unmet
      ∙ ap (λ b. cond b (here, trailing position) (step_at (long_of word))) ends ∙ ap step_at none

  pub bare_passes : ends_flags word ≡ false → long_of word ≡ None → short_of word ≡ None → Passes
  bare_passes ends none is = (
    short_is ends none ∙ ap flags_of is,
    step_is ends none ∙ ap (λ o. short_or_plain s.rules idle word o here) is,
  )

  pub odd_bundle : (c : ℕ) (rest : Text) → slice_get (chars (c ∷ rest)) 0 ≡ None →
      bundle_met s.rules (length (c ∷ rest)) (c ∷ rest) 0 plain here ≡ (here, plain)
  unfolding bundle_met
  odd_bundle c rest first = ap (λ o. bundle_step s.rules o (c ∷ rest) 0 plain here
      (bundle_met s.rules (length rest))) first

  pub odd_passes : (c : ℕ) (rest : Text) → ends_flags word ≡ false → long_of word ≡ None →
      short_of word ≡ Some (c ∷ rest)
      → slice_get (chars (c ∷ rest)) 0 ≡ None → Passes
  odd_passes c rest ends none is first = (
    short_is ends none ∙ ap flags_of is ∙ first_flag c rest None first,
    step_is ends none ∙ ap (λ o. short_or_plain s.rules idle word o here) is
        ∙ ap (λ (p : Held × Outcome). after_flag s.rules idle word p.0 p.1)
        (odd_bundle c rest first),
  )

  pub dashes_pass : ends_flags word ≡ true → (word_fault s names false idle word here ≡ []) ×
      (word_met s.rules names false idle position word here ≡ (here, trailing position))
  dashes_pass ends = (
    other_is ∙ ap (λ b. cond b [] (flag_word_fault s.rules s.args_override_self (long_of word) word
        here)) ends,
    ap (λ o. subcommand_or_other s.rules o idle position word here) unmet
        ∙ ap (λ b. cond b (here, trailing position) (step_at (long_of word))) ends,
  )

  -- what a word comes to: `--`, a flag, which is refused, or another word
  pub data Turn : Type 0 where
    ends : ends_flags word ≡ true → turn_fault s names (at rows pending position false) word ≡ []
        → walked s.rules names (at rows pending position false) word ≡ at rows pending position
        true → Turn
    flag : ends_flags word ≡ false → is_flag word ≡ true →
        Fails (turn_fault s names (at rows pending position false) word) → Turn
    other : ends_flags word ≡ false → is_flag word ≡ false
        → turn_fault s names (at rows pending position false) word ≡ step_fault s position
        here value
        → walked s.rules names (at rows pending position false) word ≡ after_step s.rules word
        (at rows pending position false) here value → Turn

  abbrev pub turn_by : Kinds → Held × Step → Kinds
  turn_by fault met = or_else fault (step_fault s position met.0 met.1)

  abbrev pub walk_by : Held × Step → Walk
  walk_by met = after_step s.rules word (at rows pending position false) met.0 met.1

  pub turn_flag : ends_flags word ≡ false → is_flag word ≡ true →
      Fails (word_fault s names false idle word here) → Turn
  turn_flag e f h = flag e f (fails_first _ _ h)

  pub turn_other : ends_flags word ≡ false → is_flag word ≡ false → Passes → Turn
  unfolding walked
  turn_other e f p = other e f ((λ i. turn_by (p.0 i) (p.1 i))) (ap walk_by p.1)

  pub turn_ends : ends_flags word ≡ true → Turn
  unfolding walked
  turn_ends e =
      let p = dashes_pass e in
      ends e (λ i. turn_by (p.0 i) (p.1 i)) (ap walk_by p.1)

  pub turn_of : Sort word → Turn
  turn_of (dashes e) = turn_ends e
  turn_of (long p e f is) = turn_flag e f (subst Fails (sym (long_fails p e is)) tt)
  turn_of (short c rest x e f none is first) = turn_flag e f (short_fails c rest x e none is first)
  turn_of (odd c rest e f none is first) = turn_other e f (odd_passes c rest e none is first)
  turn_of (bare e f none is) = turn_other e f (bare_passes e none is)
