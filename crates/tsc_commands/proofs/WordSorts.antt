-- What a word looks like to clap.
use Rattle.std.proofs.Common.{◌≡◌, ◌==◌, ℕ, Bool, true, false, refl, sym, subst, [], ◌∷◌, Option, Some, None}
use Rattle.std.specs.Prelude.{slice_get}
use Rattle.std.specs.Str.{chars}
use Rattle.std.proofs.lemmas.Bool.{eqb-true}
use Rattle.clap.specs.Lexer.{long_of, short_of}
use Rattle.clap.specs.Walk.{Text}
use Rattle.tsc_commands.specs.Words.{Word, ends_flags, is_flag}

pub data Sort (word : Word) : Type 0 where
  dashes : ends_flags word ≡ true → Sort word
  long : (p : Text × Option Text) → ends_flags word ≡ false → is_flag word ≡ true →
      long_of word ≡ Some p → Sort word
  short : (c : ℕ) (rest : Text) (x : ℕ) → ends_flags word ≡ false → is_flag word ≡ true →
      long_of word ≡ None → short_of word ≡ Some (c ∷ rest)
      → slice_get (chars (c ∷ rest)) 0 ≡ Some x → Sort word
  -- no text is one
  odd : (c : ℕ) (rest : Text) → ends_flags word ≡ false → is_flag word ≡ false →
      long_of word ≡ None → short_of word ≡ Some (c ∷ rest)
      → slice_get (chars (c ∷ rest)) 0 ≡ None → Sort word
  bare : ends_flags word ≡ false → is_flag word ≡ false → long_of word ≡ None →
      short_of word ≡ None → Sort word

hyphens : (rest : Text) → Sort (45 ∷ 45 ∷ rest)
unfolding chars
hyphens [] = dashes refl
hyphens (x ∷ xs) = long _ refl refl refl

one_hyphen : (c : ℕ) (rest : Text) → (c == 45) ≡ false → (o : Option ℕ) →
    slice_get (chars (c ∷ rest)) 0 ≡ o → Sort (45 ∷ c ∷ rest)
one_hyphen c rest e (Some x) first =
    short c rest x (rw e refl) (rw first refl) (rw e refl) (rw e refl) first
one_hyphen c rest e None first = odd c rest (rw e refl) (rw first refl) (rw e refl)
    (rw e refl) first

hyphen : (word : Text) → Sort (45 ∷ word)
unfolding chars
hyphen [] = bare refl refl refl refl
hyphen (c ∷ rest) = go (c == 45) refl
  where
    go : (b : Bool) → (c == 45) ≡ b → Sort (45 ∷ c ∷ rest)
    go true e = subst (λ k. Sort (45 ∷ k ∷ rest)) (sym (eqb-true c 45 e)) (hyphens rest)
    go false e = one_hyphen c rest e _ refl

pub sort_of : (word : Word) → Sort word
sort_of [] = bare refl refl refl refl
sort_of (b ∷ rest) = go (b == 45) refl
  where
    go : (t : Bool) → (b == 45) ≡ t → Sort (b ∷ rest)
    go true e = subst (λ k. Sort (k ∷ rest)) (sym (eqb-true b 45 e)) (hyphen rest)
    go false e = bare (rw e refl) (rw e refl) (rw e refl) (rw e refl)
