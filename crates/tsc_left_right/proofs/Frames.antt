-- A table keeps its shape where a word or a slot changes.
use Rattle.std.proofs.Common.{◌≡◌, ◌≢◌, ◌∙◌, ℕ, List, set, arith, length-set}
use Rattle.std.proofs.Common.{get_or-set_other, get_or-set_same, slice_index, subst, sym, length}
use lib.Seq.{set-get_or}
use Rattle.tsc_left_right.specs.Rule.{HasShape, head_word}

module _ {X : Type 0} {seats word head : ℕ} {words : List ℕ} {homes : List X} where
  -- a word that is neither the lock's nor HEAD
  pub other_word : HasShape seats word head words homes → (i y : ℕ) → i ≢ 0 → i ≢ head_word
      → HasShape seats word head (set words i y) homes
  other_word k i y lock at_head = record {
    wide = length-set words i y ∙ k.wide;
    deep = k.deep;
    word_is = get_or-set_other words i 0 y 0 (λ z. lock (sym z)) ∙ k.word_is;
    head_is = get_or-set_other words i head_word y 0 (λ z. at_head (sym z)) ∙ k.head_is;
  }

  -- the lock's
  pub lock_word : HasShape seats word head words homes → (y : ℕ)
      → HasShape seats y head (set words 0 y) homes
  lock_word k y = let wide = k.wide in record {
    wide = length-set words 0 y ∙ k.wide;
    deep = k.deep;
    word_is = get_or-set_same words 0 y 0 (omega (arith, wide));
    head_is = get_or-set_other words 0 head_word y 0 (λ z. omega (arith, z)) ∙ k.head_is;
  }

  -- HEAD
  pub turned_head : HasShape seats word head words homes → (y : ℕ)
      → HasShape seats word y (set words head_word y) homes
  turned_head k y = let wide = k.wide in record {
    wide = length-set words head_word y ∙ k.wide;
    deep = k.deep;
    word_is = get_or-set_other words head_word 0 y 0 (λ z. omega (arith, z)) ∙ k.word_is;
    head_is = get_or-set_same words head_word y 0 (omega (arith, wide));
  }

  -- a word that is looked at
  pub same_word : HasShape seats word head words homes → (i : ℕ)
      → HasShape seats word head (set words i (slice_index words i)) homes
  same_word k i = subst (λ (ws : List ℕ). HasShape seats word head ws homes)
      (sym (set-get_or words i 0)) k

  -- as many slots
  pub other_slots : HasShape seats word head words homes → (homes' : List X)
      → length homes' ≡ length homes → HasShape seats word head words homes'
  other_slots k homes' as_deep = record {
    wide = k.wide;
    deep = as_deep ∙ k.deep;
    word_is = k.word_is;
    head_is = k.head_is;
  }

  pub other_slot : HasShape seats word head words homes → (i : ℕ) (x : X)
      → HasShape seats word head words (set homes i x)
  other_slot k i x = other_slots k (set homes i x) (length-set homes i x)
