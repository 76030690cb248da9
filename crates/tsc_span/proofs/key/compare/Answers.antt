-- The first eight bytes tell where their numbers differ, and else what comes behind them does.
use Rattle.std.proofs.Common.{◌∙◌, ap, ◌-◌, take, drop, length, arith}
use Rattle.tsc_span.specs.Span.{KeyBytes, key_cmp}
use Rattle.tsc_span.proofs.Spelling.{order_by_spelled, tied_by_rest, behind}
use Rattle.tsc_span.proofs.key.compare.Goals as goal

pub returns-then-word-other_word : goal.returns-then-word-other_word
returns-then-word-other_word c =
    let k : KeyBytes = c.args.bytes.now in
    let m : KeyBytes = c.args.other.now in
    order_by_spelled 8 k m _ c.requires.small c.requires.other_small
    (λ e. omega (
      arith,
      e,
      c.word_at-word.ensures,
      c.word_at-other_word.ensures,
      c.if-word-other_word.true,
    ))
    (rw (← c.word_at-word.ensures, ← c.word_at-other_word.ensures)
    c.cmp-then-word-other_word.ensures)

pub returns : goal.returns
returns c =
    let k : KeyBytes = c.args.bytes.now in
    let m : KeyBytes = c.args.other.now in
    c.cmp-2.ensures ∙ ap (λ (x : KeyBytes). key_cmp x (take (length m - 8) (drop 8 m))) (behind k) ∙
    ap (λ (x : KeyBytes). key_cmp (drop 8 k) x) (behind m)
    ∙ tied_by_rest 8 0 k m c.requires.small c.requires.other_small
    (omega (arith, c.if-bytes-lt-WORD_BYTES.false)) (omega (arith, c.if-other-lt-WORD_BYTES.false))
    (omega (
      arith,
      c.word_at-word.ensures,
      c.word_at-other_word.ensures,
      c.if-word-other_word.false,
    ))
