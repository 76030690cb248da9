-- Where a key has fewer bytes than a prefix the lengths tell how the keys stand, and else what
-- comes behind those bytes.
use Rattle.std.proofs.Common.{◌∙◌, ◌-◌, ap, take, drop, length, arith}
use Rattle.tsc_span.specs.Span.{KeyBytes, key_cmp}
use Rattle.tsc_span.proofs.Spelling.{tied_by_rest}
use Rattle.tsc_span.proofs.Prefixes.{tied_by_length, rest_of}
use Rattle.tsc_span.proofs.prefix.compare_tied.Goals as goal

pub returns-then-short-lt-PREFIX_BYTES : goal.returns-then-short-lt-PREFIX_BYTES
returns-then-short-lt-PREFIX_BYTES c =
    c.cmp.ensures ∙ tied_by_length 24 0 c.args.key.now c.args.other.now c.requires.first
    c.requires.second (omega arith) c.requires.prefix

pub returns : goal.returns
returns c =
    let k : KeyBytes = c.args.key.now in
    let m : KeyBytes = c.args.other.now in
    c.cmp-2.ensures ∙ ap (λ (x : KeyBytes). key_cmp x (take (length m - 24) (drop 24 m)))
    (rest_of k) ∙ ap (λ (x : KeyBytes). key_cmp (drop 24 k) x) (rest_of m)
    ∙ tied_by_rest 24 0 k m c.requires.first c.requires.second (omega arith) (omega arith)
    c.requires.prefix
