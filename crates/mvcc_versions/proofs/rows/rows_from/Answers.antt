-- Proves the contract of `rows_from`. The rows of a span, whose first end key is given, as of a
-- time.
use Rattle.std.proofs.Common.{
  ◌≡◌,
  ◌∙◌,
  ◌++◌,
  [],
  append-nil,
  append_assoc,
  ap,
  sym,
  subst,
  List,
  true,
}
use Rattle.std.specs.Map.{keys_of}
use Rattle.std.specs.Map.Iter.{deref_pair}
use Rattle.std.proofs.lemmas.Map.Keys.{sorted_tail}
use Rattle.std.proofs.lemmas.Map.Iter.{rest_more, rest_all}
use Rattle.tsc_span.specs.Span.{key_cmp}
use Rattle.timestamp_cache.specs.Words.{KeyBytes}
use Rattle.mvcc_versions.specs.Versions.{Version, Row, as_of, Matches}
use Rattle.mvcc_versions.specs.RowsIn.{rows_in, row_in, stops_before}
use Rattle.mvcc_versions.proofs.RowsAsOf.{
  AreSorted,
  Entries,
  rows_match,
  rows_from,
  sorted_from,
  rows_stop,
}
use Rattle.mvcc_versions.proofs.rows.rows_from.Goals as goal

pub loop-key-init : goal.loop-key-init
loop-key-init c =
    let span = c.args.span.now in
    let es = c.args.chains.now.entries in
    let is = c.into_iter-key-iterator.ensures.into_iter_gives
    ∙ c.range-key-items.ensures.between tt in
    record {
      so_far = ap (λ (rs : List Row). rs ++ rows_in span c.args.at c.into_iter-key-iterator.result)
          c.new-rows.ensures.items
          ∙ (ap (λ (xs : Entries). rows_in span c.args.at xs) is
          ∙ rows_from span c.args.at c.args.first.now es c.requires);
      sorted = subst AreSorted (sym is)
          (sorted_from c.args.first.now es c.range-key-items.ensures.ordered);
    }

pub returns-then-stops_before : goal.returns-then-stops_before
returns-then-stops_before c =
    let span = c.args.span.now in
    let at = c.args.at in
    let es = c.args.chains.now.entries in
    let rest = c.loop-key.key-iterator in
    let rows = c.loop-key.rows.items in
    let e = rest_more deref_pair rest c.next.new.self c.next.result (
      c.in-Some.key,
      c.in-Some.chain,
    ) c.in-Some.is c.next.ensures.steps in
    let stops : stops_before span c.in-Some.key.now ≡ true = sym c.stops_before.ensures
    ∙ c.if-stops_before.true in
    let none : rows_in span at rest ≡ [] = ap (λ (xs : Entries). rows_in span at xs) e
    ∙ rows_stop span at (c.in-Some.key.now, c.in-Some.chain.now) c.next.new.self
    (subst AreSorted e c.loop-key.invariant.sorted) stops in
    let all : rows ≡ rows_in span at es = sym (append-nil rows)
    ∙ (ap (λ (rs : List Row). rows ++ rs) (sym none) ∙ c.loop-key.invariant.so_far) in
    subst (λ (rs : List Row). Matches (record { span = span; rows = rs }) (as_of at es)) (sym all)
    (rows_match span at es c.range-key-items.ensures.ordered)

pub loop-key-preserved : goal.loop-key-preserved
loop-key-preserved c =
    let span = c.args.span.now in
    let at = c.args.at in
    let t = c.next.new.self in
    let rest = c.loop-key.key-iterator in
    let rows = c.loop-key.rows.items in
    let x : KeyBytes × List Version = (c.in-Some.key.now, c.in-Some.chain.now) in
    let e = rest_more deref_pair rest t c.next.result (
      c.in-Some.key,
      c.in-Some.chain,
    ) c.in-Some.is c.next.ensures.steps in
    record {
      so_far = ap (λ (rs : List Row). rs ++ rows_in span at t) c.in_ok-add_row.ensures
          ∙ (append_assoc rows (row_in span at x) (rows_in span at t)
          ∙ (ap (λ (xs : Entries). rows ++ rows_in span at xs) (sym e)
          ∙ c.loop-key.invariant.so_far));
      sorted = sorted_tail key_cmp c.in-Some.key.now (keys_of t)
          (subst AreSorted e c.loop-key.invariant.sorted);
    }

pub returns : goal.returns
returns c =
    let span = c.args.span.now in
    let at = c.args.at in
    let es = c.args.chains.now.entries in
    let rest = c.loop-key.key-iterator in
    let rows = c.loop-key.rows.items in
    let none : rest ≡ [] =
    rest_all deref_pair rest c.next.new.self c.next.result c.in-None.is c.next.ensures.steps in
    let all : rows ≡ rows_in span at es = sym (append-nil rows)
    ∙ (ap (λ (xs : Entries). rows ++ rows_in span at xs) (sym none)
    ∙ c.loop-key.invariant.so_far) in
    subst (λ (rs : List Row). Matches (record { span = span; rows = rs }) (as_of at es)) (sym all)
    (rows_match span at es c.range-key-items.ensures.ordered)
