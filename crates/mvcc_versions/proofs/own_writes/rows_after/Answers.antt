-- Proves the contract of `rows_after`. The rows of a read with writes put over them, one after
-- another.
use Rattle.std.proofs.Common.{◌≡◌, ◌∙◌, ap, sym, subst, List}
use Rattle.std.proofs.lemmas.Result.{IfOk-weaker}
use Rattle.timestamp_cache.specs.Words.{SpanView}
use Rattle.mvcc_versions.specs.Versions.{Contents, Row, Read, Matches, after_writes}
use Rattle.mvcc_versions.specs.OwnRows.{put_writes}
use Rattle.mvcc_versions.proofs.OwnRows.{rows_written}
use Rattle.mvcc_versions.proofs.own_writes.rows_after.Goals as goal

pub returns : goal.returns
returns c =
    let span = c.read.inside.span in
    let rows = c.read.inside.rows.items in
    let ws = c.args.writes.now in
    IfOk-weaker c.rows_over.result _ _ (λ over is there m.
    let after : Contents = λ k. after_writes k (there k) ws in
    let was : Matches (record { span = span; rows = rows }) there
    = subst (λ (q : Read). Matches q there) (sym c.read.view_is) m in
    let same : put_writes span rows ws ≡ over.items
    = sym (is ∙ ap (λ (xs : List Row). put_writes span xs ws) c.deref.ensures.value) in
    subst (λ (s : SpanView). Matches (record { span = s; rows = over.items }) after)
    (ap (λ (q : Read). q.span) c.read.view_is)
    (subst (λ (xs : List Row). Matches (record { span = span; rows = xs }) after) same
    (rows_written span rows ws there was))) c.rows_over.ensures
