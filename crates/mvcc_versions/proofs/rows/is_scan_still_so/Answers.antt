-- Proves the contract of `is_scan_still_so`. Whether a read of several keys is still what is there
-- as of a time.
use Rattle.std.proofs.Common.{◌≡◌, ◌∙◌, sym, subst, List}
use Rattle.mvcc_versions.specs.Versions.{Row, Read, as_of, Matches}
use Rattle.mvcc_versions.proofs.RowsAsOf.{matches_once}
use Rattle.mvcc_versions.proofs.rows.is_scan_still_so.Goals as goal

pub returns : goal.returns
returns c =
    let span = c.read.inside.span in
    let rows = c.in_ok-rows.rows.items in
    let reported = c.read.inside.rows.items in
    let there = as_of c.args.at c.args.chains.now.entries in
    let is : Matches (record { span = span; rows = rows }) there = c.in_ok-rows.ensures in (
      λ yes. let same : rows ≡ reported = sym c.deref.ensures.value ∙ (c.same_rows.ensures.0 yes
          ∙ c.deref-2.ensures.value) in
          subst (λ (q : Read). Matches q there) c.read.view_is
          (subst (λ (xs : List Row). Matches (record { span = span; rows = xs }) there) same
          is),
      λ m. let was : Matches (record { span = span; rows = reported }) there =
          subst (λ (q : Read). Matches q there) (sym c.read.view_is) m in
          c.same_rows.ensures.1 (c.deref.ensures.value ∙
          (matches_once span rows reported there is was ∙ sym c.deref-2.ensures.value)),
    )
