-- Proves the contract of `is_still_so`. Whether a read is still what is there as of a time.
use Rattle.std.proofs.Common.{◌∙◌, sym, subst}
use Rattle.std.specs.Prelude.{option_map}
use Rattle.mvcc_versions.specs.Versions.{Read, as_of, Matches}
use Rattle.mvcc_versions.proofs.RowsAsOf.{key_still}
use Rattle.mvcc_versions.proofs.rows.is_still_so.Goals as goal

pub returns-in-Some : goal.returns-in-Some
returns-in-Some c =
    let there = as_of c.args.at c.args.chains.now.entries in
    let still = key_still c.in-Some.key.now (option_map (λ b. b.now.items) c.content_at.result)
    c.read.inside.span c.read.inside.rows.items there c.in-Some.ensures c.content_at.ensures in (
      λ yes. subst (λ (r : Read). Matches r there) c.read.view_is
          (still.0 (sym c.deref.ensures.value ∙ c.has_row.ensures.0 yes)),
      λ m. c.has_row.ensures.1 (c.deref.ensures.value
          ∙ still.1 (subst (λ (r : Read). Matches r there) (sym c.read.view_is) m)),
    )
