-- No leaf is larger than 64.
use Rattle.std.proofs.Common.{◌≡◌, ◌∙◌, sym, ap, ℕ, List, arith}
use Rattle.std.specs.Prelude.{Option, Result, Ok, Err, slice_get}
use Rattle.std.specs.Result.{result_ok}
use Rattle.std.proofs.lemmas.Option.{slice_get_past}
use Rattle.tsc_page_tree.specs.Lazy.{ReportsSize}
use Rattle.tsc_page_tree.specs.Roots.{TreeView, root_sizes}
use Rattle.tsc_page_tree.proofs.Wholes.{few_of_reported}
use Rattle.tsc_page_tree.proofs.tree.Tree.leaf_len.Goals as goal

-- past the last leaf there is none
reported_value : (sizes : List ℕ) (index : ℕ) (r : Result ℕ ℕ) (o : Option ℕ) → o ≡ result_ok r →
    ReportsSize sizes index r → o ≡ slice_get sizes index
reported_value sizes index (Ok n) o is reported = is ∙ sym reported
reported_value sizes index (Err rest) o is reported =
    is ∙ sym (slice_get_past sizes index (omega (arith, reported)))

pub returns-clause-value : goal.returns-clause-value
returns-clause-value c =
    reported_value (root_sizes c.self.inside.root) c.args.index c.leaf_len.result c.ok.result
    c.ok.ensures.value c.leaf_len.ensures ∙
    ap (λ (t : TreeView). slice_get t.sizes c.args.index) c.self.view_is

pub returns-clause-few : goal.returns-clause-few
returns-clause-few c = few_of_reported (root_sizes c.self.inside.root) c.args.index
    c.leaf_len.result c.ok.result c.self.invariant.sizes.few c.ok.ensures.value c.leaf_len.ensures
