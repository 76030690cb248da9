-- There are pieces for each stripe that was met.
use Rattle.std.proofs.Common.{◌≡◌, ℕ, ◌+◌, ◌-◌, ◌<◌, List, length}
use Rattle.std.specs.Prelude.{slice_index_or}
use Rattle.tsc_page_model.specs.Page.{Mark}
use Rattle.tsc_stripe_table.specs.Stripes.{marks_in}
use Rattle.tsc_striped.proofs.batch.Batch.new.Given as goal

abbrev pub invariant-loop-stripe : goal.invariant-loop-stripe
invariant-loop-stripe l =
    (length l.pieces.items ≡ l.stripe - l.touched.first)
    × ((i : ℕ) (d : List Mark) → i < length l.pieces.items → slice_index_or l.pieces.items i d
    ≡ marks_in l.fn.bounds (l.touched.first + i) l.marks.items)
