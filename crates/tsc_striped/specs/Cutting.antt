-- A batch of marks, cut to the stripes. (For private contracts.)
use Rattle.std.specs.Prelude.{◌≡◌, ◌⊎◌, ℕ, suc, ◌+◌, ◌-◌, ◌<◌, ◌≤◌, List, [], length}
use Rattle.std.specs.Prelude.{slice_index_or}
use Rattle.tsc_span.specs.Span.{KeyBytes}
use Rattle.tsc_page_model.specs.Page.{Mark}
use Rattle.tsc_cache.specs.History.{CanAllBeAdded}
use Rattle.tsc_stripe_table.specs.Stripes.{Terms, marks_in}
use Rattle.tsc_striped.specs.Limits.{least_page_max}
use Rattle.tsc_striped.specs.declared.batch.Batch.{Batch}

-- nothing of some marks lies in the stripes below one, and in those above another
abbrev pub LieWithin : List KeyBytes → List Mark → ℕ → ℕ → Type 0
LieWithin bounds ms first last = (stripe : ℕ) → (stripe < first) ⊎ (last < stripe)
    → marks_in bounds stripe ms ≡ []

-- there is a piece for each stripe from the first to the last
pub record HasPieces (batch : Batch) : Type 0 where
  pub order : batch.first ≤ batch.last
  pub count : length batch.pieces.items ≡ suc (batch.last - batch.first)

-- Each piece is what lies of the marks in its stripe, and nothing of them lies in the others.
pub record IsCut (bounds : List KeyBytes) (batch : Batch) : Type 0 where
  pub has : HasPieces batch
  pub there : batch.last ≤ length bounds
  pub within : LieWithin bounds batch.marks.items batch.first batch.last
  pub pieces : (i : ℕ) (d : List Mark) → i < length batch.pieces.items
      → slice_index_or batch.pieces.items i d
      ≡ marks_in bounds (batch.first + i) batch.marks.items

-- A batch may be added under some terms: it is cut to their stripes, it can be an entry, and the
-- largest page has room for what lies of it in a stripe.
pub record CanAddBatch (terms : Terms) (batch : Batch) : Type 0 where
  pub cut : IsCut terms.bounds batch
  pub can : CanAllBeAdded terms.config batch.marks.items batch.moment
  pub room : least_page_max ≤ terms.config.page_max

-- a stripe between the first and the last
abbrev pub IsAmong : Batch → ℕ → Type 0
IsAmong batch stripe = (batch.first ≤ stripe) × (stripe ≤ batch.last)

-- nothing of a batch lies in the stripes from one on, below another
abbrev pub SkipsTo : List KeyBytes → Batch → ℕ → ℕ → Type 0
SkipsTo bounds batch stripe next = (other : ℕ) → stripe ≤ other → other < next
    → marks_in bounds other batch.marks.items ≡ []
