-- What a caller asks to add, and a copy of it. (For private contracts.)
use Rattle.std.specs.Prelude.{◌≡◌, List, [], ◌∷◌}
use Rattle.tsc_time.specs.Time.{Time}
use Rattle.tsc_page_model.specs.Page.{Mark}
use Rattle.tsc_shared.specs.declared.adds.MarksRef.{MarksRef}
use Rattle.tsc_shared.specs.declared.adds.MarksRef.TheVariants.{One, Many}
use Rattle.tsc_shared.specs.declared.adds.UnappliedAdd.{UnappliedAdd}
use Rattle.tsc_shared.specs.Caches.{marks_in}

-- the marks that a caller asks to add
abbrev pub marks_asked : MarksRef → List Mark
marks_asked (One span value) = record { span = span.now; value = value } ∷ []
marks_asked (Many marks) = marks.now

-- A copy of some marks, with the moment at which they are added.
abbrev pub IsCopyOf : List Mark → Time → UnappliedAdd → Type 0
IsCopyOf ms moment add = (marks_in add.marks ≡ ms) × (add.moment ≡ moment)
