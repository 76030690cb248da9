-- What the laws of one cache say of the marks, by the form in which the caller lends them.
use Rattle.std.proofs.Common.{◌≡◌, sym, subst, true}
use Rattle.tsc_page_model.specs.Page.{Mark}
use Rattle.tsc_cache.specs.ConfigView.{fits}
use Rattle.tsc_cache.specs.Batch.{all_fit}
use Rattle.tsc_cache.specs.History.{CanBeAdded, CanAllBeAdded}
use Rattle.tsc_shared.specs.declared.adds.MarksRef.{MarksRef}
use Rattle.tsc_shared.specs.Copying.{marks_asked}
use Rattle.tsc_shared.specs.Adding.{fits_asked}
use Rattle.tsc_shared.specs.Seats.{SharedView}
use Rattle.tsc_shared.proofs.shared.SharedCache.can_be_added.Goals as goal

pub returns-in-One : goal.returns-in-One
returns-in-One c =
    let cache = c.args.self.now in
    let moment = c.args.asked.now.moment in
    let mark : Mark = record { span = c.in-One.span.now; value = c.in-One.value } in
    subst (λ (ms : MarksRef). fits_asked cache.config ms ≡ true
    → CanAllBeAdded cache.config (marks_asked ms) moment) (sym c.in-One.is)
    (subst (λ (x : SharedView). fits x.config mark.span ≡ true → CanBeAdded x.config mark moment)
    c.self.view_is c.can_be_added.ensures)

pub returns-in-Many : goal.returns-in-Many
returns-in-Many c =
    let cache = c.args.self.now in
    let moment = c.args.asked.now.moment in
    let marks = c.in-Many.marks.now in
    subst (λ (ms : MarksRef). fits_asked cache.config ms ≡ true
    → CanAllBeAdded cache.config (marks_asked ms) moment) (sym c.in-Many.is)
    (subst (λ (x : SharedView). all_fit x.config marks ≡ true → CanAllBeAdded x.config marks moment)
    c.self.view_is c.can_all_be_added.ensures)
