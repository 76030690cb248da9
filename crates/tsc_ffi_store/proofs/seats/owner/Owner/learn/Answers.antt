-- What the keeper's token learns, the owner does.
use Rattle.std.proofs.Common.{◌∙◌, ap, subst}
use Rattle.std.specs.Arc.{arc_value}
use Rattle.atomic_table.specs.Seated.{TableId}
use Rattle.tsc_ffi_store.specs.Owners.{OwnerView, LearnsOf}
use Rattle.tsc_ffi_store.specs.ReturnSteps.{LearnsBy}
use Rattle.tsc_ffi_store.specs.Seating.{SharedHandleView}
use Rattle.tsc_ffi_store.proofs.Learning.{keeps_on, owner_of, owner_learns}
use Rattle.tsc_ffi_store.proofs.seats.owner.Owner.learn.Goals as goal

pub invariant_of-self : goal.invariant_of-self
invariant_of-self c = (
  keeps_on (arc_value c.self.inside.shared) _ c.self.inside.keeper.table_id
      c.learn_back.new.keeper.table_id c.args.token.table_id c.args.token.me.0
      c.self.inside.keeper.me c.learn_back.new.keeper.me c.self.inside.seats
      c.self.inside.returned c.self.invariant.0 c.learn_back.ensures.table
      c.learn_back.ensures.learned,
  c.self.invariant.1,
  c.self.invariant.2,
)

pub returns : goal.returns
returns c =
    let shared : SharedHandleView = arc_value c.self.inside.shared in
    subst (λ (o : OwnerView). LearnsOf c.args.token.table_id c.args.token.me.0.back o
    (owner_of shared.cache shared.table c.learn_back.new.keeper.me)) c.self.view_is
    (owner_learns shared.cache shared.table c.args.token.table_id c.args.token.me.0
    c.self.inside.keeper.me c.learn_back.new.keeper.me
    (subst (λ (z : TableId). LearnsBy z c.args.token.table_id c.args.token.me.0
    c.self.inside.keeper.me c.learn_back.new.keeper.me)
    (ap (λ (v : SharedHandleView). v.table) (c.behind-self.view_is ∙ c.deref.ensures))
    c.learn_back.ensures.learned))
