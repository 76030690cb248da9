-- Proves the contract of `Caches::next`. The copy after an Add.
use Rattle.std.proofs.lemmas.Result.{IfOk-weaker}
use Rattle.std.specs.Arc.{arc_value}
use Rattle.tsc_cache.specs.CacheView.{CacheView}
use Rattle.tsc_cache.specs.declared.added.Added.{Added}
use Rattle.tsc_left_right.specs.declared.changing.Next.{Next}
use Rattle.tsc_left_right.specs.Copies.{IsNextCopy}
use Rattle.tsc_shared.specs.Applying.{IsNext}
use Rattle.tsc_shared.specs.Caches.{caches, answer_of}
use Rattle.tsc_shared.proofs.AddingUp.{can_fit, next_copy}
use Rattle.tsc_shared.proofs.caches.CachesReplicate.next.Goals as goal

pub take_next-requires : goal.take_next-requires
take_next-requires c = record {
  fits = can_fit c.args.copies.now c.args.operation.now c.requires.may;
}

pub returns-clause-next : goal.returns-clause-next
returns-clause-next c = IfOk-weaker c.take_next.result
    (λ (next : Next CacheView Added). IsNext c.args.copies.now c.args.operation.now
    (arc_value next.copy) next.answer)
    (λ (next : Next CacheView Added). IsNextCopy caches answer_of c.args.copies.now
    c.args.operation.now (arc_value next.copy) next.answer)
    (λ next is. next_copy c.args.copies.now c.args.operation.now (arc_value next.copy) next.answer
    is) c.take_next.ensures.made
