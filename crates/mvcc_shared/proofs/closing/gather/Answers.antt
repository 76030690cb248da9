-- Proves the contract of `gather`. The states of all clients come to a participant.
use Rattle.std.proofs.Common.{◌≡◌, ◌∙◌, ◌++◌, ◌∷◌, [], append_assoc, refl, ap}
use Rattle.tsc_left_right.proofs.Plain.{all_middle}
use Rattle.mvcc_shared.specs.Keeping.{state_of_client}
use Rattle.mvcc_shared.proofs.Dealing.{rest_keeps, taken_keeps, gathered_then}
use Rattle.mvcc_shared.proofs.closing.gather.Goals as goal

pub merge-requires-clause-table : goal.merge-requires-clause-table
merge-requires-clause-table c =
    let range = all_middle (λ client. client.range ≡ c.requires.clients.0)
    c.pop.new.self.items c.loop-client.invariant.0 c.args.clients.items
    c.loop-client.clients.items c.in-Some.client c.loop-client.invariant.1 c.in-Some.ensures.items
    c.requires.clients.2 in (
      ap (λ s. s.range.table) c.client.view_is ∙ ap (λ n. n.table) range ∙ c.requires.clients.1,
      c.loop-client.invariant.2,
    )

pub merge-requires-clause-states : goal.merge-requires-clause-states
merge-requires-clause-states c = (
  rest_keeps c.client.inside.participant.me c.client.invariant.rest,
  taken_keeps c.loop-client.all.me c.loop-client.invariant.0 c.args.others.me.0.states
      c.loop-client.invariant.4,
)

pub merge-requires-clause-free : goal.merge-requires-clause-free
merge-requires-clause-free c = ap (λ m. m.1) c.loop-client.invariant.4

pub loop-client-preserved : goal.loop-client-preserved
loop-client-preserved c =
    let range = all_middle (λ client. client.range ≡ c.requires.clients.0)
    c.pop.new.self.items c.loop-client.invariant.0 c.args.clients.items
    c.loop-client.clients.items c.in-Some.client c.loop-client.invariant.1 c.in-Some.ensures.items
    c.requires.clients.2 in (
      c.in-Some.client ∷ c.loop-client.invariant.0,
      c.loop-client.invariant.1 ∙ ap (λ xs. xs ++ c.loop-client.invariant.0) c.in-Some.ensures.items
          ∙ append_assoc c.pop.new.self.items (c.in-Some.client ∷ [])
          c.loop-client.invariant.0,
      c.merge.ensures.table ∙ ap (λ s. s.range.table) c.client.view_is ∙ ap (λ n. n.table) range
          ∙ c.requires.clients.1,
      refl,
      gathered_then c.client.inside.participant.me c.merge.new.who.me c.loop-client.all.me
          c.in-Some.client c.loop-client.invariant.0 c.args.others.me.0.states
          c.client.invariant.rest
          (ap state_of_client c.client.view_is) c.loop-client.invariant.4 c.merge.ensures.both,
    )
