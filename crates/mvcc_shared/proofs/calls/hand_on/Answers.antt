-- Proves the contract of `hand_on`. The range is handed on, under the lock.
use Rattle.std.proofs.Common.{◌∙◌}
use Rattle.mvcc_shared.specs.Answers.{HandsOnAt}
use Rattle.mvcc_shared.proofs.Making.{has_in_hand, may_release, has_made}
use Rattle.mvcc_shared.proofs.calls.hand_on.Goals as goal

pub slot_mut-served-requires : goal.slot_mut-served-requires
slot_mut-served-requires g c =
    let taken = c.acquire.ensures.acquired in (
      c.acquire.ensures.table ∙ c.requires.0.table,
      (taken.0, has_in_hand c.args.who.now.me c.acquire.new.who.me taken.0 taken.1),
    )

pub release-requires-clause-can : goal.release-requires-clause-can
release-requires-clause-can g c =
    may_release c.args.who.now.me c.acquire.new.who.me c.acquire.ensures.acquired
    c.slot_mut-served.result.now c.deref_mut.result.now c.hand_on-handed.new.self c.requires.1
    c.slot_mut-served.ensures.value c.deref_mut.ensures.value c.hand_on-handed.ensures.made

pub returns-clause-called : goal.returns-clause-called
returns-clause-called g c =
    has_made c.args.who.now.me c.acquire.new.who.me c.acquire.ensures.acquired
    c.slot_mut-served.result.now c.deref_mut.result.now c.hand_on-handed.new.self c.requires.1
    c.slot_mut-served.ensures.value c.deref_mut.ensures.value c.hand_on-handed.ensures.made
    c.release.new.who.me
    (λ old call new. HandsOnAt old call new c.args.config c.args.most c.args.now
    c.hand_on-handed.result)
    c.release.ensures.released c.hand_on-handed.ensures.hands_on
