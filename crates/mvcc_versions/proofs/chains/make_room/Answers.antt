-- Proves the contract of `make_room`. Makes a chain, where there is none, for each key that is
-- written, so that `link_all` needs no memory.
use Rattle.std.proofs.Common.{◌∙◌, sym, subst, take, length, List}
use Rattle.mvcc_versions.specs.Versions.{Write}
use Rattle.mvcc_versions.specs.Maps.{HaveRoom}
use Rattle.mvcc_versions.proofs.Lists.{more}
use Rattle.mvcc_versions.proofs.Linking.{have_room, more_room}
use Rattle.mvcc_versions.proofs.chains.make_room.Goals as goal

pub loop-write-preserved : goal.loop-write-preserved
loop-write-preserved c =
    let ws = c.args.writes.now in
    let n = length ws in
    let i = c.loop-write.write-index in
    let w = c.write-item.result in
    let new = c.make_room_for.new.chains in
    record {
      same = λ k. c.in_ok-make_room_for.ensures.same k ∙ c.loop-write.invariant.same k;
      room = subst (λ (xs : List Write). HaveRoom n new.entries xs)
          (sym (more ws i w c.loop-write-test.true (sym c.write-item.is)))
          (more_room n new (take i ws) w (have_room n n c.loop-write.chains new
          (take i ws) c.in_ok-make_room_for.ensures.keeps c.loop-write.invariant.room)
          c.in_ok-make_room_for.ensures.room);
    }
