-- One bound more is cut off.
use Rattle.std.proofs.Common.{◌≡◌, ◌++◌, ◌∷◌, [], rules}
use Rattle.tsc_ffi_store.proofs.BoundsCut.{CutsOn, one_cut}
use Rattle.tsc_ffi_store.proofs.named_bounds.bounds.Goals as goal

pub loop-len-preserved : goal.loop-len-preserved
loop-len-preserved c =
    let so_far : CutsOn c.args.args.now.keys.now c.args.args.now.lens.now c.loop-len.len-index
    c.loop-len.bounds.items c.loop-len.rest.now = record {
      all = c.loop-len.invariant.0;
      lengths = c.loop-len.invariant.1;
      left = c.loop-len.invariant.2;
    } in
    let pushed : c.push.new.self.items ≡ c.loop-len.bounds.items ++ c.in_ok-bound.field-0 ∷ [] =
    search rules in
    let more = one_cut c.args.args.now.keys.now c.args.args.now.lens.now c.loop-len.len-index _
    c.loop-len.bounds.items c.push.new.self.items c.loop-len.rest.now c.split_at.result.0.now
    c.split_at.result.1.now c.in_ok-bound.field-0 c.loop-len-test.true
    c.split_at.ensures.by_index.0 c.split_at.ensures.front_len c.split_at.ensures.back_len
    c.in_ok-bound.ensures.value pushed so_far in
    (more.all, more.lengths, more.left)
