-- Proves the contract of `play`. The seats of a cache that was just opened are its own.
use Rattle.std.proofs.Common.{rules}
use Rattle.test_shared.proofs.Others.{each_is_of}
use Rattle.test_shared.proofs.stage.play.Goals as goal

pub play_case-requires : goal.play_case-requires
play_case-requires g c = (search rules, each_is_of _ _ _ c.in_ok-cache.ensures.in_order)
