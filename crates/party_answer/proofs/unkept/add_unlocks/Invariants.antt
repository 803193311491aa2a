use Rattle.std.proofs.Common.{◌≡◌, drop}
use Rattle.party_wallet.specs.Value.{signed_hashkey}
use Rattle.party_answer.specs.Unkept.{with_unlocks}
use Rattle.party_answer.proofs.unkept.add_unlocks.Given as goal

abbrev pub invariant-loop-unlock : goal.invariant-loop-unlock
invariant-loop-unlock l =
    with_unlocks (signed_hashkey l.kept.keys) l.arc l.initial.list.items l.unlocks
    ≡ with_unlocks (signed_hashkey l.kept.keys) l.arc l.list.items (drop l.unlock-index l.unlocks)
