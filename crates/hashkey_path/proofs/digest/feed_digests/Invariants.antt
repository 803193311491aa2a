use Rattle.std.proofs.Common.{take}
use Rattle.std.specs.List.{flat_map}
use Rattle.hashkey_path.specs.Digest.{Feeds}
use Rattle.hashkey_path.proofs.digest.feed_digests.Given as goal

abbrev pub invariant-digests : goal.invariant-digests
invariant-digests l = Feeds l.fn.hasher l.hasher (flat_map (λ digest. digest) (take l.digest-index l.digests))
