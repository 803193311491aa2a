use Rattle.std.proofs.Common.{◌++◌, ◌∷◌, [], take}
use Rattle.std.specs.List.{flat_map}
use Rattle.hashkey_path.specs.Digest.{Feeds}
use Rattle.party_terms.proofs.agreed.feed_context.Given as goal

abbrev pub invariant-lines : goal.invariant-lines
invariant-lines l = Feeds l.fn.hasher l.hasher (flat_map (λ x. x.line ++ 10 ∷ []) (take l.about-index l.context))
