use Rattle.std.proofs.Common.{◌≡◌, true}
use Rattle.hashkey_path.specs.LastSignatures.{is_last_signed}
use Rattle.swap_auditor.proofs.found.Found.known_key.Given as goal

abbrev pub invariant-loop-found : goal.invariant-loop-found
invariant-loop-found l = is_last_signed l.most l.self l.key ≡ true
