use Rattle.std.proofs.Common.{arith}
use Rattle.sha2.proofs.Schedule256.{IsRoundsAt_at}
use Rattle.hash_chains.proofs.rounds.sixteen_steps.Goals as goal

pub returns : goal.returns
returns c = λ j lt b h held.
    let s1 = c.four_steps-v.ensures j lt b h (IsRoundsAt_at b h _ _ _ _ (omega arith) held) in
    let s2 = c.four_steps-v-2.ensures j lt b h s1 in
    let s3 = c.four_steps-v-3.ensures j lt b h s2 in
    let s4 = c.four_steps.ensures j lt b h s3 in
    IsRoundsAt_at b h _ _ _ _ (omega arith) s4
