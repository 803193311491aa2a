use Rattle.std.proofs.Common.{◌≢◌, zero-add, None, arith, get_or-set_other}
use Rattle.std.proofs.Math.ListN.{length-set}
use Rattle.std.proofs.lemmas.Grind.{common_steps}
use Rattle.std.proofs.lemmas.List.FromFn.{get_or-map-range_with_len, length-map-range_with_len}
use Rattle.swap_digraph.proofs.Ranges.{map_more}
use Rattle.party_wallet.specs.Wallets.{job_wallet}
use Rattle.swap_world.specs.Actors.{job_actor}
use Rattle.swap_world.proofs.players.new_players.Goals as goal

pub parties-init : goal.parties-init
parties-init c =
    let job = c.args.job.now in
    let f = job_wallet job.deal job.conforming job.seeds in
    record {
      so_far = grind (arith, common_steps);
      one_each = rw c.requires.wallets (length-map-range_with_len f 0 job.deal.graph.n);
      wallets = λ k le lt. rw c.requires.wallets (get_or-map-range_with_len f 0 job.deal.graph.n k k None lt (zero-add k));
    }

pub add_player-requires-clause-fits : goal.add_player-requires-clause-fits
add_player-requires-clause-fits c = c.requires.fit c.parties.p (rw c.n-p-end.ensures at c.parties-test.true)

pub parties-preserved : goal.parties-preserved
parties-preserved c = record {
  so_far = map_more (job_actor c.args.job.now) c.parties.p c.parties.players.items c.add_player.new.players.items c.in_ok-add_player.ensures
      c.parties.invariant.so_far;
  one_each = simp length-set c.parties.invariant.one_each;
  wallets = λ k le lt. let other : k ≢ c.parties.p = omega arith in rw get_or-set_other (c.parties.invariant.wallets k (omega arith) lt);
}
