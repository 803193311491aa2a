use Rattle.std.proofs.Common.{Some}
use Rattle.swap_digraph.proofs.Ranges.{map_more}
use Rattle.party_wallet.specs.Keys.{new_wallet}
use Rattle.swap_gen.specs.Made.{seed_keys, seed_or_zeros}
use Rattle.swap_gen.proofs.wallets.prepared_wallets.Goals as goal

pub parties-preserved : goal.parties-preserved
parties-preserved c =
    let job = c.args.job.now in
    record {
      wallets = map_more (λ p. Some (new_wallet (seed_or_zeros job.seeds p) p job.deal)) c.parties.p c.parties.made.wallets.items c.add.new.made.wallets.items
          c.in_ok-add.ensures.wallets c.parties.invariant.wallets;
      keys = map_more (seed_keys job.seeds job.deal) c.parties.p c.parties.made.keys.items c.add.new.made.keys.items c.in_ok-add.ensures.keys
          c.parties.invariant.keys;
    }
