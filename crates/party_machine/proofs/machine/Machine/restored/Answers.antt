use Rattle.std.proofs.Common.{◌≡◌, length}
use Rattle.party_machine.proofs.MachineEntries.{restored_ready}
use Rattle.party_machine.proofs.Recorded.{below}
use Rattle.party_machine.proofs.machine.Machine.restored.Goals as goal

pub invariant_of-result : goal.invariant_of-result
invariant_of-result c =
    let i = c.self.inside in
    let signed = c.args.signed.now in
    let places : length signed ≡ length i.deal.leaders = rw (← c.self.view_is) at c.requires.places in
    record {
      ready =
          restored_ready i.deal i.wallet c.in_ok-wallet.wallet i.known.items signed c.self.invariant.ready c.in_ok-wallet.ensures.value places
          (λ n k at. c.requires.locks n k (below signed n k at) at);
      rests = tt;
    }
