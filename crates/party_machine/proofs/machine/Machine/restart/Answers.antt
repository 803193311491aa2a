use Rattle.std.proofs.Common.{◌≡◌, ◌∙◌, length, ap}
use Rattle.party_wallet.specs.Keys.{with_recorded}
use Rattle.party_machine.specs.Machine.{MachineState, resumed_machine}
use Rattle.party_machine.proofs.MachineEntries.{restarted_ready, restarted_is}
use Rattle.party_machine.proofs.Recorded.{below}
use Rattle.party_machine.proofs.machine.Machine.restart.Goals as goal

pub invariant_of-self : goal.invariant_of-self
invariant_of-self g c =
    let i = c.self.inside in
    let signed = c.args.journal.now.signed in
    let is : c.in_ok-wallet.wallet ≡ with_recorded i.wallet c.args.journal.now.signed =
    c.in_ok-wallet.ensures.value ∙ ap (with_recorded i.wallet) (c.as_slice.ensures ∙ c.keys.ensures.value) in
    let places : length c.args.journal.now.signed ≡ length i.deal.leaders = rw (← c.self.view_is) at c.requires.places in
    record {
      ready =
          restarted_ready i.deal i.wallet c.in_ok-wallet.wallet i.known.items c.in_ok-known.known.items signed c.self.invariant.ready
          c.in_ok-known.ensures is places (λ n k at. c.keys.ensures.locks c.requires.sound n k (below signed n k at) at);
      rests = tt;
    }

pub returns-clause-ok : goal.returns-clause-ok
returns-clause-ok g c =
    let i = c.self.inside in
    let is : c.in_ok-wallet.wallet ≡ with_recorded i.wallet c.args.journal.now.signed =
    c.in_ok-wallet.ensures.value ∙ ap (with_recorded i.wallet) (c.as_slice.ensures ∙ c.keys.ensures.value) in
    restarted_is i.deal i.wallet c.in_ok-wallet.wallet c.in_ok-known.known.items c.args.journal.now.signed c.in_ok-known.ensures is
    ∙ ap (λ (s : MachineState). resumed_machine s.deal s.me s.seed c.args.journal.now.signed) c.self.view_is
