use Rattle.std.proofs.Common.{◌≡◌, subst, sym, set}
use Rattle.std.specs.Prelude.{OnOk}
use Rattle.party_machine.specs.Machine.{MachineState, learnt}
use Rattle.party_machine.specs.Within.{all_entries}
use Rattle.party_machine.proofs.MachineEntries.{fronts, called_ready, called_shows}
use Rattle.party_machine.specs.Rest.{MayRest}
use Rattle.party_machine.proofs.Resting.{shown, learns}
use Rattle.party_machine.proofs.machine.Machine.learn.Goals as goal

pub extend-added-requires : goal.extend-added-requires
extend-added-requires g c =
    let i = c.self.inside in
    let r = rw (← c.self.view_is) at c.requires in
    fronts i.deal i.wallet i.known.items c.args.arc c.index_mut-index.result.now c.args.entries c.self.invariant.ready r.arc
    c.index_mut-index.ensures.value r.legal

pub invariant_of-self : goal.invariant_of-self
invariant_of-self g c =
    let i = c.self.inside in
    let r = rw (← c.self.view_is) at c.requires in
    record {
      ready =
          called_ready i.deal i.wallet i.known.items c.args.arc c.index_mut-index.result.now c.extend-added.new.self c.args.entries
          c.extend-added.result c.self.invariant.ready r.arc c.index_mut-index.ensures.value c.extend-added.ensures.arc r.legal
          c.extend-added.ensures.ok c.extend-added.ensures.err;
      rests = subst (λ z. MayRest z (shown i.deal i.wallet (set i.known.items c.args.arc c.extend-added.new.self))) (sym c.remaining_rest-self-inside.ensures)
          (learns i.rest i.deal i.wallet i.known.items c.args.arc c.index_mut-index.result.now c.extend-added.new.self c.args.entries
          c.extend-added.result c.are_ticks-ticks.result c.height-height.result c.self.invariant.ready c.self.invariant.rests r.arc
          c.index_mut-index.ensures.value c.extend-added.ensures.ok c.extend-added.ensures.err c.are_ticks-ticks.ensures c.height-height.ensures);
    }

pub returns-clause-ok : goal.returns-clause-ok
returns-clause-ok g c =
    let i = c.self.inside in
    let r = rw (← c.self.view_is) at c.requires in
    subst
    (λ (s : MachineState). OnOk c.extend-added.result (◌≡◌ {A =
    MachineState} (record {
      deal = i.deal;
      me = i.wallet.party;
      seed = i.wallet.seed;
      known =
          all_entries (set i.known.items c.args.arc c.extend-added.new.self);
      signed = i.wallet.signed;
    }) (learnt s c.args.arc c.args.entries)))
    c.self.view_is
    (called_shows i.deal i.wallet i.known.items c.args.arc c.index_mut-index.result.now c.extend-added.new.self c.args.entries c.extend-added.result
    c.self.invariant.ready r.arc c.index_mut-index.ensures.value c.extend-added.ensures.ok)
