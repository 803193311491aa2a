use Rattle.std.proofs.Common.{◌≡◌, true, subst, sym, set}
use Rattle.std.specs.Prelude.{Ok}
use Rattle.ledger_core.specs.Runs.{run_ticks}
use Rattle.history_index.proofs.Extending.{takes_all}
use Rattle.party_machine.specs.Machine.{MachineState, learnt}
use Rattle.party_machine.specs.Within.{all_entries}
use Rattle.party_machine.specs.Rest.{MayRest}
use Rattle.party_machine.proofs.MachineEntries.{fronts, called_ready, called_shows}
use Rattle.party_machine.proofs.Resting.{shown, learns, are_all_ticks}
use Rattle.party_machine.proofs.machine.Machine.learn_ticks.Goals as goal

pub push_ticks-requires-clause-indexable : goal.push_ticks-requires-clause-indexable
push_ticks-requires-clause-indexable g c =
    let i = c.self.inside in
    let x = c.index_mut-index.result.now in
    let more = run_ticks c.args.run in
    let r = rw (← c.self.view_is) at c.requires in
    takes_all x.from x.to x.entries more
    (fronts i.deal i.wallet i.known.items c.args.arc x more c.self.invariant.ready r.arc c.index_mut-index.ensures.value r.legal)

pub invariant_of-self : goal.invariant_of-self
invariant_of-self g c =
    let i = c.self.inside in
    let x = c.index_mut-index.result.now in
    let y = c.push_ticks.new.self in
    let more = run_ticks c.args.run in
    let r = rw (← c.self.view_is) at c.requires in
    record {
      ready =
          called_ready {A = Unit {0}} {E = Unit {0}} i.deal i.wallet i.known.items c.args.arc x y more (Ok tt) c.self.invariant.ready r.arc
          c.index_mut-index.ensures.value c.push_ticks.ensures.arc r.legal c.push_ticks.ensures.entries tt;
      rests = subst (λ z. MayRest z (shown i.deal i.wallet (set i.known.items c.args.arc y))) (sym c.remaining_rest-self-inside.ensures)
          (learns {A = Unit {0}} {E = Unit {0}} i.rest i.deal i.wallet i.known.items c.args.arc x y more (Ok tt) true c.height-height.result
          c.self.invariant.ready c.self.invariant.rests r.arc c.index_mut-index.ensures.value c.push_ticks.ensures.entries tt
          (sym (are_all_ticks c.args.run)) c.height-height.ensures);
    }

pub returns-clause-learnt : goal.returns-clause-learnt
returns-clause-learnt g c =
    let i = c.self.inside in
    let y = c.push_ticks.new.self in
    let r = rw (← c.self.view_is) at c.requires in
    subst
    (λ (s : MachineState). ◌≡◌ {A =
    MachineState} (record {
      deal = i.deal;
      me = i.wallet.party;
      seed = i.wallet.seed;
      known =
          all_entries (set i.known.items c.args.arc y);
      signed = i.wallet.signed;
    }) (learnt s c.args.arc (run_ticks c.args.run)))
    c.self.view_is
    (called_shows {A = Unit {0}} {E = Unit {0}} i.deal i.wallet i.known.items c.args.arc c.index_mut-index.result.now y (run_ticks c.args.run) (Ok tt)
    c.self.invariant.ready r.arc c.index_mut-index.ensures.value c.push_ticks.ensures.entries)
