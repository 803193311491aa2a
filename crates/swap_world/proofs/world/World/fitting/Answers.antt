use Rattle.std.proofs.Common.{◌∙◌, sym, ap, length}
use Rattle.swap_run.proofs.Good.{good_is_kept}
use Rattle.swap_rules.proofs.Accepted.{accepted_is_well_sized}
use Rattle.swap_world.proofs.Team.{role_each}
use Rattle.swap_world.proofs.Begun.{world_is, ready, actors, ledgers, good, room, journals}
use Rattle.swap_world.proofs.world.World.fitting.Goals as goal

pub new_players-requires-clause-sized : goal.new_players-requires-clause-sized
new_players-requires-clause-sized c = accepted_is_well_sized c.args.job.now.deal c.requires.accepted

pub new_players-requires-clause-roles : goal.new_players-requires-clause-roles
new_players-requires-clause-roles c = role_each c.args.job.now c.requires.seeds c.requires.roles

pub make_ledgers-requires : goal.make_ledgers-requires
make_ledgers-requires c = accepted_is_well_sized c.args.job.now.deal c.requires.accepted

pub invariant_of-result : goal.invariant_of-result
invariant_of-result c =
    let job = c.args.job.now in
    let d = c.in_ok-copy_deal.field-0 in
    let ec = c.new.ensures ∙ (c.in_ok-from_slice.ensures.items ∙ c.as_slice.ensures) in
    let er = c.in_ok-copy-2.ensures in
    let ls = c.in_ok-make_ledgers.field-0.items in
    let ys = c.in_ok-with_journals.field-0.items in
    let ea = c.in_ok-with_journals.ensures.same ∙ c.in_ok-players.ensures in
    record {
      ready =
          ready job d c.new.result c.in_ok-copy.field-0 c.in_ok-copy-2.field-0 ls ys c.in_ok-copy_deal.ensures ec c.in_ok-copy.ensures er
          c.in_ok-make_ledgers.ensures ea c.requires.seeds c.requires.roles c.requires.fit c.requires.accepted;
      ledgers =
          ledgers job d c.new.result c.in_ok-copy.field-0 c.in_ok-copy-2.field-0 ls ys c.in_ok-copy_deal.ensures ec c.in_ok-copy.ensures er
          c.in_ok-make_ledgers.ensures ea c.requires.seeds c.requires.roles c.requires.fit;
      actors =
          actors job d c.new.result c.in_ok-copy.field-0 c.in_ok-copy-2.field-0 ls ys c.in_ok-copy_deal.ensures ec c.in_ok-copy.ensures er
          c.in_ok-make_ledgers.ensures ea c.requires.seeds c.requires.roles c.requires.fit;
      askers = ap length c.new-2.ensures ∙ sym (ap length c.new-4.ensures);
      told = ap length c.new-3.ensures ∙ sym (ap length c.new-4.ensures);
      good =
          λ g. rw c.new-2.ensures (good job d c.new.result c.in_ok-copy.field-0 c.in_ok-copy-2.field-0 ls ys c.in_ok-copy_deal.ensures ec
          c.in_ok-copy.ensures er c.in_ok-make_ledgers.ensures ea c.requires.seeds c.requires.roles c.requires.fit c.requires.accepted);
      room = λ on. room job d c.new.result c.in_ok-copy.field-0 c.in_ok-copy-2.field-0 ls ys c.in_ok-copy_deal.ensures ec c.in_ok-copy.ensures er
          c.in_ok-make_ledgers.ensures ea c.requires.seeds c.requires.roles c.requires.fit;
      journals = λ on. journals job d c.new.result c.in_ok-copy.field-0 c.in_ok-copy-2.field-0 ls ys c.in_ok-copy_deal.ensures ec c.in_ok-copy.ensures er
          c.in_ok-make_ledgers.ensures ea c.requires.seeds c.requires.roles c.requires.fit c.in_ok-with_journals.ensures.journals;
      disks = λ on. absurd (cc on);
      kept =
          good_is_kept _ _ (ready job d c.new.result c.in_ok-copy.field-0 c.in_ok-copy-2.field-0 ls ys c.in_ok-copy_deal.ensures ec c.in_ok-copy.ensures er
          c.in_ok-make_ledgers.ensures ea c.requires.seeds c.requires.roles c.requires.fit c.requires.accepted)
          (good job d c.new.result c.in_ok-copy.field-0 c.in_ok-copy-2.field-0 ls ys c.in_ok-copy_deal.ensures ec c.in_ok-copy.ensures er
          c.in_ok-make_ledgers.ensures ea c.requires.seeds c.requires.roles c.requires.fit c.requires.accepted);
    }

pub returns : goal.returns
returns c =
    rw (c.new-2.ensures, c.new-4.ensures) (world_is c.args.job.now c.in_ok-copy_deal.field-0 c.new.result c.in_ok-copy.field-0 c.in_ok-copy-2.field-0
    c.in_ok-make_ledgers.field-0.items
    c.in_ok-with_journals.field-0.items
    c.in_ok-copy_deal.ensures
    (c.new.ensures ∙ (c.in_ok-from_slice.ensures.items ∙ c.as_slice.ensures)) c.in_ok-copy.ensures
    c.in_ok-copy-2.ensures c.in_ok-make_ledgers.ensures (c.in_ok-with_journals.ensures.same ∙ c.in_ok-players.ensures) c.requires.seeds c.requires.roles c.requires.fit)

pub with_journals-requires : goal.with_journals-requires
with_journals-requires c = record { sized = accepted_is_well_sized c.args.job.now.deal c.requires.accepted }
