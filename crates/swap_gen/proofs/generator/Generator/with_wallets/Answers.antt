use Rattle.std.proofs.Common.{◌∙◌, ap}
use Rattle.swap_gen.specs.Word.{DrawState}
use Rattle.swap_gen.specs.Events.{first_place}
use Rattle.swap_gen.proofs.New.{new_holds, new_shows}
use Rattle.swap_gen.proofs.generator.Generator.with_wallets.Goals as goal

pub invariant_of-generator : goal.invariant_of-generator
invariant_of-generator c =
    let m = c.in_ok-job in
    new_holds c.args.seed c.args.parties c.requires.low c.requires.high c.made_job.new.draws m.field-0.job c.in_ok-touching.touching
    (m.ensures.draws ∙ ap (λ (s : DrawState). record s { place = first_place c.args.seed c.args.parties }) c.new-draws.ensures)
    m.ensures.job c.in_ok-touching.ensures

pub returns-clause-generator : goal.returns-clause-generator
returns-clause-generator c =
    let m = c.in_ok-job in
    new_shows c.args.seed c.args.parties c.requires.low c.requires.high c.made_job.new.draws m.field-0.job c.in_ok-touching.touching
    (m.ensures.draws ∙ ap (λ (s : DrawState). record s { place = first_place c.args.seed c.args.parties }) c.new-draws.ensures)
    m.ensures.job c.in_ok-touching.ensures
