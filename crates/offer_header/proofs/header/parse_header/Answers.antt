use Rattle.serde_json.specs.View.{view}
use Rattle.offer_header.proofs.Fitting.{read_so}
use Rattle.offer_header.proofs.header.parse_header.Goals as goal

pub returns-clause-purpose : goal.returns-clause-purpose
returns-clause-purpose c =
    read_so _ c.args.purpose c.args.line (view c.in_ok-object.object) c.in_ok-raw.raw c.resolve_header.result _ c.in_ok-raw.ensures c.resolve_header.ensures
    (λ h k. k.purpose_is)

pub returns-clause-within : goal.returns-clause-within
returns-clause-within c =
    read_so _ c.args.purpose c.args.line (view c.in_ok-object.object) c.in_ok-raw.raw c.resolve_header.result _ c.in_ok-raw.ensures c.resolve_header.ensures
    (λ h k. k.within)

pub returns-clause-untold : goal.returns-clause-untold
returns-clause-untold c =
    read_so _ c.args.purpose c.args.line (view c.in_ok-object.object) c.in_ok-raw.raw c.resolve_header.result _ c.in_ok-raw.ensures c.resolve_header.ensures
    (λ h k. k.untold)

pub returns-clause-simple : goal.returns-clause-simple
returns-clause-simple c =
    read_so _ c.args.purpose c.args.line (view c.in_ok-object.object) c.in_ok-raw.raw c.resolve_header.result _ c.in_ok-raw.ensures c.resolve_header.ensures
    (λ h k. k.simple)

pub returns-clause-strategies : goal.returns-clause-strategies
returns-clause-strategies c =
    read_so _ c.args.purpose c.args.line (view c.in_ok-object.object) c.in_ok-raw.raw c.resolve_header.result _ c.in_ok-raw.ensures c.resolve_header.ensures
    (λ h k. k.strategies)

pub returns-clause-placed : goal.returns-clause-placed
returns-clause-placed c =
    read_so _ c.args.purpose c.args.line (view c.in_ok-object.object) c.in_ok-raw.raw c.resolve_header.result _ c.in_ok-raw.ensures c.resolve_header.ensures
    (λ h k. k.placed)

pub returns-clause-made : goal.returns-clause-made
returns-clause-made c =
    read_so _ c.args.purpose c.args.line (view c.in_ok-object.object) c.in_ok-raw.raw c.resolve_header.result _ c.in_ok-raw.ensures c.resolve_header.ensures
    (λ h k. k.made)
