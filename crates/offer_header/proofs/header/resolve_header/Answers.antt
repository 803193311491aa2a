use Rattle.offer_header.proofs.Limited.{few_roles}
use Rattle.offer_header.proofs.Numbered.{is_numbered}
use Rattle.offer_header.proofs.Standing.{all_stand}
use Rattle.offer_header.proofs.header.resolve_header.Goals as goal

pub apply_limits-requires : goal.apply_limits-requires
apply_limits-requires c = is_numbered _ c.args.line c.args.raw.now c.in_ok-numbered.numbered c.in_ok-numbered.ensures

pub placed-requires-clause-stand : goal.placed-requires-clause-stand
placed-requires-clause-stand c =
    let raw = c.args.raw.now in
    let numbered = c.in_ok-numbered.numbered in
    all_stand c.args.line c.args.purpose raw numbered c.in_ok-header.header
    (is_numbered _ c.args.line raw numbered c.in_ok-numbered.ensures) c.in_ok-header.ensures

pub placed-requires-clause-few : goal.placed-requires-clause-few
placed-requires-clause-few c =
    few_roles c.args.line c.args.purpose c.args.raw.now c.in_ok-numbered.numbered c.in_ok-header.header c.in_ok-header.ensures
