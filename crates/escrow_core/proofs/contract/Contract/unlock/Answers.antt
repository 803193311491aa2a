use Rattle.std.proofs.Common.{◌≡◌, ◌<◌, length, ap, ◌∙◌, arith}
use Rattle.escrow_core.specs.Value.{ContractState, with_opened}
use Rattle.escrow_core.proofs.Views.{inside_state-opened}
use Rattle.escrow_core.proofs.contract.Contract.unlock.Goals as goal

pub returns-in-Accepted-clause-accepted : goal.returns-in-Accepted-clause-accepted
returns-in-Accepted-clause-accepted c =
    λ accepted.
    let same : length c.self.inside.terms.locks ≡ length c.args.self.now.terms.locks = ap (λ (s : ContractState). length s.terms.locks) c.self.view_is in
    let lt : c.args.key.now.lock < length c.self.inside.terms.locks =
    (let fits = c.requires.of_the_deal.terms.locks in let within = c.requires.lock in omega arith) in
    inside_state-opened c.self.inside c.args.key.now.lock lt ∙ ap (λ (s : ContractState). with_opened s c.args.key.now.lock) c.self.view_is
