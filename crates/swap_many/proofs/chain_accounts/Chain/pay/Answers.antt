use Rattle.std.proofs.Common.{◌<◌, length, sym, subst}
use Rattle.swap_many.specs.Accounts.{ChainState}
use Rattle.swap_many.proofs.Accounts.{paid_set}
use Rattle.swap_many.proofs.chain_accounts.Chain.pay.Goals as goal

pub returns-clause-paid : goal.returns-clause-paid
returns-clause-paid c =
    rw (← c.self.view_is) (λ done. paid_set c.self.inside.free.items c.args.from c.args.to c.args.units c.index-have.result.now c.index_mut-2.result.now
    (subst (λ (s : ChainState). c.args.from < length s.free) (sym c.self.view_is) c.requires.from)
    (subst (λ (s : ChainState). c.args.to < length s.free) (sym c.self.view_is) c.requires.to)
    (search) (search))
