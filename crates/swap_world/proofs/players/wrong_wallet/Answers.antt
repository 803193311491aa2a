use Rattle.std.proofs.Common.{◌<◌, ℕ, List, Option, get_or, length, zero-add, sym, ap, ◌∙◌, subst}
use Rattle.std.proofs.lemmas.List.FromFn.{get_or-map-range_with_len, length-map-range_with_len}
use Rattle.party_wallet.specs.Value.{WalletState}
use Rattle.party_wallet.specs.Wallets.{job_wallet}
use Rattle.swap_world.proofs.players.wrong_wallet.Goals as goal

pub bounds-wallets-p : goal.bounds-wallets-p
bounds-wallets-p c =
    let job = c.args.job.now in
    let f : ℕ → Option WalletState = job_wallet job.deal job.conforming job.seeds in
    let lt : c.parties.p < job.deal.graph.n = rw c.n-p-end.ensures at c.parties-test.true in
    subst (λ n. c.parties.p < n) (sym (ap length c.requires.wallets ∙ length-map-range_with_len f 0 job.deal.graph.n)) lt

pub find_wrong_lock-requires-clause-wallet : goal.find_wrong_lock-requires-clause-wallet
find_wrong_lock-requires-clause-wallet c =
    let job = c.args.job.now in
    let f : ℕ → Option WalletState = job_wallet job.deal job.conforming job.seeds in
    let p : ℕ = c.parties.p in
    let d : Option WalletState = c.index-wallets-p.result in
    let lt : p < job.deal.graph.n = rw c.n-p-end.ensures at c.parties-test.true in
    c.index-wallets-p.is
    ∙ (ap (λ (ws : List (Option WalletState)). get_or ws p d) c.requires.wallets ∙ get_or-map-range_with_len f 0 job.deal.graph.n p p d lt (zero-add p))
