-- What a call with its number keeps is what its entry keeps.
use Rattle.std.proofs.Common.{◌≡◌, ℕ, Bool, Some, take, sym, ap, ◌∙◌}
use Rattle.swap_digraph.specs.declared.deal.Deal.{Deal}
use Rattle.ledger_core.specs.declared.entry.Call.{Call}
use Rattle.ledger_core.specs.Book.{Histories, history}
use Rattle.history_index.specs.declared.made.Made.{Made}
use Rattle.swap_rules.specs.Party.{pick_call}
use Rattle.swap_rules.specs.Conduct.{keeps}
use Rattle.conduct_check.specs.CallConduct.{keeps_call, keeps_made}

pub as_made : (d : Deal) (b : Histories) (v a : ℕ) (m : Made) (call read : Call) (kept : Bool) → Some call ≡ pick_call v m.entry → call ≡ read
    → kept ≡ keeps_call d b v a m.number m.entry.height read → kept ≡ keeps_made d b v a m
as_made d b v a m call read kept is same k =
    k ∙ ap (λ c. keeps d b v a (take m.number (history b a)) m.entry.height (Some c)) (sym same)
    ∙ ap (keeps d b v a (take m.number (history b a)) m.entry.height) is
