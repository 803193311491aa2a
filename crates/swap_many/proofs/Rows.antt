-- A row of the table of a sweep.
use Rattle.std.proofs.Common.{◌≡◌, ℕ, ◌+◌, ◌<◌, ◌&&◌, not, Bool, true, false, cond, List, sym, ap, ◌∙◌, is_some, is_none, le-ltb, arith}
use Rattle.ledger_core.specs.declared.entry.Entry.{Entry}
use Rattle.ledger_core.specs.History.{published, settled, held}
use Rattle.swap_many.specs.declared.many_reply.ManyReply.{ManyReply}
use Rattle.swap_many.specs.declared.many_reply.ManyReply.TheVariants.{Plain, NotEnded, Swept, StillHeld, Unpublished}
use Rattle.escrow_core.specs.declared.reply.Reply.TheVariants.{Accepted}
use Rattle.swap_many.specs.Chains.{reply_to_sweep}

abbrev rows : (horizon held : ℕ) (a b c d : Bool) → ManyReply
rows horizon held a b c d = cond a (NotEnded (horizon + 1)) (cond b Swept (cond c (StillHeld held) (cond d Unpublished (Plain Accepted))))

-- what isn't settled is still held
pub still_held : (fair : Bool) (horizon height : ℕ) (swept : Bool) (past : List Entry) → horizon < height → swept ≡ false
    → (is_some (published past) && is_none (settled past)) ≡ true → StillHeld (held past) ≡ reply_to_sweep fair horizon height swept past
still_held fair horizon height swept past l e u =
    sym (ap (λ c. rows horizon (held past) false false c (not fair && is_none (published past))) u)
    ∙ (sym (ap (λ b. rows horizon (held past) false b (is_some (published past) && is_none (settled past)) (not fair && is_none (published past))) e)
    ∙ sym (ap (λ a. rows horizon (held past) a swept (is_some (published past) && is_none (settled past)) (not fair && is_none (published past)))
    (le-ltb height (horizon + 1) (omega (arith, l)))))
