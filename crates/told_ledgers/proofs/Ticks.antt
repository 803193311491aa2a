-- A tick that a ledger takes, and one that would take it above the most height.
use Rattle.std.proofs.Common.{◌≡◌, ◌<◌, ◌≤◌, ◌+◌, ◌-◌, ◌∙◌, ℕ, Bool, false, cond, List, Ok, Some, ap, le-leb}
use Rattle.std.proofs.lemmas.Bool.{lt-leb}
use Rattle.escrow_core.specs.declared.reply.Reply.TheVariants.{Accepted, ClockFull}
use Rattle.ledger_core.specs.History.{height}
use Rattle.told_ledgers.specs.declared.kind.Kind.{Kind}
use Rattle.told_ledgers.specs.declared.one_ledger.Heard.{Heard}
use Rattle.told_ledgers.specs.declared.one_ledger.Heard.TheVariants.{More}
use Rattle.told_ledgers.specs.SoFar.{LedgerSoFar}
use Rattle.told_ledgers.specs.Words.{line_tick}
use Rattle.told_ledgers.specs.Ledger.{bad_entry, is_passed, is_refused, line_heard, most_height, stated_entry, with_refused, with_tick, with_tick_or_entry}

module _ (n : ℕ) (s : LedgerSoFar) (k : ℕ) where
  abbrev by : Bool → Heard
  by t =
      cond t (More (record s { waiting = s.waiting + k }))
      (bad_entry n (record s { waiting = most_height - height s.past }) (Some (record { stated = Accepted; replayed = ClockFull })))

  pub tick_fits : height s.past + s.waiting + k ≤ 1000000 → with_tick n s k ≡ More (record s { waiting = s.waiting + k })
  tick_fits le = ap by (le-leb (height s.past + s.waiting + k) 1000000 le)

  pub tick_passes : 1000000 < height s.past + s.waiting + k
      → with_tick n s k ≡ bad_entry n (record s { waiting = most_height - height s.past }) (Some (record { stated = Accepted; replayed = ClockFull }))
  tick_passes lt = ap by (lt-leb (height s.past + s.waiting + k) 1000000 lt)

-- a line that ticks, of a kind that is read
pub tick_line_heard : (n : ℕ) (s t : LedgerSoFar) (kind : Kind) (line : List ℕ) (k : ℕ) → is_passed s.is_closed kind ≡ false → is_refused kind ≡ false
    → line_tick line ≡ Ok k → with_tick n s k ≡ More t → line_heard n s kind line ≡ More t
tick_line_heard n s t kind line k pass refused ticks taken =
    ap (λ b. cond b (More s) (cond (is_refused kind) (with_refused n s (stated_entry s line)) (with_tick_or_entry n s kind line (line_tick line)))) pass
    ∙ ap (λ b. cond b (with_refused n s (stated_entry s line)) (with_tick_or_entry n s kind line (line_tick line))) refused
    ∙ ap (with_tick_or_entry n s kind line) ticks ∙ taken
