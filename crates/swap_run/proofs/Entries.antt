-- A history after a tick or a call is as before, or has one legal entry more; a call leaves what
-- the laws of machines say.
use Rattle.std.proofs.Common.{◌≡◌, ℕ, ◌+◌, ◌≤◌, Bool, true, false, cond, not, List, [], ◌∷◌, ◌++◌, refl, sym}
use Rattle.std.proofs.Common.{ap}
use Rattle.std.specs.List.{list_all}
use Rattle.swap_base.proofs.Lists.{and_parts}
use Rattle.swap_digraph.specs.declared.deal.Deal.{Deal}
use Rattle.escrow_core.specs.declared.reply.Reply.{Reply}
use Rattle.escrow_core.specs.declared.reply.Reply.TheVariants.{Accepted, ClockFull}
use Rattle.escrow_core.specs.Table.{first_row}
use Rattle.ledger_core.specs.declared.entry.Call.{Call}
use Rattle.ledger_core.specs.declared.entry.Call.TheVariants.{Publish, Unlock, Claim, Refund, Transfer}
use Rattle.ledger_core.specs.declared.entry.Sender.TheVariants.{Clock}
use Rattle.ledger_core.specs.declared.entry.What.TheVariants.{Tick}
use Rattle.ledger_core.specs.declared.entry.Entry.{Entry}
use Rattle.ledger_core.specs.History.{height, rows, history_reply, is_full, is_clock_full}
use Rattle.ledger_core.specs.Ledger.{tick_entry, is_sender_full, after_call}
use Rattle.swap_rules.specs.Machine.{appended_entry}
use Rattle.ledger_core.proofs.History.{not-true-of}
use Rattle.swap_rules.proofs.Conducting.{Next, Still, Pushed}
use Rattle.swap_run.specs.Run.{is_clock_full_reply, after_tick}

-- Ticks.

pub tick_full : (k : ℕ) (h : List Entry) → is_clock_full h k ≡ true → after_tick k h ≡ h
unfolding after_tick
tick_full k h e = ap (λ x. cond (is_clock_full_reply (cond x ClockFull Accepted)) h (h ++ tick_entry k (height h + k) (cond x ClockFull Accepted) ∷ [])) e

pub tick_room : (k : ℕ) (h : List Entry) → is_clock_full h k ≡ false → after_tick k h ≡ h ++ tick_entry k (height h + k) Accepted ∷ []
unfolding after_tick
tick_room k h e = ap (λ x. cond (is_clock_full_reply (cond x ClockFull Accepted)) h (h ++ tick_entry k (height h + k) (cond x ClockFull Accepted) ∷ [])) e

pub next_tick : (d : Deal) (a : ℕ) (h : List Entry) (k : ℕ) → 1 ≤ k → k ≤ 1000000 → Next d a h (after_tick k h) Clock (Tick k)
next_tick d a h k some below = go (is_clock_full h k) refl
  where
    go : (x : Bool) → is_clock_full h k ≡ x → Next d a h (after_tick k h) Clock (Tick k)
    go true e = Still (tick_full k h e)
    go false e =
        Pushed (tick_entry k (height h + k) Accepted) (tick_room k h e) refl refl (record {
          some = some;
          below = below;
          height = refl;
          reply =
              sym (ap (λ x. cond x ClockFull Accepted) e);
          room = λ q. cc q;
        })

-- Calls.

first_row-not : (rs : List (Bool × Reply)) → list_all (λ row. not (is_sender_full row.1)) rs ≡ true → is_sender_full (first_row rs) ≡ false
first_row-not [] h = refl
first_row-not (row ∷ rs) h = let k = and_parts (not (is_sender_full row.1)) _ h in go row.0 row.1 k.0 (first_row-not rs k.1)
  where
    go : (x : Bool) (r : Reply) → not (is_sender_full r) ≡ true → is_sender_full (first_row rs) ≡ false → is_sender_full (cond x r (first_row rs)) ≡ false
    go true r n f = not-true-of _ n
    go false r n f = f

tail : {A : Type 0} → List A → List A
tail [] = []
tail (x ∷ xs) = xs

-- where the sender's entries aren't full, no row says that they are
pub has_room : (d : Deal) (a : ℕ) (past : List Entry) (p : ℕ) (c : Call) → is_full past p ≡ false → is_sender_full (history_reply d a past p c) ≡ false
unfolding rows tail
has_room d a past p (Publish t) f = rw f (first_row-not (tail (rows d a past p (Publish t))) refl)
has_room d a past p (Unlock key) f = rw f (first_row-not (tail (rows d a past p (Unlock key))) refl)
has_room d a past p Claim f = rw f (first_row-not (tail (rows d a past p Claim)) refl)
has_room d a past p Refund f = rw f (first_row-not (tail (rows d a past p Refund)) refl)
has_room d a past p (Transfer to units) f = rw f (first_row-not (tail (rows d a past p (Transfer to units))) refl)

-- a call of a sender that has room leaves an entry
pub call_pushes : (d : Deal) (a : ℕ) (h : List Entry) (p : ℕ) (c : Call) → is_full h p ≡ false → after_call d a p c h ≡ h ++ appended_entry d a h p c ∷ []
unfolding after_call
call_pushes d a h p c f = ap (λ x. cond x h (h ++ appended_entry d a h p c ∷ [])) (has_room d a h p c f)
