-- What a call leaves of a history.
use Rattle.std.proofs.Common.{◌≡◌, ◌≢◌, ℕ, Bool, true, false, List, [], ◌∷◌, ◌++◌, cond, refl, ap, ◌∙◌}
use Rattle.swap_digraph.specs.declared.deal.Deal.{Deal}
use Rattle.escrow_core.specs.declared.reply.Reply.{Reply}
use Rattle.escrow_core.specs.declared.reply.Reply.TheVariants.{SenderFull}
use Rattle.ledger_core.specs.declared.entry.Call.{Call}
use Rattle.ledger_core.specs.declared.entry.Entry.{Entry}
use Rattle.ledger_core.specs.Value.{LedgerState}
use Rattle.swap_rules.specs.Machine.{Begins}
use Rattle.swap_rules.proofs.Prefixes.{begins_refl}
use Rattle.ledger_core.specs.History.{height, history_reply}
use Rattle.ledger_core.specs.Ledger.{HasEntryAdded, call_entry, is_sender_full, after_call}

full_or_kept : (r : Reply) (h h' : List Entry) (e : Entry) → (r ≡ SenderFull → h' ≡ h) → (r ≢ SenderFull → h' ≡ h ++ e ∷ [])
    → h' ≡ cond (is_sender_full r) h (h ++ e ∷ [])
full_or_kept SenderFull h h' e full kept = full refl
full_or_kept _ h h' e full kept = kept (λ k. cc k)

full_or : {P : Type 0} (r : Reply) → (r ≡ SenderFull → P) → (r ≢ SenderFull → P) → P
full_or SenderFull full kept = full refl
full_or _ full kept = kept (λ k. cc k)

-- A ledger after a call of p.
pub record IsCalled (old new : LedgerState) (p : ℕ) (c : Call) : Type 0 where
  pub deal : new.deal ≡ old.deal
  pub arc : new.arc ≡ old.arc
  pub history : new.history ≡ after_call old.deal old.arc p c old.history

pub called : (old new : LedgerState) (p : ℕ) (c : Call) (r : Reply) → r ≡ history_reply old.deal old.arc old.history p c → (r ≡ SenderFull → new ≡ old)
    → (r ≢ SenderFull → HasEntryAdded old (call_entry p (height old.history) c r) new) → IsCalled old new p c
unfolding after_call
called old new p c r reply full kept = record {
  deal = full_or r (λ k. ap (λ (l : LedgerState). l.deal) (full k)) (λ k. (kept k).deal);
  arc = full_or r (λ k. ap (λ (l : LedgerState). l.arc) (full k)) (λ k. (kept k).arc);
  history =
      full_or_kept r old.history new.history (call_entry p (height old.history) c r) (λ k. ap (λ (l : LedgerState). l.history) (full k))
      (λ k. (kept k).history)
      ∙ ap (λ (x : Reply). cond (is_sender_full x) old.history (old.history ++ call_entry p (height old.history) c x ∷ [])) reply;
}

-- a call leaves the entries before it
pub call_begins : (d : Deal) (a p : ℕ) (c : Call) (h : List Entry) → Begins h (after_call d a p c h)
unfolding after_call
call_begins d a p c h = go (is_sender_full (history_reply d a h p c))
  where
    go : (b : Bool) → Begins h (cond b h (h ++ call_entry p (height h) c (history_reply d a h p c) ∷ []))
    go true = begins_refl h
    go false = (call_entry p (height h) c (history_reply d a h p c) ∷ [], refl)
