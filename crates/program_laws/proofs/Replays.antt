-- A legal book is replayed as it is stated.
use Rattle.std.proofs.Common.{◌≡◌, ◌+◌, ◌<◌, ℕ, suc, List, [], ◌∷◌, ◌++◌, length, Result, Ok, refl, sym, ap, ◌∙◌, subst, arith}
use Rattle.std.proofs.Common.{append_assoc, append-nil}
use Rattle.std.specs.List.{AllByRecursion}
use Rattle.swap_base.specs.Fault.{◌>>=◌, steps}
use Rattle.swap_base.specs.Lists.{moments_after_past}
use Rattle.swap_digraph.specs.declared.deal.Deal.{Deal}
use Rattle.escrow_core.specs.declared.reply.Reply.{Reply}
use Rattle.ledger_core.specs.declared.entry.Sender.{Sender}
use Rattle.ledger_core.specs.declared.entry.Sender.TheVariants.{Party, Clock}
use Rattle.ledger_core.specs.declared.entry.What.{What}
use Rattle.ledger_core.specs.declared.entry.What.TheVariants.{Call as Made, Tick}
use Rattle.ledger_core.specs.declared.entry.Entry.{Entry}
use Rattle.ledger_core.specs.History.{IsLegal, IsLegalEntry, IsLegalMoment}
use Rattle.ledger_core.specs.Book.{Histories, history, IsLegalBook}
use Rattle.swap_auditor.specs.declared.replay.BadReply.{BadReply}
use Rattle.swap_auditor.specs.Audit.{replay, replay_histories, replayed, with_entry}
use Rattle.swap_auditor.proofs.Replies.{same_self}
use Rattle.swap_auditor.proofs.Replays.{entry_stands}

legal_reply : (d : Deal) (a : ℕ) (past : List Entry) (s : Sender) (w : What) (at : ℕ) (reply : Reply) → IsLegalEntry d a past s w at reply
    → reply ≡ replayed d a past s w
legal_reply d a past (Party p) (Made c) at reply l = l.reply
legal_reply d a past Clock (Tick k) at reply l = l.reply
legal_reply d a past (Party p) (Tick k) at reply l = absurd l
legal_reply d a past Clock (Made c) at reply l = absurd l

module _ (d : Deal) (a : ℕ) where
  entry_on : (past : List Entry) (e : Entry) → IsLegalEntry d a past e.sender e.what e.height e.reply → with_entry d a past e ≡ Ok (past ++ e ∷ [])
  entry_on past e l =
      entry_stands d a past (past ++ e ∷ []) e e.reply (legal_reply d a past e.sender e.what e.height e.reply l) (same_self e.reply) refl

  replay_on : (past h : List Entry) → AllByRecursion (IsLegalMoment d a) (moments_after_past past h) → steps (with_entry d a) past h ≡ Ok (past ++ h)
  unfolding steps
  replay_on past [] l = ap (λ (x : List Entry). Ok x) (sym (append-nil past))
  replay_on past (e ∷ h) l =
      ap (λ (r : Result (List Entry) BadReply). r >>= λ t. steps (with_entry d a) t h) (entry_on past e l.0)
      ∙ replay_on (past ++ e ∷ []) h l.1
      ∙ ap (λ (x : List Entry). Ok x) (append_assoc past (e ∷ []) h)

  replay_is : (h : List Entry) → IsLegal d a h → replay d a h ≡ Ok h
  replay_is h l = replay_on [] h l

from_arc : (d : Deal) (a : ℕ) (b : Histories) → ((i : ℕ) → i < length b → IsLegal d (a + i) (history b i)) → replay_histories d a b ≡ Ok tt
from_arc d a [] l = refl
from_arc d a (h ∷ b) l =
    let here : ◌≡◌ {A = ℕ} (a + 0) a = omega arith in
    let first : IsLegal d a h = subst (λ (n : ℕ). IsLegal d n h) here (l 0 (omega arith)) in
    ap (λ (r : Result (List Entry) BadReply). r >>= λ _. replay_histories d (a + 1) b) (replay_is d a h first)
    ∙ from_arc d (a + 1) b (λ i lt.
    let next : ◌≡◌ {A = ℕ} (a + suc i) (a + 1 + i) = omega arith in
    subst (λ (n : ℕ). IsLegal d n (history b i)) next (l (suc i) (omega (arith, lt))))

pub book_stands : (d : Deal) (b : Histories) → IsLegalBook d b → replay_histories d 0 b ≡ Ok tt
book_stands d b l =
    from_arc d 0 b (λ i lt.
    let same : ◌≡◌ {A = ℕ} i (0 + i) = omega arith in
    subst (λ (n : ℕ). IsLegal d n (history b i)) same (l.legal i lt))
