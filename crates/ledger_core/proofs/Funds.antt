-- The accounts along the items of a legal history.
use Rattle.std.proofs.Common.{◌≡◌, ℕ, ◌+◌, ◌<◌, ◌≤◌, List, [], ◌∷◌, ◌++◌, length, take, drop, get_or, refl, sym, ap, ◌∙◌, subst, append_assoc}
use Rattle.swap_base.proofs.Lists.{all_moments_front, at_moment}
use Rattle.swap_digraph.specs.declared.deal.Deal.{Deal}
use Rattle.swap_digraph.specs.Deal.{party, IsWellSized}
use Rattle.escrow_core.specs.declared.reply.Reply.{Reply}
use Rattle.ledger_core.specs.declared.accounts.Accounts.{Accounts}
use Rattle.ledger_core.specs.declared.entry.Sender.{Sender}
use Rattle.ledger_core.specs.declared.entry.Sender.TheVariants.{Party, Clock}
use Rattle.ledger_core.specs.declared.entry.What.{What}
use Rattle.ledger_core.specs.declared.entry.What.TheVariants.{Call as Made, Tick}
use Rattle.ledger_core.specs.declared.entry.Entry.{Entry}
use Rattle.ledger_core.specs.declared.runs.Item.{Item}
use Rattle.ledger_core.specs.declared.runs.Item.TheVariants.{One, Ticks}
use Rattle.ledger_core.specs.declared.runs.Run.{Run}
use Rattle.ledger_core.specs.History.{accepted_call, accepted, accounts, is_party, moved, IsLegal, IsLegalEntry, IsLegalMoment}
use Rattle.ledger_core.specs.Ledger.{CanMove}
use Rattle.ledger_core.specs.Runs.{ledger_entries, expand}
use Rattle.ledger_core.proofs.Scans.{can_move, bounded}
use Rattle.ledger_core.proofs.Ticks.{expand_split, expand_more, accounts_ticks}
use Rattle.ledger_core.proofs.Units.{accounts-push}

module _ (d : Deal) (a : ℕ) where
  can_take : (h : List Entry) (b : Accounts) (s : Sender) (w : What) (at : ℕ) (r : Reply) → b ≡ accounts d a h → IsLegalEntry d a h s w at r
      → CanMove b (is_party d a s) (accepted_call w r)
  can_take h b (Party p) (Made c) at r e l = can_move d a h p (party d a) c r b refl e l.reply
  can_take h b (Party p) (Tick k) at r e l = absurd l
  can_take h b Clock (Made c) at r e l = absurd l
  can_take h b Clock (Tick k) at r e l = tt

  legal_to : (xs : List Item) (i : ℕ) (x : Item) → i < length xs → x ≡ get_or xs i x → IsLegal d a (expand xs)
      → IsLegal d a (expand (take i xs) ++ ledger_entries x)
  legal_to xs i x l e h =
      all_moments_front (IsLegalMoment d a) (expand (take i xs) ++ ledger_entries x) (expand (drop (i + 1) xs))
      (subst (IsLegal d a) (expand_split xs i x l e ∙ sym (append_assoc (expand (take i xs)) (ledger_entries x) (expand (drop (i + 1) xs)))) h)

  -- the sender of an entry has what it moves
  pub funds_at : (xs : List Item) (i : ℕ) (x : Item) (e : Entry) (b : Accounts) → i < length xs → x ≡ get_or xs i x → x ≡ One e
      → IsLegal d a (expand xs) → b ≡ accounts d a (expand (take i xs)) → CanMove b (is_party d a e.sender) (accepted e)
  funds_at xs i x e b l k one h eb =
      let h' : IsLegal d a (expand (take i xs) ++ e ∷ []) = subst (λ z. IsLegal d a (expand (take i xs) ++ ledger_entries z)) one (legal_to xs i x l k h) in
      can_take (expand (take i xs)) b e.sender e.what e.height e.reply eb
      (at_moment (IsLegalMoment d a) (expand (take i xs) ++ e ∷ []) (expand (take i xs)) e h' ([], refl))

  pub bounded_at : (xs : List Item) (i : ℕ) (x : Item) (b : Accounts) → i < length xs → x ≡ get_or xs i x → IsLegal d a (expand xs) → IsWellSized d
      → a < length d.graph.arcs → b ≡ accounts d a (expand (take i xs)) → b.party + b.counterparty + b.held ≤ 1000000000000
  bounded_at xs i x b l k h s lt eb =
      bounded d a (expand (take i xs)) b (all_moments_front (IsLegalMoment d a) (expand (take i xs)) (ledger_entries x) (legal_to xs i x l k h)) s lt eb

  -- one more item
  pub accounts_one : (xs : List Item) (i : ℕ) (x : Item) (e : Entry) (b : Accounts) → i < length xs → x ≡ get_or xs i x → x ≡ One e
      → b ≡ accounts d a (expand (take i xs)) → moved d a b e.sender (accepted e) ≡ accounts d a (expand (take (i + 1) xs))
  accounts_one xs i x e b l k one eb =
      ap (λ z. moved d a z e.sender (accepted e)) eb ∙ sym (accounts-push d a (expand (take i xs)) e)
      ∙ ap (accounts d a) (ap (λ z. expand (take i xs) ++ ledger_entries z) (sym one) ∙ sym (expand_more xs i x l k))

  pub accounts_run : (xs : List Item) (i : ℕ) (x : Item) (r : Run) (b : Accounts) → i < length xs → x ≡ get_or xs i x → x ≡ Ticks r
      → b ≡ accounts d a (expand (take i xs)) → b ≡ accounts d a (expand (take (i + 1) xs))
  accounts_run xs i x r b l k run eb =
      eb ∙ sym (accounts_ticks d a (expand (take i xs)) r.above r.by r.count)
      ∙ ap (accounts d a) (ap (λ z. expand (take i xs) ++ ledger_entries z) (sym run) ∙ sym (expand_more xs i x l k))
