-- What an act of a machine makes of the ledgers and of the machine, and what its party is told.
use Rattle.std.proofs.Common.{◌≡◌, ℕ, ◌<◌, Bool, List, length, get_or, set, Option, Some, None, option_map, refl, sym, ap, ap₂, ◌∙◌}
use Rattle.swap_digraph.specs.declared.deal.Deal.{Deal}
use Rattle.hashkey_path.specs.declared.hashkey.Hashkey.{Hashkey}
use Rattle.ledger_core.specs.declared.entry.Entry.{Entry}
use Rattle.ledger_core.specs.declared.entry.Call.{Call}
use Rattle.ledger_core.specs.Value.{LedgerState}
use Rattle.ledger_core.specs.Book.{Histories, history}
use Rattle.swap_rules.specs.Machine.{noted}
use Rattle.swap_rules.specs.Due.{Action}
use Rattle.party_wallet.specs.Value.{signed_hashkey}
use Rattle.party_machine.specs.Machine.{MachineState, IsOfSame, due_action, next_due, noted_if_called}
use Rattle.swap_world.specs.declared.call_outcome.Told.{Told}
use Rattle.swap_world.specs.On.{call_told}
use Rattle.swap_world.specs.Acting.{histories, landed, next_book, next_machine, build_told}
use Rattle.swap_world.proofs.Ledgers.{history_at, book_ok}
use Rattle.swap_world.proofs.Signed.{signed_by, signed_still}

-- the action of a call that a machine answers
abbrev pub action : ℕ → Call → Action
action a c = record { arc = a; call = c }

pub answered : (m : MachineState) (o : Option (ℕ × Call)) (a : ℕ) (c : Call) → o ≡ Some (a, c) → option_map due_action o ≡ next_due m
    → next_due m ≡ Some (action a c)
answered m o a c e f = sym f ∙ ap (option_map due_action) e

pub silent : (m : MachineState) (o : Option (ℕ × Call)) → o ≡ None → option_map due_action o ≡ next_due m → next_due m ≡ None
silent m o e f = sym f ∙ ap (option_map due_action) e

same_machine : (n : MachineState) (d : Deal) (v : ℕ) (z : List ℕ) (k : Histories) (g : List (Option Hashkey)) → n.deal ≡ d → n.me ≡ v → n.seed ≡ z
    → n.known ≡ k → n.signed ≡ g
    → n ≡ record { deal = d; me = v; seed = z; known = k; signed = g }
same_machine n d v z k g e1 e2 e3 e4 e5 = rw (sym e1, sym e2, sym e3, sym e4, sym e5) refl

pub still : (sw : ℕ → Bool) (m n : MachineState) (o : Option (ℕ × Call)) (b : Histories) → o ≡ None → option_map due_action o ≡ next_due m → IsOfSame m n
    → ((i : ℕ) → signed_hashkey n.signed i ≡ noted_if_called (signed_hashkey m.signed) o i) → n ≡ next_machine sw m (next_due m) b
still sw m n o b e f k g =
    let none : (i : ℕ) → signed_hashkey n.signed i ≡ signed_hashkey m.signed i = λ i. g i ∙ ap (λ x. noted_if_called (signed_hashkey m.signed) x i) e in
    same_machine n m.deal m.me m.seed m.known m.signed k.deal k.me k.seed k.known (signed_still n.signed m.signed k.places none)
    ∙ sym (ap (λ x. next_machine sw m x b) (silent m o e f))

module _ (sw : ℕ → Bool) (m n : MachineState) (ls : List LedgerState) (a : ℕ) (c : Call) (l : LedgerState) (same : IsOfSame m n) (below : a < length ls)
    (is : l ≡ get_or ls a l) (next : next_due m ≡ Some (action a c)) where
  called : landed (sw a) n.deal a n.me c l.history ≡ landed (sw a) m.deal a m.me c l.history
  called = ap₂ (λ (d : Deal) (v : ℕ). landed (sw a) d a v c l.history) same.deal same.me

  pub book_is : (new : LedgerState) → new.history ≡ landed (sw a) n.deal a n.me c l.history
      → histories (set ls a new) ≡ next_book sw m (next_due m) (histories ls)
  book_is new e = book_ok ls a l new (landed (sw a) m.deal a m.me c) below is (e ∙ called) ∙ sym (ap (λ o. next_book sw m o (histories ls)) next)

  pub machine_is : (new : MachineState) → ((i : ℕ) → signed_hashkey n.signed i ≡ noted (signed_hashkey m.signed) c i)
      → new ≡ record { deal = n.deal; me = n.me; seed = n.seed; known = set n.known a (landed (sw a) n.deal a n.me c l.history); signed = n.signed }
      → new ≡ next_machine sw m (next_due m) (histories ls)
  machine_is new g e =
      let k : set n.known a (landed (sw a) n.deal a n.me c l.history) ≡ set m.known a (landed (sw a) m.deal a m.me c (history (histories ls) a))
      =
      ap₂ (λ (x : Histories) (h : List Entry). set x a h) same.known (called
      ∙ ap (λ (h : List Entry). landed (sw a) m.deal a m.me c h) (sym (history_at ls a l below is))) in
      e ∙ (same_machine (record {
        deal = n.deal;
        me = n.me;
        seed = n.seed;
        known = set n.known a (landed (sw a) n.deal a n.me c l.history);
        signed =
            n.signed;
      }) m.deal m.me m.seed _ _
      same.deal same.me same.seed k (signed_by n.signed m.signed c same.places g)
      ∙ sym (ap (λ o. next_machine sw m o (histories ls)) next))

  -- the hashkeys alone
  pub signed_is : ((i : ℕ) → signed_hashkey n.signed i ≡ noted (signed_hashkey m.signed) c i) → n.signed ≡ (next_machine sw m (next_due m) (histories ls)).signed
  signed_is g = signed_by n.signed m.signed c same.places g ∙ sym (ap (λ o. (next_machine sw m o (histories ls)).signed) next)

  pub told_is : (t : Told) → t ≡ call_told (sw a) n.deal a n.me c l.history → t ≡ build_told sw m (next_due m) (histories ls)
  told_is t e =
      e ∙ (ap₂ (λ (d : Deal) (v : ℕ). call_told (sw a) d a v c l.history) same.deal same.me
      ∙ (ap (call_told (sw a) m.deal a m.me c) (sym (history_at ls a l below is)) ∙ sym (ap (λ o. build_told sw m o (histories ls)) next)))
