-- The height of an entry that was read is that of the entries with it.
use Rattle.std.proofs.Common.{◌≡◌, ◌&&◌, ◌+◌, ℕ, nat_le, Bool, true, false, cond, List, [], ◌∷◌, ◌++◌, length, Result, Ok, Err, ap, ◌∙◌}
use Rattle.std.proofs.Common.{subst, arith}
use Rattle.swap_base.specs.Fault.{◌>>=◌}
use Rattle.swap_digraph.specs.declared.deal.Deal.{Deal}
use Rattle.swap_digraph.specs.Deal.{touches}
use Rattle.escrow_core.specs.declared.reply.Reply.{Reply}
use Rattle.ledger_core.specs.declared.entry.Call.{Call}
use Rattle.ledger_core.specs.declared.entry.Sender.{Sender}
use Rattle.ledger_core.specs.declared.entry.Sender.TheVariants.{Party, Clock}
use Rattle.ledger_core.specs.declared.entry.What.{What}
use Rattle.ledger_core.specs.declared.entry.What.TheVariants.{Call as Made, Tick}
use Rattle.ledger_core.specs.declared.entry.Entry.{Entry}
use Rattle.ledger_core.specs.History.{height, fit}
use Rattle.ledger_core.specs.Ledger.{call_entry, tick_entry}
use Rattle.ledger_core.proofs.Bounds.{height-push}
use Rattle.ledger_core.specs.WellFormed.{written_height}
use Rattle.transcript_book.specs.declared.said.Said.{Said}
use Rattle.transcript_book.specs.declared.said.Misspelling.{Misspelling}
use Rattle.transcript_book.specs.Reading.{line_said, misspelt}
use Rattle.transcript_book.specs.Entries.{parse_entry, said_entry, placed_entry}

-- a height that is held, and then more
pub held_again : (n k : ℕ) → written_height (written_height n + k) ≡ written_height (n + k)
held_again n k = omega arith

abbrev IsHeightOf : List Entry → Entry → Type 0
IsHeightOf past e = e.height ≡ written_height (height (past ++ e ∷ []))

ok_is : (x y : Entry) → ◌≡◌ {A = Result Entry Misspelling} (Ok x) (Ok y) → x ≡ y
ok_is x y e = cc

if_placed : (past : List Entry) (t : Bool) (x e : Entry) → IsHeightOf past x → cond t (Ok x) misspelt ≡ Ok e → IsHeightOf past e
if_placed past true x e h k = subst (IsHeightOf past) (ok_is x e k) h
if_placed past false x e h k = absurd (cc k)

call_height : (past : List Entry) (p at : ℕ) (c : Call) (reply : Reply) → at ≡ written_height (height past) → IsHeightOf past (call_entry p at c reply)
call_height past p at c reply is =
    let same : height past ≡ height (past ++ call_entry p at c reply ∷ []) = omega (arith, height-push past (call_entry p at c reply)) in
    is ∙ ap written_height same

tick_height : (past : List Entry) (k at : ℕ) (reply : Reply) → at ≡ written_height (height past)
    → IsHeightOf past (tick_entry k (written_height (at + k)) reply)
tick_height past k at reply is =
    let e = tick_entry k (written_height (at + k)) reply in
    let same : height past + k ≡ height (past ++ e ∷ []) = omega (arith, height-push past e) in
    ap (λ n. written_height (n + k)) is ∙ held_again (height past) k ∙ ap written_height same

placed_height : (d : Deal) (a : ℕ) (past : List Entry) (at : ℕ) (reply : Reply) (s : Sender) (w : What) (e : Entry) → at ≡ written_height (height past)
    → placed_entry d a at reply s w ≡ Ok e → IsHeightOf past e
placed_height d a past at reply (Party p) (Made c) e is k =
    if_placed past (touches d p a && fit d a c) (call_entry p at c reply) e (call_height past p at c reply is) k
placed_height d a past at reply Clock (Tick n) e is k =
    if_placed past (nat_le 1 n && nat_le n 1000000) (tick_entry n (written_height (at + n)) reply) e (tick_height past n at reply is) k
placed_height d a past at reply (Party p) (Tick n) e is k = absurd (cc k)
placed_height d a past at reply Clock (Made c) e is k = absurd (cc k)

pub read_height : (d : Deal) (a : ℕ) (past : List Entry) (at : ℕ) (line : List ℕ) (e : Entry) → at ≡ written_height (height past)
    → parse_entry d a at line ≡ Ok e → e.height ≡ written_height (height (past ++ e ∷ []))
unfolding parse_entry
read_height d a past at line e is k = by (line_said (length d.leaders) line) k
  where
    by : (r : Result Said Misspelling) → (r >>= λ s. said_entry d a at s) ≡ Ok e → IsHeightOf past e
    by (Ok s) q = placed_height d a past at s.reply s.sender s.what e is q
    by (Err f) q = absurd (cc q)
