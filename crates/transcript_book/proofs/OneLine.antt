-- No line of a transcript's ledgers holds a line feed.
use Rattle.std.proofs.Common.{◌≡◌, ◌==◌, ◌+◌, ◌^◌, ◌≤◌, ◌<◌, ℕ, suc, nat_le, Bool, true, false, not, List, [], ◌∷◌, ◌++◌, length, map, decimal, refl}
use Rattle.std.proofs.Common.{ap, arith, eqb-true}
use Rattle.std.specs.Prelude.{All, codes}
use Rattle.std.specs.List.{list_all, AllByRecursion}
use Rattle.std.proofs.lemmas.Bool.{leb-true}
use Rattle.swap_base.proofs.Lists.{and_parts, and_both}
use Rattle.swap_digraph.specs.declared.deal.Deal.{Deal}
use Rattle.escrow_core.specs.declared.reply.Reply.{Reply}
use Rattle.ledger_core.specs.declared.entry.Sender.{Sender}
use Rattle.ledger_core.specs.declared.entry.Sender.TheVariants.{Party, Clock}
use Rattle.ledger_core.specs.declared.entry.What.{What}
use Rattle.ledger_core.specs.declared.entry.What.TheVariants.{Call as Made, Tick}
use Rattle.ledger_core.specs.declared.entry.Entry.{Entry}
use Rattle.ledger_core.specs.Book.{Histories}
use Rattle.transcript_book.specs.Between.{spaced}
use Rattle.typed_books.specs.Typed.{IsTypedReply, IsTypedSender, IsTypedWhat}
use Rattle.transcript_book.specs.Words.{call_words, entry_words, reply_words}
use Rattle.transcript_book.specs.Lines.{IsStatable, entry_line, lines_from_arc}
use Rattle.transcript_book.proofs.Numbers.{high_number}
use Rattle.transcript_book.proofs.SeparatedParts.{IsHigh, all_append, high_between, high_too}
use Rattle.transcript_book.proofs.Spelling.{high_call, high_reply}
use Rattle.transcript_book.proofs.Sound.{AreFrom}

-- no line feed stands in the line
abbrev pub IsOneLine : List ℕ → Type 0
IsOneLine l = list_all (λ x. not (x == 10)) l ≡ true

other : (x : ℕ) → nat_le 32 x ≡ true → not (x == 10) ≡ true
other x h = by (x == 10) refl
  where
    by : (t : Bool) → (x == 10) ≡ t → not (x == 10) ≡ true
    by true e = let same : x ≡ 10 = eqb-true x 10 e in let low : 32 ≤ x = leb-true 32 x h in absurd (omega arith)
    by false e = ap not e

one_line : (l : List ℕ) → IsHigh 32 l → IsOneLine l
one_line [] h = refl
one_line (x ∷ l) h =
    let p = and_parts (nat_le 32 x) (list_all (λ y. nat_le 32 y) l) h in
    and_both (not (x == 10)) (list_all (λ y. not (y == 10)) l) (other x p.0) (one_line l p.1)

lower : (ws : List (List ℕ)) → AllByRecursion (IsHigh 33) ws → AllByRecursion (IsHigh 32) ws
lower [] h = tt
lower (w ∷ ws) h = (high_too 32 33 w (omega arith) h.0, lower ws h.1)

spaced_line : (w : List ℕ) (ws : List (List ℕ)) → IsHigh 33 w → AllByRecursion (IsHigh 33) ws → IsOneLine (spaced (w ∷ ws))
spaced_line w ws h k = one_line (spaced (w ∷ ws)) (high_between 32 32 w ws (omega arith) (high_too 32 33 w (omega arith) h) (lower ws k))

high_decimal : (n : ℕ) → n < 2 ^ 64 → IsHigh 33 (decimal n)
high_decimal n lt = high_too 33 48 (decimal n) (omega arith) (high_number n lt)

words_line : (s : Sender) (w : What) (r : Reply) → IsTypedSender s → IsTypedWhat w → IsTypedReply r → IsOneLine (spaced (entry_words s w r))
words_line (Party p) (Made c) r s w k =
    let small : p < 256 = s in
    spaced_line (codes "c") (decimal p ∷ (call_words c ++ codes "=" ∷ reply_words r)) refl
    (high_decimal p (omega arith), all_append 33 (call_words c) (codes "=" ∷ reply_words r) (high_call c w) (refl, high_reply r k))
words_line Clock (Tick n) r s w k = let small : n < 2 ^ 32 = w in spaced_line (codes "t") (decimal n ∷ []) refl (high_decimal n (omega arith), tt)
words_line (Party p) (Tick n) r s w k = refl
words_line Clock (Made c) r s w k = refl

entries_lines : (h : List Entry) (more : List (List ℕ)) → All IsStatable h → AllByRecursion IsOneLine more → AllByRecursion IsOneLine (map entry_line h ++ more)
entries_lines [] more k l = l
entries_lines (e ∷ h) more k l =
    let first = k 0 e (omega arith) in
    (words_line e.sender e.what e.reply first.sender first.what first.reply, entries_lines h more (λ i d lt. k (suc i) d (omega arith)) l)

pub book_lines : (d : Deal) (a : ℕ) (b : Histories) → AreFrom d a b → a + length b < 2 ^ 64 → AllByRecursion IsOneLine (lines_from_arc a b)
book_lines d a [] k small = (refl, tt)
book_lines d a (h ∷ b) k small =
    let few = k.2 in (
      spaced_line (codes "ledger") (decimal a ∷ decimal (length h) ∷ []) refl
          (high_decimal a (omega arith), (high_decimal (length h) (omega arith), tt)),
      entries_lines h (lines_from_arc (a + 1) b) k.1 (book_lines d (a + 1) b k.3 (omega arith)),
    )
