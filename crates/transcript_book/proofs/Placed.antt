-- The entry that a line states, and the number that the line before those of an arc tells.
use Rattle.std.proofs.Common.{◌≡◌, ◌==◌, ◌&&◌, ◌+◌, ◌-◌, ◌≤◌, ◌<◌, ℕ, nat_le, cond, List, [], ◌∷◌, length, decimal}
use Rattle.std.proofs.Common.{Ok, refl, sym, ap, ap₂, ◌∙◌, subst, arith, eqb-true}
use Rattle.std.specs.Prelude.{codes}
use Rattle.std.proofs.lemmas.Bool.{leb-true}
use Rattle.swap_base.proofs.Lists.{and_parts}
use Rattle.swap_digraph.specs.declared.deal.Deal.{Deal}
use Rattle.swap_digraph.specs.Deal.{touches}
use Rattle.hashkey_path.proofs.Validity.{bytes_eq-true}
use Rattle.escrow_core.specs.declared.reply.Reply.{Reply}
use Rattle.ledger_core.specs.declared.entry.Sender.{Sender}
use Rattle.ledger_core.specs.declared.entry.Sender.TheVariants.{Party, Clock}
use Rattle.ledger_core.specs.declared.entry.What.{What}
use Rattle.ledger_core.specs.declared.entry.What.TheVariants.{Call as Made, Tick}
use Rattle.ledger_core.specs.declared.entry.Entry.{Entry}
use Rattle.ledger_core.specs.History.{height, fit}
use Rattle.ledger_core.specs.Ledger.{call_entry, tick_entry}
use Rattle.ledger_core.specs.WellFormed.{IsFormedWhat, IsFormedEntry, written_height}
use Rattle.transcript_book.specs.declared.said.Said.{Said}
use Rattle.transcript_book.specs.Between.{between, separated_parts, spaced}
use Rattle.typed_books.specs.Typed.{IsTypedReply, IsTypedSender, IsTypedWhat}
use Rattle.transcript_book.specs.Words.{entry_words}
use Rattle.transcript_book.specs.Lines.{IsStatable, IsStatedWhat, entry_line}
use Rattle.transcript_book.specs.Reading.{parse_first_field, is_word, line_said, misspelt, nothing_more, bounded_number, decimal_number}
use Rattle.transcript_book.specs.Counts.{parse_limited_count, just, ledger_word, words_count}
use Rattle.transcript_book.specs.Entries.{parse_entry, parse_next_entry, placed_entry}
use Rattle.transcript_book.proofs.Heights.{held_again}
use Rattle.transcript_book.specs.Spelling.{IsSpelling}
use Rattle.transcript_book.proofs.Exact.{IsExact, went, ok_is, if_ok, below_is, number_is, parts_whole}
use Rattle.transcript_book.proofs.Fields.{field_is}
use Rattle.transcript_book.proofs.Entries.{none_more, one_spelling}

-- ---- entries

-- what is placed is what was said, at its height
record IsPlaced (d : Deal) (a : ℕ) (past : List Entry) (s : Sender) (w : What) (reply : Reply) (e : Entry) : Type 0 where
  sender : e.sender ≡ s
  what : e.what ≡ w
  reply_is : e.reply ≡ reply
  formed : IsFormedWhat d a past e.sender e.what e.height

placed_is : (d : Deal) (a : ℕ) (past : List Entry) (s : Sender) (w : What) (reply : Reply) (e : Entry)
    → placed_entry d a (written_height (height past)) reply s w ≡ Ok e → IsPlaced d a past s w reply e
placed_is d a past (Party p) (Made c) reply e is =
    let q = if_ok (touches d p a && fit d a c) (Ok (call_entry p (written_height (height past)) c reply)) e is in
    let both = and_parts (touches d p a) (fit d a c) q.0 in
    subst (IsPlaced d a past (Party p) (Made c) reply) (ok_is (call_entry p (written_height (height past)) c reply) e q.1) (record {
      sender = refl;
      what = refl;
      reply_is = refl;
      formed = record { of_the_two = both.0; fits = both.1; height = refl };
    })
placed_is d a past Clock (Tick k) reply e is =
    let at = written_height (height past) in
    let q = if_ok (nat_le 1 k && nat_le k 1000000) (Ok (tick_entry k (written_height (at + k)) reply)) e is in
    let both = and_parts (nat_le 1 k) (nat_le k 1000000) q.0 in
    subst (IsPlaced d a past Clock (Tick k) reply) (ok_is (tick_entry k (written_height (at + k)) reply) e q.1) (record {
      sender = refl;
      what = refl;
      reply_is = refl;
      formed = record { some = leb-true 1 k both.0; below = leb-true k 1000000 both.1; height = held_again (height past) k };
    })
placed_is d a past (Party p) (Tick k) reply e is = absurd (cc is)
placed_is d a past Clock (Made c) reply e is = absurd (cc is)

-- The line of an entry after those before it.
pub record IsEntryLine (d : Deal) (a : ℕ) (past : List Entry) (line : List ℕ) (e : Entry) : Type 0 where
  pub line_is : line ≡ entry_line e
  pub formed : IsFormedEntry d a past e
  pub statable : IsStatable e

stated_by : (d : Deal) (a : ℕ) (past : List Entry) (line : List ℕ) (s : Said) (e : Entry) → IsSpelling (length d.leaders) line s
    → IsPlaced d a past s.sender s.what s.reply e → IsEntryLine d a past line e
stated_by d a past line s e k p = record {
  line_is = k.line_is
      ∙ ap (λ (x : Sender). spaced (entry_words x s.what s.reply)) (sym p.sender)
      ∙ ap (λ (x : What). spaced (entry_words e.sender x s.reply)) (sym p.what)
      ∙ ap (λ (x : Reply). spaced (entry_words e.sender e.what x)) (sym p.reply_is);
  formed = record {
    what = p.formed;
    sender_not_full = λ q. k.sender_not_full (sym p.reply_is ∙ q);
    clock_not_full = λ q. k.clock_not_full (sym p.reply_is ∙ q);
  };
  statable = record {
    sender = subst IsTypedSender (sym p.sender) k.sender;
    what = subst IsTypedWhat (sym p.what) k.what;
    reply = subst IsTypedReply (sym p.reply_is) k.reply;
    tick = subst (λ (x : What). IsStatedWhat x e.reply) (sym p.what) (subst (λ (x : Reply). IsStatedWhat s.what x) (sym p.reply_is) k.stated);
  };
}

pub entry_is : (d : Deal) (a : ℕ) (past : List Entry) (line : List ℕ) (e : Entry) → parse_next_entry d a past line ≡ Ok e → IsEntryLine d a past line e
unfolding parse_entry
entry_is d a past line e is =
    let p = went (line_said (length d.leaders) line) _ e is in
    stated_by d a past line p.0 e (one_spelling (length d.leaders) line p.0 p.1) (placed_is d a past p.0.sender p.0.what p.0.reply e p.2)

-- ---- the line before the entries of an arc

-- with their number
abbrev pub count_line : ℕ → ℕ → List ℕ
count_line a n = spaced (codes "ledger" ∷ decimal a ∷ decimal n ∷ [])

word_is : IsExact ledger_word (λ u. codes "ledger") (λ u. Unit {0})
word_is w u e = let p = if_ok (is_word w (codes "ledger")) (Ok tt) u e in (bytes_eq-true w (codes "ledger") p.0, tt)

just_is : (a : ℕ) → IsExact (just a) (λ u. decimal a) (λ u. Unit {0})
just_is a w u e =
    let p = went (decimal_number w) (λ n. cond (n == a) (Ok tt) misspelt) u e in
    let q = if_ok (p.0 == a) (Ok tt) u p.2 in
    ((number_is w p.0 p.1).0 ∙ ap decimal (eqb-true p.0 a q.0), tt)

words_are : (a : ℕ) (ws : List (List ℕ)) (n : ℕ) → words_count a ws ≡ Ok n → (ws ≡ codes "ledger" ∷ decimal a ∷ decimal n ∷ []) × (n ≤ 20064)
unfolding words_count
words_are a ws n e =
    let p = went (parse_first_field ledger_word ws) _ n e in
    let q = went (parse_first_field (just a) p.0.1) _ n p.2 in
    let r = went (parse_first_field (bounded_number 20065) q.0.1) _ n q.2 in
    let s = went (nothing_more r.0.1) _ n r.2 in
    let same : r.0.0 ≡ n = ok_is r.0.0 n s.2 in
    let kp = field_is ledger_word (λ u. codes "ledger") (λ u. Unit {0}) word_is ws p.0.0 p.0.1 p.1 in
    let kq = field_is (just a) (λ u. decimal a) (λ u. Unit {0}) (just_is a) p.0.1 q.0.0 q.0.1 q.1 in
    let kr = field_is (bounded_number 20065) decimal (λ m. m < 20065) (below_is 20065) q.0.1 r.0.0 r.0.1 r.1 in
    let small : r.0.0 < 20065 = kr.1 in (
      kp.0 ∙ ap (λ (l : List (List ℕ)). codes "ledger" ∷ l) (kq.0 ∙ ap (λ (l : List (List ℕ)). decimal a ∷ l) (kr.0
          ∙ ap₂ (λ (m : ℕ) (l : List (List ℕ)). decimal m ∷ l) same (none_more r.0.1 s.0 s.1))),
      omega arith,
    )

pub count_is : (a : ℕ) (line : List ℕ) (n : ℕ) → parse_limited_count a line ≡ Ok n → (line ≡ count_line a n) × (n ≤ 20064)
unfolding parse_limited_count
count_is a line n e =
    let k = words_are a (separated_parts 32 line) n e in
    (sym (parts_whole 32 line) ∙ ap (between 32) k.0, k.1)
