-- A whole transcript has one job and one book.
use Rattle.std.proofs.Common.{◌≡◌, ℕ, suc, ◌+◌, ◌^◌, ◌≤◌, ◌<◌, nat_le, IsTrue, List, [], ◌∷◌, ◌++◌, length, get_or, map}
use Rattle.std.proofs.Common.{decimal, Result, Ok, Some, refl, sym, ap, ap₂, ◌∙◌, subst, arith, eqb-true}
use Rattle.std.specs.Prelude.{All, codes}
use Rattle.std.proofs.lemmas.Fmt.{decimal_injective}
use Rattle.std.proofs.lemmas.List.{append_cancel_left}
use Rattle.swap_base.proofs.Lists.{and_parts}
use Rattle.swap_digraph.specs.declared.deal.Deal.{Deal}
use Rattle.escrow_core.specs.declared.reply.Reply.{Reply}
use Rattle.ledger_core.specs.declared.entry.Call.{Call}
use Rattle.ledger_core.specs.declared.entry.Call.TheVariants.{Publish, Unlock, Claim, Refund, Transfer}
use Rattle.ledger_core.specs.declared.entry.Sender.{Sender}
use Rattle.ledger_core.specs.declared.entry.Sender.TheVariants.{Party, Clock}
use Rattle.ledger_core.specs.declared.entry.What.{What}
use Rattle.ledger_core.specs.declared.entry.What.TheVariants.{Call as Made, Tick}
use Rattle.ledger_core.specs.declared.entry.Entry.{Entry}
use Rattle.ledger_core.specs.History.{entry_ticks, height, fit}
use Rattle.ledger_core.specs.Book.{Histories}
use Rattle.swap_job.specs.declared.job.Job.{Job}
use Rattle.ledger_core.specs.WellFormed.{written_height, IsFormedWhat, IsFormedEntry, IsFormedContinuation}
use Rattle.transcript_book.specs.declared.said.Said.{Said}
use Rattle.transcript_book.specs.declared.said.Misspelling.{Misspelling}
use Rattle.transcript_book.specs.Between.{spaced}
use Rattle.typed_books.specs.Typed.{IsTypedSender, IsTypedWhat}
use Rattle.transcript_book.specs.Words.{entry_words}
use Rattle.transcript_book.specs.Reading.{line_said}
use Rattle.transcript_book.specs.Lines.{entry_line, ledger_line, lines_from_arc, IsStatedWhat, IsStatable, IsStated}
use Rattle.transcript_book.specs.Laws.{OneStory}
use Rattle.transcript_book.proofs.Spelling.{HasLocks, call_line_back, tick_line_back}

-- Entries.

abbrev pub inside_said : Entry → Said
inside_said e = record { sender = e.sender; what = e.what; reply = e.reply }

publish_locks : (d : Deal) (a : ℕ) (c : Call) → IsTrue (fit d a c) → HasLocks (length d.leaders) c
publish_locks d a (Publish t) f =
    let n = nat_le t.amount 1000000000000 in
    let five = (and_parts _ n f).0 in
    let four = (and_parts _ (nat_le t.timelock 1000000) five).0 in
    let three = (and_parts _ (nat_le t.bound 1000000) four).0 in
    let two = (and_parts _ (nat_le t.delta 1000000) three).0 in
    let one = (and_parts _ (nat_le t.start 1000000) two).0 in
    eqb-true (length t.locks) (length d.leaders) one
publish_locks d a (Unlock key) f = tt
publish_locks d a Claim f = tt
publish_locks d a Refund f = tt
publish_locks d a (Transfer to units) f = tt

-- the line of a stated entry says it
line_says : (d : Deal) (a : ℕ) (past : List Entry) (e : Entry) (s : Sender) (w : What) → e.sender ≡ s → e.what ≡ w → IsFormedEntry d a past e
    → IsStatable e → IsFormedWhat d a past s w e.height → IsTypedSender s → IsTypedWhat w → IsStatedWhat w e.reply
    → line_said (length d.leaders) (spaced (entry_words s w e.reply)) ≡ Ok (record { sender = s; what = w; reply = e.reply })
line_says d a past e (Party p) (Made c) es ew f k formed ts tw st =
    call_line_back (length d.leaders) p c e.reply (publish_locks d a c formed.fits) (record {
      sender = ts;
      what = tw;
      reply = k.reply;
      sender_not_full =
          f.sender_not_full;
      clock_not_full = f.clock_not_full;
    })
line_says d a past e Clock (Tick n) es ew f k formed ts tw st =
    ap (λ (r : Reply). line_said (length d.leaders) (spaced (entry_words Clock (Tick n) r))) st ∙ tick_line_back (length d.leaders) n tw
    ∙ ap (λ (r : Reply). Ok (record { sender = Clock; what = Tick n; reply = r })) (sym st)
line_says d a past e (Party p) (Tick n) es ew f k formed ts tw st = absurd formed
line_says d a past e Clock (Made c) es ew f k formed ts tw st = absurd formed

pub entry_says : (d : Deal) (a : ℕ) (past : List Entry) (e : Entry) → IsFormedEntry d a past e → IsStatable e
    → line_said (length d.leaders) (entry_line e) ≡ Ok (inside_said e)
entry_says d a past e f k = line_says d a past e e.sender e.what refl refl f k f.what k.sender k.what k.tick

-- the height of a formed entry
latest_height : (d : Deal) (a : ℕ) (past : List Entry) (s : Sender) (w : What) (at : ℕ) → IsFormedWhat d a past s w at
    → at ≡ written_height (height past + entry_ticks w)
latest_height d a past (Party p) (Made c) at f = f.height ∙ ap written_height (let z : ◌≡◌ {A = ℕ} (height past) (height past + 0) = omega arith in z)
latest_height d a past Clock (Tick n) at f = f.height
latest_height d a past (Party p) (Tick n) at f = absurd f
latest_height d a past Clock (Made c) at f = absurd f

from_parts : (e o : Entry) → e.sender ≡ o.sender → e.height ≡ o.height → e.what ≡ o.what → e.reply ≡ o.reply → e ≡ o
from_parts e o s h w r =
    ap (λ (x : Sender). record { sender = x; height = e.height; what = e.what; reply = e.reply }) s
    ∙ ap (λ (x : ℕ). record { sender = o.sender; height = x; what = e.what; reply = e.reply }) h
    ∙ ap (λ (x : What). record { sender = o.sender; height = o.height; what = x; reply = e.reply }) w
    ∙ ap (λ (x : Reply). record { sender = o.sender; height = o.height; what = o.what; reply = x }) r

ok_is : {A : Type 0} (x y : A) → ◌≡◌ {A = Result A Misspelling} (Ok x) (Ok y) → x ≡ y
ok_is x y e = cc

same_entry : (d : Deal) (a : ℕ) (past : List Entry) (e o : Entry) → IsFormedEntry d a past e → IsFormedEntry d a past o → IsStatable e → IsStatable o
    → entry_line e ≡ entry_line o → e ≡ o
same_entry d a past e o f g k l same =
    let says : inside_said e ≡ inside_said o =
    ok_is (inside_said e) (inside_said o) (sym (entry_says d a past e f k) ∙ ap (line_said (length d.leaders)) same ∙ entry_says d a past o g l) in
    let what : e.what ≡ o.what = ap (λ (x : Said). x.what) says in
    from_parts e o (ap (λ (x : Said). x.sender) says)
    (latest_height d a past e.sender e.what e.height f.what ∙ ap (λ w. written_height (height past + entry_ticks w)) what
    ∙ sym (latest_height d a past o.sender o.what o.height g.what))
    what (ap (λ (x : Said). x.reply) says)

-- Histories.

head_is : {A : Type 0} (x y : A) (xs ys : List A) → x ∷ xs ≡ y ∷ ys → (x ≡ y) × (xs ≡ ys)
head_is x y xs ys e = (cc, cc)

rest_of : {A : Type 0} (P : A → Type 0) (x : A) (xs : List A) → All P (x ∷ xs) → All P xs
rest_of P x xs h k d lt = h (suc k) d (omega arith)

same_history : (d : Deal) (a : ℕ) (past h o : List Entry) (r s : List (List ℕ)) → IsFormedContinuation d a past h → IsFormedContinuation d a past o → All IsStatable h
    → All IsStatable o → length h ≡ length o → map entry_line h ++ r ≡ map entry_line o ++ s → (h ≡ o) × (r ≡ s)
same_history d a past [] [] r s f g k l long e = (refl, e)
same_history d a past [] (y ∷ o) r s f g k l long e = absurd (omega arith)
same_history d a past (x ∷ h) [] r s f g k l long e = absurd (omega arith)
same_history d a past (x ∷ h) (y ∷ o) r s f g k l long e =
    let both = head_is (entry_line x) (entry_line y) (map entry_line h ++ r) (map entry_line o ++ s) e in
    let one : x ≡ y = same_entry d a past x y f.0 g.0 (k 0 x (omega arith)) (l 0 y (omega arith)) both.0 in
    let rest =
    same_history d a (past ++ x ∷ []) h o r s f.1 (subst (λ (z : Entry). IsFormedContinuation d a (past ++ z ∷ []) o) (sym one) g.1) (rest_of IsStatable x h k)
    (rest_of IsStatable y o l) (omega arith) both.1 in
    (ap₂ (λ (z : Entry) (zs : List Entry). z ∷ zs) one rest.0, rest.1)

-- the number of entries that a ledger's line tells
same_count : (a m n : ℕ) → m < 2 ^ 64 → n < 2 ^ 64
    → spaced (codes "ledger" ∷ decimal a ∷ decimal m ∷ []) ≡ spaced (codes "ledger" ∷ decimal a ∷ decimal n ∷ []) → m ≡ n
same_count a m n lm ln e =
    let after = append_cancel_left (codes "ledger ") (decimal a ++ 32 ∷ decimal m) (decimal a ++ 32 ∷ decimal n) e in
    let last = append_cancel_left (decimal a) (32 ∷ decimal m) (32 ∷ decimal n) after in
    decimal_injective m n lm ln (head_is 32 32 (decimal m) (decimal n) last).1

-- Books: what is asked of the histories from arc a on.
record AreStated (d : Deal) (a : ℕ) (b : Histories) : Type 0 where
  formed : (i : ℕ) → i < length b → IsFormedContinuation d (a + i) [] (get_or b i [])
  statable : (i : ℕ) → i < length b → All IsStatable (get_or b i [])
  few : (i : ℕ) → i < length b → length (get_or b i []) ≤ 20064

later : (d : Deal) (a : ℕ) (h : List Entry) (b : Histories) → AreStated d a (h ∷ b) → AreStated d (a + 1) b
later d a h b k = record {
  formed = λ i lt. let z : ◌≡◌ {A = ℕ} (a + suc i) (a + 1 + i) =
      omega arith in subst (λ (j : ℕ). IsFormedContinuation d j [] (get_or b i [])) z (k.formed (suc i) (omega arith));
  statable = λ i lt. k.statable (suc i) (omega arith);
  few = λ i lt. k.few (suc i) (omega arith);
}

now : (d : Deal) (a : ℕ) (h : List Entry) (b : Histories) → AreStated d a (h ∷ b) → IsFormedContinuation d a [] h
now d a h b k = let z : ◌≡◌ {A = ℕ} (a + 0) a = omega arith in subst (λ (j : ℕ). IsFormedContinuation d j [] h) z (k.formed 0 (omega arith))

same_books : (d : Deal) (a : ℕ) (b c : Histories) → AreStated d a b → AreStated d a c → length b ≡ length c → lines_from_arc a b ≡ lines_from_arc a c → b ≡ c
same_books d a [] [] k l long e = refl
same_books d a [] (o ∷ c) k l long e = absurd (omega arith)
same_books d a (h ∷ b) [] k l long e = absurd (omega arith)
same_books d a (h ∷ b) (o ∷ c) k l long e =
    let both = head_is (ledger_line a h) (ledger_line a o) (map entry_line h ++ lines_from_arc (a + 1) b) (map entry_line o ++ lines_from_arc (a + 1) c) e in
    let few = k.few 0 (omega arith) in
    let few_too = l.few 0 (omega arith) in
    let many = same_count a (length h) (length o) (omega arith) (omega arith) both.0 in
    let one =
    same_history d a [] h o (lines_from_arc (a + 1) b) (lines_from_arc (a + 1) c) (now d a h b k) (now d a o c l) (k.statable 0 (omega arith))
    (l.statable 0 (omega arith)) many both.1 in
    ap₂ (λ (x : List Entry) (xs : Histories). x ∷ xs) one.0 (same_books d (a + 1) b c (later d a h b k) (later d a o c l) (omega arith) one.1)

are_stated : (d : Deal) (b : Histories) → IsStated d b → AreStated d 0 b
are_stated d b k = record {
  formed = λ i lt. let z : ◌≡◌ {A = ℕ} i (0 + i) = omega arith in subst (λ (j : ℕ). IsFormedContinuation d j [] (get_or b i [])) z (k.formed.formed i lt);
  statable = k.statable;
  few = k.few;
}

ok_job : (x y : Job) → Some x ≡ Some y → x ≡ y
ok_job x y e = cc

pub one_story : OneStory
one_story parse_whole_header ls job other b c k l =
    let same = sym k.lines ∙ l.lines in
    let after = head_is (codes "swap transcript 1") (codes "swap transcript 1") (k.header ∷ lines_from_arc 0 b) (l.header ∷ lines_from_arc 0 c) same in
    let both = head_is k.header l.header (lines_from_arc 0 b) (lines_from_arc 0 c) after.1 in
    let job_is : job ≡ other = ok_job job other (sym k.gives ∙ ap parse_whole_header both.0 ∙ l.gives) in
    let stated : IsStated job.deal c = subst (λ (j : Job). IsStated j.deal c) (sym job_is) l.stated in (
      job_is,
      same_books job.deal 0 b c (are_stated job.deal b k.stated) (are_stated job.deal c stated) (k.stated.formed.one_each
          ∙ sym stated.formed.one_each) both.1,
    )
