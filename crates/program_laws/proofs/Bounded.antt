-- How long the lines of a ledger are.
use Rattle.std.proofs.Common.{◌≡◌, ◌+◌, ◌*◌, ◌<◌, ◌≤◌, ◌^◌, ◌++◌, ℕ, suc, Bool, true, false, cond, List, [], ◌∷◌, length, map, decimal, count_by}
use Rattle.std.proofs.Common.{refl, ap, ◌∙◌, arith, length-append}
use Rattle.std.specs.Prelude.{All, codes}
use Rattle.std.specs.List.{AllByRecursion}
use Rattle.std.proofs.lemmas.Fmt.{length-decimal-le}
use Rattle.std.proofs.lemmas.List.Sums.{sum_by-cons}
use Rattle.hex.proofs.HexLemmas.{length-encode_with}
use Rattle.hex.specs.Hex.{encode_lower, lower_digits}
use Rattle.swap_base.specs.Text.{joined}
use Rattle.hash_signature.specs.declared.sig.Sig.{Sig}
use Rattle.escrow_core.specs.declared.reply.Reply.{Reply}
use Rattle.escrow_core.specs.declared.reply.Reply.TheVariants.{Accepted, Settled, NotCounterparty, NotParty, AlreadyUnlocked, WrongSecret, WrongPath}
use Rattle.escrow_core.specs.declared.reply.Reply.TheVariants.{WrongSignature, TooLate, StillLocked, NothingLocked, NotExpired, NoContract}
use Rattle.escrow_core.specs.declared.reply.Reply.TheVariants.{AlreadyPublished, NoFunds, SenderFull, ClockFull}
use Rattle.ledger_core.specs.declared.entry.Call.{Call}
use Rattle.ledger_core.specs.declared.entry.Call.TheVariants.{Publish, Unlock, Claim, Refund, Transfer}
use Rattle.ledger_core.specs.declared.entry.Sender.{Sender}
use Rattle.ledger_core.specs.declared.entry.Sender.TheVariants.{Party, Clock}
use Rattle.ledger_core.specs.declared.entry.What.{What}
use Rattle.ledger_core.specs.declared.entry.What.TheVariants.{Call as Made, Tick}
use Rattle.ledger_core.specs.declared.entry.Entry.{Entry}
use Rattle.ledger_core.specs.Book.{Histories}
use Rattle.typed_books.specs.Typed.{IsDigest, IsSignature, IsTypedCall, IsTypedReply, IsTypedSender, IsTypedWhat}
use Rattle.transcript_book.specs.Between.{between, fed_lines, spaced}
use Rattle.transcript_book.specs.Lines.{entry_line, ledger_line, ledger_lines, lines_from_arc}
use Rattle.transcript_book.specs.Words.{call_words, entry_words, list_word, reply_words, signature_word}
use Rattle.program_laws.specs.Written.{IsPossibleEntry}
use Rattle.program_laws.specs.Bounded.{BriefIsBounded, IsBrief, IsShortCall, IsShortEntry, IsShortWhat, is_unlocking}

-- ---- words

-- the bytes of the words, and one more for each
abbrev total : List (List ℕ) → ℕ
total [] = 0
total (w ∷ ws) = length w + 1 + total ws

total-append : (vs ws : List (List ℕ)) → total (vs ++ ws) ≡ total vs + total ws
total-append [] ws = omega arith
total-append (v ∷ vs) ws = let rest = total-append vs ws in omega arith

between_short : (b : ℕ) (ws : List (List ℕ)) → length (between b ws) ≤ total ws
between_short b [] = omega arith
between_short b (w ∷ []) = omega arith
between_short b (w ∷ v ∷ ws) =
    let rest = between_short b (v ∷ ws) in
    let long : length (w ++ b ∷ between b (v ∷ ws)) ≡ length w + length (b ∷ between b (v ∷ ws)) = length-append w (b ∷ between b (v ∷ ws)) in
    omega arith

-- ---- numbers, digests, signatures

byte_short : (n : ℕ) → n < 256 → length (decimal n) ≤ 3
byte_short n lt = length-decimal-le 3 n (omega arith) (omega arith) (omega arith)

small_short : (n : ℕ) → n < 2 ^ 32 → length (decimal n) ≤ 10
small_short n lt = length-decimal-le 10 n (omega arith) (omega arith) (omega arith)

wide_short : (n : ℕ) → n < 2 ^ 64 → length (decimal n) ≤ 20
wide_short n lt = length-decimal-le 20 n (omega arith) (omega arith) (omega arith)

hex_long : (xs : List ℕ) → length (encode_lower xs) ≡ 2 * length xs
hex_long xs = length-encode_with lower_digits xs

digest_long : (x : List ℕ) → IsDigest x → length (encode_lower x) ≡ 64
digest_long x k = let long = hex_long x in let size = k.size in omega arith

joined_long : (ds : List (List ℕ)) → All IsDigest ds → length (joined ds) ≡ 32 * length ds
joined_long [] h = refl
joined_long (d ∷ ds) h =
    let first : length d ≡ 32 = (h 0 d (omega arith)).size in
    let rest = joined_long ds (λ k e lt. h (suc k) e (omega arith)) in
    omega (arith, length-append d (joined ds))

signature_long : (s : Sig) → IsSignature s → length (signature_word s) ≡ 4288
signature_long s k =
    let many : length s ≡ 67 = k.size in
    let all = joined_long s k.values in
    let long = hex_long (joined s) in
    omega arith

locks_short : (xs : List (List ℕ)) → All IsDigest xs → total (map encode_lower xs) ≤ 65 * length xs
locks_short [] h = omega arith
locks_short (x ∷ xs) h =
    let one = digest_long x (h 0 x (omega arith)) in
    let rest = locks_short xs (λ k e lt. h (suc k) e (omega arith)) in
    omega arith

path_short : (ps : List ℕ) → All (λ p. p < 256) ps → total (map decimal ps) ≤ 4 * length ps
path_short [] h = omega arith
path_short (p ∷ ps) h =
    let one = byte_short p (h 0 p (omega arith)) in
    let rest = path_short ps (λ k e lt. h (suc k) e (omega arith)) in
    omega arith

sigs_short : (ss : List Sig) → All IsSignature ss → total (map signature_word ss) ≤ 4289 * length ss
sigs_short [] h = omega arith
sigs_short (s ∷ ss) h =
    let one = signature_long s (h 0 s (omega arith)) in
    let rest = sigs_short ss (λ k e lt. h (suc k) e (omega arith)) in
    omega arith

list_short : (ws : List (List ℕ)) → length (list_word ws) ≤ total ws + 1
list_short [] = omega arith
list_short (w ∷ ws) = let all = between_short 44 (w ∷ ws) in omega arith

-- ---- calls and replies

reply_short : (r : Reply) → IsTypedReply r → total (reply_words r) ≤ 40
reply_short Accepted k = omega arith
reply_short Settled k = omega arith
reply_short NotCounterparty k = omega arith
reply_short NotParty k = omega arith
reply_short AlreadyUnlocked k = omega arith
reply_short WrongSecret k = omega arith
reply_short WrongPath k = omega arith
reply_short WrongSignature k = omega arith
reply_short NothingLocked k = omega arith
reply_short NoContract k = omega arith
reply_short AlreadyPublished k = omega arith
reply_short SenderFull k = omega arith
reply_short ClockFull k = omega arith
reply_short (TooLate n) k = let one = wide_short n k in omega arith
reply_short (StillLocked n) k = let one = byte_short n k in omega arith
reply_short (NotExpired n) k = let one = wide_short n k in omega arith
reply_short (NoFunds n) k = let one = wide_short n k in omega arith

-- the most bytes of an unlock, and of any other call
abbrev most : Bool → ℕ
most true = 137467
most false = 630

abbrev is_unlock : Call → Bool
is_unlock (Unlock key) = true
is_unlock _ = false

call_short : (c : Call) → IsTypedCall c → IsShortCall c → total (call_words c) ≤ most (is_unlock c)
call_short (Publish t) k s =
    let a = small_short t.start k.start in
    let b = small_short t.delta k.delta in
    let x = small_short t.bound k.bound in
    let y = small_short t.timelock k.timelock in
    let z = wide_short t.amount k.amount in
    let locks = locks_short t.locks k.locks in
    omega arith
call_short (Unlock key) k s =
    let a = byte_short key.lock k.lock in
    let b = digest_long key.secret k.secret in
    let x = list_short (map decimal key.path) in
    let path = path_short key.path k.path in
    let y = list_short (map signature_word key.sigs) in
    let sigs = sigs_short key.sigs k.sigs in
    let one : length key.path ≤ 32 = s.0 in
    let other : length key.sigs ≤ 32 = s.1 in
    omega arith
call_short Claim k s = omega arith
call_short Refund k s = omega arith
call_short (Transfer to units) k s =
    let a = byte_short to k.0 in
    let b = wide_short units k.1 in
    omega arith

-- ---- lines

abbrev line_most : Bool → ℕ
line_most true = 137520
line_most false = 690

line_short : (e : Entry) (s : Sender) (w : What) → e.sender ≡ s → e.what ≡ w → IsPossibleEntry s w → IsTypedSender s → IsTypedWhat w → IsTypedReply e.reply
    → IsShortWhat w → length (entry_line e) + 1 ≤ line_most (is_unlocking w)
line_short e (Party p) (Made c) es ew m ts tw tr short =
    let words = call_words c ++ codes "=" ∷ reply_words e.reply in
    let is : entry_line e ≡ spaced (codes "c" ∷ decimal p ∷ words) =
    ap (λ (z : Sender). spaced (entry_words z e.what e.reply)) es ∙ ap (λ (z : What). spaced (entry_words (Party p) z e.reply)) ew in
    let all = between_short 32 (codes "c" ∷ decimal p ∷ words) in
    let party = byte_short p ts in
    let parts : total words ≡ total (call_words c) + total (codes "=" ∷ reply_words e.reply) = total-append (call_words c) (codes "=" ∷ reply_words e.reply) in
    let call = call_short c tw short in
    let reply = reply_short e.reply tr in
    let long : length (entry_line e) ≡ length (spaced (codes "c" ∷ decimal p ∷ words)) = ap (length {A = ℕ}) is in
    by c call (omega arith)
  where
    by : (c : Call) → total (call_words c) ≤ most (is_unlock c) → length (entry_line e) ≤ 49 + total (call_words c)
        → length (entry_line e) + 1 ≤ line_most (is_unlocking (Made c))
    by (Publish t) k l = omega arith
    by (Unlock key) k l = omega arith
    by Claim k l = omega arith
    by Refund k l = omega arith
    by (Transfer to units) k l = omega arith
line_short e Clock (Tick n) es ew m ts tw tr short =
    let is : entry_line e ≡ spaced (codes "t" ∷ decimal n ∷ []) =
    ap (λ (z : Sender). spaced (entry_words z e.what e.reply)) es ∙ ap (λ (z : What). spaced (entry_words Clock z e.reply)) ew in
    let all = between_short 32 (codes "t" ∷ decimal n ∷ []) in
    let number = small_short n tw in
    let long : length (entry_line e) ≡ length (spaced (codes "t" ∷ decimal n ∷ [])) = ap (length {A = ℕ}) is in
    omega arith
line_short e (Party p) (Tick n) es ew m ts tw tr short = absurd m
line_short e Clock (Made c) es ew m ts tw tr short = absurd m

entry_short : (e : Entry) → IsShortEntry e → length (entry_line e) + 1 ≤ line_most (is_unlocking e.what)
entry_short e k =
    let t = k.written.typed in line_short e e.sender e.what refl refl k.written.made t.sender t.what t.reply k.short

ended_more : (l : List ℕ) (ls : List (List ℕ)) → length (fed_lines (l ∷ ls)) ≡ length l + 1 + length (fed_lines ls)
ended_more l ls = length-append (l ++ 10 ∷ []) (fed_lines ls) ∙ ap (λ n. n + length (fed_lines ls)) (length-append l (10 ∷ []))

ended_all : (ks ls : List (List ℕ)) → length (fed_lines (ks ++ ls)) ≡ length (fed_lines ks) + length (fed_lines ls)
ended_all [] ls = omega arith
ended_all (k ∷ ks) ls =
    let rest = ended_all ks ls in
    let whole = ended_more k (ks ++ ls) in
    let front = ended_more k ks in
    omega arith

counted : (e : Entry) (h : List Entry) (t : Bool) → is_unlocking e.what ≡ t → count_by (λ x. is_unlocking x.what) (e ∷ h)
    ≡ cond t 1 0 + count_by (λ x. is_unlocking x.what) h
counted e h t q = sum_by-cons (λ x. cond (is_unlocking x.what) 1 0) e h ∙ ap (λ b. cond b 1 0 + count_by (λ x. is_unlocking x.what) h) q

entry_by : (e : Entry) (h : List Entry) (t : Bool) → is_unlocking e.what ≡ t → length (entry_line e) + 1 ≤ line_most t
    → length (fed_lines (map entry_line h)) ≤ 690 * length h + 136830 * count_by (λ x. is_unlocking x.what) h
    → length (fed_lines (entry_line e ∷ map entry_line h)) ≤ 690 * length (e ∷ h) + 136830 * count_by (λ x. is_unlocking x.what) (e ∷ h)
entry_by e h true q l rest =
    let whole = ended_more (entry_line e) (map entry_line h) in let count = counted e h true q in omega arith
entry_by e h false q l rest =
    let whole = ended_more (entry_line e) (map entry_line h) in let count = counted e h false q in omega arith

entries_short : (h : List Entry) → AllByRecursion IsShortEntry h
    → length (fed_lines (map entry_line h)) ≤ 690 * length h + 136830 * count_by (λ e. is_unlocking e.what) h
entries_short [] k = omega arith
entries_short (e ∷ h) k = entry_by e h (is_unlocking e.what) refl (entry_short e k.0) (entries_short h k.1)

-- ---- books

heading_short : (a : ℕ) (h : List Entry) → a < 2 ^ 32 → length h < 2 ^ 32 → length (ledger_line a h) + 1 ≤ 40
heading_short a h la lh =
    let all = between_short 32 (codes "ledger" ∷ decimal a ∷ decimal (length h) ∷ []) in
    let one = small_short a la in
    let other = small_short (length h) lh in
    omega arith

ledger_short : (a : ℕ) (h : List Entry) → a < 2 ^ 32 → IsBrief h → length (fed_lines (ledger_lines a h)) ≤ 1153330
ledger_short a h la k =
    let whole = ended_more (ledger_line a h) (map entry_line h) in
    let few = k.few in
    let unlocks = k.unlocks in
    let lines = entries_short h k.entries in
    let heading = heading_short a h la (omega arith) in
    omega arith

book_short : (a : ℕ) (k : Histories) → a + length k ≤ 128 → AllByRecursion IsBrief k → length (fed_lines (lines_from_arc a k)) ≤ 1153330 * length k + 4
book_short a [] le b = omega arith
book_short a (h ∷ k) le b =
    let whole = ended_all (ledger_lines a h) (lines_from_arc (a + 1) k) in
    let one = ledger_short a h (omega arith) b.0 in
    let rest = book_short (a + 1) k (omega arith) b.1 in
    omega arith

pub brief_is_bounded : BriefIsBounded
brief_is_bounded k few b = let all = book_short 0 k (omega arith) b in omega arith
