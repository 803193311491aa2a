-- What the line of an entry is by its words.
use Rattle.std.proofs.Common.{◌≡◌, ◌≢◌, ◌&&◌, ◌||◌, ◌≤◌, ◌<◌, ◌^◌, ℕ, Bool, true, false, not, cond, List, [], ◌∷◌, ◌++◌, length, decimal, Ok}
use Rattle.std.proofs.Common.{Result, refl, sym, ap, ap₂, ◌∙◌, arith, length-append}
use Rattle.std.specs.Prelude.{codes}
use Rattle.hashkey_path.proofs.Validity.{bytes_eq-true}
use Rattle.swap_rules.proofs.Words.{bytes_eq-refl}
use Rattle.escrow_core.specs.declared.reply.Reply.{Reply}
use Rattle.escrow_core.specs.declared.reply.Reply.TheVariants.{Accepted, Settled, NotCounterparty, NotParty, AlreadyUnlocked, WrongSecret, WrongPath}
use Rattle.escrow_core.specs.declared.reply.Reply.TheVariants.{WrongSignature, TooLate, StillLocked, NothingLocked, NotExpired, NoContract}
use Rattle.escrow_core.specs.declared.reply.Reply.TheVariants.{AlreadyPublished, NoFunds, SenderFull, ClockFull}
use Rattle.ledger_core.specs.declared.entry.Call.{Call}
use Rattle.ledger_core.specs.declared.entry.Call.TheVariants.{Publish, Unlock, Claim, Refund, Transfer}
use Rattle.ledger_core.specs.declared.entry.Sender.TheVariants.{Party, Clock}
use Rattle.ledger_core.specs.declared.entry.What.TheVariants.{Call as Made, Tick}
use Rattle.typed_books.specs.Typed.{IsTypedCall, IsTypedReply}
use Rattle.transcript_book.specs.declared.said.Misspelling.{Misspelling}
use Rattle.transcript_book.specs.Between.{separated_parts, spaced}
use Rattle.transcript_book.specs.Reading.{is_word, decimal_number}
use Rattle.transcript_book.specs.Words.{call_words, entry_words, reply_words}
use Rattle.transcript_book.proofs.Numbers.{high_number, number_back}
use Rattle.transcript_book.proofs.SeparatedParts.{all_append, high_too, parts_between}
use Rattle.transcript_book.proofs.Spelling.{high_call, high_reply}
use Rattle.told_ledgers.specs.declared.kind.Kind.{Kind}
use Rattle.told_ledgers.specs.declared.kind.Kind.TheVariants.{Read, Refused, Noise, Publish as PublishLine, Accepted as AcceptedLine}
use Rattle.told_ledgers.specs.Words as words
use Rattle.told_ledgers.specs.Words.{ends_accepted, ends_unfunded, foreign_kind, line_kind}
use Rattle.program_laws.specs.Enough.{call_kind, is_accepting, is_for_want_of_funds, own_call_kind}

-- ---- the words

pub call_parts : (p : ℕ) (c : Call) (r : Reply) → p < 256 → IsTypedCall c → IsTypedReply r
    → separated_parts 32 (spaced (entry_words (Party p) (Made c) r)) ≡ entry_words (Party p) (Made c) r
call_parts p c r lt k kr =
    parts_between 32 33 (codes "c") (decimal p ∷ (call_words c ++ codes "=" ∷ reply_words r)) (omega arith) refl (
      high_too 33 48 (decimal p) (omega arith) (high_number p (omega arith)),
      all_append 33 (call_words c) (codes "=" ∷ reply_words r) (high_call c k) (refl, high_reply r kr),
    )

pub tick_parts : (n : ℕ) (r : Reply) → n < 2 ^ 32 → separated_parts 32 (spaced (entry_words Clock (Tick n) r)) ≡ entry_words Clock (Tick n) r
tick_parts n r lt =
    parts_between 32 33 (codes "t") (decimal n ∷ []) (omega arith) refl (high_too 33 48 (decimal n) (omega arith) (high_number n (omega arith)), tt)

-- ---- the last two words

ends_more : (x : List ℕ) (l : List (List ℕ)) → 2 ≤ length l → ends_accepted (x ∷ l) ≡ ends_accepted l
ends_more x [] le = absurd (omega arith)
ends_more x (w ∷ []) le = absurd (omega arith)
ends_more x (w ∷ y ∷ l) le = refl

ends_reply : (r : Reply) → ends_accepted (codes "=" ∷ reply_words r) ≡ is_accepting r
ends_reply Accepted = refl
ends_reply Settled = refl
ends_reply NotCounterparty = refl
ends_reply NotParty = refl
ends_reply AlreadyUnlocked = refl
ends_reply WrongSecret = refl
ends_reply WrongPath = refl
ends_reply WrongSignature = refl
ends_reply (TooLate n) = refl
ends_reply (StillLocked n) = refl
ends_reply NothingLocked = refl
ends_reply (NotExpired n) = refl
ends_reply NoContract = refl
ends_reply AlreadyPublished = refl
ends_reply (NoFunds n) = refl
ends_reply SenderFull = refl
ends_reply ClockFull = refl

some_words : (r : Reply) → 1 ≤ length (reply_words r)
some_words Accepted = omega arith
some_words Settled = omega arith
some_words NotCounterparty = omega arith
some_words NotParty = omega arith
some_words AlreadyUnlocked = omega arith
some_words WrongSecret = omega arith
some_words WrongPath = omega arith
some_words WrongSignature = omega arith
some_words (TooLate n) = omega arith
some_words (StillLocked n) = omega arith
some_words NothingLocked = omega arith
some_words (NotExpired n) = omega arith
some_words NoContract = omega arith
some_words AlreadyPublished = omega arith
some_words (NoFunds n) = omega arith
some_words SenderFull = omega arith
some_words ClockFull = omega arith

pub ends_words : (ws : List (List ℕ)) (r : Reply) → ends_accepted (ws ++ codes "=" ∷ reply_words r) ≡ is_accepting r
ends_words [] r = ends_reply r
ends_words (w ∷ ws) r =
    ends_more w (ws ++ codes "=" ∷ reply_words r) (omega (arith, some_words r, length-append ws (codes "=" ∷ reply_words r))) ∙ ends_words ws r

-- ---- kinds

foreign_is : (p : ℕ) (c : Call) (r : Reply) → foreign_kind (entry_words (Party p) (Made c) r) ≡ call_kind c r
foreign_is p (Publish t) r =
    ap (λ x. cond (not x || false) Noise (cond true PublishLine AcceptedLine)) (ends_words (codes "c" ∷ decimal p ∷ call_words (Publish t)) r)
foreign_is p (Unlock key) r =
    ap (λ x. cond (not x || false) Noise (cond false PublishLine AcceptedLine)) (ends_words (codes "c" ∷ decimal p ∷ call_words (Unlock key)) r)
foreign_is p Claim r =
    ap (λ x. cond (not x || false) Noise (cond false PublishLine AcceptedLine)) (ends_words (codes "c" ∷ decimal p ∷ call_words Claim) r)
foreign_is p Refund r =
    ap (λ x. cond (not x || false) Noise (cond false PublishLine AcceptedLine)) (ends_words (codes "c" ∷ decimal p ∷ call_words Refund) r)
foreign_is p (Transfer to units) r =
    ap (λ x. cond (not x || true) Noise (cond false PublishLine AcceptedLine)) (ends_words (codes "c" ∷ decimal p ∷ call_words (Transfer to units)) r)

same_number : (p v : ℕ) → p < 256 → v < 256 → decimal p ≡ decimal v → p ≡ v
same_number p v lp lv e = same p v (sym (number_back p (omega arith)) ∙ ap decimal_number e ∙ number_back v (omega arith))
  where
    same : (x y : ℕ) → ◌≡◌ {A = Result ℕ Misspelling} (Ok x) (Ok y) → x ≡ y
    same x y q = cc

other_number : (p v : ℕ) → p < 256 → v < 256 → p ≢ v → is_word (decimal p) (decimal v) ≡ false
other_number p v lp lv other = by (is_word (decimal p) (decimal v)) refl
  where
    by : (t : Bool) → is_word (decimal p) (decimal v) ≡ t → is_word (decimal p) (decimal v) ≡ false
    by true q = absurd (other (same_number p v lp lv (bytes_eq-true (decimal p) (decimal v) q)))
    by false q = q

-- ---- the last three words

three_more : (x : List ℕ) (l : List (List ℕ)) → 3 ≤ length l → ends_unfunded (x ∷ l) ≡ ends_unfunded l
three_more x [] le = absurd (omega arith)
three_more x (w ∷ []) le = absurd (omega arith)
three_more x (w ∷ y ∷ []) le = absurd (omega arith)
three_more x (w ∷ y ∷ z ∷ l) le = refl

never : (x : Bool) → (x && false) ≡ false
never true = refl
never false = refl

unfunded_reply : (w : List ℕ) (r : Reply) → ends_unfunded (w ∷ codes "=" ∷ reply_words r) ≡ is_for_want_of_funds r
unfunded_reply w Accepted = never (is_word w (codes "="))
unfunded_reply w Settled = never (is_word w (codes "="))
unfunded_reply w NotCounterparty = never (is_word w (codes "="))
unfunded_reply w NotParty = never (is_word w (codes "="))
unfunded_reply w AlreadyUnlocked = never (is_word w (codes "="))
unfunded_reply w WrongSecret = never (is_word w (codes "="))
unfunded_reply w WrongPath = never (is_word w (codes "="))
unfunded_reply w WrongSignature = never (is_word w (codes "="))
unfunded_reply w (TooLate n) = refl
unfunded_reply w (StillLocked n) = refl
unfunded_reply w NothingLocked = never (is_word w (codes "="))
unfunded_reply w (NotExpired n) = refl
unfunded_reply w NoContract = never (is_word w (codes "="))
unfunded_reply w AlreadyPublished = never (is_word w (codes "="))
unfunded_reply w (NoFunds n) = refl
unfunded_reply w SenderFull = never (is_word w (codes "="))
unfunded_reply w ClockFull = never (is_word w (codes "="))

unfunded_words : (w : List ℕ) (ws : List (List ℕ)) (r : Reply) → ends_unfunded (w ∷ (ws ++ codes "=" ∷ reply_words r)) ≡ is_for_want_of_funds r
unfunded_words w [] r = unfunded_reply w r
unfunded_words w (x ∷ ws) r =
    three_more w (x ∷ (ws ++ codes "=" ∷ reply_words r)) (omega (arith, some_words r, length-append ws (codes "=" ∷ reply_words r)))
    ∙ unfunded_words x ws r

own_is : (p : ℕ) (c : Call) (r : Reply) → words.own_kind (entry_words (Party p) (Made c) r) ≡ own_call_kind c r
own_is p (Publish t) r =
    ap₂ (λ (x y : Bool). cond (x && not y) Refused Read) (unfunded_words (codes "c") (decimal p ∷ call_words (Publish t)) r)
    (ends_words (codes "c" ∷ decimal p ∷ call_words (Publish t)) r)
own_is p (Unlock key) r = ap (λ x. cond (not x) Refused Read) (ends_words (codes "c" ∷ decimal p ∷ call_words (Unlock key)) r)
own_is p Claim r = ap (λ x. cond (not x) Refused Read) (ends_words (codes "c" ∷ decimal p ∷ call_words Claim) r)
own_is p Refund r = ap (λ x. cond (not x) Refused Read) (ends_words (codes "c" ∷ decimal p ∷ call_words Refund) r)
own_is p (Transfer to units) r = refl

abbrev by_second : ℕ → Call → Reply → Bool → Kind
by_second p c r t = cond t (words.own_kind (entry_words (Party p) (Made c) r)) (foreign_kind (entry_words (Party p) (Made c) r))

pub other_kind : (v p : ℕ) (c : Call) (r : Reply) → p < 256 → v < 256 → p ≢ v → line_kind v (entry_words (Party p) (Made c) r) ≡ call_kind c r
other_kind v p c r lp lv other = ap (by_second p c r) (other_number p v lp lv other) ∙ foreign_is p c r

pub own_kind : (v : ℕ) (c : Call) (r : Reply) → line_kind v (entry_words (Party v) (Made c) r) ≡ own_call_kind c r
own_kind v c r = ap (by_second v c r) (bytes_eq-refl (decimal v)) ∙ own_is v c r

pub tick_kind : (v n : ℕ) (r : Reply) → line_kind v (entry_words Clock (Tick n) r) ≡ Read
tick_kind v n r = refl
