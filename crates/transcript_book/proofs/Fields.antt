-- Calls and replies have no other spelling.
use Rattle.std.proofs.Common.{◌≡◌, ◌≢◌, ℕ, zero, suc, ◌^◌, ◌<◌, Bool, true, false, cond, List, [], ◌∷◌, ◌++◌, length, map, decimal, Result, Ok, refl}
use Rattle.std.proofs.Common.{sym, ap, ap₂, ◌∙◌, subst, arith}
use Rattle.std.specs.Prelude.{All, codes}
use Rattle.hex.specs.Hex.{encode_lower}
use Rattle.swap_base.specs.Fault.{◌>>=◌}
use Rattle.hashkey_path.specs.declared.hashkey.Hashkey.{Hashkey}
use Rattle.hashkey_path.proofs.Validity.{bytes_eq-true}
use Rattle.escrow_core.specs.declared.terms.Terms.{Terms}
use Rattle.escrow_core.specs.declared.reply.Reply.{Reply}
use Rattle.escrow_core.specs.declared.reply.Reply.TheVariants.{Accepted, Settled, NotCounterparty, NotParty, AlreadyUnlocked, WrongSecret, WrongPath}
use Rattle.escrow_core.specs.declared.reply.Reply.TheVariants.{WrongSignature, TooLate, StillLocked, NothingLocked, NotExpired, NoContract}
use Rattle.escrow_core.specs.declared.reply.Reply.TheVariants.{AlreadyPublished, NoFunds, SenderFull, ClockFull}
use Rattle.ledger_core.specs.declared.entry.Call.{Call}
use Rattle.ledger_core.specs.declared.entry.Call.TheVariants.{Publish, Unlock, Claim, Refund, Transfer}
use Rattle.transcript_book.specs.declared.said.Misspelling.{Misspelling}
use Rattle.typed_books.specs.Typed.{IsDigest, IsSignature, IsTypedCall, IsTypedReply}
use Rattle.transcript_book.specs.Words.{list_word, signature_word, call_words, reply_words}
use Rattle.transcript_book.specs.Reading.{decimal_number, bounded_number, lower_hex_digest, parse_signature, listed_field, is_word, parse_first_field, parse_locks}
use Rattle.transcript_book.specs.Reading.{parse_publish_fields, parse_unlock_fields, read_units, parse_named_call, parse_call, plain_reply, numbered_reply, make_reply}
use Rattle.transcript_book.specs.Spelling.{HasLocks}
use Rattle.transcript_book.proofs.Exact.{IsExact, went, ok_is, number_is, below_is, digest_is, signature_is, list_is}

-- ---- fields

-- a field, and those after it
pub field_is : {A : Type 0} (f : List ℕ → Result A Misspelling) (word : A → List ℕ) (P : A → Type 0) → IsExact f word P
    → (ws : List (List ℕ)) (x : A) (rest : List (List ℕ)) → parse_first_field f ws ≡ Ok (x, rest) → (ws ≡ word x ∷ rest) × P x
unfolding parse_first_field
field_is f word P exact [] x rest e = absurd (cc e)
field_is {A = A} f word P exact (w ∷ ws) x rest e =
    let p = went (f w) (λ y. Ok (y, ws)) (x, rest) e in
    let same : ◌≡◌ {A = A × List (List ℕ)} (p.0, ws) (x, rest) = ok_is (p.0, ws) (x, rest) p.2 in
    let one : p.0 ≡ x = ap (λ (q : A × List (List ℕ)). q.0) same in
    let more : ws ≡ rest = ap (λ (q : A × List (List ℕ)). q.1) same in
    let k = exact w p.0 p.1 in
    (ap₂ (λ (v : List ℕ) (vs : List (List ℕ)). v ∷ vs) (k.0 ∙ ap word one) more, subst P one k.1)

small_is : (ws : List (List ℕ)) (x : ℕ) (rest : List (List ℕ)) → parse_first_field (bounded_number (2 ^ 32)) ws ≡ Ok (x, rest) → (ws ≡ decimal x ∷ rest) × (x < 2 ^ 32)
small_is ws x rest e = field_is (bounded_number (2 ^ 32)) decimal (λ n. n < 2 ^ 32) (below_is (2 ^ 32)) ws x rest e

pub byte_is : (ws : List (List ℕ)) (x : ℕ) (rest : List (List ℕ)) → parse_first_field (bounded_number 256) ws ≡ Ok (x, rest) → (ws ≡ decimal x ∷ rest) × (x < 256)
byte_is ws x rest e = field_is (bounded_number 256) decimal (λ n. n < 256) (below_is 256) ws x rest e

wide_is : (ws : List (List ℕ)) (x : ℕ) (rest : List (List ℕ)) → parse_first_field decimal_number ws ≡ Ok (x, rest) → (ws ≡ decimal x ∷ rest) × (x < 2 ^ 64)
wide_is ws x rest e = field_is decimal_number decimal (λ n. n < 2 ^ 64) number_is ws x rest e

all_cons : {A : Type 0} (P : A → Type 0) (x : A) (xs : List A) → P x → All P xs → All P (x ∷ xs)
all_cons P x xs p h zero d lt = p
all_cons P x xs p h (suc i) d lt = h i d (omega arith)

-- n digests, each in a field
record AreLocks (n : ℕ) (ws : List (List ℕ)) (xs : List (List ℕ)) (rest : List (List ℕ)) : Type 0 where
  words : ws ≡ map encode_lower xs ++ rest
  count : length xs ≡ n
  each : All IsDigest xs

locks_are : (n : ℕ) (ws xs rest : List (List ℕ)) → parse_locks n ws ≡ Ok (xs, rest) → AreLocks n ws xs rest
locks_are zero ws xs rest e =
    let same : ◌≡◌ {A = List (List ℕ) × List (List ℕ)} ([], ws) (xs, rest) = ok_is ([], ws) (xs, rest) e in
    subst (λ (q : List (List ℕ) × List (List ℕ)). AreLocks 0 ws q.0 q.1) same (record { words = refl; count = refl; each = λ i d lt. absurd (omega arith) })
locks_are (suc n) ws xs rest e =
    let p = went (parse_first_field lower_hex_digest ws) _ (xs, rest) e in
    let q = went (parse_locks n p.0.1) _ (xs, rest) p.2 in
    let same : ◌≡◌ {A = List (List ℕ) × List (List ℕ)} (p.0.0 ∷ q.0.0, q.0.1) (xs, rest) = ok_is (p.0.0 ∷ q.0.0, q.0.1) (xs, rest) q.2 in
    let one = field_is lower_hex_digest encode_lower IsDigest digest_is ws p.0.0 p.0.1 p.1 in
    let more = locks_are n p.0.1 q.0.0 q.0.1 q.1 in
    let count : length q.0.0 ≡ n = more.count in
    subst (λ (r : List (List ℕ) × List (List ℕ)). AreLocks (suc n) ws r.0 r.1) same (record {
      words = one.0 ∙ ap (λ (l : List (List ℕ)). encode_lower p.0.0 ∷ l) more.words;
      count = omega arith;
      each = all_cons IsDigest p.0.0 q.0.0 one.1 more.each;
    })

-- ---- calls

-- the words are those of the call, and then the rest
pub record IsSaidCall (locks : ℕ) (ws : List (List ℕ)) (c : Call) (rest : List (List ℕ)) : Type 0 where
  pub words : ws ≡ call_words c ++ rest
  pub few : HasLocks locks c
  pub typed : IsTypedCall c

-- a call without its first word
record IsSaidAfter (locks : ℕ) (word : List ℕ) (ws : List (List ℕ)) (c : Call) (rest : List (List ℕ)) : Type 0 where
  words : word ∷ ws ≡ call_words c ++ rest
  few : HasLocks locks c
  typed : IsTypedCall c

abbrev Rest : Type 0
Rest = List (List ℕ)

terms_are : (locks : ℕ) (ws : List (List ℕ)) (c : Call) (rest : List (List ℕ)) → parse_publish_fields locks ws ≡ Ok (c, rest)
    → IsSaidAfter locks (codes "publish") ws c rest
unfolding parse_publish_fields
terms_are locks ws c rest e =
    let a = went (parse_first_field (bounded_number (2 ^ 32)) ws) _ (c, rest) e in
    let b = went (parse_first_field (bounded_number (2 ^ 32)) a.0.1) _ (c, rest) a.2 in
    let d = went (parse_first_field (bounded_number (2 ^ 32)) b.0.1) _ (c, rest) b.2 in
    let f = went (parse_first_field (bounded_number (2 ^ 32)) d.0.1) _ (c, rest) d.2 in
    let g = went (parse_first_field decimal_number f.0.1) _ (c, rest) f.2 in
    let h = went (parse_locks locks g.0.1) _ (c, rest) g.2 in
    let t : Terms = record { locks = h.0.0; start = a.0.0; delta = b.0.0; bound = d.0.0; timelock = f.0.0; amount = g.0.0 } in
    let same : ◌≡◌ {A = Call × Rest} (Publish t, h.0.1) (c, rest) = ok_is (Publish t, h.0.1) (c, rest) h.2 in
    let ka = small_is ws a.0.0 a.0.1 a.1 in
    let kb = small_is a.0.1 b.0.0 b.0.1 b.1 in
    let kd = small_is b.0.1 d.0.0 d.0.1 d.1 in
    let kf = small_is d.0.1 f.0.0 f.0.1 f.1 in
    let kg = wide_is f.0.1 g.0.0 g.0.1 g.1 in
    let kh = locks_are locks g.0.1 h.0.0 h.0.1 h.1 in
    subst (λ (q : Call × Rest). IsSaidAfter locks (codes "publish") ws q.0 q.1) same (record {
      words = ap (λ (l : Rest). codes "publish" ∷ l) (ka.0 ∙ ap (λ (l : Rest). decimal a.0.0 ∷ l) (kb.0 ∙ ap (λ (l : Rest). decimal b.0.0 ∷ l) (kd.0
          ∙ ap (λ (l : Rest). decimal d.0.0 ∷ l) (kf.0 ∙ ap (λ (l : Rest). decimal f.0.0 ∷ l) (kg.0 ∙ ap (λ (l : Rest). decimal g.0.0 ∷ l) kh.words)))));
      few = kh.count;
      typed = record { start = ka.1; delta = kb.1; bound = kd.1; timelock = kf.1; amount = kg.1; locks = kh.each };
    })

key_is : (locks : ℕ) (ws : List (List ℕ)) (c : Call) (rest : List (List ℕ)) → parse_unlock_fields ws ≡ Ok (c, rest) → IsSaidAfter locks (codes "unlock") ws c rest
unfolding parse_unlock_fields
key_is locks ws c rest e =
    let a = went (parse_first_field (bounded_number 256) ws) _ (c, rest) e in
    let b = went (parse_first_field lower_hex_digest a.0.1) _ (c, rest) a.2 in
    let d = went (parse_first_field (listed_field (bounded_number 256)) b.0.1) _ (c, rest) b.2 in
    let f = went (parse_first_field (listed_field parse_signature) d.0.1) _ (c, rest) d.2 in
    let key : Hashkey = record { lock = a.0.0; secret = b.0.0; path = d.0.0; sigs = f.0.0 } in
    let same : ◌≡◌ {A = Call × Rest} (Unlock key, f.0.1) (c, rest) = ok_is (Unlock key, f.0.1) (c, rest) f.2 in
    let ka = byte_is ws a.0.0 a.0.1 a.1 in
    let kb = field_is lower_hex_digest encode_lower IsDigest digest_is a.0.1 b.0.0 b.0.1 b.1 in
    let kd = field_is (listed_field (bounded_number 256)) (λ xs. list_word (map decimal xs)) (All (λ p. p < 256))
    (list_is (bounded_number 256) decimal (λ n. n < 256) (below_is 256)) b.0.1 d.0.0 d.0.1 d.1 in
    let kf = field_is (listed_field parse_signature) (λ xs. list_word (map signature_word xs)) (All IsSignature)
    (list_is parse_signature signature_word IsSignature signature_is) d.0.1 f.0.0 f.0.1 f.1 in
    subst (λ (q : Call × Rest). IsSaidAfter locks (codes "unlock") ws q.0 q.1) same (record {
      words = ap (λ (l : Rest). codes "unlock" ∷ l) (ka.0 ∙ ap (λ (l : Rest). decimal a.0.0 ∷ l) (kb.0 ∙ ap (λ (l : Rest). encode_lower b.0.0 ∷ l) (kd.0
          ∙ ap (λ (l : Rest). list_word (map decimal d.0.0) ∷ l) kf.0)));
      few = tt;
      typed = record { lock = ka.1; secret = kb.1; path = kd.1; sigs = kf.1 };
    })

units_are : (locks : ℕ) (ws : List (List ℕ)) (c : Call) (rest : List (List ℕ)) → read_units ws ≡ Ok (c, rest) → IsSaidAfter locks (codes "transfer") ws c rest
unfolding read_units
units_are locks ws c rest e =
    let a = went (parse_first_field (bounded_number 256) ws) _ (c, rest) e in
    let b = went (parse_first_field decimal_number a.0.1) _ (c, rest) a.2 in
    let same : ◌≡◌ {A = Call × Rest} (Transfer a.0.0 b.0.0, b.0.1) (c, rest) = ok_is (Transfer a.0.0 b.0.0, b.0.1) (c, rest) b.2 in
    let ka = byte_is ws a.0.0 a.0.1 a.1 in
    let kb = wide_is a.0.1 b.0.0 b.0.1 b.1 in
    subst (λ (q : Call × Rest). IsSaidAfter locks (codes "transfer") ws q.0 q.1) same (record {
      words = ap (λ (l : Rest). codes "transfer" ∷ l) (ka.0 ∙ ap (λ (l : Rest). decimal a.0.0 ∷ l) kb.0);
      few = tt;
      typed = (ka.1, kb.1);
    })

-- a call that is said by its first word alone
bare_is : (locks : ℕ) (word : List ℕ) (bare : Call) (ws : List (List ℕ)) (c : Call) (rest : List (List ℕ)) → call_words bare ≡ word ∷ []
    → HasLocks locks bare → IsTypedCall bare → ◌≡◌ {A = Result (Call × Rest) Misspelling} (Ok (bare, ws)) (Ok (c, rest)) → IsSaidAfter locks word ws c rest
bare_is locks word bare ws c rest words few typed e =
    let same : ◌≡◌ {A = Call × Rest} (bare, ws) (c, rest) = ok_is (bare, ws) (c, rest) e in
    subst (λ (q : Call × Rest). IsSaidAfter locks word ws q.0 q.1) same (record {
      words = sym (ap (λ (l : Rest). l ++ ws) words);
      few = few;
      typed = typed;
    })

-- a test on the first word
pub if_word : {A : Type 0} (P : Type 0) (w word : List ℕ) (r s : Result A Misspelling) (y : A) → cond (is_word w word) r s ≡ Ok y
    → (w ≡ word → r ≡ Ok y → P) → (s ≡ Ok y → P) → P
if_word P w word r s y e yes_then no_then = by (is_word w word) refl e
  where
    by : (t : Bool) → is_word w word ≡ t → cond t r s ≡ Ok y → P
    by true q k = yes_then (bytes_eq-true w word q) k
    by false q k = no_then k

named : (locks : ℕ) (w word : List ℕ) (ws : List (List ℕ)) (c : Call) (rest : List (List ℕ)) → w ≡ word → IsSaidAfter locks word ws c rest
    → IsSaidCall locks (w ∷ ws) c rest
named locks w word ws c rest is k = record { words = ap (λ (v : List ℕ). v ∷ ws) is ∙ k.words; few = k.few; typed = k.typed }

call_by_is : (locks : ℕ) (w : List ℕ) (ws : List (List ℕ)) (c : Call) (rest : List (List ℕ)) → parse_named_call locks w ws ≡ Ok (c, rest)
    → IsSaidCall locks (w ∷ ws) c rest
call_by_is locks w ws c rest e =
    let P = IsSaidCall locks (w ∷ ws) c rest in
    if_word P w (codes "publish") _ _ (c, rest) e (λ is k. named locks w (codes "publish") ws c rest is (terms_are locks ws c rest k)) (λ e1.
    if_word P w (codes "unlock") _ _ (c, rest) e1 (λ is k. named locks w (codes "unlock") ws c rest is (key_is locks ws c rest k)) (λ e2.
    if_word P w (codes "claim") _ _ (c, rest) e2 (λ is k. named locks w (codes "claim") ws c rest is (bare_is locks (codes "claim") Claim ws c rest refl tt
    tt k)) (λ e3.
    if_word P w (codes "refund") _ _ (c, rest) e3 (λ is k. named locks w (codes "refund") ws c rest is (bare_is locks (codes "refund") Refund ws c rest refl
    tt tt k)) (λ e4.
    if_word P w (codes "transfer") _ _ (c, rest) e4 (λ is k. named locks w (codes "transfer") ws c rest is (units_are locks ws c rest k)) (λ e5.
    absurd (cc e5))))))

pub call_is : (locks : ℕ) (ws : List (List ℕ)) (c : Call) (rest : List (List ℕ)) → parse_call locks ws ≡ Ok (c, rest) → IsSaidCall locks ws c rest
unfolding parse_call
call_is locks [] c rest e = absurd (cc e)
call_is locks (w ∷ ws) c rest e = call_by_is locks w ws c rest e

-- ---- replies

pub record IsSaidReply (ws : List (List ℕ)) (r : Reply) : Type 0 where
  pub words : ws ≡ reply_words r
  pub typed : IsTypedReply r
  pub sender_not_full : r ≢ SenderFull
  pub clock_not_full : r ≢ ClockFull

plain : (w word : List ℕ) (bare r : Reply) → reply_words bare ≡ word ∷ [] → IsTypedReply bare → bare ≢ SenderFull → bare ≢ ClockFull → w ≡ word
    → ◌≡◌ {A = Result Reply Misspelling} (Ok bare) (Ok r) → IsSaidReply (w ∷ []) r
plain w word bare r words typed s c is e = subst (IsSaidReply (w ∷ [])) (ok_is bare r e) (record {
  words = ap (λ (v : List ℕ). v ∷ []) is ∙ sym words;
  typed = typed;
  sender_not_full = s;
  clock_not_full = c;
})

plain_is : (w : List ℕ) (r : Reply) → plain_reply w ≡ Ok r → IsSaidReply (w ∷ []) r
plain_is w r e =
    let P = IsSaidReply (w ∷ []) r in
    if_word P w (codes "accepted") _ _ r e (plain w (codes "accepted") Accepted r refl tt (λ q. absurd (cc q)) (λ q. absurd (cc q))) (λ e1.
    if_word P w (codes "Settled") _ _ r e1 (plain w (codes "Settled") Settled r refl tt (λ q. absurd (cc q)) (λ q. absurd (cc q))) (λ e2.
    if_word P w (codes "NotCounterparty") _ _ r e2 (plain w (codes "NotCounterparty") NotCounterparty r refl tt (λ q. absurd (cc q)) (λ q. absurd (cc q))) (λ
    e3.
    if_word P w (codes "NotParty") _ _ r e3 (plain w (codes "NotParty") NotParty r refl tt (λ q. absurd (cc q)) (λ q. absurd (cc q))) (λ e4.
    if_word P w (codes "AlreadyUnlocked") _ _ r e4 (plain w (codes "AlreadyUnlocked") AlreadyUnlocked r refl tt (λ q. absurd (cc q)) (λ q. absurd (cc q))) (λ
    e5.
    if_word P w (codes "WrongSecret") _ _ r e5 (plain w (codes "WrongSecret") WrongSecret r refl tt (λ q. absurd (cc q)) (λ q. absurd (cc q))) (λ e6.
    if_word P w (codes "WrongPath") _ _ r e6 (plain w (codes "WrongPath") WrongPath r refl tt (λ q. absurd (cc q)) (λ q. absurd (cc q))) (λ e7.
    if_word P w (codes "WrongSignature") _ _ r e7 (plain w (codes "WrongSignature") WrongSignature r refl tt (λ q. absurd (cc q)) (λ q. absurd (cc q))) (λ e8.
    if_word P w (codes "NothingLocked") _ _ r e8 (plain w (codes "NothingLocked") NothingLocked r refl tt (λ q. absurd (cc q)) (λ q. absurd (cc q))) (λ e9.
    if_word P w (codes "NoContract") _ _ r e9 (plain w (codes "NoContract") NoContract r refl tt (λ q. absurd (cc q)) (λ q. absurd (cc q))) (λ e10.
    if_word P w (codes "AlreadyPublished") _ _ r e10 (plain w (codes "AlreadyPublished") AlreadyPublished r refl tt (λ q. absurd (cc q)) (λ q.
    absurd (cc q))) (λ e11. absurd (cc e11))))))))))))

-- a reply that carries a number
numbered : (limit : ℕ) (read : List ℕ → Result ℕ Misspelling) (w word n : List ℕ) (make : ℕ → Reply) (r : Reply) → IsExact read decimal (λ m. m < limit)
    → ((m : ℕ) → reply_words (make m) ≡ word ∷ decimal m ∷ []) → ((m : ℕ) → m < limit → IsTypedReply (make m)) → ((m : ℕ) → make m ≢ SenderFull)
    → ((m : ℕ) → make m ≢ ClockFull) → w ≡ word → (read n >>= λ m. Ok (make m)) ≡ Ok r → IsSaidReply (w ∷ n ∷ []) r
numbered limit read w word n make r exact words typed s c is e =
    let p = went (read n) (λ m. Ok (make m)) r e in
    let k = exact n p.0 p.1 in
    subst (IsSaidReply (w ∷ n ∷ [])) (ok_is (make p.0) r p.2) (record {
      words = ap₂ (λ (u v : List ℕ). u ∷ v ∷ []) is k.0 ∙ sym (words p.0);
      typed = typed p.0 k.1;
      sender_not_full = s p.0;
      clock_not_full = c p.0;
    })

numbered_is : (w n : List ℕ) (r : Reply) → numbered_reply w n ≡ Ok r → IsSaidReply (w ∷ n ∷ []) r
numbered_is w n r e =
    let P = IsSaidReply (w ∷ n ∷ []) r in
    if_word P w (codes "TooLate") _ _ r e (numbered (2 ^ 64) decimal_number w (codes "TooLate") n TooLate r number_is (λ m. refl) (λ m lt. lt) (λ m q.
    absurd (cc q)) (λ m q. absurd (cc q))) (λ e1.
    if_word P w (codes "StillLocked") _ _ r e1 (numbered 256 (bounded_number 256) w (codes "StillLocked") n StillLocked r (below_is 256) (λ m. refl) (λ m lt.
    lt) (λ m q. absurd (cc q)) (λ m q. absurd (cc q))) (λ e2.
    if_word P w (codes "NotExpired") _ _ r e2 (numbered (2 ^ 64) decimal_number w (codes "NotExpired") n NotExpired r number_is (λ m. refl) (λ m lt. lt) (λ m q.
    absurd (cc q)) (λ m q. absurd (cc q))) (λ e3.
    if_word P w (codes "NoFunds") _ _ r e3 (numbered (2 ^ 64) decimal_number w (codes "NoFunds") n NoFunds r number_is (λ m. refl) (λ m lt. lt) (λ m q.
    absurd (cc q)) (λ m q. absurd (cc q))) (λ e4. absurd (cc e4)))))

pub reply_is : (ws : List (List ℕ)) (r : Reply) → make_reply ws ≡ Ok r → IsSaidReply ws r
reply_is [] r e = absurd (cc e)
reply_is (w ∷ []) r e = plain_is w r e
reply_is (w ∷ n ∷ []) r e = numbered_is w n r e
reply_is (w ∷ n ∷ m ∷ ws) r e = absurd (cc e)
