-- Fields, put one after another.
use Rattle.std.proofs.Common.{◌≡◌, ℕ, ◌+◌, List, [], ◌∷◌, ◌++◌, map, codes, decimal, Result, Ok, Err}
use Rattle.std.proofs.Common.{refl, sym, ap, ◌∙◌, append_assoc}
use Rattle.std.specs.Prelude.{OnOk}
use Rattle.std.proofs.lemmas.List.{append-nil}
use Rattle.hex.specs.Hex.{encode_lower}
use Rattle.swap_base.specs.Text.{lines}
use Rattle.swap_base.proofs.Lines.{appended}
use Rattle.hash_signature.specs.declared.sig.Sig.{Sig}
use Rattle.escrow_core.specs.declared.terms.Terms.{Terms}
use Rattle.escrow_core.specs.declared.reply.Reply.{Reply}
use Rattle.escrow_core.specs.declared.reply.Reply.TheVariants.{Accepted, Settled, NotCounterparty, NotParty, AlreadyUnlocked, WrongSecret}
use Rattle.escrow_core.specs.declared.reply.Reply.TheVariants.{WrongPath, WrongSignature, TooLate, StillLocked, NothingLocked, NotExpired}
use Rattle.escrow_core.specs.declared.reply.Reply.TheVariants.{NoContract, AlreadyPublished, NoFunds, SenderFull, ClockFull}
use Rattle.ledger_core.specs.declared.entry.Call.{Call}
use Rattle.ledger_core.specs.declared.entry.Call.TheVariants.{Publish, Unlock, Claim, Refund, Transfer}
use Rattle.command_input.specs.Words.{reply_text}
use Rattle.transcript_book.specs.Between.{between, spaced}
use Rattle.transcript_book.specs.Words.{list_word, signature_word, terms_words, key_words, call_words, reply_words}
use Rattle.run_texts.specs.Texts.{digest_after_space, party_after_comma, signature_words, numbers_text}

-- parts after the first one are each after the byte
between_lines : {A : Type 0} (b : ℕ) (word : A → List ℕ) (n : ℕ) (w : List ℕ) (xs : List A)
    → between b (w ∷ map word xs) ≡ w ++ lines (λ k x. b ∷ word x) n xs
unfolding lines
between_lines b word n w [] = sym (append-nil w)
between_lines b word n w (x ∷ xs) = ap (λ (l : List ℕ). w ++ b ∷ l) (between_lines b word (n + 1) (word x) xs)

-- two lists of fields, one after another
between_append : (b : ℕ) (w : List ℕ) (ws : List (List ℕ)) (v : List ℕ) (vs : List (List ℕ))
    → between b ((w ∷ ws) ++ v ∷ vs) ≡ between b (w ∷ ws) ++ b ∷ between b (v ∷ vs)
between_append b w [] v vs = refl
between_append b w (x ∷ ws) v vs =
    ap (λ (l : List ℕ). w ++ b ∷ l) (between_append b x ws v vs) ∙ sym (append_assoc w (b ∷ between b (x ∷ ws)) (b ∷ between b (v ∷ vs)))

-- a text is put in two parts
pub put_both : {T E : Type 0} (r : Result T E) (a b c x y text : List ℕ) → b ≡ a ++ x → text ≡ x ++ y → OnOk r (c ≡ b ++ y) → OnOk r (c ≡ a ++ text)
put_both (Ok t) a b c x y text p e q = appended a b c x y p q ∙ ap (λ (l : List ℕ). a ++ l) (sym e)
put_both (Err f) a b c x y text p e q = tt

pub path_after : (p : ℕ) (xs : List ℕ) → list_word (map decimal (p ∷ xs)) ≡ decimal p ++ lines party_after_comma 0 xs
path_after p xs = between_lines 44 decimal 0 (decimal p) xs

pub signatures_after : (s : Sig) (xs : List Sig) → list_word (map signature_word (s ∷ xs)) ≡ signature_word s ++ lines signature_words 0 xs
signatures_after s xs = between_lines 44 signature_word 0 (signature_word s) xs

-- a publish: its numbers, and then its digests
pub terms_text : (t : Terms) → spaced (codes "publish" ∷ terms_words t) ≡ numbers_text t ++ lines digest_after_space 0 t.locks
unfolding numbers_text
terms_text t =
    let rest = lines digest_after_space 0 t.locks in
    let a = decimal t.start in
    let b = decimal t.delta in
    let c = decimal t.bound in
    let d = decimal t.timelock in
    let e = decimal t.amount in
    let last : spaced (e ∷ map encode_lower t.locks) ≡ (e ++ []) ++ rest = between_lines 32 encode_lower 0 e t.locks ∙ ap (λ (l : List ℕ). l ++ rest)
    (sym (append-nil e)) in
    ap (λ (l : List ℕ). codes "publish " ++ l) (ap (λ (l : List ℕ). a ++ 32 ∷ l) (ap (λ (l : List ℕ). b ++ 32 ∷ l) (ap (λ (l : List ℕ). c ++ 32 ∷ l) (ap
    (λ (l : List ℕ). d ++ 32 ∷ l) last ∙ sym (append_assoc d (32 ∷ (e ++ [])) rest)) ∙ sym (append_assoc c (32 ∷ (d ++ 32 ∷ (e ++ []))) rest)) ∙ sym
    (append_assoc b (32 ∷ (c ++ 32 ∷ (d ++ 32 ∷ (e ++ [])))) rest)) ∙ sym (append_assoc a (32 ∷ (b ++ 32 ∷ (c ++ 32 ∷ (d ++ 32 ∷ (e ++ []))))) rest))

-- the sign before a reply
after_sign : (r : Reply) → spaced (codes "=" ∷ reply_words r) ≡ codes "= " ++ reply_text r
unfolding reply_text
after_sign Accepted = refl
after_sign Settled = refl
after_sign NotCounterparty = refl
after_sign NotParty = refl
after_sign AlreadyUnlocked = refl
after_sign WrongSecret = refl
after_sign WrongPath = refl
after_sign WrongSignature = refl
after_sign NothingLocked = refl
after_sign NoContract = refl
after_sign AlreadyPublished = refl
after_sign SenderFull = refl
after_sign ClockFull = refl
after_sign (TooLate n) = ap (λ (l : List ℕ). codes "= TooLate " ++ l) (sym (append-nil (decimal n)))
after_sign (StillLocked n) = ap (λ (l : List ℕ). codes "= StillLocked " ++ l) (sym (append-nil (decimal n)))
after_sign (NotExpired n) = ap (λ (l : List ℕ). codes "= NotExpired " ++ l) (sym (append-nil (decimal n)))
after_sign (NoFunds n) = ap (λ (l : List ℕ). codes "= NoFunds " ++ l) (sym (append-nil (decimal n)))

call_and : (c : Call) (ws : List (List ℕ)) → spaced (call_words c ++ codes "=" ∷ ws) ≡ spaced (call_words c) ++ 32 ∷ spaced (codes "=" ∷ ws)
call_and (Publish t) ws = between_append 32 (codes "publish") (terms_words t) (codes "=") ws
call_and (Unlock key) ws = between_append 32 (codes "unlock") (key_words key) (codes "=") ws
call_and Claim ws = between_append 32 (codes "claim") [] (codes "=") ws
call_and Refund ws = between_append 32 (codes "refund") [] (codes "=") ws
call_and (Transfer to units) ws = between_append 32 (codes "transfer") (decimal to ∷ decimal units ∷ []) (codes "=") ws

sender_and : (p : List ℕ) (c : Call) (ws : List (List ℕ))
    → spaced (codes "c" ∷ p ∷ (call_words c ++ ws)) ≡ codes "c " ++ (p ++ (codes " " ++ spaced (call_words c ++ ws)))
sender_and p (Publish t) ws = refl
sender_and p (Unlock key) ws = refl
sender_and p Claim ws = refl
sender_and p Refund ws = refl
sender_and p (Transfer to units) ws = refl

-- the fields of a call's line, one after another
pub made_line : (p : List ℕ) (c : Call) (r : Reply)
    → spaced (codes "c" ∷ p ∷ (call_words c ++ codes "=" ∷ reply_words r)) ≡ codes "c "
    ++ (p ++ (codes " " ++ (spaced (call_words c) ++ (codes " = " ++ reply_text r))))
made_line p c r =
    sender_and p c (codes "=" ∷ reply_words r)
    ∙ ap (λ (l : List ℕ). codes "c " ++ (p ++ (codes " " ++ l))) (call_and c (reply_words r)
    ∙ ap (λ (l : List ℕ). spaced (call_words c) ++ 32 ∷ l) (after_sign r))

all_parts : (a u p s call q reply : List ℕ) → (((a ++ (u ++ (p ++ s))) ++ call) ++ q) ++ reply ≡ a ++ (u ++ (p ++ (s ++ (call ++ (q ++ reply)))))
all_parts a u p s call q reply = simp append_assoc

-- the parts of a call's line, put one after another
pub made_text : (p call reply a b c d e : List ℕ) → b ≡ a ++ (codes "c " ++ (p ++ codes " ")) → c ≡ b ++ call → d ≡ c ++ codes " = " → e ≡ d ++ reply
    → e ≡ a ++ (codes "c " ++ (p ++ (codes " " ++ (call ++ (codes " = " ++ reply)))))
made_text p call reply a b c d e k l m n =
    n ∙ ap (λ (x : List ℕ). x ++ reply) (m ∙ ap (λ (x : List ℕ). x ++ codes " = ") (l ∙ ap (λ (x : List ℕ). x ++ call) k))
    ∙ all_parts a (codes "c ") p (codes " ") call (codes " = ") reply
