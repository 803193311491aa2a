-- What the answer on a hashkey says of the rows of the table.
use Rattle.std.proofs.Common.{◌≡◌, ℕ, ◌<◌, ◌≤◌, Bool, true, false, cond, not, nat_lt, List, Option, Some, None, is_none, refl, sym, ap, ◌∙◌, arith}
use Rattle.std.proofs.Common.{length, lt-ltb, le-ltb}
use Rattle.swap_digraph.specs.declared.deal.Deal.{Deal}
use Rattle.swap_digraph.specs.declared.deal.Mode.{Mode}
use Rattle.swap_digraph.specs.declared.deal.Mode.TheVariants.{Timelocks, Hashkeys}
use Rattle.hashkey_path.specs.declared.hashkey.Hashkey.{Hashkey}
use Rattle.hashkey_path.specs.declared.hashkey.HashkeyAnswer.{HashkeyAnswer}
use Rattle.hashkey_path.specs.declared.hashkey.HashkeyAnswer.TheVariants as answers
use Rattle.swap_digraph.specs.declared.deal.Version.{Version}
use Rattle.swap_digraph.specs.declared.deal.Version.TheVariants.{One, Two}
use Rattle.swap_digraph.specs.Deal.{most_parties, IsWellSized}
use Rattle.hashkey_path.specs.Hashkey.{HasPath, IsValidHashkey, wrong_signature, is_wrong_secret, is_wrong_path, is_wrong_signature, of_signatures}
use Rattle.hashkey_path.specs.Hashkey.{hashkey_answer}
use Rattle.hashkey_path.proofs.Validity.{are_signed-is_none}
use Rattle.hashkey_path.proofs.Paths.{path_fits}
use Rattle.escrow_core.specs.declared.terms.Terms.{Terms}
use Rattle.escrow_core.specs.declared.reply.Reply.{Reply}
use Rattle.escrow_core.specs.declared.reply.Reply.TheVariants.{Accepted, WrongSecret, WrongPath, WrongSignature, TooLate}
use Rattle.escrow_core.specs.Table.{first_row}
use Rattle.escrow_core.specs.Terms.{terms_hashlock, last_unlock}
use Rattle.escrow_core.specs.ContractRows.{key_rows}

-- the reply that follows from the answer, where late tells that the height is above last
abbrev pub reply_for : HashkeyAnswer → (late : Bool) → (last : ℕ) → Reply
reply_for answers.Valid late last = cond late (TooLate last) Accepted
reply_for answers.WrongSecret late last = WrongSecret
reply_for answers.WrongPath late last = WrongPath
reply_for (answers.WrongSignature j) late last = WrongSignature

signature_test : (m : Mode) (d : Deal) (key : Hashkey) (late : Bool) (last : ℕ)
    → reply_for (of_signatures m (wrong_signature 0 d key.lock key.secret key.path key.sigs)) late last
    ≡ cond (is_wrong_signature d m key) WrongSignature (cond late (TooLate last) Accepted)
signature_test Timelocks d key late last = refl
signature_test Hashkeys d key late last =
    by_place (wrong_signature 0 d key.lock key.secret key.path key.sigs)
    ∙ ap (λ (b : Bool). cond (not b) WrongSignature (cond late (TooLate last) Accepted))
    (sym (are_signed-is_none 0 d key.lock key.secret key.path key.sigs))
  where
    by_place : (o : Option ℕ) → reply_for (of_signatures Hashkeys o) late last ≡ cond (not (is_none o)) WrongSignature (cond late (TooLate last) Accepted)
    by_place None = refl
    by_place (Some j) = refl

by_tests : (secret path : Bool) (rest : HashkeyAnswer) (late : Bool) (last : ℕ) (end : Reply) → reply_for rest late last ≡ end
    → reply_for (cond secret answers.WrongSecret (cond path answers.WrongPath rest)) late last ≡ cond secret WrongSecret (cond path WrongPath end)
by_tests true path rest late last end e = refl
by_tests false true rest late last end e = refl
by_tests false false rest late last end e = e

pub by_answer : (d : Deal) (a : ℕ) (t : Terms) (height : ℕ) (key : Hashkey)
    → reply_for (hashkey_answer d a (terms_hashlock t key.lock) key) (nat_lt (last_unlock d.mode t key) height) (last_unlock d.mode t key)
    ≡ first_row (key_rows d a t height key)
unfolding hashkey_answer
by_answer d a t height key =
    by_tests (is_wrong_secret (terms_hashlock t key.lock) key) (is_wrong_path d a d.mode key)
    (of_signatures d.mode (wrong_signature 0 d key.lock key.secret key.path key.sigs)) (nat_lt (last_unlock d.mode t key) height) (last_unlock d.mode t key)
    _
    (signature_test d.mode d key (nat_lt (last_unlock d.mode t key) height) (last_unlock d.mode t key))

-- by the hashlock that was read
pub reply_is : (d : Deal) (a : ℕ) (t : Terms) (height : ℕ) (key : Hashkey) (hashlock : List ℕ) (answer : HashkeyAnswer)
    → hashlock ≡ terms_hashlock t key.lock → answer ≡ hashkey_answer d a hashlock key
    → reply_for answer (nat_lt (last_unlock d.mode t key) height) (last_unlock d.mode t key) ≡ first_row (key_rows d a t height key)
reply_is d a t height key hashlock answer h e =
    ap (λ (r : HashkeyAnswer). reply_for r (nat_lt (last_unlock d.mode t key) height) (last_unlock d.mode t key)) (e
    ∙ ap (λ (x : List ℕ). hashkey_answer d a x key) h) ∙ by_answer d a t height key

pub too_late : (d : Deal) (a : ℕ) (t : Terms) (height : ℕ) (key : Hashkey) (hashlock : List ℕ) (n : ℕ) → hashlock ≡ terms_hashlock t key.lock
    → answers.Valid ≡ hashkey_answer d a hashlock key → n ≡ last_unlock d.mode t key → n < height → TooLate n ≡ first_row (key_rows d a t height key)
too_late d a t height key hashlock n h e is lt =
    ap (λ (b : Bool). cond b (TooLate n) Accepted) (sym (lt-ltb n height lt)) ∙ ap (λ (k : ℕ). cond (nat_lt k height) (TooLate k) Accepted) is
    ∙ reply_is d a t height key hashlock answers.Valid h e

pub in_time : (d : Deal) (a : ℕ) (t : Terms) (height : ℕ) (key : Hashkey) (hashlock : List ℕ) (n : ℕ) → hashlock ≡ terms_hashlock t key.lock
    → answers.Valid ≡ hashkey_answer d a hashlock key → n ≡ last_unlock d.mode t key → height ≤ n → Accepted ≡ first_row (key_rows d a t height key)
in_time d a t height key hashlock n h e is le =
    ap (λ (b : Bool). cond b (TooLate n) Accepted) (sym (le-ltb _ _ le)) ∙ ap (λ (k : ℕ). cond (nat_lt k height) (TooLate k) Accepted) is
    ∙ reply_is d a t height key hashlock answers.Valid h e

few_parties : (v : Version) (n k : ℕ) → n ≤ most_parties v → k ≤ n → k ≤ 1000000
few_parties One n k a b = omega arith
few_parties Two n k a b = omega arith

few_vertices : (m : Mode) (d : Deal) (a : ℕ) (key : Hashkey) → IsWellSized d → HasPath m d a key → m ≡ Hashkeys → length key.path ≤ 1000000
few_vertices Timelocks d a key sized h e = absurd (cc e)
few_vertices Hashkeys d a key sized h e = few_parties d.version d.graph.n (length key.path) sized.parties.1 (path_fits d.graph key.path h.0.0).few

-- a valid hashkey's path is short
pub path_is_short : (d : Deal) (a : ℕ) (hashlock : List ℕ) (key : Hashkey) → IsWellSized d → IsValidHashkey d a hashlock key → d.mode ≡ Hashkeys
    → length key.path ≤ 1000000
path_is_short d a hashlock key sized v e = few_vertices d.mode d a key sized v.path e
