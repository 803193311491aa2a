-- A text cut at its first line feed.
use Rattle.std.proofs.Common.{◌≡◌, ◌==◌, ◌<◌, ℕ, zero, suc, Bool, true, false, cond, List, [], ◌∷◌, length, take, drop, slice_index, Result, Ok, Err}
use Rattle.std.proofs.Common.{◌+◌, refl, ap, ◌∙◌, subst, sym, arith, add-one}
use Rattle.std.specs.Prelude.{IfOk}
use Rattle.memchr.specs.Find.{NoneBefore, Nowhere, Passes, is_byte}
use Rattle.swap_base.specs.declared.fault.Fault.{Fault}
use Rattle.swap_base.specs.declared.fault.Fault.TheVariants.{Refused}
use Rattle.swap_base.specs.Fault.{◌>>=◌, Fails, Gives}
use Rattle.party_answer.specs.declared.given.Answer.{Answer}
use Rattle.party_notes.specs.declared.reason.AnswerReason.{AnswerReason}
use Rattle.party_answer.specs.Promised.{IsTextAnswer}
use Rattle.party_main.specs.Next.{Cut, answer_parts, cut, cut_short, ended_output, read_first_seed_line, IsInputAnswer, IsPartsAnswer}

not_true : (t : Bool) → ¬ (t ≡ true) → t ≡ false
not_true true h = absurd (h refl)
not_true false h = refl

on_ok : {A E : Type 0} (r : Result A E) (P Q : A → Type 0) → ((x : A) → P x → Q x) → IfOk r P → IfOk r Q
on_ok (Ok x) P Q f p = f x p
on_ok (Err e) P Q f p = tt

-- what the rest is cut into, behind one more byte
abbrev longer : ℕ → Cut → Cut
longer x c = record { line = x ∷ c.line; rest = c.rest }

abbrev further : ℕ → List ℕ → Result Cut AnswerReason
further x xs = cut xs >>= λ c. Ok (longer x c)

abbrev here_or : ℕ → List ℕ → Bool → Result Cut AnswerReason
here_or x xs t = cond t (Ok (record { line = []; rest = xs })) (further x xs)

found : (xs : List ℕ) (i : ℕ) → i < length xs → (slice_index xs i == 10) ≡ true → ((k : ℕ) → k < i → (slice_index xs k == 10) ≡ false)
    → cut xs ≡ Ok (record { line = take i xs; rest = drop (suc i) xs })
found [] i lt here before = absurd (omega arith)
found (x ∷ xs) zero lt here before = ap (here_or x xs) here
found (x ∷ xs) (suc i) lt here before =
    ap (here_or x xs) (before 0 (omega arith))
    ∙ ap (λ (r : Result Cut AnswerReason). r >>= λ c. Ok (longer x c)) (found xs i (omega arith) here (λ k below. before (suc k) (omega arith)))

none : (xs : List ℕ) → ((k : ℕ) → k < length xs → (slice_index xs k == 10) ≡ false) → cut xs ≡ Err cut_short
none [] nowhere = refl
none (x ∷ xs) nowhere =
    ap (here_or x xs) (nowhere 0 (omega arith))
    ∙ ap (λ (r : Result Cut AnswerReason). r >>= λ c. Ok (longer x c)) (none xs (λ k below. nowhere (suc k) (omega arith)))

-- No line feed stands in it.
pub is_cut_short : (name input : List ℕ) (fault : Fault AnswerReason) → Nowhere (Passes (is_byte 10) input) 0 (length input)
    → fault ≡ Refused cut_short → Fails fault (ended_output name input)
unfolding ended_output
is_cut_short name input fault nowhere is =
    subst (λ (f : Fault AnswerReason). Fails f (cut input >>= answer_parts name)) (sym is)
    (ap (λ (r : Result Cut AnswerReason). r >>= answer_parts name)
    (none input (λ k below. not_true (slice_index input k == 10) (nowhere k (omega arith) below))))

-- The first line feed stands there.
module _ (name input line rest : List ℕ) (end : ℕ) (before : NoneBefore (Passes (is_byte 10) input) 0 (length input) end) (here : Passes (is_byte 10) input end)
    (is_line : line ≡ take end input) (is_rest : rest ≡ drop (end + 1) input) (r : Result Answer (Fault AnswerReason)) where
  abbrev parts : Cut
  parts = record { line = line; rest = rest }

  is_cut : cut input ≡ Ok parts
  is_cut =
      let k = found input end before.high here (λ k below. not_true (slice_index input k == 10) (before.before k (omega arith) below)) in
      rw (is_line, is_rest, add-one) k

  pub gives_cut : Gives (λ a. a) r (answer_parts name parts) → Gives (λ a. a) r (ended_output name input)
  unfolding ended_output
  gives_cut g =
      subst (λ (x : Result Answer AnswerReason). Gives (λ a. a) r x) (sym (ap (λ (x : Result Cut AnswerReason). x >>= answer_parts name) is_cut)) g

  pub promised_cut : IfOk r (λ t. IsPartsAnswer name parts t) → IfOk r (λ t. IsInputAnswer name input t)
  promised_cut p = on_ok r (λ t. IsPartsAnswer name parts t) (λ t. IsInputAnswer name input t) (λ t k. record { parts = parts; cut = is_cut; is = k }) p

pub seed_answer : (name line rest seed : List ℕ) (r : Result Answer (Fault AnswerReason)) → read_first_seed_line line ≡ Ok seed
    → IfOk r (λ t. IsTextAnswer 2 name seed rest t) → IfOk r (λ t. IsPartsAnswer name (record { line = line; rest = rest }) t)
seed_answer name line rest seed r told p =
    on_ok r (λ t. IsTextAnswer 2 name seed rest t) (λ t. IsPartsAnswer name (record { line = line; rest = rest }) t)
    (λ t k. record { seed = seed; told = told; is = k }) p
