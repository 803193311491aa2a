-- Ticks leave what is kept as it is, but for the sum of the ticks.
use Rattle.std.proofs.Common.{◌≡◌, ℕ, zero, suc, ◌+◌, ◌*◌, ◌<◌, ◌^◌, List, [], ◌∷◌, ◌++◌, length, Option, None, refl, sym, ap, ◌∙◌, subst, arith}
use Rattle.std.proofs.Common.{length-append}
use Rattle.std.proofs.lemmas.List.{append-nil, append_assoc}
use Rattle.std.proofs.Math.Nat.{mul-suc}
use Rattle.swap_base.specs.Lists.{or_else}
use Rattle.escrow_core.specs.declared.terms.Terms.{Terms}
use Rattle.escrow_core.specs.declared.reply.Reply.TheVariants.{Accepted}
use Rattle.ledger_core.specs.declared.entry.Entry.{Entry}
use Rattle.ledger_core.specs.declared.facts.Published.{Published}
use Rattle.ledger_core.specs.declared.facts.Settlement.{Settlement}
use Rattle.ledger_core.specs.declared.runs.Run.{Run}
use Rattle.ledger_core.specs.History.{height}
use Rattle.ledger_core.specs.Ledger.{tick_entry}
use Rattle.ledger_core.specs.Runs.{ticks_above, run_ticks}
use Rattle.ledger_core.proofs.Bounds.{height-push}
use Rattle.history_index.specs.declared.answers.Answers.{Answers}
use Rattle.history_index.specs.declared.kinds.Kinds.{Kinds}
use Rattle.history_index.specs.declared.made.Made.{Made}
use Rattle.history_index.specs.Numbers.{IsIndexable}
use Rattle.history_index.specs.Made.{history_calls}
use Rattle.history_index.specs.Kept.{updated_answers, AreAnswers, AreCalls}
use Rattle.swap_base.proofs.Lists.{or_else-none}
use Rattle.history_index.proofs.Push.{answers_push, calls_push, made_in_push}

-- with one more tick by k
one_more : (h : List Entry) (at k n : ℕ) → h ++ ticks_above at k n ++ tick_entry k (at + k * suc n) Accepted ∷ [] ≡ h ++ ticks_above at k (suc n)
one_more h at k n = append_assoc h (ticks_above at k n) (tick_entry k (at + k * suc n) Accepted ∷ [])

-- The sum and the number of the ticks.

height_ticks : (h : List Entry) (at k n : ℕ) → height (h ++ ticks_above at k n) ≡ height h + k * n
height_ticks h at k zero = ap height (append-nil h) ∙ omega arith
height_ticks h at k (suc n) =
    let more = height-push (h ++ ticks_above at k n) (tick_entry k (at + k * suc n) Accepted) in
    let rest = height_ticks h at k n in
    let e = mul-suc k n in
    ap height (sym (one_more h at k n)) ∙ omega arith

length_ticks : (h : List Entry) (at k n : ℕ) → length (h ++ ticks_above at k n) ≡ length h + n
length_ticks h at k zero = ap length (append-nil h) ∙ omega arith
length_ticks h at k (suc n) =
    let more = length-append (h ++ ticks_above at k n) (tick_entry k (at + k * suc n) Accepted ∷ []) in
    let rest = length_ticks h at k n in
    ap length (sym (one_more h at k n)) ∙ omega arith

-- What is kept.

world_answers : ℕ → Option Published → Option ℕ → List (Option ℕ) → Option Settlement → Answers
world_answers t p k us s = record { height = t; published = p; published_number = k; unlocked = us; settled = s }

answers_tick : (t : Terms) (n k at : ℕ) (a : Answers) → updated_answers t n (tick_entry k at Accepted) a ≡ record a { height = a.height + k }
unfolding world_answers
answers_tick t n k at a =
    ap (λ p. world_answers (a.height + k) p (or_else a.published_number None) a.unlocked (or_else a.settled None)) (or_else-none a.published)
    ∙ (ap (λ m. world_answers (a.height + k) a.published m a.unlocked (or_else a.settled None)) (or_else-none a.published_number)
    ∙ ap (λ s. world_answers (a.height + k) a.published a.published_number a.unlocked s) (or_else-none a.settled))

answers_ticks : (t : Terms) (h : List Entry) (at k n : ℕ) (a : Answers) → AreAnswers t h a
    → AreAnswers t (h ++ ticks_above at k n) (record a { height = a.height + k * n })
answers_ticks t h at k zero a i =
    let e : a.height ≡ a.height + k * 0 = omega arith in
    subst (λ xs. AreAnswers t xs (record a { height = a.height + k * 0 })) (sym (append-nil h)) (subst (λ m. AreAnswers t h (record a { height = m })) e i)
answers_ticks t h at k (suc n) a i =
    let past = h ++ ticks_above at k n in
    let tick = tick_entry k (at + k * suc n) Accepted in
    let so_far : Answers = record a { height = a.height + k * n } in
    let m = mul-suc k n in
    let e : a.height + k * n + k ≡ a.height + k * suc n = omega arith in
    let step =
    subst (AreAnswers t (past ++ tick ∷ [])) (answers_tick t (length past) k (at + k * suc n) so_far)
    (answers_push t past tick so_far refl (answers_ticks t h at k n a i)) in
    subst (λ xs. AreAnswers t xs (record a { height = a.height + k * suc n })) (one_more h at k n)
    (subst (λ z. AreAnswers t (past ++ tick ∷ []) (record a { height = z })) e step)

calls_ticks : (p : ℕ) (h : List Entry) (at k n : ℕ) (ns : List ℕ) (ks : Kinds) → AreCalls p h ns ks → AreCalls p (h ++ ticks_above at k n) ns ks
calls_ticks p h at k zero ns ks c = subst (λ xs. AreCalls p xs ns ks) (sym (append-nil h)) c
calls_ticks p h at k (suc n) ns ks c =
    subst (λ xs. AreCalls p xs ns ks) (one_more h at k n)
    (calls_push p (h ++ ticks_above at k n) (tick_entry k (at + k * suc n) Accepted) ns ks refl (calls_ticks p h at k n ns ks c))

made_ticks : (h : List Entry) (at k n : ℕ) → history_calls h ≡ history_calls (h ++ ticks_above at k n)
made_ticks h at k zero = ap history_calls (sym (append-nil h))
made_ticks h at k (suc n) =
    made_ticks h at k n ∙ (made_in_push (h ++ ticks_above at k n) (tick_entry k (at + k * suc n) Accepted) ∙ ap history_calls (one_more h at k n))

-- What is kept after the ticks of a run: the entries xs are h and these.

pub has_height : (h : List Entry) (r : Run) (from to : ℕ) → IsIndexable from to (h ++ run_ticks r) → height h + r.by * r.count < 2 ^ 32
has_height h r from to i =
    let e = height_ticks h r.above r.by r.count in
    let l = i.countable.height in
    omega arith

pub has_count : (h : List Entry) (r : Run) (from to : ℕ) → IsIndexable from to (h ++ run_ticks r) → length h + r.count < 2 ^ 32
has_count h r from to i =
    let e = length_ticks h r.above r.by r.count in
    let l = i.countable.count in
    omega arith

pub count_run : (h xs : List Entry) (r : Run) (n n' : ℕ) → xs ≡ h ++ run_ticks r → n ≡ length h → n' ≡ n + r.count → n' ≡ length xs
count_run h xs r n n' ex en e =
    let k = length_ticks h r.above r.by r.count in
    let l : length xs ≡ length (h ++ run_ticks r) = ap length ex in
    omega arith

pub answers_run : (t : Terms) (h xs : List Entry) (r : Run) (a : Answers) → xs ≡ h ++ run_ticks r → AreAnswers t h a
    → AreAnswers t xs (record a { height = a.height + r.by * r.count })
answers_run t h xs r a ex i =
    subst (λ ys. AreAnswers t ys (record a { height = a.height + r.by * r.count })) (sym ex) (answers_ticks t h r.above r.by r.count a i)

pub calls_run : (p : ℕ) (h xs : List Entry) (r : Run) (ns : List ℕ) (ks : Kinds) → xs ≡ h ++ run_ticks r → AreCalls p h ns ks → AreCalls p xs ns ks
calls_run p h xs r ns ks ex c = subst (λ ys. AreCalls p ys ns ks) (sym ex) (calls_ticks p h r.above r.by r.count ns ks c)

pub made_run : (h xs : List Entry) (r : Run) (ms : List Made) → xs ≡ h ++ run_ticks r → ms ≡ history_calls h → ms ≡ history_calls xs
made_run h xs r ms ex e = e ∙ (made_ticks h r.above r.by r.count ∙ ap history_calls (sym ex))
