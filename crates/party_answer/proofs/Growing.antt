-- The lines of useful calls, one after another.
use Rattle.std.proofs.Common.{◌≡◌, ◌≤◌, ◌<◌, ℕ, ◌+◌, Bool, true, false, cond, List, [], ◌∷◌, ◌++◌, length, map, drop, get_or, Option, Some, None, Result, refl}
use Rattle.std.proofs.Common.{sym, ap, ap₂, ◌∙◌, subst, arith, add-one, drop-cons, append_assoc, append-nil, eqb-true}
use Rattle.std.specs.Prelude.{OnOk}
use Rattle.std.specs.List.{flat_map}
use Rattle.std.proofs.lemmas.List.{length-drop, nil_from_length}
use Rattle.hashkey_path.specs.declared.hashkey.Hashkey.{Hashkey}
use Rattle.ledger_core.specs.declared.entry.Call.{Call}
use Rattle.ledger_core.specs.declared.entry.Call.TheVariants.{Publish, Unlock, Claim, Refund, Transfer}
use Rattle.swap_rules.specs.Conduct.{is_first_key}
use Rattle.wallet_promise.specs.Life.{is_kept}
use Rattle.wallet_promise.specs.Answers.{is_asked}
use Rattle.party_answer.specs.declared.line.Part.{Part}
use Rattle.party_answer.specs.declared.timed.Timed.{Timed}
use Rattle.party_answer.specs.Lines.{Line, Present, KeepFirst, keep_line, kept_line, own_line, each_once, call_lines}
use Rattle.party_answer.specs.Text.{line_text}
use Rattle.party_answer.specs.Growing.{asking_text, unkept_key, GrowsByLine}

-- The line of a hashkey that has to be kept, unless one for its lock was asked for last.

module _ (part : Part) (v : ℕ) (asked : Option ℕ) (t : Timed) (key : Hashkey) where
  pub asked_before : (old : List ℕ) → is_asked asked key.lock ≡ true → old ≡ old ++ asking_text part v asked t key
  asked_before old e = sym (append-nil old) ∙ ap (λ (b : Bool). old ++ cond b [] (line_text part v (KeepFirst t key))) (sym e)

  pub asked_now : {T E : Type 0} (r : Result T E) (old new : List ℕ) → is_asked asked key.lock ≡ false
      → OnOk r (new ≡ old ++ line_text part v (KeepFirst t key)) → OnOk r (new ≡ old ++ asking_text part v asked t key)
  asked_now r old new e w = subst (λ (b : Bool). OnOk r (new ≡ old ++ cond b [] (line_text part v (KeepFirst t key)))) (sym e) w

module _ (part : Part) (v : ℕ) (kept : ℕ → Option Hashkey) where
  abbrev texts : List Line → List ℕ
  texts ys = flat_map (line_text part v) ys

  -- What is answered for a call, by the hashkey that it presents and that wasn't kept.

  kept_by : (c : Call) → None ≡ unkept_key kept c → is_kept kept c ≡ true
  kept_by (Unlock key) e = go (is_first_key (kept key.lock) key) refl e
    where
      go : (b : Bool) → is_first_key (kept key.lock) key ≡ b → ◌≡◌ {A = Option Hashkey} None (cond b None (Some key)) → is_first_key (kept key.lock) key ≡ true
      go true q e = q
      go false q e = absurd (cc e)
  kept_by (Publish t) e = refl
  kept_by Claim e = refl
  kept_by Refund e = refl
  kept_by (Transfer to units) e = refl

  -- a hashkey that wasn't kept, with its call
  unkept_by : (c : Call) (key : Hashkey) → Some key ≡ unkept_key kept c → (is_kept kept c ≡ false) × (c ≡ Unlock key)
  unkept_by (Unlock head) key e = go (is_first_key (kept head.lock) head) refl e
    where
      go : (b : Bool) → is_first_key (kept head.lock) head ≡ b → Some key ≡ cond b None (Some head)
          → (is_first_key (kept head.lock) head ≡ false) × (Unlock head ≡ Unlock key)
      go true q e = absurd (cc e)
      go false q e = let same : head ≡ key = cc e in (q, ap Unlock same)
  unkept_by (Publish t) key e = absurd (cc e)
  unkept_by Claim key e = absurd (cc e)
  unkept_by Refund key e = absurd (cc e)
  unkept_by (Transfer to units) key e = absurd (cc e)

  -- The line of the first call.

  first_line : (asked : Option ℕ) (old : List ℕ) (t : Timed) (y : Line) (ts : List Timed) → own_line kept t ≡ y
      → old ++ texts (call_lines kept asked (t ∷ ts)) ≡ old ++ texts (each_once asked (y ∷ map (own_line kept) ts))
  first_line asked old t y ts e = ap (λ (z : Line). old ++ texts (each_once asked (z ∷ map (own_line kept) ts))) e

  grown : (old new text rest : List ℕ) → new ≡ old ++ text → old ++ (text ++ rest) ≡ new ++ rest
  grown old new text rest e = sym (append_assoc old text rest) ∙ ap (λ (l : List ℕ). l ++ rest) (sym e)

  -- a call that may be presented
  pub line_going : (asked : Option ℕ) (old new : List ℕ) (t : Timed) (ts : List Timed) → None ≡ unkept_key kept t.call
      → new ≡ old ++ line_text part v (Present t) → GrowsByLine part v kept asked asked old new t ts
  line_going asked old new t ts k e =
      first_line asked old t (Present t) ts (ap (λ (b : Bool). kept_line b t) (kept_by t.call k))
      ∙ grown old new (line_text part v (Present t)) (texts (call_lines kept asked ts)) e

  asked_same : (asked : Option ℕ) (i : ℕ) → is_asked asked i ≡ true → asked ≡ Some i
  asked_same None i e = absurd (cc e)
  asked_same (Some j) i e = ap Some (eqb-true j i e)

  if_asked : (b : Bool) (asked : Option ℕ) (t : Timed) (key : Hashkey) (old new : List ℕ) (ys : List Line) → is_asked asked key.lock ≡ b
      → new ≡ old ++ cond b [] (line_text part v (KeepFirst t key))
      → old ++ texts (cond b (each_once asked ys) (KeepFirst t key ∷ each_once (Some key.lock) ys)) ≡ new ++ texts (each_once (Some key.lock) ys)
  if_asked true asked t key old new ys is e =
      ap₂ (λ (l : List ℕ) (o : Option ℕ). l ++ texts (each_once o ys)) (sym (e ∙ append-nil old)) (asked_same asked key.lock is)
  if_asked false asked t key old new ys is e = grown old new (line_text part v (KeepFirst t key)) (texts (each_once (Some key.lock) ys)) e

  -- a hashkey that has to be kept first
  pub line_asking : (asked : Option ℕ) (old new : List ℕ) (t : Timed) (ts : List Timed) (key : Hashkey) → Some key ≡ unkept_key kept t.call
      → new ≡ old ++ asking_text part v asked t key → GrowsByLine part v kept asked (Some key.lock) old new t ts
  line_asking asked old new t ts key k e =
      let u = unkept_by t.call key k in
      first_line asked old t (KeepFirst t key) ts (ap (λ (b : Bool). kept_line b t) u.0 ∙ ap (keep_line t) u.1)
      ∙ if_asked (is_asked asked key.lock) asked t key old new (map (own_line kept) ts) refl e

  -- Along the calls.

  pub lines_on : (all now new : List ℕ) (asked next : Option ℕ) (xs : List Timed) (i : ℕ) (x : Timed) → i < length xs → x ≡ get_or xs i x
      → all ≡ now ++ texts (call_lines kept asked (drop i xs)) → ((ys : List Timed) → GrowsByLine part v kept asked next now new x ys)
      → all ≡ new ++ texts (call_lines kept next (drop (i + 1) xs))
  lines_on all now new asked next xs i x lt is so_far line =
      let here : drop i xs ≡ x ∷ drop (i + 1) xs = rw (add-one, drop-cons xs i x, ← is) in
      so_far ∙ (ap (λ (ys : List Timed). now ++ texts (call_lines kept asked ys)) here ∙ line (drop (i + 1) xs))

  pub lines_done : (all now : List ℕ) (asked : Option ℕ) (xs : List Timed) (i : ℕ) → length xs ≤ i
      → all ≡ now ++ texts (call_lines kept asked (drop i xs)) → now ≡ all
  lines_done all now asked xs i le so_far =
      sym (so_far ∙ (ap (λ (ys : List Timed). now ++ texts (call_lines kept asked ys))
      (nil_from_length (drop i xs) (omega (arith, length-drop i xs))) ∙ append-nil now))
