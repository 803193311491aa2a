-- A reply with its number takes two fields.
use Rattle.std.proofs.Common.{◌≡◌, ℕ, List, [], ◌∷◌, Result, Ok, refl, ap, ap₂, ◌∙◌}
use Rattle.transcript_book.specs.declared.said.Misspelling.{Misspelling}
use Rattle.transcript_book.specs.Reading.{first_field, nothing_more, numbered_reply, make_reply}

none_more : (ws : List (List ℕ)) (u : Unit {0}) → nothing_more ws ≡ Ok u → ws ≡ []
none_more [] u e = refl
none_more (w ∷ ws) u e = absurd (cc e)

ok_is : (x y : List ℕ × List (List ℕ)) → ◌≡◌ {A = Result (List ℕ × List (List ℕ)) Misspelling} (Ok x) (Ok y) → x ≡ y
ok_is x y e = cc

pub two_fields : (old mid new : List (List ℕ)) (first number : List ℕ) (u : Unit {0}) → first_field old ≡ Ok (first, mid) → mid ≡ number ∷ new
    → nothing_more new ≡ Ok u → make_reply old ≡ numbered_reply first number
two_fields [] mid new first number u e m n = absurd (cc e)
two_fields (w ∷ ws) mid new first number u e m n =
    let same = ok_is (w, ws) (first, mid) e in
    ap₂ (λ (x : List ℕ) (xs : List (List ℕ)). make_reply (x ∷ xs)) (ap (λ (q : List ℕ × List (List ℕ)). q.0) same)
    (ap (λ (q : List ℕ × List (List ℕ)). q.1) same ∙ m ∙ ap (λ (l : List (List ℕ)). number ∷ l) (none_more new u n))
