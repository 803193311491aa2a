-- The base height by the hashkey that is used.
use Rattle.std.proofs.Common.{◌≡◌, ℕ, Bool, true, false, cond, not, ◌||◌, List, [], ◌∷◌, Option, Some, None, is_some, refl, sym, ap, ◌∙◌}
use Rattle.std.specs.List.{list_any}
use Rattle.swap_base.specs.Lists.{greatest}
use Rattle.swap_digraph.specs.Graph.{is_listed, leaving}
use Rattle.swap_digraph.specs.declared.deal.Deal.{Deal}
use Rattle.swap_digraph.specs.declared.deal.Mode.TheVariants.{Hashkeys}
use Rattle.hashkey_path.specs.declared.hashkey.Hashkey.{Hashkey}
use Rattle.ledger_core.specs.History.{Opening, opened}
use Rattle.ledger_core.specs.Book.{Histories, history}
use Rattle.swap_rules.specs.Party.{first_seen_key, key_without_party, opens_without_party}
use Rattle.swap_rules.specs.Late.{unlock_base}
use Rattle.conduct_check.specs.Overdue.{greatest_index_use}
use Rattle.conduct_check.proofs.FirstAnswer.{some_first}

pub base_with : (d : Deal) (b : Histories) (v i : ℕ) (first : Option Hashkey)
    → unlock_base Hashkeys d b v i first ≡ greatest (λ a. greatest_index_use v first (first_seen_key d b v i) (history b a)) (leaving d.graph v)
unfolding greatest_index_use
base_with d b v i None = refl
base_with d b v i (Some key) = refl

pub any_same : {A : Type 0} (p q : A → Bool) (xs : List A) → ((x : A) → p x ≡ q x) → list_any p xs ≡ list_any q xs
any_same p q [] h = refl
any_same p q (x ∷ xs) h = ap (λ b. b || list_any p xs) (h x) ∙ ap (λ b. q x || b) (any_same p q xs h)

by_path : (b : Bool) (key : Hashkey) → not b ≡ is_some (cond b None (Some key))
by_path true key = refl
by_path false key = refl

by_opening : (v : ℕ) (o : Option Opening) → opens_without_party v o ≡ is_some (key_without_party v o)
by_opening v None = refl
by_opening v (Some o) = by_path (is_listed v o.key.path) o.key

-- a path without v opened the lock where there is a first hashkey that it did
pub seen_some : (d : Deal) (b : Histories) (v i : ℕ)
    → list_any (λ c. opens_without_party v (opened (history b c) i)) (leaving d.graph v) ≡ is_some (first_seen_key d b v i)
seen_some d b v i =
    any_same (λ c. opens_without_party v (opened (history b c) i)) (λ c. is_some (key_without_party v (opened (history b c) i))) (leaving d.graph v) (λ c.
    by_opening v (opened (history b c) i))
    ∙ sym (some_first (λ c. key_without_party v (opened (history b c) i)) (leaving d.graph v))
