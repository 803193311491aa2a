-- Where a move stands for no call.
use Rattle.std.proofs.Common.{◌≡◌, ℕ, ◌+◌, ◌≤◌, nat_le, Bool, true, false, cond, not, List, [], ◌∷◌, length, fold, reverse, Option, Some, None, option_map}
use Rattle.std.proofs.Common.{is_some, refl, sym, ap, ◌∙◌, subst, arith}
use Rattle.std.specs.Prelude.{Result, Ok, Err, IfOk}
use Rattle.std.proofs.lemmas.List.{length-reverse}
use Rattle.swap_digraph.specs.declared.deal.Deal.{Deal}
use Rattle.swap_digraph.specs.Deal.{path_limit}
use Rattle.hashkey_path.specs.declared.hashkey.Hashkey.{Hashkey}
use Rattle.ledger_core.specs.declared.entry.Call.{Call}
use Rattle.ledger_core.specs.declared.entry.Call.TheVariants.{Unlock}
use Rattle.ledger_core.specs.Facts.{opened_key}
use Rattle.ledger_core.specs.Book.{Histories, history}
use Rattle.swap_job.specs.Crafted.{Seeds, prepend_party, crafted, crafted_within_limit}
use Rattle.swap_job.specs.Fitting.{IsFitting}
use Rattle.swap_job.specs.Resolved.{resolved, is_out_of_reach, is_idle}
use Rattle.swap_job.specs.declared.moves.Move.{Move}
use Rattle.swap_job.specs.declared.moves.Move.TheVariants.{Publish, Craft, Replay, Raw, Claim, Refund, Transfer, Wait}

-- a hashkey stays one, whoever is put before it
goes_on : (d : Deal) (seeds : Seeds) (i : ℕ) (key : Hashkey) (vs : List ℕ) → is_some (fold (λ o v. Some (prepend_party d seeds i o v)) (Some key) vs) ≡ true
goes_on d seeds i key [] = refl
goes_on d seeds i key (v ∷ vs) = goes_on d seeds i (prepend_party d seeds i (Some key) v) vs

-- some parties make a hashkey
makes_one : (d : Deal) (seeds : Seeds) (i : ℕ) (vs : List ℕ) → 1 ≤ length vs → is_some (fold (λ o v. Some (prepend_party d seeds i o v)) None vs) ≡ true
makes_one d seeds i [] l = absurd (omega arith)
makes_one d seeds i (v ∷ vs) l = goes_on d seeds i (prepend_party d seeds i None v) vs

-- an unlock comes where the hashkey does
unlocks : (a : ℕ) (o : Option Hashkey) → is_some {T = ℕ × Call} (option_map (λ (c : Call). (a, c)) (option_map Unlock o)) ≡ is_some o
unlocks a None = refl
unlocks a (Some key) = refl

extends : (d : Deal) (seeds : Seeds) (i : ℕ) (via : List ℕ) (o : Option Hashkey) → is_some (crafted_within_limit d seeds i o via) ≡ not (is_out_of_reach d via o)
extends d seeds i via None = refl
extends d seeds i via (Some key) = go (nat_le (length via + length key.path) (path_limit d))
  where
    go : (b : Bool) → is_some (cond b (crafted d seeds i (Some key) via) None) ≡ not (not b)
    go true = goes_on d seeds i key (reverse via)
    go false = refl

doubly : (b : Bool) → b ≡ not (not b)
doubly true = refl
doubly false = refl

pub resolves_unless_idle : (d : Deal) (seeds : Seeds) (k : Histories) (mv : Move) → IsFitting d seeds mv
    → is_some (resolved d seeds k mv) ≡ not (is_idle d k mv)
resolves_unless_idle d seeds k (Craft a lock via None) f =
    unlocks a (crafted d seeds lock None via) ∙ makes_one d seeds lock (reverse via) (subst (λ n. 1 ≤ n) (sym (length-reverse via)) f.names.1.some)
resolves_unless_idle d seeds k (Craft a lock via (Some b)) f =
    unlocks a (crafted_within_limit d seeds lock (opened_key (history k b) lock) via) ∙ extends d seeds lock via (opened_key (history k b) lock)
resolves_unless_idle d seeds k (Replay a lock b) f =
    unlocks a (opened_key (history k b) lock) ∙ doubly (is_some (opened_key (history k b) lock))
resolves_unless_idle d seeds k (Publish a start delta bound timelock amount locks) f = refl
resolves_unless_idle d seeds k (Raw a key) f = refl
resolves_unless_idle d seeds k (Claim a) f = refl
resolves_unless_idle d seeds k (Refund a) f = refl
resolves_unless_idle d seeds k (Transfer a to units) f = refl
resolves_unless_idle d seeds k (Wait a height) f = refl

-- an answer that is what a move resolves to
pub none_if_idle : {E : Type 0} (o : Option (ℕ × Call)) (b : Bool) → is_some o ≡ b → (r : Result (Option (ℕ × Call)) E) → IfOk r (λ x. x ≡ o)
    → IfOk r (λ x. is_some x ≡ b)
none_if_idle o b h (Ok x) e = ap is_some e ∙ h
none_if_idle o b h (Err x) e = tt
