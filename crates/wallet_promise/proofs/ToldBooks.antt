-- A book is told.
use Rattle.std.proofs.Common.{◌≡◌, ℕ, ◌≤◌, nat_lt, Bool, true, false, [], length, map, refl, sym, ap, ◌∙◌, subst, ltb-true, ltb-false}
use Rattle.std.proofs.Math.ListN.{get_or-map as get_or-map_at}
use Rattle.std.proofs.lemmas.List.{length-map, get_or_past}
use Rattle.swap_digraph.specs.declared.deal.Deal.{Deal}
use Rattle.ledger_core.specs.History.{IsLegal}
use Rattle.ledger_core.specs.Book.{Histories, history, IsLegalBook}
use Rattle.wallet_promise.specs.WithoutNoise.{telling, tellings, merged, SaysTheSame, SayTheSame, IsChain, IsChainBook}
use Rattle.wallet_promise.specs.BookLaws.{KeepsLedgerLimits, BookCanBeTold}
use Rattle.wallet_promise.proofs.Telling.{says_telling, history_is}
use Rattle.wallet_promise.proofs.Legal.{telling_is_legal}
use Rattle.wallet_promise.proofs.Merged.{merged_is_legal, says_on}

module _ (d : Deal) (v : ℕ) (b : Histories) (few : length d.leaders ≤ 8) (chain : IsChainBook d v b) (within : (a : ℕ) → KeepsLedgerLimits v (history b a)) where
  nth_chain : (a : ℕ) → IsChain d v a (history b a)
  nth_chain a = by (nat_lt a (length b)) refl
    where
      by : (t : Bool) → nat_lt a (length b) ≡ t → IsChain d v a (history b a)
      by true e = chain.chain a (ltb-true a (length b) e)
      by false e = subst (IsChain d v a) (sym (get_or_past b a [] (ltb-false a (length b) e))) tt

  told_swap : (a : ℕ) → IsLegal d a (telling v (history b a))
  told_swap a = telling_is_legal d v a (history b a) few (nth_chain a) (within a)

  merged_at : (a : ℕ) → IsLegal d a (merged (telling v (history b a))) × SaysTheSame v (merged (telling v (history b a))) (history b a)
  merged_at a =
      let m = merged_is_legal d v a (telling v (history b a)) (told_swap a) in
      (m.0, says_on v (merged (telling v (history b a))) (telling v (history b a)) (history b a) m.1 (says_telling v (history b a)))

  is_merged : (a : ℕ) → history (map merged (tellings v b)) a ≡ merged (telling v (history b a))
  is_merged a = get_or-map_at merged (tellings v b) a [] ∙ ap merged (history_is v b a)

  told : IsLegalBook d (map merged (tellings v b)) × SayTheSame v (map merged (tellings v b)) b
  told = (
    record {
      one_each = length-map (tellings v b) merged ∙ (length-map b (telling v) ∙ chain.one_each);
      legal = λ a l. subst (IsLegal d a) (sym (is_merged a)) (merged_at a).0;
    },
    λ a. subst (λ h. SaysTheSame v h (history b a)) (sym (is_merged a)) (merged_at a).1,
  )

pub book_can_be_told : BookCanBeTold
book_can_be_told d v b few chain within = told d v b few chain within
