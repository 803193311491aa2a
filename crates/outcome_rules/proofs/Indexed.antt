-- What one more index brings, and what the indexes say of the book.
use Rattle.std.proofs.Common.{◌≡◌, ℕ, ◌+◌, ◌<◌, ◌&&◌, nat_lt, List, [], ◌∷◌, ◌++◌, length, get_or, map, take, refl, sym, ap, ◌∙◌, arith}
use Rattle.std.specs.List.{list_all, range_with_len}
use Rattle.std.proofs.lemmas.List.{take_more, take_all, map_push}
use Rattle.swap_digraph.specs.declared.deal.Deal.{Deal}
use Rattle.swap_digraph.specs.Deal.{party, counterparty}
use Rattle.swap_digraph.proofs.Ranges.{map_more}
use Rattle.escrow_core.specs.Terms.{stated_terms}
use Rattle.ledger_core.specs.declared.entry.Entry.{Entry}
use Rattle.ledger_core.specs.History.{height}
use Rattle.ledger_core.specs.Book.{Histories, IsLegalBook}
use Rattle.history_index.specs.Value.{IndexState}
use Rattle.history_index.specs.Indexes.{all_entries}
use Rattle.outcome_rules.specs.Indexed.{AreBookIndexes, IsArcIndex}

-- The indexes of the first n arcs.
pub record AreFirst (d : Deal) (b : Histories) (n : ℕ) (known : List IndexState) : Type 0 where
  pub terms : map (λ x. x.terms) known ≡ map (stated_terms d) (range_with_len 0 n)
  pub from : map (λ x. x.from) known ≡ map (party d) (range_with_len 0 n)
  pub to : map (λ x. x.to) known ≡ map (counterparty d) (range_with_len 0 n)
  pub entries : all_entries known ≡ take n b

one_more : {A : Type 0} (f : ℕ → A) (g : IndexState → A) (n : ℕ) (old new : List IndexState) (x : IndexState) → new ≡ old ++ x ∷ [] → g x ≡ f n
    → map g old ≡ map f (range_with_len 0 n) → map g new ≡ map f (range_with_len 0 (n + 1))
one_more f g n old new x e k so_far =
    map_more f n (map g old) (map g new) (ap (map g) e ∙ map_push g old x ∙ ap (λ y. map g old ++ y ∷ []) k) so_far

pub first_more : (d : Deal) (b : Histories) (n : ℕ) (old new : List IndexState) (x : IndexState) (h : List Entry) → n < length b → h ≡ get_or b n h
    → IsArcIndex d n h x → new ≡ old ++ x ∷ [] → AreFirst d b n old → AreFirst d b (n + 1) new
first_more d b n old new x h lt is i e k = record {
  terms = one_more (stated_terms d) (λ z. z.terms) n old new x e i.arc.terms k.terms;
  from = one_more (party d) (λ z. z.from) n old new x e i.arc.from k.from;
  to = one_more (counterparty d) (λ z. z.to) n old new x e i.arc.to k.to;
  entries =
      ap all_entries e ∙ map_push (λ (z : IndexState). z.entries) old x ∙ ap (λ l. l ++ x.entries ∷ []) k.entries ∙ ap (λ l. take n b ++ l ∷ []) (i.entries
      ∙ is)
      ∙ sym (take_more b n h lt);
}

pub first_all : (d : Deal) (b : Histories) (n : ℕ) (known : List IndexState) → IsLegalBook d b → n ≡ length b → AreFirst d b n known → AreBookIndexes d b known
first_all d b n known l e k =
    let m : n ≡ length d.graph.arcs = e ∙ l.one_each in
    record {
      indexes = record {
        terms = k.terms ∙ ap (λ j. map (stated_terms d) (range_with_len 0 j)) m;
        from = k.from ∙ ap (λ j. map (party d) (range_with_len 0 j)) m;
        to = k.to ∙ ap (λ j. map (counterparty d) (range_with_len 0 j)) m;
      };
      entries = k.entries ∙ take_all n b (omega (arith, e));
    }

pub above_in : (n : ℕ) (known : List IndexState) → list_all (λ h. nat_lt n (height h)) (all_entries known) ≡ list_all (λ x. nat_lt n (height x.entries)) known
above_in n [] = refl
above_in n (x ∷ known) = ap (λ b. nat_lt n (height x.entries) && b) (above_in n known)
