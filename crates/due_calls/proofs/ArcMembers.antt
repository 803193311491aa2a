-- What a member of what a party knows says of its arc.
use Rattle.std.proofs.Common.{◌≡◌, ℕ, ◌<◌, List, [], length, get_or, map, sym, ap, ap₂, ◌∙◌, arith, zero-add}
use Rattle.std.proofs.lemmas.List.{get_or-map, length-map}
use Rattle.std.proofs.lemmas.List.FromFn.{get_or-map-range_with_len, length-map-range_with_len}
use Rattle.swap_digraph.specs.declared.deal.Deal.{Deal}
use Rattle.escrow_core.specs.declared.terms.Terms.{Terms}
use Rattle.escrow_core.specs.Terms.{stated_terms}
use Rattle.ledger_core.specs.declared.entry.Entry.{Entry}
use Rattle.ledger_core.specs.Book.{history}
use Rattle.ledger_core.specs.Facts.{checked_history_publication}
use Rattle.due_calls.specs.DealTerms.{AreDealTerms}

-- one member per arc
pub one_each : {A : Type 0} (terms : A → Terms) (d : Deal) (known : List A) → AreDealTerms terms d known → length known ≡ length d.graph.arcs
one_each terms d known made = sym (length-map known terms) ∙ (ap length made ∙ length-map-range_with_len (stated_terms d) 0 (length d.graph.arcs))

pub terms_at : {A : Type 0} (terms : A → Terms) (d : Deal) (known : List A) (a : ℕ) (x : A) → AreDealTerms terms d known → a < length known
    → x ≡ get_or known a x → terms x ≡ stated_terms d a
terms_at terms d known a x made within is =
    let one = one_each terms d known made in
    let below : a < length d.graph.arcs = omega (arith, one) in
    ap terms is
    ∙ sym (get_or-map terms known a x (terms x) within)
    ∙ ap (λ ts. get_or ts a (terms x)) made
    ∙ get_or-map-range_with_len (stated_terms d) 0 (length d.graph.arcs) a a (terms x) below (zero-add a)

pub history_at : {A : Type 0} (entries : A → List Entry) (known : List A) (a : ℕ) (x : A) → a < length known → x ≡ get_or known a x
    → entries x ≡ history (map entries known) a
history_at entries known a x within is = ap entries is ∙ sym (get_or-map entries known a x [] within)

-- the accepted publish of the arc
pub published_at : {A : Type 0} (terms : A → Terms) (entries : A → List Entry) (d : Deal) (known : List A) (a : ℕ) (x : A) → AreDealTerms terms d known
    → a < length known → x ≡ get_or known a x
    → checked_history_publication (terms x) (entries x) ≡ checked_history_publication (stated_terms d a) (history (map entries known) a)
published_at terms entries d known a x made within is = ap₂ checked_history_publication (terms_at terms d known a x made within is) (history_at entries known a x within is)
