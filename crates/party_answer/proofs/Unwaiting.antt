-- Calls that wait for stale ledgers.
use Rattle.std.proofs.Common.{◌≡◌, ◌<◌, ℕ, Bool, true, false, ◌||◌, ◌&&◌, List, [], ◌∷◌, codes, length, Some, refl, sym, ap, ◌∙◌}
use Rattle.std.proofs.lemmas.Bool.{false≢true}
use Rattle.swap_base.specs.Lists.{IsElement}
use Rattle.swap_base.proofs.Lists.{in_filter, in_range, or_neither}
use Rattle.swap_digraph.specs.Graph.{is_listed}
use Rattle.swap_digraph.proofs.Paths.{in-is_listed, is_listed-true}
use Rattle.swap_digraph.specs.declared.deal.Deal.{Deal}
use Rattle.ledger_core.specs.Book.{Histories}
use Rattle.swap_rules.specs.Conduct.{is_publish}
use Rattle.swap_rules.specs.Due.{Action}
use Rattle.party_answer.specs.declared.timed.Timed.{Timed}
use Rattle.party_answer.specs.Stale.{is_any, is_stale, stale_arcs, waits_for}
use Rattle.party_answer.specs.Text.{end_text, rest_text}

-- ---- which ledgers are stale

pub stale_in : (d : Deal) (v : ℕ) (k : Histories) (seen : List ℕ) (a : ℕ) → a < length d.graph.arcs → is_stale d v k seen a ≡ true
    → IsElement a (stale_arcs d v k seen)
stale_in d v k seen a lt e = in_filter (is_stale d v k seen) a _ (in_range a (length d.graph.arcs) lt) e

pub some_stale : (stale : List ℕ) (a : ℕ) → IsElement a stale → is_any stale ≡ true
some_stale [] a i = absurd i
some_stale (b ∷ stale) a i = refl

-- ---- which calls wait

half : (p : Bool) → (false || (p && false)) ≡ false
half true = refl
half false = refl

-- where no ledger is stale no call waits
pub none_waits : (x : Action) → waits_for [] x ≡ false
none_waits x = half (is_publish (Some x.call))

-- where a call doesn't wait its ledger isn't stale
pub on_shown : (stale : List ℕ) (x : Action) → waits_for stale x ≡ false → IsElement x.arc stale → ⊥
on_shown stale x e i = false≢true (sym (or_neither (is_listed x.arc stale) _ e).0 ∙ in-is_listed x.arc stale i)

-- and where a ledger is stale it is no publish
pub no_publish : (stale : List ℕ) (x : Action) (a : ℕ) → waits_for stale x ≡ false → IsElement a stale → is_publish (Some x.call) ≡ true → ⊥
no_publish stale x a e i p =
    let both : (is_publish (Some x.call) && is_any stale) ≡ true = ap (λ b. b && is_any stale) p ∙ some_stale stale a i in
    false≢true (sym (or_neither (is_listed x.arc stale) _ e).1 ∙ both)

listed_not : (stale : List ℕ) (a : ℕ) (b : Bool) → is_listed a stale ≡ b → (IsElement a stale → ⊥) → b ≡ false
listed_not stale a true e n = absurd (n (is_listed-true a stale e))
listed_not stale a false e n = refl

-- a call that is no publish, on a ledger that isn't stale, doesn't wait
pub goes_on : (stale : List ℕ) (x : Action) → is_publish (Some x.call) ≡ false → (IsElement x.arc stale → ⊥) → waits_for stale x ≡ false
goes_on stale x p n =
    let l : is_listed x.arc stale ≡ false = listed_not stale x.arc (is_listed x.arc stale) refl n in
    ap (λ b. is_listed x.arc stale || (b && is_any stale)) p ∙ ap (λ b. b || false) l

-- ---- what is said where nothing is answered

pub says_wait : (d : Deal) (k : Histories) (v : ℕ) (s : Bool) (ts us : List Timed) → s ≡ true → ts ≡ [] → us ≡ [] → end_text s d k v ts us ≡ codes "wait\n"
unfolding rest_text
says_wait d k v true [] [] e f g = refl
says_wait d k v true [] (u ∷ us) e f g = absurd (cc g)
says_wait d k v true (t ∷ ts) us e f g = absurd (cc f)
says_wait d k v false ts us e f g = absurd (false≢true e)
