-- What a book keeps when it grows.
use Rattle.std.proofs.Common.{◌≡◌, ℕ, nat_le, Bool, true, false, cond, ◌||◌, List, Option, Some, None, is_some, refl, sym, ap, ◌∙◌}
use Rattle.std.specs.List.{list_any}
use Rattle.swap_base.specs.Lists.{IsElement}
use Rattle.swap_base.proofs.Lists.{first_given_answer-front, list_all-in, list_all-from, list_any-in, and_parts, and_both}
use Rattle.swap_digraph.specs.declared.deal.Mode.{Mode}
use Rattle.swap_digraph.specs.declared.deal.Mode.TheVariants.{Timelocks, Hashkeys}
use Rattle.swap_digraph.specs.declared.deal.Deal.{Deal}
use Rattle.swap_digraph.specs.Graph.{leaving, entering}
use Rattle.swap_digraph.specs.Deal.{locks, leads}
use Rattle.hashkey_path.specs.declared.hashkey.Hashkey.{Hashkey}
use Rattle.ledger_core.specs.declared.entry.Entry.{Entry}
use Rattle.ledger_core.specs.History.{accepted, Publication, publication, published, Opening, opening, opened, is_open, triggered}
use Rattle.ledger_core.specs.Book.{Histories, history}
use Rattle.swap_rules.specs.Party.{is_arc_correct, is_correct, publication_height, is_good, is_ready, leads_one}
use Rattle.swap_rules.specs.Conduct.{has_seen, has_origin, carries, extends_without_party, is_alone}
use Rattle.ledger_core.proofs.History.{is_some-of}
use Rattle.swap_rules.proofs.Prefixes.{list_any-more, in_any}
use Rattle.swap_rules.specs.Machine.{Begins}
use Rattle.time_bounds.specs.Times as times

abbrev pub Grows : Histories → Histories → Type 0
Grows b c = (a : ℕ) → Begins (history b a) (history c a)

pub published-more : (k h : List Entry) (p : Publication) → Begins k h → published k ≡ Some p → published h ≡ Some p
published-more k h p b e = ap published b.1 ∙ first_given_answer-front (λ e. publication e.height (accepted e)) k b.0 p e

pub opened-more : (k h : List Entry) (i : ℕ) (o : Opening) → Begins k h → opened k i ≡ Some o → opened h i ≡ Some o
opened-more k h i o b e = ap (λ l. opened l i) b.1 ∙ first_given_answer-front (λ e. opening i e.height (accepted e)) k b.0 o e

pub is_open-more : (k h : List Entry) (i : ℕ) → Begins k h → is_open k i ≡ true → is_open h i ≡ true
is_open-more k h i b e = let o = is_some-of (opened k i) e in ap is_some (opened-more k h i o.0 b o.1)

pub triggered-more : (d : Deal) (k h : List Entry) → Begins k h → triggered d k ≡ true → triggered d h ≡ true
triggered-more d k h b e = list_all-from (is_open h) (locks d) (λ i w. is_open-more k h i b (list_all-in (is_open k) (locks d) i e w))

pub is_published-more : (k h : List Entry) → Begins k h → is_some (published k) ≡ true → is_some (published h) ≡ true
is_published-more k h b e = let p = is_some-of (published k) e in ap is_some (published-more k h p.0 b p.1)

is_correct_some : (d : Deal) (a : ℕ) (o : Option Publication) → is_arc_correct d a o ≡ true → is_some o ≡ true
is_correct_some d a None e = absurd (cc e)
is_correct_some d a (Some p) e = refl

pub correct_published : (d : Deal) (b : Histories) (a : ℕ) → is_correct d b a ≡ true → is_some (published (history b a)) ≡ true
correct_published d b a e = is_correct_some d a (published (history b a)) e

-- a correct arc's publish stays the same
pub same_published : (d : Deal) (b c : Histories) (a : ℕ) → Grows b c → is_some (published (history b a)) ≡ true
    → published (history c a) ≡ published (history b a)
same_published d b c a g e = let p = is_some-of (published (history b a)) e in published-more (history b a) (history c a) p.0 (g a) p.1 ∙ sym p.1

pub is_correct-more : (d : Deal) (b c : Histories) (a : ℕ) → Grows b c → is_correct d b a ≡ true → is_correct d c a ≡ true
is_correct-more d b c a g e = ap (is_arc_correct d a) (same_published d b c a g (correct_published d b a e)) ∙ e

pub is_good-more : (d : Deal) (b c : Histories) (a : ℕ) → Grows b c → is_good d b a ≡ true → is_good d c a ≡ true
is_good-more d b c a g e =
    let k = and_parts (is_correct d b a) (nat_le (publication_height (published (history b a))) (times.opening_deadline d.start d.delta d.bound)) e in
    let same = same_published d b c a g (correct_published d b a k.0) in
    and_both (is_correct d c a) _ (is_correct-more d b c a g k.0) (ap (λ o. nat_le (publication_height o)
    (times.opening_deadline d.start d.delta d.bound)) same ∙ k.1)

pub is_ready-more : (d : Deal) (b c : Histories) (v : ℕ) → Grows b c → is_ready d b v ≡ true → is_ready d c v ≡ true
unfolding is_ready
is_ready-more d b c v g e =
    list_all-from (is_good d c) (entering d.graph v) (λ a w. is_good-more d b c a g (list_all-in (is_good d b) (entering d.graph v) a e w))

pub ready_good : (d : Deal) (b : Histories) (v a : ℕ) → is_ready d b v ≡ true → IsElement a (entering d.graph v) → is_good d b a ≡ true
unfolding is_ready
ready_good d b v a e w = list_all-in (is_good d b) (entering d.graph v) a e w

pub may-more : (d : Deal) (b c : Histories) (v : ℕ) → Grows b c → (leads_one d v || is_ready d b v) ≡ true → (leads_one d v || is_ready d c v) ≡ true
may-more d b c v g e = go (leads_one d v) e
  where
    go : (x : Bool) → (x || is_ready d b v) ≡ true → (x || is_ready d c v) ≡ true
    go true e = refl
    go false e = is_ready-more d b c v g e

any-more : (b c : Histories) (p : Entry → Bool) (xs : List ℕ) → Grows b c → list_any (λ a. list_any p (history b a)) xs ≡ true
    → list_any (λ a. list_any p (history c a)) xs ≡ true
any-more b c p xs g e =
    let x = in_any (λ a. list_any p (history b a)) xs e in
    list_any-in (λ a. list_any p (history c a)) xs x.0 (ap (list_any p) (g x.0).1 ∙ list_any-more p (history b x.0) (g x.0).0 x.2) x.1

origin-more : (m : Mode) (d : Deal) (b c : Histories) (v : ℕ) (key : Hashkey) → Grows b c → has_origin m d b v key ≡ true → has_origin m d c v key ≡ true
origin-more Timelocks d b c v key g e = go (leads d v key.lock) e
  where
    go : (x : Bool) → (x || has_seen d b v (carries key.secret)) ≡ true → (x || has_seen d c v (carries key.secret)) ≡ true
    go true e = refl
    go false e = any-more b c (λ e. carries key.secret (accepted e)) (leaving d.graph v) g e
origin-more Hashkeys d b c v key g e = go (leads d v key.lock) e
  where
    go : (x : Bool) → cond x (is_alone v key.path) (has_seen d b v (extends_without_party v key)) ≡ true
        → cond x (is_alone v key.path) (has_seen d c v (extends_without_party v key)) ≡ true
    go true e = e
    go false e = any-more b c (λ e. extends_without_party v key (accepted e)) (leaving d.graph v) g e

pub has_origin-more : (d : Deal) (b c : Histories) (v : ℕ) (key : Hashkey) → Grows b c → has_origin d.mode d b v key ≡ true → has_origin d.mode d c v key ≡ true
has_origin-more d b c v key g e = origin-more d.mode d b c v key g e
