-- What a party needs of a book: what stands in it, and what it says.
use Rattle.std.proofs.Common.{◌≡◌, ◌⊎◌, ℕ, zero, suc, Bool, true, false, cond, not, ◌&&◌, ◌||◌, List, [], ◌∷◌, length, filter, Option, Some, None, is_some}
use Rattle.std.proofs.Common.{refl, sym, ap, ◌∙◌, subst, inl, inr}
use Rattle.std.proofs.lemmas.Bool.{false≢true}
use Rattle.swap_base.specs.Lists.{IsElement}
use Rattle.swap_base.proofs.Lists.{and_parts, or_neither, none_of, from_filter}
use Rattle.swap_digraph.specs.declared.deal.Deal.{Deal}
use Rattle.swap_digraph.specs.Graph.{leaving, entering, is_listed}
use Rattle.swap_digraph.proofs.Paths.{is_listed-true, in-is_listed}
use Rattle.ledger_core.specs.declared.entry.Call.{Call}
use Rattle.ledger_core.specs.declared.entry.What.{What}
use Rattle.ledger_core.specs.declared.entry.What.TheVariants.{Call as Made, Tick}
use Rattle.ledger_core.specs.declared.entry.Entry.{Entry}
use Rattle.ledger_core.specs.History.{entry_ticks, height, made_call, accepted, Publication, publication, published, is_sender}
use Rattle.ledger_core.specs.Book.{Histories, history}
use Rattle.ledger_core.proofs.History.{not-true, not-true-of}
use Rattle.swap_rules.specs.Party.{is_arc_correct, pick_call}
use Rattle.swap_rules.specs.Due.{has_called}
use Rattle.swap_rules.specs.Rest.{is_ticking}
use Rattle.swap_rules.specs.Machine.{Begins}
use Rattle.swap_rules.proofs.Growth.{published-more}
use Rattle.swap_rules.proofs.Prefixes.{list_any-more, not_any-in}
use Rattle.wallet_promise.specs.WithoutNoise.{is_told, telling, is_useless, is_needed, parts, needs, SaysTheSame, AreUseless, SayEnough}
use Rattle.wallet_promise.specs.BookLaws.{NeededSaysEnough, UselessIsTicks}
use Rattle.wallet_promise.proofs.Filters.{filter-same, first-none, list_any-filter, sum_by-filter}
use Rattle.wallet_promise.proofs.Telling.{noise, no_ticks, no_call, says_telling}
use Rattle.wallet_promise.proofs.Merging.{no_accepted}

-- Parts.

pub part_is : (test : ℕ → Entry → Bool) (b : Histories) (a : ℕ) → history (parts test b) a ≡ filter (test a) (history b a)
part_is test [] a = refl
part_is test (h ∷ b) zero = refl
part_is test (h ∷ b) (suc a) = part_is (λ i. test (suc i)) b a

pub length-parts : (test : ℕ → Entry → Bool) (b : Histories) → length (parts test b) ≡ length b
length-parts test [] = refl
length-parts test (h ∷ b) = ap suc (length-parts (λ i. test (suc i)) b)

-- What isn't needed is neither a tick nor a call of v.
pub left_out : (useless : Bool) (v : ℕ) (e : Entry) → is_needed useless v e ≡ false → (is_ticking e.what ≡ false) × (is_sender v e.sender ≡ false)
left_out true v e t = or_neither (is_ticking e.what) (is_sender v e.sender) t
left_out false v e t = let n = noise v e t in (n.call, n.others)

pub not_called : (useless : Bool) (v : ℕ) (e : Entry) → is_needed useless v e ≡ false → pick_call v e ≡ None
not_called useless v e t = no_call v e (left_out useless v e t).1

pub same_height : (useless : Bool) (v : ℕ) (h : List Entry) → height (filter (is_needed useless v) h) ≡ height h
same_height useless v h = sum_by-filter (is_needed useless v) (λ e. entry_ticks e.what) h (λ e t. no_ticks e.what (left_out useless v e t).0)

pub same_called : (useless : Bool) (v : ℕ) (test : Option Call → Bool) → test None ≡ false → (h : List Entry)
    → has_called v test (filter (is_needed useless v) h) ≡ has_called v test h
same_called useless v test n h =
    list_any-filter (is_needed useless v) (λ e. test (pick_call v e)) h (λ e t. ap test (not_called useless v e t) ∙ n)

-- of an arc that isn't useless all is needed that is told
pub all_told : (v : ℕ) (h : List Entry) → filter (is_needed false v) h ≡ telling v h
all_told v h = filter-same (is_needed false v) (is_told v) h (λ e i. refl)

-- Useless arcs.

pub record Useless (d : Deal) (v a : ℕ) (h : List Entry) : Type 0 where
  pub enters : IsElement a (entering d.graph v)
  pub apart : IsElement a (leaving d.graph v) → ⊥
  pub wrong : is_arc_correct d a (published h) ≡ false
  pub silent : has_called v is_some h ≡ false

pub useless : (d : Deal) (v a : ℕ) (h : List Entry) → is_useless d v a h ≡ true → Useless d v a h
useless d v a h u =
    let enters : Bool = is_listed a (entering d.graph v) in
    let apart : Bool = not (is_listed a (leaving d.graph v)) in
    let wrong : Bool = not (is_arc_correct d a (published h)) in
    let k = and_parts (enters && apart && wrong) (not (has_called v is_some h)) u in
    let l = and_parts (enters && apart) wrong k.0 in
    let m = and_parts enters apart l.0 in
    record {
      enters = is_listed-true a (entering d.graph v) m.0;
      apart =
          λ i. false≢true (sym (not-true-of (is_listed a (leaving d.graph v)) m.1) ∙ in-is_listed a (leaving d.graph v) i);
      wrong = not-true-of (is_arc_correct d a (published h)) l.1;
      silent = not-true-of (has_called v is_some h) k.1;
    }

-- v made none of the calls
pub silent_in : (v : ℕ) (h : List Entry) → has_called v is_some h ≡ false → (e : Entry) → IsElement e h → pick_call v e ≡ None
silent_in v h n e i = none_of (pick_call v e) (not_any-in (λ x. is_some (pick_call v x)) h e n i)

needed_tick : (v : ℕ) (e : Entry) → pick_call v e ≡ None → is_needed true v e ≡ is_ticking e.what
needed_tick v e n = go (is_sender v e.sender) e.what n
  where
    go : (s : Bool) (w : What) → cond s (made_call w) None ≡ None → (is_ticking w || s) ≡ is_ticking w
    go s (Tick k) n = refl
    go false (Made c) n = refl
    go true (Made c) n = absurd (cc n)

abbrev pub ticks : List Entry → List Entry
ticks h = filter (λ e. is_ticking e.what) h

pub silent_ticks : (v : ℕ) (h : List Entry) → has_called v is_some h ≡ false → filter (is_needed true v) h ≡ ticks h
silent_ticks v h n = filter-same (is_needed true v) (λ e. is_ticking e.what) h (λ e i. needed_tick v e (silent_in v h n e i))

pub useless_is_ticks : UselessIsTicks
useless_is_ticks d v a h u = ap (λ b. filter (is_needed b v) h) u ∙ silent_ticks v h (useless d v a h u).silent

unpublished : (h : List Entry) → published (ticks h) ≡ None
unpublished h =
    first-none (λ e. publication e.height (accepted e)) (ticks h)
    (λ e i. ap (publication e.height) (no_accepted e.what e.reply (from_filter (λ x. is_ticking x.what) e h i).1))

-- What was useless at the end was so before.

wrong_before : (d : Deal) (a : ℕ) (k h : List Entry) → Begins k h → is_arc_correct d a (published h) ≡ false → is_arc_correct d a (published k) ≡ false
wrong_before d a k h b n = go (published k) refl
  where
    go : (o : Option Publication) → published k ≡ o → is_arc_correct d a (published k) ≡ false
    go None e = ap (is_arc_correct d a) e
    go (Some p) e = ap (is_arc_correct d a) (e ∙ sym (published-more k h p b e)) ∙ n

silent_before : (v : ℕ) (k h : List Entry) → Begins k h → has_called v is_some h ≡ false → has_called v is_some k ≡ false
silent_before v k h b n =
    not-true (has_called v is_some k) (λ t. false≢true (sym n ∙ (ap (has_called v is_some) b.1
    ∙ list_any-more (λ e. is_some (pick_call v e)) k b.0 t)))

-- A book that is told by such tests says enough, and so does the telling of how it began.
module _ (d : Deal) (v : ℕ) (u : ℕ → Bool) (b : Histories) (idle : (a : ℕ) → u a ≡ true → is_useless d v a (history b a) ≡ true) where
  pub told_swap : (k l : Histories) → ((a : ℕ) → history k a ≡ filter (is_needed (u a) v) (history l a)) → (a : ℕ) → u a ≡ false
      → history k a ≡ telling v (history l a)
  told_swap k l is_part a e = is_part a ∙ (ap (λ t. filter (is_needed t v) (history l a)) e ∙ all_told v (history l a))

  pub says_enough : (k l : Histories) → ((a : ℕ) → history k a ≡ filter (is_needed (u a) v) (history l a))
      → ((a : ℕ) → Begins (history l a) (history b a)) → SayEnough d v k l
  says_enough k l is_part begins a = go (u a) refl
    where
      go : (t : Bool) → u a ≡ t → SaysTheSame v (history k a) (history l a) ⊎ AreUseless d v a (history k a) (history l a)
      go false e = inl (subst (λ z. SaysTheSame v z (history l a)) (sym (told_swap k l is_part a e)) (says_telling v (history l a)))
      go true e =
          let x = useless d v a (history b a) (idle a e) in
          let silent = silent_before v (history l a) (history b a) (begins a) x.silent in
          inr (record {
            enters = x.apart;
            one =
                ap (λ z. is_arc_correct d a (published z)) (is_part a ∙ (ap (λ t. filter (is_needed t v) (history l a)) e
                ∙ silent_ticks v (history l a) silent)) ∙ ap (is_arc_correct d a) (unpublished (history l a));
            other = wrong_before d a (history l a) (history b a) (begins a) x.wrong;
            calls = λ test n. ap (has_called v test) (is_part a) ∙ same_called (u a) v test n (history l a);
          })

pub needed_says_enough : NeededSaysEnough
needed_says_enough d v k b begins =
    says_enough d v (λ a. is_useless d v a (history b a)) b (λ a e. e) (parts (needs d v b) k) k (part_is (needs d v b) k) begins
