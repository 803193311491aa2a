-- Passes by place: what one that went on leaves of all of them.
use Rattle.std.proofs.Common.{◌≡◌, ◌≢◌, ◌⊎◌, ℕ, ◌+◌, ◌<◌, ◌++◌, List, [], ◌∷◌, zero, suc, length, set, slice_index_or, Option, Some, None, append-nil}
use Rattle.std.proofs.Common.{append_assoc, refl, sym, ap, ◌∙◌, subst, inl, inr, arith}
use Rattle.std.proofs.lemmas.List.{length-set, get_or-set_same, get_or-set_other}
use Rattle.std.proofs.lemmas.Option.{none-some, same_Some}
use mathlib.Core.List.{IsPrefix}
use Rattle.swap_digraph.specs.declared.deal.Deal.{Deal}
use Rattle.ledger_core.specs.declared.entry.Entry.{Entry}
use Rattle.ledger_core.specs.Book.{Histories, history}
use Rattle.ledger_shared.specs.Value.{PassState, SharedState, with_seen}
use Rattle.swap_rules.proofs.Prefixes.{same_or_not}
use Rattle.swap_rules.proofs.Conducting.{history_same, history_other}
use Rattle.party_threads.specs.Later.{IsLater, arc_pass, Advanced, HaveAdvanced}
use Rattle.party_threads.specs.Tracks.{Watcher, watcher_knowing, IsWatcherPass, Tracks, HasItsPasses, IsWatching, HaveSeenBelow, HaveSeenAll, IsSameElsewhere, IsWatcherPlace}

-- Later.

pub later_self : (p q : PassState) → q ≡ p → IsLater p q
later_self p q is = ([], is ∙ (λ i. record { lock = p.lock; deal = p.deal; arc = p.arc; party = p.party; shared = p.shared; seen = sym (append-nil p.seen) i }))

pub later_more : (p q r : PassState) → IsLater p q → IsLater q r → IsLater p r
later_more p q r a b = (
  a.0 ++ b.0,
  b.1 ∙ (ap (λ (s : PassState). with_seen s b.0) a.1
      ∙ (λ i. record { lock = p.lock; deal = p.deal; arc = p.arc; party = p.party; shared = p.shared; seen = append_assoc p.seen a.0 b.0 i })),
)

pub went_self : (p : Option PassState) → Advanced p p
went_self None = refl
went_self (Some p) = (p, refl, later_self p p refl)

pub went_more : (p q r : Option PassState) → Advanced p q → Advanced q r → Advanced p r
went_more None q r a b = subst (λ x. Advanced x r) a b
went_more (Some p) q r a b = let c = subst (λ x. Advanced x r) a.1 b in (c.0, c.1, later_more p a.0 c.0 a.2 c.2)

pub none_went : (ps : List (Option PassState)) → HaveAdvanced ps ps
none_went ps a = went_self (arc_pass ps a)

pub all_more : (ps qs rs : List (Option PassState)) → HaveAdvanced ps qs → HaveAdvanced qs rs → HaveAdvanced ps rs
all_more ps qs rs a b c = went_more (arc_pass ps c) (arc_pass qs c) (arc_pass rs c) (a c) (b c)

-- By place.

pub pass_same : (ps : List (Option PassState)) (a : ℕ) (q : Option PassState) → a < length ps → arc_pass (set ps a q) a ≡ q
pass_same ps a q l = get_or-set_same ps a q None l

pub pass_other : (ps : List (Option PassState)) (a b : ℕ) (q : Option PassState) → b ≢ a → arc_pass (set ps a q) b ≡ arc_pass ps b
pass_other ps a b q n = get_or-set_other ps a b q None n

-- within a list no default is taken
pub any_default : {A : Type 0} (xs : List A) (a : ℕ) (x y : A) → a < length xs → slice_index_or xs a x ≡ slice_index_or xs a y
any_default {A} [] a x y lt = absurd (omega (arith, lt))
any_default {A} (z ∷ zs) zero x y lt = refl
any_default {A} (z ∷ zs) (suc a) x y lt = any_default zs a x y (omega (arith, lt))

-- the pass that is put is the one that is there
pub put_is : (ps : List (Option PassState)) (a b : ℕ) (q r : PassState) → a < length ps → b ≡ a → arc_pass (set ps a (Some q)) b ≡ Some r → q ≡ r
put_is ps a b q r l same e = same_Some _ _ (sym (pass_same ps a (Some q) l) ∙ subst (λ z. arc_pass (set ps a (Some q)) z ≡ Some r) same e)

-- one more has gone on
pub one_went : (ps qs : List (Option PassState)) (a : ℕ) (q : Option PassState) → a < length qs → HaveAdvanced ps qs → Advanced (arc_pass qs a) q
    → HaveAdvanced ps (set qs a q)
one_went ps qs a q below all here b = go (same_or_not b a)
  where
    go : (b ≡ a) ⊎ (b ≢ a) → Advanced (arc_pass ps b) (arc_pass (set qs a q) b)
    go (inl e) =
        subst (λ z. Advanced (arc_pass ps z) (arc_pass (set qs a q) z)) (sym e)
        (subst (Advanced (arc_pass ps a)) (sym (pass_same qs a q below)) (went_more (arc_pass ps a) (arc_pass qs a) q (all a) here))
    go (inr n) = subst (Advanced (arc_pass ps b)) (sym (pass_other qs a b q n)) (all b)

-- What a party's passes have seen.

pass_place : (ledgers : List SharedState) (w : Watcher) (a : ℕ) (p : Option PassState)
    → ((s : SharedState) (r : PassState) → s ≡ slice_index_or ledgers a s → p ≡ Some r → IsWatcherPass w s.lock a r) → IsWatcherPlace ledgers w a p
pass_place ledgers w a None h = tt
pass_place ledgers w a (Some r) h = λ s is. h s r is refl

pub find_place : (ledgers : List SharedState) (w : Watcher) (ps : List (Option PassState)) (a : ℕ) → Tracks ledgers w ps → a < length ps
    → IsWatcherPlace ledgers w a (arc_pass ps a)
find_place ledgers w ps a t l = pass_place ledgers w a (arc_pass ps a) (λ s r is e. t.each a s r l is e)

shared_at : (ledgers : List SharedState) (a : ℕ) → a < length ledgers → (s : SharedState) × (s ≡ slice_index_or ledgers a s)
shared_at [] a lt = absurd (omega (arith, lt))
shared_at (s ∷ ss) zero lt = (s, refl)
shared_at (s ∷ ss) (suc a) lt = shared_at ss a (omega (arith, lt))

-- a pass has seen what its party knows
pub seen_of : (ledgers : List SharedState) (w : Watcher) (ps : List (Option PassState)) (a : ℕ) (p : PassState) → Tracks ledgers w ps → a < length ps
    → arc_pass ps a ≡ Some p → p.seen ≡ history w.known a
seen_of ledgers w ps a p t lt e =
    let s = shared_at ledgers a (subst (λ z. a < z) (t.places ∙ sym t.shared) lt) in
    (t.each a s.0 p lt s.1 e).seen

-- The pass on arc a has seen the whole history there, and the party knows it afterwards.
module _ (ledgers : List SharedState) (w : Watcher) (ps : List (Option PassState)) (a : ℕ) (p q : PassState) (h : List Entry) (tracks : Tracks ledgers w ps)
    (below : a < length ps) (known : a < length w.known) (here : arc_pass ps a ≡ Some p) (later : IsLater p q) (seen : q.seen ≡ h) where
  new_pass : (s : SharedState) → s ≡ slice_index_or ledgers a s → IsWatcherPass (watcher_knowing w a h) s.lock a q
  new_pass s is =
      let old = tracks.each a s p below is here in
      record {
        lock = ap (λ (y : PassState). y.lock) later.1 ∙ old.lock;
        deal = ap (λ (y : PassState). y.deal) later.1 ∙ old.deal;
        arc = ap (λ (y : PassState). y.arc) later.1 ∙ old.arc;
        party = ap (λ (y : PassState). y.party) later.1 ∙ old.party;
        seen = seen ∙ sym (history_same w.known a h known);
      }

  far_pass : (b : ℕ) (s : SharedState) (r : PassState) → b ≢ a → IsWatcherPass w s.lock b r → IsWatcherPass (watcher_knowing w a h) s.lock b r
  far_pass b s r apart k = record { lock = k.lock; deal = k.deal; arc = k.arc; party = k.party; seen = k.seen ∙ sym (history_other w.known a b h apart) }

  each_pass : (b : ℕ) (s : SharedState) (r : PassState) → b < length ps → s ≡ slice_index_or ledgers b s → arc_pass (set ps a (Some q)) b ≡ Some r
      → (b ≡ a) ⊎ (b ≢ a) → IsWatcherPass (watcher_knowing w a h) s.lock b r
  each_pass b s r lt is e (inl same) =
      subst (λ z. IsWatcherPass (watcher_knowing w a h) s.lock z r) (sym same)
      (subst (IsWatcherPass (watcher_knowing w a h) s.lock a) (put_is ps a b q r below same e) (new_pass s (subst (λ z. s ≡ slice_index_or ledgers z s) same is)))
  each_pass b s r lt is e (inr apart) = far_pass b s r apart (tracks.each b s r lt is (sym (pass_other ps a b (Some q) apart) ∙ e))

  tracks_on : Tracks ledgers (watcher_knowing w a h) (set ps a (Some q))
  tracks_on = record {
    places = length-set ps a (Some q) ∙ tracks.places;
    shared = tracks.shared;
    each = λ b s r lt is e. each_pass b s r (subst (λ z. b < z) (length-set ps a (Some q)) lt) is e (same_or_not b a);
  }

-- passes that went on are at the same places
stay : (d : Deal) (v : ℕ) (ps qs : List (Option PassState)) → HaveAdvanced ps qs → length qs ≡ length ps → HasItsPasses d v ps → HasItsPasses d v qs
stay d v ps qs gone same h = record {
  near = λ a lt t. there a (arc_pass ps a) (gone a) (h.near a (subst (λ z. a < z) same lt) t);
  far = λ a lt t. subst (λ o. Advanced o (arc_pass qs a)) (h.far a (subst (λ z. a < z) same lt) t) (gone a);
}
  where
    there : (a : ℕ) (o : Option PassState) → Advanced o (arc_pass qs a) → (p : PassState) × (o ≡ Some p) → (p : PassState) × (arc_pass qs a ≡ Some p)
    there a None w h0 = absurd (none-some h0.0 h0.1)
    there a (Some p) w h0 = (w.0, w.1)

-- the party watches on
pub watching_on : (ledgers : List SharedState) (w : Watcher) (ps : List (Option PassState)) (a : ℕ) (p q : PassState) (h : List Entry) → IsWatching ledgers w ps
    → a < length ps → arc_pass ps a ≡ Some p → IsLater p q → q.seen ≡ h → IsWatching ledgers (watcher_knowing w a h) (set ps a (Some q))
watching_on ledgers w ps a p q h i below here later seen = record {
  known = length-set w.known a h ∙ i.known;
  tracks = tracks_on ledgers w ps a p q h i.tracks below (subst (λ n. a < n) (i.tracks.places ∙ sym i.known) below) here later seen;
  passes =
      stay w.deal w.me ps (set ps a (Some q))
      (one_went ps ps a (Some q) below (none_went ps) (subst (λ o. Advanced o (Some q)) (sym here) (q, refl, later))) (length-set ps a (Some q)) i.passes;
}

seen_count : (k : ℕ) (ps : List (Option PassState)) (a b : ℕ) (q r : PassState) → a < length ps → IsPrefix q.shared q.seen
    → ((b ≢ a) → HaveSeenBelow k ps × (b < k)) → arc_pass (set ps a (Some q)) b ≡ Some r → (b ≡ a) ⊎ (b ≢ a) → IsPrefix r.shared r.seen
seen_count k ps a b q r below whole f e (inl same) = subst (λ (x : PassState). IsPrefix x.shared x.seen) (put_is ps a b q r below same e) whole
seen_count k ps a b q r below whole f e (inr apart) = (f apart).0 b r (f apart).1 (sym (pass_other ps a b (Some q) apart) ∙ e)

-- one more of them
pub first_seen_arc : (k : ℕ) (ps : List (Option PassState)) (q : PassState) → k < length ps → HaveSeenBelow k ps → IsPrefix q.shared q.seen
    → HaveSeenBelow (k + 1) (set ps k (Some q))
first_seen_arc k ps q below all whole b r lt e = seen_count k ps k b q r below whole (λ apart. (all, omega (arith, lt, apart))) e (same_or_not b k)

-- one of them again
pub seen_again : (ps : List (Option PassState)) (a : ℕ) (q : PassState) → a < length ps → HaveSeenAll ps → IsPrefix q.shared q.seen
    → HaveSeenAll (set ps a (Some q))
seen_again ps a q below all whole b r lt e =
    let lt1 : b < length ps = subst (λ z. b < z) (length-set ps a (Some q)) lt in
    seen_count (length ps) ps a b q r below whole (λ apart. (all, lt1)) e (same_or_not b a)

-- elsewhere nothing changed, and then nothing again
pub elsewhere_more : (ps qs : List (Option PassState)) (first second third : Histories) → HaveAdvanced ps qs → IsSameElsewhere ps first second
    → IsSameElsewhere qs second third → IsSameElsewhere ps first third
elsewhere_more ps qs first second third gone before after a none = after a (subst (λ o. Advanced o (arc_pass qs a)) none (gone a)) ∙ before a none

-- what is known of the arc of a pass changes nothing elsewhere
pub elsewhere_on : (ps qs : List (Option PassState)) (old new : Histories) (a : ℕ) (p : PassState) (h : List Entry) → HaveAdvanced ps qs → arc_pass qs a ≡ Some p
    → IsSameElsewhere ps old new → IsSameElsewhere ps old (set new a h)
elsewhere_on ps qs old new a p h gone here all b none = go (same_or_not b a)
  where
    still : arc_pass qs b ≡ None
    still = subst (λ x. Advanced x (arc_pass qs b)) none (gone b)

    go : (b ≡ a) ⊎ (b ≢ a) → history (set new a h) b ≡ history old b
    go (inl same) = absurd (none-some _ (sym (subst (λ z. arc_pass qs z ≡ None) same still) ∙ here))
    go (inr apart) = history_other new a b h apart ∙ all b none
