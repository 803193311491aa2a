-- Hashkeys that opened a lock in a legal history, and the calls that moves give: they fit.
use Rattle.std.proofs.Common.{◌≡◌, ℕ, ◌+◌, ◌<◌, ◌≤◌, ◌==◌, nat_le, nat_lt, Bool, true, false, cond, ◌&&◌, List, [], ◌∷◌, ◌++◌, length}
use Rattle.std.proofs.Common.{fold, reverse, Option, Some, None, option_map, refl, sym, ap, ◌∙◌, subst, arith, eqb-true}
use Rattle.std.specs.Prelude.{IsTrue}
use Rattle.std.specs.Option.{ForSome}
use Rattle.std.specs.List.{list_all}
use Rattle.std.proofs.lemmas.Bool.{not-false, leb-true, le-leb, lt-ltb}
use Rattle.std.proofs.lemmas.Option.{same_Some}
use Rattle.std.proofs.lemmas.List.{reverse-append, length-reverse}
use Rattle.std.proofs.lemmas.List.Folds.{list_all-append}
use Rattle.swap_base.proofs.Lists.{and_both, and_parts}
use Rattle.swap_digraph.specs.declared.deal.Deal.{Deal}
use Rattle.swap_digraph.specs.declared.deal.Mode.{Mode}
use Rattle.swap_digraph.specs.declared.deal.Mode.TheVariants.{Timelocks, Hashkeys}
use Rattle.swap_digraph.specs.Deal.{path_limit}
use Rattle.hashkey_path.specs.declared.hashkey.Hashkey.{Hashkey}
use Rattle.hashkey_path.specs.Hashkey.{is_wrong_path}
use Rattle.ledger_core.specs.declared.entry.Call.{Call}
use Rattle.ledger_core.specs.declared.entry.Call.TheVariants.{Unlock}
use Rattle.ledger_core.specs.declared.entry.Entry.{Entry}
use Rattle.ledger_core.specs.History.{Opening, opened, fit, IsLegal}
use Rattle.ledger_core.specs.Facts.{opened_key}
use Rattle.ledger_core.specs.Book.{Histories, history, IsLegalBook}
use Rattle.ledger_core.proofs.History.{opened_done, of_unlock}
use Rattle.party_wallet.specs.Keys.{own_key, onto_key}
use Rattle.swap_job.specs.Crafted.{Seeds, make_seed, prepend_party, crafted, crafted_within_limit}
use Rattle.swap_job.specs.Fitting.{is_plain_move, fits_if, CanCraft, NamesFitting, IsFitting}
use Rattle.swap_job.specs.MoveKeys.{HasPathRoom, IsUsable}
use Rattle.swap_job.specs.Resolved.{move_arc, opening_named, key_opened, plain_call, build_call, call_of_move, resolved}
use Rattle.swap_job.specs.declared.moves.Move.{Move}
use Rattle.swap_job.specs.declared.moves.Move.TheVariants.{Publish, Craft, Replay, Raw, Claim, Refund, Transfer, Wait}
use Rattle.swap_job.proofs.Crafting.{put_room}

paired_by : (m : Mode) (d : Deal) (a : ℕ) (key : Hashkey) → is_wrong_path d a m key ≡ false → length key.sigs ≡ length key.path
paired_by Timelocks d a key e =
    let p = and_parts (length key.path == 0) (length key.sigs == 0) (not-false _ e) in
    eqb-true (length key.sigs) 0 p.1 ∙ sym (eqb-true (length key.path) 0 p.0)
paired_by Hashkeys d a key e = sym (eqb-true (length key.path) (length key.sigs) (and_parts _ (length key.path == length key.sigs) (not-false _ e)).1)

by_opening : (d : Deal) (a i : ℕ) (h : List Entry) (o : Option Opening) → IsLegal d a h → opened h i ≡ o → ForSome (option_map (λ w. w.key) o) (IsUsable d)
by_opening d a i h None legal e = λ x q. absurd (cc q)
by_opening d a i h (Some w) legal e = λ x q.
    let u = opened_done d a h i w legal e in
    let fits : IsUsable d w.key =
    record { fits = u.0.act.fits; paired = paired_by d.mode d a w.key (of_unlock d a u.0.past u.0.act.by w.key u.0.clear).path } in
    subst (IsUsable d) (let s : w.key ≡ x = cc q in s) fits

-- the hashkey that opened a lock in a legal history
pub usable : (d : Deal) (a i : ℕ) (h : List Entry) → IsLegal d a h → ForSome (opened_key h i) (IsUsable d)
usable d a i h legal = by_opening d a i h (opened h i) legal refl

-- What parties craft.

reverse_cons : {A : Type 0} (x : A) (xs : List A) → reverse (x ∷ xs) ≡ reverse xs ++ x ∷ []
reverse_cons x xs = reverse-append (x ∷ []) xs

all_reverse : {A : Type 0} (p : A → Bool) (xs : List A) → list_all p xs ≡ true → list_all p (reverse xs) ≡ true
all_reverse p [] e = refl
all_reverse p (x ∷ xs) e =
    let h = and_parts (p x) (list_all p xs) e in
    ap (list_all p) (reverse_cons x xs)
    ∙ (list_all-append p (reverse xs) (x ∷ []) ∙ and_both (list_all p (reverse xs)) (p x && true) (all_reverse p xs h.1) (and_both (p x) true h.0 refl))

-- the hashkey's lock and parties are in range, where there is one
abbrev InRange : Deal → Option Hashkey → Type 0
InRange d o = ForSome o (λ key. (nat_lt key.lock (length d.leaders) ≡ true) × (list_all (λ v. nat_lt v d.graph.n) key.path ≡ true))

own_range : (m : Mode) (d : Deal) (v : ℕ) (seed : List ℕ) (i : ℕ) → i < length d.leaders → nat_lt v d.graph.n ≡ true
    → (nat_lt (own_key m d v seed i).lock (length d.leaders) ≡ true) × (list_all (λ v. nat_lt v d.graph.n) (own_key m d v seed i).path ≡ true)
own_range Timelocks d v seed i l k = (lt-ltb i (length d.leaders) l, refl)
own_range Hashkeys d v seed i l k = (lt-ltb i (length d.leaders) l, and_both (nat_lt v d.graph.n) true k refl)

onto_range : (m : Mode) (d : Deal) (v : ℕ) (seed : List ℕ) (key : Hashkey) → nat_lt key.lock (length d.leaders) ≡ true
    → list_all (λ v. nat_lt v d.graph.n) key.path ≡ true → nat_lt v d.graph.n ≡ true
    → (nat_lt (onto_key m d v seed key).lock (length d.leaders) ≡ true) × (list_all (λ v. nat_lt v d.graph.n) (onto_key m d v seed key).path ≡ true)
onto_range Timelocks d v seed key l p k = (l, refl)
onto_range Hashkeys d v seed key l p k = (l, and_both (nat_lt v d.graph.n) (list_all (λ v. nat_lt v d.graph.n) key.path) k p)

put_range : (d : Deal) (seeds : Seeds) (i : ℕ) (made : Option Hashkey) (v : ℕ) → i < length d.leaders → nat_lt v d.graph.n ≡ true → InRange d made
    → InRange d (Some (prepend_party d seeds i made v))
put_range d seeds i None v l k r =
    λ x q. subst (λ y. (nat_lt y.lock (length d.leaders) ≡ true)
    × (list_all (λ v. nat_lt v d.graph.n) y.path ≡ true)) (same_Some _ x q) (own_range d.mode d v (make_seed seeds v) i l k)
put_range d seeds i (Some key) v l k r =
    let h = r key refl in
    λ x q. subst (λ y. (nat_lt y.lock (length d.leaders) ≡ true)
    × (list_all (λ v. nat_lt v d.graph.n) y.path ≡ true)) (same_Some _ x q) (onto_range d.mode d v (make_seed seeds v) key h.0 h.1 k)

-- parties in a row put themselves, one after another, before what is made so far
all_put : (d : Deal) (seeds : Seeds) (i : ℕ) (made : Option Hashkey) (vs : List ℕ) → i < length d.leaders → list_all (λ v. nat_lt v d.graph.n) vs ≡ true
    → InRange d made → HasPathRoom d (length vs) made
    → InRange d (fold (λ o v. Some (prepend_party d seeds i o v)) made vs) × HasPathRoom d 0 (fold (λ o v. Some (prepend_party d seeds i o v)) made vs)
all_put d seeds i made [] l k r room = (r, room)
all_put d seeds i made (v ∷ vs) l k r room =
    let h = and_parts (nat_lt v d.graph.n) (list_all (λ v. nat_lt v d.graph.n) vs) k in
    all_put d seeds i (Some (prepend_party d seeds i made v)) vs l h.1 (put_range d seeds i made v l h.0 r) (put_room d seeds i made v (length vs) room)

fits_of : (d : Deal) (o : Option Hashkey) → InRange d o → HasPathRoom d 0 o → ForSome (option_map Unlock o) (λ c. IsTrue (fit d 0 c))
fits_of d None r room = λ c q. absurd (cc q)
fits_of d (Some key) r room =
    let h = r key refl in
    let le : length key.path ≤ path_limit d = omega (arith, room.0) in
    let le' : length key.sigs ≤ path_limit d = subst (λ n. n ≤ path_limit d) (sym room.1) le in
    let fits : fit d 0 (Unlock key) ≡ true =
    and_both (nat_lt key.lock (length d.leaders) && nat_le (length key.path) (path_limit d) && nat_le (length key.sigs) (path_limit d))
    (list_all (λ v. nat_lt v d.graph.n) key.path)
    (and_both (nat_lt key.lock (length d.leaders) && nat_le (length key.path) (path_limit d)) (nat_le (length key.sigs) (path_limit d))
    (and_both (nat_lt key.lock (length d.leaders)) (nat_le (length key.path) (path_limit d)) h.0 (le-leb _ _ le)) (le-leb _ _ le')) h.1 in
    λ c q. subst (λ x. IsTrue (fit d 0 x)) (same_Some (Unlock key) c q) fits

crafted_fits : (d : Deal) (seeds : Seeds) (i : ℕ) (start : Option Hashkey) (via : List ℕ) → i < length d.leaders → CanCraft d seeds via
    → InRange d start → HasPathRoom d (length via) start
    → ForSome (option_map Unlock (crafted d seeds i start via)) (λ c. IsTrue (fit d 0 c))
crafted_fits d seeds i start via l can r room =
    let h =
    all_put d seeds i start (reverse via) l (all_reverse (λ v. nat_lt v d.graph.n) via can.known) r
    (subst (λ n. HasPathRoom d n start) (sym (length-reverse via)) room) in
    fits_of d (crafted d seeds i start via) h.0 h.1

-- the parts of a hashkey that can be used
usable_range : (d : Deal) (key : Hashkey) → IsUsable d key → InRange d (Some key)
usable_range d key u =
    let a =
    and_parts (nat_lt key.lock (length d.leaders) && nat_le (length key.path) (path_limit d) && nat_le (length key.sigs) (path_limit d))
    (list_all (λ v. nat_lt v d.graph.n) key.path) u.fits in
    let b = and_parts (nat_lt key.lock (length d.leaders) && nat_le (length key.path) (path_limit d)) (nat_le (length key.sigs) (path_limit d)) a.0 in
    let c = and_parts (nat_lt key.lock (length d.leaders)) (nat_le (length key.path) (path_limit d)) b.0 in
    λ x q. subst (λ y. (nat_lt y.lock (length d.leaders) ≡ true) × (list_all (λ v. nat_lt v d.graph.n) y.path ≡ true)) (same_Some key x q) (c.0, a.1)

onto_fits : (d : Deal) (seeds : Seeds) (i : ℕ) (o : Option Hashkey) (via : List ℕ) → i < length d.leaders → CanCraft d seeds via → ForSome o (IsUsable d)
    → ForSome (option_map Unlock (crafted_within_limit d seeds i o via)) (λ c. IsTrue (fit d 0 c))
onto_fits d seeds i None via l can u = λ c q. absurd (cc q)
onto_fits d seeds i (Some key) via l can u = go (nat_le (length via + length key.path) (path_limit d)) refl
  where
    go : (b : Bool) → nat_le (length via + length key.path) (path_limit d) ≡ b
        → ForSome (option_map Unlock (cond b (crafted d seeds i (Some key) via) None)) (λ c. IsTrue (fit d 0 c))
    go true e = crafted_fits d seeds i (Some key) via l can (usable_range d key (u key refl)) (leb-true _ _ e, (u key refl).paired)
    go false e = λ c q. absurd (cc q)

replay_fits : (d : Deal) (o : Option Hashkey) → ForSome o (IsUsable d) → ForSome (option_map Unlock o) (λ c. IsTrue (fit d 0 c))
replay_fits d None u = λ c q. absurd (cc q)
replay_fits d (Some key) u = λ c q. subst (λ x. IsTrue (fit d 0 x)) (same_Some (Unlock key) c q) (u key refl).fits

plain_fits : (d : Deal) (a : ℕ) (o : Option Call) → IsTrue (fits_if d a o) → ForSome o (λ c. IsTrue (fit d a c))
plain_fits d a None h = λ c q. absurd (cc q)
plain_fits d a (Some c) h = λ x q. subst (λ y. IsTrue (fit d a y)) (same_Some c x q) h

-- an unlock fits one arc as it fits another
any_arc : (d : Deal) (a : ℕ) (o : Option Hashkey) → ForSome (option_map Unlock o) (λ c. IsTrue (fit d 0 c))
    → ForSome (option_map Unlock o) (λ c. IsTrue (fit d a c))
any_arc d a None h = λ c q. absurd (cc q)
any_arc d a (Some key) h = λ c q. subst (λ x. IsTrue (fit d a x)) (same_Some (Unlock key) c q) (h (Unlock key) refl)

-- the call of a fitting move fits
pub call_fits : (d : Deal) (seeds : Seeds) (o : Option Hashkey) (mv : Move) → IsFitting d seeds mv → ForSome o (IsUsable d)
    → ForSome (build_call d seeds o mv) (λ c. IsTrue (fit d (move_arc mv) c))
call_fits d seeds o (Craft a lock via None) f u =
    any_arc d a (crafted d seeds lock None via) (crafted_fits d seeds lock None via f.names.0 f.names.1 (λ x q. absurd (cc q)) f.names.1.few)
call_fits d seeds o (Craft a lock via (Some b)) f u = any_arc d a (crafted_within_limit d seeds lock o via) (onto_fits d seeds lock o via f.names.0 f.names.1 u)
call_fits d seeds o (Replay a lock b) f u = any_arc d a o (replay_fits d o u)
call_fits d seeds o (Publish a start delta bound timelock amount locks) f u = plain_fits d a _ f.names
call_fits d seeds o (Raw a key) f u = plain_fits d a _ f.names
call_fits d seeds o (Claim a) f u = plain_fits d a _ f.names
call_fits d seeds o (Refund a) f u = plain_fits d a _ f.names
call_fits d seeds o (Transfer a to units) f u = plain_fits d a _ f.names
call_fits d seeds o (Wait a height) f u = λ c q. absurd (cc q)

-- what a move names is usable, in a legal book
pub named_usable : (d : Deal) (seeds : Seeds) (k : Histories) (mv : Move) → IsLegalBook d k → IsFitting d seeds mv
    → ForSome (key_opened k (opening_named mv)) (IsUsable d)
named_usable d seeds k (Craft a lock via None) legal f = λ x q. absurd (cc q)
named_usable d seeds k (Craft a lock via (Some b)) legal f = usable d b lock (history k b) (legal.legal b (subst (λ n. b < n) (sym legal.one_each) f.names.2))
named_usable d seeds k (Replay a lock b) legal f = usable d b lock (history k b) (legal.legal b (subst (λ n. b < n) (sym legal.one_each) f.names.1))
named_usable d seeds k (Publish a start delta bound timelock amount locks) legal f = λ x q. absurd (cc q)
named_usable d seeds k (Raw a key) legal f = λ x q. absurd (cc q)
named_usable d seeds k (Claim a) legal f = λ x q. absurd (cc q)
named_usable d seeds k (Refund a) legal f = λ x q. absurd (cc q)
named_usable d seeds k (Transfer a to units) legal f = λ x q. absurd (cc q)
named_usable d seeds k (Wait a height) legal f = λ x q. absurd (cc q)

pub with_arc : (d : Deal) (mv : Move) (o : Option Call) → ForSome o (λ c. IsTrue (fit d (move_arc mv) c))
    → ForSome {T = ℕ × Call} (option_map (λ c. (move_arc mv, c)) o) (λ x. IsTrue (fit d x.0 x.1))
with_arc d mv None h = λ x q. absurd (cc q)
with_arc d mv (Some c) h = λ x q. subst (λ y. IsTrue (fit d y.0 y.1)) (same_Some (move_arc mv, c) x q) (h c refl)

-- the call that a move resolves to fits
pub resolved_fits : (d : Deal) (seeds : Seeds) (k : Histories) (mv : Move) → IsLegalBook d k → IsFitting d seeds mv
    → ForSome (resolved d seeds k mv) (λ x. IsTrue (fit d x.0 x.1))
resolved_fits d seeds k mv legal f =
    with_arc d mv (call_of_move d seeds k mv) (call_fits d seeds (key_opened k (opening_named mv)) mv f (named_usable d seeds k mv legal f))

-- a move that stands for a call by itself names what its call does
pub plain_names : (d : Deal) (seeds : Seeds) (mv : Move) → IsTrue (is_plain_move mv) → IsTrue (fits_if d (move_arc mv) (plain_call d mv)) → NamesFitting d seeds mv
plain_names d seeds (Craft a lock via onto) p f = absurd (cc p)
plain_names d seeds (Replay a lock b) p f = absurd (cc p)
plain_names d seeds (Publish a start delta bound timelock amount locks) p f = f
plain_names d seeds (Raw a key) p f = f
plain_names d seeds (Claim a) p f = f
plain_names d seeds (Refund a) p f = f
plain_names d seeds (Transfer a to units) p f = f
plain_names d seeds (Wait a height) p f = absurd (cc p)

-- the arc of the opening that a fitting move names is in range
pub named_arc : (d : Deal) (seeds : Seeds) (mv : Move) → IsFitting d seeds mv → ForSome (opening_named mv) (λ x. x.0 < length d.graph.arcs)
named_arc d seeds (Craft a lock via None) f = λ x q. absurd (cc q)
named_arc d seeds (Craft a lock via (Some b)) f = λ x q. subst (λ (y : ℕ × ℕ). y.0 < length d.graph.arcs) (same_Some (b, lock) x q) f.names.2
named_arc d seeds (Replay a lock b) f = λ x q. subst (λ (y : ℕ × ℕ). y.0 < length d.graph.arcs) (same_Some (b, lock) x q) f.names.1
named_arc d seeds (Publish a start delta bound timelock amount locks) f = λ x q. absurd (cc q)
named_arc d seeds (Raw a key) f = λ x q. absurd (cc q)
named_arc d seeds (Claim a) f = λ x q. absurd (cc q)
named_arc d seeds (Refund a) f = λ x q. absurd (cc q)
named_arc d seeds (Transfer a to units) f = λ x q. absurd (cc q)
named_arc d seeds (Wait a height) f = λ x q. absurd (cc q)
