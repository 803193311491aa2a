-- Where the hashkeys that a party makes are valid.
use Rattle.std.proofs.Common.{◌≡◌, ℕ, zero, suc, ◌<◌, true, false, ◌&&◌, ◌==◌, not, nat_lt, IsTrue, List, [], ◌∷◌, length, get_or, Bool, refl, sym, ap}
use Rattle.std.proofs.Common.{◌∙◌, arith, eq-eqb, eqb-true, lt-ltb}
use Rattle.std.proofs.lemmas.Bool.{not-true}
use Rattle.std.specs.Prelude.{◌||◌}
use Rattle.std.specs.List.{list_any}
use Rattle.swap_base.proofs.Lists.{and_both, or-right}
use Rattle.swap_digraph.specs.declared.arc_ends.ArcEnds.{ArcEnds}
use Rattle.swap_digraph.specs.Value.{Graph}
use Rattle.swap_digraph.specs.declared.deal.Deal.{Deal}
use Rattle.swap_digraph.specs.declared.deal.Mode.{Mode}
use Rattle.swap_digraph.specs.declared.deal.Mode.TheVariants.{Timelocks, Hashkeys}
use Rattle.swap_digraph.specs.Graph.{is_path, is_listed, resolve_all_ends, has_arc, first_is, IsConnectingPath}
use Rattle.swap_digraph.specs.Deal.{party, counterparty, lock_leader, lock_hashlock}
use Rattle.hash_signature.specs.declared.sig.Sig.{Sig}
use Rattle.hash_signature.specs.Signature.{is_valid_signature, derive_public_key, made_signature}
use Rattle.hashkey_path.specs.declared.hashkey.Hashkey.{Hashkey}
use Rattle.hashkey_path.specs.Hashkey.{party_public_key, signing_message, is_signed, wrong_signature, HasPath, IsValidHashkey}
use Rattle.hashkey_path.specs.Signed.{suffix_signature, leaders_key, extended_key, IsLeadersOwn, CanExtend, IsValidEntering}
use Rattle.hashkey_path.proofs.Validity.{SignsEach, signed_both, each_from_none, none_from_each}

-- a signature of the deal's key for the party is the right one at its place
pub signed_by : (d : Deal) (lock : ℕ) (secret : List ℕ) (party : ℕ) (seed rest : List ℕ) (inner : List Sig)
    → party_public_key d party lock ≡ derive_public_key seed party lock
    → IsTrue (is_valid_signature (derive_public_key seed party lock) (signing_message d.id lock (party ∷ rest) secret inner)
    (suffix_signature d lock secret party seed rest inner))
    → is_signed d lock secret party rest (suffix_signature d lock secret party seed rest inner) inner ≡ true
unfolding is_signed
signed_by d lock secret party seed rest inner key valid =
    ap (λ (public : List ℕ). is_valid_signature public (signing_message d.id lock (party ∷ rest) secret inner)
    (suffix_signature d lock secret party seed rest inner)) key ∙ valid

-- one signature more before right ones
pub one_more : (d : Deal) (lock : ℕ) (secret : List ℕ) (v : ℕ) (rest : List ℕ) (s : Sig) (inner : List Sig)
    → is_signed d lock secret v rest s inner ≡ true → SignsEach d lock secret rest inner → SignsEach d lock secret (v ∷ rest) (s ∷ inner)
one_more d lock secret v rest s inner signed each =
    each_from_none d lock secret (v ∷ rest) (s ∷ inner)
    (signed_both (is_signed d lock secret v rest s inner) (wrong_signature 1 d lock secret rest inner) 0 signed
    (none_from_each 1 d lock secret rest inner each))

has_path_in : (m : Mode) (d : Deal) (a : ℕ) (key : Hashkey) → m ≡ Hashkeys → HasPath Hashkeys d a key → HasPath m d a key
has_path_in Hashkeys d a key e h = h
has_path_in Timelocks d a key e h = absurd (cc e)

has_path_out : (m : Mode) (d : Deal) (a : ℕ) (key : Hashkey) → m ≡ Hashkeys → HasPath m d a key → HasPath Hashkeys d a key
has_path_out Hashkeys d a key e h = h
has_path_out Timelocks d a key e h = absurd (cc e)

-- a party that leads a lock is its leader
same_leader : (leaders : List ℕ) (i n v : ℕ) → v < n → (get_or leaders i n == v) ≡ true → get_or leaders i 0 ≡ v
same_leader [] i n v lt e = let same : n ≡ v = eqb-true n v e in absurd (omega arith)
same_leader (w ∷ leaders) zero n v lt e = eqb-true w v e
same_leader (w ∷ leaders) (suc i) n v lt e = same_leader leaders i n v lt e

is_self : (u v : ℕ) → u ≡ v → (u == v) ≡ true
is_self u v e = eq-eqb u v e

pub first_is_valid : (d : Deal) (lock : ℕ) (secret : List ℕ) (party : ℕ) (seed : List ℕ) → party < d.graph.n → IsLeadersOwn d lock secret party seed
    → IsTrue (is_valid_signature (derive_public_key seed party lock) (signing_message d.id lock (party ∷ []) secret [])
    (suffix_signature d lock secret party seed [] [])) → IsValidEntering d party (lock_hashlock d lock) (leaders_key d lock secret party seed)
first_is_valid d lock secret party seed lt own valid a in_range enters =
    let leader : party ≡ lock_leader d lock = sym (same_leader d.leaders lock d.graph.n party lt own.leads) in
    record {
      secret = own.opens;
      path = has_path_in d.mode d a (leaders_key d lock secret party seed) own.mode (
        (lt-ltb party d.graph.n lt, is_self party (counterparty d a) (sym enters), is_self party (lock_leader d lock) leader),
        refl,
        one_more d lock secret party [] (suffix_signature d lock secret party seed [] []) [] (signed_by d lock secret party seed [] [] own.key valid)
            (each_from_none d lock secret [] [] refl),
      );
    }

-- a vertex that isn't on a path, with an arc to its first vertex, goes before it
pub longer_path : (g : Graph) (u w v : ℕ) (p : List ℕ) → u < g.n → is_listed u p ≡ false → has_arc g u (get_or p 0 0) ≡ true → IsConnectingPath g w v p
    → IsConnectingPath g u v (u ∷ p)
longer_path g u w v [] lt apart arc h = absurd (cc h.0)
longer_path g u w v (x ∷ p) lt apart arc h = (
  and_both (nat_lt u g.n && not (is_listed u (x ∷ p)) && has_arc g u x) (is_path g (x ∷ p))
      (and_both (nat_lt u g.n && not (is_listed u (x ∷ p))) (has_arc g u x)
      (and_both (nat_lt u g.n) (not (is_listed u (x ∷ p))) (lt-ltb u g.n lt) (ap not apart)) arc) h.0,
  is_self u u refl,
  h.2,
)

pub extended_is_valid : (d : Deal) (inner : Hashkey) (party : ℕ) (seed : List ℕ) (b : ℕ) (hashlock : List ℕ) → party < d.graph.n
    → IsValidHashkey d b hashlock inner → CanExtend d inner party seed
    → IsTrue (is_valid_signature (derive_public_key seed party inner.lock) (signing_message d.id inner.lock (party ∷ inner.path) inner.secret inner.sigs)
    (suffix_signature d inner.lock inner.secret party seed inner.path inner.sigs)) → IsValidEntering d party hashlock (extended_key d inner party seed)
extended_is_valid d inner party seed b hashlock lt right can valid a in_range enters =
    let h : HasPath Hashkeys d b inner = has_path_out d.mode d b inner can.mode right.path in
    let p = longer_path d.graph party (counterparty d b) (lock_leader d inner.lock) inner.path lt (not-true
    (is_listed party inner.path) can.apart) can.arc h.0 in
    record {
      secret = right.secret;
      path = has_path_in d.mode d a (extended_key d inner party seed) can.mode (
        (p.0, is_self party (counterparty d a) (sym enters), p.2),
        ap (λ (k : ℕ). suc k) h.1,
        one_more d inner.lock inner.secret party inner.path (suffix_signature d inner.lock inner.secret party seed inner.path inner.sigs) inner.sigs
            (signed_by d inner.lock inner.secret party seed inner.path inner.sigs can.key valid) h.2,
      );
    }

-- the signature of a key that is the party's for the lock, over lists that are known
pub signed_as : (id : List ℕ) (lock : ℕ) (secret : List ℕ) (party : ℕ) (seed rest : List ℕ) (inner : List Sig) (p l : ℕ) (path : List ℕ)
    (sigs : List Sig) → p ≡ party → l ≡ lock → path ≡ party ∷ rest → sigs ≡ inner
    → IsTrue (is_valid_signature (derive_public_key seed p l) (signing_message id lock path secret sigs)
    (made_signature seed p l (signing_message id lock path secret sigs)))
    → IsTrue (is_valid_signature (derive_public_key seed party lock) (signing_message id lock (party ∷ rest) secret inner)
    (made_signature seed party lock (signing_message id lock (party ∷ rest) secret inner)))
signed_as id lock secret party seed rest inner p l path sigs e₁ e₂ e₃ e₄ h = rw (e₁, e₂, e₃, e₄) at h

-- For the crates above: a hashkey that is valid on an arc leads on from the party that the arc
-- leaves.

ends_among : (u v : ℕ) (arcs : List ArcEnds) (a : ℕ) → a < length arcs → (resolve_all_ends arcs a).from ≡ u → (resolve_all_ends arcs a).to ≡ v
    → list_any (λ e. (e.from == u) && (e.to == v)) arcs ≡ true
ends_among u v [] a lt from to = absurd (omega arith)
ends_among u v (e ∷ arcs) zero lt from to =
    by_head (e.from == u) (e.to == v) (list_any (λ k. (k.from == u) && (k.to == v)) arcs) (is_self e.from u from) (is_self e.to v to)
  where
    by_head : (x y z : Bool) → x ≡ true → y ≡ true → ((x && y) || z) ≡ true
    by_head true true z p q = refl
    by_head true false z p q = absurd (cc q)
    by_head false y z p q = absurd (cc p)
ends_among u v (e ∷ arcs) (suc a) lt from to =
    or-right ((e.from == u) && (e.to == v)) (list_any (λ k. (k.from == u) && (k.to == v)) arcs) (ends_among u v arcs a (omega arith) from to)

first_vertex : (v : ℕ) (p : List ℕ) → first_is v p ≡ true → v ≡ get_or p 0 0
first_vertex v [] h = absurd (cc h)
first_vertex v (u ∷ p) h = sym (eqb-true u v h)

-- the arc that CanExtend asks for, where the arc leaves the party that extends
pub leads_on : (d : Deal) (b : ℕ) (hashlock : List ℕ) (key : Hashkey) → b < length d.graph.arcs → d.mode ≡ Hashkeys → IsValidHashkey d b hashlock key
    → has_arc d.graph (party d b) (get_or key.path 0 0) ≡ true
leads_on d b hashlock key lt mode right =
    let h : HasPath Hashkeys d b key = has_path_out d.mode d b key mode right.path in
    ends_among (party d b) (get_or key.path 0 0) d.graph.arcs b lt refl (first_vertex (counterparty d b) key.path h.0.1)
