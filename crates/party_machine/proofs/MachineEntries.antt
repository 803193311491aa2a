-- What a machine is made of, as a new one and after more entries of an arc.
use Rattle.std.proofs.Common.{◌≡◌, ◌≢◌, ◌⊎◌, ℕ, zero, suc, ◌+◌, ◌<◌, ◌++◌, List, [], ◌∷◌, length, map, get_or, set, replicate, Option, Some, None, refl, sym}
use Rattle.std.proofs.Common.{ap, ◌∙◌, subst, inl, inr, zero-add}
use Rattle.std.specs.Prelude.{Result, Ok, Err, OnOk, OnErr}
use Rattle.std.specs.List.{range_with_len}
use Rattle.std.proofs.Math.Seq.{map-set_same}
use Rattle.std.proofs.lemmas.List.{map-set, get_or-map, length-map, length-set, length-replicate}
use Rattle.std.proofs.lemmas.List.FromFn.{get_or-map-range_with_len}
use Rattle.std.proofs.lemmas.Simd.{map-map}
use Rattle.swap_digraph.specs.declared.deal.Deal.{Deal}
use Rattle.swap_digraph.specs.Graph.{arcs}
use Rattle.swap_digraph.specs.Deal.{party, counterparty, IsWellSized}
use Rattle.hashkey_path.specs.declared.hashkey.Hashkey.{Hashkey}
use Rattle.escrow_core.specs.Terms.{stated_terms}
use Rattle.ledger_core.specs.declared.entry.Entry.{Entry}
use Rattle.ledger_core.specs.History.{IsLegal}
use Rattle.ledger_core.specs.Book.{Histories, history, IsLegalBook}
use Rattle.history_index.specs.Value.{IndexState, new_index, IsSameArc}
use Rattle.history_index.specs.Numbers.{IsIndexable}
use Rattle.history_index.proofs.Legal.{front_indexable}
use Rattle.swap_rules.specs.Accepted.{IsAccepted}
use Rattle.swap_rules.specs.Machine.{IsWallet}
use Rattle.swap_rules.proofs.Prefixes.{same_or_not}
use Rattle.swap_rules.proofs.Conducting.{history_same, history_other}
use Rattle.party_wallet.specs.Value.{WalletState, signed_hashkey}
use Rattle.party_wallet.specs.Keys.{new_wallet, with_recorded}
use Rattle.party_machine.specs.Wallet.{seed_wallet}
use Rattle.party_wallet.specs.Fits.{find_wrong_lock, wrong_lock}
use Rattle.party_machine.specs.Machine.{MachineState, new_machine, machine_or, fresh_machine, resumed_machine, learnt}
use Rattle.party_machine.specs.Within.{all_entries, inside_machine, AreIndexes, IsPartyWallet, IsReadyWallet, IsKeptMachine}
use Rattle.party_machine.specs.declared.machine.Machine.TheInside.{Inside}
use Rattle.party_machine.proofs.Good.{fitting_is_good}

-- What a machine shows of what it keeps.

abbrev pub IsGoodFor : MachineState → Type 0
IsGoodFor s = IsAccepted s.deal → IsWallet s.deal s.me (seed_wallet s.seed s.me s.deal)

pub is_good : (m : Inside) (s : MachineState) → inside_machine m ≡ s → IsKeptMachine m → IsGoodFor s
is_good m s e r = subst IsGoodFor e (λ accepted. fitting_is_good m.deal m.wallet.party m.wallet.seed accepted r.ready.partys.party r.ready.partys.fits)

pub legal_at : (d : Deal) (w : WalletState) (known : List IndexState) (a : ℕ) → IsReadyWallet d w known → a < length d.graph.arcs
    → IsLegal d a (history (all_entries known) a)
legal_at d w known a r lt = r.legal.legal a (rw r.legal.one_each lt)

pub is_legal : (m : Inside) (s : MachineState) (a : ℕ) → inside_machine m ≡ s → IsKeptMachine m → a < length s.deal.graph.arcs → IsLegal s.deal a (history s.known a)
is_legal m s a e r lt =
    subst (λ (x : MachineState). a < length x.deal.graph.arcs
    → IsLegal x.deal a (history x.known a)) e (legal_at m.deal m.wallet m.known.items a r.ready) lt

pub one_each : (d : Deal) (w : WalletState) (known : List IndexState) → IsReadyWallet d w known → length known ≡ length d.graph.arcs
one_each d w known r = sym (length-map known (λ x. x.entries)) ∙ r.legal.one_each

-- the entries of an index are the history of its arc
pub released_history : (known : List IndexState) (a : ℕ) (x : IndexState) → a < length known → x ≡ get_or known a x → history (all_entries known) a ≡ x.entries
released_history known a x lt e = get_or-map (λ y. y.entries) known a x [] lt ∙ ap (λ (y : IndexState). y.entries) (sym e)

-- what holds of each index, at its place
find_place : (d : Deal) (w : WalletState) (known : List IndexState) (a : ℕ) (x : IndexState) → IsReadyWallet d w known → a < length d.graph.arcs
    → x ≡ get_or known a x
    → {B : Type 0} (g : IndexState → B) (of : ℕ → B) → map g known ≡ map of (arcs d.graph) → g x ≡ of a
find_place d w known a x ready lt e {B} g of made =
    ap g e
    ∙ sym (get_or-map g known a x (g x) (rw (one_each d w known ready) lt))
    ∙ ap (λ (ts : List B). get_or ts a (g x)) made
    ∙ get_or-map-range_with_len of 0 (length d.graph.arcs) a a (g x) lt (zero-add a)

same_numbers : (xs : List ℕ) → map (λ n. n) xs ≡ xs
same_numbers [] = refl
same_numbers (x ∷ xs) = ap (λ (ys : List ℕ). x ∷ ys) (same_numbers xs)

-- it was made for its arc
pub renewed_wallet : (d : Deal) (w : WalletState) (known : List IndexState) (a : ℕ) (x : IndexState) → IsReadyWallet d w known → a < length d.graph.arcs
    → x ≡ get_or known a x
    → IsSameArc (new_index d a) x
renewed_wallet d w known a x ready lt e =
    record {
      arc = find_place d w known a x ready lt e (λ z. z.arc) (λ n. n) (ready.arcs ∙ sym (same_numbers (arcs d.graph)));
      from = find_place d w known a x ready lt e (λ z. z.from) (party d) ready.indexes.from;
      to = find_place d w known a x ready lt e (λ z. z.to) (counterparty d) ready.indexes.to;
      terms = find_place d w known a x ready lt e (λ z. z.terms) (stated_terms d) ready.indexes.terms;
    }

-- A new machine.

nothing_known : (d : Deal) (k n : ℕ) → all_entries (map (new_index d) (range_with_len k n)) ≡ replicate n []
nothing_known d k zero = refl
nothing_known d k (suc n) = ap (λ (hs : Histories). [] ∷ hs) (nothing_known d (k + 1) n)

none_of_none : {A : Type 0} (n i : ℕ) (d : A) → get_or (replicate n d) i d ≡ d
none_of_none zero i d = refl
none_of_none (suc n) zero d = refl
none_of_none (suc n) (suc i) d = none_of_none n i d

entries_new : (d : Deal) (known : List IndexState) → known ≡ map (new_index d) (arcs d.graph) → all_entries known ≡ replicate (length d.graph.arcs) []
entries_new d known e = ap all_entries e ∙ nothing_known d 0 (length d.graph.arcs)

legal_new : (d : Deal) → IsLegalBook d (replicate (length d.graph.arcs) [])
legal_new d = record {
  one_each = length-replicate (length d.graph.arcs) [];
  legal = λ a lt. subst (IsLegal d a) (sym (none_of_none (length d.graph.arcs) a [])) tt;
}

arcs_from : (d : Deal) (k n : ℕ) → map (λ x. x.arc) (map (new_index d) (range_with_len k n)) ≡ range_with_len k n
arcs_from d k zero = refl
arcs_from d k (suc n) = ap (λ (ns : List ℕ). k ∷ ns) (arcs_from d (k + 1) n)

indexes_new : (d : Deal) → AreIndexes d (map (new_index d) (arcs d.graph))
indexes_new d = record {
  terms = map-map (λ x. x.terms) (new_index d) (arcs d.graph);
  from = map-map (λ x. x.from) (new_index d) (arcs d.graph);
  to = map-map (λ x. x.to) (new_index d) (arcs d.graph);
}

partys_new : (d : Deal) (v : ℕ) (seed : List ℕ) → v < d.graph.n → wrong_lock d v seed ≡ None → IsPartyWallet d (new_wallet seed v d)
partys_new d v seed lt fits = record {
  party = lt;
  mode = refl;
  places = length-replicate (length d.leaders) None;
  fits = fits;
  locks = λ i k e. absurd (cc (sym (none_of_none {A = Option Hashkey} (length d.leaders) i None) ∙ e));
}

pub new_ready : (c d : Deal) (v : ℕ) (w : WalletState) (known : List IndexState) → c ≡ d → w ≡ new_wallet w.seed v d
    → known ≡ map (new_index d) (arcs d.graph) → IsWellSized d → v < d.graph.n → wrong_lock d v w.seed ≡ None → IsReadyWallet c w known
new_ready c d v w known ec ew ek sized lt fits =
    subst (λ (x : Deal). IsReadyWallet x w known) (sym ec) (record {
      sized = sized;
      partys = subst (IsPartyWallet d) (sym ew) (partys_new d v w.seed lt fits);
      indexes = subst (AreIndexes d) (sym ek) (indexes_new d);
      arcs = ap (map (λ x. x.arc)) ek ∙ arcs_from d 0 (length d.graph.arcs);
      legal = subst (IsLegalBook d) (sym (entries_new d known ek)) (legal_new d);
    })

pub new_is : (c d : Deal) (v : ℕ) (w : WalletState) (known : List IndexState) → c ≡ d → w ≡ new_wallet w.seed v d → known ≡ map (new_index d) (arcs d.graph)
    → ◌≡◌ {A = MachineState} (record { deal = c; me = w.party; seed = w.seed; known = all_entries known; signed = w.signed }) (new_machine d v w.seed)
new_is c d v w known ec ew ek =
    let p : w.party ≡ v = ap (λ (x : WalletState). x.party) ew in
    let s : w.signed ≡ replicate (length d.leaders) None = ap (λ (x : WalletState). x.signed) ew in
    let k : all_entries known ≡ replicate (length d.graph.arcs) [] = entries_new d known ek in
    rw (ec, p, s, k) refl

-- a wallet that was just made for the party and the deal

pub make_seed : (d : Deal) (v : ℕ) (seed : List ℕ) (f : WalletState) → f ≡ new_wallet seed v d → f.seed ≡ seed
make_seed d v seed f is = ap (λ (w : WalletState). w.seed) is

pub made_fresh : (d : Deal) (v : ℕ) (seed : List ℕ) (f : WalletState) → f ≡ new_wallet seed v d → f ≡ new_wallet f.seed v d
made_fresh d v seed f is = is ∙ ap (λ (s : List ℕ). new_wallet s v d) (sym (make_seed d v seed f is))

pub fits_fresh : (d : Deal) (v : ℕ) (w f : WalletState) → f ≡ new_wallet w.seed v d → wrong_lock d v w.seed ≡ None → wrong_lock d v f.seed ≡ None
fits_fresh d v w f is fits = ap (wrong_lock d v) (make_seed d v w.seed f is) ∙ fits

pub fitting_shows : (d : Deal) (v : ℕ) (w f : WalletState) (m : MachineState) → f ≡ new_wallet w.seed v d → m ≡ new_machine d v f.seed
    → find_wrong_lock d v w ≡ None → fresh_machine d v w ≡ Ok m
fitting_shows d v w f m is e fits =
    ap (machine_or d v w.seed) fits ∙ ap (λ (x : MachineState). Ok x) (sym (e ∙ ap (new_machine d v) (make_seed d v w.seed f is)))

-- a party's wallet with recorded hashkeys
partys_recorded : (d : Deal) (w w' : WalletState) (recorded : List (Option Hashkey)) → IsPartyWallet d w → w' ≡ with_recorded w recorded
    → length recorded ≡ length d.leaders → ((i : ℕ) (k : Hashkey) → signed_hashkey recorded i ≡ Some k → k.lock ≡ i) → IsPartyWallet d w'
partys_recorded d w w' recorded r ew places locks = subst (IsPartyWallet d) (sym ew) (record {
  party = r.party;
  mode = r.mode;
  places = places;
  fits = r.fits;
  locks = locks;
})

-- a machine stays ready with recorded hashkeys in its wallet
pub restored_ready : (d : Deal) (w w' : WalletState) (known : List IndexState) (recorded : List (Option Hashkey)) → IsReadyWallet d w known
    → w' ≡ with_recorded w recorded → length recorded ≡ length d.leaders
    → ((i : ℕ) (k : Hashkey) → signed_hashkey recorded i ≡ Some k → k.lock ≡ i) → IsReadyWallet d w' known
restored_ready d w w' known recorded r ew places locks = record {
  sized = r.sized;
  partys = partys_recorded d w w' recorded r.partys ew places locks;
  indexes = r.indexes;
  arcs = r.arcs;
  legal = r.legal;
}

-- a machine that knows nothing, with recorded hashkeys in its wallet
pub restarted_ready : (d : Deal) (w w' : WalletState) (old known : List IndexState) (recorded : List (Option Hashkey)) → IsReadyWallet d w old
    → known ≡ map (new_index d) (arcs d.graph) → w' ≡ with_recorded w recorded → length recorded ≡ length d.leaders
    → ((i : ℕ) (k : Hashkey) → signed_hashkey recorded i ≡ Some k → k.lock ≡ i) → IsReadyWallet d w' known
restarted_ready d w w' old known recorded r ek ew places locks = record {
  sized = r.sized;
  partys = partys_recorded d w w' recorded r.partys ew places locks;
  indexes = subst (AreIndexes d) (sym ek) (indexes_new d);
  arcs = ap (map (λ x. x.arc)) ek ∙ arcs_from d 0 (length d.graph.arcs);
  legal = subst (IsLegalBook d) (sym (entries_new d known ek)) (legal_new d);
}

-- what it shows
pub restarted_is : (d : Deal) (w w' : WalletState) (known : List IndexState) (recorded : List (Option Hashkey)) → known ≡ map (new_index d) (arcs d.graph)
    → w' ≡ with_recorded w recorded
    → ◌≡◌ {A = MachineState} (record { deal = d; me = w'.party; seed = w'.seed; known = all_entries known; signed = w'.signed })
    (resumed_machine d w.party w.seed recorded)
restarted_is d w w' known recorded ek ew =
    let p : w'.party ≡ w.party = ap (λ (x : WalletState). x.party) ew in
    let s : w'.seed ≡ w.seed = ap (λ (x : WalletState). x.seed) ew in
    let g : w'.signed ≡ recorded = ap (λ (x : WalletState). x.signed) ew in
    let k : all_entries known ≡ replicate (length d.graph.arcs) [] = entries_new d known ek in
    λ i. record { deal = d; me = p i; seed = s i; known = k i; signed = g i }

-- More entries of an arc.

-- an index in the place of one of the same arc
pub learnt_ready : (d : Deal) (w : WalletState) (known : List IndexState) (a : ℕ) (x y : IndexState) → IsReadyWallet d w known → a < length d.graph.arcs
    → x ≡ get_or known a x → IsSameArc x y → IsLegal d a y.entries → IsReadyWallet d w (set known a y)
learnt_ready d w known a x y r lt e same legal = record {
  sized = r.sized;
  partys = r.partys;
  indexes = record {
    terms = map-set_same (λ z. z.terms) known a y x (same.terms ∙ ap (λ (z : IndexState). z.terms) e) ∙ r.indexes.terms;
    from = map-set_same (λ z. z.from) known a y x (same.from ∙ ap (λ (z : IndexState). z.from) e) ∙ r.indexes.from;
    to = map-set_same (λ z. z.to) known a y x (same.to ∙ ap (λ (z : IndexState). z.to) e) ∙ r.indexes.to;
  };
  arcs = map-set_same (λ z. z.arc) known a y x (same.arc ∙ ap (λ (z : IndexState). z.arc) e) ∙ r.arcs;
  legal = subst (IsLegalBook d) (sym (map-set (λ z. z.entries) known a y)) (record {
    one_each = length-set (all_entries known) a y.entries ∙ r.legal.one_each;
    legal = λ c l. at c (same_or_not c a) (subst (λ z. c < z) (length-set (all_entries known) a y.entries) l);
  });
}
  where
    below : a < length (all_entries known)
    below = rw r.legal.one_each lt

    at : (c : ℕ) → (c ≡ a) ⊎ (c ≢ a) → c < length (all_entries known) → IsLegal d c (history (set (all_entries known) a y.entries) c)
    at c (inl q) l =
        subst (λ z. IsLegal d z (history (set (all_entries known) a y.entries) z)) (sym q)
        (subst (IsLegal d a) (sym (history_same (all_entries known) a y.entries below)) legal)
    at c (inr n) l = subst (IsLegal d c) (sym (history_other (all_entries known) a c y.entries n)) (r.legal.legal c l)

-- what the call did, by its answer
legal_by : {A E : Type 0} (d : Deal) (a : ℕ) (x y : IndexState) (more : List Entry) (r : Result A E) → IsLegal d a x.entries
    → IsLegal d a (x.entries ++ more) → OnOk r (y.entries ≡ x.entries ++ more) → OnErr r (y ≡ x) → IsLegal d a y.entries
legal_by d a x y more (Ok u) before after ok err = subst (IsLegal d a) (sym ok) after
legal_by d a x y more (Err u) before after ok err = subst (λ (z : IndexState). IsLegal d a z.entries) (sym err) before

pub called_ready : {A E : Type 0} (d : Deal) (w : WalletState) (known : List IndexState) (a : ℕ) (x y : IndexState) (more : List Entry) (r : Result A E)
    → IsReadyWallet d w known → a < length d.graph.arcs → x ≡ get_or known a x → IsSameArc x y → IsLegal d a (history (all_entries known) a ++ more)
    → OnOk r (y.entries ≡ x.entries ++ more) → OnErr r (y ≡ x) → IsReadyWallet d w (set known a y)
called_ready d w known a x y more r ready lt e same legal ok err =
    let h : history (all_entries known) a ≡ x.entries = released_history known a x (rw (one_each d w known ready) lt) e in
    let before : IsLegal d a x.entries = subst (IsLegal d a) h (legal_at d w known a ready lt) in
    let after : IsLegal d a (x.entries ++ more) = subst (λ (z : List Entry). IsLegal d a (z ++ more)) h legal in
    learnt_ready d w known a x y ready lt e same (legal_by d a x y more r before after ok err)

pub called_shows : {A E : Type 0} (d : Deal) (w : WalletState) (known : List IndexState) (a : ℕ) (x y : IndexState) (more : List Entry) (r : Result A E)
    → IsReadyWallet d w known → a < length d.graph.arcs → x ≡ get_or known a x → OnOk r (y.entries ≡ x.entries ++ more)
    → OnOk r (◌≡◌ {A = MachineState} (record {
      deal = d;
      me = w.party;
      seed = w.seed;
      known = all_entries (set known a y);
      signed =
          w.signed;
    }) (learnt (record { deal = d; me = w.party; seed = w.seed; known = all_entries known; signed = w.signed }) a more))
called_shows d w known a x y more (Err u) ready lt e ok = tt
called_shows d w known a x y more (Ok u) ready lt e ok =
    let h : history (all_entries known) a ≡ x.entries = released_history known a x (rw (one_each d w known ready) lt) e in
    let k : all_entries (set known a y) ≡ set (all_entries known) a (history (all_entries known) a ++ more) =
    map-set (λ z. z.entries) known a y ∙ ap (set (all_entries known) a) (ok ∙ ap (λ (z : List Entry). z ++ more) (sym h)) in
    ap (λ (b : Histories). record { deal = d; me = w.party; seed = w.seed; known = b; signed = w.signed }) k

-- all that comes is indexable
pub fronts : (d : Deal) (w : WalletState) (known : List IndexState) (a : ℕ) (x : IndexState) (more : List Entry) → IsReadyWallet d w known
    → a < length d.graph.arcs → x ≡ get_or known a x → IsLegal d a (history (all_entries known) a ++ more)
    → (front rest : List Entry) → x.entries ++ more ≡ front ++ rest → IsIndexable x.from x.to front
fronts d w known a x more ready lt e legal front rest q =
    let below : a < length known = rw (one_each d w known ready) lt in
    let h : history (all_entries known) a ≡ x.entries = released_history known a x below e in
    let made = renewed_wallet d w known a x ready lt e in
    let f : x.from ≡ party d a = made.from in
    let t : x.to ≡ counterparty d a = made.to in
    let whole : IsLegal d a (front ++ rest) = subst (IsLegal d a) (ap (λ (z : List Entry). z ++ more) h ∙ q) legal in
    rw (f, t) (front_indexable d a front rest ready.sized whole)
