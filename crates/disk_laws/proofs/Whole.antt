-- Hashkeys with the sizes of their type: those that a seed signs, and the one that a party signs in
-- its act.
use Rattle.std.proofs.Common.{◌≡◌, ℕ, zero, suc, ◌*◌, ◌<◌, ◌≤◌, Bool, true, false, cond, ◌&&◌, nat_lt, nat_le, List, [], ◌∷◌, length, get_or}
use Rattle.std.proofs.Common.{Option, Some, None, refl, sym, ap, ◌∙◌, subst, arith, leb-true, length-append}
use Rattle.std.specs.List.{list_all}
use Rattle.std.proofs.lemmas.Option.{same_Some}
use Rattle.std.proofs.lemmas.List.Elements.{All-nil, All-cons}
use Rattle.std.proofs.lemmas.List.FromFn.{length-map-range_with_len}
use Rattle.sha2.proofs.Facts256.{length-sha256}
use Rattle.swap_base.specs.Lists.{IsElement}
use Rattle.swap_base.specs.Text.{joined}
use Rattle.swap_base.proofs.Lists.{first_at, and_parts, in_from_moment}
use Rattle.swap_digraph.specs.declared.deal.Deal.{Deal}
use Rattle.swap_digraph.specs.declared.deal.Mode.{Mode}
use Rattle.swap_digraph.specs.declared.deal.Mode.TheVariants.{Timelocks, Hashkeys}
use Rattle.swap_digraph.specs.Graph.{leaving}
use Rattle.swap_digraph.specs.Deal.{leads, lock_hashlock, path_limit, version_path_limit}
use Rattle.swap_digraph.specs.declared.deal.Version.{Version}
use Rattle.swap_digraph.specs.declared.deal.Version.TheVariants.{One, Two}
use Rattle.hash_chains.specs.Chains.{chain_start, chain_value}
use Rattle.hash_signature.specs.Signature.{derive_secret, digit, for_chains, made_signature, signed_value}
use Rattle.hash_signature.proofs.Chains.{get_or-for_chains}
use Rattle.hash_signature.proofs.Values.{text_values-joined}
use Rattle.hashkey_path.specs.declared.hashkey.Hashkey.{Hashkey}
use Rattle.hashkey_path.specs.Hashkey.{signing_message, HasPath}
use Rattle.party_wallet.specs.Keys.{own_key, onto_key}
use Rattle.party_wallet.specs.Value.{signed_hashkey}
use Rattle.wallet_journal.specs.Layout.{IsWholeSig, HasWholeParts}
use Rattle.ledger_core.specs.declared.entry.Call.{Call}
use Rattle.ledger_core.specs.declared.entry.Call.TheVariants.{Publish, Unlock, Claim, Refund, Transfer}
use Rattle.ledger_core.specs.History.{opened, IsLegal}
use Rattle.ledger_core.specs.Book.{Histories, history, IsLegalBook}
use Rattle.ledger_core.proofs.History.{opened_done}
use Rattle.swap_rules.specs.Due.{Wallet, due_key, seen_key, extended}
use Rattle.swap_rules.specs.Machine.{KeepsKey}
use Rattle.swap_rules.specs.Party.{first_seen_key, key_without_party}
use Rattle.swap_rules.proofs.Cases.{Case, ToPublish, ToUnlock, ToClaim, ToRefund}
use Rattle.swap_rules.proofs.Due.{IsDue}
use Rattle.swap_rules.proofs.Growth.{Grows, opened-more}
use Rattle.swap_rules.proofs.Words.{key_without_parts, leaves}
use Rattle.party_machine.specs.Wallet.{seed_wallet}
use Rattle.party_machine.specs.Recording.{unsigned_key}
use Rattle.party_machine.proofs.Good.{valid_of_test}
use Rattle.party_machine.proofs.Whole.{fresh}
use Rattle.disk_laws.specs.Laws.{SignsWhole, TookWhole, SeedsSignWhole}

-- Seeds.

chain_length : (n : ℕ) (y : List ℕ) → length y ≡ 32 → length (chain_value n y) ≡ 32
unfolding chain_value
chain_length zero y e = e
chain_length (suc n) y e = length-sha256 (2 ∷ chain_value n y)

joined_length : (xss : List (List ℕ)) (n : ℕ) → length xss ≡ n → ((j : ℕ) → j < n → length (get_or xss j []) ≡ 32) → length (joined xss) ≡ 32 * n
joined_length [] n e each = omega (arith, e)
joined_length (xs ∷ xss) zero e each = absurd (omega (arith, e))
joined_length (xs ∷ xss) (suc n) e each =
    omega (arith, length-append xs (joined xss), each 0 (omega arith), joined_length xss n (omega (arith, e)) (λ j lt. each (suc j) (omega (arith, lt))))

chains_length : (f : ℕ → List ℕ) → length (for_chains f) ≡ 67
unfolding for_chains
chains_length f = length-map-range_with_len f 0 67

sig_whole : (seed : List ℕ) (party lock : ℕ) (message : List ℕ) → IsWholeSig (made_signature seed party lock message)
unfolding made_signature
sig_whole seed party lock message =
    let whole : 32 * 67 ≡ 2144 = omega arith in
    let long : length (for_chains (signed_value seed party lock message)) ≡ 67 = chains_length (signed_value seed party lock message) in
    record {
      bytes = joined_length (for_chains (signed_value seed party lock message)) 67 long each ∙ whole;
      values = text_values-joined (for_chains (signed_value seed party lock message)) long each;
    }
  where
    each : (j : ℕ) → j < 67 → length (get_or (for_chains (signed_value seed party lock message)) j []) ≡ 32
    each j lt =
        ap length (get_or-for_chains (signed_value seed party lock message) j [] lt)
        ∙ chain_length (digit message j) (chain_start seed party lock j) (length-sha256 _)

own_told : (m : Mode) (d : Deal) (v : ℕ) (seed : List ℕ) (i : ℕ) → HasWholeParts (own_key m d v seed i)
own_told Timelocks d v seed i = record { secret = length-sha256 (5 ∷ seed); sigs = All-nil IsWholeSig }
own_told Hashkeys d v seed i = record {
  secret = length-sha256 (5 ∷ seed);
  sigs = All-cons IsWholeSig (made_signature seed v i (signing_message d.id i (v ∷ []) (derive_secret seed) [])) []
      (sig_whole seed v i (signing_message d.id i (v ∷ []) (derive_secret seed) [])) (All-nil IsWholeSig);
}

onto_told : (m : Mode) (d : Deal) (v : ℕ) (seed : List ℕ) (inner : Hashkey) → HasWholeParts inner → HasWholeParts (onto_key m d v seed inner)
onto_told Timelocks d v seed inner told = record { secret = told.secret; sigs = All-nil IsWholeSig }
onto_told Hashkeys d v seed inner told = record {
  secret = told.secret;
  sigs = All-cons IsWholeSig (made_signature seed v inner.lock (signing_message d.id inner.lock (v ∷ inner.path) inner.secret inner.sigs)) inner.sigs
      (sig_whole seed v inner.lock (signing_message d.id inner.lock (v ∷ inner.path) inner.secret inner.sigs)) told.sigs;
}

seed_signs : (seed : List ℕ) (v : ℕ) (d : Deal) → SignsWhole (seed_wallet seed v d)
seed_signs seed v d = record { first = λ i. own_told d.mode d v seed i; onto = λ inner told. onto_told d.mode d v seed inner told }

pub seeds_sign_whole : SeedsSignWhole
seeds_sign_whole (Some seed) v d = seed_signs seed v d
seeds_sign_whole None v d = seed_signs [] v d

-- What is seen.

module _ (d : Deal) (v : ℕ) (w : Wallet) (b : Histories) (legal : IsLegalBook d b) (signs : SignsWhole w) (took : TookWhole b) (known : Histories)
    (grows : Grows known b) where
  seen_told : (i : ℕ) (inner : Hashkey) → first_seen_key d known v i ≡ Some inner → HasWholeParts inner
  seen_told i inner q =
      let x = first_at (λ a. key_without_party v (opened (history known a) i)) (leaving d.graph v) inner q in
      let c : IsElement x.now (leaving d.graph v) = subst (IsElement x.now) (sym x.stands.1) (in_from_moment x.past x.now x.stands.0) in
      let l = leaves d v x.now c in
      let p = key_without_parts v (opened (history known x.now) i) inner x.gives in
      let o : opened (history b x.now) i ≡ Some p.0 = opened-more (history known x.now) (history b x.now) i p.0 (grows x.now) p.1 in
      let on : IsLegal d x.now (history b x.now) = legal.legal x.now (rw legal.one_each l.0) in
      let u = opened_done d x.now (history b x.now) i p.0 on o in
      subst HasWholeParts p.2 (took x.now u.0.past u.0.now p.0.key u.0.stands u.0.took)

  due_told : (i : ℕ) (o : Option Hashkey) (key : Hashkey) → o ≡ None → due_key d v w o known i ≡ Some key → HasWholeParts key
  unfolding due_key seen_key
  due_told i (Some old) key none e = absurd (cc none)
  due_told i None key none e = go (leads d v i) (first_seen_key d known v i) refl e
    where
      go : (b : Bool) (o : Option Hashkey) → first_seen_key d known v i ≡ o → cond b (Some (w.first i)) (extended w o) ≡ Some key → HasWholeParts key
      go true o q e = subst HasWholeParts (same_Some (w.first i) key e) (signs.first i)
      go false None q e = absurd (cc e)
      go false (Some inner) q e = subst HasWholeParts (same_Some (w.onto inner) key e) (signs.onto inner (seen_told i inner q))

-- the hashkey of a call for whose lock none was signed
pub unsigned_parts : (signed : List (Option Hashkey)) (c : Call) (key : Hashkey) → unsigned_key signed c ≡ Some key
    → (c ≡ Unlock key) × (signed_hashkey signed key.lock ≡ None)
unsigned_parts signed (Unlock l) key e =
    let f = fresh (signed_hashkey signed l.lock) l key e in
    (ap (λ (k : Hashkey). Unlock k) f.1, ap (λ (k : Hashkey). signed_hashkey signed k.lock) (sym f.1) ∙ f.0)
unsigned_parts signed (Publish terms) key e = absurd (cc e)
unsigned_parts signed Claim key e = absurd (cc e)
unsigned_parts signed Refund key e = absurd (cc e)
unsigned_parts signed (Transfer to units) key e = absurd (cc e)

limit : (ver : Version) → version_path_limit ver ≤ 32
limit One = omega arith
limit Two = omega arith

paired_by : (m : Mode) (d : Deal) (a : ℕ) (key : Hashkey) → HasPath m d a key → length key.sigs ≡ length key.path
paired_by Timelocks d a key h = ap length h.1 ∙ sym (ap length h.0)
paired_by Hashkeys d a key h = h.1

fit_few : (p q r s : Bool) → (p && q && r && s) ≡ true → q ≡ true
fit_few p q r s e = (and_parts p q (and_parts (p && q) r (and_parts (p && q && r) s e).0).0).1

-- What a hashkey that is signed in an act has.
pub record IsFreshKey (d : Deal) (signed : List (Option Hashkey)) (key : Hashkey) : Type 0 where
  pub lock : key.lock < length d.leaders
  pub none : signed_hashkey signed key.lock ≡ None
  pub few : length key.path ≤ 32
  pub paired : length key.sigs ≡ length key.path
  pub told : HasWholeParts key

module _ (d : Deal) (v : ℕ) (w : Wallet) (b known : Histories) (signed : List (Option Hashkey)) (legal : IsLegalBook d b) (signs : SignsWhole w)
    (took : TookWhole b) (grows : Grows known b) (a : ℕ) (c : Call) (key : Hashkey) (unsigned : unsigned_key signed c ≡ Some key)
    (is : IsDue d v w (signed_hashkey signed) known known a c) (case : Case d v w (signed_hashkey signed) known a c) where
  call : c ≡ Unlock key
  call = (unsigned_parts signed c key unsigned).0

  was_none : signed_hashkey signed key.lock ≡ None
  was_none = (unsigned_parts signed c key unsigned).1

  unlock_is : IsDue d v w (signed_hashkey signed) known known a (Unlock key)
  unlock_is = subst (λ x. IsDue d v w (signed_hashkey signed) known known a x) call is

  keeps : KeepsKey d known v key.lock key
  keeps = unlock_is.keys key.lock key unlock_is.rule.2

  -- where something was signed for the lock, it isn't new
  signed_before : (i : ℕ) (old other : Hashkey) → signed_hashkey signed i ≡ Some old → key ≡ other → due_key d v w (Some old) known i ≡ Some other → ⊥
  unfolding due_key
  signed_before i old other q same e =
      let is_old : key ≡ old = same ∙ sym (same_Some old other e) in
      let at : old.lock ≡ i = (is.keys i old (is.keeps_signed i old q)).good.lock in
      cc (sym q ∙ ap (signed_hashkey signed) (sym (ap (λ (k : Hashkey). k.lock) is_old ∙ at)) ∙ was_none)

  parts_told : Case d v w (signed_hashkey signed) known a c → HasWholeParts key
  parts_told (ToPublish out e q) = absurd (cc (sym call ∙ q))
  parts_told (ToUnlock i other below en may e q) =
      let same : key ≡ other = same_unlock key other (sym call ∙ q) in
      go same (signed_hashkey signed i) refl e
    where
      same_unlock : (k l : Hashkey) → Unlock k ≡ Unlock l → k ≡ l
      same_unlock k l e = cc e

      go : key ≡ other → (o : Option Hashkey) → signed_hashkey signed i ≡ o → due_key d v w o known i ≡ Some other → HasWholeParts key
      go same (Some old) q e = absurd (signed_before i old other q same e)
      go same None q e = subst HasWholeParts (sym same) (due_told d v w b legal signs took known grows i None other refl e)
  parts_told (ToClaim en e q) = absurd (cc (sym call ∙ q))
  parts_told (ToRefund out e q) = absurd (cc (sym call ∙ q))

  short : length key.path ≤ 32
  short =
      let most : length key.path ≤ path_limit d =
      leb-true (length key.path) (path_limit d)
      (fit_few (nat_lt key.lock (length d.leaders)) (nat_le (length key.path) (path_limit d)) (nat_le (length key.sigs) (path_limit d))
      (list_all (λ u. nat_lt u d.graph.n) key.path) unlock_is.fits) in
      let most_32 : path_limit d ≤ 32 = limit d.version in
      omega (arith, most, most_32)

  pub is_fresh : IsFreshKey d signed key
  is_fresh = record {
    lock = keeps.below;
    none = was_none;
    few = short;
    paired = paired_by d.mode d a key (valid_of_test d a (lock_hashlock d key.lock) key (keeps.good.valid a unlock_is.rule.3)).path;
    told = parts_told case;
  }
